-- The search turn by turn, where k of n turns were taken.
use Rattle.std.proofs.Common.{◌≡◌, ℕ, zero, suc, ◌<◌, ◌+◌, ◌-◌, ◌∷◌, List, [], Bool, true, ap, arith, refl, ◌∙◌, sym}
use Rattle.std.specs.Prelude.{slice_set}
use Rattle.ir_model.specs.declared.module.Function.{Function}
use Rattle.pass_split.specs.Reached.{flagged_within, todo_after}

pub turn_taken : (k n : ℕ) (f : Function) (flags : List Bool) (label : ℕ) (todo : List ℕ) → k < n → flagged_within (n - k) f flags (label ∷ todo) ≡ flagged_within (n - (k + 1)) f (slice_set flags label true) (todo_after f flags label todo)
turn_taken k n f flags label todo lt =
    let e : n - k ≡ suc (n - (k + 1)) = omega (arith, lt) in
    ap (λ (m : ℕ). flagged_within m f flags (label ∷ todo)) e

over : (m : ℕ) (f : Function) (flags : List Bool) → flagged_within m f flags [] ≡ flags
over zero f flags = refl
over (suc m) f flags = refl

pub turns_over : (m : ℕ) (f : Function) (flags : List Bool) (todo : List ℕ) → todo ≡ [] → flagged_within m f flags todo ≡ flags
turns_over m f flags todo e = ap (λ (t : List ℕ). flagged_within m f flags t) e ∙ over m f flags

pub no_turns : (n : ℕ) (f : Function) (flags : List Bool) (todo : List ℕ) → flagged_within (n - n) f flags todo ≡ flags
no_turns n f flags todo =
    let e : n - n ≡ 0 = omega arith in
    ap (λ (m : ℕ). flagged_within m f flags todo) e
