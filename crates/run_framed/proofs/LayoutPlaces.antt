-- The layouts of functions, by the functions' positions.
use Rattle.std.proofs.Common.{◌≡◌, ℕ, ◌+◌, ◌-◌, ◌<◌, ◌≤◌, Bool, true, false, List, drop, length, get_or, refl, ap, sym, ◌∙◌, arith, Option, Some, None, inl, inr}
use Rattle.std.specs.Prelude.{find, option_and_then, replicate, slice_get, slice_set, if◌then◌else◌, ◌==◌}
use Rattle.std.proofs.lemmas.Bool.{eq-eqb, eqb-true, false≢true}
use Rattle.std.proofs.lemmas.Option.{slice_get-get_or}
use Rattle.frame_layout.specs.declared.layout.Layout.{Layout}
use Rattle.run_step.proofs.LabelPositions.{slice_get-replicate, slice_get-set}
use Rattle.run_step.proofs.Lists.{drop-end, drop-next}

abbrev pub HasPlaces : List Layout → ℕ → List (Option ℕ) → Type 0
HasPlaces layouts at table = (func : ℕ) (o : Option ℕ) → slice_get table func ≡ Some o → find (λ l. l.coroutine == func) (drop at layouts) ≡ option_and_then (slice_get layouts) o

pub places-first : (layouts : List Layout) (n : ℕ) (table : List (Option ℕ)) → table ≡ replicate n None → HasPlaces layouts (length layouts) table
places-first layouts n table e func o get =
    let none : o ≡ None = slice_get-replicate n func None o (ap (λ (l : List (Option ℕ)). slice_get l func) (sym e) ∙ get) in
    ap (λ (l : List Layout). find (λ x. x.coroutine == func) l) (drop-end layouts (length layouts) refl)
    ∙ ap (option_and_then (slice_get layouts)) (sym none)

found-here : (v : Bool) (x : Layout) (o rest : Option Layout) → v ≡ true → o ≡ Some x → (if v then Some x else rest) ≡ o
found-here true x o rest e is = sym is
found-here false x o rest e is = absurd (false≢true e)

found-there : (v : Bool) (c func : ℕ) (x : Layout) (rest : Option Layout) → (c == func) ≡ v → (func ≡ c → ⊥) → (if v then Some x else rest) ≡ rest
found-there true c func x rest e h = absurd (h (sym (eqb-true c func e)))
found-there false c func x rest e h = refl

pub places-step : (layouts : List Layout) (at : ℕ) (table next : List (Option ℕ)) (x : Layout) → 0 < at → at ≤ length layouts → x ≡ get_or layouts (at - 1) x → next ≡ slice_set table x.coroutine (Some (at - 1)) → HasPlaces layouts at table → HasPlaces layouts (at - 1) next
places-step layouts at table next x lt le e is h func o get =
    let one : at - 1 + 1 ≡ at = omega arith in
    let below : at - 1 < length layouts = omega arith in
    let rest : Option Layout = find (λ l. l.coroutine == func) (drop at layouts) in
    let split : find (λ l. l.coroutine == func) (drop (at - 1) layouts) ≡ (if x.coroutine == func then Some x else rest) =
    ap (λ (l : List Layout). find (λ y. y.coroutine == func) l) (drop-next layouts (at - 1) x below e)
    ∙ ap (λ n. if x.coroutine == func then Some x else find (λ l. l.coroutine == func) (drop n layouts)) one in
    let here : slice_get layouts (at - 1) ≡ Some x = slice_get-get_or layouts (at - 1) x below ∙ ap Some (sym e) in
    elim (slice_get-set table x.coroutine func (Some (at - 1)) o (ap (λ (l : List (Option ℕ)). slice_get l func) (sym is) ∙ get)) [
      | inl p ↦ split ∙ found-here (x.coroutine == func) x (option_and_then (slice_get layouts) o) rest (eq-eqb x.coroutine func (sym p.0)) (ap (option_and_then (slice_get layouts)) p.1 ∙ here)
      | inr q ↦ split ∙ found-there (x.coroutine == func) x.coroutine func x rest refl q.1 ∙ h func o q.0
    ]
