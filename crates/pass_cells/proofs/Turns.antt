-- Climbing one turn further, where k of n turns were taken, and chains that lead no further.
use Rattle.std.proofs.Common.{◌≡◌, ℕ, zero, suc, ◌<◌, ◌+◌, ◌-◌, List, Bool, true, ap, arith, refl, ◌∙◌, sym, Option, Some}
use Rattle.std.specs.Prelude.{slice_set}
use Rattle.pass_cells.specs.Kept.{entry}
use Rattle.pass_cells.specs.Links.{climbed, jumped, roots_after, roots_of, unmarked}

-- ---- climbing

pub turn_taken : (bases slots : List (Option ℕ)) (k n : ℕ) (marks after : List Bool) (u : ℕ) (at next : Option ℕ) (all : List Bool) →
    k < n → at ≡ Some u → after ≡ slice_set marks u true → next ≡ unmarked slots after (entry bases u) →
    climbed bases slots (n - k) marks at ≡ all → climbed bases slots (n - (k + 1)) after next ≡ all
turn_taken bases slots k n marks after u at next all lt is ea en inv =
    let e : n - k ≡ suc (n - (k + 1)) = omega (arith, lt) in
    ap (climbed bases slots (n - (k + 1)) after) en
    ∙ ap (λ (m : List Bool). climbed bases slots (n - (k + 1)) m (unmarked slots m (entry bases u))) ea
    ∙ sym (ap (λ (t : ℕ). climbed bases slots t marks at) e ∙ ap (climbed bases slots (suc (n - (k + 1))) marks) is)
    ∙ inv

-- ---- chains

steady : (k : ℕ) (t : List (Option ℕ)) → jumped t ≡ t → roots_after k t ≡ t
unfolding roots_after
steady zero t e = refl
steady (suc k) t e = ap (roots_after k) e ∙ steady k t e

pub jumps_begun : (left : ℕ) (t bases : List (Option ℕ)) → left ≡ 64 → t ≡ bases → roots_after left t ≡ roots_of bases
unfolding roots_of
jumps_begun left t bases is e = ap (λ (k : ℕ). roots_after k t) is ∙ ap (roots_after 64) e

one_jump : (k : ℕ) (t : List (Option ℕ)) → roots_after (suc k) t ≡ roots_after k (jumped t)
unfolding roots_after
one_jump k t = refl

pub jump_taken : (left : ℕ) (t next all : List (Option ℕ)) → 0 < left → next ≡ jumped t → roots_after left t ≡ all → roots_after (left - 1) next ≡ all
jump_taken left t next all lt e inv =
    let is : left ≡ suc (left - 1) = omega (arith, lt) in
    ap (roots_after (left - 1)) e ∙ sym (ap (λ (k : ℕ). roots_after k t) is ∙ one_jump (left - 1) t) ∙ inv

pub jumps_steady : (left : ℕ) (t next all : List (Option ℕ)) → next ≡ jumped t → next ≡ t → roots_after left t ≡ all → t ≡ all
jumps_steady left t next all e same inv = sym (steady left t (sym e ∙ same)) ∙ inv

pub jumps_over : (left : ℕ) (t all : List (Option ℕ)) → left ≡ 0 → roots_after left t ≡ all → t ≡ all
unfolding roots_after
jumps_over left t all is inv = sym (ap (λ (k : ℕ). roots_after k t) is) ∙ inv
