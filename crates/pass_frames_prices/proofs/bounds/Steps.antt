-- How far it is from the place of an instruction to that of the next one, to itself, and from behind it.
use Rattle.std.proofs.Common.{◌≡◌, ℕ, zero, suc, ◌+◌, ◌-◌, ◌≤◌, Bool, true, false, List, [], ◌∷◌, ◌++◌, length, refl, ap, ◌∙◌, subst, arith}
use Rattle.std.proofs.lemmas.List.{length-append}
use Rattle.std.specs.Prelude.{None, Option, Some, option_to_list, slice_get, take, ◌==◌}
use Rattle.pass_frames_proof.proofs.ir_laws.facts.Truth.{equal_numbers}
use Rattle.pass_frames_proof.specs.ir_model.declared.instr.Instr.{Instr}
use Rattle.pass_frames_proof.specs.ir_parts.Contents.{instr_operands}
use Rattle.pass_frames_proof.specs.ir_paths.declared.point.Point.{Point}
use Rattle.pass_frames_proof.specs.pass_cells.Written.{row_at}
use Rattle.pass_frames_prices.proofs.bounds.Behind.{behind_short}
use Rattle.pass_frames_prices.proofs.bounds.Codes.{codes_short}
use Rattle.pass_frames_prices.proofs.bounds.Lengths.{only_short}
use Rattle.pass_frames_proof.proofs.code.Instrs.{instr_code}
use Rattle.pass_frames_proof.proofs.code.Left.{names_far, parts_left}
use Rattle.pass_frames_proof.proofs.layers.Grown.{both_becomes}
use Rattle.pass_frames_proof.proofs.layers.Standing.{place_next}
use Rattle.pass_frames_proof.proofs.stepping.Codes.{state_is}
use Rattle.pass_frames_prices.specs.Bounds.{behind_of, more_of}
use Rattle.pass_frames_proof.specs.Costs.{instr_cost}
use Rattle.pass_frames_proof.specs.Framings.{IsFraming}
use Rattle.pass_frames_proof.specs.Layers.{Layer, becomes, before_of, behind_of as behind_in, grown, only, own_place_in, place_in, state_at}
use Rattle.pass_frames_proof.specs.Meaning.{behind_at, own_cost}
use Rattle.pass_frames_proof.specs.Passes.{allocas_led}
use Rattle.pass_frames_proof.specs.Places.{Framing, entry_layer, instrs_at, is_return, own_place_by, place_by, placed_layer, plan}
use Rattle.pass_frames_proof.specs.pass_front.Front.{is_no_alloca}

take_none : (xs : List Instr) (at : ℕ) → slice_get xs at ≡ None → take (at + 1) xs ≡ take at xs
take_none xs at e = let next : at + 1 ≡ suc at = omega arith in ap (λ (n : ℕ). take n xs) next ∙ on xs at e
  where
    on : (ys : List Instr) (j : ℕ) → slice_get ys j ≡ None → take (suc j) ys ≡ take j ys
    on [] zero d = refl
    on [] (suc j) d = refl
    on (y ∷ ys) zero d = absurd (cc)
    on (y ∷ ys) (suc j) d = ap (λ (zs : List Instr). y ∷ zs) (on ys j d)

here_one : (o : Option Instr) → length (option_to_list o) ≤ 1
here_one None = omega arith
here_one (Some i) = omega arith

-- ---- a layer

module _ {S : Type 0} (L : Layer S) (is : List Instr) (at : ℕ) where
  abbrev s : S
  s = state_at L is at

  pub none_next : slice_get is at ≡ None → place_in L is (at + 1) ≡ place_in L is at
  none_next e = ap (λ (js : List Instr). length (L.front ++ grown L L.start js)) (take_none is at e)

  pub none_own : slice_get is at ≡ None → own_place_in L is at ≡ place_in L is at
  none_own e =
      let a : length (before_of L s (slice_get is at)) ≡ 0 = ap (λ (o : Option Instr). length (before_of L s o)) e in
      omega (arith, a)

  module _ (i : Instr) (e : slice_get is at ≡ Some i) where
    parts : length (becomes L s i)
        ≡ length (L.before s i) + (length (option_to_list (L.here s i)) + length (L.behind s i))
    parts =
        let a = length-append (L.before s i) (option_to_list (L.here s i) ++ L.behind s i) in
        let b = length-append (option_to_list (L.here s i)) (L.behind s i) in
        omega (arith, a, b)

    own_is : own_place_in L is at ≡ place_in L is at + length (L.before s i)
    own_is = ap (λ (o : Option Instr). place_in L is at + length (before_of L s o)) e

    pub own_short : (n : ℕ) → length (becomes L s i) ≤ n → own_place_in L is at ≤ place_in L is at + n
    own_short n few = let a = parts in let b = own_is in omega (arith, a, b, few)

    pub next_short : (n : ℕ) → length (becomes L s i) ≤ n → place_in L is (at + 1) ≤ place_in L is at + n
    next_short n few = let a = place_next L is at i e in omega (arith, a, few)

    pub behind_few : (n : ℕ) → length (L.behind s i) ≤ n → place_in L is (at + 1) ≤ own_place_in L is at + 1 + n
    behind_few n few =
        let a = parts in
        let b = own_is in
        let c = place_next L is at i e in
        let d = here_one (L.here s i) in
        omega (arith, a, b, c, d, few)

-- ---- the entry's layer

module _ {S : Type 0} (L : Layer S) (is : List Instr) (at : ℕ) (i : Instr) where
  abbrev M : Layer (S × Unit {0})
  M = allocas_led L is

  abbrev u : Unit {0}
  u = (state_at M is at).1

  led_short : length (becomes M (state_at M is at) i) ≤ length (becomes L (state_at L is at) i)
  led_short =
      let state = state_is L is at in
      let a : length (becomes M (state_at M is at) i)
      ≡ length (grown (only is_no_alloca) u (becomes L (state_at M is at).0 i)) =
      ap length (both_becomes L (only is_no_alloca) (state_at M is at).0 u i) in
      let b = only_short is_no_alloca u (becomes L (state_at M is at).0 i) in
      let c : length (becomes L (state_at M is at).0 i) ≡ length (becomes L (state_at L is at) i) =
      ap (λ (s : S × Unit {0}). length (becomes L s.0 i)) state in
      omega (arith, a, b, c)

  led_behind : (o : Option Instr) (t : Unit {0}) (v : S × Unit {0})
      → length (behind_in (only is_no_alloca) t o ++ grown (only is_no_alloca) tt (L.behind v.0 i))
      ≤ length (L.behind v.0 i)
  led_behind None t v = only_short is_no_alloca tt (L.behind v.0 i)
  led_behind (Some j) t v = only_short is_no_alloca tt (L.behind v.0 i)

  led_follows : length (M.behind (state_at M is at) i) ≤ length (L.behind (state_at L is at) i)
  led_follows =
      let v : S × Unit {0} = state_at M is at in
      let a = led_behind (L.here v.0 i) tt v in
      let c : length (L.behind v.0 i) ≡ length (L.behind (state_at L is at) i) =
      ap (λ (s : S × Unit {0}). length (L.behind s.0 i)) (state_is L is at) in
      omega (arith, a, c)

-- ---- in a coroutine

module _ (x : Framing) (is : IsFraming x)
    (rows : (o : Option ℕ) → length (row_at (plan x).rows o) ≤ length (plan x).kept)
  where
    module _ (k at : ℕ) (i : Instr) (e : slice_get (instrs_at x k) at ≡ Some i) where
      abbrev few : ℕ
      few = 2 + length (instr_operands i) + more_of x i

      placed_few : length (becomes (placed_layer x k) (state_at (placed_layer x k) (instrs_at x k) at) i) ≤ few
      placed_few =
          let a = ap length (instr_code x k (state_at (placed_layer x k) (instrs_at x k) at) i
          (parts_left x is k at i e)) in
          let b = codes_short x is rows k at i e in
          omega (arith, a, b)

      placed_behind : length ((placed_layer x k).behind (state_at (placed_layer x k) (instrs_at x k) at) i)
          ≤ 1 + behind_of x i
      placed_behind =
          let far = names_far x is k at in
          behind_short x k (state_at (placed_layer x k) (instrs_at x k) at) i (parts_left x is k at i e) is
          rows far.0 far.1

    module _ (at : ℕ) (i : Instr) (e : slice_get (instrs_at x 0) at ≡ Some i) where
      entry_few : length (becomes (entry_layer x) (state_at (entry_layer x) (instrs_at x 0) at) i) ≤ few 0 at i e
      entry_few =
          let a = led_short (placed_layer x 0) (instrs_at x 0) at i in
          let b = placed_few 0 at i e in
          omega (arith, a, b)

      entry_behind : length ((entry_layer x).behind (state_at (entry_layer x) (instrs_at x 0) at) i) ≤ 1 + behind_of x i
      entry_behind =
          let a = led_follows (placed_layer x 0) (instrs_at x 0) at i in
          let b = placed_behind 0 at i e in
          omega (arith, a, b)

    -- by whether a resume or destroy edge leads to the block, and whether it is the entry
    module _ (k at : ℕ) (i : Instr) (e : slice_get (instrs_at x k) at ≡ Some i) where
      abbrev n : ℕ
      n = 2 + length (instr_operands i) + more_of x i

      abbrev p : Point
      p = record { block = k; at = at }

      abbrev q : Point
      q = record { block = k; at = at + 1 }

      at_entry : (k == 0) ≡ true → slice_get (instrs_at x 0) at ≡ Some i
      at_entry z = subst (λ (j : ℕ). slice_get (instrs_at x j) at ≡ Some i) (equal_numbers k 0 z) e

      next_by : (r z : Bool) → (k == 0) ≡ z → place_by x q r z ≤ place_by x p r z + n
      next_by true z d = omega arith
      next_by false true d =
          next_short (entry_layer x) (instrs_at x 0) at i (at_entry d) n (entry_few at i (at_entry d))
      next_by false false d = next_short (placed_layer x k) (instrs_at x k) at i e n (placed_few k at i e)

      pub cost_short : instr_cost x p ≤ n
      cost_short = let a = next_by (is_return x k) (k == 0) refl in omega (arith, a)

      own_by : (z : Bool) → (k == 0) ≡ z → own_place_by x p z ≤ place_by x p false z + n
      own_by true d = own_short (entry_layer x) (instrs_at x 0) at i (at_entry d) n (entry_few at i (at_entry d))
      own_by false d = own_short (placed_layer x k) (instrs_at x k) at i e n (placed_few k at i e)

      pub own_few : is_return x k ≡ false → own_cost x p ≤ 3 + length (instr_operands i) + more_of x i
      own_few r =
          let a = own_by (k == 0) refl in
          let b : place_by x p (is_return x k) (k == 0) ≡ place_by x p false (k == 0) =
          ap (λ (c : Bool). place_by x p c (k == 0)) r in
          omega (arith, a, b)

      follows_by : (r z : Bool) → (k == 0) ≡ z → place_by x q r z ≤ own_place_by x p z + 1 + (1 + behind_of x i)
      follows_by true z d = omega arith
      follows_by false true d =
          behind_few (entry_layer x) (instrs_at x 0) at i (at_entry d) (1 + behind_of x i)
          (entry_behind at i (at_entry d))
      follows_by false false d =
          behind_few (placed_layer x k) (instrs_at x k) at i e (1 + behind_of x i) (placed_behind k at i e)

      pub behind_cost_short : behind_at x k (at + 1) ≤ 1 + behind_of x i
      behind_cost_short =
          let a = follows_by (is_return x k) (k == 0) refl in
          let same : at + 1 - 1 ≡ at = omega arith in
          let b : own_place_by x (record { block = k; at = at + 1 - 1 }) (k == 0) ≡ own_place_by x p (k == 0) =
          ap (λ (j : ℕ). own_place_by x (record { block = k; at = j }) (k == 0)) same in
          omega (arith, a, b)
