-- Where that stands which is in the place of a call of a coro intrinsic, by what its line is.
use Rattle.std.proofs.Common.{◌≡◌, ◌+◌, ◌==◌, ◌∷◌, ◌++◌, ◌∙◌, [], if◌then◌else◌, Bool, List, Option, Some, ap, arith, false, length, map, refl, subst, suc, sym, true, ℕ}
use Rattle.std.specs.Prelude.{slice_get}
use Rattle.pass_frames_code.proofs.ir_laws.facts.Lists.{places}
use Rattle.pass_frames_code.proofs.ir_laws.facts.Truth.{equal_numbers}
use Rattle.pass_frames_code.specs.ir_model.declared.instr.Instr.{Instr}
use Rattle.pass_frames_code.specs.ir_model.declared.operand.Intrinsic.{Intrinsic}
use Rattle.pass_frames_code.specs.ir_paths.Windows.{is_call_of}
use Rattle.pass_frames_code.proofs.stepping.Codes.{led_becomes}
use Rattle.pass_frames_code.proofs.tests.Kept.{led_keeps, one_place, places_behind}
use Rattle.pass_frames_code.proofs.tests.Passes.{alloca_fails}
use Rattle.pass_frames_code.proofs.tests.Points.{placed_keeps}
use Rattle.pass_frames_code.specs.Layers.{Layer, becomes, before_of, own_place_in, place_in, state_at}
use Rattle.pass_frames_code.specs.Places.{Framing, entry_layer, instrs_at, is_return, own_place, own_place_by, place, place_by, placed_layer}
use Rattle.pass_frames_code.specs.Stepping.{state_in}
use Rattle.pass_frames_code.specs.Tests.{AllFail, KeepsTest, is_steady}
use Rattle.pass_frames_code.specs.pass_front.Front.{is_no_alloca}
use Rattle.pass_frames_code.specs.run_laws.changed.Changed.{Each}

-- ---- of any test that a pass keeps

module _ (test : Instr → Bool) {S : Type 0} (L : Layer S) (keeps : KeepsTest test L) where
  -- what passes stands behind what fails
  before_is : (s : S) (i j : Instr) (line rest : List Instr) → test i ≡ true → AllFail test line → test j ≡ true
      → becomes L s i ≡ line ++ (j ∷ rest) → length (L.before s i) ≡ length line
  before_is s i j line rest passes fails passes' e =
      let one : places test (becomes L s i) ≡ length (L.before s i) ∷ [] =
      one_place test L keeps s i ∙ ap (λ (b : Bool). if b then length (L.before s i) ∷ [] else []) passes in
      let two : places test (line ++ (j ∷ rest)) ≡ (length line + 0) ∷ map (λ k. length line + k) (map suc (places test
      rest)) =
      places_behind test line (j ∷ rest) fails
      ∙ ap (λ (b : Bool). map (λ k. length line + k) (if b then 0 ∷ map suc (places test rest)
      else map suc (places test rest))) passes' in
      let both : length (L.before s i) ∷ [] ≡ (length line + 0) ∷ map (λ k. length line + k) (map suc (places test
      rest)) = sym one ∙ ap (places test) e ∙ two in
      let same : length (L.before s i) ≡ length line + 0 = cc in
      omega (arith, same)

  pub own_at : (is : List Instr) (at : ℕ) (i j : Instr) (line rest : List Instr) → slice_get is at ≡ Some i
      → test i ≡ true → AllFail test line → test j ≡ true → becomes L (state_at L is at) i ≡ line ++ (j ∷ rest)
      → own_place_in L is at ≡ place_in L is at + length line
  own_at is at i j line rest there passes fails passes' e =
      ap (λ (o : Option Instr). place_in L is at + length (before_of L (state_at L is at) o)) there
      ∙ ap (λ (n : ℕ). place_in L is at + n)
      (before_is (state_at L is at) i j line rest passes fails passes' e)

-- ---- in the framed form

module _ (x : Framing) (intrinsic : Intrinsic) (steady : is_steady intrinsic ≡ true) (k at : ℕ) (i j : Instr)
    (line rest : List Instr) (there : slice_get (instrs_at x k) at ≡ Some i)
    (passes : is_call_of intrinsic i ≡ true) (passes' : is_call_of intrinsic j ≡ true)
    (fails : AllFail (is_call_of intrinsic) line)
    (code_is : becomes (placed_layer x k) (state_in x k at) i ≡ line ++ (j ∷ rest))
    (none : Each (λ (y : Instr). is_no_alloca y ≡ true) (line ++ (j ∷ rest)))
    (unreturned : is_return x k ≡ false) where
  abbrev Own : Bool → ℕ
  Own entry = own_place_by x (record { block = k; at = at }) entry

  abbrev At : Bool → ℕ
  At entry = place_by x (record { block = k; at = at }) false entry

  by_entry : (e : Bool) → (k == 0) ≡ e → Own e ≡ At e + length line
  by_entry false e =
      own_at (is_call_of intrinsic) (placed_layer x k) (placed_keeps x intrinsic steady k) (instrs_at x k) at i j line
      rest there passes fails passes' code_is
  by_entry true e =
      own_at (is_call_of intrinsic) (entry_layer x)
      (led_keeps (is_call_of intrinsic) (alloca_fails intrinsic steady) (placed_layer x 0) (instrs_at x 0)
      (placed_keeps x intrinsic steady 0)) (instrs_at x 0) at i j line rest there_0 passes fails passes'
      (led_becomes (placed_layer x 0) (instrs_at x 0) at i (line ++ (j ∷ rest)) code_0 none)
    where
      zero : k ≡ 0
      zero = equal_numbers k 0 e

      there_0 : slice_get (instrs_at x 0) at ≡ Some i
      there_0 = subst (λ (n : ℕ). slice_get (instrs_at x n) at ≡ Some i) zero there

      code_0 : becomes (placed_layer x 0) (state_in x 0 at) i ≡ line ++ (j ∷ rest)
      code_0 = subst (λ (n : ℕ). becomes (placed_layer x n) (state_in x n at) i ≡ line ++ (j ∷ rest)) zero code_is

  pub own_is : (own_place x (record { block = k; at = at })).at ≡ (place x (record { block = k; at = at })).at
      + length line
  own_is =
      by_entry (k == 0) refl
      ∙ ap (λ (b : Bool). place_by x (record { block = k; at = at }) b (k == 0) + length line) (sym unreturned)
