-- What an instruction becomes stands in the framed form at its place, and behind it the next one's.
use Rattle.std.proofs.Common.{◌≡◌, ℕ, ◌+◌, Bool, true, false, List, [], ◌∷◌, length, refl, sym, ap, ◌∙◌, subst}
use Rattle.std.specs.Prelude.{None, Option, Some, filter, slice_get, take, unwrap_or, ◌==◌, ◌≢◌}
use Rattle.pass_proofs.proofs.ir_laws.facts.Truth.{equal_numbers}
use Rattle.pass_proofs.specs.ir_model.declared.instr.Instr.{Instr}
use Rattle.pass_proofs.specs.ir_model.declared.module.Block.{Block}
use Rattle.pass_proofs.specs.ir_model.declared.module.Function.{Function}
use Rattle.pass_frames_code.proofs.code.Framed.{entry_made, others_made}
use Rattle.pass_frames_code.proofs.code.Idle.{only_idle}
use Rattle.pass_frames_code.proofs.layers.Grown.{both_becomes, both_passed}
use Rattle.pass_frames_code.proofs.layers.Idle.{all_stay}
use Rattle.pass_frames_code.proofs.layers.Standing.{one_stands, place_next}
use Rattle.pass_frames_code.specs.Layers.{IsIdle, IsMadeBy, Layer, becomes, both, grown, led_by, only, passed, place_in, state_at, woven}
use Rattle.pass_frames_code.specs.Passes.{IsBlockMade, allocas_led, block_at, no_block}
use Rattle.pass_frames_code.specs.Places.{Framing, edged, entry_layer, framed, instrs_at, is_return, place_by, placed_layer}
use Rattle.pass_frames_code.specs.Stepping.{StandsInPlace, state_in}
use Rattle.pass_proofs.specs.pass_front.Front.{is_alloca, is_no_alloca}
use Rattle.pass_proofs.specs.run_laws.access.Lines.{StandAt}
use Rattle.pass_proofs.specs.run_laws.changed.Changed.{Each}
use Rattle.pass_proofs.specs.run_step.Step.{AtInstr, fetch, fetch_in, fetch_or}

-- ---- the block

pub block_there : (f : Function) (k at : ℕ) (i : Instr) → slice_get (block_at f k).instrs at ≡ Some i
    → slice_get f.blocks k ≡ Some (block_at f k)
block_there f k at i e = on (slice_get f.blocks k) refl e
  where
    on : (o : Option Block) → slice_get f.blocks k ≡ o → slice_get (unwrap_or o no_block).instrs at ≡ Some i
        → slice_get f.blocks k ≡ Some (block_at f k)
    on None d h = absurd (cc)
    on (Some b) d h = d ∙ ap Some (sym (ap (λ (o : Option Block). unwrap_or o no_block) d))

pub instr_there : (f : Function) (k at : ℕ) (i : Instr) → slice_get (block_at f k).instrs at ≡ Some i
    → fetch f k at ≡ AtInstr i
instr_there f k at i e =
    ap (λ (o : Option Block). fetch_in o at) (block_there f k at i e)
    ∙ ap (λ (o : Option Instr). fetch_or o (at == length (block_at f k).instrs) (block_at f k).term) e

-- ---- the entry's layer

module _ {S : Type 0} (fs : List Instr) (L : Layer S) where
  pub led_passed : (s : S) (is : List Instr) → passed (led_by fs L) s is ≡ passed L s is
  led_passed s [] = refl
  led_passed s (i ∷ is) = led_passed (L.after s i) is

pub stay_all : (is : List Instr) → Each (λ (j : Instr). is_no_alloca j ≡ true) is
    → Each (IsIdle (only is_no_alloca)) is
stay_all [] h = tt
stay_all (i ∷ is) h = (only_idle is_no_alloca i h.0, stay_all is h.1)

module _ {S : Type 0} (L : Layer S) (is : List Instr) (at : ℕ) where
  abbrev pub M : Layer (S × Unit {0})
  M = allocas_led L is

  pub state_is : state_at M is at ≡ (state_at L is at, passed (only is_no_alloca) tt (grown L L.start (take at is)))
  state_is =
      led_passed (filter is_alloca (woven L is)) (both L (only is_no_alloca)) M.start (take at is)
      ∙ both_passed L (only is_no_alloca) L.start M.start.1 (take at is)

module _ {S : Type 0} (L : Layer S) (is : List Instr) (at : ℕ) (i : Instr) (code : List Instr)
    (code_is : becomes L (state_at L is at) i ≡ code) (none : Each (λ (j : Instr). is_no_alloca j ≡ true) code) where
  pub led_becomes : becomes (M L is at) (state_at (M L is at) is at) i ≡ code
  led_becomes =
      ap (λ (s : S × Unit {0}). becomes (M L is at) s i) (state_is L is at)
      ∙ both_becomes L (only is_no_alloca) (state_at L is at)
      (passed (only is_no_alloca) tt (grown L L.start (take at is))) i
      ∙ ap (grown (only is_no_alloca) (passed (only is_no_alloca) tt (grown L L.start (take at is)))) code_is
      ∙ all_stay (only is_no_alloca) code (stay_all code none)
      (passed (only is_no_alloca) tt (grown L L.start (take at is)))

-- ---- a block that a layer makes

module _ {S : Type 0} (L : Layer S) (f g : Function) (k at : ℕ) (i : Instr) (code : List Instr)
    (made : IsBlockMade L f g k) (there : slice_get (block_at f k).instrs at ≡ Some i)
    (code_is : becomes L (state_at L (block_at f k).instrs at) i ≡ code) where
  abbrev is : List Instr
  is = (block_at f k).instrs

  got : (c : Block) × (slice_get g.blocks k ≡ Some c) × IsMadeBy L (block_at f k) c
  got = made (block_at f k) (block_there f k at i there)

  pub made_stands : StandAt g k (place_in L is at) code
  made_stands = subst (StandAt g k (place_in L is at)) code_is
      (one_stands L g k at (block_at f k) got.0 i got.2 got.1 there)

  pub made_next : place_in L is (at + 1) ≡ place_in L is at + length code
  made_next = place_next L is at i there ∙ ap (λ (xs : List Instr). place_in L is at + length xs) code_is

-- ---- in the framed form

module _ (x : Framing) (k at : ℕ) (i : Instr) (code : List Instr) (there : slice_get (instrs_at x k) at ≡ Some i)
    (code_is : becomes (placed_layer x k) (state_in x k at) i ≡ code)
    (none : Each (λ (j : Instr). is_no_alloca j ≡ true) code) (unreturned : is_return x k ≡ false) where
  abbrev Stands : ℕ → ℕ → Type 0
  Stands here next = StandAt (framed x) k here code × (next ≡ here + length code)

  abbrev At : Bool → ℕ → ℕ
  At entry at = place_by x (record { block = k; at = at }) false entry

  first : k ≡ 0 → Stands (At true at) (At true (at + 1))
  first z = (
    subst (λ (n : ℕ). StandAt (framed x) n (At true at) code) (sym z)
        (made_stands (entry_layer x) (edged x) (framed x) 0 at i code (entry_made x) there_0 led_is),
    made_next (entry_layer x) (edged x) (framed x) 0 at i code (entry_made x) there_0 led_is,
  )
    where
      there_0 : slice_get (instrs_at x 0) at ≡ Some i
      there_0 = subst (λ (n : ℕ). slice_get (instrs_at x n) at ≡ Some i) z there

      code_0 : becomes (placed_layer x 0) (state_in x 0 at) i ≡ code
      code_0 = subst (λ (n : ℕ). becomes (placed_layer x n) (state_in x n at) i ≡ code) z code_is

      led_is : becomes (entry_layer x) (state_at (entry_layer x) (instrs_at x 0) at) i ≡ code
      led_is = led_becomes (placed_layer x 0) (instrs_at x 0) at i code code_0 none

  later : k ≢ 0 → Stands (At false at) (At false (at + 1))
  later n = (
    made_stands (placed_layer x k) (edged x) (framed x) k at i code (others_made x k n) there code_is,
    made_next (placed_layer x k) (edged x) (framed x) k at i code (others_made x k n) there code_is,
  )

  by_entry : (e : Bool) → (k == 0) ≡ e → Stands (At e at) (At e (at + 1))
  by_entry true e = first (equal_numbers k 0 e)
  by_entry false e = later (λ z. let no : true ≡ false = sym (same z) ∙ e in absurd (cc))
    where
      same : k ≡ 0 → (k == 0) ≡ true
      same z = ap (λ (n : ℕ). n == 0) z

  pub code_stands : StandsInPlace x k at code
  code_stands =
      subst
      (λ (b : Bool). Stands (place_by x (record { block = k; at = at }) b (k == 0))
      (place_by x (record { block = k; at = at + 1 }) b (k == 0))) (sym unreturned) (by_entry (k == 0) refl)
