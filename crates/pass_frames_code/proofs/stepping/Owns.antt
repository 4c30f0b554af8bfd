-- Where an instruction itself stands, in front of which its operands are fetched.
use Rattle.std.proofs.Common.{◌≡◌, ℕ, ◌+◌, Bool, true, false, List, ◌∷◌, ◌++◌, length, refl, sym, ap, ◌∙◌, subst, append-nil}
use Rattle.std.specs.Prelude.{Option, Some, slice_get, take, ◌==◌}
use Rattle.pass_proofs.proofs.ir_laws.facts.Truth.{equal_numbers}
use Rattle.pass_proofs.specs.ir_model.declared.instr.Instr.{Instr}
use Rattle.pass_frames_code.proofs.code.Instrs.{instr_code}
use Rattle.pass_frames_code.proofs.code.Left.{parts_left}
use Rattle.pass_frames_code.proofs.layers.Idle.{all_stay}
use Rattle.pass_frames_code.proofs.stepping.Alone.{alone_is, alone_no_alloca, front_no_alloca, none_before, placed_before}
use Rattle.pass_frames_code.proofs.stepping.Codes.{M, code_stands, stay_all, state_is}
use Rattle.pass_frames_code.specs.Code.{ArePartsLeft, loaded, stores}
use Rattle.pass_frames_code.specs.Framings.{IsFraming}
use Rattle.pass_frames_code.specs.Layers.{Layer, before_of, grown, only, own_place_in, passed, place_in, state_at}
use Rattle.pass_frames_code.specs.Operands.{IsLeftAlone, StandsAlone}
use Rattle.pass_frames_code.specs.Places.{Framing, Placed, entry_layer, instrs_at, is_return, own_place, own_place_by, place, place_by, placed_layer}
use Rattle.pass_frames_code.specs.Stepping.{IsUnlocated, placed_front, placed_instr, state_in}
use Rattle.pass_proofs.specs.pass_front.Front.{is_no_alloca}
use Rattle.pass_proofs.specs.run_laws.changed.Changed.{Each}

module _ {S : Type 0} (L : Layer S) (is : List Instr) (at : ℕ) (i : Instr) (front : List Instr)
    (there : slice_get is at ≡ Some i) (before : L.before (state_at L is at) i ≡ front) where
  pub own_in : own_place_in L is at ≡ place_in L is at + length front
  own_in =
      ap (λ (o : Option Instr). place_in L is at + length (before_of L (state_at L is at) o)) there
      ∙ ap (λ (xs : List Instr). place_in L is at + length xs) before

  module _ (none : Each (λ (j : Instr). is_no_alloca j ≡ true) front) where
    abbrev u : Unit {0}
    u = passed (only is_no_alloca) tt (grown L L.start (take at is))

    pub led_before : (M L is at).before (state_at (M L is at) is at) i ≡ front
    led_before =
        ap (λ (s : S × Unit {0}). (M L is at).before s i) (state_is L is at)
        ∙ (λ q. grown (only is_no_alloca) u (before q)
        ++ none_before is_no_alloca (L.here (state_at L is at) i) q)
        ∙ append-nil (grown (only is_no_alloca) u front)
        ∙ all_stay (only is_no_alloca) front (stay_all front none) u

-- ---- in the framed form

module _ (x : Framing) (k at : ℕ) (i : Instr) (front : List Instr) (there : slice_get (instrs_at x k) at ≡ Some i)
    (before : (placed_layer x k).before (state_in x k at) i ≡ front)
    (none : Each (λ (j : Instr). is_no_alloca j ≡ true) front) (unreturned : is_return x k ≡ false) where
  abbrev Owns : Bool → Bool → Type 0
  Owns returned entry =
      own_place_by x (record { block = k; at = at }) entry
      ≡ place_by x (record { block = k; at = at }) returned entry + length front

  first : k ≡ 0 → Owns false true
  first z =
      own_in (entry_layer x) (instrs_at x 0) at i front there_0
      (led_before (placed_layer x 0) (instrs_at x 0) at i front there_0 before_0 none)
    where
      there_0 : slice_get (instrs_at x 0) at ≡ Some i
      there_0 = subst (λ (n : ℕ). slice_get (instrs_at x n) at ≡ Some i) z there

      before_0 : (placed_layer x 0).before (state_in x 0 at) i ≡ front
      before_0 = subst (λ (n : ℕ). (placed_layer x n).before (state_in x n at) i ≡ front) z before

  by_entry : (e : Bool) → (k == 0) ≡ e → Owns false e
  by_entry true e = first (equal_numbers k 0 e)
  by_entry false e = own_in (placed_layer x k) (instrs_at x k) at i front there before

  pub own_is : (own_place x (record { block = k; at = at })).at
      ≡ (place x (record { block = k; at = at })).at + length front
  own_is = subst (λ (b : Bool). Owns b (k == 0)) (sym unreturned) (by_entry (k == 0) refl)

-- ---- an instruction around which nothing else is put

pub alone_stands : (x : Framing) → IsFraming x → (k at : ℕ) (i : Instr) → slice_get (instrs_at x k) at ≡ Some i
    → is_return x k ≡ false → IsLeftAlone x (loaded x (state_in x k at) i)
    → IsLeftAlone x (placed_instr x (state_in x k at) i) → IsUnlocated x (state_in x k at) i
    → Each (λ (j : Instr). is_no_alloca j ≡ true) (stores x (state_in x k at) i)
    → StandsAlone x k at (placed_front x (state_in x k at) i) (placed_instr x (state_in x k at) i)
    (stores x (state_in x k at) i)
alone_stands x is k at i there unreturned one_left last_left u none =
    let n : Placed = state_in x k at in
    let parts : ArePartsLeft x k n i = parts_left x is k at i there in
    let code = code_stands x k at i (placed_front x n i ++ (placed_instr x n i ∷ stores x n i)) there
    (instr_code x k n i parts ∙ alone_is x k n i one_left last_left u)
    (alone_no_alloca x k n i one_left last_left u none) unreturned in
    record {
      stand = code.0;
      own = own_is x k at i (placed_front x n i) there (placed_before x k n i one_left last_left u parts)
          (front_no_alloca x k n i one_left last_left u) unreturned;
      next = code.1;
    }
