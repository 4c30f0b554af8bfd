-- An alloca of a coroutine is put in front: nothing stands at its place.
use Rattle.std.proofs.Common.{◌≡◌, ◌+◌, ◌∷◌, ◌++◌, ◌∙◌, [], if◌then◌else◌, Bool, List, None, Some, ap, arith, false, length, refl, subst, sym, take, true, ℕ}
use Rattle.std.specs.Prelude.{filter, option_to_list, slice_get}
use Rattle.pass_frames_code.specs.ir_model.Ty.{Ty}
use Rattle.pass_frames_code.specs.ir_model.declared.instr.Instr.{Instr}
use Rattle.pass_frames_code.specs.pass_addresses.Placing.{lies_outside}
use Rattle.pass_frames_code.specs.pass_cells.Kept.{entry}
use Rattle.pass_frames_code.proofs.layers.Grown.{both_becomes, both_passed, grown_one}
use Rattle.pass_frames_code.proofs.layers.Standing.{place_next}
use Rattle.pass_frames_steps.proofs.marking.Codes.{calm_becomes, unmarked_same}
use Rattle.pass_frames_code.proofs.stepping.Codes.{led_passed}
use Rattle.pass_frames_code.specs.Code.{address_state, addressed, slot_table}
use Rattle.pass_frames_code.specs.Framings.{IsFraming}
use Rattle.pass_frames_code.specs.Layers.{Layer, becomes, both, grown, only, passed, place_in, state_at, woven}
use Rattle.pass_frames_code.specs.Passes.{IsUnwritten, allocas_led, fetching_at}
use Rattle.pass_frames_code.specs.Places.{Framing, addressing_layer, entry_layer, instrs_at, is_return, offsets, place, placed_layer, plan, unmarked, place_by}
use Rattle.pass_frames_code.specs.Stepping.{state_in}
use Rattle.pass_frames_code.specs.pass_front.Front.{is_alloca, is_no_alloca}

module _ {S : Type 0} (L : Layer S) (is : List Instr) (at : ℕ) (i : Instr) (code : List Instr)
    (code_is : becomes L (state_at L is at) i ≡ code) where
  abbrev M : Layer (S × Unit {0})
  M = allocas_led L is

  abbrev rest : Unit {0}
  rest = passed (only is_no_alloca) tt (grown L L.start (take at is))

  state_is : state_at M is at ≡ (state_at L is at, rest)
  state_is =
      led_passed (filter is_alloca (woven L is)) (both L (only is_no_alloca)) M.start (take at is)
      ∙ both_passed L (only is_no_alloca) L.start M.start.1 (take at is)

  -- of what it becomes allocas go
  pub led_only : becomes M (state_at M is at) i ≡ grown (only is_no_alloca) rest code
  led_only =
      ap (λ (s : S × Unit {0}). becomes M s i) state_is
      ∙ both_becomes L (only is_no_alloca) (state_at L is at) rest i
      ∙ ap (grown (only is_no_alloca) rest) code_is

module _ (x : Framing) (is : IsFraming x) (at name align : ℕ) (ty : Ty)
    (there : slice_get (instrs_at x 0) at ≡ Some (Instr.Alloca name ty align))
    (unkept : entry (plan x).places name ≡ None) where
  abbrev i : Instr
  i = Instr.Alloca name ty align

  abbrev n : ℕ × Unit {0}
  n = address_state (state_in x 0 at)

  -- it alone, or nothing
  abbrev pub left : Bool → List Instr
  left c = (option_to_list (if c then Some i else None) ++ []) ++ []

  unwritten : IsUnwritten (plan x) i
  unwritten = record {
    row = refl;
    result = λ v e. let same : name ≡ v = cc in subst (λ (k : ℕ). entry (plan x).places k ≡ None) same unkept;
    distance = tt;
  }

  addressed_is : addressed x 0 n (i ∷ []) ≡ left (lies_outside (offsets x) i)
  addressed_is =
      grown_one (addressing_layer x 0) n i
      ∙ both_becomes (fetching_at (unmarked x) (slot_table x) 0) (only (lies_outside (offsets x))) n.0 n.1 i

  pub code_is : becomes (placed_layer x 0) (state_in x 0 at) i ≡ left (lies_outside (offsets x) i)
  code_is =
      calm_becomes x is 0 at i there tt unwritten refl refl
      ∙ ap (addressed x 0 n) (unmarked_same x i refl refl)
      ∙ addressed_is

  none_left : (u : Unit {0}) (c : Bool) → grown (only is_no_alloca) u (left c) ≡ []
  none_left u true = refl
  none_left u false = refl

  nothing : becomes (entry_layer x) (state_at (entry_layer x) (instrs_at x 0) at) i ≡ []
  nothing =
      led_only (placed_layer x 0) (instrs_at x 0) at i (left (lies_outside (offsets x) i)) code_is
      ∙ none_left (rest (placed_layer x 0) (instrs_at x 0) at i (left (lies_outside (offsets x) i)) code_is)
      (lies_outside (offsets x) i)

  pub alloca_stays : is_return x 0 ≡ false
      → (place x (record { block = 0; at = at + 1 })).at ≡ (place x (record { block = 0; at = at })).at
  alloca_stays unreturned =
      subst
      (λ (c : Bool). place_by x (record { block = 0; at = at + 1 }) c true ≡ place_by x (record {
        block = 0;
        at = at;
      }) c true) (sym unreturned)
      (place_next (entry_layer x) (instrs_at x 0) at i there
      ∙ ap (λ (is : List Instr). place_in (entry_layer x) (instrs_at x 0) at + length is) nothing
      ∙ none (place_in (entry_layer x) (instrs_at x 0) at))
    where
      none : (k : ℕ) → k + 0 ≡ k
      none k = omega arith
