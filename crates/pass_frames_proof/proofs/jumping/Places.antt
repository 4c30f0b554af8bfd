-- What stands at the end of a block of the framed form, and in front of an ordinary one.
use Rattle.std.proofs.Common.{◌≡◌, ℕ, ◌+◌, Bool, true, false, List, [], length, refl, sym, ap, ◌∙◌, subst, arith}
use Rattle.std.proofs.lemmas.List.{append-nil, length-append}
use Rattle.std.specs.Prelude.{Option, Some, filter, replicate, slice_get, unwrap_or, ◌==◌, ◌≢◌}
use Rattle.pass_frames_steps.proofs.ir_laws.facts.Members.{each_joined}
use Rattle.pass_frames_steps.proofs.ir_laws.facts.Truth.{equal_numbers}
use Rattle.pass_frames_steps.specs.ir_model.declared.instr.Instr.{Instr}
use Rattle.pass_frames_steps.specs.ir_model.declared.instr.Terminator.{Terminator}
use Rattle.pass_frames_steps.specs.ir_model.declared.module.Block.{Block}
use Rattle.pass_frames_steps.specs.ir_model.declared.module.Function.{Function}
use Rattle.pass_frames_steps.specs.pass_cells.Cells.{fetches_of}
use Rattle.pass_frames_steps.specs.pass_cells.Written.{stored_phis}
use Rattle.pass_frames_steps.specs.pass_fetch.Blocks.{end_at}
use Rattle.pass_frames_steps.specs.pass_fetch.Fetching.{fetch_into, fetches_of_all}
use Rattle.pass_frames_steps.specs.pass_fetch.Instrs.{term_operands}
use Rattle.pass_frames_steps.specs.pass_fetch.declared.fetch.Fetch.{Fetch}
use Rattle.pass_frames_steps.proofs.code.Ends.{back_is, front_is, last_far, term_is}
use Rattle.pass_frames_steps.proofs.code.Framed.{entry_made, others_made}
use Rattle.pass_frames_steps.proofs.code.Left.{all_by, blocks_by}
use Rattle.pass_frames_steps.proofs.pass_proofs.fetch.shape.Fetching.{no_rows}
use Rattle.pass_frames_steps.proofs.layers.Grown.{both_passed}
use Rattle.pass_frames_steps.proofs.layers.Idle.{all_stay}
use Rattle.pass_frames_steps.proofs.layers.Standing.{back_stands, end_woven, first_place, front_stands, term_stands}
use Rattle.pass_frames_steps.proofs.phis.Fronts.{stores_alone}
use Rattle.pass_frames_steps.proofs.stepping.Codes.{led_passed, stay_all}
use Rattle.pass_frames_steps.specs.Code.{address_state, end_addresses, end_code, end_loads, end_term, last_state, load_name, slot_table}
use Rattle.pass_frames_steps.specs.Costs.{whole}
use Rattle.pass_frames_steps.specs.Edges.{EndsInPlace, FrontsInPlace}
use Rattle.pass_frames_steps.specs.Framings.{IsFraming}
use Rattle.pass_frames_steps.specs.Layers.{IsMadeBy, Layer, both, grown, only, passed, place_in, up_to, woven}
use Rattle.pass_frames_steps.specs.Passes.{IsBlockMade, allocas_led, block_at, no_block, phi_ends}
use Rattle.pass_frames_steps.specs.Phis.{IsOrdinaryBlock}
use Rattle.pass_frames_steps.specs.Places.{Framing, Placed, edged, entry_layer, fetched, framed, instrs_at, is_return, named, place_by, placed_layer, plan, unmarked}
use Rattle.pass_frames_steps.specs.pass_front.Front.{is_alloca, is_no_alloca}
use Rattle.pass_frames_steps.specs.run_laws.access.Lines.{StandAt}
use Rattle.pass_frames_steps.specs.run_laws.changed.Changed.{Each}
use Rattle.pass_frames_steps.specs.run_step.Step.{AtTerm, fetch}

not_zero : (k : ℕ) → k ≢ 0 → (k == 0) ≡ false
not_zero k n = on (k == 0) refl
  where
    on : (b : Bool) → (k == 0) ≡ b → b ≡ false
    on false e = refl
    on true e = absurd (n (equal_numbers k 0 e))

-- ---- a block that a layer makes

module _ {S : Type 0} (L : Layer S) (f g : Function) (k : ℕ) (made : IsBlockMade L f g k)
    (there : slice_get f.blocks k ≡ Some (block_at f k)) where
  abbrev is : List Instr
  is = (block_at f k).instrs

  got : (c : Block) × (slice_get g.blocks k ≡ Some c) × IsMadeBy L (block_at f k) c
  got = made (block_at f k) there

  abbrev last : ℕ
  last = place_in L is (length is)

  module _ (line : List Instr) (back : L.back (passed L L.start is) ≡ line) where
    pub made_stand : StandAt g k last line
    made_stand = subst (StandAt g k last) back (back_stands L g k (block_at f k) got.0 got.2 got.1)

    pub made_term : (e : Terminator) → L.term (passed L L.start is) (block_at f k).term ≡ e
        → fetch g k (last + length line) ≡ AtTerm e
    made_term e term =
        ap (λ (xs : List Instr). fetch g k (last + length xs)) (sym back)
        ∙ term_stands L g k (block_at f k) got.0 got.2 got.1 ∙ ap AtTerm term

    pub made_whole : length (block_at g k).instrs + 1 ≡ last + length line + 1
    made_whole =
        ap (λ (o : Option Block). length (unwrap_or o no_block).instrs + 1) got.1
        ∙ ap (λ (xs : List Instr). length xs + 1) (got.2.instrs ∙ end_woven L is)
        ∙ ap (λ (n : ℕ). n + 1) (length-append (up_to L is (length is)) (L.back (passed L L.start is)))
        ∙ ap (λ (xs : List Instr). last + length xs + 1) back

  pub made_front : StandAt g k 0 L.front
  made_front = front_stands L g k (block_at f k) got.0 got.2 got.1

-- ---- the end of a block is no alloca

into_no_alloca : (n : ℕ) (y : Fetch) → is_no_alloca (fetch_into n y) ≡ true
into_no_alloca n (Fetch.Load ty cell) = refl
into_no_alloca n (Fetch.Address base distance) = refl

abbrev P : Instr → Type 0
P j = is_no_alloca j ≡ true

end_no_alloca : (x : Framing) (k : ℕ) (s : Placed) → Each (λ (j : Instr). is_no_alloca j ≡ true) (end_code x k s)
end_no_alloca x k s =
    each_joined P (end_loads x k s) (end_addresses x k s)
    (each_joined P (end_at (phi_ends (named x) (fetches_of (plan x))) (block_at (edged x) k).label)
    (fetches_of_all (fetches_of (plan x)) (load_name s) (term_operands (block_at (edged x) k).term))
    (phis_by (fetches_of (plan x)) (named x) (block_at (edged x) k).label)
    (all_by (fetches_of (plan x)) P 0 (λ n y f low e. into_no_alloca n f) (load_name s)
    (term_operands (block_at (edged x) k).term) (omega arith)))
    (each_joined P (end_at (phi_ends (unmarked x) (slot_table x)) (block_at (unmarked x) k).label)
    (fetches_of_all (slot_table x) (address_state s).0 (term_operands (block_at (unmarked x) k).term))
    (phis_by (slot_table x) (unmarked x) (block_at (unmarked x) k).label)
    (all_by (slot_table x) P 0 (λ n y f low e. into_no_alloca n f) (address_state s).0
    (term_operands (block_at (unmarked x) k).term) (omega arith)))
  where
    phis_by : (t : List (Option Fetch)) (f : Function) (label : ℕ)
        → Each (λ (j : Instr). is_no_alloca j ≡ true) (end_at (phi_ends f t) label)
    phis_by t f label =
        blocks_by t (λ (j : Instr). is_no_alloca j ≡ true) 0 (λ n y f low e. into_no_alloca n f) (length f.names)
        (replicate (length f.names) []) f.blocks (omega arith)
        (no_rows t (λ (j : Instr). is_no_alloca j ≡ true) (length f.names)) label

-- ---- the entry's layer

module _ {S : Type 0} (L : Layer S) (is : List Instr) where
  abbrev M : Layer (S × Unit {0})
  M = allocas_led L is

  last_is : passed M M.start is ≡ (passed L L.start is, passed (only is_no_alloca) tt (grown L L.start is))
  last_is =
      led_passed (filter is_alloca (woven L is)) (both L (only is_no_alloca)) M.start is
      ∙ both_passed L (only is_no_alloca) L.start M.start.1 is

  pub led_back : (line : List Instr) → L.back (passed L L.start is) ≡ line
      → Each (λ (j : Instr). is_no_alloca j ≡ true) line → M.back (passed M M.start is) ≡ line
  led_back line e none =
      ap M.back last_is
      ∙ append-nil (grown (only is_no_alloca) (passed (only is_no_alloca) tt (grown L L.start is))
      (L.back (passed L L.start is)))
      ∙ ap (grown (only is_no_alloca) (passed (only is_no_alloca) tt (grown L L.start is))) e
      ∙ all_stay (only is_no_alloca) line (stay_all line none)
      (passed (only is_no_alloca) tt (grown L L.start is))

  pub led_term : (e : Terminator) → M.term (passed M M.start is) e ≡ L.term (passed L L.start is) e
  led_term e = ap (λ (s : S × Unit {0}). M.term s e) last_is

-- ---- in the framed form

module _ (x : Framing) (is : IsFraming x) (k : ℕ) (there : slice_get (edged x).blocks k ≡ Some (block_at (edged x) k))
    (unreturned : is_return x k ≡ false) where
  abbrev line : List Instr
  line = end_code x k (last_state x k)

  abbrev term : Terminator
  term = end_term x (last_state x k) (block_at (edged x) k).term

  abbrev Ends : ℕ → Type 0
  Ends n =
      StandAt (framed x) k n line × (fetch (framed x) k (n + length line) ≡ AtTerm term)
      × (whole x k ≡ n + length line + 1)

  abbrev At : Bool → ℕ
  At entry = place_by x (record { block = k; at = length (instrs_at x k) }) false entry

  back : (placed_layer x k).back (last_state x k) ≡ line
  back = back_is x is k (last_state x k) (last_far x is k)

  term_there : (placed_layer x k).term (last_state x k) (block_at (edged x) k).term ≡ term
  term_there = term_is x is k (last_state x k) (last_far x is k) (block_at (edged x) k).term

  later : k ≢ 0 → Ends (At false)
  later n = (
    made_stand (placed_layer x k) (edged x) (framed x) k (others_made x k n) there line back,
    made_term (placed_layer x k) (edged x) (framed x) k (others_made x k n) there line back term term_there,
    made_whole (placed_layer x k) (edged x) (framed x) k (others_made x k n) there line back,
  )

module _ (x : Framing) (is : IsFraming x) (there : slice_get (edged x).blocks 0 ≡ Some (block_at (edged x) 0))
    (unreturned : is_return x 0 ≡ false) where
  first : Ends x is 0 there unreturned (At x is 0 there unreturned true)
  first = (
    made_stand (entry_layer x) (edged x) (framed x) 0 (entry_made x) there (end_code x 0 (last_state x 0)) back0,
    made_term (entry_layer x) (edged x) (framed x) 0 (entry_made x) there (end_code x 0 (last_state x 0)) back0
        (end_term x (last_state x 0) (block_at (edged x) 0).term) term0,
    made_whole (entry_layer x) (edged x) (framed x) 0 (entry_made x) there (end_code x 0 (last_state x 0)) back0,
  )
    where
      back0 : (entry_layer x).back (passed (entry_layer x) (entry_layer x).start (instrs_at x 0))
          ≡ end_code x 0 (last_state x 0)
      back0 =
          led_back (placed_layer x 0) (instrs_at x 0) (end_code x 0 (last_state x 0))
          (back x is 0 there unreturned) (end_no_alloca x 0 (last_state x 0))

      term0 : (entry_layer x).term (passed (entry_layer x) (entry_layer x).start (instrs_at x 0))
          (block_at (edged x) 0).term
          ≡ end_term x (last_state x 0) (block_at (edged x) 0).term
      term0 =
          led_term (placed_layer x 0) (instrs_at x 0) (block_at (edged x) 0).term
          ∙ term_there x is 0 there unreturned

module _ (x : Framing) (is : IsFraming x) (k : ℕ) (there : slice_get (edged x).blocks k ≡ Some (block_at (edged x) k))
    (unreturned : is_return x k ≡ false) where
  by_entry : (e : Bool) → (k == 0) ≡ e → Ends x is k there unreturned (At x is k there unreturned e)
  by_entry false e =
      later x is k there unreturned (λ z. let no : true ≡ false = sym (ap (λ (n : ℕ). n == 0) z) ∙ e in absurd (cc))
  by_entry true e =
      subst
      (λ (n : ℕ). (here : slice_get (edged x).blocks n ≡ Some (block_at (edged x) n))
      → (no : is_return x n ≡ false) → Ends x is n here no (At x is n here no true)) (sym (equal_numbers k 0 e))
      (λ here no. first x is here no) there unreturned

  pub ends_there : EndsInPlace x k (end_code x k (last_state x k))
      (end_term x (last_state x k) (block_at (edged x) k).term)
  ends_there =
      let all = subst
      (λ (b : Bool). Ends x is k there unreturned (place_by x (record { block = k; at = length (instrs_at x k) }) b
      (k == 0))) (sym unreturned) (by_entry (k == 0) refl) in record {
        stand = all.0;
        term = all.1;
        whole = all.2;
      }

  pub front_there : IsOrdinaryBlock x k → FrontsInPlace x k (stored_phis (plan x) (block_at (fetched x) k).phis)
  front_there o = record {
    stand = subst (StandAt (framed x) k 0) front
        (made_front (placed_layer x k) (edged x) (framed x) k (others_made x k o.later) there);
    place =
        ap (λ (b : Bool). place_by x (record { block = k; at = 0 }) b (k == 0)) unreturned
        ∙ ap (λ (b : Bool). place_by x (record { block = k; at = 0 }) false b) (not_zero k o.later)
        ∙ first_place (placed_layer x k) (instrs_at x k) ∙ ap length front;
  }
    where
      front : (placed_layer x k).front ≡ stored_phis (plan x) (block_at (fetched x) k).phis
      front = front_is x is k ∙ stores_alone x is k o
