-- New names come in the order of the passes: loads, what is written, what is copied at begin, and addresses.
use Rattle.std.proofs.Common.{◌≡◌, ℕ, zero, suc, ◌+◌, ◌*◌, ◌<◌, ◌≤◌, true, List, [], ◌∷◌, ◌++◌, length, Option, Some, None, refl, sym, ap, ◌∙◌, arith, append_assoc, length-append}
use Rattle.std.specs.List.{Contains}
use Rattle.std.specs.Prelude.{codes, drop, slice_get, take, unwrap_or}
use Rattle.pass_frames_proof.specs.frame_classes.declared.class.SlotClass.{SlotClass}
use Rattle.pass_frames_proof.specs.ir_model.declared.instr.Instr.{Instr}
use Rattle.pass_frames_proof.specs.ir_model.declared.module.Block.{Block}
use Rattle.pass_frames_proof.specs.ir_model.declared.module.Function.{Function}
use Rattle.pass_frames_proof.specs.ir_parts.Contents.{instr_operands}
use Rattle.pass_frames_proof.specs.pass_addresses.Placing.{stays, without_promise_of}
use Rattle.pass_frames_proof.specs.pass_cells.Cells.{fetched_function, fetches_of}
use Rattle.pass_frames_proof.specs.pass_cells.Written.{entry_front as cells_front}
use Rattle.pass_frames_proof.specs.pass_copies.BeginCopies.{entry_front as copies_front, first_fetched}
use Rattle.pass_frames_proof.specs.pass_copies.Slots.{entry_instrs, names_of_slot, slot_names}
use Rattle.pass_frames_proof.specs.pass_copies.Uses.{used_before}
use Rattle.pass_frames_proof.specs.pass_copies.declared.slot.EarlySlot.{EarlySlot}
use Rattle.pass_frames_proof.specs.pass_fetch.Blocks.{with_fetches}
use Rattle.pass_frames_proof.specs.pass_fetch.Fetching.{next_after_all}
use Rattle.pass_frames_proof.specs.pass_fetch.Instrs.{next_after_instrs}
use Rattle.pass_frames_proof.specs.pass_fetch.declared.fetch.Fetch.{Fetch}
use Rattle.pass_frames_proof.specs.pass_frames.Tables.{class_flags, sizes_by_name}
use Rattle.pass_frames_meaning.proofs.order.Counts.{among, at_one, first_low, instrs_to, instrs_up, joined}
use Rattle.pass_frames_meaning.proofs.order.Parts.{unmarked_becomes}
use Rattle.pass_frames_proof.proofs.code.Framed.{framed_is}
use Rattle.pass_frames_proof.proofs.code.Idle.{each_idle, only_idle}
use Rattle.pass_frames_proof.proofs.code.Left.{longer, parts_left}
use Rattle.pass_frames_proof.proofs.code.Passes.{cells_made, copies_made, fetches_made, rows, unmarked_made}
use Rattle.pass_frames_proof.proofs.layers.Grown.{both_passed, grown_append, passed_append}
use Rattle.pass_frames_proof.proofs.layers.Idle.{all_stay, both_idle}
use Rattle.pass_frames_proof.proofs.layers.Standing.{split_at}
use Rattle.pass_frames_proof.proofs.lines.Cells.{contained}
use Rattle.pass_frames_proof.proofs.stepping.Names.{slots_new}
use Rattle.pass_frames_proof.specs.Code.{address_state, copied_there, load_name, loaded, loads as loads_of, located, saved, slot_table, stores, unmarked_one, wheres}
use Rattle.pass_frames_proof.specs.Framings.{IsFraming}
use Rattle.pass_frames_proof.specs.Layers.{IsIdle, becomes, each, grown, only, passed, woven}
use Rattle.pass_frames_proof.specs.Passes.{IsBlockMade, copying_at, fetched_first, fetching_at, no_block, unmarked_at, writing_at}
use Rattle.pass_frames_proof.specs.Places.{Framing, Placed, Unmarked, addressing_layer, before_labels, celled_layer, copied_layer, copies, edged, fetched, framed, instrs_at, marked, named, placed_layer, plan, unmarked, unmarked_layer, with_copies, written}
use Rattle.pass_frames_proof.specs.Stepping.{AreNamesInOrder, IsUnlocated, state_in}
use Rattle.pass_frames_proof.proofs.pass_proofs.copies.rules.Slots.{AreNumbered, cell_named, front_range, numbered, temporary_named}

pub doubled : (n : ℕ) → length (slot_names n) ≡ 2 * n
doubled zero = refl
doubled (suc n) =
    let d : length (slot_names n) ≡ 2 * n = doubled n in
    let e = length-append (slot_names n) (names_of_slot n) in
    omega (arith, d, e)

module _ (x : Framing) (is : IsFraming x) (k : ℕ) where
  abbrev T : List (Option Fetch)
  T = fetches_of (plan x)

  abbrev S : List (Option Fetch)
  S = slot_table x

  -- ---- loads

  pub loads_passed : (s : Placed) (js : List Instr)
      → load_name (passed (placed_layer x k) s js) ≡ next_after_instrs T (load_name s) js
  loads_passed s [] = refl
  loads_passed s (j ∷ js) = loads_passed ((placed_layer x k).after s j) js

  pub load_is : (at : ℕ)
      → load_name (state_in x k at) ≡ next_after_instrs T (fetched_first (named x) T k) (take at (instrs_at x k))
  load_is at = loads_passed (placed_layer x k).start (take at (instrs_at x k))

  pub low : (at : ℕ) → length (named x).names ≤ load_name (state_in x k at)
  low at =
      let a : length (named x).names ≤ fetched_first (named x) T k = first_low T (named x) (codes "$c.use.") k in
      let b : fetched_first (named x) T k
      ≤ next_after_instrs T (fetched_first (named x) T k) (take at (instrs_at x k)) =
      instrs_up T (fetched_first (named x) T k) (take at (instrs_at x k)) in
      let c = load_is at in
      omega (arith, a, b, c)

  pub fetched_names : length (fetched x).names ≡ length (with_fetches (named x) T (codes "$c.use.")).names
  unfolding fetched_function
  fetched_names = refl

  -- ---- the block of the last pass but one

  pub cells_are : IsBlockMade (celled_layer x k) (edged x) (written x) k
  unfolding fetched_function
  cells_are =
      rows (fetching_at (named x) (fetches_of (plan x)) k)
      (writing_at x.code (plan x) (cells_front (plan x) (edged x).params) (fetched x) k)
      (edged x) (fetched x) (written x) k
      (fetches_made (named x) (fetches_of (plan x)) (codes "$c.use.") k) (cells_made x.code (plan x) (fetched x) k)

  copies_are : IsBlockMade (copied_layer x k) (edged x) (with_copies x) k
  copies_are =
      rows (celled_layer x k)
      (copying_at (copies x) (before_labels x) (copies_front (copies x).slots)
      (first_fetched (written x) (copies x)) (written x) k)
      (edged x) (written x) (with_copies x) k cells_are (copies_made (written x) (before_labels x) (copies x) k)

  pub unmarked_are : IsBlockMade (unmarked_layer x k) (edged x) (unmarked x) k
  unmarked_are =
      rows (copied_layer x k) (unmarked_at (marked x)) (edged x) (with_copies x) (unmarked x) k copies_are
      (unmarked_made (with_copies x) (marked x) k)

  -- ---- addresses

  addresses_passed : (s : ℕ × Unit {0}) (js : List Instr)
      → (passed (addressing_layer x k) s js).0 ≡ next_after_instrs S s.0 js
  addresses_passed s [] = refl
  addresses_passed s (j ∷ js) = addresses_passed ((addressing_layer x k).after s j) js

  abbrev pub A0 : ℕ
  A0 = fetched_first (unmarked x) S k

  abbrev pub before : ℕ → List Instr
  before at =
      (unmarked_layer x k).front ++ grown (unmarked_layer x k) (unmarked_layer x k).start (take at (instrs_at x k))

  abbrev met_at : ℕ → Unmarked
  met_at at = passed (unmarked_layer x k) (unmarked_layer x k).start (take at (instrs_at x k))

  pub states : (at : ℕ) → state_in x k at
      ≡ (met_at at, passed (addressing_layer x k) (addressing_layer x k).start (before at))
  states at =
      both_passed (unmarked_layer x k) (addressing_layer x k) (unmarked_layer x k).start
      (passed (addressing_layer x k) (addressing_layer x k).start (unmarked_layer x k).front) (take at (instrs_at x k))
      ∙ ap (λ (a : ℕ × Unit {0}). (met_at at, a))
      (sym (passed_append (addressing_layer x k) (addressing_layer x k).start (unmarked_layer x k).front
      (grown (unmarked_layer x k) (unmarked_layer x k).start (take at (instrs_at x k)))))

  pub address_is : (at : ℕ) → (address_state (state_in x k at)).0 ≡ next_after_instrs S A0 (before at)
  address_is at =
      ap (λ (s : Placed). s.1.0) (states at)
      ∙ addresses_passed (addressing_layer x k).start (before at)

  pub copied_names : length (written x).names + 2 * length (copies x).slots ≤ length (with_copies x).names
  copied_names =
      let count : ℕ = length (copies x).slots in
      let a : length (slot_names count) ≡ 2 * count = doubled count in
      let b : length ((written x).names ++ slot_names count)
      ≡ length (written x).names + length (slot_names count) = length-append (written x).names (slot_names count) in
      let c : length ((written x).names ++ slot_names count) ≤ length (with_copies x).names =
      longer ((written x).names ++ slot_names count) _ in
      omega (arith, a, b, c)

  pub addresses_up : (at : ℕ) → length (with_copies x).names ≤ (address_state (state_in x k at)).0
  addresses_up at =
      let a : length (unmarked x).names ≤ A0 = first_low S (unmarked x) (codes "$c.at.") k in
      let b : A0 ≤ next_after_instrs S A0 (before at) = instrs_up S A0 (before at) in
      let c = address_is at in
      let d : length (unmarked x).names ≡ length (with_copies x).names = refl in
      omega (arith, a, b, c, d)

  -- ---- slots that are used before begin

  slot_rows : AreNumbered (length (written x).names) (copies x).slots
  slot_rows =
      numbered
      (used_before (written x) (class_flags x.function x.contents.classes SlotClass.Frame) (before_labels x))
      (sizes_by_name x.function x.contents.held) (length (written x).names) (entry_instrs (written x).blocks)

  pub early_numbers : (s : EarlySlot) → Contains (copies x).slots s
      → (s.temporary < length (written x).names + 2 * length (copies x).slots)
      × (s.cell < length (written x).names + 2 * length (copies x).slots)
  early_numbers s c =
      let l = contained (copies x).slots s c in (
        (front_range (length (written x).names) s.temporary (copies x).slots slot_rows
            (temporary_named (copies x).slots s l)).1,
        (front_range (length (written x).names) s.cell (copies x).slots slot_rows
            (cell_named (copies x).slots s l)).1,
      )

  pub early_below : (s : EarlySlot) → Contains (copies x).slots s
      → (s.temporary < length (with_copies x).names) × (s.cell < length (with_copies x).names)
  early_below s c =
      let e = early_numbers s c in
      let t : s.temporary < length (written x).names + 2 * length (copies x).slots = e.0 in
      let u : s.cell < length (written x).names + 2 * length (copies x).slots = e.1 in
      let a = copied_names in
      (omega (arith, t, a), omega (arith, u, a))

  slot_below : (at : ℕ) (s : EarlySlot) → Contains (copies x).slots s
      → (s.temporary < (address_state (state_in x k at)).0) × (s.cell < (address_state (state_in x k at)).0)
  slot_below at s c =
      let e = early_below s c in
      let t : s.temporary < length (with_copies x).names = e.0 in
      let u : s.cell < length (with_copies x).names = e.1 in
      let b = addresses_up at in
      (omega (arith, t, b), omega (arith, u, b))

  -- ---- an instruction

  module _ (at : ℕ) (i : Instr) (there : slice_get (instrs_at x k) at ≡ Some i) where
    abbrev n : Placed
    n = state_in x k at

    pub block_there : (b : Block) × (slice_get (edged x).blocks k ≡ Some b) × (b.instrs ≡ instrs_at x k)
    block_there = on (slice_get (edged x).blocks k) refl there
      where
        on : (o : Option Block) → slice_get (edged x).blocks k ≡ o → slice_get (unwrap_or o no_block).instrs at ≡ Some i
            → (b : Block) × (slice_get (edged x).blocks k ≡ Some b) × (b.instrs ≡ instrs_at x k)
        on None d h = absurd (cc)
        on (Some b) d h = (b, d, sym (ap (λ (o : Option Block). (unwrap_or o no_block).instrs) d))

    pub loads : next_after_all T (load_name n) (instr_operands i) ≤ length (written x).names
    loads =
        let b = block_there in
        let a : next_after_all T (next_after_instrs T (fetched_first (named x) T k) (take at (instrs_at x k)))
        (instr_operands i) ≤ next_after_instrs T (fetched_first (named x) T k) (instrs_at x k) =
        at_one T (fetched_first (named x) T k) (instrs_at x k) at i there in
        let c : next_after_instrs T (fetched_first (named x) T k) b.0.instrs
        ≤ length (with_fetches (named x) T (codes "$c.use.")).names =
        instrs_to T (named x) (codes "$c.use.") k b.0 b.1 in
        let d : next_after_instrs T (fetched_first (named x) T k) b.0.instrs
        ≡ next_after_instrs T (fetched_first (named x) T k) (instrs_at x k) =
        ap (λ (is : List Instr). next_after_instrs T (fetched_first (named x) T k) is) b.2 in
        let e = fetched_names in
        let f : length (fetched x).names ≤ length (written x).names = longer (fetched x).names _ in
        let g : next_after_all T (load_name n) (instr_operands i)
        ≡ next_after_all T (next_after_instrs T (fetched_first (named x) T k) (take at (instrs_at x k)))
        (instr_operands i) = ap (λ (m : ℕ). next_after_all T m (instr_operands i)) (load_is at) in
        omega (arith, a, c, d, e, f, g)

    -- the instruction is left as it is behind the fetches in front of it
    module _ (j : Instr) (is_located : located x n i ≡ j) (whole : stays (marked x) j ≡ true)
        (same : without_promise_of j ≡ j) where
      abbrev rest : List Instr
      rest = copied_there x n i ++ stores x n i

      abbrev front : List Instr
      front = (loads_of x n i ++ saved x n i) ++ wheres x n i

      idle : IsIdle (unmarked_at (marked x)) j
      idle =
          both_idle (only (stays (marked x))) (each without_promise_of) j (only_idle (stays (marked x)) j whole)
          (each_idle without_promise_of j same)

      one_is : unmarked_one x (located x n i) ≡ j ∷ []
      one_is =
          ap (λ (y : Instr). unmarked_one x y) is_located
          ∙ all_stay (unmarked_at (marked x)) (j ∷ []) (idle, tt) (tt, tt)

      -- it stands in the block of the last pass but one
      becomes_is : becomes (unmarked_layer x k) n.0 i ≡ front ++ j ∷ rest
      becomes_is =
          unmarked_becomes x k n i (parts_left x is k at i there)
          ∙ ap (λ (ys : List Instr). front ++ (ys ++ rest)) one_is

      abbrev later : List Instr
      later =
          grown (unmarked_layer x k) ((unmarked_layer x k).after (met_at at) i) (drop (suc at) (instrs_at x k))
          ++ (unmarked_layer x k).back (passed (unmarked_layer x k) (unmarked_layer x k).start (instrs_at x k))

      met_is : met_at at ≡ n.0
      met_is = sym (ap (λ (s : Placed). s.0) (states at))

      grown_is : grown (unmarked_layer x k) (unmarked_layer x k).start (instrs_at x k)
          ≡ grown (unmarked_layer x k) (unmarked_layer x k).start (take at (instrs_at x k))
          ++ (becomes (unmarked_layer x k) (met_at at) i
          ++ grown (unmarked_layer x k) ((unmarked_layer x k).after (met_at at) i) (drop (suc at) (instrs_at x k)))
      grown_is =
          ap (λ (is : List Instr). grown (unmarked_layer x k) (unmarked_layer x k).start is)
          (split_at (instrs_at x k) at i there)
          ∙ grown_append (unmarked_layer x k) (unmarked_layer x k).start (take at (instrs_at x k))
          (i ∷ drop (suc at) (instrs_at x k))

      shaped : (a g b r c : List Instr) → a ++ ((g ++ (b ++ r)) ++ c) ≡ (a ++ g) ++ (b ++ (r ++ c))
      shaped a g b r c = simp append_assoc

      woven_is : woven (unmarked_layer x k) (instrs_at x k)
          ≡ before at ++ (becomes (unmarked_layer x k) (met_at at) i ++ later)
      woven_is =
          ap (λ (is : List Instr). (unmarked_layer x k).front ++ (is
          ++ (unmarked_layer x k).back (passed (unmarked_layer x k) (unmarked_layer x k).start (instrs_at x k))))
          grown_is
          ∙ shaped (unmarked_layer x k).front
          (grown (unmarked_layer x k) (unmarked_layer x k).start (take at (instrs_at x k)))
          (becomes (unmarked_layer x k) (met_at at) i)
          (grown (unmarked_layer x k) ((unmarked_layer x k).after (met_at at) i) (drop (suc at) (instrs_at x k)))
          ((unmarked_layer x k).back (passed (unmarked_layer x k) (unmarked_layer x k).start (instrs_at x k)))

      closer : (a c : List Instr) → (a ++ j ∷ rest) ++ c ≡ a ++ j ∷ (rest ++ c)
      closer a c = append_assoc a (j ∷ rest) c

      block_is : woven (unmarked_layer x k) (instrs_at x k) ≡ before at ++ (front ++ j ∷ (rest ++ later))
      block_is =
          woven_is
          ∙ ap (λ (is : List Instr). before at ++ (is ++ later))
          (ap (λ (s : Unmarked). becomes (unmarked_layer x k) s i) met_is ∙ becomes_is)
          ∙ ap (λ (is : List Instr). before at ++ is) (closer front later)

      framed_names : length (framed x).names ≡ length (with_fetches (unmarked x) S (codes "$c.at.")).names
      framed_names = ap (λ (z : Function). length z.names) (framed_is x)

      pub one_room : next_after_all S (address_state n).0 (instr_operands j) ≤ length (framed x).names
      one_room =
          let b = block_there in
          let c = unmarked_are b.0 b.1 in
          let to : next_after_instrs S A0 c.0.instrs ≤ length (with_fetches (unmarked x) S (codes "$c.at.")).names =
          instrs_to S (unmarked x) (codes "$c.at.") k c.0 c.1 in
          let shape : c.0.instrs ≡ before at ++ (front ++ j ∷ (rest ++ later)) =
          c.2.instrs ∙ ap (λ (ys : List Instr). woven (unmarked_layer x k) ys) b.2 ∙ block_is in
          let sum : next_after_instrs S A0 c.0.instrs
          ≡ next_after_instrs S (next_after_instrs S A0 (before at)) (front ++ j ∷ (rest ++ later)) =
          ap (λ (ys : List Instr). next_after_instrs S A0 ys) shape
          ∙ joined S A0 (before at) (front ++ j ∷ (rest ++ later)) in
          let one : next_after_all S (next_after_instrs S A0 (before at)) (instr_operands j)
          ≤ next_after_instrs S (next_after_instrs S A0 (before at)) (front ++ j ∷ (rest ++ later)) =
          among S (next_after_instrs S A0 (before at)) front j (rest ++ later) in
          let e : next_after_all S (address_state n).0 (instr_operands j)
          ≡ next_after_all S (next_after_instrs S A0 (before at)) (instr_operands j) =
          ap (λ (m : ℕ). next_after_all S m (instr_operands j)) (address_is at) in
          let l = framed_names in
          omega (arith, to, sum, one, e, l)

      -- so much of what is put in front has its address fetched
      pub one_front_room : (more : ℕ) → ((m : ℕ) → m + more ≤ next_after_instrs S m (saved x n i))
          → (address_state n).0 + more ≤ length (framed x).names
      one_front_room more takes =
          let b = block_there in
          let c = unmarked_are b.0 b.1 in
          let first : ℕ = next_after_instrs S A0 (before at) in
          let to : next_after_instrs S A0 c.0.instrs ≤ length (with_fetches (unmarked x) S (codes "$c.at.")).names =
          instrs_to S (unmarked x) (codes "$c.at.") k c.0 c.1 in
          let shape : c.0.instrs ≡ before at ++ (front ++ j ∷ (rest ++ later)) =
          c.2.instrs ∙ ap (λ (ys : List Instr). woven (unmarked_layer x k) ys) b.2 ∙ block_is in
          let sum : next_after_instrs S A0 c.0.instrs
          ≡ next_after_instrs S (next_after_instrs S first front) (j ∷ (rest ++ later)) =
          ap (λ (ys : List Instr). next_after_instrs S A0 ys) shape
          ∙ joined S A0 (before at) (front ++ j ∷ (rest ++ later))
          ∙ joined S first front (j ∷ (rest ++ later)) in
          let up : next_after_instrs S first front
          ≤ next_after_instrs S (next_after_instrs S first front) (j ∷ (rest ++ later)) =
          instrs_up S (next_after_instrs S first front) (j ∷ (rest ++ later)) in
          let loads_first : ℕ = next_after_instrs S first (loads_of x n i) in
          let parts : next_after_instrs S first front
          ≡ next_after_instrs S (next_after_instrs S loads_first (saved x n i)) (wheres x n i) =
          joined S first (loads_of x n i ++ saved x n i) (wheres x n i)
          ∙ ap (λ (q : ℕ). next_after_instrs S q (wheres x n i)) (joined S first (loads_of x n i) (saved x n i)) in
          let one : first ≤ loads_first = instrs_up S first (loads_of x n i) in
          let two : loads_first + more ≤ next_after_instrs S loads_first (saved x n i) = takes loads_first in
          let three : next_after_instrs S loads_first (saved x n i)
          ≤ next_after_instrs S (next_after_instrs S loads_first (saved x n i)) (wheres x n i) =
          instrs_up S (next_after_instrs S loads_first (saved x n i)) (wheres x n i) in
          let e = address_is at in
          let l = framed_names in
          omega (arith, to, sum, up, parts, one, two, three, e, l)

      -- and so much of what is copied behind it
      pub one_rest_room : (more : ℕ) → ((m : ℕ) → m + more ≤ next_after_instrs S m (copied_there x n i))
          → (address_state n).0 + more ≤ length (framed x).names
      one_rest_room more takes =
          let b = block_there in
          let c = unmarked_are b.0 b.1 in
          let first : ℕ = next_after_instrs S A0 (before at) in
          let own : ℕ = next_after_instrs S first front in
          let last : ℕ = next_after_instrs S own (j ∷ []) in
          let to : next_after_instrs S A0 c.0.instrs ≤ length (with_fetches (unmarked x) S (codes "$c.at.")).names =
          instrs_to S (unmarked x) (codes "$c.at.") k c.0 c.1 in
          let shape : c.0.instrs ≡ before at ++ (front ++ j ∷ (rest ++ later)) =
          c.2.instrs ∙ ap (λ (ys : List Instr). woven (unmarked_layer x k) ys) b.2 ∙ block_is in
          let sum : next_after_instrs S A0 c.0.instrs ≡ next_after_instrs S last (rest ++ later) =
          ap (λ (ys : List Instr). next_after_instrs S A0 ys) shape
          ∙ joined S A0 (before at) (front ++ j ∷ (rest ++ later))
          ∙ joined S first front (j ∷ (rest ++ later)) in
          let parts : next_after_instrs S last (rest ++ later)
          ≡ next_after_instrs S (next_after_instrs S (next_after_instrs S last (copied_there x n i)) (stores x n i)) later =
          joined S last rest later
          ∙ ap (λ (q : ℕ). next_after_instrs S q later) (joined S last (copied_there x n i) (stores x n i)) in
          let one : first ≤ own = instrs_up S first front in
          let two : own ≤ last = instrs_up S own (j ∷ []) in
          let three : last + more ≤ next_after_instrs S last (copied_there x n i) = takes last in
          let four : next_after_instrs S last (copied_there x n i)
          ≤ next_after_instrs S (next_after_instrs S last (copied_there x n i)) (stores x n i) =
          instrs_up S (next_after_instrs S last (copied_there x n i)) (stores x n i) in
          let five : next_after_instrs S (next_after_instrs S last (copied_there x n i)) (stores x n i)
          ≤ next_after_instrs S (next_after_instrs S (next_after_instrs S last (copied_there x n i)) (stores x n i))
          later =
          instrs_up S (next_after_instrs S (next_after_instrs S last (copied_there x n i)) (stores x n i)) later in
          let e = address_is at in
          let l = framed_names in
          omega (arith, to, sum, parts, one, two, three, four, five, e, l)

    written_up : length (written x).names ≤ (address_state n).0
    written_up = let a = copied_names in let b = addresses_up at in omega (arith, a, b)

    module _ (u : IsUnlocated x n i) (whole : stays (marked x) (loaded x n i) ≡ true)
        (same : without_promise_of (loaded x n i) ≡ loaded x n i) where
      pub front_room : (more : ℕ) → ((m : ℕ) → m + more ≤ next_after_instrs S m (saved x n i))
          → (address_state n).0 + more ≤ length (framed x).names
      front_room more takes = one_front_room (loaded x n i) u.located whole same more takes

      pub rest_room : (more : ℕ) → ((m : ℕ) → m + more ≤ next_after_instrs S m (copied_there x n i))
          → (address_state n).0 + more ≤ length (framed x).names
      rest_room more takes = one_rest_room (loaded x n i) u.located whole same more takes

      pub names_in_order : AreNamesInOrder x n i
      names_in_order = record {
        low = low at;
        loads = loads;
        addresses = written_up;
        slots = λ s c. (slots_new x s c, slot_below at s c);
        room = one_room (loaded x n i) u.located whole same;
      }
