-- What an instruction of a coroutine becomes is short.
use Rattle.std.proofs.Common.{◌≡◌, inl, inr, ⊎_elim, ℕ, ◌+◌, ◌*◌, ◌≤◌, Bool, true, false, List, [], ◌∷◌, ◌++◌, length, refl, ap, ◌∙◌, arith}
use Rattle.std.proofs.lemmas.List.{length-append}
use Rattle.std.specs.Prelude.{Option, Some, if◌then◌else◌, slice_get, ◌&&◌}
use Rattle.pass_frames_proof.specs.flow_solver.Paths.{IsListed}
use Rattle.pass_frames_proof.specs.ir_model.declared.instr.Instr.{Instr}
use Rattle.pass_frames_proof.specs.ir_model.declared.operand.Operand.{Operand}
use Rattle.pass_frames_proof.specs.ir_parts.Contents.{instr_operands, result_of}
use Rattle.pass_frames_proof.specs.pass_addresses.Placing.{lies_outside, without_promise_of}
use Rattle.pass_frames_proof.specs.pass_cells.Cells.{fetches_of}
use Rattle.pass_frames_proof.specs.pass_cells.Kept.{value_types}
use Rattle.pass_frames_proof.specs.pass_cells.Links.{bases_of, slots_of}
use Rattle.pass_frames_proof.specs.pass_cells.Moves.{after_saved}
use Rattle.pass_frames_proof.specs.pass_cells.Written.{distance_behind, row_at, save_row, stored_result}
use Rattle.pass_frames_proof.specs.pass_cells.declared.plan.KeptValue.{KeptValue}
use Rattle.pass_frames_proof.specs.pass_copies.BeginCopies.{begin_copies, is_fetched}
use Rattle.pass_frames_proof.specs.pass_copies.Uses.{is_access, is_begin}
use Rattle.pass_frames_proof.specs.pass_copies.declared.slot.EarlySlot.{EarlySlot}
use Rattle.pass_frames_proof.specs.pass_fetch.Blocks.{end_at}
use Rattle.pass_frames_proof.specs.pass_fetch.Fetching.{fetches_of_all}
use Rattle.pass_frames_proof.specs.pass_fetch.Instrs.{with_fetched}
use Rattle.pass_frames_proof.specs.pass_fetch.declared.fetch.Fetch.{Fetch}
use Rattle.pass_frames_proof.proofs.agains.Lines.{root_unfetched}
use Rattle.pass_frames_proof.proofs.agains.Values.{kept_root}
use Rattle.pass_frames_proof.proofs.allocating.Grown.{listed_in}
use Rattle.pass_frames_prices.proofs.bounds.Around.{around_fits}
use Rattle.pass_frames_prices.proofs.bounds.Lengths.{fetched_many, fetched_once, fetches_few}
use Rattle.pass_frames_prices.proofs.bounds.Parts.{AreFree, IsFree, copies_weights, line_short, promise_few, result_short, saved_weights, unmarked_one_is, weight, weights}
use Rattle.pass_frames_proof.proofs.code.Left.{Far, far_written, names_far}
use Rattle.pass_frames_proof.proofs.code.Names.{Count, F, First, Kept, cell_left, far_left, keeping, local}
use Rattle.pass_frames_proof.proofs.led.Twice.{operands_fetched}
use Rattle.pass_frames_proof.proofs.lines.Fillers.{filler_left}
use Rattle.pass_frames_proof.proofs.stepping.Names.{slots_new}
use Rattle.pass_frames_prices.specs.Bounds.{more_of}
use Rattle.pass_frames_proof.specs.Code.{address_state, addressed, code_of, copied_there, is_ahead, load_name, loaded, loads, located, past_addressed, saved, slot_table, stores, unmarked_one, where_name, wheres, write_name}
use Rattle.pass_frames_proof.specs.Framings.{IsFraming}
use Rattle.pass_frames_proof.specs.Layers.{state_at}
use Rattle.pass_frames_proof.specs.Led.{fetched_all}
use Rattle.pass_frames_proof.specs.Passes.{block_at, fetched_first, phi_ends}
use Rattle.pass_frames_proof.specs.Places.{Framing, Placed, copies, edged, instrs_at, marked, offsets, placed_layer, plan, unmarked}
use Rattle.pass_frames_proof.specs.Related.{IsKeptValue}
use Rattle.pass_frames_proof.proofs.pass_proofs.cells.rules.Plans.{kept_of}

module _ (x : Framing) (is : IsFraming x) where
  abbrev t : List (Option Fetch)
  t = fetches_of (plan x)

  abbrev pub T : List (Option Fetch)
  T = slot_table x

  pub far_free : (v : ℕ) → Far x is ≤ v → IsFree T v
  far_free v low = (far_left x is v low).0

  -- ---- what is kept

  pub kept_named : (at : ℕ) (k : KeptValue) → slice_get (plan x).kept at ≡ Some k → (v : ℕ) × IsKeptValue x v k
  kept_named at k e =
      let slots : List (Option ℕ) = slots_of (local x is) (bases_of (edged x)) in
      let y = kept_of (First x is) (Count x is) (value_types (F x is) (Kept x is)) (plan x).cells slots
      (Kept x is).values at k e in
      (y.0, record { number = at; told = (keeping x is).back y.0 at y.1; there = e })

  pub filler_free : (at : ℕ) (k : KeptValue) → slice_get (plan x).kept at ≡ Some k → IsFree T k.field_cell
  filler_free at k e = let y = kept_named at k e in (filler_left x is y.0 k y.1).0

  pub all_kept_free : (at : ℕ) (k : KeptValue) → slice_get (plan x).kept at ≡ Some k
      → (IsFree T k.field_cell × IsFree T k.cell) × ((slot : ℕ) → k.slot ≡ Some slot → IsFree T slot)
  all_kept_free at k e =
      let y = kept_named at k e in (
        (filler_free at k e, (cell_left x is at k e).0),
        λ slot h. root_unfetched x is y.0 slot (kept_root x is y.0 k y.1 slot h),
      )

  pub slots_free : (zs : List EarlySlot) → ((s : EarlySlot) → IsListed s zs → IsListed s (copies x).slots)
      → AreFree T zs
  slots_free [] up = tt
  slots_free (s ∷ zs) up =
      let n = slots_new x s (listed_in (copies x).slots s (up s (inl refl))) in
      let far = far_written x is in (
        (
          far_free s.temporary (let a = n.0 in omega (arith, a, far)),
          far_free s.cell (let a = n.1 in omega (arith, a, far)),
        ),
        slots_free zs (λ z l. up z (inr l)),
      )

  -- ---- lines whose addresses are fetched

  pub addressed_short : (k : ℕ) (s : ℕ × Unit {0}) (js : List Instr) → length (addressed x k s js) ≤ weights T js
  addressed_short k s js =
      line_short T (end_at (phi_ends (unmarked x) T) (block_at (unmarked x) k).label) (fetched_first (unmarked x) T k)
      (block_at (unmarked x) k) (lies_outside (offsets x)) s js

  module _ (k : ℕ) (s : Placed) (low : Far x is ≤ load_name s) (i : Instr) where
    abbrev j : Instr
    j = loaded x s i

    abbrev ops : ℕ
    ops = length (instr_operands i)

    same_ops : length (instr_operands j) ≡ ops
    same_ops =
        ap length (operands_fetched t (load_name s) i) ∙ fetched_many t (load_name s) (instr_operands i)

    -- the operands, and the instruction with them
    one_short : (first : ℕ × Unit {0}) (z : Instr) → length (addressed x k first (unmarked_one x z)) ≤ weight T z
    one_short first z =
        let a = addressed_short k first (unmarked_one x z) in
        ⊎_elim
        (λ e. let b : weights T (unmarked_one x z) ≡ 0 = ap (weights T) e in omega (arith, a, b))
        (λ e. let b : weights T (unmarked_one x z) ≡ weight T (without_promise_of z) + 0 = ap (weights T) e in
        let c = promise_few T z in
        omega (arith, a, b, c)) (unmarked_one_is (marked x) z)

    -- where it may stand before begin
    abbrev Operands : Bool → Type 0
    Operands b =
        (first : ℕ × Unit {0})
        → length (loads x s i)
        + (length (if b then fetches_of_all (copies x).fetches (where_name s) (instr_operands j) else [])
        + length (addressed x k first
        (unmarked_one x (if b then with_fetched (copies x).fetches (where_name s) j else j))))
        ≤ 1 + ops + (if b then 2 * ops else 0)

    twice : Operands true
    twice first =
        let z : Instr = with_fetched (copies x).fetches (where_name s) j in
        let a = fetches_few t (load_name s) (instr_operands i) in
        let b = fetches_few (copies x).fetches (where_name s) (instr_operands j) in
        let c = one_short first z in
        let d = fetches_few T 0 (instr_operands z) in
        let e : length (instr_operands z) ≡ length (instr_operands j) =
        ap length (operands_fetched (copies x).fetches (where_name s) j)
        ∙ fetched_many (copies x).fetches (where_name s) (instr_operands j) in
        let f = same_ops in
        omega (arith, a, b, c, d, e, f)

    once : Operands false
    once first =
        let c = one_short first j in
        let d = fetched_once t T (Far x is) far_free (load_name s) 0 (instr_operands i) low in
        let e : length (fetches_of_all T 0 (instr_operands j))
        ≡ length (fetches_of_all T 0 (fetched_all t (load_name s) (instr_operands i))) =
        ap (λ (xs : List Operand). length (fetches_of_all T 0 xs)) (operands_fetched t (load_name s) i) in
        omega (arith, c, d, e)

    by_flag : (b : Bool) → Operands b
    by_flag true = twice
    by_flag false = once

    flag_few : (b a : Bool) (n : ℕ) → (if b && a then n else 0) ≤ (if a then n else 0)
    flag_few true true n = omega arith
    flag_few true false n = omega arith
    flag_few false true n = omega arith
    flag_few false false n = omega arith

    -- ---- the rest

    module _ (rows : (o : Option ℕ) → length (row_at (plan x).rows o) ≤ length (plan x).kept)
        (far : Far x is ≤ write_name s) where
      abbrev q : ℕ
      q = after_saved (write_name s) (save_row (plan x) j)

      abbrev slots : List EarlySlot
      slots = (copies x).slots

      saved_few : (first : ℕ × Unit {0})
          → length (addressed x k first (saved x s i)) ≤ 3 * length (save_row (plan x) j)
      saved_few first =
          let a = addressed_short k first (saved x s i) in
          let b = saved_weights T (Far x is) far_free (plan x).kept filler_free (write_name s) (save_row (plan x) j)
          far in
          omega (arith, a, b)

      pub copied_few : (first : ℕ × Unit {0})
          → length (addressed x k first (copied_there x s i)) ≤ (if is_begin j then 4 * length slots else 0)
      copied_few first = on (is_begin j)
        where
          on : (b : Bool) → length (addressed x k first (if b then begin_copies (copies x).slots else []))
              ≤ (if b then 4 * length (copies x).slots else 0)
          on true =
              let a = addressed_short k first (begin_copies (copies x).slots) in
              let b = copies_weights T (copies x).slots (slots_free (copies x).slots (λ z l. l)) in
              omega (arith, a, b)
          on false = omega arith

      pub stores_few : length (stores x s i) ≤ 1 + length (distance_behind x.code (plan x) q j)
      stores_few =
          let e = length-append (stored_result (plan x) (result_of j)) (distance_behind x.code (plan x) q j) in
          let a = result_short (plan x) (result_of j) in
          omega (arith, e, a)

      pub code_short : length (code_of x k s i) ≤ 2 + ops + more_of x i
      code_short =
          let one : List Instr = unmarked_one x (located x s i) in
          let first : ℕ × Unit {0} = past_addressed x k (address_state s) (saved x s i) in
          let second : ℕ × Unit {0} = past_addressed x k first one in
          let b : List Instr = addressed x k (address_state s) (saved x s i) in
          let c : List Instr = wheres x s i in
          let d : List Instr = addressed x k first one in
          let e : List Instr = addressed x k second (copied_there x s i) in
          let f : List Instr = stores x s i in
          let e1 = length-append (loads x s i) (b ++ (c ++ (d ++ (e ++ f)))) in
          let e2 = length-append b (c ++ (d ++ (e ++ f))) in
          let e3 = length-append c (d ++ (e ++ f)) in
          let e4 = length-append d (e ++ f) in
          let e5 = length-append e f in
          let h1 = by_flag (is_fetched (is_ahead s) j) first in
          let h2 = saved_few (address_state s) in
          let h3 = copied_few second in
          let h4 = stores_few in
          let h5 = flag_few (is_ahead s) (is_access j) (2 * ops) in
          let h6 = around_fits x.code (plan x) (length (plan x).kept) (length slots) rows t (load_name s) q i in
          omega (arith, e1, e2, e3, e4, e5, h1, h2, h3, h4, h5, h6)

  -- ---- at a place of a coroutine

  module _ (rows : (o : Option ℕ) → length (row_at (plan x).rows o) ≤ length (plan x).kept) where
    pub codes_short : (k at : ℕ) (i : Instr) → slice_get (instrs_at x k) at ≡ Some i
        → length (code_of x k (state_at (placed_layer x k) (instrs_at x k) at) i)
        ≤ 2 + length (instr_operands i) + more_of x i
    codes_short k at i e =
        let far = names_far x is k at in
        code_short k (state_at (placed_layer x k) (instrs_at x k) at) far.0 i rows far.1
