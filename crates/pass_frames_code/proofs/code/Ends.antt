-- What stands at the ends and fronts of blocks, in a coroutine whose frame may be built.
use Rattle.std.proofs.Common.{◌≡◌, ℕ, zero, suc, ◌+◌, ◌≤◌, Bool, true, false, List, [], ◌∷◌, ◌++◌, length, refl, ap, ◌∙◌, arith, append-nil}
use Rattle.std.specs.Prelude.{None, Option, Some, map, replicate, slice_get, take, if◌then◌else◌, ◌==◌}
use Rattle.pass_proofs.proofs.ir_laws.facts.Members.{each_joined, each_turns}
use Rattle.pass_proofs.specs.ir_model.Ty.{Ty, int, ptr}
use Rattle.pass_proofs.specs.ir_model.declared.instr.Instr.{Instr}
use Rattle.pass_proofs.specs.ir_model.declared.instr.Phi.{Phi}
use Rattle.pass_proofs.specs.ir_model.declared.instr.Terminator.{Terminator}
use Rattle.pass_proofs.specs.ir_model.declared.module.Param.{Param}
use Rattle.pass_proofs.specs.ir_model.declared.operand.Operand.{Operand}
use Rattle.pass_proofs.specs.pass_addresses.Placing.{lies_outside, stays, without_promise_of}
use Rattle.pass_proofs.specs.pass_cells.Cells.{fetches_of}
use Rattle.pass_proofs.specs.pass_cells.Moves.{address_again, again_one, again_values, load_from, store_to}
use Rattle.pass_proofs.specs.pass_cells.Written.{after_blocks as after_written, again_row, distance_alloca, distance_allocas, entry_front as cells_front, kept_allocas, link_allocas, stored, stored_params, stored_phis}
use Rattle.pass_proofs.specs.pass_cells.declared.plan.KeptValue.{KeptValue}
use Rattle.pass_proofs.specs.pass_copies.BeginCopies.{block_front, entry_front as copies_front, put, puts, slot_allocas}
use Rattle.pass_proofs.specs.pass_copies.Uses.{flag_at}
use Rattle.pass_proofs.specs.pass_copies.declared.slot.EarlySlot.{EarlySlot}
use Rattle.pass_proofs.specs.pass_fetch.Blocks.{end_at}
use Rattle.pass_proofs.specs.pass_fetch.Fetching.{fetch_into, fetches_of_all}
use Rattle.pass_proofs.specs.pass_fetch.Instrs.{fetched_term, term_operands}
use Rattle.pass_proofs.specs.pass_fetch.declared.fetch.Fetch.{Fetch}
use Rattle.pass_frames_code.proofs.code.Idle.{each_idle, only_idle}
use Rattle.pass_frames_code.proofs.code.Left.{AreFar, Far, IsCalm, all_by, blocks_by, calm_addressed, calm_copied, copied_idle, far_fetched, far_named, load_calm, load_unwritten, loads_calm, loads_unwritten, names_rise, other_copied, start_loads, start_writes, stored_calm, unmarked_idle, written_idle}
use Rattle.pass_frames_code.proofs.code.Names.{First, has_cells, new_unfetched}
use Rattle.pass_frames_code.proofs.layers.Idle.{all_stay, both_idle, state_stays}
use Rattle.pass_proofs.proofs.cells.rules.Totals.{all_rise}
use Rattle.pass_proofs.proofs.fetch.shape.Fetching.{no_rows}
use Rattle.pass_frames_code.specs.Code.{end_addresses, end_code, end_loads, end_term, front_code, front_moves, last_state, load_name, slot_table}
use Rattle.pass_frames_code.specs.Framings.{IsFraming}
use Rattle.pass_frames_code.specs.Layers.{IsIdle, each, grown, only, passed}
use Rattle.pass_frames_code.specs.Passes.{IsUnwritten, at_entry, block_at, phi_ends, unmarked_at}
use Rattle.pass_frames_code.specs.Places.{Framing, Placed, addressing_layer, celled_layer, copied_layer, copies, copying_layer, edged, fetched, instrs_at, marked, named, offsets, placed_layer, plan, unmarked, unmarked_layer, writing_layer, written}
use Rattle.pass_proofs.specs.run_laws.changed.Changed.{Each}

-- ---- addresses stay

into_outside : (offsets : List (Option ℕ)) (n : ℕ) (y : Fetch) → lies_outside offsets (fetch_into n y) ≡ true
into_outside offsets n (Fetch.Load ty cell) = refl
into_outside offsets n (Fetch.Address base distance) = refl

-- ---- lists of allocas and of moves

module _ (P : Instr → Type 0) (one : (r : ℕ) (ty : Ty) (align : ℕ) → P (Instr.Alloca r ty align)) where
  pub kept_each : (ks : List KeptValue) → Each P (kept_allocas ks)
  kept_each [] = tt
  kept_each (k ∷ ks) =
      (one _ _ _, (one _ _ _, each_joined P (distance_allocas k) (kept_allocas ks) (on k.slot) (kept_each ks)))
    where
      on : (o : Option ℕ) → Each P (distance_alloca k.field_cell k.field_ty o)
      on None = tt
      on (Some s) = (one _ _ _, tt)

  pub links_each : (first count n : ℕ) → Each P (link_allocas first count n)
  links_each first count zero = tt
  links_each first count (suc n) =
      each_joined P (link_allocas first count n) _ (links_each first count n) (one _ _ _, tt)

  pub slots_each : (ss : List EarlySlot) → Each P (slot_allocas ss)
  slots_each [] = tt
  slots_each (s ∷ ss) = (one _ _ _, (one _ _ _, slots_each ss))

-- the address so far from a slot
abbrev slot_address : ℕ → ℕ → Instr
slot_address n slot =
    Instr.Gep (n + 1) false (int 8) (Operand.Local slot) (record { ty = int 64; value = Operand.Local n } ∷ [])

puts_each : (P : Instr → Type 0) (address : EarlySlot → ℕ) → ((s : EarlySlot) → P (put (address s) s.cell))
    → (ss : List EarlySlot) → Each P (map (λ s. put (address s) s.cell) ss)
puts_each P address one [] = tt
puts_each P address one (s ∷ ss) = (one s, puts_each P address one ss)

entry_each : (P : Instr → Type 0) (k : ℕ) (js : List Instr) → Each P js → Each P (at_entry k js)
entry_each P k js h = on (k == 0)
  where
    on : (b : Bool) → Each P (if b then js else [])
    on true = h
    on false = tt

module _ (x : Framing) (is : IsFraming x) (k : ℕ) where
  -- ---- the ends of blocks

  module _ (s : Placed) (far : AreFar x is s) where
    abbrev back : List Instr
    back = end_loads x k s

    loads_by : (P : Instr → Type 0)
        → Each P (end_at (phi_ends (named x) (fetches_of (plan x))) (block_at (edged x) k).label)
        → Each P (fetches_of_all (fetches_of (plan x)) (load_name s) (term_operands (block_at (edged x) k).term))
        → Each P back
    loads_by P a b =
        each_joined P (end_at (phi_ends (named x) (fetches_of (plan x))) (block_at (edged x) k).label)
        (fetches_of_all (fetches_of (plan x)) (load_name s) (term_operands (block_at (edged x) k).term)) a b

    back_calm : Each (IsCalm x is) back
    back_calm =
        loads_by (IsCalm x is)
        (blocks_by (fetches_of (plan x)) (IsCalm x is) (Far x is) (load_calm x is) (length (named x).names)
        (replicate (length (named x).names) []) (named x).blocks (far_named x is)
        (no_rows (fetches_of (plan x)) (IsCalm x is) (length (named x).names)) (block_at (edged x) k).label)
        (loads_calm x is (load_name s) (term_operands (block_at (edged x) k).term) far.0)

    back_unwritten : Each (IsUnwritten (plan x)) back
    back_unwritten =
        loads_by (IsUnwritten (plan x))
        (blocks_by (fetches_of (plan x)) (IsUnwritten (plan x)) (Far x is) (load_unwritten x is)
        (length (named x).names) (replicate (length (named x).names) []) (named x).blocks (far_named x is)
        (no_rows (fetches_of (plan x)) (IsUnwritten (plan x)) (length (named x).names)) (block_at (edged x) k).label)
        (loads_unwritten x is (load_name s) (term_operands (block_at (edged x) k).term) far.0)

    celled_back : (celled_layer x k).back s.0.0.0 ≡ back
    celled_back =
        append-nil (grown (writing_layer x k) s.0.0.0.1 back)
        ∙ all_stay (writing_layer x k) back
        (each_turns (IsUnwritten (plan x)) (IsIdle (writing_layer x k)) (written_idle x is k) back back_unwritten)
        s.0.0.0.1

    copied_back : (copied_layer x k).back s.0.0 ≡ back
    copied_back =
        append-nil (grown (copying_layer x k) s.0.0.1 ((celled_layer x k).back s.0.0.0))
        ∙ ap (grown (copying_layer x k) s.0.0.1) celled_back
        ∙ all_stay (copying_layer x k) back
        (each_turns (IsCalm x is) (IsIdle (copying_layer x k)) (calm_copied x is k) back back_calm) s.0.0.1

    unmarked_back : (unmarked_layer x k).back s.0 ≡ back
    unmarked_back =
        append-nil (grown (unmarked_at (marked x)) s.0.1 ((copied_layer x k).back s.0.0))
        ∙ ap (grown (unmarked_at (marked x)) s.0.1) copied_back
        ∙ all_stay (unmarked_at (marked x)) back
        (each_turns (IsCalm x is) (IsIdle (unmarked_at (marked x))) (λ j c. unmarked_idle x is j c.0) back back_calm)
        s.0.1

    back_addressed : Each (IsIdle (addressing_layer x k)) back
    back_addressed = each_turns (IsCalm x is) (IsIdle (addressing_layer x k)) (calm_addressed x is k) back back_calm

    addressed_past : passed (addressing_layer x k) s.1 ((unmarked_layer x k).back s.0) ≡ s.1
    addressed_past =
        ap (passed (addressing_layer x k) s.1) unmarked_back ∙ state_stays (addressing_layer x k) back
        back_addressed s.1

    ends_outside : Each (λ (j : Instr). lies_outside (offsets x) j ≡ true) (end_addresses x k s)
    ends_outside =
        each_joined (λ (j : Instr). lies_outside (offsets x) j ≡ true)
        (end_at (phi_ends (unmarked x) (slot_table x)) (block_at (unmarked x) k).label)
        (fetches_of_all (slot_table x) s.1.0 (term_operands (block_at (unmarked x) k).term))
        (blocks_by (slot_table x) (λ (j : Instr). lies_outside (offsets x) j ≡ true) 0
        (λ n y f low e. into_outside (offsets x) n f) (length (unmarked x).names)
        (replicate (length (unmarked x).names) []) (unmarked x).blocks (omega arith)
        (no_rows (slot_table x) (λ (j : Instr). lies_outside (offsets x) j ≡ true) (length (unmarked x).names))
        (block_at (unmarked x) k).label)
        (all_by (slot_table x) (λ (j : Instr). lies_outside (offsets x) j ≡ true) 0
        (λ n y f low e. into_outside (offsets x) n f) s.1.0 (term_operands (block_at (unmarked x) k).term)
        (omega arith))

    addressed_back : (addressing_layer x k).back s.1 ≡ end_addresses x k s
    addressed_back =
        append-nil (grown (only (lies_outside (offsets x))) s.1.1 (end_addresses x k s))
        ∙ all_stay (only (lies_outside (offsets x))) (end_addresses x k s)
        (each_turns (λ (j : Instr). lies_outside (offsets x) j ≡ true) (IsIdle (only (lies_outside (offsets x))))
        (only_idle (lies_outside (offsets x))) (end_addresses x k s) ends_outside) s.1.1

    pub back_is : (placed_layer x k).back s ≡ end_code x k s
    back_is =
        (λ j. grown (addressing_layer x k) s.1 (unmarked_back j) ++ (addressing_layer x k).back (addressed_past j))
        ∙ (λ j. all_stay (addressing_layer x k) back back_addressed s.1 j ++ addressed_back j)

    pub term_is : (t : Terminator) → (placed_layer x k).term s t ≡ end_term x s t
    term_is t =
        ap (λ (y : ℕ × Unit {0}).
        fetched_term (slot_table x) y.0 (fetched_term (fetches_of (plan x)) (load_name s) t)) addressed_past

  pub last_far : AreFar x is (last_state x k)
  last_far = names_rise x is k (placed_layer x k).start (instrs_at x k) (start_loads x is k, start_writes x is k)

  -- ---- the fronts of blocks

  module _ (P : Instr → Type 0)
      (one : (n at : ℕ) (v : KeptValue) → First x is ≤ n → slice_get (plan x).kept at ≡ Some v
      → Each P (again_one n (Some v))) where
    again_each : (n : ℕ) (rows : List ℕ) → First x is ≤ n → Each P (again_values (plan x).kept n rows)
    again_each n [] low = tt
    again_each n (at ∷ rows) low =
        each_joined P (again_one n (slice_get (plan x).kept at)) (again_values (plan x).kept (n + 2) rows)
        (on (slice_get (plan x).kept at) refl) (again_each (n + 2) rows (omega (arith, low)))
      where
        on : (o : Option KeptValue) → slice_get (plan x).kept at ≡ o → Each P (again_one n o)
        on None e = tt
        on (Some v) e = one n at v low e

  one_copied : (n at : ℕ) (v : KeptValue) → First x is ≤ n → slice_get (plan x).kept at ≡ Some v
      → Each (IsIdle (copying_layer x k)) (again_one n (Some v))
  one_copied n at v low e =
      let c = has_cells x is at v e in (
        copied_idle x is k (load_from n v.field_ty v.field) tt (new_unfetched x is v.field c.field, tt),
        (
          copied_idle x is k (store_to v.field_ty n v.field_cell) tt
              (new_unfetched x is n low, (new_unfetched x is v.field_cell c.field_cell, tt)),
          on v.slot,
        ),
      )
    where
      on : (o : Option ℕ) → Each (IsIdle (copying_layer x k)) (address_again n v.cell o)
      on None = tt
      on (Some slot) =
          let c = has_cells x is at v e in (
            other_copied x is k (slot_address n slot) refl refl,
            (
              copied_idle x is k (store_to ptr (n + 1) v.cell) tt
                  (new_unfetched x is (n + 1) (omega (arith, low)), (new_unfetched x is v.cell c.cell, tt)),
              tt,
            ),
          )

  one_unmarked : (n at : ℕ) (v : KeptValue) → First x is ≤ n → slice_get (plan x).kept at ≡ Some v
      → Each (IsIdle (unmarked_at (marked x))) (again_one n (Some v))
  one_unmarked n at v low e = (
    unmarked_idle x is (load_from n v.field_ty v.field) tt,
    (unmarked_idle x is (store_to v.field_ty n v.field_cell) tt, on v.slot),
  )
    where
      on : (o : Option ℕ) → Each (IsIdle (unmarked_at (marked x))) (address_again n v.cell o)
      on None = tt
      on (Some slot) =
          (unmarked_idle x is (slot_address n slot) tt, (unmarked_idle x is (store_to ptr (n + 1) v.cell) tt, tt))

  calm_list : (P : Instr → Type 0) → ((j : Instr) → IsCalm x is j → P j) → (v : ℕ) → Each P (stored (plan x) v)
  calm_list P turns v = each_turns (IsCalm x is) P turns (stored (plan x) v) (stored_calm x is v)

  pub params_each : (P : Instr → Type 0) → ((j : Instr) → IsCalm x is j → P j) → (ps : List Param)
      → Each P (stored_params (plan x) ps)
  params_each P turns [] = tt
  params_each P turns (p ∷ ps) =
      each_joined P (stored (plan x) p.name) (stored_params (plan x) ps) (calm_list P turns p.name)
      (params_each P turns ps)

  pub phis_each : (P : Instr → Type 0) → ((j : Instr) → IsCalm x is j → P j) → (ps : List Phi)
      → Each P (stored_phis (plan x) ps)
  phis_each P turns [] = tt
  phis_each P turns (p ∷ ps) =
      each_joined P (stored (plan x) p.result) (stored_phis (plan x) ps) (calm_list P turns p.result)
      (phis_each P turns ps)

  -- what the first passes put in front, where allocas, calm moves and loads of fields pass
  written_front : (P : Instr → Type 0) → ((r : ℕ) (ty : Ty) (align : ℕ) → P (Instr.Alloca r ty align))
      → ((j : Instr) → IsCalm x is j → P j)
      → ((n at : ℕ) (v : KeptValue) → First x is ≤ n → slice_get (plan x).kept at ≡ Some v
      → Each P (again_one n (Some v)))
      → Each P (writing_layer x k).front
  written_front P alloca calm again =
      let first : ℕ = after_written x.code (plan x) (length (fetched x).names) (take k (fetched x).blocks) in
      let low : Far x is ≤ length (fetched x).names = far_fetched x is in
      let up : length (fetched x).names ≤ first =
      all_rise 0 x.code (plan x) (length (fetched x).names) (take k (fetched x).blocks) in
      each_joined P
      (at_entry k (cells_front (plan x) (edged x).params)
      ++ again_values (plan x).kept first (again_row (plan x) (block_at (fetched x) k).label))
      (stored_phis (plan x) (block_at (fetched x) k).phis)
      (each_joined P (at_entry k (cells_front (plan x) (edged x).params))
      (again_values (plan x).kept first (again_row (plan x) (block_at (fetched x) k).label))
      (entry_each P k (cells_front (plan x) (edged x).params)
      (each_joined P
      (kept_allocas (plan x).kept ++ link_allocas (plan x).first (length (plan x).kept) (plan x).links)
      (stored_params (plan x) (edged x).params)
      (each_joined P (kept_allocas (plan x).kept)
      (link_allocas (plan x).first (length (plan x).kept) (plan x).links) (kept_each P alloca (plan x).kept)
      (links_each P alloca (plan x).first (length (plan x).kept) (plan x).links))
      (params_each P calm (edged x).params)))
      (again_each P again first (again_row (plan x) (block_at (fetched x) k).label) (omega (arith, low, up))))
      (phis_each P calm (block_at (fetched x) k).phis)

  front_copied : Each (IsIdle (copying_layer x k)) (writing_layer x k).front
  front_copied =
      written_front (IsIdle (copying_layer x k)) (λ r ty align. other_copied x is k (Instr.Alloca r ty align)
      refl refl)
      (calm_copied x is k) one_copied

  alloca_unmarked : (r : ℕ) (ty : Ty) (align : ℕ) → IsIdle (unmarked_at (marked x)) (Instr.Alloca r ty align)
  alloca_unmarked r ty align =
      both_idle (only (stays (marked x))) (each without_promise_of) (Instr.Alloca r ty align)
      (only_idle (stays (marked x)) (Instr.Alloca r ty align) refl)
      (each_idle without_promise_of (Instr.Alloca r ty align) refl)

  copied_front : Each (IsIdle (unmarked_at (marked x))) (copying_layer x k).front
  copied_front =
      let P : Instr → Type 0 = IsIdle (unmarked_at (marked x)) in
      let ss : List EarlySlot = (copies x).slots in
      each_joined P (at_entry k (copies_front ss)) (block_front (copies x) (block_at (written x) k).label)
      (entry_each P k (copies_front ss)
      (each_joined P (slot_allocas ss) _ (slots_each P alloca_unmarked ss)
      (puts_each P (λ s. s.temporary) (λ s. unmarked_idle x is (put s.temporary s.cell) tt) ss)))
      (on (flag_at (copies x).resumed (block_at (written x) k).label))
    where
      on : (b : Bool) → Each (IsIdle (unmarked_at (marked x))) (if b then puts (copies x).slots else [])
      on true =
          puts_each (IsIdle (unmarked_at (marked x))) (λ s. s.slot) (λ s. unmarked_idle x is (put s.slot s.cell) tt)
          (copies x).slots
      on false = tt

  front_unmarked : Each (IsIdle (unmarked_at (marked x))) (front_moves x k)
  front_unmarked =
      each_joined (IsIdle (unmarked_at (marked x))) (copying_layer x k).front (writing_layer x k).front copied_front
      (written_front (IsIdle (unmarked_at (marked x))) alloca_unmarked (λ j c. unmarked_idle x is j c.0) one_unmarked)

  celled_front : (celled_layer x k).front ≡ (writing_layer x k).front
  celled_front = append-nil (writing_layer x k).front

  both_front : (copied_layer x k).front ≡ front_moves x k
  both_front =
      ap (λ (js : List Instr). (copying_layer x k).front ++ grown (copying_layer x k) (copying_layer x k).start js)
      celled_front
      ∙ ap (λ (js : List Instr). (copying_layer x k).front ++ js)
      (all_stay (copying_layer x k) (writing_layer x k).front front_copied (copying_layer x k).start)

  pub unmarked_front : (unmarked_layer x k).front ≡ front_moves x k
  unmarked_front =
      ap (grown (unmarked_at (marked x)) (tt, tt)) both_front
      ∙ all_stay (unmarked_at (marked x)) (front_moves x k) front_unmarked (tt, tt)

  pub front_is : (placed_layer x k).front ≡ front_code x k
  front_is = ap (grown (addressing_layer x k) (addressing_layer x k).start) unmarked_front
