-- The passes that build frames put in no structure: what they put in leads through bytes alone.
use Rattle.std.proofs.Common.{ℕ, zero, suc, ◌+◌, Bool, true, false, List, [], ◌∷◌, ◌++◌, length, replicate, subst, sym}
use Rattle.std.specs.Prelude.{None, Option, Some, codes, filter, if◌then◌else◌, map, slice_get}
use Rattle.compiler_theorem.proofs.parts.Fetched.{block_fetched, first_ends, one_fetched}
use Rattle.compiler_theorem.specs.narrow.Narrow.{IsNarrowBlock, IsNarrowFunction, IsNarrowInstr}
use Rattle.compiler.specs.frame_classes.declared.class.SlotClass.{SlotClass}
use Rattle.compiler.specs.frame_contents.declared.contents.Contents.{Contents}
use Rattle.compiler.specs.frame_layout.declared.layout.Layout.{Layout}
use Rattle.compiler.proofs.ir_laws.facts.Members.{each_filtered, each_joined, each_mapped}
use Rattle.compiler.specs.ir_model.Ty.{Ty, int}
use Rattle.compiler.specs.ir_model.declared.instr.Instr.{Instr}
use Rattle.compiler.specs.ir_model.declared.instr.Phi.{Phi}
use Rattle.compiler.specs.ir_model.declared.module.Block.{Block}
use Rattle.compiler.specs.ir_model.declared.module.Function.{Function}
use Rattle.compiler.specs.ir_model.declared.module.Module.{Module}
use Rattle.compiler.specs.ir_model.declared.module.Param.{Param}
use Rattle.compiler.specs.ir_model.declared.operand.Arg.{Arg}
use Rattle.compiler.specs.ir_model.declared.operand.Callee.{Callee}
use Rattle.compiler.specs.ir_model.declared.operand.Intrinsic.{Intrinsic}
use Rattle.compiler.specs.ir_model.declared.operand.Operand.{Operand}
use Rattle.compiler.specs.ir_base.declared.ops.CastOp.{CastOp}
use Rattle.compiler.specs.ir_parts.Contents.{result_of}
use Rattle.compiler.specs.pass_addresses.Placing.{lies_outside, slot_fetches, stays, turned_block, with_frame_addresses, without_markers, without_promise, without_promise_of}
use Rattle.compiler.specs.pass_cells.Cells.{fetched_function, fetches_of as cell_fetches, named_function, with_cells, written_function}
use Rattle.compiler.specs.pass_cells.Kept.{entry}
use Rattle.compiler.specs.pass_cells.Links.{link_name}
use Rattle.compiler.specs.pass_cells.Moves.{address_again, after_again, after_saved, again_one, again_values, cell_alloca, saved_one, saved_values}
use Rattle.compiler.specs.pass_cells.Plan.{plan_of}
use Rattle.compiler.specs.pass_cells.Written.{after_block as after_written, after_one, again_row, distance_alloca, distance_allocas, distance_behind, distance_from, distance_into, entry_blocks, entry_front, kept_allocas, link_allocas, save_row, stored, stored_at, stored_one, stored_params, stored_phis, stored_result, written_block, written_blocks, written_instrs, written_one}
use Rattle.compiler.specs.pass_cells.declared.plan.KeptValue.{KeptValue}
use Rattle.compiler.specs.pass_cells.declared.plan.Plan.{Plan}
use Rattle.compiler.specs.pass_copies.BeginCopies.{after_block as after_copied, after_instr as after_copied_instr, begin_copies, block_front, copied_block, copied_blocks, copied_instr, copied_instrs, copying_of, entry_front as copies_front, is_fetched, puts, slot_allocas, with_begin_copies}
use Rattle.compiler.specs.pass_copies.BeginCopies as copies
use Rattle.compiler.specs.pass_copies.Slots.{early_slots}
use Rattle.compiler.specs.pass_copies.Uses.{flag_at, is_begin, still_before, used_before}
use Rattle.compiler.specs.pass_copies.declared.copying.Copying.{Copying}
use Rattle.compiler.specs.pass_copies.declared.slot.EarlySlot.{EarlySlot}
use Rattle.compiler.specs.pass_distances.Sums.{distance_instrs, is_wide, start_instrs, start_value, sum_instrs, way_instrs, widening}
use Rattle.compiler.specs.pass_distances.Ways.{ways_of}
use Rattle.compiler.specs.pass_distances.declared.way.Way.{Way}
use Rattle.compiler.specs.pass_edges.EdgeBlocks.{edge_block, split_blocks, with_edge_blocks}
use Rattle.compiler.specs.pass_edges.Edges.{block_edges, edge_table, edges_of, phi_flags}
use Rattle.compiler.specs.pass_edges.declared.edge.Edge.{Edge}
use Rattle.compiler.specs.pass_exits.ExitBlocks.{blocks_by, exit_blocks, with_exit_blocks}
use Rattle.compiler.specs.pass_exits.Exits.{block_exits}
use Rattle.compiler.specs.pass_exits.declared.exit.Exit.{Exit}
use Rattle.compiler.specs.pass_fetch.Blocks.{ends_of_blocks, fetched_blocks, next_after_block, next_after_phis, next_after_phis_by, with_fetches}
use Rattle.compiler.specs.pass_fetch.Fetching.{fetch_into}
use Rattle.compiler.specs.pass_fetch.Instrs.{fetched_instr, with_fetched}
use Rattle.compiler.specs.pass_fetch.declared.fetch.Fetch.{Fetch}
use Rattle.compiler.specs.pass_frames.Framed.{IsFramedCoroutine, begin_block, begin_of, celled, copied, offsets_of, placed}
use Rattle.compiler.specs.pass_frames.Tables.{class_flags, label_flags, sizes_by_name}
use Rattle.compiler.specs.pass_front.Front.{is_alloca, is_no_alloca, with_allocas_first}
use Rattle.compiler.specs.run_laws.changed.Changed.{Each}

module _ (bound : ℕ) where
  abbrev All : List Instr → Type 0
  All is = Each (IsNarrowInstr bound) is

  both : (xs ys : List Instr) → All xs → All ys → All (xs ++ ys)
  both xs ys h k = each_joined (IsNarrowInstr bound) xs ys h k

  -- ---- fetches

  into_narrow : (n : ℕ) (f : Fetch) → IsNarrowInstr bound (fetch_into n f)
  into_narrow n (Fetch.Load ty cell) = tt
  into_narrow n (Fetch.Address base distance) = tt

  with_narrow : (t : List (Option Fetch)) (n : ℕ) (i : Instr) → IsNarrowInstr bound i
      → IsNarrowInstr bound (with_fetched t n i)
  with_narrow t n (Instr.Gep r inbounds ty base indices) h = h
  with_narrow t n (Instr.Binary r op flags ty a b) h = tt
  with_narrow t n (Instr.Icmp r pred ty a b) h = tt
  with_narrow t n (Instr.Select r c a b) h = tt
  with_narrow t n (Instr.Cast r op nneg arg to) h = tt
  with_narrow t n (Instr.Alloca r ty align) h = tt
  with_narrow t n (Instr.Load r ty p align) h = tt
  with_narrow t n (Instr.Store arg p align) h = tt
  with_narrow t n (Instr.Call r must_tail ty c args) h = tt

  one_narrow_fetched : (t : List (Option Fetch)) (n : ℕ) (i : Instr) → IsNarrowInstr bound i → All (fetched_instr t n i)
  one_narrow_fetched t n i h = one_fetched (IsNarrowInstr bound) into_narrow with_narrow t n i h

  blocks_fetched : (t : List (Option Fetch)) (ends : List (List Instr)) (m n : ℕ) (bs : List Block) → Each All ends
      → Each (IsNarrowBlock bound) bs → Each (IsNarrowBlock bound) (fetched_blocks t ends m n bs)
  blocks_fetched t ends m n [] e h = tt
  blocks_fetched t ends m n (b ∷ bs) e h = (
    block_fetched (IsNarrowInstr bound) into_narrow with_narrow t ends m n b e h.0,
    blocks_fetched t ends (next_after_phis t m b.phis) (next_after_block t n b) bs e h.1,
  )

  pub fetches_narrow : (t : List (Option Fetch)) (f : Function) (word : List ℕ) → IsNarrowFunction bound f
      → IsNarrowFunction bound (with_fetches f t word)
  fetches_narrow t f word h =
      let first : ℕ = length f.names in
      blocks_fetched t (ends_of_blocks t first (replicate first []) f.blocks) first (next_after_phis_by t first f.blocks)
      f.blocks (first_ends (IsNarrowInstr bound) into_narrow with_narrow t first f.blocks) h

  -- ---- cells

  saved_one_narrow : (n : ℕ) (o : Option KeptValue) → All (saved_one n o)
  saved_one_narrow n None = tt
  saved_one_narrow n (Some k) = (tt, (tt, tt))

  again_address : (n cell : ℕ) (o : Option ℕ) → All (address_again n cell o)
  again_address n cell None = tt
  again_address n cell (Some slot) = (tt, (tt, tt))

  again_one_narrow : (n : ℕ) (o : Option KeptValue) → All (again_one n o)
  again_one_narrow n None = tt
  again_one_narrow n (Some k) = (tt, (tt, again_address n k.cell k.slot))

  module _ (kept : List KeptValue) where
    saved_narrow : (n : ℕ) (ks : List ℕ) → All (saved_values kept n ks)
    saved_narrow n [] = tt
    saved_narrow n (k ∷ ks) =
        both (saved_one n (slice_get kept k)) (saved_values kept (n + 1) ks) (saved_one_narrow n (slice_get kept k))
        (saved_narrow (n + 1) ks)

    again_narrow : (n : ℕ) (ks : List ℕ) → All (again_values kept n ks)
    again_narrow n [] = tt
    again_narrow n (k ∷ ks) =
        both (again_one n (slice_get kept k)) (again_values kept (n + 2) ks) (again_one_narrow n (slice_get kept k))
        (again_narrow (n + 2) ks)

    stored_one_narrow : (v : ℕ) (o : Option KeptValue) → All (stored_one v o)
    stored_one_narrow v None = tt
    stored_one_narrow v (Some k) = (tt, tt)

    stored_at_narrow : (v : ℕ) (o : Option ℕ) → All (stored_at kept v o)
    stored_at_narrow v None = tt
    stored_at_narrow v (Some k) = stored_one_narrow v (slice_get kept k)

  -- distances are numbers

  widening_narrow : (n : ℕ) (a : Arg) → All (widening n a)
  widening_narrow n a = on (is_wide a.ty)
    where
      on : (b : Bool) → All (if b then [] else Instr.Cast n CastOp.Sext false a (int 64) ∷ [])
      on true = tt
      on false = (tt, tt)

  way_narrow : (n : ℕ) (x : Operand) (w : Way) → All (way_instrs n x w)
  way_narrow n x (Way.Bytes bytes) = (tt, tt)
  way_narrow n x (Way.Elements a size) = both (widening n a) _ (widening_narrow n a) (tt, (tt, tt))

  sums_narrow : (n : ℕ) (x : Operand) (ws : List Way) → All (sum_instrs n x ws)
  sums_narrow n x [] = tt
  sums_narrow n x (w ∷ ws) =
      both (way_instrs n x w) (sum_instrs (n + 3) (Operand.Local (n + 2)) ws) (way_narrow n x w)
      (sums_narrow (n + 3) (Operand.Local (n + 2)) ws)

  start_narrow : (n : ℕ) (o : Option ℕ) → All (start_instrs n o)
  start_narrow n None = tt
  start_narrow n (Some cell) = (tt, tt)

  distance_narrow : (n : ℕ) (o : Option ℕ) (cell : ℕ) (ws : List Way) → All (distance_instrs n o cell ws)
  distance_narrow n o cell ws =
      let sums : List Instr = sum_instrs (n + 1) (start_value n o) ws in
      both (start_instrs n o ++ sums) _
      (both (start_instrs n o) sums (start_narrow n o) (sums_narrow (n + 1) (start_value n o) ws)) (tt, tt)

  into_cell_narrow : (m : Module) (from : Option ℕ) (n : ℕ) (o : Option ℕ) (t : Ty) (args : List Arg)
      → All (distance_into m from n o t args)
  into_cell_narrow m from n None t args = tt
  into_cell_narrow m from n (Some cell) t args = distance_narrow n from cell (ways_of m t args)

  module _ (m : Module) (p : Plan) where
    behind_narrow : (n : ℕ) (i : Instr) → All (distance_behind m p n i)
    behind_narrow n (Instr.Gep r inbounds ty base indices) =
        into_cell_narrow m (distance_from p r) n (entry p.cells r) ty indices
    behind_narrow n (Instr.Binary r op flags ty left right) = tt
    behind_narrow n (Instr.Icmp r pred ty left right) = tt
    behind_narrow n (Instr.Select r c a b) = tt
    behind_narrow n (Instr.Cast r op nneg arg to) = tt
    behind_narrow n (Instr.Alloca r ty align) = tt
    behind_narrow n (Instr.Load r ty address align) = tt
    behind_narrow n (Instr.Store arg address align) = tt
    behind_narrow n (Instr.Call r must_tail ty callee args) = tt

    stored_narrow : (v : ℕ) → All (stored p v)
    stored_narrow v = stored_at_narrow p.kept v (entry p.places v)

    stored_result_narrow : (o : Option ℕ) → All (stored_result p o)
    stored_result_narrow None = tt
    stored_result_narrow (Some v) = stored_narrow v

    one_narrow : (n : ℕ) (i : Instr) → IsNarrowInstr bound i → All (written_one m p n i)
    one_narrow n i h =
        let saved : List Instr = saved_values p.kept n (save_row p i) in
        let next : ℕ = after_saved n (save_row p i) in
        both (saved ++ i ∷ stored_result p (result_of i)) (distance_behind m p next i)
        (both saved (i ∷ stored_result p (result_of i)) (saved_narrow p.kept n (save_row p i))
        (h, stored_result_narrow (result_of i))) (behind_narrow next i)

    instrs_narrow : (n : ℕ) (is : List Instr) → All is → All (written_instrs m p n is)
    instrs_narrow n [] h = tt
    instrs_narrow n (i ∷ is) h =
        both (written_one m p n i) (written_instrs m p (after_one m p n i) is) (one_narrow n i h.0)
        (instrs_narrow (after_one m p n i) is h.1)

    phis_narrow : (xs : List Phi) → All (stored_phis p xs)
    phis_narrow [] = tt
    phis_narrow (x ∷ xs) = both (stored p x.result) (stored_phis p xs) (stored_narrow x.result) (phis_narrow xs)

    params_narrow : (xs : List Param) → All (stored_params p xs)
    params_narrow [] = tt
    params_narrow (x ∷ xs) = both (stored p x.name) (stored_params p xs) (stored_narrow x.name) (params_narrow xs)

    block_narrow : (front : List Instr) (n : ℕ) (b : Block) → All front → IsNarrowBlock bound b
        → IsNarrowBlock bound (written_block m p front n b)
    block_narrow front n b f h =
        let row : List ℕ = again_row p b.label in
        let again : List Instr = again_values p.kept n row in
        let own : List Instr = written_instrs m p (after_again n row) b.instrs in
        both ((front ++ again) ++ stored_phis p b.phis) own
        (both (front ++ again) (stored_phis p b.phis) (both front again f (again_narrow p.kept n row))
        (phis_narrow b.phis)) (instrs_narrow (after_again n row) b.instrs h)

    blocks_narrow : (n : ℕ) (bs : List Block) → Each (IsNarrowBlock bound) bs
        → Each (IsNarrowBlock bound) (written_blocks m p n bs)
    blocks_narrow n [] h = tt
    blocks_narrow n (b ∷ bs) h = (block_narrow [] n b tt h.0, blocks_narrow (after_written m p n b) bs h.1)

    entry_narrow : (front : List Instr) (n : ℕ) (bs : List Block) → All front → Each (IsNarrowBlock bound) bs
        → Each (IsNarrowBlock bound) (entry_blocks m p front n bs)
    entry_narrow front n [] f h = tt
    entry_narrow front n (b ∷ bs) f h = (block_narrow front n b f h.0, blocks_narrow (after_written m p n b) bs h.1)

    cell_narrow : (cell : ℕ) (t : Ty) (o : Option ℕ) → All (distance_alloca cell t o)
    cell_narrow cell t None = tt
    cell_narrow cell t (Some slot) = (tt, tt)

    kept_narrow : (ks : List KeptValue) → All (kept_allocas ks)
    kept_narrow [] = tt
    kept_narrow (k ∷ ks) =
        (tt, (tt, both (distance_allocas k) (kept_allocas ks) (cell_narrow k.field_cell k.field_ty k.slot) (kept_narrow ks)))

    links_narrow : (first count links : ℕ) → All (link_allocas first count links)
    links_narrow first count zero = tt
    links_narrow first count (suc i) =
        both (link_allocas first count i) (cell_alloca (link_name first count i) (int 64) ∷ [])
        (links_narrow first count i) (tt, tt)

    front_narrow : (params : List Param) → All (entry_front p params)
    front_narrow params =
        let links : List Instr = link_allocas p.first (length p.kept) p.links in
        both (kept_allocas p.kept ++ links) (stored_params p params)
        (both (kept_allocas p.kept) links (kept_narrow p.kept) (links_narrow p.first (length p.kept) p.links))
        (params_narrow params)

    fetched_narrow : (f : Function) → IsNarrowFunction bound f → IsNarrowFunction bound (fetched_function p f)
    unfolding fetched_function
    fetched_narrow f h = fetches_narrow (cell_fetches p) (named_function p f) (codes "$c.use.") h

    written_narrow : (f : Function) → IsNarrowFunction bound f → IsNarrowFunction bound (written_function m p f)
    written_narrow f h = entry_narrow (entry_front p f.params) (length f.names) f.blocks (front_narrow f.params) h

  pub cells_narrow : (m : Module) (f : Function) (crossing : List (ℕ × ℕ)) (local : List Bool)
      → IsNarrowFunction bound f → IsNarrowFunction bound (with_cells m f crossing local)
  cells_narrow m f crossing local h =
      let p : Plan = plan_of f crossing local in written_narrow m p (fetched_function p f) (fetched_narrow m p f h)

  -- ---- copies at begin

  allocas_narrow : (ss : List EarlySlot) → All (slot_allocas ss)
  allocas_narrow [] = tt
  allocas_narrow (s ∷ ss) = (tt, (tt, allocas_narrow ss))

  put_narrow : (at : EarlySlot → ℕ) (ss : List EarlySlot) → All (map (λ s. copies.put (at s) s.cell) ss)
  put_narrow at [] = tt
  put_narrow at (s ∷ ss) = (tt, put_narrow at ss)

  behind_begin : (ss : List EarlySlot) → All (begin_copies ss)
  behind_begin [] = tt
  behind_begin (s ∷ ss) = (tt, (tt, behind_begin ss))

  module _ (c : Copying) where
    behind_one : (b : Bool) → All (if b then begin_copies c.slots else [])
    behind_one true = behind_begin c.slots
    behind_one false = tt

    fetched_one : (n : ℕ) (i : Instr) (b : Bool) → IsNarrowInstr bound i
        → All (if b then fetched_instr c.fetches n i else i ∷ [])
    fetched_one n i true h = one_narrow_fetched c.fetches n i h
    fetched_one n i false h = (h, tt)

    copied_narrow : (before : Bool) (n : ℕ) (is : List Instr) → All is → All (copied_instrs c before n is)
    copied_narrow before n [] h = tt
    copied_narrow before n (i ∷ is) h =
        both (copied_instr c before n i) (copied_instrs c (still_before before i) (after_copied_instr c before n i) is)
        (both (if is_fetched before i then fetched_instr c.fetches n i else i ∷ []) (copies.behind c i)
        (fetched_one n i (is_fetched before i) h.0) (behind_one (is_begin i)))
        (copied_narrow (still_before before i) (after_copied_instr c before n i) is h.1)

    front_of_block : (b : Bool) → All (if b then puts c.slots else [])
    front_of_block true = put_narrow (λ s. s.slot) c.slots
    front_of_block false = tt

    one_copied : (before : List Bool) (front : List Instr) (n : ℕ) (b : Block) → All front → IsNarrowBlock bound b
        → IsNarrowBlock bound (copied_block c before front n b)
    one_copied before front n b f h =
        both (front ++ block_front c b.label) (copied_instrs c (flag_at before b.label) n b.instrs)
        (both front (block_front c b.label) f (front_of_block (flag_at c.resumed b.label)))
        (copied_narrow (flag_at before b.label) n b.instrs h)

    blocks_copied : (before : List Bool) (front : List Instr) (n : ℕ) (bs : List Block) → All front
        → Each (IsNarrowBlock bound) bs → Each (IsNarrowBlock bound) (copied_blocks c before front n bs)
    blocks_copied before front n [] f h = tt
    blocks_copied before front n (b ∷ bs) f h =
        (one_copied before front n b f h.0, blocks_copied before [] (after_copied c before n b) bs tt h.1)

  pub copies_narrow : (f : Function) (slots before : List Bool) (sizes : List ℕ) → IsNarrowFunction bound f
      → IsNarrowFunction bound (with_begin_copies f slots before sizes)
  copies_narrow f slots before sizes h =
      let c : Copying = copying_of f (early_slots f (used_before f slots before) sizes) in
      blocks_copied c before (copies_front c.slots) (copies.first_fetched f c) f.blocks
      (both (slot_allocas c.slots) _ (allocas_narrow c.slots) (put_narrow (λ s. s.temporary) c.slots)) h

  -- ---- addresses in frames

  turned_narrow : (turned : List Instr → List Instr) → ((is : List Instr) → All is → All (turned is)) → (bs : List Block)
      → Each (IsNarrowBlock bound) bs → Each (IsNarrowBlock bound) (map (turned_block turned) bs)
  turned_narrow turned go bs h =
      each_mapped (IsNarrowBlock bound) (IsNarrowBlock bound) (turned_block turned) (λ b k. go b.instrs k) bs h

  called_null : (r : Option ℕ) (must_tail : Bool) (ty : Option Ty) (callee : Callee) (args : List Arg)
      → IsNarrowInstr bound (without_promise_of (Instr.Call r must_tail ty callee args))
  called_null r must_tail ty (Callee.Intrinsic Intrinsic.CoroId) args = tt
  called_null r must_tail ty (Callee.Intrinsic x) args = tt
  called_null r must_tail ty (Callee.Named x) args = tt
  called_null r must_tail ty (Callee.Allocator x) args = tt
  called_null r must_tail ty (Callee.Local x) args = tt

  no_promise : (i : Instr) → IsNarrowInstr bound i → IsNarrowInstr bound (without_promise_of i)
  no_promise (Instr.Gep r inbounds ty base indices) h = h
  no_promise (Instr.Binary r op flags ty left right) h = tt
  no_promise (Instr.Icmp r pred ty left right) h = tt
  no_promise (Instr.Select r c a b) h = tt
  no_promise (Instr.Cast r op nneg arg to) h = tt
  no_promise (Instr.Alloca r ty align) h = tt
  no_promise (Instr.Load r ty address align) h = tt
  no_promise (Instr.Store arg address align) h = tt
  no_promise (Instr.Call r must_tail ty callee args) h = called_null r must_tail ty callee args

  pub addresses_narrow : (f : Function) (begin : ℕ) (offsets : List (Option ℕ)) (marked : List Bool)
      → IsNarrowFunction bound f → IsNarrowFunction bound (with_frame_addresses f begin offsets marked)
  addresses_narrow f begin offsets marked h =
      let unmarked : Function = without_promise (without_markers marked f) in
      let first = turned_narrow (filter (stays marked))
      (λ is k. each_filtered (IsNarrowInstr bound) (stays marked) is k) f.blocks h in
      let second = turned_narrow (map without_promise_of)
      (λ is k. each_mapped (IsNarrowInstr bound) (IsNarrowInstr bound) without_promise_of no_promise is k)
      (without_markers marked f).blocks first in
      let third = fetches_narrow (slot_fetches begin offsets) unmarked (codes "$c.at.") second in
      turned_narrow (filter (lies_outside offsets))
      (λ is k. each_filtered (IsNarrowInstr bound) (lies_outside offsets) is k)
      (with_fetches unmarked (slot_fetches begin offsets) (codes "$c.at.")).blocks third

  -- ---- blocks on edges

  jumps_narrow : (es : List Edge) → Each (IsNarrowBlock bound) (map edge_block es)
  jumps_narrow [] = tt
  jumps_narrow (e ∷ es) = (tt, jumps_narrow es)

  split_narrow : (flags : List Bool) (table : List (List Edge)) (n : ℕ) (bs : List Block)
      → Each (IsNarrowBlock bound) bs → Each (IsNarrowBlock bound) (split_blocks flags table n bs)
  split_narrow flags table n [] h = tt
  split_narrow flags table n (b ∷ bs) h = (
    h.0,
    each_joined (IsNarrowBlock bound) (map edge_block (block_edges flags n b))
        (split_blocks flags table (n + length (block_edges flags n b)) bs) (jumps_narrow (block_edges flags n b))
        (split_narrow flags table (n + length (block_edges flags n b)) bs h.1),
  )

  pub edges_narrow : (f : Function) → IsNarrowFunction bound f → IsNarrowFunction bound (with_edge_blocks f)
  edges_narrow f h = split_narrow (phi_flags f) (edge_table f (edges_of (phi_flags f) f)) (length f.names) f.blocks h

  -- ---- a coroutine whose frame is built

  front_allocas : (bs : List Block) → Each (IsNarrowBlock bound) bs → Each (IsNarrowBlock bound) (with_allocas_first bs)
  front_allocas [] h = tt
  front_allocas (b ∷ bs) h = (
    both (filter is_alloca b.instrs) (filter is_no_alloca b.instrs)
        (each_filtered (IsNarrowInstr bound) is_alloca b.instrs h.0)
        (each_filtered (IsNarrowInstr bound) is_no_alloca b.instrs h.0),
    h.1,
  )

  module _ (m : Module) (l : Layout) (f : Function) (c : Contents) where
    celled_narrow : IsNarrowFunction bound f → IsNarrowFunction bound (celled m f c)
    unfolding celled
    celled_narrow h =
        cells_narrow m (with_edge_blocks f) c.crossing (class_flags f c.classes SlotClass.Local) (edges_narrow f h)

    copied_in : (g : Function) (before : List ℕ) → IsNarrowFunction bound g → IsNarrowFunction bound (copied f c g before)
    unfolding copied
    copied_in g before h =
        copies_narrow g (class_flags f c.classes SlotClass.Frame) (label_flags g (begin_block g ∷ before))
        (sizes_by_name f c.held) h

    placed_narrow : (g : Function) → IsNarrowFunction bound g → IsNarrowFunction bound (placed l f c g)
    unfolding placed
    placed_narrow g h =
        addresses_narrow g (begin_of f) (offsets_of l f c (length g.names)) (class_flags f c.classes SlotClass.Ramp) h

  pub framed_narrow : (m : Module) (l : Layout) (f g : Function) → IsFramedCoroutine m l f g → IsNarrowFunction bound f
      → IsNarrowFunction bound g
  framed_narrow m l f g h s =
      let c : Contents = h.contents in
      let k : Function = copied f c (celled m f c) h.before in
      subst (IsNarrowFunction bound) (sym h.is)
      (front_allocas (placed l f c k).blocks
      (placed_narrow m l f c k (copied_in m l f c (celled m f c) h.before (celled_narrow m l f c s))))

  -- ---- blocks on edges that leave windows

  exits_by : (n : ℕ) (es : List Exit)
      → Each (IsNarrowBlock bound) (exit_blocks n es)
  exits_by n [] = tt
  exits_by n (e ∷ es) = (tt, exits_by (n + 1) es)

  left_narrow : (f : Function) (at n : ℕ) (bs : List Block) → Each (IsNarrowBlock bound) bs
      → Each (IsNarrowBlock bound) (blocks_by f at n bs)
  left_narrow f at n [] h = tt
  left_narrow f at n (b ∷ bs) h =
      let own = block_exits f at b in (
        h.0,
        each_joined (IsNarrowBlock bound) (exit_blocks n own) (blocks_by f (at + 1) (n + length own) bs) (exits_by n own)
            (left_narrow f (at + 1) (n + length own) bs h.1),
      )

  pub exits_narrow : (f : Function) → IsNarrowFunction bound f → IsNarrowFunction bound (with_exit_blocks f)
  exits_narrow f h = left_narrow f 0 (length f.names) f.blocks h
