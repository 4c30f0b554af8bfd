-- A block on a resume or destroy edge holds loads, stores and additions, and then jumps: what the passes put into it.
use Rattle.std.proofs.Common.{◌≡◌, ℕ, zero, suc, ◌+◌, Bool, true, false, List, [], ◌∷◌, ◌++◌, length, refl, sym, ap, ◌∙◌, subst}
use Rattle.std.proofs.lemmas.Option.{slice_get-map}
use Rattle.std.specs.Prelude.{None, Option, Some, codes, filter, map, option_map, replicate, slice_get, if◌then◌else◌}
use Rattle.compiler_theorem.proofs.parts.Fetched.{block_fetched, first_ends, one_fetched}
use Rattle.compiler.specs.frame_classes.declared.class.SlotClass.{SlotClass}
use Rattle.compiler.specs.frame_contents.declared.contents.Contents.{Contents}
use Rattle.compiler.specs.frame_layout.declared.layout.Layout.{Layout}
use Rattle.compiler.specs.ir_base.declared.ops.CastOp.{CastOp}
use Rattle.compiler.proofs.ir_laws.facts.Members.{each_filtered, each_joined, each_mapped}
use Rattle.compiler.specs.ir_model.Ty.{Ty, int}
use Rattle.compiler.specs.ir_model.declared.instr.Instr.{Instr}
use Rattle.compiler.specs.ir_model.declared.instr.Phi.{Phi}
use Rattle.compiler.specs.ir_model.declared.instr.Terminator.{Terminator}
use Rattle.compiler.specs.ir_model.declared.module.Block.{Block}
use Rattle.compiler.specs.ir_model.declared.module.Function.{Function}
use Rattle.compiler.specs.ir_model.declared.module.Module.{Module}
use Rattle.compiler.specs.ir_model.declared.operand.Arg.{Arg}
use Rattle.compiler.specs.ir_model.declared.operand.Operand.{Operand}
use Rattle.compiler.specs.ir_parts.Contents.{result_of}
use Rattle.compiler.specs.pass_addresses.Placing.{lies_outside, slot_fetches, stays, turned_block, with_frame_addresses, without_markers, without_promise, without_promise_of}
use Rattle.compiler.specs.pass_cells.Cells.{fetched_function, fetches_of as cell_fetches, named_function, with_cells}
use Rattle.compiler.specs.pass_cells.Kept.{entry}
use Rattle.compiler.specs.pass_cells.Moves.{address_again, after_again, after_saved, again_one, again_values, saved_one, saved_values}
use Rattle.compiler.specs.pass_cells.Plan.{plan_of}
use Rattle.compiler.specs.pass_cells.Written.{after_block as after_written, after_one, again_row, distance_behind, distance_from, distance_into, entry_blocks, entry_front, save_row, stored, stored_at, stored_one, stored_phis, stored_result, written_block, written_blocks, written_instrs, written_one}
use Rattle.compiler.specs.pass_cells.declared.plan.KeptValue.{KeptValue}
use Rattle.compiler.specs.pass_cells.declared.plan.Plan.{Plan}
use Rattle.compiler.specs.pass_copies.BeginCopies as copies
use Rattle.compiler.specs.pass_copies.BeginCopies.{after_block as after_copied, after_instr as after_copied_instr, block_front, copied_block, copied_blocks, copied_instr, copied_instrs, copying_of, entry_front as copies_front, first_fetched, is_fetched, put, puts, with_begin_copies}
use Rattle.compiler.specs.pass_copies.Slots.{early_slots}
use Rattle.compiler.specs.pass_copies.Uses.{flag_at, still_before, used_before}
use Rattle.compiler.specs.pass_copies.declared.copying.Copying.{Copying}
use Rattle.compiler.specs.pass_copies.declared.slot.EarlySlot.{EarlySlot}
use Rattle.compiler.specs.pass_distances.Sums.{distance_instrs, is_wide, start_instrs, start_value, sum_instrs, way_instrs, widening}
use Rattle.compiler.specs.pass_distances.Ways.{ways_of}
use Rattle.compiler.specs.pass_distances.declared.way.Way.{Way}
use Rattle.compiler.specs.pass_edges.EdgeBlocks.{with_edge_blocks}
use Rattle.compiler.specs.pass_fetch.Blocks.{ends_of_blocks, fetched_block, fetched_blocks, next_after_block, next_after_phis, next_after_phis_by, with_fetches}
use Rattle.compiler.specs.pass_fetch.Fetching.{fetch_into}
use Rattle.compiler.specs.pass_fetch.Instrs.{fetched_instr, fetched_term, with_fetched}
use Rattle.compiler.specs.pass_fetch.declared.fetch.Fetch.{Fetch}
use Rattle.compiler.specs.pass_frames.Framed.{IsFramedCoroutine, begin_block, begin_of, celled, copied, offsets_of, placed}
use Rattle.compiler.specs.pass_frames.Tables.{class_flags, label_flags, sizes_by_name}
use Rattle.compiler.specs.pass_front.Front.{with_allocas_first}
use Rattle.compiler.specs.run_laws.changed.Changed.{Each}

-- neither a call nor an alloca
abbrev pub IsLight : Instr → Type 0
IsLight (Instr.Call r must_tail ty callee args) = ⊥
IsLight (Instr.Alloca r ty align) = ⊥
IsLight i = Unit {0}

-- the block with a label, which isn't the first
pub record HasReturn (l : ℕ) (bs : List Block) (at : ℕ) : Type 0 where
  pub block : Block
  pub there : slice_get bs at ≡ Some block
  pub is_label : block.label ≡ l
  pub light : Each IsLight block.instrs
  pub next : ℕ
  pub jump : block.term ≡ Terminator.Jump next

-- the same behind one block more
pub in_rest : {l at : ℕ} {b : Block} {bs : List Block} → HasReturn l (b ∷ bs) (suc at) → HasReturn l bs at
in_rest h = record {
  block = h.block;
  there = h.there;
  is_label = h.is_label;
  light = h.light;
  next = h.next;
  jump = h.jump;
}

pub behind_one : {l at : ℕ} {b : Block} {bs : List Block} → HasReturn l bs at → HasReturn l (b ∷ bs) (suc at)
behind_one h = record {
  block = h.block;
  there = h.there;
  is_label = h.is_label;
  light = h.light;
  next = h.next;
  jump = h.jump;
}

pub no_block : {l at : ℕ} → HasReturn l [] at → ⊥
no_block h = absurd (cc)

both : (xs ys : List Instr) → Each IsLight xs → Each IsLight ys → Each IsLight (xs ++ ys)
both xs ys h k = each_joined IsLight xs ys h k

-- ---- fetches

into_light : (n : ℕ) (f : Fetch) → IsLight (fetch_into n f)
into_light n (Fetch.Load ty cell) = tt
into_light n (Fetch.Address base distance) = tt

over_light : (t : List (Option Fetch)) (n : ℕ) (i : Instr) → IsLight i → IsLight (with_fetched t n i)
over_light t n (Instr.Gep r inbounds ty base indices) h = tt
over_light t n (Instr.Binary r op flags ty a b) h = tt
over_light t n (Instr.Icmp r pred ty a b) h = tt
over_light t n (Instr.Select r c a b) h = tt
over_light t n (Instr.Cast r op nneg arg to) h = tt
over_light t n (Instr.Alloca r ty align) h = h
over_light t n (Instr.Load r ty p align) h = tt
over_light t n (Instr.Store arg p align) h = tt
over_light t n (Instr.Call r must_tail ty c args) h = h

module _ (l : ℕ) (t : List (Option Fetch)) where
  fetched_return : (ends : List (List Instr)) (m n : ℕ) (bs : List Block) (at : ℕ) → Each (Each IsLight) ends
      → HasReturn l bs at → HasReturn l (fetched_blocks t ends m n bs) at
  fetched_return ends m n [] at e h = absurd (no_block h)
  fetched_return ends m n (b ∷ bs) zero e h =
      let same : b ≡ h.block = cc in
      record {
        block = fetched_block t ends m n b;
        there = refl;
        is_label = (λ i. (same i).label) ∙ h.is_label;
        light = block_fetched IsLight into_light over_light t ends m n b e
            (subst (λ (x : Block). Each IsLight x.instrs) (sym same) h.light);
        next = h.next;
        jump = ap (fetched_term t _) ((λ i. (same i).term) ∙ h.jump);
      }
  fetched_return ends m n (b ∷ bs) (suc at) e h =
      let x = fetched_return ends (next_after_phis t m b.phis) (next_after_block t n b) bs at e (in_rest h) in
      behind_one x

  fetches_return : (f : Function) (word : List ℕ) (at : ℕ) → HasReturn l f.blocks at
      → HasReturn l (with_fetches f t word).blocks at
  fetches_return f word at h =
      let first : ℕ = length f.names in
      fetched_return (ends_of_blocks t first (replicate first []) f.blocks) first (next_after_phis_by t first f.blocks)
      f.blocks at (first_ends IsLight into_light over_light t first f.blocks) h

-- ---- cells

saved_light : (n : ℕ) (o : Option KeptValue) → Each IsLight (saved_one n o)
saved_light n None = tt
saved_light n (Some k) = (tt, (tt, tt))

again_address : (n cell : ℕ) (o : Option ℕ) → Each IsLight (address_again n cell o)
again_address n cell None = tt
again_address n cell (Some slot) = (tt, (tt, tt))

again_light : (n : ℕ) (o : Option KeptValue) → Each IsLight (again_one n o)
again_light n None = tt
again_light n (Some k) = (tt, (tt, again_address n k.cell k.slot))

module _ (kept : List KeptValue) where
  all_saved : (n : ℕ) (ks : List ℕ) → Each IsLight (saved_values kept n ks)
  all_saved n [] = tt
  all_saved n (k ∷ ks) =
      both (saved_one n (slice_get kept k)) (saved_values kept (n + 1) ks) (saved_light n (slice_get kept k))
      (all_saved (n + 1) ks)

  all_again : (n : ℕ) (ks : List ℕ) → Each IsLight (again_values kept n ks)
  all_again n [] = tt
  all_again n (k ∷ ks) =
      both (again_one n (slice_get kept k)) (again_values kept (n + 2) ks) (again_light n (slice_get kept k))
      (all_again (n + 2) ks)

  one_stored : (v : ℕ) (o : Option KeptValue) → Each IsLight (stored_one v o)
  one_stored v None = tt
  one_stored v (Some k) = (tt, tt)

  at_stored : (v : ℕ) (o : Option ℕ) → Each IsLight (stored_at kept v o)
  at_stored v None = tt
  at_stored v (Some k) = one_stored v (slice_get kept k)

widening_light : (n : ℕ) (a : Arg) → Each IsLight (widening n a)
widening_light n a = on (is_wide a.ty)
  where
    on : (b : Bool) → Each IsLight (if b then [] else Instr.Cast n CastOp.Sext false a (int 64) ∷ [])
    on true = tt
    on false = (tt, tt)

way_light : (n : ℕ) (x : Operand) (w : Way) → Each IsLight (way_instrs n x w)
way_light n x (Way.Bytes bytes) = (tt, tt)
way_light n x (Way.Elements a size) = both (widening n a) _ (widening_light n a) (tt, (tt, tt))

sums_light : (n : ℕ) (x : Operand) (ws : List Way) → Each IsLight (sum_instrs n x ws)
sums_light n x [] = tt
sums_light n x (w ∷ ws) =
    both (way_instrs n x w) (sum_instrs (n + 3) (Operand.Local (n + 2)) ws) (way_light n x w)
    (sums_light (n + 3) (Operand.Local (n + 2)) ws)

start_light : (n : ℕ) (o : Option ℕ) → Each IsLight (start_instrs n o)
start_light n None = tt
start_light n (Some cell) = (tt, tt)

distance_light : (n : ℕ) (o : Option ℕ) (cell : ℕ) (ws : List Way) → Each IsLight (distance_instrs n o cell ws)
distance_light n o cell ws =
    let sums : List Instr = sum_instrs (n + 1) (start_value n o) ws in
    both (start_instrs n o ++ sums) _
    (both (start_instrs n o) sums (start_light n o) (sums_light (n + 1) (start_value n o) ws)) (tt, tt)

into_cell : (m : Module) (from : Option ℕ) (n : ℕ) (o : Option ℕ) (t : Ty) (args : List Arg)
    → Each IsLight (distance_into m from n o t args)
into_cell m from n None t args = tt
into_cell m from n (Some cell) t args = distance_light n from cell (ways_of m t args)

module _ (m : Module) (p : Plan) where
  behind_light : (n : ℕ) (i : Instr) → Each IsLight (distance_behind m p n i)
  behind_light n (Instr.Gep r inbounds ty base indices) =
      into_cell m (distance_from p r) n (entry p.cells r) ty indices
  behind_light n (Instr.Binary r op flags ty left right) = tt
  behind_light n (Instr.Icmp r pred ty left right) = tt
  behind_light n (Instr.Select r c a b) = tt
  behind_light n (Instr.Cast r op nneg arg to) = tt
  behind_light n (Instr.Alloca r ty align) = tt
  behind_light n (Instr.Load r ty address align) = tt
  behind_light n (Instr.Store arg address align) = tt
  behind_light n (Instr.Call r must_tail ty callee args) = tt

  stored_light : (v : ℕ) → Each IsLight (stored p v)
  stored_light v = at_stored p.kept v (entry p.places v)

  result_light : (o : Option ℕ) → Each IsLight (stored_result p o)
  result_light None = tt
  result_light (Some v) = stored_light v

  one_written : (n : ℕ) (i : Instr) → IsLight i → Each IsLight (written_one m p n i)
  one_written n i h =
      let saved : List Instr = saved_values p.kept n (save_row p i) in
      let next : ℕ = after_saved n (save_row p i) in
      both (saved ++ i ∷ stored_result p (result_of i)) (distance_behind m p next i)
      (both saved (i ∷ stored_result p (result_of i)) (all_saved p.kept n (save_row p i)) (h, result_light (result_of i)))
      (behind_light next i)

  instrs_written : (n : ℕ) (is : List Instr) → Each IsLight is → Each IsLight (written_instrs m p n is)
  instrs_written n [] h = tt
  instrs_written n (i ∷ is) h =
      both (written_one m p n i) (written_instrs m p (after_one m p n i) is) (one_written n i h.0)
      (instrs_written (after_one m p n i) is h.1)

  phis_stored : (xs : List Phi) → Each IsLight (stored_phis p xs)
  phis_stored [] = tt
  phis_stored (x ∷ xs) = both (stored p x.result) (stored_phis p xs) (stored_light x.result) (phis_stored xs)

  block_written : (n : ℕ) (b : Block) → Each IsLight b.instrs → Each IsLight (written_block m p [] n b).instrs
  block_written n b h =
      let row : List ℕ = again_row p b.label in
      let again : List Instr = again_values p.kept n row in
      both (again ++ stored_phis p b.phis) (written_instrs m p (after_again n row) b.instrs)
      (both again (stored_phis p b.phis) (all_again p.kept n row) (phis_stored b.phis))
      (instrs_written (after_again n row) b.instrs h)

  written_return : (l n : ℕ) (bs : List Block) (at : ℕ) → HasReturn l bs at → HasReturn l (written_blocks m p n bs) at
  written_return l n [] at h = absurd (no_block h)
  written_return l n (b ∷ bs) zero h =
      let same : b ≡ h.block = cc in
      record {
        block = written_block m p [] n b;
        there = refl;
        is_label = (λ i. (same i).label) ∙ h.is_label;
        light = block_written n b (subst (λ (x : Block). Each IsLight x.instrs) (sym same) h.light);
        next = h.next;
        jump = (λ i. (same i).term) ∙ h.jump;
      }
  written_return l n (b ∷ bs) (suc at) h =
      let x = written_return l (after_written m p n b) bs at (in_rest h) in
      behind_one x

  entry_return : (l : ℕ) (front : List Instr) (n : ℕ) (bs : List Block) (at : ℕ) → HasReturn l bs (suc at)
      → HasReturn l (entry_blocks m p front n bs) (suc at)
  entry_return l front n [] at h = absurd (cc)
  entry_return l front n (b ∷ bs) at h =
      let x = written_return l (after_written m p n b) bs at (in_rest h) in
      behind_one x

  fetched_cells : (l : ℕ) (f : Function) (at : ℕ) → HasReturn l f.blocks at
      → HasReturn l (fetched_function p f).blocks at
  unfolding fetched_function
  fetched_cells l f at h = fetches_return l (cell_fetches p) (named_function p f) (codes "$c.use.") at h

cells_return : (m : Module) (f : Function) (crossing : List (ℕ × ℕ)) (local : List Bool) (l at : ℕ)
    → HasReturn l f.blocks (suc at) → HasReturn l (with_cells m f crossing local).blocks (suc at)
cells_return m f crossing local l at h =
    let p : Plan = plan_of f crossing local in
    let g : Function = fetched_function p f in
    entry_return m p l (entry_front p g.params) (length g.names) g.blocks at (fetched_cells m p l f (suc at) h)

-- ---- copies at begin

put_light : (ss : List EarlySlot) → Each IsLight (puts ss)
put_light [] = tt
put_light (s ∷ ss) = (tt, put_light ss)

module _ (c : Copying) where
  one_copied : (before : Bool) (n : ℕ) (i : Instr) → IsLight i → Each IsLight (copied_instr c before n i)
  one_copied before n i h =
      both (if is_fetched before i then fetched_instr c.fetches n i else i ∷ []) (copies.behind c i)
      (by (is_fetched before i)) (none i h)
    where
      by : (b : Bool) → Each IsLight (if b then fetched_instr c.fetches n i else i ∷ [])
      by true = one_fetched IsLight into_light over_light c.fetches n i h
      by false = (h, tt)

      none : (i : Instr) → IsLight i → Each IsLight (copies.behind c i)
      none (Instr.Gep r inbounds ty base indices) k = tt
      none (Instr.Binary r op flags ty a b) k = tt
      none (Instr.Icmp r pred ty a b) k = tt
      none (Instr.Select r d a b) k = tt
      none (Instr.Cast r op nneg arg to) k = tt
      none (Instr.Load r ty p align) k = tt
      none (Instr.Store arg p align) k = tt
      none (Instr.Alloca r ty align) k = absurd k
      none (Instr.Call r must_tail ty callee args) k = absurd k

  instrs_copied : (before : Bool) (n : ℕ) (is : List Instr) → Each IsLight is → Each IsLight (copied_instrs c before n is)
  instrs_copied before n [] h = tt
  instrs_copied before n (i ∷ is) h =
      both (copied_instr c before n i) (copied_instrs c (still_before before i) (after_copied_instr c before n i) is)
      (one_copied before n i h.0) (instrs_copied (still_before before i) (after_copied_instr c before n i) is h.1)

  front_copied : (b : Bool) → Each IsLight (if b then puts c.slots else [])
  front_copied true = put_light c.slots
  front_copied false = tt

  block_copied : (before : List Bool) (n : ℕ) (b : Block) → Each IsLight b.instrs
      → Each IsLight (copied_block c before [] n b).instrs
  block_copied before n b h =
      both (block_front c b.label) (copied_instrs c (flag_at before b.label) n b.instrs)
      (front_copied (flag_at c.resumed b.label)) (instrs_copied (flag_at before b.label) n b.instrs h)

  copied_return : (l : ℕ) (before : List Bool) (n : ℕ) (bs : List Block) (at : ℕ) → HasReturn l bs at
      → HasReturn l (copied_blocks c before [] n bs) at
  copied_return l before n [] at h = absurd (no_block h)
  copied_return l before n (b ∷ bs) zero h =
      let same : b ≡ h.block = cc in
      record {
        block = copied_block c before [] n b;
        there = refl;
        is_label = (λ i. (same i).label) ∙ h.is_label;
        light = block_copied before n b (subst (λ (x : Block). Each IsLight x.instrs) (sym same) h.light);
        next = h.next;
        jump = (λ i. (same i).term) ∙ h.jump;
      }
  copied_return l before n (b ∷ bs) (suc at) h =
      let x = copied_return l before (after_copied c before n b) bs at (in_rest h) in
      behind_one x

  first_copied : (l : ℕ) (before : List Bool) (front : List Instr) (n : ℕ) (bs : List Block) (at : ℕ)
      → HasReturn l bs (suc at) → HasReturn l (copied_blocks c before front n bs) (suc at)
  first_copied l before front n [] at h = absurd (cc)
  first_copied l before front n (b ∷ bs) at h =
      let x = copied_return l before (after_copied c before n b) bs at (in_rest h) in
      behind_one x

copies_return : (f : Function) (slots before : List Bool) (sizes : List ℕ) (l at : ℕ) → HasReturn l f.blocks (suc at)
    → HasReturn l (with_begin_copies f slots before sizes).blocks (suc at)
copies_return f slots before sizes l at h =
    let c : Copying = copying_of f (early_slots f (used_before f slots before) sizes) in
    first_copied c l before (copies_front c.slots) (first_fetched f c) f.blocks at h

-- ---- addresses in frames

turned_return : (turned : List Instr → List Instr) → ((is : List Instr) → Each IsLight is → Each IsLight (turned is))
    → (bs : List Block) (l at : ℕ) → HasReturn l bs at → HasReturn l (map (turned_block turned) bs) at
turned_return turned go bs l at h = record {
  block = turned_block turned h.block;
  there = slice_get-map (turned_block turned) bs at ∙ ap (option_map (turned_block turned)) h.there;
  is_label = h.is_label;
  light = go h.block.instrs h.light;
  next = h.next;
  jump = h.jump;
}

no_promise : (i : Instr) → IsLight i → IsLight (without_promise_of i)
no_promise (Instr.Gep r inbounds ty base indices) h = tt
no_promise (Instr.Binary r op flags ty left right) h = tt
no_promise (Instr.Icmp r pred ty left right) h = tt
no_promise (Instr.Select r c a b) h = tt
no_promise (Instr.Cast r op nneg arg to) h = tt
no_promise (Instr.Load r ty address align) h = tt
no_promise (Instr.Store arg address align) h = tt
no_promise (Instr.Alloca r ty align) h = absurd h
no_promise (Instr.Call r must_tail ty callee args) h = absurd h

addresses_return : (f : Function) (begin : ℕ) (offsets : List (Option ℕ)) (marked : List Bool) (l at : ℕ)
    → HasReturn l f.blocks at → HasReturn l (with_frame_addresses f begin offsets marked).blocks at
addresses_return f begin offsets marked l at h =
    let unmarked : Function = without_promise (without_markers marked f) in
    let first = turned_return (filter (stays marked)) (λ is k. each_filtered IsLight (stays marked) is k) f.blocks l at h in
    let second = turned_return (map without_promise_of)
    (λ is k. each_mapped IsLight IsLight without_promise_of no_promise is k) (without_markers marked f).blocks l at first in
    let third = fetches_return l (slot_fetches begin offsets) unmarked (codes "$c.at.") at second in
    turned_return (filter (lies_outside offsets)) (λ is k. each_filtered IsLight (lies_outside offsets) is k)
    (with_fetches unmarked (slot_fetches begin offsets) (codes "$c.at.")).blocks l at third

-- ---- a coroutine whose frame is built

front_return : (bs : List Block) (l at : ℕ) → HasReturn l bs (suc at) → HasReturn l (with_allocas_first bs) (suc at)
front_return [] l at h = h
front_return (b ∷ bs) l at h = record {
  block = h.block;
  there = h.there;
  is_label = h.is_label;
  light = h.light;
  next = h.next;
  jump = h.jump;
}

module _ (m : Module) (lay : Layout) (f : Function) (c : Contents) (l at : ℕ) where
  celled_return : HasReturn l (with_edge_blocks f).blocks (suc at) → HasReturn l (celled m f c).blocks (suc at)
  unfolding celled
  celled_return h = cells_return m (with_edge_blocks f) c.crossing (class_flags f c.classes SlotClass.Local) l at h

  copied_there : (g : Function) (before : List ℕ) → HasReturn l g.blocks (suc at)
      → HasReturn l (copied f c g before).blocks (suc at)
  unfolding copied
  copied_there g before h =
      copies_return g (class_flags f c.classes SlotClass.Frame) (label_flags g (begin_block g ∷ before))
      (sizes_by_name f c.held) l at h

  placed_return : (g : Function) → HasReturn l g.blocks (suc at) → HasReturn l (placed lay f c g).blocks (suc at)
  unfolding placed
  placed_return g h =
      addresses_return g (begin_of f) (offsets_of lay f c (length g.names)) (class_flags f c.classes SlotClass.Ramp) l
      (suc at) h

pub framed_return : (m : Module) (lay : Layout) (f g : Function) → IsFramedCoroutine m lay f g → (l at : ℕ)
    → HasReturn l (with_edge_blocks f).blocks (suc at) → HasReturn l g.blocks (suc at)
framed_return m lay f g x l at h =
    let c : Contents = x.contents in
    let k : Function = copied f c (celled m f c) x.before in
    subst (λ (y : Function). HasReturn l y.blocks (suc at)) (sym x.is)
    (front_return (placed lay f c k).blocks l at
    (placed_return m lay f c l at k (copied_there m lay f c l at (celled m f c) x.before
    (celled_return m lay f c l at h))))
