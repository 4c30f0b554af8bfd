-- What keeps values in cells has no suspends.
use Rattle.std.proofs.Common.{◌≡◌, ℕ, zero, suc, ◌+◌, Bool, true, false, List, [], ◌∷◌, ◌++◌, length, refl, ◌∙◌, arith}
use Rattle.std.specs.Prelude.{codes, None, Option, Some, slice_get, if◌then◌else◌}
use Rattle.pass_edges_proof.specs.ir_base.declared.ops.CastOp.{CastOp}
use Rattle.pass_edges_proof.proofs.rule_laws.frames.suspend_counts.Counted.{count, joined, one, total}
use Rattle.pass_fetch_proof.proofs.fetch.numbers.Fetched.{fetched_total}
use Rattle.pass_edges_proof.specs.ir_parts.Contents.{result_of}
use Rattle.pass_edges_proof.specs.pass_distances.Sums.{distance_instrs, is_wide, start_instrs, start_value, sum_instrs, way_instrs, widening}
use Rattle.pass_edges_proof.specs.pass_distances.Ways.{ways_of}
use Rattle.pass_edges_proof.specs.pass_distances.declared.way.Way.{Way}
use Rattle.ir_model.specs.Ty.{Ty, int}
use Rattle.ir_model.specs.declared.instr.Instr.{Instr}
use Rattle.ir_model.specs.declared.instr.Phi.{Phi}
use Rattle.ir_model.specs.declared.module.Block.{Block}
use Rattle.ir_model.specs.declared.module.Function.{Function}
use Rattle.ir_model.specs.declared.module.Module.{Module}
use Rattle.ir_model.specs.declared.module.Param.{Param}
use Rattle.ir_model.specs.declared.operand.Arg.{Arg}
use Rattle.ir_model.specs.declared.operand.Operand.{Operand}
use Rattle.pass_edges_proof.specs.pass_cells.Cells.{fetched_function, fetches_of, named_function, with_cells, with_plan}
use Rattle.pass_edges_proof.specs.pass_cells.Kept.{entry}
use Rattle.pass_edges_proof.specs.pass_cells.Links.{link_name}
use Rattle.pass_edges_proof.specs.pass_cells.Moves.{address_again, after_again, after_saved, again_one, again_values, cell_alloca, saved_one, saved_values}
use Rattle.pass_edges_proof.specs.pass_cells.Plan.{plan_of}
use Rattle.pass_edges_proof.specs.pass_cells.Written.{after_block, after_one, again_row, distance_alloca, distance_allocas, distance_behind, distance_from, distance_into, entry_blocks, entry_front, kept_allocas, link_allocas, save_row, stored, stored_at, stored_one, stored_params, stored_phis, stored_result, written_block, written_blocks, written_instrs, written_one}
use Rattle.pass_edges_proof.specs.pass_cells.declared.plan.KeptValue.{KeptValue}
use Rattle.pass_edges_proof.specs.pass_cells.declared.plan.Plan.{Plan}

-- no suspend in both is none in the row
none_joined : (xs ys : List Instr) → count xs ≡ 0 → count ys ≡ 0 → count (xs ++ ys) ≡ 0
none_joined xs ys d e = let both = joined xs ys in omega (arith, both, d, e)

-- ---- distances

widening_none : (n : ℕ) (a : Arg) → count (widening n a) ≡ 0
widening_none n a = on (is_wide a.ty)
  where
    on : (b : Bool) → count (if b then [] else Instr.Cast n CastOp.Sext false a (int 64) ∷ []) ≡ 0
    on true = refl
    on false = refl

way_none : (n : ℕ) (x : Operand) (w : Way) → count (way_instrs n x w) ≡ 0
way_none n x (Way.Bytes bytes) = refl
way_none n x (Way.Elements a size) = none_joined (widening n a) _ (widening_none n a) refl

sum_none : (n : ℕ) (x : Operand) (ws : List Way) → count (sum_instrs n x ws) ≡ 0
sum_none n x [] = refl
sum_none n x (w ∷ ws) = none_joined (way_instrs n x w) _ (way_none n x w) (sum_none (n + 3) (Operand.Local (n + 2)) ws)

start_none : (n : ℕ) (o : Option ℕ) → count (start_instrs n o) ≡ 0
start_none n None = refl
start_none n (Some cell) = refl

distance_none : (n : ℕ) (from : Option ℕ) (cell : ℕ) (ways : List Way) → count (distance_instrs n from cell ways) ≡ 0
distance_none n from cell ways =
    none_joined (start_instrs n from ++ sum_instrs (n + 1) (start_value n from) ways) _
    (none_joined (start_instrs n from) (sum_instrs (n + 1) (start_value n from) ways) (start_none n from) (sum_none (n + 1) (start_value n from) ways)) refl

into_none : (m : Module) (from : Option ℕ) (n : ℕ) (o : Option ℕ) (t : Ty) (indices : List Arg) → count (distance_into m from n o t indices) ≡ 0
into_none m from n None t indices = refl
into_none m from n (Some cell) t indices = distance_none n from cell (ways_of m t indices)

-- ---- saved, stored and loaded again

saved_one_none : (n : ℕ) (o : Option KeptValue) → count (saved_one n o) ≡ 0
saved_one_none n None = refl
saved_one_none n (Some k) = refl

saved_none : (kept : List KeptValue) (n : ℕ) (ks : List ℕ) → count (saved_values kept n ks) ≡ 0
saved_none kept n [] = refl
saved_none kept n (k ∷ ks) = none_joined (saved_one n (slice_get kept k)) (saved_values kept (n + 1) ks) (saved_one_none n (slice_get kept k)) (saved_none kept (n + 1) ks)

address_none : (n cell : ℕ) (o : Option ℕ) → count (address_again n cell o) ≡ 0
address_none n cell None = refl
address_none n cell (Some slot) = refl

again_one_none : (n : ℕ) (o : Option KeptValue) → count (again_one n o) ≡ 0
again_one_none n None = refl
again_one_none n (Some k) = let rest = address_none n k.cell k.slot in let all : 0 + (0 + count (address_again n k.cell k.slot)) ≡ 0 = omega (arith, rest) in all

again_none : (kept : List KeptValue) (n : ℕ) (ks : List ℕ) → count (again_values kept n ks) ≡ 0
again_none kept n [] = refl
again_none kept n (k ∷ ks) = none_joined (again_one n (slice_get kept k)) (again_values kept (n + 2) ks) (again_one_none n (slice_get kept k)) (again_none kept (n + 2) ks)

stored_one_none : (v : ℕ) (o : Option KeptValue) → count (stored_one v o) ≡ 0
stored_one_none v None = refl
stored_one_none v (Some k) = refl

stored_at_none : (kept : List KeptValue) (v : ℕ) (o : Option ℕ) → count (stored_at kept v o) ≡ 0
stored_at_none kept v None = refl
stored_at_none kept v (Some k) = stored_one_none v (slice_get kept k)

module _ (m : Module) (p : Plan) where
  stored_none : (v : ℕ) → count (stored p v) ≡ 0
  stored_none v = stored_at_none p.kept v (entry p.places v)

  result_none : (o : Option ℕ) → count (stored_result p o) ≡ 0
  result_none None = refl
  result_none (Some v) = stored_none v

  behind_none : (n : ℕ) (i : Instr) → count (distance_behind m p n i) ≡ 0
  behind_none n (Instr.Gep r inbounds ty base indices) = into_none m (distance_from p r) n (entry p.cells r) ty indices
  behind_none n _ = refl

  phis_none : (ps : List Phi) → count (stored_phis p ps) ≡ 0
  phis_none [] = refl
  phis_none (x ∷ xs) = none_joined (stored p x.result) (stored_phis p xs) (stored_none x.result) (phis_none xs)

  params_none : (ps : List Param) → count (stored_params p ps) ≡ 0
  params_none [] = refl
  params_none (x ∷ xs) = none_joined (stored p x.name) (stored_params p xs) (stored_none x.name) (params_none xs)

  one_counted : (n : ℕ) (i : Instr) → count (written_one m p n i) ≡ one i
  one_counted n i =
      let front = saved_none p.kept n (save_row p i) in
      let own = result_none (result_of i) in
      let behind = behind_none (after_saved n (save_row p i)) i in
      let first = joined (saved_values p.kept n (save_row p i) ++ i ∷ stored_result p (result_of i)) (distance_behind m p (after_saved n (save_row p i)) i) in
      let second = joined (saved_values p.kept n (save_row p i)) (i ∷ stored_result p (result_of i)) in
      omega (arith, front, own, behind, first, second)

  instrs_counted : (n : ℕ) (is : List Instr) → count (written_instrs m p n is) ≡ count is
  instrs_counted n [] = refl
  instrs_counted n (i ∷ is) =
      let first = one_counted n i in
      let rest = instrs_counted (after_one m p n i) is in
      let both = joined (written_one m p n i) (written_instrs m p (after_one m p n i) is) in
      omega (arith, first, rest, both)

  block_counted : (front : List Instr) (n : ℕ) (b : Block) → count front ≡ 0 → count (written_block m p front n b).instrs ≡ count b.instrs
  block_counted front n b none =
      let a = joined (front ++ again_values p.kept n (again_row p b.label) ++ stored_phis p b.phis) (written_instrs m p (after_again n (again_row p b.label)) b.instrs) in
      let c = joined (front ++ again_values p.kept n (again_row p b.label)) (stored_phis p b.phis) in
      let d = joined front (again_values p.kept n (again_row p b.label)) in
      let e = again_none p.kept n (again_row p b.label) in
      let g = phis_none b.phis in
      let h = instrs_counted (after_again n (again_row p b.label)) b.instrs in
      omega (arith, none, a, c, d, e, g, h)

  blocks_counted : (n : ℕ) (bs : List Block) → total (written_blocks m p n bs) ≡ total bs
  blocks_counted n [] = refl
  blocks_counted n (b ∷ bs) =
      let first = block_counted [] n b refl in
      let rest = blocks_counted (after_block m p n b) bs in
      λ k. first k + rest k

  entry_counted : (front : List Instr) (n : ℕ) (bs : List Block) → count front ≡ 0 → total (entry_blocks m p front n bs) ≡ total bs
  entry_counted front n [] none = refl
  entry_counted front n (b ∷ bs) none =
      let first = block_counted front n b none in
      let rest = blocks_counted (after_block m p n b) bs in
      λ k. first k + rest k

  -- ---- the front of the function

  distances_none : (k : KeptValue) (o : Option ℕ) → count (distance_alloca k.field_cell k.field_ty o) ≡ 0
  distances_none k None = refl
  distances_none k (Some slot) = refl

  kept_none : (ks : List KeptValue) → count (kept_allocas ks) ≡ 0
  kept_none [] = refl
  kept_none (k ∷ ks) = none_joined (cell_alloca k.cell k.ty ∷ cell_alloca k.field k.field_ty ∷ distance_allocas k) (kept_allocas ks) own (kept_none ks)
    where
      own : count (cell_alloca k.cell k.ty ∷ cell_alloca k.field k.field_ty ∷ distance_allocas k) ≡ 0
      own = let h = distances_none k k.slot in omega (arith, h)

  links_none : (first links i : ℕ) → count (link_allocas first links i) ≡ 0
  links_none first links zero = refl
  links_none first links (suc i) = none_joined (link_allocas first links i) (cell_alloca (link_name first links i) (int 64) ∷ []) (links_none first links i) refl

  front_none : (params : List Param) → count (entry_front p params) ≡ 0
  front_none params =
      none_joined (kept_allocas p.kept ++ link_allocas p.first (length p.kept) p.links) (stored_params p params)
      (none_joined (kept_allocas p.kept) (link_allocas p.first (length p.kept) p.links) (kept_none p.kept) (links_none p.first (length p.kept) p.links)) (params_none params)

  plan_total : (f : Function) → total (with_plan m p f).blocks ≡ total f.blocks
  unfolding fetched_function
  plan_total f =
      entry_counted (entry_front p f.params) (length (fetched_function p f).names) (fetched_function p f).blocks (front_none f.params)
      ∙ fetched_total (fetches_of p) (named_function p f) (codes "$c.use.")

pub cells_total : (m : Module) (f : Function) (crossing : List (ℕ × ℕ)) (local : List Bool) → total (with_cells m f crossing local).blocks ≡ total f.blocks
cells_total m f crossing local = plan_total m (plan_of f crossing local) f
