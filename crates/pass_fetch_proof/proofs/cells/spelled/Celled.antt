-- Where crossing values are kept in cells, a function can still be written.
use Rattle.std.proofs.Common.{ℕ, zero, suc, ◌+◌, ◌-◌, Bool, true, false, List, [], ◌∷◌, ◌++◌, length, replicate, refl}
use Rattle.std.specs.Prelude.{None, Option, Some, codes, if◌then◌else◌, map, slice_get}
use Rattle.pass_edges_proof.proofs.ir_laws.facts.Members.{each_joined, joined_names}
use Rattle.pass_edges_proof.specs.ir_parts.Contents.{arg_types, result_of}
use Rattle.pass_edges_proof.specs.pass_distances.Sums.{distance_instrs, is_wide, on_number, start_instrs, start_value, sum_instrs, sum_value, way_instrs, widened, widening}
use Rattle.pass_edges_proof.specs.pass_distances.Ways.{inner_type, inner_ways, way_at, ways_of}
use Rattle.pass_edges_proof.specs.pass_distances.declared.way.Way.{Way}
use Rattle.pass_edges_proof.specs.ir_base.declared.ops.BinOp.{BinOp}
use Rattle.pass_edges_proof.specs.ir_base.declared.ops.CastOp.{CastOp}
use Rattle.ir_model.specs.Layout.{unnamed}
use Rattle.ir_model.specs.Ty.{Ty, array, int, named, ptr, structure, token}
use Rattle.ir_model.specs.declared.instr.Instr.{Instr}
use Rattle.ir_model.specs.declared.instr.Phi.{Phi}
use Rattle.ir_model.specs.declared.module.Block.{Block}
use Rattle.ir_model.specs.declared.module.Function.{Function}
use Rattle.ir_model.specs.declared.module.Module.{Module}
use Rattle.ir_model.specs.declared.module.Param.{Param}
use Rattle.ir_model.specs.declared.operand.Arg.{Arg}
use Rattle.ir_model.specs.declared.operand.Operand.{Operand}
use Rattle.pass_fetch_proof.proofs.fetch.spelled.Fetched.{IsSpelledFetch, each_same, each_set, fetches_spelled}
use Rattle.pass_fetch_proof.proofs.fetch.spelled.Names.{all_numbered}
use Rattle.pass_fetch_proof.proofs.cells.spelled.Names.{own_named}
use Rattle.pass_edges_proof.proofs.rule_laws.texts.spelled.Types.{byte_spelled, ptr_spelled, truth_spelled, word_spelled}
use Rattle.pass_edges_proof.specs.rule_laws.texts.spelled.Spelled.{IsSpelled}
use Rattle.pass_edges_proof.specs.rule_laws.rules.spelled.Spelled.{IsSpelledBlock, IsSpelledFunction, IsSpelledInstr}
use Rattle.pass_edges_proof.specs.run_laws.changed.Changed.{Each}
use Rattle.pass_edges_proof.specs.pass_fetch.Blocks.{numbered_names}
use Rattle.pass_edges_proof.specs.pass_cells.Cells.{fetch_by, fetch_for, fetched_function, fetches_of, named_function, with_cells, with_plan, written_function}
use Rattle.pass_edges_proof.specs.pass_cells.Kept.{entry, result_type, value_types, with_block_types, with_param_types, with_phi_types, with_result_type, with_result_types, with_type}
use Rattle.pass_edges_proof.specs.pass_cells.Links.{cell_name, field_name, link_name}
use Rattle.pass_edges_proof.specs.pass_cells.Moves.{address_again, after_again, after_saved, again_one, again_values, cell_alloca, load_from, saved_one, saved_values, store_to}
use Rattle.pass_edges_proof.specs.pass_cells.Plan.{kept_from, kept_value, plan_of, type_at}
use Rattle.pass_edges_proof.specs.pass_cells.Written.{after_block, after_blocks, after_one, again_row, distance_alloca, distance_allocas, distance_behind, distance_from, distance_into, entry_blocks, entry_front, kept_allocas, link_allocas, save_row, stored, stored_at, stored_one, stored_params, stored_phis, stored_result, written_block, written_blocks, written_instrs, written_one}
use Rattle.pass_edges_proof.specs.pass_cells.declared.keeping.Keeping.{Keeping}
use Rattle.pass_edges_proof.specs.pass_cells.declared.plan.KeptValue.{KeptValue}
use Rattle.pass_edges_proof.specs.pass_cells.declared.plan.Plan.{Plan}

abbrev All : List Instr → Type 0
All is = Each IsSpelledInstr is

both : (xs ys : List Instr) → All xs → All ys → All (xs ++ ys)
both xs ys a b = each_joined IsSpelledInstr xs ys a b

-- ---- the types of the values that are kept

abbrev AreTypes : List Ty → Type 0
AreTypes ts = Each IsSpelled ts

result_spelled : (i : Instr) → IsSpelledInstr i → IsSpelled (result_type i)
result_spelled (Instr.Binary r op flags ty left right) h = h.types.0
result_spelled (Instr.Icmp r pred ty left right) h = truth_spelled
result_spelled (Instr.Select r c a b) h = h.types.0
result_spelled (Instr.Cast r op nneg arg to) h = h.types.1.0
result_spelled (Instr.Alloca r ty align) h = ptr_spelled
result_spelled (Instr.Load r ty address align) h = h.types.0
result_spelled (Instr.Store arg address align) h = ptr_spelled
result_spelled (Instr.Gep r inbounds ty base indices) h = ptr_spelled
result_spelled (Instr.Call r must_tail None callee args) h = ptr_spelled
result_spelled (Instr.Call r must_tail (Some t) callee args) h = h.types.0

one_type : (types : List Ty) (o : Option ℕ) (t : Ty) → AreTypes types → IsSpelled t → AreTypes (with_type types o t)
one_type types None t h k = h
one_type types (Some at) t h k = each_set IsSpelled types at t h k

module _ (places : List (Option ℕ)) where
  param_types : (types : List Ty) (ps : List Param) → AreTypes types → Each (λ p. IsSpelled p.ty) ps → AreTypes (with_param_types places types ps)
  param_types types [] h k = h
  param_types types (p ∷ ps) h k = param_types (with_type types (entry places p.name) p.ty) ps (one_type types (entry places p.name) p.ty h k.0) k.1

  phi_types : (types : List Ty) (ps : List Phi) → AreTypes types → Each (λ p. IsSpelled p.ty) ps → AreTypes (with_phi_types places types ps)
  phi_types types [] h k = h
  phi_types types (p ∷ ps) h k = phi_types (with_type types (entry places p.result) p.ty) ps (one_type types (entry places p.result) p.ty h k.0) k.1

  result_types_one : (types : List Ty) (o : Option ℕ) (i : Instr) → AreTypes types → IsSpelledInstr i → AreTypes (with_result_type places types o i)
  result_types_one types None i h k = h
  result_types_one types (Some v) i h k = one_type types (entry places v) (result_type i) h (result_spelled i k)

  result_types : (types : List Ty) (is : List Instr) → AreTypes types → All is → AreTypes (with_result_types places types is)
  result_types types [] h k = h
  result_types types (i ∷ is) h k = result_types (with_result_type places types (result_of i) i) is (result_types_one types (result_of i) i h k.0) k.1

  block_types : (types : List Ty) (bs : List Block) → AreTypes types → Each IsSpelledBlock bs → AreTypes (with_block_types places types bs)
  block_types types [] h k = h
  block_types types (b ∷ bs) h k = block_types (with_result_types places (with_phi_types places types b.phis) b.instrs) bs (result_types (with_phi_types places types b.phis) b.instrs (phi_types types b.phis h k.0.phis) k.0.instrs) k.1

types_spelled : (f : Function) (k : Keeping) → IsSpelledFunction f → AreTypes (value_types f k)
types_spelled f k h =
    let first : List Ty = replicate (length k.values) ptr in
    block_types k.places (with_param_types k.places first f.params) f.blocks (param_types k.places first f.params (each_same IsSpelled (length k.values) ptr ptr_spelled) h.params) h.blocks

-- ---- the values that are kept

pub record IsSpelledKept (k : KeptValue) : Type 0 where
  pub ty : IsSpelled k.ty
  pub field_ty : IsSpelled k.field_ty

type_spelled : (types : List Ty) (k : ℕ) → AreTypes types → IsSpelled (type_at types k)
type_spelled [] k h = ptr_spelled
type_spelled (t ∷ types) zero h = h.0
type_spelled (t ∷ types) (suc k) h = type_spelled types k h.1

value_spelled : (cell field : ℕ) (t : Ty) (cells slot : Option ℕ) → IsSpelled t → IsSpelledKept (kept_value cell field t cells slot)
value_spelled cell field t None slot h = record { ty = h; field_ty = h }
value_spelled cell field t (Some distance) slot h = record { ty = h; field_ty = word_spelled }

kept_spelled : (first count : ℕ) (types : List Ty) (cells slots : List (Option ℕ)) (k : ℕ) (vs : List ℕ) → AreTypes types → Each IsSpelledKept (kept_from first count types cells slots k vs)
kept_spelled first count types cells slots k [] h = tt
kept_spelled first count types cells slots k (v ∷ vs) h = (
  value_spelled (cell_name first k) (field_name first count k) (type_at types k) (entry cells v) (entry slots v) (type_spelled types k h),
  kept_spelled first count types cells slots (k + 1) vs h,
)

abbrev IsSpelledOne : Option KeptValue → Type 0
IsSpelledOne None = Unit {0}
IsSpelledOne (Some k) = IsSpelledKept k

one_of : (kept : List KeptValue) (k : ℕ) → Each IsSpelledKept kept → IsSpelledOne (slice_get kept k)
one_of [] k h = tt
one_of (x ∷ kept) zero h = h.0
one_of (x ∷ kept) (suc k) h = one_of kept k h.1

-- ---- uses

by_spelled : (o : Option KeptValue) → IsSpelledOne o → IsSpelledFetch (fetch_by o)
by_spelled None h = tt
by_spelled (Some k) h = h.ty

for_spelled : (kept : List KeptValue) (o : Option ℕ) → Each IsSpelledKept kept → IsSpelledFetch (fetch_for kept o)
for_spelled kept None h = tt
for_spelled kept (Some k) h = by_spelled (slice_get kept k) (one_of kept k h)

table_spelled : (kept : List KeptValue) (places : List (Option ℕ)) → Each IsSpelledKept kept → Each IsSpelledFetch (map (fetch_for kept) places)
table_spelled kept [] h = tt
table_spelled kept (o ∷ places) h = (for_spelled kept o h, table_spelled kept places h)

-- ---- what is written: moves between cells and fields

loads : (r : ℕ) (t : Ty) (p : ℕ) → IsSpelled t → IsSpelledInstr (load_from r t p)
loads r t p h = record { types = (h, tt); stands = tt }

stores : (t : Ty) (v p : ℕ) → IsSpelled t → IsSpelledInstr (store_to t v p)
stores t v p h = record { types = (h, tt); stands = tt }

cells : (r : ℕ) (t : Ty) → IsSpelled t → IsSpelledInstr (cell_alloca r t)
cells r t h = record { types = (h, tt); stands = tt }

saved_one_spelled : (n : ℕ) (o : Option KeptValue) → IsSpelledOne o → All (saved_one n o)
saved_one_spelled n None h = tt
saved_one_spelled n (Some k) h = (loads n k.field_ty k.field_cell h.field_ty, (stores k.field_ty n k.field h.field_ty, tt))

again_address : (n cell : ℕ) (o : Option ℕ) → All (address_again n cell o)
again_address n cell None = tt
again_address n cell (Some slot) = (record { types = (byte_spelled, (word_spelled, tt)); stands = tt }, (stores ptr (n + 1) cell ptr_spelled, tt))

again_one_spelled : (n : ℕ) (o : Option KeptValue) → IsSpelledOne o → All (again_one n o)
again_one_spelled n None h = tt
again_one_spelled n (Some k) h = (loads n k.field_ty k.field h.field_ty, (stores k.field_ty n k.field_cell h.field_ty, again_address n k.cell k.slot))

module _ (kept : List KeptValue) (spelled : Each IsSpelledKept kept) where
  saved_spelled : (n : ℕ) (ks : List ℕ) → All (saved_values kept n ks)
  saved_spelled n [] = tt
  saved_spelled n (k ∷ ks) = both (saved_one n (slice_get kept k)) (saved_values kept (n + 1) ks) (saved_one_spelled n (slice_get kept k) (one_of kept k spelled)) (saved_spelled (n + 1) ks)

  again_spelled : (n : ℕ) (ks : List ℕ) → All (again_values kept n ks)
  again_spelled n [] = tt
  again_spelled n (k ∷ ks) = both (again_one n (slice_get kept k)) (again_values kept (n + 2) ks) (again_one_spelled n (slice_get kept k) (one_of kept k spelled)) (again_spelled (n + 2) ks)

  stored_one_spelled : (v : ℕ) (o : Option KeptValue) → IsSpelledOne o → All (stored_one v o)
  stored_one_spelled v None h = tt
  stored_one_spelled v (Some k) h = (stores k.ty v k.cell h.ty, tt)

  stored_at_spelled : (v : ℕ) (o : Option ℕ) → All (stored_at kept v o)
  stored_at_spelled v None = tt
  stored_at_spelled v (Some k) = stored_one_spelled v (slice_get kept k) (one_of kept k spelled)

-- ---- distances

abbrev IsSpelledWay : Way → Type 0
IsSpelledWay (Way.Bytes bytes) = Unit {0}
IsSpelledWay (Way.Elements a size) = IsSpelled a.ty

at_spelled : (m : Module) (t : Ty) (a : Arg) → IsSpelled a.ty → IsSpelledWay (way_at m t a)
at_spelled m (array n t) a h = h
at_spelled m (structure ts) a h = tt
at_spelled m (int w) a h = tt
at_spelled m ptr a h = tt
at_spelled m token a h = tt
at_spelled m (named n) a h = tt

inner_spelled : (m : Module) (t : Ty) (args : List Arg) → Each IsSpelled (arg_types args) → Each IsSpelledWay (inner_ways m t args)
inner_spelled m t [] h = tt
inner_spelled m t (a ∷ args) h = (at_spelled m (unnamed m t) a h.0, inner_spelled m (inner_type (unnamed m t) a) args h.1)

ways_spelled : (m : Module) (t : Ty) (args : List Arg) → Each IsSpelled (arg_types args) → Each IsSpelledWay (ways_of m t args)
ways_spelled m t [] h = tt
ways_spelled m t (a ∷ args) h = (h.0, inner_spelled m t args h.1)

adds : (r : ℕ) (x y : Operand) → IsSpelledInstr (on_number r BinOp.Add x y)
adds r x y = record { types = (word_spelled, tt); stands = (refl, refl) }

multiplies : (r : ℕ) (x y : Operand) → IsSpelledInstr (on_number r BinOp.Mul x y)
multiplies r x y = record { types = (word_spelled, tt); stands = (refl, refl) }

widening_spelled : (n : ℕ) (a : Arg) → IsSpelled a.ty → All (widening n a)
widening_spelled n a h = on (is_wide a.ty)
  where
    on : (b : Bool) → All (if b then [] else Instr.Cast n CastOp.Sext false a (int 64) ∷ [])
    on true = tt
    on false = (record { types = (h, (word_spelled, tt)); stands = refl }, tt)

way_spelled : (n : ℕ) (x : Operand) (w : Way) → IsSpelledWay w → All (way_instrs n x w)
way_spelled n x (Way.Bytes bytes) h = (adds (n + 2) x _, tt)
way_spelled n x (Way.Elements a size) h = both (widening n a) _ (widening_spelled n a h) (multiplies (n + 1) (widened n a) _, (adds (n + 2) x (Operand.Local (n + 1)), tt))

sums_spelled : (n : ℕ) (x : Operand) (ws : List Way) → Each IsSpelledWay ws → All (sum_instrs n x ws)
sums_spelled n x [] h = tt
sums_spelled n x (w ∷ ws) h = both (way_instrs n x w) (sum_instrs (n + 3) (Operand.Local (n + 2)) ws) (way_spelled n x w h.0) (sums_spelled (n + 3) (Operand.Local (n + 2)) ws h.1)

start_spelled : (n : ℕ) (o : Option ℕ) → All (start_instrs n o)
start_spelled n None = tt
start_spelled n (Some cell) = (record { types = (word_spelled, tt); stands = tt }, tt)

distance_spelled : (n : ℕ) (o : Option ℕ) (cell : ℕ) (ws : List Way) → Each IsSpelledWay ws → All (distance_instrs n o cell ws)
distance_spelled n o cell ws h =
    let sums : List Instr = sum_instrs (n + 1) (start_value n o) ws in
    both (start_instrs n o ++ sums) (Instr.Store (record { ty = int 64; value = sum_value (n + 1) (start_value n o) ws }) (Operand.Local cell) 8 ∷ [])
    (both (start_instrs n o) sums (start_spelled n o) (sums_spelled (n + 1) (start_value n o) ws h))
    (record { types = (word_spelled, tt); stands = tt }, tt)

distance_into_spelled : (m : Module) (from : Option ℕ) (n : ℕ) (o : Option ℕ) (t : Ty) (args : List Arg) → Each IsSpelled (arg_types args) → All (distance_into m from n o t args)
distance_into_spelled m from n None t args h = tt
distance_into_spelled m from n (Some cell) t args h = distance_spelled n from cell (ways_of m t args) (ways_spelled m t args h)

-- ---- instructions and blocks

module _ (m : Module) (p : Plan) (spelled : Each IsSpelledKept p.kept) where
  behind_spelled : (n : ℕ) (i : Instr) → IsSpelledInstr i → All (distance_behind m p n i)
  behind_spelled n (Instr.Gep r inbounds ty base indices) h = distance_into_spelled m (distance_from p r) n (entry p.cells r) ty indices h.types.1
  behind_spelled n (Instr.Binary r op flags ty left right) h = tt
  behind_spelled n (Instr.Icmp r pred ty left right) h = tt
  behind_spelled n (Instr.Select r c a b) h = tt
  behind_spelled n (Instr.Cast r op nneg arg to) h = tt
  behind_spelled n (Instr.Alloca r ty align) h = tt
  behind_spelled n (Instr.Load r ty address align) h = tt
  behind_spelled n (Instr.Store arg address align) h = tt
  behind_spelled n (Instr.Call r must_tail ty callee args) h = tt

  stored_spelled : (v : ℕ) → All (stored p v)
  stored_spelled v = stored_at_spelled p.kept spelled v (entry p.places v)

  stored_result_spelled : (o : Option ℕ) → All (stored_result p o)
  stored_result_spelled None = tt
  stored_result_spelled (Some v) = stored_spelled v

  one_spelled : (n : ℕ) (i : Instr) → IsSpelledInstr i → All (written_one m p n i)
  one_spelled n i h =
      let saved : List Instr = saved_values p.kept n (save_row p i) in
      let next : ℕ = after_saved n (save_row p i) in
      both (saved ++ i ∷ stored_result p (result_of i)) (distance_behind m p next i) (both saved (i ∷ stored_result p (result_of i)) (saved_spelled p.kept spelled n (save_row p i)) (h, stored_result_spelled (result_of i))) (behind_spelled next i h)

  instrs_spelled : (n : ℕ) (is : List Instr) → All is → All (written_instrs m p n is)
  instrs_spelled n [] h = tt
  instrs_spelled n (i ∷ is) h = both (written_one m p n i) (written_instrs m p (after_one m p n i) is) (one_spelled n i h.0) (instrs_spelled (after_one m p n i) is h.1)

  stored_phis_spelled : (xs : List Phi) → All (stored_phis p xs)
  stored_phis_spelled [] = tt
  stored_phis_spelled (x ∷ xs) = both (stored p x.result) (stored_phis p xs) (stored_spelled x.result) (stored_phis_spelled xs)

  stored_params_spelled : (xs : List Param) → All (stored_params p xs)
  stored_params_spelled [] = tt
  stored_params_spelled (x ∷ xs) = both (stored p x.name) (stored_params p xs) (stored_spelled x.name) (stored_params_spelled xs)

  block_spelled : (front : List Instr) (n : ℕ) (b : Block) → All front → IsSpelledBlock b → IsSpelledBlock (written_block m p front n b)
  block_spelled front n b f h =
      let row : List ℕ = again_row p b.label in
      let again : List Instr = again_values p.kept n row in
      record {
        phis = h.phis;
        instrs =
            both ((front ++ again) ++ stored_phis p b.phis) (written_instrs m p (after_again n row) b.instrs)
            (both (front ++ again) (stored_phis p b.phis) (both front again f (again_spelled p.kept spelled n row)) (stored_phis_spelled b.phis))
            (instrs_spelled (after_again n row) b.instrs h.instrs);
        term = h.term;
      }

  blocks_spelled : (n : ℕ) (bs : List Block) → Each IsSpelledBlock bs → Each IsSpelledBlock (written_blocks m p n bs)
  blocks_spelled n [] h = tt
  blocks_spelled n (b ∷ bs) h = (block_spelled [] n b tt h.0, blocks_spelled (after_block m p n b) bs h.1)

  entry_spelled : (front : List Instr) (n : ℕ) (bs : List Block) → All front → Each IsSpelledBlock bs → Each IsSpelledBlock (entry_blocks m p front n bs)
  entry_spelled front n [] f h = tt
  entry_spelled front n (b ∷ bs) f h = (block_spelled front n b f h.0, blocks_spelled (after_block m p n b) bs h.1)

  -- ---- the front of the function

  distance_allocas_spelled : (cell : ℕ) (t : Ty) (o : Option ℕ) → IsSpelled t → All (distance_alloca cell t o)
  distance_allocas_spelled cell t None h = tt
  distance_allocas_spelled cell t (Some slot) h = (cells cell t h, tt)

  kept_allocas_spelled : (ks : List KeptValue) → Each IsSpelledKept ks → All (kept_allocas ks)
  kept_allocas_spelled [] h = tt
  kept_allocas_spelled (k ∷ ks) h = (
    cells k.cell k.ty h.0.ty,
    (cells k.field k.field_ty h.0.field_ty, both (distance_allocas k) (kept_allocas ks) (distance_allocas_spelled k.field_cell k.field_ty k.slot h.0.field_ty) (kept_allocas_spelled ks h.1)),
  )

  link_allocas_spelled : (first count links : ℕ) → All (link_allocas first count links)
  link_allocas_spelled first count zero = tt
  link_allocas_spelled first count (suc i) = both (link_allocas first count i) (cell_alloca (link_name first count i) (int 64) ∷ []) (link_allocas_spelled first count i) (cells (link_name first count i) (int 64) word_spelled, tt)

  front_spelled : (params : List Param) → All (entry_front p params)
  front_spelled params =
      let links : List Instr = link_allocas p.first (length p.kept) p.links in
      both (kept_allocas p.kept ++ links) (stored_params p params) (both (kept_allocas p.kept) links (kept_allocas_spelled p.kept spelled) (link_allocas_spelled p.first (length p.kept) p.links)) (stored_params_spelled params)

  -- ---- the function

  fetched_spelled : (f : Function) → IsSpelledFunction f → IsSpelledFunction (fetched_function p f)
  unfolding fetched_function
  fetched_spelled f h =
      fetches_spelled (fetches_of p) (table_spelled p.kept p.places spelled) (named_function p f) (codes "$c.use.") refl
      (record { name = h.name; result = h.result; params = h.params; blocks = h.blocks; names = own_named f.names (length p.kept) p.links h.names })

  written_spelled : (f : Function) → IsSpelledFunction f → IsSpelledFunction (written_function m p f)
  written_spelled f h =
      let first : ℕ = length f.names in
      let count : ℕ = after_blocks m p first f.blocks - first in
      record {
        name = h.name;
        result = h.result;
        params = h.params;
        blocks = entry_spelled (entry_front p f.params) first f.blocks (front_spelled f.params) h.blocks;
        names = joined_names f.names (numbered_names (codes "$c.kept.") count) h.names (all_numbered (codes "$c.kept.") count refl);
      }

  plan_spelled : (f : Function) → IsSpelledFunction f → IsSpelledFunction (with_plan m p f)
  plan_spelled f h = written_spelled (fetched_function p f) (fetched_spelled f h)

pub cells_spelled : (m : Module) (f : Function) (crossing : List (ℕ × ℕ)) (local : List Bool) → IsSpelledFunction f → IsSpelledFunction (with_cells m f crossing local)
cells_spelled m f crossing local h =
    let p : Plan = plan_of f crossing local in
    plan_spelled m p (kept_spelled (length f.names) _ _ _ _ 0 _ (types_spelled f _ h)) f h
