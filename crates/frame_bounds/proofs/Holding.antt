-- What a frame holds takes no more than the bound.
use Rattle.std.proofs.Common.{◌≡◌, ℕ, zero, suc, ◌+◌, ◌≤◌, Bool, true, false, List, [], ◌∷◌, ◌++◌, map, max, None, Some, Option, refl, ap, ◌∙◌, arith}
use Rattle.std.specs.Prelude.{if◌then◌else◌}
use Rattle.frame_contents.specs.Held.{field_of, fields_of, held_blocks, held_by, held_instr, held_instrs, held_params, held_phis, if_result, if_value, index_field, result_size, slot_held, suspend_count, value_held, value_size}
use Rattle.frame_contents.specs.declared.held.Holding.{Holding}
use Rattle.frame_placing.specs.declared.room.Room.{Room}
use Rattle.frame_bounds.proofs.Ending.{total}
use Rattle.frame_bounds.specs.Bounds.{block_bound, blocks_bound, field_bound, frame_bound, instr_bound, instrs_bound, params_bound, phis_bound, result_bound, value_bound}
use Rattle.frame_layout.specs.Frames.{index_size}
use Rattle.frame_layout.specs.Layouts.{room_of, rooms_of}
use Rattle.frame_layout.specs.declared.layout.Field.{Field}
use Rattle.ir_parts.specs.Contents.{result_of}
use Rattle.ir_model.specs.Ty.{Ty}
use Rattle.ir_model.specs.declared.instr.Instr.{Instr}
use Rattle.ir_model.specs.declared.instr.Phi.{Phi}
use Rattle.ir_model.specs.declared.module.Block.{Block}
use Rattle.ir_model.specs.declared.module.Function.{Function}
use Rattle.ir_model.specs.declared.module.Module.{Module}
use Rattle.ir_model.specs.declared.module.Param.{Param}
use Rattle.ir_paths.specs.Slots.{promise_of}

abbrev held_total : List Holding → ℕ
held_total [] = 0
held_total (h ∷ hs) = field_bound h.size h.align + held_total hs

both : (a b : List Holding) → held_total (a ++ b) ≡ held_total a + held_total b
both [] b = omega arith
both (h ∷ a) b = let rest = both a b in omega (arith, rest)

joined : (a b : List Holding) (m n : ℕ) → held_total a ≤ m → held_total b ≤ n → held_total (a ++ b) ≤ m + n
joined a b m n h k = let e = both a b in omega (arith, e, h, k)

one_if : (b : Bool) (h : Holding) → held_total (if b then h ∷ [] else []) ≤ field_bound h.size h.align
one_if true h = omega arith
one_if false h = omega arith

value_in : (is_value : ℕ → Bool) (v size : ℕ) → held_total (if_value is_value v size) ≤ value_bound size
value_in is_value v size = one_if (is_value v) (value_held v size)

result_in : (is_value : ℕ → Bool) (r : Option ℕ) (size : ℕ) → held_total (if_result is_value r size) ≤ result_bound r size
result_in is_value None size = omega arith
result_in is_value (Some v) size = value_in is_value v size

params_in : (is_value : ℕ → Bool) (ps : List Param) → held_total (held_params is_value ps) ≤ params_bound ps
params_in is_value [] = omega arith
params_in is_value (p ∷ ps) = joined (if_value is_value p.name (value_size p.ty)) (held_params is_value ps) _ _ (value_in is_value p.name (value_size p.ty)) (params_in is_value ps)

phis_in : (is_value : ℕ → Bool) (ps : List Phi) → held_total (held_phis is_value ps) ≤ phis_bound ps
phis_in is_value [] = omega arith
phis_in is_value (p ∷ ps) = joined (if_value is_value p.result (value_size p.ty)) (held_phis is_value ps) _ _ (value_in is_value p.result (value_size p.ty)) (phis_in is_value ps)

instr_in : (m : Module) (promise : Option ℕ) (is_value is_slot : ℕ → Bool) (i : Instr) → held_total (held_instr m promise is_value is_slot i) ≤ instr_bound m i
instr_in m promise is_value is_slot (Instr.Binary r op flags ty a b) = result_in is_value (result_of (Instr.Binary r op flags ty a b)) (result_size (Instr.Binary r op flags ty a b))
instr_in m promise is_value is_slot (Instr.Icmp r pred ty a b) = result_in is_value (result_of (Instr.Icmp r pred ty a b)) (result_size (Instr.Icmp r pred ty a b))
instr_in m promise is_value is_slot (Instr.Select r c a b) = result_in is_value (result_of (Instr.Select r c a b)) (result_size (Instr.Select r c a b))
instr_in m promise is_value is_slot (Instr.Cast r op nneg arg to) = result_in is_value (result_of (Instr.Cast r op nneg arg to)) (result_size (Instr.Cast r op nneg arg to))
instr_in m promise is_value is_slot (Instr.Alloca r ty align) = one_if (is_slot r) (slot_held m promise r ty align)
instr_in m promise is_value is_slot (Instr.Load r ty p align) = result_in is_value (result_of (Instr.Load r ty p align)) (result_size (Instr.Load r ty p align))
instr_in m promise is_value is_slot (Instr.Store arg p align) = result_in is_value (result_of (Instr.Store arg p align)) (result_size (Instr.Store arg p align))
instr_in m promise is_value is_slot (Instr.Gep r inbounds ty base indices) = result_in is_value (result_of (Instr.Gep r inbounds ty base indices)) (result_size (Instr.Gep r inbounds ty base indices))
instr_in m promise is_value is_slot (Instr.Call r must_tail ty callee args) = result_in is_value (result_of (Instr.Call r must_tail ty callee args)) (result_size (Instr.Call r must_tail ty callee args))

instrs_in : (m : Module) (promise : Option ℕ) (is_value is_slot : ℕ → Bool) (is : List Instr) → held_total (held_instrs m promise is_value is_slot is) ≤ instrs_bound m is
instrs_in m promise is_value is_slot [] = omega arith
instrs_in m promise is_value is_slot (i ∷ is) =
    joined (held_instr m promise is_value is_slot i) (held_instrs m promise is_value is_slot is) (instr_bound m i) (instrs_bound m is) (instr_in m promise is_value is_slot i) (instrs_in m promise is_value is_slot is)

blocks_in : (m : Module) (promise : Option ℕ) (is_value is_slot : ℕ → Bool) (bs : List Block) → held_total (held_blocks m promise is_value is_slot bs) ≤ blocks_bound m bs
blocks_in m promise is_value is_slot [] = omega arith
blocks_in m promise is_value is_slot (b ∷ bs) =
    joined (held_phis is_value b.phis ++ held_instrs m promise is_value is_slot b.instrs) (held_blocks m promise is_value is_slot bs) (block_bound m b) (blocks_bound m bs)
    (joined (held_phis is_value b.phis) (held_instrs m promise is_value is_slot b.instrs) (phis_bound b.phis) (instrs_bound m b.instrs) (phis_in is_value b.phis) (instrs_in m promise is_value is_slot b.instrs))
    (blocks_in m promise is_value is_slot bs)

held_in : (m : Module) (f : Function) (is_value is_slot : ℕ → Bool) → held_total (held_by m f is_value is_slot) ≤ params_bound f.params + blocks_bound m f.blocks
held_in m f is_value is_slot =
    joined (held_params is_value f.params) (held_blocks m (promise_of f) is_value is_slot f.blocks) (params_bound f.params) (blocks_bound m f.blocks) (params_in is_value f.params) (blocks_in m (promise_of f) is_value is_slot f.blocks)

-- ---- the fields

small_if : (b : Bool) → field_bound (if b then 1 else 2) (if b then 1 else 2) ≤ 4
small_if true = omega arith
small_if false = omega arith

fields_total : (f : Function) (held : List Holding) (last : Field) → total (rooms_of (map (field_of f) held ++ last ∷ [])) ≡ held_total held + field_bound last.size last.align
fields_total f [] last = omega arith
fields_total f (h ∷ hs) last = let rest = fields_total f hs last in omega (arith, rest)

-- the fields of a frame that holds what passes the tests take no more than the bound without the header
pub fields_in : (m : Module) (f : Function) (is_value is_slot : ℕ → Bool) → 16 + total (rooms_of (fields_of f (held_by m f is_value is_slot))) ≤ frame_bound m f
fields_in m f is_value is_slot =
    let e = fields_total f (held_by m f is_value is_slot) (index_field f) in
    let h = held_in m f is_value is_slot in
    let small : field_bound (index_field f).size (index_field f).align ≤ 4 = small_if _ in
    omega (arith, e, h, small)
