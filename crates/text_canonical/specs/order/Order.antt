-- A module with the names of each function in the order of their first occurrence in its text.
use Rattle.std.specs.Prelude.{ℕ, List, [], Option, Some, None, map}
use Rattle.ir_base.specs.declared.name.Name.{Name}
use Rattle.ir_model.specs.declared.instr.Case.{Case}
use Rattle.ir_model.specs.declared.instr.Incoming.{Incoming}
use Rattle.ir_model.specs.declared.instr.Instr.{Instr}
use Rattle.ir_model.specs.declared.instr.Phi.{Phi}
use Rattle.ir_model.specs.declared.instr.Terminator.{Terminator}
use Rattle.ir_model.specs.declared.module.Block.{Block}
use Rattle.ir_model.specs.declared.module.Function.{Function}
use Rattle.ir_model.specs.declared.module.Module.{Module}
use Rattle.ir_model.specs.declared.module.Param.{Param}
use Rattle.ir_model.specs.declared.operand.Arg.{Arg}
use Rattle.ir_model.specs.declared.operand.Callee.{Callee}
use Rattle.ir_model.specs.declared.operand.Operand.{Operand}
use Rattle.text_canonical.specs.order.Places.{each_order, local_order}
use Rattle.ir_model.specs.declared.instr.Instr.TheVariants as instrs
use Rattle.ir_model.specs.declared.instr.Terminator.TheVariants as terms
use Rattle.ir_model.specs.declared.operand.Callee.TheVariants as callees
use Rattle.ir_model.specs.declared.operand.Operand.TheVariants as operands

abbrev pub operand_order : List Name → Operand → List Name → Operand × List Name
operand_order names (operands.Local i) ns = (operands.Local (local_order names i ns).0, (local_order names i ns).1)
operand_order names x ns = (x, ns)

abbrev pub arg_order : List Name → Arg → List Name → Arg × List Name
arg_order names a ns = (record { ty = a.ty; value = (operand_order names a.value ns).0 }, (operand_order names a.value ns).1)

abbrev pub callee_order : List Name → Callee → List Name → Callee × List Name
callee_order names (callees.Local i) ns = (callees.Local (local_order names i ns).0, (local_order names i ns).1)
callee_order names c ns = (c, ns)

abbrev pub result_order : List Name → Option ℕ → List Name → Option ℕ × List Name
result_order names None ns = (None, ns)
result_order names (Some r) ns = (Some (local_order names r ns).0, (local_order names r ns).1)

abbrev pub instr_order : List Name → Instr → List Name → Instr × List Name
instr_order names (instrs.Binary r op f t a b) ns =
    let x : ℕ × List Name = local_order names r ns in
    let y : Operand × List Name = operand_order names a x.1 in
    let z : Operand × List Name = operand_order names b y.1 in
    (instrs.Binary x.0 op f t y.0 z.0, z.1)
instr_order names (instrs.Icmp r p t a b) ns =
    let x : ℕ × List Name = local_order names r ns in
    let y : Operand × List Name = operand_order names a x.1 in
    let z : Operand × List Name = operand_order names b y.1 in
    (instrs.Icmp x.0 p t y.0 z.0, z.1)
instr_order names (instrs.Select r c a b) ns =
    let x : ℕ × List Name = local_order names r ns in
    let w : Operand × List Name = operand_order names c x.1 in
    let y : Arg × List Name = arg_order names a w.1 in
    let z : Arg × List Name = arg_order names b y.1 in
    (instrs.Select x.0 w.0 y.0 z.0, z.1)
instr_order names (instrs.Cast r op nneg a t) ns =
    let x : ℕ × List Name = local_order names r ns in
    let y : Arg × List Name = arg_order names a x.1 in
    (instrs.Cast x.0 op nneg y.0 t, y.1)
instr_order names (instrs.Alloca r t n) ns =
    let x : ℕ × List Name = local_order names r ns in
    (instrs.Alloca x.0 t n, x.1)
instr_order names (instrs.Load r t p n) ns =
    let x : ℕ × List Name = local_order names r ns in
    let y : Operand × List Name = operand_order names p x.1 in
    (instrs.Load x.0 t y.0 n, y.1)
instr_order names (instrs.Store a p n) ns =
    let x : Arg × List Name = arg_order names a ns in
    let y : Operand × List Name = operand_order names p x.1 in
    (instrs.Store x.0 y.0 n, y.1)
instr_order names (instrs.Gep r inbounds t p is) ns =
    let x : ℕ × List Name = local_order names r ns in
    let y : Operand × List Name = operand_order names p x.1 in
    let z : List Arg × List Name = each_order (arg_order names) is y.1 in
    (instrs.Gep x.0 inbounds t y.0 z.0, z.1)
instr_order names (instrs.Call r must t c args) ns =
    let x : Option ℕ × List Name = result_order names r ns in
    let y : Callee × List Name = callee_order names c x.1 in
    let z : List Arg × List Name = each_order (arg_order names) args y.1 in
    (instrs.Call x.0 must t y.0 z.0, z.1)

abbrev pub incoming_order : List Name → Incoming → List Name → Incoming × List Name
incoming_order names i ns =
    let x : Operand × List Name = operand_order names i.value ns in
    let y : ℕ × List Name = local_order names i.from x.1 in
    (record { value = x.0; from = y.0 }, y.1)

abbrev pub phi_order : List Name → Phi → List Name → Phi × List Name
phi_order names p ns =
    let x : ℕ × List Name = local_order names p.result ns in
    let y : List Incoming × List Name = each_order (incoming_order names) p.incoming x.1 in
    (record { result = x.0; ty = p.ty; incoming = y.0 }, y.1)

abbrev pub case_order : List Name → Case → List Name → Case × List Name
case_order names c ns =
    let x : Arg × List Name = arg_order names c.arg ns in
    let y : ℕ × List Name = local_order names c.target x.1 in
    (record { arg = x.0; target = y.0 }, y.1)

abbrev pub term_order : List Name → Terminator → List Name → Terminator × List Name
term_order names (terms.Jump l) ns =
    let x : ℕ × List Name = local_order names l ns in
    (terms.Jump x.0, x.1)
term_order names (terms.Branch c l m) ns =
    let x : Operand × List Name = operand_order names c ns in
    let y : ℕ × List Name = local_order names l x.1 in
    let z : ℕ × List Name = local_order names m y.1 in
    (terms.Branch x.0 y.0 z.0, z.1)
term_order names (terms.Switch a l cases) ns =
    let x : Arg × List Name = arg_order names a ns in
    let y : ℕ × List Name = local_order names l x.1 in
    let z : List Case × List Name = each_order (case_order names) cases y.1 in
    (terms.Switch x.0 y.0 z.0, z.1)
term_order names (terms.Ret None) ns = (terms.Ret None, ns)
term_order names (terms.Ret (Some a)) ns = (terms.Ret (Some (arg_order names a ns).0), (arg_order names a ns).1)
term_order names terms.Unreachable ns = (terms.Unreachable, ns)

abbrev pub block_order : List Name → Block → List Name → Block × List Name
block_order names b ns =
    let w : ℕ × List Name = local_order names b.label ns in
    let x : List Phi × List Name = each_order (phi_order names) b.phis w.1 in
    let y : List Instr × List Name = each_order (instr_order names) b.instrs x.1 in
    let z : Terminator × List Name = term_order names b.term y.1 in
    (record { label = w.0; phis = x.0; instrs = y.0; term = z.0 }, z.1)

abbrev pub param_order : List Name → Param → List Name → Param × List Name
param_order names p ns =
    let x : ℕ × List Name = local_order names p.name ns in
    (record { ty = p.ty; name = x.0 }, x.1)

abbrev pub function_order : Function → Function
function_order f =
    let x : List Param × List Name = each_order (param_order f.names) f.params [] in
    let y : List Block × List Name = each_order (block_order f.names) f.blocks x.1 in
    record { name = f.name; result = f.result; params = x.0; coroutine = f.coroutine; blocks = y.0; names = y.1 }

abbrev pub module_order : Module → Module
module_order m = record { types = m.types; globals = m.globals; declarations = m.declarations; functions = map function_order m.functions }
