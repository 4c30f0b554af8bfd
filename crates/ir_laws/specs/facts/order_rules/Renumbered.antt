-- Functions whose locals stand at other positions of the table of names.
use Rattle.std.specs.Prelude.{◌≡◌, ℕ, List, map, option_map}
use Rattle.run_laws.specs.ir_base.declared.name.Name.{Name}
use Rattle.run_laws.specs.ir_model.declared.instr.Case.{Case}
use Rattle.run_laws.specs.ir_model.declared.instr.Incoming.{Incoming}
use Rattle.run_laws.specs.ir_model.declared.instr.Instr.{Instr}
use Rattle.run_laws.specs.ir_model.declared.instr.Phi.{Phi}
use Rattle.run_laws.specs.ir_model.declared.instr.Terminator.{Terminator}
use Rattle.run_laws.specs.ir_model.declared.module.Block.{Block}
use Rattle.run_laws.specs.ir_model.declared.module.Function.{Function}
use Rattle.run_laws.specs.ir_model.declared.module.Param.{Param}
use Rattle.run_laws.specs.ir_model.declared.operand.Arg.{Arg}
use Rattle.run_laws.specs.ir_model.declared.operand.Callee.{Callee}
use Rattle.run_laws.specs.ir_model.declared.operand.Operand.{Operand}

abbrev pub renumbered_operand : (ℕ → ℕ) → Operand → Operand
renumbered_operand to (Operand.Local n) = Operand.Local (to n)
renumbered_operand to (Operand.Global n) = Operand.Global n
renumbered_operand to (Operand.Number z) = Operand.Number z
renumbered_operand to Operand.True = Operand.True
renumbered_operand to Operand.False = Operand.False
renumbered_operand to Operand.Null = Operand.Null
renumbered_operand to Operand.None = Operand.None
renumbered_operand to Operand.Poison = Operand.Poison

abbrev pub renumbered_arg : (ℕ → ℕ) → Arg → Arg
renumbered_arg to a = record { ty = a.ty; value = renumbered_operand to a.value }

abbrev pub renumbered_callee : (ℕ → ℕ) → Callee → Callee
renumbered_callee to (Callee.Named n) = Callee.Named n
renumbered_callee to (Callee.Allocator a) = Callee.Allocator a
renumbered_callee to (Callee.Intrinsic i) = Callee.Intrinsic i
renumbered_callee to (Callee.Local n) = Callee.Local (to n)

abbrev pub renumbered_instr : (ℕ → ℕ) → Instr → Instr
renumbered_instr to (Instr.Binary r op flags ty left right) = Instr.Binary (to r) op flags ty (renumbered_operand to left) (renumbered_operand to right)
renumbered_instr to (Instr.Icmp r pred ty left right) = Instr.Icmp (to r) pred ty (renumbered_operand to left) (renumbered_operand to right)
renumbered_instr to (Instr.Select r c a b) = Instr.Select (to r) (renumbered_operand to c) (renumbered_arg to a) (renumbered_arg to b)
renumbered_instr to (Instr.Cast r op nneg arg ty) = Instr.Cast (to r) op nneg (renumbered_arg to arg) ty
renumbered_instr to (Instr.Alloca r ty align) = Instr.Alloca (to r) ty align
renumbered_instr to (Instr.Load r ty address align) = Instr.Load (to r) ty (renumbered_operand to address) align
renumbered_instr to (Instr.Store arg address align) = Instr.Store (renumbered_arg to arg) (renumbered_operand to address) align
renumbered_instr to (Instr.Gep r inbounds ty base indices) = Instr.Gep (to r) inbounds ty (renumbered_operand to base) (map (renumbered_arg to) indices)
renumbered_instr to (Instr.Call r must_tail ty callee args) = Instr.Call (option_map to r) must_tail ty (renumbered_callee to callee) (map (renumbered_arg to) args)

abbrev pub renumbered_incoming : (ℕ → ℕ) → Incoming → Incoming
renumbered_incoming to i = record { value = renumbered_operand to i.value; from = to i.from }

abbrev pub renumbered_phi : (ℕ → ℕ) → Phi → Phi
renumbered_phi to p = record { result = to p.result; ty = p.ty; incoming = map (renumbered_incoming to) p.incoming }

abbrev pub renumbered_case : (ℕ → ℕ) → Case → Case
renumbered_case to c = record { arg = renumbered_arg to c.arg; target = to c.target }

abbrev pub renumbered_term : (ℕ → ℕ) → Terminator → Terminator
renumbered_term to (Terminator.Jump label) = Terminator.Jump (to label)
renumbered_term to (Terminator.Branch c a b) = Terminator.Branch (renumbered_operand to c) (to a) (to b)
renumbered_term to (Terminator.Switch arg default cases) = Terminator.Switch (renumbered_arg to arg) (to default) (map (renumbered_case to) cases)
renumbered_term to (Terminator.Ret value) = Terminator.Ret (option_map (renumbered_arg to) value)
renumbered_term to Terminator.Unreachable = Terminator.Unreachable

abbrev pub renumbered_block : (ℕ → ℕ) → Block → Block
renumbered_block to b =
    record { label = to b.label; phis = map (renumbered_phi to) b.phis; instrs = map (renumbered_instr to) b.instrs; term = renumbered_term to b.term }

abbrev pub renumbered_param : (ℕ → ℕ) → Param → Param
renumbered_param to p = record { ty = p.ty; name = to p.name }

-- each local is at the position that the map gives, in another table of names
abbrev pub renumbered_function : (ℕ → ℕ) → List Name → Function → Function
renumbered_function to names f =
    record { name = f.name; result = f.result; params = map (renumbered_param to) f.params; coroutine = f.coroutine; blocks = map (renumbered_block to) f.blocks; names = names }

-- no two positions become one
abbrev pub StaysApart : (ℕ → ℕ) → Type 0
StaysApart to = (i j : ℕ) → to i ≡ to j → i ≡ j

-- the function is the other one with its locals at other positions, no two at one
pub record IsRenumbered (f g : Function) : Type 0 where
  pub to : ℕ → ℕ
  pub apart : StaysApart to
  pub is : g ≡ renumbered_function to g.names f
