-- The getelementptrs of some instructions.
use Rattle.std.proofs.Common.{◌≡◌, List, [], ◌∷◌, ◌++◌, refl}
use Rattle.ir_model.specs.declared.instr.Instr.{Instr}
use Rattle.ir_model.specs.declared.operand.Operand.{Operand}
use Rattle.flow_facts.specs.Chains.{bases_in}

pub bases_in_cons : (i : Instr) (is : List Instr) → bases_in (i ∷ is) ≡ bases_in (i ∷ []) ++ bases_in is
bases_in_cons (Instr.Gep r inbounds ty (Operand.Local v) indices) is = refl
bases_in_cons (Instr.Gep r inbounds ty (Operand.Global n) indices) is = refl
bases_in_cons (Instr.Gep r inbounds ty (Operand.Number n) indices) is = refl
bases_in_cons (Instr.Gep r inbounds ty Operand.True indices) is = refl
bases_in_cons (Instr.Gep r inbounds ty Operand.False indices) is = refl
bases_in_cons (Instr.Gep r inbounds ty Operand.Null indices) is = refl
bases_in_cons (Instr.Gep r inbounds ty Operand.None indices) is = refl
bases_in_cons (Instr.Gep r inbounds ty Operand.Poison indices) is = refl
bases_in_cons (Instr.Alloca name ty align) is = refl
bases_in_cons (Instr.Binary r op flags ty left right) is = refl
bases_in_cons (Instr.Icmp r pred ty left right) is = refl
bases_in_cons (Instr.Select r c a b) is = refl
bases_in_cons (Instr.Cast r op nneg arg to) is = refl
bases_in_cons (Instr.Load r ty address align) is = refl
bases_in_cons (Instr.Store arg address align) is = refl
bases_in_cons (Instr.Call r must_tail ty callee args) is = refl
