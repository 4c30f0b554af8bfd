-- The allocas of some instructions.
use Rattle.std.proofs.Common.{◌≡◌, ℕ, List, [], ◌∷◌, ◌++◌, refl}
use Rattle.ir_model.specs.declared.instr.Instr.{Instr}
use Rattle.rule_windows.specs.ir_paths.Slots.{allocas_in}

pub allocas_in_cons : (i : Instr) (is : List Instr) → allocas_in (i ∷ is) ≡ allocas_in (i ∷ []) ++ allocas_in is
allocas_in_cons (Instr.Alloca name ty align) is = refl
allocas_in_cons (Instr.Binary r op flags ty left right) is = refl
allocas_in_cons (Instr.Icmp r pred ty left right) is = refl
allocas_in_cons (Instr.Select r c a b) is = refl
allocas_in_cons (Instr.Cast r op nneg arg to) is = refl
allocas_in_cons (Instr.Load r ty address align) is = refl
allocas_in_cons (Instr.Store arg address align) is = refl
allocas_in_cons (Instr.Gep r inbounds ty base indices) is = refl
allocas_in_cons (Instr.Call r must_tail ty callee args) is = refl
