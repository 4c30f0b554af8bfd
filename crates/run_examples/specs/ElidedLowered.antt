-- A frame on its caller's stack, which no allocator made.
use Rattle.std.specs.Prelude.{true, false, [], pos, Some, None, codes, refl, ◌≡◌, ◌∷◌}
use Rattle.ir_base.specs.declared.name.Name.{Name}
use Rattle.ir_base.specs.declared.outcome.Outcome.{Outcome}
use Rattle.ir_model.specs.Ty.{array, int, ptr}
use Rattle.ir_model.specs.declared.instr.Instr.{Instr}
use Rattle.ir_model.specs.declared.instr.Terminator.{Terminator}
use Rattle.ir_model.specs.declared.module.Module.{Module}
use Rattle.ir_model.specs.declared.operand.Callee.{Callee}
use Rattle.ir_model.specs.declared.operand.Operand.{Operand}
use Rattle.run_step.specs.Runs.{Seen}
use Rattle.run_plain.specs.Plain.{PlainAt}

abbrev pub the_module : Module
the_module = record { types = []; globals = []; declarations = (record { name = (Name.Text (codes "print")); result = None; params = ((int 32) ∷ []) } ∷ record { name = (Name.Text (codes "malloc")); result = (Some ptr); params = ((int 32) ∷ []) } ∷ record { name = (Name.Text (codes "free")); result = None; params = (ptr ∷ []) } ∷ []); functions = (record { name = (Name.Text (codes "g.noalloc")); result = (Some ptr); params = (record { ty = (int 32); name = 0 } ∷ record { ty = ptr; name = 1 } ∷ []); coroutine = false; blocks = (record { label = 2; phis = []; instrs = ((Instr.Store (record { ty = ptr; value = (Operand.Global (Name.Text (codes "g.resume"))) }) (Operand.Local 1) 8) ∷ (Instr.Gep 3 false (int 8) (Operand.Local 1) (record { ty = (int 64); value = (Operand.Number (pos 8)) } ∷ [])) ∷ (Instr.Store (record { ty = ptr; value = (Operand.Global (Name.Text (codes "g.cleanup"))) }) (Operand.Local 3) 8) ∷ (Instr.Call None false None (Callee.Named (Name.Text (codes "print"))) (record { ty = (int 32); value = (Operand.Local 0) } ∷ [])) ∷ (Instr.Gep 4 false (int 8) (Operand.Local 1) (record { ty = (int 64); value = (Operand.Number (pos 16)) } ∷ [])) ∷ (Instr.Store (record { ty = (int 8); value = (Operand.Number (pos 0)) }) (Operand.Local 4) 1) ∷ []); term = Terminator.Ret (Some (record { ty = ptr; value = (Operand.Local 1) })) } ∷ []); names = ((Name.Text (codes "n")) ∷ (Name.Text (codes "m")) ∷ (Name.Text (codes "entry")) ∷ (Name.Text (codes "d")) ∷ (Name.Text (codes "i")) ∷ []) } ∷ record { name = (Name.Text (codes "g.resume")); result = None; params = (record { ty = ptr; name = 0 } ∷ []); coroutine = false; blocks = (record { label = 1; phis = []; instrs = ((Instr.Call None false None (Callee.Named (Name.Text (codes "print"))) (record { ty = (int 32); value = (Operand.Number (pos 2)) } ∷ [])) ∷ []); term = Terminator.Ret None } ∷ []); names = ((Name.Text (codes "h")) ∷ (Name.Text (codes "entry")) ∷ []) } ∷ record { name = (Name.Text (codes "g.pass")); result = None; params = (record { ty = ptr; name = 0 } ∷ []); coroutine = false; blocks = (record { label = 1; phis = []; instrs = ((Instr.Load 2 ptr (Operand.Local 0) 8) ∷ (Instr.Call None true None (Callee.Local 2) (record { ty = ptr; value = (Operand.Local 0) } ∷ [])) ∷ []); term = Terminator.Ret None } ∷ []); names = ((Name.Text (codes "h")) ∷ (Name.Text (codes "entry")) ∷ (Name.Text (codes "r")) ∷ []) } ∷ record { name = (Name.Text (codes "g.cleanup")); result = None; params = (record { ty = ptr; name = 0 } ∷ []); coroutine = false; blocks = (record { label = 1; phis = []; instrs = []; term = Terminator.Ret None } ∷ []); names = ((Name.Text (codes "h")) ∷ (Name.Text (codes "entry")) ∷ []) } ∷ record { name = (Name.Text (codes "main")); result = (Some (int 32)); params = []; coroutine = false; blocks = (record { label = 0; phis = []; instrs = ((Instr.Alloca 1 (array 24 (int 8)) 8) ∷ (Instr.Call (Some 2) false (Some ptr) (Callee.Named (Name.Text (codes "g.noalloc"))) (record { ty = (int 32); value = (Operand.Number (pos 1)) } ∷ record { ty = ptr; value = (Operand.Local 1) } ∷ [])) ∷ (Instr.Call None false None (Callee.Named (Name.Text (codes "g.pass"))) (record { ty = ptr; value = (Operand.Local 2) } ∷ [])) ∷ (Instr.Gep 3 false (int 8) (Operand.Local 2) (record { ty = (int 64); value = (Operand.Number (pos 8)) } ∷ [])) ∷ (Instr.Load 4 ptr (Operand.Local 3) 8) ∷ (Instr.Call None false None (Callee.Local 4) (record { ty = ptr; value = (Operand.Local 2) } ∷ [])) ∷ []); term = Terminator.Ret (Some (record { ty = (int 32); value = (Operand.Number (pos 0)) })) } ∷ []); names = ((Name.Text (codes "entry")) ∷ (Name.Text (codes "fr")) ∷ (Name.Text (codes "h")) ∷ (Name.Text (codes "dd")) ∷ (Name.Text (codes "r3")) ∷ []) } ∷ []) }

abbrev pub expected : Seen
expected = record { events = (record { name = Name.Text (codes "print"); args = (record { width = 32; bits = 1 } ∷ []) } ∷ record { name = Name.Text (codes "print"); args = (record { width = 32; bits = 2 } ∷ []) } ∷ []); outcome = (Outcome.Returned (Some (record { width = 32; bits = 0 }))); allocs = 0 }

abbrev pub Computes : Type 0
Computes = PlainAt the_module 4 [] [] 150 ≡ expected

pub computes : Computes
computes = refl
