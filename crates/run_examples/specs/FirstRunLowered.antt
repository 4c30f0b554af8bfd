-- The lowered form of a coroutine that suspends once.
use Rattle.std.specs.Prelude.{false, [], pos, Some, None, codes, refl, ◌≡◌, ◌∷◌}
use Rattle.ir_base.specs.declared.name.Name.{Name}
use Rattle.ir_base.specs.declared.outcome.Outcome.{Outcome}
use Rattle.ir_model.specs.Ty.{int, ptr}
use Rattle.ir_model.specs.declared.instr.Instr.{Instr}
use Rattle.ir_model.specs.declared.instr.Terminator.{Terminator}
use Rattle.ir_model.specs.declared.module.Module.{Module}
use Rattle.ir_model.specs.declared.operand.Allocator.{Allocator}
use Rattle.ir_model.specs.declared.operand.Callee.{Callee}
use Rattle.ir_model.specs.declared.operand.Operand.{Operand}
use Rattle.run_step.specs.Runs.{Seen}
use Rattle.run_plain.specs.Plain.{PlainAt}

abbrev pub the_module : Module
the_module = record { types = []; globals = []; declarations = (record { name = (Name.Text (codes "print")); result = None; params = ((int 32) ∷ []) } ∷ record { name = (Name.Text (codes "malloc")); result = (Some ptr); params = ((int 32) ∷ []) } ∷ record { name = (Name.Text (codes "free")); result = None; params = (ptr ∷ []) } ∷ []); functions = (record { name = (Name.Text (codes "f")); result = (Some ptr); params = (record { ty = (int 32); name = 0 } ∷ []); coroutine = false; blocks = (record { label = 1; phis = []; instrs = ((Instr.Call (Some 2) false (Some ptr) (Callee.Allocator Allocator.Malloc) (record { ty = (int 32); value = (Operand.Number (pos 24)) } ∷ [])) ∷ (Instr.Store (record { ty = ptr; value = (Operand.Global (Name.Text (codes "f.resume"))) }) (Operand.Local 2) 8) ∷ (Instr.Gep 3 false (int 8) (Operand.Local 2) (record { ty = (int 64); value = (Operand.Number (pos 8)) } ∷ [])) ∷ (Instr.Store (record { ty = ptr; value = (Operand.Global (Name.Text (codes "f.destroy"))) }) (Operand.Local 3) 8) ∷ (Instr.Call None false None (Callee.Named (Name.Text (codes "print"))) (record { ty = (int 32); value = (Operand.Local 0) } ∷ [])) ∷ (Instr.Gep 4 false (int 8) (Operand.Local 2) (record { ty = (int 64); value = (Operand.Number (pos 16)) } ∷ [])) ∷ (Instr.Store (record { ty = (int 8); value = (Operand.Number (pos 0)) }) (Operand.Local 4) 1) ∷ []); term = Terminator.Ret (Some (record { ty = ptr; value = (Operand.Local 2) })) } ∷ []); names = ((Name.Text (codes "n")) ∷ (Name.Text (codes "entry")) ∷ (Name.Text (codes "m")) ∷ (Name.Text (codes "d")) ∷ (Name.Text (codes "i")) ∷ []) } ∷ record { name = (Name.Text (codes "f.resume")); result = None; params = (record { ty = ptr; name = 0 } ∷ []); coroutine = false; blocks = (record { label = 1; phis = []; instrs = ((Instr.Gep 2 false (int 8) (Operand.Local 0) (record { ty = (int 64); value = (Operand.Number (pos 16)) } ∷ [])) ∷ (Instr.Load 3 (int 8) (Operand.Local 2) 1) ∷ []); term = Terminator.Switch (record { ty = (int 8); value = (Operand.Local 3) }) 4 (record { arg = record { ty = (int 8); value = (Operand.Number (pos 0)) }; target = 5 } ∷ []) } ∷ record { label = 4; phis = []; instrs = []; term = Terminator.Unreachable } ∷ record { label = 5; phis = []; instrs = ((Instr.Call None false None (Callee.Named (Name.Text (codes "print"))) (record { ty = (int 32); value = (Operand.Number (pos 2)) } ∷ [])) ∷ []); term = Terminator.Jump 6 } ∷ record { label = 6; phis = []; instrs = ((Instr.Call None false None (Callee.Allocator Allocator.Free) (record { ty = ptr; value = (Operand.Local 0) } ∷ [])) ∷ []); term = Terminator.Ret None } ∷ []); names = ((Name.Text (codes "h")) ∷ (Name.Text (codes "entry")) ∷ (Name.Text (codes "i")) ∷ (Name.Text (codes "x")) ∷ (Name.Text (codes "bad")) ∷ (Name.Text (codes "again")) ∷ (Name.Text (codes "clean")) ∷ []) } ∷ record { name = (Name.Text (codes "f.destroy")); result = None; params = (record { ty = ptr; name = 0 } ∷ []); coroutine = false; blocks = (record { label = 1; phis = []; instrs = ((Instr.Call None false None (Callee.Allocator Allocator.Free) (record { ty = ptr; value = (Operand.Local 0) } ∷ [])) ∷ []); term = Terminator.Ret None } ∷ []); names = ((Name.Text (codes "h")) ∷ (Name.Text (codes "entry")) ∷ []) } ∷ record { name = (Name.Text (codes "main")); result = (Some (int 32)); params = []; coroutine = false; blocks = (record { label = 0; phis = []; instrs = ((Instr.Call (Some 1) false (Some ptr) (Callee.Named (Name.Text (codes "f"))) (record { ty = (int 32); value = (Operand.Number (pos 1)) } ∷ [])) ∷ (Instr.Load 2 ptr (Operand.Local 1) 8) ∷ (Instr.Call None false None (Callee.Local 2) (record { ty = ptr; value = (Operand.Local 1) } ∷ [])) ∷ []); term = Terminator.Ret (Some (record { ty = (int 32); value = (Operand.Number (pos 0)) })) } ∷ []); names = ((Name.Text (codes "entry")) ∷ (Name.Text (codes "h")) ∷ (Name.Text (codes "r")) ∷ []) } ∷ []) }

abbrev pub expected : Seen
expected = record { events = (record { name = Name.Text (codes "print"); args = (record { width = 32; bits = 1 } ∷ []) } ∷ record { name = Name.Text (codes "print"); args = (record { width = 32; bits = 2 } ∷ []) } ∷ []); outcome = (Outcome.Returned (Some (record { width = 32; bits = 0 }))); allocs = 1 }

abbrev pub Computes : Type 0
Computes = PlainAt the_module 3 [] [] 100 ≡ expected

pub computes : Computes
computes = refl
