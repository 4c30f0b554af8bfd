-- No slot is made anew where an escaped one has two starts with a suspend between: both live in the frame.
use Rattle.std.specs.Prelude.{ℕ, Bool, Option, true, false, [], pos, Some, None, codes, refl, ◌≡◌, ◌∷◌}
use Rattle.pass_kept_proof.specs.ir_base.declared.name.Name.{Name}
use Rattle.pass_kept_proof.specs.ir_base.declared.outcome.Outcome.{Outcome}
use Rattle.pass_kept_proof.specs.ir_model.Ty.{int, ptr, token}
use Rattle.pass_kept_proof.specs.ir_model.declared.instr.Instr.{Instr}
use Rattle.pass_kept_proof.specs.ir_model.declared.instr.Terminator.{Terminator}
use Rattle.pass_kept_proof.specs.ir_model.declared.module.Module.{Module}
use Rattle.pass_kept_proof.specs.ir_model.declared.operand.Allocator.{Allocator}
use Rattle.pass_kept_proof.specs.ir_model.declared.operand.Callee.{Callee}
use Rattle.pass_kept_proof.specs.ir_model.declared.operand.Intrinsic.{Intrinsic}
use Rattle.pass_kept_proof.specs.ir_model.declared.operand.Operand.{Operand}
use Rattle.pass_kept_proof.specs.run_step.Runs.{Seen}
use Rattle.pass_renewed_proof.specs.Renewed.{RenewedAt}

abbrev pub the_module : Module
the_module = record { types = []; globals = []; declarations = (record { name = (Name.Text (codes "print")); result = None; params = ((int 32) ∷ []) } ∷ record { name = (Name.Text (codes "malloc")); result = (Some ptr); params = ((int 32) ∷ []) } ∷ record { name = (Name.Text (codes "free")); result = None; params = (ptr ∷ []) } ∷ []); functions = (record { name = (Name.Text (codes "f")); result = (Some ptr); params = []; coroutine = true; blocks = (record { label = 0; phis = []; instrs = ((Instr.Alloca 1 (int 32) 4) ∷ (Instr.Alloca 2 ptr 8) ∷ (Instr.Call (Some 3) false (Some token) (Callee.Intrinsic Intrinsic.CoroId) (record { ty = (int 32); value = (Operand.Number (pos 0)) } ∷ record { ty = ptr; value = Operand.Null } ∷ record { ty = ptr; value = Operand.Null } ∷ record { ty = ptr; value = Operand.Null } ∷ [])) ∷ (Instr.Call (Some 4) false (Some (int 32)) (Callee.Intrinsic Intrinsic.CoroSizeI32) []) ∷ (Instr.Call (Some 5) false (Some ptr) (Callee.Allocator Allocator.Malloc) (record { ty = (int 32); value = (Operand.Local 4) } ∷ [])) ∷ (Instr.Call (Some 6) false (Some ptr) (Callee.Intrinsic Intrinsic.CoroBegin) (record { ty = token; value = (Operand.Local 3) } ∷ record { ty = ptr; value = (Operand.Local 5) } ∷ [])) ∷ (Instr.Call None false None (Callee.Intrinsic Intrinsic.LifetimeStart) (record { ty = (int 64); value = (Operand.Number (pos 4)) } ∷ record { ty = ptr; value = (Operand.Local 1) } ∷ [])) ∷ (Instr.Store (record { ty = ptr; value = (Operand.Local 1) }) (Operand.Local 2) 8) ∷ (Instr.Call None false None (Callee.Intrinsic Intrinsic.LifetimeEnd) (record { ty = (int 64); value = (Operand.Number (pos 4)) } ∷ record { ty = ptr; value = (Operand.Local 1) } ∷ [])) ∷ (Instr.Call (Some 7) false (Some (int 8)) (Callee.Intrinsic Intrinsic.CoroSuspend) (record { ty = token; value = Operand.None } ∷ record { ty = (int 1); value = Operand.False } ∷ [])) ∷ []); term = Terminator.Switch (record { ty = (int 8); value = (Operand.Local 7) }) 8 (record { arg = record { ty = (int 8); value = (Operand.Number (pos 0)) }; target = 9 } ∷ record { arg = record { ty = (int 8); value = (Operand.Number (pos 1)) }; target = 10 } ∷ []) } ∷ record { label = 9; phis = []; instrs = ((Instr.Call None false None (Callee.Intrinsic Intrinsic.LifetimeStart) (record { ty = (int 64); value = (Operand.Number (pos 4)) } ∷ record { ty = ptr; value = (Operand.Local 1) } ∷ [])) ∷ (Instr.Load 11 ptr (Operand.Local 2) 8) ∷ (Instr.Store (record { ty = (int 32); value = (Operand.Number (pos 5)) }) (Operand.Local 11) 4) ∷ (Instr.Load 12 (int 32) (Operand.Local 1) 4) ∷ (Instr.Call None false None (Callee.Named (Name.Text (codes "print"))) (record { ty = (int 32); value = (Operand.Local 12) } ∷ [])) ∷ (Instr.Call None false None (Callee.Intrinsic Intrinsic.LifetimeEnd) (record { ty = (int 64); value = (Operand.Number (pos 4)) } ∷ record { ty = ptr; value = (Operand.Local 1) } ∷ [])) ∷ []); term = Terminator.Jump 10 } ∷ record { label = 10; phis = []; instrs = ((Instr.Call (Some 13) false (Some ptr) (Callee.Intrinsic Intrinsic.CoroFree) (record { ty = token; value = (Operand.Local 3) } ∷ record { ty = ptr; value = (Operand.Local 6) } ∷ [])) ∷ (Instr.Call None false None (Callee.Allocator Allocator.Free) (record { ty = ptr; value = (Operand.Local 13) } ∷ [])) ∷ []); term = Terminator.Jump 8 } ∷ record { label = 8; phis = []; instrs = ((Instr.Call (Some 14) false (Some (int 1)) (Callee.Intrinsic Intrinsic.CoroEnd) (record { ty = ptr; value = (Operand.Local 6) } ∷ record { ty = (int 1); value = Operand.False } ∷ record { ty = token; value = Operand.None } ∷ [])) ∷ []); term = Terminator.Ret (Some (record { ty = ptr; value = (Operand.Local 6) })) } ∷ []); names = ((Name.Text (codes "entry")) ∷ (Name.Text (codes "p")) ∷ (Name.Text (codes "g")) ∷ (Name.Text (codes "id")) ∷ (Name.Text (codes "size")) ∷ (Name.Text (codes "m")) ∷ (Name.Text (codes "h")) ∷ (Name.Text (codes "s")) ∷ (Name.Text (codes "end")) ∷ (Name.Text (codes "r")) ∷ (Name.Text (codes "clean")) ∷ (Name.Text (codes "q")) ∷ (Name.Text (codes "x")) ∷ (Name.Text (codes "fm")) ∷ (Name.Text (codes "e")) ∷ []) } ∷ record { name = (Name.Text (codes "main")); result = (Some (int 32)); params = []; coroutine = false; blocks = (record { label = 0; phis = []; instrs = ((Instr.Call (Some 1) false (Some ptr) (Callee.Named (Name.Text (codes "f"))) []) ∷ (Instr.Call None false None (Callee.Intrinsic Intrinsic.CoroResume) (record { ty = ptr; value = (Operand.Local 1) } ∷ [])) ∷ []); term = Terminator.Ret (Some (record { ty = (int 32); value = (Operand.Number (pos 0)) })) } ∷ []); names = ((Name.Text (codes "entry")) ∷ (Name.Text (codes "h")) ∷ []) } ∷ []) }

abbrev pub flags : ℕ → ℕ → Bool
flags func v = false

abbrev pub slots : ℕ → ℕ → Option ℕ
slots func v = None

abbrev pub expected : Seen
expected = record { events = (record { name = Name.Text (codes "print"); args = (record { width = 32; bits = 5 } ∷ []) } ∷ []); outcome = (Outcome.Returned (Some (record { width = 32; bits = 0 }))); allocs = 1 }

abbrev pub Computes : Type 0
Computes = RenewedAt the_module (λ func suspend v. true) flags slots (record { coroutine = 0; size = 32; align = 8 } ∷ []) 1 [] [] 60 ≡ expected

pub computes : Computes
computes = refl
