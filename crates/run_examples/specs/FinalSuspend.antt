-- At its final suspend a coroutine is done.
use Rattle.std.specs.Prelude.{true, false, [], pos, Some, None, codes, refl, ◌≡◌, ◌∷◌}
use Rattle.ir_base.specs.declared.name.Name.{Name}
use Rattle.ir_base.specs.declared.outcome.Outcome.{Outcome}
use Rattle.run_source.specs.Source.{SourceAt}
use Rattle.ir_model.specs.Ty.{int, ptr, token}
use Rattle.ir_model.specs.declared.instr.Instr.{Instr}
use Rattle.ir_model.specs.declared.instr.Terminator.{Terminator}
use Rattle.ir_model.specs.declared.module.Module.{Module}
use Rattle.ir_model.specs.declared.operand.Allocator.{Allocator}
use Rattle.ir_model.specs.declared.operand.Callee.{Callee}
use Rattle.ir_model.specs.declared.operand.Intrinsic.{Intrinsic}
use Rattle.ir_model.specs.declared.operand.Operand.{Operand}
use Rattle.run_step.specs.Runs.{Seen}

abbrev pub the_module : Module
the_module = record { types = []; globals = []; declarations = (record { name = (Name.Text (codes "print")); result = None; params = ((int 32) ∷ []) } ∷ record { name = (Name.Text (codes "malloc")); result = (Some ptr); params = ((int 32) ∷ []) } ∷ record { name = (Name.Text (codes "free")); result = None; params = (ptr ∷ []) } ∷ record { name = (Name.Text (codes "flag")); result = None; params = ((int 1) ∷ []) } ∷ []); functions = (record { name = (Name.Text (codes "f")); result = (Some ptr); params = []; coroutine = true; blocks = (record { label = 0; phis = []; instrs = ((Instr.Call (Some 1) false (Some token) (Callee.Intrinsic Intrinsic.CoroId) (record { ty = (int 32); value = (Operand.Number (pos 0)) } ∷ record { ty = ptr; value = Operand.Null } ∷ record { ty = ptr; value = Operand.Null } ∷ record { ty = ptr; value = Operand.Null } ∷ [])) ∷ (Instr.Call (Some 2) false (Some (int 32)) (Callee.Intrinsic Intrinsic.CoroSizeI32) []) ∷ (Instr.Call (Some 3) false (Some ptr) (Callee.Allocator Allocator.Malloc) (record { ty = (int 32); value = (Operand.Local 2) } ∷ [])) ∷ (Instr.Call (Some 4) false (Some ptr) (Callee.Intrinsic Intrinsic.CoroBegin) (record { ty = token; value = (Operand.Local 1) } ∷ record { ty = ptr; value = (Operand.Local 3) } ∷ [])) ∷ (Instr.Call None false None (Callee.Named (Name.Text (codes "print"))) (record { ty = (int 32); value = (Operand.Number (pos 1)) } ∷ [])) ∷ (Instr.Call (Some 5) false (Some (int 8)) (Callee.Intrinsic Intrinsic.CoroSuspend) (record { ty = token; value = Operand.None } ∷ record { ty = (int 1); value = Operand.False } ∷ [])) ∷ []); term = Terminator.Switch (record { ty = (int 8); value = (Operand.Local 5) }) 6 (record { arg = record { ty = (int 8); value = (Operand.Number (pos 0)) }; target = 7 } ∷ record { arg = record { ty = (int 8); value = (Operand.Number (pos 1)) }; target = 8 } ∷ []) } ∷ record { label = 7; phis = []; instrs = ((Instr.Call None false None (Callee.Named (Name.Text (codes "print"))) (record { ty = (int 32); value = (Operand.Number (pos 2)) } ∷ [])) ∷ (Instr.Call (Some 9) false (Some (int 8)) (Callee.Intrinsic Intrinsic.CoroSuspend) (record { ty = token; value = Operand.None } ∷ record { ty = (int 1); value = Operand.True } ∷ [])) ∷ []); term = Terminator.Switch (record { ty = (int 8); value = (Operand.Local 9) }) 6 (record { arg = record { ty = (int 8); value = (Operand.Number (pos 0)) }; target = 10 } ∷ record { arg = record { ty = (int 8); value = (Operand.Number (pos 1)) }; target = 8 } ∷ []) } ∷ record { label = 10; phis = []; instrs = []; term = Terminator.Unreachable } ∷ record { label = 8; phis = []; instrs = ((Instr.Call (Some 11) false (Some ptr) (Callee.Intrinsic Intrinsic.CoroFree) (record { ty = token; value = (Operand.Local 1) } ∷ record { ty = ptr; value = (Operand.Local 4) } ∷ [])) ∷ (Instr.Call None false None (Callee.Allocator Allocator.Free) (record { ty = ptr; value = (Operand.Local 11) } ∷ [])) ∷ []); term = Terminator.Jump 6 } ∷ record { label = 6; phis = []; instrs = ((Instr.Call (Some 12) false (Some (int 1)) (Callee.Intrinsic Intrinsic.CoroEnd) (record { ty = ptr; value = (Operand.Local 4) } ∷ record { ty = (int 1); value = Operand.False } ∷ record { ty = token; value = Operand.None } ∷ [])) ∷ []); term = Terminator.Ret (Some (record { ty = ptr; value = (Operand.Local 4) })) } ∷ []); names = ((Name.Text (codes "entry")) ∷ (Name.Text (codes "id")) ∷ (Name.Text (codes "size")) ∷ (Name.Text (codes "m")) ∷ (Name.Text (codes "h")) ∷ (Name.Text (codes "s")) ∷ (Name.Text (codes "end")) ∷ (Name.Text (codes "r")) ∷ (Name.Text (codes "clean")) ∷ (Name.Text (codes "t")) ∷ (Name.Text (codes "never")) ∷ (Name.Text (codes "fm")) ∷ (Name.Text (codes "e")) ∷ []) } ∷ record { name = (Name.Text (codes "main")); result = (Some (int 32)); params = []; coroutine = false; blocks = (record { label = 0; phis = []; instrs = ((Instr.Call (Some 1) false (Some ptr) (Callee.Named (Name.Text (codes "f"))) []) ∷ (Instr.Call (Some 2) false (Some (int 1)) (Callee.Intrinsic Intrinsic.CoroDone) (record { ty = ptr; value = (Operand.Local 1) } ∷ [])) ∷ (Instr.Call None false None (Callee.Named (Name.Text (codes "flag"))) (record { ty = (int 1); value = (Operand.Local 2) } ∷ [])) ∷ (Instr.Call None false None (Callee.Intrinsic Intrinsic.CoroResume) (record { ty = ptr; value = (Operand.Local 1) } ∷ [])) ∷ (Instr.Call (Some 3) false (Some (int 1)) (Callee.Intrinsic Intrinsic.CoroDone) (record { ty = ptr; value = (Operand.Local 1) } ∷ [])) ∷ (Instr.Call None false None (Callee.Named (Name.Text (codes "flag"))) (record { ty = (int 1); value = (Operand.Local 3) } ∷ [])) ∷ (Instr.Call None false None (Callee.Intrinsic Intrinsic.CoroDestroy) (record { ty = ptr; value = (Operand.Local 1) } ∷ [])) ∷ []); term = Terminator.Ret (Some (record { ty = (int 32); value = (Operand.Number (pos 0)) })) } ∷ []); names = ((Name.Text (codes "entry")) ∷ (Name.Text (codes "h")) ∷ (Name.Text (codes "d")) ∷ (Name.Text (codes "g")) ∷ []) } ∷ []) }

abbrev pub expected : Seen
expected = record { events = (record { name = Name.Text (codes "print"); args = (record { width = 32; bits = 1 } ∷ []) } ∷ record { name = Name.Text (codes "flag"); args = (record { width = 1; bits = 0 } ∷ []) } ∷ record { name = Name.Text (codes "print"); args = (record { width = 32; bits = 2 } ∷ []) } ∷ record { name = Name.Text (codes "flag"); args = (record { width = 1; bits = 1 } ∷ []) } ∷ []); outcome = (Outcome.Returned (Some (record { width = 32; bits = 0 }))); allocs = 1 }

abbrev pub Computes : Type 0
Computes = SourceAt the_module (record { coroutine = 0; size = 24; align = 8 } ∷ []) 1 [] [] 100 ≡ expected

pub computes : Computes
computes = refl
