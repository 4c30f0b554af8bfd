-- Two instances of one coroutine with answers of their own.
use Rattle.std.specs.Prelude.{true, false, [], pos, Some, None, codes, refl, ◌≡◌, ◌∷◌}
use Rattle.ir_base.specs.declared.name.Name.{Name}
use Rattle.ir_base.specs.declared.ops.BinOp.{BinOp}
use Rattle.ir_base.specs.declared.ops.Pred.{Pred}
use Rattle.ir_base.specs.declared.outcome.Outcome.{Outcome}
use Rattle.run_source.specs.Source.{SourceAt}
use Rattle.ir_model.specs.Ty.{int, ptr, token}
use Rattle.ir_model.specs.declared.instr.Instr.{Instr}
use Rattle.ir_model.specs.declared.instr.Terminator.{Terminator}
use Rattle.ir_model.specs.declared.module.Module.{Module}
use Rattle.ir_model.specs.declared.operand.Allocator.{Allocator}
use Rattle.ir_model.specs.declared.operand.Callee.{Callee}
use Rattle.ir_model.specs.declared.operand.Intrinsic.{Intrinsic}
use Rattle.ir_model.specs.declared.operand.Operand.{Operand}
use Rattle.run_step.specs.Runs.{Seen}

abbrev pub the_module : Module
the_module = record { types = []; globals = []; declarations = (record { name = (Name.Text (codes "print")); result = None; params = ((int 32) ∷ []) } ∷ record { name = (Name.Text (codes "malloc")); result = (Some ptr); params = ((int 32) ∷ []) } ∷ record { name = (Name.Text (codes "free")); result = None; params = (ptr ∷ []) } ∷ record { name = (Name.Text (codes "pick")); result = (Some (int 32)); params = [] } ∷ []); functions = (record { name = (Name.Text (codes "f")); result = (Some ptr); params = (record { ty = (int 32); name = 0 } ∷ []); coroutine = true; blocks = (record { label = 1; phis = []; instrs = ((Instr.Call (Some 2) false (Some token) (Callee.Intrinsic Intrinsic.CoroId) (record { ty = (int 32); value = (Operand.Number (pos 0)) } ∷ record { ty = ptr; value = Operand.Null } ∷ record { ty = ptr; value = Operand.Null } ∷ record { ty = ptr; value = Operand.Null } ∷ [])) ∷ (Instr.Call (Some 3) false (Some (int 32)) (Callee.Intrinsic Intrinsic.CoroSizeI32) []) ∷ (Instr.Call (Some 4) false (Some ptr) (Callee.Allocator Allocator.Malloc) (record { ty = (int 32); value = (Operand.Local 3) } ∷ [])) ∷ (Instr.Call (Some 5) false (Some ptr) (Callee.Intrinsic Intrinsic.CoroBegin) (record { ty = token; value = (Operand.Local 2) } ∷ record { ty = ptr; value = (Operand.Local 4) } ∷ [])) ∷ []); term = Terminator.Jump 6 } ∷ record { label = 6; phis = (record { result = 7; ty = (int 32); incoming = (record { value = (Operand.Local 0); from = 1 } ∷ record { value = (Operand.Local 8); from = 6 } ∷ []) } ∷ []); instrs = ((Instr.Binary 8 BinOp.Add (record { nuw = false; nsw = true; exact = false; disjoint = false }) (int 32) (Operand.Local 7) (Operand.Number (pos 1))) ∷ (Instr.Call None false None (Callee.Named (Name.Text (codes "print"))) (record { ty = (int 32); value = (Operand.Local 7) } ∷ [])) ∷ (Instr.Call (Some 9) false (Some (int 8)) (Callee.Intrinsic Intrinsic.CoroSuspend) (record { ty = token; value = Operand.None } ∷ record { ty = (int 1); value = Operand.False } ∷ [])) ∷ []); term = Terminator.Switch (record { ty = (int 8); value = (Operand.Local 9) }) 10 (record { arg = record { ty = (int 8); value = (Operand.Number (pos 0)) }; target = 6 } ∷ record { arg = record { ty = (int 8); value = (Operand.Number (pos 1)) }; target = 11 } ∷ []) } ∷ record { label = 11; phis = []; instrs = ((Instr.Call (Some 12) false (Some ptr) (Callee.Intrinsic Intrinsic.CoroFree) (record { ty = token; value = (Operand.Local 2) } ∷ record { ty = ptr; value = (Operand.Local 5) } ∷ [])) ∷ (Instr.Call None false None (Callee.Allocator Allocator.Free) (record { ty = ptr; value = (Operand.Local 12) } ∷ [])) ∷ []); term = Terminator.Jump 10 } ∷ record { label = 10; phis = []; instrs = ((Instr.Call (Some 13) false (Some (int 1)) (Callee.Intrinsic Intrinsic.CoroEnd) (record { ty = ptr; value = (Operand.Local 5) } ∷ record { ty = (int 1); value = Operand.False } ∷ record { ty = token; value = Operand.None } ∷ [])) ∷ []); term = Terminator.Ret (Some (record { ty = ptr; value = (Operand.Local 5) })) } ∷ []); names = ((Name.Text (codes "n")) ∷ (Name.Text (codes "entry")) ∷ (Name.Text (codes "id")) ∷ (Name.Text (codes "size")) ∷ (Name.Text (codes "m")) ∷ (Name.Text (codes "h")) ∷ (Name.Text (codes "loop")) ∷ (Name.Text (codes "v")) ∷ (Name.Text (codes "inc")) ∷ (Name.Text (codes "s")) ∷ (Name.Text (codes "end")) ∷ (Name.Text (codes "clean")) ∷ (Name.Text (codes "fm")) ∷ (Name.Text (codes "e")) ∷ []) } ∷ record { name = (Name.Text (codes "main")); result = (Some (int 32)); params = []; coroutine = false; blocks = (record { label = 0; phis = []; instrs = ((Instr.Call (Some 1) false (Some ptr) (Callee.Named (Name.Text (codes "f"))) (record { ty = (int 32); value = (Operand.Number (pos 10)) } ∷ [])) ∷ (Instr.Call (Some 2) false (Some ptr) (Callee.Named (Name.Text (codes "f"))) (record { ty = (int 32); value = (Operand.Number (pos 20)) } ∷ [])) ∷ []); term = Terminator.Jump 3 } ∷ record { label = 3; phis = (record { result = 4; ty = (int 32); incoming = (record { value = (Operand.Number (pos 0)); from = 0 } ∷ record { value = (Operand.Local 5); from = 3 } ∷ []) } ∷ []); instrs = ((Instr.Call (Some 6) false (Some (int 32)) (Callee.Named (Name.Text (codes "pick"))) []) ∷ (Instr.Icmp 7 Pred.Ne (int 32) (Operand.Local 6) (Operand.Number (pos 0))) ∷ (Instr.Select 8 (Operand.Local 7) (record { ty = ptr; value = (Operand.Local 2) }) (record { ty = ptr; value = (Operand.Local 1) })) ∷ (Instr.Call None false None (Callee.Intrinsic Intrinsic.CoroResume) (record { ty = ptr; value = (Operand.Local 8) } ∷ [])) ∷ (Instr.Binary 5 BinOp.Add (record { nuw = false; nsw = false; exact = false; disjoint = false }) (int 32) (Operand.Local 4) (Operand.Number (pos 1))) ∷ (Instr.Icmp 9 Pred.Ult (int 32) (Operand.Local 5) (Operand.Number (pos 5))) ∷ []); term = Terminator.Branch (Operand.Local 9) 3 10 } ∷ record { label = 10; phis = []; instrs = ((Instr.Call None false None (Callee.Intrinsic Intrinsic.CoroDestroy) (record { ty = ptr; value = (Operand.Local 1) } ∷ [])) ∷ (Instr.Call None false None (Callee.Intrinsic Intrinsic.CoroDestroy) (record { ty = ptr; value = (Operand.Local 2) } ∷ [])) ∷ []); term = Terminator.Ret (Some (record { ty = (int 32); value = (Operand.Number (pos 0)) })) } ∷ []); names = ((Name.Text (codes "entry")) ∷ (Name.Text (codes "a")) ∷ (Name.Text (codes "b")) ∷ (Name.Text (codes "turn")) ∷ (Name.Text (codes "i")) ∷ (Name.Text (codes "j")) ∷ (Name.Text (codes "c")) ∷ (Name.Text (codes "z")) ∷ (Name.Text (codes "t")) ∷ (Name.Text (codes "more")) ∷ (Name.Text (codes "out")) ∷ []) } ∷ []) }

abbrev pub expected : Seen
expected = record { events = (record { name = Name.Text (codes "print"); args = (record { width = 32; bits = 10 } ∷ []) } ∷ record { name = Name.Text (codes "print"); args = (record { width = 32; bits = 20 } ∷ []) } ∷ record { name = Name.Text (codes "pick"); args = [] } ∷ record { name = Name.Text (codes "print"); args = (record { width = 32; bits = 21 } ∷ []) } ∷ record { name = Name.Text (codes "pick"); args = [] } ∷ record { name = Name.Text (codes "print"); args = (record { width = 32; bits = 11 } ∷ []) } ∷ record { name = Name.Text (codes "pick"); args = [] } ∷ record { name = Name.Text (codes "print"); args = (record { width = 32; bits = 12 } ∷ []) } ∷ record { name = Name.Text (codes "pick"); args = [] } ∷ record { name = Name.Text (codes "print"); args = (record { width = 32; bits = 22 } ∷ []) } ∷ record { name = Name.Text (codes "pick"); args = [] } ∷ record { name = Name.Text (codes "print"); args = (record { width = 32; bits = 23 } ∷ []) } ∷ []); outcome = (Outcome.Returned (Some (record { width = 32; bits = 0 }))); allocs = 2 }

abbrev pub Computes : Type 0
Computes = SourceAt the_module (record { coroutine = 0; size = 24; align = 8 } ∷ []) 1 [] ((pos 1) ∷ (pos 0) ∷ (pos 0) ∷ (pos 1) ∷ (pos 1) ∷ []) 200 ≡ expected

pub computes : Computes
computes = refl
