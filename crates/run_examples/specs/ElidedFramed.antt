-- A ramp is given a frame on its caller's stack.
use Rattle.std.specs.Prelude.{true, false, [], pos, Some, None, codes, refl, ◌≡◌, ◌∷◌}
use Rattle.ir_base.specs.declared.name.Name.{Name}
use Rattle.ir_base.specs.declared.ops.BinOp.{BinOp}
use Rattle.ir_base.specs.declared.outcome.Outcome.{Outcome}
use Rattle.frame_layout.specs.declared.layout.FieldKind.{FieldKind}
use Rattle.run_framed.specs.Framed.{FramedAt}
use Rattle.ir_model.specs.Ty.{array, int, ptr, token}
use Rattle.ir_model.specs.declared.instr.Instr.{Instr}
use Rattle.ir_model.specs.declared.instr.Terminator.{Terminator}
use Rattle.ir_model.specs.declared.module.Module.{Module}
use Rattle.ir_model.specs.declared.operand.Allocator.{Allocator}
use Rattle.ir_model.specs.declared.operand.Callee.{Callee}
use Rattle.ir_model.specs.declared.operand.Intrinsic.{Intrinsic}
use Rattle.ir_model.specs.declared.operand.Operand.{Operand}
use Rattle.run_step.specs.Runs.{Seen}

abbrev pub the_module : Module
the_module = record { types = []; globals = []; declarations = (record { name = (Name.Text (codes "print")); result = None; params = ((int 32) ∷ []) } ∷ record { name = (Name.Text (codes "malloc")); result = (Some ptr); params = ((int 32) ∷ []) } ∷ record { name = (Name.Text (codes "free")); result = None; params = (ptr ∷ []) } ∷ []); functions = (record { name = (Name.Text (codes "g")); result = (Some ptr); params = (record { ty = (int 32); name = 0 } ∷ []); coroutine = true; blocks = (record { label = 1; phis = []; instrs = ((Instr.Alloca 2 (int 32) 4) ∷ (Instr.Call (Some 3) false (Some token) (Callee.Intrinsic Intrinsic.CoroId) (record { ty = (int 32); value = (Operand.Number (pos 0)) } ∷ record { ty = ptr; value = Operand.Null } ∷ record { ty = ptr; value = Operand.Null } ∷ record { ty = ptr; value = Operand.Null } ∷ [])) ∷ (Instr.Call (Some 4) false (Some (int 1)) (Callee.Intrinsic Intrinsic.CoroAlloc) (record { ty = token; value = (Operand.Local 3) } ∷ [])) ∷ []); term = Terminator.Branch (Operand.Local 4) 5 6 } ∷ record { label = 5; phis = []; instrs = ((Instr.Call (Some 7) false (Some (int 32)) (Callee.Intrinsic Intrinsic.CoroSizeI32) []) ∷ (Instr.Call (Some 8) false (Some ptr) (Callee.Allocator Allocator.Malloc) (record { ty = (int 32); value = (Operand.Local 7) } ∷ [])) ∷ []); term = Terminator.Jump 6 } ∷ record { label = 6; phis = (record { result = 9; ty = ptr; incoming = (record { value = Operand.Null; from = 1 } ∷ record { value = (Operand.Local 8); from = 5 } ∷ []) } ∷ []); instrs = ((Instr.Call (Some 10) false (Some ptr) (Callee.Intrinsic Intrinsic.CoroBegin) (record { ty = token; value = (Operand.Local 3) } ∷ record { ty = ptr; value = (Operand.Local 9) } ∷ [])) ∷ []); term = Terminator.Jump 11 } ∷ record { label = 11; phis = (record { result = 12; ty = (int 32); incoming = (record { value = (Operand.Local 0); from = 6 } ∷ record { value = (Operand.Local 13); from = 14 } ∷ []) } ∷ []); instrs = ((Instr.Binary 15 BinOp.Add (record { nuw = false; nsw = true; exact = false; disjoint = false }) (int 32) (Operand.Local 12) (Operand.Number (pos 1))) ∷ (Instr.Call None false None (Callee.Named (Name.Text (codes "print"))) (record { ty = (int 32); value = (Operand.Local 12) } ∷ [])) ∷ (Instr.Gep 16 false (int 8) (Operand.Local 10) (record { ty = (int 64); value = (Operand.Number (pos 16)) } ∷ [])) ∷ (Instr.Store (record { ty = (int 32); value = (Operand.Local 15) }) (Operand.Local 16) 4) ∷ (Instr.Call (Some 17) false (Some token) (Callee.Intrinsic Intrinsic.CoroSave) (record { ty = ptr; value = Operand.Null } ∷ [])) ∷ (Instr.Call (Some 18) false (Some (int 8)) (Callee.Intrinsic Intrinsic.CoroSuspend) (record { ty = token; value = (Operand.Local 17) } ∷ record { ty = (int 1); value = Operand.False } ∷ [])) ∷ []); term = Terminator.Switch (record { ty = (int 8); value = (Operand.Local 18) }) 19 (record { arg = record { ty = (int 8); value = (Operand.Number (pos 0)) }; target = 14 } ∷ record { arg = record { ty = (int 8); value = (Operand.Number (pos 1)) }; target = 20 } ∷ []) } ∷ record { label = 14; phis = []; instrs = ((Instr.Gep 21 false (int 8) (Operand.Local 10) (record { ty = (int 64); value = (Operand.Number (pos 16)) } ∷ [])) ∷ (Instr.Load 22 (int 32) (Operand.Local 21) 4) ∷ (Instr.Store (record { ty = (int 32); value = (Operand.Local 22) }) (Operand.Local 2) 4) ∷ (Instr.Load 13 (int 32) (Operand.Local 2) 4) ∷ []); term = Terminator.Jump 11 } ∷ record { label = 20; phis = []; instrs = ((Instr.Call (Some 23) false (Some ptr) (Callee.Intrinsic Intrinsic.CoroFree) (record { ty = token; value = (Operand.Local 3) } ∷ record { ty = ptr; value = (Operand.Local 10) } ∷ [])) ∷ (Instr.Call None false None (Callee.Allocator Allocator.Free) (record { ty = ptr; value = (Operand.Local 23) } ∷ [])) ∷ []); term = Terminator.Jump 19 } ∷ record { label = 19; phis = []; instrs = ((Instr.Call (Some 24) false (Some (int 1)) (Callee.Intrinsic Intrinsic.CoroEnd) (record { ty = ptr; value = (Operand.Local 10) } ∷ record { ty = (int 1); value = Operand.False } ∷ record { ty = token; value = Operand.None } ∷ [])) ∷ []); term = Terminator.Ret (Some (record { ty = ptr; value = (Operand.Local 10) })) } ∷ []); names = ((Name.Text (codes "n")) ∷ (Name.Text (codes "entry")) ∷ (Name.Text (codes "cell")) ∷ (Name.Text (codes "id")) ∷ (Name.Text (codes "need")) ∷ (Name.Text (codes "dyn")) ∷ (Name.Text (codes "start")) ∷ (Name.Text (codes "size")) ∷ (Name.Text (codes "m")) ∷ (Name.Text (codes "mem")) ∷ (Name.Text (codes "h")) ∷ (Name.Text (codes "loop")) ∷ (Name.Text (codes "v")) ∷ (Name.Text (codes "r")) ∷ (Name.Text (codes "reload")) ∷ (Name.Text (codes "inc")) ∷ (Name.Text (codes "p")) ∷ (Name.Text (codes "k")) ∷ (Name.Text (codes "s")) ∷ (Name.Text (codes "end")) ∷ (Name.Text (codes "clean")) ∷ (Name.Text (codes "q")) ∷ (Name.Text (codes "kept")) ∷ (Name.Text (codes "fm")) ∷ (Name.Text (codes "e")) ∷ []) } ∷ record { name = (Name.Text (codes "main")); result = (Some (int 32)); params = []; coroutine = false; blocks = (record { label = 0; phis = []; instrs = ((Instr.Alloca 1 (array 24 (int 8)) 8) ∷ (Instr.Call (Some 2) false (Some ptr) (Callee.Named (Name.Text (codes "g.noalloc"))) (record { ty = (int 32); value = (Operand.Number (pos 4)) } ∷ record { ty = ptr; value = (Operand.Local 1) } ∷ [])) ∷ (Instr.Call None false None (Callee.Intrinsic Intrinsic.CoroResume) (record { ty = ptr; value = (Operand.Local 2) } ∷ [])) ∷ (Instr.Call None false None (Callee.Intrinsic Intrinsic.CoroDestroy) (record { ty = ptr; value = (Operand.Local 2) } ∷ [])) ∷ (Instr.Call (Some 3) false (Some ptr) (Callee.Named (Name.Text (codes "g.noalloc"))) (record { ty = (int 32); value = (Operand.Number (pos 7)) } ∷ record { ty = ptr; value = (Operand.Local 1) } ∷ [])) ∷ (Instr.Call None false None (Callee.Intrinsic Intrinsic.CoroDestroy) (record { ty = ptr; value = (Operand.Local 3) } ∷ [])) ∷ []); term = Terminator.Ret (Some (record { ty = (int 32); value = (Operand.Number (pos 0)) })) } ∷ []); names = ((Name.Text (codes "entry")) ∷ (Name.Text (codes "fr")) ∷ (Name.Text (codes "h")) ∷ (Name.Text (codes "h2")) ∷ []) } ∷ []) }

abbrev pub expected : Seen
expected = record { events = (record { name = Name.Text (codes "print"); args = (record { width = 32; bits = 4 } ∷ []) } ∷ record { name = Name.Text (codes "print"); args = (record { width = 32; bits = 5 } ∷ []) } ∷ record { name = Name.Text (codes "print"); args = (record { width = 32; bits = 7 } ∷ []) } ∷ []); outcome = (Outcome.Returned (Some (record { width = 32; bits = 0 }))); allocs = 0 }

abbrev pub Computes : Type 0
Computes = FramedAt the_module (record { coroutines = (record { coroutine = 0; size = 24; align = 8; index = 20; offsets = (16 ∷ 20 ∷ []); fields = (record { kind = FieldKind.Value; name = None; offset = 16; size = 4 } ∷ record { kind = FieldKind.Index; name = None; offset = 20; size = 1 } ∷ []) } ∷ []) }) 1 [] [] 150 ≡ expected

pub computes : Computes
computes = refl
