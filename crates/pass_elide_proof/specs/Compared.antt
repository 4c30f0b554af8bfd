-- A module whose coroutine compares an address in the field for its callee's frame with the address of that frame. The
-- framed run compares pointers into two blocks. Where the frame lies in the field they are the same.
use Rattle.std.specs.Prelude.{◌≡◌, ℕ, true, false, [], ◌∷◌, Some, None, codes, pos}
use Rattle.pass_elide.specs.Elided.{elided_module}
use Rattle.pass_proofs.specs.frame_layout.declared.layout.FieldKind.{FieldKind}
use Rattle.pass_proofs.specs.frame_layout.declared.layout.Layouts.{Layouts}
use Rattle.pass_proofs.specs.ir_base.declared.name.Name.{Name}
use Rattle.pass_proofs.specs.ir_base.declared.ops.CastOp.{CastOp}
use Rattle.pass_proofs.specs.ir_base.declared.ops.Pred.{Pred}
use Rattle.pass_proofs.specs.ir_base.declared.outcome.Outcome.{Outcome}
use Rattle.pass_proofs.specs.ir_model.Ty.{int, ptr, token}
use Rattle.pass_proofs.specs.ir_model.declared.instr.Instr.{Instr}
use Rattle.pass_proofs.specs.ir_model.declared.instr.Terminator.{Terminator}
use Rattle.pass_proofs.specs.ir_model.declared.module.Function.{Function}
use Rattle.pass_proofs.specs.ir_model.declared.module.Module.{Module}
use Rattle.pass_proofs.specs.ir_model.declared.operand.Allocator.{Allocator}
use Rattle.pass_proofs.specs.ir_model.declared.operand.Callee.{Callee}
use Rattle.pass_proofs.specs.ir_model.declared.operand.Intrinsic.{Intrinsic}
use Rattle.pass_proofs.specs.ir_model.declared.operand.Operand.{Operand}
use Rattle.pass_proofs.specs.run_framed.Framed.{FramedAt}
use Rattle.pass_proofs.specs.run_step.Runs.{Seen}

abbrev pub a_callee : Function
a_callee =
    record {
      name = Name.Text (codes "g");
      result = Some ptr;
      params = [];
      coroutine = true;
      blocks =
          record {
            label = 0;
            phis = [];
            instrs =
                (Instr.Call (Some 1) false (Some token) (Callee.Intrinsic Intrinsic.CoroId)
                (record { ty = int 32; value = Operand.Number (pos 0) }
                ∷ record { ty = ptr; value = Operand.Null } ∷ record { ty = ptr; value = Operand.Null }
                ∷ record { ty = ptr; value = Operand.Null } ∷ []))
                ∷ (Instr.Call (Some 2) false (Some (int 1)) (Callee.Intrinsic Intrinsic.CoroAlloc)
                (record { ty = token; value = Operand.Local 1 } ∷ []))
                ∷ [];
            term = Terminator.Branch (Operand.Local 2) 3 4;
          }
          ∷ record {
            label = 3;
            phis = [];
            instrs =
                (Instr.Call (Some 5) false (Some (int 32)) (Callee.Intrinsic Intrinsic.CoroSizeI32) ([]))
                ∷ (Instr.Call (Some 6) false (Some ptr) (Callee.Allocator Allocator.Malloc)
                (record { ty = int 32; value = Operand.Local 5 } ∷ []))
                ∷ [];
            term = Terminator.Jump 4;
          }
          ∷ record {
            label = 4;
            phis = record {
              result = 7;
              ty = ptr;
              incoming = record { value = Operand.Null; from = 0 }
                  ∷ record { value = Operand.Local 6; from = 3 } ∷ [];
            } ∷ [];
            instrs =
                (Instr.Call (Some 8) false (Some ptr) (Callee.Intrinsic Intrinsic.CoroBegin)
                (record { ty = token; value = Operand.Local 1 }
                ∷ record { ty = ptr; value = Operand.Local 7 } ∷ []))
                ∷ (Instr.Store (record { ty = ptr; value = Operand.Local 8 }) (Operand.Global (Name.Text
                (codes "x"))) 8)
                ∷ (Instr.Call (Some 9) false (Some token) (Callee.Intrinsic Intrinsic.CoroSave)
                (record { ty = ptr; value = Operand.Null } ∷ []))
                ∷ (Instr.Call (Some 10) false (Some (int 8)) (Callee.Intrinsic Intrinsic.CoroSuspend)
                (record { ty = token; value = Operand.Local 9 } ∷ record { ty = int 1; value = Operand.False } ∷ []))
                ∷ [];
            term = Terminator.Switch (record { ty = int 8; value = Operand.Local 10 }) 11
                (record { arg = record { ty = int 8; value = Operand.Number (pos 0) }; target = 12 }
                ∷ record { arg = record { ty = int 8; value = Operand.Number (pos 1) }; target = 12 } ∷ []);
          }
          ∷ record {
            label = 12;
            phis = [];
            instrs =
                (Instr.Call (Some 13) false (Some ptr) (Callee.Intrinsic Intrinsic.CoroFree)
                (record { ty = token; value = Operand.Local 1 }
                ∷ record { ty = ptr; value = Operand.Local 8 } ∷ []))
                ∷ (Instr.Call None false None (Callee.Allocator Allocator.Free)
                (record { ty = ptr; value = Operand.Local 13 } ∷ []))
                ∷ [];
            term = Terminator.Jump 11;
          }
          ∷ record {
            label = 11;
            phis = [];
            instrs =
                (Instr.Call (Some 14) false (Some (int 1)) (Callee.Intrinsic Intrinsic.CoroEnd)
                (record { ty = ptr; value = Operand.Local 8 } ∷ record { ty = int 1; value = Operand.False }
                ∷ record { ty = token; value = Operand.None } ∷ []))
                ∷ [];
            term = Terminator.Ret (Some (record { ty = ptr; value = Operand.Local 8 }));
          }
          ∷ [];
      names =
          Name.Text (codes "entry") ∷ Name.Text (codes "id") ∷ Name.Text (codes "need") ∷ Name.Text (codes "dyn") ∷
          Name.Text (codes "start") ∷ Name.Text (codes "size") ∷ Name.Text (codes "m") ∷ Name.Text (codes "mem") ∷
          Name.Text (codes "h") ∷ Name.Text (codes "k") ∷ Name.Text (codes "s") ∷ Name.Text (codes "end") ∷
          Name.Text (codes "clean") ∷ Name.Text (codes "fm") ∷ Name.Text (codes "e") ∷ [];
    }

abbrev pub a_comparing_caller : Function
a_comparing_caller =
    record {
      name = Name.Text (codes "f");
      result = Some ptr;
      params = [];
      coroutine = true;
      blocks =
          record {
            label = 0;
            phis = [];
            instrs =
                (Instr.Call (Some 1) false (Some token) (Callee.Intrinsic Intrinsic.CoroId)
                (record { ty = int 32; value = Operand.Number (pos 0) }
                ∷ record { ty = ptr; value = Operand.Null } ∷ record { ty = ptr; value = Operand.Null }
                ∷ record { ty = ptr; value = Operand.Null } ∷ []))
                ∷ (Instr.Call (Some 2) false (Some (int 32)) (Callee.Intrinsic Intrinsic.CoroSizeI32) ([]))
                ∷ (Instr.Call (Some 3) false (Some ptr) (Callee.Allocator Allocator.Malloc)
                (record { ty = int 32; value = Operand.Local 2 } ∷ []))
                ∷ (Instr.Call (Some 4) false (Some ptr) (Callee.Intrinsic Intrinsic.CoroBegin)
                (record { ty = token; value = Operand.Local 1 } ∷ record { ty = ptr; value = Operand.Local 3 } ∷ []))
                ∷ (Instr.Gep 5 false (int 8) (Operand.Local 4) (record {
                  ty = int 64;
                  value = Operand.Number
                      (pos 16);
                } ∷ []))
                ∷ (Instr.Call (Some 6) false (Some ptr) (Callee.Named (Name.Text (codes "g"))) ([]))
                ∷ (Instr.Load 7 ptr (Operand.Global (Name.Text (codes "x"))) 8)
                ∷ (Instr.Icmp 8 Pred.Eq ptr (Operand.Local 5) (Operand.Local 7))
                ∷ (Instr.Cast 9 CastOp.Zext false (record { ty = int 1; value = Operand.Local 8 }) (int 32))
                ∷ (Instr.Call None false None (Callee.Named (Name.Text (codes "print")))
                (record { ty = int 32; value = Operand.Local 9 } ∷ []))
                ∷ (Instr.Call None false None (Callee.Intrinsic Intrinsic.CoroDestroy)
                (record { ty = ptr; value = Operand.Local 6 } ∷ []))
                ∷ (Instr.Call (Some 10) false (Some ptr) (Callee.Intrinsic Intrinsic.CoroFree)
                (record { ty = token; value = Operand.Local 1 } ∷ record { ty = ptr; value = Operand.Local 4 } ∷ []))
                ∷ (Instr.Call None false None (Callee.Allocator Allocator.Free)
                (record { ty = ptr; value = Operand.Local 10 } ∷ []))
                ∷ [];
            term = Terminator.Jump 11;
          }
          ∷ record {
            label = 11;
            phis = [];
            instrs =
                (Instr.Call (Some 12) false (Some (int 1)) (Callee.Intrinsic Intrinsic.CoroEnd)
                (record { ty = ptr; value = Operand.Local 4 } ∷ record { ty = int 1; value = Operand.False }
                ∷ record { ty = token; value = Operand.None } ∷ []))
                ∷ [];
            term = Terminator.Ret (Some (record { ty = ptr; value = Operand.Local 4 }));
          }
          ∷ [];
      names =
          Name.Text (codes "entry") ∷ Name.Text (codes "id") ∷ Name.Text (codes "size") ∷ Name.Text (codes "m") ∷
          Name.Text (codes "h") ∷ Name.Text (codes "q") ∷ Name.Text (codes "c") ∷ Name.Text (codes "l") ∷
          Name.Text (codes "e") ∷ Name.Text (codes "z") ∷ Name.Text (codes "fm") ∷ Name.Text (codes "end") ∷
          Name.Text (codes "d") ∷ [];
    }

abbrev pub a_main : Function
a_main =
    record {
      name = Name.Text (codes "main");
      result = Some (int 32);
      params = [];
      coroutine = false;
      blocks =
          record {
            label = 0;
            phis = [];
            instrs =
                (Instr.Call (Some 1) false (Some ptr) (Callee.Named (Name.Text (codes "f"))) ([]))
                ∷ [];
            term = Terminator.Ret (Some (record { ty = int 32; value = Operand.Number (pos 0) }));
          }
          ∷ [];
      names =
          Name.Text (codes "entry") ∷ Name.Text (codes "r") ∷ [];
    }

abbrev pub comparing : Module
comparing =
    record {
      types = [];
      globals = record {
        name = Name.Text
            (codes "x");
        constant = false;
        ty = ptr;
        init = Operand.Null;
        align = 8;
      } ∷ [];
      declarations =
          record { name = Name.Text (codes "print"); result = None; params = int 32 ∷ [] }
          ∷ record { name = Name.Text (codes "malloc"); result = Some ptr; params = int 32 ∷ [] }
          ∷ record { name = Name.Text (codes "free"); result = None; params = ptr ∷ [] }
          ∷ [];
      functions = a_callee ∷ a_comparing_caller ∷ a_main ∷ [];
    }

-- the callee's frame lies at 16
abbrev pub nested_layouts : Layouts
nested_layouts =
    record {
      coroutines =
          record {
            coroutine = 0;
            size = 24;
            align = 8;
            index = 16;
            offsets = 16 ∷ [];
            fields = record { kind = FieldKind.Index; name = None; offset = 16; size = 1 } ∷ [];
          }
          ∷ record {
            coroutine = 1;
            size = 48;
            align = 8;
            index = 40;
            offsets = 16 ∷ 40 ∷ [];
            fields =
                record { kind = FieldKind.Frame; name = Some (Name.Text (codes "c")); offset = 16; size = 24 }
                ∷ record { kind = FieldKind.Index; name = None; offset = 40; size = 1 } ∷ [];
          }
          ∷ [];
    }

-- what is seen of a run that printed a number, with a count of allocator calls
abbrev pub printed : ℕ → ℕ → Seen
printed n allocs =
    record {
      events =
          record { name = Name.Text (codes "print"); args = record { width = 32; bits = n } ∷ [] } ∷ [];
      outcome = Outcome.Returned (Some (record { width = 32; bits = 0 }));
      allocs = allocs;
    }

-- the framed run finds that the addresses differ, the one with the call elided that they are the same
pub record CompareOtherwise : Type 0 where
  pub framed : FramedAt comparing nested_layouts 2 [] [] 100 ≡ printed 0 2
  pub elided : FramedAt (elided_module nested_layouts [] comparing) nested_layouts 2 [] [] 100 ≡ printed 1 1
