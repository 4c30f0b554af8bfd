-- A worked coroutine: a frame slot that is used before begin, a value and a getelementptr of a local slot that
-- cross its
-- suspend, a marker, and a phi.
use Rattle.std.specs.Prelude.{◌≡◌, ℕ, true, false, [], ◌∷◌, length, replicate, codes, pos, refl, Some, None}
use Rattle.pass_proofs.specs.frame_classes.declared.class.SlotClass.{SlotClass}
use Rattle.pass_proofs.specs.frame_layout.declared.layout.FieldKind.{FieldKind}
use Rattle.pass_proofs.specs.frame_layout.declared.layout.Layout.{Layout}
use Rattle.pass_proofs.specs.ir_base.declared.name.Name.{Name}
use Rattle.pass_proofs.specs.ir_base.declared.ops.BinOp.{BinOp}
use Rattle.pass_proofs.specs.ir_model.Ty.{Ty, array, int, ptr, token}
use Rattle.pass_proofs.specs.ir_model.declared.instr.Instr.{Instr}
use Rattle.pass_proofs.specs.ir_model.declared.instr.Terminator.{Terminator}
use Rattle.pass_proofs.specs.ir_model.declared.module.Block.{Block}
use Rattle.pass_proofs.specs.ir_model.declared.module.Function.{Function}
use Rattle.pass_proofs.specs.ir_model.declared.operand.Allocator.{Allocator}
use Rattle.pass_proofs.specs.ir_model.declared.operand.Arg.{Arg}
use Rattle.pass_proofs.specs.ir_model.declared.operand.Callee.{Callee}
use Rattle.pass_proofs.specs.ir_model.declared.operand.Intrinsic.{Intrinsic}
use Rattle.pass_proofs.specs.ir_model.declared.operand.Operand.{Operand}
use Rattle.pass_proofs.specs.pass_cells.Cells.{fetched_function}
use Rattle.pass_proofs.specs.pass_cells.Links.{roots_after, roots_of}
use Rattle.pass_proofs.specs.pass_frames.Framed.{celled, copied, placed}
use Rattle.pass_proofs.specs.pass_front.Front.{with_front_allocas}
use Rattle.pass_proofs.specs.pass_intrinsics.Lowered.{no_flags}
use Rattle.pass_frames_code.specs.Costs.{jump_cost}
use Rattle.pass_frames_code.specs.Passes.{block_at}
use Rattle.pass_frames_code.specs.Places.{Framing, alloca_place, own_place, place}

-- ---- the coroutine

abbrev local : Ty → ℕ → Arg
local ty v = record { ty = ty; value = Operand.Local v }

abbrev number : ℕ → ℕ → Arg
number width n = record { ty = int width; value = Operand.Number (pos n) }

abbrev null : Arg
null = record { ty = ptr; value = Operand.Null }

abbrev print : ℕ → Instr
print v = Instr.Call None false None (Callee.Named (Name.Text (codes "print"))) (local (int 32) v ∷ [])

abbrev pair_of_words : Ty
pair_of_words = array 2 (int 32)

-- %n is 1, the frame slot %a 2, the local slot %l 3, begin's value %h 7, %g and %x that cross 8 and 9, the save 10
abbrev entry : Block
entry =
    record {
      label = 0;
      phis = [];
      instrs =
          Instr.Alloca 2 (int 32) 4
          ∷ Instr.Alloca 3 pair_of_words 4
          ∷ Instr.Call (Some 4) false (Some token) (Callee.Intrinsic Intrinsic.CoroId)
          (number 32 0 ∷ null ∷ null ∷ null ∷ [])
          ∷ Instr.Store (local (int 32) 1) (Operand.Local 2) 4
          ∷ Instr.Call (Some 5) false (Some (int 32)) (Callee.Intrinsic Intrinsic.CoroSizeI32) []
          ∷ Instr.Call (Some 6) false (Some ptr) (Callee.Allocator Allocator.Malloc) (local (int 32) 5 ∷ [])
          ∷ Instr.Call (Some 7) false (Some ptr) (Callee.Intrinsic Intrinsic.CoroBegin)
          (local token 4 ∷ local ptr 6 ∷ [])
          ∷ Instr.Gep 8 false pair_of_words (Operand.Local 3) (number 64 0 ∷ number 64 1 ∷ [])
          ∷ Instr.Binary 9 BinOp.Add no_flags (int 32) (Operand.Local 1) (Operand.Number (pos 1))
          ∷ Instr.Call (Some 10) false (Some token) (Callee.Intrinsic Intrinsic.CoroSave) (local ptr 7 ∷ [])
          ∷ Instr.Call (Some 11) false (Some (int 8)) (Callee.Intrinsic Intrinsic.CoroSuspend)
          (local token 10 ∷ record { ty = int 1; value = Operand.False } ∷ [])
          ∷ [];
      term =
          Terminator.Switch (local (int 8) 11) 12
          (record { arg = number 8 0; target = 13 } ∷ record { arg = number 8 1; target = 14 } ∷ []);
    }

abbrev again : Block
again =
    record {
      label = 13;
      phis = [];
      instrs =
          Instr.Call None false None (Callee.Intrinsic Intrinsic.LifetimeStart) (number 64 8 ∷ local ptr 3 ∷ [])
          ∷ Instr.Store (local (int 32) 9) (Operand.Local 8) 4
          ∷ Instr.Load 15 (int 32) (Operand.Local 2) 4
          ∷ print 15
          ∷ [];
      term = Terminator.Jump 16;
    }

abbrev join : Block
join =
    record {
      label = 16;
      phis = record { result = 17; ty = int 32; incoming = record { value = Operand.Local 9; from = 13 } ∷ [] } ∷ [];
      instrs = print 17 ∷ [];
      term = Terminator.Jump 14;
    }

abbrev clean : Block
clean =
    record {
      label = 14;
      phis = [];
      instrs =
          Instr.Call (Some 18) false (Some ptr) (Callee.Intrinsic Intrinsic.CoroFree)
          (local token 4 ∷ local ptr 7 ∷ [])
          ∷ Instr.Call None false None (Callee.Allocator Allocator.Free) (local ptr 18 ∷ [])
          ∷ [];
      term = Terminator.Jump 12;
    }

abbrev ending : Block
ending =
    record {
      label = 12;
      phis = [];
      instrs =
          Instr.Call (Some 19) false (Some (int 1)) (Callee.Intrinsic Intrinsic.CoroEnd)
          (local ptr 7 ∷ record { ty = int 1; value = Operand.False }
          ∷ record { ty = token; value = Operand.None } ∷ [])
          ∷ [];
      term = Terminator.Ret (Some (local ptr 7));
    }

abbrev coroutine : Function
coroutine =
    record {
      name = Name.Text (codes "f");
      result = Some ptr;
      params = record { ty = int 32; name = 1 } ∷ [];
      coroutine = true;
      blocks = entry ∷ again ∷ join ∷ clean ∷ ending ∷ [];
      names = replicate 20 (Name.Text (codes "v"));
    }

-- ---- its frame: %g at 16, %a at 24, %x at 28, the index at 32

abbrev layout : Layout
layout =
    record {
      coroutine = 0;
      size = 40;
      align = 8;
      index = 32;
      offsets = 24 ∷ 16 ∷ 28 ∷ 32 ∷ [];
      fields =
          record { kind = FieldKind.Value; name = None; offset = 16; size = 8 }
          ∷ record { kind = FieldKind.Slot; name = None; offset = 24; size = 4 }
          ∷ record { kind = FieldKind.Value; name = None; offset = 28; size = 4 }
          ∷ record { kind = FieldKind.Index; name = None; offset = 32; size = 1 }
          ∷ [];
    }

abbrev pub worked : Framing
worked =
    record {
      code = record { types = []; globals = []; declarations = []; functions = coroutine ∷ [] };
      layout = layout;
      function = coroutine;
      contents =
          record {
            crossing = (8, 0) ∷ (9, 0) ∷ [];
            classes = SlotClass.Frame ∷ SlotClass.Local ∷ [];
            held =
                record { kind = FieldKind.Slot; value = 2; size = 4; align = 4 }
                ∷ record { kind = FieldKind.Value; value = 8; size = 8; align = 8 }
                ∷ record { kind = FieldKind.Value; value = 9; size = 4; align = 4 }
                ∷ [];
            positions =
                None ∷ None ∷ Some 0 ∷ None ∷ None ∷ None ∷ None ∷ None ∷ Some 1 ∷ Some 2 ∷ [];
          };
      before = [];
    }

abbrev pub framed : Function
framed =
    with_front_allocas
    (placed worked.layout worked.function worked.contents
    (copied worked.function worked.contents (celled worked.code worked.function worked.contents) worked.before))

-- ---- what is computed

abbrev place_at : ℕ → ℕ → ℕ
place_at block at = (place worked (record { block = block; at = at })).at

-- the entry has six allocas and the store of the temporary's address in front
abbrev pub FirstPlace : Type 0
FirstPlace = place_at 0 0 ≡ 7

-- begin has four copies and stores behind it
abbrev pub BeginPlaces : Type 0
BeginPlaces = (place_at 0 6 ≡ 12) × (place_at 0 7 ≡ 17)

-- the save itself stands behind the six instructions by which values are kept, and the local slot's alloca last of
-- all
abbrev pub OwnPlaces : Type 0
OwnPlaces =
    ((own_place worked (record { block = 0; at = 9 })).at ≡ 32)
    × ((own_place worked (record { block = 0; at = 10 })).at ≡ 33)
    × ((alloca_place worked 1).at ≡ 5)

-- behind the suspend: the block of the resume edge begins with its ten loads and stores, the marker goes, %x and %g
-- are
-- loaded before their use; the block on the edge to the phi loads %x behind its place
abbrev pub OtherPlaces : Type 0
OtherPlaces =
    (place_at 1 0 ≡ 0)
    × (length (block_at framed 1).instrs ≡ 10)
    × (place_at 3 1 ≡ 0)
    × (place_at 3 2 ≡ 3)
    × (place_at 4 0 ≡ 0)
    × (length (block_at framed 4).instrs ≡ 1)

-- the jump of the block on the resume edge costs all that stands there
abbrev pub JumpCost : Type 0
JumpCost = jump_cost worked 1 3 ≡ 11

pub first_place : FirstPlace
unfolding fetched_function roots_of roots_after
first_place = refl

pub begin_places : BeginPlaces
unfolding fetched_function roots_of roots_after
begin_places = (refl, refl)

pub own_places : OwnPlaces
unfolding fetched_function roots_of roots_after
own_places = (refl, refl, refl)

pub other_places : OtherPlaces
unfolding celled copied fetched_function placed roots_of roots_after
other_places = (refl, refl, refl, refl, refl, refl)

pub jump_costs : JumpCost
unfolding celled copied fetched_function placed roots_of roots_after
jump_costs = refl
