-- A part that goes on behind a suspend loads the index, and goes where it leads.
use Rattle.std.specs.Prelude.{◌≡◌, ℕ, ◌+◌, ◌<◌, ◌^◌, true, length, slice_get, Some}
use Rattle.pass_proofs.specs.frame_layout.declared.layout.Layout.{Layout}
use Rattle.pass_proofs.specs.ir_base.declared.outcome.Outcome.{Outcome}
use Rattle.pass_proofs.specs.ir_model.TypeView.{bits_of}
use Rattle.pass_proofs.specs.ir_model.declared.module.Function.{Function}
use Rattle.pass_proofs.specs.pass_front.Front.{allocas_of}
use Rattle.pass_proofs.specs.pass_intrinsics.Shapes.{index_bytes, index_name, shape_of, slot_name}
use Rattle.pass_proofs.specs.pass_intrinsics.declared.shape.Part.{Part}
use Rattle.pass_proofs.specs.pass_intrinsics.declared.shape.Shape.{Shape}
use Rattle.pass_proofs.specs.pass_intrinsics.declared.shape.SuspendPoint.{SuspendPoint}
use Rattle.pass_split_proof.specs.code.Entry.{HasEntry}
use Rattle.pass_proofs.specs.pass_split.Parts.{is_entered}
use Rattle.pass_proofs.specs.pass_split.Reached.{reached}
use Rattle.pass_proofs.specs.rule_laws.frames.replaced.Parted.{IsSmall}
use Rattle.pass_proofs.specs.run_laws.access.Lines.{Holds, pointer_at}
use Rattle.pass_proofs.specs.run_memory.Memory.{digits, owner_rights}
use Rattle.pass_proofs.specs.run_memory.declared.pointer.Value.{Value}
use Rattle.run_access_worked.specs.run_plain.Plain.{PlainGiven, plain_function}
use Rattle.run_access_worked.specs.run_plain.declared.state.PlainState.{PlainState}
use Rattle.pass_proofs.specs.run_step.Step.{Work, set_value}
use Rattle.pass_proofs.specs.run_step.Values.{value_in}

-- The part's allocas are behind it. Its parameter is the address of a frame, whose index is that of a suspend at which
-- the part may go on.
pub record IsAtIndex (h : PlainGiven) (t : PlainState) (f : Function) (layout : Layout) (part : Part) (number : ℕ)
    (point : SuspendPoint) (block start : ℕ) : Type 0 where
  pub running : t.outcome ≡ Outcome.Running
  pub small : IsSmall (shape_of f layout)
  pub entry : HasEntry (shape_of f layout) part f (plain_function h t)
  pub block_is : t.top.block ≡ 0
  pub at_is : t.top.at ≡ length (allocas_of f.blocks)
  pub there : slice_get (shape_of f layout).suspends number ≡ Some point
  pub entered : is_entered (reached f) part point ≡ true
  pub frame : value_in t.top.values (shape_of f layout).begin ≡ pointer_at block start
  pub index : Holds owner_rights t.world.memory block (start + (shape_of f layout).index)
      (index_bytes (shape_of f layout).width) (digits (index_bytes (shape_of f layout).width) number)
  pub within : start + (shape_of f layout).index < 2 ^ 64
  pub begin : (shape_of f layout).begin < (shape_of f layout).base
  pub slot_room : slot_name (shape_of f layout) < length t.top.values
  pub index_room : index_name (shape_of f layout) < length t.top.values

-- the work with names for where the index lies and for the index
abbrev pub indexed_work : Shape → Work → (block start number : ℕ) → Work
indexed_work s w block start number =
    set_value (set_value w (slot_name s) (pointer_at block (start + s.index))) (index_name s)
    (Value.Int (record { width = bits_of s.width; bits = number }))
