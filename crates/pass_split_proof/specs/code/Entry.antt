-- How a part begins that goes on behind a suspend: its allocas, the index, and a switch that leads back.
use Rattle.std.specs.Prelude.{◌≡◌, ℕ, true, List, [], length, slice_get, Some, None, ◌+◌, ◌∷◌, ◌<◌, pos}
use Rattle.pass_proofs.specs.ir_model.Names.{position_of}
use Rattle.pass_proofs.specs.ir_model.Ty.{Ty, int}
use Rattle.pass_proofs.specs.ir_model.TypeView.{bits_of}
use Rattle.pass_proofs.specs.ir_model.declared.instr.Instr.{Instr}
use Rattle.pass_proofs.specs.ir_model.declared.module.Function.{Function}
use Rattle.pass_proofs.specs.ir_model.declared.operand.Operand.{Operand}
use Rattle.pass_proofs.specs.pass_front.Front.{allocas_of}
use Rattle.pass_proofs.specs.pass_intrinsics.Lowered.{address}
use Rattle.pass_proofs.specs.pass_intrinsics.Shapes.{back_label, index_bytes, index_name, slot_name}
use Rattle.pass_proofs.specs.pass_intrinsics.declared.shape.Part.{Part}
use Rattle.pass_proofs.specs.pass_intrinsics.declared.shape.Shape.{Shape}
use Rattle.pass_proofs.specs.pass_intrinsics.declared.shape.SuspendPoint.{SuspendPoint}
use Rattle.pass_split_proof.specs.places.Places.{JumpsOn, Leads}
use Rattle.pass_proofs.specs.pass_split.Parts.{entry_term, is_entered, or_zero}
use Rattle.pass_proofs.specs.pass_split.Pieces.{going_on, redirected}
use Rattle.pass_proofs.specs.pass_split.Reached.{reached}
use Rattle.pass_proofs.specs.run_framed.Framed.{alloca_from}
use Rattle.pass_proofs.specs.run_laws.access.Lines.{StandAt}
use Rattle.pass_proofs.specs.run_step.Step.{AtInstr, AtTerm, fetch}

-- an alloca stands in the entry block
pub record IsAllocaAt (f : Function) (at : ℕ) : Type 0 where
  pub name : ℕ
  pub ty : Ty
  pub align : ℕ
  pub here : fetch f 0 at ≡ AtInstr (Instr.Alloca name ty align)

-- so many allocas stand in front in both functions, alike, and behind them in the entry block of the first none
pub record HasFrontAllocas (f g : Function) (count : ℕ) : Type 0 where
  pub each : (at : ℕ) → at < count → IsAllocaAt f at
  pub next : (at : ℕ) → at < count → alloca_from f at ≡ Some (record { block = 0; at = at })
  pub none : alloca_from f count ≡ None
  pub alike : (at : ℕ) → at < count → (i : Instr) → fetch f 0 at ≡ AtInstr i → fetch g 0 at ≡ AtInstr i

-- the address of the index, and the index
abbrev pub index_line : Shape → List Instr
index_line s =
    address (slot_name s) (Operand.Local s.begin) (pos s.index)
    ∷ Instr.Load (index_name s) (int (bits_of s.width)) (Operand.Local (slot_name s)) (index_bytes s.width)
    ∷ []

-- where the part goes on at the suspend of a number: a block that jumps to the label of its edge
pub record GoesBack (s : Shape) (part : Part) (f g : Function) (j : ℕ) (p : SuspendPoint) : Type 0 where
  pub back : JumpsOn g (position_of g (back_label s j)) (redirected s (or_zero (going_on part (Some p))))
  pub leads : Leads s part f g (position_of f p.block) (position_of g (back_label s j))
      (or_zero (going_on part (Some p)))

-- the part begins with the allocas and the index, whose switch leads back to each suspend at which it may go on
pub record HasEntry (s : Shape) (part : Part) (f g : Function) : Type 0 where
  pub allocas : HasFrontAllocas f g (length (allocas_of f.blocks))
  pub line : StandAt g 0 (length (allocas_of f.blocks)) (index_line s)
  pub switch : fetch g 0 (length (allocas_of f.blocks) + 2) ≡ AtTerm (entry_term s (reached f) part)
  pub slot : slot_name s < length g.names
  pub index : index_name s < length g.names
  pub entered : (j : ℕ) (p : SuspendPoint) → slice_get s.suspends j ≡ Some p → is_entered (reached f) part p ≡ true
      → GoesBack s part f g j p
