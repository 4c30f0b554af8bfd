-- An alloca that a resumed activation executes again, behind which it goes on to another one or enters its label.
use Rattle.std.specs.Prelude.{◌≡◌, ◌<◌, ◌+◌, ◌^◌, ℕ, true, Some, None}
use Rattle.pass_elide_proof.specs.Edges.{IsPhiAlike, label_from, phis_at}
use Rattle.pass_elide_proof.specs.Elision.{Elision, function_in, rooms}
use Rattle.pass_elide_proof.specs.Making.{HaveSlots}
use Rattle.pass_elide_proof.specs.Ordinary.{IsAtOwn}
use Rattle.pass_proofs.specs.ir_model.Layout.{size_of}
use Rattle.pass_proofs.specs.ir_model.Names.{position_of}
use Rattle.pass_proofs.specs.ir_model.Ty.{Ty}
use Rattle.pass_proofs.specs.ir_model.declared.instr.Instr.{Instr}
use Rattle.pass_proofs.specs.ir_paths.declared.point.Point.{Point}
use Rattle.pass_proofs.specs.run_framed.Framed.{alloca_from}
use Rattle.pass_proofs.specs.run_laws.changed.Changed.{Each}
use Rattle.pass_proofs.specs.run_source.declared.state.Mode.{Mode}
use Rattle.pass_proofs.specs.run_source.declared.state.State.{State}
use Rattle.pass_proofs.specs.run_step.Step.{is_alignment}

-- the coroutine gives no frames
pub record IsAtAllocaAgain (e : Elision) (s t : State) (name : ℕ) (ty : Ty) (align from label : ℕ) (next : Point)
    : Type 0 where
  pub own : IsAtOwn e s t (Instr.Alloca name ty align)
  pub slots : HaveSlots s
  pub mode : s.top.mode ≡ Mode.Entering from label
  pub small : size_of e.code ty < 2 ^ 64
  pub aligned : is_alignment align ≡ true
  pub none : (block at : ℕ) (i : Instr) → rooms e s.top.func block at i ≡ None
  pub follows : alloca_from (function_in e s.top.func) (s.top.at + 1) ≡ Some next

-- The last one, behind which it enters a label from a suspend's block. The label's phis take from there what is alike,
-- unless what they give differs.
pub record IsAtLastAlloca (e : Elision) (s t : State) (name : ℕ) (ty : Ty) (align from label : ℕ) : Type 0 where
  pub own : IsAtOwn e s t (Instr.Alloca name ty align)
  pub slots : HaveSlots s
  pub mode : s.top.mode ≡ Mode.Entering from label
  pub small : size_of e.code ty < 2 ^ 64
  pub aligned : is_alignment align ≡ true
  pub none : (block at : ℕ) (i : Instr) → rooms e s.top.func block at i ≡ None
  pub last : alloca_from (function_in e s.top.func) (s.top.at + 1) ≡ None
  pub phis : Each (IsPhiAlike e s t (label_from (function_in e s.top.func) from))
      (phis_at (function_in e s.top.func) (position_of (function_in e s.top.func) label))
