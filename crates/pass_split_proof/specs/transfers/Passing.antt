-- A resumed activation at its end, and one that comes there from behind a transfer.
use Rattle.std.specs.Prelude.{◌≡◌, ℕ, true, None, is_some}
use Rattle.pass_proofs.specs.ir_base.declared.outcome.Outcome.{Outcome}
use Rattle.pass_proofs.specs.ir_model.Names.{position_of}
use Rattle.pass_proofs.specs.ir_model.declared.instr.Instr.{Instr}
use Rattle.pass_proofs.specs.ir_model.declared.instr.Terminator.{Terminator}
use Rattle.pass_proofs.specs.ir_model.declared.module.Function.{Function}
use Rattle.pass_proofs.specs.pass_intrinsics.Cuts.{token_in}
use Rattle.pass_proofs.specs.pass_intrinsics.Shapes.{is_end}
use Rattle.pass_split_proof.specs.states.Activations.{IsBehindTransfer, IsLeaving}
use Rattle.pass_split_proof.specs.states.Related.{AreRelated}
use Rattle.pass_proofs.specs.rule_shape.Suspends.{is_suspend}
use Rattle.pass_proofs.specs.run_framed.Framed.{FramedGiven}
use Rattle.run_access_worked.specs.run_plain.Plain.{PlainGiven, plain_function}
use Rattle.run_access_worked.specs.run_plain.declared.state.PlainState.{PlainState}
use Rattle.pass_proofs.specs.run_source.State.{function_of}
use Rattle.pass_proofs.specs.run_source.declared.state.Mode.{Mode}
use Rattle.pass_proofs.specs.run_source.declared.state.State.{State}
use Rattle.pass_proofs.specs.run_step.Step.{AtInstr, AtTerm, fetch}

-- the framed run is at the end in a resumed activation, and the part returns
pub record IsAtEnd (g : FramedGiven) (h : PlainGiven) (s : State) (t : PlainState) : Type 0 where
  pub running : s.outcome ≡ Outcome.Running
  pub mode : s.top.mode ≡ Mode.Resumed
  pub end : Instr
  pub there : fetch (function_of g.given s) s.top.block s.top.at ≡ AtInstr end
  pub ends : is_end end ≡ true
  pub returns : fetch (plain_function h t) t.top.block t.top.at ≡ AtTerm (Terminator.Ret None)

-- each suspend has the token of a save, and none stands behind the end in its block (K8)
pub record HasSuspendsBeforeEnd (f : Function) (end : ℕ) : Type 0 where
  pub saved : (block at : ℕ) (i : Instr) → fetch f block at ≡ AtInstr i → is_suspend i ≡ true
      → is_some (token_in i) ≡ true
  pub elsewhere : (at : ℕ) (i : Instr) → fetch f (position_of f end) at ≡ AtInstr i → is_suspend i ≡ true → ⊥

-- The framed run comes from behind a transfer to the end, and the part returns from the transfer's block.
pub record IsPassing (g : FramedGiven) (h : PlainGiven) (s : State) (t : PlainState) (r : AreRelated g h s t)
    : Type 0 where
  pub running : s.outcome ≡ Outcome.Running
  pub mode : s.top.mode ≡ Mode.Resumed
  pub waits : IsBehindTransfer r.top.shape (function_of g.given s) (plain_function h t) s.top.block s.top.at
      t.top.block
      t.top.at
  pub leaving : IsLeaving (function_of g.given s) r.top.shape.end s.top
  pub suspends : HasSuspendsBeforeEnd (function_of g.given s) r.top.shape.end
