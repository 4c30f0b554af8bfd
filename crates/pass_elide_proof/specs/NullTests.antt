-- A comparison with null of what coro.free gave, where the frame was given: it gives one answer in the framed run and
-- the other one in the run that gives frames.
use Rattle.std.specs.Prelude.{◌≡◌, ◌≢◌, ◌+◌, ◌⊎◌, ℕ, Bool, true, false, Some}
use Rattle.pass_elide_proof.specs.Edges.{GivesNone}
use Rattle.pass_elide_proof.specs.Elision.{Elision, framed, function_in, rooms}
use Rattle.pass_elide_proof.specs.Match.{sides, was_given}
use Rattle.pass_elide_proof.specs.Places.{front_at}
use Rattle.pass_proofs.specs.ir_base.declared.ops.Pred.{Pred}
use Rattle.pass_proofs.specs.ir_base.declared.outcome.Outcome.{Outcome}
use Rattle.pass_proofs.specs.ir_model.Ty.{ptr}
use Rattle.pass_proofs.specs.ir_model.declared.instr.Instr.{Instr}
use Rattle.pass_proofs.specs.ir_model.declared.operand.Operand.{Operand}
use Rattle.pass_proofs.specs.run_agreement.Machines.{IsFine}
use Rattle.pass_proofs.specs.run_framed.Framed.{framed_step}
use Rattle.pass_proofs.specs.run_source.State.{function_of}
use Rattle.pass_proofs.specs.run_source.declared.state.State.{State}
use Rattle.pass_proofs.specs.run_step.Step.{AtInstr, by_pred, fetch}

-- one operand is the value, and the other one null
abbrev pub AreWithNull : ℕ → Operand → Operand → Type 0
AreWithNull v a b =
    ((a ≡ Operand.Local v) × (b ≡ Operand.Null)) ⊎ ((a ≡ Operand.Null) × (b ≡ Operand.Local v))

-- both stand at the comparison, which isn't undefined in the framed run
pub record IsAtNullTest (e : Elision) (s t : State) (name : ℕ) (pred : Pred) (a b : Operand) : Type 0 where
  pub runs : s.outcome ≡ Outcome.Running
  pub there : fetch (function_of (framed e).given s) s.top.block s.top.at ≡ AtInstr (Instr.Icmp name pred ptr a b)
  pub none : GivesNone e s.top.func
  pub beside : t.top.block ≡ s.top.block
  pub stands : t.top.at ≡ front_at (rooms e s.top.func) (function_in e s.top.func) s.top.block s.top.at
  pub given : was_given (sides s t) t.top ≡ true
  pub freed : ℕ
  pub is_freed : (e.shape s.top.func).freed freed ≡ true
  pub operands : AreWithNull freed a b
  -- the shape says that it is true of null, or false
  pub tested : (e.shape s.top.func).tested name ≡ Some (by_pred pred true)
  pub not_need : (e.shape s.top.func).need name ≡ false
  pub not_freed : (e.shape s.top.func).freed name ≡ false
  pub holds : (e.shape s.top.func).holds s.top.block (s.top.at + 1) ≡ (e.shape s.top.func).holds s.top.block s.top.at
  pub kept : (n : ℕ) → (e.shape s.top.func).holds s.top.block s.top.at ≡ Some n → n ≢ name
  pub fine : IsFine (framed_step (framed e) s).outcome
