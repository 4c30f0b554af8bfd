-- Blocks on edges that leave windows and parts, in turn.
use Rattle.std.proofs.Common.{ℕ, List, arith}
use Rattle.std.specs.Prelude.{ℤ}
use Rattle.pass_proofs.specs.frame_layout.declared.layout.Layouts.{Layouts}
use Rattle.pass_proofs.specs.ir_base.declared.outcome.Word.{Word}
use Rattle.pass_proofs.specs.ir_laws.facts.sound_states.Named.{AreLocalsNamed}
use Rattle.pass_proofs.specs.ir_model.declared.module.Module.{Module}
use Rattle.pass_cleanup.specs.Cleaned.{plain_machine}
use Rattle.pass_proofs.specs.exits.states.Exits.{AreExitsKept, exits_split}
use Rattle.pass_split_proof.proofs.priced.Prices.{exits_paid}
use Rattle.pass_split_proof.specs.first_exits.Parted.{parted_module}
use Rattle.pass_split_proof.specs.priced.Returns.{AllJumpBehind}
use Rattle.pass_split_proof.specs.priced.Split.{SplitKeeps}
use Rattle.pass_split_proof.specs.simulation.Statement.{IsBetween, IsEntryOfParts, parts_given}
use Rattle.pass_split_proof.specs.states.Related.{Follows, part_price}
use Rattle.pass_split_proof.specs.whole.Whole.{PartsKeepCalls}
use Rattle.pass_proofs.proofs.run_agreement.Costs.{agrees_within_by_steps, compose_by}
use Rattle.pass_proofs.specs.run_agreement.Agreements.{AgreesWithin}
use Rattle.pass_proofs.specs.run_agreement.Costs.{IsNear, Through}
use Rattle.pass_proofs.specs.run_agreement.Machines.{Machine, at}
use Rattle.pass_proofs.specs.run_framed.Framed.{framed_given}
use Rattle.run_access_worked.specs.run_plain.declared.state.PlainState.{PlainState}
use Rattle.pass_proofs.specs.run_source.declared.state.State.{State}
use Rattle.pass_proofs.specs.run_states.moved_states.Beside.{IsMovedIn, framed_machine}
use Rattle.run_types.specs.States.{AreArguments}

module _ (layouts : Layouts) (m : Module) (names : AreLocalsNamed m) (kept : AreExitsKept m) (behind : AllJumpBehind m)
    (keeps : PartsKeepCalls layouts (exits_split m)) (entry other : ℕ) (args : List Word) (answers : List ℤ)
    (is : IsEntryOfParts layouts (exits_split m) entry other) (words : AreArguments (exits_split m) entry args) where
  abbrev A : Machine State
  A = framed_machine m layouts entry args answers

  abbrev B : Machine State
  B = framed_machine (exits_split m) layouts entry args answers

  abbrev C : Machine PlainState
  C = plain_machine (parted_module layouts (exits_split m)) other args answers

  abbrev Moved : State → State → Type 0
  Moved = IsMovedIn m (exits_split m)

  abbrev Near : State → State → Type 0
  Near = IsNear B 2 (IsMovedIn m (exits_split m))

  abbrev Follow : State → PlainState → Type 0
  Follow = Follows (framed_given (exits_split m) layouts.coroutines answers) (parts_given layouts (exits_split m) answers)

  abbrev Close : State → PlainState → Type 0
  Close = IsBetween (framed_given (exits_split m) layouts.coroutines answers)
      (parts_given layouts (exits_split m) answers) C

  abbrev cost : State → ℕ
  cost = part_price (framed_given (exits_split m) layouts.coroutines answers)

  pub splits_keep : SplitKeeps layouts m entry other args answers
  splits_keep = compose_by Moved Near Follow Close A (λ s. 4) B cost C (λ t. 1)
      (exits_paid m names kept behind layouts entry args answers) (keeps entry other args answers is words)

  pub splits_agree : AgreesWithin 4 (at (framed_machine m layouts entry args answers))
      (at (plain_machine (parted_module layouts (exits_split m)) other args answers))
  splits_agree =
      agrees_within_by_steps (Through Moved Follow) (Through Near Close) A (λ s. 4) C (λ t. 1) 4 (λ s. omega arith)
      (λ t. omega arith) splits_keep
