-- The runs agree where calls give frames, also with blocks on edges that leave windows.
use Rattle.std.proofs.Common.{◌≡◌, ℕ, false, List, Option, ap, ◌∙◌, arith}
use Rattle.std.specs.Prelude.{ℤ, unwrap_or}
use Rattle.pass_cleanup.specs.Cleaned.{plain_machine}
use Rattle.pass_split_proof.proofs.pass_proofs.run_agreement.Costs.{agrees_within_by_steps, compose_by}
use Rattle.pass_split_proof.specs.pass_proofs.exits.states.Exits.{AreExitsKept, exits_split}
use Rattle.pass_split_proof.specs.pass_proofs.frame_layout.declared.layout.Layouts.{Layouts}
use Rattle.pass_split_proof.specs.pass_proofs.ir_base.declared.outcome.Word.{Word}
use Rattle.pass_split_proof.specs.pass_proofs.ir_laws.facts.sound_states.Named.{AreLocalsNamed}
use Rattle.pass_split_proof.specs.pass_proofs.ir_model.Names.{function_at, no_function}
use Rattle.pass_split_proof.specs.pass_proofs.ir_model.declared.module.Function.{Function}
use Rattle.pass_split_proof.specs.pass_proofs.ir_model.declared.module.Module.{Module}
use Rattle.pass_split_proof.specs.pass_proofs.run_agreement.Agreements.{AgreesWithin}
use Rattle.pass_split_proof.specs.pass_proofs.run_agreement.Costs.{IsNear, Through}
use Rattle.pass_split_proof.specs.pass_proofs.run_agreement.Machines.{Machine, at}
use Rattle.pass_split_proof.specs.pass_proofs.run_framed.Framed.{framed_given}
use Rattle.pass_split_proof.specs.pass_proofs.run_source.Source.{first_state}
use Rattle.pass_split_proof.specs.pass_proofs.run_source.declared.state.State.{State}
use Rattle.pass_split_proof.specs.pass_proofs.run_states.moved_states.Beside.{IsMovedIn, framed_machine}
use Rattle.pass_split_proof.proofs.simulation.Assembly.{assembled_by}
use Rattle.pass_split_given.proofs.Runs.{given_all_followed}
use Rattle.pass_split_proof.proofs.whole.Starts.{starts_know}
use Rattle.pass_split_given.specs.Premises.{AreGivenPremisesMet, GivesFramesWell}
use Rattle.pass_split_given.specs.Whole.{PartsKeepGivenCalls}
use Rattle.pass_split_proof.proofs.priced.Prices.{exits_paid}
use Rattle.pass_split_proof.proofs.simulation.Agreement.{price_within}
use Rattle.pass_split_proof.specs.first_exits.Parted.{parted_module}
use Rattle.pass_split_proof.specs.priced.Returns.{AllJumpBehind}
use Rattle.pass_split_proof.specs.priced.Split.{SplitKeeps}
use Rattle.pass_split_proof.specs.simulation.Knowing.{KnowsGiven}
use Rattle.pass_split_proof.specs.simulation.Premises.{ArePremisesMet}
use Rattle.pass_split_proof.specs.simulation.Statement.{IsBetween, IsEntryOfParts, parts_given}
use Rattle.pass_split_proof.specs.states.Related.{AreRelated, Follows, part_price}
use Rattle.run_access_worked.specs.run_plain.Plain.{plain_first}
use Rattle.run_access_worked.specs.run_plain.declared.state.PlainState.{PlainState}

module _ (ls : Layouts) (m : Module)
    (starts : (entry other : ℕ) (args : List Word) (answers : List ℤ) → IsEntryOfParts ls m entry other
    → AreRelated (framed_given m ls.coroutines answers) (parts_given ls m answers) (first_state m entry args)
    (plain_first (parted_module ls m) other args))
    (met : (answers : List ℤ) → ArePremisesMet (framed_given m ls.coroutines answers) (parts_given ls m answers))
    (more : (answers : List ℤ) → AreGivenPremisesMet (framed_given m ls.coroutines answers)
    (parts_given ls m answers)) where
  -- the entry is no coroutine
  plain_entry : (entry other : ℕ) → IsEntryOfParts ls m entry other → (function_at m entry).coroutine ≡ false
  plain_entry entry other e = ap (λ (o : Option Function). (unwrap_or o no_function).coroutine) e.there ∙ e.plain

  pub given_calls_kept : PartsKeepGivenCalls ls m
  given_calls_kept entry other args answers e gives = assembled_by ls m entry other args answers
      (KnowsGiven (framed_given m ls.coroutines answers)) (starts entry other args answers e)
      (starts_know (framed_given m ls.coroutines answers) (parts_given ls m answers) entry other args)
      (given_all_followed (framed_given m ls.coroutines answers) (parts_given ls m answers) (met answers) (more
      answers)
      entry args (plain_entry entry other e) gives)

pub given_calls_agree : (ls : Layouts) (m : Module) → PartsKeepGivenCalls ls m → (entry other : ℕ) (args : List Word)
    (answers : List ℤ) → IsEntryOfParts ls m entry other
    → GivesFramesWell (framed_given m ls.coroutines answers) entry args
    → AgreesWithin 4 (at (framed_machine m ls entry args answers))
    (at (plain_machine (parted_module ls m) other args answers))
given_calls_agree ls m keeps entry other args answers e gives = agrees_within_by_steps
    (Follows (framed_given m ls.coroutines answers) (parts_given ls m answers))
    (IsBetween (framed_given m ls.coroutines answers) (parts_given ls m answers)
    (plain_machine (parted_module ls m) other args answers))
    (framed_machine m ls entry args answers) (part_price (framed_given m ls.coroutines answers))
    (plain_machine (parted_module ls m) other args answers) (λ t. 1) 4
    (λ s. price_within _ _) (λ t. omega arith) (keeps entry other args answers e gives)

-- ---- behind blocks on edges

module _ (layouts : Layouts) (m : Module) (names : AreLocalsNamed m) (kept : AreExitsKept m) (behind : AllJumpBehind m)
    (keeps : PartsKeepGivenCalls layouts (exits_split m)) (entry other : ℕ) (args : List Word) (answers : List ℤ)
    (is : IsEntryOfParts layouts (exits_split m) entry other)
    (gives : GivesFramesWell (framed_given (exits_split m) layouts.coroutines answers) entry args) where
  abbrev A : Machine State
  A = framed_machine m layouts entry args answers

  abbrev B : Machine State
  B = framed_machine (exits_split m) layouts entry args answers

  abbrev C : Machine PlainState
  C = plain_machine (parted_module layouts (exits_split m)) other args answers

  abbrev Moved : State → State → Type 0
  Moved = IsMovedIn m (exits_split m)

  abbrev Near : State → State → Type 0
  Near = IsNear B 2 (IsMovedIn m (exits_split m))

  abbrev Follow : State → PlainState → Type 0
  Follow = Follows (framed_given (exits_split m) layouts.coroutines answers) (parts_given layouts (exits_split
      m) answers)

  abbrev Close : State → PlainState → Type 0
  Close = IsBetween (framed_given (exits_split m) layouts.coroutines answers)
      (parts_given layouts (exits_split m) answers) C

  abbrev cost : State → ℕ
  cost = part_price (framed_given (exits_split m) layouts.coroutines answers)

  pub given_splits_keep : SplitKeeps layouts m entry other args answers
  given_splits_keep = compose_by Moved Near Follow Close A (λ s. 4) B cost C (λ t. 1)
      (exits_paid m names kept behind layouts entry args answers) (keeps entry other args answers is gives)

  pub given_splits_agree : AgreesWithin 4 (at (framed_machine m layouts entry args answers))
      (at (plain_machine (parted_module layouts (exits_split m)) other args answers))
  given_splits_agree =
      agrees_within_by_steps (Through Moved Follow) (Through Near Close) A (λ s. 4) C (λ t. 1) 4 (λ s. omega arith)
      (λ t. omega arith) given_splits_keep
