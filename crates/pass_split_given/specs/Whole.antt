-- What splitting keeps of runs that give frames well.
use Rattle.std.specs.Prelude.{ℕ, ℤ, List}
use Rattle.pass_cleanup.specs.Cleaned.{plain_machine}
use Rattle.pass_split_proof.specs.pass_proofs.frame_layout.declared.layout.Layouts.{Layouts}
use Rattle.pass_split_proof.specs.pass_proofs.ir_base.declared.outcome.Word.{Word}
use Rattle.pass_split_proof.specs.pass_proofs.ir_model.declared.module.Module.{Module}
use Rattle.pass_split_proof.specs.pass_proofs.run_agreement.Costs.{AgreesBy}
use Rattle.pass_split_proof.specs.pass_proofs.run_framed.Framed.{framed_given}
use Rattle.pass_split_proof.specs.pass_proofs.run_states.moved_states.Beside.{framed_machine}
use Rattle.pass_split_given.specs.Premises.{GivesFramesWell}
use Rattle.pass_split_proof.specs.first_exits.Parted.{parted_module}
use Rattle.pass_split_proof.specs.simulation.Statement.{IsBetween, IsEntryOfParts, parts_given}
use Rattle.pass_split_proof.specs.states.Related.{Follows, part_price}

-- It is `PartsKeepCalls` of such runs.
abbrev pub PartsKeepGivenCalls : Layouts → Module → Type 0
PartsKeepGivenCalls ls m =
    (entry other : ℕ) (args : List Word) (answers : List ℤ) → IsEntryOfParts ls m entry other
    → GivesFramesWell (framed_given m ls.coroutines answers) entry args
    → AgreesBy (Follows (framed_given m ls.coroutines answers) (parts_given ls m answers))
    (IsBetween (framed_given m ls.coroutines answers) (parts_given ls m answers)
    (plain_machine (parted_module ls m) other args answers))
    (framed_machine m ls entry args answers) (part_price (framed_given m ls.coroutines answers))
    (plain_machine (parted_module ls m) other args answers) (λ t. 1)
