-- What splitting keeps of runs whose arguments are words of the widths of the entry's parameters.
use Rattle.std.specs.Prelude.{ℕ, ℤ, List}
use Rattle.pass_proofs.specs.frame_layout.declared.layout.Layouts.{Layouts}
use Rattle.pass_proofs.specs.ir_base.declared.outcome.Word.{Word}
use Rattle.pass_proofs.specs.ir_model.declared.module.Module.{Module}
use Rattle.pass_cleanup.specs.Cleaned.{plain_machine}
use Rattle.pass_split_proof.specs.first_exits.Parted.{parted_module}
use Rattle.pass_split_proof.specs.simulation.Statement.{IsBetween, IsEntryOfParts, parts_given}
use Rattle.pass_split_proof.specs.states.Related.{Follows, part_price}
use Rattle.pass_proofs.specs.run_agreement.Costs.{AgreesBy}
use Rattle.pass_proofs.specs.run_framed.Framed.{framed_given}
use Rattle.pass_proofs.specs.run_states.moved_states.Beside.{framed_machine}
use Rattle.run_types.specs.States.{AreArguments}

-- It is `PartsKeepStates` of such runs. There a size that is handed to an allocator is below 2^64 (`sizes_are_small`),
-- which the relation asks of blocks.
abbrev pub PartsKeepCalls : Layouts → Module → Type 0
PartsKeepCalls ls m =
    (entry other : ℕ) (args : List Word) (answers : List ℤ) → IsEntryOfParts ls m entry other
    → AreArguments m entry args
    → AgreesBy (Follows (framed_given m ls.coroutines answers) (parts_given ls m answers))
    (IsBetween (framed_given m ls.coroutines answers) (parts_given ls m answers)
    (plain_machine (parted_module ls m) other args answers))
    (framed_machine m ls entry args answers) (part_price (framed_given m ls.coroutines answers))
    (plain_machine (parted_module ls m) other args answers) (λ t. 1)
