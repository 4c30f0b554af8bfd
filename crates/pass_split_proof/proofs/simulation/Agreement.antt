-- Where the states of the parts' run stand beside those of the framed run, the runs agree within 4.
use Rattle.std.proofs.Common.{ℕ, ◌≤◌, Bool, true, false, List, arith}
use Rattle.std.specs.Prelude.{ℤ}
use Rattle.pass_proofs.specs.frame_layout.declared.layout.Layouts.{Layouts}
use Rattle.pass_proofs.specs.ir_base.declared.outcome.Word.{Word}
use Rattle.pass_proofs.specs.ir_model.declared.module.Module.{Module}
use Rattle.pass_cleanup.specs.Cleaned.{plain_machine}
use Rattle.pass_split_proof.specs.first_exits.Parted.{parted_module}
use Rattle.pass_split_proof.specs.simulation.Statement.{IsBetween, IsEntryOfParts, PartsKeepStates, parts_given}
use Rattle.pass_split_proof.specs.states.Related.{Follows, part_price, price_of}
use Rattle.pass_proofs.proofs.run_agreement.Costs.{agrees_within_by_steps}
use Rattle.pass_proofs.specs.run_agreement.Agreements.{AgreesWithin}
use Rattle.pass_proofs.specs.run_agreement.Machines.{at}
use Rattle.pass_proofs.specs.run_framed.Framed.{framed_given}
use Rattle.pass_proofs.specs.run_states.moved_states.Beside.{framed_machine}
use Rattle.pass_proofs.specs.run_step.Step.{AtInstr, AtTerm, Fetched, Nowhere}

pub price_within : (behind : Bool) (x : Fetched) → price_of behind x ≤ 4
price_within true x = omega arith
price_within false Nowhere = omega arith
price_within false (AtInstr i) = omega arith
price_within false (AtTerm t) = omega arith

pub parts_agree : (ls : Layouts) (m : Module) → PartsKeepStates ls m
    → (entry other : ℕ) (args : List Word) (answers : List ℤ) → IsEntryOfParts ls m entry other
    → AgreesWithin 4 (at (framed_machine m ls entry args answers))
    (at (plain_machine (parted_module ls m) other args answers))
parts_agree ls m keeps entry other args answers is = agrees_within_by_steps
    (Follows (framed_given m ls.coroutines answers) (parts_given ls m answers))
    (IsBetween (framed_given m ls.coroutines answers) (parts_given ls m answers)
    (plain_machine (parted_module ls m) other args answers))
    (framed_machine m ls entry args answers) (part_price (framed_given m ls.coroutines answers))
    (plain_machine (parted_module ls m) other args answers) (λ t. 1) 4
    (λ s. price_within _ _) (λ t. omega arith) (keeps entry other args answers is)
