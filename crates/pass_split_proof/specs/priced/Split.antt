-- What splitting keeps of a run, blocks on edges that leave windows and parts in a row.
use Rattle.std.specs.Prelude.{ℕ, ℤ, List}
use Rattle.pass_cleanup.specs.Cleaned.{plain_machine}
use Rattle.pass_proofs.specs.exits.states.Exits.{exits_split}
use Rattle.pass_proofs.specs.frame_layout.declared.layout.Layouts.{Layouts}
use Rattle.pass_proofs.specs.ir_base.declared.outcome.Word.{Word}
use Rattle.pass_proofs.specs.ir_model.declared.module.Module.{Module}
use Rattle.pass_proofs.specs.run_agreement.Costs.{AgreesBy, IsNear, Through}
use Rattle.pass_proofs.specs.run_framed.Framed.{framed_given}
use Rattle.pass_proofs.specs.run_states.moved_states.Beside.{IsMovedIn, framed_machine}
use Rattle.pass_split_proof.specs.first_exits.Parted.{parted_module}
use Rattle.pass_split_proof.specs.simulation.Statement.{IsBetween, parts_given}
use Rattle.pass_split_proof.specs.states.Related.{Follows}

-- A step costs at most 4. Over a state of the module with these blocks, corresponding states are moved and follow each
-- other, and each state between stands between such.
abbrev pub SplitKeeps : Layouts → Module → (entry other : ℕ) → List Word → List ℤ → Type 0
SplitKeeps layouts m entry other args answers =
    AgreesBy (Through (IsMovedIn m (exits_split m)) (Follows
    (framed_given (exits_split m) layouts.coroutines answers) (parts_given layouts (exits_split m) answers)))
    (Through (IsNear (framed_machine (exits_split m) layouts entry args answers) 2 (IsMovedIn m (exits_split m)))
    (IsBetween (framed_given (exits_split m) layouts.coroutines answers)
    (parts_given layouts (exits_split m) answers)
    (plain_machine (parted_module layouts (exits_split m)) other args answers)))
    (framed_machine m layouts entry args answers) (λ s. 4)
    (plain_machine (parted_module layouts (exits_split m)) other args answers) (λ t. 1)
