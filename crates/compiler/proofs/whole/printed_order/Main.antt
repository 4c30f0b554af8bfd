-- Lemmas on main.
use Rattle.std.proofs.Common.{ℕ, List}
use Rattle.std.specs.Prelude.{ℤ}
use Rattle.pass_proofs.specs.run_agreement.Costs.{AgreesBy}
use Rattle.ir_base.specs.declared.outcome.Word.{Word}
use Rattle.pass_cleanup.specs.Cleaned.{plain_machine}
use Rattle.ir_model.specs.declared.module.Module.{Module}
use Rattle.pass_proofs.specs.ir_laws.facts.names_apart.Apart.{AreNamesApart}
use Rattle.text_canonical.specs.order.Order.{module_order}
use Rattle.text_canonical.specs.order.Shape.{IsShaped}
use Rattle.compiler.proofs.order.meaning.Simulation.{corresponds}
use Rattle.compiler.specs.order.meaning.Beside.{IsInOrderOf}
use Rattle.compiler.proofs.order.meaning.Main.{all_ordered}

pub order_corresponds : (m : Module) → IsShaped m → AreNamesApart m
    → (entry : ℕ) (args : List Word) (answers : List ℤ)
    → AgreesBy (IsInOrderOf m) (IsInOrderOf m) (plain_machine m entry args answers) (λ s. 1)
    (plain_machine (module_order m) entry args answers) (λ t. 1)
order_corresponds m shaped apart entry args answers = corresponds m answers (all_ordered m shaped apart) entry args
