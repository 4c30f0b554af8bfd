-- The order of the module rules.
use Rattle.std.specs.Prelude.{List, [], Some, None, Option, ◌∷◌}
use Rattle.ir_base.specs.declared.outcome.Place.{Place}
use Rattle.ir_base.specs.declared.rule.Rule.{Rule}
use Rattle.ir_model.specs.declared.module.Module.{Module}
use Rattle.rule_names.specs.Definitions.{second_definitions}
use Rattle.rule_names.specs.Items.{first_place}
use Rattle.rule_names.specs.Known.{unknown_names}
use Rattle.rule_types.specs.Limits.{limits}
use Rattle.rule_names.specs.Reserved.{reserved_names}
use Rattle.rule_types.specs.Signatures.{other_types}
use Rattle.rule_modules.specs.declared.order.Refusal.{Refusal}
use Rattle.rule_names.specs.declared.stage.Stage.{Stage}

abbrev pub or_refusal : Rule → Option Place → Option Refusal → Option Refusal
or_refusal rule (Some place) other = Some (record { rule = rule; place = place })
or_refusal rule None other = other

-- the first broken rule in the order L1, N1, N2, N3, Y2, each over all items, with its first place
abbrev pub module_refusal : Stage → Module → Option Refusal
module_refusal stage m =
    or_refusal Rule.L1 (first_place (limits stage m) m)
    (or_refusal Rule.N1 (first_place (second_definitions m) m)
    (or_refusal Rule.N2 (first_place (unknown_names m) m)
    (or_refusal Rule.N3 (first_place (reserved_names stage m) m)
    (or_refusal Rule.Y2 (first_place (other_types m) m) None))))
