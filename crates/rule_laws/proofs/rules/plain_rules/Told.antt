-- The items of a module that is refused for nothing break no rule.
use Rattle.std.proofs.Common.{◌≡◌, List, [], sym}
use Rattle.std.specs.Prelude.{None, Option, ◌||◌, ◌&&◌}
use Rattle.ir_laws.specs.ir_base.declared.rule.Rule.{Rule}
use Rattle.ir_parts.specs.Locals.{locals_of}
use Rattle.ir_parts.specs.Parts.{function_place, place_if}
use Rattle.rule_all.specs.Order.{functions_refusal, items_refusal, refusal}
use Rattle.rule_all.specs.Refused.{IsRefused}
use Rattle.rule_all.specs.declared.faults.PathFaults.{PathFaults}
use Rattle.ir_laws.specs.ir_model.declared.module.Module.{Module}
use Rattle.rule_locals.specs.Extents.{misaligned_globals}
use Rattle.rule_modules.specs.Order.{module_refusal, or_refusal}
use Rattle.rule_modules.specs.declared.order.Refusal.{Refusal}
use Rattle.rule_names.specs.Definitions.{first_twice, is_second_function, second_definitions}
use Rattle.rule_names.specs.Items.{first_place}
use Rattle.rule_names.specs.Known.{unknown_names}
use Rattle.rule_names.specs.Reserved.{is_reserved, is_taken, own_local, reserved_names}
use Rattle.rule_names.specs.Stage.{is_source}
use Rattle.rule_names.specs.declared.stage.Stage.{Stage}
use Rattle.rule_laws.proofs.rules.plain_rules.Places.{both_later, first_place_out, not_placed}
use Rattle.rule_laws.proofs.rules.local_rules.Accepted.{both_refused}
use Rattle.rule_laws.proofs.rules.plain_rules.Sentences.{kept_by_functions, kept_by_items}
use Rattle.rule_laws.specs.rules.plain_rules.Items.{AreNamesFree, KeepsItemRules}
use Rattle.rule_types.specs.Limits.{limits}
use Rattle.rule_types.specs.Signatures.{other_types}
use Rattle.rule_values.specs.Initials.{wrong_initials}

names_free : (stage : Stage) (m : Module) → first_place (second_definitions m) m ≡ None → first_place (reserved_names stage m) m ≡ None → AreNamesFree stage m
names_free stage m definitions reserved =
    record {
      once = λ k f there.
          not_placed (is_second_function m k f.name) (function_place k)
          (first_place_out (place_if (is_second_function m k f.name) (function_place k)) (first_twice [] (locals_of k f)) (kept_by_functions (second_definitions m) m definitions k f there));
      free = λ k f there.
          not_placed (is_reserved f.name || (is_source stage && is_taken m f)) (function_place k)
          (first_place_out (place_if (is_reserved f.name || (is_source stage && is_taken m f)) (function_place k)) (own_local stage k f) (kept_by_functions (reserved_names stage m) m reserved k f there));
    }

pub record IsModuleLeft (stage : Stage) (m : Module) : Type 0 where
  pub depths : first_place (limits stage m) m ≡ None
  pub definitions : first_place (second_definitions m) m ≡ None
  pub known : first_place (unknown_names m) m ≡ None
  pub reserved : first_place (reserved_names stage m) m ≡ None
  pub types : first_place (other_types m) m ≡ None

pub in_module : (stage : Stage) (m : Module) → module_refusal stage m ≡ None → IsModuleLeft stage m
in_module stage m e =
    let types : Option Refusal = or_refusal Rule.Y2 (first_place (other_types m) m) None in
    let reserved : Option Refusal = or_refusal Rule.N3 (first_place (reserved_names stage m) m) types in
    let known : Option Refusal = or_refusal Rule.N2 (first_place (unknown_names m) m) reserved in
    let definitions : Option Refusal = or_refusal Rule.N1 (first_place (second_definitions m) m) known in
    let a = both_refused Rule.L1 (first_place (limits stage m) m) definitions e in
    let b = both_refused Rule.N1 (first_place (second_definitions m) m) known a.1 in
    let c = both_refused Rule.N2 (first_place (unknown_names m) m) reserved b.1 in
    let d = both_refused Rule.N3 (first_place (reserved_names stage m) m) types c.1 in
    record { depths = a.0; definitions = b.0; known = c.0; reserved = d.0; types = (both_refused Rule.Y2 (first_place (other_types m) m) None d.1).0 }

in_items : (stage : Stage) (m : Module) (faults : List PathFaults) → items_refusal stage m faults ≡ None → (first_place (wrong_initials m) m ≡ None) × (first_place misaligned_globals m ≡ None)
unfolding items_refusal
in_items stage m faults e =
    let rest : Option Refusal = functions_refusal stage m faults 0 m.functions in
    let a = both_refused Rule.Y1 (first_place (wrong_initials m) m) (or_refusal Rule.Y4 (first_place misaligned_globals m) rest) e in
    (a.0, (both_refused Rule.Y4 (first_place misaligned_globals m) rest a.1).0)

pub items_of_accepted : (stage : Stage) (m : Module) → IsRefused stage m None → KeepsItemRules stage m
unfolding refusal
items_of_accepted stage m h =
    let both = both_later (module_refusal stage m) (items_refusal stage m h.faults) (sym h.is) in
    let of_module = in_module stage m both.0 in
    let globals = in_items stage m h.faults both.1 in
    record {
      names = names_free stage m of_module.definitions of_module.reserved;
      definitions = kept_by_items (second_definitions m) m of_module.definitions;
      known = kept_by_items (unknown_names m) m of_module.known;
      reserved = kept_by_items (reserved_names stage m) m of_module.reserved;
      depths = kept_by_items (limits stage m) m of_module.depths;
      types = kept_by_items (other_types m) m of_module.types;
      initials = kept_by_items (wrong_initials m) m globals.0;
      alignments = kept_by_items misaligned_globals m globals.1;
    }
