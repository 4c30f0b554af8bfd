-- The functions of a source that breaks no rule break none of the rules of functions.
use Rattle.std.proofs.Common.{◌≡◌, ℕ, ◌+◌, Bool, true, false, List, [], Option, Some, None}
use Rattle.std.specs.Prelude.{length, slice_get, if◌then◌else◌}
use Rattle.pass_proofs.specs.ir_base.declared.outcome.Place.{Place}
use Rattle.pass_proofs.proofs.ir_laws.facts.Members.{each_turns}
use Rattle.pass_proofs.specs.ir_model.declared.module.Function.{Function}
use Rattle.pass_proofs.specs.ir_model.declared.module.Module.{Module}
use Rattle.pass_proofs.specs.ir_parts.Locals.{locals_of}
use Rattle.pass_proofs.specs.ir_parts.Parts.{Part, first_part, function_place, parts_of, place_if}
use Rattle.pass_proofs.proofs.early.function_rules.Depths.{within_limits}
use Rattle.pass_proofs.proofs.early.local_rules.Sources.{of_function}
use Rattle.pass_proofs.specs.rule_all.Refused.{IsRefused}
use Rattle.pass_proofs.proofs.rule_laws.rules.function_rules.Depths.{plain_part, types_fit}
use Rattle.pass_proofs.proofs.rule_laws.rules.function_rules.Shaped.{all_shaped}
use Rattle.pass_proofs.proofs.rule_laws.rules.local_rules.Accepted.{accepted_breaks_none}
use Rattle.pass_proofs.proofs.rule_laws.rules.local_rules.Carried.{passing}
use Rattle.pass_proofs.proofs.rule_laws.rules.local_rules.Rules.{second_out}
use Rattle.pass_proofs.proofs.rule_laws.rules.path_rules.Holding.{part_none}
use Rattle.pass_proofs.proofs.rule_laws.rules.path_rules.Passes.{accepted_paths, accepted_shape}
use Rattle.pass_proofs.specs.rule_laws.rules.function_rules.Kept.{AllKeepFunctionRules}
use Rattle.pass_proofs.specs.rule_names.Definitions.{first_twice, is_second_function, second_definitions}
use Rattle.pass_proofs.specs.rule_names.Known.{unknown_names}
use Rattle.pass_proofs.specs.rule_names.declared.stage.Stage.{Stage}
use Rattle.pass_proofs.specs.rule_types.Limits.{breaks_limits, first_past, is_past, limits, value_past}
use Rattle.pass_proofs.specs.rule_types.Signatures.{other_types}
use Rattle.pass_proofs.proofs.text_canonical.order.Shaped.{text_is_shaped}
use Rattle.pass_proofs.specs.text_grammar.Text.{StandsFor}

-- ---- types as deep as they may be in a source are so in a plain module (rule L1)

parts_within : (m : Module) (k : ℕ) (f : Function) → first_past Stage.Source m k f ≡ None
    → first_part (breaks_limits Stage.Source m (value_past Stage.Source 1048576 k f)) (parts_of k f) ≡ None
parts_within m k f e = on (is_past Stage.Source 65535 (length m.declarations + k)) e
  where
    on : (b : Bool) → (if b then Some (function_place k) else first_part (breaks_limits Stage.Source m
        (value_past Stage.Source 1048576 k f)) (parts_of k f)) ≡ None
        → first_part (breaks_limits Stage.Source m (value_past Stage.Source 1048576 k f)) (parts_of k f) ≡ None
    on true d = absurd (cc)
    on false d = d

depths : (m : Module) → IsRefused Stage.Source m None → (k : ℕ) (f : Function) → slice_get m.functions k ≡ Some f
    → first_past Stage.Plain m k f ≡ None
depths m accepted k f there =
    let past : Option Place = value_past Stage.Source 1048576 k f in
    let within = parts_within m k f (of_function m (limits Stage.Source m) (within_limits m accepted) k f there) in
    part_none (breaks_limits Stage.Plain m None) (parts_of k f)
    (each_turns (λ (x : Place × Part). breaks_limits Stage.Source m past x.0 x.1 ≡ false)
    (λ (x : Place × Part). breaks_limits Stage.Plain m None x.0 x.1 ≡ false)
    (λ x e. plain_part m x.0 x.1 (types_fit Stage.Source m past x.0 x.1 e)) (parts_of k f)
    (passing (breaks_limits Stage.Source m past) (parts_of k f) within))

-- ---- the rules

pub source_rules : (text : List ℕ) (m : Module) → StandsFor text m → IsRefused Stage.Source m None
    → AllKeepFunctionRules m
source_rules text m stands accepted k f there =
    let local = accepted_breaks_none m accepted in
    record {
      tabled = all_shaped m (text_is_shaped text m stands) k f there;
      definitions = second_out (place_if (is_second_function m k f.name) (function_place k))
          (first_twice [] (locals_of k f)) (of_function m (second_definitions m) local.definitions k f there);
      known = of_function m (unknown_names m) local.known k f there;
      depths = depths m accepted k f there;
      calls = of_function m (other_types m) local.types k f there;
      local = local.functions k f there;
      edges = (accepted_shape m accepted k f there).edges;
      uses = (accepted_paths m accepted k f there).undefined_use;
    }
