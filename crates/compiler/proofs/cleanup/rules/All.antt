-- All the rules together.
use Rattle.std.proofs.Common.{◌≡◌, ℕ, refl, sym, ◌∙◌, subst, Option, Some, None}
use Rattle.std.proofs.lemmas.Option.{slice_get-map}
use Rattle.std.specs.Prelude.{option_map, slice_get}
use Rattle.compiler.proofs.cleanup.rules.Definitions.{definitions_clean}
use Rattle.compiler.proofs.cleanup.rules.Edges.{edges_clean}
use Rattle.compiler.proofs.cleanup.rules.Rules.{allocas_clean, calls_clean, closed_clean, depths_clean, extents_clean, known_clean, marks_clean}
use Rattle.compiler.proofs.cleanup.rules.Transfers.{transfers_clean}
use Rattle.compiler.proofs.cleanup.rules.Uses.{uses_clean}
use Rattle.compiler.proofs.cleanup.rules.Values.{values_clean}
use Rattle.compiler.specs.cleanup.rules.Clean.{NameNothingGone, NamesNothingGone}
use Rattle.pass_cleanup.specs.Cleanup.{clean_function, clean_module}
use Rattle.ir_model.specs.declared.module.Function.{Function}
use Rattle.ir_model.specs.declared.module.Module.{Module}
use Rattle.pass_proofs.specs.rule_laws.rules.plain_rules.Kept.{AllKeepPlainRules, KeepsPlainRules}

in_function : (m : Module) (k : ℕ) (f : Function) → NamesNothingGone k f → KeepsPlainRules m k f → KeepsPlainRules (clean_module m) k (clean_function f)
in_function m k f u h =
    record {
      definitions = definitions_clean k f h.definitions;
      known = known_clean m k f u h.known;
      depths = depths_clean m k f u h.depths;
      calls = calls_clean m k f u h.calls;
      values = values_clean m k f u h.values;
      closed_calls = closed_clean m k f u h.closed_calls;
      extents = extents_clean m k f u h.extents;
      transfers = transfers_clean k f h.transfers;
      edges = edges_clean k f u h.edges;
      uses = uses_clean m k f u h.definitions h.uses;
      allocas = allocas_clean m k f u h.allocas;
      marks = marks_clean m k f u h.marks;
    }

pub all_clean : (m : Module) → AllKeepPlainRules m → NameNothingGone m → AllKeepPlainRules (clean_module m)
all_clean m h u k g there = on (slice_get m.functions k) refl (sym (slice_get-map clean_function m.functions k) ∙ there)
  where
    on : (o : Option Function) → slice_get m.functions k ≡ o → option_map clean_function o ≡ Some g → KeepsPlainRules (clean_module m) k g
    on None e d = absurd (cc)
    on (Some f) e d = let same : clean_function f ≡ g = cc in subst (KeepsPlainRules (clean_module m) k) same (in_function m k f (u k f e) (h k f e))
