-- A module whose functions break none of the rules of functions has none that does where the edges of its coroutines have blocks.
use Rattle.std.proofs.Common.{Bool, List, None, Option, Some, [], false, if◌then◌else◌, map, option_map, refl, subst, sym, true, ℕ, ◌∙◌, ◌∷◌, ◌≡◌}
use Rattle.std.proofs.lemmas.Option.{slice_get-map}
use Rattle.std.specs.Prelude.{slice_get}
use Rattle.pass_edges_proof.proofs.edges.rules.Kept.{rules_kept}
use Rattle.pass_edges.specs.EdgeBlocks.{with_edge_blocks}
use Rattle.pass_edges_proof.specs.edges.states.MovedState.{edge_function, edges_split}
use Rattle.pass_early_proof.proofs.rule_laws.rules.function_rules.Signatures.{go_by_signatures}
use Rattle.pass_early_proof.specs.rule_laws.rules.function_rules.Kept.{AllKeepFunctionRules, KeepsFunctionRules}
use Rattle.pass_early_proof.specs.ir_laws.facts.function_rules.Signatures.{HaveSameSignatures, heading}
use Rattle.ir_model.specs.declared.module.Function.{Function}
use Rattle.ir_model.specs.declared.module.Module.{Module}

heading_stays : (f : Function) → heading (edge_function f) ≡ heading f
heading_stays f = on f.coroutine
  where
    on : (b : Bool) → heading (if b then with_edge_blocks f else f) ≡ heading f
    on true = refl
    on false = refl

headings_stay : (fs : List Function) → map heading (map edge_function fs) ≡ map heading fs
headings_stay [] = refl
headings_stay (f ∷ fs) = λ k. heading_stays f k ∷ headings_stay fs k

pub signatures_stay : (m : Module) → HaveSameSignatures m (edges_split m)
signatures_stay m = record { types = refl; globals = refl; declarations = refl; functions = headings_stay m.functions }

function_kept : (m : Module) (k : ℕ) (f : Function) → KeepsFunctionRules m k f → KeepsFunctionRules m k (edge_function f)
function_kept m k f h = on f.coroutine
  where
    on : (b : Bool) → KeepsFunctionRules m k (if b then with_edge_blocks f else f)
    on true = rules_kept m k f h
    on false = h

pub modules_kept : (m : Module) → AllKeepFunctionRules m → AllKeepFunctionRules (edges_split m)
modules_kept m h k g there = on (slice_get m.functions k) refl (sym (slice_get-map edge_function m.functions k) ∙ there)
  where
    on : (o : Option Function) → slice_get m.functions k ≡ o → option_map edge_function o ≡ Some g → KeepsFunctionRules (edges_split m) k g
    on None e d = absurd (cc)
    on (Some f) e d =
        let same : edge_function f ≡ g = cc in
        subst (KeepsFunctionRules (edges_split m) k) same (go_by_signatures m (edges_split m) k (edge_function f) (signatures_stay m) (function_kept m k f (h k f e)))
