-- Lemmas on headings.
use Rattle.std.proofs.Common.{◌≡◌, List, [], ◌∷◌, refl, ap, ◌∙◌}
use Rattle.std.specs.Prelude.{map}
use Rattle.pass_early_proof.proofs.early.local_rules.Turned.{turned_function}
use Rattle.pass_early.specs.Early.{early_function, early_module}
use Rattle.rule_laws.specs.ir_laws.facts.function_rules.Signatures.{HaveSameSignatures, heading}
use Rattle.ir_model.specs.declared.module.Function.{Function}
use Rattle.ir_model.specs.declared.module.Module.{Module}
use Rattle.rule_laws.specs.ir_laws.facts.same_names.Same.{HaveSameNames, naming}
use Rattle.rule_laws.proofs.ir_laws.facts.Numbers.{IsHeadedAs, heading_stays, naming_stays}

-- ---- the first pass

early_headed : (f : Function) → IsHeadedAs f (early_function f)
early_headed f = let t = turned_function f in record { name = t.name; result = t.result; params = t.params; coroutine = t.coroutine }

all_early : {A : Type 0} (what : Function → A) → ((f g : Function) → IsHeadedAs f g → what g ≡ what f) → (fs : List Function) → map what (map early_function fs) ≡ map what fs
all_early what h [] = refl
all_early what h (f ∷ fs) = ap (λ x. x ∷ map what (map early_function fs)) (h f (early_function f) (early_headed f)) ∙ ap (λ xs. what f ∷ xs) (all_early what h fs)

pub early_names : (m : Module) → HaveSameNames m (early_module m)
early_names m = record { types = refl; globals = refl; declarations = refl; functions = all_early naming naming_stays m.functions }

pub early_signatures : (m : Module) → HaveSameSignatures m (early_module m)
early_signatures m = record { types = refl; globals = refl; declarations = refl; functions = all_early heading heading_stays m.functions }
