-- A function that breaks none of the rules of functions keeps what runs ask of types.
use Rattle.std.proofs.Common.{◌≡◌, ℕ, suc, List, [], ◌∷◌, Option, None, Some, refl}
use Rattle.std.specs.List.{AllByRecursion}
use Rattle.std.specs.Prelude.{slice_get}
use Rattle.pass_proofs.specs.ir_model.declared.module.Block.{Block}
use Rattle.pass_proofs.specs.ir_model.declared.module.Function.{Function}
use Rattle.pass_proofs.specs.ir_model.declared.module.Module.{Module}
use Rattle.pass_proofs.specs.ir_model.declared.module.Param.{Param}
use Rattle.pass_proofs.proofs.kept.sources.Typed.{calls_fit, ends_fit, instrs_fit, loads_fit, names_given, param_named}
use Rattle.pass_proofs.proofs.kept.sources.Typed.{phi_fits, phi_named}
use Rattle.pass_proofs.specs.rule_laws.rules.counted.Widths.{first_other_width}
use Rattle.pass_proofs.specs.rule_laws.rules.function_rules.Kept.{KeepsFunctionRules}
use Rattle.pass_proofs.specs.rule_values.Kinds.{kind_of, value_kind}
use Rattle.pass_proofs.specs.run_step.Step.{phis_of}
use Rattle.pass_renewed_meaning.specs.run_types.Rules.{FitsPhi, KeepsTypes}

all_there : {A : Type 0} (P : A → Type 0) (xs : List A) → ((n : ℕ) (x : A) → slice_get xs n ≡ Some x → P x)
    → AllByRecursion P xs
all_there P [] h = tt
all_there P (x ∷ xs) h = (h 0 x refl, all_there P xs (λ n y e. h (suc n) y e))

module _ (m : Module) (k : ℕ) (f : Function) (rules : KeepsFunctionRules m k f) where
  phis_fit : (block : ℕ) → AllByRecursion (FitsPhi f) (phis_of (slice_get f.blocks block))
  phis_fit block = on (slice_get f.blocks block) refl
    where
      on : (o : Option Block) → slice_get f.blocks block ≡ o → AllByRecursion (FitsPhi f) (phis_of o)
      on None e = tt
      on (Some b) e = all_there (FitsPhi f) b.phis (λ at p there. record {
        fits = phi_fits m k f rules block b at p e there;
        own = phi_named m k f rules block b at p e there;
      })

  pub types_kept : first_other_width k f ≡ None → KeepsTypes m f
  types_kept widths = record {
    instrs = λ block at i e. instrs_fit m k f rules block at i e;
    ends = λ block at t e. ends_fit m k f rules block at t e;
    given = λ block at n i kind e own. names_given m k f rules block at i e n kind own;
    phis = phis_fit;
    params = all_there (λ (p : Param). value_kind f p.name ≡ Some (kind_of p.ty)) f.params
        (λ at p e. param_named m k f rules at p e);
    calls = λ block at result must_tail ty callee args e.
        calls_fit m k f rules block at result must_tail ty callee args e;
    loads = λ block at name ty p align e. loads_fit m k f rules widths block at name ty p align e;
  }
