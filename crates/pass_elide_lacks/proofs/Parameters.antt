-- Names of instructions are no parameters (N1).
use Rattle.std.proofs.Common.{◌≡◌, ◌≢◌, inl, inr, ℕ, List, [], ◌∷◌, Some, sym}
use Rattle.std.specs.Prelude.{map, slice_get}
use Rattle.pass_elide_meaning.proofs.pass_elide_edges.pass_elide_proof.ElidedFound.{fetched}
use Rattle.pass_elide_meaning.proofs.pass_elide_edges.pass_elide_proof.pass_proofs.rule_laws.rules.source_rules.Locals.{no_param}
use Rattle.pass_elide_meaning.proofs.pass_elide_edges.pass_elide_proof.pass_proofs.rule_laws.rules.sources.Places.{instr_there}
use Rattle.pass_elide_meaning.specs.pass_elide_edges.pass_elide_proof.Places.{instrs_of}
use Rattle.pass_elide_meaning.specs.pass_elide_edges.pass_elide_proof.pass_proofs.flow_solver.Paths.{IsListed}
use Rattle.pass_elide_meaning.specs.pass_elide_edges.pass_elide_proof.pass_proofs.ir_model.declared.instr.Instr.{Instr}
use Rattle.pass_elide_meaning.specs.pass_elide_edges.pass_elide_proof.pass_proofs.ir_model.declared.module.Function.{Function}
use Rattle.pass_elide_meaning.specs.pass_elide_edges.pass_elide_proof.pass_proofs.ir_model.declared.module.Module.{Module}
use Rattle.pass_elide_meaning.specs.pass_elide_edges.pass_elide_proof.pass_proofs.ir_model.declared.module.Param.{Param}
use Rattle.pass_elide_meaning.specs.pass_elide_edges.pass_elide_proof.pass_proofs.ir_parts.Contents.{result_of}
use Rattle.pass_elide_meaning.specs.pass_elide_edges.pass_elide_proof.pass_proofs.rule_laws.rules.function_rules.Kept.{KeepsFunctionRules}
use Rattle.pass_elide_meaning.specs.pass_elide_edges.pass_elide_proof.pass_proofs.run_laws.changed.Changed.{Each}

each_apart : (ps : List Param) (v : ℕ) → (IsListed v (map (λ p. p.name) ps) → ⊥)
    → Each (λ (p : Param). p.name ≢ v) ps
each_apart [] v none = tt
each_apart (p ∷ ps) v none = ((λ is. none (inl (sym is))), each_apart ps v (λ listed. none (inr listed)))

pub no_parameter : (m : Module) (k : ℕ) (f : Function) → KeepsFunctionRules m k f → (block at v : ℕ) (i : Instr)
    → slice_get (instrs_of f block) at ≡ Some i → result_of i ≡ Some v → Each (λ (p : Param). p.name ≢ v) f.params
no_parameter m k f rules block at v i there gives =
    each_apart f.params v
    (no_param k f rules.definitions (record { block = block; at = at }) i v
    (instr_there f block at i (fetched f block at i there)) gives)
