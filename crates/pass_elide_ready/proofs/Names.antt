-- What names give of a function that breaks no rule: each is given once, and is one of the function (N1, N2).
use Rattle.std.proofs.Common.{◌≡◌, ◌<◌, inl, inr, ℕ, List, [], ◌∷◌, length, map, refl, sym, ap, ◌∙◌, subst}
use Rattle.std.specs.Prelude.{None, Option, Some, slice_get}
use Rattle.pass_elide_edges.proofs.pass_elide_proof.ElidedFound.{fetched}
use Rattle.pass_elide_edges.specs.pass_elide_proof.Callers.{GivesOnce}
use Rattle.pass_elide_edges.specs.pass_elide_proof.Edges.{phis_at}
use Rattle.pass_elide_edges.specs.pass_elide_proof.Places.{instrs_of}
use Rattle.pass_elide_edges.proofs.pass_elide_proof.pass_proofs.ir_laws.facts.Lists.{phi_names}
use Rattle.pass_elide_edges.proofs.pass_elide_proof.pass_proofs.ir_laws.paths.woven_rules.Unbroken.{each_listed}
use Rattle.pass_elide_edges.proofs.pass_elide_proof.pass_proofs.rule_laws.rules.renamed.Uses.{result_spelt}
use Rattle.pass_elide_edges.proofs.pass_elide_proof.pass_proofs.rule_laws.rules.source_rules.Locals.{no_param, no_phi, phi_below, result_below}
use Rattle.pass_elide_edges.proofs.pass_elide_proof.pass_proofs.rule_laws.rules.source_rules.Locals.{same_result}
use Rattle.pass_elide_edges.proofs.pass_elide_proof.pass_proofs.rule_laws.rules.sources.Places.{instr_there, point}
use Rattle.pass_elide_edges.specs.pass_elide_proof.pass_proofs.flow_solver.Paths.{IsListed}
use Rattle.pass_elide_edges.specs.pass_elide_proof.pass_proofs.ir_model.declared.instr.Instr.{Instr}
use Rattle.pass_elide_edges.specs.pass_elide_proof.pass_proofs.ir_model.declared.instr.Phi.{Phi}
use Rattle.pass_elide_edges.specs.pass_elide_proof.pass_proofs.ir_model.declared.module.Block.{Block}
use Rattle.pass_elide_edges.specs.pass_elide_proof.pass_proofs.ir_model.declared.module.Function.{Function}
use Rattle.pass_elide_edges.specs.pass_elide_proof.pass_proofs.ir_model.declared.module.Module.{Module}
use Rattle.pass_elide_edges.specs.pass_elide_proof.pass_proofs.ir_model.declared.module.Param.{Param}
use Rattle.pass_elide_edges.specs.pass_elide_proof.pass_proofs.ir_parts.Contents.{result_of}
use Rattle.pass_elide_edges.specs.pass_elide_proof.pass_proofs.ir_paths.Windows.{instr_at}
use Rattle.pass_elide_edges.specs.pass_elide_proof.pass_proofs.ir_paths.declared.point.Point.{Point}
use Rattle.pass_elide_edges.specs.pass_elide_proof.pass_proofs.rule_laws.rules.function_rules.Kept.{KeepsFunctionRules}
use Rattle.pass_elide_edges.specs.pass_elide_proof.pass_proofs.run_laws.changed.Changed.{Each, result_of as given_by}
use Rattle.pass_elide_edges.specs.pass_elide_proof.pass_proofs.run_step.Step.{phis_of}
use Rattle.pass_split_proof.proofs.ready.Begins.{phi_listed}

-- what stands in a block stands at a point
pub at_point : (f : Function) (block at : ℕ) (i : Instr) → slice_get (instrs_of f block) at ≡ Some i
    → instr_at f (point block at) ≡ Some i
at_point f block at i there = instr_there f block at i (fetched f block at i there)

gives : (i : Instr) (v : ℕ) → result_of i ≡ Some v → given_by i ≡ Some v
gives i v e = sym (result_spelt i) ∙ e

param_listed : (ps : List Param) (p : Param) → IsListed p ps
    → IsListed p.name (map (λ (x : Param). x.name) ps)
param_listed [] p l = absurd l
param_listed (q ∷ ps) p (inl e) = inl (ap (λ (x : Param). x.name) e)
param_listed (q ∷ ps) p (inr l) = inr (param_listed ps p l)

module _ (m : Module) (k : ℕ) (f : Function) (rules : KeepsFunctionRules m k f) where
  -- ---- at points

  same_point : (p q : Point) (i j : Instr) (v : ℕ) → instr_at f p ≡ Some i → instr_at f q ≡ Some j
      → result_of i ≡ Some v → result_of j ≡ Some v → p ≡ q
  same_point p q i j v here there one other =
      same_result k f rules.definitions p q i j v here there (gives i v one) (gives j v other)

  low_point : (p : Point) (i : Instr) (v : ℕ) → instr_at f p ≡ Some i → result_of i ≡ Some v → v < length f.names
  low_point p i v here one = result_below k f rules.tabled p i v here (gives i v one)

  no_phi_point : (p : Point) (i : Instr) (v : ℕ) → instr_at f p ≡ Some i → result_of i ≡ Some v → (block : ℕ)
      → Each (λ (x : Phi). x.result ≡ v → ⊥) (phis_at f block)
  no_phi_point p i v here one block = on (slice_get f.blocks block) refl
    where
      on : (o : Option Block) → slice_get f.blocks block ≡ o → Each (λ (x : Phi). x.result ≡ v → ⊥) (phis_of o)
      on None e = tt
      on (Some b) e = each_listed (λ (x : Phi). x.result ≡ v → ⊥) b.phis (λ x l same.
          no_phi k f rules.definitions block b p i v e
          (subst (λ (n : ℕ). IsListed n (phi_names b.phis)) same (phi_listed b.phis x l)) here (gives i v one))

  pub phis_low : (block : ℕ) → Each (λ (x : Phi). x.result < length f.names) (phis_at f block)
  phis_low block = on (slice_get f.blocks block) refl
    where
      on : (o : Option Block) → slice_get f.blocks block ≡ o
          → Each (λ (x : Phi). x.result < length f.names) (phis_of o)
      on None e = tt
      on (Some b) e = each_listed (λ (x : Phi). x.result < length f.names) b.phis (λ x l.
          phi_below k f rules.tabled block b x.result e (phi_listed b.phis x l))

  pub gives_once : GivesOnce f
  gives_once = record {
    alone = λ p q i j v here there one other.
        let same : p ≡ q = same_point p q i j v here there one other in
        (ap (λ (x : Point). x.block) same, ap (λ (x : Point). x.at) same);
    names = low_point;
    phis = no_phi_point;
    phi_names = phis_low;
  }

  -- ---- in blocks

  pub same_place : (block at other to v : ℕ) (i j : Instr) → slice_get (instrs_of f block) at ≡ Some i
      → slice_get (instrs_of f other) to ≡ Some j → result_of i ≡ Some v → result_of j ≡ Some v
      → (block ≡ other) × (at ≡ to)
  same_place block at other to v i j here there one two =
      let same : point block at ≡ point other to =
      same_point (point block at) (point other to) i j v (at_point f block at i here) (at_point f other to j there)
      one two in
      (ap (λ (x : Point). x.block) same, ap (λ (x : Point). x.at) same)

  pub same_one : (block at other to v : ℕ) (i j : Instr) → slice_get (instrs_of f block) at ≡ Some i
      → slice_get (instrs_of f other) to ≡ Some j → result_of i ≡ Some v → result_of j ≡ Some v → i ≡ j
  same_one block at other to v i j here there one two =
      let same = same_place block at other to v i j here there one two in
      let both : Some i ≡ Some j =
      sym here ∙ (λ z. slice_get (instrs_of f (same.0 z)) (same.1 z)) ∙ there in
      cc

  pub low_name : (block at v : ℕ) (i : Instr) → slice_get (instrs_of f block) at ≡ Some i → result_of i ≡ Some v
      → v < length f.names
  low_name block at v i here one = low_point (point block at) i v (at_point f block at i here) one

  pub no_phi_gives : (block at v : ℕ) (i : Instr) → slice_get (instrs_of f block) at ≡ Some i → result_of i ≡ Some v
      → (other : ℕ) → Each (λ (x : Phi). x.result ≡ v → ⊥) (phis_at f other)
  no_phi_gives block at v i here one other = no_phi_point (point block at) i v (at_point f block at i here) one other

  pub no_param_gives : (block at v : ℕ) (i : Instr) → slice_get (instrs_of f block) at ≡ Some i
      → result_of i ≡ Some v → Each (λ (p : Param). p.name ≡ v → ⊥) f.params
  no_param_gives block at v i here one = each_listed (λ (p : Param). p.name ≡ v → ⊥) f.params (λ p l same.
      no_param k f rules.definitions (point block at) i v (at_point f block at i here) (gives i v one)
      (subst (λ (n : ℕ). IsListed n (map (λ (x : Param). x.name) f.params)) same
      (param_listed f.params p l)))
