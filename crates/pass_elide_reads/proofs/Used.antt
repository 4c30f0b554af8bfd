-- What is made on one of two ways alone is used on it alone, where a path leads (F2, N1).
use Rattle.std.proofs.Common.{◌≡◌, ◌≢◌, ◌⊎◌, ◌∙◌, inl, inr, ⊎_elim, ℕ, List, [], ◌∷◌, Option, None, Some, ap, length, map, refl, subst, sym}
use Rattle.std.specs.Prelude.{slice_get}
use Rattle.pass_elide_edges.proofs.pass_elide_proof.pass_proofs.ir_laws.facts.Truth.{either}
use Rattle.pass_elide_edges.proofs.pass_elide_proof.pass_proofs.rule_laws.rules.source_rules.Locals.{own_label}
use Rattle.pass_elide_reads.proofs.Defined.{instr_defined, phi_defined, term_defined, unmade_by_instrs, unmade_by_phis}
use Rattle.pass_elide_reads.proofs.Diamonds.{HasSides, IsSide, leads_beside}
use Rattle.pass_elide_ready.proofs.Entries.{ending}
use Rattle.pass_elide_ready.proofs.Names.{no_param_gives, no_phi_gives, same_place}
use Rattle.pass_elide_ready.specs.pass_elide_proof.Edges.{label_from, phis_at}
use Rattle.pass_elide_ready.specs.pass_elide_proof.Places.{instrs_in, instrs_of}
use Rattle.pass_elide_ready.specs.pass_elide_proof.pass_proofs.flow_blocks.Reach.{IsReached}
use Rattle.pass_elide_ready.specs.pass_elide_proof.pass_proofs.flow_solver.Paths.{IsListed}
use Rattle.pass_elide_ready.specs.pass_elide_proof.pass_proofs.ir_model.Names.{position_of}
use Rattle.pass_elide_ready.specs.pass_elide_proof.pass_proofs.ir_model.declared.instr.Instr.{Instr}
use Rattle.pass_elide_ready.specs.pass_elide_proof.pass_proofs.ir_model.declared.instr.Phi.{Phi}
use Rattle.pass_elide_ready.specs.pass_elide_proof.pass_proofs.ir_model.declared.instr.Terminator.{Terminator}
use Rattle.pass_elide_ready.specs.pass_elide_proof.pass_proofs.ir_model.declared.module.Block.{Block}
use Rattle.pass_elide_ready.specs.pass_elide_proof.pass_proofs.ir_model.declared.module.Function.{Function}
use Rattle.pass_elide_ready.specs.pass_elide_proof.pass_proofs.ir_model.declared.module.Module.{Module}
use Rattle.pass_elide_ready.specs.pass_elide_proof.pass_proofs.ir_model.declared.module.Param.{Param}
use Rattle.pass_elide_ready.specs.pass_elide_proof.pass_proofs.ir_model.declared.operand.Operand.{Operand}
use Rattle.pass_elide_ready.specs.pass_elide_proof.pass_proofs.ir_parts.Contents.{ending_operands, instr_operands, result_of}
use Rattle.pass_elide_ready.specs.pass_elide_proof.pass_proofs.rule_laws.rules.function_rules.Kept.{KeepsFunctionRules}
use Rattle.pass_elide_ready.specs.pass_elide_proof.pass_proofs.rule_uses.Undefined.{ReachesWithout, params_of}
use Rattle.pass_elide_ready.specs.pass_elide_proof.pass_proofs.rule_uses.Uses.{block_values, locals_in, phi_values, values_at, values_in}
use Rattle.pass_elide_ready.specs.pass_elide_proof.pass_proofs.run_laws.changed.Changed.{Each}
use Rattle.pass_elide_ready.specs.pass_elide_proof.pass_proofs.run_step.Step.{AtTerm, Nowhere, fetch, fetch_in, incoming_from, label_of, phis_of}

-- the block in which something ends
pub record HasEnd (f : Function) (block : ℕ) (term : Terminator) : Type 0 where
  pub own : Block
  pub got : slice_get f.blocks block ≡ Some own
  pub same : own.term ≡ term

pub has_end : (f : Function) (block : ℕ) (term : Terminator) → fetch f block (length (instrs_of f block)) ≡ AtTerm term
    → HasEnd f block term
has_end f block term stands = on (slice_get f.blocks block) refl
  where
    on : (o : Option Block) → slice_get f.blocks block ≡ o → HasEnd f block term
    on None e =
        let none : Nowhere ≡ AtTerm term = sym (ap (λ o. fetch_in o (length (instrs_of f block))) e) ∙ stands in
        absurd (cc)
    on (Some b) e =
        let many : length (instrs_of f block) ≡ length b.instrs = ap (λ o. length (instrs_in o)) e in
        let both : AtTerm b.term ≡ AtTerm term = sym (ending f block b e) ∙ ap (fetch f block) (sym many) ∙ stands in
        let same : b.term ≡ term = cc in
        record { own = b; got = e; same = same }

no_listed_param : (v : ℕ) (ps : List Param) → Each (λ (p : Param). p.name ≡ v → ⊥) ps
    → IsListed v (map (λ (p : Param). p.name) ps) → ⊥
no_listed_param v [] never l = l
no_listed_param v (p ∷ ps) never (inl same) = never.0 (sym same)
no_listed_param v (p ∷ ps) never (inr l) = no_listed_param v ps never.1 l

module _ (m : Module) (number : ℕ) (f : Function) (rules : KeepsFunctionRules m number f) (v block at : ℕ) (i : Instr)
    (there : slice_get (instrs_of f block) at ≡ Some i) (gives : result_of i ≡ Some v) where
  -- ---- it is made in its block alone

  pub made_alone : (b : ℕ) → b ≢ block → IsListed v (values_at f b) → ⊥
  made_alone b other l = on (slice_get f.blocks b) refl l
    where
      on : (o : Option Block) → slice_get f.blocks b ≡ o → IsListed v (values_in (slice_get f.blocks b)) → ⊥
      on None e l' = subst (λ (o : Option Block). IsListed v (values_in o)) e l'
      on (Some c) e l' =
          unmade_by_instrs v (phi_values c) c.instrs
          (unmade_by_phis v [] c.phis (λ none. none)
          (subst (λ (o : Option Block). Each (λ (p : Phi). p.result ≡ v → ⊥) (phis_of o)) e
          (no_phi_gives m number f rules block at v i there gives b)))
          (λ to j here one. other
          (same_place m number f rules b to block at v j i (ap (λ (o : Option Block). slice_get (instrs_in o) to) e ∙ here)
          there one gives).0) (subst (λ (o : Option Block). IsListed v (values_in o)) e l')

  no_param : IsListed v (params_of f) → ⊥
  no_param l = no_listed_param v f.params (no_param_gives m number f rules block at v i there gives) l

  -- ---- uses past a way

  module _ (home first last target : ℕ) (s : HasSides f home first last target) (on_way : IsSide first last block)
      (detour : ReachesWithout f v home → ReachesWithout f v target) (b : ℕ) (reached : IsReached f (0 ∷ []) [] b)
      (away : IsSide first last b → ⊥) where
    other_block : (c : ℕ) → (IsSide first last c → ⊥) → c ≢ block
    other_block c not is = not (subst (IsSide first last) (sym is) on_way)

    unmade : (c : ℕ) → (IsSide first last c → ⊥) → IsListed v (values_at f c) → ⊥
    unmade c not l = made_alone c (other_block c not) l

    reaches : ReachesWithout f v b
    reaches = leads_beside f home first last target s v unmade detour b reached away

    unmade_here : (c : Block) → slice_get f.blocks b ≡ Some c → IsListed v (block_values c) → ⊥
    unmade_here c e l = unmade b away (subst (λ (o : Option Block). IsListed v (values_in o)) (sym e) l)

    pub no_instr : (k : ℕ) (j : Instr) → slice_get (instrs_of f b) k ≡ Some j
        → IsListed v (locals_in (instr_operands j)) → ⊥
    no_instr k j here l = on (slice_get f.blocks b) refl
      where
        on : (o : Option Block) → slice_get f.blocks b ≡ o → ⊥
        on None e =
            let none : None ≡ Some j = sym (ap (λ (o : Option Block). slice_get (instrs_in o) k) e) ∙ here in
            absurd (cc)
        on (Some c) e =
            instr_defined number f rules.uses v no_param b c e k j
            (sym (ap (λ (o : Option Block). slice_get (instrs_in o) k) e) ∙ here) l reaches (unmade_here c e)

    pub no_end : (term : Terminator) → fetch f b (length (instrs_of f b)) ≡ AtTerm term
        → IsListed v (locals_in (ending_operands term)) → ⊥
    no_end term stands l =
        let x = has_end f b term stands in
        term_defined number f rules.uses v no_param b x.own x.got
        (subst (λ (t : Terminator). IsListed v (locals_in (ending_operands t))) (sym x.same) l) reaches
        (unmade_here x.own x.got)

    pub no_phi : (own : Block) → slice_get f.blocks b ≡ Some own → (to : ℕ) (p : Phi) → IsListed p (phis_at f to)
        → incoming_from p.incoming (label_from f b) ≡ Operand.Local v → ⊥
    no_phi own got to p l takes = on (slice_get f.blocks to) refl l
      where
        label : position_of f (label_from f b) ≡ b
        label = ap (λ (o : Option Block). position_of f (label_of o)) got ∙ own_label number f rules.definitions b own got

        on : (o : Option Block) → slice_get f.blocks to ≡ o → IsListed p (phis_of (slice_get f.blocks to)) → ⊥
        on None e l' = subst (λ (o : Option Block). IsListed p (phis_of o)) e l'
        on (Some c) e l' =
            phi_defined number f rules.uses v no_param (label_from f b)
            (subst (ReachesWithout f v) (sym label) reaches)
            (λ x. unmade b away (subst (λ (n : ℕ). IsListed v (values_at f n)) label x)) to c e p
            (subst (λ (o : Option Block). IsListed p (phis_of o)) e l') takes
