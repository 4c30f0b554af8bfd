-- What an alloca gives is given nowhere else, and allocas stand in the entry block (rules N1 and F3).
use Rattle.std.proofs.Common.{◌≡◌, inl, inr, ℕ, Bool, true, false, List, [], ◌∷◌, Option, Some, None, refl, sym, ap}
use Rattle.std.proofs.Common.{◌∙◌, subst}
use Rattle.std.specs.List.{list_any}
use Rattle.std.specs.Prelude.{map, not, slice_get, ◌==◌, ◌||◌}
use Rattle.pass_proofs.specs.flow_solver.Paths.{IsListed}
use Rattle.pass_proofs.proofs.ir_laws.facts.Members.{at_each}
use Rattle.pass_proofs.proofs.ir_laws.facts.Truth.{equal_numbers, holds}
use Rattle.pass_proofs.proofs.ir_laws.paths.renamed.Uses.{stands_in}
use Rattle.pass_proofs.specs.ir_model.Ty.{Ty}
use Rattle.pass_proofs.specs.ir_model.declared.instr.Instr.{Instr}
use Rattle.pass_proofs.specs.ir_model.declared.module.Block.{Block}
use Rattle.pass_proofs.specs.ir_model.declared.module.Function.{Function}
use Rattle.pass_proofs.specs.ir_model.declared.module.Module.{Module}
use Rattle.pass_proofs.specs.ir_model.declared.module.Param.{Param}
use Rattle.pass_proofs.specs.ir_paths.Windows.{instr_at}
use Rattle.pass_proofs.specs.ir_paths.declared.point.Point.{Point}
use Rattle.pass_proofs.proofs.pass_kept_proof.Read.{given_result}
use Rattle.pass_proofs.specs.pass_kept_proof.Crossing.{is_param}
use Rattle.pass_proofs.specs.pass_kept_proof.Needed.{phis_give}
use Rattle.pass_proofs.proofs.kept.sources.Windows.{phis_listed}
use Rattle.pass_renewed_meaning.specs.pass_renewed_proof.SlotRules.{IsMadeOnce}
use Rattle.pass_renewed_meaning.specs.pass_renewed_proof.Steps.{given_at}
use Rattle.pass_proofs.proofs.rule_laws.rules.counted.PartFacts.{block_passes}
use Rattle.pass_proofs.proofs.rule_laws.rules.source_rules.Locals.{no_param, no_phi, same_result}
use Rattle.pass_proofs.proofs.rule_laws.rules.sources.Places.{instr_there, point}
use Rattle.pass_proofs.specs.rule_laws.rules.function_rules.Kept.{KeepsFunctionRules}
use Rattle.pass_proofs.specs.rule_locals.Entries.{allocates_late, is_past_entry}
use Rattle.pass_proofs.specs.rule_locals.Instrs.{on_instr}
use Rattle.pass_proofs.specs.run_laws.changed.Changed.{result_of}
use Rattle.pass_proofs.specs.run_step.Step.{AtInstr, AtTerm, Fetched, Nowhere, fetch, phis_of}

param_named : (v : ℕ) (ps : List Param) → list_any (λ p. p.name == v) ps ≡ true → IsListed v (map (λ p. p.name) ps)
param_named v [] h = absurd (cc)
param_named v (p ∷ ps) h = on (p.name == v) refl h (param_named v ps)
  where
    on : (b : Bool) → (p.name == v) ≡ b → (b || list_any (λ q. q.name == v) ps) ≡ true
        → (list_any (λ q. q.name == v) ps ≡ true → IsListed v (map (λ q. q.name) ps))
        → IsListed v (p.name ∷ map (λ q. q.name) ps)
    on true e d rest = inl (sym (equal_numbers p.name v e))
    on false e d rest = inr (rest d)

module _ (m : Module) (k : ℕ) (f : Function) (rules : KeepsFunctionRules m k f) where
  -- ---- what an instruction gives

  module _ (p : Point) (i : Instr) (v : ℕ) (there : instr_at f p ≡ Some i) (made : result_of i ≡ Some v) where
    pub no_phi_gives : (block : ℕ) → phis_give v (phis_of (slice_get f.blocks block)) ≡ false
    no_phi_gives block = on (slice_get f.blocks block) refl
      where
        by : (b : Block) → slice_get f.blocks block ≡ Some b → (t : Bool) → phis_give v b.phis ≡ t → t ≡ false
        by b e false d = refl
        by b e true d = absurd (no_phi k f rules.definitions block b p i v e (phis_listed v b.phis d) there made)

        on : (o : Option Block) → slice_get f.blocks block ≡ o → phis_give v (phis_of o) ≡ false
        on None e = refl
        on (Some b) e = by b e (phis_give v b.phis) refl

    pub gives_no_param : is_param f v ≡ false
    gives_no_param = on (is_param f v) refl
      where
        on : (b : Bool) → is_param f v ≡ b → b ≡ false
        on false d = refl
        on true d = absurd (no_param k f rules.definitions p i v there made (param_named v f.params d))

    pub given_alone : (block at : ℕ) → given_at (fetch f block at) ≡ Some v → point block at ≡ p
    given_alone block at e = on (fetch f block at) refl e
      where
        on : (x : Fetched) → fetch f block at ≡ x → given_at x ≡ Some v → point block at ≡ p
        on Nowhere d h = absurd (cc)
        on (AtTerm t) d h = absurd (cc)
        on (AtInstr j) d h = same_result k f rules.definitions (point block at) p j i v (instr_there f block at j d)
            there (given_result j v h) made

  -- ---- allocas

  module _ (a : ℕ) (ty : Ty) (align block at : ℕ) (stands : fetch f block at ≡ AtInstr (Instr.Alloca a ty align)) where
    abbrev i : Instr
    i = Instr.Alloca a ty align

    there : instr_at f (point block at) ≡ Some (Instr.Alloca a ty align)
    there = instr_there f block at i stands

    in_entry : block ≡ 0
    in_entry =
        let x = stands_in f (point block at) i there in
        let late = at_each _ x.block.instrs at i (block_passes (on_instr allocates_late) k f rules.local.allocas block
        x.block x.got).instrs x.stands in
        let past : not (block == 0) ≡ false = ap is_past_entry (sym late.1) ∙ late.2 in
        equal_numbers block 0 (holds (block == 0) past)

    -- an alloca gives its name once
    pub made_once : IsMadeOnce f a
    made_once = record {
      at = at;
      ty = ty;
      align = align;
      stands = subst (λ (b : ℕ). fetch f b at ≡ AtInstr (Instr.Alloca a ty align)) in_entry stands;
      alone = λ b n e.
          let same = given_alone (point block at) i a there refl b n e in
          (ap (λ (q : Point). q.block) same ∙ in_entry, ap (λ (q : Point). q.at) same);
      no_phi = no_phi_gives (point block at) i a there refl;
      no_param = gives_no_param (point block at) i a there refl;
    }
