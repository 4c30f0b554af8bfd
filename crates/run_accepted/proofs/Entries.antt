-- No edge leads to the entry block (rule F1).
use Rattle.std.proofs.Common.{◌≡◌, ℕ, suc, Bool, true, false, List, [], ◌∷◌, Option, Some, None, refl, sym, ap, ◌∙◌}
use Rattle.std.proofs.Common.{subst}
use Rattle.std.specs.Prelude.{length, not, option_map, slice_get, unwrap_or, ◌==◌, if◌then◌else◌}
use Rattle.pass_proofs.specs.flow_solver.Paths.{IsListed}
use Rattle.pass_proofs.proofs.ir_laws.facts.Truth.{equal_numbers, holds}
use Rattle.pass_proofs.proofs.ir_laws.paths.edges.Lists.{listed_at}
use Rattle.pass_proofs.specs.ir_model.Names.{first_where, position_of}
use Rattle.pass_proofs.specs.ir_model.declared.instr.Terminator.{Terminator}
use Rattle.pass_proofs.specs.ir_model.declared.module.Block.{Block}
use Rattle.pass_proofs.specs.ir_model.declared.module.Function.{Function}
use Rattle.pass_proofs.specs.ir_model.declared.module.Module.{Module}
use Rattle.pass_proofs.specs.ir_paths.Paths.{targets}
use Rattle.pass_proofs.specs.pass_kept_proof.Needed.{BranchesTo}
use Rattle.pass_proofs.proofs.kept.sources.Places.{branch_there}
use Rattle.pass_proofs.proofs.split.edges.Entered.{to_predecessors}
use Rattle.pass_proofs.proofs.rule_laws.rules.counted.PartFacts.{block_passes}
use Rattle.pass_proofs.proofs.rule_laws.rules.edges.Entered.{listed_has}
use Rattle.pass_proofs.specs.rule_laws.rules.function_rules.Kept.{KeepsFunctionRules}
use Rattle.pass_proofs.specs.rule_phis.Edges.{breaks_edges, is_empty, is_entry, predecessors}
use Rattle.pass_proofs.specs.run_step.Step.{fetch}

none_listed : (ns : List ℕ) → is_empty ns ≡ true → (n : ℕ) → IsListed n ns → ⊥
none_listed [] e n l = l
none_listed (k ∷ ns) e n l = absurd (cc)

-- the first block has the label whose position is the first
record IsFirstLabel (bs : List Block) (label : ℕ) : Type 0 where
  first : Block
  there : slice_get bs 0 ≡ Some first
  own : first.label ≡ label

first_label : (bs : List Block) (label at : ℕ) (b : Block) → slice_get bs at ≡ Some b
    → unwrap_or (first_where (λ c. c.label == label) bs) (length bs) ≡ 0 → IsFirstLabel bs label
first_label [] label at b e h = absurd (cc)
first_label (c ∷ bs) label at b e h = on (c.label == label) refl h
  where
    later : (o : Option ℕ) → unwrap_or (option_map suc o) (suc (length bs)) ≡ 0 → IsFirstLabel (c ∷ bs) label
    later None k = absurd (cc)
    later (Some n) k = absurd (cc)

    on : (t : Bool) → (c.label == label) ≡ t
        → unwrap_or (if t then Some 0 else option_map suc (first_where (λ d. d.label == label) bs))
        (suc (length bs)) ≡ 0
        → IsFirstLabel (c ∷ bs) label
    on true d k = record { first = c; there = refl; own = equal_numbers c.label label d }
    on false d k = later (first_where (λ d. d.label == label) bs) k

module _ (m : Module) (k : ℕ) (f : Function) (rules : KeepsFunctionRules m k f) where
  none_before : (b : Block) → slice_get f.blocks 0 ≡ Some b → is_empty (predecessors f b.label) ≡ true
  none_before b e =
      let x = (block_passes (breaks_edges f) k f rules.edges 0 b e).head in
      let entry : is_entry x.0.block ≡ true = ap is_entry x.1 in
      holds (is_empty (predecessors f b.label))
      (sym (ap (λ (t : Bool). Rattle.std.specs.Prelude.◌&&◌ t (not (is_empty (predecessors f b.label)))) entry) ∙ x.2)

  pub never_entered : (block at label : ℕ) → BranchesTo label (fetch f block at) → position_of f label ≡ 0 → ⊥
  never_entered block at label h first =
      let x = branch_there f block at label h in
      let y = first_label f.blocks label block x.1.0.own x.1.0.got first in
      let listed : IsListed label (targets x.1.0.own.term) =
      subst (λ (t : Terminator). IsListed label (targets t)) (sym x.1.0.is) (listed_has (targets x.0) label x.1.1) in
      none_listed (predecessors f y.first.label) (none_before y.first y.there) x.1.0.own.label
      (to_predecessors f y.first.label x.1.0.own (listed_at f.blocks block x.1.0.own x.1.0.got)
      (subst (λ (n : ℕ). IsListed n (targets x.1.0.own.term)) (sym y.own) listed))
