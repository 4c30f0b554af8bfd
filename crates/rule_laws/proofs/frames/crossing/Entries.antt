-- No edge leads to the entry block.
use Rattle.std.proofs.Common.{◌≡◌, ℕ, zero, suc, Bool, true, false, List, [], ◌∷◌, length, refl, sym, ap, ◌∙◌, subst, arith}
use Rattle.std.specs.Prelude.{Option, Some, None, filter, map, not, option_map, slice_get, unwrap_or, ◌&&◌, ◌==◌, if◌then◌else◌}
use Rattle.rule_laws.proofs.rules.counted.PartFacts.{block_passes}
use Rattle.ir_laws.proofs.facts.Truth.{equal_numbers}
use Rattle.rule_phis.specs.Edges.{breaks_edges, is_empty, is_entry, leads, predecessors}
use Rattle.ir_laws.specs.flow_solver.Paths.{IsListed}
use Rattle.ir_parts.specs.Contents.{ending_labels}
use Rattle.rule_laws.specs.rules.function_rules.Kept.{KeepsFunctionRules}
use Rattle.ir_laws.specs.ir_model.Names.{first_where, position_of}
use Rattle.ir_laws.specs.ir_model.declared.instr.Instr.{Instr}
use Rattle.ir_laws.specs.ir_model.declared.module.Block.{Block}
use Rattle.ir_laws.specs.ir_model.declared.module.Function.{Function}
use Rattle.ir_laws.specs.ir_model.declared.module.Module.{Module}
use Rattle.ir_laws.specs.ir_paths.Paths.{targets}
use Rattle.ir_laws.specs.run_step.Step.{fetch, fetch_in, fetch_or}
use Rattle.frame_contents.specs.frame_crossing.Paths.{BranchesTo}
use Rattle.rule_laws.proofs.rules.edges.Entered.{has_listed as listed_has}
use Rattle.rule_laws.proofs.rules.known_labels.Rules.{labels_spelt as labels_same}

some_source : (label : ℕ) (bs : List Block) (q : ℕ) (b : Block) → slice_get bs q ≡ Some b → leads label b ≡ true → is_empty (map (λ c. c.label) (filter (leads label) bs)) ≡ false
some_source label [] q b e h = absurd (cc)
some_source label (c ∷ bs) zero b e h = let one : c ≡ b = cc in ap (λ (t : Bool). is_empty (map (λ x. x.label) (if t then c ∷ filter (leads label) bs else filter (leads label) bs))) (ap (leads label) one ∙ h)
some_source label (c ∷ bs) (suc q) b e h = on (leads label c) (some_source label bs q b e h)
  where
    on : (t : Bool) → is_empty (map (λ x. x.label) (filter (leads label) bs)) ≡ false → is_empty (map (λ x. x.label) (if t then c ∷ filter (leads label) bs else filter (leads label) bs)) ≡ false
    on true k = refl
    on false k = k

first_label : (bs : List Block) (label : ℕ) (b : Block) → slice_get bs 0 ≡ Some b → unwrap_or (first_where (λ c. c.label == label) bs) (length bs) ≡ 0 → b.label ≡ label
first_label [] label b e h = absurd (cc)
first_label (c ∷ bs) label b e h = let one : c ≡ b = cc in ap (λ (x : Block). x.label) (sym one) ∙ on (c.label == label) refl h
  where
    on : (t : Bool) → (c.label == label) ≡ t → unwrap_or (if t then Some 0 else option_map suc (first_where (λ x. x.label == label) bs)) (suc (length bs)) ≡ 0 → c.label ≡ label
    on true d k = equal_numbers c.label label d
    on false d k = absurd (later (first_where (λ x. x.label == label) bs) k)
      where
        later : (o : Option ℕ) → unwrap_or (option_map suc o) (suc (length bs)) ≡ 0 → ⊥
        later None x = absurd (omega (arith, x))
        later (Some n) x = absurd (omega (arith, x))

some_first : (bs : List Block) (q : ℕ) (b : Block) → slice_get bs q ≡ Some b → (c : Block) × (slice_get bs 0 ≡ Some c)
some_first [] q b e = absurd (cc)
some_first (c ∷ bs) q b e = (c, refl)

module _ (m : Module) (k : ℕ) (f : Function) (rules : KeepsFunctionRules m k f) where
  pub none_enters : (q : ℕ) (b : Block) (label : ℕ) → slice_get f.blocks q ≡ Some b → IsListed label (targets b.term) → position_of f label ≡ 0 → ⊥
  none_enters q b label got l e =
      let first = some_first f.blocks q b got in
      let c : Block = first.0 in
      let same : c.label ≡ label = first_label f.blocks label c first.1 e in
      let x = (block_passes (breaks_edges f) k f rules.edges 0 c first.1).head in
      let empty : not (is_empty (predecessors f c.label)) ≡ false = ap (λ (o : Option ℕ). is_entry o && not (is_empty (predecessors f c.label))) (sym x.1) ∙ x.2 in
      let some : is_empty (predecessors f label) ≡ false = some_source label f.blocks q b got (listed_has (ending_labels b.term) label (subst (λ (ns : List ℕ). IsListed label ns) (sym (labels_same b.term)) l)) in
      let both : not false ≡ false = ap not (sym (ap (λ (n : ℕ). is_empty (predecessors f n)) same ∙ some)) ∙ empty in
      absurd (cc)

  term_there : (o : Option Block) (at : ℕ) (label : ℕ) → BranchesTo label (fetch_in o at) → (b : Block) × ((o ≡ Some b) × IsListed label (targets b.term))
  term_there None at label h = absurd h
  term_there (Some b) at label h = on (slice_get b.instrs at) (at == length b.instrs) h
    where
      on : (i : Option Instr) (t : Bool) → BranchesTo label (fetch_or i t b.term) → (c : Block) × ((Some b ≡ Some c) × IsListed label (targets c.term))
      on (Some i) t x = absurd x
      on None true x = (b, (refl, x))
      on None false x = absurd x

  pub not_entered : (q at label : ℕ) → BranchesTo label (fetch f q at) → position_of f label ≡ 0 → ⊥
  not_entered q at label h e = let x = term_there (slice_get f.blocks q) at label h in none_enters q x.0 label x.1.0 x.1.1 e
