-- A function that breaks no rule of edges, and whose edges lead to its blocks, names labels of its own alone; so do the parts.
use Rattle.std.proofs.Common.{Bool, List, [], ap, false, inl, inr, refl, subst, sym, true, ℕ, ◌∙◌, ◌∷◌, ◌≡◌}
use Rattle.std.specs.List.{list_all, list_any}
use Rattle.std.specs.Prelude.{None, Option, Some, not, slice_get, ◌&&◌, ◌==◌, ◌||◌}
use Rattle.ir_laws.proofs.facts.Truth.{itself, and_both, and_first, and_second, holds}
use Rattle.rule_laws.proofs.rules.renamed.Switches.{none_part}
use Rattle.rule_laws.proofs.rules.local_rules.Defined.{label_defined}
use Rattle.rule_laws.proofs.rules.path_rules.Holding.{of_parts, part_none, to_parts}
use Rattle.rule_phis.specs.Edges.{breaks_edges, differs, first_wrong_edge, fits_edges, has, incoming_labels, into_block, predecessors}
use Rattle.ir_laws.specs.flow_solver.Paths.{IsListed}
use Rattle.ir_parts.specs.Contents.{ending_labels, ending_operands, instr_operands, part_operands}
use Rattle.ir_parts.specs.Parts.{OfPhi, first_part, parts_of}
use Rattle.ir_laws.specs.ir_model.declared.instr.Phi.{Phi}
use Rattle.ir_laws.specs.ir_model.declared.module.Block.{Block}
use Rattle.ir_laws.specs.ir_model.declared.module.Function.{Function}
use Rattle.ir_laws.specs.ir_model.declared.operand.Operand.{Operand}
use Rattle.ir_laws.specs.ir_paths.Paths.{targets}
use Rattle.rule_names.specs.Known.{is_label}
use Rattle.rule_laws.proofs.rules.edges.Entered.{from_predecessors, listed_has}
use Rattle.ir_laws.proofs.paths.edges.Lists.{all_of, listed_at}
use Rattle.ir_laws.proofs.paths.counted.PartFacts.{all_listed as all_there}
use Rattle.rule_laws.proofs.rules.known_labels.Rules.{labels_spelt as targets_are}
use Rattle.rule_laws.specs.rules.replaced.Instructions.{is_there, names_lost}

-- where all values are there, each operand is
one_there : (x : Operand) → is_there (λ v. true) x ≡ true
one_there (Operand.Local v) = refl
one_there _ = refl

values_there : (xs : List Operand) → list_all (is_there (λ v. true)) xs ≡ true
values_there xs = all_of (is_there (λ v. true)) xs (λ x l. one_there x)

labelled : (bs : List Block) (b : Block) → IsListed b bs → list_any (λ (c : Block). c.label == b.label) bs ≡ true
labelled [] b l = absurd l
labelled (c ∷ bs) b (inl e) = ap (λ (n : ℕ). (n == b.label) || list_any (λ (d : Block). d.label == b.label) bs) (ap (λ (d : Block). d.label) (sym e)) ∙ ap (λ (t : Bool). t || list_any (λ (d : Block). d.label == b.label) bs) (itself b.label)
labelled (c ∷ bs) b (inr l) = on (c.label == b.label) (labelled bs b l)
  where
    on : (t : Bool) → list_any (λ (d : Block). d.label == b.label) bs ≡ true → (t || list_any (λ (d : Block). d.label == b.label) bs) ≡ true
    on true e = refl
    on false e = e

module _ (l : ℕ) (g : Function) (edges : first_wrong_edge l g ≡ None) (lead : (b : Block) (label : ℕ) → IsListed b g.blocks → IsListed label (targets b.term) → (c : Block) × (IsListed c g.blocks × (c.label ≡ label))) where
  own : (b : Block) → IsListed b g.blocks → is_label l g b.label ≡ true
  own b n = label_defined b.label l g ∙ labelled g.blocks b n

  targets_own : (b : Block) → IsListed b g.blocks → list_all (is_label l g) (ending_labels b.term) ≡ true
  targets_own b n =
      ap (list_all (is_label l g)) (targets_are b.term)
      ∙ all_of (is_label l g) (targets b.term) (λ label t. let c = lead b label n t in ap (is_label l g) (sym c.1.1) ∙ own c.0 c.1.0)

  incoming_own : (at : ℕ) (b : Block) → slice_get g.blocks at ≡ Some b → (j : ℕ) (y : Phi) → slice_get b.phis j ≡ Some y → list_all (is_label l g) (incoming_labels y.incoming) ≡ true
  incoming_own at b there j y e =
      let parts = of_parts (λ z. breaks_edges g z.0 z.1 ≡ false) l g (none_part (breaks_edges g) (parts_of l g) edges) in
      let fits : fits_edges (predecessors g b.label) y.incoming ≡ true =
      subst (λ (o : Option Block). fits_edges (into_block (predecessors g) o) y.incoming ≡ true) there (holds (fits_edges (into_block (predecessors g) (slice_get g.blocks at)) y.incoming) ((parts.blocks at b there).phis j y e)) in
      let rest = and_second (list_all (has (incoming_labels y.incoming)) (predecessors g b.label)) (list_all (has (predecessors g b.label)) (incoming_labels y.incoming) && not (list_any (differs y.incoming) y.incoming)) fits in
      let had = and_first (list_all (has (predecessors g b.label)) (incoming_labels y.incoming)) (not (list_any (differs y.incoming) y.incoming)) rest in
      all_of (is_label l g) (incoming_labels y.incoming)
      (λ n w.
      let c = from_predecessors g b.label n (listed_has (predecessors g b.label) n (all_there (has (predecessors g b.label)) (incoming_labels y.incoming) had n w)) in
      ap (is_label l g) c.is ∙ own c.block c.listed)

  pub labels_own : first_part (names_lost (λ v. true) (is_label l g)) (parts_of l g) ≡ None
  labels_own =
      part_none (names_lost (λ v. true) (is_label l g)) (parts_of l g) (to_parts (λ z. names_lost (λ v. true) (is_label l g) z.0 z.1 ≡ false) l g (record {
        signature = refl;
        blocks = λ at c there. record {
          head = refl;
          phis = λ j y e. ap not (and_both (list_all (is_there (λ v. true)) (part_operands (OfPhi y))) (list_all (is_label l g) (incoming_labels y.incoming)) (values_there (part_operands (OfPhi y))) (incoming_own at c there j y e));
          instrs = λ j i e. ap not (and_both (list_all (is_there (λ v. true)) (instr_operands i)) true (values_there (instr_operands i)) refl);
          ending = ap not (and_both (list_all (is_there (λ v. true)) (ending_operands c.term)) (list_all (is_label l g) (ending_labels c.term)) (values_there (ending_operands c.term)) (targets_own c (listed_at g.blocks at c there)));
        };
      }))
