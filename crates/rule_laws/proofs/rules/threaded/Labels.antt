-- The labels that a function names are those of its blocks (rule N2).
use Rattle.std.proofs.Common.{◌≡◌, ℕ, zero, suc, ◌+◌, length, true, false, ◌&&◌, List, [], ◌∷◌, None, Some, sym, ap, ◌∙◌, subst, inl, inr}
use Rattle.std.specs.List.{list_all}
use Rattle.std.specs.Prelude.{slice_get, map, ◌==◌}
use Rattle.ir_laws.specs.ir_base.declared.outcome.Place.{Place}
use Rattle.rule_laws.proofs.rules.renamed.Switches.{none_part}
use Rattle.rule_laws.proofs.rules.local_rules.Defined.{label_defined}
use Rattle.ir_laws.proofs.facts.Truth.{and_first, and_second, holds}
use Rattle.rule_laws.proofs.rules.path_rules.Holding.{HoldsOf, of_parts}
use Rattle.rule_laws.proofs.rules.source_rules.Locals.{own_label}
use Rattle.ir_laws.proofs.facts.Lists.{IsAt, at_any}
use Rattle.rule_laws.proofs.rules.known_labels.Rules.{labels_spelt}
use Rattle.ir_laws.specs.flow_solver.Paths.{IsListed}
use Rattle.ir_parts.specs.Contents.{ending_labels, part_labels, part_operands, part_types}
use Rattle.ir_parts.specs.Locals.{locals_of}
use Rattle.ir_parts.specs.Parts.{Ending, OfPhi, Part, instr_place, parts_of}
use Rattle.ir_laws.specs.ir_model.Names.{position_of}
use Rattle.ir_laws.specs.ir_model.declared.instr.Incoming.{Incoming}
use Rattle.ir_laws.specs.ir_model.declared.instr.Phi.{Phi}
use Rattle.ir_laws.specs.ir_model.declared.module.Block.{Block}
use Rattle.ir_laws.specs.ir_model.declared.module.Function.{Function}
use Rattle.ir_laws.specs.ir_model.declared.module.Module.{Module}
use Rattle.ir_laws.proofs.ir_paths.Search.{eq_from}
use Rattle.ir_laws.specs.ir_paths.Paths.{targets}
use Rattle.rule_names.specs.Definitions.{first_twice}
use Rattle.rule_names.specs.Known.{first_unknown, is_label, is_value, knows_called, knows_operand, knows_type, names_unknown}

-- the block that has a label
pub record HasBlock (f : Function) (label : ℕ) : Type 0 where
  pub block : Block
  pub there : slice_get f.blocks (position_of f label) ≡ Some block
  pub is_label : block.label ≡ label

module _ (m : Module) (func : ℕ) (f : Function) (once : first_twice [] (locals_of func f) ≡ None) (known : first_unknown m func f ≡ None) where
  labels_in : (p : Place) (x : Part) → names_unknown m (is_value func f) (is_label func f) p x ≡ false → list_all (is_label func f) (part_labels x) ≡ true
  labels_in p x e =
      let all = holds (list_all (knows_type m) (part_types x) && (list_all (knows_operand m (is_value func f)) (part_operands x) && (list_all (is_label func f) (part_labels x) && knows_called m x))) e in
      let later = and_second (list_all (knows_type m) (part_types x)) (list_all (knows_operand m (is_value func f)) (part_operands x) && (list_all (is_label func f) (part_labels x) && knows_called m x)) all in
      and_first (list_all (is_label func f) (part_labels x)) (knows_called m x)
      (and_second (list_all (knows_operand m (is_value func f)) (part_operands x)) (list_all (is_label func f) (part_labels x) && knows_called m x) later)

  parts_known : HoldsOf (λ x. names_unknown m (is_value func f) (is_label func f) x.0 x.1 ≡ false) func f
  parts_known = of_parts (λ x. names_unknown m (is_value func f) (is_label func f) x.0 x.1 ≡ false) func f (none_part (names_unknown m (is_value func f) (is_label func f)) (parts_of func f) known)

  pub ending_known : (k : ℕ) (b : Block) → slice_get f.blocks k ≡ Some b → list_all (is_label func f) (ending_labels b.term) ≡ true
  ending_known k b there = labels_in (instr_place func k (length b.phis + length b.instrs)) (Ending b.term) (parts_known.blocks k b there).ending

  pub block_there : (label : ℕ) → is_label func f label ≡ true → HasBlock f label
  block_there label h =
      let x : IsAt (λ (b : Block). b.label == label) f.blocks = at_any (λ (b : Block). b.label == label) f.blocks (sym (label_defined label func f) ∙ h) in
      let same : x.element.label ≡ label = eq_from x.element.label label x.passes in
      let at : position_of f label ≡ x.index = ap (position_of f) (sym same) ∙ own_label func f once x.index x.element x.got in
      record { block = x.element; there = ap (slice_get f.blocks) at ∙ x.got; is_label = same }

  all_listed : (labels : List ℕ) (label : ℕ) → list_all (is_label func f) labels ≡ true → IsListed label labels → is_label func f label ≡ true
  all_listed [] label h l = absurd l
  all_listed (t ∷ labels) label h (inl e) = ap (is_label func f) e ∙ and_first (is_label func f t) (list_all (is_label func f) labels) h
  all_listed (t ∷ labels) label h (inr l) = all_listed labels label (and_second (is_label func f t) (list_all (is_label func f) labels) h) l

  -- the block to which an edge leads
  pub target_there : (k : ℕ) (b : Block) (label : ℕ) → slice_get f.blocks k ≡ Some b → IsListed label (targets b.term) → HasBlock f label
  target_there k b label there l = block_there label (all_listed (ending_labels b.term) label (ending_known k b there) (subst (IsListed label) (sym (labels_spelt b.term)) l))

  from_listed : (is : List Incoming) (j : ℕ) (i : Incoming) → slice_get is j ≡ Some i → IsListed i.from (map (λ (x : Incoming). x.from) is)
  from_listed [] j i e = absurd (cc)
  from_listed (x ∷ is) zero i e = let same : x ≡ i = cc in inl (ap (λ (y : Incoming). y.from) (sym same))
  from_listed (x ∷ is) (suc j) i e = inr (from_listed is j i e)

  -- the block from which a phi takes an operand
  pub incoming_there : (k : ℕ) (b : Block) (n : ℕ) (p : Phi) (j : ℕ) (i : Incoming) → slice_get f.blocks k ≡ Some b → slice_get b.phis n ≡ Some p → slice_get p.incoming j ≡ Some i → HasBlock f i.from
  incoming_there k b n p j i there stands got =
      block_there i.from (all_listed (map (λ (x : Incoming). x.from) p.incoming) i.from (labels_in (instr_place func k n) (OfPhi p) ((parts_known.blocks k b there).phis n p stands)) (from_listed p.incoming j i got))
