-- Phis and edges of a renumbered function (rule F1): the blocks from which edges lead to a label are those they were.
use Rattle.std.proofs.Common.{◌≡◌, ℕ, Bool, List, [], ◌∷◌, refl, ap, ◌∙◌, cond, Option, Some, None}
use Rattle.std.proofs.lemmas.Option.{slice_get-map}
use Rattle.std.specs.List.{list_all, list_any}
use Rattle.std.specs.Prelude.{false, filter, if◌then◌else◌, map, not, option_map, true, ◌&&◌, ◌==◌}
use Rattle.ir_laws.specs.ir_base.declared.name.Name.{Name}
use Rattle.ir_laws.specs.ir_base.declared.outcome.Place.{Place}
use Rattle.rule_phis.specs.Edges.{block_at, breaks_edges, differs, first_wrong_edge, fits_edges, has, incoming_labels, into_block, is_empty, is_entry, leads, predecessors}
use Rattle.rule_phis.specs.Operands.{same_operand}
use Rattle.ir_laws.proofs.facts.Lists.{any_same, all_changed}
use Rattle.ir_parts.specs.Contents.{ending_labels}
use Rattle.ir_parts.specs.Parts.{Ending, Head, OfInstr, OfPhi, Part, Signature}
use Rattle.ir_laws.specs.ir_model.declared.instr.Incoming.{Incoming}
use Rattle.ir_laws.specs.ir_model.declared.module.Block.{Block}
use Rattle.ir_laws.specs.ir_model.declared.module.Function.{Function}
use Rattle.ir_laws.specs.ir_model.declared.operand.Operand.{Operand}
use Rattle.rule_laws.proofs.rules.order_rules.Contents.{ending_labels_over, incoming_labels_over}
use Rattle.rule_laws.proofs.rules.order_rules.Parts.{first_of_parts, renumbered_part}
use Rattle.ir_laws.proofs.facts.Renumbering.{equal_same}
use Rattle.ir_laws.specs.facts.order_rules.Renumbered.{StaysApart, renumbered_block, renumbered_function, renumbered_incoming, renumbered_operand}

module _ (to : ℕ → ℕ) (apart : StaysApart to) where
  has_over : (ns : List ℕ) (n : ℕ) → has (map to ns) (to n) ≡ has ns n
  has_over ns n = any_same to (λ (k : ℕ). k == to n) (λ (k : ℕ). k == n) (λ k. equal_same to apart k n) ns

  leads_over : (label : ℕ) (b : Block) → leads (to label) (renumbered_block to b) ≡ leads label b
  leads_over label b = ap (λ (ns : List ℕ). has ns (to label)) (ending_labels_over to b.term) ∙ has_over (ending_labels b.term) label

  sources_over : (label : ℕ) (bs : List Block) → map (λ b. b.label) (filter (leads (to label)) (map (renumbered_block to) bs)) ≡ map to (map (λ b. b.label) (filter (leads label) bs))
  sources_over label [] = refl
  sources_over label (b ∷ bs) =
      ap (λ (c : Bool). map (λ x. x.label) (cond c (renumbered_block to b ∷ filter (leads (to label)) (map (renumbered_block to) bs)) (filter (leads (to label)) (map (renumbered_block to) bs)))) (leads_over label b)
      ∙ on (leads label b) (sources_over label bs)
    where
      on : (c : Bool) → map (λ b. b.label) (filter (leads (to label)) (map (renumbered_block to) bs)) ≡ map to (map (λ b. b.label) (filter (leads label) bs)) → map (λ x. x.label) (cond c (renumbered_block to b ∷ filter (leads (to label)) (map (renumbered_block to) bs)) (filter (leads (to label)) (map (renumbered_block to) bs))) ≡ map to (map (λ x. x.label) (cond c (b ∷ filter (leads label) bs) (filter (leads label) bs)))
      on true e = ap (λ (ns : List ℕ). to b.label ∷ ns) e
      on false e = e

  -- ---- phis

  operand_over : (x y : Operand) → same_operand (renumbered_operand to x) (renumbered_operand to y) ≡ same_operand x y
  operand_over (Operand.Local a) (Operand.Local b) = equal_same to apart a b
  operand_over (Operand.Local a) (Operand.Global n) = refl
  operand_over (Operand.Local a) (Operand.Number z) = refl
  operand_over (Operand.Local a) Operand.True = refl
  operand_over (Operand.Local a) Operand.False = refl
  operand_over (Operand.Local a) Operand.Null = refl
  operand_over (Operand.Local a) Operand.None = refl
  operand_over (Operand.Local a) Operand.Poison = refl
  operand_over (Operand.Global n) (Operand.Local b) = refl
  operand_over (Operand.Number z) (Operand.Local b) = refl
  operand_over Operand.True (Operand.Local b) = refl
  operand_over Operand.False (Operand.Local b) = refl
  operand_over Operand.Null (Operand.Local b) = refl
  operand_over Operand.None (Operand.Local b) = refl
  operand_over Operand.Poison (Operand.Local b) = refl
  operand_over _ _ = refl

  differs_over : (is : List Incoming) (j : Incoming) → differs (map (renumbered_incoming to) is) (renumbered_incoming to j) ≡ differs is j
  differs_over [] j = refl
  differs_over (x ∷ is) j = λ i. if equal_same to apart x.from j.from i then not (operand_over x.value j.value i) else differs_over is j i

  edges_over : (labels : List ℕ) (is : List Incoming) → fits_edges (map to labels) (map (renumbered_incoming to) is) ≡ fits_edges labels is
  edges_over labels is =
      let all : list_all (has (incoming_labels (map (renumbered_incoming to) is))) (map to labels) ≡ list_all (has (incoming_labels is)) labels =
      ap (λ (ns : List ℕ). list_all (has ns) (map to labels)) (incoming_labels_over to is)
      ∙ all_changed (has (map to (incoming_labels is))) (has (incoming_labels is)) to (has_over (incoming_labels is)) labels in
      let back : list_all (has (map to labels)) (incoming_labels (map (renumbered_incoming to) is)) ≡ list_all (has labels) (incoming_labels is) =
      ap (list_all (has (map to labels))) (incoming_labels_over to is) ∙ all_changed (has (map to labels)) (has labels) to (has_over labels) (incoming_labels is) in
      let twice : list_any (differs (map (renumbered_incoming to) is)) (map (renumbered_incoming to) is) ≡ list_any (differs is) is =
      any_same (renumbered_incoming to) (differs (map (renumbered_incoming to) is)) (differs is) (differs_over is) is in
      λ i. all i && (back i && not (twice i))

  -- ---- the rule

  module _ (names : List Name) (k : ℕ) (f : Function) where
    abbrev g : Function
    g = renumbered_function to names f

    empty_same : (ns : List ℕ) → is_empty (map to ns) ≡ is_empty ns
    empty_same [] = refl
    empty_same (n ∷ ns) = refl

    into_over : (o : Option Block) → into_block (predecessors g) (option_map (renumbered_block to) o) ≡ map to (into_block (predecessors f) o)
    into_over None = refl
    into_over (Some b) = sources_over b.label f.blocks

    there_same : (o : Option ℕ) → block_at g o ≡ option_map (renumbered_block to) (block_at f o)
    there_same None = refl
    there_same (Some block) = slice_get-map (renumbered_block to) f.blocks block

    breaks_over : (p : Place) (x : Part) → breaks_edges g p (renumbered_part to names x) ≡ breaks_edges f p x
    breaks_over p (Signature y) = refl
    breaks_over p (Head b) = ap (λ (e : Bool). is_entry p.block && not e) (ap is_empty (sources_over b.label f.blocks) ∙ empty_same (predecessors f b.label))
    breaks_over p (OfPhi x) =
        ap not
        (ap (λ (ns : List ℕ). fits_edges ns (map (renumbered_incoming to) x.incoming)) (ap (into_block (predecessors g)) (there_same p.block) ∙ into_over (block_at f p.block))
        ∙ edges_over (into_block (predecessors f) (block_at f p.block)) x.incoming)
    breaks_over p (OfInstr x) = refl
    breaks_over p (Ending t) = refl

    pub edges_same : first_wrong_edge k g ≡ first_wrong_edge k f
    edges_same = first_of_parts to names k f (breaks_edges f) (breaks_edges g) breaks_over
