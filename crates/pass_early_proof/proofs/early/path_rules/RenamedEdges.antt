-- The edges of a renamed function: rule F1.
use Rattle.std.proofs.Common.{◌≡◌, ℕ, Bool, true, false, List, [], ◌∷◌, refl, sym, ap, ◌∙◌, subst}
use Rattle.std.proofs.lemmas.Option.{slice_get-map}
use Rattle.std.specs.List.{list_all, list_any}
use Rattle.std.specs.Prelude.{Some, None, Option, filter, map, not, option_map, slice_get, if◌then◌else◌, ◌&&◌, ◌==◌, ◌||◌}
use Rattle.rule_laws.specs.ir_base.declared.outcome.Place.{Place}
use Rattle.rule_laws.proofs.ir_laws.facts.Truth.{equal_numbers, itself, not_breaks}
use Rattle.rule_laws.proofs.rules.renamed.Switches.{none_part}
use Rattle.pass_early_proof.specs.early.renaming.Passes.{renamed_block, renamed_coroutine}
use Rattle.pass_early.specs.Renaming.{renamed, renamed_incoming, renamed_phi, renamed_term, renamed_value}
use Rattle.pass_early.specs.declared.renaming.Renaming.{Renaming}
use Rattle.rule_laws.proofs.rules.path_rules.Holding.{HoldsIn, of_parts, part_none, to_parts}
use Rattle.pass_early_proof.proofs.early.path_rules.RenamedOperands.{map_was}
use Rattle.rule_laws.specs.rule_phis.Edges.{breaks_edges, differs, first_wrong_edge, fits_edges, has, incoming_labels, into_block, is_empty, is_entry, leads, predecessors}
use Rattle.rule_laws.specs.rule_phis.Operands.{same_operand}
use Rattle.rule_laws.specs.ir_parts.Contents.{ending_labels}
use Rattle.rule_laws.specs.ir_parts.Parts.{Part, OfPhi, instr_place, parts_of}
use Rattle.ir_model.specs.declared.instr.Incoming.{Incoming}
use Rattle.ir_model.specs.declared.instr.Phi.{Phi}
use Rattle.ir_model.specs.declared.instr.Terminator.{Terminator}
use Rattle.ir_model.specs.declared.module.Block.{Block}
use Rattle.ir_model.specs.declared.module.Function.{Function}
use Rattle.ir_model.specs.declared.operand.Operand.{Operand}

or_false : (a b c d : Bool) → (a ≡ false → c ≡ false) → (b ≡ false → d ≡ false) → (a || b) ≡ false → (c || d) ≡ false
or_false true b c d h k e = absurd (cc)
or_false false b c d h k e = (λ i. h refl i || k e i)

and_true : (a b c : Bool) → (b ≡ true → c ≡ true) → (a && b) ≡ true → (a && c) ≡ true
and_true true b c h e = h e
and_true false b c h e = absurd (cc)

module _ (r : Renaming) where
  same_renamed : (x y : Operand) → same_operand x y ≡ true → same_operand (renamed r x) (renamed r y) ≡ true
  same_renamed (Operand.Local m) (Operand.Local n) e =
      let same : m ≡ n = equal_numbers m n e in
      ap (λ (k : ℕ). renamed_value r m == renamed_value r k) (sym same) ∙ itself (renamed_value r m)
  same_renamed (Operand.Global m) (Operand.Global n) e = e
  same_renamed (Operand.Number m) (Operand.Number n) e = e
  same_renamed Operand.True Operand.True e = refl
  same_renamed Operand.False Operand.False e = refl
  same_renamed Operand.Null Operand.Null e = refl
  same_renamed Operand.None Operand.None e = refl
  same_renamed Operand.Poison Operand.Poison e = refl
  same_renamed _ _ e = absurd (cc)

  labels_renamed : (is : List Incoming) → incoming_labels (map (renamed_incoming r) is) ≡ incoming_labels is
  labels_renamed [] = refl
  labels_renamed (i ∷ is) = ap (λ (ls : List ℕ). i.from ∷ ls) (labels_renamed is)

  differs_renamed : (is : List Incoming) (j : Incoming) → differs is j ≡ false → differs (map (renamed_incoming r) is) (renamed_incoming r j) ≡ false
  differs_renamed [] j e = refl
  differs_renamed (i ∷ is) j e = on (i.from == j.from) e (differs_renamed is j)
    where
      on : (b : Bool) → (if b then not (same_operand i.value j.value) else differs is j) ≡ false → (differs is j ≡ false → differs (map (renamed_incoming r) is) (renamed_incoming r j) ≡ false) → (if b then not (same_operand (renamed r i.value) (renamed r j.value)) else differs (map (renamed_incoming r) is) (renamed_incoming r j)) ≡ false
      on true k rest = not_breaks (same_operand i.value j.value) (same_operand (renamed r i.value) (renamed r j.value)) (same_renamed i.value j.value) k
      on false k rest = rest k

  none_differs : (all js : List Incoming) → list_any (differs all) js ≡ false → list_any (differs (map (renamed_incoming r) all)) (map (renamed_incoming r) js) ≡ false
  none_differs all [] e = refl
  none_differs all (j ∷ js) e = or_false (differs all j) (list_any (differs all) js) (differs (map (renamed_incoming r) all) (renamed_incoming r j)) (list_any (differs (map (renamed_incoming r) all)) (map (renamed_incoming r) js)) (differs_renamed all j) (none_differs all js) e

  not_true : (a b : Bool) → (a ≡ false → b ≡ false) → not a ≡ true → not b ≡ true
  not_true true b h e = absurd (cc)
  not_true false b h e = ap not (h refl)

  fits_renamed : (labels : List ℕ) (is : List Incoming) → fits_edges labels is ≡ true → fits_edges labels (map (renamed_incoming r) is) ≡ true
  fits_renamed labels is e =
      (λ k. list_all (has (labels_renamed is k)) labels && (list_all (has labels) (labels_renamed is k) && not (list_any (differs (map (renamed_incoming r) is)) (map (renamed_incoming r) is))))
      ∙ and_true (list_all (has (incoming_labels is)) labels) (list_all (has labels) (incoming_labels is) && not (list_any (differs is) is)) (list_all (has labels) (incoming_labels is) && not (list_any (differs (map (renamed_incoming r) is)) (map (renamed_incoming r) is)))
      (and_true (list_all (has labels) (incoming_labels is)) (not (list_any (differs is) is)) (not (list_any (differs (map (renamed_incoming r) is)) (map (renamed_incoming r) is)))
      (not_true (list_any (differs is) is) (list_any (differs (map (renamed_incoming r) is)) (map (renamed_incoming r) is)) (none_differs is is)))
      e

  ending_same : (t : Terminator) → ending_labels (renamed_term r t) ≡ ending_labels t
  ending_same (Terminator.Jump label) = refl
  ending_same (Terminator.Branch x a b) = refl
  ending_same (Terminator.Switch arg default cases) = refl
  ending_same (Terminator.Ret v) = refl
  ending_same Terminator.Unreachable = refl

  sources_in : (label : ℕ) (bs : List Block) → map (λ b. b.label) (filter (leads label) (map (renamed_block r) bs)) ≡ map (λ b. b.label) (filter (leads label) bs)
  sources_in label [] = refl
  sources_in label (b ∷ bs) =
      ap (λ (ls : List ℕ). map (λ b. b.label) (if has ls label then renamed_block r b ∷ filter (leads label) (map (renamed_block r) bs) else filter (leads label) (map (renamed_block r) bs))) (ending_same b.term)
      ∙ on (leads label b) (sources_in label bs)
    where
      on : (t : Bool) → map (λ b. b.label) (filter (leads label) (map (renamed_block r) bs)) ≡ map (λ b. b.label) (filter (leads label) bs) → map (λ b. b.label) (if t then renamed_block r b ∷ filter (leads label) (map (renamed_block r) bs) else filter (leads label) (map (renamed_block r) bs)) ≡ map (λ b. b.label) (if t then b ∷ filter (leads label) bs else filter (leads label) bs)
      on true again = ap (λ (ls : List ℕ). b.label ∷ ls) again
      on false again = again

module _ (r : Renaming) (func : ℕ) (f : Function) where
  abbrev g : Function
  g = renamed_coroutine r f

  sources_same : (label : ℕ) → predecessors g label ≡ predecessors f label
  sources_same label = sources_in r label f.blocks

  into_same : (k : ℕ) → into_block (predecessors g) (slice_get g.blocks k) ≡ into_block (predecessors f) (slice_get f.blocks k)
  into_same k = ap (into_block (predecessors g)) (slice_get-map (renamed_block r) f.blocks k) ∙ on (slice_get f.blocks k)
    where
      on : (o : Option Block) → into_block (predecessors g) (option_map (renamed_block r) o) ≡ into_block (predecessors f) o
      on None = refl
      on (Some b) = sources_same b.label

  abbrev Fits : Function → Place × Part → Type 0
  Fits h x = breaks_edges h x.0 x.1 ≡ false

  phi_fits : (k j : ℕ) (b : Block) (y : Phi) → slice_get (map (renamed_phi r) b.phis) j ≡ Some y → HoldsIn (Fits f) func k b → Fits g (instr_place func k j, OfPhi y)
  phi_fits k j b y e h =
      let was = map_was (renamed_phi r) b.phis j y e in
      let x : Phi = was.0 in
      ap (λ (p : Phi). not (fits_edges (into_block (predecessors g) (slice_get g.blocks k)) p.incoming)) was.1.1
      ∙ ap (λ (ls : List ℕ). not (fits_edges ls (map (renamed_incoming r) x.incoming))) (into_same k)
      ∙ not_breaks (fits_edges (into_block (predecessors f) (slice_get f.blocks k)) x.incoming) (fits_edges (into_block (predecessors f) (slice_get f.blocks k)) (map (renamed_incoming r) x.incoming))
      (fits_renamed r (into_block (predecessors f) (slice_get f.blocks k)) x.incoming) (h.phis j x was.1.0)

  block_fits : (k : ℕ) (b : Block) → HoldsIn (Fits f) func k b → HoldsIn (Fits g) func k (renamed_block r b)
  block_fits k b h = record {
    head = ap (λ (ls : List ℕ). is_entry (Some k) && not (is_empty ls)) (sources_same b.label) ∙ h.head;
    phis = λ j x e. phi_fits k j b x e h;
    instrs = λ j y e. refl;
    ending = refl;
  }

  pub wrong_edge_renamed : first_wrong_edge func f ≡ None → first_wrong_edge func g ≡ None
  wrong_edge_renamed e =
      let parts = of_parts (Fits f) func f (none_part (breaks_edges f) (parts_of func f) e) in
      part_none (breaks_edges g) (parts_of func g) (to_parts (Fits g) func g (record {
        signature = refl;
        blocks = λ k d there. let x = map_was (renamed_block r) f.blocks k d there in subst (HoldsIn (Fits g) func k) (sym x.1.1) (block_fits k x.0 (parts.blocks k x.0 x.1.0));
      }))
