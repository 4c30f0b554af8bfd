-- A coroutine that breaks none of N1, F1 and K3 keeps what blocks on edges ask of it.
use Rattle.std.proofs.Common.{◌≡◌, ℕ, zero, suc, ◌+◌, Bool, true, false, List, [], ◌∷◌, length, refl, sym, ap, ◌∙◌, subst}
use Rattle.std.specs.List.{list_all, list_any}
use Rattle.std.specs.Prelude.{ℤ, pos, negsuc, Some, None, Option, filter, map, not, option_and_then, slice_get, if◌then◌else◌, ◌&&◌, ◌||◌, ◌==◌}
use Rattle.pass_early_proof.specs.ir_base.declared.outcome.Place.{Place}
use Rattle.pass_early_proof.specs.rule_shape.Switches.{breaks_switch, end_label, is_last, is_switch_on, is_switched, is_switched_in, wrong_switch}
use Rattle.pass_early_proof.proofs.ir_laws.facts.Truth.{equal_numbers, itself, both_true, holds, was_not as fails}
use Rattle.pass_early_proof.proofs.rule_laws.rules.renamed.Switches.{none_part}
use Rattle.pass_early_proof.proofs.ir_laws.paths.renamed.Uses.{stands_in}
use Rattle.pass_early_proof.proofs.rule_laws.rules.path_rules.Holding.{of_parts}
use Rattle.pass_early_proof.proofs.rule_laws.rules.source_rules.Locals.{own_label}
use Rattle.pass_early_proof.specs.ir_laws.paths.threads.Labels.{HasNamedLabels}
use Rattle.pass_edges_proof.specs.edges.paths.Phis.{ArePhisForEdges, ComesFrom, IsForEdge}
use Rattle.pass_edges.specs.EdgeBlocks.{operand_from}
use Rattle.pass_early_proof.specs.rule_phis.Edges.{breaks_edges, differs, first_wrong_edge, fits_edges, has, incoming_labels, into_block, leads, predecessors}
use Rattle.pass_early_proof.specs.rule_phis.Operands.{same_operand, same_whole}
use Rattle.pass_edges_proof.specs.edges.states.MovedState.{HaveSwitches, KeepsEdges}
use Rattle.pass_early_proof.specs.ir_laws.facts.branches.MovedState.{IsSwitch}
use Rattle.pass_early_proof.specs.ir_parts.Locals.{locals_of}
use Rattle.pass_early_proof.specs.ir_parts.Parts.{first_part, instr_place, parts_of}
use Rattle.ir_model.specs.declared.instr.Incoming.{Incoming}
use Rattle.ir_model.specs.declared.instr.Phi.{Phi}
use Rattle.ir_model.specs.declared.module.Block.{Block}
use Rattle.ir_model.specs.declared.module.Function.{Function}
use Rattle.ir_model.specs.declared.operand.Operand.{Operand}
use Rattle.pass_early_proof.specs.ir_paths.Windows.{call_result}
use Rattle.pass_early_proof.specs.rule_names.Definitions.{first_twice}
use Rattle.pass_early_proof.proofs.rule_laws.run_step.Tables.{same_name-same}
use Rattle.pass_early_proof.specs.run_laws.changed.Changed.{Each}
use Rattle.pass_early_proof.proofs.ir_laws.facts.known_labels.Rules.{all_at, each_there, none_at}
use Rattle.pass_early_proof.proofs.rule_laws.rules.known_labels.Rules.{is_switch, labels_spelt}

-- ---- operands that are written the same are the same

same_wholes : (x y : ℤ) → same_whole x y ≡ true → x ≡ y
same_wholes (pos m) (pos n) e = ap pos (equal_numbers m n e)
same_wholes (negsuc m) (negsuc n) e = ap negsuc (equal_numbers m n e)
same_wholes (pos m) (negsuc n) e = absurd (cc)
same_wholes (negsuc m) (pos n) e = absurd (cc)

same_operands : (x y : Operand) → same_operand x y ≡ true → x ≡ y
same_operands (Operand.Local m) (Operand.Local n) e = ap Operand.Local (equal_numbers m n e)
same_operands (Operand.Global m) (Operand.Global n) e = ap Operand.Global (same_name-same m n e)
same_operands (Operand.Number m) (Operand.Number n) e = ap Operand.Number (same_wholes m n e)
same_operands Operand.True Operand.True e = refl
same_operands Operand.False Operand.False e = refl
same_operands Operand.Null Operand.Null e = refl
same_operands Operand.None Operand.None e = refl
same_operands Operand.Poison Operand.Poison e = refl
same_operands _ _ e = absurd (cc)

-- ---- phis (F1)

-- the first operand for a label is each one for it
first_is : (is : List Incoming) (n : ℕ) (j : Incoming) → slice_get is n ≡ Some j → differs is j ≡ false → operand_from is j.from ≡ Some j.value
first_is [] n j e d = absurd (cc)
first_is (i ∷ is) n j e d = on (i.from == j.from) refl n e d (λ k got. first_is is k j got)
  where
    on : (b : Bool) → (i.from == j.from) ≡ b → (n : ℕ) → slice_get (i ∷ is) n ≡ Some j → (if b then not (same_operand i.value j.value) else differs is j) ≡ false → ((k : ℕ) → slice_get is k ≡ Some j → differs is j ≡ false → operand_from is j.from ≡ Some j.value) → (if b then Some i.value else operand_from is j.from) ≡ Some j.value
    on true s n g k rest = ap Some (same_operands i.value j.value (holds (same_operand i.value j.value) k))
    on false s zero g k rest =
        let one : i ≡ j = cc in
        let t : true ≡ false = sym (itself i.from) ∙ ap (λ (x : Incoming). i.from == x.from) one ∙ s in
        absurd (cc)
    on false s (suc n) g k rest = rest n g k

-- a block with the label, from which an edge leads
record IsSource (label from : ℕ) (bs : List Block) : Type 0 where
  at : ℕ
  block : Block
  got : slice_get bs at ≡ Some block
  is_label : block.label ≡ from
  leads : leads label block ≡ true

source_in : (label from : ℕ) (bs : List Block) → has (map (λ b. b.label) (filter (leads label) bs)) from ≡ true → IsSource label from bs
source_in label from [] h = absurd (cc)
source_in label from (b ∷ bs) h = on (leads label b) refl h (source_in label from bs)
  where
    later : IsSource label from bs → IsSource label from (b ∷ bs)
    later x = record { at = suc x.at; block = x.block; got = x.got; is_label = x.is_label; leads = x.leads }

    either : leads label b ≡ true → (t : Bool) → (b.label == from) ≡ t → (t || has (map (λ b. b.label) (filter (leads label) bs)) from) ≡ true → (has (map (λ b. b.label) (filter (leads label) bs)) from ≡ true → IsSource label from bs) → IsSource label from (b ∷ bs)
    either k true s l rest = record { at = 0; block = b; got = refl; is_label = equal_numbers b.label from s; leads = k }
    either k false s l rest = later (rest l)

    on : (t : Bool) → leads label b ≡ t → has (map (λ b. b.label) (if t then b ∷ filter (leads label) bs else filter (leads label) bs)) from ≡ true → (has (map (λ b. b.label) (filter (leads label) bs)) from ≡ true → IsSource label from bs) → IsSource label from (b ∷ bs)
    on true k l rest = either k (b.label == from) refl l rest
    on false k l rest = later (rest l)

label_at : (is : List Incoming) (n : ℕ) (i : Incoming) → slice_get is n ≡ Some i → slice_get (incoming_labels is) n ≡ Some i.from
label_at [] n i e = absurd (cc)
label_at (x ∷ is) zero i e = let same : x ≡ i = cc in ap (λ (y : Incoming). Some y.from) same
label_at (x ∷ is) (suc n) i e = label_at is n i e

module _ (f : Function) where
  comes_from : (label from : ℕ) → has (predecessors f label) from ≡ true → ComesFrom f from label
  comes_from label from h =
      let x = source_in label from f.blocks h in
      record { at = x.at; block = x.block; got = x.got; is_label = x.is_label; leads = sym (ap (λ (ls : List ℕ). has ls label) (labels_spelt x.block.term)) ∙ x.leads }

  phi_for_edges : (label : ℕ) (p : Phi) → fits_edges (predecessors f label) p.incoming ≡ true → Each (IsForEdge f label p) p.incoming
  phi_for_edges label p h =
      let later = (both_true (list_all (has (incoming_labels p.incoming)) (predecessors f label)) (list_all (has (predecessors f label)) (incoming_labels p.incoming) && not (list_any (differs p.incoming) p.incoming)) h).1 in
      let both = both_true (list_all (has (predecessors f label)) (incoming_labels p.incoming)) (not (list_any (differs p.incoming) p.incoming)) later in
      each_there (IsForEdge f label p) p.incoming
      (λ n i e. record {
        comes = comes_from label i.from (all_at (has (predecessors f label)) (incoming_labels p.incoming) n i.from both.0 (label_at p.incoming n i e));
        first = first_is p.incoming n i e (none_at (differs p.incoming) p.incoming n i (fails (list_any (differs p.incoming) p.incoming) both.1) e);
      })

  phis_for_edges : (func : ℕ) → first_wrong_edge func f ≡ None → ArePhisForEdges f
  phis_for_edges func e =
      let parts = of_parts (λ x. breaks_edges f x.0 x.1 ≡ false) func f (none_part (breaks_edges f) (parts_of func f) e) in
      each_there (λ (b : Block). Each (λ (p : Phi). Each (IsForEdge f b.label p) p.incoming) b.phis) f.blocks
      (λ k b there. each_there (λ (p : Phi). Each (IsForEdge f b.label p) p.incoming) b.phis
      (λ j p stands. phi_for_edges b.label p
      (subst (λ (o : Option Block). fits_edges (into_block (predecessors f) o) p.incoming ≡ true) there
      (holds (fits_edges (into_block (predecessors f) (slice_get f.blocks k)) p.incoming) ((parts.blocks k b there).phis j p stands)))))

module _ (func : ℕ) (f : Function) (coroutine : f.coroutine ≡ true) (switches : wrong_switch func f ≡ None) where
  by_result : (place : Place) (o : Option ℕ) (k : ℕ) (b : Block) → place.block ≡ Some k → slice_get f.blocks k ≡ Some b → is_switched f place o ≡ true → IsSwitch b.term
  by_result place None k b in_block there h = absurd (cc)
  by_result place (Some v) k b in_block there h =
      let now : is_switched_in f v place (Some b) ≡ true = sym (ap (λ (o : Option ℕ). is_switched_in f v place (option_and_then (slice_get f.blocks) o)) in_block ∙ ap (is_switched_in f v place) there) ∙ h in
      let first = both_true (is_last b place.instr) _ now in
      let second = both_true (is_switch_on v (end_label f) b.term) _ first.1 in
      is_switch v (end_label f) b.term second.0

  have_switches : HaveSwitches f
  have_switches p b i e is there =
      let none : first_part (breaks_switch f) (parts_of func f) ≡ None = subst (λ (c : Bool). (if c then first_part (breaks_switch f) (parts_of func f) else None) ≡ None) coroutine switches in
      let parts = of_parts (λ x. breaks_switch f x.0 x.1 ≡ false) func f (none_part (breaks_switch f) (parts_of func f) none) in
      let x = stands_in f p i e in
      let own = (parts.blocks p.block x.block x.got).instrs p.at i x.stands in
      let switched : not (is_switched f (instr_place func p.block (length x.block.phis + p.at)) (call_result i)) ≡ false = sym (ap (λ (t : Bool). t && not (is_switched f (instr_place func p.block (length x.block.phis + p.at)) (call_result i))) is) ∙ own in
      by_result (instr_place func p.block (length x.block.phis + p.at)) (call_result i) p.block b refl there (holds (is_switched f (instr_place func p.block (length x.block.phis + p.at)) (call_result i)) switched)

-- ---- coroutines

pub rules_kept : (func : ℕ) (f : Function) → f.coroutine ≡ true → HasNamedLabels f → first_twice [] (locals_of func f) ≡ None → first_wrong_edge func f ≡ None → wrong_switch func f ≡ None → KeepsEdges f
rules_kept func f coroutine labels once edges switches = record {
  labels = labels;
  once = own_label func f once;
  phis = phis_for_edges f func edges;
  switches = have_switches func f coroutine switches;
}
