-- What cells ask holds of the values that cross suspends and of the slots of a class, where edges have blocks.
use Rattle.std.proofs.Common.{◌≡◌, ◌⊎◌, inl, inr, ⊎_elim, ℕ, zero, suc, ◌+◌, Bool, true, false, List, [], ◌∷◌, length, refl, sym, ap, ◌∙◌, subst}
use Rattle.std.specs.List.{list_all}
use Rattle.std.specs.Prelude.{None, Option, not, replicate, slice_get, slice_set, if◌then◌else◌}
use Rattle.pass_exits_proof.proofs.rule_laws.frames.crossing.Asking.{lead_away, pairs_of_values}
use Rattle.pass_exits_proof.proofs.ir_laws.facts.Truth.{either}
use Rattle.pass_exits_proof.specs.cells.rules.Asked.{AreCellsFor}
use Rattle.pass_exits_proof.specs.rule_laws.rules.counted.Widths.{first_other_width, is_of_other_width}
use Rattle.pass_exits_proof.specs.ir_laws.facts.counted.Widths.{has_width}
use Rattle.pass_exits_proof.specs.rule_shape.OneOfEach.{wrong_call}
use Rattle.pass_exits_proof.specs.rule_shape.Switches.{wrong_switch}
use Rattle.pass_exits_proof.specs.frame_contents.declared.contents.Contents.{Contents}
use Rattle.pass_exits_proof.proofs.ir_laws.facts.Lists.{set_other}
use Rattle.pass_exits_proof.proofs.edges.paths.Slots.{same_allocas}
use Rattle.pass_exits_proof.proofs.edges.paths.Blocks.{own_number}
use Rattle.pass_exits_proof.proofs.edges.rules.Carried.{Carries, carried}
use Rattle.pass_exits_proof.proofs.edges.rules.Kept.{crossing_kept, rules_kept}
use Rattle.pass_exits_proof.proofs.edges.rules.Operands.{ending_types_same}
use Rattle.pass_edges.specs.EdgeBlocks.{with_edge_blocks}
use Rattle.pass_edges.specs.Edges.{ends_in_suspend, phi_flags}
use Rattle.pass_exits_proof.specs.flow_solver.Paths.{IsListed}
use Rattle.pass_exits_proof.proofs.cells.shape.Apart.{edges_apart}
use Rattle.pass_exits_proof.specs.rule_laws.rules.function_rules.Kept.{KeepsFunctionRules}
use Rattle.ir_model.specs.Ty.{Ty}
use Rattle.ir_model.specs.declared.module.Function.{Function}
use Rattle.ir_model.specs.declared.module.Module.{Module}
use Rattle.pass_exits_proof.specs.ir_paths.Slots.{allocas_of}
use Rattle.pass_exits_proof.specs.frame_classes.declared.class.SlotClass.{SlotClass}
use Rattle.pass_frames.specs.Tables.{class_flags, is_of, with_slot, with_slots}
use Rattle.pass_exits_proof.specs.frame_crossing.Crossing.{AreCrossing}
use Rattle.pass_exits_proof.specs.frame_crossing.Values.{values_of}
use Rattle.pass_exits_proof.specs.pass_cells.Kept.{flag_or_false, is_flagged}

-- ---- flagged names are allocas

set_flag : (flags : List Bool) (n v : ℕ) → is_flagged (slice_set flags n true) v ≡ true → (is_flagged flags v ≡ true) ⊎ (n ≡ v)
set_flag flags n v e = ⊎_elim (λ s. inr s) (λ ne. inl (ap flag_or_false (sym (set_other flags n v true ne)) ∙ e)) (either n v)

slot_flag : (class : SlotClass) (found : Option SlotClass) (slot : ℕ) (flags : List Bool) (v : ℕ) → is_flagged (with_slot class found slot flags) v ≡ true → (is_flagged flags v ≡ true) ⊎ (slot ≡ v)
slot_flag class found slot flags v = on (is_of class found)
  where
    on : (b : Bool) → is_flagged (if b then slice_set flags slot true else flags) v ≡ true → (is_flagged flags v ≡ true) ⊎ (slot ≡ v)
    on true e = set_flag flags slot v e
    on false e = inl e

slots_flag : (class : SlotClass) (classes : List SlotClass) (k : ℕ) (slots : List ℕ) (flags : List Bool) (v : ℕ) → is_flagged (with_slots class classes k slots flags) v ≡ true → (is_flagged flags v ≡ true) ⊎ IsListed v slots
slots_flag class classes k [] flags v e = inl e
slots_flag class classes k (s ∷ ss) flags v e =
    ⊎_elim (λ a. ⊎_elim (λ f. inl f) (λ same. inr (inl (sym same))) (slot_flag class (slice_get classes k) s flags v a)) (λ l. inr (inr l))
    (slots_flag class classes (k + 1) ss (with_slot class (slice_get classes k) s flags) v e)

unflagged : (count v : ℕ) → is_flagged (replicate count false) v ≡ false
unflagged zero v = refl
unflagged (suc n) zero = refl
unflagged (suc n) (suc v) = unflagged n v

pub flags_are_allocas : (f : Function) (classes : List SlotClass) (class : SlotClass) (v : ℕ) → is_flagged (class_flags f classes class) v ≡ true → IsListed v (allocas_of f)
flags_are_allocas f classes class v e =
    ⊎_elim (λ h. let no : false ≡ true = sym (unflagged (length f.names) v) ∙ h in absurd (cc)) (λ l. l)
    (slots_flag class classes 0 (allocas_of f) (replicate (length f.names) false) v e)

-- ---- widths stay where edges have blocks

widths_carried : (f : Function) → Carries f is_of_other_width is_of_other_width
widths_carried f = record {
  signature = λ p e. e;
  head = λ q c. refl;
  phi = λ p q k b x there e. e;
  instr = λ p q i alike e. e;
  ending = λ p q k b there e. ap (λ (ts : List Ty). not (list_all has_width ts)) (ending_types_same (phi_flags f) (ends_in_suspend b.instrs) (own_number f k) b.term) ∙ e;
  edge = λ q k b i e there got. refl;
}

-- ---- cells

pub cells_fit : (m : Module) (k : ℕ) (f : Function) (c : Contents) → KeepsFunctionRules m k f → f.coroutine ≡ true → wrong_call k f ≡ None → wrong_switch k f ≡ None → AreCrossing f c.crossing → first_other_width k f ≡ None → AreCellsFor k (with_edge_blocks f) c.crossing (class_flags f c.classes SlotClass.Local)
cells_fit m k f c rules coroutine calls switches crossed widths =
    let E : Function = with_edge_blocks f in
    let now : AreCrossing E c.crossing = (crossing_kept m k f rules coroutine switches c.crossing).0 crossed in
    record {
      values = λ p l. pairs_of_values E (values_of E) c.crossing now p l;
      slots = λ v e. subst (λ (vs : List ℕ). IsListed v vs) (sym (same_allocas f)) (flags_are_allocas f c.classes SlotClass.Local v e);
      returns = lead_away m k E (rules_kept m k f rules) (edges_apart m k f rules coroutine calls switches);
      widths = carried f is_of_other_width is_of_other_width (widths_carried f) k widths;
    }
