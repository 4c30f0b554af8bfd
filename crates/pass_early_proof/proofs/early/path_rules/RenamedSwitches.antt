-- The switches of suspends of a renamed function: rule K3.
use Rattle.std.proofs.Common.{◌≡◌, ℕ, ◌+◌, Bool, true, false, length, refl, sym, ap, ◌∙◌, subst}
use Rattle.std.specs.Prelude.{Some, None, Option, nat_le, not, option_map, slice_get, if◌then◌else◌, ◌==◌, ◌&&◌}
use Rattle.rule_laws.specs.ir_base.declared.outcome.Place.{Place}
use Rattle.rule_laws.specs.rule_shape.Places.{is_the}
use Rattle.rule_laws.specs.rule_shape.Switches.{are_both, breaks_switch, end_label, is_last, is_switch_on, is_switched, is_switched_in, wrong_switch}
use Rattle.rule_laws.specs.rule_shape.Uses.{uses_of}
use Rattle.run_states.proofs.renamed.Modules.{length_same}
use Rattle.pass_early_proof.proofs.early.renaming.Parts.{block_same, call_of_same, end_same, result_same}
use Rattle.pass_early_proof.proofs.early.renaming.Simulation.{other_call}
use Rattle.pass_early_proof.proofs.early.renaming.Slots.{plain_result}
use Rattle.rule_laws.proofs.rules.renamed.Switches.{none_part}
use Rattle.pass_early_proof.specs.early.renaming.Passes.{renamed_block, renamed_coroutine}
use Rattle.pass_early_proof.specs.early.renaming.Regular.{IsPlain, IsRegular}
use Rattle.pass_early.specs.Renaming.{is_renamed, renamed, renamed_instr, renamed_phi, renamed_term}
use Rattle.pass_early.specs.declared.renaming.Renaming.{Renaming}
use Rattle.rule_laws.proofs.rules.path_rules.Holding.{HoldsIn, of_parts, part_none, to_parts}
use Rattle.pass_early_proof.proofs.early.path_rules.RenamedOperands.{local_stays, map_was, uses_renamed}
use Rattle.rule_laws.proofs.ir_laws.facts.Truth.{both_true, both_stay}
use Rattle.pass_early_proof.proofs.early.path_rules.SavedSwitches.{no_switch_breaks}
use Rattle.rule_laws.specs.ir_parts.Parts.{Part, OfInstr, first_part, instr_place, parts_of}
use Rattle.ir_model.specs.Names.{is_local}
use Rattle.ir_model.specs.declared.instr.Instr.{Instr}
use Rattle.ir_model.specs.declared.instr.Terminator.{Terminator}
use Rattle.ir_model.specs.declared.module.Block.{Block}
use Rattle.ir_model.specs.declared.module.Function.{Function}
use Rattle.ir_model.specs.declared.operand.Intrinsic.{Intrinsic}
use Rattle.rule_laws.specs.ir_paths.Windows.{call_result, end_block, instr_in, is_call_of}
use Rattle.rule_laws.specs.run_laws.changed.Changed.{result_of}
use Rattle.pass_early_proof.proofs.early.path_rules.RenamedCalls.{call_result_is}

module _ (r : Renaming) (func : ℕ) (f : Function) (coroutine : f.coroutine ≡ true) (ok : IsRegular f r) where
  abbrev g : Function
  g = renamed_coroutine r f

  end_label_same : end_label g ≡ end_label f
  end_label_same =
      ap (λ (m : ℕ). option_map (λ (b : Block). b.label) (slice_get g.blocks m)) (end_same r f)
      ∙ ap (option_map (λ (b : Block). b.label)) (block_same r f (end_block f))
      ∙ on (slice_get f.blocks (end_block f))
    where
      on : (o : Option Block) → option_map (λ (b : Block). b.label) (option_map (renamed_block r) o) ≡ option_map (λ (b : Block). b.label) o
      on None = refl
      on (Some b) = refl

  switch_stays : (v : ℕ) (end : Option ℕ) (t : Terminator) → is_renamed r v ≡ false → is_switch_on v end t ≡ true → is_switch_on v end (renamed_term r t) ≡ true
  switch_stays v end (Terminator.Switch arg default cases) stays e =
      both_stay (is_local v arg.value) (are_both cases && is_the end default) (is_local v (renamed r arg.value)) (are_both cases && is_the end default) (local_stays r v arg.value stays) (λ h. h) e
  switch_stays v end _ stays e = absurd (cc)

  last_same : (b : Block) (at : ℕ) → is_last (renamed_block r b) (Some at) ≡ is_last b (Some at)
  last_same b at = λ k. at + 1 == length_same (renamed_phi r) b.phis k + length_same (renamed_instr r) b.instrs k

  switched_then : (k at : ℕ) (b : Block) (v : ℕ) → slice_get f.blocks k ≡ Some b → IsPlain r v → is_switched f (instr_place func k at) (Some v) ≡ true → is_switched g (instr_place func k at) (Some v) ≡ true
  switched_then k at b v e plain s =
      let was : is_switched_in f v (instr_place func k at) (Some b) ≡ true = ap (is_switched_in f v (instr_place func k at)) (sym e) ∙ s in
      let two = both_true (is_last b (Some at)) (is_switch_on v (end_label f) b.term && nat_le (uses_of f v) 1) was in
      let three = both_true (is_switch_on v (end_label f) b.term) (nat_le (uses_of f v) 1) two.1 in
      ap (is_switched_in g v (instr_place func k at)) (block_same r f k ∙ ap (option_map (renamed_block r)) e)
      ∙ (λ i. (last_same b at ∙ two.0) i && (is_switch_on v (end_label_same i) (renamed_term r b.term) && nat_le (uses_renamed r v plain f i) 1))
      ∙ (λ i. switch_stays v (end_label f) b.term plain.stays three.0 i && three.1 i)

  abbrev Switched : Function → Place × Part → Type 0
  Switched h x = breaks_switch h x.0 x.1 ≡ false

  instr_switched : (k j at : ℕ) (b : Block) (i : Instr) → slice_get f.blocks k ≡ Some b → slice_get b.instrs j ≡ Some i → Switched f (instr_place func k at, OfInstr i) → Switched g (instr_place func k at, OfInstr (renamed_instr r i))
  instr_switched k j at b i e d h = on (is_call_of Intrinsic.CoroSuspend i) refl
    where
      by_result : (o : Option ℕ) → is_call_of Intrinsic.CoroSuspend i ≡ true → result_of i ≡ o → is_switched f (instr_place func k at) o ≡ true → is_switched g (instr_place func k at) o ≡ true
      by_result None s q w = w
      by_result (Some v) s q w =
          switched_then k at b v e
          (plain_result r f ok (record { block = k; at = j }) i v (ap (λ (o : Option Block). instr_in o j) e ∙ d) q (other_call Intrinsic.CoroSuspend Intrinsic.CoroFrame i s refl) (other_call Intrinsic.CoroSuspend Intrinsic.CoroBegin i s refl)) w

      on : (t : Bool) → is_call_of Intrinsic.CoroSuspend i ≡ t → Switched g (instr_place func k at, OfInstr (renamed_instr r i))
      on true s =
          let was = no_switch_breaks (is_call_of Intrinsic.CoroSuspend i) (is_switched f (instr_place func k at) (call_result i)) s h in
          let now = by_result (call_result i) s (call_result_is Intrinsic.CoroSuspend i s) was in
          (λ n. (call_of_same r Intrinsic.CoroSuspend i ∙ s) n && not ((ap (is_switched g (instr_place func k at)) (result_same r i) ∙ now) n))
      on false s = ap (λ (t : Bool). t && not (is_switched g (instr_place func k at) (call_result (renamed_instr r i)))) (call_of_same r Intrinsic.CoroSuspend i ∙ s)

  pub wrong_switch_renamed : wrong_switch func f ≡ None → wrong_switch func g ≡ None
  wrong_switch_renamed e =
      let parts = of_parts (Switched f) func f (none_part (breaks_switch f) (parts_of func f) (subst (λ (b : Bool). (if b then first_part (breaks_switch f) (parts_of func f) else None) ≡ None) coroutine e)) in
      subst (λ (b : Bool). (if b then first_part (breaks_switch g) (parts_of func g) else None) ≡ None) (sym coroutine)
      (part_none (breaks_switch g) (parts_of func g) (to_parts (Switched g) func g (record {
        signature = refl;
        blocks = λ k d there.
            let x = map_was (renamed_block r) f.blocks k d there in
            subst (HoldsIn (Switched g) func k) (sym x.1.1) (record {
              head = refl;
              phis = λ j p q. refl;
              instrs = λ j y q.
                  let was = map_was (renamed_instr r) x.0.instrs j y q in
                  subst (λ (n : ℕ). Switched g (instr_place func k (n + j), OfInstr y)) (sym (length_same (renamed_phi r) x.0.phis))
                  (subst (λ (z : Instr). Switched g (instr_place func k (length x.0.phis + j), OfInstr z)) (sym was.1.1)
                  (instr_switched k j (length x.0.phis + j) x.0 was.0 x.1.0 was.1.0 ((parts.blocks k x.0 x.1.0).instrs j was.0 was.1.0)));
              ending = refl;
            });
      })))
