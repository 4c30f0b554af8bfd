-- Markers of coroutine slots (rule K8), where begin gets a name and where uses are renamed.
use Rattle.std.proofs.Common.{◌≡◌, ℕ, Bool, true, false, List, [], ◌∷◌, length, refl, sym, ap, ◌∙◌, subst}
use Rattle.std.specs.Prelude.{IsTrue, None, if◌then◌else◌, ◌||◌}
use Rattle.pass_early_proof.proofs.early.begin_naming.NamedSlots.{facts_same as named_facts}
use Rattle.rule_laws.proofs.ir_laws.facts.Truth.{itself}
use Rattle.pass_early_proof.proofs.early.renaming.Parts.{call_of_same, call_operand_same, points_where_same}
use Rattle.pass_early_proof.proofs.early.renaming.Slots.{facts_same as renamed_facts}
use Rattle.pass_early_proof.specs.early.renaming.Passes.{renamed_coroutine}
use Rattle.pass_early_proof.specs.early.renaming.Regular.{IsMark, IsRegular}
use Rattle.pass_early.specs.BeginName.{begin_named, named_instr}
use Rattle.pass_early.specs.Renaming.{is_renamed, renamed, renamed_instr}
use Rattle.pass_early.specs.declared.renaming.Renaming.{Renaming}
use Rattle.pass_early_proof.proofs.early.path_rules.Marked.{NoneMarked, closed_back, slot_back}
use Rattle.pass_early_proof.proofs.early.path_rules.NamedCalls.{all_allocas_named}
use Rattle.pass_early_proof.proofs.early.path_rules.NamedWindows.{alike_named}
use Rattle.pass_early_proof.proofs.early.path_rules.Outside.{instr_was}
use Rattle.pass_early_proof.proofs.early.path_rules.RenamedPromise.{allocas_same}
use Rattle.pass_early_proof.proofs.early.path_rules.Windows.{alike_renamed}
use Rattle.rule_laws.proofs.ir_laws.paths.path_rules.Windows.{is_save}
use Rattle.pass_early_proof.proofs.early.source_rules.Naming.{call_same, operand_same, points_same, stood}
use Rattle.ir_model.specs.Calls.{first_result}
use Rattle.ir_model.specs.declared.instr.Instr.{Instr}
use Rattle.ir_model.specs.declared.module.Function.{Function}
use Rattle.ir_model.specs.declared.operand.Arg.{Arg}
use Rattle.ir_model.specs.declared.operand.Callee.{Callee}
use Rattle.ir_model.specs.declared.operand.Intrinsic.{Intrinsic}
use Rattle.ir_model.specs.declared.operand.Operand.{Operand}
use Rattle.rule_laws.proofs.ir_paths.Search.{or_left, or_right}
use Rattle.rule_laws.specs.ir_paths.Slots.{has_name, is_in_args}
use Rattle.rule_laws.specs.ir_paths.Windows.{call_operand, is_call_of, operand_at}
use Rattle.rule_laws.specs.rule_slots.Marked.{is_marker}
use Rattle.rule_laws.specs.rule_slots.Slots.{NamesSlot}
use Rattle.rule_laws.specs.ir_laws.facts.sound_states.Named.{HasNamedOperands}
use Rattle.ir_model.specs.Names.{is_local}

-- ---- where uses are renamed

module _ (r : Renaming) where
  value_kept : (x : Operand) → ((v : ℕ) → is_local v x ≡ true → is_renamed r v ≡ false) → renamed r x ≡ x
  value_kept (Operand.Local v) h = ap (λ (b : Bool). Operand.Local (if b then r.to else v)) (h v (itself v))
  value_kept (Operand.Global n) h = refl
  value_kept (Operand.Number z) h = refl
  value_kept Operand.True h = refl
  value_kept Operand.False h = refl
  value_kept Operand.Null h = refl
  value_kept Operand.None h = refl
  value_kept Operand.Poison h = refl

  second_kept : (args : List Arg) → ((v : ℕ) → IsTrue (is_in_args v args) → is_renamed r v ≡ false) → renamed r (operand_at args 1) ≡ operand_at args 1
  second_kept [] h = refl
  second_kept (a ∷ []) h = refl
  second_kept (a ∷ b ∷ args) h = value_kept b.value (λ v e. h v (or_right (is_local v a.value) (is_in_args v (b ∷ args)) (or_left (is_local v b.value) (is_in_args v args) e)))

  marker_kept : (i : Instr) → is_marker i ≡ true → IsMark r i → renamed r (call_operand i 1) ≡ call_operand i 1
  marker_kept (Instr.Call result must_tail ty (Callee.Intrinsic Intrinsic.LifetimeStart) args) e h = second_kept args (h refl)
  marker_kept (Instr.Call result must_tail ty (Callee.Intrinsic Intrinsic.LifetimeEnd) args) e h = second_kept args (h refl)
  marker_kept _ e h = absurd (cc)

  module _ (f : Function) (ok : IsRegular f r) where
    pub marked_renamed : NoneMarked f → NoneMarked (renamed_coroutine r f)
    marked_renamed h = record {
      each = λ p y e marks slot closed.
          let was = instr_was r f p y e in
          let i : Instr = was.0 in
          let same : is_marker (renamed_instr r i) ≡ is_marker i = (λ k. call_of_same r Intrinsic.LifetimeStart i k || call_of_same r Intrinsic.LifetimeEnd i k) in
          let marker : is_marker i ≡ true = sym same ∙ ap is_marker (sym was.1.1) ∙ marks in
          let operand : call_operand y 1 ≡ call_operand i 1 = ap (λ (x : Instr). call_operand x 1) was.1.1 ∙ call_operand_same r i 1 ∙ marker_kept i marker (ok.marks p i was.1.0) in
          h.each p i was.1.0 marker
          (slot_back f (renamed_coroutine r f) (λ a. ap (λ (vs : List ℕ). has_name vs a) (allocas_same r 0 f ok f.blocks)) (λ a. ap (λ x. has_name x.ramp_slots a) (renamed_facts r f ok)) (call_operand i 1) (subst (NamesSlot (renamed_coroutine r f)) operand slot))
          (closed_back f (renamed_coroutine r f) (alike_renamed r f ok) (points_where_same r (is_call_of Intrinsic.CoroEnd) (is_call_of Intrinsic.CoroEnd) (call_of_same r Intrinsic.CoroEnd) f) (points_where_same r is_save is_save (call_of_same r Intrinsic.CoroSave) f) p closed);
    }

-- ---- where begin gets a name

module _ (f : Function) (uses : HasNamedOperands f) (none : first_result Intrinsic.CoroBegin f ≡ None) where
  abbrev n : ℕ
  n = length f.names

  pub marked_named : NoneMarked f → NoneMarked (begin_named f)
  marked_named h = record {
    each = λ p y e marks slot closed.
        let was = stood f p y e in
        let i : Instr = was.old in
        let same : is_marker (named_instr n i) ≡ is_marker i = (λ k. call_same n Intrinsic.LifetimeStart i k || call_same n Intrinsic.LifetimeEnd i k) in
        let operand : call_operand y 1 ≡ call_operand i 1 = ap (λ (x : Instr). call_operand x 1) was.is ∙ operand_same n i 1 in
        h.each p i was.stands (sym same ∙ ap is_marker (sym was.is) ∙ marks)
        (slot_back f (begin_named f) (λ a. ap (λ (vs : List ℕ). has_name vs a) (all_allocas_named n f.blocks)) (λ a. ap (λ x. has_name x.ramp_slots a) (named_facts f uses none)) (call_operand i 1) (subst (NamesSlot (begin_named f)) operand slot))
        (closed_back f (begin_named f) (alike_named f) (points_same f (is_call_of Intrinsic.CoroEnd) (is_call_of Intrinsic.CoroEnd) (call_same n Intrinsic.CoroEnd)) (points_same f is_save is_save (call_same n Intrinsic.CoroSave)) p closed);
  }
