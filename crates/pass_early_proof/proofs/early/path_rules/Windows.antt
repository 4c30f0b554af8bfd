-- Lemmas on windows.
use Rattle.std.proofs.Common.{◌≡◌, ℕ, Bool, true, [], ◌∷◌, refl, sym, ap, ◌∙◌}
use Rattle.std.specs.Prelude.{Some, None, Option, option_and_then, option_map, ◌||◌, ◌&&◌}
use Rattle.rule_laws.specs.ir_calls.Calls.{is_final, is_true}
use Rattle.pass_early_proof.proofs.early.renaming.Parts.{call_of_same, call_operand_same, destroy_same as renamed_destroy, entry_same as renamed_entry, instr_same, local_same, nexts_same as renamed_nexts, points_where_same, resume_same as renamed_resume, result_same}
use Rattle.pass_early_proof.proofs.early.renaming.Simulation.{other_call}
use Rattle.pass_early_proof.proofs.early.renaming.Slots.{plain_result}
use Rattle.pass_early_proof.specs.early.renaming.Passes.{renamed_coroutine}
use Rattle.pass_early_proof.specs.early.renaming.Regular.{IsPlain, IsRegular}
use Rattle.pass_early.specs.Renaming.{renamed_instr}
use Rattle.pass_early.specs.declared.renaming.Renaming.{Renaming}
use Rattle.pass_early_proof.proofs.early.path_rules.Outside.{instr_was}
use Rattle.pass_early_proof.proofs.early.path_rules.RenamedCalls.{call_result_is}
use Rattle.pass_early_proof.proofs.early.path_rules.RenamedOperands.{true_stays}
use Rattle.ir_model.specs.Names.{is_local}
use Rattle.ir_model.specs.declared.instr.Instr.{Instr}
use Rattle.ir_model.specs.declared.module.Function.{Function}
use Rattle.ir_model.specs.declared.operand.Intrinsic.{Intrinsic}
use Rattle.rule_laws.specs.ir_paths.Paths.{entry_point, nexts}
use Rattle.rule_laws.specs.ir_paths.Windows.{call_operand, call_result, destroy_label, instr_at, is_suspend_of, points_where, resume_label}
use Rattle.rule_laws.specs.ir_paths.declared.point.Point.{Point}
use Rattle.rule_laws.specs.rule_windows.Windows.{ends_window, passes, suspends_of}
use Rattle.rule_laws.proofs.ir_laws.paths.path_rules.Windows.{is_save}
use Rattle.rule_laws.proofs.rules.path_rules.Windows.{IsAlike}

abbrev token_of : Function → Point → Option ℕ
token_of f k = option_and_then call_result (instr_at f k)

-- ---- where uses are renamed

module _ (r : Renaming) (f : Function) (ok : IsRegular f r) where
  abbrev g : Function
  g = renamed_coroutine r f

  ends_renamed : (i : Instr) → ends_window (renamed_instr r i) ≡ ends_window i
  ends_renamed i = λ k. call_of_same r Intrinsic.CoroSave i k || (call_of_same r Intrinsic.CoroSuspend i k || (call_of_same r Intrinsic.CoroBegin i k || (call_of_same r Intrinsic.CoroFree i k || call_of_same r Intrinsic.CoroEnd i k)))

  final_renamed : (i : Instr) → is_final (renamed_instr r i) ≡ is_final i
  final_renamed i = ap is_true (call_operand_same r i 1) ∙ true_stays r (call_operand i 1)

  passes_renamed : (t : Instr → Bool) → ((i : Instr) → t (renamed_instr r i) ≡ t i) → (p : Point) → passes t (instr_at g p) ≡ passes t (instr_at f p)
  passes_renamed t h p = ap (passes t) (instr_same r f p) ∙ on (instr_at f p)
    where
      on : (o : Option Instr) → passes t (option_map (renamed_instr r) o) ≡ passes t o
      on None = refl
      on (Some i) = h i

  PlainToken : Option ℕ → Type 0
  PlainToken None = Unit {0}
  PlainToken (Some v) = IsPlain r v

  test_renamed : (o : Option ℕ) → PlainToken o → (i : Instr) → is_suspend_of o (renamed_instr r i) ≡ is_suspend_of o i
  unfolding PlainToken
  test_renamed None h i = refl
  test_renamed (Some v) h i = λ k. call_of_same r Intrinsic.CoroSuspend i k && (ap (is_local v) (call_operand_same r i 0) ∙ local_same r v h (call_operand i 0)) k

  token_plain : (k : Point) (j : Instr) → instr_at f k ≡ Some j → is_save j ≡ true → (o : Option ℕ) → call_result j ≡ o → PlainToken o
  unfolding PlainToken
  token_plain k j e save None d = tt
  token_plain k j e save (Some v) d = plain_result r f ok k j v e (call_result_is Intrinsic.CoroSave j save ∙ d) (other_call Intrinsic.CoroSave Intrinsic.CoroFrame j save refl) (other_call Intrinsic.CoroSave Intrinsic.CoroBegin j save refl)

  suspends_renamed : (k : Point) (j : Instr) → instr_at f k ≡ Some j → is_save j ≡ true → suspends_of g k ≡ suspends_of f k
  suspends_renamed k j e save =
      ap (λ (o : Option Instr). points_where (is_suspend_of (option_and_then call_result o)) g) (instr_same r f k ∙ ap (option_map (renamed_instr r)) e)
      ∙ ap (λ (o : Option ℕ). points_where (is_suspend_of o) g) (result_same r j)
      ∙ points_where_same r (is_suspend_of (call_result j)) (is_suspend_of (call_result j)) (test_renamed (call_result j) (token_plain k j e save (call_result j) refl)) f
      ∙ sym (ap (λ (o : Option Instr). points_where (is_suspend_of (option_and_then call_result o)) f) e)

  pub alike_renamed : IsAlike f g
  alike_renamed = record {
    nexts = renamed_nexts r f;
    saves = λ k i e save. let x = instr_was r f k i e in (x.0, (x.1.0, sym (call_of_same r Intrinsic.CoroSave x.0) ∙ ap is_save (sym x.1.1) ∙ save));
    suspends = suspends_renamed;
    ends = passes_renamed ends_window ends_renamed;
    final = passes_renamed is_final final_renamed;
    edges = λ s.
        let first : entry_point g (resume_label g s) ≡ entry_point f (resume_label f s) = ap (entry_point g) (renamed_resume r f s) ∙ renamed_entry r f (resume_label f s) in
        let second : entry_point g (destroy_label g s) ≡ entry_point f (destroy_label f s) = ap (entry_point g) (renamed_destroy r f s) ∙ renamed_entry r f (destroy_label f s) in
        (λ k. first k ∷ second k ∷ []);
  }
