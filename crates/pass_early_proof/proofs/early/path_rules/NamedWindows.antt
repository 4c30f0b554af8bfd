-- The windows of saves (rule K6), where begin gets a name.
use Rattle.std.proofs.Common.{◌≡◌, ℕ, Bool, true, [], ◌∷◌, length, refl, sym, ap, ◌∙◌}
use Rattle.std.specs.Prelude.{Some, None, Option, option_and_then, option_map, ◌||◌, ◌&&◌}
use Rattle.rule_laws.specs.ir_calls.Calls.{is_final, is_true}
use Rattle.pass_early_proof.proofs.early.renaming.Simulation.{other_call}
use Rattle.pass_early.specs.BeginName.{begin_named, named_instr}
use Rattle.rule_laws.proofs.rules.path_rules.Windows.{IsAlike}
use Rattle.rule_laws.proofs.ir_laws.paths.path_rules.Windows.{is_save}
use Rattle.pass_early_proof.proofs.early.source_rules.Naming.{call_kept, call_same, destroy_same, entry_same, instr_there, nexts_same, operand_same, points_same, resume_same, stood}
use Rattle.ir_model.specs.Names.{is_local}
use Rattle.ir_model.specs.declared.instr.Instr.{Instr}
use Rattle.ir_model.specs.declared.module.Function.{Function}
use Rattle.ir_model.specs.declared.operand.Intrinsic.{Intrinsic}
use Rattle.rule_laws.specs.ir_paths.Paths.{entry_point}
use Rattle.rule_laws.specs.ir_paths.Windows.{call_result, destroy_label, instr_at, is_suspend_of, points_where, resume_label}
use Rattle.rule_laws.specs.ir_paths.declared.point.Point.{Point}
use Rattle.rule_laws.specs.rule_windows.Windows.{ends_window, passes, suspends_of}

module _ (f : Function) where
  abbrev n : ℕ
  n = length f.names

  abbrev g : Function
  g = begin_named f

  ends_named : (i : Instr) → ends_window (named_instr n i) ≡ ends_window i
  ends_named i = λ k. call_same n Intrinsic.CoroSave i k || (call_same n Intrinsic.CoroSuspend i k || (call_same n Intrinsic.CoroBegin i k || (call_same n Intrinsic.CoroFree i k || call_same n Intrinsic.CoroEnd i k)))

  final_named : (i : Instr) → is_final (named_instr n i) ≡ is_final i
  final_named i = ap is_true (operand_same n i 1)

  passes_named : (t : Instr → Bool) → ((i : Instr) → t (named_instr n i) ≡ t i) → (p : Point) → passes t (instr_at g p) ≡ passes t (instr_at f p)
  passes_named t h p = ap (passes t) (instr_there f p) ∙ on (instr_at f p)
    where
      on : (o : Option Instr) → passes t (option_map (named_instr n) o) ≡ passes t o
      on None = refl
      on (Some i) = h i

  test_named : (o : Option ℕ) (i : Instr) → is_suspend_of o (named_instr n i) ≡ is_suspend_of o i
  test_named None i = refl
  test_named (Some v) i = λ k. call_same n Intrinsic.CoroSuspend i k && is_local v (operand_same n i 0 k)

  suspends_named : (k : Point) (j : Instr) → instr_at f k ≡ Some j → is_save j ≡ true → suspends_of g k ≡ suspends_of f k
  suspends_named k j e save =
      ap (λ (o : Option Instr). points_where (is_suspend_of (option_and_then call_result o)) g) (instr_there f k ∙ ap (option_map (named_instr n)) e)
      ∙ ap (λ (o : Option ℕ). points_where (is_suspend_of o) g) (call_kept n j (other_call Intrinsic.CoroSave Intrinsic.CoroBegin j save refl))
      ∙ points_same f (is_suspend_of (call_result j)) (is_suspend_of (call_result j)) (test_named (call_result j))
      ∙ sym (ap (λ (o : Option Instr). points_where (is_suspend_of (option_and_then call_result o)) f) e)

  pub alike_named : IsAlike f g
  alike_named = record {
    nexts = nexts_same f;
    saves = λ k i e save. let x = stood f k i e in (x.old, (x.stands, sym (call_same n Intrinsic.CoroSave x.old) ∙ ap is_save (sym x.is) ∙ save));
    suspends = suspends_named;
    ends = passes_named ends_window ends_named;
    final = passes_named is_final final_named;
    edges = λ s.
        let first : entry_point g (resume_label g s) ≡ entry_point f (resume_label f s) = ap (entry_point g) (resume_same f s) ∙ entry_same f (resume_label f s) in
        let second : entry_point g (destroy_label g s) ≡ entry_point f (destroy_label f s) = ap (entry_point g) (destroy_same f s) ∙ entry_same f (destroy_label f s) in
        (λ k. first k ∷ second k ∷ []);
  }
