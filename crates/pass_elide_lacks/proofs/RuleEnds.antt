-- Rules K1, K2 and K5 give what is asked of ends and rets.
use Rattle.std.proofs.Common.{◌≡◌, inr, ℕ, true, false, None, refl}
use Rattle.pass_elide_lacks.proofs.EndPaths.{call_there, suspend_out}
use Rattle.pass_elide_lacks.specs.Ends.{EndsBeforeRets, HasOneEnd}
use Rattle.pass_elide_meaning.specs.pass_elide_runs.Ends.{EndsOnce}
use Rattle.pass_elide_meaning.proofs.pass_elide_edges.pass_elide_proof.pass_proofs.ir_paths.Search.{or_left, or_right}
use Rattle.pass_elide_meaning.proofs.pass_elide_edges.pass_elide_proof.pass_proofs.kept.sources.Closed.{no_return, not_behind_end, save_ends, suspend_ends}
use Rattle.pass_elide_meaning.proofs.pass_elide_edges.pass_elide_proof.pass_proofs.kept.sources.Names.{StaysInside, end_inside, none_outside, save_inside, suspend_inside}
use Rattle.pass_elide_meaning.proofs.pass_elide_edges.pass_elide_proof.pass_proofs.rule_laws.rules.path_rules.Outside.{of_outside}
use Rattle.pass_elide_meaning.proofs.pass_elide_edges.pass_elide_proof.pass_proofs.rule_laws.rules.source_rules.Once.{one_end}
use Rattle.pass_elide_meaning.proofs.pass_elide_edges.pass_elide_proof.pass_proofs.rule_laws.rules.sources.Places.{instr_there}
use Rattle.pass_elide_meaning.specs.pass_elide_edges.pass_elide_proof.pass_proofs.ir_model.declared.instr.Instr.{Instr}
use Rattle.pass_elide_meaning.specs.pass_elide_edges.pass_elide_proof.pass_proofs.ir_model.declared.module.Function.{Function}
use Rattle.pass_elide_meaning.specs.pass_elide_edges.pass_elide_proof.pass_proofs.ir_model.declared.module.Module.{Module}
use Rattle.pass_elide_meaning.specs.pass_elide_edges.pass_elide_proof.pass_proofs.ir_model.declared.operand.Intrinsic.{Intrinsic}
use Rattle.pass_elide_meaning.specs.pass_elide_edges.pass_elide_proof.pass_proofs.ir_paths.Windows.{is_call_of}
use Rattle.pass_elide_meaning.specs.pass_elide_edges.pass_elide_proof.pass_proofs.ir_paths.declared.point.Point.{Point}
use Rattle.pass_elide_meaning.specs.pass_elide_edges.pass_elide_proof.pass_proofs.pass_kept_proof.SuspendRules.{IsCallAt}
use Rattle.pass_elide_meaning.specs.pass_elide_edges.pass_elide_proof.pass_proofs.rule_laws.rules.function_rules.Kept.{KeepsFunctionRules}
use Rattle.pass_elide_meaning.specs.pass_elide_edges.pass_elide_proof.pass_proofs.rule_shape.OneOfEach.{wrong_call}
use Rattle.pass_elide_meaning.specs.pass_elide_edges.pass_elide_proof.pass_proofs.rule_windows.Outside.{IsFirstOutside, ends_with_it, needs_begin}
use Rattle.pass_elide_meaning.specs.pass_elide_edges.pass_elide_proof.pass_proofs.rule_windows.Sets.{IsWithoutBegin}

suspend_needs : (i : Instr) → is_call_of Intrinsic.CoroSuspend i ≡ true → needs_begin i ≡ true
suspend_needs i is = or_right (is_call_of Intrinsic.CoroSave i) _ (or_left (is_call_of Intrinsic.CoroSuspend i) _ is)

end_ends : (i : Instr) → is_call_of Intrinsic.CoroEnd i ≡ true → ends_with_it i ≡ true
end_ends i is =
    or_right (is_call_of Intrinsic.CoroBegin i) _
    (or_right (is_call_of Intrinsic.CoroSave i) _
    (or_right (is_call_of Intrinsic.CoroSuspend i) _ (or_right (is_call_of Intrinsic.CoroFree i) _ is)))

begin_inside : StaysInside Intrinsic.CoroBegin
begin_inside Intrinsic.CoroBegin e = refl
begin_inside _ e = absurd (cc)

-- a coroutine
module _ (k : ℕ) (f : Function) (coroutine : f.coroutine ≡ true) (calls : wrong_call k f ≡ None)
    (outside : IsFirstOutside k f None) where
  one : HasOneEnd f
  one p q c d =
      one_end k f coroutine calls p q c.instr d.instr (instr_there f p.block p.at c.instr c.stands)
      (instr_there f q.block q.at d.instr d.stands) c.is d.is

  once : EndsOnce f
  once = record {
    saves = not_behind_end k f coroutine outside Intrinsic.CoroSave save_ends;
    suspends = not_behind_end k f coroutine outside Intrinsic.CoroSuspend suspend_ends;
    ends = not_behind_end k f coroutine outside Intrinsic.CoroEnd end_ends;
  }

  begun : (p : Point) → IsCallAt Intrinsic.CoroSuspend f p → IsWithoutBegin f p → ⊥
  begun p c without =
      (of_outside k f coroutine outside).instrs p c.instr (instr_there f p.block p.at c.instr c.stands)
      (inr (suspend_needs c.instr c.is, without))

  before : EndsBeforeRets f
  before = record {
    suspends = λ p reached c. suspend_out f p reached c (begun p c) (λ past. once.suspends p past c);
    returns = λ p value there out. no_return k f coroutine outside p value there out;
  }

  pub inside_ends : HasOneEnd f × EndsBeforeRets f × EndsOnce f
  inside_ends = (one, before, once)

-- a function that is no coroutine
module _ (m : Module) (k : ℕ) (f : Function) (rules : KeepsFunctionRules m k f) (plain : f.coroutine ≡ false) where
  none : (j : Intrinsic) → StaysInside j → (p : Point) → IsCallAt j f p → ⊥
  none j inside p c = none_outside m k f rules plain p.block p.at c.instr j inside c.stands c.is

  pub outside_ends : HasOneEnd f × EndsBeforeRets f × EndsOnce f
  outside_ends = (
    (λ p q c d. absurd (none Intrinsic.CoroEnd end_inside p c)),
    record {
      suspends = λ p reached c. absurd (none Intrinsic.CoroSuspend suspend_inside p c);
      returns = λ p value there out.
          none Intrinsic.CoroBegin begin_inside out.start (call_there Intrinsic.CoroBegin f out.start out.is_start);
    },
    record {
      saves = λ p past c. none Intrinsic.CoroSave save_inside p c;
      suspends = λ p past c. none Intrinsic.CoroSuspend suspend_inside p c;
      ends = λ p past c. none Intrinsic.CoroEnd end_inside p c;
    },
  )
