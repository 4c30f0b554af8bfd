-- Calls of ramps that are given the address of their frame.
use Rattle.std.proofs.Common.{◌≡◌, ℕ, refl, ap, ◌∙◌, Ok, Err, Option, Some, None}
use Rattle.std.specs.Prelude.{Result, OnOk, IfErr, unwrap_or}
use Rattle.ir_base.specs.declared.cause.Cause.{Cause}
use Rattle.run_source.proofs.Acting.{is-stop}
use Rattle.run_source.specs.SourceEffects.{IsStop}
use Rattle.run_source.specs.State.{work_of}
use Rattle.run_source.specs.declared.effects.Stop.{Stop}
use Rattle.run_source.specs.declared.state.State.{State}
use Rattle.run_framed.specs.Framed.{FramedGiven, enter_given, framed_act, framed_context, framed_next, given_call}
use Rattle.run_framed.specs.FramedEffects.{ramp_of}
use Rattle.ir_model.specs.declared.instr.Instr.{Instr}
use Rattle.ir_model.specs.declared.operand.Callee.{Callee}
use Rattle.ir_paths.specs.Windows.{call_result}
use Rattle.run_step.specs.Step.{AtInstr, instr_action}
use Rattle.run_step.specs.Values.{arg_values}
use Rattle.run_source.specs.run_source_tables.Lookups.{args_of}

none-given : (g : FramedGiven) (s : State) (i : Instr) → ramp_of g.given.code i ≡ None → given_call g s (AtInstr i) ≡ None
none-given g s (Instr.Call result must_tail ty (Callee.Named n) args) e = ap (enter_given g s result (arg_values g.given.code s.top.values args)) e
none-given g s i e = refl

some-given : (g : FramedGiven) (s : State) (i : Instr) (func : ℕ) → ramp_of g.given.code i ≡ Some func → given_call g s (AtInstr i) ≡ enter_given g s (call_result i) (arg_values g.given.code s.top.values (args_of i)) (Some func)
some-given g s (Instr.Call result must_tail ty (Callee.Named n) args) func e = ap (enter_given g s result (arg_values g.given.code s.top.values args)) e
some-given g s i func e = absurd cc

no-ramp-next : (g : FramedGiven) (s : State) (i : Instr) → ramp_of g.given.code i ≡ None → framed_next g s (AtInstr i) ≡ framed_act g s (instr_action (framed_context g s) (work_of s) i)
no-ramp-next g s i e = ap (λ (o : Option (Result State Cause)). unwrap_or o (framed_act g s (instr_action (framed_context g s) (work_of s) i))) (none-given g s i e)

pub no-ramp-done : (g : FramedGiven) (s new : State) (i : Instr) (r : Result (Unit {0}) Stop) → ramp_of g.given.code i ≡ None → OnOk r (framed_act g s (instr_action (framed_context g s) (work_of s) i) ≡ Ok new) → OnOk r (framed_next g s (AtInstr i) ≡ Ok new)
no-ramp-done g s new i (Ok u) e h = no-ramp-next g s i e ∙ h
no-ramp-done g s new i (Err stop) e h = tt

pub no-ramp-refused : (g : FramedGiven) (s : State) (i : Instr) (r : Result (Unit {0}) Stop) → ramp_of g.given.code i ≡ None → IfErr r (λ stop. IsStop stop (framed_act g s (instr_action (framed_context g s) (work_of s) i))) → IfErr r (λ stop. IsStop stop (framed_next g s (AtInstr i)))
no-ramp-refused g s i (Ok u) e h = tt
no-ramp-refused g s i (Err stop) e h = is-stop stop (framed_act g s (instr_action (framed_context g s) (work_of s) i)) (framed_next g s (AtInstr i)) (no-ramp-next g s i e) h

pub ramp-next : (g : FramedGiven) (s new : State) (i : Instr) (func : ℕ) → ramp_of g.given.code i ≡ Some func → enter_given g s (call_result i) (arg_values g.given.code s.top.values (args_of i)) (Some func) ≡ Some (Ok new) → framed_next g s (AtInstr i) ≡ Ok new
ramp-next g s new i func e h = ap (λ (o : Option (Result State Cause)). unwrap_or o (framed_act g s (instr_action (framed_context g s) (work_of s) i))) (some-given g s i func e ∙ h)
