use Rattle.std.proofs.Common.{◌≡◌, ℕ, List, Option, sym, subst}
use Rattle.std.specs.Prelude.{IfErr, Result}
use Rattle.run_memory.specs.declared.pointer.Value.{Value}
use Rattle.run_source.specs.SourceEffects.{IsStop}
use Rattle.run_source.specs.declared.effects.Stop.{Stop}
use Rattle.run_source.specs.declared.state.State.{State}
use Rattle.run_framed.specs.Framed.{FramedGiven, framed_begin, framed_coro}
use Rattle.run_framed.specs.FramedEffects.{framed_of}
use Rattle.ir_model.specs.declared.operand.Arg.{Arg}
use Rattle.ir_model.specs.declared.operand.Intrinsic.{Intrinsic}
use Rattle.run_step.specs.Values.{arg_values, nth}
use Rattle.run_framed.proofs.effects.coro_framed.Goals as goal

begin-stops : (g : FramedGiven) (s : State) (i : Intrinsic) (args : List Arg) (vs : List Value) (result : Option ℕ) (mem : Value) (r : Result (Unit {0}) Stop) → i ≡ Intrinsic.CoroBegin → mem ≡ nth vs 1 → IfErr r (λ stop. IsStop stop (framed_begin g s result mem s.top.mode)) → IfErr r (λ stop. IsStop stop (framed_coro g s i args vs result))
begin-stops g s i args vs result mem r e at h =
    subst (λ (j : Intrinsic). IfErr r (λ stop. IsStop stop (framed_coro g s j args vs result))) (sym e)
    (subst (λ (v : Value). IfErr r (λ stop. IsStop stop (framed_begin g s result v s.top.mode))) at h)

pub returns-in-CoroBegin-clause-refused : goal.returns-in-CoroBegin-clause-refused
returns-in-CoroBegin-clause-refused c =
    let g = framed_of c.args.program.now in
    let s = c.args.state.now in
    begin-stops g s c.args.intrinsic c.args.args.now (arg_values g.given.code s.top.values c.args.args.now) c.args.result_name c.nth_value-mem.result c.begin_framed.result c.in-CoroBegin.is c.nth_value-mem.ensures c.begin_framed.ensures.refused
