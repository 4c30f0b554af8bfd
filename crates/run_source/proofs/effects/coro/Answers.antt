use Rattle.std.proofs.Common.{◌≡◌, ℕ, List, Option, sym, subst}
use Rattle.std.specs.Prelude.{IfErr, Result}
use Rattle.run_memory.specs.declared.pointer.Value.{Value}
use Rattle.ir_model.specs.declared.operand.Arg.{Arg}
use Rattle.ir_model.specs.declared.operand.Intrinsic.{Intrinsic}
use Rattle.run_source_tables.specs.run_step.Values.{arg_values, nth}
use Rattle.run_source.specs.Source.{Continues, coro, resume}
use Rattle.run_source.specs.SourceEffects.{given_of, IsStop}
use Rattle.run_source.specs.declared.effects.Stop.{Stop}
use Rattle.run_source.specs.declared.state.State.{State}
use Rattle.run_source_tables.specs.Given.{Given}
use Rattle.run_source.proofs.effects.coro.Goals as goal

resume-stops : (g : Given) (go : Continues) (s : State) (i : Intrinsic) (args : List Arg) (vs : List Value) (result : Option ℕ) (p : Value) (r : Result (Unit {0}) Stop) → i ≡ Intrinsic.CoroResume → p ≡ nth vs 0 → IfErr r (λ stop. IsStop stop (resume g go s p)) → IfErr r (λ stop. IsStop stop (coro g go s i args vs result))
resume-stops g go s i args vs result p r e at h =
    subst (λ (j : Intrinsic). IfErr r (λ stop. IsStop stop (coro g go s j args vs result))) (sym e)
    (subst (λ (v : Value). IfErr r (λ stop. IsStop stop (resume g go s v))) at h)

pub returns-in-CoroResume-clause-refused : goal.returns-in-CoroResume-clause-refused
returns-in-CoroResume-clause-refused g c =
    resume-stops (given_of c.args.given.now) (g.G.GoesOn.goes c.args.by.now (given_of c.args.given.now)) c.args.state.now c.args.intrinsic c.args.args.now (arg_values c.args.given.now.program.module c.args.state.now.top.values c.args.args.now) c.args.result_name c.nth_value-p.result c.resume.result c.in-CoroResume.is c.nth_value-p.ensures c.resume.ensures.refused
