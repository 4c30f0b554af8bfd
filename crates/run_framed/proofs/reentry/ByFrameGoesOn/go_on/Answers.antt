use Rattle.std.proofs.Common.{◌≡◌, ◌∙◌, ap, sym, refl}
use Rattle.std.proofs.lemmas.Option.{same_Some}
use Rattle.run_memory.specs.declared.pointer.Value.{Value}
use Rattle.run_source.specs.Source.{push}
use Rattle.run_source.specs.SourceEffects.{given_of}
use Rattle.run_source.specs.State.{frame_address_of}
use Rattle.run_source.specs.declared.state.Instance.{Instance}
use Rattle.run_framed.proofs.Reentering.{gone-on, stepped-back}
use Rattle.run_framed.proofs.reentry.ByFrameGoesOn.go_on.Goals as goal
use Rattle.run_framed.specs.Framed.{reentry_values}
use Rattle.ir_model.specs.Names.{function_at}

pub returns-in-Ok-clause-done : goal.returns-in-Ok-clause-done
returns-in-Ok-clause-done c = λ x values got co status.
    let g = given_of c.args.given.now in
    let s = c.args.state.now in
    let y = c.args.sleeping in
    let same : c.in-Some.instance.now ≡ x = same_Some c.in-Some.instance.now x (sym c.in-Some.ensures ∙ got) in
    gone-on g s c.push.new.state c.enter_after.new.state y x values c.in_ok-values.values c.args.label c.next_alloca-first.result c.run.new.self got co
    (c.in_ok-values.ensures ∙ ap (λ (v : Value). reentry_values (function_at g.code y.coroutine) v) (c.frame_address_of-frame.ensures ∙ ap (λ (z : Instance). frame_address_of z) same))
    (c.in_ok-push.ensures.done ∙ ap (push s) c.woken.ensures)
    c.next_alloca-first.ensures c.in-Ok.ensures.done c.run.ensures

pub returns-in-Err-clause-kept : goal.returns-in-Err-clause-kept
returns-in-Err-clause-kept c = λ x values got status.
    let s = c.args.state.now in
    stepped-back s c.enter_after.new.state c.step_back.new.state c.woken.result s.top.at (c.in-Err.ensures.kept ∙ c.in_ok-push.ensures.done) refl c.step_back.ensures
