use Rattle.std.proofs.Common.{◌≡◌, ◌∙◌, ap, sym, Bool}
use Rattle.run_plain.specs.Plain.{counted, plain_call}
use Rattle.run_plain.specs.PlainEffects.{given_of}
use Rattle.run_plain.specs.declared.state.PlainState.{PlainState}
use Rattle.run_plain.proofs.effects.enter.Goals as goal

pub returns-in_ok-enter_in_place-clause-done : goal.returns-in_ok-enter_in_place-clause-done
returns-in_ok-enter_in_place-clause-done c =
    let g = given_of c.args.program.now in
    c.count.ensures
    ∙ ap (λ (x : PlainState). counted g c.args.func x) (c.in_ok-enter_in_place.ensures.done c.args.result_name)
    ∙ ap (λ (b : Bool). counted g c.args.func (plain_call g c.args.state.now c.args.func c.args.args.now c.args.result_name b)) (sym c.if-must_tail.true)
