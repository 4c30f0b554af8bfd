use Rattle.std.proofs.Common.{◌≡◌, ◌∙◌, ◌+◌, ◌∷◌, ap, refl, List}
use Rattle.std.specs.Prelude.{slice_get, slice_set}
use Rattle.run_source_tables.specs.run_step.Values.{Env}
use Rattle.run_source.specs.declared.state.Instance.{Instance}
use Rattle.run_source.specs.declared.state.State.{State}
use Rattle.run_source.specs.declared.state.Status.{Status}
use Rattle.run_source.proofs.Sleeping.{asleep-again}
use Rattle.run_source.proofs.resuming.go_on_with_values.Goals as goal

pub returns-in-Err-clause-kept : goal.returns-in-Err-clause-kept
returns-in-Err-clause-kept c = λ x values got status.
    let s = c.args.state.now in
    let pushed = c.in_ok-push.ensures.done in
    let there = ap (λ (t : State). slice_get t.instances c.args.sleeping.instance) pushed ∙ got in
    let is =
    c.in-Err.ensures.kept
    ∙ ap (λ (t : State). record t { instances = c.wake.new.self; top = record t.top { values = c.wake.result } }) pushed
    ∙ ap (λ (l : List Instance). record s { instances = l; top = record c.woken.result { values = c.wake.result }; below = (record s.top { at = s.top.at + 1 }) ∷ s.below }) (c.wake.ensures.left x there ∙ ap (λ (t : State). slice_set t.instances c.args.sleeping.instance (record x { status = Status.Running })) pushed)
    ∙ ap (λ (v : Env). record s { instances = slice_set s.instances c.args.sleeping.instance (record x { status = Status.Running }); top = record c.woken.result { values = v }; below = (record s.top { at = s.top.at + 1 }) ∷ s.below }) (c.wake.ensures.taken x c.args.sleeping.suspend values there status) in
    asleep-again s c.enter_block.new.state c.fall_asleep.new.state c.woken.result c.args.sleeping.instance s.top.at x c.args.sleeping.suspend values got status refl is c.fall_asleep.ensures
