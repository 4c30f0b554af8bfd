use Rattle.std.proofs.Common.{◌∙◌, sym}
use Rattle.std.specs.Prelude.{filter}
use Rattle.ir_paths.specs.Windows.{leaves}
use Rattle.run_source.specs.SourceEffects.{given_of}
use Rattle.run_source.proofs.Leaving.{leave-refused}
use Rattle.run_source.proofs.Slots.{own-is}
use Rattle.run_source.proofs.blocks.leave.Goals as goal

pub returns-then-not-may_leave_all-clause-refused : goal.returns-then-not-may_leave_all-clause-refused
returns-then-not-may_leave_all-clause-refused c =
    let s = c.args.state.now in
    let x = c.in-Some-get.instance.now in
    leave-refused (given_of c.args.given.now) s c.args.label c.in-Some.i c.len.result x (filter (λ w. leaves c.args.p c.args.q w) c.args.windows.now) (own-is s c.in-Some.i x c.in-Some.is c.in-Some-get.ensures) c.len.ensures (sym c.may_leave_all.ensures ∙ c.if-not-may_leave_all.true)
