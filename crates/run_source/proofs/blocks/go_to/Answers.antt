use Rattle.std.proofs.Common.{◌∙◌, refl, sym}
use Rattle.ir_paths.specs.Paths.{entry_point}
use Rattle.run_source.specs.SourceEffects.{given_of}
use Rattle.run_source.specs.State.{function_of, point_of}
use Rattle.run_source.proofs.Looked.{plainly-done, plainly-refused}
use Rattle.run_source.proofs.blocks.go_to.Goals as goal

pub returns-else-may_be_left-clause-done : goal.returns-else-may_be_left-clause-done
returns-else-may_be_left-clause-done c =
    let g = given_of c.args.given.now in
    let s = c.args.state.now in
    plainly-done g s c.enter_plainly.new.state c.args.label c.enter_plainly.result (c.may_be_left.ensures (point_of s) (entry_point (function_of g s) c.args.label) refl c.if-may_be_left.false) c.enter_plainly.ensures.done

pub returns-else-may_be_left-clause-refused : goal.returns-else-may_be_left-clause-refused
returns-else-may_be_left-clause-refused c = plainly-refused (given_of c.args.given.now) c.args.state.now c.args.label c.enter_plainly.result c.enter_plainly.ensures.refused
