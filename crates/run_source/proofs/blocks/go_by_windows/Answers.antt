use Rattle.std.proofs.Common.{◌∙◌, sym}
use Rattle.std.specs.Prelude.{filter}
use Rattle.ir_paths.specs.Windows.{leaves}
use Rattle.run_source.specs.SourceEffects.{given_of}
use Rattle.run_source.proofs.Leaving.{leaving, leaving-refused}
use Rattle.run_source.proofs.blocks.go_by_windows.Goals as goal

pub returns-then-leaves_any-clause-refused : goal.returns-then-leaves_any-clause-refused
returns-then-leaves_any-clause-refused c =
    let g = given_of c.args.given.now in
    let s = c.args.state.now in
    let p = c.point_of-p.result in
    let ws = c.as_slice-windows.result.now in
    leaving-refused g s c.args.label c.leave.result (filter (λ w. leaves p (record { block = c.position.result; at = 0 }) w) ws)
    (leaving g s c.args.label c.position.result p c.in-Some.facts.now ws c.point_of-p.ensures c.position.ensures c.in-Some.ensures c.as_slice-windows.ensures (sym c.if-leaves_any.true ∙ c.leaves_any.ensures))
    c.leave.ensures.refused
