use Rattle.std.proofs.Common.{ap, sym, ◌∙◌}
use Rattle.std.specs.Prelude.{slice_get}
use Rattle.flow_solver.proofs.Ending.{is_least}
use Rattle.flow_solver.proofs.worklist.solve.Goals as goal

pub returns-clause-least : goal.returns-clause-least
returns-clause-least g c = λ node fact e.
    is_least (g.F.Flow.domain c.args.flow.now) c.args.graph.now.nodes c.args.graph.now.edges c.args.starts.now c.settle.new.state.facts c.settle.new.state.waiting
    (g.met.F.Flow.laws c.args.flow.now) c.requires.edges c.requires.known c.requires.starts c.in_ok-settle.ensures node fact
    (sym (ap (λ l. slice_get l node) c.into_vec.ensures) ∙ e)
