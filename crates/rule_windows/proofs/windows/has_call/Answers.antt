use Rattle.std.proofs.Common.{List, [], ◌∷◌, ap, refl, ◌∙◌}
use Rattle.flow_points.specs.ir_paths.Paths.{has_point}
use Rattle.flow_points.specs.ir_paths.declared.point.Point.{Point}
use Rattle.rule_windows.proofs.Between.{has_call_is}
use Rattle.rule_windows.proofs.windows.has_call.Goals as goal

pub returns-clause-call : goal.returns-clause-call
returns-clause-call c =
    has_call_is c.args.function.now c.args.save c.args.suspend c.args.back.now c.as_slice.result.now (c.args.save ∷ c.args.suspend ∷ []) c.in_ok-found.found c.has_point.result
    c.requires.back (c.as_slice.ensures ∙ c.in_ok-calls.ensures) refl c.in_ok-found.ensures.found
    (c.has_point.ensures ∙ ap (λ (l : List Point). has_point l c.args.save) c.as_slice-2.ensures)
