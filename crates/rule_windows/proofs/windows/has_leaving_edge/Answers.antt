use Rattle.std.proofs.Common.{List, [], ◌∷◌, ap, refl, ◌∙◌}
use Rattle.std.specs.List.{list_any}
use Rattle.flow_points.specs.ir_paths.declared.point.Point.{Point}
use Rattle.rule_windows.proofs.Between.{has_leaving_edge_is}
use Rattle.rule_windows.specs.Windows.{is_off}
use Rattle.rule_windows.proofs.windows.has_leaving_edge.Goals as goal

pub returns-clause-leaving : goal.returns-clause-leaving
returns-clause-leaving c =
    has_leaving_edge_is c.args.function.now c.args.save c.args.suspend c.args.back.now (c.args.save ∷ []) (c.args.save ∷ c.args.suspend ∷ []) c.in_ok-reached.reached c.in_ok-set.set c.any_is_off.result
    c.requires.back c.requires.path c.requires.stands refl refl c.in_ok-reached.ensures.found c.in_ok-set.ensures
    (c.any_is_off.ensures ∙ ap (λ (l : List Point). list_any (is_off c.in_ok-set.set c.args.save c.args.suspend) l) c.as_slice.ensures)
