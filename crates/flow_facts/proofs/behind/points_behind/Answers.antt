use Rattle.std.proofs.Common.{List, ◌++◌, ap, flat_map, subst, sym, true, ◌∙◌}
use Rattle.flow_points.specs.ir_paths.Slots.{end_points}
use Rattle.flow_points.specs.ir_paths.declared.point.Point.{Point}
use Rattle.flow_facts.proofs.Reaching.{are-behind, are-first}
use Rattle.flow_facts.specs.Slots.{AreFirst, outside_if, firsts_from}
use Rattle.flow_points.specs.Reached.{AreReached}
use Rattle.flow_facts.proofs.behind.points_behind.Goals as goal

pub returns-clause-points : goal.returns-clause-points
returns-clause-points c =
    are-behind c.args.function.now c.in_ok-all.all c.in_ok-reached.reached c.push_outside.new.all
    (subst (AreFirst c.args.function.now) (sym (c.in_ok-all.ensures ∙ ap (firsts_from c.args.function.now 0) c.as_slice.ensures)) (are-first c.args.function.now c.in_ok-entered.entered c.in_ok-entered.ensures))
    (subst (λ (l : List Point). AreReached c.args.function.now l (end_points c.args.function.now) c.in_ok-reached.reached) c.as_slice-2.ensures
    (subst (λ (l : List Point). AreReached c.args.function.now c.as_slice-2.result.now l c.in_ok-reached.reached) (c.as_slice-3.ensures ∙ c.in_ok-avoided.ensures) c.in_ok-reached.ensures.found))
    (c.in_ok-push_outside.ensures ∙ ap (λ (l : List Point). c.in_ok-all.all ++ flat_map (outside_if c.args.function.now true) l) c.as_slice-4.ensures)
