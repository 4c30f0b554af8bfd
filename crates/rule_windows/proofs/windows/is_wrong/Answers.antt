use Rattle.std.proofs.Common.{List, ap, sym, ◌∙◌}
use Rattle.flow_points.specs.ir_paths.Paths.{has_point}
use Rattle.flow_points.specs.ir_paths.declared.point.Point.{Point}
use Rattle.rule_windows.proofs.Between.{not_wrong, wrong_back, wrong_leaving}
use Rattle.rule_windows.specs.Windows.{has_way_back}
use Rattle.rule_windows.proofs.windows.is_wrong.Goals as goal

pub returns-then-has_way_back-clause-wrong : goal.returns-then-has_way_back-clause-wrong
returns-then-has_way_back-clause-wrong c =
    wrong_back c.args.function.now c.args.save c.args.suspend c.in_ok-back.back c.in_ok-back.ensures.back
    (sym (c.has_way_back.ensures ∙ ap (λ (l : List Point). has_way_back c.args.function.now l c.args.save c.args.suspend) c.as_slice-2.ensures) ∙ c.if-has_way_back.true)

pub returns-then-not-is_final_at-clause-wrong : goal.returns-then-not-is_final_at-clause-wrong
returns-then-not-is_final_at-clause-wrong c =
    not_wrong c.args.function.now c.args.save c.args.suspend c.in_ok-back.back c.in_ok-has_call.field-0 c.in_ok-back.ensures.back
    (sym (c.has_point.ensures ∙ ap (λ (l : List Point). has_point l c.args.save) c.as_slice.ensures) ∙ c.if-not-has_point.false)
    (sym (c.has_way_back.ensures ∙ ap (λ (l : List Point). has_way_back c.args.function.now l c.args.save c.args.suspend) c.as_slice-2.ensures) ∙ c.if-has_way_back.false)
    c.in_ok-has_call.ensures.call c.if-branch.false (sym c.is_final_at.ensures ∙ c.if-not-is_final_at.true)

pub returns-clause-wrong : goal.returns-clause-wrong
returns-clause-wrong c =
    wrong_leaving c.args.function.now c.args.save c.args.suspend c.in_ok-back.back c.in_ok-leaves.leaves c.in_ok-has_call.field-0 c.in_ok-back.ensures.back
    (sym (c.has_point.ensures ∙ ap (λ (l : List Point). has_point l c.args.save) c.as_slice.ensures) ∙ c.if-not-has_point.false)
    (sym (c.has_way_back.ensures ∙ ap (λ (l : List Point). has_way_back c.args.function.now l c.args.save c.args.suspend) c.as_slice-2.ensures) ∙ c.if-has_way_back.false)
    c.in_ok-has_call.ensures.call c.if-branch.false (sym c.is_final_at.ensures ∙ c.if-not-is_final_at.false) c.in_ok-leaves.ensures.leaving
