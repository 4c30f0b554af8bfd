use Rattle.std.proofs.Common.{ℕ, List, ◌++◌, refl, ap, ◌∙◌}
use Rattle.ir_model.specs.Names.{position_of}
use Rattle.ir_paths.specs.declared.point.Point.{Point}
use Rattle.rule_window_values.proofs.Spanning.{span_made}
use Rattle.rule_window_values.specs.Kept.{phi_results}
use Rattle.rule_window_values.specs.Spans.{inside_values, values_if}
use Rattle.rule_window_values.proofs.spans.span_of.Goals as goal

pub returns-clause-span : goal.returns-clause-span
returns-clause-span c =
    span_made c.args.function.now c.args.window.now c.requires.window c.in_ok-front.front c.in_ok-front.ensures.front
    c.args.window.now.suspend.block c.entry-resumed.result.block c.entry-destroyed.result.block c.add_front_if.new.values refl
    (ap (λ (p : Point). p.block) c.entry-resumed.ensures ∙ ap (position_of c.args.function.now) c.resume_label.ensures)
    (ap (λ (p : Point). p.block) c.entry-destroyed.ensures ∙ ap (position_of c.args.function.now) c.destroy_label.ensures)
    (c.in_ok-add_front_if.ensures
    ∙ ap (λ (l : List ℕ). l ++ values_if c.in_ok-front.front (phi_results c.args.function.now c.args.window.now.suspend.block)) (c.in_ok-values.ensures ∙ ap (inside_values c.args.function.now) c.as_slice.ensures))
