use Rattle.std.proofs.Common.{◌∙◌, List, ap, filter, length}
use Rattle.rule_uses.proofs.flow_blocks.Making.{of_ok}
use Rattle.ir_model.specs.declared.module.Block.{Block}
use Rattle.frame_crossing.proofs.FarValues.{far_once}
use Rattle.frame_crossing.specs.Words.{is_far}
use Rattle.frame_crossing.specs.declared.edge_use.EdgeUse.{EdgeUse}
use Rattle.frame_crossing.proofs.far.far_numbers.Goals as goal

pub returns-clause-values : goal.returns-clause-values
returns-clause-values c = of_ok c.numbers_of.result _ _
    (λ all is. far_once (length c.args.function.now.names) c.args.known.now.numbers c.args.known.now.values c.in_ok-far.far.items c.as_slice-2.result.now all.values (is_far c.args.known.now.numbers c.args.function.now.blocks c.args.plan.now.phis)
    c.requires.numbers
    (c.in_ok-far.ensures ∙ ap (λ (l : List Block). filter (is_far c.args.known.now.numbers l c.as_slice.result.now) c.args.known.now.values) c.as_slice-blocks.ensures ∙ ap (λ (u : List EdgeUse). filter (is_far c.args.known.now.numbers c.args.function.now.blocks u) c.args.known.now.values) c.as_slice.ensures)
    c.as_slice-2.ensures.value is)
    c.numbers_of.ensures.values
