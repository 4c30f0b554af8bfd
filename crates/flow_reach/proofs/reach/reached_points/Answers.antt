use Rattle.std.proofs.Common.{sym, subst}
use Rattle.flow_blocks.proofs.Making.{of_ok}
use Rattle.flow_reach.specs.Reached.{AreBlocks}
use Rattle.flow_reach.proofs.Telling.{points_told}
use Rattle.flow_reach.proofs.reach.reached_points.Goals as goal

pub front_words-requires-clause-fronts : goal.front_words-requires-clause-fronts
front_words-requires-clause-fronts c = subst (AreBlocks c.args.function.now) (sym c.as_slice-fronts.ensures) c.requires.fronts

pub returns : goal.returns
returns c = of_ok c.all_words.result _ _
    (λ out is. points_told c.args.function.now c.args.graph.now c.args.passes.now c.as_slice-rows.result.now c.as_slice-fronts.result.now c.in_ok-made.made.items c.as_slice.result.now c.in_ok-stops.stops.items c.as_slice-2.result.now c.in_ok-words.words.items c.as_slice-3.result.now out
    c.requires.graph c.requires.rows c.requires.fronts c.as_slice-rows.ensures c.as_slice-fronts.ensures c.in_ok-made.ensures c.as_slice.ensures.value c.in_ok-stops.ensures c.as_slice-2.ensures.value
    c.in_ok-words.ensures.nodes c.in_ok-words.ensures.words c.as_slice-3.ensures.value is)
    c.all_words.ensures
