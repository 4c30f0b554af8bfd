use Rattle.rule_uses.proofs.Finding.{settled_by}
use Rattle.rule_uses.proofs.rule.settle.Goals as goal

pub returns : goal.returns
returns c = settled_by c.args.function.now c.args.graph.now c.args.all.now.numbers c.args.all.now.values c.args.opens.now c.args.chunk c.args.limit c.first_told.result
    c.as_slice-blocks.result.now c.in_ok-made.made.items c.as_slice.result.now c.as_slice-2.result.now c.in_ok-words.words.items c.as_slice-3.result.now
    c.requires.graph c.requires.numbers c.as_slice-blocks.ensures c.in_ok-made.ensures c.as_slice.ensures.value c.as_slice-2.ensures.value c.as_slice-3.ensures.value
    c.in_ok-words.ensures.nodes c.in_ok-words.ensures.words c.first_told.ensures
