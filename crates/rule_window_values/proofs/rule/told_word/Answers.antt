use Rattle.std.proofs.Common.{length}
use Rattle.rule_window_values.proofs.Asking.{told_by_chunk}
use Rattle.rule_window_values.proofs.rule.told_word.Goals as goal

pub returns : goal.returns
returns c =
    told_by_chunk c.args.function.now (length c.args.function.now.names) c.args.all.now.numbers c.args.all.now.values c.args.spans.now c.args.number c.in_ok-chunk.chunk c.told_blocks-told.result c.taken_blocks-taken.result
    c.requires.spans c.requires.numbers c.in_ok-chunk.ensures c.told_blocks-told.ensures c.taken_blocks-taken.ensures
