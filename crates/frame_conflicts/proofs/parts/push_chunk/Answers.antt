use Rattle.std.proofs.Common.{sym, ◌∙◌}
use Rattle.frame_conflicts.proofs.Parting.{wide_chunk}
use Rattle.frame_conflicts.proofs.parts.push_chunk.Goals as goal

pub returns-then-loose_at-eq0 : goal.returns-then-loose_at-eq0
returns-then-loose_at-eq0 c = wide_chunk c.args.function.now c.args.known.now c.requires.known c.args.chunk c.args.known.now.count c.args.pairs.now (sym c.loose_at.ensures ∙ c.if-loose_at-eq0.true) c.requires.chunk c.requires.pairs
