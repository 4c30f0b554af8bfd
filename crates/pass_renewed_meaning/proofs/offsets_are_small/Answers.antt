use Rattle.pass_renewed_meaning.proofs.OffsetRuns.{offsets_small}
use Rattle.pass_renewed_meaning.proofs.offsets_are_small.Goals as goal

pub returns : goal.returns
returns c = offsets_small
