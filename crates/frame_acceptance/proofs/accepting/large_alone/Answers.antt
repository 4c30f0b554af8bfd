use Rattle.frame_acceptance.proofs.Told.{all_laid}
use Rattle.frame_acceptance.proofs.accepting.large_alone.Goals as goal

pub returns-in-Ok : goal.returns-in-Ok
returns-in-Ok c = all_laid c.args.source.now c.in-Ok.field-0 c.in-Ok.ensures
