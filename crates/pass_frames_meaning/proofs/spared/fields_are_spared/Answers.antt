use Rattle.pass_frames_meaning.proofs.spared.Spared.{fields_spared}
use Rattle.pass_frames_meaning.proofs.spared.fields_are_spared.Goals as goal

pub returns : goal.returns
returns c = fields_spared
