use Rattle.pass_frames_meaning.proofs.covered.Assembly.{kept_agrees}
use Rattle.pass_frames_meaning.proofs.covered.kept_runs_agree_with_framed_ones.Goals as goal

pub returns : goal.returns
returns g c = λ s p b layouts all is declared pay start.
    kept_agrees s p b layouts all is declared pay start g.T.TellsStates.tells
