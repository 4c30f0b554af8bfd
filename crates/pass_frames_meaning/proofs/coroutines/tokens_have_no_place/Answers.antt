use Rattle.pass_frames_meaning.proofs.coroutines.Tokens.{token_nowhere}
use Rattle.pass_frames_meaning.proofs.coroutines.tokens_have_no_place.Goals as goal

pub returns : goal.returns
returns c = token_nowhere
