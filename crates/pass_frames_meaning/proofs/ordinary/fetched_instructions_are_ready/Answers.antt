use Rattle.pass_frames_meaning.proofs.ordinary.Standing.{fetch_ready, here_ready}
use Rattle.pass_frames_meaning.proofs.ordinary.fetched_instructions_are_ready.Goals as goal

pub returns-clause-fetched : goal.returns-clause-fetched
returns-clause-fetched c = fetch_ready

pub returns-clause-lined : goal.returns-clause-lined
returns-clause-lined c = here_ready
