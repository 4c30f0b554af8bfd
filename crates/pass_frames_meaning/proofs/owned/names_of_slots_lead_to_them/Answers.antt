use Rattle.std.proofs.Common.{true}
use Rattle.pass_frames_meaning.proofs.owned.Framed.{framed_keeps_owned, framed_led}
use Rattle.pass_frames_meaning.proofs.owned.Owned.{step_owned}
use Rattle.pass_frames_meaning.proofs.owned.Parts.{calls_apart}
use Rattle.pass_frames_meaning.proofs.owned.names_of_slots_lead_to_them.Goals as goal

pub returns-clause-step : goal.returns-clause-step
returns-clause-step c = step_owned

pub returns-clause-calls : goal.returns-clause-calls
returns-clause-calls c = λ m types s called. calls_apart m (λ func. true) types s.top.result s.below called.below

pub returns-clause-hooks : goal.returns-clause-hooks
returns-clause-hooks c = framed_keeps_owned

pub returns-clause-framed : goal.returns-clause-framed
returns-clause-framed c = framed_led
