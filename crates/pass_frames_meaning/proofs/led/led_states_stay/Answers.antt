use Rattle.pass_frames_meaning.proofs.led.Led.{step_led}
use Rattle.pass_frames_meaning.proofs.led.LedHooks.{renewed_keeps_led}
use Rattle.pass_frames_meaning.proofs.led.led_states_stay.Goals as goal

pub returns-clause-step : goal.returns-clause-step
returns-clause-step c = step_led

pub returns-clause-renewed : goal.returns-clause-renewed
returns-clause-renewed c = renewed_keeps_led
