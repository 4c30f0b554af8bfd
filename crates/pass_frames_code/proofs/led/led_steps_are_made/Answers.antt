use Rattle.pass_frames_code.proofs.led.Steps.{led_step}
use Rattle.pass_frames_code.proofs.led.led_steps_are_made.Goals as goal

pub returns : goal.returns
returns c = led_step
