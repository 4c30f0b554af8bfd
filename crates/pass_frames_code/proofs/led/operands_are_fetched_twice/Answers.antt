use Rattle.pass_frames_code.proofs.led.Front.{led_twice}
use Rattle.pass_frames_code.proofs.led.operands_are_fetched_twice.Goals as goal

pub returns : goal.returns
returns c = led_twice
