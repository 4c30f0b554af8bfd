use Rattle.pass_frames_code.proofs.led.Stores.{led_store}
use Rattle.pass_frames_code.proofs.led.led_stores_are_made.Goals as goal

pub returns : goal.returns
returns c = led_store
