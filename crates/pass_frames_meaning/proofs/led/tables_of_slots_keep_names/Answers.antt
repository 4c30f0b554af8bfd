use Rattle.pass_frames_meaning.proofs.led.Tables.{tables_led}
use Rattle.pass_frames_meaning.proofs.led.tables_of_slots_keep_names.Goals as goal

pub returns : goal.returns
returns c = tables_led
