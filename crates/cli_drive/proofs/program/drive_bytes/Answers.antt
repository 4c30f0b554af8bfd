use Rattle.std.proofs.Common.{rules}
use Rattle.cli_drive.proofs.Written.{answered_by}
use Rattle.cli_drive.proofs.program.drive_bytes.Goals as goal

pub returns-in-Ok : goal.returns-in-Ok
returns-in-Ok g c = answered_by _ _ _ _ c.in-Ok.answer _ _ _ _ c.in-Ok.ensures (search rules) (search rules) c.status.ensures.value c.write_both.ensures
