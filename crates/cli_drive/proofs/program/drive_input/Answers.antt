use Rattle.std.proofs.Common.{rules}
use Rattle.cli_drive.specs.Endings.{EndsRead}
use Rattle.cli_drive.proofs.program.drive_input.Goals as goal

pub returns-in-Ok-clause-ends : goal.returns-in-Ok-clause-ends
returns-in-Ok-clause-ends g c = EndsRead.Read _ (record { input = search rules; read = search rules; at_end = search rules; later = search rules }) c.drive_bytes.ensures

pub returns-in-Err-ReadFault-clause-ends : goal.returns-in-Err-ReadFault-clause-ends
returns-in-Err-ReadFault-clause-ends g c = EndsRead.ReadFailed (c.in-Err-ReadFault.ensures.fault (search rules)) (record { most = search rules; later = search rules }) (search rules)
