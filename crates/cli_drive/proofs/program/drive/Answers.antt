use Rattle.cli_drive.proofs.Headline.{lowered_done}
use Rattle.cli_drive.proofs.program.drive.Goals as goal

pub returns-clause-headline : goal.returns-clause-headline
returns-clause-headline g c = λ plain is done. lowered_done _ _ _ plain _ _ is done c.drive_all.ensures.ends
