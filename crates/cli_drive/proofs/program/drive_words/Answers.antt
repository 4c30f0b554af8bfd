use Rattle.std.proofs.Common.{refl}
use Rattle.cli_drive.proofs.Written.{other_ends, read_ends}
use Rattle.cli_drive.proofs.program.drive_words.Goals as goal

pub returns-then-reads_input-clause-ends : goal.returns-then-reads_input-clause-ends
returns-then-reads_input-clause-ends g c = read_ends _ _ _ _ _ _ c.reads_input.ensures c.if-reads_input.true c.drive_input.ensures.ends

pub returns-else-reads_input-clause-ends : goal.returns-else-reads_input-clause-ends
returns-else-reads_input-clause-ends g c = other_ends _ _ _ _ _ _ c.reads_input.ensures c.if-reads_input.false (refl, refl) c.drive_bytes.ensures
