use Rattle.std.proofs.Common.{◌∙◌}
use Rattle.run_source_tables.proofs.program.SourceProgram.frame.Goals as goal

pub returns-in-Some : goal.returns-in-Some
returns-in-Some c = c.frame_or.ensures ∙ c.args.self.now.frames_found.frame c.args.func c.in-Some.found.now c.in-Some.ensures
