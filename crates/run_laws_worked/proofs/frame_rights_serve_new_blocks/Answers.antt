use Rattle.run_laws_worked.proofs.Frames.{serve_both, serve_fresh, serve_source, serve_target}
use Rattle.run_laws_worked.proofs.frame_rights_serve_new_blocks.Goals as goal

pub returns-clause-target : goal.returns-clause-target
returns-clause-target c = serve_target

pub returns-clause-source : goal.returns-clause-source
returns-clause-source c = serve_source

pub returns-clause-both : goal.returns-clause-both
returns-clause-both c = λ g h xs ys. serve_both g xs h ys

pub returns-clause-fresh : goal.returns-clause-fresh
returns-clause-fresh c = serve_fresh
