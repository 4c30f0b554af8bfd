use Rattle.run_laws.proofs.transfer.Grown.{made_live, made_together, new_stands}
use Rattle.run_laws.proofs.transfer.new_blocks_get_homes.Goals as goal

pub returns-clause-new : goal.returns-clause-new
returns-clause-new c = new_stands

pub returns-clause-made : goal.returns-clause-made
returns-clause-made c = made_together

pub returns-clause-lives : goal.returns-clause-lives
returns-clause-lives c = made_live
