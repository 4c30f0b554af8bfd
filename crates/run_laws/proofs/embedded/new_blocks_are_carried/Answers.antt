use Rattle.run_laws.proofs.embedded.Made.{made_carried}
use Rattle.run_laws.proofs.embedded.new_blocks_are_carried.Goals as goal

pub returns : goal.returns
returns c = made_carried
