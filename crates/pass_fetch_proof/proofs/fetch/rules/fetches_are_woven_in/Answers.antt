use Rattle.pass_fetch_proof.proofs.fetch.rules.Fetched.{fetches_woven}
use Rattle.pass_fetch_proof.proofs.fetch.rules.fetches_are_woven_in.Goals as goal

pub returns : goal.returns
returns c = fetches_woven
