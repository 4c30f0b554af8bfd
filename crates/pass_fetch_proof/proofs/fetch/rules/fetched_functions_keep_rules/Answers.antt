use Rattle.pass_fetch_proof.proofs.fetch.rules.Fetched.{fetches_woven}
use Rattle.pass_fetch_proof.specs.fetch.rules.Fetches.{fetch_weaving}
use Rattle.pass_edges_proof.specs.pass_fetch.Blocks.{with_fetches}
use Rattle.pass_edges_proof.proofs.rule_laws.rules.woven_rules.All.{rules_woven}
use Rattle.pass_fetch_proof.proofs.fetch.rules.fetched_functions_keep_rules.Goals as goal

pub returns : goal.returns
returns c = λ m k f t word keeps once fit. rules_woven (fetch_weaving f t word) m k f (with_fetches f t word) (fetches_woven m k f t word keeps fit) keeps once
