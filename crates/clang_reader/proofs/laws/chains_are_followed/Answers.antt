use Rattle.clang_reader.proofs.Chains.{settled_after, settled_ends}
use Rattle.clang_reader.proofs.laws.chains_are_followed.Goals as goal

pub returns-clause-followed : goal.returns-clause-followed
returns-clause-followed c = settled_after

pub returns-clause-end : goal.returns-clause-end
returns-clause-end c = settled_ends
