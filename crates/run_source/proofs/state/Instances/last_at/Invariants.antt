use Rattle.run_source.specs.State.{began_at}
use Rattle.run_source.proofs.Chains.{IsCandidate, after}
use Rattle.run_source.proofs.state.Instances.last_at.Given as goal

abbrev pub invariant-loop-candidate : goal.invariant-loop-candidate
invariant-loop-candidate l = IsCandidate (began_at l.block l.offset) l.block l.self l.candidate

abbrev pub decreases-loop-candidate : goal.decreases-loop-candidate
decreases-loop-candidate l = after l.candidate
