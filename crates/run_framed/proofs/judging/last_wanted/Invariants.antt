use Rattle.run_framed.specs.FramedEffects.{fits, framed_of}
use Rattle.run_source.proofs.Chains.{IsCandidate, after}
use Rattle.run_framed.proofs.judging.last_wanted.Given as goal

abbrev pub invariant-loop-candidate : goal.invariant-loop-candidate
invariant-loop-candidate l = IsCandidate (fits (framed_of l.program) l.block l.wanted) l.block l.instances l.candidate

abbrev pub decreases-loop-candidate : goal.decreases-loop-candidate
decreases-loop-candidate l = after l.candidate
