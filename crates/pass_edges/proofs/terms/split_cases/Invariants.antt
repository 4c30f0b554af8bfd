use Rattle.std.proofs.Common.{◌≡◌, ◌++◌, drop}
use Rattle.pass_edges.specs.EdgeBlocks.{split_cases}
use Rattle.pass_edges.proofs.terms.split_cases.Given as goal

abbrev pub invariant-loop-case : goal.invariant-loop-case
invariant-loop-case l = l.all ++ split_cases l.flags l.resumes l.next (drop l.case-index l.cases) ≡ split_cases l.flags l.resumes l.first l.cases
