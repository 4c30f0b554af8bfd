use Rattle.std.proofs.Common.{◌≡◌, ◌++◌, drop}
use Rattle.pass_edges.specs.Edges.{case_edges}
use Rattle.pass_edges.proofs.edges.push_cases.Given as goal

abbrev pub invariant-loop-case : goal.invariant-loop-case
invariant-loop-case l = l.all ++ case_edges l.flags l.resumes l.from l.next (drop l.case-index l.cases) ≡ l.initial.all ++ case_edges l.flags l.resumes l.from l.first l.cases
