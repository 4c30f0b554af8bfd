use Rattle.std.proofs.Common.{◌≡◌, ◌++◌, drop}
use Rattle.pass_exits.specs.ExitBlocks.{exit_cases}
use Rattle.pass_exits.proofs.terms.exit_cases.Given as goal

abbrev pub invariant-loop-case : goal.invariant-loop-case
invariant-loop-case l = l.all ++ exit_cases l.function l.at l.next (drop l.case-index l.cases) ≡ exit_cases l.function l.at l.first l.cases
