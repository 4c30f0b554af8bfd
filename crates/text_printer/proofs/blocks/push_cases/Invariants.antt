use Rattle.std.proofs.Common.{◌≡◌, ◌++◌, drop}
use Rattle.text_canonical.specs.canonical.Blocks.{cases_text}
use Rattle.text_printer.proofs.blocks.push_cases.Given as goal

abbrev pub invariant-loop-case : goal.invariant-loop-case
invariant-loop-case l = l.out.items ++ cases_text l.names (drop l.case-index l.cases) ≡ l.initial.out.items ++ cases_text l.names l.cases
