use Rattle.std.proofs.Common.{◌≤◌, length}
use Rattle.run_source_tables.proofs.Tokens.{NotedFrom}
use Rattle.run_source_tables.proofs.suspends.note_block.Given as goal

abbrev pub invariant-loop-at : goal.invariant-loop-at
invariant-loop-at l = record { within : l.at ≤ length l.instrs; noted : NotedFrom l.block l.instrs l.initial.table l.at l.table }

abbrev pub decreases-loop-at : goal.decreases-loop-at
decreases-loop-at l = l.at
