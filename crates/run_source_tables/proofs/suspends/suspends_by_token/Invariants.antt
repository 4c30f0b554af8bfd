use Rattle.std.proofs.Common.{◌≤◌, length}
use Rattle.run_source_tables.proofs.Tokens.{HasFrom}
use Rattle.run_source_tables.proofs.suspends.suspends_by_token.Given as goal

abbrev pub invariant-loop-block : goal.invariant-loop-block
invariant-loop-block l = record { within : l.block ≤ length l.blocks; noted : HasFrom l.blocks l.block l.table }

abbrev pub decreases-loop-block : goal.decreases-loop-block
decreases-loop-block l = l.block
