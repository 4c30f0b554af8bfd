use Rattle.std.proofs.Common.{◌≡◌, ◌≤◌, ◌-◌, length, drop}
use Rattle.clang_tokens.specs.Listing.{tokens_of}
use Rattle.clang_tokens.proofs.Said.{before}
use Rattle.clang_tokens.proofs.listing.tokens_of.Given as goal

abbrev pub invariant-loop-token : goal.invariant-loop-token
invariant-loop-token l = (tokens_of l.line ≡ before l.tokens (tokens_of (drop l.at l.line))) × (l.at ≤ length l.line)

abbrev pub decreases-loop-token : goal.decreases-loop-token
decreases-loop-token l = length l.line - l.at
