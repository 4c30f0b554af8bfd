use Rattle.std.proofs.Common.{◌≡◌, ◌≤◌, ◌-◌, length, drop}
use Rattle.text_symbols.specs.Listing.{symbols_of}
use Rattle.text_symbols.proofs.Said.{before}
use Rattle.text_symbols.proofs.listing.symbols_of.Given as goal

abbrev pub invariant-loop-token : goal.invariant-loop-token
invariant-loop-token l = (symbols_of l.text ≡ before l.symbols (symbols_of (drop l.at l.text))) × (l.at ≤ length l.text)

abbrev pub decreases-loop-token : goal.decreases-loop-token
decreases-loop-token l = length l.text - l.at
