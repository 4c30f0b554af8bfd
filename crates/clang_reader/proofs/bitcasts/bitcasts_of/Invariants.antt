use Rattle.std.proofs.Common.{◌≡◌, ◌-◌}
use Rattle.clang_tokens.specs.Lines.{lines}
use Rattle.clang_reader.specs.Bitcasts.{bitcasts_of, settled}
use Rattle.clang_reader.proofs.bitcasts.bitcasts_of.Given as goal

abbrev pub invariant-loop : goal.invariant-loop
invariant-loop l = settled (24 - l.counter) l.bitcasts.all ≡ bitcasts_of (lines l.text)
