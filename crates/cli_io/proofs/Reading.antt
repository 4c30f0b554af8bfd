-- What several reads together have taken.
use Rattle.std.proofs.Common.{◌≤◌, ◌+◌, ℕ, List, ◌++◌, Option, length, arith, length-append}
use Rattle.std.specs.Io.KnownBytes.{Consumes}
use Rattle.std.proofs.KnownBytes.{Consumes-trans}
use Rattle.cli_io.specs.Parts.{ConsumesAtMost}

-- what was read, and then at most what the limit leaves
pub at_most_then : (a b c : Option (List ℕ)) (read : List ℕ) (limit most : ℕ) → Consumes a b read → ConsumesAtMost b c most → length read + most ≤ limit → ConsumesAtMost a c limit
at_most_then a b c read limit most first then fits =
    (read ++ then.0, Consumes-trans a b c read then.0 first then.1, omega (arith, length-append read then.0, then.2))
