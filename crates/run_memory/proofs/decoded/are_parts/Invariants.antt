use Rattle.std.proofs.Common.{◌≡◌, drop}
use Rattle.run_memory.specs.Memory.{are_parts}
use Rattle.run_memory.proofs.decoded.are_parts.Given as goal

abbrev pub invariant-loop-k : goal.invariant-loop-k
invariant-loop-k l = are_parts l.p 0 l.bytes ≡ are_parts l.p l.k (drop l.k l.bytes)
