use Rattle.std.proofs.Common.{◌≡◌, ◌<◌, ◌*◌, ◌^◌, drop}
use Rattle.run_memory.specs.Memory.{number_of}
use Rattle.run_memory.proofs.Reading.{above}
use Rattle.run_memory.proofs.decoded.number_of.Given as goal

abbrev pub invariant-loop-k : goal.invariant-loop-k
invariant-loop-k l = record {
  rest : number_of l.bytes ≡ above l.k l.number (number_of (drop l.k l.bytes));
  below : l.number < 2 ^ (8 * l.k);
}
