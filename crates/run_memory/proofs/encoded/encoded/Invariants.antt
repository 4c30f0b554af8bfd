use Rattle.std.proofs.Common.{◌≡◌, take}
use Rattle.arrayvec.specs.ArrayVec.{array_vec_len}
use Rattle.run_memory.specs.Memory.{encode}
use Rattle.run_memory.proofs.encoded.encoded.Given as goal

abbrev pub invariant-loop-k : goal.invariant-loop-k
invariant-loop-k l = record {
  told : l.bytes.items ≡ take l.k (encode l.len l.v);
  long : array_vec_len l.bytes ≡ l.k;
}
