use Rattle.std.proofs.Common.{◌≡◌, ◌++◌, ◌-◌}
use Rattle.clang_reader.specs.Written.{byte_stores}
use Rattle.clang_reader.proofs.written.push_stores.Given as goal

abbrev pub invariant-loop-k : goal.invariant-loop-k
invariant-loop-k l = l.out ++ byte_stores l.line l.pointer l.byte l.k (l.count - l.k) ≡ l.initial.out ++ byte_stores l.line l.pointer l.byte 0 l.count
