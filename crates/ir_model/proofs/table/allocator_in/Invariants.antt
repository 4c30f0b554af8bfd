use Rattle.std.proofs.Common.{◌≡◌, drop}
use Rattle.ir_model.specs.Table.{allocator_in}
use Rattle.ir_model.proofs.table.allocator_in.Given as goal

abbrev pub invariant-loop-a : goal.invariant-loop-a
invariant-loop-a l = allocator_in l.list l.text ≡ allocator_in (drop l.a-index l.list) l.text
