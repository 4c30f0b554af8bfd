use Rattle.std.proofs.Common.{◌≡◌, replicate}
use Rattle.ir_model.specs.Ty.{ptr}
use Rattle.pass_cells.proofs.value_types.pointers.Given as goal

abbrev pub invariant-loop : goal.invariant-loop
invariant-loop l = l.all ≡ replicate l.counter ptr
