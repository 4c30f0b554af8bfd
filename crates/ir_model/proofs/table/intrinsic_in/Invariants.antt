use Rattle.std.proofs.Common.{◌≡◌, drop}
use Rattle.ir_model.specs.Table.{intrinsic_in}
use Rattle.ir_model.proofs.table.intrinsic_in.Given as goal

abbrev pub invariant-loop-i : goal.invariant-loop-i
invariant-loop-i l = intrinsic_in l.list l.text ≡ intrinsic_in (drop l.i-index l.list) l.text
