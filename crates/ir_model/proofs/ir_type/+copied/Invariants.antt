use Rattle.ir_model.specs.Ty.{ty_size, tys_size, to_tys}
use Rattle.std.proofs.Common.{◌≡◌, take}
use Rattle.ir_model.proofs.ir_type.+copied.Given as goal

abbrev pub invariant-copied_all-loop-t : goal.invariant-copied_all-loop-t
invariant-copied_all-loop-t l = l.all.items ≡ take l.t-index l.types

abbrev pub decreases-IrType::copied_within : goal.decreases-IrType::copied_within
decreases-IrType::copied_within l = ty_size l.self.now

abbrev pub decreases-copied_all : goal.decreases-copied_all
decreases-copied_all l = tys_size (to_tys l.types.now)
