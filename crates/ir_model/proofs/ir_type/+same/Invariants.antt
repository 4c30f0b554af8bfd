use Rattle.ir_model.specs.Ty.{ty_size, tys_size, to_tys}
use Rattle.ir_model.proofs.ir_type.+same.Given as goal

abbrev pub decreases-IrType::is_same_type : goal.decreases-IrType::is_same_type
decreases-IrType::is_same_type l = ty_size l.self.now

abbrev pub decreases-are_same : goal.decreases-are_same
decreases-are_same l = tys_size (to_tys l.a.now)
