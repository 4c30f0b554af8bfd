-- What holds of the value of the first pass holds of what a call of it gives.
use Rattle.std.proofs.Common.{◌≡◌, sym, subst}
use Rattle.std.specs.Prelude.{Err, IfOk, Ok, Result}
use Rattle.pass_early.specs.Early.{early_module}
use Rattle.ir_model.specs.declared.module.Module.{Module}

pub kept_by : {E : Type 0} (P : Module → Type 0) (m : Module) (r : Result Module E) → IfOk r (λ x. x ≡ early_module m) → P (early_module m) → IfOk r P
kept_by P m (Ok x) is h = subst P (sym is) h
kept_by P m (Err e) is h = is
