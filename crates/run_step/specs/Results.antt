-- Results in sequence.
use Rattle.std.specs.Prelude.{Bool, true, false, Some, None, Ok, Err, Option, Result}
use Rattle.ir_paths.specs.ir_base.declared.cause.Cause.{Cause}

abbrev pub and_then : {A B : Type 0} → Result A Cause → (A → Result B Cause) → Result B Cause
and_then (Err cause) f = Err cause
and_then (Ok a) f = f a

abbrev pub ok_if : {A : Type 0} → Bool → Cause → A → Result A Cause
ok_if true cause a = Ok a
ok_if false cause a = Err cause

abbrev pub found : {A : Type 0} → Cause → Option A → Result A Cause
found cause None = Err cause
found cause (Some a) = Ok a
