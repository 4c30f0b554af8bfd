-- A raised count has risen.
use Rattle.std.proofs.Common.{◌≡◌, ◌≤◌, ℕ, Err, arith}
use Rattle.cli_io.specs.Faults.{risen, Rose, HasCause}

pub rises : (before now : ℕ) → now ≡ risen before → Rose before now
rises before now e = omega arith

pub raised_cause : {T E : Type 0} (before now : ℕ) (error : E) → before ≤ now → now ≡ risen before → HasCause {T = T} {E = E} before now (Err error)
raised_cause before now error h e = record { later = h; failed = rises before now e }

pub raised_cause_later : {T E : Type 0} (start before now : ℕ) (error : E) → before ≡ start → before ≤ now → now ≡ risen before → HasCause {T = T} {E = E} start now (Err error)
raised_cause_later start before now error same h e = record { later = omega arith; failed = omega (arith, rises before now e) }
