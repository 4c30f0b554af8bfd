-- Words and numbers as the operations take them.
use Rattle.std.specs.Prelude.{◌≡◌, ℕ, ◌^◌, ◌<◌, ◌≤◌, Ok, Err, Result}
use Rattle.ir_base.specs.declared.cause.Cause.{Cause}
use Rattle.ir_base.specs.declared.outcome.Word.{Word}
use Rattle.run_ints.specs.declared.num.Num.{Num}
use Rattle.run_ints.specs.declared.num.Num.TheVariants.{Poison, Is}

-- a word of at most 64 bits, each number below 2 to its width
pub record IsWord (x : Word) : Type 0 where
  pub narrow : x.width ≤ 64
  pub below : x.bits < 2 ^ x.width

-- poison or a word
abbrev pub IsNum : Num → Type 0
IsNum Poison = Unit {0}
IsNum (Is x) = IsWord x

-- two numbers that are words are of one width
abbrev pub AreOfOneWidth : Num → Num → Type 0
AreOfOneWidth Poison b = Unit {0}
AreOfOneWidth (Is x) Poison = Unit {0}
AreOfOneWidth (Is x) (Is y) = x.width ≡ y.width

-- no word that is 0
abbrev pub IsNonzero : Num → Type 0
IsNonzero Poison = Unit {0}
IsNonzero (Is x) = 0 < x.bits

-- a word of a width
pub record IsWordOf (w : ℕ) (x : Word) : Type 0 where
  pub width : x.width ≡ w
  pub below : x.bits < 2 ^ w

-- poison or a word of a width
abbrev pub IsNumOf : ℕ → Num → Type 0
IsNumOf w Poison = Unit {0}
IsNumOf w (Is x) = IsWordOf w x

abbrev pub IsOkNumOf : ℕ → Result Num Cause → Type 0
IsOkNumOf w (Err c) = Unit {0}
IsOkNumOf w (Ok n) = IsNumOf w n
