-- What the operations on integers give. Each is given on whole numbers.
use Rattle.std.specs.Prelude.{ℕ, pred, Bool, true, false, not, ℤ, pos, negsuc, nat_lt, nat_le, bit_and, bit_or, bit_xor, int_lt, int_le, int_div, int_rem, Ok, Err, Result, ◌+◌, ◌-◌, ◌*◌, ◌/◌, ◌%◌, ◌^◌, ◌&&◌, ◌||◌, ◌+ℤ◌, ◌-ℤ◌, ◌*ℤ◌, if◌then◌else◌, ◌==◌}
use Rattle.ir_base.specs.declared.cause.Cause.{Cause}
use Rattle.ir_base.specs.declared.outcome.Word.{Word}
use Rattle.ir_base.specs.declared.ops.BinOp.{BinOp}
use Rattle.ir_base.specs.declared.ops.CastOp.{CastOp}
use Rattle.ir_base.specs.declared.ops.Flags.{Flags}
use Rattle.ir_base.specs.declared.ops.Pred.{Pred}
use Rattle.run_ints.specs.declared.num.Num.{Num}
use Rattle.run_ints.specs.declared.num.Num.TheVariants.{Poison, Is}

-- the number of n with its sign, n being the bits of a word of w bits
abbrev pub signed_of : ℕ → ℕ → ℤ
signed_of w n = if nat_lt (2 * n) (2 ^ w) then pos n else negsuc (2 ^ w - 1 - n)

-- what is left of a whole number in w bits
abbrev pub bits_of : ℕ → ℤ → ℕ
bits_of w (pos n) = n % 2 ^ w
bits_of w (negsuc n) = 2 ^ w - 1 - n % 2 ^ w

abbrev pub word_of : ℕ → ℤ → Word
word_of w z = record { width = w; bits = bits_of w z }

-- from 0 to 2^w - 1
abbrev pub fits_unsigned : ℕ → ℤ → Bool
fits_unsigned w (pos n) = nat_lt n (2 ^ w)
fits_unsigned w (negsuc n) = false

-- from -2^(w-1) to 2^(w-1) - 1
abbrev pub fits_signed : ℕ → ℤ → Bool
fits_signed w (pos n) = nat_lt (2 * n) (2 ^ w)
fits_signed w (negsuc n) = nat_lt (2 * n) (2 ^ w)

abbrev pub poison_if : Bool → Num → Num
poison_if true n = Poison
poison_if false n = n

-- a result that wraps, given without and with signs, or poison where nuw or nsw doesn't hold
abbrev pub wrapped : ℕ → Flags → ℤ → ℤ → Num
wrapped w flags unsigned signed =
    poison_if ((flags.nuw && not (fits_unsigned w unsigned)) || (flags.nsw && not (fits_signed w signed)))
    (Is (word_of w unsigned))

-- a result, or poison where it was to be exact and there is a rest
abbrev pub exactly : ℕ → Flags → ℕ → ℤ → Num
exactly w flags rest z = poison_if (flags.exact && not (rest == 0)) (Is (word_of w z))

-- a whole number divided by 2^k, rounded down
abbrev pub shifted_down : ℤ → ℕ → ℤ
shifted_down (pos n) k = pos (n / 2 ^ k)
shifted_down (negsuc n) k = negsuc (n / 2 ^ k)

-- the operations on words of w bits; of a divisor it is known that it may divide
abbrev pub operation : BinOp → Flags → ℕ → ℕ → ℕ → Num
operation BinOp.Add flags w a b = wrapped w flags (pos (a + b)) (signed_of w a +ℤ signed_of w b)
operation BinOp.Sub flags w a b = wrapped w flags (pos a -ℤ pos b) (signed_of w a -ℤ signed_of w b)
operation BinOp.Mul flags w a b = wrapped w flags (pos (a * b)) (signed_of w a *ℤ signed_of w b)
operation BinOp.Shl flags w a b = poison_if (nat_le w b) (wrapped w flags (pos (a * 2 ^ b)) (signed_of w a *ℤ pos (2 ^ b)))
operation BinOp.UDiv flags w a b = exactly w flags (a % b) (pos (a / b))
operation BinOp.SDiv flags w a b = exactly w flags (bits_of w (int_rem (signed_of w a) (signed_of w b))) (int_div (signed_of w a) (signed_of w b))
operation BinOp.LShr flags w a b = poison_if (nat_le w b) (exactly w flags (a % 2 ^ b) (pos (a / 2 ^ b)))
operation BinOp.AShr flags w a b = poison_if (nat_le w b) (exactly w flags (a % 2 ^ b) (shifted_down (signed_of w a) b))
operation BinOp.URem flags w a b = Is (word_of w (pos (a % b)))
operation BinOp.SRem flags w a b = Is (word_of w (int_rem (signed_of w a) (signed_of w b)))
operation BinOp.And flags w a b = Is (word_of w (pos (bit_and a b)))
operation BinOp.Or flags w a b = poison_if (flags.disjoint && not (bit_and a b == 0)) (Is (word_of w (pos (bit_or a b))))
operation BinOp.Xor flags w a b = Is (word_of w (pos (bit_xor a b)))

abbrev pub is_division : BinOp → Bool
is_division BinOp.UDiv = true
is_division BinOp.SDiv = true
is_division BinOp.URem = true
is_division BinOp.SRem = true
is_division _ = false

abbrev pub is_signed_division : BinOp → Bool
is_signed_division BinOp.SDiv = true
is_signed_division BinOp.SRem = true
is_signed_division _ = false

-- poison makes poison
abbrev pub computed : BinOp → Flags → Num → Num → Num
computed op flags Poison b = Poison
computed op flags (Is x) Poison = Poison
computed op flags (Is x) (Is y) = operation op flags x.width x.bits y.bits

-- of the signed divisions, those by -1
abbrev pub divides_by_minus_one : BinOp → Word → Bool
divides_by_minus_one op y = is_signed_division op && (y.bits == 2 ^ y.width - 1)

-- a dividend that division by -1 doesn't allow: poison and the least value
abbrev pub is_least : Num → Bool
is_least Poison = true
is_least (Is x) = 2 * x.bits == 2 ^ x.width

abbrev pub divided : BinOp → Flags → Num → Num → Result Num Cause
divided op flags a Poison = Err Cause.Poison
divided op flags a (Is y) =
    if (y.bits == 0) || (divides_by_minus_one op y && is_least a)
    then Err Cause.Div
    else Ok (computed op flags a (Is y))

-- the binary operations
abbrev pub binary : BinOp → Flags → Num → Num → Result Num Cause
binary op flags a b = if is_division op then divided op flags a b else Ok (computed op flags a b)

abbrev pub holds : Pred → ℕ → ℕ → ℕ → Bool
holds Pred.Eq w a b = a == b
holds Pred.Ne w a b = not (a == b)
holds Pred.Ugt w a b = nat_lt b a
holds Pred.Uge w a b = nat_le b a
holds Pred.Ult w a b = nat_lt a b
holds Pred.Ule w a b = nat_le a b
holds Pred.Sgt w a b = int_lt (signed_of w b) (signed_of w a)
holds Pred.Sge w a b = int_le (signed_of w b) (signed_of w a)
holds Pred.Slt w a b = int_lt (signed_of w a) (signed_of w b)
holds Pred.Sle w a b = int_le (signed_of w a) (signed_of w b)

-- an i1
abbrev pub truth : Bool → Word
truth true = record { width = 1; bits = 1 }
truth false = record { width = 1; bits = 0 }

abbrev pub icmp : Pred → Num → Num → Num
icmp pred Poison b = Poison
icmp pred (Is x) Poison = Poison
icmp pred (Is x) (Is y) = Is (truth (holds pred x.width x.bits y.bits))

-- a cast to a width; nneg is the flag of zext
abbrev pub cast_word : CastOp → Bool → Word → ℕ → Num
cast_word CastOp.Trunc nneg x to = Is (word_of to (pos x.bits))
cast_word CastOp.Zext nneg x to = poison_if (nneg && not (fits_signed x.width (pos x.bits))) (Is (word_of to (pos x.bits)))
cast_word CastOp.Sext nneg x to = Is (word_of to (signed_of x.width x.bits))

abbrev pub cast : CastOp → Bool → Num → ℕ → Num
cast op nneg Poison to = Poison
cast op nneg (Is x) to = cast_word op nneg x to

abbrev pub select : Num → Num → Num → Num
select Poison a b = Poison
select (Is c) a b = if c.bits == 1 then a else b
