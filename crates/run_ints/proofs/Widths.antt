-- What the operations give is again a number of its width.
use Rattle.std.proofs.Common.{◌≡◌, ℕ, ◌+◌, ◌*◌, ◌/◌, ◌%◌, ◌^◌, ◌<◌, ◌≤◌, Bool, true, false, ℤ, pos, negsuc, arith, refl, sym, subst, ◌∙◌, bit_and, bit_or, bit_xor, Ok, Err, if◌then◌else◌, ◌==◌}
use Rattle.std.specs.Prelude.{int_div, int_rem, ◌-ℤ◌}
use Rattle.std.proofs.lemmas.Nat.{pow_pos}
use Rattle.std.proofs.Math.Nat.{mod-lt}
use Rattle.ir_base.specs.declared.cause.Cause.{Cause}
use Rattle.ir_base.specs.declared.ops.BinOp.{BinOp}
use Rattle.ir_base.specs.declared.ops.CastOp.{CastOp}
use Rattle.ir_base.specs.declared.ops.Flags.{Flags}
use Rattle.ir_base.specs.declared.ops.Pred.{Pred}
use Rattle.run_ints.specs.Numbers.{signed_of, bits_of, word_of, poison_if, shifted_down, operation, is_division, computed, divided, binary, holds, truth, icmp, cast, select}
use Rattle.run_ints.specs.Words.{IsNum, IsWordOf, IsNumOf, IsOkNumOf, AreOfOneWidth}
use Rattle.run_ints.specs.declared.num.Num.{Num}
use Rattle.run_ints.specs.declared.num.Num.TheVariants.{Poison, Is}

pub bits_of_below : (w : ℕ) (z : ℤ) → bits_of w z < 2 ^ w
bits_of_below w (pos n) = mod-lt n (pow_pos w)
bits_of_below w (negsuc n) = let h : 0 < 2 ^ w = pow_pos w in omega arith

pub IsWordOf-word_of : (w : ℕ) (z : ℤ) → IsWordOf w (word_of w z)
IsWordOf-word_of w z = record { width = refl; below = bits_of_below w z }

poison_if-kept : (w : ℕ) (b : Bool) (n : Num) → IsNumOf w n → IsNumOf w (poison_if b n)
poison_if-kept w true n h = tt
poison_if-kept w false n h = h

word_if-kept : (w : ℕ) (b : Bool) (z : ℤ) → IsNumOf w (poison_if b (Is (word_of w z)))
word_if-kept w b z = poison_if-kept w b (Is (word_of w z)) (IsWordOf-word_of w z)

two_ifs-kept : (w : ℕ) (b c : Bool) (z : ℤ) → IsNumOf w (poison_if b (poison_if c (Is (word_of w z))))
two_ifs-kept w b c z = poison_if-kept w b (poison_if c (Is (word_of w z))) (word_if-kept w c z)

operation-kept : (op : BinOp) (flags : Flags) (w a b : ℕ) → IsNumOf w (operation op flags w a b)
operation-kept BinOp.Add flags w a b = word_if-kept w _ (pos (a + b))
operation-kept BinOp.Sub flags w a b = word_if-kept w _ (pos a -ℤ pos b)
operation-kept BinOp.Mul flags w a b = word_if-kept w _ (pos (a * b))
operation-kept BinOp.Shl flags w a b = two_ifs-kept w _ _ (pos (a * 2 ^ b))
operation-kept BinOp.UDiv flags w a b = word_if-kept w _ (pos (a / b))
operation-kept BinOp.SDiv flags w a b = word_if-kept w _ (int_div (signed_of w a) (signed_of w b))
operation-kept BinOp.LShr flags w a b = two_ifs-kept w _ _ (pos (a / 2 ^ b))
operation-kept BinOp.AShr flags w a b = two_ifs-kept w _ _ (shifted_down (signed_of w a) b)
operation-kept BinOp.URem flags w a b = IsWordOf-word_of w (pos (a % b))
operation-kept BinOp.SRem flags w a b = IsWordOf-word_of w (int_rem (signed_of w a) (signed_of w b))
operation-kept BinOp.And flags w a b = IsWordOf-word_of w (pos (bit_and a b))
operation-kept BinOp.Or flags w a b = word_if-kept w _ (pos (bit_or a b))
operation-kept BinOp.Xor flags w a b = IsWordOf-word_of w (pos (bit_xor a b))

along : (w : ℕ) (v : ℕ) (n : Num) → v ≡ w → IsNumOf v n → IsNumOf w n
along w v n e h = subst {A = ℕ} (λ (u : ℕ). IsNumOf u n) e h

pub computed-kept : (w : ℕ) (op : BinOp) (flags : Flags) (a b : Num) → IsNumOf w a → IsNumOf w b → IsNumOf w (computed op flags a b)
computed-kept w op flags Poison b p q = tt
computed-kept w op flags (Is x) Poison p q = tt
computed-kept w op flags (Is x) (Is y) p q = along w x.width _ p.width (operation-kept op flags x.width x.bits y.bits)

divided-case : (w : ℕ) (c : Bool) (n : Num) → IsNumOf w n → IsOkNumOf w (if c then Err Cause.Div else Ok n)
divided-case w true n h = tt
divided-case w false n h = h

divided-kept : (w : ℕ) (op : BinOp) (flags : Flags) (a b : Num) → IsNumOf w a → IsNumOf w b → IsOkNumOf w (divided op flags a b)
divided-kept w op flags a Poison p q = tt
divided-kept w op flags a (Is y) p q = divided-case w _ _ (computed-kept w op flags a (Is y) p q)

binary-case : (w : ℕ) (d : Bool) (op : BinOp) (flags : Flags) (a b : Num) → IsNumOf w a → IsNumOf w b → IsOkNumOf w (if d then divided op flags a b else Ok (computed op flags a b))
binary-case w true op flags a b p q = divided-kept w op flags a b p q
binary-case w false op flags a b p q = computed-kept w op flags a b p q

-- a binary operation on numbers of a width gives one of that width
pub binary-kept : (w : ℕ) (op : BinOp) (flags : Flags) (a b : Num) → IsNumOf w a → IsNumOf w b → IsOkNumOf w (binary op flags a b)
binary-kept w op flags a b p q = binary-case w (is_division op) op flags a b p q

truth-kept : (b : Bool) → IsWordOf 1 (truth b)
truth-kept true = record { width = refl; below = omega arith }
truth-kept false = record { width = refl; below = omega arith }

-- a comparison gives an i1
pub icmp-kept : (pred : Pred) (a b : Num) → IsNumOf 1 (icmp pred a b)
icmp-kept pred Poison b = tt
icmp-kept pred (Is x) Poison = tt
icmp-kept pred (Is x) (Is y) = truth-kept (holds pred x.width x.bits y.bits)

-- a cast gives a number of the width that it casts to
pub cast-kept : (op : CastOp) (nneg : Bool) (a : Num) (to : ℕ) → IsNumOf to (cast op nneg a to)
cast-kept op nneg Poison to = tt
cast-kept CastOp.Trunc nneg (Is x) to = IsWordOf-word_of to (pos x.bits)
cast-kept CastOp.Zext nneg (Is x) to = word_if-kept to _ (pos x.bits)
cast-kept CastOp.Sext nneg (Is x) to = IsWordOf-word_of to (signed_of x.width x.bits)

select-case : (w : ℕ) (c : Bool) (a b : Num) → IsNumOf w a → IsNumOf w b → IsNumOf w (if c then a else b)
select-case w true a b p q = p
select-case w false a b p q = q

pub select-kept : (w : ℕ) (c a b : Num) → IsNumOf w a → IsNumOf w b → IsNumOf w (select c a b)
select-kept w Poison a b p q = tt
select-kept w (Is c) a b p q = select-case w (c.bits == 1) a b p q

-- numbers of a width of at most 64 bits are what the operations take
pub taken : (w : ℕ) (a : Num) → w ≤ 64 → IsNumOf w a → IsNum a
taken w Poison n h = tt
taken w (Is x) n h =
    let e : x.width ≡ w = h.width in
    record { narrow = omega arith; below = subst {A = ℕ} (λ (u : ℕ). x.bits < 2 ^ u) (sym e) h.below }

pub taken_both : (w : ℕ) (a b : Num) → IsNumOf w a → IsNumOf w b → AreOfOneWidth a b
taken_both w Poison b p q = tt
taken_both w (Is x) Poison p q = tt
taken_both w (Is x) (Is y) p q = p.width ∙ sym q.width
