-- What is left of a sum in a width is the wrapped sum of what is left of its parts.
use Rattle.std.proofs.Common.{◌≡◌, ℕ, Bool, true, false, nat_lt, if◌then◌else◌, ◌+◌, ◌-◌, ◌*◌, ◌/◌, ◌%◌, ◌^◌, ◌<◌, ℤ, pos, negsuc, arith, refl, sym, ◌∙◌}
use Rattle.std.specs.Prelude.{◌+ℤ◌}
use Rattle.std.specs.Int.{int_rem_euclid}
use Rattle.std.proofs.lemmas.Int.{ints, int_rem_euclid_is}
use Rattle.std.proofs.lemmas.Nat.{pow_pos, div-add-mod'}
use Rattle.std.proofs.Math.Nat.{mod-lt, mod-eq_of_lt, add-mod}
use Rattle.run_ints.specs.Numbers.{signed_of, bits_of}

-- a whole number, moved up by a multiple of 2^w to a natural one
record IsMoved (w : ℕ) (z : ℤ) : Type 0 where
  times : ℕ
  sum : ℕ
  is : z +ℤ pos (times * 2 ^ w) ≡ pos sum

moved : (w : ℕ) (z : ℤ) → IsMoved w z
moved w (pos n) = record { times = 0; sum = n; is = omega (arith, ints) }
moved w (negsuc n) =
    let h : 0 < 2 ^ w = pow_pos w in
    let r : n % 2 ^ w < 2 ^ w = mod-lt n h in
    let e : n / 2 ^ w * 2 ^ w + n % 2 ^ w ≡ n = div-add-mod' n (2 ^ w) in
    let s : (n / 2 ^ w + 1) * 2 ^ w ≡ n / 2 ^ w * 2 ^ w + 2 ^ w = grind arith in
    record { times = n / 2 ^ w + 1; sum = 2 ^ w - 1 - n % 2 ^ w; is = omega (arith, ints) }

bits_of-euclid : (w : ℕ) (z : ℤ) → int_rem_euclid z (pos (2 ^ w)) ≡ pos (bits_of w z)
bits_of-euclid w (pos n) = refl
bits_of-euclid w (negsuc n) = refl

pos_one : (m n : ℕ) → pos m ≡ pos n → m ≡ n
pos_one m n e = cc

-- what is left of a whole number is what is left of any natural one that lies a multiple of 2^w above it
pub bits_of_is : (w : ℕ) (z : ℤ) (k m : ℕ) → z +ℤ pos (k * 2 ^ w) ≡ pos m → bits_of w z ≡ m % 2 ^ w
bits_of_is w z k m e = pos_one _ _ (sym (bits_of-euclid w z) ∙ int_rem_euclid_is z (pos (2 ^ w)) (2 ^ w) k m (pow_pos w) refl e)

moved_rest : (w : ℕ) (z : ℤ) (h : IsMoved w z) → h.sum % 2 ^ w ≡ bits_of w z
moved_rest w z h = sym (bits_of_is w z h.times h.sum h.is)

-- a sum wraps in the same way whether it is taken of whole numbers or of what is left of them
pub bits_of-sum : (w : ℕ) (x y : ℤ) → bits_of w (x +ℤ y) ≡ (bits_of w x + bits_of w y) % 2 ^ w
bits_of-sum w x y =
    let a : IsMoved w x = moved w x in
    let b : IsMoved w y = moved w y in
    let s : (a.times + b.times) * 2 ^ w ≡ a.times * 2 ^ w + b.times * 2 ^ w = grind arith in
    let e : (x +ℤ y) +ℤ pos ((a.times + b.times) * 2 ^ w) ≡ pos (a.sum + b.sum) = omega (arith, ints, a.is, b.is) in
    bits_of_is w (x +ℤ y) (a.times + b.times) (a.sum + b.sum) e ∙ add-mod a.sum b.sum (2 ^ w) ∙ rw (moved_rest w x a, moved_rest w y b) refl

signed-case : (w n : ℕ) (b : Bool) → n < 2 ^ w → bits_of w (if b then pos n else negsuc (2 ^ w - 1 - n)) ≡ n
signed-case w n true h = mod-eq_of_lt h
signed-case w n false h =
    let e : (2 ^ w - 1 - n) % 2 ^ w ≡ 2 ^ w - 1 - n = mod-eq_of_lt (omega arith) in
    rw e (omega arith)

-- a word read with its sign leaves the word
pub bits_of-signed : (w n : ℕ) → n < 2 ^ w → bits_of w (signed_of w n) ≡ n
bits_of-signed w n h = signed-case w n (nat_lt (2 * n) (2 ^ w)) h
