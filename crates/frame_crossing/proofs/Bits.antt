-- Bits of words, and the bit of one value in its chunk.
use Rattle.std.proofs.Common.{◌≡◌, ℕ, ◌+◌, ◌/◌, ◌%◌, ◌<◌, ◌⊎◌, Bool, true, false, List, Some, None, Option, refl, sym, ap, ◌∙◌, subst, ⊎_elim, inl, inr, arith, eq-eqb}
use Rattle.std.specs.Prelude.{bit_and, bit_or, bit_xor, slice_get, ◌==◌}
use Rattle.std.specs.Int.{bit_at}
use Rattle.std.proofs.lemmas.Bool.{cases_eq, cases_lt, eqb-true}
use Rattle.std.proofs.lemmas.Nat.Bits.{bit_at_and, bit_at_or, bit_at_ones, bit_at_xor, bit_at-lt, bit_at-pow_other, bit_at-pow_same, bit_at-zero}
use Rattle.flow_bits.specs.Bits.{HasBit}
use Rattle.rule_uses.specs.Questions.{IsNumbering, all_bits, bit_if, bit_in, value_word, word_of_bit}
use Rattle.flow_solver.proofs.Lists.{same_place}
use Rattle.frame_crossing.specs.Words.{without}

pub no_bit : (c : ℕ) → HasBit 0 c → ⊥
no_bit c has = let none = bit_at-zero c in absurd (omega arith)

pub left_bit : (a b c : ℕ) → HasBit a c → HasBit (bit_or a b) c
left_bit a b c h = let at = bit_at_or a b c in let lb = bit_at-lt b c in omega (arith, at, h, lb)

pub right_bit : (a b c : ℕ) → HasBit b c → HasBit (bit_or a b) c
right_bit a b c h = let at = bit_at_or a b c in let la = bit_at-lt a c in omega (arith, at, h, la)

pub one_bit : (a b c : ℕ) → HasBit (bit_or a b) c → HasBit a c ⊎ HasBit b c
one_bit a b c h =
    let at = bit_at_or a b c in
    let la = bit_at-lt a c in
    let lb = bit_at-lt b c in
    ⊎_elim (λ less. inr (omega (arith, at, la, lb, h, less))) (λ more. inl (omega (arith, at, la, lb, h, more))) (cases_lt (bit_at a c) (bit_at b c))

pub both_bits : (a b c : ℕ) → HasBit (bit_and a b) c → HasBit a c × HasBit b c
both_bits a b c h =
    let at = bit_at_and a b c in
    let la = bit_at-lt a c in
    let lb = bit_at-lt b c in
    (omega (arith, at, la, lb, h), omega (arith, at, la, lb, h))

pub common_bit : (a b c : ℕ) → HasBit a c → HasBit b c → HasBit (bit_and a b) c
common_bit a b c ha hb = let at = bit_at_and a b c in omega (arith, at, ha, hb)

flipped : (w c : ℕ) → c < 64 → bit_at (bit_xor w all_bits) c ≡ (bit_at w c + 1) % 2
flipped w c lt = bit_at_xor w all_bits c ∙ ap (λ (x : ℕ). (bit_at w c + x) % 2) (bit_at_ones 64 c lt)

pub flipped_on : (w c : ℕ) → c < 64 → (HasBit w c → ⊥) → HasBit (bit_xor w all_bits) c
flipped_on w c lt never =
    let at = flipped w c lt in
    let small = bit_at-lt w c in
    ⊎_elim (λ one. absurd (never one)) (λ other. let is_zero : bit_at w c ≡ 0 = omega (arith, small, other) in at ∙ ap (λ (x : ℕ). (x + 1) % 2) is_zero) (cases_eq (bit_at w c) 1)

pub flipped_off : (w c : ℕ) → c < 64 → HasBit (bit_xor w all_bits) c → HasBit w c → ⊥
flipped_off w c lt h has =
    let at : bit_at (bit_xor w all_bits) c ≡ 0 = flipped w c lt ∙ ap (λ (x : ℕ). (x + 1) % 2) has in
    absurd (omega (arith, at, h))

pub in_without : (a b c : ℕ) → c < 64 → HasBit (without a b) c → HasBit a c × (HasBit b c → ⊥)
in_without a b c lt h = let two = both_bits a (bit_xor b all_bits) c h in (two.0, flipped_off b c lt two.1)

pub still_without : (a b c : ℕ) → c < 64 → HasBit a c → (HasBit b c → ⊥) → HasBit (without a b) c
still_without a b c lt ha nb = common_bit a (bit_xor b all_bits) c ha (flipped_on b c lt nb)

pub bit_or_not : (w c : ℕ) → HasBit w c ⊎ (HasBit w c → ⊥)
bit_or_not w c = cases_eq (bit_at w c) 1

pub all_bit : (c : ℕ) → c < 64 → HasBit all_bits c
all_bit c lt = bit_at_ones 64 c lt

-- ---- the bit of a value

-- the bit is this value's alone
pub record IsOwn (numbers : List (Option ℕ)) (chunk v c : ℕ) : Type 0 where
  pub small : c < 64
  pub own : HasBit (value_word numbers chunk v) c
  pub only : (w : ℕ) → HasBit (value_word numbers chunk w) c → w ≡ v

if_true : (b : Bool) (c d : ℕ) → HasBit (word_of_bit (bit_if b c)) d → (b ≡ true) × (d ≡ c)
if_true false c d h = absurd (no_bit d h)
if_true true c d h = (refl, ⊎_elim (λ e. e) (λ other. let none = bit_at-pow_other c d other in absurd (omega (arith, none, h))) (cases_eq d c))

same_parts : (k j chunk : ℕ) → k / 64 ≡ chunk → j / 64 ≡ chunk → k % 64 ≡ j % 64 → k ≡ j
same_parts k j chunk a b e = omega arith

pub own_bit : (names : ℕ) (numbers : List (Option ℕ)) (values : List ℕ) → IsNumbering names numbers values → (chunk v k : ℕ) → slice_get numbers v ≡ Some (Some k) → k / 64 ≡ chunk → IsOwn numbers chunk v (k % 64)
own_bit names numbers values numbering chunk v k at chunk_is = record {
  small = omega arith;
  own = subst (λ (w : ℕ). HasBit w (k % 64))
      (sym (ap (λ (o : Option (Option ℕ)). word_of_bit (bit_in o chunk)) at ∙ ap (λ (b : Bool). word_of_bit (bit_if b (k % 64))) (eq-eqb (k / 64) chunk chunk_is)))
      (bit_at-pow_same (k % 64));
  only = λ w h. other_in w (slice_get numbers w) refl h;
}
  where
    other_in : (w : ℕ) (o : Option (Option ℕ)) → slice_get numbers w ≡ o → HasBit (word_of_bit (bit_in o chunk)) (k % 64) → w ≡ v
    other_in w None e h = absurd (no_bit (k % 64) h)
    other_in w (Some None) e h = absurd (no_bit (k % 64) h)
    other_in w (Some (Some j)) e h =
        let two = if_true (j / 64 == chunk) (j % 64) (k % 64) h in
        let same = same_parts k j chunk chunk_is (eqb-true (j / 64) chunk two.0) two.1 in
        same_place (slice_get values j) w v (numbering.asked w j e) (ap (slice_get values) (sym same) ∙ numbering.asked v k at)
