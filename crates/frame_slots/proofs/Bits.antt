-- Bits of words.
use Rattle.std.proofs.Common.{ℕ, ◌⊎◌, ⊎_elim, inl, inr, arith}
use Rattle.std.specs.Prelude.{bit_and, bit_or}
use Rattle.std.specs.Int.{bit_at}
use Rattle.std.proofs.lemmas.Bool.{cases_lt}
use Rattle.std.proofs.lemmas.Nat.Bits.{bit_at_and, bit_at_or, bit_at-lt, bit_at-zero}
use Rattle.flow_bits.specs.Bits.{HasBit}

pub no_bit : (c : ℕ) → HasBit 0 c → ⊥
no_bit c has = let none = bit_at-zero c in absurd (omega arith)

pub left_bit : (a b c : ℕ) → HasBit a c → HasBit (bit_or a b) c
left_bit a b c h = let at = bit_at_or a b c in let lb = bit_at-lt b c in omega (arith, at, h, lb)

pub right_bit : (a b c : ℕ) → HasBit b c → HasBit (bit_or a b) c
right_bit a b c h = let at = bit_at_or a b c in let la = bit_at-lt a c in omega (arith, at, h, la)

pub one_bit : (a b c : ℕ) → HasBit (bit_or a b) c → HasBit a c ⊎ HasBit b c
one_bit a b c h =
    let at = bit_at_or a b c in
    let la = bit_at-lt a c in
    let lb = bit_at-lt b c in
    ⊎_elim (λ less. inr (omega (arith, at, la, lb, h, less))) (λ more. inl (omega (arith, at, la, lb, h, more))) (cases_lt (bit_at a c) (bit_at b c))

pub both_bits : (a b c : ℕ) → HasBit (bit_and a b) c → HasBit a c × HasBit b c
both_bits a b c h =
    let at = bit_at_and a b c in
    let la = bit_at-lt a c in
    let lb = bit_at-lt b c in
    (omega (arith, at, la, lb, h), omega (arith, at, la, lb, h))

pub common_bit : (a b c : ℕ) → HasBit a c → HasBit b c → HasBit (bit_and a b) c
common_bit a b c ha hb = let at = bit_at_and a b c in omega (arith, at, ha, hb)
