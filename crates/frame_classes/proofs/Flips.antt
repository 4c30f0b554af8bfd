-- The bits that a word hasn't.
use Rattle.std.proofs.Common.{◌≡◌, ℕ, ◌+◌, ◌%◌, ◌<◌, ◌∙◌, ap, ⊎_elim, arith}
use Rattle.std.specs.Prelude.{◌⊎◌, bit_xor}
use Rattle.std.specs.Int.{bit_at}
use Rattle.std.proofs.lemmas.Bool.{cases_eq}
use Rattle.std.proofs.lemmas.Nat.Bits.{bit_at_ones, bit_at_xor, bit_at-lt}
use Rattle.flow_bits.specs.Bits.{HasBit}
use Rattle.frame_classes.specs.Rows.{all_bits, others}

flipped : (w c : ℕ) → c < 64 → bit_at (bit_xor w all_bits) c ≡ (bit_at w c + 1) % 2
flipped w c lt = bit_at_xor w all_bits c ∙ ap (λ (x : ℕ). (bit_at w c + x) % 2) (bit_at_ones 64 c lt)

pub other_bit : (w c : ℕ) → c < 64 → (HasBit w c → ⊥) → HasBit (others w) c
other_bit w c lt never =
    let at = flipped w c lt in
    let small = bit_at-lt w c in
    ⊎_elim (λ one. absurd (never one)) (λ other. let is_zero : bit_at w c ≡ 0 = omega (arith, small, other) in at ∙ ap (λ (x : ℕ). (x + 1) % 2) is_zero) (cases_eq (bit_at w c) 1)

pub no_other : (w c : ℕ) → c < 64 → HasBit (others w) c → HasBit w c → ⊥
no_other w c lt h has =
    let at : bit_at (bit_xor w all_bits) c ≡ 0 = flipped w c lt ∙ ap (λ (x : ℕ). (x + 1) % 2) has in
    absurd (omega (arith, at, h))

pub bit_or_not : (w c : ℕ) → HasBit w c ⊎ (HasBit w c → ⊥)
bit_or_not w c = cases_eq (bit_at w c) 1

pub all_bit : (c : ℕ) → c < 64 → HasBit all_bits c
all_bit c lt = bit_at_ones 64 c lt
