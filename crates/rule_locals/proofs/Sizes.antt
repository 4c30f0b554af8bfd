-- Sizes that are cut off are within the same limits.
use Rattle.std.proofs.Common.{◌≡◌, ℕ, ◌-◌, ◌<◌, Bool, true, false, ◌&&◌, refl, ap, sym, ◌∙◌, arith}
use Rattle.std.specs.Prelude.{nat_le, ◌^◌}
use Rattle.std.proofs.lemmas.Bool.{leb-true, leb-false, lt-leb}
use Rattle.rule_locals.specs.Extents.{is_sized}
use Rattle.ir_sizes.specs.Cut.{capped}

above : (most n : ℕ) → most < n → is_sized most n ≡ false
above most n lt = by (nat_le 1 n) (lt-leb n most lt)
  where
    by : (b : Bool) → nat_le n most ≡ false → (b && nat_le n most) ≡ false
    by true e = e
    by false e = refl

sized-by : (most n : ℕ) (b : Bool) → nat_le n (2 ^ 64 - 1) ≡ b → most < 2 ^ 32 → is_sized most (capped n) ≡ is_sized most n
sized-by most n true e lt =
    let le = leb-true n (2 ^ 64 - 1) e in
    let same : capped n ≡ n = omega arith in ap (is_sized most) same
sized-by most n false e lt =
    let gt = leb-false n (2 ^ 64 - 1) e in
    above most (capped n) (omega arith) ∙ sym (above most n (omega arith))

pub sized_capped : (most n : ℕ) → most < 2 ^ 32 → is_sized most (capped n) ≡ is_sized most n
sized_capped most n lt = sized-by most n (nat_le n (2 ^ 64 - 1)) refl lt
