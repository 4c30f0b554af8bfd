-- The number with its sign of a word whose width is more than its bits need.
use Rattle.std.proofs.Common.{◌≡◌, ℕ, ◌<◌, ◌≤◌, ◌*◌, ◌^◌, pos, arith, refl}
use Rattle.std.proofs.Math.Pow.{pow_mono}
use Rattle.run_ints.specs.Numbers.{signed_of}

pub of_wide : (w n : ℕ) → 64 < w → n < 2 ^ 64 → pos n ≡ signed_of w n
of_wide w n wide below =
    let h : 2 ^ 65 ≤ 2 ^ w = pow_mono {i = 65} {j = w} (omega (arith, wide)) in
    let e : 2 ^ 65 ≡ 2 * 2 ^ 64 = refl in
    let lt : 2 * n < 2 ^ w = omega (arith, h, e, below) in
    grind (arith, lt)
