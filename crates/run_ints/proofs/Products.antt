-- Numbers with a sign.
use Rattle.std.proofs.Common.{◌≡◌, ◌^◌, ◌≤◌, ℤ, ◌*ℤ◌, arith, FitsSigned, to_z, of_z}
use Rattle.std.specs.Int.{w128}
use Rattle.std.specs.Int.RustNames.{unsigned_abs}
use Rattle.std.proofs.lemmas.Int.{fits_signed_mul, fits_signed_from_abs, to_z-of_z}

pub product_fits : (a b : ℤ) → unsigned_abs a ≤ 2 ^ 63 → unsigned_abs b ≤ 2 ^ 63 → FitsSigned w128 (a *ℤ b)
product_fits a b p q = fits_signed_mul w128 a b (2 ^ 63) (2 ^ 63) p q (omega arith)

-- what the code's product gives
pub product_is : (a b : ℤ) → unsigned_abs a ≤ 2 ^ 63 → unsigned_abs b ≤ 2 ^ 63 → to_z w128 (of_z w128 (to_z w128 (of_z w128 a) *ℤ to_z w128 (of_z w128 b))) ≡ a *ℤ b
product_is a b p q =
    let fa : FitsSigned w128 a = fits_signed_from_abs w128 a (omega arith) in
    let fb : FitsSigned w128 b = fits_signed_from_abs w128 b (omega arith) in
    rw (to_z-of_z w128 a fa, to_z-of_z w128 b fb) (to_z-of_z w128 (a *ℤ b) (product_fits a b p q))
