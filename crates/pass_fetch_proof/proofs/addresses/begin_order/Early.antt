-- Lemmas on early.
use Rattle.std.proofs.Common.{◌≡◌, ℕ, true, List, refl}
use Rattle.std.specs.Prelude.{None, Option, Some, not, slice_get, unwrap_or}
use Rattle.pass_fetch_proof.specs.addresses.rules.Addresses.{lies_in_frame}
use Rattle.pass_addresses.specs.Placing.{is_none}

-- ---- offsets

pub in_frame : (offsets : List (Option ℕ)) (v : ℕ) → lies_in_frame offsets v ≡ true → (d : ℕ) × (slice_get offsets v ≡ Some (Some d))
in_frame offsets v e = on (slice_get offsets v) refl e
  where
    on : (o : Option (Option ℕ)) → slice_get offsets v ≡ o → not (is_none (unwrap_or o None)) ≡ true → (d : ℕ) × (slice_get offsets v ≡ Some (Some d))
    on None h k = absurd (cc)
    on (Some None) h k = absurd (cc)
    on (Some (Some d)) h k = (d, h)
