-- Lemmas on calls, that speak of no pass.
use Rattle.std.proofs.Common.{◌≡◌, ℕ, zero, suc, length, refl, ap}
use Rattle.std.specs.Prelude.{None, Option, replicate}
use Rattle.ir_laws.specs.run_memory.declared.pointer.Value.{Value}

-- ---- the values at the entry

pub length_none : (n : ℕ) → length (replicate {A = Option Value} n None) ≡ n
length_none zero = refl
length_none (suc n) = ap suc (length_none n)
