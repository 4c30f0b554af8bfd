-- What fits eight bits is a byte.
use Rattle.std.proofs.Common.{ℕ, suc, List, [], ◌∷◌, get_or, Fits, w8, arith}
use Rattle.text_canonical.specs.grammar.Bytes.{AreBytes}

pub are_bytes : (bs : List ℕ) → ((i : ℕ) → Fits w8 (get_or bs i 0)) → AreBytes bs
are_bytes [] f = tt
are_bytes (b ∷ bs) f = (omega (arith, f 0), are_bytes bs (λ i. f (suc i)))
