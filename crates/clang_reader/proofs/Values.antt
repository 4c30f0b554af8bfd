-- A number above 999 isn't read further.
use Rattle.std.proofs.Common.{◌≡◌, ℕ, ◌<◌, Bool, true, false, List, [], ◌∷◌, refl, sym, ◌∙◌, arith}
use Rattle.std.specs.Prelude.{nat_le}
use Rattle.std.proofs.lemmas.Bool.Decides.{nat_tests}
use Rattle.clang_reader.specs.Forms.{value_of}

above : (v : ℕ) → 999 < v → nat_le v 999 ≡ false
above v h = grind (arith, nat_tests)

stays : (v : ℕ) (ds : List ℕ) → 999 < v → value_of v ds ≡ v
stays v [] h = refl
stays v (d ∷ ds) h = rw (above v h) refl

pub large_stays : (v w : ℕ) (ds : List ℕ) → 999 < v → value_of v ds ≡ w → v ≡ w
large_stays v w ds h e = sym (stays v ds h) ∙ e
