-- What each number gives, one by one.
use Rattle.std.proofs.Common.{◌≡◌, ℕ, suc, ◌+◌, ◌++◌, List, ap, append_assoc, arith, sym, ◌∙◌}
use Rattle.cli_gen.specs.Pieces.{each}

pub each_step : {A : Type 0} (given : ℕ → List A) (k : ℕ) → each given (k + 1) ≡ each given k ++ given k
each_step given k =
    let e : k + 1 ≡ suc k = omega arith in
    ap (each given) e

-- one number more behind what stood there at first
pub one_more : {A : Type 0} (first all next : List A) (given : ℕ → List A) (k : ℕ) → all ≡ first ++ each given k → next ≡ all ++ given k → next ≡ first ++ each given (k + 1)
one_more {A} first all next given k e f =
    f ∙ ap (λ (l : List A). l ++ given k) e ∙ append_assoc first (each given k) (given k) ∙ ap (λ (l : List A). first ++ l) (sym (each_step given k))
