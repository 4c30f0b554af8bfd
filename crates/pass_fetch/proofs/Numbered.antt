-- New names one by one.
use Rattle.std.proofs.Common.{◌≡◌, ℕ, suc, ◌+◌, ◌∷◌, ◌++◌, List, [], ap, arith}
use Rattle.ir_model.specs.Names.{numbered}
use Rattle.pass_fetch.specs.Blocks.{numbered_names}

pub numbered_names_step : (word : List ℕ) (k : ℕ) → numbered_names word (k + 1) ≡ numbered_names word k ++ numbered word k ∷ []
numbered_names_step word k =
    let e : k + 1 ≡ suc k = omega arith in
    ap (numbered_names word) e
