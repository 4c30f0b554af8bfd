-- The names of saves one by one.
use Rattle.std.proofs.Common.{◌≡◌, ℕ, suc, ◌+◌, ◌∷◌, ◌++◌, [], ap, arith}
use Rattle.pass_early.specs.Early.{save_name, save_names}

pub save_names_step : (k : ℕ) → save_names (k + 1) ≡ save_names k ++ save_name k ∷ []
save_names_step k =
    let e : k + 1 ≡ suc k = omega arith in
    ap save_names e
