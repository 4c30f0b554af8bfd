-- New names one by one.
use Rattle.std.proofs.Common.{◌≡◌, ℕ, suc, ◌+◌, ◌∷◌, ◌++◌, [], ap, arith}
use Rattle.std.specs.Prelude.{codes}
use Rattle.ir_model.specs.Names.{numbered}
use Rattle.pass_split.specs.Parts.{instr_names, names_of_suspend, suspend_names}

pub instr_names_step : (k : ℕ) → instr_names (k + 1) ≡ instr_names k ++ numbered (codes "$c.") k ∷ []
instr_names_step k =
    let e : k + 1 ≡ suc k = omega arith in
    ap instr_names e

pub suspend_names_step : (j : ℕ) → suspend_names (j + 1) ≡ suspend_names j ++ names_of_suspend j
suspend_names_step j =
    let e : j + 1 ≡ suc j = omega arith in
    ap suspend_names e
