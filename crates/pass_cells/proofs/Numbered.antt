-- The cells of links one by one.
use Rattle.std.proofs.Common.{◌≡◌, ℕ, suc, ◌+◌, ◌∷◌, ◌++◌, [], ap, arith}
use Rattle.ir_model.specs.Ty.{int}
use Rattle.pass_cells.specs.Links.{link_name}
use Rattle.pass_cells.specs.Moves.{cell_alloca}
use Rattle.pass_cells.specs.Written.{link_allocas}

pub link_allocas_step : (first count i : ℕ) → link_allocas first count (i + 1) ≡ link_allocas first count i ++ cell_alloca (link_name first count i) (int 64) ∷ []
link_allocas_step first count i =
    let e : i + 1 ≡ suc i = omega arith in
    ap (link_allocas first count) e
