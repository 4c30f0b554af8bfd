-- Lemmas on values, that speak of no pass.
use Rattle.std.proofs.Common.{◌≡◌, inl, inr, ℕ, suc, List, [], ◌∷◌, sym, ap}
use Rattle.std.specs.Prelude.{Some, slice_get}
use Rattle.run_laws.specs.flow_solver.Paths.{IsListed}
use Rattle.run_laws.specs.ir_model.declared.instr.Instr.{Instr}

-- ---- a cell is none of the values

pub listed_at : (xs : List Instr) (x : Instr) → IsListed x xs → (k : ℕ) × (slice_get xs k ≡ Some x)
listed_at [] x l = absurd l
listed_at (y ∷ ys) x (inl e) = (0, ap (λ (z : Instr). Some z) (sym e))
listed_at (y ∷ ys) x (inr l) = let r = listed_at ys x l in (suc r.0, r.1)
