-- Lemmas on new uses, that speak of no pass.
use Rattle.std.proofs.Common.{◌≡◌, inl, inr, ℕ, sym, ap}
use Rattle.std.specs.Prelude.{Option, Some, None, option_to_list}
use Rattle.run_laws.specs.flow_solver.Paths.{IsListed}

-- ---- what a rule on names says of locals

pub some_local : (o : Option ℕ) (u : ℕ) → IsListed u (option_to_list o) → o ≡ Some u
some_local None u h = absurd h
some_local (Some n) u (inl e) = ap (λ (k : ℕ). Some k) (sym e)
some_local (Some n) u (inr h) = absurd h
