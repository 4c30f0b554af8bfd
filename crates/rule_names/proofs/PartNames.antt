-- A table of names with one name more.
use Rattle.std.proofs.Common.{◌≡◌, ℕ, cond, Bool, true, false, refl, sym, ap, ◌∙◌, Option, Some, None}
use Rattle.std.specs.Prelude.{is_some, ◌||◌}

some_by : (b : Bool) (o : Option ℕ) (at : ℕ) → is_some (cond b (Some at) o) ≡ (b || is_some o)
some_by true o at = refl
some_by false o at = refl

pub one_more : (old new : Option ℕ) (b c : Bool) (at : ℕ) → new ≡ cond b (Some at) old → b ≡ c → is_some new ≡ (c || is_some old)
one_more old new b c at e s = ap is_some e ∙ some_by b old at ∙ ap (λ (x : Bool). x || is_some old) s
