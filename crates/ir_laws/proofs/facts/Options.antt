-- What may be there.
use Rattle.std.proofs.Common.{◌≡◌, Bool, true, ℕ, refl, suc, Option, Some, None, false}
use Rattle.std.specs.Prelude.{Some, Option, None, option_map, if◌then◌else◌}
use Rattle.run_laws.specs.ir_model.declared.instr.Instr.{Instr}
use Rattle.run_laws.specs.ir_model.Calls.{or_else}
use Rattle.ir_locals.specs.Tables.{or_first}
use Rattle.ir_laws.specs.facts.renamed.Regular.{passes as passes_at}

-- such an instruction stands at a place
pub record IsPassing (test : Instr → Bool) (o : Option Instr) : Type 0 where
  pub instr : Instr
  pub is : o ≡ Some instr
  pub passes : test instr ≡ true

pub left_none : (a b : Option ℕ) → or_else a b ≡ None → a ≡ None
left_none None b e = refl
left_none (Some n) b e = absurd (cc)

pub right_none : (a b : Option ℕ) → or_else a b ≡ None → b ≡ None
right_none None b e = e
right_none (Some n) b e = absurd (cc)

-- ---- the first that notes something

pub or_none : {T : Type 0} (o : Option T) → or_first o None ≡ o
or_none None = refl
or_none (Some t) = refl

pub passing_is : (t : Instr → Bool) (o : Option Instr) → passes_at t o ≡ true → (i : Instr) × ((o ≡ Some i) × (t i ≡ true))
passing_is t None e = absurd (cc)
passing_is t (Some i) e = (i, (refl, e))

-- where nothing is found, nothing passes the test
none_later : (o : Option ℕ) → option_map suc o ≡ None → o ≡ None
none_later None d = refl
none_later (Some j) d = absurd (cc)

pub not_first : (b : Bool) (o : Option ℕ) → (if b then Some 0 else option_map suc o) ≡ None → (b ≡ false) × (o ≡ None)
not_first true o e = absurd (cc)
not_first false o e = (refl, none_later o e)
