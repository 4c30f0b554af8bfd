-- Reading one thing after another, as long as there is one.
use Rattle.std.specs.Prelude.{ℕ, zero, suc, Bool, List, [], ◌∷◌, length, Option, Some, None, if◌then◌else◌, nat_lt}

-- one or the other, as there is a value or none
abbrev pub when : {A B : Type 0} → Option A → B → (A → B) → B
when None b f = b
when (Some x) b f = f x

-- what was read took something
abbrev pub is_shorter : {T : Type 0} → List T → List T → Bool
is_shorter rest ts = nat_lt (length rest) (length ts)

abbrev pub front : {A T : Type 0} → A → List A × List T → List A × List T
front x r = (x ∷ r.0, r.1)

-- at most n values
abbrev pub up_to : {A T : Type 0} → (List T → Option (A × List T)) → ℕ → List T → List A × List T
up_to p zero ts = ([], ts)
up_to p (suc n) ts = when (p ts) ([], ts) (λ x. if is_shorter x.1 ts then front x.0 (up_to p n x.1) else ([], ts))

-- as many values as there are, each of which takes something: the values, and what is left
abbrev pub all_at : {A T : Type 0} → (List T → Option (A × List T)) → List T → List A × List T
all_at p ts = up_to p (length ts) ts
