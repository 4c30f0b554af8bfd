-- What is read step by step.
use Rattle.std.proofs.Common.{◌≡◌, Option, None, ap, subst, ◌∙◌}
use Rattle.std.specs.Prelude.{Some, IfSome}
use Rattle.text_reader.specs.Reading.{◌>>=◌}

-- what is found, by what the first step finds
pub bind_found : {A B : Type 0} (o : Option A) (f : A → Option B) (Q : A → Type 0) (R : B → Type 0) → IfSome o Q → ((x : A) → Q x → IfSome (f x) R) → IfSome (o >>= f) R
bind_found None f Q R h k = tt
bind_found (Some x) f Q R h k = k x h

-- what is found again
pub bind_again : {A B : Type 0} (o : Option A) (x : A) (f : A → Option B) (r : Option B) → o ≡ Some x → f x ≡ r → (o >>= f) ≡ r
bind_again o x f r e k = ap (λ p. p >>= f) e ∙ k

-- what holds of all that may be read holds of what is
pub found_is : {A : Type 0} (o : Option A) (x : A) (Q : A → Type 0) → IfSome o Q → o ≡ Some x → Q x
found_is o x Q h e = subst (λ p. IfSome p Q) e h
