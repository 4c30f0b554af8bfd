-- Facts that say the same.
use Rattle.std.proofs.Common.{◌⊎◌, ⊎_elim, inl, inr}
use Rattle.std.specs.Prelude.{◌↔◌}

pub then_same : (A B C : Type 0) → (A ↔ B) → (B ↔ C) → (A ↔ C)
then_same A B C p q = ((λ a. q.0 (p.0 a)), (λ c. p.1 (q.1 c)))

pub either_none : (A : Type 0) → A ↔ (A ⊎ ⊥)
either_none A = ((λ a. inl a), (λ h. ⊎_elim (λ a. a) (λ none. absurd none) h))

pub either_same : (A B C D : Type 0) → (A ↔ B) → (C ↔ D) → ((A ⊎ C) ↔ (B ⊎ D))
either_same A B C D p q =
    ((λ h. ⊎_elim (λ a. inl (p.0 a)) (λ c. inr (q.0 c)) h), (λ h. ⊎_elim (λ b. inl (p.1 b)) (λ d. inr (q.1 d)) h))

pub either_regrouped : (A B C : Type 0) → ((A ⊎ B) ⊎ C) ↔ (A ⊎ (B ⊎ C))
either_regrouped A B C = (
  (λ h. ⊎_elim (λ ab. ⊎_elim (λ a. inl a) (λ b. inr (inl b)) ab) (λ c. inr (inr c)) h),
  (λ h. ⊎_elim (λ a. inl (inl a)) (λ bc. ⊎_elim (λ b. inl (inr b)) (λ c. inr c) bc) h),
)

pub same_itself : (A : Type 0) → A ↔ A
same_itself A = ((λ a. a), (λ a. a))

-- one step of a fold: what the rest tells of the next state, and what that tells of this one
pub step_same : (R S T H E E2 : Type 0) → (R ↔ (S ⊎ E)) → (S ↔ (T ⊎ H)) → ((H ⊎ E) ↔ E2) → (R ↔ (T ⊎ E2))
step_same R S T H E E2 rest here both =
    then_same R (S ⊎ E) (T ⊎ E2) rest
    (then_same (S ⊎ E) ((T ⊎ H) ⊎ E) (T ⊎ E2) (either_same S (T ⊎ H) E E here (same_itself E))
    (then_same ((T ⊎ H) ⊎ E) (T ⊎ (H ⊎ E)) (T ⊎ E2) (either_regrouped T H E) (either_same T T (H ⊎ E) E2 (same_itself T) both)))
