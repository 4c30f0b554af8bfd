-- Numbers that stand once are no more than those among which they are listed.
use Rattle.std.proofs.Common.{◌≡◌, ◌⊎◌, inl, inr, ℕ, suc, ◌≤◌, Bool, true, false, List, [], ◌∷◌, length, refl, sym, ap, ◌∙◌, subst, arith}
use Rattle.std.specs.Prelude.{if◌then◌else◌, ◌==◌}
use Rattle.pass_frames_proof.specs.flow_solver.Paths.{IsListed}
use Rattle.pass_frames_proof.proofs.ir_laws.facts.Truth.{equal_numbers, not_equal}
use Rattle.pass_frames_proof.specs.ir_laws.paths.woven_rules.Pairs.{AreDifferent}

-- a list but for the first place of a number
abbrev pub without : ℕ → List ℕ → List ℕ
without v [] = []
without v (u ∷ us) = if u == v then us else u ∷ without v us

pub without_fewer : (v : ℕ) (us : List ℕ) → IsListed v us → suc (length (without v us)) ≡ length us
without_fewer v [] l = absurd l
without_fewer v (u ∷ us) l = on (u == v) refl l (λ m. without_fewer v us m)
  where
    on : (b : Bool) → (u == v) ≡ b → (v ≡ u) ⊎ IsListed v us
        → (IsListed v us → suc (length (without v us)) ≡ length us)
        → suc (length (if b then us else u ∷ without v us)) ≡ suc (length us)
    on true e m rest = refl
    on false e (inl same) rest = absurd (not_equal u v e (sym same))
    on false e (inr m) rest = ap suc (rest m)

pub without_listed : (v : ℕ) (us : List ℕ) (w : ℕ) → (w ≡ v → ⊥) → IsListed w us → IsListed w (without v us)
without_listed v [] w other l = absurd l
without_listed v (u ∷ us) w other l = on (u == v) refl l (λ m. without_listed v us w other m)
  where
    on : (b : Bool) → (u == v) ≡ b → (w ≡ u) ⊎ IsListed w us → (IsListed w us → IsListed w (without v us))
        → IsListed w (if b then us else u ∷ without v us)
    on true e (inl same) rest = absurd (other (same ∙ equal_numbers u v e))
    on true e (inr m) rest = m
    on false e (inl same) rest = inl same
    on false e (inr m) rest = inr (rest m)

pub few_of : (vs us : List ℕ) → AreDifferent vs → ((v : ℕ) → IsListed v vs → IsListed v us) → length vs ≤ length us
few_of [] us once listed = omega arith
few_of (v ∷ vs) us once listed =
    let a = without_fewer v us (listed v (inl refl)) in
    let b = few_of vs (without v us) once.1
    (λ w l. without_listed v us w
    (λ same. once.0 (subst (λ (u : ℕ). IsListed u vs) same l)) (listed w (inr l))) in
    omega (arith, a, b)
