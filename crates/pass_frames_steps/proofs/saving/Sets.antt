-- One instance of a list is another one then.
use Rattle.std.proofs.Common.{◌≡◌, ◌∙◌, List, Option, Some, ap, subst, sym, ℕ, ⊎_elim, None}
use Rattle.std.specs.Prelude.{slice_get, slice_set}
use Rattle.pass_frames_code.proofs.ir_laws.facts.Lists.{get_within, set_here, set_other}
use Rattle.pass_frames_code.proofs.ir_laws.facts.Truth.{is_number}
use Rattle.pass_frames_code.proofs.moved.Rest.{same_place}
use Rattle.pass_frames_code.specs.Moved.{IsSamePlace}
use Rattle.pass_frames_code.specs.Related.{instance_in}
use Rattle.pass_frames_code.specs.run_source.declared.state.Instance.{Instance}

module _ (xs ys : List Instance) (i : ℕ) (p p' y y' : Instance) (there : slice_get xs i ≡ Some p)
    (there' : slice_get ys i ≡ Some y) (P : Instance → Instance → Type 0) where
  -- what holds of both holds one by one, where it holds of the others
  pub set_instances : P p' y'
      → ((j : ℕ) (v z : Instance) → slice_get xs j ≡ Some v → slice_get ys j ≡ Some z → (i ≡ j → ⊥) → P v z)
      → (j : ℕ) (v z : Instance) → slice_get (slice_set xs i p') j ≡ Some v → slice_get (slice_set ys i y') j ≡ Some z
      → P v z
  set_instances h others j v z d e = ⊎_elim here other (is_number i j)
    where
      here : i ≡ j → P v z
      here k =
          let one : Some p' ≡ Some v =
          sym (set_here xs i p' (get_within xs i p there)) ∙ ap (slice_get (slice_set xs i p')) k ∙ d in
          let two : Some y' ≡ Some z =
          sym (set_here ys i y' (get_within ys i y there')) ∙ ap (slice_get (slice_set ys i y')) k ∙ e in
          let first : p' ≡ v = cc in
          let second : y' ≡ z = cc in
          subst (λ (n : Instance × Instance). P n.0 n.1) (λ k. (first k, second k)) h

      other : (i ≡ j → ⊥) → P v z
      other n = others j v z (sym (set_other xs i j p' n) ∙ d) (sym (set_other ys i j y' n) ∙ e) n

-- an instance that begins at the same place
module _ (xs : List Instance) (i : ℕ) (y y' : Instance) (there : slice_get xs i ≡ Some y)
    (same : (y'.block ≡ y.block) × (y'.start ≡ y.start)) where
  pub set_places : (o : Option ℕ) → IsSamePlace (instance_in xs o) (instance_in (slice_set xs i y') o)
  set_places None = tt
  set_places (Some j) = ⊎_elim here other (is_number i j)
    where
      here : i ≡ j → IsSamePlace (slice_get xs j) (slice_get (slice_set xs i y') j)
      here k =
          subst (λ (n : ℕ). IsSamePlace (slice_get xs n) (slice_get (slice_set xs i y') n)) k
          (subst (λ (q : Option Instance × Option Instance). IsSamePlace q.0 q.1)
          (λ j. (sym there j, sym (set_here xs i y' (get_within xs i y there)) j)) same)

      other : (i ≡ j → ⊥) → IsSamePlace (slice_get xs j) (slice_get (slice_set xs i y') j)
      other n =
          subst (IsSamePlace (slice_get xs j)) (sym (set_other xs i j y' n)) (same_place (slice_get xs j))
