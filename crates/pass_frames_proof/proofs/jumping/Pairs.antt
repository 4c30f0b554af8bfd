-- Names that get values which stand for each other, one by one.
use Rattle.std.proofs.Common.{◌≡◌, ◌⊎◌, inl, inr, ⊎_elim, ℕ, ◌<◌, ◌≤◌, List, [], ◌∷◌, length, refl, sym, ap, ◌∙◌, subst, arith}
use Rattle.std.specs.Prelude.{Some}
use Rattle.pass_frames_steps.proofs.ir_laws.facts.Truth.{is_number}
use Rattle.pass_frames_steps.specs.Edges.{ArePairs}
use Rattle.pass_frames_steps.proofs.run_laws.transfer.Sets.{sets_name}
use Rattle.pass_frames_steps.specs.run_laws.memory.Pointers.{Home, IsValue}
use Rattle.pass_frames_steps.specs.run_laws.transfer.Transfer.{AreSet}
use Rattle.pass_frames_steps.specs.run_memory.declared.pointer.Value.{Value}
use Rattle.pass_frames_steps.specs.run_step.Step.{with_all}
use Rattle.pass_frames_steps.specs.run_step.Values.{Env, value_in, with_value}

-- what they leave, and what stands behind them
pub record AreAllSet (homes : List Home) (bound : ℕ) (env other env' other' : Env) : Type 0 where
  pub each : (u : ℕ) → IsValue homes (value_in env u) (value_in other u)
      → IsValue homes (value_in env' u) (value_in other' u)
  pub high : (u : ℕ) → bound ≤ u → value_in other' u ≡ value_in other u
  pub source : length env' ≡ length env
  pub target : length other' ≡ length other

is_at : (r v : ℕ) → (Some r ≡ Some v) ⊎ (Some r ≡ Some v → ⊥)
is_at r v = ⊎_elim (λ e. inl (ap Some (sym e))) (λ n. inr (λ e. n (sym (same e)))) (is_number v r)
  where
    same : Some r ≡ Some v → r ≡ v
    same e = cc

one_set : (homes : List Home) (bound : ℕ) (env other : Env) (r : ℕ) (v u : Value) → length env ≤ length other
    → r < bound → IsValue homes v u → AreAllSet homes bound env other (with_value env r v) (with_value other r u)
one_set homes bound env other r v u le lt stands = record {
  each = λ k old. ⊎_elim (set.stands k)
      (λ n. subst (λ (p : Value × Value). IsValue homes p.0 p.1)
      (λ q. (sym (set.source k n) q, sym (set.target k n) q)) old) (is_at r k);
  high = λ k far. set.target k (λ e. not_far k far (same k e));
  source = set.length_source;
  target = set.length_target;
}
  where
    set : AreSet homes (Some r) env other (with_value env r v) (with_value other r u)
    set = sets_name homes env other le r v u stands

    same : (k : ℕ) → Some r ≡ Some k → r ≡ k
    same k e = cc

    not_far : (k : ℕ) → bound ≤ k → r ≡ k → ⊥
    not_far k far e = omega (arith, far, e, lt)

one_more : (homes : List Home) (bound : ℕ) (env other env' other' last last' : Env)
    → AreAllSet homes bound env other env' other' → AreAllSet homes bound env' other' last last'
    → AreAllSet homes bound env other last last'
one_more homes bound env other env' other' last last' first more = record {
  each = λ u old. more.each u (first.each u old);
  high = λ u far. more.high u far ∙ first.high u far;
  source = more.source ∙ first.source;
  target = more.target ∙ first.target;
}

pub all_set : (homes : List Home) (bound : ℕ) (env other : Env) (ps qs : List (ℕ × Value))
    → length env ≤ length other → ArePairs homes bound ps qs
    → AreAllSet homes bound env other (with_all env ps) (with_all other qs)
all_set homes bound env other [] [] le h = record {
  each = λ u old. old;
  high = λ u far. refl;
  source = refl;
  target = refl;
}
all_set homes bound env other [] (q ∷ qs) le h = absurd h
all_set homes bound env other (p ∷ ps) [] le h = absurd h
all_set homes bound env other (p ∷ ps) (q ∷ qs) le h =
    let first : AreAllSet homes bound env other (with_value env p.0 p.1) (with_value other p.0 q.1) =
    one_set homes bound env other p.0 p.1 q.1 le h.0.1 h.0.2 in
    let le' : length (with_value env p.0 p.1) ≤ length (with_value other p.0 q.1) =
    longer first.source first.target le in
    subst (λ (k : ℕ). AreAllSet homes bound env other (with_all (with_value env p.0 p.1) ps)
    (with_all (with_value other k q.1) qs)) (sym h.0.0)
    (one_more homes bound env other (with_value env p.0 p.1) (with_value other p.0 q.1)
    (with_all (with_value env p.0 p.1) ps) (with_all (with_value other p.0 q.1) qs) first
    (all_set homes bound (with_value env p.0 p.1) (with_value other p.0 q.1) ps qs le' h.1))
  where
    longer : {k m n o : ℕ} → m ≡ k → o ≡ n → k ≤ n → m ≤ o
    longer e f le = omega (arith, e, f, le)
