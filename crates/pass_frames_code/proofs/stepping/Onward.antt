-- A step that is followed in three parts: what stands in front of an instruction or a terminator, it itself, and what
-- stands behind it, where the states are as behind the first run's step.
use Rattle.std.proofs.Common.{◌≡◌, ◌⊎◌, inl, inr, ℕ, ◌+◌, ◌-◌, ◌<◌, ◌≤◌, sym, ap, ◌∙◌, subst, arith}
use Rattle.std.proofs.lemmas.Bool.{cases_lt}
use Rattle.pass_frames_code.specs.Followed.{IsFollowed, IsOn}
use Rattle.pass_frames_code.specs.Meaning.{step_cost}
use Rattle.pass_frames_code.specs.Related.{AreBuiltOf, Building}
use Rattle.pass_renewed_proof.specs.Renewed.{RenewedGiven, renewed_step}
use Rattle.pass_proofs.proofs.run_agreement.Runs.{iterate-add}
use Rattle.pass_proofs.specs.run_agreement.Machines.{iterate}
use Rattle.pass_proofs.specs.run_framed.Framed.{framed_step}
use Rattle.pass_proofs.specs.run_source.declared.state.State.{State}

-- so many steps lead from a state of the framed run to one that is related, and meanwhile it shows the same
pub record EndsUp (b : Building) : Type 0 where
  pub source : State
  pub target : State
  pub steps : ℕ
  pub shown : (i : ℕ) → i < steps → IsOn b source (iterate (framed_step b.given) i target)
  pub related : AreBuiltOf b source (iterate (framed_step b.given) steps target)

module _ (b : Building) (g : RenewedGiven) (s t : State) (back : EndsUp b) (n : ℕ) (last : State)
    (leads : iterate (framed_step b.given) n t ≡ last)
    (line_shown : (i : ℕ) → i < n → IsOn b s (iterate (framed_step b.given) i t)) (last_shown : IsOn b s last)
    (next : framed_step b.given last ≡ back.target) (source : renewed_step g s ≡ back.source)
    (enough : n + 1 + back.steps ≤ step_cost b g s s.top.mode) where
  abbrev total : ℕ
  total = n + 1 + back.steps

  to_target : iterate (framed_step b.given) (n + 1) t ≡ back.target
  to_target = iterate-add (framed_step b.given) n 1 t ∙ ap (framed_step b.given) leads ∙ next

  all : iterate (framed_step b.given) total t ≡ iterate (framed_step b.given) back.steps back.target
  all =
      iterate-add (framed_step b.given) (n + 1) back.steps t
      ∙ ap (iterate (framed_step b.given) back.steps) to_target

  abbrev Shown : ℕ → Type 0
  Shown i =
      IsOn b s (iterate (framed_step b.given) i t) ⊎ IsOn b (renewed_step g s) (iterate (framed_step b.given) i t)

  behind_shown : (j : ℕ) → j < back.steps → Shown (n + 1 + j)
  behind_shown j lt =
      inr (subst (λ (p : State × State). IsOn b p.0 p.1)
      (λ i. (
        sym source i,
        sym (iterate-add (framed_step b.given) (n + 1) j t ∙ ap (iterate (framed_step b.given) j) to_target) i,
      )) (back.shown j lt))

  on_way : (i : ℕ) → i < total → Shown i
  on_way i lt = first (cases_lt i n)
    where
      later : (i < n + 1) ⊎ (n + 1 ≤ i) → n ≤ i → Shown i
      later (inl less) le =
          let same : n ≡ i = omega (arith, less, le) in
          subst Shown same (inl (subst (IsOn b s) (sym leads) last_shown))
      later (inr more) le =
          let same : n + 1 + (i - (n + 1)) ≡ i = omega (arith, more) in
          subst Shown same (behind_shown (i - (n + 1)) (omega (arith, more, lt)))

      first : (i < n) ⊎ (n ≤ i) → Shown i
      first (inl less) = inl (line_shown i less)
      first (inr le) = later (cases_lt i (n + 1)) le

  pub onward_within : IsFollowed b g s t
  onward_within = record {
    steps = total;
    few = enough;
    goes_on = inl (omega arith);
    passes = λ i pos lt. on_way i lt;
    related = subst (λ (p : State × State). AreBuiltOf b p.0 p.1) (λ i. (sym source i, sym all i)) back.related;
  }

-- at just its cost
pub onward_followed : (b : Building) (g : RenewedGiven) (s t : State) (back : EndsUp b) (n : ℕ) (last : State)
    → iterate (framed_step b.given) n t ≡ last
    → ((i : ℕ) → i < n → IsOn b s (iterate (framed_step b.given) i t)) → IsOn b s last
    → framed_step b.given last ≡ back.target → renewed_step g s ≡ back.source
    → step_cost b g s s.top.mode ≡ n + 1 + back.steps → IsFollowed b g s t
onward_followed b g s t back n last leads line_shown last_shown next source cost =
    onward_within b g s t back n last leads line_shown last_shown next source
    (let e = cost in omega (arith, e))
