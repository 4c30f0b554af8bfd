-- What each step keeps that isn't undefined holds in each state of a run that isn't undefined.
use Rattle.std.proofs.Common.{◌≡◌, ◌⊎◌, inl, inr, ℕ, zero, suc, List, refl, sym, subst}
use Rattle.pass_elide_proof.proofs.Checked.{framed_stays}
use Rattle.pass_elide_proof.proofs.StepCases.{leads_to}
use Rattle.pass_elide_proof.specs.StepCases.{LeadsTo}
use Rattle.pass_elide_proof.proofs.pass_proofs.run_agreement.Runs.{running_or}
use Rattle.pass_elide_proof.specs.pass_proofs.ir_base.declared.outcome.Outcome.{Outcome}
use Rattle.pass_elide_proof.specs.pass_proofs.ir_base.declared.outcome.Word.{Word}
use Rattle.pass_elide_proof.specs.pass_proofs.run_agreement.Machines.{IsFine, IsRunning, iterate}
use Rattle.pass_elide_proof.specs.pass_proofs.run_framed.Framed.{FramedGiven, framed_state_at, framed_step}
use Rattle.pass_elide_proof.specs.pass_proofs.run_source.Source.{first_state}
use Rattle.pass_elide_proof.specs.pass_proofs.run_source.declared.state.State.{State}

running_is : (o : Outcome) → IsRunning o → o ≡ Outcome.Running
running_is (Outcome.Returned v) h = absurd h
running_is Outcome.Running h = refl
running_is (Outcome.Undefined cause place) h = absurd h

running_fine : (o : Outcome) → IsRunning o → IsFine o
running_fine (Outcome.Returned v) h = absurd h
running_fine Outcome.Running h = tt
running_fine (Outcome.Undefined cause place) h = absurd h

-- what is fine behind a step was fine before it
pub fine_before : (g : FramedGiven) (s : State) → IsFine (framed_step g s).outcome → IsFine s.outcome
fine_before g s fine = on (running_or s.outcome)
  where
    on : IsRunning s.outcome ⊎ (IsRunning s.outcome → ⊥) → IsFine s.outcome
    on (inl runs) = running_fine s.outcome runs
    on (inr stays) = subst (λ (u : State). IsFine u.outcome) (framed_stays g s stays) fine

pub one_more : {S : Type 0} (f : S → S) (n : ℕ) (s : S) → iterate f (suc n) s ≡ f (iterate f n s)
one_more f zero s = refl
one_more f (suc n) s = one_more f n (f s)

-- P is kept where Q holds
module _ (g : FramedGiven) (P Q : State → Type 0)
    (keeps : (s u : State) → s.outcome ≡ Outcome.Running → framed_step g s ≡ u → IsFine u.outcome → Q s → P s
    → LeadsTo g s u → P u) where
  step_keeps : (s : State) → Q s → P s → IsFine (framed_step g s).outcome → P (framed_step g s)
  step_keeps s q h fine = on (running_or s.outcome)
    where
      on : IsRunning s.outcome ⊎ (IsRunning s.outcome → ⊥) → P (framed_step g s)
      on (inl runs) =
          let is = running_is s.outcome runs in
          keeps s (framed_step g s) is refl fine q h (leads_to g s is fine)
      on (inr stays) = subst P (sym (framed_stays g s stays)) h

  pub runs_keep_by : (entry : ℕ) (args : List Word) → P (first_state g.given.code entry args)
      → ((n : ℕ) → IsFine (framed_state_at g entry args n).outcome → Q (framed_state_at g entry args n)) → (n : ℕ)
      → IsFine (framed_state_at g entry args n).outcome → P (framed_state_at g entry args n)
  runs_keep_by entry args first known zero fine = first
  runs_keep_by entry args first known (suc n) fine =
      let same = one_more (framed_step g) n (first_state g.given.code entry args) in
      let here = subst (λ (u : State). IsFine u.outcome) same fine in
      let before = fine_before g (framed_state_at g entry args n) here in
      subst P (sym same)
      (step_keeps (framed_state_at g entry args n) (known n before)
      (runs_keep_by entry args first known n before) here)

-- where it is enough to know where the step leads
pub runs_keep : (g : FramedGiven) (P Q : State → Type 0)
    → ((s u : State) → s.outcome ≡ Outcome.Running → Q s → P s → LeadsTo g s u → P u) → (entry : ℕ)
    (args : List Word) → P (first_state g.given.code entry args)
    → ((n : ℕ) → IsFine (framed_state_at g entry args n).outcome → Q (framed_state_at g entry args n)) → (n : ℕ)
    → IsFine (framed_state_at g entry args n).outcome → P (framed_state_at g entry args n)
runs_keep g P Q keeps = runs_keep_by g P Q (λ s u runs is fine q h leads. keeps s u runs q h leads)
