-- The number of elided calls that a plain run counts goes on through the last passes.
use Rattle.std.proofs.Common.{◌≡◌, ⊎_elim, ℕ, ◌+◌, ◌-◌, ◌≤◌, ℤ, List, refl, sym, ap, ◌∙◌, arith}
use Rattle.std.proofs.lemmas.Bool.{cases_lt}
use Rattle.compiler.proofs.run_agreement.Compose.{follows_returned, returned_fine}
use Rattle.compiler.proofs.run_agreement.Runs.{iterate-add, over_stays, returned_over}
use Rattle.compiler.specs.run_agreement.Costs.{AgreesBy}
use Rattle.compiler.specs.run_agreement.Machines.{IsReturned, IsRunning, Machine, Stays, at, iterate, state_at}
use Rattle.compiler.specs.ir_base.declared.outcome.Outcome.{Outcome}
use Rattle.compiler.specs.ir_base.declared.outcome.Word.{Word}
use Rattle.compiler.specs.pass_cleanup.Cleaned.{plain_machine}
use Rattle.compiler.specs.ir_model.declared.module.Module.{Module}
use Rattle.compiler.specs.run_plain.Plain.{PlainGiven, plain_advance}
use Rattle.compiler.specs.run_plain.declared.state.PlainState.{PlainState}

-- a run that has returned stays in its state
module _ {S : Type 0} (a : Machine S) (stays : Stays a) where
  same_after : (i n : ℕ) → i ≤ n → IsReturned (at a i).outcome → state_at a n ≡ state_at a i
  same_after i n le r =
      let e : n ≡ i + (n - i) = omega arith in
      ap (λ j. iterate a.step j a.start) e
      ∙ iterate-add a.step i (n - i) a.start
      ∙ over_stays a stays (n - i) (iterate a.step i a.start) (returned_over (at a i).outcome r)

  pub same_state : (i n : ℕ) → IsReturned (at a i).outcome → IsReturned (at a n).outcome → state_at a n ≡ state_at a i
  same_state i n p q = ⊎_elim
      (λ lt. same_after i n (omega arith) p)
      (λ le. sym (same_after n i (omega arith) q))
      (cases_lt i n)

plain_over : (g : PlainGiven) (s : PlainState) (o : Outcome) → (IsRunning o → ⊥) → plain_advance g s o ≡ s
plain_over g s (Outcome.Returned v) over = refl
plain_over g s Outcome.Running over = absurd (over tt)
plain_over g s (Outcome.Undefined cause place) over = refl

pub plain_stays : (m : Module) (entry : ℕ) (args : List Word) (answers : List ℤ)
    → Stays (plain_machine m entry args answers)
plain_stays m entry args answers s over = plain_over (record { code = m; answers = answers }) s s.outcome over

-- where related states count the same, so do runs that have returned
pub record Counted (a b : Machine PlainState) (i : ℕ) : Type 0 where
  pub steps : ℕ
  pub returned : IsReturned (at b steps).outcome
  pub same : (state_at b steps).elided ≡ (state_at a i).elided

pub counted_on : (R V : PlainState → PlainState → Type 0) (a : Machine PlainState) (price : PlainState → ℕ)
    (b : Machine PlainState) (cost : PlainState → ℕ) → ((s t : PlainState) → R s t → t.elided ≡ s.elided)
    → AgreesBy R V a price b cost → (i : ℕ) → IsReturned (at a i).outcome → Counted a b i
counted_on R V a price b cost same p i r =
    let x = p.forward i (returned_fine (at a i).outcome r) in
    record {
      steps = x.steps;
      returned = follows_returned (at a i) (at b x.steps) x.follows r;
      same = same
          (state_at a i) (state_at b x.steps) x.related;
    }
