-- Many steps, one after another.
use Rattle.std.proofs.Common.{◌≡◌, ℕ, zero, suc, ◌+◌, ◌-◌, ◌<◌, ◌≤◌, Bool, true, false, refl, ap, sym, ◌∙◌, arith}
use Rattle.std.proofs.lemmas.Bool.{false≢true}
use Rattle.ir_base.specs.declared.outcome.Outcome.{Outcome}
use Rattle.run_source_tables.specs.run_step.Runs.{iterate}
use Rattle.run_source.specs.Source.{Continues, advance_by, continue, step}
use Rattle.run_source_tables.specs.Given.{Given}
use Rattle.run_source.specs.Machines.{is_over}
use Rattle.run_source.specs.declared.state.State.{State}

pub iterate-more : {S : Type 0} (step : S → S) (k n : ℕ) (s : S) → iterate step n (iterate step k s) ≡ iterate step (k + n) s
iterate-more step zero n s = let e : n ≡ zero + n = omega arith in ap (λ i. iterate step i s) e
iterate-more step (suc k) n s = let e : suc (k + n) ≡ suc k + n = omega arith in iterate-more step k n (step s) ∙ ap (λ i. iterate step i s) e

pub iterate-next : {S : Type 0} (step : S → S) (k : ℕ) (s : S) → step (iterate step k s) ≡ iterate step (k + 1) s
iterate-next step k s = iterate-more step k 1 s

still-by : (g : Given) (s : State) (o : Outcome) → is_over o ≡ true → advance_by g (continue g) s o ≡ s
still-by g s Outcome.Running e = absurd (false≢true e)
still-by g s (Outcome.Returned v) e = refl
still-by g s (Outcome.Undefined cause place) e = refl

still : (g : Given) (s : State) → is_over s.outcome ≡ true → step g s ≡ s
still g s e = still-by g s s.outcome e

stays : (g : Given) (n : ℕ) (s : State) → is_over s.outcome ≡ true → iterate (step g) n s ≡ s
stays g zero s e = refl
stays g (suc n) s e = ap (iterate (step g) n) (still g s e) ∙ stays g n s e

pub over : (g : Given) (made n : ℕ) (s t : State) → made ≤ n → t ≡ iterate (step g) made s → is_over t.outcome ≡ true → t ≡ iterate (step g) n s
over g made n s t le is e =
    let k : made + (n - made) ≡ n = omega arith in
    sym (stays g (n - made) t e)
    ∙ ap (iterate (step g) (n - made)) is
    ∙ iterate-more (step g) made (n - made) s
    ∙ ap (λ i. iterate (step g) i s) k
