-- Many steps, one after another.
use Rattle.std.proofs.Common.{◌≡◌, ℕ, zero, suc, ◌+◌, ◌-◌, ◌<◌, ◌≤◌, Bool, true, false, refl, ap, sym, ◌∙◌, arith}
use Rattle.std.proofs.lemmas.Bool.{false≢true}
use Rattle.ir_base.specs.declared.outcome.Outcome.{Outcome}
use Rattle.run_step.specs.Runs.{iterate}
use Rattle.run_plain.specs.Plain.{PlainGiven, plain_advance, plain_step}
use Rattle.run_plain.specs.Machines.{is_over}
use Rattle.run_plain.specs.declared.state.PlainState.{PlainState}

pub iterate-more : {S : Type 0} (step : S → S) (k n : ℕ) (s : S) → iterate step n (iterate step k s) ≡ iterate step (k + n) s
iterate-more step zero n s = let e : n ≡ zero + n = omega arith in ap (λ i. iterate step i s) e
iterate-more step (suc k) n s = let e : suc (k + n) ≡ suc k + n = omega arith in iterate-more step k n (step s) ∙ ap (λ i. iterate step i s) e

pub iterate-next : {S : Type 0} (step : S → S) (k : ℕ) (s : S) → step (iterate step k s) ≡ iterate step (k + 1) s
iterate-next step k s = iterate-more step k 1 s

still-by : (g : PlainGiven) (s : PlainState) (o : Outcome) → is_over o ≡ true → plain_advance g s o ≡ s
still-by g s Outcome.Running e = absurd (false≢true e)
still-by g s (Outcome.Returned v) e = refl
still-by g s (Outcome.Undefined cause place) e = refl

still : (g : PlainGiven) (s : PlainState) → is_over s.outcome ≡ true → plain_step g s ≡ s
still g s e = still-by g s s.outcome e

stays : (g : PlainGiven) (n : ℕ) (s : PlainState) → is_over s.outcome ≡ true → iterate (plain_step g) n s ≡ s
stays g zero s e = refl
stays g (suc n) s e = ap (iterate (plain_step g) n) (still g s e) ∙ stays g n s e

pub over : (g : PlainGiven) (made n : ℕ) (s t : PlainState) → made ≤ n → t ≡ iterate (plain_step g) made s → is_over t.outcome ≡ true → t ≡ iterate (plain_step g) n s
over g made n s t le is e =
    let k : made + (n - made) ≡ n = omega arith in
    sym (stays g (n - made) t e)
    ∙ ap (iterate (plain_step g) (n - made)) is
    ∙ iterate-more (plain_step g) made (n - made) s
    ∙ ap (λ i. iterate (plain_step g) i s) k
