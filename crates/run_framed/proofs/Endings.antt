-- Steps of a run that is over.
use Rattle.std.proofs.Common.{◌≡◌, ℕ, zero, suc, ◌+◌, ◌-◌, ◌≤◌, true, refl, ap, sym, ◌∙◌, arith}
use Rattle.std.proofs.lemmas.Bool.{false≢true}
use Rattle.ir_base.specs.declared.outcome.Outcome.{Outcome}
use Rattle.run_source.proofs.Iterating.{iterate-more}
use Rattle.run_source.specs.Machines.{is_over}
use Rattle.run_source.specs.declared.state.State.{State}
use Rattle.run_framed.specs.Framed.{FramedGiven, framed_advance, framed_step}
use Rattle.run_step.specs.Runs.{iterate}

still-by : (g : FramedGiven) (s : State) (o : Outcome) → is_over o ≡ true → framed_advance g s o ≡ s
still-by g s Outcome.Running e = absurd (false≢true e)
still-by g s (Outcome.Returned v) e = refl
still-by g s (Outcome.Undefined cause place) e = refl

stays : (g : FramedGiven) (n : ℕ) (s : State) → is_over s.outcome ≡ true → iterate (framed_step g) n s ≡ s
stays g zero s e = refl
stays g (suc n) s e = ap (iterate (framed_step g) n) (still-by g s s.outcome e) ∙ stays g n s e

pub over : (g : FramedGiven) (made n : ℕ) (s t : State) → made ≤ n → t ≡ iterate (framed_step g) made s → is_over t.outcome ≡ true → t ≡ iterate (framed_step g) n s
over g made n s t le is e =
    let k : made + (n - made) ≡ n = omega arith in
    sym (stays g (n - made) t e)
    ∙ ap (iterate (framed_step g) (n - made)) is
    ∙ iterate-more (framed_step g) made (n - made) s
    ∙ ap (λ i. iterate (framed_step g) i s) k
