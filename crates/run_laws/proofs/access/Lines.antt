-- A machine executes a straight line.
use Rattle.std.proofs.Common.{◌≡◌, ℕ, suc, ◌+◌, Bool, true, List, [], ◌∷◌, ◌++◌, length, sym, ap, ◌∙◌, subst, arith}
use Rattle.ir_model.specs.declared.instr.Instr.{Instr}
use Rattle.run_step.specs.Runs.{iterate}
use Rattle.run_step.specs.Step.{Context, Work}
use Rattle.run_laws.specs.access.Lines.{GoesOn, Runs, StandAt}
use Rattle.run_laws.specs.changed.Changed.{Each}

module _ {S : Type 0} (step : S → S) (ahead : ℕ → Work → S) (c : Context) (block at : ℕ) (test : Instr → Bool) (goes : GoesOn step ahead c block at test) where
  runs_from : (k : ℕ) (is : List Instr) (w x : Work) → StandAt c.function block (at + k) is → Each (λ (i : Instr). test i ≡ true) is → Runs c is w x → iterate step (length is) (ahead k w) ≡ ahead (k + length is) x
  runs_from k [] w x s h r = let e : k ≡ k + 0 = omega arith in λ i. ahead (e i) (sym r i)
  runs_from k (i ∷ is) w x s h r =
      let e : at + k + 1 ≡ at + (k + 1) = omega arith in
      let f : k + 1 + length is ≡ k + suc (length is) = omega arith in
      ap (iterate step (length is)) (goes.next k w r.0 i s.0 h.0 r.1.0)
      ∙ runs_from (k + 1) is r.0 x (subst (λ (a : ℕ). StandAt c.function block a is) e s.1) h.1 r.1.1
      ∙ ap (λ (a : ℕ). ahead a x) f

pub runs_line : {S : Type 0} (step : S → S) (ahead : ℕ → Work → S) (c : Context) (block at : ℕ) (test : Instr → Bool) (is : List Instr) (w x : Work) → GoesOn step ahead c block at test → StandAt c.function block at is → Each (λ (i : Instr). test i ≡ true) is → Runs c is w x → iterate step (length is) (ahead 0 w) ≡ ahead (length is) x
runs_line step ahead c block at test is w x goes s h r =
    let e : at ≡ at + 0 = omega arith in
    let f : 0 + length is ≡ length is = omega arith in
    runs_from step ahead c block at test goes 0 is w x (subst (λ (a : ℕ). StandAt c.function block a is) e s) h r ∙ ap (λ (a : ℕ). ahead a x) f

-- two lines one behind the other
pub runs_append : (c : Context) (is js : List Instr) (w v x : Work) → Runs c is w v → Runs c js v x → Runs c (is ++ js) w x
runs_append c [] js w v x r q = subst (λ (u : Work). Runs c js u x) r q
runs_append c (i ∷ is) js w v x r q = (r.0, (r.1.0, runs_append c is js r.0 v x r.1.1 q))
