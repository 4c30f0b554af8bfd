-- Blocks that come onto edges cost a step where an edge gets one, and nothing elsewhere.
use Rattle.std.proofs.Common.{◌≡◌, ◌⊎◌, inl, inr, ℕ, ◌+◌, ◌-◌, ◌<◌, ◌≤◌, List, Result, Ok, Err, refl, sym, ap, ◌∙◌, subst, arith}
use Rattle.std.specs.Prelude.{ℤ}
use Rattle.ir_laws.proofs.run_agreement.Costs.{weaken_by}
use Rattle.ir_laws.proofs.run_agreement.Lockstep.{ShowsSame}
use Rattle.ir_laws.proofs.run_agreement.PricedLockstep.{AdvanceBy, IsPassed, SimulatesBy, lockstep_by}
use Rattle.ir_laws.specs.run_agreement.Costs.{AgreesBy, IsNear as IsWithin}
use Rattle.ir_laws.specs.run_agreement.Machines.{IsFine, IsRunning, Machine, iterate}
use Rattle.ir_laws.specs.ir_base.declared.cause.Cause.{Cause}
use Rattle.ir_laws.specs.ir_base.declared.outcome.Outcome.{Outcome}
use Rattle.ir_laws.specs.ir_base.declared.outcome.Word.{Word}
use Rattle.ir_laws.specs.run_source.State.{or_undefined, point_of}
use Rattle.ir_laws.specs.run_source.declared.state.State.{State}
use Rattle.ir_laws.specs.facts.sound_states.Named.{AreLocalsNamed}
use Rattle.frame_layout.specs.declared.layout.Layouts.{Layouts}
use Rattle.run_states.proofs.named.Simulation.{running_is}
use Rattle.ir_laws.specs.paths.branches.Ways.{AreFetched}
use Rattle.run_framed.specs.Framed.{FramedGiven, framed_advance, framed_given, framed_next, framed_step}
use Rattle.ir_laws.specs.ir_model.Names.{function_at}
use Rattle.ir_laws.specs.ir_model.declared.instr.Instr.{Instr}
use Rattle.ir_laws.specs.ir_model.declared.instr.Terminator.{Terminator}
use Rattle.ir_laws.specs.ir_model.declared.module.Function.{Function}
use Rattle.ir_laws.specs.ir_model.declared.module.Module.{Module}
use Rattle.ir_laws.specs.run_step.Runs.{seen_of}
use Rattle.ir_laws.specs.run_step.Step.{AtInstr, AtTerm, Fetched, Nowhere, fetch}
use Rattle.ir_laws.specs.run_step.declared.world.World.{World}
use Rattle.run_states.proofs.moved_states.Simulation.{arrives, first_same}
use Rattle.run_states.proofs.moved_states.Soundness.{first_holds, step_holds}
use Rattle.run_states.proofs.moved_states.Parts.{function_moved}
use Rattle.run_states.proofs.moved_states.Steps.{instr_moved}
use Rattle.run_states.specs.moved_states.Beside.{IsMovedOf, PaysFor, framed_machine}
use Rattle.run_states.specs.moved_states.MovedState.{moved_module, moved_result, moved_state}
use Rattle.run_states.specs.moved_states.Moving.{AllMove, Goes, KeepsKinds, Moving}
use Rattle.run_states.specs.moved_states.Near.{HoldsIn, IsBefore}

fetched_instr : (W : ℕ → ℕ → Type 0) (i : Instr) (y : Fetched) → AreFetched W (AtInstr i) y → y ≡ AtInstr i
fetched_instr W i Nowhere w = absurd w
fetched_instr W i (AtInstr j) w = ap AtInstr w
fetched_instr W i (AtTerm t) w = absurd w

module _ (mv : Moving) (m : Module) (kinds : KeepsKinds mv) (names : AreLocalsNamed m) (moves : AllMove mv m)
    (layouts : Layouts) (entry : ℕ) (args : List Word) (answers : List ℤ) (price cost : State → ℕ)
    (pays : PaysFor mv m layouts answers price cost) where
  abbrev g : FramedGiven
  g = framed_given m layouts.coroutines answers

  abbrev k : FramedGiven
  k = framed_given (moved_module mv m) layouts.coroutines answers

  abbrev A : Machine State
  A = framed_machine m layouts entry args answers

  abbrev B : Machine State
  B = framed_machine (moved_module mv m) layouts entry args answers

  abbrev Beside : State → State → Type 0
  Beside = IsMovedOf mv m

  abbrev Credited : ℕ → State → State → Type 0
  Credited c s t = Beside s t

  abbrev Near : State → State → Type 0
  Near = IsWithin B 2 Beside

  abbrev Advances : ℕ → State → State → Type 0
  Advances c s t = AdvanceBy A price B cost Credited Near (λ x. 0) c s t

  only_one : (i : ℕ) → 0 < i → i < 2 → i ≡ 1
  only_one i low high = omega arith

  first_paid : (x y c : ℕ) → x ≤ y → (x + 0) + c ≤ y + c
  first_paid x y c le = omega arith

  both_paid : (x z y c : ℕ) → x + z ≤ y → (x + (z + 0)) + c ≤ y + c
  both_paid x z y c le = omega arith

  -- one step with one
  single : (c : ℕ) (s : State) → HoldsIn mv m s
      → framed_step k (moved_state mv m s) ≡ moved_state mv m (framed_step g s) → Advances c s (moved_state mv m s)
  single c s h same = record {
    steps = 1;
    credit = c;
    few = first_paid (cost (moved_state mv m s)) (price s) c (pays.steps s h);
    goes_on = inl (omega arith);
    between = λ i low high. absurd (omega arith);
    related = record { is = same; holds = step_holds mv m layouts.coroutines answers names moves s h };
  }

  -- and two, through the block of an edge
  double : (c : ℕ) (s : State) (t : Terminator) → HoldsIn mv m s
      → fetch (function_at m s.top.func) s.top.block s.top.at ≡ AtTerm t
      → IsBefore mv m layouts.coroutines answers (framed_step g s) (framed_step k (moved_state mv m s))
      → Advances c s (moved_state mv m s)
  double c s t h there before =
      let next : Beside (framed_step g s) (framed_step k (framed_step k (moved_state mv m s))) = record
      { is = before.goes_on; holds = step_holds mv m layouts.coroutines answers names moves s h } in
      let passed : IsPassed A B Near (framed_step g s) (framed_step k (moved_state mv m s)) = record {
        runs = before.running;
        events = ap (λ (w : World). (seen_of m w s.outcome).events) before.world;
        holds = (1, omega arith, inr next);
      } in
      record {
        steps = 2;
        credit = c;
        few = both_paid (cost (moved_state mv m s)) (cost (framed_step k (moved_state mv m s))) (price s) c
            (pays.edges s (framed_step k (moved_state mv m s)) t h there before);
        goes_on = inl (omega arith);
        between = λ i low high. inr (subst (λ (n : ℕ). IsPassed A B Near (framed_step g s)
            (iterate (framed_step k) n (moved_state mv m s))) (sym (only_one i low high)) passed);
        related = next;
      }

  module _ (s : State) (h : HoldsIn mv m s) (runs : s.outcome ≡ Outcome.Running)
      (fine : IsFine (framed_step g s).outcome) where
    abbrev here : Fetched
    here = fetch (function_at m s.top.func) s.top.block s.top.at

    abbrev then_here : Fetched
    then_here = fetch (function_at (moved_module mv m) s.top.func) (mv.spot (function_at m s.top.func) s.top.block)
        s.top.at

    abbrev W : ℕ → ℕ → Type 0
    W = Goes (function_at m s.top.func) (mv.to (function_at m s.top.func)) (mv.spot (function_at m s.top.func))
        (point_of s)

    made_at : (x : Fetched) → here ≡ x → framed_step g s ≡ or_undefined g.given s (framed_next g s x)
    made_at x e = ap (framed_advance g s) runs ∙ ap (λ (z : Fetched). or_undefined g.given s (framed_next g s z)) e

    made_then_at : (x : Fetched) → then_here ≡ x
        → framed_step k (moved_state mv m s) ≡ or_undefined k.given (moved_state mv m s)
        (framed_next k (moved_state mv m s) x)
    made_then_at x e = ap (framed_advance k (moved_state mv m s)) runs ∙ ap
        (λ (z : Fetched). or_undefined k.given (moved_state mv m s) (framed_next k (moved_state mv m s) z)) e

    same_by : (r : Result State Cause) → IsFine (or_undefined g.given s r).outcome
        → or_undefined k.given (moved_state mv m s) (moved_result mv m r) ≡ moved_state mv m
        (or_undefined g.given s r)
    same_by (Err cause) f = absurd f
    same_by (Ok t) f = refl

    instr_same : (i : Instr) → here ≡ AtInstr i
        → framed_step k (moved_state mv m s) ≡ moved_state mv m (framed_step g s)
    instr_same i e =
        let paired : AreFetched W here then_here = subst (λ (x : Function). AreFetched W here
        (fetch x (mv.spot (function_at m s.top.func) s.top.block) s.top.at))
        (sym (function_moved mv kinds m s.top.func)) ((moves s.top.func).places (point_of s)) in
        let there : then_here ≡ AtInstr i = fetched_instr W i then_here
        (subst (λ (x : Fetched). AreFetched W x then_here) e paired) in
        made_then_at (AtInstr i) there
        ∙ ap (or_undefined k.given (moved_state mv m s)) (instr_moved mv kinds m layouts.coroutines answers names
        moves s h runs i (sym e))
        ∙ same_by (framed_next g s (AtInstr i)) (subst (λ (t : State). IsFine t.outcome) (made_at (AtInstr i) e) fine)
        ∙ ap (moved_state mv m) (sym (made_at (AtInstr i) e))

    advance_at : (c : ℕ) (x : Fetched) → here ≡ x → Advances c s (moved_state mv m s)
    advance_at c Nowhere e = absurd (subst (λ (t : State). IsFine t.outcome) (made_at Nowhere e) fine)
    advance_at c (AtInstr i) e = single c s h (instr_same i e)
    advance_at c (AtTerm t) e = on (arrives mv kinds m names moves layouts.coroutines answers s h runs fine)
      where
        on : (framed_step k (moved_state mv m s) ≡ moved_state mv m (framed_step g s)) ⊎ IsBefore mv m
            layouts.coroutines answers (framed_step g s) (framed_step k (moved_state mv m s))
            → Advances c s (moved_state mv m s)
        on (inl same) = single c s h same
        on (inr before) = double c s t h e before

  stays_by : (x : FramedGiven) (s : State) (o : Outcome) → (IsRunning o → ⊥) → framed_advance x s o ≡ s
  stays_by x s (Outcome.Returned v) over = refl
  stays_by x s Outcome.Running over = absurd (over tt)
  stays_by x s (Outcome.Undefined cause place) over = refl

  simulates : SimulatesBy A price B cost Credited Near (λ x. 0)
  simulates = record {
    begin = record {
      is = first_same mv kinds m names moves layouts.coroutines answers entry args;
      holds = first_holds
          mv m layouts.coroutines answers names moves entry args;
    };
    same = λ c s t r. subst (λ (x : State). ShowsSame (B.seen x) (A.seen s)) (sym r.is)
        (record { events = refl; outcome = refl });
    counts = λ c s t r. ap (λ (x : State). x.world.allocs) (sym r.is);
    holds = λ c s t r. (0, omega arith, inr r);
    advance = λ c s t r running fine. subst (λ (x : State). Advances c s x) (sym r.is)
        (advance_at s r.holds (running_is s.outcome running) fine c
        (fetch (function_at m s.top.func) s.top.block s.top.at) refl);
    stays_a = λ s over. stays_by g s s.outcome over;
    stays_b = λ s over. stays_by k s s.outcome over;
  }

  pub moves_pay : AgreesBy Beside Near A price B cost
  moves_pay =
      weaken_by (λ s t. (c : ℕ) × Beside s t) Near Beside Near A price price B cost cost (λ s t r. r.1) (λ s t v. v)
      (λ n fine. omega arith) (λ n. omega arith)
      (lockstep_by A price B cost Credited Near (λ x. 0) simulates)
