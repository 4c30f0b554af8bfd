-- Blocks on edges that leave windows are paid by their edges: a framed step costs at most 4 there.
use Rattle.std.proofs.Common.{◌≡◌, ◌⊎◌, inl, inr, ⊎_elim, ℕ, ◌+◌, ◌<◌, ◌≤◌, Bool, true, false, List, Result, Ok, Err, refl, sym, ap, ◌∙◌, subst, arith}
use Rattle.std.specs.Prelude.{ℤ, Some, None, Option, length, slice_get, unwrap_or, if◌then◌else◌}
use Rattle.pass_proofs.specs.frame_layout.declared.layout.Layouts.{Layouts}
use Rattle.pass_proofs.specs.ir_base.declared.cause.Cause.{Cause}
use Rattle.pass_proofs.specs.ir_base.declared.outcome.Outcome.{Outcome}
use Rattle.pass_proofs.specs.ir_base.declared.outcome.Word.{Word}
use Rattle.pass_proofs.specs.ir_laws.facts.branches.Ways.{TermsPaired}
use Rattle.pass_proofs.specs.ir_laws.facts.sound_states.Named.{AreLocalsNamed}
use Rattle.pass_proofs.specs.ir_laws.paths.branches.Ways.{AreFetched}
use Rattle.pass_proofs.specs.ir_model.Names.{function_at, no_function, position_of}
use Rattle.pass_proofs.specs.ir_model.declared.instr.Instr.{Instr}
use Rattle.pass_proofs.specs.ir_model.declared.instr.Terminator.{Terminator}
use Rattle.pass_proofs.specs.ir_model.declared.module.Block.{Block}
use Rattle.pass_proofs.specs.ir_model.declared.module.Function.{Function}
use Rattle.pass_proofs.specs.ir_model.declared.module.Module.{Module}
use Rattle.pass_proofs.specs.pass_exits.ExitBlocks.{with_exit_blocks}
use Rattle.pass_proofs.specs.pass_intrinsics.Shapes.{suspends_of}
use Rattle.pass_proofs.specs.pass_intrinsics.declared.shape.SuspendPoint.{SuspendPoint}
use Rattle.pass_proofs.proofs.edges.rules.EdgeUses.{label_there}
use Rattle.pass_proofs.proofs.exits.rules.Places.{spot}
use Rattle.pass_proofs.proofs.exits.rules.Suspends.{same_suspends}
use Rattle.pass_proofs.proofs.exits.states.Exits.{all_move, exit_moving, kinds}
use Rattle.pass_proofs.specs.exits.states.Exits.{AreExitsKept, exits_split}
use Rattle.pass_split_proof.proofs.priced.Edges.{IsEdged, IsLast, both_terms, coroutine_edged, jump_edged, last_is, plain_edged}
use Rattle.pass_split_proof.proofs.priced.Terms.{IsOnEdge, term_arrives}
use Rattle.pass_split_proof.proofs.simulation.Agreement.{price_within}
use Rattle.pass_split_proof.specs.priced.Returns.{AllJumpBehind, JumpsBehind}
use Rattle.pass_split_proof.specs.states.Related.{fetched_at, is_behind_suspend, is_return_label, part_price, price_of}
use Rattle.pass_proofs.proofs.run_agreement.Costs.{weaken_by}
use Rattle.pass_proofs.proofs.run_agreement.Lockstep.{ShowsSame}
use Rattle.pass_proofs.proofs.run_agreement.PricedLockstep.{AdvanceBy, IsPassed, SimulatesBy, lockstep_by}
use Rattle.pass_proofs.specs.run_agreement.Costs.{AgreesBy, IsNear}
use Rattle.pass_proofs.specs.run_agreement.Machines.{IsFine, IsRunning, Machine, iterate}
use Rattle.pass_proofs.specs.run_framed.Framed.{FramedGiven, framed_advance, framed_given, framed_next, framed_step}
use Rattle.pass_proofs.specs.run_source.State.{function_of, or_undefined, point_of}
use Rattle.pass_proofs.specs.run_source.declared.state.State.{State}
use Rattle.pass_proofs.proofs.run_states.moved_states.Parts.{function_moved}
use Rattle.pass_proofs.proofs.run_states.moved_states.Simulation.{first_same}
use Rattle.pass_proofs.proofs.run_states.moved_states.Soundness.{first_holds, step_holds}
use Rattle.pass_proofs.proofs.run_states.moved_states.Steps.{instr_moved}
use Rattle.pass_proofs.proofs.run_states.named.Simulation.{running_is}
use Rattle.pass_proofs.specs.run_states.moved_states.Beside.{IsMovedIn, IsMovedOf, framed_machine}
use Rattle.pass_proofs.specs.run_states.moved_states.MovedState.{moved_result, moved_state}
use Rattle.pass_proofs.specs.run_states.moved_states.Moving.{AllMove, Goes, IsDirect}
use Rattle.pass_proofs.specs.run_states.moved_states.Near.{HoldsIn, IsBefore}
use Rattle.pass_proofs.specs.run_step.Runs.{seen_of}
use Rattle.pass_proofs.specs.run_step.Step.{AtInstr, AtTerm, Fetched, Nowhere, fetch, fetch_in, label_of}
use Rattle.pass_proofs.specs.run_step.declared.world.World.{World}

-- ---- prices

term_price : (b : Bool) (x : Fetched) (t : Terminator) → b ≡ false → x ≡ AtTerm t → price_of b x ≡ 2
term_price b x t e d = ap (λ (y : Bool). price_of y x) e ∙ ap (price_of false) d

both_low : (x y : ℕ) → x ≡ 2 → y ≡ 2 → x + y ≤ 4
both_low x y e d = omega (arith, e, d)

fetched_instr : (W : ℕ → ℕ → Type 0) (i : Instr) (y : Fetched) → AreFetched W (AtInstr i) y → y ≡ AtInstr i
fetched_instr W i Nowhere w = absurd w
fetched_instr W i (AtInstr j) w = ap AtInstr w
fetched_instr W i (AtTerm t) w = absurd w

module _ (m : Module) (names : AreLocalsNamed m) (kept : AreExitsKept m) (behind : AllJumpBehind m) (layouts : Layouts)
    (entry : ℕ) (args : List Word) (answers : List ℤ) where
  abbrev g : FramedGiven
  g = framed_given m layouts.coroutines answers

  abbrev k : FramedGiven
  k = framed_given (exits_split m) layouts.coroutines answers

  abbrev A : Machine State
  A = framed_machine m layouts entry args answers

  abbrev B : Machine State
  B = framed_machine (exits_split m) layouts entry args answers

  moves : AllMove exit_moving m
  moves = all_move m kept

  abbrev price : State → ℕ
  price s = 4

  abbrev cost : State → ℕ
  cost = part_price (framed_given (exits_split m) layouts.coroutines answers)

  abbrev Beside : State → State → Type 0
  Beside = IsMovedOf exit_moving m

  abbrev Credited : ℕ → State → State → Type 0
  Credited c s t = Beside s t

  abbrev Near : State → State → Type 0
  Near = IsNear B 2 Beside

  abbrev Advances : ℕ → State → State → Type 0
  Advances c s t = AdvanceBy A price B cost Credited Near (λ x. 0) c s t

  only_one : (i : ℕ) → 0 < i → i < 2 → i ≡ 1
  only_one i low high = omega arith

  first_paid : (x y c : ℕ) → x ≤ y → (x + 0) + c ≤ y + c
  first_paid x y c le = omega arith

  both_paid : (x z y c : ℕ) → x + z ≤ y → (x + (z + 0)) + c ≤ y + c
  both_paid x z y c le = omega arith

  low : (s : State) → cost s ≤ 4
  low s = price_within (is_behind_suspend k s) (fetched_at k s)

  -- one step with one
  single : (c : ℕ) (s : State) → HoldsIn exit_moving m s
      → framed_step k (moved_state exit_moving m s) ≡ moved_state exit_moving m (framed_step g s)
      → Advances c s (moved_state exit_moving m s)
  single c s h same = record {
    steps = 1;
    credit = c;
    few = first_paid (cost (moved_state exit_moving m s)) 4 c (low (moved_state exit_moving m s));
    goes_on = inl (omega arith);
    between = λ i low high. absurd (omega arith);
    related = record { is = same; holds = step_holds exit_moving m layouts.coroutines answers names moves s h };
  }

  -- and two, through the block of an edge
  double : (c : ℕ) (s : State) → HoldsIn exit_moving m s
      → IsBefore exit_moving m layouts.coroutines answers (framed_step g s)
      (framed_step k (moved_state exit_moving m s))
      → cost (moved_state exit_moving m s) + cost (framed_step k (moved_state exit_moving m s)) ≤ 4
      → Advances c s (moved_state exit_moving m s)
  double c s h before paid =
      let next : Beside (framed_step g s) (framed_step k (framed_step k (moved_state exit_moving m s))) = record
      { is = before.goes_on; holds = step_holds exit_moving m layouts.coroutines answers names moves s h } in
      let passed : IsPassed A B Near (framed_step g s) (framed_step k (moved_state exit_moving m s)) = record {
        runs = before.running;
        events = ap (λ (w : World). (seen_of m w s.outcome).events) before.world;
        holds = (1, omega arith, inr next);
      } in
      record {
        steps = 2;
        credit = c;
        few = both_paid (cost (moved_state exit_moving m s)) (cost (framed_step k (moved_state exit_moving m s))) 4 c
            paid;
        goes_on = inl (omega arith);
        between = λ i low high. inr (subst (λ (n : ℕ). IsPassed A B Near (framed_step g s)
            (iterate (framed_step k) n (moved_state exit_moving m s))) (sym (only_one i low high)) passed);
        related = next;
      }

  module _ (s : State) (h : HoldsIn exit_moving m s) (runs : s.outcome ≡ Outcome.Running)
      (fine : IsFine (framed_step g s).outcome) where
    abbrev f : Function
    f = function_at m s.top.func

    abbrev here : Fetched
    here = fetch (function_at m s.top.func) s.top.block s.top.at

    abbrev then_here : Fetched
    then_here = fetch (function_at (exits_split m) s.top.func)
        (exit_moving.spot (function_at m s.top.func) s.top.block) s.top.at

    abbrev W : ℕ → ℕ → Type 0
    W = Goes (function_at m s.top.func) (exit_moving.to (function_at m s.top.func))
        (exit_moving.spot (function_at m s.top.func)) (point_of s)

    made_at : (x : Fetched) → here ≡ x → framed_step g s ≡ or_undefined g.given s (framed_next g s x)
    made_at x e = ap (framed_advance g s) runs ∙ ap (λ (z : Fetched). or_undefined g.given s (framed_next g s z)) e

    made_then_at : (x : Fetched) → then_here ≡ x → framed_step k (moved_state exit_moving m s)
        ≡ or_undefined k.given (moved_state exit_moving m s) (framed_next k (moved_state exit_moving m s) x)
    made_then_at x e = ap (framed_advance k (moved_state exit_moving m s)) runs ∙ ap
        (λ (z : Fetched). or_undefined k.given (moved_state exit_moving m s)
        (framed_next k (moved_state exit_moving m s) z)) e

    same_by : (r : Result State Cause) → IsFine (or_undefined g.given s r).outcome
        → or_undefined k.given (moved_state exit_moving m s) (moved_result exit_moving m r)
        ≡ moved_state exit_moving m (or_undefined g.given s r)
    same_by (Err cause) z = absurd z
    same_by (Ok t) z = refl

    instr_same : (i : Instr) → here ≡ AtInstr i
        → framed_step k (moved_state exit_moving m s) ≡ moved_state exit_moving m (framed_step g s)
    instr_same i e =
        let paired : AreFetched W here then_here = subst (λ (x : Function). AreFetched W here
        (fetch x (exit_moving.spot (function_at m s.top.func) s.top.block) s.top.at))
        (sym (function_moved exit_moving kinds m s.top.func)) ((moves s.top.func).places (point_of s)) in
        let there : then_here ≡ AtInstr i = fetched_instr W i then_here
        (subst (λ (x : Fetched). AreFetched W x then_here) e paired) in
        made_then_at (AtInstr i) there
        ∙ ap (or_undefined k.given (moved_state exit_moving m s)) (instr_moved exit_moving kinds m layouts.coroutines
        answers names moves s h runs i (sym e))
        ∙ same_by (framed_next g s (AtInstr i)) (subst (λ (t : State). IsFine t.outcome) (made_at (AtInstr i) e) fine)
        ∙ ap (moved_state exit_moving m) (sym (made_at (AtInstr i) e))

    -- ---- terminators

    module _ (t : Terminator) (e : fetch (function_at m s.top.func) s.top.block s.top.at ≡ AtTerm t) where
      abbrev Edged : (ℕ → Type 0) → Type 0
      Edged New = IsEdged New (function_at m s.top.func) (exit_moving.to (function_at m s.top.func))
          (exit_moving.spot (function_at m s.top.func)) s.top.block s.top.at t

      term_then : (New : ℕ → Type 0) (x : Edged New) → then_here ≡ AtTerm x.term
      term_then New x = ap (λ (q : Function). fetch q (exit_moving.spot (function_at m s.top.func) s.top.block) s.top.at)
          (function_moved exit_moving kinds m s.top.func) ∙ x.there

      by_edges : (New : ℕ → Type 0) → Edged New
          → (framed_step k (moved_state exit_moving m s) ≡ moved_state exit_moving m (framed_step g s))
          ⊎ IsOnEdge exit_moving kinds m names layouts.coroutines answers s (moves s.top.func) h runs New
          (framed_step g s) (framed_step k (moved_state exit_moving m s))
      by_edges New x =
          let goes : TermsPaired W t x.term =
          subst (λ (z : Fetched). AreFetched W z (AtTerm x.term)) e
          (subst (λ (z : Fetched). AreFetched W here z) x.there ((moves s.top.func).places (point_of s))) in
          term_arrives exit_moving kinds m names layouts.coroutines answers s (moves s.top.func) h runs New t x.term e
          (term_then New x)
          (both_terms W (λ (a : ℕ) (l : ℕ). IsDirect (function_at m s.top.func)
          (exit_moving.to (function_at m s.top.func)) (exit_moving.spot (function_at m s.top.func)) a l ⊎ New l)
          t x.term goes x.led) fine

      -- where no edge gets a block
      alone : (c : ℕ) → Edged (λ (l : ℕ). ⊥) → Advances c s (moved_state exit_moving m s)
      alone c x = ⊎_elim (λ same. single c s h same) (λ edge. absurd edge.is_new) (by_edges (λ (l : ℕ). ⊥) x)

      -- ---- of a coroutine

      module _ (coroutine : f.coroutine ≡ true) where
        stands : slice_get m.functions s.top.func ≡ Some (function_at m s.top.func)
        stands = on (slice_get m.functions s.top.func) coroutine
          where
            on : (o : Option Function) → (unwrap_or o no_function).coroutine ≡ true → o ≡ Some (unwrap_or o no_function)
            on None c = absurd (cc)
            on (Some q) c = refl

        jumping : JumpsBehind (function_at m s.top.func)
        jumping = behind s.top.func (function_at m s.top.func) stands coroutine

        last : IsLast (function_at m s.top.func) s.top.block s.top.at t
        last = last_is (function_at m s.top.func) s.top.block s.top.at t e

        as_coroutine : (New : ℕ → Type 0) → IsEdged New (function_at m s.top.func)
            (with_exit_blocks (function_at m s.top.func)) (spot (function_at m s.top.func)) s.top.block s.top.at t
            → Edged New
        as_coroutine New x = subst (λ (z : Bool). IsEdged New (function_at m s.top.func)
            (if z then with_exit_blocks (function_at m s.top.func) else function_at m s.top.func)
            (λ (n : ℕ). if z then spot (function_at m s.top.func) n else n) s.top.block s.top.at t) (sym coroutine) x

        suspends_same : suspends_of (exit_moving.to (function_at m s.top.func)) ≡ suspends_of (function_at m s.top.func)
        suspends_same =
            ap (λ (z : Bool). suspends_of (if z then with_exit_blocks (function_at m s.top.func) else function_at m
            s.top.func)) coroutine
            ∙ same_suspends s.top.func (function_at m s.top.func) coroutine
            (kept s.top.func (function_at m s.top.func) stands coroutine).switches

        -- what a state of the same function costs
        module _ (x : State) (func : x.top.func ≡ s.top.func) (b : ℕ) (block : x.top.block ≡ b) (a : ℕ)
            (at : x.top.at ≡ a) where
          is : function_of k.given x ≡ exit_moving.to (function_at m s.top.func)
          is = ap (function_at (exits_split m)) func ∙ function_moved exit_moving kinds m s.top.func

          fetched_by : fetched_at k x ≡ fetch (exit_moving.to (function_at m s.top.func)) b a
          fetched_by =
              ap (λ (q : Function). fetch q x.top.block x.top.at) is
              ∙ ap (λ (n : ℕ). fetch (exit_moving.to (function_at m s.top.func)) n x.top.at) block
              ∙ ap (fetch (exit_moving.to (function_at m s.top.func)) b) at

          behind_by : is_behind_suspend k x ≡ is_return_label (suspends_of (function_at m s.top.func))
              (label_of (slice_get (exit_moving.to (function_at m s.top.func)).blocks b))
          behind_by =
              ap (λ (q : Function). is_return_label (suspends_of q) (label_of (slice_get q.blocks x.top.block))) is
              ∙ ap (λ (n : ℕ). is_return_label (suspends_of (exit_moving.to (function_at m s.top.func)))
              (label_of (slice_get (exit_moving.to (function_at m s.top.func)).blocks n))) block
              ∙ ap (λ (ps : List SuspendPoint). is_return_label ps
              (label_of (slice_get (exit_moving.to (function_at m s.top.func)).blocks b))) suspends_same

        paid : (x : Edged (λ (l : ℕ). length f.names ≤ l))
            → is_return_label (suspends_of f) (label_of (slice_get f.blocks s.top.block)) ≡ false
            → IsOnEdge exit_moving kinds m names layouts.coroutines answers s (moves s.top.func) h runs
            (λ (l : ℕ). length f.names ≤ l) (framed_step g s) (framed_step k (moved_state exit_moving m s))
            → cost (moved_state exit_moving m s) + cost (framed_step k (moved_state exit_moving m s)) ≤ 4
        paid x none edge =
            let o : Function = exit_moving.to f in
            let w : State = moved_state exit_moving m s in
            let u : State = framed_step k (moved_state exit_moving m s) in
            let spotted : ℕ = exit_moving.spot f s.top.block in
            let front : ℕ = position_of (exit_moving.to f) edge.label in
            let left : is_behind_suspend k w ≡ false =
            behind_by w refl spotted refl s.top.at refl
            ∙ ap (is_return_label (suspends_of f)) ((moves s.top.func).labels s.top.block) ∙ none in
            let right : is_behind_suspend k u ≡ false =
            behind_by u edge.func front edge.block 0 edge.front
            ∙ ap (λ (b : Option Block). is_return_label (suspends_of f) (label_of b)) edge.over.got
            ∙ ap (is_return_label (suspends_of f)) (label_there (exit_moving.to f) edge.label front _ refl edge.over.got)
            ∙ jumping.named edge.label edge.is_new in
            let there : fetched_at k u ≡ AtTerm (Terminator.Jump edge.target) =
            fetched_by u edge.func front edge.block 0 edge.front
            ∙ ap (λ (b : Option Block). fetch_in b 0) edge.over.got in
            both_low (cost w) (cost u)
            (term_price (is_behind_suspend k w) (fetched_at k w) x.term left
            (term_then (λ (l : ℕ). length f.names ≤ l) x))
            (term_price (is_behind_suspend k u) (fetched_at k u) (Terminator.Jump edge.target) right there)

        of_coroutine : (c : ℕ) (b : Bool)
            → is_return_label (suspends_of f) (label_of (slice_get f.blocks s.top.block)) ≡ b
            → Advances c s (moved_state exit_moving m s)
        of_coroutine c true d =
            let at_label : is_return_label (suspends_of f) last.there.label ≡ true =
            sym (ap (λ (o : Option Block). is_return_label (suspends_of f) (label_of o)) last.got) ∙ d in
            let y = jumping.jumps s.top.block last.there last.got at_label in
            alone c (as_coroutine (λ (l : ℕ). ⊥) (jump_edged f s.top.block s.top.at t last m s.top.func
            (kept s.top.func f stands coroutine) (λ (l : ℕ). ⊥) y.0 (sym last.is ∙ y.1)))
        of_coroutine c false d =
            let x = as_coroutine (λ (l : ℕ). length f.names ≤ l) (coroutine_edged f s.top.block s.top.at t last m
            s.top.func (kept s.top.func f stands coroutine)) in
            ⊎_elim (λ same. single c s h same) (λ edge. double c s h edge.before (paid x d edge))
            (by_edges (λ (l : ℕ). length f.names ≤ l) x)

      at_term : (c : ℕ) (b : Bool) → f.coroutine ≡ b → Advances c s (moved_state exit_moving m s)
      at_term c true d =
          of_coroutine d c (is_return_label (suspends_of f) (label_of (slice_get f.blocks s.top.block))) refl
      at_term c false d = alone c (subst (λ (z : Bool). IsEdged (λ (l : ℕ). ⊥) (function_at m s.top.func)
          (if z then with_exit_blocks (function_at m s.top.func) else function_at m s.top.func)
          (λ (n : ℕ). if z then spot (function_at m s.top.func) n else n) s.top.block s.top.at t) (sym d)
          (plain_edged (λ (l : ℕ). ⊥) (function_at m s.top.func) s.top.block s.top.at t e))

    advance_at : (c : ℕ) (x : Fetched) → here ≡ x → Advances c s (moved_state exit_moving m s)
    advance_at c Nowhere e = absurd (subst (λ (t : State). IsFine t.outcome) (made_at Nowhere e) fine)
    advance_at c (AtInstr i) e = single c s h (instr_same i e)
    advance_at c (AtTerm t) e = at_term t e c f.coroutine refl

  stays_by : (x : FramedGiven) (s : State) (o : Outcome) → (IsRunning o → ⊥) → framed_advance x s o ≡ s
  stays_by x s (Outcome.Returned v) over = refl
  stays_by x s Outcome.Running over = absurd (over tt)
  stays_by x s (Outcome.Undefined cause place) over = refl

  simulates : SimulatesBy A price B cost Credited Near (λ x. 0)
  simulates = record {
    begin = record {
      is = first_same exit_moving kinds m names moves layouts.coroutines answers entry args;
      holds = first_holds exit_moving m layouts.coroutines answers names moves entry args;
    };
    same = λ c s t r. subst (λ (x : State). ShowsSame (B.seen x) (A.seen s)) (sym r.is)
        (record { events = refl; outcome = refl });
    counts = λ c s t r. ap (λ (x : State). x.world.allocs) (sym r.is);
    holds = λ c s t r. (0, omega arith, inr r);
    advance = λ c s t r running fine. subst (λ (x : State). Advances c s x) (sym r.is)
        (advance_at s r.holds (running_is s.outcome running) fine c
        (fetch (function_at m s.top.func) s.top.block s.top.at) refl);
    stays_a = λ s over. stays_by g s s.outcome over;
    stays_b = λ s over. stays_by k s s.outcome over;
  }

  abbrev Among : State → State → Type 0
  Among = IsMovedIn m (exits_split m)

  moved_in : (s t : State) → Beside s t → Among s t
  moved_in s t r = record { moving = exit_moving; kinds = kinds; moves = moves; makes = refl; beside = r }

  near_in : (s t : State) → IsNear B 2 Beside s t → IsNear B 2 Among s t
  near_in s t h = (h.0, h.1, ⊎_elim (λ x. inl (x.0, moved_in s x.0 x.1, x.2)) (λ r. inr (moved_in s _ r)) h.2)

  pub exits_paid : AgreesBy Among (IsNear B 2 Among) A price B cost
  exits_paid =
      weaken_by (λ s t. (c : ℕ) × Beside s t) Near Among (IsNear B 2 Among) A price price B cost cost
      (λ s t r. moved_in s t r.1) near_in (λ n fine. omega arith) (λ n. omega arith)
      (lockstep_by A price B cost Credited Near (λ x. 0) simulates)
