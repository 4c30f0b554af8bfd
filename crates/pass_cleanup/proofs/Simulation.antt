-- A plain run and that of the module without the calls of coro.id.
use Rattle.std.proofs.Common.{◌≡◌, ℕ, suc, ◌-◌, ◌<◌, Bool, true, false, List, [], ◌∷◌, length, refl, sym, ap, ◌∙◌, subst, inl, inr, arith, add-one}
use Rattle.std.proofs.lemmas.Option.{slice_get_within}
use Rattle.std.specs.Prelude.{ℤ, Some, None, Ok, Err, Option, Result, option_map, map, slice_get, cond, if◌then◌else◌, ◌==◌}
use Rattle.run_agreement.proofs.Lockstep.{Advance, ShowsSame, Simulates, lockstep_one, lockstep_within}
use Rattle.run_agreement.proofs.Costs.{weaken_by}
use Rattle.run_agreement.specs.Agreements.{AgreesWithin}
use Rattle.run_agreement.specs.Costs.{AgreesBy}
use Rattle.run_agreement.specs.Machines.{IsFine, IsRunning, Machine}
use Rattle.ir_base.specs.declared.cause.Cause.{Cause}
use Rattle.ir_base.specs.declared.name.Name.{Name}
use Rattle.ir_base.specs.declared.outcome.Event.{Event}
use Rattle.ir_base.specs.declared.outcome.Outcome.{Outcome}
use Rattle.ir_base.specs.declared.outcome.Word.{Word}
use Rattle.pass_cleanup.specs.Cleanable.{IsCleanable, IsNoIntrinsic}
use Rattle.pass_cleanup.specs.Cleaned.{IsCleanedOf, plain_machine}
use Rattle.pass_cleanup.specs.Cleanup.{clean_module, is_kept_declaration, is_kept_instr}
use Rattle.pass_cleanup.proofs.Kept.{IsKept, get_kept, kept_before, step_dropped}
use Rattle.pass_cleanup.proofs.Parts.{instrs_of, kept_name}
use Rattle.pass_cleanup.proofs.States.{StaysHere, act_clean, action_clean, change_of, cleaned, cleaned_result, first_clean, given_by, place_fits}
use Rattle.ir_model.specs.Names.{declaration_named, first_where, function_at, same_name}
use Rattle.ir_model.specs.declared.instr.Instr.{Instr}
use Rattle.ir_model.specs.declared.module.Block.{Block}
use Rattle.ir_model.specs.declared.module.Declaration.{Declaration}
use Rattle.ir_model.specs.declared.module.Module.{Module}
use Rattle.ir_model.specs.declared.operand.Arg.{Arg}
use Rattle.ir_model.specs.declared.operand.Callee.{Callee}
use Rattle.ir_model.specs.declared.operand.Intrinsic.{Intrinsic}
use Rattle.ir_model.specs.declared.operand.Operand.{Operand}
use Rattle.run_step.specs.Results.{and_then}
use Rattle.run_step.specs.Runs.{name_of_declaration, seen_event, seen_of}
use Rattle.run_step.specs.Step.{Action, AtInstr, Context, Coro, Deallocate, Done, Enter, Fetched, GoTo, NewSlot, Return, Stuck, Work, action_of, deallocated, fetch, fetch_in, fetch_or, instr_action, outcome_of, set_memory}
use Rattle.run_plain.specs.Plain.{PlainAt, PlainGiven, plain_act, plain_advance, plain_context, plain_coro, plain_first, plain_function, plain_or_undefined, plain_pop, plain_returned, plain_settled, plain_step, plain_work}
use Rattle.run_plain.specs.declared.state.PlainActivation.{PlainActivation}
use Rattle.run_plain.specs.declared.state.PlainState.{PlainState}
use Rattle.run_laws.proofs.changed.Kept.{action_kept}
use Rattle.run_laws.specs.changed.Changed.{Change, Each, IsDeclaredAlike, IsLike, IsSameOperand, callee_at, changed_action, changed_event, changed_work, operands_at}

-- ---- the events of a run are of declarations that are kept

module _ (m : Module) (answers : List ℤ) (ok : IsCleanable m) where
  abbrev g : PlainGiven
  g = given_by m answers

  abbrev k : PlainGiven
  k = given_by (clean_module m) answers

  abbrev keeps : Option Declaration → Bool
  keeps None = true
  keeps (Some d) = is_kept_declaration d

  -- a position that only changes where its declaration isn't kept
  abbrev marked : ℕ → ℕ
  marked d = cond (keeps (slice_get m.declarations d)) d (suc d)

  abbrev marking : Change
  marking = record { values = λ env. env; declaration = marked }

  kept_marked : (b : Bool) (d : ℕ) → cond b d (suc d) ≡ d → b ≡ true
  kept_marked true d e = refl
  kept_marked false d e = absurd (omega arith)

  marked_kept : (d : ℕ) → marked d ≡ d → IsKept is_kept_declaration m.declarations d
  marked_kept d e x s = let b = kept_marked (keeps (slice_get m.declarations d)) d e in sym (ap keeps s) ∙ b

  -- the first of a name is one of that name
  found_of : (n : Name) (xs : List Declaration) (d : ℕ) → IsNoIntrinsic (Some n) → first_where (λ x. same_name x.name n) xs ≡ Some d → keeps (slice_get xs d) ≡ true
  found_of n [] d h e = absurd (cc)
  found_of n (x ∷ xs) d h e = on (same_name x.name n) refl (first_where (λ y. same_name y.name n) xs) (λ i f. found_of n xs i h f) refl e
    where
      on : (b : Bool) → same_name x.name n ≡ b → (o : Option ℕ) → ((i : ℕ) → first_where (λ y. same_name y.name n) xs ≡ Some i → keeps (slice_get xs i) ≡ true) → first_where (λ y. same_name y.name n) xs ≡ o → (if b then Some 0 else option_map suc o) ≡ Some d → keeps (slice_get (x ∷ xs) d) ≡ true
      on true s o again f e = let z : 0 ≡ d = cc in subst (λ (i : ℕ). keeps (slice_get (x ∷ xs) i) ≡ true) z (kept_name n h x s)
      on false s None again f e = absurd (cc)
      on false s (Some i) again f e = let z : suc i ≡ d = cc in subst (λ (j : ℕ). keeps (slice_get (x ∷ xs) j) ≡ true) z (again i f)

  mark_found : (n : Name) → IsNoIntrinsic (Some n) → (o : Option ℕ) → declaration_named m n ≡ o → o ≡ option_map marked o
  mark_found n h None e = refl
  mark_found n h (Some d) e = ap (λ (b : Bool). Some (cond b d (suc d))) (sym (found_of n m.declarations d h e))

  same_like : (c : Context) → IsLike c c
  same_like c = record { types = refl; answers = refl; rights = refl; coroutine = refl; markers = λ name. refl; functions = λ n. refl; fits = λ ty args func. refl }

  same_operands : (c : Context) (s : PlainState) (xs : List Operand) → Each (IsSameOperand marking c c s.top.values) xs
  same_operands c s [] = tt
  same_operands c s (x ∷ xs) = (record { here = λ ty. refl; nowhere = λ ty. refl }, same_operands c s xs)

  same_callee : (s : PlainState) (n : Option Name) → IsNoIntrinsic n → IsDeclaredAlike marking (plain_context g s) (plain_context g s) n
  same_callee s None h = tt
  same_callee s (Some n) h = mark_found n h (declaration_named m n) refl

  abbrev here_of : PlainState → Fetched
  here_of s = fetch (function_at m s.top.func) s.top.block s.top.at

  abbrev action : PlainState → Action
  action s = action_of (plain_context g s) (plain_work s) (here_of s)

  -- the events of a state stay where they are marked
  abbrev AreMarked : PlainState → Type 0
  AreMarked s = map (changed_event marking) s.world.events ≡ s.world.events

  action_marked : (s : PlainState) → AreMarked s → action s ≡ changed_action marking (action s)
  action_marked s h =
      ap (λ (es : List Event). action_of (plain_context g s) (record { world = record s.world { events = es }; values = s.top.values }) (here_of s)) (sym h)
      ∙ action_kept marking (plain_context g s) (plain_context g s) (plain_work s) (here_of s) (same_like (plain_context g s))
      (record { operands = same_operands (plain_context g s) s (operands_at (here_of s)); result = λ v. refl; callee = same_callee s (callee_at (here_of s)) (place_fits m ok s.top.func s.top.block s.top.at).callee })

  -- what an action leaves of the events
  abbrev events_of : PlainState → Action → List Event
  events_of s (Done w) = w.world.events
  events_of s (NewSlot w slot) = w.world.events
  events_of s (Enter func args result must_tail) = s.world.events
  events_of s (Coro i args result) = s.world.events
  events_of s (Deallocate p) = s.world.events
  events_of s (GoTo label) = s.world.events
  events_of s (Return v) = s.world.events
  events_of s (Stuck cause) = s.world.events

  abbrev HasEvents : List Event → Result PlainState Cause → Type 0
  HasEvents es (Err cause) = Unit {0}
  HasEvents es (Ok s) = s.world.events ≡ es

  counted_events : (func : ℕ) (s : PlainState) (b : Bool) (n : ℕ) → (if b then record s { elided = n } else s).world.events ≡ s.world.events
  counted_events func s true n = refl
  counted_events func s false n = refl

  act_events : (s : PlainState) (a : Action) → HasEvents (events_of s a) (plain_act g s a)
  act_events s (Done w) = refl
  act_events s (NewSlot w slot) = refl
  act_events s (Enter func args result true) = counted_events func _ _ _
  act_events s (Enter func args result false) = counted_events func _ _ _
  act_events s (Coro i args result) = on i
    where
      on : (i : Intrinsic) → HasEvents s.world.events (plain_coro s i)
      on Intrinsic.CoroId = refl
      on _ = tt
  act_events s (Deallocate p) = on (deallocated s.world.memory p)
    where
      on : (r : Result _ Cause) → HasEvents s.world.events (and_then r (λ memory. Ok (plain_settled s (set_memory (plain_work s) memory))))
      on (Err cause) = tt
      on (Ok memory) = refl
  act_events s (GoTo label) = refl
  act_events s (Return v) = on s.below
    where
      over : (r : Result Outcome Cause) → HasEvents s.world.events (and_then r (λ outcome. Ok (record (plain_returned s) { outcome = outcome })))
      over (Err cause) = tt
      over (Ok outcome) = refl

      on : (below : List PlainActivation) → HasEvents s.world.events (plain_pop (plain_returned s) v below)
      on [] = over (outcome_of v)
      on (a ∷ below) = refl
  act_events s (Stuck cause) = tt

  marked_events : (s : PlainState) → AreMarked s → (a : Action) → a ≡ changed_action marking a → map (changed_event marking) (events_of s a) ≡ events_of s a
  marked_events s h (Done w) e = let f : changed_work marking w ≡ w = cc in ap (λ (x : Work). x.world.events) f
  marked_events s h (NewSlot w slot) e = let f : changed_work marking w ≡ w = cc in ap (λ (x : Work). x.world.events) f
  marked_events s h _ e = h

  -- ---- one step of the run

  running_is : (o : Outcome) → IsRunning o → o ≡ Outcome.Running
  running_is (Outcome.Returned v) h = absurd h
  running_is Outcome.Running h = refl
  running_is (Outcome.Undefined cause place) h = absurd h

  step_is : (c : PlainGiven) (s : PlainState) → s.outcome ≡ Outcome.Running → plain_step c s ≡ plain_or_undefined c s (plain_act c s (action_of (plain_context c s) (plain_work s) (fetch (plain_function c s) s.top.block s.top.at)))
  step_is c s e = ap (plain_advance c s) e

  -- a step that isn't undefined gives a state
  abbrev GivesState : PlainState → Result PlainState Cause → Type 0
  GivesState s r = (u : PlainState) × (r ≡ Ok u) × (plain_or_undefined g s r ≡ u)

  gives_state : (s : PlainState) (r : Result PlainState Cause) → IsFine (plain_or_undefined g s r).outcome → GivesState s r
  gives_state s (Err cause) h = absurd h
  gives_state s (Ok u) h = (u, refl, refl)

  module _ (s : PlainState) (marks : AreMarked s) (runs : s.outcome ≡ Outcome.Running) (fine : IsFine (plain_step g s).outcome) where
    result : GivesState s (plain_act g s (action s))
    result = gives_state s (plain_act g s (action s)) (subst (λ (x : PlainState). IsFine x.outcome) (step_is g s runs) fine)

    pub step_marked : AreMarked (plain_step g s)
    step_marked =
        let events : result.0.world.events ≡ events_of s (action s) = subst (HasEvents (events_of s (action s))) result.1 (act_events s (action s)) in
        let there : map (changed_event marking) result.0.world.events ≡ result.0.world.events =
        ap (map (changed_event marking)) events ∙ marked_events s marks (action s) (action_marked s marks) ∙ sym events in
        subst AreMarked (sym (step_is g s runs ∙ result.2)) there

    pub step_stays : StaysHere m s → plain_step k (cleaned m s) ≡ cleaned m (plain_step g s)
    step_stays stays =
        step_is k (cleaned m s) runs
        ∙ ap (λ (a : Action). plain_or_undefined k (cleaned m s) (plain_act k (cleaned m s) a)) (action_clean m answers ok s stays)
        ∙ ap (plain_or_undefined k (cleaned m s)) (act_clean m answers ok s stays (action s) ∙ ap (cleaned_result m) result.1)
        ∙ ap (cleaned m) (sym (step_is g s runs ∙ result.2))

  -- ---- a call of coro.id

  abbrev IsId : Context → Work → Instr → Type 0
  IsId c w i = (args : List Arg) × (result : Option ℕ) × (instr_action c w i ≡ Coro Intrinsic.CoroId args result)

  id_action : (c : Context) (w : Work) (i : Instr) → is_kept_instr i ≡ false → IsId c w i
  id_action c w (Instr.Call result must_tail ty (Callee.Intrinsic Intrinsic.CoroId) args) e = (args, result, refl)
  id_action c w _ e = absurd (cc)

  here_is : (s : PlainState) (o : Option Block) (i : Instr) → slice_get (instrs_of o) s.top.at ≡ Some i → fetch_in o s.top.at ≡ AtInstr i
  here_is s None i e = absurd (cc)
  here_is s (Some b) i e = ap (λ (x : Option Instr). fetch_or x (s.top.at == length b.instrs) b.term) e

  abbrev instrs_at : PlainState → List Instr
  instrs_at s = instrs_of (slice_get (function_at m s.top.func).blocks s.top.block)

  pub dropped_step : (s : PlainState) (i : Instr) → s.outcome ≡ Outcome.Running → slice_get (instrs_at s) s.top.at ≡ Some i → is_kept_instr i ≡ false → plain_step g s ≡ plain_settled s (plain_work s)
  dropped_step s i runs e h =
      let id = id_action (plain_context g s) (plain_work s) i h in
      step_is g s runs
      ∙ ap (λ (x : Fetched). plain_or_undefined g s (plain_act g s (action_of (plain_context g s) (plain_work s) x))) (here_is s (slice_get (function_at m s.top.func).blocks s.top.block) i e)
      ∙ ap (λ (a : Action). plain_or_undefined g s (plain_act g s a)) id.2

  dropped_state : (s : PlainState) (i : Instr) → slice_get (instrs_at s) s.top.at ≡ Some i → is_kept_instr i ≡ false → cleaned m (plain_settled s (plain_work s)) ≡ cleaned m s
  dropped_state s i e h =
      ap (λ (n : ℕ). record (cleaned m s) { top = record s.top { at = n } })
      (ap (kept_before is_kept_instr (instrs_at s)) (add-one s.top.at) ∙ step_dropped is_kept_instr (instrs_at s) s.top.at i e h)

  -- the instructions that are left of the block
  abbrev left : PlainState → ℕ
  left s = length (instrs_at s) - s.top.at

  left_falls : (s : PlainState) (i : Instr) → slice_get (instrs_at s) s.top.at ≡ Some i → left (plain_settled s (plain_work s)) < left s
  left_falls s i e = let h = slice_get_within (instrs_at s) s.top.at i e in omega arith

  -- ---- the two machines

  abbrev Source : ℕ → List Word → Machine PlainState
  Source entry args = record { start = plain_first m entry args; step = plain_step g; seen = λ s. seen_of m s.world s.outcome }

  abbrev Target : ℕ → List Word → Machine PlainState
  Target entry args = record { start = plain_first (clean_module m) entry args; step = plain_step k; seen = λ s. seen_of (clean_module m) s.world s.outcome }

  record Related (s t : PlainState) : Type 0 where
    is : t ≡ cleaned m s
    marks : AreMarked s

  event_seen : (e : Event) → changed_event marking e ≡ e → seen_event (clean_module m) (changed_event (change_of m) e) ≡ seen_event m e
  event_seen e h =
      ap (λ (o : Option Declaration). record { name = name_of_declaration o; args = e.args })
      (get_kept is_kept_declaration m.declarations e.func (marked_kept e.func (ap (λ (x : Event). x.func) h)))

  events_seen : (es : List Event) → map (changed_event marking) es ≡ es → map (seen_event (clean_module m)) (map (changed_event (change_of m)) es) ≡ map (seen_event m) es
  events_seen [] h = refl
  events_seen (e ∷ es) h =
      let first : changed_event marking e ≡ e = cc in
      let rest : map (changed_event marking) es ≡ es = cc in
      let a = event_seen e first in
      let b = events_seen es rest in
      λ i. a i ∷ b i

  shows : (s : PlainState) → AreMarked s → ShowsSame (seen_of (clean_module m) (cleaned m s).world (cleaned m s).outcome) (seen_of m s.world s.outcome)
  shows s h = record { events = events_seen s.world.events h; outcome = refl }

  stays_by : (c : PlainGiven) (s : PlainState) (o : Outcome) → (IsRunning o → ⊥) → plain_advance c s o ≡ s
  stays_by c s (Outcome.Returned v) h = refl
  stays_by c s Outcome.Running h = absurd (h tt)
  stays_by c s (Outcome.Undefined cause place) h = refl

  module _ (entry : ℕ) (args : List Word) where
    abbrev A : Machine PlainState
    A = Source entry args

    abbrev B : Machine PlainState
    B = Target entry args

    advance : (s : PlainState) → AreMarked s → IsRunning s.outcome → IsFine (plain_step g s).outcome → Advance A B 1 Related left s (cleaned m s)
    advance s marks runs fine = on (slice_get (instrs_at s) s.top.at) refl
      where
        is_running : s.outcome ≡ Outcome.Running
        is_running = running_is s.outcome runs

        one : StaysHere m s → Advance A B 1 Related left s (cleaned m s)
        one stays = record {
          steps = 1;
          few = omega arith;
          goes_on = inl (omega arith);
          between = λ i low high. absurd (omega arith);
          related = record { is = step_stays s marks is_running fine stays; marks = step_marked s marks is_running fine };
        }

        none : (i : Instr) → slice_get (instrs_at s) s.top.at ≡ Some i → is_kept_instr i ≡ false → Advance A B 1 Related left s (cleaned m s)
        none i e h =
            let step = dropped_step s i is_running e h in
            record {
              steps = 0;
              few = omega arith;
              goes_on = inr (subst (λ (x : PlainState). left x < left s) (sym step) (left_falls s i e));
              between = λ i low high. absurd (omega arith);
              related = record { is = sym (ap (cleaned m) step ∙ dropped_state s i e h); marks = step_marked s marks is_running fine };
            }

        with_instr : (i : Instr) → slice_get (instrs_at s) s.top.at ≡ Some i → (b : Bool) → is_kept_instr i ≡ b → Advance A B 1 Related left s (cleaned m s)
        with_instr i e true h = one (λ x f. let same : i ≡ x = cc in subst (λ (y : Instr). is_kept_instr y ≡ true) same h)
        with_instr i e false h = none i e h

        on : (o : Option Instr) → slice_get (instrs_at s) s.top.at ≡ o → Advance A B 1 Related left s (cleaned m s)
        on None e = one (λ x f. absurd (cc))
        on (Some i) e = with_instr i e (is_kept_instr i) refl

    simulates : Simulates A B 1 Related left
    simulates = record {
      begin = record { is = first_clean m answers ok entry args; marks = refl };
      same = λ s t r. subst (λ (x : PlainState). ShowsSame (B.seen x) (A.seen s)) (sym r.is) (shows s r.marks);
      advance = λ s t r runs fine. subst (λ (x : PlainState). Advance A B 1 Related left s x) (sym r.is) (advance s r.marks runs fine);
      stays_a = λ s h. stays_by g s s.outcome h;
      stays_b = λ s h. stays_by k s s.outcome h;
    }

    pub agrees : AgreesWithin 1 (PlainAt m entry args answers) (PlainAt (clean_module m) entry args answers)
    agrees = lockstep_within A B 1 Related left simulates (λ s t r. ap (λ (x : PlainState). x.world.allocs) (sym r.is))

    pub corresponds : AgreesBy (IsCleanedOf m) (IsCleanedOf m) A (λ s. 1) B (λ t. 1)
    corresponds =
        weaken_by Related Related (IsCleanedOf m) (IsCleanedOf m) A (λ s. 1) (λ s. 1) B (λ t. 1) (λ t. 1)
        (λ s t r. r.is) (λ s t r. r.is) (λ n fine. omega arith) (λ n. omega arith)
        (lockstep_one A B Related left simulates (λ s t r. ap (λ (x : PlainState). x.world.allocs) (sym r.is)))

pub clean_corresponds : (m : Module) → IsCleanable m → (entry : ℕ) (args : List Word) (answers : List ℤ)
    → AgreesBy (IsCleanedOf m) (IsCleanedOf m) (plain_machine m entry args answers) (λ s. 1)
    (plain_machine (clean_module m) entry args answers) (λ t. 1)
clean_corresponds m ok entry args answers = corresponds m answers ok entry args

pub clean_agrees : (m : Module) → IsCleanable m → (entry : ℕ) (args : List Word) (answers : List ℤ) → AgreesWithin 1 (PlainAt m entry args answers) (PlainAt (clean_module m) entry args answers)
clean_agrees m ok entry args answers = agrees m answers ok entry args

-- the same of whatever module the pass gives
pub result_agrees : (m x : Module) → x ≡ clean_module m → IsCleanable m → (entry : ℕ) (args : List Word) (answers : List ℤ) → AgreesWithin 1 (PlainAt m entry args answers) (PlainAt x entry args answers)
result_agrees m x e ok entry args answers =
    subst (λ (y : Module). AgreesWithin 1 (PlainAt m entry args answers) (PlainAt y entry args answers)) (sym e) (clean_agrees m ok entry args answers)
