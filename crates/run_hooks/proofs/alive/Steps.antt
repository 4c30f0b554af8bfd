-- A step of a source leaves a state in which live slots may be alive, and so does a run.
use Rattle.std.proofs.Common.{◌≡◌, ℕ, zero, suc, Bool, true, false, List, None, Result, Ok, Err, refl, sym, ap, ◌∙◌}
use Rattle.std.proofs.Common.{subst}
use Rattle.std.specs.Prelude.{if◌then◌else◌, map}
use Rattle.pass_renewed_proof.specs.ir_base.declared.cause.Cause.{Cause}
use Rattle.pass_renewed_proof.specs.ir_base.declared.outcome.Outcome.{Outcome}
use Rattle.pass_renewed_proof.specs.ir_base.declared.outcome.Word.{Word}
use Rattle.pass_renewed_proof.specs.ir_model.Layout.{size_of}
use Rattle.pass_renewed_proof.specs.ir_model.Ty.{Ty}
use Rattle.pass_renewed_proof.specs.ir_model.declared.instr.Instr.{Instr}
use Rattle.pass_renewed_proof.specs.ir_model.declared.module.Function.{Function}
use Rattle.pass_renewed_proof.specs.ir_model.declared.module.Module.{Module}
use Rattle.pass_renewed_proof.specs.ir_model.declared.operand.Callee.{Callee}
use Rattle.pass_renewed_proof.specs.ir_model.declared.operand.Intrinsic.{Intrinsic}
use Rattle.pass_renewed_proof.specs.ir_paths.declared.point.Point.{Point}
use Rattle.pass_renewed_proof.proofs.pass_kept_proof.Actions.{SameAction, action_same}
use Rattle.pass_renewed_proof.proofs.pass_kept_proof.Same.{same_all}
use Rattle.pass_renewed_proof.specs.pass_kept_proof.Needed.{BranchesTo}
use Rattle.pass_renewed_proof.specs.SlotRules.{IsMarkerAt}
use Rattle.run_hooks.proofs.Placing.{term_no_instr}
use Rattle.run_hooks.proofs.alive.Acts.{never_returns, returns_by, slots_by}
use Rattle.run_hooks.proofs.alive.Changes.{called_in}
use Rattle.run_hooks.proofs.alive.Instrs.{done_goes}
use Rattle.run_hooks.proofs.alive.NewSlots.{new_block}
use Rattle.run_hooks.proofs.alive.Order.{shut}
use Rattle.run_hooks.proofs.alive.Places.{placed}
use Rattle.run_hooks.specs.Away.{IsPlacedState, KeepsAllPlaceRules, point_in, KeepsPlaced}
use Rattle.run_hooks.specs.Hooks.{hooked_act, hooked_advance, hooked_context, hooked_next, step_of}
use Rattle.run_hooks.specs.Left.{IsLastState, KeepsLast}
use Rattle.run_hooks.specs.Reached.{AllHaveSwitches, IsReachedState, KeepsReached}
use Rattle.run_hooks.specs.alive.Alive.{HandsOver, IsAliveState, KeepsAllAliveRules, StaysAlive, handing, IsMarker}
use Rattle.run_hooks.specs.alive.Slots.{Own}
use Rattle.pass_renewed_proof.specs.run_memory.declared.pointer.Value.{Value}
use Rattle.pass_renewed_proof.specs.run_source.Source.{first_state}
use Rattle.pass_renewed_proof.specs.run_source.State.{function_of, or_undefined, own_facts, work_of}
use Rattle.pass_renewed_proof.specs.run_source.declared.state.Mode.{Mode}
use Rattle.pass_renewed_proof.specs.run_source.declared.state.State.{State}
use Rattle.pass_renewed_proof.specs.run_source_tables.Given.{Given}
use Rattle.pass_renewed_proof.specs.run_step.Effects.{is_alloca}
use Rattle.pass_renewed_proof.specs.run_step.Runs.{iterate}
use Rattle.pass_renewed_proof.specs.run_step.Step.{Action, AtInstr, AtTerm, Context, Coro, Deallocate, Done, Enter, Fetched, GoTo, NewSlot}
use Rattle.pass_renewed_proof.specs.run_step.Step.{Nowhere, Return, Stuck, action_of, alloca, alloca_kind, fetch, is_alignment}
use Rattle.pass_renewed_proof.specs.run_step.Values.{Env, arg_values}
use Rattle.run_hooks.proofs.Left.{step_last}
use Rattle.run_hooks.proofs.Reaching.{step_stays}
use Rattle.run_hooks.proofs.PlacedSteps.{step_placed}
use Rattle.pass_renewed_proof.specs.rule_slots.Closed.{IsClosed}
use Rattle.run_hooks.proofs.alive.Like.{like}
use Rattle.run_hooks.proofs.alive.Now.{IsNow, own_rules, ordered, stays_here}
use Rattle.run_hooks.proofs.alive.Coros.{coro_fine}
use Rattle.run_hooks.proofs.alive.Freeing.{deallocate_fine, enter_fine}
use Rattle.run_hooks.proofs.alive.Leaving.{goes_fine, returns_fine}
use Rattle.run_hooks.proofs.alive.NoEnds.{coro_ends, call_ends}

module _ {g : Given} {counts : ℕ → ℕ → Bool} {hand : ℕ → Point → Env → Env} {s : State}
    (start : IsNow g counts hand s) where
  abbrev m : Module
  m = g.code

  abbrev f : Function
  f = function_of g s

  abbrev p : Point
  p = point_in s.top

  abbrev here : Fetched
  here = fetch f s.top.block s.top.at

  abbrev ramp : List ℕ
  ramp = (own_facts g s).ramp_slots

  abbrev h : IsAliveState g.code counts s
  h = start.alive

  abbrev Fine : Result State Cause → Type 0
  Fine r = StaysAlive g.code counts r

  -- ---- a new slot

  alloca_fine : (v : ℕ) (ty : Ty) (align : ℕ) → here ≡ AtInstr (Instr.Alloca v ty align) → (t : Bool)
      → is_alignment align ≡ t → Fine (hooked_act (handing g hand) s
      (if t then alloca (hooked_context (handing g hand) s) (work_of s) v (size_of m ty) align else Stuck Cause.Align))
  alloca_fine v ty align stands true e =
      placed m counts g refl _ _ (new_block m counts s h (ordered start) ramp (own_rules start) (stays_here start) v ty
      align stands
      (size_of m ty) align (alloca_kind f)) (like s (ordered start) _ refl refl refl (λ j z ez. (z, ez, refl))
      (ordered start).awake)
      (own_rules start)
  alloca_fine v ty align stands false e = tt

  -- ---- all of them

  abbrev context : Context
  context = hooked_context (handing g hand) s

  shut_here : (marker : Intrinsic) → IsMarker marker → (v : ℕ) → IsMarkerAt f marker v p → s.top.has_left ≡ true
      → IsClosed f p
  shut_here = shut (handing g hand) refl start.places s start.reached start.last start.placed

  act_fine : (x : Fetched) → here ≡ x → (a : Action) → action_of context (work_of s) x ≡ a
      → SameAction g.code (λ v. Unit {0}) here s.top.values s.top.values a a
      → ((i : Instr) → x ≡ AtInstr i → is_alloca i ≡ false) → Fine (hooked_act (handing g hand) s a)
  act_fine x e (Stuck cause) ea k never = tt
  act_fine x e (Coro j args result) ea k never =
      coro_fine start (Instr.Call result k.1.0 k.1.1 (Callee.Intrinsic j) args) k.1.2 result k.1.0 k.1.1 args
      (arg_values g.code s.top.values args) j refl context
      (ap (action_of context (work_of s)) (sym k.1.2 ∙ e) ∙ ea)
  act_fine Nowhere e a ea k never = absurd (cc)
  act_fine (AtTerm t) e (Return v) ea k never =
      let r = returns_by context (work_of s) t v ea in returns_fine start t e r.0 r.1 v
  act_fine (AtTerm t) e (GoTo label) ea k never = goes_fine start t e label k.1
  act_fine (AtTerm t) e (Done w) ea k never = absurd (term_no_instr context s t (Done w) ea refl)
  act_fine (AtTerm t) e (NewSlot w slot) ea k never = absurd (term_no_instr context s t (NewSlot w slot) ea refl)
  act_fine (AtTerm t) e (Enter func args result must_tail) ea k never =
      absurd (term_no_instr context s t (Enter func args result must_tail) ea refl)
  act_fine (AtTerm t) e (Deallocate v) ea k never = absurd (term_no_instr context s t (Deallocate v) ea refl)
  act_fine (AtInstr i) e (Return v) ea k never = absurd (never_returns context (work_of s) i v ea)
  act_fine (AtInstr i) e (GoTo label) ea k never = absurd (subst (BranchesTo label) e k.1)
  act_fine (AtInstr i) e (Done w) ea k never =
      done_goes m counts s h (ordered start) ramp (own_rules start) (stays_here start) i e shut_here context
      (never i refl) w ea
  act_fine (AtInstr i) e (NewSlot w slot) ea k never =
      let no : true ≡ false = sym (slots_by context (work_of s) i w slot ea) ∙ never i refl in absurd (cc)
  act_fine (AtInstr i) e (Enter func args result must_tail) ea k never =
      let ends = call_ends s i context func args result must_tail ea in
      enter_fine start i e ends.0 ends.1 (never i refl) context func args result must_tail ea
  act_fine (AtInstr i) e (Deallocate v) ea k never =
      let ends = coro_ends s i context v ea in deallocate_fine start i e ends.0 ends.1 v

  acts_fine : Fine (hooked_act (handing g hand) s (action_of context (work_of s) here))
  acts_fine = on here refl
    where
      same : SameAction g.code (λ v. Unit {0}) here s.top.values s.top.values
          (action_of context (work_of s) here) (action_of context (work_of s) here)
      same = action_same context s.world s.top.values s.top.values (λ v. Unit {0}) (λ v. Unit {0})
          (same_all _ s.top.values) here (λ v t. tt) (λ v n k. tt)

      by : (x : Fetched) → here ≡ x → ((i : Instr) → x ≡ AtInstr i → is_alloca i ≡ false)
          → Fine (hooked_act (handing g hand) s (action_of context (work_of s) here))
      by x e never = act_fine x e (action_of context (work_of s) here) (ap (action_of context (work_of s)) (sym e)) same
          never

      allocas : (i : Instr) → here ≡ AtInstr i → is_alloca i ≡ true
          → Fine (hooked_act (handing g hand) s (action_of context (work_of s) (AtInstr i)))
      allocas (Instr.Alloca v ty align) e a = alloca_fine v ty align e (is_alignment align) refl
      allocas _ e a = absurd (cc)

      alloca_or_not : (i : Instr) → here ≡ AtInstr i → (b : Bool) → is_alloca i ≡ b
          → Fine (hooked_act (handing g hand) s (action_of context (work_of s) here))
      alloca_or_not i e true a = subst (λ (x : Fetched). Fine (hooked_act (handing g hand) s
          (action_of context (work_of s) x)))
          (sym e) (allocas i e a)
      alloca_or_not i e false a = by (AtInstr i) e (λ j k. let is : i ≡ j = cc in ap is_alloca (sym is) ∙ a)

      on : (x : Fetched) → here ≡ x → Fine (hooked_act (handing g hand) s (action_of context (work_of s) here))
      on Nowhere e = by Nowhere e (λ i k. absurd (cc))
      on (AtTerm t) e = by (AtTerm t) e (λ i k. absurd (cc))
      on (AtInstr i) e = alloca_or_not i e (is_alloca i) refl

  or_alive : (x : Result State Cause) → Fine x → IsAliveState g.code counts (or_undefined g s x)
  or_alive (Err cause) k = record { tags = h.tags; stack = h.stack; instances = h.instances }
  or_alive (Ok t) k = k

  advance_alive : (o : Outcome) → IsAliveState g.code counts (hooked_advance (handing g hand) s o)
  advance_alive Outcome.Running = or_alive (hooked_next (handing g hand) s here) acts_fine
  advance_alive (Outcome.Returned v) = h
  advance_alive (Outcome.Undefined cause place) = h

  pub step_alive : IsAliveState g.code counts (step_of (handing g hand) s)
  step_alive = advance_alive s.outcome

-- ---- runs

pub first_alive : (g : Given) (counts : ℕ → ℕ → Bool) (entry : ℕ) (args : List Word)
    → IsAliveState g.code counts (first_state g.code entry args)
first_alive g counts entry args = record {
  tags = λ b. record { home = Own 0; alloca = 0 };
  stack = (called_in g.code counts _ 0 entry (map Value.Int args) None Mode.Plain, tt, tt);
  instances = λ i x e. absurd (cc);
}

-- all that holds of a state of a run
pub record IsAliveRun (g : Given) (counts : ℕ → ℕ → Bool) (hand : ℕ → Point → Env → Env) (s : State) : Type 0 where
  pub alive : IsAliveState g.code counts s
  pub reached : IsReachedState g s
  pub last : IsLastState s
  pub placed : IsPlacedState (handing g hand) s

pub states_alive : (g : Given) (counts : ℕ → ℕ → Bool) (hand : ℕ → Point → Env → Env)
    → HandsOver g.code counts hand → KeepsAllAliveRules g → KeepsAllPlaceRules g → AllHaveSwitches g.code
    → KeepsReached (handing g hand) → KeepsLast (handing g hand) → KeepsPlaced (handing g hand) → (n : ℕ) (s : State)
    → IsAliveRun g counts hand s → IsAliveRun g counts hand (iterate (step_of (handing g hand)) n s)
states_alive g counts hand hands rules places ok reaches lasts keeps zero s r = r
states_alive g counts hand hands rules places ok reaches lasts keeps (suc n) s r =
    states_alive g counts hand hands rules places ok reaches lasts keeps n (step_of (handing g hand) s) (record {
      alive = step_alive (record {
        hands = hands;
        rules = rules;
        places = places;
        ok = ok;
        alive = r.alive;
        reached = r.reached;
        last = r.last;
        placed = r.placed;
      });
      reached = step_stays (handing g hand) ok reaches s r.reached;
      last = step_last (handing g hand) lasts s r.last;
      placed = step_placed (handing g hand) places keeps s r.reached r.placed;
    })
