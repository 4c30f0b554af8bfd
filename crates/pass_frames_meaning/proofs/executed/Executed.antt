-- A step by hooks keeps it that executed allocas lead to slots of their activation.
use Rattle.std.proofs.Common.{◌≡◌, ◌⊎◌, inl, inr, ⊎_elim, ℕ, zero, suc, ◌+◌, ◌<◌, Bool, true, false, List, [], ◌∷◌}
use Rattle.std.proofs.Common.{length, Option, Some, None}
use Rattle.std.proofs.Common.{Result, Ok, Err, refl, sym, ap, ◌∙◌, subst, arith, if◌then◌else◌, ◌==◌}
use Rattle.std.proofs.lemmas.Bool.{eqb-true, false≢true}
use Rattle.std.specs.Prelude.{negsuc, not, slice_get, unwrap_or}
use Rattle.pass_frames_proof.specs.ir_base.declared.cause.Cause.{Cause}
use Rattle.pass_frames_proof.specs.ir_base.declared.outcome.Outcome.{Outcome}
use Rattle.pass_frames_proof.specs.ir_base.declared.outcome.Word.{Word}
use Rattle.pass_frames_proof.proofs.ir_laws.facts.Lists.{get_within}
use Rattle.pass_frames_proof.specs.ir_model.Names.{function_at, position_of}
use Rattle.pass_frames_proof.specs.ir_model.Ty.{Ty}
use Rattle.pass_frames_proof.specs.ir_model.declared.instr.Instr.{Instr}
use Rattle.pass_frames_proof.specs.ir_model.declared.instr.Terminator.{Terminator}
use Rattle.pass_frames_proof.specs.ir_model.declared.module.Block.{Block}
use Rattle.pass_frames_proof.specs.ir_model.declared.module.Function.{Function}
use Rattle.pass_frames_proof.specs.ir_model.declared.module.Module.{Module}
use Rattle.pass_frames_proof.specs.ir_model.declared.operand.Arg.{Arg}
use Rattle.pass_frames_proof.specs.ir_model.declared.operand.Callee.{Callee}
use Rattle.pass_frames_proof.specs.ir_model.declared.operand.Intrinsic.{Intrinsic}
use Rattle.pass_frames_proof.specs.ir_model.declared.operand.Operand.{Operand}
use Rattle.pass_frames_proof.specs.ir_parts.Contents.{result_of}
use Rattle.pass_frames_proof.specs.ir_paths.Windows.{operand_at, suspend_of}
use Rattle.pass_frames_proof.specs.ir_paths.declared.point.Point.{Point}
use Rattle.pass_frames_proof.specs.ir_paths.declared.point.Window.{Window}
use Rattle.pass_frames_proof.specs.flow_solver.Paths.{IsListed}
use Rattle.pass_frames_meaning.proofs.called.Comes.{Comes, comes}
use Rattle.pass_frames_meaning.proofs.called.Voids.{void_intrinsic}
use Rattle.pass_frames_meaning.proofs.led.Names.{IsOfAlloca, alloca_is, of_alloca}
use Rattle.pass_frames_meaning.specs.Called.{AreBehindCalls, IsBehindCall, IsCalledState, IsCalling}
use Rattle.pass_frames_meaning.specs.Executed.{AreExecuted, AreExecutedOn, HasExecuted, HasOwnSlot, HasRampSlots}
use Rattle.pass_frames_meaning.specs.Executed.{HasSlotOf, IsExecutedIn, IsExecutedState, IsFirstMode, IsUnframed}
use Rattle.pass_frames_meaning.specs.Executed.{KeepAllOwn, KeepsExecuted, KeepsOwn, StaysExecuted}
use Rattle.pass_frames_meaning.specs.Led.{IsBegin}
use Rattle.pass_frames_proof.specs.pass_kept_proof.Needed.{given_by, given_by_intrinsic}
use Rattle.pass_frames_proof.proofs.pass_renewed_proof.Sets.{result_elsewhere, set_elsewhere, step_sets}
use Rattle.pass_frames_proof.specs.pass_renewed_proof.SlotRules.{IsMadeOnce}
use Rattle.pass_frames_proof.specs.pass_renewed_proof.Steps.{SetsOnly, given_at}
use Rattle.pass_renewed_meaning.proofs.run_hooks.Reached.{IsOfInstr, of_term}
use Rattle.pass_renewed_meaning.proofs.run_hooks.alive.Acts.{slots_by}
use Rattle.pass_renewed_meaning.proofs.run_hooks.alive.Changes.{phis_other}
use Rattle.pass_renewed_meaning.specs.run_hooks.Hooks.{Hooks, hooked_act, hooked_advance, hooked_context, hooked_coro, hooked_next}
use Rattle.pass_renewed_meaning.specs.run_hooks.Hooks.{hooked_state_at, step_of}
use Rattle.pass_renewed_meaning.specs.run_hooks.Left.{HasResumed, IsAlike, waiting}
use Rattle.pass_renewed_meaning.specs.run_hooks.Reached.{IsAnInstr}
use Rattle.pass_frames_proof.specs.run_memory.declared.pointer.Value.{Value}
use Rattle.pass_frames_proof.specs.run_source.Source.{Sleeper, after_end, branch_leaving, change_own, deallocate, end_of, enter_block}
use Rattle.pass_frames_proof.specs.run_source.Source.{first_state, if_let_go, is_among, left_windows, let_go, may_be_freed, pop}
use Rattle.pass_frames_proof.specs.run_source.Source.{release, return, returned, save_for, sleeper_at, sleeper_of, suspend}
use Rattle.pass_frames_proof.specs.run_source.State.{function_of, gives, instance_at, next, or_undefined, own_instance, point_of}
use Rattle.pass_frames_proof.specs.run_source.State.{settled, with_instance, with_left, with_memory, work_of}
use Rattle.pass_frames_proof.specs.run_source.declared.state.Activation.{Activation}
use Rattle.pass_frames_proof.specs.run_source.declared.state.Instance.{Instance}
use Rattle.pass_frames_proof.specs.run_source.declared.state.Mode.{Mode}
use Rattle.pass_frames_proof.specs.run_source.declared.state.State.{State}
use Rattle.pass_frames_proof.specs.run_source.declared.state.Status.{Status}
use Rattle.pass_frames_proof.specs.run_source_tables.Given.{Given, facts_at}
use Rattle.pass_frames_proof.specs.run_states.sound_states.Sound.{HasValues}
use Rattle.pass_frames_proof.specs.run_step.Effects.{is_alloca}
use Rattle.pass_frames_proof.specs.run_step.Results.{and_then, found, ok_if}
use Rattle.pass_frames_proof.specs.run_step.Runs.{iterate}
use Rattle.pass_frames_proof.specs.run_step.Step.{Action, AtInstr, AtTerm, Context, Coro, Deallocate, Done, Enter, Fetched, GoTo}
use Rattle.pass_frames_proof.specs.run_step.Step.{NewSlot, Nowhere, Return, Stuck, Work, action_of, deallocated, fetch, fetch_in}
use Rattle.pass_frames_proof.specs.run_step.Step.{fetch_or, instr_action, label_of, outcome_of, phis_of, term_action, values_in}
use Rattle.pass_frames_proof.specs.run_step.Values.{Env, arg_values, integer, nth, pointer_to, truth_value, value_in, with_result}
use Rattle.pass_frames_proof.specs.run_step.Values.{with_value}
use Rattle.pass_frames_proof.specs.run_step.declared.world.Slot.{Slot}
use Rattle.pass_renewed_meaning.specs.run_types.Rules.{KeepsAllTypes, KeepsTypes}

-- ---- a run is over behind its last return

pub over : (v : Option Value) (o : Outcome) → outcome_of v ≡ Ok o → o ≡ Outcome.Running → ⊥
over None o e r = let d : Outcome.Returned None ≡ o = cc in absurd (not_running None (d ∙ r))
  where
    not_running : (w : Option Word) → Outcome.Returned w ≡ Outcome.Running → ⊥
    not_running w e = absurd (cc)
over (Some (Value.Int x)) o e r = let d : Outcome.Returned (Some x) ≡ o = cc in absurd (not_running (Some x) (d ∙ r))
  where
    not_running : (w : Option Word) → Outcome.Returned w ≡ Outcome.Running → ⊥
    not_running w e = absurd (cc)
over (Some Value.Poison) o e r = absurd (cc)
over (Some (Value.Ptr p)) o e r = absurd (cc)

pub set_same : (env : Env) (n : ℕ) (x : Value) → n < length env → value_in (with_value env n x) n ≡ x
set_same [] n x lt = absurd (omega (arith, lt))
set_same (y ∷ env) zero x lt = refl
set_same (y ∷ env) (suc n) x lt = set_same env n x (omega (arith, lt))

-- ---- places of a function

same_instr : (i j : Instr) → AtInstr i ≡ AtInstr j → i ≡ j
same_instr i j e = cc

-- the terminator stands behind each instruction of its block
pub term_behind : (f : Function) (block at k : ℕ) (t : Terminator) (i : Instr) → fetch f block at ≡ AtTerm t
    → fetch f block k ≡ AtInstr i → k < at
term_behind f block at k t i e d = on (slice_get f.blocks block) e d
  where
    on : (o : Option Block) → fetch_in o at ≡ AtTerm t → fetch_in o k ≡ AtInstr i → k < at
    on None e d = absurd (cc)
    on (Some b) e d = by (slice_get b.instrs k) refl d (slice_get b.instrs at) (at == length b.instrs) refl e
      where
        by : (p : Option Instr) → slice_get b.instrs k ≡ p
            → fetch_or p (k == length b.instrs) b.term ≡ AtInstr i → (q : Option Instr) (z : Bool)
            → (at == length b.instrs) ≡ z → fetch_or q z b.term ≡ AtTerm t → k < at
        by None there dk q z last ea = absurd (no_instr (k == length b.instrs) dk)
          where
            no_instr : (y : Bool) → fetch_or None y b.term ≡ AtInstr i → ⊥
            no_instr true h = absurd (cc)
            no_instr false h = absurd (cc)
        by (Some j) there dk (Some w) z last ea = absurd (cc)
        by (Some j) there dk None true last ea =
            let low : k < length b.instrs = get_within b.instrs k j there in
            let same : at ≡ length b.instrs = eqb-true at (length b.instrs) last in
            omega (arith, low, same)
        by (Some j) there dk None false last ea = absurd (cc)

module _ (f : Function) where
  -- an instruction that is no alloca gives no name of an alloca
  pub not_made_by : (block at : ℕ) (i : Instr) → fetch f block at ≡ AtInstr i → (is_alloca i ≡ true → ⊥) → (v : ℕ)
      → IsMadeOnce f v → given_by i ≡ Some v → ⊥
  not_made_by block at i e never v z g =
      let p = z.alone block at (ap given_at e ∙ g) in
      let there : fetch f block at ≡ fetch f 0 z.at = λ j. fetch f (p.0 j) (p.1 j) in
      let same : i ≡ Instr.Alloca v z.ty z.align = same_instr i (Instr.Alloca v z.ty z.align) (sym e ∙ there
      ∙ z.stands) in
      never (ap is_alloca same)

  -- behind such an instruction no more allocas are executed
  pub not_later : (block at : ℕ) (i : Instr) → fetch f block at ≡ AtInstr i → (is_alloca i ≡ true → ⊥) → (v : ℕ)
      (z : IsMadeOnce f v) → (block ≡ 0 → z.at < at + 1) → block ≡ 0 → z.at < at
  not_later block at i e never v z lt zero_block = on (z.at == at) refl
    where
      on : (b : Bool) → (z.at == at) ≡ b → z.at < at
      on true d =
          let same : z.at ≡ at = eqb-true z.at at d in
          let there : fetch f block at ≡ fetch f 0 z.at = λ j. fetch f (zero_block j) (sym same j) in
          let one : i ≡ Instr.Alloca v z.ty z.align =
          same_instr i (Instr.Alloca v z.ty z.align) (sym e ∙ there ∙ z.stands) in
          absurd (never (ap is_alloca one))
      on false d =
          let low : z.at < at + 1 = lt zero_block in
          let other : z.at ≡ at → ⊥ = λ same. false≢true (sym d ∙ same_number z.at at same) in
          omega (arith, low, other)
        where
          same_number : (a b : ℕ) → a ≡ b → (a == b) ≡ true
          same_number a b same = grind arith

module _ (counts : ℕ → Bool) (f : Function) (made : (v : ℕ) → counts v ≡ true → IsMadeOnce f v) where
  -- so it gives no name that counts
  pub not_given : (block at : ℕ) (i : Instr) → fetch f block at ≡ AtInstr i → (is_alloca i ≡ true → ⊥) → (v : ℕ)
      → counts v ≡ true → given_by i ≡ Some v → ⊥
  not_given block at i e never v c g = not_made_by f block at i e never v (made v c) g

-- ---- parts of states

module _ (m : Module) (counts : ℕ → ℕ → Bool) where
  abbrev Fine : Result State Cause → Type 0
  Fine r = StaysExecuted m counts r

  -- the activation goes on behind its instruction, with the values that it has
  abbrev pub NextIn : Activation → Type 0
  NextIn a = IsFirstMode a.mode → HasExecuted m counts (record a { at = a.at + 1 })

  abbrev pub Next : State → Type 0
  Next t = NextIn t.top × AreExecutedOn m counts t.below

  -- a result is given to no name that counts
  abbrev pub IsFreeFor : ℕ → Option ℕ → Type 0
  IsFreeFor func result = (v : ℕ) → counts func v ≡ true → result ≡ Some v → ⊥

  then_fine : {A : Type 0} (r : Result A Cause) (go : A → Result State Cause) → ((a : A) → r ≡ Ok a → Fine (go a))
      → Fine (and_then r go)
  then_fine (Err cause) go k = tt
  then_fine (Ok a) go k = k a refl

  ok_fine : (b : Bool) (cause : Cause) (t : State) → IsExecutedState m counts t → Fine (ok_if b cause t)
  ok_fine true cause t k = k
  ok_fine false cause t k = tt

  set_result : (a : Activation) (result : Option ℕ) (x : Value) → IsFreeFor a.func result → HasExecuted m counts a
      → HasExecuted m counts (record a { values = with_result a.values result x })
  set_result a result x free h = record {
    none = h.none;
    allocas = λ v c made lt.
        let z = h.allocas v c made lt in (
          z.0,
          z.1,
          z.2,
          result_elsewhere a.values result v x (free v c) ∙ z.3,
        );
  }

  gave : (t : State) (result : Option ℕ) (v : Value) → IsFreeFor t.top.func result → Next t
      → IsExecutedState m counts (gives t result v)
  gave t result v free n = λ running. (
    λ first. set_result (record t.top { at = t.top.at + 1 }) result v free (n.0 first),
    n.1,
  )

  none_free : (func : ℕ) → IsFreeFor func None
  none_free func v c e = absurd (cc)

  changed : (t : State) (f : Instance → Instance) (o : Option (ℕ × Instance)) → Next t → Next (change_own t f o)
  changed t f None n = n
  changed t f (Some p) n = (n.0, n.1)

  same_top : (s t : State) → t.top ≡ s.top → t.below ≡ s.below → Next s → Next t
  same_top s t top below n = (subst NextIn (sym top) n.0, subst (AreExecutedOn m counts) (sym below) n.1)

  sleeper_fine : (t : State) (p : Value) (go : Sleeper → Result State Cause) → ((y : Sleeper) → Fine (go y))
      → Fine (and_then (sleeper_at t p) go)
  sleeper_fine t p go k = on (instance_at t.instances p)
    where
      by : (i : ℕ) (x : Instance) (st : Status) → Fine (and_then (sleeper_of i x st) go)
      by i x Status.Running = tt
      by i x (Status.Suspended at vs) = k (record { number = i; instance = x; suspend = at; values = vs })
      by i x Status.Finished = tt

      on : (o : Option (ℕ × Instance))
          → Fine (and_then (and_then (found Cause.Frame o) (λ (i, x). sleeper_of i x x.status)) go)
      on None = tt
      on (Some z) = by z.0 z.1 z.1.status

  save_fine : (t : State) (p u : Point) (go : State → Result State Cause) → Next t
      → ((v : State) → v.top.func ≡ t.top.func → Next v → Fine (go v)) → Fine (and_then (save_for t p u) go)
  save_fine t p u go n then' = on (own_instance t)
    where
      by : (q : ℕ × Instance) (b : Bool)
          → Fine (and_then (ok_if b Cause.State (with_left (with_instance t q.0 (record q.1 {
            status = Status.Suspended u t.top.values;
            last_save = Some (record { depth = length t.below; save = p });
          })) true)) go)
      by q false = tt
      by q true = then' _ refl (like, n.1)
        where
          like : IsFirstMode t.top.mode
              → HasExecuted m counts (record t.top { at = t.top.at + 1; has_left = true })
          like first = let h = n.0 first in record { none = h.none; allocas = h.allocas }

      on : (o : Option (ℕ × Instance))
          → Fine (and_then (and_then (found Cause.State o) (λ (i, x).
          ok_if (not x.freed) Cause.State
          (with_left
          (with_instance t i (record x {
            status = Status.Suspended u t.top.values;
            last_save = Some (record { depth = length t.below; save = p });
          })) true))) go)
      on None = tt
      on (Some q) = by q (not q.1.freed)

  suspend_fine : (t : State) (result : Option ℕ) (of_save : Operand) → IsFreeFor t.top.func result → Next t
      → Fine (suspend t result of_save)
  suspend_fine t result Operand.None free n = save_fine t (point_of t) (point_of t) _ n (λ v same c.
      gave v result (integer 8 (negsuc 0)) (subst (λ (k : ℕ). IsFreeFor k result) (sym same) free) c)
  suspend_fine t result _ free n = gave t result (integer 8 (negsuc 0)) free n

  freed_fine : (t : State) (p : Value) → Next t → Fine (deallocate t p)
  freed_fine t p n = on (if_let_go t (instance_at t.instances p)) (goes (instance_at t.instances p))
    where
      goes : (o : Option (ℕ × Instance)) → Next (if_let_go t o)
      goes None = n
      goes (Some q) = by (may_be_freed q.1)
        where
          by : (b : Bool) → Next (if b then let_go t q.0 q.1 else t)
          by true = (n.0, n.1)
          by false = n

      on : (v : State) → Next v
          → Fine (and_then (deallocated v.world.memory p) (λ memory. Ok (next (with_memory v memory))))
      on v c = then_fine (deallocated v.world.memory p) (λ memory. Ok (next (with_memory v memory))) (λ memory e.
          gave (with_memory v memory) None Value.Poison (none_free v.top.func) c)

  -- ---- returns

  -- the name that a return sets
  returned_free : (f : Function) → KeepsTypes m f → (func : ℕ) → function_at m func ≡ f
      → ((v : ℕ) → counts func v ≡ true → IsMadeOnce f v) → (a : Activation) (result : Option ℕ)
      → IsBehindCall f a result → IsFreeFor func result
  returned_free f types func is made a result c v counted e = by c.call c.there c.calls c.gives
    where
      none : Some v ≡ None → ⊥
      none d = absurd (cc)

      by : (i : Instr) → fetch f a.block c.at ≡ AtInstr i → IsCalling i → result_of i ≡ result → ⊥
      by (Instr.Call r must_tail ty (Callee.Named n) args) stands calls gives =
          not_given (counts func) f made a.block c.at (Instr.Call r must_tail ty (Callee.Named n) args) stands
          (λ d. false≢true d) v counted (gives ∙ e)
      by (Instr.Call r must_tail ty (Callee.Local n) args) stands calls gives =
          not_given (counts func) f made a.block c.at (Instr.Call r must_tail ty (Callee.Local n) args) stands
          (λ d. false≢true d) v counted (gives ∙ e)
      by (Instr.Call r must_tail ty (Callee.Intrinsic Intrinsic.CoroResume) args) stands calls gives =
          none (sym e ∙ sym gives
          ∙ void_intrinsic m f types a.block c.at r must_tail ty Intrinsic.CoroResume args stands refl)
      by (Instr.Call r must_tail ty (Callee.Intrinsic Intrinsic.CoroDestroy) args) stands calls gives =
          none (sym e ∙ sym gives
          ∙ void_intrinsic m f types a.block c.at r must_tail ty Intrinsic.CoroDestroy args stands refl)
      by _ stands calls gives = absurd calls

  module _ (types : KeepsAllTypes m)
      (made : (func v : ℕ) → counts func v ≡ true → IsMadeOnce (function_at m func) v) where
    return_fine : (t : State) (v : Option Value) → AreExecutedOn m counts t.below
        → AreBehindCalls m t.top.result t.below → Fine (return t v)
    return_fine t v k c = by t.below k c
      where
        by : (below : List Activation) → AreExecutedOn m counts below → AreBehindCalls m t.top.result below
            → Fine (pop (returned t) v below)
        by [] q c = then_fine (outcome_of v) (λ outcome. Ok (record (returned t) { outcome = outcome }))
            (λ outcome e running. absurd (over v outcome e running))
        by (a ∷ below) q c = λ running. (
          λ first. set_result a t.top.result (unwrap_or v Value.Poison)
              (returned_free (function_at m a.func) (types a.func) a.func refl (made a.func) a t.top.result c.0)
              (q.0 first),
          q.1,
        )

    after_fine : (t : State) (result : Option ℕ) (mode : Mode) → AreBehindCalls m t.top.result t.below
        → IsFreeFor t.top.func result → Next t → Fine (after_end t result mode)
    after_fine t result Mode.Resumed c free n = return_fine t None n.1 c
    after_fine t result _ c free n = gave t result (truth_value false) free n

-- ---- a step

module _ (h : Hooks) (counts : ℕ → ℕ → Bool) (keeps : KeepsExecuted h) (rules : KeepAllOwn h.given counts)
    (types : KeepsAllTypes h.given.code) (s : State) (called : IsCalledState h.given.code s)
    (room : HasValues h.given.code s.top.func s.top.values)
    (k : AreExecutedOn h.given.code counts (s.top ∷ s.below)) where
  abbrev m : Module
  m = h.given.code

  abbrev f : Function
  f = function_at h.given.code s.top.func

  abbrev Good : Result State Cause → Type 0
  Good r = StaysExecuted h.given.code counts r

  abbrev here : Fetched
  here = fetch (function_at h.given.code s.top.func) s.top.block s.top.at

  abbrev Goes : State → Type 0
  Goes t = Next h.given.code counts t

  all_made : (func v : ℕ) → counts func v ≡ true → IsMadeOnce (function_at h.given.code func) v
  all_made func = (rules func).made

  free : (i : Instr) → here ≡ AtInstr i → (is_alloca i ≡ true → ⊥) → (result : Option ℕ) → given_by i ≡ result
      → IsFreeFor h.given.code counts s.top.func result
  free i e never result g v c d =
      not_given (counts s.top.func) f (all_made s.top.func) s.top.block s.top.at i e never v c (g ∙ d)

  behind_in : (i : Instr) → here ≡ AtInstr i → (is_alloca i ≡ true → ⊥) → NextIn h.given.code counts s.top
  behind_in i e never first =
      let z = k.0 first in
      record {
        none = z.none;
        allocas = λ v c made lt.
            z.allocas v c made
            (not_later f s.top.block s.top.at i e never v made lt);
      }

  behind : (i : Instr) → here ≡ AtInstr i → (is_alloca i ≡ true → ⊥) → Goes s
  behind i e never = (behind_in i e never, k.1)

  -- ---- intrinsics

  module _ (result : Option ℕ) (must_tail : Bool) (ty : Option Ty) (args : List Arg) (vs : List Value) where
    abbrev Stands : Intrinsic → Type 0
    Stands x = here ≡ AtInstr (Instr.Call result must_tail ty (Callee.Intrinsic x) args)

    abbrev call : Intrinsic → Instr
    call x = Instr.Call result must_tail ty (Callee.Intrinsic x) args

    goes : (x : Intrinsic) → Stands x → Goes s
    goes x e = behind (call x) e (λ d. false≢true d)

    frees : (x : Intrinsic) → Stands x → given_by_intrinsic x result ≡ result
        → IsFreeFor h.given.code counts s.top.func result
    frees x e g = free (call x) e (λ d. false≢true d) result g

    gives_it : (x : Intrinsic) → Stands x → given_by_intrinsic x result ≡ result → (v : Value)
        → IsExecutedState h.given.code counts (gives s result v)
    gives_it x e g v = gave h.given.code counts s result v (frees x e g) (goes x e)

    goes_on : (x : Intrinsic) → Stands x → IsExecutedState h.given.code counts (next s)
    goes_on x e = gave h.given.code counts s None Value.Poison (none_free h.given.code counts s.top.func) (goes x e)

    -- begin
    begun : (t : State) → t.top.mode ≡ s.top.mode → HasRampSlots h.given result (nth vs 1) s t → t.below ≡ s.below
        → Stands Intrinsic.CoroBegin → IsExecutedState h.given.code counts t
    begun t mode p below e = λ running. (top, subst (AreExecutedOn h.given.code counts) (sym below) k.1)
      where
        framed : IsUnframed (function_at h.given.code s.top.func) → ⊥
        framed none = none s.top.block s.top.at (call Intrinsic.CoroBegin) e tt

        ramp : (slot : Slot) → counts s.top.func slot.alloca ≡ true
            → is_among (facts_at h.given.facts s.top.func).ramp_slots slot ≡ true
        ramp = on (rules s.top.func).own
          where
            on : ((slot : Slot) → counts s.top.func slot.alloca ≡ true
                → is_among (facts_at h.given.facts s.top.func).ramp_slots slot ≡ true)
                ⊎ IsUnframed (function_at h.given.code s.top.func) → (slot : Slot)
                → counts s.top.func slot.alloca ≡ true
                → is_among (facts_at h.given.facts s.top.func).ramp_slots slot ≡ true
            on (inl q) = q
            on (inr none) = λ slot c. absurd (framed none)

        now : IsFirstMode s.top.mode
            → AreExecuted (counts s.top.func) (function_at h.given.code s.top.func) s.top.block (s.top.at + 1)
            t.top.slots (with_result s.top.values result (nth vs 1))
        now first v c made lt =
            let z = ((goes Intrinsic.CoroBegin e).0 first).allocas v c made lt in (
              z.0,
              p.old z.0 z.1 (ramp z.0 (ap (counts s.top.func) z.2 ∙ c)),
              z.2,
              result_elsewhere s.top.values result v (nth vs 1) (frees Intrinsic.CoroBegin e refl v c) ∙ z.3,
            )

        top : IsExecutedIn h.given.code counts t.top
        top first = record {
          none = λ none. absurd (framed (subst (λ (n : ℕ). IsUnframed (function_at h.given.code n)) p.func none));
          allocas = subst (λ (z : ℕ × ℕ × ℕ × Env). AreExecuted (counts z.0)
              (function_at h.given.code z.0) z.1 z.2 t.top.slots z.3)
              (λ i. (sym p.func i, sym p.block i, sym p.at i, sym p.values i))
              (now (subst IsFirstMode mode first));
        }

    starts : Stands Intrinsic.CoroBegin → (r : Result State Cause) → h.start s result (nth vs 1) ≡ r → Good r
    starts e (Err cause) d = tt
    starts e (Ok t) d =
        let p = keeps.start s result (nth vs 1) t d in
        begun t p.0 p.1 (keeps.last.start s result (nth vs 1) t d).below e

    resumed : (i : ℕ) (t : State) → HasResumed s i t → (IsFirstMode t.top.mode → ⊥) → Goes s
        → IsExecutedState h.given.code counts t
    resumed i t r never n = λ running. (
      λ first. absurd (never first),
      subst (AreExecutedOn h.given.code counts) (sym r.below) (n.0, n.1),
    )

    ended : Stands Intrinsic.CoroEnd → Good (end_of s h.close result)
    ended e = on s.top.has_left
      where
        closed : (h.close s).top ≡ s.top
        closed = keeps.reached.closed s

        below : (h.close s).below ≡ s.below
        below = (keeps.last.close s).below

        on : (b : Bool) → Good (after_end (if b then s else h.close s) result s.top.mode)
        on true = after_fine h.given.code counts types all_made s result s.top.mode called.below
            (frees Intrinsic.CoroEnd e refl) (goes Intrinsic.CoroEnd e)
        on false = after_fine h.given.code counts types all_made (h.close s) result s.top.mode
            (subst (λ (q : Option ℕ × List Activation). AreBehindCalls h.given.code q.0 q.1)
            (λ i. ((sym closed i).result, sym below i)) called.below)
            (subst (λ (n : ℕ). IsFreeFor h.given.code counts n result)
            (ap (λ (a : Activation). a.func) (sym closed)) (frees Intrinsic.CoroEnd e refl))
            (same_top h.given.code counts s (h.close s) closed below (goes Intrinsic.CoroEnd e))

    released : IsFreeFor h.given.code counts s.top.func result → Goes s → (v : Value) → (o : Option (ℕ × Instance))
        → IsExecutedState h.given.code counts (gives (change_own s (λ x. record x { released = true }) o) result v)
    released free n v None = gave h.given.code counts s result v free n
    released free n v (Some p) =
        gave h.given.code counts (change_own s (λ x. record x { released = true }) (Some p)) result v free (n.0, n.1)

    coro_fine : (x : Intrinsic) → Stands x → Good (hooked_coro h s x args vs result)
    coro_fine Intrinsic.CoroId e = goes_on Intrinsic.CoroId e
    coro_fine Intrinsic.CoroSizeI32 e = gives_it Intrinsic.CoroSizeI32 e refl _
    coro_fine Intrinsic.CoroSizeI64 e = gives_it Intrinsic.CoroSizeI64 e refl _
    coro_fine Intrinsic.CoroAlignI32 e = gives_it Intrinsic.CoroAlignI32 e refl _
    coro_fine Intrinsic.CoroAlignI64 e = gives_it Intrinsic.CoroAlignI64 e refl _
    coro_fine Intrinsic.CoroAlloc e = gives_it Intrinsic.CoroAlloc e refl _
    coro_fine Intrinsic.CoroFrame e = gives_it Intrinsic.CoroFrame e refl _
    coro_fine Intrinsic.LifetimeStart e = goes_on Intrinsic.LifetimeStart e
    coro_fine Intrinsic.LifetimeEnd e = goes_on Intrinsic.LifetimeEnd e
    coro_fine Intrinsic.MemcpyI64 e = goes_on Intrinsic.MemcpyI64 e
    coro_fine Intrinsic.MemcpyI32 e = goes_on Intrinsic.MemcpyI32 e
    coro_fine Intrinsic.CoroBegin e = starts e (h.start s result (nth vs 1)) refl
    coro_fine Intrinsic.CoroFree e = released (frees Intrinsic.CoroFree e refl) (goes Intrinsic.CoroFree e) (h.freed s)
        (own_instance s)
    coro_fine Intrinsic.CoroSave e =
        then_fine h.given.code counts (found Cause.State (suspend_of (function_of h.given s) (point_of s))) _ (λ u eu.
        save_fine h.given.code counts s (point_of s) u _ (goes Intrinsic.CoroSave e) (λ t same c.
        gave h.given.code counts t None Value.Poison (none_free h.given.code counts t.top.func) c))
    coro_fine Intrinsic.CoroSuspend e =
        suspend_fine h.given.code counts s result (operand_at args 0) (frees Intrinsic.CoroSuspend e refl)
        (goes Intrinsic.CoroSuspend e)
    coro_fine Intrinsic.CoroEnd e = ended e
    coro_fine Intrinsic.CoroResume e = sleeper_fine h.given.code counts s (nth vs 0) _ (λ y.
        ok_fine h.given.code counts _ Cause.State _ (resumed y.number _
        (keeps.last.go_on s y.number y.instance y.suspend y.values _)
        (keeps.go_on s y.number y.instance y.suspend y.values _) (goes Intrinsic.CoroResume e)))
    coro_fine Intrinsic.CoroDestroy e = sleeper_fine h.given.code counts s (nth vs 0) _ (λ y.
        resumed y.number _ (keeps.last.go_on s y.number y.instance y.suspend y.values _)
        (keeps.go_on s y.number y.instance y.suspend y.values _) (goes Intrinsic.CoroDestroy e))
    coro_fine Intrinsic.CoroDone e = sleeper_fine h.given.code counts s (nth vs 0) _ (λ y.
        ok_fine h.given.code counts _ Cause.State _ (gives_it Intrinsic.CoroDone e refl _))
    coro_fine Intrinsic.CoroPromise e =
        then_fine h.given.code counts (h.promised s (nth vs 0) (operand_at args 2)) _ (λ v ev.
        gives_it Intrinsic.CoroPromise e refl v)

  -- ---- other instructions

  abbrev Doing : Fetched → Action → Type 0
  Doing x a = action_of (hooked_context h s) (work_of s) x ≡ a

  -- what makes no slot is no alloca
  abbrev IsOfSlot : Action → Type 0
  IsOfSlot (NewSlot w slot) = Unit {0}
  IsOfSlot (Stuck cause) = Unit {0}
  IsOfSlot _ = ⊥

  makes_slot : (i : Instr) (a : Action) → Doing (AtInstr i) a → is_alloca i ≡ true → IsOfSlot a
  makes_slot i a d is = by (alloca_is i is)
    where
      either : (w : Work) (name : ℕ) (b : Action) → IsOfAlloca w name b
          → IsOfSlot b
      either w name (NewSlot x slot) q = tt
      either w name (Stuck cause) q = tt
      either w name _ q = absurd q

      by : ((name : ℕ) × (ty : Ty) × (align : ℕ) × (i ≡ Instr.Alloca name ty align)) → IsOfSlot a
      by (name, ty, align, same) =
          either (work_of s) name a (of_alloca (hooked_context h s) (work_of s) name align ty a
          (subst (λ (z : Instr). Doing (AtInstr z) a) same d))

  module _ (i : Instr) (e : here ≡ AtInstr i) where
    onward : (a : Action) → Doing (AtInstr i) a → (IsOfSlot a → ⊥) → Goes s
    onward a d never = behind i e (λ is. never (makes_slot i a d is))

    done_fine : (w : Work) → Doing (AtInstr i) (Done w) → IsExecutedState h.given.code counts (settled s w)
    done_fine w d = λ running. (top, k.1)
      where
        sets : SetsOnly (given_by i) s.top.values (Done w)
        sets = subst (SetsOnly (given_by i) s.top.values) d
            (step_sets (hooked_context h s) (work_of s) (AtInstr i))

        never : is_alloca i ≡ true → ⊥
        never is = makes_slot i (Done w) d is

        top : IsExecutedIn h.given.code counts (settled s w).top
        top first =
            let n = (onward (Done w) d (λ z. z)).0 first in
            record {
              none = n.none;
              allocas = λ v c made lt.
                  let z = n.allocas v c made lt in (
                    z.0,
                    z.1,
                    z.2,
                    sets v (not_given (counts s.top.func) f (all_made s.top.func) s.top.block s.top.at i e never v c)
                        ∙ z.3,
                  );
            }

    slot_fine : (w : Work) (slot : Slot) → Doing (AtInstr i) (NewSlot w slot)
        → IsExecutedState h.given.code counts (h.place (settled s w) slot)
    slot_fine w slot d = λ running. (
      top,
      subst (AreExecutedOn h.given.code counts) (sym (keeps.last.place (settled s w) slot).below) k.1,
    )
      where
        a : (name : ℕ) × (ty : Ty) × (align : ℕ) × (i ≡ Instr.Alloca name ty align)
        a = alloca_is i (slots_by (hooked_context h s) (work_of s) i w slot d)

        made_it : (slot.alloca ≡ a.0) × (w.values ≡ with_value s.top.values a.0 (pointer_to slot.block))
        made_it = of_alloca (hooked_context h s) (work_of s) a.0 a.2 a.1 (NewSlot w slot)
            (subst (λ (z : Instr). Doing (AtInstr z) (NewSlot w slot)) a.3 d)

        there : here ≡ AtInstr (Instr.Alloca a.0 a.1 a.2)
        there = e ∙ ap AtInstr a.3

        top : IsExecutedIn h.given.code counts (h.place (settled s w) slot).top
        top now_first = record {
          none = λ none. p.instance ∙ (k.0 first).none
              (subst (λ (n : ℕ). IsUnframed (function_at h.given.code n)) p.func none);
          allocas = subst (λ (z : ℕ × ℕ × ℕ × Env). AreExecuted (counts z.0) (function_at h.given.code z.0) z.1 z.2
              (h.place (settled s w) slot).top.slots z.3)
              (λ j. (sym p.func j, sym p.block j, sym p.at j, sym p.values j)) now;
        }
          where
            first : IsFirstMode s.top.mode
            first = keeps.place (settled s w) slot now_first

            p : HasOwnSlot h.given slot (settled s w) (h.place (settled s w) slot)
            p = keeps.placed (settled s w) slot first

            is_new : counts s.top.func slot.alloca ≡ true → IsListed slot (h.place (settled s w) slot).top.slots
            is_new c = p.new (on (rules s.top.func).own)
              where
                on : ((z : Slot) → counts s.top.func z.alloca ≡ true
                    → is_among (facts_at h.given.facts s.top.func).ramp_slots z ≡ true)
                    ⊎ IsUnframed (function_at h.given.code s.top.func)
                    → (s.top.instance ≡ None)
                    ⊎ (is_among (facts_at h.given.facts s.top.func).ramp_slots slot ≡ true)
                on (inl q) = inr (q slot c)
                on (inr none) = inl ((k.0 first).none none)

            now : AreExecuted (counts s.top.func) (function_at h.given.code s.top.func) s.top.block (s.top.at + 1)
                (h.place (settled s w) slot).top.slots w.values
            now v c made lt = by (a.0 == v) refl
              where
                other : (a.0 ≡ v → ⊥) → (s.top.block ≡ 0 → made.at < s.top.at)
                    → HasSlotOf (h.place (settled s w) slot).top.slots v (value_in w.values v)
                other ne q =
                    let z = (k.0 first).allocas v c made q in (
                      z.0,
                      p.old z.0 z.1,
                      z.2,
                      ap (λ (env : Env). value_in env v) made_it.1
                          ∙ set_elsewhere s.top.values a.0 v (pointer_to slot.block) ne ∙ z.3,
                    )

                earlier : (a.0 ≡ v → ⊥) → s.top.block ≡ 0 → made.at < s.top.at
                earlier ne zero_block = on (made.at == s.top.at) refl
                  where
                    on : (b : Bool) → (made.at == s.top.at) ≡ b → made.at < s.top.at
                    on true q =
                        let same : made.at ≡ s.top.at = eqb-true made.at s.top.at q in
                        let both : AtInstr (Instr.Alloca v made.ty made.align) ≡ AtInstr (Instr.Alloca a.0 a.1 a.2) =
                        sym made.stands ∙ (λ j. fetch f (sym zero_block j) (same j)) ∙ there in
                        let name : a.0 ≡ v = cc in
                        absurd (ne name)
                    on false q =
                        let low : made.at < s.top.at + 1 = lt zero_block in
                        let apart : made.at ≡ s.top.at → ⊥ =
                        λ same. false≢true (sym q ∙ same_number made.at s.top.at same) in
                        omega (arith, low, apart)
                      where
                        same_number : (x y : ℕ) → x ≡ y → (x == y) ≡ true
                        same_number x y same = grind arith

                differs : (x y : ℕ) → x ≡ y → (x == y) ≡ false → ⊥
                differs x y same apart = absurd (grind arith)

                by : (b : Bool) → (a.0 == v) ≡ b
                    → HasSlotOf (h.place (settled s w) slot).top.slots v (value_in w.values v)
                by true q =
                    let same : a.0 ≡ v = eqb-true a.0 v q in
                    let long : length s.top.values ≡ length f.names = room in
                    let low : v < length f.names = (rules s.top.func).low v c in (
                      slot,
                      is_new (ap (counts s.top.func) (made_it.0 ∙ same) ∙ c),
                      made_it.0 ∙ same,
                      ap (λ (env : Env). value_in env v) made_it.1
                          ∙ ap (λ (n : ℕ). value_in (with_value s.top.values n (pointer_to slot.block)) v) same
                          ∙ set_same s.top.values v (pointer_to slot.block) (omega (arith, long, low)),
                    )
                by false q = let ne : a.0 ≡ v → ⊥ = λ same. differs a.0 v same q in other ne (earlier ne)

    instr_fine : (a : Action) → Comes i a → Doing (AtInstr i) a → Good (hooked_act h s a)
    instr_fine (Stuck cause) q d = tt
    instr_fine (Done w) q d = done_fine w d
    instr_fine (NewSlot w slot) q d = slot_fine w slot d
    instr_fine (Enter func args result must_tail) q d =
        let n = onward (Enter func args result must_tail) d (λ z. z) in
        λ running. (
          λ first. record { none = λ none. refl; allocas = λ v c made lt. absurd (no_less made.at (lt refl)) },
          (n.0, n.1),
        )
      where
        no_less : (n : ℕ) → n < 0 → ⊥
        no_less n lt = omega (arith, lt)
    instr_fine (Coro x args result) q d =
        coro_fine result q.0 q.1 args (arg_values h.given.code s.top.values args) x (e ∙ ap AtInstr q.2)
    instr_fine (Deallocate p) q d =
        freed_fine h.given.code counts s p (onward (Deallocate p) d (λ z. z))
    instr_fine (GoTo label) q d = absurd q
    instr_fine (Return v) q d = absurd q

  -- ---- terminators

  module _ (t : Terminator) (e : here ≡ AtTerm t) where
    enters : (label : ℕ) (left : Bool) → IsFirstMode s.top.mode
        → HasExecuted h.given.code counts (record (enter_block h.given s label).top { has_left = left })
    enters label left first = record {
      none = (k.0 first).none;
      allocas = λ v c made lt.
          let z = (k.0 first).allocas v c made (λ zero_block.
          term_behind f s.top.block s.top.at made.at t (Instr.Alloca v made.ty made.align) e
          (ap (λ (b : ℕ). fetch f b made.at) zero_block ∙ made.stands)) in (
            z.0,
            z.1,
            z.2,
            phis_other h.given.code s.top.values
                (label_of (slice_get f.blocks s.top.block))
                (phis_of (slice_get f.blocks (position_of f label))) s.top.values v
                (made.no_phi (position_of f label)) ∙ z.3,
          );
    }

    goes_to : (label : ℕ) (windows : List Window) → Good (branch_leaving h.given s label windows)
    goes_to label [] = λ running. (
      λ first. let z = enters label s.top.has_left first in record { none = z.none; allocas = z.allocas },
      k.1,
    )
    goes_to label (w ∷ windows) = then_fine h.given.code counts (found Cause.State (own_instance s)) _ (λ p q.
        ok_fine h.given.code counts _ Cause.State _ (λ running. (
          λ first. let z = enters label false first in record { none = z.none; allocas = z.allocas },
          k.1,
        )))

    term_fine : (a : Action) → IsOfInstr a ≡ false → Good (hooked_act h s a)
    term_fine (Stuck cause) q = tt
    term_fine (GoTo label) q = goes_to label (left_windows h.given s label)
    term_fine (Return v) q = return_fine h.given.code counts types all_made s v k.1 called.below
    term_fine (Done w) q = absurd (false≢true (sym q))
    term_fine (NewSlot w slot) q = absurd (false≢true (sym q))
    term_fine (Enter func args result must_tail) q = absurd (false≢true (sym q))
    term_fine (Coro x args result) q = absurd (false≢true (sym q))
    term_fine (Deallocate p) q = absurd (false≢true (sym q))

  act_fine : (x : Fetched) → here ≡ x → Good (hooked_act h s (action_of (hooked_context h s) (work_of s) x))
  act_fine Nowhere e = tt
  act_fine (AtInstr i) e = instr_fine i e (instr_action (hooked_context h s) (work_of s) i)
      (comes (hooked_context h s) (work_of s) i) refl
  act_fine (AtTerm t) e = term_fine t e (term_action (hooked_context h s) (work_of s) t)
      (of_term (hooked_context h s) s t)

  nexts : (x : Fetched) → here ≡ x → h.given_call s x ≡ None → Good (hooked_next h s x)
  nexts x e none = on (h.is_idle s x) refl (h.given_call s x) none
    where
      idles : h.is_idle s x ≡ true → Goes s
      idles d =
          let i : IsAnInstr x = keeps.reached.idle s x d in
          behind i.0 (e ∙ i.1)
          (keeps.marker s i.0 (subst (λ (y : Fetched). h.is_idle s y ≡ true) i.1 d))

      on : (b : Bool) → h.is_idle s x ≡ b → (o : Option (Result State Cause)) → o ≡ None
          → Good (if b then Ok (next s) else unwrap_or o
          (hooked_act h s (action_of (hooked_context h s) (work_of s) x)))
      on true d o u = gave h.given.code counts s None Value.Poison (none_free h.given.code counts s.top.func) (idles d)
      on false d None u = act_fine x e
      on false d (Some r) u = absurd (cc)

or_fine : (g : Given) (counts : ℕ → ℕ → Bool) (s : State) (r : Result State Cause) → StaysExecuted g.code counts r
    → IsExecutedState g.code counts (or_undefined g s r)
or_fine g counts s (Err cause) q = λ running. absurd (cc)
or_fine g counts s (Ok t) q = q

pub step_executed : (h : Hooks) (counts : ℕ → ℕ → Bool) → KeepsExecuted h → KeepAllOwn h.given counts
    → KeepsAllTypes h.given.code → (s : State) → IsCalledState h.given.code s
    → HasValues h.given.code s.top.func s.top.values → IsExecutedState h.given.code counts s
    → IsExecutedState h.given.code counts (step_of h s)
step_executed h counts keeps rules types s called room k = on s.outcome refl
  where
    on : (o : Outcome) → s.outcome ≡ o → IsExecutedState h.given.code counts (hooked_advance h s o)
    on Outcome.Running e =
        let x = fetch (function_of h.given s) s.top.block s.top.at in
        or_fine h.given counts s (hooked_next h s x)
        (nexts h counts keeps rules types s called room (k e) x refl (keeps.ungiven s s.top.block s.top.at))
    on (Outcome.Returned v) e = k
    on (Outcome.Undefined cause place) e = k

-- ---- runs

module _ (h : Hooks) (counts : ℕ → ℕ → Bool) (keeps : KeepsExecuted h) (rules : KeepAllOwn h.given counts)
    (types : KeepsAllTypes h.given.code) (entry : ℕ) (args : List Word)
    (called : (n : ℕ) → IsCalledState h.given.code (hooked_state_at h entry args n))
    (room : (n : ℕ) → HasValues h.given.code (hooked_state_at h entry args n).top.func
    (hooked_state_at h entry args n).top.values) where
  one_more : (n : ℕ) (s : State) → iterate (step_of h) (suc n) s ≡ step_of h (iterate (step_of h) n s)
  one_more zero s = refl
  one_more (suc n) s = one_more n (step_of h s)

  no_less : (n : ℕ) → n < 0 → ⊥
  no_less n lt = omega (arith, lt)

  pub states_executed : (n : ℕ) → IsExecutedState h.given.code counts (hooked_state_at h entry args n)
  states_executed zero = λ running. (
    λ first. record { none = λ none. refl; allocas = λ v c made lt. absurd (no_less made.at (lt refl)) },
    tt,
  )
  states_executed (suc n) =
      subst (IsExecutedState h.given.code counts) (sym (one_more n (first_state h.given.code entry args)))
      (step_executed h counts keeps rules types (hooked_state_at h entry args n) (called n) (room n)
      (states_executed n))
