-- Steps by hooks come to blocks on resume and destroy edges by waking instances alone.
use Rattle.std.proofs.Common.{◌≡◌, inl, inr, ⊎_elim, ℕ, zero, suc, Bool, true, false, List, [], ◌∷◌, ◌++◌, length, Option, Some, None, Result, Ok, Err, refl, sym, ap, ◌∙◌, subst, if◌then◌else◌, ◌&&◌}
use Rattle.std.specs.Prelude.{not, slice_get, slice_set, unwrap_or}
use Rattle.std.proofs.lemmas.Bool.{false≢true}
use Rattle.pass_frames_proof.specs.ir_base.declared.cause.Cause.{Cause}
use Rattle.pass_frames_proof.specs.ir_base.declared.outcome.Outcome.{Outcome}
use Rattle.pass_frames_proof.specs.ir_model.Layout.{size_of}
use Rattle.pass_frames_proof.specs.ir_model.Names.{function_at, position_of}
use Rattle.pass_frames_proof.specs.ir_model.declared.instr.Instr.{Instr}
use Rattle.pass_frames_proof.specs.ir_model.declared.instr.Terminator.{Terminator}
use Rattle.pass_frames_proof.specs.ir_model.declared.operand.Arg.{Arg}
use Rattle.pass_frames_proof.specs.ir_model.declared.operand.Intrinsic.{Intrinsic}
use Rattle.pass_frames_proof.specs.ir_model.declared.operand.Operand.{Operand}
use Rattle.pass_frames_proof.specs.ir_paths.Windows.{operand_at, suspend_of}
use Rattle.pass_frames_proof.specs.ir_paths.declared.point.Point.{Point}
use Rattle.pass_frames_proof.specs.ir_paths.declared.point.Window.{Window}
use Rattle.pass_frames_meaning.proofs.called.Comes.{Comes, comes}
use Rattle.pass_frames_meaning.specs.Called.{AreBehindCalls, IsCalledState, IsCalm}
use Rattle.pass_frames_meaning.specs.Fresh.{AreBareBlocks, AreUnfreed, IsFresh, IsFreshState, IsSameTop, IsWaking, IsWoken, KeepsFresh, LeadsToNone, StaysFresh, is_entering}
use Rattle.pass_frames_proof.specs.Related.{is_first}
use Rattle.pass_renewed_meaning.proofs.run_hooks.Reached.{at_is, own_is}
use Rattle.pass_renewed_meaning.specs.run_hooks.Away.{IsPlacedState}
use Rattle.pass_renewed_meaning.specs.run_hooks.Hooks.{Hooks, hooked_act, hooked_advance, hooked_context, hooked_coro, hooked_next, step_of}
use Rattle.pass_frames_proof.specs.run_memory.declared.pointer.Value.{Value}
use Rattle.pass_frames_proof.specs.run_source.Source.{Sleeper, after_end, branch_leaving, change_own, deallocate, enter, if_let_go, left_windows, let_go, may_be_freed, pop, release, return, returned, save_for, sleeper_at, sleeper_of, suspend}
use Rattle.pass_frames_proof.specs.run_source.State.{function_of, instance_at, is_suspended, next, or_undefined, own_instance, point_of, settled, with_instance, with_left, with_memory, work_of}
use Rattle.pass_frames_proof.specs.run_source.declared.state.Activation.{Activation}
use Rattle.pass_frames_proof.specs.run_source.declared.state.Instance.{Instance}
use Rattle.pass_frames_proof.specs.run_source.declared.state.Mode.{Mode}
use Rattle.pass_frames_proof.specs.run_source.declared.state.State.{State}
use Rattle.pass_frames_proof.specs.run_source.declared.state.Status.{Status}
use Rattle.pass_frames_proof.proofs.run_states.renamed.Fits.{Ends, ends}
use Rattle.pass_frames_proof.specs.run_step.Effects.{is_alloca}
use Rattle.pass_frames_proof.specs.run_step.Results.{and_then, found, ok_if}
use Rattle.pass_frames_proof.specs.run_step.Step.{Action, AtInstr, AtTerm, Context, Coro, Deallocate, Done, Enter, Fetched, GoTo, NewSlot, Nowhere, Return, Stuck, Work, action_of, alloca, deallocated, fetch, instr_action, is_alignment, outcome_of, term_action}
use Rattle.pass_frames_proof.specs.run_step.Values.{arg_values, nth}

-- ---- instances

pub set_unfreed : (xs : List Instance) (i : ℕ) (y : Instance) → (is_suspended y.status ≡ true → y.freed ≡ false)
    → AreUnfreed xs → AreUnfreed (slice_set xs i y)
set_unfreed [] i y h k = tt
set_unfreed (x ∷ xs) zero y h k = (h, k.1)
set_unfreed (x ∷ xs) (suc i) y h k = (k.0, set_unfreed xs i y h k.1)

pub push_unfreed : (xs : List Instance) (y : Instance) → (is_suspended y.status ≡ true → y.freed ≡ false)
    → AreUnfreed xs → AreUnfreed (xs ++ y ∷ [])
push_unfreed [] y h k = (h, tt)
push_unfreed (x ∷ xs) y h k = (k.0, push_unfreed xs y h k.1)

pub get_unfreed : (xs : List Instance) (i : ℕ) (x : Instance) → slice_get xs i ≡ Some x → AreUnfreed xs
    → is_suspended x.status ≡ true → x.freed ≡ false
get_unfreed [] i x e k = absurd (cc)
get_unfreed (y ∷ xs) zero x e k =
    let same : y ≡ x = cc in
    subst (λ (z : Instance). is_suspended z.status ≡ true → z.freed ≡ false) same k.0
get_unfreed (y ∷ xs) (suc i) x e k = get_unfreed xs i x e k.1

set_there : (xs : List Instance) (i : ℕ) (x y : Instance) → slice_get xs i ≡ Some x
    → slice_get (slice_set xs i y) i ≡ Some y
set_there [] i x y e = absurd (cc)
set_there (z ∷ xs) zero x y e = refl
set_there (z ∷ xs) (suc i) x y e = set_there xs i x y e

-- the instance of a number, where it is found
record IsFound (s : State) (o : Option (ℕ × Instance)) : Type 0 where
  is : (i : ℕ) (x : Instance) → o ≡ Some (i, x) → slice_get s.instances i ≡ Some x

own_found : (s : State) → IsFound s (own_instance s)
own_found s = record { is = λ i x e. own_is s i x e }

-- another state with this activation but for its values, and these instances
woken_too : (s t : State) → IsWoken s → t.top.mode ≡ s.top.mode → t.top.instance ≡ s.top.instance
    → t.instances ≡ s.instances → IsWoken t
woken_too s t o mode own instances = record {
  not_first = ap is_first mode ∙ o.not_first;
  number = o.number;
  instance = o.instance;
  own = own ∙ o.own;
  there = ap (λ (xs : List Instance). slice_get xs o.number) instances ∙ o.there;
  running = o.running;
  unfreed = o.unfreed;
}

no_entering : (mode : Mode) → IsCalm mode → is_entering mode ≡ true → ⊥
no_entering (Mode.Entering from label) c f = c
no_entering Mode.Plain c f = false≢true f
no_entering Mode.Ramp c f = false≢true f
no_entering Mode.Resumed c f = false≢true f
no_entering (Mode.GivenRamp frame) c f = c

-- ---- an alloca

-- what an alloca comes to
abbrev Allocates : Action → Type 0
Allocates (NewSlot w slot) = Unit {0}
Allocates (Stuck cause) = Unit {0}
Allocates _ = ⊥

allocates : (c : Context) (w : Work) (i : Instr) → is_alloca i ≡ true → Allocates (instr_action c w i)
allocates c w (Instr.Alloca name ty align) e = on (is_alignment align)
  where
    on : (b : Bool) → Allocates (if b then alloca c w name
        (size_of c.code ty) align else Stuck Cause.Align)
    on true = tt
    on false = tt
allocates c w (Instr.Binary name op flags ty a b) e = absurd (false≢true e)
allocates c w (Instr.Icmp name pred ty a b) e = absurd (false≢true e)
allocates c w (Instr.Select name x a b) e = absurd (false≢true e)
allocates c w (Instr.Cast name op nneg arg to) e = absurd (false≢true e)
allocates c w (Instr.Load name ty p align) e = absurd (false≢true e)
allocates c w (Instr.Store arg p align) e = absurd (false≢true e)
allocates c w (Instr.Gep name inbounds ty base indices) e = absurd (false≢true e)
allocates c w (Instr.Call result must_tail ty callee args) e = absurd (false≢true e)

same_instr : (i j : Instr) → AtInstr i ≡ AtInstr j → i ≡ j
same_instr i j e = cc

-- ---- parts of a step

module _ (edges : ℕ → ℕ → Bool) where
  abbrev Fine : State → Type 0
  Fine s = IsFreshState edges s

  abbrev FineResult : Result State Cause → Type 0
  FineResult r = StaysFresh edges r

  then_fresh : {A : Type 0} (r : Result A Cause) (f : A → Result State Cause)
      → ((a : A) → r ≡ Ok a → FineResult (f a)) → FineResult (and_then r f)
  then_fresh (Err cause) f k = tt
  then_fresh (Ok a) f k = k a refl

  ok_fresh : (b : Bool) (cause : Cause) (s : State) → Fine s → FineResult (ok_if b cause s)
  ok_fresh true cause s k = k
  ok_fresh false cause s k = tt

  -- an activation that isn't fresh
  old : (s : State) → AreUnfreed s.instances → (IsFresh edges s.top → ⊥) → Fine s
  old s k none = record { asleep = k; fresh = λ f. absurd (none f) }

  same_top : (s t : State) → IsSameTop s t → (IsFresh edges s.top → ⊥) → IsFresh edges t.top → ⊥
  same_top s t e none (inl f) = none (inl ((λ i. edges (sym e.func i) (sym e.block i)) ∙ f))
  same_top s t e none (inr f) = none (inr (ap is_entering (sym e.mode) ∙ f))

  -- ---- of an activation that isn't fresh

  module _ (s : State) (k : AreUnfreed s.instances) (none : IsFresh edges s.top → ⊥) where
    settles : (w : Work) → Fine (settled s w)
    settles w = old (settled s w) k none

    own_asleep : (f : Instance → Instance)
        → ((x : Instance) → (is_suspended x.status ≡ true → x.freed ≡ false)
        → is_suspended (f x).status ≡ true → (f x).freed ≡ false)
        → (o : Option (ℕ × Instance)) → IsFound s o → AreUnfreed (change_own s f o).instances
    own_asleep f h None is = k
    own_asleep f h (Some p) is =
        set_unfreed s.instances p.0 (f p.1) (h p.1 (get_unfreed s.instances p.0 p.1 (is.is p.0 p.1 refl) k)) k

    own_none : (f : Instance → Instance) (o : Option (ℕ × Instance)) → IsFresh edges (change_own s f o).top → ⊥
    own_none f None h = none h
    own_none f (Some p) h = none h

    save_fresh : (p u : Point) (f : State → Result State Cause)
        → ((t : State) → AreUnfreed t.instances → (IsFresh edges t.top → ⊥) → FineResult (f t))
        → FineResult (and_then (save_for s p u) f)
    save_fresh p u f then' = on (own_instance s)
      where
        by : (q : ℕ × Instance) (b : Bool) → not q.1.freed ≡ b
            → FineResult (and_then (ok_if b Cause.State (with_left (with_instance s q.0 (record q.1 {
              status = Status.Suspended u s.top.values;
              last_save = Some (record { depth = length s.below; save = p });
            })) true)) f)
        by q false e = tt
        by q true e = then' _ (set_unfreed s.instances q.0 _ (λ z. unfreed q.1.freed e) k) none
          where
            unfreed : (b : Bool) → not b ≡ true → b ≡ false
            unfreed true h = absurd (false≢true h)
            unfreed false h = refl

        on : (o : Option (ℕ × Instance))
            → FineResult (and_then (and_then (found Cause.State o) (λ (i, x).
            ok_if (not x.freed) Cause.State
            (with_left
            (with_instance s i (record x {
              status = Status.Suspended u s.top.values;
              last_save = Some (record { depth = length s.below; save = p });
            })) true))) f)
        on None = tt
        on (Some q) = by q (not q.1.freed) refl

    suspend_fresh : (result : Option ℕ) (of_save : Operand) → FineResult (suspend s result of_save)
    suspend_fresh result Operand.None =
        save_fresh (point_of s) (point_of s) _ (λ t c n. record { asleep = c; fresh = λ f. absurd (n f) })
    suspend_fresh result _ = settles _

    freed_fresh : (p : Value) → FineResult (deallocate s p)
    freed_fresh p = on (if_let_go s (instance_at s.instances p))
        (goes (instance_at s.instances p) (λ i x e. at_is s.instances p i x e))
      where
        goes : (o : Option (ℕ × Instance))
            → ((i : ℕ) (x : Instance) → o ≡ Some (i, x) → slice_get s.instances i ≡ Some x)
            → AreUnfreed (if_let_go s o).instances × (IsFresh edges (if_let_go s o).top → ⊥)
        goes None is = (k, none)
        goes (Some q) is = by (may_be_freed q.1) refl
          where
            awake : (r b : Bool) → (r && not b) ≡ true → b ≡ true → false ≡ true
            awake true true h e = h
            awake true false h e = e
            awake false b h e = h

            by : (b : Bool) → may_be_freed q.1 ≡ b
                → AreUnfreed (if b then let_go s q.0 q.1 else s).instances
                × (IsFresh edges (if b then let_go s q.0 q.1 else s).top → ⊥)
            by true e = (
              set_unfreed s.instances q.0 _
                  (λ z. absurd (false≢true (awake q.1.released (is_suspended q.1.status) e z))) k,
              none,
            )
            by false e = (k, none)

        on : (t : State) → AreUnfreed t.instances × (IsFresh edges t.top → ⊥)
            → FineResult (and_then (deallocated t.world.memory p) (λ memory. Ok (next (with_memory t memory))))
        on t c = then_fresh (deallocated t.world.memory p) (λ memory. Ok (next (with_memory t memory))) (λ memory e.
            record { asleep = c.0; fresh = λ f. absurd (c.1 f) })

  sleeper_fresh : (s : State) (p : Value) (go : Sleeper → Result State Cause)
      → ((y : Sleeper) → slice_get s.instances y.number ≡ Some y.instance
      → is_suspended y.instance.status ≡ true → FineResult (go y)) → FineResult (and_then (sleeper_at s p) go)
  sleeper_fresh s p go k = on (instance_at s.instances p) (λ i x e. at_is s.instances p i x e)
    where
      by : (i : ℕ) (x : Instance) → slice_get s.instances i ≡ Some x → (st : Status) → x.status ≡ st
          → FineResult (and_then (sleeper_of i x st) go)
      by i x at Status.Running e = tt
      by i x at (Status.Suspended u vs) e =
          k (record { number = i; instance = x; suspend = u; values = vs }) at (ap is_suspended e)
      by i x at Status.Finished e = tt

      on : (o : Option (ℕ × Instance)) → ((i : ℕ) (x : Instance) → o ≡ Some (i, x) → slice_get s.instances i ≡ Some x)
          → FineResult (and_then (and_then (found Cause.Frame o) (λ (i, x). sleeper_of i x x.status)) go)
      on None is = tt
      on (Some z) is = by z.0 z.1 (is z.0 z.1 refl) z.1.status refl

  woken_fresh : (s : State) (i : ℕ) (x : Instance) (t : State) → IsWaking s i x t → AreUnfreed s.instances
      → slice_get s.instances i ≡ Some x → is_suspended x.status ≡ true → Fine t
  woken_fresh s i x t w k there asleep = record {
    asleep = subst AreUnfreed (sym w.instances)
        (set_unfreed s.instances i (record x { status = Status.Running }) (λ e. absurd (false≢true e)) k);
    fresh = λ f. record {
      not_first = w.not_first;
      number = i;
      instance = record x { status = Status.Running };
      own = w.own;
      there = ap (λ (xs : List Instance). slice_get xs i) w.instances
          ∙ set_there s.instances i x (record x { status = Status.Running }) there;
      running = refl;
      unfreed = get_unfreed s.instances i x there k asleep;
    };
  }

-- ---- a step

module _ (h : Hooks) (edges : ℕ → ℕ → Bool) (keeps : KeepsFresh h) (bare : AreBareBlocks h.given.code edges)
    (s : State) (k : IsFreshState edges s) (called : IsCalledState h.given.code s) (placed : IsPlacedState h s)
    (leads : LeadsToNone h edges s) where
  abbrev here : Fetched
  here = fetch (function_of h.given s) s.top.block s.top.at

  -- the activation below stands behind its call
  return_fresh : (t : State) (v : Option Value) → IsFreshState edges t → t.below ≡ s.below
      → StaysFresh edges (return t v)
  return_fresh t v c e = by t.below (subst (AreBehindCalls h.given.code s.top.result) (sym e) called.below)
    where
      by : (below : List Activation) → AreBehindCalls h.given.code s.top.result below
          → StaysFresh edges (pop (returned t) v below)
      by [] d = then_fresh edges (outcome_of v) (λ outcome. Ok (record (returned t) { outcome = outcome }))
          (λ outcome q.
          record { asleep = c.asleep; fresh = λ f. woken_too t _ (c.fresh f) refl refl refl })
      by (a ∷ below) d = record {
        asleep = c.asleep;
        fresh = λ f. absurd (⊎_elim
            (λ z. false≢true (sym (bare.bare a.func a.block d.0.at d.0.call d.0.there) ∙ z))
            (λ z. no_entering a.mode d.0.calm z) f);
      }

  after_fresh : (t : State) (result : Option ℕ) (mode : Mode) → AreUnfreed t.instances → (IsFresh edges t.top → ⊥)
      → t.below ≡ s.below → StaysFresh edges (after_end t result mode)
  after_fresh t result Mode.Resumed asleep none e = return_fresh t None (old edges t asleep none) e
  after_fresh t result _ asleep none e = settles edges t asleep none _

  -- ---- instructions

  module _ (i : Instr) (there : fetch (function_of h.given s) s.top.block s.top.at ≡ AtInstr i) where
    off : edges s.top.func s.top.block ≡ false
    off = bare.bare s.top.func s.top.block s.top.at i there

    module _ (calm : is_entering s.top.mode ≡ false) where
      none : IsFresh edges s.top → ⊥
      none (inl f) = false≢true (sym off ∙ f)
      none (inr f) = false≢true (sym calm ∙ f)

      fine : (w : Work) → IsFreshState edges (settled s w)
      fine w = settles edges s k.asleep none w

      entered : (func : ℕ) (args : List Value) (result : Option ℕ)
          → IsFreshState edges (enter h.given s func args result)
      entered func args result = record {
        asleep = k.asleep;
        fresh = λ f. absurd (⊎_elim (λ z. false≢true (sym (bare.later func) ∙ z))
            (on (function_at h.given.code func).coroutine) f);
      }
        where
          on : (b : Bool) → is_entering (if b then Mode.Ramp else Mode.Plain) ≡ true → ⊥
          on true e = false≢true e
          on false e = false≢true e

      coro_fresh : (x : Intrinsic) (result : Option ℕ) (args : List Arg) (vs : List Value)
          → StaysFresh edges (hooked_coro h s x args vs result)
      coro_fresh Intrinsic.CoroId result args vs = fine _
      coro_fresh Intrinsic.CoroSizeI32 result args vs = fine _
      coro_fresh Intrinsic.CoroSizeI64 result args vs = fine _
      coro_fresh Intrinsic.CoroAlignI32 result args vs = fine _
      coro_fresh Intrinsic.CoroAlignI64 result args vs = fine _
      coro_fresh Intrinsic.CoroAlloc result args vs = fine _
      coro_fresh Intrinsic.CoroFrame result args vs = fine _
      coro_fresh Intrinsic.LifetimeStart result args vs = fine _
      coro_fresh Intrinsic.LifetimeEnd result args vs = fine _
      coro_fresh Intrinsic.MemcpyI64 result args vs = fine _
      coro_fresh Intrinsic.MemcpyI32 result args vs = fine _
      coro_fresh Intrinsic.CoroBegin result args vs = on (h.start s result (nth vs 1)) refl
        where
          on : (r : Result State Cause) → h.start s result (nth vs 1) ≡ r → StaysFresh edges r
          on (Err cause) e = tt
          on (Ok t) e =
              let y = keeps.start s result (nth vs 1) t e in
              old edges t (y.0 k.asleep) (same_top edges s t y.1 none)
      coro_fresh Intrinsic.CoroFree result args vs =
          let f : Instance → Instance = λ x. record x { released = true } in
          settles edges (release s)
          (own_asleep edges s k.asleep none f (λ x z. z) (own_instance s) (own_found s))
          (own_none edges s k.asleep none f (own_instance s)) _
      coro_fresh Intrinsic.CoroSave result args vs =
          then_fresh edges (found Cause.State (suspend_of (function_of h.given s) (point_of s))) _ (λ u eu.
          save_fresh edges s k.asleep none (point_of s) u _ (λ t c n. settles edges t c n _))
      coro_fresh Intrinsic.CoroSuspend result args vs =
          suspend_fresh edges s k.asleep none result (operand_at args 0)
      coro_fresh Intrinsic.CoroEnd result args vs = on s.top.has_left
        where
          y : (AreUnfreed s.instances → AreUnfreed (h.close s).instances) × ((h.close s).top ≡ s.top)
              × ((h.close s).below ≡ s.below)
          y = keeps.close s

          on : (b : Bool) → StaysFresh edges (after_end (if b then s else h.close s) result s.top.mode)
          on true = after_fresh s result s.top.mode k.asleep none refl
          on false = after_fresh (h.close s) result s.top.mode (y.0 k.asleep)
              (λ f. none (subst (IsFresh edges) y.1 f)) y.2
      coro_fresh Intrinsic.CoroResume result args vs = sleeper_fresh edges s (nth vs 0) _ (λ y at asleep.
          ok_fresh edges _ Cause.State _ (woken_fresh edges s y.number y.instance _
          (keeps.go_on s y.number y.instance y.suspend y.values _) k.asleep at asleep))
      coro_fresh Intrinsic.CoroDestroy result args vs = sleeper_fresh edges s (nth vs 0) _ (λ y at asleep.
          woken_fresh edges s y.number y.instance _
          (keeps.go_on s y.number y.instance y.suspend y.values _) k.asleep at asleep)
      coro_fresh Intrinsic.CoroDone result args vs = sleeper_fresh edges s (nth vs 0) _ (λ y at asleep.
          ok_fresh edges _ Cause.State _ (fine _))
      coro_fresh Intrinsic.CoroPromise result args vs =
          then_fresh edges (h.promised s (nth vs 0) (operand_at args 2)) _ (λ v ev. fine _)

      calm_fresh : (a : Action) → Comes i a → StaysFresh edges (hooked_act h s a)
      calm_fresh (Stuck cause) q = tt
      calm_fresh (Done w) q = fine w
      calm_fresh (NewSlot w slot) q =
          let y = keeps.place (settled s w) slot in
          old edges (h.place (settled s w) slot) (y.asleep k.asleep)
          (same_top edges (settled s w) (h.place (settled s w) slot) (y.calm calm) none)
      calm_fresh (Enter func args result must_tail) q = entered func args result
      calm_fresh (Coro x args result) q =
          coro_fresh x result args (arg_values h.given.code s.top.values args)
      calm_fresh (Deallocate p) q = freed_fresh edges s k.asleep none p
      calm_fresh (GoTo label) q = absurd q
      calm_fresh (Return v) q = absurd q

    -- what makes allocas again stands at one
    module _ (entering : is_entering s.top.mode ≡ true) where
      at_alloca : is_alloca i ≡ true
      at_alloca = on s.top.mode refl entering
        where
          on : (mode : Mode) → s.top.mode ≡ mode → is_entering mode ≡ true → is_alloca i ≡ true
          on (Mode.Entering from label) e d =
              let a = (placed.top.entering from label e).alloca in
              ap is_alloca (same_instr i a.instr (sym there ∙ a.stands)) ∙ a.is
          on Mode.Plain e d = absurd (false≢true d)
          on Mode.Ramp e d = absurd (false≢true d)
          on Mode.Resumed e d = absurd (false≢true d)
          on (Mode.GivenRamp frame) e d = absurd (false≢true d)

      entering_fresh : (a : Action) → Allocates a → StaysFresh edges (hooked_act h s a)
      entering_fresh (Stuck cause) q = tt
      entering_fresh (NewSlot w slot) q =
          let y = keeps.place (settled s w) slot in
          let z = y.goes entering in
          let o = k.fresh (inr entering) in
          record {
            asleep = y.asleep k.asleep;
            fresh = λ f. record {
              not_first = z.2;
              number = o.number;
              instance = o.instance;
              own = z.1 ∙ o.own;
              there = ap (λ (xs : List Instance). slice_get xs o.number) z.0 ∙ o.there;
              running = o.running;
              unfreed = o.unfreed;
            };
          }
      entering_fresh (Done w) q = absurd q
      entering_fresh (Enter func args result must_tail) q = absurd q
      entering_fresh (Coro x args result) q = absurd q
      entering_fresh (Deallocate p) q = absurd q
      entering_fresh (GoTo label) q = absurd q
      entering_fresh (Return v) q = absurd q

    instr_fresh : StaysFresh edges (hooked_act h s (instr_action (hooked_context h s) (work_of s) i))
    instr_fresh = on (is_entering s.top.mode) refl
      where
        on : (b : Bool) → is_entering s.top.mode ≡ b
            → StaysFresh edges (hooked_act h s (instr_action (hooked_context h s) (work_of s) i))
        on false e = calm_fresh e (instr_action (hooked_context h s) (work_of s) i)
            (comes (hooked_context h s) (work_of s) i)
        on true e = entering_fresh e (instr_action (hooked_context h s) (work_of s) i)
            (allocates (hooked_context h s) (work_of s) i (at_alloca e))

  -- ---- terminators

  module _ (t : Terminator) (there : fetch (function_of h.given s) s.top.block s.top.at ≡ AtTerm t) where
    calm : is_entering s.top.mode ≡ true → ⊥
    calm e = on s.top.mode refl e
      where
        other : (i : Instr) → AtTerm t ≡ AtInstr i → ⊥
        other i e = cc

        on : (mode : Mode) → s.top.mode ≡ mode → is_entering mode ≡ true → ⊥
        on (Mode.Entering from label) d e =
            let a = (placed.top.entering from label d).alloca in other a.instr (sym there ∙ a.stands)
        on Mode.Plain d e = false≢true e
        on Mode.Ramp d e = false≢true e
        on Mode.Resumed d e = false≢true e
        on (Mode.GivenRamp frame) d e = false≢true e

    leaves_fresh : (label : ℕ) → edges s.top.func (position_of (function_of h.given s) label) ≡ false
        → (windows : List Window) → StaysFresh edges (branch_leaving h.given s label windows)
    leaves_fresh label off [] = record {
      asleep = k.asleep;
      fresh = λ f. absurd (⊎_elim (λ z. false≢true (sym off ∙ z)) calm f);
    }
    leaves_fresh label off (w ∷ ws) = then_fresh edges (found Cause.State (own_instance s)) _ (λ p e.
        ok_fresh edges _ Cause.State _ (record {
          asleep = set_unfreed s.instances p.0 _ (λ z. absurd (false≢true z)) k.asleep;
          fresh = λ f. absurd (⊎_elim (λ z. false≢true (sym off ∙ z)) calm f);
        }))

    term_fresh : (a : Action) → term_action (hooked_context h s) (work_of s) t ≡ a
        → Ends (hooked_context h s) (work_of s) t a → StaysFresh edges (hooked_act h s a)
    term_fresh (GoTo label) e q = leaves_fresh label (leads t label there e) (left_windows h.given s label)
    term_fresh (Return v) e q = return_fresh s v k refl
    term_fresh (Stuck cause) e q = tt
    term_fresh (Done w) e q = absurd q
    term_fresh (NewSlot w slot) e q = absurd q
    term_fresh (Enter func args result must_tail) e q = absurd q
    term_fresh (Coro x args result) e q = absurd q
    term_fresh (Deallocate p) e q = absurd q

  act_fresh : (x : Fetched) → fetch (function_of h.given s) s.top.block s.top.at ≡ x
      → StaysFresh edges (hooked_act h s (action_of (hooked_context h s) (work_of s) x))
  act_fresh Nowhere e = tt
  act_fresh (AtInstr i) e = instr_fresh i e
  act_fresh (AtTerm t) e = term_fresh t e (term_action (hooked_context h s) (work_of s) t) refl
      (ends (hooked_context h s) (work_of s) t)

  -- a marker that does nothing
  idle_fresh : (x : Fetched) → fetch (function_of h.given s) s.top.block s.top.at ≡ x → h.is_idle s x ≡ true
      → IsFreshState edges (next s)
  idle_fresh x e idle = record {
    asleep = k.asleep;
    fresh = λ f. woken_too s _ (k.fresh f) refl refl refl;
  }

  next_fresh : (x : Fetched) → fetch (function_of h.given s) s.top.block s.top.at ≡ x → h.given_call s x ≡ None
      → StaysFresh edges (hooked_next h s x)
  next_fresh x e none = on (h.is_idle s x) refl (h.given_call s x) none
    where
      on : (b : Bool) → h.is_idle s x ≡ b → (o : Option (Result State Cause)) → o ≡ None
          → StaysFresh edges (if b then Ok (next s) else unwrap_or o
          (hooked_act h s (action_of (hooked_context h s) (work_of s) x)))
      on true idle o d = idle_fresh x e idle
      on false idle None d = act_fresh x e
      on false idle (Some r) d = absurd (cc)

  or_fresh : (r : Result State Cause) → StaysFresh edges r → IsFreshState edges (or_undefined h.given s r)
  or_fresh (Err cause) q = record {
    asleep = k.asleep;
    fresh = λ f. woken_too s _ (k.fresh f) refl refl refl;
  }
  or_fresh (Ok t) q = q

  pub step_fresh : IsFreshState edges (step_of h s)
  step_fresh = by s.outcome
    where
      by : (o : Outcome) → IsFreshState edges (hooked_advance h s o)
      by Outcome.Running =
          or_fresh (hooked_next h s (fetch (function_of h.given s) s.top.block s.top.at))
          (next_fresh (fetch (function_of h.given s) s.top.block s.top.at) refl
          (keeps.ungiven s s.top.block s.top.at))
      by (Outcome.Returned v) = k
      by (Outcome.Undefined cause place) = k
