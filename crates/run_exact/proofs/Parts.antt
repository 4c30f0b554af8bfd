-- Parts of a step keep states in which names have sizes and blocks of that size, and instances their blocks.
use Rattle.std.proofs.Common.{◌≡◌, ℕ, Bool, true, false, List, [], ◌∷◌, length, ◌&&◌}
use Rattle.std.proofs.Common.{Option, Some, None, Result, Ok, Err, refl, sym, subst}
use Rattle.std.specs.Prelude.{if◌then◌else◌, not, slice_get, slice_set, unwrap_or}
use Rattle.pass_frames_meaning.proofs.run_hooks.Reached.{at_is, own_function, own_is}
use Rattle.pass_frames_meaning.proofs.run_hooks.alive.Parts.{Here, IsSet, Other, get_set}
use Rattle.pass_frames_meaning.specs.pass_frames_proof.ir_base.declared.cause.Cause.{Cause}
use Rattle.pass_frames_meaning.specs.pass_frames_proof.ir_model.Names.{position_of}
use Rattle.pass_frames_meaning.specs.pass_frames_proof.ir_paths.declared.point.Point.{Point}
use Rattle.pass_frames_meaning.specs.pass_frames_proof.ir_paths.declared.point.Window.{Window}
use Rattle.pass_frames_meaning.specs.pass_frames_proof.run_memory.Memory.{killed}
use Rattle.pass_frames_meaning.specs.pass_frames_proof.run_memory.declared.block.MemoryBlock.{MemoryBlock}
use Rattle.pass_frames_meaning.specs.pass_frames_proof.run_memory.declared.pointer.Value.{Value}
use Rattle.pass_frames_meaning.specs.pass_frames_proof.run_source.Source.{Sleeper, after_end, branch_leaving, called, change_own, deallocate, end_of, enter_block}
use Rattle.pass_frames_meaning.specs.pass_frames_proof.run_source.Source.{finish, if_let_go, is_among, is_over, kill_late, let_go, may_be_freed, new_slot}
use Rattle.pass_frames_meaning.specs.pass_frames_proof.run_source.Source.{pop, push, release, resumed, return, returned, save_for, sleeper_at, sleeper_of, with_new_slots}
use Rattle.pass_frames_meaning.specs.pass_frames_proof.run_source.State.{gives, instance_at, next, own_facts, own_instance, with_instance, with_left, with_memory, with_status}
use Rattle.pass_frames_meaning.specs.pass_frames_proof.run_source.declared.state.Activation.{Activation}
use Rattle.pass_frames_meaning.specs.pass_frames_proof.run_source.declared.state.Instance.{Instance}
use Rattle.pass_frames_meaning.specs.pass_frames_proof.run_source.declared.state.Mode.{Mode}
use Rattle.pass_frames_meaning.specs.pass_frames_proof.run_source.declared.state.State.{State}
use Rattle.pass_frames_meaning.specs.pass_frames_proof.run_source.declared.state.Status.{Status}
use Rattle.pass_frames_meaning.specs.pass_frames_proof.run_source_tables.Given.{Given}
use Rattle.pass_frames_meaning.specs.pass_frames_proof.run_step.Results.{and_then, found, ok_if}
use Rattle.pass_frames_meaning.specs.pass_frames_proof.run_step.Step.{deallocated, label_of, outcome_of}
use Rattle.pass_frames_meaning.specs.pass_frames_proof.run_step.Values.{Env}
use Rattle.pass_frames_meaning.specs.pass_frames_proof.run_step.declared.world.Slot.{Slot}
use Rattle.pass_frames_meaning.specs.run_hooks.Reached.{IsReachedState}
use Rattle.run_exact.proofs.Values.{block_told, entry_told, no_name, none_told, result_told}
use Rattle.run_exact.specs.States.{GoesToNone, HasKeptSized, HasSized, HaveSizedBelow, IsAsTold, IsSizedIn, IsSizedInstance, StaysSized, function_in, size_in}

module _ (g : Given) (rows : List (ℕ × ℕ)) where
  abbrev Sized : State → Type 0
  Sized s = IsSizedIn g rows s

  abbrev Stays : Result State Cause → Type 0
  Stays r = StaysSized g rows r

  abbrev pub AreSizedInstances : List Instance → Type 0
  AreSizedInstances xs = (i : ℕ) (x : Instance) → slice_get xs i ≡ Some x → IsSizedInstance g rows x

  then_sized : {A : Type 0} (r : Result A Cause) (f : A → Result State Cause)
      → ((a : A) → r ≡ Ok a → Stays (f a)) → Stays (and_then r f)
  then_sized (Err cause) f h = tt
  then_sized (Ok a) f h = h a refl

  pub ok_sized : (b : Bool) (cause : Cause) (s : State) → Sized s → Stays (ok_if b cause s)
  ok_sized true cause s h = h
  ok_sized false cause s h = tt

  -- ---- instances

  pub set_sized : (xs : List Instance) → AreSizedInstances xs → (i : ℕ) (y : Instance) → IsSizedInstance g rows y
      → AreSizedInstances (slice_set xs i y)
  set_sized xs h i y k j z e = on (get_set xs i y j z e)
    where
      on : IsSet xs i y j z → IsSizedInstance g rows z
      on (Here a b) = subst (IsSizedInstance g rows) (sym b) k
      on (Other a b) = h j z b

  pub instance_sized : (s : State) → Sized s → (i : ℕ) (y : Instance) → IsSizedInstance g rows y
      → Sized (with_instance s i y)
  instance_sized s h i y k =
      record { top = h.top; below = h.below; instances = set_sized s.instances h.instances i y k }

  running_sized : (x : Instance) → IsSizedInstance g rows x
      → IsSizedInstance g rows (record x { status = Status.Running })
  running_sized x h = record { kept = tt; block = h.block }

  own_sized : (s : State) → Sized s → (f : Instance → Instance)
      → ((x : Instance) → IsSizedInstance g rows x → IsSizedInstance g rows (f x)) → (o : Option (ℕ × Instance))
      → ((i : ℕ) (x : Instance) → o ≡ Some (i, x) → slice_get s.instances i ≡ Some x) → Sized (change_own s f o)
  own_sized s h f k None is = h
  own_sized s h f k (Some p) is = instance_sized s h p.0 (f p.1) (k p.1 (h.instances p.0 p.1 (is p.0 p.1 refl)))

  -- ---- the topmost activation goes on

  pub gives_sized : (s : State) → Sized s → (result : Option ℕ) (v : Value)
      → ((n : ℕ) → result ≡ Some n → IsAsTold (function_in g s.top.func) (size_in g s.top.func) rows n v)
      → Sized (gives s result v)
  gives_sized s h result v k = record {
    top = result_told (function_in g s.top.func) (size_in g s.top.func) rows s.top.values result v h.top k;
    below = h.below;
    instances = h.instances;
  }

  pub next_sized : (s : State) → Sized s → Sized (next s)
  next_sized s h = record { top = h.top; below = h.below; instances = h.instances }

  pub enter_sized : (s : State) → Sized s → (label : ℕ) → Sized (enter_block g s label)
  enter_sized s h label = record {
    top = block_told (function_in g s.top.func) (size_in g s.top.func) rows g.code s.top.values h.top
        (label_of (slice_get (function_in g s.top.func).blocks s.top.block))
        (position_of (function_in g s.top.func) label);
    below = h.below;
    instances = h.instances;
  }

  -- ---- calls and returns

  pub called_sized : (s : State) → Sized s → (func : ℕ) (args : List Value) (result : Option ℕ) (mode : Mode)
      → GoesToNone (function_in g s.top.func) result → Sized (push s (called g.code func args result mode))
  called_sized s h func args result mode none = record {
    top = entry_told (function_in g func) (size_in g func) rows args;
    below = (none, h.top, h.below);
    instances = h.instances;
  }

  pub resumed_sized : (s : State) → Sized s → (i : ℕ) (x : Instance) → slice_get s.instances i ≡ Some x
      → (p : Point) (values : Env) → HasSized g rows x.coroutine values
      → Sized (push (with_status s i x Status.Running) (resumed i x p values))
  resumed_sized s h i x e p values k = record {
    top = k;
    below = (no_name (function_in g s.top.func) (size_in g s.top.func) rows, h.top, h.below);
    instances = set_sized s.instances h.instances i (record x { status = Status.Running })
        (running_sized x (h.instances i x e));
  }

  pub return_sized : (s : State) → Sized s → (v : Option Value) → Stays (return s v)
  return_sized s h v = on s.below h.below
    where
      on : (below : List Activation) → HaveSizedBelow g rows s.top.result below → Stays (pop (returned s) v below)
      on [] k = then_sized (outcome_of v) _ (λ outcome e.
          record { top = h.top; below = h.below; instances = h.instances })
      on (a ∷ below) k = record {
        top = result_told (function_in g a.func) (size_in g a.func) rows a.values s.top.result
            (unwrap_or v Value.Poison) k.1
            (λ n e. none_told (function_in g a.func) (size_in g a.func) rows s.top.result k.0 n e
            (unwrap_or v Value.Poison));
        below = k.2;
        instances = h.instances;
      }

  -- ---- the end

  finish_sized : (s : State) → Sized s → Sized (finish s)
  finish_sized s h =
      let k : Sized (change_own s (λ x. record x { status = Status.Finished }) (own_instance s)) =
      own_sized s h (λ x. record x { status = Status.Finished }) (λ x j. record { kept = tt; block = j.block })
      (own_instance s) (λ i x e. own_is s i x e) in
      record { top = k.top; below = k.below; instances = k.instances }

  finish_func : (s : State) → (finish s).top.func ≡ s.top.func
  finish_func s = on (own_instance s)
    where
      on : (o : Option (ℕ × Instance))
          → (change_own s (λ x. record x { status = Status.Finished }) o).top.func ≡ s.top.func
      on None = refl
      on (Some p) = refl

  after_sized : (s : State) → Sized s → (result : Option ℕ) (mode : Mode)
      → GoesToNone (function_in g s.top.func) result → Stays (after_end s result mode)
  after_sized s h result Mode.Resumed none = return_sized s h None
  after_sized s h result _ none =
      gives_sized s h result _ (λ n e. none_told (function_in g s.top.func) (size_in g s.top.func) rows result none n e _)

  pub end_sized : (s : State) → Sized s → (result : Option ℕ) → GoesToNone (function_in g s.top.func) result
      → Stays (end_of s finish result)
  end_sized s h result none = on s.top.has_left
    where
      on : (b : Bool) → Stays (after_end (if b then s else finish s) result s.top.mode)
      on true = after_sized s h result s.top.mode none
      on false = after_sized (finish s) (finish_sized s h) result s.top.mode
          (subst (λ (func : ℕ). GoesToNone (function_in g func) result) (sym (finish_func s)) none)

  -- ---- edges

  own_there : (s : State) (p : ℕ × Instance) → found Cause.State (own_instance s) ≡ Ok p
      → slice_get s.instances p.0 ≡ Some p.1
  own_there s p e = on (own_instance s) (λ i x d. own_is s i x d) e
    where
      on : (o : Option (ℕ × Instance))
          → ((i : ℕ) (x : Instance) → o ≡ Some (i, x) → slice_get s.instances i ≡ Some x)
          → found Cause.State o ≡ Ok p → slice_get s.instances p.0 ≡ Some p.1
      on None is k = absurd (cc)
      on (Some q) is k =
          let same : q ≡ p = cc in
          subst (λ (r : ℕ × Instance). slice_get s.instances r.0 ≡ Some r.1) same (is q.0 q.1 refl)

  pub leaves_sized : (s : State) → Sized s → (label : ℕ) (windows : List Window)
      → Stays (branch_leaving g s label windows)
  leaves_sized s h label [] = enter_sized s h label
  leaves_sized s h label (w ∷ windows) = then_sized (found Cause.State (own_instance s)) _ (λ p e.
      ok_sized _ Cause.State _ (enter_sized (with_left (with_status s p.0 p.1 Status.Running) false) (left p e) label))
    where
      left : (p : ℕ × Instance) → found Cause.State (own_instance s) ≡ Ok p
          → Sized (with_left (with_status s p.0 p.1 Status.Running) false)
      left p e = record {
        top = h.top;
        below = h.below;
        instances = set_sized s.instances h.instances p.0 (record p.1 { status = Status.Running })
            (running_sized p.1 (h.instances p.0 p.1 (own_there s p e)));
      }

  -- ---- saves and suspends

  pub save_sized : (s : State) → Sized s → IsReachedState g s → (k u : Point) (f : State → Result State Cause)
      → ((t : State) → Sized t → t.top.func ≡ s.top.func → Stays (f t)) → Stays (and_then (save_for s k u) f)
  save_sized s h reached k u f then' =
      on (own_instance s) (λ i x d. own_is s i x d) (λ i x d. own_function g s reached i x d)
    where
      by : (p : ℕ × Instance) → slice_get s.instances p.0 ≡ Some p.1 → p.1.coroutine ≡ s.top.func → (b : Bool)
          → Stays (and_then (ok_if b Cause.State (with_left (with_instance s p.0 (record p.1 {
            status = Status.Suspended u s.top.values;
            last_save = Some (record { depth = length s.below; save = k });
          })) true)) f)
      by p e same false = tt
      by p e same true = then' _ (record {
        top = h.top;
        below = h.below;
        instances = set_sized s.instances h.instances p.0 _ (record {
          kept = subst (λ (func : ℕ). HasSized g rows func s.top.values) (sym same) h.top;
          block = (h.instances p.0 p.1 e).block;
        });
      }) refl

      on : (o : Option (ℕ × Instance))
          → ((i : ℕ) (x : Instance) → o ≡ Some (i, x) → slice_get s.instances i ≡ Some x)
          → ((i : ℕ) (x : Instance) → o ≡ Some (i, x) → x.coroutine ≡ s.top.func)
          → Stays (and_then (and_then (found Cause.State o) (λ (i, x).
          ok_if (not x.freed) Cause.State
          (with_left
          (with_instance s i (record x {
            status = Status.Suspended u s.top.values;
            last_save = Some (record { depth = length s.below; save = k });
          })) true))) f)
      on None is own = tt
      on (Some p) is own = by p (is p.0 p.1 refl) (own p.0 p.1 refl) (not p.1.freed)

  -- ---- suspended instances

  pub sleeper_sized : (s : State) → Sized s → (p : Value) (go : Sleeper → Result State Cause)
      → ((y : Sleeper) → slice_get s.instances y.number ≡ Some y.instance
      → HasSized g rows y.instance.coroutine y.values → Stays (go y))
      → Stays (and_then (sleeper_at s p) go)
  sleeper_sized s h p go k = on (instance_at s.instances p) (λ j x e. at_is s.instances p j x e)
    where
      by : (i : ℕ) (x : Instance) → slice_get s.instances i ≡ Some x → (st : Status) → x.status ≡ st
          → Stays (and_then (sleeper_of i x st) go)
      by i x e Status.Running d = tt
      by i x e (Status.Suspended at vs) d =
          k (record { number = i; instance = x; suspend = at; values = vs }) e
          (subst (HasKeptSized g rows x.coroutine) d (h.instances i x e).kept)
      by i x e Status.Finished d = tt

      on : (o : Option (ℕ × Instance))
          → ((j : ℕ) (x : Instance) → o ≡ Some (j, x) → slice_get s.instances j ≡ Some x)
          → Stays (and_then (and_then (found Cause.Frame o) (λ (i, x). sleeper_of i x x.status)) go)
      on None is = tt
      on (Some z) is = by z.0 z.1 (is z.0 z.1 refl) z.1.status refl

  -- ---- a frame that is released and freed

  pub release_sized : (s : State) → Sized s → Sized (release s)
  release_sized s h =
      own_sized s h (λ x. record x { released = true }) (λ x j. record { kept = j.kept; block = j.block })
      (own_instance s) (λ i x e. own_is s i x e)

  pub release_func : (s : State) → (release s).top.func ≡ s.top.func
  release_func s = on (own_instance s)
    where
      on : (o : Option (ℕ × Instance)) → (change_own s (λ x. record x { released = true }) o).top.func ≡ s.top.func
      on None = refl
      on (Some p) = refl

  pub frees_sized : (s : State) → Sized s → (p : Value) → Stays (deallocate s p)
  frees_sized s h p = on (instance_at s.instances p) (λ j x e. at_is s.instances p j x e)
    where
      by : (t : State) → Sized t → Stays (and_then (deallocated t.world.memory p) (λ (memory : List MemoryBlock).
          Ok (next (with_memory t memory))))
      by t k = then_sized (deallocated t.world.memory p) _ (λ memory e.
          record { top = k.top; below = k.below; instances = k.instances })

      gone : (i : ℕ) (x : Instance) → slice_get s.instances i ≡ Some x → Sized (let_go s i x)
      gone i x e = record {
        top = h.top;
        below = h.below;
        instances = set_sized s.instances h.instances i (record x { freed = true })
            (record { kept = (h.instances i x e).kept; block = (h.instances i x e).block });
      }

      freed : (i : ℕ) (x : Instance) → slice_get s.instances i ≡ Some x → (b : Bool)
          → Stays (and_then (deallocated (if b then let_go s i x else s).world.memory p)
          (λ (memory : List MemoryBlock). Ok (next (with_memory (if b then let_go s i x else s) memory))))
      freed i x e true = by (let_go s i x) (gone i x e)
      freed i x e false = by s h

      on : (o : Option (ℕ × Instance))
          → ((j : ℕ) (x : Instance) → o ≡ Some (j, x) → slice_get s.instances j ≡ Some x)
          → Stays (and_then (deallocated (if_let_go s o).world.memory p)
          (λ (memory : List MemoryBlock). Ok (next (with_memory (if_let_go s o) memory))))
      on None is = by s h
      on (Some q) is = freed q.0 q.1 (is q.0 q.1 refl) (may_be_freed q.1)

  -- ---- a new slot

  pub slot_sized : (s : State) (slot : Slot) → Sized s → Sized (new_slot g s slot)
  slot_sized s slot h = on (own_instance s) (λ i x e. own_is s i x e)
    where
      by : (i : ℕ) (x : Instance) → slice_get s.instances i ≡ Some x → (b : Bool)
          → Sized (with_new_slots (own_facts g s).ramp_slots (Some (i, x))
          (if b then with_memory s (killed s.world.memory slot.block) else s) (slot ∷ []))
      by i x e true = record {
        top = h.top;
        below = h.below;
        instances = set_sized s.instances h.instances i _
            (record { kept = (h.instances i x e).kept; block = (h.instances i x e).block });
      }
      by i x e false = record {
        top = h.top;
        below = h.below;
        instances = set_sized s.instances h.instances i _
            (record { kept = (h.instances i x e).kept; block = (h.instances i x e).block });
      }

      on : (o : Option (ℕ × Instance)) → ((i : ℕ) (x : Instance) → o ≡ Some (i, x) → slice_get s.instances i ≡ Some x)
          → Sized (with_new_slots (own_facts g s).ramp_slots o
          (kill_late (own_facts g s).ramp_slots o s slot) (slot ∷ []))
      on None is = record { top = h.top; below = h.below; instances = h.instances }
      on (Some (i, x)) is = by i x (is i x refl) (is_over x && not (is_among (own_facts g s).ramp_slots slot))
