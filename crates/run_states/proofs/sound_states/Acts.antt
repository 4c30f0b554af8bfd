-- Each action keeps states sound.
use Rattle.std.proofs.Common.{◌≡◌, ℕ, ◌+◌, Bool, true, false, List, [], ◌∷◌, ◌++◌, length, refl, sym, ap, ◌∙◌, subst}
use Rattle.std.specs.List.{list_all}
use Rattle.std.specs.Prelude.{negsuc, Some, None, Ok, Err, Option, Result, filter, is_none, not, option_and_then, option_map, replicate, slice_get, slice_set, unwrap_or, if◌then◌else◌, ◌&&◌}
use Rattle.ir_laws.specs.run_memory.Memory.{killed, own}
use Rattle.ir_laws.specs.run_memory.declared.block.Kind.{Kind}
use Rattle.ir_laws.specs.run_memory.declared.pointer.Pointer.{Pointer}
use Rattle.ir_laws.specs.run_memory.declared.pointer.Value.{Value}
use Rattle.ir_laws.specs.ir_base.declared.cause.Cause.{Cause}
use Rattle.ir_laws.specs.run_source.Indexes.{last_from}
use Rattle.ir_laws.specs.run_source.Source.{Continues, Sleeper, after_end, begin, begin_at, begun, branch_leaving, change_own, continue, deallocate, destroy, done_at, end_of, enter, enter_block, finish, go_to, if_let_go, is_among, is_over, kill_late, let_go, may_be_freed, may_leave, new_instance, new_slot, pop, resume, return, returned, save, save_for, sleeper_at, sleeper_of, slots_of, suspend, with_new_slots}
use Rattle.ir_laws.specs.run_source.State.{began_at, gives, function_of, instance_at, next, own_facts, own_frame, own_instance, point_of, with_instance, with_left, with_memory, with_status}
use Rattle.ir_laws.specs.run_source.declared.state.Activation.{Activation}
use Rattle.ir_laws.specs.run_source.declared.state.Instance.{Instance}
use Rattle.ir_laws.specs.run_source.declared.state.Mode.{Mode}
use Rattle.ir_laws.specs.run_source.declared.state.State.{State}
use Rattle.ir_laws.specs.run_source.declared.state.Status.{Status}
use Rattle.ir_laws.specs.ir_model.Names.{function_at, is_local, position_of}
use Rattle.ir_laws.specs.ir_model.declared.instr.Instr.{Instr}
use Rattle.ir_laws.specs.ir_model.declared.module.Block.{Block}
use Rattle.ir_laws.specs.ir_model.declared.module.Function.{Function}
use Rattle.ir_laws.specs.ir_model.declared.module.Module.{Module}
use Rattle.ir_laws.specs.ir_model.declared.module.Param.{Param}
use Rattle.ir_laws.specs.ir_model.declared.operand.Intrinsic.{Intrinsic}
use Rattle.ir_laws.specs.ir_model.declared.operand.Operand.{Operand}
use Rattle.ir_laws.specs.ir_paths.Windows.{call_operand, call_result, destroy_label, instr_at, is_call_of, is_suspend_of, points_where, resume_label, suspend_of}
use Rattle.ir_laws.specs.ir_paths.declared.point.Point.{Point}
use Rattle.ir_laws.specs.ir_paths.declared.point.Window.{Window}
use Rattle.ir_laws.specs.run_step.Results.{and_then, found, ok_if}
use Rattle.ir_laws.specs.run_step.Step.{block_of, deallocated, entry_values, label_of, outcome_of, phi_values, phis_of, values_in, with_all, with_params, without_slots}
use Rattle.ir_laws.specs.run_step.Values.{Env, integer, truth_value, with_result, with_value}
use Rattle.ir_laws.specs.run_step.declared.world.Slot.{Slot}
use Rattle.run_states.proofs.expanded.Environments.{set_length}
use Rattle.ir_laws.proofs.facts.Members.{at_each as each_at}
use Rattle.ir_laws.proofs.paths.expanded.Saves.{passing_in}
use Rattle.ir_laws.proofs.paths.expanded.Windows.{instr_at_is}
use Rattle.ir_laws.specs.facts.expanded.Tokens.{IsNamedResult}
use Rattle.run_states.proofs.sound_states.Fits.{result_length}
use Rattle.run_states.proofs.sound_states.Kept.{activation_grown, below_grown, each_more, get_last, grown_more, grown_set, instance_sound, left_sound, like_sound, memory_sound, moved_on, own_is, own_there, settled_sound, slots_sound, with_outcome, IsGrown}
use Rattle.run_states.specs.sound_states.Sound.{AreSoundBelow, HasValues, IsModeOf, IsSound, IsSoundStatus, IsSuspendAt, KeepsSound}
use Rattle.ir_laws.specs.run_source_tables.Given.{Given, has_final, is_final}
use Rattle.ir_laws.proofs.facts.Numbers.{ok_same}
use Rattle.run_states.proofs.branches.Calls.{length_none as blank_length}

-- ---- lengths

all_length : (env : Env) (ps : List (ℕ × Value)) → length (with_all env ps) ≡ length env
all_length env [] = refl
all_length env (p ∷ ps) = all_length (with_value env p.0 p.1) ps ∙ set_length env p.0 p.1

values_length : (m : Module) (o : Option Block) (label : ℕ) (env : Env) → length (values_in m o label env) ≡ length env
values_length m o label env = all_length env (phi_values m env label (phis_of o))

params_length : (env : Env) (ps : List Param) (vs : List Value) → length (with_params env ps vs) ≡ length env
params_length env [] vs = refl
params_length env (p ∷ ps) [] = refl
params_length env (p ∷ ps) (v ∷ vs) = params_length (with_value env p.name v) ps vs ∙ set_length env p.name v

pub entry_length : (f : Function) (args : List Value) → length (entry_values f args) ≡ length f.names
entry_length f args = params_length (replicate (length f.names) None) f.params args ∙ blank_length (length f.names)

-- ---- the suspend of a save

suspends_then : (r : Option ℕ) (i : Instr) → is_suspend_of r i ≡ true → is_call_of Intrinsic.CoroSuspend i ≡ true
suspends_then None i e = absurd (cc)
suspends_then (Some v) i e = on (is_call_of Intrinsic.CoroSuspend i) (is_local v (call_operand i 0)) e
  where
    on : (b c : Bool) → (b && c) ≡ true → b ≡ true
    on true c e = refl
    on false c e = absurd (cc)

get_first : (f : Function) (r : Option ℕ) (p : Point) → slice_get (points_where (is_suspend_of r) f) 0 ≡ Some p → IsSuspendAt f p
get_first f r p e =
    let there = each_at _ (points_where (is_suspend_of r) f) 0 p (passing_in (is_suspend_of r) f.blocks) e in
    record { instr = there.instr; is = instr_at_is (slice_get f.blocks p.block) p.at ∙ there.is; suspends = suspends_then r there.instr there.passes }

pub suspend_found : (f : Function) (p suspend : Point) → suspend_of f p ≡ Some suspend → IsSuspendAt f suspend
suspend_found f p suspend e = get_first f (option_and_then call_result (instr_at f p)) suspend e

-- ---- instances that are found

pub instance_there : (instances : List Instance) (p : Value) (i : ℕ) (x : Instance) → instance_at instances p ≡ Some (i, x) → slice_get instances i ≡ Some x
instance_there instances (Value.Ptr (Pointer.At b o)) i x e = (own_there instances (last_from (began_at b o.bits) 0 instances) i x e).1
instance_there instances (Value.Ptr Pointer.Null) i x e = absurd (cc)
instance_there instances (Value.Ptr (Pointer.Func f)) i x e = absurd (cc)
instance_there instances Value.Poison i x e = absurd (cc)
instance_there instances (Value.Int w) i x e = absurd (cc)

pub record IsAsleepAt (s : State) (y : Sleeper) : Type 0 where
  pub got : slice_get s.instances y.number ≡ Some y.instance
  pub status : y.instance.status ≡ Status.Suspended y.suspend y.values

pub asleep_there : (s : State) (p : Value) (y : Sleeper) → sleeper_at s p ≡ Ok y → IsAsleepAt s y
asleep_there s p y e = on (instance_at s.instances p) refl e
  where
    by_status : (i : ℕ) (x : Instance) → slice_get s.instances i ≡ Some x → (st : Status) → x.status ≡ st → sleeper_of i x st ≡ Ok y → IsAsleepAt s y
    by_status i x got Status.Running d k = absurd (cc)
    by_status i x got (Status.Suspended suspend values) d k =
        subst (IsAsleepAt s) (ok_same (record { number = i; instance = x; suspend = suspend; values = values }) y k) (record { got = got; status = d })
    by_status i x got Status.Finished d k = absurd (cc)

    on : (o : Option (ℕ × Instance)) → instance_at s.instances p ≡ o → and_then (found Cause.Frame o) (λ (i, x). sleeper_of i x x.status) ≡ Ok y → IsAsleepAt s y
    on None d k = absurd (cc)
    on (Some (i, x)) d k = by_status i x (instance_there s.instances p i x d) x.status refl k

module _ (g : Given) where
  -- ---- what a step leaves

  -- sound where it isn't undefined
  abbrev pub Good : Result State Cause → Type 0
  Good (Err cause) = Unit {0}
  Good (Ok t) = IsSound g.code t

  pub on_found : {A : Type 0} (cause : Cause) (o : Option A) (k : A → Result State Cause) → ((a : A) → o ≡ Some a → Good (k a)) → Good (and_then (found cause o) k)
  on_found cause None k h = tt
  on_found cause (Some a) k h = h a refl

  pub on_result : {A : Type 0} (o : Result A Cause) (k : A → Result State Cause) → ((a : A) → o ≡ Ok a → Good (k a)) → Good (and_then o k)
  on_result (Err cause) k h = tt
  on_result (Ok a) k h = h a refl

  pub on_test : (b : Bool) (cause : Cause) (t : State) → IsSound g.code t → Good (ok_if b cause t)
  on_test true cause t h = h
  on_test false cause t h = tt

  pub gives_sound : (s : State) (result : Option ℕ) (v : Value) → IsSound g.code s → IsSound g.code (gives s result v)
  gives_sound s result v h = settled_sound g.code s (record { world = s.world; values = with_result s.top.values result v }) (result_length s.top.values result v) h

  pub next_sound : (s : State) → IsSound g.code s → IsSound g.code (next s)
  next_sound s h = settled_sound g.code s (record { world = s.world; values = s.top.values }) refl h

  -- ---- branches

  pub entered_sound : (s : State) (label : ℕ) → IsSound g.code s → IsSound g.code (enter_block g s label)
  entered_sound s label h =
      let f = function_of g s in
      let b = position_of f label in
      record {
        top = moved_on g.code s.instances s.top b 0 (values_in g.code (slice_get f.blocks b) (label_of (slice_get f.blocks s.top.block)) s.top.values) s.top.slots s.top.has_left (values_length g.code (slice_get f.blocks b) (label_of (slice_get f.blocks s.top.block)) s.top.values) h.top;
        below = h.below;
        instances = h.instances;
      }

  leave_sound : (s : State) → IsSound g.code s → (label : ℕ) (ws : List Window) → Good (branch_leaving g s label ws)
  leave_sound s h label [] = entered_sound s label h
  leave_sound s h label (w ∷ ws) =
      on_found Cause.State (own_instance s) (λ z. ok_if (list_all (may_leave (length s.below) z.1) (w ∷ ws)) Cause.State (enter_block g (with_left (with_status s z.0 z.1 Status.Running) false) label))
      (λ z own. on_test (list_all (may_leave (length s.below) z.1) (w ∷ ws)) Cause.State (enter_block g (with_left (with_status s z.0 z.1 Status.Running) false) label)
      (entered_sound (with_left (with_status s z.0 z.1 Status.Running) false) label
      (left_sound g.code (with_status s z.0 z.1 Status.Running) false
      (instance_sound g.code s z.0 z.1 (record z.1 { status = Status.Running }) (own_there s.instances s.top.instance z.0 z.1 own).1 refl tt h))))

  pub go_sound : (s : State) → IsSound g.code s → (label : ℕ) → Good (go_to g s label)
  go_sound s h label = leave_sound s h label _

  -- ---- calls and returns

  pub enter_sound : (s : State) → IsSound g.code s → (func : ℕ) (args : List Value) (result : Option ℕ) → IsNamedResult (length s.top.values) result → IsSound g.code (enter g s func args result)
  enter_sound s h func args result named = record {
    top = record { values = entry_length (function_at g.code func) args; instance = tt; mode = on (function_at g.code func).coroutine };
    below = (named, moved_on g.code s.instances s.top s.top.block (s.top.at + 1) s.top.values s.top.slots s.top.has_left refl h.top, h.below);
    instances = h.instances;
  }
    where
      on : (b : Bool) → IsModeOf (if b then Mode.Ramp else Mode.Plain) None result
      on true = tt
      on false = tt

  pop_sound : (s : State) → IsSound g.code s → (v : Option Value) (below : List Activation) → AreSoundBelow g.code s.instances s.top.result below → Good (pop s v below)
  pop_sound s h v [] b = on_result (outcome_of v) (λ outcome. Ok (record s { outcome = outcome })) (λ outcome e. with_outcome g.code s outcome h)
  pop_sound s h v (a ∷ below) b = record {
    top = moved_on g.code s.instances a a.block a.at (with_result a.values s.top.result (unwrap_or v Value.Poison)) a.slots a.has_left (result_length a.values s.top.result (unwrap_or v Value.Poison)) b.1;
    below = b.2;
    instances = h.instances;
  }

  pub return_sound : (s : State) → IsSound g.code s → (v : Option Value) → Good (return s v)
  return_sound s h v = pop_sound (returned s) (slots_sound g.code (with_memory s (without_slots s.world.memory s.top.slots)) [] (memory_sound g.code s (without_slots s.world.memory s.top.slots) h)) v s.below h.below

  -- ---- slots

  pub new_slots_sound : (ramp_slots : List ℕ) (o : Option (ℕ × Instance)) (s : State) (slots : List Slot) → ((z : ℕ × Instance) → o ≡ Some z → slice_get s.instances z.0 ≡ Some z.1) → IsSound g.code s → IsSound g.code (with_new_slots ramp_slots o s slots)
  new_slots_sound ramp_slots None s slots there h = slots_sound g.code s _ h
  new_slots_sound ramp_slots (Some (i, x)) s slots there h =
      slots_sound g.code (with_instance s i (record x { slots = filter (λ slot. not (is_among ramp_slots slot)) slots ++ x.slots })) _
      (like_sound g.code s i x (record x { slots = filter (λ slot. not (is_among ramp_slots slot)) slots ++ x.slots }) (there (i, x) refl) refl refl h)

  kill_sound : (ramp_slots : List ℕ) (o : Option (ℕ × Instance)) (s : State) (slot : Slot) → IsSound g.code s → IsSound g.code (kill_late ramp_slots o s slot)
  kill_sound ramp_slots None s slot h = h
  kill_sound ramp_slots (Some (i, x)) s slot h = on (is_over x && not (is_among ramp_slots slot))
    where
      on : (b : Bool) → IsSound g.code (if b then with_memory s (killed s.world.memory slot.block) else s)
      on true = memory_sound g.code s (killed s.world.memory slot.block) h
      on false = h

  kill_instances : (ramp_slots : List ℕ) (o : Option (ℕ × Instance)) (s : State) (slot : Slot) → (kill_late ramp_slots o s slot).instances ≡ s.instances
  kill_instances ramp_slots None s slot = refl
  kill_instances ramp_slots (Some (i, x)) s slot = on (is_over x && not (is_among ramp_slots slot))
    where
      on : (b : Bool) → (if b then with_memory s (killed s.world.memory slot.block) else s).instances ≡ s.instances
      on true = refl
      on false = refl

  pub new_slot_sound : (s : State) → IsSound g.code s → (slot : Slot) → IsSound g.code (new_slot g s slot)
  new_slot_sound s h slot =
      let ramp_slots = (own_facts g s).ramp_slots in
      new_slots_sound ramp_slots (own_instance s) (kill_late ramp_slots (own_instance s) s slot) (slot ∷ [])
      (λ z e. ap (λ (xs : List Instance). slice_get xs z.0) (kill_instances ramp_slots (own_instance s) s slot) ∙ (own_there s.instances s.top.instance z.0 z.1 e).1)
      (kill_sound ramp_slots (own_instance s) s slot h)

  -- ---- begin

  pub begun_sound : (s : State) (block start : ℕ) → IsSound g.code s → IsSound g.code (begun g s block start)
  begun_sound s block start h =
      let x = new_instance s.top.func block start in
      let more : List Instance = s.instances ++ x ∷ [] in
      let t : State = record s { instances = more; top = record s.top { instance = Some (length s.instances); slots = [] } } in
      new_slots_sound (own_facts g s).ramp_slots (Some (length s.instances, x)) t s.top.slots
      (λ z e. let is : ◌≡◌ {A = ℕ × Instance} (length s.instances, x) z = cc in subst (λ (y : ℕ × Instance). slice_get more y.0 ≡ Some y.1) is (get_last s.instances x))
      (record {
        top = record {
          values = h.top.values;
          instance = ap (option_map (λ (y : Instance). y.coroutine)) (get_last s.instances x);
          mode = mode s.top.mode s.top.instance (length s.instances) s.top.result h.top.mode;
        };
        below = below_grown g.code s.instances more s.top.result s.below (grown_more s.instances x) h.below;
        instances = each_more (λ (z : Instance). IsSoundStatus g.code z.coroutine z.status) s.instances x tt h.instances;
      })
    where
      mode : (mode : Mode) (o : Option ℕ) (n : ℕ) (result : Option ℕ) → IsModeOf mode o result → IsModeOf mode (Some n) result
      mode Mode.Plain o n result k = tt
      mode Mode.Ramp o n result k = tt
      mode Mode.Resumed o n result k = (refl, k.1)
      mode (Mode.GivenRamp v) o n result k = tt
      mode (Mode.Entering from label) o n result k = tt

  pub begin_at_sound : (s : State) → IsSound g.code s → (mem : Value) (kind : Kind) → Good (begin_at g s mem kind)
  begin_at_sound s h mem kind =
      on_result (own s.world.memory mem (own_frame g s).size kind) (λ memory. and_then (found Cause.Begin (block_of mem)) (λ b. Ok (begun g (with_memory s memory) b 0)))
      (λ memory e. on_found Cause.Begin (block_of mem) (λ b. Ok (begun g (with_memory s memory) b 0))
      (λ b d. begun_sound (with_memory s memory) b 0 (memory_sound g.code s memory h)))

  -- what follows a good result is good
  pub on_good : (o : Result State Cause) (k : State → Result State Cause) → Good o → ((t : State) → IsSound g.code t → Good (k t)) → Good (and_then o k)
  on_good (Err cause) k h next = tt
  on_good (Ok t) k h next = next t h

  pub begin_sound : (s : State) → IsSound g.code s → (result : Option ℕ) (mem : Value) → Good (begin g s result mem)
  begin_sound s h result mem =
      on_good (ok_if (is_none s.top.instance) Cause.Begin s) (λ t. and_then (begin_at g t mem Kind.Allocator) (λ u. Ok (gives u result mem)))
      (on_test (is_none s.top.instance) Cause.Begin s h)
      (λ t ht. on_good (begin_at g t mem Kind.Allocator) (λ u. Ok (gives u result mem)) (begin_at_sound t ht mem Kind.Allocator) (λ u hu. gives_sound u result mem hu))

  -- ---- save and suspend

  pub save_for_sound : (s : State) → IsSound g.code s → (point suspend : Point) → IsSuspendAt (function_at g.code s.top.func) suspend → Good (save_for s point suspend)
  save_for_sound s h point suspend stands =
      on_found Cause.State (own_instance s) (λ z. ok_if (not z.1.freed) Cause.State (with_left (with_instance s z.0 (kept z.1)) true))
      (λ z own.
      let there = own_there s.instances s.top.instance z.0 z.1 own in
      on_test (not z.1.freed) Cause.State (with_left (with_instance s z.0 (kept z.1)) true)
      (left_sound g.code (with_instance s z.0 (kept z.1)) true
      (instance_sound g.code s z.0 z.1 (kept z.1) there.1 refl
      (subst (λ (c : ℕ). IsSoundStatus g.code c (Status.Suspended suspend s.top.values)) (sym (own_is s.instances s.top.func s.top.instance z.0 z.1 there.0 there.1 h.top.instance)) (h.top.values, stands)) h)))
    where
      kept : Instance → Instance
      kept x = record x { status = Status.Suspended suspend s.top.values; last_save = Some (record { depth = length s.below; save = point }) }

  pub save_sound : (s : State) → IsSound g.code s → Good (save g s)
  save_sound s h =
      on_found Cause.State (suspend_of (function_at g.code s.top.func) (point_of s)) (λ suspend. and_then (save_for s (point_of s) suspend) (λ t. Ok (next t)))
      (λ suspend e. on_good (save_for s (point_of s) suspend) (λ t. Ok (next t)) (save_for_sound s h (point_of s) suspend (suspend_found (function_at g.code s.top.func) (point_of s) suspend e)) (λ t ht. next_sound t ht))

  pub suspend_sound : (s : State) → IsSound g.code s → IsSuspendAt (function_at g.code s.top.func) (point_of s) → (result : Option ℕ) (x : Operand) → Good (suspend s result x)
  suspend_sound s h stands result Operand.None =
      on_good (save_for s (point_of s) (point_of s)) (λ t. Ok (gives t result (integer 8 (negsuc 0)))) (save_for_sound s h (point_of s) (point_of s) stands) (λ t ht. gives_sound t result (integer 8 (negsuc 0)) ht)
  suspend_sound s h stands result (Operand.Local n) = gives_sound s result (integer 8 (negsuc 0)) h
  suspend_sound s h stands result (Operand.Global n) = gives_sound s result (integer 8 (negsuc 0)) h
  suspend_sound s h stands result (Operand.Number z) = gives_sound s result (integer 8 (negsuc 0)) h
  suspend_sound s h stands result Operand.True = gives_sound s result (integer 8 (negsuc 0)) h
  suspend_sound s h stands result Operand.False = gives_sound s result (integer 8 (negsuc 0)) h
  suspend_sound s h stands result Operand.Null = gives_sound s result (integer 8 (negsuc 0)) h
  suspend_sound s h stands result Operand.Poison = gives_sound s result (integer 8 (negsuc 0)) h

  -- ---- resume, destroy and done

  module _ (go : Continues) (keeps : KeepsSound g.code go) (s : State) (h : IsSound g.code s) where
    woken_sound : (p : Value) (y : Sleeper) → sleeper_at s p ≡ Ok y → (label : ℕ) → IsSound g.code (go s y.number y.instance y.suspend y.values label)
    woken_sound p y e label =
        let there = asleep_there s p y e in
        keeps s y.number y.instance y.suspend y.values label h there.got there.status

    pub resume_sound : (p : Value) → Good (resume g go s p)
    resume_sound p =
        on_result (sleeper_at s p) (λ y. let f = function_at g.code y.instance.coroutine in ok_if (not (is_final f y.suspend)) Cause.State (go s y.number y.instance y.suspend y.values (resume_label f y.suspend)))
        (λ y e. on_test (not (is_final (function_at g.code y.instance.coroutine) y.suspend)) Cause.State (go s y.number y.instance y.suspend y.values (resume_label (function_at g.code y.instance.coroutine) y.suspend))
        (woken_sound p y e (resume_label (function_at g.code y.instance.coroutine) y.suspend)))

    pub destroy_sound : (p : Value) → Good (destroy g go s p)
    destroy_sound p =
        on_result (sleeper_at s p) (λ y. Ok (go s y.number y.instance y.suspend y.values (destroy_label (function_at g.code y.instance.coroutine) y.suspend)))
        (λ y e. woken_sound p y e (destroy_label (function_at g.code y.instance.coroutine) y.suspend))

  pub done_sound : (s : State) → IsSound g.code s → (result : Option ℕ) (p : Value) → Good (done_at g s result p)
  done_sound s h result p =
      on_result (sleeper_at s p) (λ y. let f = function_at g.code y.instance.coroutine in ok_if (has_final f) Cause.State (gives s result (truth_value (is_final f y.suspend))))
      (λ y e. on_test (has_final (function_at g.code y.instance.coroutine)) Cause.State (gives s result (truth_value (is_final (function_at g.code y.instance.coroutine) y.suspend)))
      (gives_sound s result (truth_value (is_final (function_at g.code y.instance.coroutine) y.suspend)) h))

  -- the source goes on with the kept values
  pub continue_sound : KeepsSound g.code (continue g)
  continue_sound s i x suspend values label h got status =
      let run : Instance = record x { status = Status.Running } in
      let new : List Instance = slice_set s.instances i run in
      let grown : IsGrown s.instances new = grown_set s.instances i x run got refl in
      let f = function_at g.code x.coroutine in
      let kept : HasValues g.code x.coroutine values = (subst (IsSoundStatus g.code x.coroutine) status (h.instances i x got)).0 in
      record {
        top = record {
          values = values_length g.code (slice_get f.blocks (position_of f label)) (label_of (slice_get f.blocks suspend.block)) values ∙ kept;
          instance = grown i x.coroutine (ap (option_map (λ (y : Instance). y.coroutine)) got);
          mode = (refl, refl);
        };
        below = (tt, activation_grown g.code s.instances new (record s.top { at = s.top.at + 1 }) grown (moved_on g.code s.instances s.top s.top.block (s.top.at + 1) s.top.values s.top.slots s.top.has_left refl h.top), below_grown g.code s.instances new s.top.result s.below grown h.below);
        instances = (instance_sound g.code s i x run got refl tt h).instances;
      }

  -- ---- free and end

  change_sound : (s : State) → IsSound g.code s → (f : Instance → Instance) → ((x : Instance) → (f x).coroutine ≡ x.coroutine) → ((x : Instance) → IsSoundStatus g.code x.coroutine x.status → IsSoundStatus g.code (f x).coroutine (f x).status) → (o : Option (ℕ × Instance)) → own_instance s ≡ o → IsSound g.code (change_own s f o)
  change_sound s h f same status None e = h
  change_sound s h f same status (Some (i, x)) e =
      let got = (own_there s.instances s.top.instance i x e).1 in
      instance_sound g.code s i x (f x) got (same x) (status x (h.instances i x got)) h

  pub free_sound : (s : State) → IsSound g.code s → (result : Option ℕ) (v : Value) → IsSound g.code (gives (change_own s (λ x. record x { released = true }) (own_instance s)) result v)
  free_sound s h result v =
      gives_sound (change_own s (λ x. record x { released = true }) (own_instance s)) result v
      (change_sound s h (λ x. record x { released = true }) (λ x. refl) (λ x k. k) (own_instance s) refl)

  pub finish_sound : (s : State) → IsSound g.code s → IsSound g.code (finish s)
  finish_sound s h =
      memory_sound g.code (change_own s (λ x. record x { status = Status.Finished }) (own_instance s)) (without_slots s.world.memory (slots_of (own_instance s)))
      (change_sound s h (λ x. record x { status = Status.Finished }) (λ x. refl) (λ x k. tt) (own_instance s) refl)

  pub after_sound : (s : State) → IsSound g.code s → (result : Option ℕ) (mode : Mode) → Good (after_end s result mode)
  after_sound s h result Mode.Resumed = return_sound s h None
  after_sound s h result Mode.Plain = gives_sound s result (truth_value false) h
  after_sound s h result Mode.Ramp = gives_sound s result (truth_value false) h
  after_sound s h result (Mode.GivenRamp v) = gives_sound s result (truth_value false) h
  after_sound s h result (Mode.Entering from label) = gives_sound s result (truth_value false) h

  pub end_sound : (s : State) → IsSound g.code s → (result : Option ℕ) → Good (end_of s finish result)
  end_sound s h result = on s.top.has_left
    where
      on : (b : Bool) → Good (after_end (if b then s else finish s) result s.top.mode)
      on true = after_sound s h result s.top.mode
      on false = after_sound (finish s) (finish_sound s h) result s.top.mode

  -- ---- deallocation

  if_let_go_sound : (s : State) → IsSound g.code s → (o : Option (ℕ × Instance)) → ((z : ℕ × Instance) → o ≡ Some z → slice_get s.instances z.0 ≡ Some z.1) → IsSound g.code (if_let_go s o)
  if_let_go_sound s h None there = h
  if_let_go_sound s h (Some (i, x)) there = on (may_be_freed x)
    where
      on : (b : Bool) → IsSound g.code (if b then let_go s i x else s)
      on true = memory_sound g.code (with_instance s i (record x { freed = true })) _ (like_sound g.code s i x (record x { freed = true }) (there (i, x) refl) refl refl h)
      on false = h

  pub deallocate_sound : (s : State) → IsSound g.code s → (p : Value) → Good (deallocate s p)
  deallocate_sound s h p =
      let t = if_let_go s (instance_at s.instances p) in
      on_result (deallocated t.world.memory p) (λ memory. Ok (next (with_memory t memory)))
      (λ memory e. next_sound (with_memory t memory) (memory_sound g.code t memory (if_let_go_sound s h (instance_at s.instances p) (λ z d. instance_there s.instances p z.0 z.1 d))))
