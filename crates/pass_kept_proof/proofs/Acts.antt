-- Actions lead from related states to related ones.
use Rattle.std.proofs.Common.{◌≡◌, ℕ, ◌+◌, inl, inr, Bool, true, false, List, [], ◌∷◌, length, Option, Some, None, Result, Ok, Err, refl, sym, ap, ◌∙◌, subst}
use Rattle.std.specs.Prelude.{IsFalse, IsTrue, find, if◌then◌else◌, is_none, not, option_map, slice_get, slice_set, unwrap_or, ◌&&◌, ◌==◌, ◌||◌}
use Rattle.std.specs.List.{list_all}
use Rattle.pass_kept_proof.specs.SuspendRules.{IsCallAt, KeepsNeeded}
use Rattle.pass_kept_proof.specs.Kept.{Keep, continue_keeping, kept}
use Rattle.pass_kept_proof.specs.Needed.{IsNeededBehind, IsNeededOn, IsReached, label_of_block, phis_at, phis_give, phis_read}
use Rattle.pass_kept_proof.proofs.Same.{SameOn, kept_at, kept_wide, same_all, same_less, same_result}
use Rattle.pass_kept_proof.proofs.Related.{AreBelow, AreFound, AreInstances, Goes, IsInstance, IsStatus, Needs, Related, Wants, at_found, below_length, entered, finished_same, found_goes, gives_related, instances_length, instances_push, instances_set, like, needs_all, ok_goes, own_found, suspended_same, then_same}
use Rattle.run_memory.specs.Memory.{killed, own}
use Rattle.run_memory.specs.declared.block.Kind.{Kind}
use Rattle.run_memory.specs.declared.block.MemoryBlock.{MemoryBlock}
use Rattle.run_memory.specs.declared.pointer.Pointer.{Pointer}
use Rattle.run_memory.specs.declared.pointer.Value.{Value}
use Rattle.ir_base.specs.declared.cause.Cause.{Cause}
use Rattle.run_source.specs.Source.{Sleeper, after_end, begin, begun, branch_leaving, change_own, continue, deallocate, destroy, done_at, end_of, enter, finish, frame_address, frame_of_promise, go_to, has_promise_at, if_let_go, is_among, is_live_at, is_over, is_save, kill_late, left_windows, let_go, may_be_freed, may_leave, new_slot, pop, promise, promise_block, promise_of_frame, push, release, resume, resumed, returned, save_for, sleeper_at, sleeper_of, slots_of, with_new_slots}
use Rattle.run_source.specs.State.{frame_address_of, function_of, gives, instance_at, is_finished, is_suspended, next, own_facts, own_frame, own_instance, with_instance, with_left, with_memory, with_status}
use Rattle.run_source.specs.declared.state.Activation.{Activation}
use Rattle.run_source.specs.declared.state.Instance.{Instance}
use Rattle.run_source.specs.declared.state.Mode.{Mode}
use Rattle.run_source.specs.declared.state.State.{State}
use Rattle.run_source.specs.declared.state.Status.{Status}
use Rattle.ir_model.specs.Names.{function_at, position_of}
use Rattle.ir_model.specs.declared.module.Function.{Function}
use Rattle.ir_model.specs.declared.operand.Intrinsic.{Intrinsic}
use Rattle.ir_model.specs.declared.operand.Operand.{Operand}
use Rattle.ir_paths.specs.Windows.{destroy_label, resume_label}
use Rattle.ir_paths.specs.declared.point.Point.{Point}
use Rattle.ir_paths.specs.declared.point.Window.{Window}
use Rattle.run_step.specs.Results.{and_then, found, ok_if}
use Rattle.run_step.specs.Step.{block_of, deallocated, outcome_of, without_slots}
use Rattle.run_step.specs.Values.{Env, pointer_to, truth_value, with_result}
use Rattle.run_step.specs.declared.world.Slot.{Slot}
use Rattle.run_source.specs.run_source_tables.Given.{Given, has_final, is_final, is_true}

-- ---- results in sequence

ok_then : (g : Given) (b b' : Bool) (cause : Cause) (s t : State) (k k' : State → Result State Cause) → b' ≡ b → Goes g (k s) (k' t) → Goes g (and_then (ok_if b cause s) k) (and_then (ok_if b' cause t) k')
ok_then g b b' cause s t k k' e h = subst (λ c. Goes g (and_then (ok_if b cause s) k) (and_then (ok_if c cause t) k')) (sym e) (on b)
  where
    on : (b : Bool) → Goes g (and_then (ok_if b cause s) k) (and_then (ok_if b cause t) k')
    on true = h
    on false = tt

then_then : (g : Given) {A : Type 0} (r : Result A Cause) (f f' : A → Result State Cause) (k k' : State → Result State Cause) → ((a : A) → Goes g (and_then (f a) k) (and_then (f' a) k')) → Goes g (and_then (and_then r f) k) (and_then (and_then r f') k')
then_then g (Err cause) f f' k k' h = tt
then_then g (Ok a) f f' k k' h = h a

found_then : (g : Given) (cause : Cause) (xs : List Instance) (o o' : Option (ℕ × Instance)) (f f' : ℕ × Instance → Result State Cause) (k k' : State → Result State Cause) → AreFound g xs o o' → ((i : ℕ) (x : Instance) (t : Status) → slice_get xs i ≡ Some x → IsStatus (function_at g.code x.coroutine) x.status t → Goes g (and_then (f (i, x)) k) (and_then (f' (i, record x { status = t })) k')) → Goes g (and_then (and_then (found cause o) f) k) (and_then (and_then (found cause o') f') k')
found_then g cause xs None o' f f' k k' a h = tt
found_then g cause xs (Some p) None f f' k k' a h = absurd a
found_then g cause xs (Some p) (Some q) f f' k k' a h = subst (λ (z : ℕ × Instance). Goes g (and_then (f p) k) (and_then (f' z) k')) (sym a.1) (h p.0 p.1 a.0 a.3 a.2)

-- an instance with the status of another and a change of the rest
instance_is : (g : Given) (x : Instance) (t : Status) → IsStatus (function_at g.code x.coroutine) x.status t → IsInstance g x (record x { status = t })
instance_is g x t h = (t, refl, h)

abbrev promise_in : Given → Option (ℕ × Instance) → Result Value Cause
promise_in g o = and_then (found Cause.Frame o) (λ (i, x). and_then (found Cause.Promise (promise_block g x)) (λ b. ok_if (not (is_finished x.status || x.freed)) Cause.Dead (pointer_to b)))

promise_in_same : (g : Given) (xs : List Instance) (o o' : Option (ℕ × Instance)) → AreFound g xs o o' → promise_in g o' ≡ promise_in g o
promise_in_same g xs None None a = refl
promise_in_same g xs None (Some q) a = absurd a
promise_in_same g xs (Some p) None a = absurd a
promise_in_same g xs (Some p) (Some q) a =
    ap (λ (z : ℕ × Instance). promise_in g (Some z)) a.1
    ∙ ap (λ (c : Bool). and_then (found Cause.Promise (promise_block g p.1)) (λ b. ok_if (not (c || p.1.freed)) Cause.Dead (pointer_to b))) (finished_same (function_at g.code p.1.coroutine) p.1.status a.0 a.2)

find_pick : (b b' : Bool) (x z : Instance) (o o' : Option Instance) → b' ≡ b → frame_address_of z ≡ frame_address_of x → option_map frame_address_of o' ≡ option_map frame_address_of o → option_map frame_address_of (if b' then Some z else o') ≡ option_map frame_address_of (if b then Some x else o)
find_pick b b' x z o o' e k h = subst (λ (c : Bool). option_map frame_address_of (if c then Some z else o') ≡ option_map frame_address_of (if b then Some x else o)) (sym e) (on b)
  where
    on : (b : Bool) → option_map frame_address_of (if b then Some z else o') ≡ option_map frame_address_of (if b then Some x else o)
    on true = ap Some k
    on false = h

find_same : (g : Given) (b : ℕ) (xs zs : List Instance) → AreInstances g xs zs → option_map frame_address_of (find (has_promise_at g b) zs) ≡ option_map frame_address_of (find (has_promise_at g b) xs)
find_same g b [] [] h = refl
find_same g b [] (z ∷ zs) h = absurd h
find_same g b (x ∷ xs) [] h = absurd h
find_same g b (x ∷ xs) (z ∷ zs) h = find_pick (has_promise_at g b x) (has_promise_at g b z) x z _ _ (ap (has_promise_at g b) h.0.1) (ap frame_address_of h.0.1) (find_same g b xs zs h.1)

found_address : (live : Bool) (o o' : Option Instance) → option_map frame_address_of o' ≡ option_map frame_address_of o → and_then (found Cause.Promise o') (λ x. ok_if live Cause.Promise (frame_address_of x)) ≡ and_then (found Cause.Promise o) (λ x. ok_if live Cause.Promise (frame_address_of x))
found_address live o o' e = by o' ∙ ap (λ (v : Option Value). and_then (found Cause.Promise v) (λ a. ok_if live Cause.Promise a)) e ∙ sym (by o)
  where
    by : (o : Option Instance) → and_then (found Cause.Promise o) (λ x. ok_if live Cause.Promise (frame_address_of x)) ≡ and_then (found Cause.Promise (option_map frame_address_of o)) (λ a. ok_if live Cause.Promise a)
    by None = refl
    by (Some x) = refl

module _ (g : Given) (s : State) (ws : Env) (bs : List Activation) (ys : List Instance) (same : SameOn (Wants g s.top) s.top.values ws) (acts : AreBelow g s.top.result s.below bs) (insts : AreInstances g s.instances ys) where
  -- ---- slots
  pub new_slots_related : (ramp : List ℕ) (o o' : Option (ℕ × Instance)) (slots : List Slot) → AreFound g s.instances o o' → Related g (with_new_slots ramp o s slots) (with_new_slots ramp o' (like s ws bs ys) slots)
  new_slots_related ramp None None slots a = record { values = ws; below = bs; instances = ys; is = refl; same = same; acts = acts; insts = insts }
  new_slots_related ramp None (Some q) slots a = absurd a
  new_slots_related ramp (Some p) None slots a = absurd a
  new_slots_related ramp (Some p) (Some q) slots a =
      subst (λ (z : ℕ × Instance). Related g (with_new_slots ramp (Some p) s slots) (with_new_slots ramp (Some z) (like s ws bs ys) slots)) (sym a.1)
      (record { values = ws; below = bs; instances = _; is = refl; same = same; acts = acts; insts = instances_set g s.instances ys p.0 _ _ insts (instance_is g (record p.1 { slots = _ }) a.0 a.2) })

  -- ---- returns
  pub pop_goes : (v : Option Value) (below bs' : List Activation) → AreBelow g s.top.result below bs' → Goes g (pop s v below) (pop (like s ws bs ys) v bs')
  pop_goes v [] [] h = then_same g (outcome_of v) _ _ (λ outcome. record { values = ws; below = bs; instances = ys; is = refl; same = same; acts = acts; insts = insts })
  pop_goes v [] (b ∷ bs') h = absurd h
  pop_goes v (a ∷ below) [] h = absurd h
  pop_goes v (a ∷ below) (b ∷ bs') h = record {
    values = with_result h.0.0 s.top.result (unwrap_or v Value.Poison);
    below = bs';
    instances = ys;
    is = ap (λ (z : Activation). record s { instances = ys; top = record z { values = with_result z.values s.top.result (unwrap_or v Value.Poison) }; below = bs' }) h.0.1;
    same = same_result _ _ a.values h.0.0 s.top.result (unwrap_or v Value.Poison) h.0.2 (λ v p ne. (p, ne));
    acts = h.1;
    insts = insts;
  }

  -- ---- saves
  -- a state in which an instance is suspended with the values of the activation
  pub save_then : (save_point suspend_point : Point) (result : Option ℕ) (x : Value) → ((i : ℕ) (y : Instance) → own_instance s ≡ Some (i, y) → y.coroutine ≡ s.top.func) → ((v : ℕ) → IsNeededBehind (function_of g s) suspend_point v → Wants g s.top v) → ((v : ℕ) → Needs s.top.mode (function_of g s) s.top.block (s.top.at + 1) v → (result ≡ Some v → ⊥) → Wants g s.top v) → Goes g (and_then (save_for s save_point suspend_point) (λ u. Ok (gives u result x))) (and_then (save_for (like s ws bs ys) save_point suspend_point) (λ u. Ok (gives u result x)))
  save_then save_point suspend_point result x own enough nx = on (own_instance s) (own_instance (like s ws bs ys)) own (own_found g s ws bs ys insts)
    where
      on : (o o' : Option (ℕ × Instance)) → ((i : ℕ) (y : Instance) → o ≡ Some (i, y) → y.coroutine ≡ s.top.func) → AreFound g s.instances o o' → Goes g (and_then (and_then (found Cause.State o) (λ p. ok_if (not p.1.freed) Cause.State (with_left (with_instance s p.0 (record p.1 { status = Status.Suspended suspend_point s.top.values; last_save = Some (record { depth = length s.below; save = save_point }) })) true))) (λ u. Ok (gives u result x))) (and_then (and_then (found Cause.State o') (λ p. ok_if (not p.1.freed) Cause.State (with_left (with_instance (like s ws bs ys) p.0 (record p.1 { status = Status.Suspended suspend_point ws; last_save = Some (record { depth = length bs; save = save_point }) })) true))) (λ u. Ok (gives u result x)))
      on None o' own a = tt
      on (Some p) None own a = absurd a
      on (Some p) (Some q) own a =
          let e : q ≡ (p.0, record p.1 { status = a.0 }) = a.1 in
          let f : function_at g.code p.1.coroutine ≡ function_of g s = ap (function_at g.code) (own p.0 p.1 refl) in
          let depth : length bs ≡ length s.below = below_length g s.top.result s.below bs acts in
          let kept_ones : SameOn (λ v. IsNeededBehind (function_at g.code p.1.coroutine) suspend_point v) s.top.values ws = same_less _ _ s.top.values ws same (λ v n. enough v (subst (λ (h : Function). IsNeededBehind h suspend_point v) f n)) in
          subst (λ (z : ℕ × Instance). Goes g (and_then (ok_if (not p.1.freed) Cause.State (with_left (with_instance s p.0 (record p.1 { status = Status.Suspended suspend_point s.top.values; last_save = Some (record { depth = length s.below; save = save_point }) })) true)) (λ u. Ok (gives u result x))) (and_then (ok_if (not z.1.freed) Cause.State (with_left (with_instance (like s ws bs ys) z.0 (record z.1 { status = Status.Suspended suspend_point ws; last_save = Some (record { depth = length bs; save = save_point }) })) true)) (λ u. Ok (gives u result x)))) (sym e)
          (subst (λ (d : ℕ). Goes g (and_then (ok_if (not p.1.freed) Cause.State (with_left (with_instance s p.0 (record p.1 { status = Status.Suspended suspend_point s.top.values; last_save = Some (record { depth = length s.below; save = save_point }) })) true)) (λ u. Ok (gives u result x))) (and_then (ok_if (not p.1.freed) Cause.State (with_left (with_instance (like s ws bs ys) p.0 (record p.1 { status = Status.Suspended suspend_point ws; last_save = Some (record { depth = d; save = save_point }) })) true)) (λ u. Ok (gives u result x)))) (sym depth)
          (ok_then g (not p.1.freed) (not p.1.freed) Cause.State _ _ _ _ refl
          (record {
            values = with_result ws result x;
            below = bs;
            instances = _;
            is = refl;
            same = same_result _ _ s.top.values ws result x same nx;
            acts = acts;
            insts = instances_set g s.instances ys p.0 _ _ insts (Status.Suspended suspend_point ws, refl, (ws, refl, kept_ones));
          })))

  -- ---- branches
  may_leave_same : (x : Instance) (u : Status) (windows : List Window) → IsStatus (function_at g.code x.coroutine) x.status u → list_all (may_leave (length bs) (record x { status = u })) windows ≡ list_all (may_leave (length s.below) x) windows
  may_leave_same x u windows h =
      let e : is_suspended u ≡ is_suspended x.status = suspended_same (function_at g.code x.coroutine) x.status u h in
      let d : length bs ≡ length s.below = below_length g s.top.result s.below bs acts in
      λ i. list_all (λ (w : Window). e i && is_save (d i) w.save x.last_save) windows

  pub go_to_goes : (label : ℕ) → ((v : ℕ) → IsTrue (phis_read v (label_of_block (function_of g s) s.top.block) (phis_at (function_of g s) label)) → Wants g s.top v) → ((v : ℕ) → Needs s.top.mode (function_of g s) (position_of (function_of g s) label) 0 v → IsFalse (phis_give v (phis_at (function_of g s) label)) → Wants g s.top v) → Goes g (go_to g s label) (go_to g (like s ws bs ys) label)
  go_to_goes label rd nx = on (left_windows g s label)
    where
      on : (windows : List Window) → Goes g (branch_leaving g s label windows) (branch_leaving g (like s ws bs ys) label windows)
      on [] = entered g s ws bs ys (Wants g s.top) same acts insts label rd nx
      on (w ∷ windows) = found_goes g Cause.State s.instances (own_instance s) (own_instance (like s ws bs ys)) _ _ (own_found g s ws bs ys insts)
          (λ i x u e h. ok_goes g (list_all (may_leave (length s.below) x) (w ∷ windows)) (list_all (may_leave (length bs) (record x { status = u })) (w ∷ windows)) Cause.State _ _ (may_leave_same x u (w ∷ windows) h)
          (entered g (with_left (with_status s i x Status.Running) false) ws bs (slice_set ys i (record x { status = Status.Running })) (Wants g s.top) same acts (instances_set g s.instances ys i _ _ insts (Status.Running, refl, refl)) label rd nx))

  -- ---- calls
  pub enter_related : (func : ℕ) (args : List Value) (result : Option ℕ) → SameOn (λ v. Needs s.top.mode (function_of g s) s.top.block (s.top.at + 1) v × (result ≡ Some v → ⊥)) s.top.values ws → Related g (enter g s func args result) (enter g (like s ws bs ys) func args result)
  enter_related func args result k = record {
    values = _;
    below = record s.top { at = s.top.at + 1; values = ws } ∷ bs;
    instances = ys;
    is = refl;
    same = same_all _ _;
    acts = ((ws, refl, k), acts);
    insts = insts;
  }

  -- ---- begin
  begun_related : (memory : List MemoryBlock) (b : ℕ) (result : Option ℕ) (mem : Value) (n : ℕ) → n ≡ length s.instances → ((v : ℕ) → Needs s.top.mode (function_of g s) s.top.block (s.top.at + 1) v → (result ≡ Some v → ⊥) → Wants g s.top v) → length ys ≡ length s.instances → Related g (gives (begun g (with_memory s memory) b 0) result mem) (gives (begun g (with_memory (like s ws bs ys) memory) b 0) result mem)
  begun_related memory b result mem n en nx len = rw len (record {
    values = with_result ws result mem;
    below = bs;
    instances = _;
    is = refl;
    same = same_result _ _ s.top.values ws result mem same nx;
    acts = acts;
    insts = instances_set g _ _ (length s.instances) _ _ (instances_push g s.instances ys _ _ insts (Status.Running, refl, refl)) (Status.Running, refl, refl);
  })

  pub begin_goes : (result : Option ℕ) (mem : Value) → ((v : ℕ) → Needs s.top.mode (function_of g s) s.top.block (s.top.at + 1) v → (result ≡ Some v → ⊥) → Wants g s.top v) → Goes g (begin g s result mem) (begin g (like s ws bs ys) result mem)
  begin_goes result mem nx =
      ok_then g (is_none s.top.instance) (is_none s.top.instance) Cause.Begin _ _ _ _ refl
      (then_then g (own s.world.memory mem (own_frame g s).size Kind.Allocator) _ _ _ _ (λ memory.
      then_then g (found Cause.Begin (block_of mem)) _ _ _ _ (λ b.
      begun_related memory b result mem (length s.instances) refl nx (instances_length g s.instances ys insts))))

  -- ---- the instance's frame address, free and end
  address_same : (o o' : Option (ℕ × Instance)) → AreFound g s.instances o o' → frame_address o' ≡ frame_address o
  address_same None None a = refl
  address_same None (Some q) a = absurd a
  address_same (Some p) None a = absurd a
  address_same (Some p) (Some q) a = ap (λ (z : ℕ × Instance). frame_address (Some z)) a.1

  pub frame_related : (result : Option ℕ) → ((v : ℕ) → Needs s.top.mode (function_of g s) s.top.block (s.top.at + 1) v → (result ≡ Some v → ⊥) → Wants g s.top v) → Related g (gives s result (frame_address (own_instance s))) (gives (like s ws bs ys) result (frame_address (own_instance (like s ws bs ys))))
  frame_related result nx =
      subst (λ (z : Value). Related g (gives s result (frame_address (own_instance s))) (gives (like s ws bs ys) result z)) (sym (address_same (own_instance s) (own_instance (like s ws bs ys)) (own_found g s ws bs ys insts)))
      (gives_related g s ws bs ys (Wants g s.top) same acts insts result _ nx)

  pub free_related : (result : Option ℕ) → ((v : ℕ) → Needs s.top.mode (function_of g s) s.top.block (s.top.at + 1) v → (result ≡ Some v → ⊥) → Wants g s.top v) → Related g (gives (release s) result (frame_address (own_instance s))) (gives (release (like s ws bs ys)) result (frame_address (own_instance (like s ws bs ys))))
  free_related result nx = on (own_instance s) (own_instance (like s ws bs ys)) (own_found g s ws bs ys insts)
    where
      on : (o o' : Option (ℕ × Instance)) → AreFound g s.instances o o' → Related g (gives (change_own s (λ x. record x { released = true }) o) result (frame_address o)) (gives (change_own (like s ws bs ys) (λ x. record x { released = true }) o') result (frame_address o'))
      on None None a = gives_related g s ws bs ys (Wants g s.top) same acts insts result _ nx
      on None (Some q) a = absurd a
      on (Some p) None a = absurd a
      on (Some p) (Some q) a =
          subst (λ (z : ℕ × Instance). Related g (gives (with_instance s p.0 (record p.1 { released = true })) result (frame_address_of p.1)) (gives (with_instance (like s ws bs ys) z.0 (record z.1 { released = true })) result (frame_address_of z.1))) (sym a.1)
          (gives_related g (with_instance s p.0 (record p.1 { released = true })) ws bs (slice_set ys p.0 (record p.1 { released = true; status = a.0 })) (Wants g s.top) same acts (instances_set g s.instances ys p.0 _ _ insts (a.0, refl, a.2)) result _ nx)

  finish_related : Related g (finish s) (finish (like s ws bs ys))
  finish_related = on (own_instance s) (own_instance (like s ws bs ys)) (own_found g s ws bs ys insts)
    where
      on : (o o' : Option (ℕ × Instance)) → AreFound g s.instances o o' → Related g (with_memory (change_own s (λ x. record x { status = Status.Finished }) o) (without_slots s.world.memory (slots_of o))) (with_memory (change_own (like s ws bs ys) (λ x. record x { status = Status.Finished }) o') (without_slots s.world.memory (slots_of o')))
      on None None a = record { values = ws; below = bs; instances = ys; is = refl; same = same; acts = acts; insts = insts }
      on None (Some q) a = absurd a
      on (Some p) None a = absurd a
      on (Some p) (Some q) a =
          subst (λ (z : ℕ × Instance). Related g (with_memory (change_own s (λ x. record x { status = Status.Finished }) (Some p)) (without_slots s.world.memory (slots_of (Some p)))) (with_memory (change_own (like s ws bs ys) (λ x. record x { status = Status.Finished }) (Some z)) (without_slots s.world.memory (slots_of (Some z))))) (sym a.1)
          (record { values = ws; below = bs; instances = _; is = refl; same = same; acts = acts; insts = instances_set g s.instances ys p.0 _ _ insts (Status.Finished, refl, refl) })

  -- ---- resumes
  pub suspended_goes : (p : Value) (go go' : Sleeper → Result State Cause) → ((i : ℕ) (x : Instance) (u : Status) (at : Point) (vs us : Env) → slice_get s.instances i ≡ Some x → x.status ≡ Status.Suspended at vs → IsStatus (function_at g.code x.coroutine) x.status u → SameOn (λ v. IsNeededBehind (function_at g.code x.coroutine) at v) vs us → Goes g (go (record { number = i; instance = x; suspend = at; values = vs })) (go' (record { number = i; instance = record x { status = u }; suspend = at; values = us }))) → Goes g (and_then (sleeper_at s p) go) (and_then (sleeper_at (like s ws bs ys) p) go')
  suspended_goes p go go' h = on (instance_at s.instances p) (instance_at ys p) (at_found g s.instances ys p insts)
    where
      by : (i : ℕ) (x : Instance) (u : Status) → slice_get s.instances i ≡ Some x → IsStatus (function_at g.code x.coroutine) x.status u → (r : Status) → x.status ≡ r → IsStatus (function_at g.code x.coroutine) r u → Goes g (and_then (sleeper_of i x r) go) (and_then (sleeper_of i (record x { status = u }) u) go')
      by i x u e k Status.Running er kr = tt
      by i x u e k (Status.Suspended at vs) er kr =
          subst (λ (z : Status). Goes g (go (record { number = i; instance = x; suspend = at; values = vs })) (and_then (sleeper_of i (record x { status = u }) z) go')) (sym kr.1) (h i x u at vs kr.0 e er k kr.2)
      by i x u e k Status.Finished er kr = tt

      asleep : Option (ℕ × Instance) → Result Sleeper Cause
      asleep o = and_then (found Cause.Frame o) (λ (i, x). sleeper_of i x x.status)

      on : (o o' : Option (ℕ × Instance)) → AreFound g s.instances o o' → Goes g (and_then (asleep o) go) (and_then (asleep o') go')
      on None o' a = tt
      on (Some z) None a = absurd a
      on (Some z) (Some q) a =
          subst (λ (y : ℕ × Instance). Goes g (and_then (asleep (Some z)) go) (and_then (asleep (Some y)) go')) (sym a.1) (by z.0 z.1 a.0 a.3 a.2 z.1.status refl a.2)

  pub done_goes : (result : Option ℕ) (p : Value) → ((v : ℕ) → Needs s.top.mode (function_of g s) s.top.block (s.top.at + 1) v → (result ≡ Some v → ⊥) → Wants g s.top v) → Goes g (done_at g s result p) (done_at g (like s ws bs ys) result p)
  done_goes result p nx = suspended_goes p _ _ (λ i x u at vs us e er k q. ok_goes g (has_final (function_at g.code x.coroutine)) _ Cause.State _ _ refl (gives_related g s ws bs ys (Wants g s.top) same acts insts result _ nx))

  continued : (keep : Keep) (i : ℕ) (x : Instance) (u : Status) (at : Point) (vs us : Env) (label : ℕ) → KeepsNeeded g.code keep → IsReached (function_at g.code x.coroutine) at.block at.at → IsCallAt Intrinsic.CoroSuspend (function_at g.code x.coroutine) at → SameOn (λ v. IsNeededBehind (function_at g.code x.coroutine) at v) vs us → ((v : ℕ) → IsNeededOn (function_at g.code x.coroutine) v at.block label → IsNeededBehind (function_at g.code x.coroutine) at v) → ((v : ℕ) → Needs s.top.mode (function_of g s) s.top.block (s.top.at + 1) v → Wants g s.top v) → Related g (continue g s i x at vs label) (continue_keeping g keep (like s ws bs ys) i (record x { status = u }) at us label)
  continued keep i x u at vs us label keeps reached stands q on_edge nx =
      entered g (push (with_status s i x Status.Running) (resumed i x at vs)) (kept (keep x.coroutine at) us) (record s.top { at = s.top.at + 1; values = ws } ∷ bs) (slice_set ys i (record x { status = Status.Running })) (λ v. IsNeededOn (function_at g.code x.coroutine) v at.block label)
      (record {
        each = λ v n. kept_at (keep x.coroutine at) us v (keeps x.coroutine at v reached stands (on_edge v n)) ∙ q.each v (on_edge v n);
        wide = kept_wide (keep x.coroutine at) us ∙ q.wide;
      })
      ((ws, refl, same_less _ _ s.top.values ws same (λ v p. nx v p.0)), acts)
      (instances_set g s.instances ys i _ _ insts (Status.Running, refl, refl))
      label
      (λ v h. inl h)
      (λ v n h. inr (h, n))

  module _ (keep : Keep) (keeps : KeepsNeeded g.code keep) (reached : (i : ℕ) (x : Instance) (at : Point) (vs : Env) → slice_get s.instances i ≡ Some x → x.status ≡ Status.Suspended at vs → IsReached (function_at g.code x.coroutine) at.block at.at × IsCallAt Intrinsic.CoroSuspend (function_at g.code x.coroutine) at) (nx : (v : ℕ) → Needs s.top.mode (function_of g s) s.top.block (s.top.at + 1) v → Wants g s.top v) where
    pub resume_goes : (p : Value) → Goes g (resume g (continue g) s p) (resume g (continue_keeping g keep) (like s ws bs ys) p)
    resume_goes p = suspended_goes p _ _ (λ i x u at vs us e er k q. ok_goes g (not (is_final (function_at g.code x.coroutine) at)) _ Cause.State _ _ refl (continued keep i x u at vs us (resume_label (function_at g.code x.coroutine) at) keeps (reached i x at vs e er).0 (reached i x at vs e er).1 q (λ v n. inl n) nx))

    pub destroy_goes : (p : Value) → Goes g (destroy g (continue g) s p) (destroy g (continue_keeping g keep) (like s ws bs ys) p)
    destroy_goes p = suspended_goes p _ _ (λ i x u at vs us e er k q. continued keep i x u at vs us (destroy_label (function_at g.code x.coroutine) at) keeps (reached i x at vs e er).0 (reached i x at vs e er).1 q (λ v n. inr n) nx)

  -- ---- the promise
  frame_of_promise_same : (p : Value) → frame_of_promise g (like s ws bs ys) p ≡ frame_of_promise g s p
  frame_of_promise_same (Value.Ptr (Pointer.At b offset)) = on (offset.bits == 0)
    where
      on : (c : Bool) → and_then (found Cause.Promise (if c then find (has_promise_at g b) ys else None)) (λ x. ok_if (is_live_at s.world.memory b) Cause.Promise (frame_address_of x)) ≡ and_then (found Cause.Promise (if c then find (has_promise_at g b) s.instances else None)) (λ x. ok_if (is_live_at s.world.memory b) Cause.Promise (frame_address_of x))
      on true = found_address (is_live_at s.world.memory b) (find (has_promise_at g b) s.instances) (find (has_promise_at g b) ys) (find_same g b s.instances ys insts)
      on false = refl
  frame_of_promise_same p = refl

  promise_same : (p : Value) (from : Operand) → promise g (like s ws bs ys) p from ≡ promise g s p from
  promise_same p from =
      let e : frame_of_promise g (like s ws bs ys) p ≡ frame_of_promise g s p = frame_of_promise_same p in
      let k : promise_of_frame g (like s ws bs ys) p ≡ promise_of_frame g s p = promise_in_same g s.instances (instance_at s.instances p) (instance_at ys p) (at_found g s.instances ys p insts) in
      λ i. if is_true from then e i else k i

  pub promise_goes : (p : Value) (from : Operand) (result : Option ℕ) → ((v : ℕ) → Needs s.top.mode (function_of g s) s.top.block (s.top.at + 1) v → (result ≡ Some v → ⊥) → Wants g s.top v) → Goes g (and_then (promise g s p from) (λ v. Ok (gives s result v))) (and_then (promise g (like s ws bs ys) p from) (λ v. Ok (gives (like s ws bs ys) result v)))
  promise_goes p from result nx =
      subst (λ (r : Result Value Cause). Goes g (and_then (promise g s p from) (λ v. Ok (gives s result v))) (and_then r (λ v. Ok (gives (like s ws bs ys) result v)))) (sym (promise_same p from))
      (then_same g (promise g s p from) _ _ (λ v. gives_related g s ws bs ys (Wants g s.top) same acts insts result v nx))

  -- ---- deallocation
  pub deallocate_goes : (p : Value) → SameOn (λ v. Needs s.top.mode (function_of g s) s.top.block (s.top.at + 1) v) s.top.values ws → Goes g (deallocate s p) (deallocate (like s ws bs ys) p)
  deallocate_goes p later = on (instance_at s.instances p) (instance_at ys p) (at_found g s.instances ys p insts)
    where
      unowned : Goes g (and_then (deallocated s.world.memory p) (λ memory. Ok (next (with_memory s memory)))) (and_then (deallocated s.world.memory p) (λ memory. Ok (next (with_memory (like s ws bs ys) memory))))
      unowned = then_same g (deallocated s.world.memory p) _ _ (λ memory. record { values = ws; below = bs; instances = ys; is = refl; same = later; acts = acts; insts = insts })

      owned : (i : ℕ) (x : Instance) (u : Status) → IsStatus (function_at g.code x.coroutine) x.status u → Goes g (and_then (deallocated (let_go s i x).world.memory p) (λ memory. Ok (next (with_memory (let_go s i x) memory)))) (and_then (deallocated (let_go s i x).world.memory p) (λ memory. Ok (next (with_memory (let_go (like s ws bs ys) i (record x { status = u })) memory))))
      owned i x u h = then_same g (deallocated (let_go s i x).world.memory p) _ _ (λ memory. record { values = ws; below = bs; instances = _; is = refl; same = later; acts = acts; insts = instances_set g s.instances ys i _ _ insts (u, refl, h) })

      choose : (b b' : Bool) (i : ℕ) (x : Instance) (u : Status) → b' ≡ b → IsStatus (function_at g.code x.coroutine) x.status u → Goes g (and_then (deallocated (if b then let_go s i x else s).world.memory p) (λ memory. Ok (next (with_memory (if b then let_go s i x else s) memory)))) (and_then (deallocated (if b' then let_go (like s ws bs ys) i (record x { status = u }) else like s ws bs ys).world.memory p) (λ memory. Ok (next (with_memory (if b' then let_go (like s ws bs ys) i (record x { status = u }) else like s ws bs ys) memory))))
      choose true true i x u e h = owned i x u h
      choose false false i x u e h = unowned
      choose true false i x u e h = absurd (cc)
      choose false true i x u e h = absurd (cc)

      on : (o o' : Option (ℕ × Instance)) → AreFound g s.instances o o' → Goes g (and_then (deallocated (if_let_go s o).world.memory p) (λ memory. Ok (next (with_memory (if_let_go s o) memory)))) (and_then (deallocated (if_let_go (like s ws bs ys) o').world.memory p) (λ memory. Ok (next (with_memory (if_let_go (like s ws bs ys) o') memory))))
      on None None a = unowned
      on None (Some q) a = absurd a
      on (Some z) None a = absurd a
      on (Some z) (Some q) a =
          subst (λ (y : ℕ × Instance). Goes g (and_then (deallocated (if_let_go s (Some z)).world.memory p) (λ memory. Ok (next (with_memory (if_let_go s (Some z)) memory)))) (and_then (deallocated (if_let_go (like s ws bs ys) (Some y)).world.memory p) (λ memory. Ok (next (with_memory (if_let_go (like s ws bs ys) (Some y)) memory))))) (sym a.1)
          (choose (may_be_freed z.1) (may_be_freed (record z.1 { status = a.0 })) z.0 z.1 a.0 (let e : is_suspended a.0 ≡ is_suspended z.1.status = suspended_same (function_at g.code z.1.coroutine) z.1.status a.0 a.2 in λ i. z.1.released && not (e i)) a.2)

-- ---- end

change_top : (s : State) (f : Instance → Instance) (o : Option (ℕ × Instance)) → (change_own s f o).top ≡ s.top
change_top s f None = refl
change_top s f (Some p) = refl

after_goes : (g : Given) (s t : State) (result : Option ℕ) (mode : Mode) → Related g s t → s.top.mode ≡ mode → Goes g (after_end s result mode) (after_end t result mode)
after_goes g s t result mode r e =
    subst (λ (z : State). Goes g (after_end s result mode) (after_end z result mode)) (sym r.is) (on mode e)
  where
    goes_on : (mode : Mode) → (mode ≡ Mode.Resumed → ⊥) → s.top.mode ≡ mode → Related g (gives s result (truth_value false)) (gives (like s r.values r.below r.instances) result (truth_value false))
    goes_on mode ne e = gives_related g s r.values r.below r.instances (Wants g s.top) r.same r.acts r.insts result (truth_value false) (λ v n k. needs_all s.top.mode (function_of g s) s.top.block s.top.at v (λ h. ne (sym e ∙ h)))

    on : (mode : Mode) → s.top.mode ≡ mode → Goes g (after_end s result mode) (after_end (like s r.values r.below r.instances) result mode)
    on Mode.Resumed e = pop_goes g (returned s) r.values r.below r.instances r.same r.acts r.insts None s.below r.below r.acts
    on Mode.Plain e = goes_on Mode.Plain (λ h. absurd (cc)) e
    on Mode.Ramp e = goes_on Mode.Ramp (λ h. absurd (cc)) e
    on (Mode.GivenRamp v) e = goes_on (Mode.GivenRamp v) (λ h. absurd (cc)) e
    on (Mode.Entering a b) e = goes_on (Mode.Entering a b) (λ h. absurd (cc)) e

pub end_goes : (g : Given) (s : State) (ws : Env) (bs : List Activation) (ys : List Instance) → SameOn (Wants g s.top) s.top.values ws → AreBelow g s.top.result s.below bs → AreInstances g s.instances ys → (result : Option ℕ) → Goes g (end_of s finish result) (end_of (like s ws bs ys) finish result)
end_goes g s ws bs ys same acts insts result = choose s.top.has_left
  where
    choose : (b : Bool) → Goes g (after_end (if b then s else finish s) result s.top.mode) (after_end (if b then like s ws bs ys else finish (like s ws bs ys)) result s.top.mode)
    choose true = after_goes g s (like s ws bs ys) result s.top.mode (record { values = ws; below = bs; instances = ys; is = refl; same = same; acts = acts; insts = insts }) refl
    choose false =
        let e : (finish s).top ≡ s.top = change_top s (λ x. record x { status = Status.Finished }) (own_instance s) in
        after_goes g (finish s) (finish (like s ws bs ys)) result s.top.mode (finish_related g s ws bs ys same acts insts) (ap (λ (a : Activation). a.mode) e)

-- ---- slots that come late

pub new_slot_related : (g : Given) (s : State) (ws : Env) (bs : List Activation) (ys : List Instance) → SameOn (Wants g s.top) s.top.values ws → AreBelow g s.top.result s.below bs → AreInstances g s.instances ys → (slot : Slot) → Related g (new_slot g s slot) (new_slot g (like s ws bs ys) slot)
new_slot_related g s ws bs ys same acts insts slot = on (own_instance s) (own_instance (like s ws bs ys)) (own_found g s ws bs ys insts)
  where
    ramp : List ℕ
    ramp = (own_facts g s).ramp_slots

    late : State
    late = with_memory s (killed s.world.memory slot.block)

    choose : (p : ℕ × Instance) (u : Status) → IsStatus (function_at g.code p.1.coroutine) p.1.status u → slice_get s.instances p.0 ≡ Some p.1 → (b b' : Bool) → b' ≡ b → Related g (with_new_slots ramp (Some p) (if b then late else s) (slot ∷ [])) (with_new_slots ramp (Some (p.0, record p.1 { status = u })) (if b' then with_memory (like s ws bs ys) (killed s.world.memory slot.block) else like s ws bs ys) (slot ∷ []))
    choose p u k there true true e = new_slots_related g late ws bs ys same acts insts ramp (Some p) (Some (p.0, record p.1 { status = u })) (slot ∷ []) (u, refl, k, there)
    choose p u k there false false e = new_slots_related g s ws bs ys same acts insts ramp (Some p) (Some (p.0, record p.1 { status = u })) (slot ∷ []) (u, refl, k, there)
    choose p u k there true false e = absurd (cc)
    choose p u k there false true e = absurd (cc)

    on : (o o' : Option (ℕ × Instance)) → AreFound g s.instances o o' → Related g (with_new_slots ramp o (kill_late ramp o s slot) (slot ∷ [])) (with_new_slots ramp o' (kill_late ramp o' (like s ws bs ys) slot) (slot ∷ []))
    on None None a = new_slots_related g s ws bs ys same acts insts ramp None None (slot ∷ []) a
    on None (Some q) a = absurd a
    on (Some p) None a = absurd a
    on (Some p) (Some q) a =
        subst (λ (z : ℕ × Instance). Related g (with_new_slots ramp (Some p) (kill_late ramp (Some p) s slot) (slot ∷ [])) (with_new_slots ramp (Some z) (kill_late ramp (Some z) (like s ws bs ys) slot) (slot ∷ []))) (sym a.1)
        (choose p a.0 a.2 a.3 (is_over p.1 && not (is_among ramp slot)) (is_over (record p.1 { status = a.0 }) && not (is_among ramp slot))
        (let e : is_finished a.0 ≡ is_finished p.1.status = finished_same (function_at g.code p.1.coroutine) p.1.status a.0 a.2 in λ i. (e i || p.1.freed) && not (is_among ramp slot)))
