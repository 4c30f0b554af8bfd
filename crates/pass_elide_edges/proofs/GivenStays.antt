-- What was given behind a step was given before, or has just begun as a ramp that was given its frame.
use Rattle.std.proofs.Common.{◌≡◌, ◌≢◌, ◌⊎◌, inl, inr, ⊎_elim, ◌<◌, ◌≤◌, ℕ, Bool, true, false, not, List, [], ◌∷◌, ◌++◌, length, Result, Ok, Err, refl, sym, ap, ◌∙◌, subst, arith, if◌then◌else◌, ◌&&◌, ◌||◌, ◌==◌}
use Rattle.std.specs.List.{list_all}
use Rattle.std.specs.Option.{option_map_or}
use Rattle.std.specs.Prelude.{None, Option, Some, is_none, negsuc, slice_get, unwrap_or}
use Rattle.pass_elide_proof.proofs.Begins.{free_block}
use Rattle.pass_elide_proof.proofs.Begun.{end_or_before}
use Rattle.pass_elide_proof.proofs.ChangedBoth.{changed_many}
use Rattle.pass_elide_proof.proofs.Changing.{WasSet, was_set}
use Rattle.pass_elide_proof.proofs.LastFound.{found_there}
use Rattle.pass_elide_proof.proofs.ReleasedKinds.{KeepsKinds, KindsTo, actions_keep_kinds, kinds_block, kinds_deallocated, kinds_slots, kinds_then}
use Rattle.pass_elide_proof.proofs.Saves.{own_number}
use Rattle.pass_elide_edges.specs.States.{WasGivenAt, WereGiven}
use Rattle.pass_elide_proof.specs.Callers.{HaveBlocks}
use Rattle.pass_elide_proof.specs.Match.{is_given_mode}
use Rattle.pass_elide_proof.proofs.pass_proofs.ir_laws.facts.Lists.{get_last, get_within}
use Rattle.pass_elide_proof.proofs.pass_proofs.run_laws.access.Walk.{Comes}
use Rattle.pass_elide_proof.proofs.pass_proofs.run_laws.memory.Written.{changed_here}
use Rattle.pass_elide_proof.specs.pass_proofs.ir_base.declared.cause.Cause.{Cause}
use Rattle.pass_elide_proof.specs.pass_proofs.ir_base.declared.outcome.Outcome.{Outcome}
use Rattle.pass_elide_proof.specs.pass_proofs.ir_model.Names.{function_at}
use Rattle.pass_elide_proof.specs.pass_proofs.ir_model.declared.instr.Instr.{Instr}
use Rattle.pass_elide_proof.specs.pass_proofs.ir_model.declared.operand.Arg.{Arg}
use Rattle.pass_elide_proof.specs.pass_proofs.ir_model.declared.operand.Callee.{Callee}
use Rattle.pass_elide_proof.specs.pass_proofs.ir_model.declared.operand.Intrinsic.{Intrinsic}
use Rattle.pass_elide_proof.specs.pass_proofs.ir_model.declared.operand.Operand.{Operand}
use Rattle.pass_elide_proof.specs.pass_proofs.ir_paths.Windows.{destroy_label, operand_at, resume_label, suspend_of}
use Rattle.pass_elide_proof.specs.pass_proofs.ir_paths.declared.point.Point.{Point}
use Rattle.pass_elide_proof.specs.pass_proofs.ir_paths.declared.point.Window.{Window}
use Rattle.pass_elide_proof.specs.pass_proofs.run_framed.Framed.{FramedGiven, alloca_from, are_finished_at, begin_given, begin_given_at, begin_in_block, begin_in_frame, continue_framed, disown_given, enter_after, enter_given, frame_around, framed_act, framed_advance, framed_begin, framed_context, framed_coro, framed_finish, framed_next, framed_promise, framed_slot, framed_step, given_ramp, has_room, has_size, is_given, is_stack_block, reentry_values}
use Rattle.pass_elide_proof.specs.pass_proofs.run_memory.Memory.{check, disown, disowned, is_live, may_be_owned, owned_to, same_kind, with_block}
use Rattle.pass_elide_proof.specs.pass_proofs.run_memory.declared.block.Kind.{Kind}
use Rattle.pass_elide_proof.specs.pass_proofs.run_memory.declared.block.MemoryBlock.{MemoryBlock}
use Rattle.pass_elide_proof.specs.pass_proofs.run_memory.declared.pointer.Pointer.{Pointer}
use Rattle.pass_elide_proof.specs.pass_proofs.run_memory.declared.pointer.Value.{Value}
use Rattle.pass_elide_proof.specs.pass_proofs.run_source.Source.{Sleeper, after_end, begin, begin_at, begun, branch_leaving, change_own, deallocate, destroy, done_at, end_of, enter_block, if_let_go, is_live_at, left_windows, let_go, may_be_freed, may_leave, new_instance, pop, push, release, resume, resumed, return, returned, save, save_before, save_for, sleeper_at, sleeper_of, slots_of, suspend}
use Rattle.pass_elide_proof.specs.pass_proofs.run_source.State.{began_at, frame_address_of, function_of, gives, instance_at, next, or_undefined, own_frame, own_instance, point_of, settled, with_instance, with_left, with_memory, with_slots, with_status, work_of}
use Rattle.pass_elide_proof.specs.pass_proofs.run_source.declared.state.Activation.{Activation}
use Rattle.pass_elide_proof.specs.pass_proofs.run_source.declared.state.Instance.{Instance}
use Rattle.pass_elide_proof.specs.pass_proofs.run_source.declared.state.Mode.{Mode}
use Rattle.pass_elide_proof.specs.pass_proofs.run_source.declared.state.State.{State}
use Rattle.pass_elide_proof.specs.pass_proofs.run_source.declared.state.Status.{Status}
use Rattle.pass_elide_proof.specs.pass_proofs.run_source_tables.Given.{has_final, is_final}
use Rattle.pass_elide_proof.specs.pass_proofs.run_step.Results.{and_then, found, ok_if}
use Rattle.pass_elide_proof.specs.pass_proofs.run_step.Step.{Action, AtInstr, AtTerm, Coro, Deallocate, Done, Enter, Fetched, GoTo, NewSlot, Nowhere, Return, Stuck, action_of, deallocated, fetch, outcome_of, without_slots}
use Rattle.pass_elide_proof.specs.pass_proofs.run_step.Values.{arg_values, integer, nth, truth_value}
use Rattle.pass_elide_proof.specs.pass_proofs.run_step.declared.world.Slot.{Slot}

module _ (g : FramedGiven) (m : ℕ) (Old : ℕ → Type 0) (G : Type 0) where
  abbrev KnownIn : ℕ → List MemoryBlock → Instance → Type 0
  KnownIn i n y = (y.block < length n) × (is_given n y ≡ true → Old i ⊎ ((i ≡ m) × G))

  abbrev Fine : State → Type 0
  Fine s = (i : ℕ) (y : Instance) → slice_get s.instances i ≡ Some y → KnownIn i s.world.memory y

  abbrev Keeps : Result State Cause → Type 0
  Keeps (Err cause) = Unit {0}
  Keeps (Ok s) = Fine s

  then_keeps : (r : Result State Cause) (q : State → State) → Keeps r → ((s : State) → Fine s → Fine (q s))
      → Keeps (and_then r (λ (s : State). Ok (q s)))
  then_keeps (Err cause) q h on = tt
  then_keeps (Ok s) q h on = on s h

  if_keeps : (t : Bool) (cause : Cause) (s : State) → Fine s → Keeps (ok_if t cause s)
  if_keeps true cause s h = h
  if_keeps false cause s h = tt

  -- ---- small changes

  memory_fine : (s : State) (n : List MemoryBlock) → KeepsKinds s.world.memory n → Fine s → Fine (with_memory s n)
  memory_fine s n k h i y at =
      let old = h i y at in (
        further y.block (length s.world.memory) (length n) old.0 k.many,
        λ given. old.1 (sym (k.given y old.0) ∙ given),
      )
    where
      further : (b i j : ℕ) → b < i → i ≤ j → b < j
      further b i j lt le = omega (arith, lt, le)

  -- an instance stays where it is
  known_as : (s : State) (i : ℕ) (x new : Instance) → new.block ≡ x.block → new.start ≡ x.start
      → KnownIn i s.world.memory x → KnownIn i s.world.memory new
  known_as s i x new block start old = (
    subst (λ (b : ℕ). b < length s.world.memory) (sym block) old.0,
    λ given. old.1 ((λ k. is_stack_block s.world.memory (sym block k) || not (sym start k == 0)) ∙ given),
  )

  instance_fine : (s : State) (i : ℕ) (x new : Instance) → KnownIn i s.world.memory x
      → slice_get s.instances i ≡ Some x
      → new.block ≡ x.block → new.start ≡ x.start
      → ((j : ℕ) (y : Instance) → slice_get s.instances j ≡ Some y → KnownIn j s.world.memory y)
      → Fine (with_instance s i new)
  instance_fine s i x new known there block start h j y at = which was.is
    where
      was : WasSet s.instances i new j y
      was = was_set s.instances i x new there j y at

      which : ((j ≡ i) × (y ≡ new)) ⊎ ((j ≢ i) × (y ≡ was.was)) → KnownIn j s.world.memory y
      which (inl k) =
          subst (λ (p : ℕ × Instance). KnownIn p.0 s.world.memory p.1) (λ q. (sym k.0 q, sym k.1 q))
          (known_as s i x new block start known)
      which (inr k) = subst (KnownIn j s.world.memory) (sym k.1) (h j was.was was.at)

  after_fine : (s : State) (from label : ℕ) (o : Option Point) → Fine s → Fine (enter_after g s from label o)
  after_fine s from label (Some p) h = h
  after_fine s from label None h = h

  slot_fine : (s : State) (z : Slot) (mode : Mode) → Fine s → Fine (framed_slot g s z mode)
  slot_fine s z Mode.Plain h = h
  slot_fine s z Mode.Ramp h = h
  slot_fine s z Mode.Resumed h = h
  slot_fine s z (Mode.GivenRamp frame) h = h
  slot_fine s z (Mode.Entering from label) h =
      after_fine (with_slots s (z ∷ s.top.slots)) from label (alloca_from (function_of g.given s) s.top.at) h

  -- ---- instances that are found

  at_found : (s : State) (p : Value) (i : ℕ) (x : Instance) → instance_at s.instances p ≡ Some (i, x)
      → slice_get s.instances i ≡ Some x
  at_found s (Value.Ptr (Pointer.At b o)) i x is = (found_there (began_at b o.bits) s.instances (i, x) is).0
  at_found s (Value.Ptr Pointer.Null) i x is = absurd (cc)
  at_found s (Value.Ptr (Pointer.Func f)) i x is = absurd (cc)
  at_found s Value.Poison i x is = absurd (cc)
  at_found s (Value.Int n) i x is = absurd (cc)

  record IsAsleep (s : State) (y : Sleeper) : Type 0 where
    there : slice_get s.instances y.number ≡ Some y.instance

  Woken : State → Result Sleeper Cause → Type 0
  Woken s (Err cause) = Unit {0}
  Woken s (Ok y) = IsAsleep s y

  asleep : (s : State) (p : Value) → Woken s (sleeper_at s p)
  unfolding Woken
  asleep s p = by (instance_at s.instances p) refl
    where
      by_status : (i : ℕ) (x : Instance) (status : Status) → slice_get s.instances i ≡ Some x
          → Woken s (sleeper_of i x status)
      by_status i x Status.Running there = tt
      by_status i x Status.Finished there = tt
      by_status i x (Status.Suspended point values) there = record { there = there }

      by : (o : Option (ℕ × Instance)) → instance_at s.instances p ≡ o
          → Woken s (and_then (found Cause.Frame o) (λ (i, x). sleeper_of i x x.status))
      by None eo = tt
      by (Some (i, x)) eo = by_status i x x.status (at_found s p i x eo)

  -- ---- begins

  -- a new instance in a block that there is
  begun_fine : (s : State) (b start : ℕ) → length s.instances ≡ m → b < length s.world.memory
      → ((is_stack_block s.world.memory b || not (start == 0)) ≡ true → G) → Fine s → Fine (begun g.given s b start)
  begun_fine s b start size lt given h =
      instance_fine (record s { instances = s.instances ++ new_instance s.top.func b start ∷ [] }) (length s.instances)
      (new_instance s.top.func b start) _ (lt, λ is. inr (size, given is))
      (get_last s.instances (new_instance s.top.func b start)) refl refl appended
    where
      appended : (i : ℕ) (y : Instance)
          → slice_get (s.instances ++ new_instance s.top.func b start ∷ []) i ≡ Some y → KnownIn i s.world.memory y
      appended i y at =
          ⊎_elim (λ last.
          subst (λ (p : ℕ × Instance). KnownIn p.0 s.world.memory p.1) (λ q. (sym last.0 q, sym last.1 q))
          (lt, λ is. inr (size, given is))) (λ old. h i y old)
          (end_or_before s.instances (new_instance s.top.func b start) y i at)

  kinds_back : (k q : Kind) → same_kind k q ≡ true → same_kind k Kind.Stack ≡ true → same_kind q Kind.Stack ≡ true
  kinds_back Kind.Stack Kind.Stack e f = refl
  kinds_back Kind.Stack Kind.Allocator e f = absurd (cc)
  kinds_back Kind.Stack Kind.Slot e f = absurd (cc)
  kinds_back Kind.Stack Kind.Global e f = absurd (cc)
  kinds_back Kind.Stack Kind.Constant e f = absurd (cc)
  kinds_back Kind.Allocator q e f = absurd (cc)
  kinds_back Kind.Slot q e f = absurd (cc)
  kinds_back Kind.Global q e f = absurd (cc)
  kinds_back Kind.Constant q e f = absurd (cc)

  or_false : (c : Bool) → (c || false) ≡ true → c ≡ true
  or_false true h = refl
  or_false false h = absurd (cc)

  -- the block is owned
  abbrev owned_in : State → ℕ → List MemoryBlock
  owned_in s b = with_block s.world.memory b (owned_to (own_frame g.given s).size)

  begin_at_fine : (s : State) (mem : Value) (kind : Kind) → (same_kind kind Kind.Stack ≡ true → G)
      → length s.instances ≡ m → Fine s → Keeps (begin_at g.given s mem kind)
  begin_at_fine s (Value.Ptr (Pointer.At b o)) kind given size h = by_bits (o.bits == 0)
    where
      by_kind : (z : MemoryBlock) → slice_get s.world.memory b ≡ Some z → same_kind z.kind kind ≡ true
          → Fine (begun g.given (with_memory s (owned_in s b)) b 0)
      by_kind z at same =
          begun_fine (with_memory s (owned_in s b)) b 0 size
          (let many = changed_many s.world.memory b (owned_to (own_frame g.given s).size) in
          let lt = get_within s.world.memory b z at in omega (arith, many, lt))
          (λ stack. given (kinds_back z.kind kind same (is_stack (or_false (is_stack_block (owned_in s b) b) stack))))
          (memory_fine s (owned_in s b)
          (kinds_block s.world.memory b (owned_to (own_frame g.given s).size) (λ x. refl)) h)
        where
          is_stack : is_stack_block (owned_in s b) b ≡ true → same_kind z.kind Kind.Stack ≡ true
          is_stack stack =
              sym (ap (λ (q : Option MemoryBlock). option_map_or (λ (y : MemoryBlock). same_kind y.kind Kind.Stack) q
              false) (changed_here s.world.memory b (owned_to (own_frame g.given s).size) z at)) ∙ stack

      by_block : (z : Option MemoryBlock) → slice_get s.world.memory b ≡ z → (c : Bool)
          → may_be_owned kind (own_frame g.given s).size z ≡ c
          → Keeps (and_then (check c Cause.Begin (Ok (owned_in s b)))
          (λ (memory : List MemoryBlock). Ok (begun g.given (with_memory s memory) b 0)))
      by_block z ez false ec = tt
      by_block None ez true ec = absurd (cc)
      by_block (Some z) ez true ec = by_kind z ez (free_block kind (own_frame g.given s).size z ec).made

      by_bits : (t : Bool) → Keeps (and_then (check (t && may_be_owned kind
          (own_frame g.given s).size (slice_get s.world.memory b)) Cause.Begin (Ok (owned_in s b)))
          (λ (memory : List MemoryBlock). Ok (begun g.given (with_memory s memory) b 0)))
      by_bits false = tt
      by_bits true =
          by_block (slice_get s.world.memory b) refl
          (may_be_owned kind (own_frame g.given s).size (slice_get s.world.memory b)) refl
  begin_at_fine s (Value.Ptr Pointer.Null) kind given size h = tt
  begin_at_fine s (Value.Ptr (Pointer.Func f)) kind given size h = tt
  begin_at_fine s Value.Poison kind given size h = tt
  begin_at_fine s (Value.Int n) kind given size h = tt

  begin_fine : (s : State) (result : Option ℕ) (mem : Value) → length s.instances ≡ m → Fine s
      → Keeps (begin g.given s result mem)
  begin_fine s result mem size h = by (is_none s.top.instance)
    where
      by : (t : Bool) → Keeps (and_then (ok_if t Cause.Begin s) (λ (s : State).
          and_then (begin_at g.given s mem Kind.Allocator) (λ (s : State). Ok (gives s result mem))))
      by true =
          then_keeps (begin_at g.given s mem Kind.Allocator) (λ (z : State). gives z result mem)
          (begin_at_fine s mem Kind.Allocator (λ stack. absurd (cc)) size h) (λ z k. k)
      by false = tt

  in_frame_fine : (s : State) (b start : ℕ) → G → length s.instances ≡ m → Fine s
      → Keeps (ok_if (is_live_at s.world.memory b) Cause.Begin (begun g.given s b start))
  in_frame_fine s b start given size h = by (slice_get s.world.memory b) refl
    where
      on : (z : MemoryBlock) → slice_get s.world.memory b ≡ Some z → (t : Bool)
          → Keeps (ok_if t Cause.Begin (begun g.given s b start))
      on z at false = tt
      on z at true = begun_fine s b start size (get_within s.world.memory b z at) (λ is. given) h

      by : (z : Option MemoryBlock) → slice_get s.world.memory b ≡ z
          → Keeps (ok_if (option_map_or (λ (x : MemoryBlock). is_live x.life) z false) Cause.Begin
          (begun g.given s b start))
      by None ez = tt
      by (Some z) ez = on z ez (is_live z.life)

  given_at_fine : (s : State) (frame : Value) → G → length s.instances ≡ m → Fine s → Keeps (begin_given_at g s frame)
  given_at_fine s (Value.Ptr (Pointer.At b o)) given size h =
      by (has_room g o.bits (own_frame g.given s).size (frame_around g s.instances b o.bits))
    where
      in_block : (t : Bool) → Keeps (and_then (ok_if t Cause.Begin s)
          (λ (z : State). begin_at g.given z (Value.Ptr (Pointer.At b o)) Kind.Stack))
      in_block true = begin_at_fine s (Value.Ptr (Pointer.At b o)) Kind.Stack (λ stack. given) size h
      in_block false = tt

      by : (t : Bool) → Keeps (if t then begin_in_frame g s b o else begin_in_block g s b o)
      by true = in_frame_fine s b o.bits given size h
      by false = in_block ((o.bits == 0) && has_size s.world.memory b (own_frame g.given s).size)
  given_at_fine s (Value.Ptr Pointer.Null) given size h = tt
  given_at_fine s (Value.Ptr (Pointer.Func f)) given size h = tt
  given_at_fine s Value.Poison given size h = tt
  given_at_fine s (Value.Int n) given size h = tt

  begin_given_fine : (s : State) (result : Option ℕ) (frame : Value) → G → length s.instances ≡ m → Fine s
      → Keeps (begin_given g s result frame)
  begin_given_fine s result frame given size h = by (is_none s.top.instance && are_finished_at s.instances frame)
    where
      by : (t : Bool) → Keeps (and_then (ok_if t Cause.Begin s) (λ (s : State).
          and_then (begin_given_at g s frame) (λ (s : State). Ok (gives s result frame))))
      by true =
          then_keeps (begin_given_at g s frame) (λ (z : State). gives z result frame)
          (given_at_fine s frame given size h)
          (λ z k. k)
      by false = tt

  framed_begin_fine : (s : State) (result : Option ℕ) (mem : Value) (mode : Mode) → s.top.mode ≡ mode
      → ((frame : Value) → s.top.mode ≡ Mode.GivenRamp frame → G) → length s.instances ≡ m → Fine s
      → Keeps (framed_begin g s result mem mode)
  framed_begin_fine s result mem (Mode.GivenRamp frame) is by_mode size h =
      begin_given_fine s result frame (by_mode frame is) size h
  framed_begin_fine s result mem Mode.Plain is by_mode size h = begin_fine s result mem size h
  framed_begin_fine s result mem Mode.Ramp is by_mode size h = begin_fine s result mem size h
  framed_begin_fine s result mem Mode.Resumed is by_mode size h = begin_fine s result mem size h
  framed_begin_fine s result mem (Mode.Entering from label) is by_mode size h = begin_fine s result mem size h

  -- ---- saves, suspends and frees

  abbrev saved_as : State → Point → Point → Instance → Instance
  saved_as s p q x =
      record x {
        status = Status.Suspended q s.top.values;
        last_save = Some (record { depth = length s.below; save = p });
      }

  save_for_fine : (s : State) (p q : Point) → Fine s → Keeps (save_for s p q)
  save_for_fine s p q h = by (own_instance s) refl
    where
      by : (o : Option (ℕ × Instance)) → own_instance s ≡ o
          → Keeps (and_then (found Cause.State o) (λ (i, x). ok_if (not x.freed) Cause.State
          (with_left (with_instance s i (saved_as s p q x)) true)))
      by None eo = tt
      by (Some (i, x)) eo =
          if_keeps (not x.freed) Cause.State (with_left (with_instance s i (saved_as s p q x)) true)
          (instance_fine s i x (saved_as s p q x) (h i x (own_number s i x eo).1)
          (own_number s i x eo).1 refl refl h)

  save_fine : (s : State) → Fine s → Keeps (save g.given s)
  save_fine s h = by (suspend_of (function_of g.given s) (point_of s))
    where
      by : (o : Option Point) → Keeps (and_then (found Cause.State o) (λ (q : Point).
          and_then (save_for s (point_of s) q) (λ (z : State). Ok (next z))))
      by None = tt
      by (Some q) = then_keeps (save_for s (point_of s) q) next (save_for_fine s (point_of s) q h) (λ z k. k)

  before_fine : (s : State) (x : Operand) → Fine s → Keeps (save_before s x)
  before_fine s Operand.None h = save_for_fine s (point_of s) (point_of s) h
  before_fine s (Operand.Local v) h = h
  before_fine s (Operand.Global name) h = h
  before_fine s (Operand.Number z) h = h
  before_fine s Operand.True h = h
  before_fine s Operand.False h = h
  before_fine s Operand.Null h = h
  before_fine s Operand.Poison h = h

  suspend_fine : (s : State) (result : Option ℕ) (x : Operand) → Fine s → Keeps (suspend s result x)
  suspend_fine s result x h =
      then_keeps (save_before s x) (λ (z : State). gives z result (integer 8 (negsuc 0))) (before_fine s x h)
      (λ z k. k)

  release_fine : (s : State) → Fine s → Fine (release s)
  release_fine s h = by (own_instance s) refl
    where
      by : (o : Option (ℕ × Instance)) → own_instance s ≡ o
          → Fine (change_own s (λ (x : Instance). record x { released = true }) o)
      by None eo = h
      by (Some (i, x)) eo =
          instance_fine s i x (record x { released = true }) (h i x (own_number s i x eo).1)
          (own_number s i x eo).1 refl refl h

  -- ---- returns and ends

  pop_fine : (s : State) (v : Option Value) (below : List Activation) → s.below ≡ below → Fine s
      → Keeps (pop s v below)
  pop_fine s v [] is h = by (outcome_of v)
    where
      by : (r : Result Outcome Cause) → Keeps (and_then r (λ (outcome : Outcome). Ok (record s { outcome = outcome })))
      by (Err cause) = tt
      by (Ok outcome) = h
  pop_fine s v (a ∷ below) is h = h

  returned_fine : (s : State) → Fine s → Fine (returned s)
  returned_fine s h =
      memory_fine s (without_slots s.world.memory s.top.slots) (kinds_slots s.world.memory s.top.slots) h

  return_fine : (s : State) (v : Option Value) → Fine s → Keeps (return s v)
  return_fine s v h = pop_fine (returned s) v s.below refl (returned_fine s h)

  abbrev finished_in : State → ℕ → Instance → State
  finished_in s i x =
      with_memory (with_instance s i (record x { status = Status.Finished })) (without_slots s.world.memory x.slots)

  finish_fine : (s : State) → Fine s → Fine (framed_finish s)
  finish_fine s h = by (own_instance s) refl
    where
      by : (o : Option (ℕ × Instance)) → own_instance s ≡ o
          → Fine (disown_given (with_memory (change_own s (λ (x : Instance). record x { status = Status.Finished }) o)
          (without_slots s.world.memory (slots_of o))) o)
      by None eo = h
      by (Some (i, x)) eo = on (is_stack_block (without_slots s.world.memory x.slots) x.block && (x.start == 0))
        where
          set : Fine (finished_in s i x)
          set =
              memory_fine (with_instance s i (record x { status = Status.Finished }))
              (without_slots s.world.memory x.slots) (kinds_slots s.world.memory x.slots)
              (instance_fine s i x (record x { status = Status.Finished }) (h i x (own_number s i x eo).1)
              (own_number s i x eo).1 refl refl h)

          on : (t : Bool)
              → Fine (if t then with_memory (finished_in s i x)
              (disown (without_slots s.world.memory x.slots) x.block) else (finished_in s i x))
          on true =
              memory_fine (finished_in s i x) (disown (without_slots s.world.memory x.slots) x.block)
              (kinds_block (without_slots s.world.memory x.slots) x.block disowned (λ z. refl)) set
          on false = set

  ended_fine : (s : State) (result : Option ℕ) (mode : Mode) → Fine s → Keeps (after_end s result mode)
  ended_fine s result Mode.Resumed h = return_fine s None h
  ended_fine s result Mode.Plain h = h
  ended_fine s result Mode.Ramp h = h
  ended_fine s result (Mode.GivenRamp frame) h = h
  ended_fine s result (Mode.Entering from label) h = h

  end_fine : (s : State) (result : Option ℕ) → Fine s → Keeps (end_of s framed_finish result)
  end_fine s result h =
      ended_fine (if s.top.has_left then s else framed_finish s) result s.top.mode (by s.top.has_left)
    where
      by : (t : Bool) → Fine (if t then s else framed_finish s)
      by true = h
      by false = finish_fine s h

  -- ---- resume, destroy, done, promise

  woken_fine : (s : State) (y : Sleeper) (label : ℕ) → slice_get s.instances y.number ≡ Some y.instance → Fine s
      → Fine (continue_framed g s y.number y.instance y.suspend y.values label)
  woken_fine s y label there h =
      after_fine
      (push (with_status s y.number y.instance Status.Running) (resumed y.number y.instance y.suspend (reentry_values
      (function_at g.given.code y.instance.coroutine) (frame_address_of y.instance))))
      y.suspend.block label (alloca_from (function_at g.given.code y.instance.coroutine) 0)
      (instance_fine s y.number y.instance (record y.instance { status = Status.Running })
      (h y.number y.instance there) there refl refl h)

  resume_fine : (s : State) (p : Value) → Fine s → Keeps (resume g.given (continue_framed g) s p)
  unfolding Woken
  resume_fine s p h = by (sleeper_at s p) (asleep s p)
    where
      by : (r : Result Sleeper Cause) → Woken s r → Keeps (and_then r (λ (y : Sleeper).
          ok_if (not (is_final (function_at g.given.code y.instance.coroutine) y.suspend)) Cause.State
          (continue_framed g s y.number y.instance y.suspend y.values
          (resume_label (function_at g.given.code y.instance.coroutine) y.suspend))))
      by (Err cause) k = tt
      by (Ok y) k =
          if_keeps (not (is_final (function_at g.given.code y.instance.coroutine) y.suspend)) Cause.State _
          (woken_fine s y (resume_label (function_at g.given.code y.instance.coroutine) y.suspend) k.there h)

  destroy_fine : (s : State) (p : Value) → Fine s → Keeps (destroy g.given (continue_framed g) s p)
  unfolding Woken
  destroy_fine s p h = by (sleeper_at s p) (asleep s p)
    where
      by : (r : Result Sleeper Cause) → Woken s r → Keeps (and_then r (λ (y : Sleeper).
          Ok (continue_framed g s y.number y.instance y.suspend y.values
          (destroy_label (function_at g.given.code y.instance.coroutine) y.suspend))))
      by (Err cause) k = tt
      by (Ok y) k = woken_fine s y (destroy_label (function_at g.given.code y.instance.coroutine) y.suspend) k.there h

  done_fine : (s : State) (result : Option ℕ) (p : Value) → Fine s → Keeps (done_at g.given s result p)
  done_fine s result p h = by (sleeper_at s p)
    where
      by : (r : Result Sleeper Cause) → Keeps (and_then r (λ (y : Sleeper).
          ok_if (has_final (function_at g.given.code y.instance.coroutine)) Cause.State
          (gives s result (truth_value (is_final (function_at g.given.code y.instance.coroutine) y.suspend)))))
      by (Err cause) = tt
      by (Ok y) =
          if_keeps (has_final (function_at g.given.code y.instance.coroutine)) Cause.State
          (gives s result (truth_value (is_final (function_at g.given.code y.instance.coroutine) y.suspend))) h

  promise_fine : (s : State) (result : Option ℕ) (r : Result Value Cause) → Fine s
      → Keeps (and_then r (λ (v : Value). Ok (gives s result v)))
  promise_fine s result (Err cause) h = tt
  promise_fine s result (Ok v) h = h

  coro_fine : (s : State) (i : Intrinsic) (args : List Arg) (vs : List Value) (result : Option ℕ)
      → length s.instances ≡ m
      → ((frame : Value) → s.top.mode ≡ Mode.GivenRamp frame → G) → Fine s
      → Keeps (framed_coro g s i args vs result)
  coro_fine s Intrinsic.CoroId args vs result size mode h = h
  coro_fine s Intrinsic.CoroSizeI32 args vs result size mode h = h
  coro_fine s Intrinsic.CoroSizeI64 args vs result size mode h = h
  coro_fine s Intrinsic.CoroAlignI32 args vs result size mode h = h
  coro_fine s Intrinsic.CoroAlignI64 args vs result size mode h = h
  coro_fine s Intrinsic.CoroAlloc args vs result size mode h = h
  coro_fine s Intrinsic.CoroBegin args vs result size mode h =
      framed_begin_fine s result (nth vs 1) s.top.mode refl mode size h
  coro_fine s Intrinsic.CoroFree args vs result size mode h = release_fine s h
  coro_fine s Intrinsic.CoroFrame args vs result size mode h = h
  coro_fine s Intrinsic.CoroSave args vs result size mode h = save_fine s h
  coro_fine s Intrinsic.CoroSuspend args vs result size mode h = suspend_fine s result (operand_at args 0) h
  coro_fine s Intrinsic.CoroEnd args vs result size mode h = end_fine s result h
  coro_fine s Intrinsic.CoroResume args vs result size mode h = resume_fine s (nth vs 0) h
  coro_fine s Intrinsic.CoroDestroy args vs result size mode h = destroy_fine s (nth vs 0) h
  coro_fine s Intrinsic.CoroDone args vs result size mode h = done_fine s result (nth vs 0) h
  coro_fine s Intrinsic.CoroPromise args vs result size mode h =
      promise_fine s result (framed_promise g s (nth vs 0) (operand_at args 2)) h
  coro_fine s Intrinsic.LifetimeStart args vs result size mode h = h
  coro_fine s Intrinsic.LifetimeEnd args vs result size mode h = h
  coro_fine s Intrinsic.MemcpyI64 args vs result size mode h = h
  coro_fine s Intrinsic.MemcpyI32 args vs result size mode h = h

  -- ---- deallocation and branches

  let_go_fine : (s : State) (p : Value) (o : Option (ℕ × Instance)) → instance_at s.instances p ≡ o → Fine s
      → Fine (if_let_go s o)
  let_go_fine s p None eo h = h
  let_go_fine s p (Some (i, x)) eo h = by (may_be_freed x)
    where
      by : (t : Bool) → Fine (if t then let_go s i x else s)
      by true =
          memory_fine (with_instance s i (record x { freed = true }))
          (disown (without_slots s.world.memory x.slots) x.block)
          (kinds_then s.world.memory (without_slots s.world.memory x.slots)
          (disown (without_slots s.world.memory x.slots) x.block) (kinds_slots s.world.memory x.slots)
          (kinds_block (without_slots s.world.memory x.slots) x.block disowned (λ z. refl)))
          (instance_fine s i x (record x { freed = true }) (h i x (at_found s p i x eo))
          (at_found s p i x eo) refl refl h)
      by false = h

  deallocate_fine : (s : State) (p : Value) → Fine s → Keeps (deallocate s p)
  deallocate_fine s p h =
      by (if_let_go s (instance_at s.instances p)) (let_go_fine s p (instance_at s.instances p) refl h)
    where
      on : (z : State) → Fine z → (r : Result (List MemoryBlock) Cause) → KindsTo z.world.memory r
          → Keeps (and_then r (λ (memory : List MemoryBlock). Ok (next (with_memory z memory))))
      on z k (Err cause) same = tt
      on z k (Ok memory) same = memory_fine z memory same k

      by : (z : State) → Fine z → Keeps (and_then (deallocated z.world.memory p)
          (λ (memory : List MemoryBlock). Ok (next (with_memory z memory))))
      by z k = on z k (deallocated z.world.memory p) (kinds_deallocated z.world.memory p)

  branch_fine : (s : State) (label : ℕ) (ws : List Window) → Fine s → Keeps (branch_leaving g.given s label ws)
  branch_fine s label [] h = h
  branch_fine s label (w ∷ ws) h = by (own_instance s) refl
    where
      by : (o : Option (ℕ × Instance)) → own_instance s ≡ o
          → Keeps (and_then (found Cause.State o) (λ (i, x).
          ok_if (list_all (may_leave (length s.below) x) (w ∷ ws)) Cause.State
          (enter_block g.given (with_left (with_status s i x Status.Running) false) label)))
      by None eo = tt
      by (Some (i, x)) eo =
          if_keeps (list_all (may_leave (length s.below) x) (w ∷ ws)) Cause.State
          (enter_block g.given (with_left (with_status s i x Status.Running) false) label)
          (instance_fine s i x (record x { status = Status.Running }) (h i x (own_number s i x eo).1)
          (own_number s i x eo).1 refl refl h)

  -- ---- steps

  abbrev Any : List MemoryBlock → Type 0
  Any k = Unit {0}

  act_fine : (s : State) (a : Action) → Comes (KeepsKinds s.world.memory) Any s.world.memory a
      → length s.instances ≡ m → ((frame : Value) → s.top.mode ≡ Mode.GivenRamp frame → G) → Fine s
      → Keeps (framed_act g s a)
  act_fine s (Done w) k size mode h = memory_fine s w.world.memory k h
  act_fine s (NewSlot w z) k size mode h = slot_fine (settled s w) z s.top.mode (memory_fine s w.world.memory k h)
  act_fine s (Enter func args result must_tail) k size mode h = h
  act_fine s (Coro i args result) k size mode h =
      coro_fine s i args (arg_values g.given.code s.top.values args) result size mode h
  act_fine s (Deallocate p) k size mode h = deallocate_fine s p h
  act_fine s (GoTo label) k size mode h = branch_fine s label (left_windows g.given s label) h
  act_fine s (Return v) k size mode h = return_fine s v h
  act_fine s (Stuck cause) k size mode h = tt

  module _ (s : State) (size : length s.instances ≡ m)
      (mode : (frame : Value) → s.top.mode ≡ Mode.GivenRamp frame → G) (h : Fine s) where
    abbrev here : Fetched
    here = fetch (function_of g.given s) s.top.block s.top.at

    acted : (x : Fetched) → Keeps (framed_act g s (action_of (framed_context g s) (work_of s) x))
    acted x =
        act_fine s (action_of (framed_context g s) (work_of s) x)
        (actions_keep_kinds (framed_context g s) (work_of s) x) size mode h

    named : (x : Fetched) (result : Option ℕ) (vs : List Value) (o : Option ℕ)
        → Keeps (unwrap_or (enter_given g s result vs o)
        (framed_act g s (action_of (framed_context g s) (work_of s) x)))
    named x result vs None = acted x
    named x result vs (Some func) = h

    next_keeps : (x : Fetched) → here ≡ x → Keeps (framed_next g s x)
    next_keeps Nowhere is = acted Nowhere
    next_keeps (AtTerm t) is = acted (AtTerm t)
    next_keeps (AtInstr (Instr.Call result must_tail ty (Callee.Named name) args)) is =
        named (AtInstr (Instr.Call result must_tail ty (Callee.Named name) args)) result
        (arg_values g.given.code s.top.values args) (given_ramp g.given.code name)
    next_keeps (AtInstr (Instr.Call result must_tail ty (Callee.Allocator a) args)) is =
        acted (AtInstr (Instr.Call result must_tail ty (Callee.Allocator a) args))
    next_keeps (AtInstr (Instr.Call result must_tail ty (Callee.Intrinsic i) args)) is =
        acted (AtInstr (Instr.Call result must_tail ty (Callee.Intrinsic i) args))
    next_keeps (AtInstr (Instr.Call result must_tail ty (Callee.Local v) args)) is =
        acted (AtInstr (Instr.Call result must_tail ty (Callee.Local v) args))
    next_keeps (AtInstr (Instr.Binary name op flags ty a b)) is = acted (AtInstr (Instr.Binary name op flags ty a b))
    next_keeps (AtInstr (Instr.Icmp name pred ty a b)) is = acted (AtInstr (Instr.Icmp name pred ty a b))
    next_keeps (AtInstr (Instr.Select name x a b)) is = acted (AtInstr (Instr.Select name x a b))
    next_keeps (AtInstr (Instr.Cast name op nneg arg to)) is = acted (AtInstr (Instr.Cast name op nneg arg to))
    next_keeps (AtInstr (Instr.Alloca name ty align)) is = acted (AtInstr (Instr.Alloca name ty align))
    next_keeps (AtInstr (Instr.Load name ty p align)) is = acted (AtInstr (Instr.Load name ty p align))
    next_keeps (AtInstr (Instr.Store arg p align)) is = acted (AtInstr (Instr.Store arg p align))
    next_keeps (AtInstr (Instr.Gep name inbounds ty base indices)) is =
        acted (AtInstr (Instr.Gep name inbounds ty base indices))

    undefined_keeps : (r : Result State Cause) → Keeps r → Fine (or_undefined g.given s r)
    undefined_keeps (Err cause) k = h
    undefined_keeps (Ok u) k = k

    advance_fine : (o : Outcome) → Fine (framed_advance g s o)
    advance_fine Outcome.Running = undefined_keeps (framed_next g s here) (next_keeps here refl)
    advance_fine (Outcome.Returned v) = h
    advance_fine (Outcome.Undefined cause place) = h

    pub step_known : Fine (framed_step g s)
    step_known = advance_fine s.outcome

pub were_given : (g : FramedGiven) (t : State) → HaveBlocks t → WereGiven t (framed_step g t)
were_given g t blocks = record {
  each = λ number y there given. (step_known g (length t.instances) (WasGivenAt t) (is_given_mode t.top.mode ≡ true) t
      refl (λ frame is. ap is_given_mode is)
      (λ i x at. (blocks i x at, λ was. inl (record { instance = x; there = at; given = was }))) number y there).1
      given;
}
