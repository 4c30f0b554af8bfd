-- In the run that gives frames no frame lies in a slot that the framed form has too.
use Rattle.std.proofs.Common.{◌≡◌, ◌⊎◌, inl, inr, ◌∙◌, ◌+◌, ◌<◌, ◌≤◌, ◌++◌, ℕ, Bool, true, false, List, [], ◌∷◌, length, Err, None, Ok, Option, Result, Some, ap, if◌then◌else◌, refl, sym, subst, arith, ◌||◌}
use Rattle.std.specs.Prelude.{filter, slice_get, unwrap_or}
use Rattle.pass_elide.specs.Elided.{elided_function}
use Rattle.pass_elide_meaning.specs.pass_elide_edges.Keeping.{KeepsEnds, SetsKnown}
use Rattle.pass_elide_lacks.proofs.BareBegins.{Given, HasBegun, Heap, IsBegunBy, IsHeapAt, has_begun}
use Rattle.pass_elide_lacks.proofs.Changes.{AreAs, IsAs, changed_as, ended_as, gone_as, same_as, set_as}
use Rattle.pass_elide_lacks.proofs.FlatCalls.{GivesRoom, gives_room}
use Rattle.pass_elide_lacks.proofs.FlatNames.{names_allocas}
use Rattle.pass_elide_lacks.proofs.Rows.{found_slot, owns_count, rest_rooms, room_alone, top_rooms}
use Rattle.pass_elide_lacks.specs.Rooms.{AreInRooms, HasNew, HasOwn, HasRoom, HoldsNone, OwnsIn}
use Rattle.pass_elide_meaning.proofs.pass_elide_runs.Elided.{coroutine_same}
use Rattle.pass_elide_meaning.proofs.pass_elide_runs.KnownModes.{IsAsleep, asleep}
use Rattle.pass_elide_meaning.proofs.pass_elide_runs.Runs.{runs_keep_by}
use Rattle.pass_elide_meaning.proofs.pass_elide_runs.Stacks.{Comes, changed_stack, comes, ended_stack, gone_stack, woken_at}
use Rattle.pass_elide_meaning.specs.pass_elide_runs.Keeps.{KeepsRuns}
use Rattle.pass_elide_meaning.specs.pass_elide_runs.Slots.{HasItsSlots, HaveItsSlots, IsAllocaAt, NamesAllocas}
use Rattle.pass_elide_meaning.proofs.pass_elide_edges.pass_elide_proof.AllocaBlocks.{ActionKeeps, action_keeps}
use Rattle.pass_elide_meaning.proofs.pass_elide_edges.pass_elide_proof.Facts.{some_none}
use Rattle.pass_elide_meaning.proofs.pass_elide_edges.pass_elide_proof.GivingMarkers.{plain_put}
use Rattle.pass_elide_meaning.proofs.pass_elide_edges.pass_elide_proof.GoesOn.{instr_there}
use Rattle.pass_elide_meaning.proofs.pass_elide_edges.pass_elide_proof.Modules.{finds_alike}
use Rattle.pass_elide_meaning.proofs.pass_elide_edges.pass_elide_proof.PhiValues.{each_as}
use Rattle.pass_elide_meaning.specs.pass_elide_edges.pass_elide_proof.Callers.{HaveBlocks}
use Rattle.pass_elide_meaning.specs.pass_elide_edges.pass_elide_proof.Edges.{phis_at}
use Rattle.pass_elide_meaning.specs.pass_elide_edges.pass_elide_proof.Elision.{Elision, elided, elided_code, function_in, rooms}
use Rattle.pass_elide_meaning.specs.pass_elide_edges.pass_elide_proof.OwnSlots.{CountsSlots}
use Rattle.pass_elide_meaning.specs.pass_elide_edges.pass_elide_proof.Places.{instrs_of}
use Rattle.pass_elide_meaning.specs.pass_elide_edges.pass_elide_proof.Placing.{KeepsPlaces}
use Rattle.pass_elide_meaning.specs.pass_elide_edges.pass_elide_proof.Returning.{IsAllocaBlock}
use Rattle.pass_elide_meaning.specs.pass_elide_edges.pass_elide_proof.StepCases.{ActsBy, CallsGiven, LeadsTo, ended}
use Rattle.pass_elide_meaning.specs.pass_elide_edges.pass_elide_proof.pass_proofs.ir_base.declared.cause.Cause.{Cause}
use Rattle.pass_elide_meaning.specs.pass_elide_edges.pass_elide_proof.pass_proofs.ir_base.declared.outcome.Outcome.{Outcome}
use Rattle.pass_elide_meaning.specs.pass_elide_edges.pass_elide_proof.pass_proofs.ir_base.declared.outcome.Word.{Word}
use Rattle.pass_elide_meaning.specs.pass_elide_edges.pass_elide_proof.pass_proofs.ir_model.Names.{function_at}
use Rattle.pass_elide_meaning.specs.pass_elide_edges.pass_elide_proof.pass_proofs.ir_model.declared.instr.Instr.{Instr}
use Rattle.pass_elide_meaning.specs.pass_elide_edges.pass_elide_proof.pass_proofs.ir_model.declared.instr.Phi.{Phi}
use Rattle.pass_elide_meaning.specs.pass_elide_edges.pass_elide_proof.pass_proofs.ir_model.declared.module.Function.{Function}
use Rattle.pass_elide_meaning.specs.pass_elide_edges.pass_elide_proof.pass_proofs.ir_model.declared.module.Module.{Module}
use Rattle.pass_elide_meaning.specs.pass_elide_edges.pass_elide_proof.pass_proofs.ir_model.declared.operand.Arg.{Arg}
use Rattle.pass_elide_meaning.specs.pass_elide_edges.pass_elide_proof.pass_proofs.ir_model.declared.operand.Callee.{Callee}
use Rattle.pass_elide_meaning.specs.pass_elide_edges.pass_elide_proof.pass_proofs.ir_model.declared.operand.Intrinsic.{Intrinsic}
use Rattle.pass_elide_meaning.specs.pass_elide_edges.pass_elide_proof.pass_proofs.ir_parts.Contents.{result_of}
use Rattle.pass_elide_meaning.specs.pass_elide_edges.pass_elide_proof.pass_proofs.ir_paths.declared.point.Point.{Point}
use Rattle.pass_elide_meaning.specs.pass_elide_edges.pass_elide_proof.pass_proofs.run_agreement.Machines.{IsFine}
use Rattle.pass_elide_meaning.specs.pass_elide_edges.pass_elide_proof.pass_proofs.run_framed.Framed.{FramedGiven, alloca_from, enter_after, framed_act, framed_advance, framed_begin, framed_context, framed_next, framed_slot, framed_state_at, framed_step, given_ramp, last_value}
use Rattle.pass_elide_meaning.specs.pass_elide_edges.pass_elide_proof.pass_proofs.run_laws.changed.Changed.{Each}
use Rattle.pass_elide_meaning.specs.pass_elide_edges.pass_elide_proof.pass_proofs.run_memory.Memory.{same_kind}
use Rattle.pass_elide_meaning.specs.pass_elide_edges.pass_elide_proof.pass_proofs.run_memory.declared.block.Kind.{Kind}
use Rattle.pass_elide_meaning.specs.pass_elide_edges.pass_elide_proof.pass_proofs.run_memory.declared.block.MemoryBlock.{MemoryBlock}
use Rattle.pass_elide_meaning.specs.pass_elide_edges.pass_elide_proof.pass_proofs.run_memory.declared.pointer.Value.{Value}
use Rattle.pass_elide_meaning.specs.pass_elide_edges.pass_elide_proof.pass_proofs.run_source.Source.{begun, called, given_back, mode_of, returned}
use Rattle.pass_elide_meaning.specs.pass_elide_edges.pass_elide_proof.pass_proofs.run_source.State.{function_of, gives, instance_at, or_undefined, own_instance, settled, with_memory, with_slots, work_of}
use Rattle.pass_elide_meaning.specs.pass_elide_edges.pass_elide_proof.pass_proofs.run_source.declared.state.Activation.{Activation}
use Rattle.pass_elide_meaning.specs.pass_elide_edges.pass_elide_proof.pass_proofs.run_source.declared.state.Instance.{Instance}
use Rattle.pass_elide_meaning.specs.pass_elide_edges.pass_elide_proof.pass_proofs.run_source.declared.state.Mode.{Mode}
use Rattle.pass_elide_meaning.specs.pass_elide_edges.pass_elide_proof.pass_proofs.run_source.declared.state.State.{State}
use Rattle.pass_elide_meaning.specs.pass_elide_edges.pass_elide_proof.pass_proofs.run_source.declared.state.Status.{Status}
use Rattle.pass_elide_meaning.specs.pass_elide_edges.pass_elide_proof.pass_proofs.run_step.Step.{Coro, action_of, block_of, fetch}
use Rattle.pass_elide_meaning.specs.pass_elide_edges.pass_elide_proof.pass_proofs.run_step.Values.{arg_values, nth}
use Rattle.pass_elide_meaning.specs.pass_elide_edges.pass_elide_proof.pass_proofs.run_step.declared.world.Slot.{Slot}
use Rattle.pass_elide_meaning.proofs.pass_elide_edges.pass_elide_proof.Saves.{own_number}
use Rattle.run_slots.specs.Slots.{times_on}

-- ---- small facts

no_given : (b : Bool) (frame : Value) → (if b then Mode.Ramp else Mode.Plain) ≡ Mode.GivenRamp frame → ⊥
no_given true frame h = cc
no_given false frame h = cc

same_number : (a b : ℕ) → Some a ≡ Some b → a ≡ b
same_number a b h = cc

same_value : (v w : Value) → Mode.GivenRamp v ≡ Mode.GivenRamp w → v ≡ w
same_value v w h = cc

-- an alloca's block is no allocator's
kinds_apart : (k : Kind) → same_kind k Kind.Allocator ≡ true
    → (same_kind k Kind.Slot || same_kind k Kind.Stack) ≡ true → ⊥
kinds_apart Kind.Allocator h made = cc
kinds_apart Kind.Slot h made = cc
kinds_apart Kind.Stack h made = cc
kinds_apart Kind.Global h made = cc
kinds_apart Kind.Constant h made = cc

no_heap : (m : List MemoryBlock) (b : ℕ) → IsAllocaBlock m b → IsHeapAt m b → ⊥
no_heap m b x y =
    let same : x.block ≡ y.there = one x.block y.there (sym x.there ∙ y.is_there) in
    kinds_apart x.block.kind (ap (λ (z : MemoryBlock). same_kind z.kind Kind.Allocator) same ∙ y.heap) x.made
  where
    one : (p q : MemoryBlock) → Some p ≡ Some q → p ≡ q
    one p q h = cc

-- slots that are left of some
own_left : (low : ℕ) (test : Slot → Bool) (zs : List Slot) (n : ℕ) → HasOwn low (filter test zs) n → HasOwn low zs n
own_left low test [] n h = h
own_left low test (z ∷ zs) n h = by (own_left low test zs n) (test z) h
  where
    by : (HasOwn low (filter test zs) n → HasOwn low zs n) → (t : Bool)
        → HasOwn low (if t then z ∷ filter test zs else filter test zs) n → HasOwn low (z ∷ zs) n
    by rest true (inl k) = inl k
    by rest true (inr k) = inr (rest k)
    by rest false k = inr (rest k)

own_joined : (low : ℕ) (zs : List Slot) (n : ℕ) → HasOwn low (zs ++ []) n → HasOwn low zs n
own_joined low [] n h = h
own_joined low (z ∷ zs) n (inl k) = inl k
own_joined low (z ∷ zs) n (inr k) = inr (own_joined low zs n k)

module _ (e : Elision) (keeps : KeepsPlaces e) (ends : KeepsEnds e) (k : KeepsRuns e) where
  abbrev g : FramedGiven
  g = elided e

  abbrev m : Module
  m = elided_code e

  abbrev Rooms : List Activation → Type 0
  Rooms rows = AreInRooms e rows

  -- what else holds of the states
  pub record IsHeldState (s : State) : Type 0 where
    pub counts : CountsSlots s
    pub blocks : HaveBlocks s
    pub slots : HaveItsSlots m s

  -- ---- names of the elided module

  pub names_low : (func block at v : ℕ) (i : Instr) → slice_get (instrs_of (function_in e func) block) at ≡ Some i
      → result_of i ≡ Some v → v < length (function_in e func).names
  names_low func block at v i there gives = ((keeps.instrs func).sets block at v i there gives).low

  pub phis_low : (func block : ℕ)
      → Each (λ (p : Phi). p.result < length (function_in e func).names) (phis_at (function_in e func) block)
  phis_low func block =
      each_as (SetsKnown (function_in e func) (e.shape func))
      (λ (p : Phi). p.result < length (function_in e func).names) (λ p h. h.known)
      (phis_at (function_in e func) block) (ends.phis func block)

  pub named : (func : ℕ) → NamesAllocas (function_at m func)
  named func = by (function_in e func).coroutine refl
    where
      by : (t : Bool) → (function_in e func).coroutine ≡ t → NamesAllocas (function_at m func)
      by true is = subst NamesAllocas (sym (coroutine_same e keeps func is)) (k.named func)
      by false is =
          subst NamesAllocas (sym ((finds_alike e).functions func))
          (names_allocas (rooms e func) (function_in e func) (plain_put e func is) (k.named func) (names_low func)
          (phis_low func))

  -- ---- a call that gives a frame

  module _ (s : State) (func : ℕ) (result : Option ℕ) (args : List Arg) (calls : CallsGiven g s func result args)
      (slots : HasItsSlots m s.top) where
    abbrev call : Instr
    call = Instr.Call result calls.must_tail calls.ty (Callee.Named calls.name) args

    abbrev waiting : Activation
    waiting = record s.top { at = s.top.at + 1 }

    abbrev vs : List Value
    vs = arg_values m s.top.values args

    here : slice_get (instrs_of (function_at m s.top.func) s.top.block) s.top.at ≡ Some call
    here = instr_there (function_at m s.top.func) s.top.block s.top.at call calls.there

    by_room : GivesRoom (elided_function (rooms e s.top.func) (function_in e s.top.func)) m
        (length (function_in e s.top.func).names) s.top.block s.top.at args → HasRoom e waiting (last_value vs)
    by_room r =
        let x = found_slot (function_at m s.top.func) (length (function_in e s.top.func).names) s.top.values
        s.top.block s.top.at r.name s.top.slots (named s.top.func) slots.own
        (slots.made r.place r.name
        (subst (λ (h : Function). IsAllocaAt h r.place r.name) (sym ((finds_alike e).functions s.top.func)) r.alloca)
        r.passed) in
        record { block = x.block; leads = r.last s.top.values ∙ x.address; new = x.new r.new }

    -- a coroutine gives none
    no_coroutine : (function_in e s.top.func).coroutine ≡ true → ⊥
    no_coroutine is =
        some_none (given_ramp e.code calls.name) func (sym ((finds_alike e).ramps calls.name) ∙ calls.ramp)
        (keeps.ungiven s.top.func s.top.block s.top.at result calls.must_tail calls.ty calls.name args
        (ap (λ (h : Function). fetch h s.top.block s.top.at) (sym (coroutine_same e keeps s.top.func is))
        ∙ calls.there))

    pub has_room : HasRoom e waiting (last_value vs)
    has_room = by (function_in e s.top.func).coroutine refl
      where
        by : (t : Bool) → (function_in e s.top.func).coroutine ≡ t → HasRoom e waiting (last_value vs)
        by true is = absurd (no_coroutine is)
        by false is =
            by_room
            (gives_room e keeps s.top.func is s.top.block s.top.at func result calls.must_tail calls.ty calls.name
            args calls.ramp
            (ap (λ (h : Function). slice_get (instrs_of h s.top.block) s.top.at)
            (sym ((finds_alike e).functions s.top.func)) ∙ here))

  -- ---- states

  abbrev Bare : State → Type 0
  Bare s = HoldsNone e s

  -- slots and instances are as they were
  quiet : (s u : State) → Rooms (u.top ∷ u.below)
      → ((n : ℕ) → OwnsIn e (u.top ∷ u.below) n → OwnsIn e (s.top ∷ s.below) n) → AreAs s.instances u.instances
      → Bare s → Bare u
  quiet s u rooms owns like h = record {
    rooms = rooms;
    bare = λ n i x own at is.
        let w = like i x at in
        h.bare n i w.was (owns n own) w.there (sym w.block ∙ is);
  }

  -- the topmost activation goes on
  onward : (s u : State) → u.top.func ≡ s.top.func → u.top.slots ≡ s.top.slots
      → ((frame : Value) → u.top.mode ≡ Mode.GivenRamp frame → s.top.mode ≡ Mode.GivenRamp frame)
      → u.below ≡ s.below → AreAs s.instances u.instances → Bare s → Bare u
  onward s u func slots mode below like h =
      quiet s u
      (subst (λ (bs : List Activation). Rooms (u.top ∷ bs)) (sym below) (top_rooms e s.top u.top s.below mode h.rooms))
      (λ n own. by n (subst (λ (bs : List Activation). OwnsIn e (u.top ∷ bs) n) below own)) like h
    where
      by : (n : ℕ) → OwnsIn e (u.top ∷ s.below) n → OwnsIn e (s.top ∷ s.below) n
      by n (inl own) =
          inl
          (subst (λ (p : ℕ × List Slot). HasOwn (length (function_in e p.0).names) p.1 n) (λ j. (func j, slots j)) own)
      by n (inr own) = inr own

  -- another one is on top, which has no slots
  pushed : (s u : State) (at : ℕ) → u.top.slots ≡ []
      → Rooms (u.top ∷ (record s.top { at = at } ∷ s.below)) → u.below ≡ record s.top { at = at } ∷ s.below
      → AreAs s.instances u.instances → Bare s → Bare u
  pushed s u at none rooms below like h =
      quiet s u (subst (λ (bs : List Activation). Rooms (u.top ∷ bs)) (sym below) rooms)
      (λ n own. by n (subst (λ (bs : List Activation). OwnsIn e (u.top ∷ bs) n) below own)) like h
    where
      by : (n : ℕ) → OwnsIn e (u.top ∷ (record s.top { at = at } ∷ s.below)) n → OwnsIn e (s.top ∷ s.below) n
      by n (inl own) =
          absurd (subst (λ (zs : List Slot). HasOwn (length (function_in e u.top.func).names) zs n) none own)
      by n (inr own) = own

  -- it was given no frame
  ungiven_rooms : (s : State) (c : Activation) (at : ℕ) → ((frame : Value) → c.mode ≡ Mode.GivenRamp frame → ⊥)
      → Bare s → Rooms (c ∷ (record s.top { at = at } ∷ s.below))
  ungiven_rooms s c at none h = (
    (λ frame is. absurd (none frame is)),
    top_rooms e s.top (record s.top { at = at }) s.below (λ frame is. is) h.rooms,
  )

  came : (s : State) (v : Option Value) (u : State) → Comes s v u → Bare s → Bare u
  came s v u (Comes.Ends c) h =
      subst Bare (sym c.is)
      (quiet s (record (returned s) { outcome = c.outcome })
      (top_rooms e s.top (returned s).top s.below (λ frame is. is) h.rooms) by (same_as s.instances) h)
    where
      by : (n : ℕ) → OwnsIn e ((returned s).top ∷ s.below) n → OwnsIn e (s.top ∷ s.below) n
      by n (inl own) = absurd own
      by n (inr own) = inr own
  came s v u (Comes.Back c) h =
      subst Bare (sym c.is)
      (quiet s (record (returned s) { top = given_back c.caller s.top.result v; below = c.rest })
      (top_rooms e c.caller (given_back c.caller s.top.result v) c.rest (λ frame is. is)
      (rest_rooms e s.top c.caller c.rest
      (subst (λ (bs : List Activation). Rooms (s.top ∷ bs)) c.below h.rooms)))
      (λ n own. inr (subst (λ (bs : List Activation). OwnsIn e bs n) (sym c.below) own)) (same_as s.instances) h)

  -- ---- a new slot

  grown : (s u : State) (slot : Slot) → slot.block ≡ length s.world.memory → u.top.func ≡ s.top.func
      → u.top.slots ≡ slot ∷ s.top.slots
      → ((frame : Value) → u.top.mode ≡ Mode.GivenRamp frame → s.top.mode ≡ Mode.GivenRamp frame)
      → u.below ≡ s.below → u.instances ≡ s.instances → IsHeldState s → Bare s → Bare u
  grown s u slot next func slots mode below instances q h = record {
    rooms = subst (λ (bs : List Activation). Rooms (u.top ∷ bs)) (sym below)
        (top_rooms e s.top u.top s.below mode h.rooms);
    bare = λ n i x own at is.
        by n i x (subst (λ (bs : List Activation). OwnsIn e (u.top ∷ bs) n) below own)
        (ap (λ (xs : List Instance). slice_get xs i) (sym instances) ∙ at) is;
  }
    where
      by_slot : (n i : ℕ) (x : Instance)
          → HasOwn (length (function_in e s.top.func).names) (slot ∷ s.top.slots) n
          → slice_get s.instances i ≡ Some x → x.block ≡ n → ⊥
      by_slot n i x (inl own) at is =
          let lt = q.blocks i x at in
          let fresh = own.1 in
          absurd (omega (arith, lt, fresh, next, is))
      by_slot n i x (inr own) at is = h.bare n i x (inl own) at is

      by : (n i : ℕ) (x : Instance) → OwnsIn e (u.top ∷ s.below) n → slice_get s.instances i ≡ Some x
          → x.block ≡ n → ⊥
      by n i x (inl own) at is =
          by_slot n i x
          (subst (λ (p : ℕ × List Slot). HasOwn (length (function_in e p.0).names) p.1 n) (λ j. (func j, slots j)) own)
          at is
      by n i x (inr own) at is = h.bare n i x (inr own) at is

  -- ---- a begin

  module _ (s : State) (q : IsHeldState s) (h : Bare s) where
    -- the block in which an instance begins is no such slot's
    begun_apart : (b : ℕ) → IsBegunBy s b → OwnsIn e (s.top ∷ s.below) b → ⊥
    begun_apart b (Heap heap) own =
        no_heap s.world.memory b (q.counts.blocks b (owns_count e (s.top ∷ s.below) b own)) heap
    begun_apart b (Given frame mode leads) own = by s.below refl
      where
        by : (bs : List Activation) → s.below ≡ bs → ⊥
        by [] is = subst (λ (bs : List Activation). Rooms (s.top ∷ bs)) is h.rooms frame mode
        by (c ∷ rest) is =
            let r = (subst (λ (bs : List Activation). Rooms (s.top ∷ bs)) is h.rooms).0 frame mode in
            let same : r.block ≡ b = same_number r.block b (sym (ap block_of r.leads) ∙ leads) in
            room_alone e s.top c rest b
            (subst (λ (bs : List Activation). times_on (s.top ∷ bs) b ≤ 1) is (q.counts.once b))
            (subst (HasNew (length (function_in e c.func).names) c.slots) same r.new)
            (subst (λ (bs : List Activation). OwnsIn e (s.top ∷ bs) b) is own)

    begun_bare : (u : State) → HasBegun s u → Rooms (u.top ∷ u.below)
        → ((n : ℕ) → OwnsIn e (u.top ∷ u.below) n → OwnsIn e (s.top ∷ s.below) n) → Bare u
    begun_bare u b rooms owns = record {
      rooms = rooms;
      bare = λ n i x own at is. by n i x (owns n own) is (b.begins.each i x at);
    }
      where
        by : (n i : ℕ) (x : Instance) → OwnsIn e (s.top ∷ s.below) n → x.block ≡ n
            → IsAs s.instances i x ⊎ (x.block ≡ b.block) → ⊥
        by n i x own is (inl w) = h.bare n i w.was own w.there (sym w.block ∙ is)
        by n i x own is (inr new) =
            begun_apart b.block b.by (subst (λ (j : ℕ). OwnsIn e (s.top ∷ s.below) j) (sym is ∙ new) own)

  -- what the step does at a begin
  fine_is : (s u : State) (r : Result State Cause) → or_undefined g.given s r ≡ u → IsFine u.outcome → r ≡ Ok u
  fine_is s u (Ok v) is fine = ap Ok is
  fine_is s u (Err cause) is fine = absurd (subst (λ (z : State). IsFine z.outcome) (sym is) fine)

  begins_by : (s u : State) → s.outcome ≡ Outcome.Running → framed_step g s ≡ u → IsFine u.outcome → (args : List Arg)
      (result : Option ℕ) → ActsBy g s (Coro Intrinsic.CoroBegin args result) → HasBegun s u
  begins_by s u runs step fine args result acts =
      has_begun g s result (nth (arg_values m s.top.values args) 1) s.top.mode u refl
      (fine_is s u (framed_begin g s result (nth (arg_values m s.top.values args) 1) s.top.mode)
      (sym does ∙ step) fine)
    where
      does : framed_step g s
          ≡ or_undefined g.given s (framed_begin g s result (nth (arg_values m s.top.values args) 1) s.top.mode)
      does =
          ap (framed_advance g s) runs
          ∙ ap (or_undefined g.given s)
          (ap (framed_next g s) acts.there
          ∙ (ap (λ (o : Option (Result State Cause)). unwrap_or o (framed_act g s
          (action_of (framed_context g s) (work_of s) acts.here))) acts.none
          ∙ ap (framed_act g s) acts.acts))

  -- ---- steps

  pub bare_stays : (s u : State) → s.outcome ≡ Outcome.Running → framed_step g s ≡ u → IsFine u.outcome
      → IsHeldState s → Bare s → LeadsTo g s u → Bare u
  bare_stays s _ runs step fine q h (LeadsTo.Works w acts) =
      onward s (settled s w) refl refl (λ frame is. is) refl (same_as s.instances) h
  bare_stays s _ runs step fine q h (LeadsTo.MakesSlot w slot acts) = by s.top.mode refl
    where
      next : slot.block ≡ length s.world.memory
      next =
          (subst (ActionKeeps s.world.memory) acts.acts
          (action_keeps (framed_context g s) (work_of s) acts.here)).0

      z : State
      z = with_slots (settled s w) (slot ∷ s.top.slots)

      after : (from label : ℕ) (o : Option Point) → Bare (enter_after g z from label o)
      after from label None =
          grown s (enter_after g z from label None) slot next refl refl (λ frame is. absurd (cc)) refl refl q h
      after from label (Some p) =
          grown s (enter_after g z from label (Some p)) slot next refl refl (λ frame is. absurd (cc)) refl refl q h

      by : (mode : Mode) → s.top.mode ≡ mode → Bare (framed_slot g (settled s w) slot mode)
      by Mode.Plain is = grown s z slot next refl refl (λ frame is. is) refl refl q h
      by Mode.Ramp is = grown s z slot next refl refl (λ frame is. is) refl refl q h
      by Mode.Resumed is = grown s z slot next refl refl (λ frame is. is) refl refl q h
      by (Mode.GivenRamp frame) is = grown s z slot next refl refl (λ frame is. is) refl refl q h
      by (Mode.Entering from label) is = after from label (alloca_from (function_of g.given s) (s.top.at + 1))
  bare_stays s _ runs step fine q h (LeadsTo.Enters func args result must_tail acts) =
      let c = called m func args result (mode_of (function_at m func)) in
      pushed s _ (s.top.at + 1) refl
      (ungiven_rooms s c (s.top.at + 1) (λ frame is. no_given (function_at m func).coroutine frame is) h) refl
      (same_as s.instances) h
  bare_stays s _ runs step fine q h (LeadsTo.EntersGiven func result args calls) =
      pushed s _ (s.top.at + 1) refl (
        (λ frame is.
            subst (HasRoom e (record s.top { at = s.top.at + 1 })) (same_value _ frame is)
            (has_room s func result args calls (q.slots runs).0)),
        top_rooms e s.top (record s.top { at = s.top.at + 1 }) s.below (λ frame is. is) h.rooms,
      ) refl (same_as s.instances) h
  bare_stays s _ runs step fine q h (LeadsTo.Answers j args result v acts) =
      onward s (gives s result v) refl refl (λ frame is. is) refl (same_as s.instances) h
  bare_stays s _ runs step fine q h (LeadsTo.Passes j args result acts) =
      onward s _ refl refl (λ frame is. is) refl (same_as s.instances) h
  bare_stays s _ runs step fine q h (LeadsTo.Begins args result mem memory block start acts alone taken) =
      begun_bare s q h u (begins_by s u runs step fine args result acts)
      (top_rooms e s.top u.top s.below (λ frame is. is) h.rooms) by
    where
      u : State
      u = gives (begun g.given (with_memory s memory) block start) result mem

      by : (n : ℕ) → OwnsIn e (u.top ∷ s.below) n → OwnsIn e (s.top ∷ s.below) n
      by n (inl own) =
          inl
          (own_left (length (function_in e s.top.func).names) _ s.top.slots n
          (own_joined (length (function_in e s.top.func).names) _ n own))
      by n (inr own) = inr own
  bare_stays s _ runs step fine q h (LeadsTo.Releases args result v acts) =
      let c = changed_stack s (λ x. record x { released = true }) (own_instance s) in
      onward s _ (ap (λ (a : Activation). a.func) c.top) (ap (λ (a : Activation). a.slots) c.top)
      (λ frame is. sym (ap (λ (a : Activation). a.mode) c.top) ∙ is) c.below
      (changed_as s (λ x. record x { released = true }) (λ x. refl) (λ x. refl)) h
  bare_stays s _ runs step fine q h (LeadsTo.Saves args result n x save suspend acts own unfreed) =
      onward s _ refl refl (λ frame is. is) refl
      (set_as s.instances n x
      (record x {
        status = Status.Suspended suspend s.top.values;
        last_save = Some (record { depth = length s.below; save = save });
      }) (own_number s n x own).1 refl refl) h
  bare_stays s _ runs step fine q h (LeadsTo.Suspends args result n x save suspend acts own unfreed) =
      onward s _ refl refl (λ frame is. is) refl
      (set_as s.instances n x
      (record x {
        status = Status.Suspended suspend s.top.values;
        last_save = Some (record { depth = length s.below; save = save });
      }) (own_number s n x own).1 refl refl) h
  bare_stays s _ runs step fine q h (LeadsTo.Wakes j args result y label acts sleeps) =
      after (alloca_from (function_at m y.instance.coroutine) 0)
    where
      sleeper : IsAsleep s y
      sleeper = asleep s (nth (arg_values m s.top.values args) 0) y sleeps

      like : AreAs s.instances (woken_at g s y.number y.instance y.suspend).instances
      like =
          set_as s.instances y.number y.instance (record y.instance { status = Status.Running }) sleeper.there refl
          refl

      after : (o : Option Point)
          → Bare (enter_after g (woken_at g s y.number y.instance y.suspend) y.suspend.block label o)
      after None =
          pushed s (enter_after g (woken_at g s y.number y.instance y.suspend) y.suspend.block label None)
          (s.top.at + 1) refl
          (ungiven_rooms s
          (enter_after g (woken_at g s y.number y.instance y.suspend) y.suspend.block label None).top (s.top.at + 1)
          (λ frame is. absurd (cc)) h) refl like h
      after (Some p) =
          pushed s (enter_after g (woken_at g s y.number y.instance y.suspend) y.suspend.block label (Some p))
          (s.top.at + 1) refl
          (ungiven_rooms s
          (enter_after g (woken_at g s y.number y.instance y.suspend) y.suspend.block label (Some p)).top
          (s.top.at + 1) (λ frame is. absurd (cc)) h) refl like h
  bare_stays s _ runs step fine q h (LeadsTo.EndsRamp args result acts ramp) =
      let c = ended_stack s in
      onward s _ (ap (λ (a : Activation). a.func) c.top) (ap (λ (a : Activation). a.slots) c.top)
      (λ frame is. sym (ap (λ (a : Activation). a.mode) c.top) ∙ is) c.below (ended_as s) h
  bare_stays s _ runs step fine q h (LeadsTo.EndsResumed args result u acts mode back) =
      let c = ended_stack s in
      came (ended s) None u (comes (ended s) None u back)
      (onward s (ended s) (ap (λ (a : Activation). a.func) c.top) (ap (λ (a : Activation). a.slots) c.top)
      (λ frame is. sym (ap (λ (a : Activation). a.mode) c.top) ∙ is) c.below (ended_as s) h)
  bare_stays s _ runs step fine q h (LeadsTo.Deallocates p memory acts dead) =
      let c = gone_stack s (instance_at s.instances p) in
      onward s _ (ap (λ (a : Activation). a.func) c.top) (ap (λ (a : Activation). a.slots) c.top)
      (λ frame is. sym (ap (λ (a : Activation). a.mode) c.top) ∙ is) c.below (gone_as s p) h
  bare_stays s _ runs step fine q h (LeadsTo.GoesTo label acts none) =
      onward s _ refl refl (λ frame is. is) refl (same_as s.instances) h
  bare_stays s _ runs step fine q h (LeadsTo.Leaves label w ws n x acts leaves own may) =
      onward s _ refl refl (λ frame is. is) refl
      (set_as s.instances n x (record x { status = Status.Running }) (own_number s n x own).1 refl refl) h
  bare_stays s _ runs step fine q h (LeadsTo.Returns v u acts back) = came s v u (comes s v u back) h

  -- ---- runs

  pub bare_in_runs : (entry : ℕ) (args : List Word)
      → ((n : ℕ) → IsFine (framed_state_at g entry args n).outcome → IsHeldState (framed_state_at g entry args n))
      → (n : ℕ) → IsFine (framed_state_at g entry args n).outcome → Bare (framed_state_at g entry args n)
  bare_in_runs entry args held n fine =
      runs_keep_by g Bare IsHeldState bare_stays entry args
      (record { rooms = λ frame is. absurd (cc); bare = λ n i x own at. absurd (cc) }) held n fine
