-- Slots of coroutines aren't stack blocks.
use Rattle.std.proofs.Common.{◌≡◌, ◌∙◌, ◌+◌, ◌++◌, inl, inr, ℕ, Bool, true, false, List, [], ◌∷◌, None, Ok, Option, Some, ap, if◌then◌else◌, refl, sym, subst, arith, ◌||◌, ◌&&◌, ◌==◌}
use Rattle.std.specs.Prelude.{filter, negsuc, slice_get}
use Rattle.pass_elide_proof.proofs.PhiValues.{each_as}
use Rattle.pass_elide_proof.proofs.ReleasedKinds.{KeepsKinds, KindsTo, actions_keep_kinds, kinds_block, kinds_deallocated, kinds_slots, kinds_themselves, kinds_then}
use Rattle.pass_elide_proof.specs.StepCases.{ActsBy, IsTaken, LeadsTo, ended, saved_at}
use Rattle.pass_elide_runs.proofs.NewSlots.{IsNewOf, new_of}
use Rattle.pass_elide_runs.proofs.Runs.{runs_keep}
use Rattle.pass_elide_runs.proofs.Stacks.{Comes, StaysOn, changed_stack, comes, ended_stack, gone_stack, slotted_on, woken_at}
use Rattle.pass_elide_runs.specs.Kinds.{HaveSlotKinds, HasSlotKinds, IsSlotKind}
use Rattle.pass_elide_proof.proofs.pass_proofs.run_laws.access.Walk.{Comes as ComesBy}
use Rattle.pass_elide_proof.specs.pass_proofs.ir_base.declared.cause.Cause.{Cause}
use Rattle.pass_elide_proof.specs.pass_proofs.ir_base.declared.outcome.Outcome.{Outcome}
use Rattle.pass_elide_proof.specs.pass_proofs.ir_base.declared.outcome.Word.{Word}
use Rattle.pass_elide_proof.specs.pass_proofs.ir_model.Names.{function_at}
use Rattle.pass_elide_proof.specs.pass_proofs.ir_model.declared.module.Module.{Module}
use Rattle.pass_elide_proof.specs.pass_proofs.ir_paths.declared.point.Point.{Point}
use Rattle.pass_elide_proof.specs.pass_proofs.run_agreement.Machines.{IsFine}
use Rattle.pass_elide_proof.specs.pass_proofs.run_framed.Framed.{FramedGiven, alloca_from, disown_given, enter_after, framed_context, framed_finish, framed_slot, framed_state_at, is_stack_block}
use Rattle.pass_elide_proof.specs.pass_proofs.run_laws.changed.Changed.{Each}
use Rattle.pass_elide_proof.specs.pass_proofs.run_memory.Memory.{check, disown, disowned, may_be_owned, own, owned_to, same_kind, with_block}
use Rattle.pass_elide_proof.specs.pass_proofs.run_memory.declared.block.Kind.{Kind}
use Rattle.pass_elide_proof.specs.pass_proofs.run_memory.declared.block.MemoryBlock.{MemoryBlock}
use Rattle.pass_elide_proof.specs.pass_proofs.run_memory.declared.pointer.Pointer.{Pointer}
use Rattle.pass_elide_proof.specs.pass_proofs.run_memory.declared.pointer.Value.{Value}
use Rattle.pass_elide_proof.specs.pass_proofs.run_source.Source.{change_own, enter_block, finish, given_back, if_let_go, let_go, may_be_freed, new_instance, release, returned, slots_of}
use Rattle.pass_elide_proof.specs.pass_proofs.run_source.State.{function_of, gives, instance_at, next, own_frame, own_instance, settled, with_left, with_memory, with_slots, with_status, work_of}
use Rattle.pass_elide_proof.specs.pass_proofs.run_source.declared.state.Activation.{Activation}
use Rattle.pass_elide_proof.specs.pass_proofs.run_source.declared.state.Instance.{Instance}
use Rattle.pass_elide_proof.specs.pass_proofs.run_source.declared.state.Mode.{Mode}
use Rattle.pass_elide_proof.specs.pass_proofs.run_source.declared.state.State.{State}
use Rattle.pass_elide_proof.specs.pass_proofs.run_source.declared.state.Status.{Status}
use Rattle.pass_elide_proof.specs.pass_proofs.run_step.Step.{Action, Done, NewSlot, deallocated, without_slots}
use Rattle.pass_elide_proof.specs.pass_proofs.run_step.Values.{integer, truth_value}
use Rattle.pass_elide_proof.specs.pass_proofs.run_step.declared.world.Slot.{Slot}

-- ---- memory

own_kinds : (m : List MemoryBlock) (p : Value) (n : ℕ) (kind : Kind) (k : List MemoryBlock) → own m p n kind ≡ Ok k
    → KeepsKinds m k
own_kinds m (Value.Ptr (Pointer.At b o)) n kind k h = on ((o.bits == 0) && may_be_owned kind n (slice_get m b)) h
  where
    on : (t : Bool) → check t Cause.Begin (Ok (with_block m b (owned_to n))) ≡ Ok k → KeepsKinds m k
    on true h =
        let same : with_block m b (owned_to n) ≡ k = cc in
        subst (KeepsKinds m) same (kinds_block m b (owned_to n) (λ x. refl))
    on false h = absurd (cc)
own_kinds m (Value.Ptr Pointer.Null) n kind k h = absurd (cc)
own_kinds m (Value.Ptr (Pointer.Func f)) n kind k h = absurd (cc)
own_kinds m Value.Poison n kind k h = absurd (cc)
own_kinds m (Value.Int x) n kind k h = absurd (cc)

dead_kinds : (m : List MemoryBlock) (p : Value) (k : List MemoryBlock) → deallocated m p ≡ Ok k → KeepsKinds m k
dead_kinds m p k h = subst (KindsTo m) h (kinds_deallocated m p)

disowned_kinds : (s : State) (o : Option (ℕ × Instance)) → KeepsKinds s.world.memory (disown_given s o).world.memory
disowned_kinds s None = kinds_themselves s.world.memory
disowned_kinds s (Some (i, x)) = on (is_stack_block s.world.memory x.block && (x.start == 0))
  where
    on : (t : Bool)
        → KeepsKinds s.world.memory (if t then with_memory s (disown s.world.memory x.block) else s).world.memory
    on true = kinds_block s.world.memory x.block disowned (λ z. refl)
    on false = kinds_themselves s.world.memory

ended_kinds : (s : State) → KeepsKinds s.world.memory (ended s).world.memory
ended_kinds s = on s.top.has_left
  where
    on : (t : Bool) → KeepsKinds s.world.memory (if t then s else framed_finish s).world.memory
    on true = kinds_themselves s.world.memory
    on false =
        kinds_then s.world.memory (finish s).world.memory (framed_finish s).world.memory
        (kinds_slots s.world.memory (slots_of (own_instance s))) (disowned_kinds (finish s) (own_instance s))

changed_kinds : (s : State) (f : Instance → Instance) (o : Option (ℕ × Instance))
    → KeepsKinds s.world.memory (change_own s f o).world.memory
changed_kinds s f None = kinds_themselves s.world.memory
changed_kinds s f (Some (i, x)) = kinds_themselves s.world.memory

gone_kinds : (s : State) (o : Option (ℕ × Instance)) → KeepsKinds s.world.memory (if_let_go s o).world.memory
gone_kinds s None = kinds_themselves s.world.memory
gone_kinds s (Some (i, x)) = on (may_be_freed x)
  where
    on : (t : Bool) → KeepsKinds s.world.memory (if t then let_go s i x else s).world.memory
    on true =
        kinds_then s.world.memory (without_slots s.world.memory x.slots)
        (disown (without_slots s.world.memory x.slots) x.block) (kinds_slots s.world.memory x.slots)
        (kinds_block (without_slots s.world.memory x.slots) x.block disowned (λ z. refl))
    on false = kinds_themselves s.world.memory

or_false : (b : Bool) → (b || false) ≡ b
or_false true = refl
or_false false = refl

-- what is no stack block stays none
slot_stays : (m k : List MemoryBlock) → KeepsKinds m k → (z : Slot) → IsSlotKind m z → IsSlotKind k z
slot_stays m k keeps z h = record {
  there = let many = keeps.many in let lt = h.there in omega (arith, many, lt);
  kind = sym (or_false (is_stack_block k z.block))
      ∙ (keeps.given (new_instance 0 z.block 0) h.there ∙ (or_false (is_stack_block m z.block) ∙ h.kind));
}

slots_stay : (m k : List MemoryBlock) → KeepsKinds m k → (zs : List Slot) → Each (IsSlotKind m) zs
    → Each (IsSlotKind k) zs
slots_stay m k keeps zs h = each_as (IsSlotKind m) (IsSlotKind k) (slot_stays m k keeps) zs h

filter_each : (P : Slot → Type 0) (test : Slot → Bool) (zs : List Slot) → Each P zs → Each P (filter test zs)
filter_each P test [] h = tt
filter_each P test (z ∷ zs) h = by (test z) (filter_each P test zs h.1)
  where
    by : (t : Bool) → Each P (filter test zs) → Each P (if t then z ∷ filter test zs else filter test zs)
    by true rest = (h.0, rest)
    by false rest = rest

module _ (m : Module) where
  act_stays : (one two : List MemoryBlock) → KeepsKinds one two → (a c : Activation) → c.func ≡ a.func
      → c.slots ≡ a.slots → HasSlotKinds m one a → HasSlotKinds m two c
  act_stays one two keeps a c func slots h is =
      subst (λ (zs : List Slot). Each (IsSlotKind two) zs) (sym slots)
      (slots_stay one two keeps a.slots (h (ap (λ (n : ℕ). (function_at m n).coroutine) (sym func) ∙ is)))

  acts_stay : (one two : List MemoryBlock) → KeepsKinds one two → (bs : List Activation)
      → Each (HasSlotKinds m one) bs → Each (HasSlotKinds m two) bs
  acts_stay one two keeps bs h =
      each_as (HasSlotKinds m one) (HasSlotKinds m two) (λ a k. act_stays one two keeps a a refl refl k) bs h

module _ (g : FramedGiven) where
  abbrev m : Module
  m = g.given.code

  abbrev On : State → Type 0
  On s = HaveSlotKinds m s

  -- the same function and slots, above the same
  onward : (s t : State) → KeepsKinds s.world.memory t.world.memory → t.top.func ≡ s.top.func
      → t.top.slots ≡ s.top.slots → t.below ≡ s.below → On s → On t
  onward s t keeps func slots below h = (
    act_stays m s.world.memory t.world.memory keeps s.top t.top func slots h.0,
    subst (λ (bs : List Activation). Each (HasSlotKinds m t.world.memory) bs) (sym below)
        (acts_stay m s.world.memory t.world.memory keeps s.below h.1),
  )

  same_memory : (s : State) → KeepsKinds s.world.memory s.world.memory
  same_memory s = kinds_themselves s.world.memory

  came : (s : State) (v : Option Value) (u : State) → Comes s v u → On s → On u
  came s v u (Comes.Ends k) h =
      subst On (sym k.is)
      ((λ is. tt), acts_stay m s.world.memory (returned s).world.memory keeps s.below h.1)
    where
      keeps : KeepsKinds s.world.memory (returned s).world.memory
      keeps = kinds_slots s.world.memory s.top.slots
  came s v u (Comes.Back k) h =
      subst On (sym k.is) (
        act_stays m s.world.memory (returned s).world.memory keeps k.caller
            (given_back k.caller s.top.result v) refl refl
            rest.0,
        acts_stay m s.world.memory (returned s).world.memory keeps k.rest rest.1,
      )
    where
      keeps : KeepsKinds s.world.memory (returned s).world.memory
      keeps = kinds_slots s.world.memory s.top.slots

      rest : Each (HasSlotKinds m s.world.memory) (k.caller ∷ k.rest)
      rest = subst (λ (bs : List Activation). Each (HasSlotKinds m s.world.memory) bs) k.below h.1

  begun_kinds : (s : State) (memory : List MemoryBlock) → IsTaken g s memory → KeepsKinds s.world.memory memory
  begun_kinds s memory (inl taken) =
      own_kinds s.world.memory taken.0 (own_frame g.given s).size taken.1.0 memory taken.1.1
  begun_kinds s memory (inr same) = subst (KeepsKinds s.world.memory) (sym same) (same_memory s)

  all_joined : (P : Slot → Type 0) (xs : List Slot) → Each P xs → Each P (xs ++ [])
  all_joined P [] h = tt
  all_joined P (x ∷ xs) h = (h.0, all_joined P xs h.1)

  by_action : (s : State) (a : Action) (acts : ActsBy g s a)
      → ComesBy (KeepsKinds s.world.memory) (λ k. Unit {0}) s.world.memory a
  by_action s a acts =
      subst (ComesBy (KeepsKinds s.world.memory) (λ k. Unit {0}) s.world.memory) acts.acts
      (actions_keep_kinds (framed_context g s) (work_of s) acts.here)

  pub kinds_stay : (s u : State) → s.outcome ≡ Outcome.Running → Unit {0} → On s → LeadsTo g s u → On u
  kinds_stay s _ runs q h (LeadsTo.Works w acts) =
      onward s (settled s w) (by_action s (Done w) acts) refl refl refl h
  kinds_stay s _ runs q h (LeadsTo.MakesSlot w slot acts) =
      onward z (framed_slot g (settled s w) slot s.top.mode) (memory s.top.mode) k.func k.slots k.below grown
    where
      z : State
      z = with_slots (settled s w) (slot ∷ s.top.slots)

      k : StaysOn z (framed_slot g (settled s w) slot s.top.mode)
      k = slotted_on g (settled s w) slot s.top.mode

      keeps : KeepsKinds s.world.memory w.world.memory
      keeps = by_action s (NewSlot w slot) acts

      new : IsNewOf (framed_context g s) (work_of s) acts.here w slot
      new = new_of g s w slot acts

      new_kind : (function_of g.given s).coroutine ≡ true → is_stack_block w.world.memory slot.block ≡ false
      new_kind is =
          new.kind
          ∙ ap (λ (t : Bool). same_kind (if t then Kind.Slot else Kind.Stack) Kind.Stack) is

      grown : On z
      grown = (
        (λ is. (
          record { there = new.there; kind = new_kind is },
          slots_stay s.world.memory w.world.memory keeps s.top.slots (h.0 is),
        )),
        acts_stay m s.world.memory w.world.memory keeps s.below h.1,
      )

      after : (from label : ℕ) (o : Option Point)
          → KeepsKinds w.world.memory (enter_after g z from label o).world.memory
      after from label None = kinds_themselves w.world.memory
      after from label (Some p) = kinds_themselves w.world.memory

      memory : (mode : Mode) → KeepsKinds w.world.memory (framed_slot g (settled s w) slot mode).world.memory
      memory Mode.Plain = kinds_themselves w.world.memory
      memory Mode.Ramp = kinds_themselves w.world.memory
      memory Mode.Resumed = kinds_themselves w.world.memory
      memory (Mode.GivenRamp frame) = kinds_themselves w.world.memory
      memory (Mode.Entering from label) = after from label (alloca_from (function_of g.given s) (s.top.at + 1))
  kinds_stay s _ runs q h (LeadsTo.Enters func args result must_tail acts) = ((λ is. tt), (h.0, h.1))
  kinds_stay s _ runs q h (LeadsTo.EntersGiven func result args calls) = ((λ is. tt), (h.0, h.1))
  kinds_stay s _ runs q h (LeadsTo.Answers i args result v acts) =
      onward s (gives s result v) (same_memory s) refl refl refl h
  kinds_stay s _ runs q h (LeadsTo.Passes i args result acts) = onward s (next s) (same_memory s) refl refl refl h
  kinds_stay s _ runs q h (LeadsTo.Begins args result mem memory block start acts alone taken) = (
    (λ is.
        all_joined (IsSlotKind memory) _
        (filter_each (IsSlotKind memory) _ s.top.slots
        (slots_stay s.world.memory memory (begun_kinds s memory taken) s.top.slots (h.0 is)))),
    acts_stay m s.world.memory memory (begun_kinds s memory taken) s.below h.1,
  )
  kinds_stay s _ runs q h (LeadsTo.Releases args result v acts) =
      let k = changed_stack s (λ x. record x { released = true }) (own_instance s) in
      onward s (gives (release s) result v)
      (changed_kinds s (λ x. record x { released = true }) (own_instance s)) (ap (λ (a : Activation). a.func) k.top)
      (ap (λ (a : Activation). a.slots) k.top) k.below h
  kinds_stay s _ runs q h (LeadsTo.Saves args result i x save suspend acts own unfreed) =
      onward s (next (saved_at s i x save suspend)) (same_memory s) refl refl refl h
  kinds_stay s _ runs q h (LeadsTo.Suspends args result i x save suspend acts own unfreed) =
      onward s (gives (saved_at s i x save suspend) result (integer 8 (negsuc 0))) (same_memory s) refl refl refl h
  kinds_stay s _ runs q h (LeadsTo.Wakes i args result y label acts sleeps) =
      after (alloca_from (function_at m y.instance.coroutine) 0)
    where
      after : (o : Option Point)
          → On (enter_after g (woken_at g s y.number y.instance y.suspend) y.suspend.block label o)
      after None = ((λ is. tt), (h.0, h.1))
      after (Some p) = ((λ is. tt), (h.0, h.1))
  kinds_stay s _ runs q h (LeadsTo.EndsRamp args result acts ramp) =
      let k = ended_stack s in
      onward s (gives (ended s) result (truth_value false)) (ended_kinds s) (ap (λ (a : Activation). a.func) k.top)
      (ap (λ (a : Activation). a.slots) k.top) k.below h
  kinds_stay s _ runs q h (LeadsTo.EndsResumed args result u acts mode back) =
      let k = ended_stack s in
      came (ended s) None u (comes (ended s) None u back)
      (onward s (ended s) (ended_kinds s) (ap (λ (a : Activation). a.func) k.top)
      (ap (λ (a : Activation). a.slots) k.top) k.below h)
  kinds_stay s _ runs q h (LeadsTo.Deallocates p memory acts dead) =
      let o = instance_at s.instances p in
      let k = gone_stack s o in
      onward s (next (with_memory (if_let_go s o) memory))
      (kinds_then s.world.memory (if_let_go s o).world.memory memory (gone_kinds s o)
      (dead_kinds (if_let_go s o).world.memory p memory dead)) (ap (λ (a : Activation). a.func) k.top)
      (ap (λ (a : Activation). a.slots) k.top) k.below h
  kinds_stay s _ runs q h (LeadsTo.GoesTo label acts none) =
      onward s (enter_block g.given s label) (same_memory s) refl refl refl h
  kinds_stay s _ runs q h (LeadsTo.Leaves label w ws i x acts leaves own may) =
      onward s (enter_block g.given (with_left (with_status s i x Status.Running) false) label)
      (same_memory s) refl refl
      refl h
  kinds_stay s _ runs q h (LeadsTo.Returns v u acts back) = came s v u (comes s v u back) h

  pub kinds_in_runs : (entry : ℕ) (args : List Word) (n : ℕ) → IsFine (framed_state_at g entry args n).outcome
      → On (framed_state_at g entry args n)
  kinds_in_runs entry args n fine =
      runs_keep g On (λ s. Unit {0}) kinds_stay entry args ((λ is. tt), tt) (λ k ok. tt) n fine
