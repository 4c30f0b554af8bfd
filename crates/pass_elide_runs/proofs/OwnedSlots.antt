-- In the framed run slots hold no frames, and markers mark slots.
use Rattle.std.proofs.Common.{◌≡◌, ◌≢◌, inl, inr, ◌≤◌, ◌∙◌, ◌+◌, ℕ, zero, suc, true, false, List, [], ◌∷◌, Option, Some, ap, sym, arith, ◌||◌, ◌==◌}
use Rattle.std.specs.Option.{option_map_or}
use Rattle.std.specs.Prelude.{slice_get}
use Rattle.pass_elide_proof.specs.Elision.{Elision, function_in}
use Rattle.pass_elide_proof.specs.Ends.{IsOwnSlot}
use Rattle.pass_elide_proof.specs.Marking.{first_operand}
use Rattle.pass_elide_runs.specs.Kinds.{HasSlotKinds, IsSlotKind}
use Rattle.pass_elide_runs.specs.Marks.{HasPlainAllocas, MarksAlloca, MarksOwnSlot}
use Rattle.pass_elide_runs.specs.Slots.{HasItsSlots, HasSlotOf, IsSlotOf, NamesAllocas}
use Rattle.pass_elide_proof.proofs.pass_proofs.ir_laws.facts.Truth.{itself}
use Rattle.pass_elide_proof.specs.pass_proofs.ir_model.declared.module.Function.{Function}
use Rattle.pass_elide_proof.specs.pass_proofs.ir_model.declared.module.Module.{Module}
use Rattle.pass_elide_proof.specs.pass_proofs.ir_model.declared.operand.Arg.{Arg}
use Rattle.pass_elide_proof.specs.pass_proofs.ir_model.declared.operand.Operand.{Operand}
use Rattle.pass_elide_proof.specs.pass_proofs.ir_paths.Windows.{operand_at}
use Rattle.pass_elide_proof.specs.pass_proofs.run_framed.Framed.{is_stack_block}
use Rattle.pass_elide_proof.specs.pass_proofs.run_laws.changed.Changed.{Each}
use Rattle.pass_elide_proof.specs.pass_proofs.run_memory.Memory.{same_kind}
use Rattle.pass_elide_proof.specs.pass_proofs.run_memory.declared.block.Kind.{Kind}
use Rattle.pass_elide_proof.specs.pass_proofs.run_memory.declared.block.MemoryBlock.{MemoryBlock}
use Rattle.pass_elide_proof.specs.pass_proofs.run_source.declared.state.Instance.{Instance}
use Rattle.pass_elide_proof.specs.pass_proofs.run_source.declared.state.State.{State}
use Rattle.pass_elide_proof.specs.pass_proofs.run_step.Step.{block_of}
use Rattle.pass_elide_proof.specs.pass_proofs.run_step.Values.{Env, arg_values, nth, operand_value, pointer_to, value_in}
use Rattle.pass_elide_proof.specs.pass_proofs.run_step.declared.world.Slot.{Slot}
use Rattle.run_slots.specs.Slots.{IsSlotBlock, IsSlottedState, is_alloca_block, once_if, times, times_in, times_on}

-- ---- operands

nth_local : (m : Module) (env : Env) (args : List Arg) (k name : ℕ) → operand_at args k ≡ Operand.Local name
    → nth (arg_values m env args) k ≡ value_in env name
nth_local m env [] k name h = absurd (cc)
nth_local m env (a ∷ args) zero name h = ap (operand_value m env a.ty) h
nth_local m env (a ∷ args) (suc k) name h = nth_local m env args k name h

one_block : (a b : ℕ) → Some a ≡ Some b → a ≡ b
one_block a b h = cc

-- ---- slots of the topmost activation

module _ (s : State) (slotted : IsSlottedState s) where
  -- the block of a slot of some activation
  abbrev IsListedSlot : ℕ → Type 0
  IsListedSlot n = 1 ≤ times_on (s.top ∷ s.below) n

  slot_block : (n : ℕ) → IsListedSlot n → IsSlotBlock s.world.memory n
  slot_block n many = slotted.slotted.there n (more (times_on (s.top ∷ s.below) n) (times_in n s.instances) many)
    where
      more : (a b : ℕ) → 1 ≤ a → 1 ≤ a + b
      more a b le = omega (arith, le)

  heap_none : (x y : MemoryBlock) → x ≡ y → x.kind ≡ Kind.Allocator → is_alloca_block y ≡ true → ⊥
  heap_none x y same heap made = no (sym made ∙ (ap is_alloca_block (sym same) ∙ kinds))
    where
      kinds : is_alloca_block x ≡ false
      kinds = ap (λ (k : Kind). same_kind k Kind.Slot || same_kind k Kind.Stack) heap

      no : true ≡ false → ⊥
      no e = cc

  -- no frame lies in it
  pub no_frame : (n : ℕ) → IsListedSlot n → (i : ℕ) (x : Instance) → slice_get s.instances i ≡ Some x → x.block ≢ n
  no_frame n many i x at same =
      let frame = slotted.slotted.frames i x at in
      let slot = slot_block n many in
      heap_none frame.block slot.block
      (one frame.block slot.block
      (sym frame.there ∙ (ap (slice_get s.world.memory) same ∙ slot.there))) frame.heap slot.made
    where
      one : (a b : MemoryBlock) → Some a ≡ Some b → a ≡ b
      one a b h = cc

  first_times : (z : Slot) (zs : List Slot) → 1 ≤ times z.block (z ∷ zs)
  first_times z zs =
      let is = ap once_if (itself z.block) in
      let n = times z.block zs in
      more (once_if (z.block == z.block)) n is
    where
      more : (a b : ℕ) → a ≡ 1 → 1 ≤ a + b
      more a b is = omega (arith, is)

  more_times : (n : ℕ) (z : Slot) (zs : List Slot) → 1 ≤ times n zs → 1 ≤ times n (z ∷ zs)
  more_times n z zs le = more (once_if (z.block == n)) (times n zs) le
    where
      more : (a b : ℕ) → 1 ≤ b → 1 ≤ a + b
      more a b le = omega (arith, le)

  own_times : (n : ℕ) → 1 ≤ times n s.top.slots → IsListedSlot n
  own_times n le = more (times n s.top.slots) (times_on s.below n) le
    where
      more : (a b : ℕ) → 1 ≤ a → 1 ≤ a + b
      more a b le = omega (arith, le)

  module _ (e : Elision) (has : HasItsSlots e.code s.top) (names : NamesAllocas (function_in e s.top.func)) where
    abbrev f : Function
    f = function_in e s.top.func

    kind_is : (z : Slot) (x : MemoryBlock) → slice_get s.world.memory z.block ≡ Some x
        → is_stack_block s.world.memory z.block ≡ false → same_kind x.kind Kind.Stack ≡ false
    kind_is z x at none =
        sym (ap (λ (o : Option MemoryBlock). option_map_or (λ
        (y : MemoryBlock). same_kind y.kind Kind.Stack) o false) at)
        ∙ none

    all_own : HasPlainAllocas e s.top.func → (zs : List Slot)
        → ((n : ℕ) → 1 ≤ times n zs → 1 ≤ times n s.top.slots)
        → Each (IsSlotOf f s.top.values s.top.block s.top.at) zs → Each (IsSlotKind s.world.memory) zs
        → Each (IsOwnSlot e s) zs
    all_own plain [] among h k = tt
    all_own plain (z ∷ zs) among h k =
        let slot = slot_block z.block (own_times z.block (among z.block (first_times z zs))) in (
          record {
            there = slot.block;
            is_there = slot.there;
            kind = kind_is z slot.block slot.there k.0.kind;
            own = no_frame z.block (own_times z.block (among z.block (first_times z zs)));
            address = h.0.address names;
            alike = λ ramp given. plain h.0.place z.alloca ramp given h.0.alloca;
          },
          all_own plain zs (λ n le. among n (more_times n z zs le)) h.1 k.1,
        )

    -- slots of a coroutine's activation hold no frames
    pub own_slots : HasPlainAllocas e s.top.func → (function_in e s.top.func).coroutine ≡ true
        → HasSlotKinds e.code s.world.memory s.top → Each (IsOwnSlot e s) s.top.slots
    own_slots plain is kinds = all_own plain s.top.slots (λ n le. le) has.own (kinds is)

    -- ---- markers

    record IsFoundSlot (name : ℕ) : Type 0 where
      slot : Slot
      named : slot.alloca ≡ name
      is : IsSlotOf f s.top.values s.top.block s.top.at slot
      many : 1 ≤ times slot.block s.top.slots

    find_slot : (name : ℕ) (zs : List Slot) → ((n : ℕ) → 1 ≤ times n zs → 1 ≤ times n s.top.slots)
        → Each (IsSlotOf f s.top.values s.top.block s.top.at) zs → HasSlotOf zs name → IsFoundSlot name
    find_slot name [] among h has = absurd has
    find_slot name (z ∷ zs) among h (inl named) = record {
      slot = z;
      named = named;
      is = h.0;
      many = among z.block (first_times z zs);
    }
    find_slot name (z ∷ zs) among h (inr rest) = find_slot name zs (λ n le. among n (more_times n z zs le)) h.1 rest

    pub marks_slot : (args : List Arg) → MarksAlloca f s.top.block s.top.at args → MarksOwnSlot e s args
    marks_slot args k =
        by (find_slot k.name s.top.slots (λ n le. le) has.own (has.made k.place k.name k.alloca k.passed))
      where
        by : IsFoundSlot k.name → MarksOwnSlot e s args
        by x = record {
          block = x.slot.block;
          leads = ap block_of is;
          bare = λ b i y leads at same.
              no_frame x.slot.block (own_times x.slot.block x.many) i y at
              (same ∙ one_block b x.slot.block (sym leads ∙ ap block_of is));
        }
          where
            is : first_operand e s args 1 ≡ pointer_to x.slot.block
            is =
                nth_local e.code s.top.values args 1 k.name k.takes
                ∙ (ap (value_in s.top.values) (sym x.named) ∙ x.is.address names)
