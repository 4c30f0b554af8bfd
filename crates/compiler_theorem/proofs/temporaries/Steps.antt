-- A step by hooks keeps what blocks are to slots.
use Rattle.std.proofs.Common.{◌≡◌, ℕ, zero, suc, Bool, true, false, List, [], ◌∷◌, length, Option}
use Rattle.std.proofs.Common.{Some, None, Result, Ok, Err, refl, sym, ap, ◌∙◌, subst, if◌then◌else◌, ◌==◌, ◌||◌}
use Rattle.std.proofs.Common.{⊎_elim, arith}
use Rattle.std.proofs.lemmas.Bool.{cases_eq}
use Rattle.std.specs.List.{list_any}
use Rattle.std.specs.Prelude.{slice_get, unwrap_or}
use Rattle.compiler.specs.ir_base.declared.cause.Cause.{Cause}
use Rattle.compiler.specs.ir_base.declared.outcome.Outcome.{Outcome}
use Rattle.compiler.specs.ir_model.Layout.{size_of}
use Rattle.compiler.specs.ir_model.Names.{function_at, is_local}
use Rattle.compiler.specs.ir_model.declared.instr.Instr.{Instr}
use Rattle.compiler.specs.ir_model.declared.module.Block.{Block}
use Rattle.compiler.specs.ir_model.declared.module.Function.{Function}
use Rattle.compiler.specs.ir_model.declared.module.Module.{Module}
use Rattle.compiler.specs.ir_model.declared.operand.Arg.{Arg}
use Rattle.compiler.specs.ir_model.declared.operand.Callee.{Callee}
use Rattle.compiler.specs.ir_model.declared.operand.Intrinsic.{Intrinsic}
use Rattle.compiler.specs.ir_model.declared.operand.Operand.{Operand}
use Rattle.compiler.specs.ir_paths.Windows.{instr_at, instr_in, is_call_of, operand_at}
use Rattle.compiler.specs.ir_paths.declared.point.Point.{Point}
use Rattle.compiler_theorem.proofs.temporaries.Blocks.{act_stays}
use Rattle.compiler_theorem.proofs.temporaries.Memory.{GivesUse, IsNewUse, nothing_behind, step_used}
use Rattle.compiler_theorem.proofs.temporaries.Names.{act_fine}
use Rattle.compiler_theorem.specs.temporaries.Uses.{AreMarkersNamedOn, HasUses, HoldsUse, IsAbsent, IsSparedBy}
use Rattle.compiler_theorem.specs.temporaries.Uses.{IsUsedAt, IsUsedSlot, KeepsNamed, KeepsUses, Marked, Other}
use Rattle.compiler_theorem.specs.temporaries.Uses.{StaysNamed, StaysUsed}
use Rattle.compiler_theorem.specs.temporaries.Uses.{Unmarked, Use}
use Rattle.pass_frames_meaning.proofs.sized.Slotwise.{Fresh, Makes, act_slotwise}
use Rattle.pass_frames_meaning.specs.Owned.{AreGivenApart}
use Rattle.pass_frames_meaning.specs.Sized.{AreSlotwise, AreSlotwiseIn, AreSlotwiseOn, IsSlotwise, KeepsSlotwise}
use Rattle.pass_frames_meaning.specs.Sized.{StaysSlotwise}
use Rattle.pass_frames_meaning.proofs.run_hooks.alive.Marks.{second}
use Rattle.pass_frames_meaning.specs.run_hooks.Hooks.{Hooks, hooked_act, hooked_advance, hooked_context, hooked_next}
use Rattle.pass_frames_meaning.specs.run_hooks.Hooks.{step_of}
use Rattle.pass_frames_meaning.specs.run_hooks.Reached.{IsReachedState}
use Rattle.pass_frames_meaning.specs.run_hooks.alive.Alive.{MarksAlloca}
use Rattle.compiler.proofs.rule_laws.rules.sources.Places.{instr_there, point}
use Rattle.compiler.specs.run_laws.access.Changed.{IsFull}
use Rattle.compiler.specs.run_memory.declared.block.MemoryBlock.{MemoryBlock}
use Rattle.compiler.specs.run_source.State.{function_of, next, or_undefined, settled, work_of}
use Rattle.compiler.specs.run_source.declared.state.Activation.{Activation}
use Rattle.compiler.specs.run_source.declared.state.Instance.{Instance}
use Rattle.compiler.specs.run_source.declared.state.State.{State}
use Rattle.compiler.specs.run_step.Step.{Action, AtInstr, Coro, Deallocate, Done, Enter, Fetched, GoTo, NewSlot}
use Rattle.compiler.specs.run_step.Step.{Return, Stuck, Work, action_of, alloca_kind, block_of, fetch, has_markers}
use Rattle.compiler.specs.run_step.Step.{is_marker_of}
use Rattle.compiler.specs.run_step.declared.world.Slot.{Slot}

-- ---- a marker names its alloca

any_at : {A : Type 0} (t : A → Bool) (xs : List A) (n : ℕ) (x : A) → slice_get xs n ≡ Some x → t x ≡ true
    → list_any t xs ≡ true
any_at t [] n x e h = absurd (cc)
any_at t (y ∷ xs) zero x e h =
    let same : y ≡ x = cc in
    ap (λ (b : Bool). b || list_any t xs) (ap t same ∙ h)
any_at t (y ∷ xs) (suc n) x e h = or_more (t y) (list_any t xs) (any_at t xs n x e h)
  where
    or_more : (b c : Bool) → c ≡ true → (b || c) ≡ true
    or_more true c d = refl
    or_more false c d = d

marked_at : (f : Function) (v : ℕ) (p : Point) (j : Instr) → instr_at f p ≡ Some j → is_marker_of v j ≡ true
    → has_markers f v ≡ true
marked_at f v p j e mark = on (slice_get f.blocks p.block) refl e
  where
    on : (o : Option Block) → slice_get f.blocks p.block ≡ o → instr_in o p.at ≡ Some j → has_markers f v ≡ true
    on None d h = absurd (cc)
    on (Some b) d h =
        any_at (λ (c : Block). list_any (is_marker_of v) c.instrs) f.blocks p.block b d
        (any_at (is_marker_of v) b.instrs p.at j h mark)

takes_local : (args : List Arg) (v : ℕ) → operand_at args 1 ≡ Operand.Local v
    → list_any (λ (a : Arg). is_local v a.value) args ≡ true
takes_local [] v e = absurd (cc)
takes_local (a ∷ []) v e = absurd (cc)
takes_local (a ∷ b ∷ args) v e =
    any_at (λ (a : Arg). is_local v a.value) (a ∷ b ∷ args) 1 b refl (ap (is_local v) e ∙ itself v)
  where
    itself : (v : ℕ) → (v == v) ≡ true
    itself v = grind arith

-- an end takes an alloca
abbrev pub AreEndsOfAllocas : Module → Type 0
AreEndsOfAllocas m =
    (func : ℕ) (p : Point) (i : Instr) → fetch (function_at m func) p.block p.at ≡ AtInstr i
    → is_call_of Intrinsic.LifetimeEnd i ≡ true → MarksAlloca (function_at m func) i

-- ---- uses behind a step

-- what the block is to the slot that the alloca at the place makes
abbrev slot_use : Module → Function → Fetched → Use
slot_use m f (AtInstr (Instr.Alloca name ty align)) =
    if has_markers f name then Marked
    else Unmarked (record { kind = alloca_kind f; size = size_of m ty; align = align })
slot_use m f _ = Other

abbrev uses_after : Use → Action → (ℕ → Use) → ℕ → Use
uses_after u (NewSlot w slot) uses n = if n == slot.block then u else uses n
uses_after u _ uses n = uses n

if_same : (u : Use) (uses : ℕ → Use) (n : ℕ) → (if n == n then u else uses n) ≡ u
if_same u uses n = ap (λ (b : Bool). if b then u else uses n) (itself n)
  where
    itself : (v : ℕ) → (v == v) ≡ true
    itself v = grind arith

if_other : (u : Use) (uses : ℕ → Use) (n k : ℕ) → (n ≡ k → ⊥) → (if n == k then u else uses n) ≡ uses n
if_other u uses n k ne = ap (λ (b : Bool). if b then u else uses n) (differs n k ne)
  where
    differs : (n k : ℕ) → (n ≡ k → ⊥) → (n == k) ≡ false
    differs n k ne = grind arith

-- ---- longer rows of uses

module _ (m : Module) (uses now : ℕ → Use) (more : (n : ℕ) (u : Use) → uses n ≡ u → (IsAbsent u → ⊥) → now n ≡ u) where
  names_more : (cs : List Activation) → AreMarkersNamedOn m uses cs → AreMarkersNamedOn m now cs
  names_more [] h = tt
  names_more (a ∷ cs) h = (
    λ v b made marked leads. more b Marked (h.0 v b made marked leads) (λ no. no),
    names_more cs h.1,
  )

  slot_more : (f : Function) (slot : Slot) → IsUsedSlot m uses f slot → IsUsedSlot m now f slot
  slot_more f slot h none =
      let k = h none in
      record {
        block = k.block;
        at = k.at;
        ty = k.ty;
        align = k.align;
        stands = k.stands;
        used = more slot.block
            (Unmarked (record { kind = alloca_kind f; size = size_of m k.ty; align = k.align })) k.used (λ no. no);
      }

  slots_more : (f : Function) (ss : List Slot) → AreSlotwise (IsUsedSlot m uses) f ss
      → AreSlotwise (IsUsedSlot m now) f ss
  slots_more f [] h = tt
  slots_more f (s ∷ ss) h = (slot_more f s h.0, slots_more f ss h.1)

  stack_more : (cs : List Activation) → AreSlotwiseOn (IsUsedSlot m uses) m cs → AreSlotwiseOn (IsUsedSlot m now) m cs
  stack_more [] h = tt
  stack_more (a ∷ cs) h = (slots_more (function_at m a.func) a.slots h.0, stack_more cs h.1)

  instances_more : (xs : List Instance) → AreSlotwiseIn (IsUsedSlot m uses) m xs
      → AreSlotwiseIn (IsUsedSlot m now) m xs
  instances_more [] h = tt
  instances_more (x ∷ xs) h = (slots_more (function_at m x.coroutine) x.slots h.0, instances_more xs h.1)

  state_more : (s : State) → IsSlotwise (IsUsedSlot m uses) m s → IsSlotwise (IsUsedSlot m now) m s
  state_more s h = record {
    stack = stack_more (s.top ∷ s.below) h.stack;
    instances = instances_more s.instances h.instances;
  }

-- ---- a step

abbrev StaysUses : Module → Result State Cause → Type 0
StaysUses m (Err cause) = Unit {0}
StaysUses m (Ok s) = HasUses m s

module _ (h : Hooks) (blocks : KeepsUses h) (named : KeepsNamed h)
    (slots : (uses : ℕ → Use) → KeepsSlotwise (IsUsedSlot h.given.code uses) h) (ends : AreEndsOfAllocas h.given.code)
    (s : State) (reached : IsReachedState h.given s) (apart : AreGivenApart h.given.code s.top.result s.below)
    (k : HasUses h.given.code s) where
  abbrev m : Module
  m = h.given.code

  abbrev f : Function
  f = function_of h.given s

  abbrev here : Fetched
  here = fetch (function_of h.given s) s.top.block s.top.at

  abbrev a : Action
  a = action_of (hooked_context h s) (work_of s) (fetch (function_of h.given s) s.top.block s.top.at)

  abbrev new : Use
  new = slot_use h.given.code (function_of h.given s) (fetch (function_of h.given s) s.top.block s.top.at)

  spared : (n : ℕ) → IsSparedBy (k.uses n) n (hooked_context h s) (work_of s)
      (fetch (function_of h.given s) s.top.block s.top.at)
  spared n t is result must_tail ty args e leads =
      let i = Instr.Call result must_tail ty (Callee.Intrinsic Intrinsic.LifetimeEnd) args in
      let x = ends s.top.func (point s.top.block s.top.at) i e refl in
      let there = instr_there f s.top.block s.top.at i e in
      let marked : has_markers f x.alloca ≡ true =
      marked_at f x.alloca (point s.top.block s.top.at) i there (takes_local args x.alloca x.takes) in
      let no : Unmarked t ≡ Marked = sym is ∙ k.are.names.0 x.alloca n x.made marked
      (ap block_of (sym (second m s.top.values args x.alloca x.takes)) ∙ leads) in
      absurd (cc)

  full_at : (u : Use) (o : Option MemoryBlock) → HoldsUse u o → (x : MemoryBlock) → o ≡ Some x → HoldsUse u (Some x)
  full_at u o q x e = subst (HoldsUse u) e q

  full : (b : ℕ) → IsFull s.world.memory b
  full b x there live = (full_at (k.uses b) (slice_get s.world.memory b) (k.are.memory b) x there).0.full live

  given : (n : ℕ) → GivesUse (k.uses n) n (hooked_context h s) s.world.memory
      (fetch (function_of h.given s) s.top.block s.top.at)
      (action_of (hooked_context h s) (work_of s) (fetch (function_of h.given s) s.top.block s.top.at))
  given n = step_used (k.uses n) n (hooked_context h s) (work_of s) full (k.are.memory n) here (spared n)

  -- no slot stands behind all blocks
  behind_more : (slot : Slot) → slot.block ≡ length s.world.memory → (u : Use) (n : ℕ) (v : Use) → k.uses n ≡ v
      → (IsAbsent v → ⊥) → (if n == slot.block then u else k.uses n) ≡ v
  behind_more slot last u n v e there = if_other u k.uses n slot.block (λ same. there
      (subst IsAbsent e (nothing_behind (k.uses n) s.world.memory
      (subst (IsUsedAt (k.uses n) s.world.memory) (same ∙ last) (k.are.memory n))))) ∙ e

  more : (b : Action) → GivesUse (k.uses 0) 0 (hooked_context h s) s.world.memory here b → (u : Use) (n : ℕ) (v : Use)
      → k.uses n ≡ v → (IsAbsent v → ⊥) → uses_after u b k.uses n ≡ v
  more (NewSlot w slot) g u n v e there = behind_more slot g.1.last u n v e there
  more (Done w) g u n v e there = e
  more (Stuck cause) g u n v e there = e
  more (Enter func args result must_tail) g u n v e there = e
  more (Coro i args result) g u n v e there = e
  more (Deallocate p) g u n v e there = e
  more (GoTo label) g u n v e there = e
  more (Return v') g u n v e there = e

  -- ---- the new slot

  module _ (w : Work) (slot : Slot)
      (q : IsNewUse (hooked_context h s) s.world.memory w.world.memory here slot) where
    use_is : slot_use m f (fetch (function_of h.given s) s.top.block s.top.at)
        ≡ (if has_markers f slot.alloca then Marked
        else Unmarked (record { kind = alloca_kind f; size = size_of m q.ty; align = q.align }))
    use_is = ap (slot_use m f) q.stands

    new_holds : HoldsUse (slot_use m f (fetch (function_of h.given s) s.top.block s.top.at)) (Some q.block)
    new_holds = subst (λ (u : Use). HoldsUse u (Some q.block)) (sym use_is) (on (has_markers f slot.alloca) refl)
      where
        on : (t : Bool) → has_markers f slot.alloca ≡ t → HoldsUse (if t then Marked
            else Unmarked (record { kind = alloca_kind f; size = size_of m q.ty; align = q.align })) (Some q.block)
        on true e = (q.bytes, tt)
        on false e = (q.bytes, q.tagged e)

    new_marked : has_markers f slot.alloca ≡ true
        → slot_use m f (fetch (function_of h.given s) s.top.block s.top.at) ≡ Marked
    new_marked e = use_is ∙ ap (λ (t : Bool). if t then Marked
        else Unmarked (record { kind = alloca_kind f; size = size_of m q.ty; align = q.align })) e

    new_slot : (now : ℕ → Use)
        → now slot.block ≡ slot_use m f (fetch (function_of h.given s) s.top.block s.top.at)
        → IsUsedSlot m now f slot
    new_slot now is none = record {
      block = s.top.block;
      at = s.top.at;
      ty = q.ty;
      align = q.align;
      stands = q.stands;
      used = is ∙ use_is ∙ ap (λ (t : Bool). if t then Marked
          else Unmarked (record { kind = alloca_kind f; size = size_of m q.ty; align = q.align })) none;
    }

  -- ---- parts

  blocks_stay : (b : Action) → ((n : ℕ) → GivesUse (k.uses n) n (hooked_context h s) s.world.memory here b) → (n : ℕ)
      → StaysUsed (uses_after new b k.uses n) n (hooked_act h s b)
  blocks_stay (NewSlot w slot) g n = ⊎_elim one other (cases_eq n slot.block)
    where
      q : IsNewUse (hooked_context h s) s.world.memory w.world.memory here slot
      q = (g 0).1

      one : n ≡ slot.block → StaysUsed (if n == slot.block then new else k.uses n) n (hooked_act h s (NewSlot w slot))
      one same =
          blocks.place (if n == slot.block then new else k.uses n) n (settled s w) slot
          (subst (λ (u : Use). IsUsedAt u w.world.memory n)
          (sym (ap (λ (b : ℕ). if n == b then new else k.uses n) (sym same) ∙ if_same new k.uses n))
          (subst (HoldsUse new) (sym q.there ∙ ap (slice_get w.world.memory) (sym (same ∙ q.last)))
          (new_holds w slot q)))

      other : (n ≡ slot.block → ⊥) → StaysUsed (if n == slot.block then new else k.uses n) n
          (hooked_act h s (NewSlot w slot))
      other ne =
          blocks.place (if n == slot.block then new else k.uses n) n (settled s w) slot
          (subst (λ (u : Use). IsUsedAt u w.world.memory n) (sym (if_other new k.uses n slot.block ne)) (g n).0)
  blocks_stay (Done w) g n = act_stays h blocks (k.uses n) n s full (k.are.memory n) (spared n) here (Done w) (g n)
  blocks_stay (Stuck cause) g n = tt
  blocks_stay (Enter func args result must_tail) g n =
      act_stays h blocks (k.uses n) n s full (k.are.memory n) (spared n) here (Enter func args result must_tail) (g n)
  blocks_stay (Coro i args result) g n =
      act_stays h blocks (k.uses n) n s full (k.are.memory n) (spared n) here (Coro i args result) (g n)
  blocks_stay (Deallocate p) g n =
      act_stays h blocks (k.uses n) n s full (k.are.memory n) (spared n) here (Deallocate p) (g n)
  blocks_stay (GoTo label) g n =
      act_stays h blocks (k.uses n) n s full (k.are.memory n) (spared n) here (GoTo label) (g n)
  blocks_stay (Return v) g n =
      act_stays h blocks (k.uses n) n s full (k.are.memory n) (spared n) here (Return v) (g n)

  makes : (W : Function → Slot → Type 0) (b : Action)
      → GivesUse (k.uses 0) 0 (hooked_context h s) s.world.memory here b → Makes W here b
  makes W (NewSlot w slot) g = (g.1.ty, g.1.align, g.1.stands)
  makes W (Done w) g = tt
  makes W (Stuck cause) g = tt
  makes W (Enter func args result must_tail) g = tt
  makes W (Coro i args result) g = tt
  makes W (Deallocate p) g = tt
  makes W (GoTo label) g = tt
  makes W (Return v) g = tt

  fresh : (b : Action) → GivesUse (k.uses 0) 0 (hooked_context h s) s.world.memory here b
      → Fresh (IsUsedSlot m (uses_after new b k.uses)) (function_of h.given s) b
  fresh (NewSlot w slot) g =
      new_slot w slot g.1 (uses_after new (NewSlot w slot) k.uses) (if_same new k.uses slot.block)
  fresh (Done w) g = tt
  fresh (Stuck cause) g = tt
  fresh (Enter func args result must_tail) g = tt
  fresh (Coro i args result) g = tt
  fresh (Deallocate p) g = tt
  fresh (GoTo label) g = tt
  fresh (Return v) g = tt

  marks : (b : Action) → GivesUse (k.uses 0) 0 (hooked_context h s) s.world.memory here b → (w : Work) (slot : Slot)
      → b ≡ NewSlot w slot → has_markers (function_of h.given s) slot.alloca ≡ true
      → uses_after new b k.uses slot.block ≡ Marked
  marks b g w slot e marked =
      let q = subst (GivesUse (k.uses 0) 0 (hooked_context h s) s.world.memory here) e g in
      ap (λ (c : Action). uses_after new c k.uses slot.block) e
      ∙ if_same new k.uses slot.block ∙ new_marked w slot q.1 marked

  collect : (uses : ℕ → Use) (r : Result State Cause) → ((n : ℕ) → StaysUsed (uses n) n r)
      → StaysNamed h.given.code uses r → StaysSlotwise (IsUsedSlot h.given.code uses) h.given.code r
      → StaysUses h.given.code r
  collect uses (Err cause) memory names slots = tt
  collect uses (Ok t) memory names slots = record {
    uses = uses;
    are = record { memory = memory; names = names; slots = slots };
  }

  act_uses : StaysUses h.given.code (hooked_act h s a)
  act_uses =
      let now = uses_after new a k.uses in
      let longer = more a (given 0) new in
      collect now (hooked_act h s a) (blocks_stay a given)
      (act_fine h now named s apart (names_more m k.uses now longer (s.top ∷ s.below) k.are.names)
      (λ w slot e marked. marks a (given 0) w slot e marked) here refl)
      (act_slotwise (IsUsedSlot m now) h (slots now) s reached (state_more m k.uses now longer s k.are.slots) here
      refl a (makes (IsUsedSlot m now) a (given 0)) (fresh a (given 0)))

  same_uses : (t : State) → t.world.memory ≡ s.world.memory → AreMarkersNamedOn h.given.code k.uses (t.top ∷ t.below)
      → IsSlotwise (IsUsedSlot h.given.code k.uses) h.given.code t → HasUses h.given.code t
  same_uses t e names slots = record {
    uses = k.uses;
    are = record {
      memory = λ n. subst (λ (x : List MemoryBlock). IsUsedAt (k.uses n) x n) (sym e) (k.are.memory n);
      names = names;
      slots = slots;
    };
  }

  next_uses : h.given_call s here ≡ None
      → StaysUses h.given.code (hooked_next h s (fetch (function_of h.given s) s.top.block s.top.at))
  next_uses none = on (h.is_idle s here) (h.given_call s here) none
    where
      on : (b : Bool) (o : Option (Result State Cause)) → o ≡ None
          → StaysUses h.given.code (if b then Ok (next s) else unwrap_or o
          (hooked_act h s (action_of (hooked_context h s) (work_of s)
          (fetch (function_of h.given s) s.top.block s.top.at))))
      on true o u = same_uses (next s) refl (k.are.names.0, k.are.names.1)
          (record { stack = k.are.slots.stack; instances = k.are.slots.instances })
      on false None u = act_uses
      on false (Some r) u = absurd (cc)

  or_uses : (r : Result State Cause) → StaysUses h.given.code r → HasUses h.given.code (or_undefined h.given s r)
  or_uses (Err cause) q = same_uses (or_undefined h.given s (Err cause)) refl (k.are.names.0, k.are.names.1)
      (record { stack = k.are.slots.stack; instances = k.are.slots.instances })
  or_uses (Ok t) q = q

  advance_uses : (o : Outcome) → HasUses h.given.code (hooked_advance h s o)
  advance_uses Outcome.Running =
      or_uses (hooked_next h s here) (next_uses (blocks.ungiven s s.top.block s.top.at))
  advance_uses (Outcome.Returned v) = k
  advance_uses (Outcome.Undefined cause place) = k

  pub step_uses : HasUses h.given.code (step_of h s)
  step_uses = advance_uses s.outcome
