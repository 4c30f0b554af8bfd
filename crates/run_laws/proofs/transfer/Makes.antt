-- An instruction that makes a block makes one in both memories, where what it reads stands.
use Rattle.std.proofs.Common.{◌≡◌, ℕ, ◌+◌, ◌%◌, ◌^◌, ◌<◌, Bool, true, false, List, [], ◌∷◌, ◌++◌, length, Option, Some, refl, sym, ap, ◌∙◌, subst, if◌then◌else◌}
use Rattle.run_memory.specs.Memory.{end, ended, fresh, same_kind}
use Rattle.run_memory.specs.declared.block.Kind.{Kind}
use Rattle.run_memory.specs.declared.block.MemoryBlock.{MemoryBlock}
use Rattle.run_memory.specs.declared.pointer.Pointer.{Pointer}
use Rattle.run_memory.specs.declared.pointer.Value.{Value}
use Rattle.ir_base.specs.declared.cause.Cause.{Cause}
use Rattle.ir_model.specs.Layout.{extent_of, extent_or, size_of}
use Rattle.ir_model.specs.Ty.{Ty}
use Rattle.ir_model.specs.declared.instr.Instr.{Instr}
use Rattle.ir_model.specs.declared.module.Function.{Function}
use Rattle.ir_model.specs.declared.operand.Allocator.{Allocator}
use Rattle.ir_model.specs.declared.operand.Arg.{Arg}
use Rattle.ir_model.specs.declared.operand.Callee.{Callee}
use Rattle.ir_model.specs.declared.operand.Operand.{Operand}
use Rattle.run_laws.specs.memory.Pointers.{Home, IsValue, home_of}
use Rattle.run_laws.specs.memory.Standing.{blank_block}
use Rattle.run_step.specs.Step.{Action, AtInstr, AtTerm, Context, Done, Fetched, Nowhere, Stuck, Work, action_of, alloca, alloca_kind, allocated, has_markers, if_alignment, is_alignment, risen, set_memory, set_value, with_length}
use Rattle.run_step.specs.Values.{arg_value, arg_values, nth, operand_value, pointer_to}
use Rattle.run_laws.proofs.embedded.NewBlocks.{IsMade, fresh_made, own, slot_made}
use Rattle.run_laws.proofs.embedded.Values.{nth_kept}
use Rattle.run_laws.specs.embedded.Making.{AreNewRights, IsSmall, MakesBlock, whole_home}
use Rattle.run_laws.specs.embedded.Related.{AreValues}
use Rattle.run_laws.proofs.transfer.Muted.{muted_change, muted_fresh, muted_length}
use Rattle.run_laws.proofs.transfer.Sets.{sets_name, sets_result}
use Rattle.run_laws.specs.transfer.Makes.{GoesNew, IsMaking}
use Rattle.run_laws.specs.transfer.Muted.{muted}
use Rattle.run_laws.specs.transfer.Shapes.{Alloca, ArgStays, Call, CalleeStays, Direct, Empty, Indirect, InstrStays, Pair, Pairwise}
use Rattle.run_laws.specs.transfer.Transfer.{AreJoined, Maps, StandsFor, given_at}

-- a slot's block is no constant
slot_writable : (f : Function) → same_kind (alloca_kind f) Kind.Constant ≡ false
slot_writable f = on f.coroutine
  where
    on : (t : Bool) → same_kind (if t then Kind.Slot else Kind.Stack) Kind.Constant ≡ false
    on true = refl
    on false = refl

-- the arguments stand for those of the source
pub args_stand : (homes : List Home) (c d : Context) (w x : Work) (args now : List Arg)
    → Pairwise (ArgStays (StandsFor true (IsValue homes) c d w.values x.values)) args now
    → AreValues homes (arg_values c.code w.values args) (arg_values d.code x.values now)
args_stand homes c d w x _ _ Empty = tt
args_stand homes c d w x _ _ (Pair a b args now h k) = (
  subst (λ ty. IsValue homes (arg_value c.code w.values a) (operand_value d.code x.values ty b.value)) (sym h.ty)
      (h.value a.ty),
  args_stand homes c d w x args now k,
)

-- a memory with a new block, which has markers or not
abbrev slots : List MemoryBlock → ℕ → ℕ → Kind → Bool → List MemoryBlock
slots m size align kind t = if t then end (fresh m size align kind) (length m) else fresh m size align kind

muted_slots : (hides : ℕ → Bool) (m : List MemoryBlock) (size align : ℕ) (kind : Kind) (t : Bool)
    → hides (length m) ≡ false → slots (muted hides m) size align kind t ≡ muted hides (slots m size align kind t)
muted_slots hides m size align kind true new =
    ap (λ k. end (fresh (muted hides m) size align kind) k) (muted_length hides m)
    ∙ ap (λ k. end k (length m)) (muted_fresh hides m size align kind new)
    ∙ muted_change hides (fresh m size align kind) (length m) ended new
muted_slots hides m size align kind false new = muted_fresh hides m size align kind new

module _ (homes : List Home) (hides : ℕ
    → Bool) (maps : Maps) (c d : Context) (w x : Work) (joined : AreJoined homes hides maps c d w x)
    (types : d.code.types ≡ c.code.types) (known : length homes ≡ length w.world.memory)
    (new : hides (length w.world.memory) ≡ false) where
  abbrev m : List MemoryBlock
  m = w.world.memory

  abbrev n : List MemoryBlock
  n = x.world.memory

  abbrev more : List Home
  more = homes ++ whole_home (length n) ∷ []

  abbrev Anew : Option ℕ → Action → Action → Type 0
  Anew given a b = GoesNew c.rights d.rights homes hides maps.declaration given w x a b

  -- the hidden memory has as many blocks
  known_muted : length homes ≡ length (muted hides m)
  known_muted = known ∙ sym (muted_length hides m)

  rights_muted : (kind other : Kind) → AreNewRights c.rights d.rights (length m) (length n) kind other
      → AreNewRights c.rights d.rights (length (muted hides m)) (length n) kind other
  rights_muted kind other h = subst (λ k. AreNewRights c.rights d.rights k (length n) kind other)
      (sym (muted_length hides m)) h

  -- the target's new pointer stands for the source's
  new_pointer : IsValue more (pointer_to (length m)) (pointer_to (length n))
  new_pointer = subst (λ (h : Home). (h.is_seen ≡ true) × (pointer_to (length n) ≡ Value.Ptr (Pointer.At h.block
      (record { bits = (0 + h.offset) % 2 ^ 64 })))) (sym is) (refl, refl)
    where
      is : home_of more (length m) ≡ whole_home (length n)
      is = own c.rights d.rights homes m n (blank_block 0 1 Kind.Allocator) (blank_block 0 1 Kind.Allocator) known

  length_more : (k : List MemoryBlock) → length more ≡ length (muted hides k) → length more ≡ length k
  length_more k e = e ∙ muted_length hides k

  if_anew : (given : Option ℕ) (align : ℕ) (a b : Action) → Anew given a b
      → Anew given (if_alignment align a) (if_alignment align b)
  if_anew given align a b h = on (is_alignment align)
    where
      on : (t : Bool) → Anew given (if t then a else Stuck Cause.Align) (if t then b else Stuck Cause.Align)
      on true = h
      on false = tt

  slot_anew : (name size align : ℕ) → size < 2 ^ 64 → has_markers d.function name ≡ has_markers c.function name
      → AreNewRights c.rights d.rights (length m) (length n) (alloca_kind c.function) (alloca_kind d.function)
      → Anew (Some name) (alloca c w name size align) (alloca d x name size align)
  slot_anew name size align small same allowed = (
    set_memory (set_value x name (pointer_to (length n))) (slots n size align (alloca_kind d.function)
        (has_markers d.function name)),
    refl,
    sym known,
    record {
      over = record {
        memory = made.memory;
        nulls = made.nulls;
        bounds = made.bounds;
        events = joined.over.events;
        answers = joined.over.answers;
        allocs = joined.over.allocs;
      };
      known = length_more (slots m size align (alloca_kind c.function) (has_markers c.function name)) made.known;
      new = made.new;
      set = sets_name more w.values x.values joined.room name (pointer_to (length m))
          (pointer_to (length n)) new_pointer;
    },
  )
    where
      made : IsMade c.rights d.rights homes (muted hides m) (length n)
          (muted hides (slots m size align (alloca_kind c.function) (has_markers c.function name)))
          (slots n size align (alloca_kind d.function) (has_markers d.function name))
      made =
          subst (λ (k : List MemoryBlock). IsMade c.rights d.rights homes (muted hides m) (length n) k
          (slots n size align (alloca_kind d.function) (has_markers d.function name)))
          (muted_slots hides m size align (alloca_kind c.function) (has_markers c.function name) new)
          (subst (λ (t : Bool). IsMade c.rights d.rights homes (muted hides m) (length n)
          (slots (muted hides m) size align (alloca_kind c.function) (has_markers c.function name))
          (slots n size align (alloca_kind d.function) t)) (sym same)
          (slot_made c.rights d.rights homes
          (muted hides m) n known_muted joined.over.memory joined.over.nulls joined.over.bounds size align
          (alloca_kind c.function) (alloca_kind d.function) small (rights_muted _ _ allowed)
          (λ e. slot_writable d.function) (has_markers c.function name)))

  -- ---- allocators

  length_anew : (given : Option ℕ) (v u : Value) (f g : ℕ → Action) → IsValue homes v u → IsSmall v
      → ((k : ℕ) → k < 2 ^ 64 → Anew given (f k) (g k)) → Anew given (with_length v f) (with_length u g)
  length_anew given (Value.Int y) u f g h small k = subst (λ (z : Value). Anew given (f y.bits) (with_length z g))
      (sym h) (k y.bits (small y refl))
  length_anew given Value.Poison u f g h small k = tt
  length_anew given (Value.Ptr p) u f g h small k = tt

  allocated_anew : AreNewRights c.rights d.rights (length m) (length n) Kind.Allocator Kind.Allocator
      → (result : Option ℕ) (size : ℕ) → size < 2 ^ 64
      → Anew result (Done (allocated w result size)) (Done (allocated x result size))
  allocated_anew allowed result size small = (
    allocated x result size,
    refl,
    record {
      over = record {
        memory = made.memory;
        nulls = made.nulls;
        bounds = made.bounds;
        events = joined.over.events;
        answers = joined.over.answers;
        allocs = ap risen joined.over.allocs;
      };
      known = length_more (fresh m size 16 Kind.Allocator) made.known;
      new = made.new;
      set = sets_result more w.values x.values joined.room result (pointer_to (length m))
          (pointer_to (length n)) new_pointer;
    },
  )
    where
      made : IsMade c.rights d.rights homes (muted hides m) (length n) (muted hides (fresh m size 16 Kind.Allocator))
          (fresh n size 16 Kind.Allocator)
      made =
          subst (λ (k : List MemoryBlock). IsMade c.rights d.rights homes (muted hides m) (length n) k
          (fresh n size 16 Kind.Allocator)) (muted_fresh hides m size 16 Kind.Allocator new)
          (fresh_made c.rights d.rights homes
          (muted hides m) n known_muted joined.over.memory joined.over.nulls joined.over.bounds size 16
          Kind.Allocator Kind.Allocator small (rights_muted _ _ allowed) (λ e. e))

  allocation_anew : (result : Option ℕ) (args now : List Arg)
      → Pairwise (ArgStays (StandsFor true (IsValue homes) c d w.values x.values)) args now
      → IsSmall (nth (arg_values c.code w.values args) 0)
      → AreNewRights c.rights d.rights (length m) (length n) Kind.Allocator Kind.Allocator
      → Anew result (with_length (nth (arg_values c.code w.values args) 0) (λ k. Done (allocated w result k)))
      (with_length (nth (arg_values d.code x.values now) 0) (λ k. Done (allocated x result k)))
  allocation_anew result args now h small allowed =
      length_anew result (nth (arg_values c.code w.values args) 0) (nth (arg_values d.code x.values now) 0) _ _
      (nth_kept homes (arg_values c.code w.values args) (arg_values d.code x.values now) 0
      (args_stand homes c d w x args now h)) small (allocated_anew allowed result)

  -- ---- instructions

  size_same : (ty : Ty) → size_of d.code ty ≡ size_of c.code ty
  size_same ty = ap (λ ts. (extent_or (extent_of ts ty)).size) types

  abbrev Goes : Fetched → Fetched → Type 0
  Goes here there = Anew (given_at here) (action_of c w here) (action_of d x there)

  abbrev Op : Operand → Operand → Type 0
  Op = StandsFor true (IsValue homes) c d w.values x.values

  allocator_anew : (a : Allocator) (result : Option ℕ) (must_tail : Bool) (ty : Option Ty) (args now : List Arg)
      → Pairwise (ArgStays Op) args now
      → MakesBlock c d w x (AtInstr (Instr.Call result must_tail ty (Callee.Allocator a) args))
      → Goes (AtInstr (Instr.Call result must_tail ty (Callee.Allocator a) args))
      (AtInstr (Instr.Call result must_tail ty (Callee.Allocator a) now))
  allocator_anew Allocator.Malloc result must_tail ty args now h k = allocation_anew result args now h k.0 k.1
  allocator_anew Allocator.Znwm result must_tail ty args now h k = allocation_anew result args now h k.0 k.1
  allocator_anew Allocator.Free result must_tail ty args now h k = absurd k
  allocator_anew Allocator.ZdlPv result must_tail ty args now h k = absurd k
  allocator_anew Allocator.ZdlPvm result must_tail ty args now h k = absurd k

  call_anew : (callee other : Callee) (result : Option ℕ) (must_tail : Bool) (ty : Option Ty) (args now : List Arg)
      → CalleeStays Op callee other → Pairwise (ArgStays Op) args now
      → MakesBlock c d w x (AtInstr (Instr.Call result must_tail ty callee args))
      → Goes (AtInstr (Instr.Call result must_tail ty callee args))
      (AtInstr (Instr.Call result must_tail ty other now))
  call_anew _ _ result must_tail ty args now (Direct (Callee.Named name) e) h k = absurd k
  call_anew _ _ result must_tail ty args now
      (Direct (Callee.Allocator a) e) h k = allocator_anew a result must_tail ty args now h k
  call_anew _ _ result must_tail ty args now (Direct (Callee.Intrinsic i) e) h k = absurd k
  call_anew _ _ result must_tail ty args now (Direct (Callee.Local v) e) h k = absurd k
  call_anew _ _ result must_tail ty args now (Indirect v name s) h k = absurd k

  instr_anew : (i j : Instr) → InstrStays Op i j → MakesBlock c d w x (AtInstr i) → Goes (AtInstr i) (AtInstr j)
  instr_anew _ _ (Alloca name ty align) k =
      if_anew (Some name) align _ _
      (subst (λ (size : ℕ). Anew (Some name) (alloca c w name (size_of c.code ty) align) (alloca d x name size align))
      (sym (size_same ty)) (slot_anew name (size_of c.code ty) align k.0 k.1 k.2))
  instr_anew _ _ (Call result must_tail ty callee other args now h hs) k = call_anew callee other result must_tail ty
      args now h hs k
  instr_anew _ _ _ k = absurd k

  here_anew : (here there : Fetched) → IsMaking homes hides maps c d w x here there → Goes here there
  here_anew Nowhere there k = tt
  here_anew (AtInstr i) Nowhere k = absurd k.shape
  here_anew (AtInstr i) (AtInstr j) k = instr_anew i j k.shape k.makes
  here_anew (AtInstr i) (AtTerm t) k = absurd k.shape
  here_anew (AtTerm t) there k = absurd k.makes

pub makes_over : (homes : List Home) (hides : ℕ
    → Bool) (maps : Maps) (c d : Context) (w x : Work) (here there : Fetched) → AreJoined homes hides maps c d w x
    → IsMaking homes hides maps c d w x here there
    → GoesNew c.rights d.rights homes hides maps.declaration (given_at here) w x (action_of c w here)
    (action_of d x there)
makes_over homes hides maps c d w x here there joined k = here_anew homes hides maps c d w x joined k.types k.known
    k.new here there k
