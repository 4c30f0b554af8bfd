-- An instruction that makes a block makes one in both memories.
use Rattle.std.proofs.Common.{◌≡◌, ℕ, ◌+◌, ◌%◌, ◌^◌, ◌<◌, Bool, true, false, List, [], ◌∷◌, ◌++◌, length, Option, refl, sym, ap, subst, if◌then◌else◌}
use Rattle.run_memory.specs.Memory.{end, fresh, same_kind}
use Rattle.run_memory.specs.declared.block.Kind.{Kind}
use Rattle.run_memory.specs.declared.block.MemoryBlock.{MemoryBlock}
use Rattle.run_memory.specs.declared.pointer.Pointer.{Pointer}
use Rattle.run_memory.specs.declared.pointer.Value.{Value}
use Rattle.ir_base.specs.declared.cause.Cause.{Cause}
use Rattle.ir_model.specs.Layout.{extent_of, extent_or, size_of}
use Rattle.ir_model.specs.Ty.{Ty}
use Rattle.ir_model.specs.declared.instr.Instr.{Instr}
use Rattle.ir_model.specs.declared.module.Function.{Function}
use Rattle.ir_model.specs.declared.operand.Allocator.{Allocator}
use Rattle.ir_model.specs.declared.operand.Arg.{Arg}
use Rattle.ir_model.specs.declared.operand.Callee.{Callee}
use Rattle.run_laws.proofs.memory.Homes.{append_extends, value_on}
use Rattle.run_laws.specs.memory.Pointers.{Home, IsValue, home_of}
use Rattle.run_laws.specs.memory.Standing.{blank_block}
use Rattle.run_step.specs.Step.{Action, AtInstr, AtTerm, Context, Done, Fetched, Nowhere, Stuck, Work, action_of, alloca, alloca_kind, allocated, has_markers, if_alignment, instr_action, is_alignment, risen, with_length}
use Rattle.run_step.specs.Values.{Env, arg_values, nth, pointer_to}
use Rattle.run_laws.proofs.embedded.NewBlocks.{IsMade, fresh_made, own, slot_made}
use Rattle.run_laws.proofs.embedded.Values.{env_result, env_set, nth_kept}
use Rattle.run_laws.specs.embedded.Making.{GoesAnew, HaveNewRights, IsSmall, MakesBlock, whole_home}
use Rattle.run_laws.specs.embedded.Related.{AreAlike, AreEnvs, AreValues, AreWorks, IsOperand}
use Rattle.run_laws.specs.changed.Changed.{Each, operands_at, values_of}

-- what stood for values still does over more homes
envs_on : (homes others : List Home) (env other : Env) → AreEnvs homes env other → AreEnvs (homes ++ others) env other
envs_on homes others env other h = record {
  each = λ i. value_on homes (homes ++ others) (append_extends homes others) _ _ (h.each i);
  room = h.room;
}

-- a slot's block is no constant
slot_writable : (f : Function) → same_kind (alloca_kind f) Kind.Constant ≡ false
slot_writable f = on f.coroutine
  where
    on : (t : Bool) → same_kind (if t then Kind.Slot else Kind.Stack) Kind.Constant ≡ false
    on true = refl
    on false = refl

-- the arguments stand for those of the source
pub values_stand : (homes : List Home) (c d : Context) (w x : Work) (args : List Arg) → Each (IsOperand homes c d w.values x.values) (values_of args) → AreValues homes (arg_values c.code w.values args) (arg_values d.code x.values args)
values_stand homes c d w x [] h = tt
values_stand homes c d w x (a ∷ args) h = (h.0.here a.ty, values_stand homes c d w x args h.1)

-- the memory with the block of an alloca, with markers and without
abbrev slots : Context → Work → ℕ → ℕ → Bool → List MemoryBlock
slots e u size align t =
    if t then end (fresh u.world.memory size align (alloca_kind e.function)) (length u.world.memory)
    else fresh u.world.memory size align (alloca_kind e.function)

module _ (homes : List Home) (moves : ℕ → ℕ) (c d : Context) (w x : Work) (alike : AreAlike c d) (works : AreWorks c.rights d.rights homes moves w x) (known : length homes ≡ length w.world.memory) where
  abbrev more : List Home
  more = homes ++ whole_home (length x.world.memory) ∷ []

  abbrev Anew : Action → Action → Type 0
  Anew a b = GoesAnew c.rights d.rights homes moves w.world.memory (length x.world.memory) a b

  -- the target's new pointer stands for the source's
  new_pointer : IsValue more (pointer_to (length w.world.memory)) (pointer_to (length x.world.memory))
  new_pointer = subst (λ (h : Home). (h.is_seen ≡ true) × (pointer_to (length x.world.memory) ≡ Value.Ptr (Pointer.At h.block (record { bits = (0 + h.offset) % 2 ^ 64 })))) (sym is) (refl, refl)
    where
      is : home_of more (length w.world.memory) ≡ whole_home (length x.world.memory)
      is = own c.rights d.rights homes w.world.memory x.world.memory (blank_block 0 1 Kind.Allocator) (blank_block 0 1 Kind.Allocator) known

  size_alike : (ty : Ty) → size_of d.code ty ≡ size_of c.code ty
  size_alike ty = ap (λ ts. (extent_or (extent_of ts ty)).size) alike.types

  if_anew : (align : ℕ) (a b : Action) → Anew a b → Anew (if_alignment align a) (if_alignment align b)
  if_anew align a b h = on (is_alignment align)
    where
      on : (t : Bool) → Anew (if t then a else Stuck Cause.Align) (if t then b else Stuck Cause.Align)
      on true = h
      on false = tt

  slot_anew : (name size align : ℕ) → size < 2 ^ 64 → has_markers d.function name ≡ has_markers c.function name → HaveNewRights c d w x (alloca_kind c.function) (alloca_kind d.function) → Anew (alloca c w name size align) (alloca d x name size align)
  slot_anew name size align small same new = (
    _,
    refl,
    sym known,
    record {
      works = record {
        world = record { memory = made.memory; nulls = made.nulls; bounds = made.bounds; events = works.world.events; answers = works.world.answers; allocs = works.world.allocs };
        values = env_set more w.values x.values name (pointer_to (length w.world.memory)) (pointer_to (length x.world.memory)) (envs_on homes (whole_home (length x.world.memory) ∷ []) w.values x.values works.values) new_pointer;
      };
      known = made.known;
      new = made.new;
    },
  )
    where
      made : IsMade c.rights d.rights homes w.world.memory (length x.world.memory) (slots c w size align (has_markers c.function name)) (slots d x size align (has_markers d.function name))
      made =
          subst (λ (t : Bool). IsMade c.rights d.rights homes w.world.memory (length x.world.memory) (slots c w size align (has_markers c.function name)) (slots d x size align t)) (sym same)
          (slot_made c.rights d.rights homes w.world.memory x.world.memory known works.world.memory works.world.nulls works.world.bounds size align (alloca_kind c.function) (alloca_kind d.function) small new (λ e. slot_writable d.function) (has_markers c.function name))

  -- ---- allocators

  length_anew : (v u : Value) (f g : ℕ → Action) → IsValue homes v u → IsSmall v → ((n : ℕ) → n < 2 ^ 64 → Anew (f n) (g n)) → Anew (with_length v f) (with_length u g)
  length_anew (Value.Int y) u f g h small k = subst (λ (z : Value). Anew (f y.bits) (with_length z g)) (sym h) (k y.bits (small y refl))
  length_anew Value.Poison u f g h small k = tt
  length_anew (Value.Ptr p) u f g h small k = tt

  allocated_anew : HaveNewRights c d w x Kind.Allocator Kind.Allocator → (result : Option ℕ) (size : ℕ) → size < 2 ^ 64 → Anew (Done (allocated w result size)) (Done (allocated x result size))
  allocated_anew new result size small = (
    allocated x result size,
    refl,
    record {
      works = record {
        world = record { memory = made.memory; nulls = made.nulls; bounds = made.bounds; events = works.world.events; answers = works.world.answers; allocs = ap risen works.world.allocs };
        values = env_result more w.values x.values result (pointer_to (length w.world.memory)) (pointer_to (length x.world.memory)) (envs_on homes (whole_home (length x.world.memory) ∷ []) w.values x.values works.values) new_pointer;
      };
      known = made.known;
      new = made.new;
    },
  )
    where
      made : IsMade c.rights d.rights homes w.world.memory (length x.world.memory) (fresh w.world.memory size 16 Kind.Allocator) (fresh x.world.memory size 16 Kind.Allocator)
      made = fresh_made c.rights d.rights homes w.world.memory x.world.memory known works.world.memory works.world.nulls works.world.bounds size 16 Kind.Allocator Kind.Allocator small new (λ e. e)

  allocation_anew : (result : Option ℕ) (args : List Arg) → Each (IsOperand homes c d w.values x.values) (values_of args) → IsSmall (nth (arg_values c.code w.values args) 0) → HaveNewRights c d w x Kind.Allocator Kind.Allocator → Anew (with_length (nth (arg_values c.code w.values args) 0) (λ n. Done (allocated w result n))) (with_length (nth (arg_values d.code x.values args) 0) (λ n. Done (allocated x result n)))
  allocation_anew result args h small new =
      length_anew (nth (arg_values c.code w.values args) 0) (nth (arg_values d.code x.values args) 0) _ _ (nth_kept homes (arg_values c.code w.values args) (arg_values d.code x.values args) 0 (values_stand homes c d w x args h)) small (allocated_anew new result)

  -- ---- instructions

  call_anew : (result : Option ℕ) (must_tail : Bool) (ty : Option Ty) (callee : Callee) (args : List Arg) → Each (IsOperand homes c d w.values x.values) (operands_at (AtInstr (Instr.Call result must_tail ty callee args))) → MakesBlock c d w x (AtInstr (Instr.Call result must_tail ty callee args)) → Anew (instr_action c w (Instr.Call result must_tail ty callee args)) (instr_action d x (Instr.Call result must_tail ty callee args))
  call_anew result must_tail ty (Callee.Named n) args h k = absurd k
  call_anew result must_tail ty (Callee.Local n) args h k = absurd k
  call_anew result must_tail ty (Callee.Intrinsic i) args h k = absurd k
  call_anew result must_tail ty (Callee.Allocator Allocator.Malloc) args h k = allocation_anew result args h k.0 k.1
  call_anew result must_tail ty (Callee.Allocator Allocator.Znwm) args h k = allocation_anew result args h k.0 k.1
  call_anew result must_tail ty (Callee.Allocator Allocator.Free) args h k = absurd k
  call_anew result must_tail ty (Callee.Allocator Allocator.ZdlPv) args h k = absurd k
  call_anew result must_tail ty (Callee.Allocator Allocator.ZdlPvm) args h k = absurd k

  instr_anew : (i : Instr) → Each (IsOperand homes c d w.values x.values) (operands_at (AtInstr i)) → MakesBlock c d w x (AtInstr i) → Anew (instr_action c w i) (instr_action d x i)
  instr_anew (Instr.Alloca name ty align) h k =
      if_anew align _ _
      (subst (λ (size : ℕ). Anew (alloca c w name (size_of c.code ty) align) (alloca d x name size align)) (sym (size_alike ty)) (slot_anew name (size_of c.code ty) align k.0 k.1 k.2))
  instr_anew (Instr.Call result must_tail ty callee args) h k = call_anew result must_tail ty callee args h k
  instr_anew _ h k = absurd k

  here_anew : (here : Fetched) → Each (IsOperand homes c d w.values x.values) (operands_at here) → MakesBlock c d w x here → Anew (action_of c w here) (action_of d x here)
  here_anew Nowhere h k = tt
  here_anew (AtInstr i) h k = instr_anew i h k
  here_anew (AtTerm t) h k = absurd k

pub made_carried : (homes : List Home) (moves : ℕ → ℕ) (c d : Context) (w x : Work) (here : Fetched) → AreAlike c d → AreWorks c.rights d.rights homes moves w x → length homes ≡ length w.world.memory → Each (IsOperand homes c d w.values x.values) (operands_at here) → MakesBlock c d w x here → GoesAnew c.rights d.rights homes moves w.world.memory (length x.world.memory) (action_of c w here) (action_of d x here)
made_carried homes moves c d w x here alike works known h k = here_anew homes moves c d w x alike works known here h k
