-- A new slot comes of an alloca, whose name gets its address.
use Rattle.std.proofs.Common.{◌≡◌, ◌<◌, ◌∙◌, ◌+◌, ℕ, Bool, true, false, List, [], ◌∷◌, length, None, Option, Some, ap, if◌then◌else◌, refl, subst, arith, length-append}
use Rattle.std.specs.Option.{option_map_or}
use Rattle.std.specs.Prelude.{replicate, slice_get}
use Rattle.pass_elide_proof.proofs.ChangedBoth.{changed_many}
use Rattle.pass_elide_proof.specs.StepCases.{ActsBy}
use Rattle.pass_elide_proof.proofs.pass_proofs.ir_laws.facts.Lists.{get_last}
use Rattle.pass_elide_proof.proofs.pass_proofs.run_laws.embedded.Refills.{step_only}
use Rattle.pass_elide_proof.proofs.pass_proofs.run_laws.memory.Written.{changed_here}
use Rattle.pass_elide_proof.specs.pass_proofs.ir_base.declared.cause.Cause.{Cause}
use Rattle.pass_elide_proof.specs.pass_proofs.ir_model.Layout.{size_of}
use Rattle.pass_elide_proof.specs.pass_proofs.ir_model.Ty.{Ty}
use Rattle.pass_elide_proof.specs.pass_proofs.ir_model.declared.instr.Instr.{Instr}
use Rattle.pass_elide_proof.specs.pass_proofs.ir_model.declared.operand.Allocator.{Allocator}
use Rattle.pass_elide_proof.specs.pass_proofs.ir_model.declared.operand.Callee.{Callee}
use Rattle.pass_elide_proof.specs.pass_proofs.ir_model.declared.operand.Intrinsic.{Intrinsic}
use Rattle.pass_elide_proof.specs.pass_proofs.run_framed.Framed.{FramedGiven, framed_context, is_stack_block}
use Rattle.pass_elide_proof.specs.pass_proofs.run_laws.embedded.Refilled.{OnlyRefills}
use Rattle.pass_elide_proof.specs.pass_proofs.run_memory.Memory.{end, ended, fresh, is_killed, same_kind}
use Rattle.pass_elide_proof.specs.pass_proofs.run_memory.declared.block.Byte.{Byte}
use Rattle.pass_elide_proof.specs.pass_proofs.run_memory.declared.block.Kind.{Kind}
use Rattle.pass_elide_proof.specs.pass_proofs.run_memory.declared.block.Life.{Life}
use Rattle.pass_elide_proof.specs.pass_proofs.run_memory.declared.block.MemoryBlock.{MemoryBlock}
use Rattle.pass_elide_proof.specs.pass_proofs.run_memory.declared.pointer.Value.{Value}
use Rattle.pass_elide_proof.specs.pass_proofs.run_source.State.{work_of}
use Rattle.pass_elide_proof.specs.pass_proofs.run_source.declared.state.State.{State}
use Rattle.pass_elide_proof.specs.pass_proofs.run_step.Step.{Action, AtInstr, AtTerm, Context, Fetched, NewSlot, Nowhere, Stuck, Work, action_of, alloca, alloca_kind, has_markers, is_alignment, with_length}
use Rattle.pass_elide_proof.specs.pass_proofs.run_step.Values.{arg_values, nth, pointer_to, with_value}
use Rattle.pass_elide_proof.specs.pass_proofs.run_step.declared.world.Slot.{Slot}

-- what stands there is an alloca of the slot's name, which has the slot's address now
pub record IsNewOf (c : Context) (w : Work) (here : Fetched) (x : Work) (slot : Slot) : Type 0 where
  pub ty : Ty
  pub align : ℕ
  pub is : here ≡ AtInstr (Instr.Alloca slot.alloca ty align)
  pub values : x.values ≡ with_value w.values slot.alloca (pointer_to slot.block)
  -- the block is there, and of the kind of the function's allocas
  pub there : slot.block < length x.world.memory
  pub kind : is_stack_block x.world.memory slot.block ≡ same_kind (alloca_kind c.function) Kind.Stack

ended_kind : (x : MemoryBlock) → (ended x).kind ≡ x.kind
ended_kind x = by (is_killed x.life)
  where
    by : (t : Bool) → (if t then x else record x { life = Life.Ended }).kind ≡ x.kind
    by true = refl
    by false = refl

stack_of : (o : Option MemoryBlock) (x : MemoryBlock) → o ≡ Some x
    → option_map_or (λ (y : MemoryBlock). same_kind y.kind Kind.Stack) o false ≡ same_kind x.kind Kind.Stack
stack_of o x is =
    ap (λ (q : Option MemoryBlock). option_map_or (λ (y : MemoryBlock). same_kind y.kind Kind.Stack) q false) is

module _ (c : Context) (w : Work) where
  abbrev Makes : Fetched → Action → Type 0
  Makes here (NewSlot x slot) = IsNewOf c w here x slot
  Makes here _ = Unit {0}

  only_makes : (m : List MemoryBlock) (here : Fetched) (a : Action) → OnlyRefills m a → Makes here a
  only_makes m here (NewSlot x slot) h = absurd h
  only_makes m here _ h = tt

  length_makes : (here : Fetched) (v : Value) (f : ℕ → Action) → ((n : ℕ) → Makes here (f n))
      → Makes here (with_length v f)
  length_makes here (Value.Int y) f h = h y.bits
  length_makes here Value.Poison f h = tt
  length_makes here (Value.Ptr p) f h = tt

  -- the block that an alloca makes
  abbrev new_block : ℕ → ℕ → MemoryBlock
  new_block size align =
      record {
        size = size;
        align = align;
        kind = alloca_kind c.function;
        life = Life.Live;
        owned = None;
        bytes = replicate size Byte.Undefined;
      }

  new_kind : (name size align : ℕ)
      → is_stack_block (if has_markers c.function name
      then end (fresh w.world.memory size align (alloca_kind c.function)) (length w.world.memory)
      else fresh w.world.memory size align (alloca_kind c.function)) (length w.world.memory)
      ≡ same_kind (alloca_kind c.function) Kind.Stack
  new_kind name size align = on (has_markers c.function name)
    where
      there : slice_get (fresh w.world.memory size align (alloca_kind c.function)) (length w.world.memory)
          ≡ Some (new_block size align)
      there = get_last w.world.memory (new_block size align)

      on : (t : Bool)
          → is_stack_block (if t
          then end (fresh w.world.memory size align (alloca_kind c.function)) (length w.world.memory)
          else fresh w.world.memory size align (alloca_kind c.function)) (length w.world.memory)
          ≡ same_kind (alloca_kind c.function) Kind.Stack
      on false = stack_of _ (new_block size align) there
      on true =
          stack_of _ (ended (new_block size align))
          (changed_here (fresh w.world.memory size align (alloca_kind c.function)) (length w.world.memory) ended
          (new_block size align) there)
          ∙ ap (λ (k : Kind). same_kind k Kind.Stack) (ended_kind (new_block size align))

  new_within : (name size align : ℕ)
      → length w.world.memory < length (if has_markers c.function name
      then end (fresh w.world.memory size align (alloca_kind c.function)) (length w.world.memory)
      else fresh w.world.memory size align (alloca_kind c.function))
  new_within name size align = on (has_markers c.function name)
    where
      long : length (fresh w.world.memory size align (alloca_kind c.function)) ≡ length w.world.memory + 1
      long = length-append w.world.memory (new_block size align ∷ [])

      on : (t : Bool)
          → length w.world.memory < length (if t
          then end (fresh w.world.memory size align (alloca_kind c.function)) (length w.world.memory)
          else fresh w.world.memory size align (alloca_kind c.function))
      on false = omega (arith, long)
      on true =
          let same = changed_many (fresh w.world.memory size align (alloca_kind c.function))
          (length w.world.memory) ended
          in
          omega (arith, long, same)

  instr_makes : (i : Instr) → Makes (AtInstr i) (action_of c w (AtInstr i))
  instr_makes (Instr.Call result must_tail ty (Callee.Allocator Allocator.Malloc) args) =
      length_makes _ (nth (arg_values c.code w.values args) 0) _ (λ n. tt)
  instr_makes (Instr.Call result must_tail ty (Callee.Allocator Allocator.Znwm) args) =
      length_makes _ (nth (arg_values c.code w.values args) 0) _ (λ n. tt)
  instr_makes (Instr.Call result must_tail ty (Callee.Intrinsic Intrinsic.LifetimeStart) args) = tt
  instr_makes (Instr.Call result must_tail ty (Callee.Intrinsic Intrinsic.LifetimeEnd) args) = tt
  instr_makes (Instr.Alloca name ty align) = on (is_alignment align)
    where
      on : (t : Bool) → Makes (AtInstr (Instr.Alloca name ty align))
          (if t then alloca c w name (size_of c.code ty) align else Stuck Cause.Align)
      on true = record {
        ty = ty;
        align = align;
        is = refl;
        values = refl;
        there = new_within name (size_of c.code ty) align;
        kind = new_kind name (size_of c.code ty) align;
      }
      on false = tt
  instr_makes i =
      only_makes w.world.memory (AtInstr i) (action_of c w (AtInstr i)) (step_only c w (AtInstr i) tt)

  step_makes : (x : Fetched) → Makes x (action_of c w x)
  step_makes (AtInstr i) = instr_makes i
  step_makes (AtTerm t) =
      only_makes w.world.memory (AtTerm t) (action_of c w (AtTerm t)) (step_only c w (AtTerm t) tt)
  step_makes Nowhere = tt

pub new_of : (g : FramedGiven) (s : State) (w : Work) (slot : Slot) (acts : ActsBy g s (NewSlot w slot))
    → IsNewOf (framed_context g s) (work_of s) acts.here w slot
new_of g s w slot acts =
    subst (Makes (framed_context g s) (work_of s) acts.here) acts.acts
    (step_makes (framed_context g s) (work_of s) acts.here)
