-- What an instruction does to names that tell: an allocator gives a block of the size that it takes.
use Rattle.std.proofs.Common.{◌≡◌, ◌⊎◌, inl, inr, ℕ, zero, suc, List, [], ◌∷◌, length}
use Rattle.std.proofs.Common.{Option, Some, None, refl, sym, ap, ◌∙◌, subst, replicate}
use Rattle.std.proofs.lemmas.Bool.{cases_eq}
use Rattle.std.proofs.lemmas.Option.{slice_get-map}
use Rattle.std.specs.Prelude.{option_map, slice_get}
use Rattle.pass_frames_meaning.proofs.pass_renewed_proof.Sets.{step_sets}
use Rattle.pass_frames_meaning.proofs.pass_frames_proof.pass_kept_proof.Read.{given_result}
use Rattle.pass_frames_meaning.proofs.run_slots.Times.{more_last}
use Rattle.pass_frames_meaning.specs.Called.{IsCalling}
use Rattle.pass_frames_meaning.specs.Sized.{IsLonger, sizes_of}
use Rattle.pass_frames_meaning.specs.pass_frames_proof.ir_model.declared.instr.Instr.{Instr}
use Rattle.pass_frames_meaning.specs.pass_frames_proof.ir_model.declared.module.Function.{Function}
use Rattle.pass_frames_meaning.specs.pass_frames_proof.ir_model.declared.module.Module.{Module}
use Rattle.pass_frames_meaning.specs.pass_frames_proof.ir_model.declared.operand.Allocator.{Allocator}
use Rattle.pass_frames_meaning.specs.pass_frames_proof.ir_model.declared.operand.Arg.{Arg}
use Rattle.pass_frames_meaning.specs.pass_frames_proof.ir_model.declared.operand.Callee.{Callee}
use Rattle.pass_frames_meaning.specs.pass_frames_proof.ir_model.declared.operand.Intrinsic.{Intrinsic}
use Rattle.pass_frames_meaning.specs.pass_frames_proof.ir_model.declared.operand.Operand.{Operand}
use Rattle.pass_frames_meaning.specs.pass_frames_proof.ir_parts.Contents.{result_of}
use Rattle.pass_frames_meaning.specs.pass_frames_proof.ir_paths.Windows.{operand_at}
use Rattle.pass_frames_meaning.specs.pass_frames_proof.pass_kept_proof.Needed.{given_by}
use Rattle.pass_frames_meaning.specs.pass_frames_proof.pass_renewed_proof.Steps.{SetsOnly}
use Rattle.pass_frames_meaning.specs.pass_frames_proof.run_memory.Memory.{fresh}
use Rattle.pass_frames_meaning.specs.pass_frames_proof.run_memory.declared.block.Byte.{Byte}
use Rattle.pass_frames_meaning.specs.pass_frames_proof.run_memory.declared.block.Kind.{Kind}
use Rattle.pass_frames_meaning.specs.pass_frames_proof.run_memory.declared.block.Life.{Life}
use Rattle.pass_frames_meaning.specs.pass_frames_proof.run_memory.declared.block.MemoryBlock.{MemoryBlock}
use Rattle.pass_frames_meaning.specs.pass_frames_proof.run_memory.declared.pointer.Offset.{Offset}
use Rattle.pass_frames_meaning.specs.pass_frames_proof.run_memory.declared.pointer.Pointer.{Pointer}
use Rattle.pass_frames_meaning.specs.pass_frames_proof.run_memory.declared.pointer.Value.{Value}
use Rattle.pass_frames_meaning.specs.pass_frames_proof.run_step.Step.{Action, AtInstr, Context, Coro, Done, NewSlot, Work, allocated, fetch, instr_action, with_length}
use Rattle.pass_frames_meaning.specs.pass_frames_proof.run_step.Values.{Env, arg_values, nth, operand_value, pointer_to, value_in, with_result}
use Rattle.pass_frames_meaning.specs.pass_frames_proof.run_step.declared.world.Slot.{Slot}
use Rattle.run_exact.specs.Names.{AllocatesSize, AsksSize, TakesSizeName}
use Rattle.run_exact.specs.States.{AreAsTold, IsAsTold, IsSized, LeadsToSized}

-- ---- arguments

pub argument_is : (m : Module) (env : Env) (args : List Arg) (n v : ℕ) → operand_at args n ≡ Operand.Local v
    → nth (arg_values m env args) n ≡ value_in env v
argument_is m env [] n v e = absurd (cc)
argument_is m env (a ∷ args) zero v e = ap (operand_value m env a.ty) e
argument_is m env (a ∷ args) (suc n) v e = argument_is m env args n v e

some_or : (o : Option ℕ) (v : ℕ) → (o ≡ Some v) ⊎ (o ≡ Some v → ⊥)
some_or None v = inr (λ e. absurd (cc))
some_or (Some n) v = on (cases_eq n v)
  where
    one : (a b : ℕ) → Some a ≡ Some b → a ≡ b
    one a b e = cc

    on : (n ≡ v) ⊎ (n ≡ v → ⊥) → (Some n ≡ Some v) ⊎ (Some n ≡ Some v → ⊥)
    on (inl e) = inl (ap Some e)
    on (inr ne) = inr (λ e. ne (one n v e))

-- ---- what gives names that tell

-- a call of a function or of a coroutine gives none
pub calls_ask : (i : Instr) → IsCalling i → AsksSize i → ⊥
calls_ask (Instr.Call result must_tail ty (Callee.Intrinsic Intrinsic.CoroSizeI32) args) c k = c
calls_ask (Instr.Call result must_tail ty (Callee.Intrinsic Intrinsic.CoroSizeI64) args) c k = c
calls_ask _ c k = k

pub calls_allocate : (f : Function) (i : Instr) → IsCalling i → AllocatesSize f i → ⊥
calls_allocate f (Instr.Call result must_tail ty (Callee.Allocator Allocator.Malloc) args) c k = c
calls_allocate f (Instr.Call result must_tail ty (Callee.Allocator Allocator.Znwm) args) c k = c
calls_allocate f _ c k = k

abbrev IsCoro : Action → Type 0
IsCoro (Coro x args result) = Unit {0}
IsCoro _ = ⊥

asks_coro : (c : Context) (w : Work) (i : Instr) → AsksSize i → IsCoro (instr_action c w i)
asks_coro c w (Instr.Call result must_tail ty (Callee.Intrinsic Intrinsic.CoroSizeI32) args) k = tt
asks_coro c w (Instr.Call result must_tail ty (Callee.Intrinsic Intrinsic.CoroSizeI64) args) k = tt
asks_coro c w _ k = absurd k

-- ---- a new block

last_there : (memory : List MemoryBlock) (n : ℕ)
    → slice_get (sizes_of (fresh memory n 16 Kind.Allocator)) (length memory) ≡ Some (n, 16)
last_there memory n =
    slice_get-map (λ (x : MemoryBlock). (x.size, x.align)) (fresh memory n 16 Kind.Allocator) (length memory)
    ∙ ap (option_map (λ (x : MemoryBlock). (x.size, x.align))) (more_last memory (record {
      size = n;
      align = 16;
      kind = Kind.Allocator;
      life = Life.Live;
      owned = None;
      bytes = replicate n Byte.Undefined;
    }))

-- ---- an instruction that is done

module _ (f : Function) (size : ℕ) (rows : List (ℕ × ℕ)) (c : Context) (w : Work)
    (told : AreAsTold f size rows w.values) (block at : ℕ) (i : Instr) (there : fetch f block at ≡ AtInstr i) where
  abbrev Told : ℕ → Value → Type 0
  Told v x = IsAsTold f size rows v x

  -- the allocator's block, by the word that it takes
  given_sized : (u : Work) (result : Option ℕ) (v n : ℕ) → Done (allocated w result n) ≡ Done u → n ≡ size
      → result ≡ Some v → IsLonger (sizes_of u.world.memory) rows → LeadsToSized rows size (value_in u.values v)
  given_sized u result v n e same gives longer =
      subst (LeadsToSized rows size) (sym is) (at_name w.values v)
    where
      one : (a b : Work) → Done a ≡ Done b → b ≡ a
      one a b e = cc

      number : (a b : ℕ) (o p : Offset) → Value.Ptr (Pointer.At a o) ≡ Value.Ptr (Pointer.At b p) → a ≡ b
      number a b o p e = cc

      is_work : u ≡ allocated w result n
      is_work = one (allocated w result n) u e

      is : value_in u.values v ≡ value_in (with_result w.values (Some v) (pointer_to (length w.world.memory))) v
      is = ap (λ (x : Work). value_in x.values v) is_work
          ∙ ap (λ (o : Option ℕ). value_in (with_result w.values o (pointer_to (length w.world.memory))) v) gives

      made : IsSized rows size (length w.world.memory)
      made = record {
        align = 16;
        there = longer.each (length w.world.memory) (size, 16)
            (ap (λ (x : Work). slice_get (sizes_of x.world.memory) (length w.world.memory)) is_work
            ∙ (last_there w.world.memory n ∙ ap (λ (k : ℕ). Some (k, 16)) same));
      }

      pointer : LeadsToSized rows size (pointer_to (length w.world.memory))
      pointer b o d = subst (IsSized rows size) (number (length w.world.memory) b _ o d) made

      at_name : (env : Env) (v : ℕ)
          → LeadsToSized rows size (value_in (with_result env (Some v) (pointer_to (length w.world.memory))) v)
      at_name [] v b o d = absurd (cc)
      at_name (x ∷ env) zero b o d = pointer b o d
      at_name (x ∷ env) (suc v) b o d = at_name env v b o d

  allocates_sized : (u : Work) (result : Option ℕ) (args : List Arg) (v : ℕ) → TakesSizeName f args
      → with_length (nth (arg_values c.code w.values args) 0) (λ n. Done (allocated w result n)) ≡ Done u
      → result ≡ Some v → IsLonger (sizes_of u.world.memory) rows → LeadsToSized rows size (value_in u.values v)
  allocates_sized u result args v k e gives longer =
      on (value_in w.values k.size) refl (sym (ap (λ (x : Value). with_length x (λ n. Done (allocated w result n)))
      (argument_is c.code w.values args 0 k.size k.takes)) ∙ e)
    where
      on : (x : Value) → value_in w.values k.size ≡ x → with_length x (λ n. Done (allocated w result n)) ≡ Done u
          → LeadsToSized rows size (value_in u.values v)
      on (Value.Int word) is d =
          given_sized u result v word.bits d ((told k.size).sizes k.is_size word is) gives longer
      on Value.Poison is d = absurd (cc)
      on (Value.Ptr p) is d = absurd (cc)

  block_sized : (u : Work) (i : Instr) (v : ℕ) → AllocatesSize f i → instr_action c w i ≡ Done u
      → result_of i ≡ Some v → IsLonger (sizes_of u.world.memory) rows → LeadsToSized rows size (value_in u.values v)
  block_sized u (Instr.Call result must_tail ty (Callee.Allocator Allocator.Malloc) args) v k e gives longer =
      allocates_sized u result args v k e gives longer
  block_sized u (Instr.Call result must_tail ty (Callee.Allocator Allocator.Znwm) args) v k e gives longer =
      allocates_sized u result args v k e gives longer
  block_sized u _ v k e gives longer = absurd k

  not_coro : (u : Work) → instr_action c w i ≡ Done u → AsksSize i → ⊥
  not_coro u e k = subst IsCoro e (asks_coro c w i k)

  pub done_told : (u : Work) → instr_action c w i ≡ Done u → IsLonger (sizes_of u.world.memory) rows
      → AreAsTold f size rows u.values
  done_told u e longer v = on (some_or (given_by i) v)
    where
      others : SetsOnly (given_by i) w.values (Done u)
      others = subst (SetsOnly (given_by i) w.values) e (step_sets c w (AtInstr i))

      on : (given_by i ≡ Some v) ⊎ (given_by i ≡ Some v → ⊥) → Told v (value_in u.values v)
      on (inr ne) = subst (Told v) (sym (others v ne)) (told v)
      on (inl gives) =
          let result = given_result i v gives in
          record {
            sizes = λ k. absurd (not_coro u e (k.instrs block at i there result));
            blocks = λ k. block_sized u i v (k.instrs block at i there result) e result longer;
            memory = λ k. absurd (k.instrs block at i there result);
          }

  -- ---- an alloca

  abbrev IsNoSlot : Action → Type 0
  IsNoSlot (NewSlot u slot) = ⊥
  IsNoSlot _ = Unit {0}

  length_no_slot : (x : Value) (result : Option ℕ) → IsNoSlot (with_length x (λ n. Done (allocated w result n)))
  length_no_slot (Value.Int y) result = tt
  length_no_slot Value.Poison result = tt
  length_no_slot (Value.Ptr p) result = tt

  asks_no_slot : (i : Instr) → AsksSize i → IsNoSlot (instr_action c w i)
  asks_no_slot (Instr.Call result must_tail ty (Callee.Intrinsic Intrinsic.CoroSizeI32) args) k = tt
  asks_no_slot (Instr.Call result must_tail ty (Callee.Intrinsic Intrinsic.CoroSizeI64) args) k = tt
  asks_no_slot _ k = absurd k

  allocates_no_slot : (i : Instr) → AllocatesSize f i → IsNoSlot (instr_action c w i)
  allocates_no_slot (Instr.Call result must_tail ty (Callee.Allocator Allocator.Malloc) args) k =
      length_no_slot (nth (arg_values c.code w.values args) 0) result
  allocates_no_slot (Instr.Call result must_tail ty (Callee.Allocator Allocator.Znwm) args) k =
      length_no_slot (nth (arg_values c.code w.values args) 0) result
  allocates_no_slot _ k = absurd k

  pub slot_told : (u : Work) (slot : Slot) → instr_action c w i ≡ NewSlot u slot → AreAsTold f size rows u.values
  slot_told u slot e v = on (some_or (given_by i) v)
    where
      others : SetsOnly (given_by i) w.values (NewSlot u slot)
      others = subst (SetsOnly (given_by i) w.values) e (step_sets c w (AtInstr i))

      on : (given_by i ≡ Some v) ⊎ (given_by i ≡ Some v → ⊥) → Told v (value_in u.values v)
      on (inr ne) = subst (Told v) (sym (others v ne)) (told v)
      on (inl gives) =
          let result = given_result i v gives in
          record {
            sizes = λ k. absurd (subst IsNoSlot e (asks_no_slot i (k.instrs block at i there result)));
            blocks = λ k. absurd (subst IsNoSlot e (allocates_no_slot i (k.instrs block at i there result)));
            memory = λ k. absurd (k.instrs block at i there result);
          }
