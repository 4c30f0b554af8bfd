-- A step in which a resume hands on some values keeps states in which names have sizes and blocks of that size, and
-- instances their blocks.
use Rattle.std.proofs.Common.{◌≡◌, ◌⊎◌, inl, inr, ◌<◌, ◌^◌, ℕ, Bool, true, false, List, [], ◌∷◌, ◌++◌, length, arith}
use Rattle.std.proofs.Common.{Option, Some, Result, Ok, Err, refl, sym, ap, ◌∙◌, subst}
use Rattle.std.proofs.Math.Nat.{mod-eq_of_lt}
use Rattle.std.specs.Prelude.{is_none, negsuc, pos, slice_get}
use Rattle.pass_frames_meaning.proofs.called.Comes.{Comes, comes}
use Rattle.pass_frames_meaning.proofs.run_hooks.Reached.{IsOfInstr, of_term}
use Rattle.pass_frames_meaning.proofs.run_slots.Times.{more_back}
use Rattle.pass_frames_meaning.specs.Called.{IsCalling}
use Rattle.pass_frames_meaning.specs.Sized.{IsLonger, sizes_of}
use Rattle.pass_frames_meaning.specs.pass_frames_proof.ir_base.declared.cause.Cause.{Cause}
use Rattle.pass_frames_meaning.specs.pass_frames_proof.ir_base.declared.outcome.Outcome.{Outcome}
use Rattle.pass_frames_meaning.specs.pass_frames_proof.ir_base.declared.outcome.Word.{Word}
use Rattle.pass_frames_meaning.specs.pass_frames_proof.ir_model.Ty.{Ty}
use Rattle.pass_frames_meaning.specs.pass_frames_proof.ir_model.declared.instr.Instr.{Instr}
use Rattle.pass_frames_meaning.specs.pass_frames_proof.ir_model.declared.operand.Arg.{Arg}
use Rattle.pass_frames_meaning.specs.pass_frames_proof.ir_model.declared.operand.Callee.{Callee}
use Rattle.pass_frames_meaning.specs.pass_frames_proof.ir_model.declared.operand.Intrinsic.{Intrinsic}
use Rattle.pass_frames_meaning.specs.pass_frames_proof.ir_model.declared.operand.Operand.{Operand}
use Rattle.pass_frames_meaning.specs.pass_frames_proof.ir_parts.Contents.{result_of}
use Rattle.pass_frames_meaning.specs.pass_frames_proof.ir_paths.Windows.{operand_at, suspend_of}
use Rattle.pass_frames_meaning.specs.pass_frames_proof.pass_kept_proof.Kept.{Keep, continue_keeping, kept}
use Rattle.pass_frames_meaning.specs.pass_frames_proof.run_memory.run_ints.Numbers.{word_of}
use Rattle.pass_frames_meaning.specs.pass_frames_proof.run_memory.Memory.{own}
use Rattle.pass_frames_meaning.specs.pass_frames_proof.run_memory.declared.block.Kind.{Kind}
use Rattle.pass_frames_meaning.specs.pass_frames_proof.run_memory.declared.block.MemoryBlock.{MemoryBlock}
use Rattle.pass_frames_meaning.specs.pass_frames_proof.run_memory.declared.pointer.Pointer.{Pointer}
use Rattle.pass_frames_meaning.specs.pass_frames_proof.run_memory.declared.pointer.Value.{Value}
use Rattle.pass_frames_meaning.specs.pass_frames_proof.run_source.Source.{Sleeper, act, advance_by, begin, begin_at, begun, context_of, coro, frame_address}
use Rattle.pass_frames_meaning.specs.pass_frames_proof.run_source.Source.{left_windows, new_instance, promise, push, release, resumed, suspend}
use Rattle.pass_frames_meaning.specs.pass_frames_proof.run_source.State.{function_of, gives, next, or_undefined, own_frame, own_instance, point_of, settled, with_memory, with_status, work_of}
use Rattle.pass_frames_meaning.specs.pass_frames_proof.run_source.declared.state.Instance.{Instance}
use Rattle.pass_frames_meaning.specs.pass_frames_proof.run_source.declared.state.State.{State}
use Rattle.pass_frames_meaning.specs.pass_frames_proof.run_source.declared.state.Status.{Status}
use Rattle.pass_frames_meaning.specs.pass_frames_proof.run_source_tables.Given.{Given}
use Rattle.pass_frames_meaning.specs.pass_frames_proof.run_step.Results.{and_then, found, ok_if}
use Rattle.pass_frames_meaning.specs.pass_frames_proof.run_step.Step.{Action, AtInstr, AtTerm, Coro, Deallocate, Done, Enter, Fetched, GoTo, NewSlot, Nowhere, Return, Stuck, action_of, block_of, fetch, instr_action, term_action}
use Rattle.pass_frames_meaning.specs.pass_frames_proof.run_step.Values.{arg_values, integer, nth}
use Rattle.pass_frames_meaning.specs.run_hooks.Reached.{IsReachedState}
use Rattle.run_exact.proofs.Actions.{argument_is, calls_allocate, calls_ask, done_told, slot_told}
use Rattle.run_exact.proofs.Parts.{called_sized, end_sized, enter_sized, frees_sized, gives_sized, leaves_sized, next_sized, ok_sized, release_func, release_sized, resumed_sized, return_sized, save_sized, set_sized, sleeper_sized, slot_sized}
use Rattle.run_exact.proofs.Values.{kept_told, none_told}
use Rattle.run_exact.specs.Names.{AsksSize, BeginsInSizedBlocks}
use Rattle.run_exact.specs.States.{AreSmall, GoesToNone, HasSized, IsAsTold, IsSize, IsSized, IsSizedIn, IsSizedInstance, LeadsToSized, StaysSized, function_in, size_in}

-- ---- sizes

narrow : (size : ℕ) → size < 2 ^ 32 → IsSize size (integer 32 (pos size))
narrow size lt word e = ap (λ (x : Word). x.bits) (sym (same (word_of 32 (pos size)) word e)) ∙ mod-eq_of_lt lt
  where
    same : (x y : Word) → Value.Int x ≡ Value.Int y → x ≡ y
    same x y e = cc

wide : (size : ℕ) → size < 2 ^ 32 → IsSize size (integer 64 (pos size))
wide size lt word e =
    let less : size < 2 ^ 64 = omega (arith, lt) in
    ap (λ (x : Word). x.bits) (sym (same (word_of 64 (pos size)) word e)) ∙ mod-eq_of_lt less
  where
    same : (x y : Word) → Value.Int x ≡ Value.Int y → x ≡ y
    same x y e = cc

module _ (g : Given) (keep : Keep) (small : AreSmall g) (rows : List (ℕ × ℕ)) (s : State) (h : IsSizedIn g rows s)
    (reached : IsReachedState g s) where
  abbrev Stays : Result State Cause → Type 0
  Stays r = StaysSized g rows r

  abbrev here : Fetched
  here = fetch (function_of g s) s.top.block s.top.at

  then_sized : {A : Type 0} (r : Result A Cause) (k : A → Result State Cause)
      → ((a : A) → r ≡ Ok a → Stays (k a)) → Stays (and_then r k)
  then_sized (Err cause) k h = tt
  then_sized (Ok a) k h = h a refl

  gives_none : (result : Option ℕ) → GoesToNone (function_of g s) result → (v : Value) → IsSizedIn g rows (gives s result v)
  gives_none result none v =
      gives_sized g rows s h result v
      (λ n e. none_told (function_of g s) (size_in g s.top.func) rows result none n e v)

  -- ---- begin

  begun_sized : (memory : List MemoryBlock) (b : ℕ)
      → (BeginsInSizedBlocks (function_of g s) → IsSized rows (size_in g s.top.func) b)
      → IsSizedIn g rows (begun g (with_memory s memory) b 0)
  begun_sized memory b k = record {
    top = h.top;
    below = h.below;
    instances = set_sized g rows (s.instances ++ new_instance s.top.func b 0 ∷ []) more (length s.instances) _
        (record { kept = tt; block = k });
  }
    where
      new : IsSizedInstance g rows (new_instance s.top.func b 0)
      new = record { kept = tt; block = k }

      more : (i : ℕ) (x : Instance) → slice_get (s.instances ++ new_instance s.top.func b 0 ∷ []) i ≡ Some x
          → IsSizedInstance g rows x
      more i x e = on (more_back s.instances (new_instance s.top.func b 0) i x e)
        where
          on : (slice_get s.instances i ≡ Some x) ⊎ ((i ≡ length s.instances) × (new_instance s.top.func b 0 ≡ x))
              → IsSizedInstance g rows x
          on (inl d) = h.instances i x d
          on (inr d) = subst (IsSizedInstance g rows) d.1 new

  begin_sized : (result : Option ℕ) (mem : Value) → GoesToNone (function_of g s) result
      → (BeginsInSizedBlocks (function_of g s) → LeadsToSized rows (size_in g s.top.func) mem)
      → Stays (begin g s result mem)
  begin_sized result mem none k = on (is_none s.top.instance)
    where
      placed : (v : Value) → (BeginsInSizedBlocks (function_of g s) → LeadsToSized rows (size_in g s.top.func) v)
          → (memory : List MemoryBlock) → Stays (and_then (and_then (found Cause.Begin (block_of v))
          (λ b. Ok (begun g (with_memory s memory) b 0))) (λ z. Ok (gives z result mem)))
      placed (Value.Ptr (Pointer.At b o)) k memory =
          gives_sized g rows (begun g (with_memory s memory) b 0) (begun_sized memory b (λ all. k all b o refl)) result
          mem (λ n e. none_told (function_of g s) (size_in g s.top.func) rows result none n e mem)
      placed (Value.Ptr Pointer.Null) k memory = tt
      placed (Value.Ptr (Pointer.Func n)) k memory = tt
      placed (Value.Int w) k memory = tt
      placed Value.Poison k memory = tt

      owned : (o : Result (List MemoryBlock) Cause) → Stays (and_then (and_then o
          (λ memory. and_then (found Cause.Begin (block_of mem)) (λ b. Ok (begun g (with_memory s memory) b 0))))
          (λ z. Ok (gives z result mem)))
      owned (Ok memory) = placed mem k memory
      owned (Err cause) = tt

      on : (b : Bool) → Stays (and_then (ok_if b Cause.Begin s)
          (λ z. and_then (begin_at g z mem Kind.Allocator) (λ z. Ok (gives z result mem))))
      on true = owned (own s.world.memory mem (own_frame g s).size Kind.Allocator)
      on false = tt

  -- ---- what goes on behind a suspend

  goes_sized : (y : Sleeper) (label : ℕ) → slice_get s.instances y.number ≡ Some y.instance
      → HasSized g rows y.instance.coroutine y.values
      → IsSizedIn g rows (continue_keeping g keep s y.number y.instance y.suspend y.values label)
  goes_sized y label e k =
      enter_sized g rows (push (with_status s y.number y.instance Status.Running) (resumed y.number y.instance y.suspend
      (kept (keep y.instance.coroutine y.suspend) y.values)))
      (resumed_sized g rows s h y.number y.instance e y.suspend (kept (keep y.instance.coroutine y.suspend) y.values)
      (kept_told (function_in g y.instance.coroutine) (size_in g y.instance.coroutine) rows
      (keep y.instance.coroutine y.suspend) y.values k))
      label

  -- ---- the coro intrinsics

  module _ (result : Option ℕ) (must_tail : Bool) (ty : Option Ty) (args : List Arg) where
    -- a call that asks for no size gives no name that tells
    none_by : (x : Intrinsic) → (AsksSize (Instr.Call result must_tail ty (Callee.Intrinsic x) args) → ⊥)
        → here ≡ AtInstr (Instr.Call result must_tail ty (Callee.Intrinsic x) args)
        → GoesToNone (function_of g s) result
    none_by x never there v e (inl k) =
        never (k.instrs s.top.block s.top.at (Instr.Call result must_tail ty (Callee.Intrinsic x) args) there e)
    none_by x never there v e (inr (inl k)) =
        k.instrs s.top.block s.top.at (Instr.Call result must_tail ty (Callee.Intrinsic x) args) there e
    none_by x never there v e (inr (inr k)) =
        k.instrs s.top.block s.top.at (Instr.Call result must_tail ty (Callee.Intrinsic x) args) there e

    size_told : (x : Intrinsic) → here ≡ AtInstr (Instr.Call result must_tail ty (Callee.Intrinsic x) args)
        → (v : Value) → IsSize (size_in g s.top.func) v → (n : ℕ) → result ≡ Some n
        → IsAsTold (function_of g s) (size_in g s.top.func) rows n v
    size_told x there v k n e = record {
      sizes = λ j. k;
      blocks = λ j. absurd (j.instrs s.top.block s.top.at
          (Instr.Call result must_tail ty (Callee.Intrinsic x) args) there e);
      memory = λ j. absurd (j.instrs s.top.block s.top.at
          (Instr.Call result must_tail ty (Callee.Intrinsic x) args) there e);
    }

    memory_leads : here ≡ AtInstr (Instr.Call result must_tail ty (Callee.Intrinsic Intrinsic.CoroBegin) args)
        → BeginsInSizedBlocks (function_of g s)
        → LeadsToSized rows (size_in g s.top.func) (nth (arg_values g.code s.top.values args) 1)
    memory_leads there all =
        let k = all s.top.block s.top.at result must_tail ty args there in
        subst (LeadsToSized rows (size_in g s.top.func)) (sym (argument_is g.code s.top.values args 1 k.0 k.1))
        ((h.top k.0).memory k.2)

    coro_sized : (x : Intrinsic) → here ≡ AtInstr (Instr.Call result must_tail ty (Callee.Intrinsic x) args)
        → Stays (coro g (continue_keeping g keep) s x args (arg_values g.code s.top.values args) result)
    coro_sized Intrinsic.CoroId e = next_sized g rows s h
    coro_sized Intrinsic.CoroSizeI32 e = gives_sized g rows s h result (integer 32 (pos (size_in g s.top.func)))
        (size_told Intrinsic.CoroSizeI32 e (integer 32 (pos (size_in g s.top.func)))
        (narrow (size_in g s.top.func) (small s.top.func)))
    coro_sized Intrinsic.CoroSizeI64 e = gives_sized g rows s h result (integer 64 (pos (size_in g s.top.func)))
        (size_told Intrinsic.CoroSizeI64 e (integer 64 (pos (size_in g s.top.func)))
        (wide (size_in g s.top.func) (small s.top.func)))
    coro_sized Intrinsic.CoroAlignI32 e = gives_none result (none_by Intrinsic.CoroAlignI32 (λ k. k) e) _
    coro_sized Intrinsic.CoroAlignI64 e = gives_none result (none_by Intrinsic.CoroAlignI64 (λ k. k) e) _
    coro_sized Intrinsic.CoroAlloc e = gives_none result (none_by Intrinsic.CoroAlloc (λ k. k) e) _
    coro_sized Intrinsic.CoroBegin e = begin_sized result (nth (arg_values g.code s.top.values args) 1)
        (none_by Intrinsic.CoroBegin (λ k. k) e) (memory_leads e)
    coro_sized Intrinsic.CoroFree e = gives_sized g rows (release s) (release_sized g rows s h) result
        (frame_address (own_instance s))
        (λ n d. subst (λ (func : ℕ). IsAsTold (function_in g func) (size_in g func) rows n
        (frame_address (own_instance s))) (sym (release_func g rows s))
        (none_told (function_of g s) (size_in g s.top.func) rows result (none_by Intrinsic.CoroFree (λ k. k) e) n d
        (frame_address (own_instance s))))
    coro_sized Intrinsic.CoroFrame e = gives_none result (none_by Intrinsic.CoroFrame (λ k. k) e) _
    coro_sized Intrinsic.CoroSave e =
        then_sized (found Cause.State (suspend_of (function_of g s) (point_of s))) _ (λ u eu.
        save_sized g rows s h reached (point_of s) u (λ t. Ok (next t)) (λ t k same. next_sized g rows t k))
    coro_sized Intrinsic.CoroSuspend e = on (operand_at args 0)
      where
        none : GoesToNone (function_of g s) result
        none = none_by Intrinsic.CoroSuspend (λ k. k) e

        gave : (t : State) → IsSizedIn g rows t → t.top.func ≡ s.top.func
            → IsSizedIn g rows (gives t result (integer 8 (negsuc 0)))
        gave t k same = gives_sized g rows t k result (integer 8 (negsuc 0)) (λ n d.
            subst (λ (func : ℕ). IsAsTold (function_in g func) (size_in g func) rows n (integer 8 (negsuc 0))) (sym same)
            (none_told (function_of g s) (size_in g s.top.func) rows result none n d (integer 8 (negsuc 0))))

        on : (token : Operand) → Stays (suspend s result token)
        on Operand.None = save_sized g rows s h reached (point_of s) (point_of s)
            (λ t. Ok (gives t result (integer 8 (negsuc 0)))) gave
        on token = gave s h refl
    coro_sized Intrinsic.CoroEnd e = end_sized g rows s h result (none_by Intrinsic.CoroEnd (λ k. k) e)
    coro_sized Intrinsic.CoroResume e = sleeper_sized g rows s h (nth (arg_values g.code s.top.values args) 0) _
        (λ y there k. ok_sized g rows _ Cause.State _ (goes_sized y _ there k))
    coro_sized Intrinsic.CoroDestroy e = sleeper_sized g rows s h (nth (arg_values g.code s.top.values args) 0) _
        (λ y there k. goes_sized y _ there k)
    coro_sized Intrinsic.CoroDone e = sleeper_sized g rows s h (nth (arg_values g.code s.top.values args) 0) _
        (λ y there k. ok_sized g rows _ Cause.State _
        (gives_none result (none_by Intrinsic.CoroDone (λ k. k) e) _))
    coro_sized Intrinsic.CoroPromise e =
        then_sized (promise g s (nth (arg_values g.code s.top.values args) 0) (operand_at args 2)) _
        (λ v ev. gives_none result (none_by Intrinsic.CoroPromise (λ k. k) e) v)
    coro_sized Intrinsic.LifetimeStart e = next_sized g rows s h
    coro_sized Intrinsic.LifetimeEnd e = next_sized g rows s h
    coro_sized Intrinsic.MemcpyI64 e = next_sized g rows s h
    coro_sized Intrinsic.MemcpyI32 e = next_sized g rows s h

  -- ---- an instruction

  module _ (i : Instr) (there : fetch (function_of g s) s.top.block s.top.at ≡ AtInstr i) where
    -- a call gives no name that tells
    none_called : (result : Option ℕ) → IsCalling i → result_of i ≡ result → GoesToNone (function_of g s) result
    none_called result is gives v e (inl k) =
        calls_ask i is (k.instrs s.top.block s.top.at i there (gives ∙ e))
    none_called result is gives v e (inr (inl k)) =
        calls_allocate (function_of g s) i is (k.instrs s.top.block s.top.at i there (gives ∙ e))
    none_called result is gives v e (inr (inr k)) = k.instrs s.top.block s.top.at i there (gives ∙ e)

    instr_sized : (a : Action) → instr_action (context_of g s) (work_of s) i ≡ a → Comes i a
        → IsLonger (sizes_of (or_undefined g s (act g (continue_keeping g keep) s a)).world.memory) rows
        → Stays (act g (continue_keeping g keep) s a)
    instr_sized (Stuck cause) is q longer = tt
    instr_sized (Done w) is q longer = record {
      top = done_told (function_of g s) (size_in g s.top.func) rows (context_of g s) (work_of s) h.top s.top.block
          s.top.at i there w is longer;
      below = h.below;
      instances = h.instances;
    }
    instr_sized (NewSlot w slot) is q longer = slot_sized g rows (settled s w) slot (record {
      top = slot_told (function_of g s) (size_in g s.top.func) rows (context_of g s) (work_of s) h.top s.top.block
          s.top.at i there w slot is;
      below = h.below;
      instances = h.instances;
    })
    instr_sized (Enter func args result must_tail) is q longer =
        called_sized g rows s h func args result _ (none_called result q.0 q.1)
    instr_sized (Coro x args result) is q longer =
        coro_sized result q.0 q.1 args x (there ∙ ap AtInstr q.2)
    instr_sized (Deallocate p) is q longer = frees_sized g rows s h p
    instr_sized (GoTo label) is q longer = absurd q
    instr_sized (Return v) is q longer = absurd q

  -- ---- a terminator

  term_sized : (a : Action) → IsOfInstr a ≡ false → Stays (act g (continue_keeping g keep) s a)
  term_sized (GoTo label) q = leaves_sized g rows s h label (left_windows g s label)
  term_sized (Return v) q = return_sized g rows s h v
  term_sized (Stuck cause) q = tt
  term_sized (Done w) q = absurd (cc)
  term_sized (NewSlot w slot) q = absurd (cc)
  term_sized (Enter func args result must_tail) q = absurd (cc)
  term_sized (Coro x args result) q = absurd (cc)
  term_sized (Deallocate p) q = absurd (cc)

  -- ---- all of it

  acts_sized : (x : Fetched) → fetch (function_of g s) s.top.block s.top.at ≡ x
      → IsLonger (sizes_of (or_undefined g s (act g (continue_keeping g keep) s
      (action_of (context_of g s) (work_of s) x))).world.memory) rows
      → Stays (act g (continue_keeping g keep) s (action_of (context_of g s) (work_of s) x))
  acts_sized Nowhere e longer = tt
  acts_sized (AtInstr i) e longer =
      instr_sized i e (instr_action (context_of g s) (work_of s) i) refl (comes (context_of g s) (work_of s) i) longer
  acts_sized (AtTerm t) e longer =
      term_sized (term_action (context_of g s) (work_of s) t) (of_term (context_of g s) s t)

  or_sized : (r : Result State Cause) → Stays r → IsSizedIn g rows (or_undefined g s r)
  or_sized (Err cause) k = record { top = h.top; below = h.below; instances = h.instances }
  or_sized (Ok t) k = k

  pub advance_sized : (o : Outcome)
      → IsLonger (sizes_of (advance_by g (continue_keeping g keep) s o).world.memory) rows
      → IsSizedIn g rows (advance_by g (continue_keeping g keep) s o)
  advance_sized Outcome.Running longer =
      or_sized (act g (continue_keeping g keep) s (action_of (context_of g s) (work_of s)
      (fetch (function_of g s) s.top.block s.top.at)))
      (acts_sized (fetch (function_of g s) s.top.block s.top.at) refl longer)
  advance_sized (Outcome.Returned v) longer = h
  advance_sized (Outcome.Undefined cause place) longer = h
