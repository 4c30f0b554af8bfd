-- Behind a begin it is known where a ramp began that was given its frame.
use Rattle.std.proofs.Common.{◌≡◌, ◌<◌, ◌++◌, ◌∙◌, ◌∷◌, ◌&&◌, ◌==◌, [], ap, arith, Bool, Err, false, length, List, Ok, Option, refl, Result, sym, true, ℕ, if◌then◌else◌}
use Rattle.std.specs.Prelude.{None, Some, is_none, slice_get, slice_set}
use Rattle.pass_elide_proof.proofs.CallersKnown.{KnownIf, next_known}
use Rattle.pass_elide_proof.proofs.CallersLinks.{calls_on}
use Rattle.pass_elide_proof.proofs.PhiValues.{value_here}
use Rattle.pass_elide_proof.specs.Beginning.{IsKnownTo}
use Rattle.pass_elide_proof.specs.Callers.{StandsAtInstr}
use Rattle.pass_elide_proof.specs.CallersStack.{AreCalled, HasBegunIn}
use Rattle.pass_elide_proof.specs.Elision.{Elision, elided, function_in}
use Rattle.pass_proofs.proofs.ir_laws.facts.Lists.{get_front, get_last, get_within, set_here, set_other}
use Rattle.pass_proofs.proofs.ir_laws.facts.Truth.{and_first, equal_numbers}
use Rattle.pass_proofs.specs.ir_base.declared.cause.Cause.{Cause}
use Rattle.pass_proofs.specs.ir_model.Ty.{Ty}
use Rattle.pass_proofs.specs.ir_model.declared.instr.Instr.{Instr}
use Rattle.pass_proofs.specs.ir_model.declared.operand.Arg.{Arg}
use Rattle.pass_proofs.specs.ir_model.declared.operand.Callee.{Callee}
use Rattle.pass_proofs.specs.ir_model.declared.operand.Intrinsic.{Intrinsic}
use Rattle.pass_proofs.specs.run_framed.Framed.{are_finished_at, begin_given_at, begin_in_block, begin_in_frame, begin_name, frame_around, framed_begin, framed_step, has_room, has_size}
use Rattle.pass_proofs.specs.run_laws.changed.Changed.{Each}
use Rattle.pass_proofs.specs.run_memory.Memory.{own}
use Rattle.pass_proofs.specs.run_memory.declared.block.Kind.{Kind}
use Rattle.pass_proofs.specs.run_memory.declared.block.MemoryBlock.{MemoryBlock}
use Rattle.pass_proofs.specs.run_memory.declared.pointer.Pointer.{Pointer}
use Rattle.pass_proofs.specs.run_memory.declared.pointer.Value.{Value}
use Rattle.pass_proofs.specs.run_source.Source.{begin_at, begun, is_live_at}
use Rattle.pass_proofs.specs.run_source.State.{address_in, frame_address_of, gives, own_frame, with_memory}
use Rattle.pass_proofs.specs.run_source.declared.state.Activation.{Activation}
use Rattle.pass_proofs.specs.run_source.declared.state.Instance.{Instance}
use Rattle.pass_proofs.specs.run_source.declared.state.Mode.{Mode}
use Rattle.pass_proofs.specs.run_source.declared.state.State.{State}
use Rattle.pass_proofs.specs.run_step.Results.{and_then, found, ok_if}
use Rattle.pass_proofs.specs.run_step.Step.{block_of}
use Rattle.pass_proofs.specs.run_step.Values.{arg_values, nth, value_in, with_result}

inner : {A : Type 0} (a b : A) → Some a ≡ Some b → a ≡ b
inner a b e = cc

-- ---- one instance more

module _ (xs : List Instance) (first last : Instance) where
  abbrev pub more : List Instance
  more = slice_set (xs ++ first ∷ []) (length xs) last

  last_there : slice_get more (length xs) ≡ Some last
  last_there =
      set_here (xs ++ first ∷ []) (length xs) last
      (get_within (xs ++ first ∷ []) (length xs) first (get_last xs first))

  old_there : (number : ℕ) (x : Instance) → number < length xs → slice_get more number ≡ Some x
      → slice_get xs number ≡ Some x
  old_there number x lt there =
      sym (set_other (xs ++ first ∷ []) (length xs) number last (λ is. absurd (omega (arith, is, lt)))
      ∙ get_front xs (first ∷ []) number lt) ∙ there

  old_begun : (e : Elision) (c : Activation) → IsKnownTo xs c → HasBegunIn e xs c → HasBegunIn e more c
  old_begun e c known h = record {
    frame = λ frame number x mode is there.
        h.frame frame number x mode is (old_there number x (known number is) there);
    value = h.value;
  }

  pub all_old : (e : Elision) (rows : List Activation) → Each (IsKnownTo xs) rows → Each (HasBegunIn e xs) rows
      → Each (HasBegunIn e more) rows
  all_old e [] known h = tt
  all_old e (c ∷ rows) known h = (old_begun e c known.0 h.0, all_old e rows known.1 h.1)

-- ---- the state behind begin

module _ (e : Elision) (t : State) (result : Option ℕ) (h : AreCalled e t)
    (known : Each (IsKnownTo t.instances) t.below)
    (name : (v : ℕ) → begin_name (function_in e t.top.func) ≡ Some v → result ≡ Some v)
    (room : (v : ℕ) → result ≡ Some v → v < length t.top.values) where
  module _ (memory : List MemoryBlock) (block start : ℕ) (v : Value)
      (is : (frame : Value) → t.top.mode ≡ Mode.GivenRamp frame → (frame ≡ address_in block start) × (v ≡ frame)) where
    abbrev after : State
    after = gives (begun (elided e).given (with_memory t memory) block start) result v

    top_begun : HasBegunIn e after.instances after.top
    top_begun = record {
      frame = λ frame number x mode own there.
          let at : length t.instances ≡ number = inner (length t.instances) number own in
          let same = inner _ x (sym (last_there t.instances _ _) ∙ (ap (slice_get after.instances) at ∙ there)) in
          (is frame mode).0 ∙ ap frame_address_of same;
      value = λ frame number w mode own begin.
          ap (λ (o : Option ℕ). value_in (with_result t.top.values o v) w) (name w begin)
          ∙ (value_here t.top.values w v (room w (name w begin)) ∙ (is frame mode).1);
    }

    pub begun_known : AreCalled e (gives (begun (elided e).given (with_memory t memory) block start) result v)
    begun_known = record {
      calls = calls_on e t.top after.top t.below refl (λ frame mode. mode) h.calls;
      begun = (top_begun, all_old t.instances _ _ e t.below known h.begun.1);
    }

  abbrev finish_with : Value → Result State Cause → Result State Cause
  finish_with v r = and_then r (λ (s : State). Ok (gives s result v))

  -- in a block that is owned
  owned_known : (p : Value) (kind : Kind) (v : Value) → ((b : ℕ) → block_of p ≡ Some b → (frame : Value)
      → t.top.mode ≡ Mode.GivenRamp frame → (frame ≡ address_in b 0) × (v ≡ frame))
      → KnownIf e (finish_with v (begin_at (elided e).given t p kind))
  owned_known p kind v is = by (own t.world.memory p (own_frame (elided e).given t).size kind)
    where
      at : (memory : List MemoryBlock) (o : Option ℕ) → block_of p ≡ o
          → KnownIf e (finish_with v (and_then (found Cause.Begin o)
          (λ (b : ℕ). Ok (begun (elided e).given (with_memory t memory) b 0))))
      at memory None there = tt
      at memory (Some b) there = begun_known memory b 0 v (is b there)

      by : (r : Result (List MemoryBlock) Cause) → KnownIf e (finish_with v (and_then r (λ (memory : List MemoryBlock).
          and_then (found Cause.Begin (block_of p))
          (λ (b : ℕ). Ok (begun (elided e).given (with_memory t memory) b 0)))))
      by (Err cause) = tt
      by (Ok memory) = at memory (block_of p) refl

  same_frame : (a b : Value) → Mode.GivenRamp a ≡ Mode.GivenRamp b → a ≡ b
  same_frame a b e = cc

  -- where the frame was given
  given_known : (frame : Value) → t.top.mode ≡ Mode.GivenRamp frame
      → KnownIf e (finish_with frame (begin_given_at (elided e) t frame))
  given_known (Value.Ptr (Pointer.At b o)) mode =
      by_room (has_room (elided e) o.bits (own_frame (elided e).given t).size
      (frame_around (elided e) t.instances b o.bits))
    where
      frames : (f : Value) → t.top.mode ≡ Mode.GivenRamp f → Value.Ptr (Pointer.At b o) ≡ f
      frames f is = same_frame (Value.Ptr (Pointer.At b o)) f (sym mode ∙ is)

      in_frame : (q : Bool) → KnownIf e (finish_with (Value.Ptr (Pointer.At b o))
          (ok_if q Cause.Begin (begun (elided e).given t b o.bits)))
      in_frame true =
          begun_known t.world.memory b o.bits (Value.Ptr (Pointer.At b o)) (λ f is. (sym (frames f is), frames f is))
      in_frame false = tt

      same_block : (c : ℕ) → Some b ≡ Some c → b ≡ c
      same_block c is = inner b c is

      in_block : (q : Bool) → (q ≡ true → o.bits ≡ 0) → KnownIf e (finish_with (Value.Ptr (Pointer.At b o))
          (and_then (ok_if q Cause.Begin t) (λ (s : State).
          begin_at (elided e).given s (Value.Ptr (Pointer.At b o)) Kind.Stack)))
      in_block true first =
          owned_known (Value.Ptr (Pointer.At b o)) Kind.Stack (Value.Ptr (Pointer.At b o))
          (λ c there f is. (
            sym (frames f is)
                ∙ (λ j. Value.Ptr (Pointer.At (same_block c there j) (record { bits = first refl j }))),
            frames f is,
          ))
      in_block false first = tt

      by_room : (q : Bool) → KnownIf e (finish_with (Value.Ptr (Pointer.At b o))
          (if q then begin_in_frame (elided e) t b o else begin_in_block (elided e) t b o))
      by_room true = in_frame (is_live_at t.world.memory b)
      by_room false =
          in_block ((o.bits == 0) && has_size t.world.memory b (own_frame (elided e).given t).size)
          (λ is. equal_numbers o.bits 0 (and_first (o.bits == 0) _ is))
  given_known (Value.Ptr Pointer.Null) mode = tt
  given_known (Value.Ptr (Pointer.Func g)) mode = tt
  given_known Value.Poison mode = tt
  given_known (Value.Int w) mode = tt

  other_known : (p : Value) → ((f : Value) → t.top.mode ≡ Mode.GivenRamp f → ⊥)
      → KnownIf e (and_then (ok_if (is_none t.top.instance) Cause.Begin t) (λ (s : State). finish_with p
      (begin_at (elided e).given s p Kind.Allocator)))
  other_known p none = on (is_none t.top.instance)
    where
      on : (q : Bool) → KnownIf e (and_then (ok_if q Cause.Begin t) (λ (s : State). finish_with p
          (begin_at (elided e).given s p Kind.Allocator)))
      on true = owned_known p Kind.Allocator p (λ b there f mode. absurd (none f mode))
      on false = tt

  -- by what the ramp was given
  begins_known : (p : Value) (mode : Mode) → t.top.mode ≡ mode → KnownIf e (framed_begin (elided e) t result p mode)
  begins_known p (Mode.GivenRamp frame) is = on (is_none t.top.instance && are_finished_at t.instances frame)
    where
      on : (q : Bool) → KnownIf e (and_then (ok_if q Cause.Begin t) (λ (s : State). finish_with frame
          (begin_given_at (elided e) s frame)))
      on true = given_known frame is
      on false = tt
  begins_known p Mode.Plain is =
      other_known p (λ f mode. absurd (let no : Mode.Plain ≡ Mode.GivenRamp f = sym is ∙ mode in cc))
  begins_known p Mode.Ramp is =
      other_known p (λ f mode. absurd (let no : Mode.Ramp ≡ Mode.GivenRamp f = sym is ∙ mode in cc))
  begins_known p Mode.Resumed is =
      other_known p (λ f mode. absurd (let no : Mode.Resumed ≡ Mode.GivenRamp f = sym is ∙ mode in cc))
  begins_known p (Mode.Entering from label) is =
      other_known p (λ f mode. absurd (let no : Mode.Entering from label ≡ Mode.GivenRamp f = sym is ∙ mode in cc))

module _ (e : Elision) (t : State) (at : ℕ) (result : Option ℕ) (must_tail : Bool) (ty : Option Ty)
    (args : List Arg)
    (k : StandsAtInstr e t at (Instr.Call result must_tail ty (Callee.Intrinsic Intrinsic.CoroBegin) args))
    (known : Each (IsKnownTo t.instances) t.below)
    (name : (v : ℕ) → begin_name (function_in e t.top.func) ≡ Some v → result ≡ Some v)
    (room : (v : ℕ) → result ≡ Some v → v < length t.top.values) (h : AreCalled e t) where
  pub begin_known : AreCalled e (framed_step (elided e) t)
  begin_known =
      next_known e t at (Instr.Call result must_tail ty (Callee.Intrinsic Intrinsic.CoroBegin) args) k h
      (begins_known e t result h known name room (nth (arg_values (elided e).given.code t.top.values args) 1)
      t.top.mode refl)
