-- Coro intrinsics and deallocators: the second run does what the first does.
use Rattle.std.proofs.Common.{◌≡◌, ℕ, ◌⊎◌, inl, inr, Bool, true, false, not, List, Option, Some, None, Result, Ok}
use Rattle.std.proofs.Common.{Err, refl, sym, ap, ◌∙◌, subst, if◌then◌else◌, ◌&&◌, ◌==◌, arith, ⊎_elim}
use Rattle.std.proofs.lemmas.Bool.{false≢true}
use Rattle.std.specs.Prelude.{find, is_none, is_some, nat_le, pos, slice_get}
use Rattle.run_types.specs.ir_base.declared.cause.Cause.{Cause}
use Rattle.run_types.specs.ir_model.Names.{function_at}
use Rattle.run_types.specs.ir_model.Ty.{Ty}
use Rattle.run_types.specs.ir_model.declared.instr.Instr.{Instr}
use Rattle.run_types.specs.ir_model.declared.operand.Allocator.{Allocator}
use Rattle.run_types.specs.ir_model.declared.operand.Arg.{Arg}
use Rattle.run_types.specs.ir_model.declared.operand.Callee.{Callee}
use Rattle.run_types.specs.ir_model.declared.operand.Intrinsic.{Intrinsic}
use Rattle.run_types.specs.ir_paths.Windows.{is_call_of, operand_at}
use Rattle.run_types.specs.run_laws.memory.Pointers.{IsValue}
use Rattle.run_types.specs.run_memory.Memory.{check, is_live, may_be_owned, own, owned_to, same_kind, with_block}
use Rattle.run_types.specs.run_memory.declared.block.Kind.{Kind}
use Rattle.run_types.specs.run_memory.declared.block.MemoryBlock.{MemoryBlock}
use Rattle.run_types.specs.run_memory.declared.pointer.Offset.{Offset}
use Rattle.run_types.specs.run_memory.declared.pointer.Value.{Value}
use Rattle.run_types.specs.run_source.Source.{Sleeper, begin, begin_at, begun, frame_address, frame_of_promise, promise}
use Rattle.run_types.specs.run_source.Source.{promise_of_frame, release, sleeper_at, sleeper_of, is_live_at, has_promise_at, deallocate, promise_block, is_over}
use Rattle.run_types.specs.run_source.State.{frame_address_of, gives, next, own_frame, own_instance, with_memory}
use Rattle.run_types.specs.run_source.declared.state.Instance.{Instance}
use Rattle.run_types.specs.run_source.declared.state.State.{State}
use Rattle.run_types.specs.run_source_tables.Given.{has_final, is_final, is_true}
use Rattle.run_types.specs.run_step.Results.{and_then, found, ok_if}
use Rattle.run_types.specs.run_step.Step.{AtInstr, block_of, fetch}
use Rattle.run_types.specs.run_step.Values.{address, arg_values, integer, nth, pointer_to, truth_value}
use Rattle.pass_renewed_meaning.proofs.Begins.{begins_beside}
use Rattle.pass_renewed_meaning.proofs.Handles.{IsInSlot, arg_there, no_instance, no_promise, stays_allocated}
use Rattle.pass_renewed_meaning.proofs.Here.{Here, IsCase, keeps, other}
use Rattle.pass_renewed_meaning.proofs.OneStep.{IsOneStep}
use Rattle.pass_renewed_meaning.proofs.Points.{giving_call}
use Rattle.pass_renewed_meaning.proofs.Tables.{facts_are, is_there, renewed_are}
use Rattle.pass_renewed_meaning.specs.Begins.{IsBeginOf}
use Rattle.pass_renewed_meaning.specs.Followed.{Goes}
use Rattle.pass_renewed_meaning.specs.Rules.{Setting}
use Rattle.pass_renewed_meaning.specs.Runs.{first_given, second_given}
use Rattle.run_types.proofs.pass_renewed_proof.Deallocating.{deallocated_beside}
use Rattle.run_types.proofs.pass_renewed_proof.Giving.{gives_beside}
use Rattle.run_types.proofs.pass_renewed_proof.Owning.{own_address_stands}
use Rattle.run_types.proofs.pass_renewed_proof.Promising.{promised_beside}
use Rattle.run_types.proofs.pass_renewed_proof.Releasing.{freed_beside}
use Rattle.run_types.proofs.pass_renewed_proof.Sleeping.{done_beside}
use Rattle.run_types.specs.pass_renewed_proof.Beside.{IsBeside}
use Rattle.run_types.specs.pass_renewed_proof.Making.{IsGiving}
use Rattle.run_types.specs.pass_renewed_proof.Renewed.{renewed_next}
use Rattle.run_types.specs.pass_renewed_proof.Steps.{given_at}

same_ok : {A : Type 0} {a b : A} → ◌≡◌ {A = Result A Cause} (Ok a) (Ok b) → a ≡ b
same_ok e = cc

-- where nothing is found
find_fails : {A B : Type 0} (o : Option A) (cause : Cause) (f : A → Result B Cause) (b : B) → o ≡ None
    → and_then (found cause o) f ≡ Ok b → ⊥
find_fails {A} {B} o cause f b none e =
    let z : ◌≡◌ {A = Result B Cause} (Err cause) (Ok b) = ap (λ z. and_then (found cause z) f) (sym none) ∙ e in absurd (cc)

second_false : (p q r t : Bool) → q ≡ false → (((p && q) && r) && t) ≡ false
second_false true true r t e = absurd (false≢true (sym e))
second_false true false r t e = refl
second_false false q r t e = refl

not_both : (p q : Bool) → q ≡ false → (p && q) ≡ false
not_both true q e = e
not_both false q e = refl

module _ (c : Setting) (x : Here c) (result : Option ℕ) (must_tail : Bool) (ty : Option Ty) (args : List Arg) where
  abbrev instr : Intrinsic → Instr
  instr j = Instr.Call result must_tail ty (Callee.Intrinsic j) args

  abbrev p : ℕ → Value
  p k = nth (arg_values c.code x.s.top.values args) k

  abbrev q : ℕ → Value
  q k = nth (arg_values c.code x.values args) k

  abbrev Stands : Intrinsic → Type 0
  Stands j = fetch (function_at c.code x.s.top.func) x.s.top.block x.s.top.at ≡ AtInstr (instr j)

  giving : (j : Intrinsic) → Stands j → is_call_of Intrinsic.CoroEnd (instr j) ≡ false
      → is_call_of Intrinsic.LifetimeStart (instr j) ≡ false → is_call_of Intrinsic.LifetimeEnd (instr j) ≡ false
      → IsGiving c.code c.roots x.s.top (instr j) (given_at (AtInstr (instr j)))
  giving j here none start end = giving_call c.code c.flags c.roots x.s.top (keeps c x x.s.top.func) result must_tail ty
      (Callee.Intrinsic j) args here none start end

  -- the same value is given in both
  gives_same : (j : Intrinsic) (to : Option ℕ) → IsGiving c.code c.roots x.s.top (instr j) to → (v w : Value)
      → IsValue x.beside.ledger.homes v w → IsBeside c.code c.flags c.roots (gives x.s to v) (gives (other c x) to w)
  gives_same j to is v w stands = gives_beside c.code c.flags c.roots (keeps c x) x.s (other c x) x.beside (instr j) to is v
      w stands

  pub id_case : IsCase c x (AtInstr (instr Intrinsic.CoroId))
  id_case here after acts = record {
    other = next (other c x);
    goes = refl;
    related = Goes (subst (λ z. IsBeside c.code c.flags c.roots z (next (other c x))) (same_ok acts) (gives_same
        Intrinsic.CoroId None (giving Intrinsic.CoroId here refl refl refl) Value.Poison Value.Poison tt));
  }

  pub size32_case : IsCase c x (AtInstr (instr Intrinsic.CoroSizeI32))
  size32_case here after acts =
      let v = integer 32 (pos (own_frame (first_given c) x.s).size) in
      record {
        other = gives (other c x) result v;
        goes = refl;
        related = Goes (subst (λ z. IsBeside c.code c.flags c.roots z (gives (other c x) result v)) (same_ok acts)
            (gives_same Intrinsic.CoroSizeI32 result (giving Intrinsic.CoroSizeI32 here refl refl refl) v v refl));
      }

  pub size64_case : IsCase c x (AtInstr (instr Intrinsic.CoroSizeI64))
  size64_case here after acts =
      let v = integer 64 (pos (own_frame (first_given c) x.s).size) in
      record {
        other = gives (other c x) result v;
        goes = refl;
        related = Goes (subst (λ z. IsBeside c.code c.flags c.roots z (gives (other c x) result v)) (same_ok acts)
            (gives_same Intrinsic.CoroSizeI64 result (giving Intrinsic.CoroSizeI64 here refl refl refl) v v refl));
      }

  pub align32_case : IsCase c x (AtInstr (instr Intrinsic.CoroAlignI32))
  align32_case here after acts =
      let v = integer 32 (pos (own_frame (first_given c) x.s).align) in
      record {
        other = gives (other c x) result v;
        goes = refl;
        related = Goes (subst (λ z. IsBeside c.code c.flags c.roots z (gives (other c x) result v)) (same_ok acts)
            (gives_same Intrinsic.CoroAlignI32 result (giving Intrinsic.CoroAlignI32 here refl refl refl) v v refl));
      }

  pub align64_case : IsCase c x (AtInstr (instr Intrinsic.CoroAlignI64))
  align64_case here after acts =
      let v = integer 64 (pos (own_frame (first_given c) x.s).align) in
      record {
        other = gives (other c x) result v;
        goes = refl;
        related = Goes (subst (λ z. IsBeside c.code c.flags c.roots z (gives (other c x) result v)) (same_ok acts)
            (gives_same Intrinsic.CoroAlignI64 result (giving Intrinsic.CoroAlignI64 here refl refl refl) v v refl));
      }

  pub alloc_case : IsCase c x (AtInstr (instr Intrinsic.CoroAlloc))
  alloc_case here after acts = record {
    other = gives (other c x) result (truth_value true);
    goes = refl;
    related = Goes (subst (λ z. IsBeside c.code c.flags c.roots z (gives (other c x) result (truth_value true))) (same_ok
        acts) (gives_same Intrinsic.CoroAlloc result (giving Intrinsic.CoroAlloc here refl refl refl) (truth_value true)
        (truth_value true) refl));
  }

  pub frame_case : IsCase c x (AtInstr (instr Intrinsic.CoroFrame))
  frame_case here after acts =
      let v = frame_address (own_instance x.s) in
      let w = frame_address (own_instance (other c x)) in
      record {
        other = gives (other c x) result w;
        goes = refl;
        related = Goes (subst (λ z. IsBeside c.code c.flags c.roots z (gives (other c x) result w)) (same_ok acts)
            (gives_same Intrinsic.CoroFrame result (giving Intrinsic.CoroFrame here refl refl refl) v w (own_address_stands
            c.code c.flags c.roots x.s (other c x) x.beside)));
      }

  pub free_case : IsCase c x (AtInstr (instr Intrinsic.CoroFree))
  free_case here after acts =
      let u = gives (release (other c x)) result (frame_address (own_instance (other c x))) in
      record {
        other = u;
        goes = refl;
        related = Goes (subst (λ z. IsBeside c.code c.flags c.roots z u) (same_ok acts) (freed_beside c.code c.flags c.roots
            (keeps c x) x.s (other c x) x.beside (instr Intrinsic.CoroFree) result (giving Intrinsic.CoroFree here refl refl
            refl)));
      }

  -- ---- frame addresses

  pub done_case : IsCase c x (AtInstr (instr Intrinsic.CoroDone))
  done_case here after acts = ⊎_elim standing in_slot (arg_there c x args 0)
    where
      standing : IsValue x.beside.ledger.homes (p 0) (q 0) → IsOneStep (second_given c) (other c x) (AtInstr (instr
          Intrinsic.CoroDone)) (first_given c) after
      standing stands =
          let r = done_beside c.code c.flags c.roots x.s (other c x) x.beside (keeps c x) (instr Intrinsic.CoroDone) result
          (giving Intrinsic.CoroDone here refl refl refl) (first_given c) (second_given c).given refl (p 0) (q 0) stands
          after acts in
          record { other = r.0; goes = r.1; related = Goes r.2 }

      in_slot : IsInSlot c x (p 0) → IsOneStep (second_given c) (other c x) (AtInstr (instr Intrinsic.CoroDone))
          (first_given c) after
      in_slot h =
          let none = no_instance c x (p 0) h in
          let z : ◌≡◌ {A = Result State Cause} (Err Cause.Frame) (Ok after) = ap (λ o. and_then (and_then (found Cause.Frame
          o) (λ (r : ℕ × Instance). sleeper_of r.0 r.1 r.1.status)) (λ (y : Sleeper). ok_if (has_final (function_at c.code
          y.instance.coroutine)) Cause.State (gives x.s result (truth_value (is_final (function_at c.code
          y.instance.coroutine) y.suspend))))) (sym none) ∙ acts in
          absurd (cc)

  pub promise_case : IsCase c x (AtInstr (instr Intrinsic.CoroPromise))
  promise_case here after acts = ⊎_elim standing (λ h. absurd (in_slot h (is_true (operand_at args 2)) refl)) (arg_there c x
      args 0)
    where
      standing : IsValue x.beside.ledger.homes (p 0) (q 0) → IsOneStep (second_given c) (other c x) (AtInstr (instr
          Intrinsic.CoroPromise)) (first_given c) after
      standing stands = on (promise (first_given c) x.s (p 0) (operand_at args 2)) refl acts
        where
          on : (r : Result Value Cause) → promise (first_given c) x.s (p 0) (operand_at args 2) ≡ r → and_then r (λ v. Ok
              (gives x.s result v)) ≡ Ok after → IsOneStep (second_given c) (other c x) (AtInstr (instr
              Intrinsic.CoroPromise)) (first_given c) after
          on (Err cause) e k = let z : ◌≡◌ {A = Result State Cause} (Err cause) (Ok after) = k in absurd (cc)
          on (Ok v) e k =
              let r = promised_beside c.code c.flags c.roots (keeps c x) x.s (other c x) x.beside (first_given c)
              (second_given c).given refl refl (instr Intrinsic.CoroPromise) result (giving Intrinsic.CoroPromise here refl
              refl refl) (p 0) (q 0) stands (operand_at args 2) v e in
              record {
                other = gives (other c x) result r.0;
                goes = ap (λ z. and_then z (λ w. Ok (gives (other c x) result w))) r.1;
                related = Goes (subst (λ z. IsBeside c.code c.flags c.roots z (gives (other c x) result r.0)) (same_ok k)
                    r.2);
              }

      fails : (r : Result Value Cause) (cause : Cause) → r ≡ Err cause → and_then r (λ v. Ok (gives x.s result v)) ≡ Ok
          after → ⊥
      fails r cause e k =
          let z : ◌≡◌ {A = Result State Cause} (Err cause) (Ok after) = ap (λ z. and_then z (λ v. Ok (gives x.s result v)))
          (sym e) ∙ k in
          absurd (cc)

      back_none : (b : ℕ) (o : Offset) → find (has_promise_at (first_given c) b) x.s.instances ≡ None → (u : Bool) → and_then (found Cause.Promise (if u then
          find (has_promise_at (first_given c) b) x.s.instances else None)) (λ y. ok_if (is_live_at x.s.world.memory b) Cause.Promise (frame_address_of y)) ≡
          Err Cause.Promise
      back_none b o none true = ap (λ z. and_then (found Cause.Promise z) (λ y. ok_if (is_live_at x.s.world.memory b)
          Cause.Promise (frame_address_of y))) none
      back_none b o none false = refl

      in_slot : IsInSlot c x (p 0) → (u : Bool) → is_true (operand_at args 2) ≡ u → ⊥
      in_slot h true e = fails _ Cause.Promise (ap (λ t. if t then frame_of_promise (first_given c) x.s (p 0) else
          promise_of_frame (first_given c) x.s (p 0)) e ∙ ap (frame_of_promise (first_given c) x.s) h.is ∙ back_none h.block
          h.offset (no_promise c x h.block h.seat h.seated) (h.offset.bits == 0)) acts
      in_slot h false e = fails _ Cause.Frame (ap (λ t. if t then frame_of_promise (first_given c) x.s (p 0) else
          promise_of_frame (first_given c) x.s (p 0)) e ∙ ap (λ o. and_then (found Cause.Frame o) (λ (r : ℕ × Instance).
          and_then (found Cause.Promise (promise_block (first_given c) r.1)) (λ b. ok_if (not (is_over r.1)) Cause.Dead
          (pointer_to b)))) (no_instance c x (p 0) h)) acts

  -- ---- begin

  not_left : x.s.top.instance ≡ None → x.s.top.has_left ≡ false
  not_left none = on x.s.top.has_left refl
    where
      on : (u : Bool) → x.s.top.has_left ≡ u → x.s.top.has_left ≡ false
      on true e = absurd (x.beside.top.departs e none)
      on false e = e

  abbrev starts : Option ℕ → Result State Cause
  starts z = and_then (ok_if (is_none z) Cause.Begin x.s) (λ s. and_then (begin_at (first_given c) s (p 1) Kind.Allocator)
      (λ s. Ok (gives s result (p 1))))

  pub begin_case : IsCase c x (AtInstr (instr Intrinsic.CoroBegin))
  begin_case here after acts = on x.s.top.instance refl acts
    where
      standing : x.s.top.instance ≡ None → IsValue x.beside.ledger.homes (p 1) (q 1) → IsOneStep (second_given c) (other c x)
          (AtInstr (instr Intrinsic.CoroBegin)) (first_given c) after
      standing none stands =
          let there = is_there c.code x.s.top.func x.s.top.block x.s.top.at (instr Intrinsic.CoroBegin) here in
          let is : IsBeginOf c.code c.roots x.s.top (instr Intrinsic.CoroBegin) result = record {
            giving = giving Intrinsic.CoroBegin here refl refl refl;
            is = refl;
            stays = not_left none;
          } in
          let r = begins_beside c.flags c.roots (first_given c) (second_given c).given refl refl (keeps c x) x.s (other c x)
          x.beside (instr Intrinsic.CoroBegin) result is (facts_are c.code x.s.top.func there) (renewed_are c.code c.flags
          x.s.top.func there) (p 1) (q 1) stands after acts in
          record { other = r.0; goes = r.1; related = Goes r.2 }

      not_owned : (h : IsInSlot c x (p 1)) → own x.s.world.memory (p 1) (own_frame (first_given c) x.s).size Kind.Allocator ≡
          Err Cause.Begin
      not_owned h = ap (λ v. own x.s.world.memory v (own_frame (first_given c) x.s).size Kind.Allocator) h.is ∙ ap (λ u. check u
          Cause.Begin (Ok (with_block x.s.world.memory h.block (owned_to (own_frame (first_given c) x.s).size)))) (not_both
          (h.offset.bits == 0) _ (by (slice_get x.s.world.memory h.block) refl))
        where
          by : (o : Option MemoryBlock) → slice_get x.s.world.memory h.block ≡ o → may_be_owned Kind.Allocator (own_frame
              (first_given c) x.s).size (slice_get x.s.world.memory h.block) ≡ false
          by None e = ap (may_be_owned Kind.Allocator (own_frame (first_given c) x.s).size) e
          by (Some y) e = ap (may_be_owned Kind.Allocator (own_frame (first_given c) x.s).size) e ∙ second_false (is_live y.life)
              (same_kind y.kind Kind.Allocator) (not (is_some y.owned)) (nat_le (own_frame (first_given c) x.s).size y.size)
              (x.beside.entered.kinds h.block h.seat y h.seated e)

      in_slot : starts None ≡ Ok after → IsInSlot c x (p 1) → ⊥
      in_slot k h =
          let z : ◌≡◌ {A = Result State Cause} (Err Cause.Begin) (Ok after) = ap (λ r. and_then (and_then r (λ memory.
          and_then (found Cause.Begin (block_of (p 1))) (λ b. Ok (begun (first_given c) (with_memory x.s memory) b 0)))) (λ
          (s : State). Ok (gives s result (p 1)))) (sym (not_owned h)) ∙ k in
          absurd (cc)

      on : (z : Option ℕ) → x.s.top.instance ≡ z → starts z ≡ Ok after → IsOneStep (second_given c) (other c x) (AtInstr
          (instr Intrinsic.CoroBegin)) (first_given c) after
      on None e k = ⊎_elim (standing e) (λ h. absurd (in_slot k h)) (arg_there c x args 1)
      on (Some n) e k = let z : ◌≡◌ {A = Result State Cause} (Err Cause.Begin) (Ok after) = k in absurd (cc)

  -- ---- deallocators

  free_by : (a : Allocator) → fetch (function_at c.code x.s.top.func) x.s.top.block x.s.top.at ≡ AtInstr (Instr.Call result
      must_tail ty (Callee.Allocator a) args) → IsGiving c.code c.roots x.s.top (Instr.Call result must_tail ty
      (Callee.Allocator a) args) None → (after : State) → deallocate x.s (address (p 0)) ≡ Ok after
      → (z : State) × (deallocate (other c x) (address (q 0)) ≡ Ok z) × IsBeside c.code c.flags c.roots after z
  free_by a here is after acts = ⊎_elim (λ stands. deallocated_beside c.code c.flags c.roots (keeps c x) (Instr.Call result
      must_tail ty (Callee.Allocator a) args) x.s (other c x) x.beside is (address (p 0)) (address (q 0)) stands after acts)
      (λ h. absurd (stays_allocated c x (address (p 0)) h after acts)) there
    where
      addressed : (v w : Value) → IsValue x.beside.ledger.homes v w → IsValue x.beside.ledger.homes (address v) (address w)
      addressed Value.Poison w h = tt
      addressed (Value.Int n) w h = tt
      addressed (Value.Ptr r) w h = (h.0, ap address h.1)

      there : IsValue x.beside.ledger.homes (address (p 0)) (address (q 0)) ⊎ IsInSlot c x (address (p 0))
      there = ⊎_elim (λ stands. inl (addressed (p 0) (q 0) stands)) (λ h. inr (record {
        block = h.block;
        offset = h.offset;
        is = ap address h.is;
        seat = h.seat;
        seated = h.seated;
      })) (arg_there c x args 0)

  deallocator_case : (a : Allocator) → IsGiving c.code c.roots x.s.top (Instr.Call result must_tail ty (Callee.Allocator a)
      args) None → fetch (function_at c.code x.s.top.func) x.s.top.block x.s.top.at ≡ AtInstr (Instr.Call result must_tail
      ty (Callee.Allocator a) args) → (after : State) → deallocate x.s (address (p 0)) ≡ Ok after
      → ((z : State) → deallocate (other c x) (address (q 0)) ≡ Ok z → renewed_next (second_given c) (other c x) (AtInstr
      (Instr.Call result must_tail ty (Callee.Allocator a) args)) ≡ Ok z) → IsOneStep (second_given c) (other c x) (AtInstr
      (Instr.Call result must_tail ty (Callee.Allocator a) args)) (first_given c) after
  deallocator_case a is here after acts goes =
      let r = free_by a here is after acts in
      record { other = r.0; goes = goes r.0 r.1; related = Goes r.2 }

  freeing : (a : Allocator) → fetch (function_at c.code x.s.top.func) x.s.top.block x.s.top.at ≡ AtInstr (Instr.Call result
      must_tail ty (Callee.Allocator a) args) → IsGiving c.code c.roots x.s.top (Instr.Call result must_tail ty
      (Callee.Allocator a) args) (given_at (AtInstr (Instr.Call result must_tail ty (Callee.Allocator a) args)))
  freeing a here = giving_call c.code c.flags c.roots x.s.top (keeps c x x.s.top.func) result must_tail ty
      (Callee.Allocator a) args here refl refl refl

  pub freed_case : IsCase c x (AtInstr (Instr.Call result must_tail ty (Callee.Allocator Allocator.Free) args))
  freed_case here after acts = deallocator_case Allocator.Free (freeing Allocator.Free here) here after acts (λ z e. e)

  pub deleted_case : IsCase c x (AtInstr (Instr.Call result must_tail ty (Callee.Allocator Allocator.ZdlPv) args))
  deleted_case here after acts = deallocator_case Allocator.ZdlPv (freeing Allocator.ZdlPv here) here after acts (λ z e. e)

  pub sized_case : IsCase c x (AtInstr (Instr.Call result must_tail ty (Callee.Allocator Allocator.ZdlPvm) args))
  sized_case here after acts = deallocator_case Allocator.ZdlPvm (freeing Allocator.ZdlPvm here) here after acts (λ z e. e)
