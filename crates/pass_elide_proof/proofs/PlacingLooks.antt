-- Records of places of looks, markers and deallocations, of allocas that are executed again, and of the front.
use Rattle.std.proofs.Common.{◌≡◌, ◌⊎◌, ◌+◌, inl, inr, ℕ, Bool, true, false, List, [], Option, Ok, refl, sym, ap, ◌∙◌, arith}
use Rattle.std.specs.Prelude.{None, Some}
use Rattle.elide_shape.specs.Calls.{deals}
use Rattle.elide_shape.specs.declared.calls.Dealing.{Dealing}
use Rattle.pass_elide_proof.proofs.OwnPlaces.{instr_there}
use Rattle.pass_elide_proof.proofs.PlacingFacts.{by_truth, holds_still, no_frames, no_room}
use Rattle.pass_elide_proof.proofs.PlacingOwn.{alike, never_waits, own_of}
use Rattle.pass_elide_proof.specs.Again.{IsAtAllocaAgain}
use Rattle.pass_elide_proof.specs.Both.{standing_at}
use Rattle.pass_elide_proof.specs.Elision.{Elision, Shape, elided, function_in, rooms}
use Rattle.pass_elide_proof.specs.Looking.{IsAtDone, IsAtLook, IsAtPromise}
use Rattle.pass_elide_proof.specs.Making.{HaveSlots}
use Rattle.pass_elide_proof.specs.Marking.{HoldsNoFrame, IsAtDeallocation, IsAtMarker, first_operand, second_operand}
use Rattle.pass_elide_proof.specs.Match.{AreElided}
use Rattle.pass_elide_proof.specs.Places.{allocas_ahead}
use Rattle.pass_elide_proof.specs.Placing.{IsPlain, KeepsPlaces, SetsPlain}
use Rattle.pass_elide_proof.specs.PlacingStates.{AreAtInstr, AreOfCoroutines, IsKnownState, PassesBy}
use Rattle.pass_elide_proof.specs.Sound.{IsSoundState}
use Rattle.pass_proofs.specs.ir_model.Ty.{Ty}
use Rattle.pass_proofs.specs.ir_model.Names.{is_local}
use Rattle.pass_proofs.proofs.ir_laws.facts.Truth.{itself}
use Rattle.pass_proofs.specs.ir_model.declared.instr.Instr.{Instr}
use Rattle.pass_proofs.specs.ir_model.declared.operand.Allocator.{Allocator}
use Rattle.pass_proofs.specs.ir_model.declared.operand.Arg.{Arg}
use Rattle.pass_proofs.specs.ir_model.declared.operand.Callee.{Callee}
use Rattle.pass_proofs.specs.ir_model.declared.operand.Intrinsic.{Intrinsic}
use Rattle.pass_proofs.specs.ir_model.declared.operand.Operand.{Operand}
use Rattle.pass_proofs.specs.ir_paths.Slots.{is_in_args}
use Rattle.pass_proofs.specs.ir_paths.Windows.{operand_at}
use Rattle.pass_proofs.specs.ir_paths.declared.point.Point.{Point}
use Rattle.pass_proofs.specs.run_framed.Framed.{alloca_from}
use Rattle.pass_proofs.specs.run_memory.declared.block.MemoryBlock.{MemoryBlock}
use Rattle.pass_proofs.specs.run_source.declared.state.Mode.{Mode}
use Rattle.pass_proofs.specs.run_source.declared.state.State.{State}
use Rattle.pass_proofs.specs.run_step.Reads.{reads_intrinsic}
use Rattle.pass_proofs.specs.run_step.Step.{block_of, deallocated}
use Rattle.pass_proofs.specs.run_step.Values.{address}

-- ---- plain instructions

plain_marker : (x : Shape) (j : Intrinsic) (result : Option ℕ) (must_tail : Bool) (ty : Option Ty) (args : List Arg)
    → (j ≡ Intrinsic.LifetimeStart) ⊎ (j ≡ Intrinsic.LifetimeEnd)
    → IsPlain x (Instr.Call result must_tail ty (Callee.Intrinsic j) args)
plain_marker x Intrinsic.LifetimeStart result must_tail ty args is =
    record { begins = refl; asks = refl; frees = refl; tests = refl; takes = λ h. absurd (cc) }
plain_marker x Intrinsic.LifetimeEnd result must_tail ty args is =
    record { begins = refl; asks = refl; frees = refl; tests = refl; takes = λ h. absurd (cc) }
plain_marker x _ result must_tail ty args (inl is) = absurd (cc)
plain_marker x _ result must_tail ty args (inr is) = absurd (cc)

plain_look : (x : Shape) (j : Intrinsic) (result : Option ℕ) (must_tail : Bool) (ty : Option Ty) (args : List Arg)
    → (j ≡ Intrinsic.CoroDone) ⊎ (j ≡ Intrinsic.CoroPromise)
    → IsPlain x (Instr.Call result must_tail ty (Callee.Intrinsic j) args)
plain_look x Intrinsic.CoroDone result must_tail ty args is =
    record { begins = refl; asks = refl; frees = refl; tests = refl; takes = λ h. absurd (cc) }
plain_look x Intrinsic.CoroPromise result must_tail ty args is =
    record { begins = refl; asks = refl; frees = refl; tests = refl; takes = λ h. absurd (cc) }
plain_look x _ result must_tail ty args (inl is) = absurd (cc)
plain_look x _ result must_tail ty args (inr is) = absurd (cc)

-- a look reads its first operand
reads_first : (j : Intrinsic) (args : List Arg) (v : ℕ) → (j ≡ Intrinsic.CoroDone) ⊎ (j ≡ Intrinsic.CoroPromise)
    → operand_at args 0 ≡ Operand.Local v → reads_intrinsic v j args ≡ true
reads_first Intrinsic.CoroDone args v is e = ap (is_local v) e ∙ itself v
reads_first Intrinsic.CoroPromise args v is e = ap (is_local v) e ∙ itself v
reads_first _ args v (inl is) e = absurd (cc)
reads_first _ args v (inr is) e = absurd (cc)

-- ---- markers and deallocations

module _ (e : Elision) (keeps : KeepsPlaces e) (s t : State) (func : t.top.func ≡ s.top.func)
    (by : PassesBy e t t.top) where
  pub marker_place : (j : Intrinsic) (result : Option ℕ) (must_tail : Bool) (ty : Option Ty) (args : List Arg)
      → (j ≡ Intrinsic.LifetimeStart) ⊎ (j ≡ Intrinsic.LifetimeEnd)
      → AreAtInstr e s t (Instr.Call result must_tail ty (Callee.Intrinsic j) args)
      → (block_of (first_operand e s args 1) ≡ None → block_of (second_operand e t args 1) ≡ None)
      → HoldsNoFrame s.instances (first_operand e s args 1) → HoldsNoFrame t.instances (second_operand e t args 1)
      → IsAtMarker e s t j result must_tail ty args
  marker_place j result must_tail ty args marker at nothing first second = record {
    own = own_of e keeps s t (Instr.Call result must_tail ty (Callee.Intrinsic j) args) func by at
        (plain_marker (e.shape s.top.func) j result must_tail ty args marker)
        (no_room e keeps s.top.func s.top.block s.top.at
        (Instr.Call result must_tail ty (Callee.Intrinsic j) args) refl);
    marker = marker;
    nothing = nothing;
    first = first;
    second = second;
  }

  -- what is freed is no name that coro.free gave
  pub deallocation_place : (a : Allocator) (result : Option ℕ) (must_tail : Bool) (ty : Option Ty) (args : List Arg)
      (memory : List MemoryBlock) → deals Dealing.Frees a ≡ true
      → AreAtInstr e s t (Instr.Call result must_tail ty (Callee.Allocator a) args)
      → ((v : ℕ) → is_in_args v args ≡ true → (e.shape s.top.func).freed v ≡ false)
      → HoldsNoFrame s.instances (first_operand e s args 0) → HoldsNoFrame t.instances (second_operand e t args 0)
      → deallocated s.world.memory (address (first_operand e s args 0)) ≡ Ok memory
      → IsAtDeallocation e s t a result must_tail ty args memory
  deallocation_place a result must_tail ty args memory frees at takes first second does = record {
    own = own_of e keeps s t (Instr.Call result must_tail ty (Callee.Allocator a) args) func by at
        (record { begins = refl; asks = refl; frees = refl; tests = refl; takes = λ is v read. takes v read })
        (no_room e keeps s.top.func s.top.block s.top.at
        (Instr.Call result must_tail ty (Callee.Allocator a) args) refl);
    frees = frees;
    first = first;
    second = second;
    does = does;
  }

  -- ---- allocas that are executed again

  pub again_place : IsKnownState e.code s → (name : ℕ) (ty : Ty) (align from label : ℕ) (next : Point)
      → AreAtInstr e s t (Instr.Alloca name ty align) → HaveSlots s → s.top.mode ≡ Mode.Entering from label
      → alloca_from (function_in e s.top.func) (s.top.at + 1) ≡ Some next
      → IsAtAllocaAgain e s t name ty align from label next
  again_place known name ty align from label next at slots mode follows =
      let small = (keeps.instrs s.top.func).allocas s.top.block s.top.at name align ty
      (instr_there (function_in e s.top.func) s.top.block s.top.at (Instr.Alloca name ty align) at.there) in
      record {
        own = own_of e keeps s t (Instr.Alloca name ty align) func by at
            (record { begins = refl; asks = refl; frees = refl; tests = refl; takes = λ is. absurd (cc) })
            (no_room e keeps s.top.func s.top.block s.top.at (Instr.Alloca name ty align) refl);
        slots = slots;
        mode = mode;
        small = small.small;
        aligned = small.aligned;
        none = (keeps.wakes s.top.func
            (by_truth (function_in e s.top.func).coroutine (λ is. is) (λ no. absurd (not_plain no)))).none;
        follows = follows;
      }
    where
      other : Mode.Entering from label ≡ Mode.Plain → ⊥
      other q = cc

      not_plain : (function_in e s.top.func).coroutine ≡ false → ⊥
      not_plain plain = other (sym mode ∙ (known.acts.0.plain plain).0)

-- ---- looks

module _ (e : Elision) (keeps : KeepsPlaces e) (s t : State) (n : ℕ) (r : AreElided e s (standing_at t n))
    (by : PassesBy e t t.top) (j : Intrinsic) (result : Option ℕ) (must_tail : Bool) (ty : Option Ty)
    (args : List Arg) (look : (j ≡ Intrinsic.CoroDone) ⊎ (j ≡ Intrinsic.CoroPromise))
    (at : AreAtInstr e s t (Instr.Call result must_tail ty (Callee.Intrinsic j) args))
    (made : s.top.block ≡ 0 → s.top.at ≡ 0 → r.top.own ≡ []
    → allocas_ahead (rooms e s.top.func) (function_in e s.top.func) ≡ []) where
  abbrev call : Instr
  call = Instr.Call result must_tail ty (Callee.Intrinsic j) args

  abbrev x : Shape
  x = e.shape s.top.func

  plain : IsPlain x call
  plain = plain_look x j result must_tail ty args look

  set : (v : ℕ) → result ≡ Some v → SetsPlain (function_in e s.top.func) x s.top.block s.top.at call v
  set v is =
      (keeps.instrs s.top.func).sets s.top.block s.top.at v call
      (instr_there (function_in e s.top.func) s.top.block s.top.at call at.there) is

  look_place : IsAtLook e s t n r j result must_tail ty args
  look_place = record {
    call = record {
      runs = at.runs;
      there = at.there;
      block = at.block;
      own = at.at;
      names = λ v is. (set v is).low;
      made = made;
    };
    holds = record {
      holds = λ h. holds_still e s.top.func s.top.block s.top.at call
          (instr_there (function_in e s.top.func) s.top.block s.top.at call at.there) plain.begins
          (never_waits e keeps s t r.top.func at.block by h) (keeps.shapes s.top.func);
      kept = λ h v name is held. (set v is).kept name held;
    };
    plain = λ v is. record {
      need = (set v is).need plain.asks;
      other = record { freed = (set v is).freed plain.frees; tested = (set v is).tested refl };
    };
    handle = λ v is. alike e keeps s t call r.top.func by at plain v (reads_first j args v look is);
  }

module _ (e : Elision) (keeps : KeepsPlaces e) (s t : State) (n : ℕ) (r : AreElided e s (standing_at t n))
    (by : PassesBy e t t.top) (result : Option ℕ) (must_tail : Bool) (ty : Option Ty) (args : List Arg)
    (made : s.top.block ≡ 0 → s.top.at ≡ 0 → r.top.own ≡ []
    → allocas_ahead (rooms e s.top.func) (function_in e s.top.func) ≡ []) where
  pub done_place : AreAtInstr e s t (Instr.Call result must_tail ty (Callee.Intrinsic Intrinsic.CoroDone) args)
      → AreOfCoroutines e s.instances → IsAtDone e s t n r result must_tail ty args
  done_place at coroutines = record {
    look = look_place e keeps s t n r by Intrinsic.CoroDone result must_tail ty args (inl refl) at made;
    bare = λ i y is. no_frames (rooms e y.coroutine) (keeps.wakes y.coroutine (coroutines i y is)).none
        (function_in e y.coroutine);
  }

  pub promise_place : AreAtInstr e s t (Instr.Call result must_tail ty (Callee.Intrinsic Intrinsic.CoroPromise) args)
      → IsSoundState (elided e) t → IsAtPromise e s t n r result must_tail ty args
  promise_place at second = record {
    look = look_place e keeps s t n r by Intrinsic.CoroPromise result must_tail ty args (inr refl) at made;
    starts = second.blocks.starts;
    small = λ i distance y is offset. keeps.promises y distance offset;
  }
