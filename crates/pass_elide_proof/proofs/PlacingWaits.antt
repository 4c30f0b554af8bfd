-- Records of places of the framed run at which a given ramp waits.
use Rattle.std.proofs.Common.{◌≡◌, ◌⊎◌, ◌+◌, inl, inr, ℕ, Bool, true, false, List, [], Option, refl, sym, ap, ◌∙◌, arith}
use Rattle.std.specs.Prelude.{None, Some, slice_get}
use Rattle.elide_shape.specs.Calls.{deals}
use Rattle.elide_shape.specs.declared.calls.Dealing.{Dealing}
use Rattle.pass_elide_proof.proofs.Facts.{some_none}
use Rattle.pass_elide_proof.proofs.GivingNone.{no_allocas}
use Rattle.pass_elide_proof.proofs.OwnPlaces.{instr_there}
use Rattle.pass_elide_proof.proofs.PlacingFacts.{holds_over, no_frames}
use Rattle.pass_elide_proof.specs.Allocating.{IsAtAllocation}
use Rattle.pass_elide_proof.specs.Elision.{Elision, Shape, framed, function_in, no_shape, rooms}
use Rattle.pass_elide_proof.specs.Places.{allocas_ahead, instrs_of}
use Rattle.pass_elide_proof.specs.Placing.{HasShape, KeepsPlaces, SetsPlain, is_test}
use Rattle.pass_elide_proof.specs.PlacingStates.{IsKnownState, IsLeftWaiting}
use Rattle.pass_elide_proof.specs.Sizes.{IsAtSize, IsMadeThere}
use Rattle.pass_proofs.specs.ir_base.declared.outcome.Word.{Word}
use Rattle.pass_proofs.specs.ir_model.Names.{same_intrinsic}
use Rattle.pass_proofs.specs.ir_model.Ty.{Ty}
use Rattle.pass_proofs.specs.ir_model.declared.instr.Instr.{Instr}
use Rattle.pass_proofs.specs.ir_model.declared.module.Function.{Function}
use Rattle.pass_proofs.specs.ir_model.declared.operand.Allocator.{Allocator}
use Rattle.pass_proofs.specs.ir_model.declared.operand.Arg.{Arg}
use Rattle.pass_proofs.specs.ir_model.declared.operand.Callee.{Callee}
use Rattle.pass_proofs.specs.ir_model.declared.operand.Intrinsic.{Intrinsic}
use Rattle.pass_proofs.specs.ir_parts.Contents.{result_of}
use Rattle.pass_proofs.specs.ir_paths.Windows.{call_result, is_call_of}
use Rattle.pass_proofs.specs.run_memory.declared.pointer.Value.{Value}
use Rattle.pass_proofs.specs.run_source.State.{function_of}
use Rattle.pass_proofs.specs.run_source.declared.state.State.{State}
use Rattle.pass_proofs.specs.run_step.Step.{AtInstr, fetch}
use Rattle.pass_proofs.specs.run_step.Values.{arg_values, nth}

-- a shape that lets ramps wait is no other's
waiting_shape : (e : Elision) (func block other : ℕ) → (e.shape func).waits block ≡ Some other
    → (e.shape func ≡ no_shape) ⊎ HasShape e func → HasShape e func
waiting_shape e func block other is (inl none) =
    absurd (some_none ((e.shape func).waits block) other is (ap (λ (x : Shape). x.waits block) none))
waiting_shape e func block other is (inr k) = k

module _ (e : Elision) (keeps : KeepsPlaces e) (s t : State) (waits : IsLeftWaiting e s t)
    (k : HasShape e s.top.func) (i : Instr)
    (there : fetch (function_of (framed e).given s) s.top.block s.top.at ≡ AtInstr i) where
  abbrev f : Function
  f = function_in e s.top.func

  abbrev x : Shape
  x = e.shape s.top.func

  pub here : slice_get (instrs_of f s.top.block) s.top.at ≡ Some i
  here = instr_there f s.top.block s.top.at i there

  pub none_ahead : allocas_ahead (rooms e s.top.func) (function_in e s.top.func) ≡ []
  none_ahead =
      no_allocas (rooms e s.top.func) f
      (no_frames (rooms e s.top.func) (keeps.wakes s.top.func k.coroutine).none f)

  -- it stands in the block that allocates
  in_block : s.top.block ≡ k.asks.allocates
  in_block = k.waits s.top.block t.top.block waits.waits

  pub among : slice_get (instrs_of f k.asks.allocates) s.top.at ≡ Some i
  among = sym (λ j. slice_get (instrs_of f (in_block j)) s.top.at) ∙ here

  pub held_here : (o : Option ℕ) (at : ℕ) → x.holds k.asks.allocates at ≡ o → x.holds s.top.block at ≡ o
  held_here o at is = (λ j. x.holds (in_block j) at) ∙ is

  pub set : (v : ℕ) → result_of i ≡ Some v → SetsPlain f x s.top.block s.top.at i v
  set v is = (keeps.instrs s.top.func).sets s.top.block s.top.at v i here is

  pub made_there : is_call_of Intrinsic.CoroAlloc i ≡ false → is_call_of Intrinsic.CoroFree i ≡ false
      → is_test x i ≡ false → (v : ℕ) → result_of i ≡ Some v → IsMadeThere x v
  made_there asks frees tests v is = record {
    made = k.asks.is_made s.top.at v i among is;
    need = (set v is).need asks;
    freed = (set v is).freed frees;
    tested = (set v is).tested tests;
  }

-- ---- what stands there

record IsSizeCall (j : Intrinsic) : Type 0 where
  begins : same_intrinsic Intrinsic.CoroBegin j ≡ false
  asks : same_intrinsic Intrinsic.CoroAlloc j ≡ false
  frees : same_intrinsic Intrinsic.CoroFree j ≡ false

size_call : (j : Intrinsic) → (j ≡ Intrinsic.CoroSizeI32) ⊎ (j ≡ Intrinsic.CoroSizeI64) → IsSizeCall j
size_call j (inl is) = record {
  begins = ap (same_intrinsic Intrinsic.CoroBegin) is;
  asks = ap (same_intrinsic Intrinsic.CoroAlloc) is;
  frees = ap (same_intrinsic Intrinsic.CoroFree) is;
}
size_call j (inr is) = record {
  begins = ap (same_intrinsic Intrinsic.CoroBegin) is;
  asks = ap (same_intrinsic Intrinsic.CoroAlloc) is;
  frees = ap (same_intrinsic Intrinsic.CoroFree) is;
}

module _ (e : Elision) (keeps : KeepsPlaces e) (s t : State) (waits : IsLeftWaiting e s t) where
  shaped : HasShape e s.top.func
  shaped = waiting_shape e s.top.func s.top.block t.top.block waits.waits (keeps.shapes s.top.func)

  pub size_place : (j : Intrinsic) (result : Option ℕ) (must_tail : Bool) (ty : Option Ty) (args : List Arg)
      → (j ≡ Intrinsic.CoroSizeI32) ⊎ (j ≡ Intrinsic.CoroSizeI64)
      → fetch (function_of (framed e).given s) s.top.block s.top.at
      ≡ AtInstr (Instr.Call result must_tail ty (Callee.Intrinsic j) args)
      → IsAtSize e s t j result must_tail ty args
  size_place j result must_tail ty args size there =
      let call = Instr.Call result must_tail ty (Callee.Intrinsic j) args in
      let is = size_call j size in
      record {
        runs = waits.runs;
        size = size;
        there = there;
        given = waits.given;
        waits = waits.waits;
        stays = waits.stays;
        none = none_ahead e keeps s t waits shaped call there;
        made = made_there e keeps s t waits shaped call there is.asks is.frees refl;
        holds = holds_over e s.top.func s.top.block s.top.at call (here e keeps s t waits shaped call there) is.begins
            refl (keeps.shapes s.top.func);
        kept = λ v name e' held. (set e keeps s t waits shaped call there v e').kept name held;
      }

  pub allocation_place : IsKnownState e.code s → (a : Allocator) (result : ℕ) (must_tail : Bool) (ty : Option Ty)
      (args : List Arg) (word : Word) → deals Dealing.Allocates a ≡ true
      → fetch (function_of (framed e).given s) s.top.block s.top.at
      ≡ AtInstr (Instr.Call (Some result) must_tail ty (Callee.Allocator a) args)
      → nth (arg_values e.code s.top.values args) 0 ≡ Value.Int word
      → IsAtAllocation e s t a result must_tail ty args
  allocation_place known a result must_tail ty args word allocates there size =
      let call = Instr.Call (Some result) must_tail ty (Callee.Allocator a) args in
      let asks = shaped.asks in
      let spot = among e keeps s t waits shaped call there in
      let at : s.top.at ≡ asks.allocation = asks.once s.top.at call spot allocates in
      let one : Some call ≡ Some asks.allocator
      = sym spot ∙ ((λ j. slice_get (instrs_of (function_in e s.top.func) asks.allocates) (at j)) ∙ asks.there) in
      let same : call ≡ asks.allocator = cc in
      let name : Some result ≡ Some asks.block = ap call_result same ∙ asks.given in
      record {
        runs = waits.runs;
        allocates = allocates;
        there = there;
        given = waits.given;
        waits = waits.waits;
        stays = waits.stays;
        none = none_ahead e keeps s t waits shaped call there;
        made = made_there e keeps s t waits shaped call there refl refl refl result refl;
        room = let low = (set e keeps s t waits shaped call there result refl).low in
            let room = known.acts.0.room in
            omega (arith, low, room);
        word = word;
        size = size;
        before = held_here e keeps s t waits shaped call there None s.top.at
            (asks.free_before s.top.at (omega (arith, at)));
        behind = held_here e keeps s t waits shaped call there (Some result) (s.top.at + 1)
            (asks.held (s.top.at + 1) (omega (arith, at)) ∙ sym name);
      }
