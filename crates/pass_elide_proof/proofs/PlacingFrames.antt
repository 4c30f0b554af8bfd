-- Records of places at which frames begin and are freed.
use Rattle.std.proofs.Common.{◌≡◌, ◌⊎◌, ◌<◌, ◌+◌, inl, inr, ℕ, Bool, true, false, List, ◌∷◌, Option, Ok, refl, sym, ap, ◌∙◌, subst, arith}
use Rattle.std.specs.Option.{option_map_or}
use Rattle.std.specs.Prelude.{None, Some, slice_get, if◌then◌else◌}
use Rattle.elide_shape.specs.Calls.{deals}
use Rattle.elide_shape.specs.declared.calls.Dealing.{Dealing}
use Rattle.pass_elide_proof.proofs.Facts.{not_both}
use Rattle.pass_elide_proof.proofs.Given.{given_of, unowned_of}
use Rattle.pass_elide_proof.proofs.Grown.{have_at}
use Rattle.pass_elide_proof.proofs.OwnPlaces.{instr_there}
use Rattle.pass_elide_proof.proofs.PlacingCalls.{call_place, plain_name}
use Rattle.pass_elide_proof.proofs.PlacingFacts.{by_truth, holds_over, no_frames}
use Rattle.pass_elide_proof.proofs.Slotted.{frame_dead, slotted_frames}
use Rattle.pass_elide_proof.specs.Beginning.{BeginsInFrameSize, HasRoomAt, IsAtBegin, IsAtGivenBegin}
use Rattle.pass_elide_proof.specs.Elision.{Elision, Shape, elided, framed, function_in, no_shape, rooms}
use Rattle.pass_elide_proof.specs.Ending.{FreesGiven}
use Rattle.pass_elide_proof.specs.Match.{AreElided, instance_in, is_given_mode, sides, was_given}
use Rattle.pass_elide_proof.specs.Places.{instrs_of}
use Rattle.pass_elide_proof.specs.Placing.{HasShape, KeepsPlaces}
use Rattle.pass_elide_proof.specs.PlacingStates.{AreAtIntrinsic, HaveShapes, IsCalledBy}
use Rattle.pass_elide_proof.specs.Rooms.{IsAtRoom}
use Rattle.pass_elide_proof.specs.Sound.{IsSoundState}
use Rattle.pass_proofs.proofs.ir_laws.facts.Lists.{get_within}
use Rattle.pass_proofs.specs.ir_base.declared.outcome.Outcome.{Outcome}
use Rattle.pass_proofs.specs.ir_model.Ty.{Ty}
use Rattle.pass_proofs.specs.ir_model.declared.instr.Instr.{Instr}
use Rattle.pass_proofs.specs.ir_model.declared.operand.Allocator.{Allocator}
use Rattle.pass_proofs.specs.ir_model.declared.operand.Arg.{Arg}
use Rattle.pass_proofs.specs.ir_model.declared.operand.Callee.{Callee}
use Rattle.pass_proofs.specs.ir_model.declared.operand.Intrinsic.{Intrinsic}
use Rattle.pass_proofs.specs.ir_model.declared.operand.Operand.{Operand}
use Rattle.pass_proofs.specs.ir_paths.Windows.{call_operand, operand_at}
use Rattle.pass_proofs.specs.run_framed.Framed.{is_given}
use Rattle.pass_proofs.specs.run_memory.declared.pointer.Pointer.{Pointer}
use Rattle.pass_proofs.specs.run_memory.declared.pointer.Value.{Value}
use Rattle.pass_proofs.specs.run_source.Source.{deallocate}
use Rattle.pass_proofs.specs.run_source.State.{frame_address_of, function_of}
use Rattle.pass_proofs.specs.run_source.declared.state.Activation.{Activation}
use Rattle.pass_proofs.specs.run_source.declared.state.Instance.{Instance}
use Rattle.pass_proofs.specs.run_source.declared.state.Mode.{Mode}
use Rattle.pass_proofs.specs.run_source.declared.state.State.{State}
use Rattle.pass_proofs.specs.run_step.Step.{AtInstr, fetch}
use Rattle.pass_proofs.specs.run_step.Values.{address, pointer_to, value_in}
use Rattle.run_slots.specs.Slots.{IsSlottedState}

-- ---- the shape of a function

-- a shape that tells an answer is no other's
shaped_by : (e : Elision) (func v : ℕ) → (e.shape func).freed v ≡ true
    → (e.shape func ≡ no_shape) ⊎ HasShape e func → HasShape e func
shaped_by e func v is (inl none) =
    absurd (not_both ((e.shape func).freed v) is (ap (λ (x : Shape). x.freed v) none))
shaped_by e func v is (inr k) = k

-- ---- begins

module _ (e : Elision) (keeps : KeepsPlaces e) (s t : State) (r : AreElided e s t) (slotted : IsSlottedState s)
    (first : IsSoundState (framed e) s) (second : IsSoundState (elided e) t) (result : Option ℕ) (must_tail : Bool)
    (ty : Option Ty) (args : List Arg)
    (at : AreAtIntrinsic e s t Intrinsic.CoroBegin result must_tail ty args) where
  abbrev call : Instr
  call = Instr.Call result must_tail ty (Callee.Intrinsic Intrinsic.CoroBegin) args

  there : slice_get (instrs_of (function_in e s.top.func) s.top.block) s.top.at ≡ Some call
  there = instr_there (function_in e s.top.func) s.top.block s.top.at call at.there

  pub begin_place : is_given_mode t.top.mode ≡ false → IsAtBegin e s t result must_tail ty args
  begin_place ramp = record {
    call = call_place e keeps s t r.top.func Intrinsic.CoroBegin result must_tail ty args at refl;
    ramp = ramp;
    frames = slotted_frames e s t slotted first second;
  }

  pub given_begin_place : HaveShapes e t → (block : ℕ) → t.top.mode ≡ Mode.GivenRamp (pointer_to block)
      → HasRoomAt e s t r block → BeginsInFrameSize e s args → IsAtGivenBegin e s t r result must_tail ty args
  given_begin_place shapes block mode room exact =
      let k = subst (λ (n : ℕ). HasShape e n) r.top.func (shapes.ramps.0 (ap is_given_mode mode)) in
      let here = k.begun s.top.block s.top.at call there refl in
      let one : Some k.asks.start ≡ Some call
      = sym k.asks.is_start
      ∙ (sym (λ j. slice_get (instrs_of (function_in e s.top.func) (here.0 j)) (here.1 j)) ∙ there) in
      let same : k.asks.start ≡ call = cc in
      record {
        call = call_place e keeps s t r.top.func Intrinsic.CoroBegin result must_tail ty args at refl;
        frames = slotted_frames e s t slotted first second;
        block = block;
        mode = mode;
        room = room;
        small = k.small;
        exact = exact;
        memory = k.asks.memory;
        takes = sym (ap (λ (i : Instr). call_operand i 1) same) ∙ k.asks.takes;
        holds = (λ j. (e.shape s.top.func).holds (here.0 j) (here.1 j))
            ∙ k.asks.held_until k.asks.begin (omega arith);
        behind = (λ j. (e.shape s.top.func).holds (here.0 j) (here.1 j + 1))
            ∙ k.asks.free_behind (k.asks.begin + 1) (omega arith);
        plain = plain_name e keeps s t r.top.func Intrinsic.CoroBegin result must_tail ty args at refl refl refl;
      }

-- ---- rooms

module _ (e : Elision) (keeps : KeepsPlaces e) (s t : State) where
  pub room_place : IsSlottedState s → IsSoundState (elided e) t
      → ((c : Activation) (below : List Activation) → t.below ≡ c ∷ below → IsCalledBy e t.top c) → (block : ℕ)
      → t.top.mode ≡ Mode.GivenRamp (pointer_to block) → t.top.instance ≡ None → IsAtRoom e s t block
  room_place slotted second calls block mode alone = record {
    mode = mode;
    alone = alone;
    shapes = λ func plain. unshaped func plain (keeps.shapes func);
    calls = λ c below call i name is site stands. (calls c below is).callee call i name site stands;
    starts = second.blocks.starts;
    dead = λ i x z there freed. frame_dead s slotted i x there z freed;
    unowned = unowned_of (elided e) t second block;
  }
    where
      unshaped : (func : ℕ) → (function_in e func).coroutine ≡ false
          → (e.shape func ≡ no_shape) ⊎ HasShape e func → e.shape func ≡ no_shape
      unshaped func plain (inl none) = none
      unshaped func plain (inr k) = absurd (not_both (function_in e func).coroutine k.coroutine plain)

-- ---- frees of what was given

no_allocator : (a : Allocator) → deals Dealing.Frees a ≡ true → deals Dealing.Allocates a ≡ false
no_allocator Allocator.Malloc is = absurd (cc)
no_allocator Allocator.Znwm is = absurd (cc)
no_allocator Allocator.Free is = refl
no_allocator Allocator.ZdlPv is = refl
no_allocator Allocator.ZdlPvm is = refl

not_poison : (s after : State) (v : Value) → v ≡ Value.Poison → deallocate s (address v) ≡ Ok after → ⊥
not_poison s after v is goes =
    let e = sym (ap (λ (p : Value). deallocate s (address p)) is) ∙ goes in
    absurd (cc)

module _ (e : Elision) (keeps : KeepsPlaces e) (s t : State) (r : AreElided e s t)
    (second : IsSoundState (elided e) t) where
  found : (o : Option ℕ) (x : Instance) → instance_in s.instances o ≡ Some x
      → (y : Instance) × (instance_in t.instances o ≡ Some y)
  found None x is = absurd (cc)
  found (Some i) x is =
      let lt = get_within s.instances i x is in
      have_at t.instances i (subst (λ (n : ℕ). i < n) (sym r.count) lt)

  -- the own instance of a given activation is given, where there is one
  given_own : (y : Instance) → instance_in t.instances t.top.instance ≡ Some y
      → was_given (sides s t) t.top ≡ true
      → option_map_or (is_given t.world.memory) (instance_in t.instances t.top.instance) false ≡ true
  given_own y there given =
      by_truth (is_given_mode t.top.mode)
      (λ ramp. ap (λ (o : Option Instance). option_map_or (is_given t.world.memory) o false) there
      ∙ given_of (elided e) t second y there ramp)
      (λ other. sym (ap (λ (b : Bool). if b then true
      else option_map_or (is_given t.world.memory) (instance_in t.instances t.top.instance) false) other) ∙ given)

  module _ (a : Allocator) (result : Option ℕ) (must_tail : Bool) (ty : Option Ty) (args : List Arg) where
    pub frees_place : s.outcome ≡ Outcome.Running → deals Dealing.Frees a ≡ true
        → fetch (function_of (framed e).given s) s.top.block s.top.at
        ≡ AtInstr (Instr.Call result must_tail ty (Callee.Allocator a) args)
        → was_given (sides s t) t.top ≡ true → (name : ℕ) → operand_at args 0 ≡ Operand.Local name
        → (e.shape s.top.func).freed name ≡ true → (after : State)
        → deallocate s (address (value_in s.top.values name)) ≡ Ok after
        → FreesGiven e s t a result must_tail ty args
    frees_place runs frees there given name takes is after goes =
        let k = shaped_by e s.top.func name is (keeps.shapes s.top.func) in
        let here = instr_there (function_in e s.top.func) s.top.block s.top.at
        (Instr.Call result must_tail ty (Callee.Allocator a) args) there in
        record {
          runs = runs;
          frees = frees;
          there = there;
          none = no_frames (rooms e s.top.func) (keeps.wakes s.top.func k.coroutine).none
              (function_in e s.top.func);
          name = name;
          takes = takes;
          is_freed = is;
          given = own ((r.top.released given).freed name is);
          holds = holds_over e s.top.func s.top.block s.top.at
              (Instr.Call result must_tail ty (Callee.Allocator a) args) here refl (no_allocator a frees)
              (keeps.shapes s.top.func);
          after = after;
          goes = goes;
        }
      where
        own : (value_in s.top.values name ≡ Value.Poison)
            ⊎ ((value_in t.top.values name ≡ Value.Ptr Pointer.Null)
            × ((y : Instance) × (instance_in s.instances s.top.instance ≡ Some y)
            × (value_in s.top.values name ≡ frame_address_of y)))
            → option_map_or (is_given t.world.memory) (instance_in t.instances t.top.instance) false ≡ true
        own (inl poison) = absurd (not_poison s after (value_in s.top.values name) poison goes)
        own (inr both) =
            let y = found s.top.instance both.1.0 both.1.1 in
            given_own y.0 (ap (instance_in t.instances) r.top.instance ∙ y.1) given
