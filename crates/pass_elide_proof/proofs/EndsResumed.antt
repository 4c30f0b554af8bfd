-- coro.end in a resumed activation, which returns.
use Rattle.std.proofs.Common.{◌≡◌, ◌≢◌, ◌+◌, inl, inr, ℕ, Bool, true, false, List, [], ◌∷◌, ◌++◌, length, length-append, map, Ok, Result, refl, sym, ap, ◌∙◌, subst, arith}
use Rattle.std.specs.Prelude.{None, Option, Some, if◌then◌else◌, slice_get}
use Rattle.pass_elide_proof.proofs.EdgeBare.{bare_slots}
use Rattle.pass_elide_proof.proofs.EndsRamp.{call, end_there}
use Rattle.pass_elide_proof.proofs.Finished.{EndsBoth, ends_both}
use Rattle.pass_elide_proof.proofs.FramesStay.{beside_in}
use Rattle.pass_elide_proof.proofs.GivingNone.{and_none, no_allocas}
use Rattle.pass_elide_proof.proofs.Popped.{below_too, popped}
use Rattle.pass_elide_proof.proofs.Sized.{stepped}
use Rattle.pass_elide_proof.proofs.SlotsDie.{MayDie, StartAtZero, slots_die}
use Rattle.pass_elide_proof.specs.Edges.{GivesNone}
use Rattle.pass_elide_proof.specs.Elision.{Elision, differs_in, elided, framed, function_in, rooms}
use Rattle.pass_elide_proof.specs.Ends.{IsAtResumedEnd, IsOwnSlot}
use Rattle.pass_elide_proof.specs.Match.{AreElided, AreModes, Given, HasAllocas, IsNoGivenFrame, Same, is_given_mode, sides, was_given}
use Rattle.pass_elide_proof.specs.Places.{allocas_ahead}
use Rattle.pass_proofs.specs.ir_base.declared.cause.Cause.{Cause}
use Rattle.pass_proofs.specs.ir_model.Ty.{Ty}
use Rattle.pass_proofs.specs.ir_model.declared.instr.Instr.{Instr}
use Rattle.pass_proofs.specs.ir_model.declared.operand.Arg.{Arg}
use Rattle.pass_proofs.specs.run_framed.Framed.{framed_finish, framed_step}
use Rattle.pass_proofs.specs.run_laws.changed.Changed.{Each}
use Rattle.pass_proofs.specs.run_laws.embedded.Deaths.{moved_slot}
use Rattle.pass_proofs.specs.run_laws.memory.Pointers.{Home, IsValue, home_of}
use Rattle.pass_proofs.specs.run_memory.declared.block.MemoryBlock.{MemoryBlock}
use Rattle.pass_proofs.specs.run_memory.declared.pointer.Value.{Value}
use Rattle.pass_proofs.specs.run_source.Source.{after_end, given_back, pop, return, returned}
use Rattle.pass_proofs.specs.run_source.State.{with_memory}
use Rattle.pass_proofs.specs.run_source.declared.state.Activation.{Activation}
use Rattle.pass_proofs.specs.run_source.declared.state.Instance.{Instance}
use Rattle.pass_proofs.specs.run_source.declared.state.Mode.{Mode}
use Rattle.pass_proofs.specs.run_source.declared.state.State.{State}
use Rattle.pass_proofs.specs.run_step.Step.{without_slots}
use Rattle.pass_proofs.specs.run_step.Values.{pointer_to, value_in}
use Rattle.pass_proofs.specs.run_step.declared.world.Slot.{Slot}
use Rattle.run_access_worked.specs.Frames.{AreSameFrames, IsSameFrame}

lit : (a : Bool) → a ≡ true → a ≡ false → ⊥
lit true y n = absurd (cc)
lit false y n = absurd (cc)

same_back : (xs ys : List Instance) → AreSameFrames xs ys → AreSameFrames ys xs
same_back [] [] h = tt
same_back [] (y ∷ ys) h = absurd h
same_back (x ∷ xs) [] h = absurd h
same_back (x ∷ xs) (y ∷ ys) h = (
  record { coroutine = sym h.0.coroutine; block = sym h.0.block; start = sym h.0.start },
  same_back xs ys h.1,
)

-- ---- the step

-- the slots die, and the caller goes on
abbrev back_in : State → Activation → List Activation → State
back_in s a below =
    record (with_memory s (without_slots s.world.memory s.top.slots)) { top = a; below = below }

goes_back : (s : State) (a : Activation) (below : List Activation) → s.below ≡ a ∷ below → s.top.result ≡ None
    → return s None ≡ Ok (back_in s a below)
goes_back s a below is none =
    ap (λ (bs : List Activation). pop (returned s) None bs) is
    ∙ ap (λ (o : Option ℕ). Ok (record (with_memory s (without_slots s.world.memory s.top.slots)) {
      top = given_back a o None;
      below = below;
    })) none

resumed_too : (m k : Mode) → AreModes m k → m ≡ Mode.Resumed → k ≡ Mode.Resumed
resumed_too m k (Same mode allocating) is = is
resumed_too m k (Given block offset) is = absurd (cc)

-- ---- the slots

module _ (e : Elision) (s t : State) (r : AreElided e s t) (none : GivesNone e s.top.func) where
  empty : (own : List Slot) → t.top.slots ≡ map (moved_slot r.homes) s.top.slots ++ own
      → length own ≡ 0 → t.top.slots ≡ map (moved_slot r.homes) s.top.slots
  empty [] is few = is ∙ and_none (map (moved_slot r.homes) s.top.slots)
  empty (z ∷ own) is few = absurd (omega (arith, few))

  few : (own : List Slot) → HasAllocas e r.homes r.hides (sides s t) s.top t.top own → length own ≡ 0
  few own (inl first) = ap (λ (zs : List Slot). length zs) first.2
  few own (inr made) =
      made.1
      ∙ ap (λ (is : List Instr). length is) (no_allocas (rooms e s.top.func) (function_in e s.top.func) none)

  same_slots : t.top.slots ≡ map (moved_slot r.homes) s.top.slots
  same_slots = empty r.top.own r.top.slots (few r.top.own r.top.allocas)

  may : (z : Slot) → IsOwnSlot e s z → MayDie r.hides (sides s t) z
  may z h = record {
    there = h.there;
    is_there = h.is_there;
    kind = h.kind;
    shown = on (r.hides z.block) refl;
    own = λ i x y here beside given same. h.own i x here same;
  }
    where
      stands : IsValue r.homes (pointer_to z.block) (value_in t.top.values z.alloca)
      stands =
          subst (λ (v : Value). IsValue r.homes v (value_in t.top.values z.alloca)) h.address
          (r.top.values.each z.alloca (h.alike (is_given_mode t.top.mode) (was_given (sides s t) t.top)))

      on : (b : Bool) → r.hides z.block ≡ b → r.hides z.block ≡ false
      on true is = absurd (lit (home_of r.homes z.block).is_seen stands.0 (r.hidden z.block is))
      on false is = is

  all_may : (zs : List Slot) → Each (IsOwnSlot e s) zs → Each (MayDie r.hides (sides s t)) zs
  all_may [] h = tt
  all_may (z ∷ zs) h = (may z h.0, all_may zs h.1)

  module _ (starts : StartAtZero t) (slots : Each (IsOwnSlot e s) s.top.slots)
      (ramp : is_given_mode t.top.mode ≡ false) (a c : Activation) (bs cs : List Activation)
      (first : s.below ≡ a ∷ bs) (second : t.below ≡ c ∷ cs) where
    died : AreElided e (with_memory s (without_slots s.world.memory s.top.slots))
        (with_memory t (without_slots t.world.memory t.top.slots))
    died =
        subst (λ (zs : List Slot). AreElided e (with_memory s (without_slots s.world.memory s.top.slots))
        (with_memory t (without_slots t.world.memory zs))) (sym same_slots)
        (slots_die e s.top.slots s t r starts (all_may s.top.slots slots))

    back_both : AreElided e (back_in s a bs) (back_in t c cs)
    back_both =
        popped e (with_memory s (without_slots s.world.memory s.top.slots))
        (with_memory t (without_slots t.world.memory t.top.slots)) died a c bs cs first second ramp

-- ---- coro.end

-- where other instances have the same frames
slot_over : (e : Elision) (s : State) (xs : List Instance) → AreSameFrames s.instances xs → (z : Slot)
    → IsOwnSlot e s z → IsOwnSlot e (record s { instances = xs }) z
slot_over e s xs same z h = record {
  there = h.there;
  is_there = h.is_there;
  kind = h.kind;
  own = λ i x here at.
      let p = beside_in xs s.instances (same_back s.instances xs same) i x here in
      h.own i p.beside p.there (p.same.block ∙ at);
  address = h.address;
  alike = h.alike;
}

slots_over : (e : Elision) (s : State) (xs : List Instance) → AreSameFrames s.instances xs → (zs : List Slot)
    → Each (IsOwnSlot e s) zs → Each (IsOwnSlot e (record s { instances = xs })) zs
slots_over e s xs same [] h = tt
slots_over e s xs same (z ∷ zs) h = (slot_over e s xs same z h.0, slots_over e s xs same zs h.1)

module _ (e : Elision) (s t : State) (r : AreElided e s t) (result : Option ℕ) (must_tail : Bool) (ty : Option Ty)
    (args : List Arg) (at : IsAtResumedEnd e s t r result must_tail ty args) where
  abbrev mine : State
  mine = if s.top.has_left then s else framed_finish s

  abbrev yours : State
  yours = if t.top.has_left then t else framed_finish t

  both : EndsBoth e s t mine yours
  both = ends_both e s t r at.ends.own s.top.has_left t.top.has_left r.top.has_left

  abbrev mine_over : State
  mine_over = record s { instances = both.xs }

  abbrev yours_over : State
  yours_over = with_memory (record t { instances = both.ys }) both.memory

  theirs : (c : Activation) × (others : List Activation) × (t.below ≡ c ∷ others)
  theirs = below_too e r.homes r.hides (sides s t) s.below t.below r.below at.caller at.callers at.below

  mode_too : t.top.mode ≡ Mode.Resumed
  mode_too = resumed_too s.top.mode t.top.mode r.top.mode at.resumed

  first_step : framed_step (framed e) s ≡ back_in mine_over at.caller at.callers
  first_step =
      stepped (framed e) s (back_in mine_over at.caller at.callers)
      (call e s t r result must_tail ty args at.ends) at.ends.runs at.ends.there
      (ap (after_end mine result) at.resumed
      ∙ (ap (λ (v : State). return v None) both.first
      ∙ goes_back mine_over at.caller at.callers at.below at.no_result))

  second_step : framed_step (elided e) t ≡ back_in yours_over theirs.0 theirs.1
  second_step =
      stepped (elided e) t (back_in yours_over theirs.0 theirs.1) (call e s t r result must_tail ty args at.ends)
      (r.outcome ∙ at.ends.runs) (end_there e s t r result must_tail ty args at.ends)
      (ap (after_end yours result) mode_too
      ∙ (ap (λ (v : State). return v None) both.second
      ∙ goes_back yours_over theirs.0 theirs.1 theirs.2 (r.top.result ∙ at.no_result)))

  start_over : StartAtZero yours_over
  start_over i y here =
      let p = beside_in both.ys t.instances (same_back t.instances both.ys both.seconds) i y here in
      sym p.same.start ∙ at.starts i p.beside p.there

  pub resumed_ends : AreElided e (framed_step (framed e) s) (framed_step (elided e) t)
  resumed_ends =
      subst (λ (v : State × State). AreElided e v.0 v.1) (λ i. (sym first_step i, sym second_step i))
      (back_both e mine_over yours_over both.beside at.ends.none start_over
      (slots_over e s both.xs both.firsts s.top.slots at.slots) (ap is_given_mode mode_too) at.caller theirs.0
      at.callers theirs.1 at.below theirs.2)
