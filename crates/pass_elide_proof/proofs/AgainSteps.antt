-- An alloca that a resumed activation executes again leaves the states beside each other, at the next alloca.
use Rattle.std.proofs.Common.{◌≡◌, ◌+◌, ℕ, true, false, ◌∷◌, length, Ok, refl, sym, ap, ◌∙◌, subst}
use Rattle.std.specs.Prelude.{◌<◌, ◌^◌, None, Option, Some}
use Rattle.pass_elide.specs.Elided.{elided_function}
use Rattle.pass_elide_proof.proofs.MakingSteps.{alloca_makes, first_work, homes, if_aligned, keeps_on, makes_at, more_slots, second_work, turned_function}
use Rattle.pass_elide_proof.proofs.Markers.{same_markers}
use Rattle.pass_elide_proof.proofs.Modules.{finds_alike}
use Rattle.pass_elide_proof.proofs.OrdinarySteps.{all_made}
use Rattle.pass_elide_proof.proofs.OwnPlaces.{acts, there_too}
use Rattle.pass_elide_proof.proofs.Roomless.{front_same, own_same, same_alloca}
use Rattle.pass_elide_proof.proofs.Settled.{KeepsTop}
use Rattle.pass_elide_proof.specs.Again.{IsAtAllocaAgain}
use Rattle.pass_elide_proof.specs.Elision.{Elision, elided, framed, function_in, rooms}
use Rattle.pass_elide_proof.specs.Making.{HaveSlots}
use Rattle.pass_elide_proof.specs.Match.{AreElided, AreModes, Beside, Given, Same, is_given_mode}
use Rattle.pass_elide_proof.specs.Ordinary.{HasMadeAll, IsAtOwn, StandsInFront, with_at}
use Rattle.pass_proofs.specs.ir_model.Layout.{size_of}
use Rattle.pass_proofs.specs.ir_model.Ty.{Ty}
use Rattle.pass_proofs.specs.ir_model.declared.instr.Instr.{Instr}
use Rattle.pass_proofs.specs.ir_model.declared.module.Function.{Function}
use Rattle.pass_proofs.specs.ir_paths.declared.point.Point.{Point}
use Rattle.pass_proofs.specs.run_framed.Framed.{FramedGiven, alloca_from, at_point, enter_after, framed_context, framed_slot, framed_step, with_mode}
use Rattle.pass_proofs.specs.run_source.State.{function_of, settled, with_slots, work_of}
use Rattle.pass_proofs.specs.run_source.declared.state.Mode.{Mode}
use Rattle.pass_proofs.specs.run_source.declared.state.State.{State}
use Rattle.pass_proofs.specs.run_step.Step.{AtInstr, NewSlot, Work, action_of, alloca, alloca_kind, has_markers, is_alignment}
use Rattle.pass_proofs.specs.run_step.declared.world.Slot.{Slot}

-- ---- modes

entering_too : (a c : Mode) (from label : ℕ) → AreModes a c → a ≡ Mode.Entering from label
    → c ≡ Mode.Entering from label
entering_too _ _ from label (Same mode allocates) e = e
entering_too _ _ from label (Given block offset) e = absurd (cc)

not_given : (mode : Mode) (from label : ℕ) → mode ≡ Mode.Entering from label → is_given_mode mode ≡ true → ⊥
not_given mode from label is given = no_truth (sym (ap is_given_mode is) ∙ given)
  where
    no_truth : false ≡ true → ⊥
    no_truth e = absurd (cc)

-- the activation goes on to the next alloca
slot_again : (g : FramedGiven) (s : State) (slot : Slot) (from label : ℕ) (next : Point)
    → s.top.mode ≡ Mode.Entering from label → alloca_from (function_of g.given s) s.top.at ≡ Some next
    → framed_slot g s slot s.top.mode ≡ with_slots (at_point s next) (slot ∷ s.top.slots)
slot_again g s slot from label next mode follows =
    ap (framed_slot g s slot) mode
    ∙ (ap (enter_after g (with_slots s (slot ∷ s.top.slots)) from label) follows
    ∙ ap (λ (m : Mode). at_point (with_mode (with_slots s (slot ∷ s.top.slots)) m) next) (sym mode))

-- ---- the step

module _ (e : Elision) (s t : State) (n : ℕ) (r : AreElided e s (with_at t n)) (made : HasMadeAll e s (with_at t n) r)
    (name : ℕ) (ty : Ty) (align from label : ℕ) (own : IsAtOwn e s t (Instr.Alloca name ty align)) (slots : HaveSlots s)
    (mode : s.top.mode ≡ Mode.Entering from label) (small : size_of e.code ty < 2 ^ 64)
    (aligned : is_alignment align ≡ true) (none : (block at : ℕ) (i : Instr) → rooms e s.top.func block at i ≡ None)
  where
    abbrev f : Function
    f = function_in e s.top.func

    abbrev i : Instr
    i = Instr.Alloca name ty align

    abbrev pub v : Work
    v = first_work e s t n r i own made slots (Some name) refl (size_of e.code ty) align (alloca_kind f)
        (has_markers f name) small s.world.allocs t.world.allocs (λ more h. h)

    abbrev pub y : Work
    y = second_work e s t n r i own made slots (Some name) refl (size_of e.code ty) align (alloca_kind f)
        (has_markers f name) small s.world.allocs t.world.allocs (λ more h. h)

    abbrev pub ours : Slot
    ours = record { alloca = name; block = length s.world.memory }

    abbrev pub theirs : Slot
    theirs = record { alloca = name; block = length t.world.memory }

    turned : function_of (elided e).given t ≡ elided_function (rooms e s.top.func) f
    turned = turned_function e s t n r

    first_does : action_of (framed_context (framed e) s) (work_of s) (AtInstr i) ≡ NewSlot v ours
    first_does =
        if_aligned align (alloca (framed_context (framed e) s) (work_of s) name (size_of e.code ty) align) aligned
        ∙ alloca_makes (framed_context (framed e) s) (work_of s) name (size_of e.code ty) align (alloca_kind f)
        (has_markers f name) refl refl

    second_does : action_of (framed_context (elided e) t) (work_of t) (AtInstr i) ≡ NewSlot y theirs
    second_does =
        if_aligned align (alloca (framed_context (elided e) t) (work_of t) name (size_of e.code ty) align) aligned
        ∙ alloca_makes (framed_context (elided e) t) (work_of t) name (size_of e.code ty) align (alloca_kind f)
        (has_markers f name) (ap alloca_kind turned)
        (ap (λ (h : Function). has_markers h name) turned ∙ same_markers name (rooms e s.top.func) f)

    pub mode_too : t.top.mode ≡ Mode.Entering from label
    mode_too = entering_too s.top.mode t.top.mode from label r.top.mode mode

    pub keeps : (next : Point) → KeepsTop e s t (homes e s t n r i own made slots (Some name) refl (size_of e.code ty) align
        (alloca_kind f) (has_markers f name) small s.world.allocs t.world.allocs (λ more h. h)) next next v.values
        y.values
    keeps next =
        let on = keeps_on e s t n r i own made slots (Some name) refl (size_of e.code ty) align (alloca_kind f)
        (has_markers f name) small s.world.allocs t.world.allocs (λ more h. h) in
        record {
          place = λ ss ts. Beside refl (sym (front_same (rooms e s.top.func) f none next.block next.at));
          values = on.values;
          room = on.room;
          need = on.need;
          freed = on.freed;
          tested = on.tested;
          in_front = on.in_front;
          holds = λ given. absurd (not_given t.top.mode from label mode_too given);
          held = on.held;
        }

    -- both go on to the same alloca, or to none
    pub follows_too : (o : Option Point) → alloca_from (function_in e s.top.func) (s.top.at + 1) ≡ o
        → alloca_from (function_of (elided e).given t) (t.top.at + 1) ≡ o
    follows_too o follows =
        (λ j. alloca_from (turned j) ((own.at ∙ own_same (rooms e s.top.func) f none s.top.block s.top.at) j + 1))
        ∙ (same_alloca (rooms e s.top.func) f none (s.top.at + 1) ∙ follows)

    -- the states with the new slots, at any place
    pub made_both : (next : Point) → AreElided e (with_slots (at_point (settled s v) next) (ours ∷ s.top.slots))
        (with_slots (at_point (settled t y) next) (theirs ∷ t.top.slots))
    made_both next =
        makes_at e s t n r i own made slots (Some name) refl (size_of e.code ty) align (alloca_kind f)
        (has_markers f name) small s.world.allocs t.world.allocs (λ more h. h) next next (keeps next)
        (ours ∷ s.top.slots) (theirs ∷ t.top.slots)
        (more_slots e s t n r i own made slots (Some name) refl (size_of e.code ty) align (alloca_kind f)
        (has_markers f name) small s.world.allocs t.world.allocs (λ more h. h) name)

    -- what both steps give, by what becomes of the new slots
    pub both_step : (u w : State) → framed_slot (framed e) (settled s v) ours s.top.mode ≡ u
        → framed_slot (elided e) (settled t y) theirs t.top.mode ≡ w → AreElided e u w
        → AreElided e (framed_step (framed e) s) (framed_step (elided e) t)
    both_step u w is is_too beside =
        let first : framed_step (framed e) s ≡ u
        = acts (framed e) s u i (NewSlot v ours) own.runs own.there own.no_ramp first_does (ap Ok is) in
        let second : framed_step (elided e) t ≡ w
        = acts (elided e) t w i (NewSlot y theirs) (r.outcome ∙ own.runs) (there_too e s t i own r.top.func)
        (λ m is. (finds_alike e).ramps m ∙ own.no_ramp m is) second_does (ap Ok is_too) in
        subst (λ (p : State × State). AreElided e p.0 p.1) (λ j. (sym first j, sym second j)) beside

    pub again_goes : (next : Point) → alloca_from (function_in e s.top.func) (s.top.at + 1) ≡ Some next
        → AreElided e (framed_step (framed e) s) (framed_step (elided e) t)
    again_goes next follows =
        both_step (with_slots (at_point (settled s v) next) (ours ∷ s.top.slots))
        (with_slots (at_point (settled t y) next) (theirs ∷ t.top.slots))
        (slot_again (framed e) (settled s v) ours from label next mode follows)
        (slot_again (elided e) (settled t y) theirs from label next mode_too (follows_too (Some next) follows))
        (made_both next)

pub allocas_again_stay_beside : (e : Elision) (s t : State) (name : ℕ) (ty : Ty) (align from label : ℕ) (next : Point)
    → AreElided e s t → StandsInFront e s t → IsAtAllocaAgain e s t name ty align from label next
    → AreElided e (framed_step (framed e) s) (framed_step (elided e) t)
allocas_again_stay_beside e s t name ty align from label next r front at =
    again_goes e s t t.top.at r (all_made e s t r front (Instr.Alloca name ty align) at.own) name ty align from label
    at.own at.slots at.mode at.small at.aligned at.none next at.follows
