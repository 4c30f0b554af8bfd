-- The last alloca that a resumed activation executes again: both runs enter the same label behind it.
use Rattle.std.proofs.Common.{◌≡◌, ◌∙◌, inl, inr, ℕ, Bool, true, false, List, [], ◌∷◌, ap, length, refl, subst, sym, if◌then◌else◌}
use Rattle.std.specs.Option.{option_map_or}
use Rattle.std.specs.Prelude.{None, Some}
use Rattle.pass_elide_proof.proofs.AgainSteps.{both_step, follows_too, made_both, mode_too, ours, theirs, v, y}
use Rattle.pass_elide_proof.proofs.Apart.{apart_same}
use Rattle.pass_elide_proof.proofs.EdgeBare.{bare_slots}
use Rattle.pass_elide_proof.proofs.EdgeEntered.{enters}
use Rattle.pass_elide_proof.proofs.EdgeMoved.{edge_moved}
use Rattle.pass_elide_proof.proofs.GivingNone.{no_allocas}
use Rattle.pass_elide_proof.proofs.MakingSteps.{hides, homes, on}
use Rattle.pass_elide_proof.proofs.Onward.{was_same}
use Rattle.pass_elide_proof.proofs.OrdinarySteps.{all_made}
use Rattle.pass_elide_proof.proofs.PhiValues.{each_as}
use Rattle.pass_elide_proof.proofs.Roomless.{front_same, no_frames}
use Rattle.pass_elide_proof.specs.Again.{IsAtLastAlloca}
use Rattle.pass_elide_proof.specs.Edges.{GivesNone, IsPhiAlike, label_from, phis_at}
use Rattle.pass_elide_proof.specs.Elision.{Elision, differs_in, elided, framed, function_in, rooms}
use Rattle.pass_elide_proof.specs.Match.{AreElided, Beside, HasAlloca, HasAllocas, Same, Sides, instance_in, is_given_mode, sides, was_given}
use Rattle.pass_elide_proof.specs.Ordinary.{StandsInFront}
use Rattle.pass_elide_proof.specs.Places.{allocas_ahead, front_at}
use Rattle.pass_proofs.specs.ir_model.Layout.{size_of}
use Rattle.pass_proofs.specs.ir_model.Names.{position_of}
use Rattle.pass_proofs.specs.ir_model.Ty.{Ty}
use Rattle.pass_proofs.specs.ir_model.declared.instr.Instr.{Instr}
use Rattle.pass_proofs.specs.ir_paths.declared.point.Point.{Point}
use Rattle.pass_proofs.specs.run_framed.Framed.{FramedGiven, alloca_from, at_point, enter_after, framed_slot, framed_step, is_given, with_mode}
use Rattle.pass_proofs.specs.run_laws.changed.Changed.{Each}
use Rattle.pass_proofs.specs.run_laws.memory.Pointers.{Home}
use Rattle.pass_proofs.specs.run_source.Source.{enter_block}
use Rattle.pass_proofs.specs.run_source.State.{function_of, settled, with_slots}
use Rattle.pass_proofs.specs.run_source.declared.state.Activation.{Activation}
use Rattle.pass_proofs.specs.run_source.declared.state.Mode.{Mode}
use Rattle.pass_proofs.specs.run_source.declared.state.State.{State}
use Rattle.pass_proofs.specs.run_step.Step.{alloca_kind, has_markers}
use Rattle.pass_proofs.specs.run_step.declared.world.Slot.{Slot}

-- ---- both activations are over with their allocas

module _ (e : Elision) (s t : State) (from label : ℕ) (r : AreElided e s t) (none : GivesNone e s.top.func)
    (mode : s.top.mode ≡ Mode.Entering from label) (mode_too : t.top.mode ≡ Mode.Entering from label)
    (block : t.top.block ≡ s.top.block)
    (front : t.top.at ≡ front_at (rooms e s.top.func) (function_in e s.top.func) s.top.block s.top.at) where
  abbrev M : Mode
  M = Mode.Entering from label

  -- the same with the mode written out
  named_modes : AreElided e (with_mode s M) (with_mode t M)
  named_modes =
      subst (λ (p : Mode × Mode). AreElided e (with_mode s p.0) (with_mode t p.1)) (λ j. (mode j, mode_too j)) r

  abbrev mine : State
  mine = with_mode s Mode.Resumed

  abbrev yours : State
  yours = with_mode t Mode.Resumed

  no_more : allocas_ahead (rooms e s.top.func) (function_in e s.top.func) ≡ []
  no_more = no_allocas (rooms e s.top.func) (function_in e s.top.func) none

  own_by : (homes : List Home) (hides : ℕ → Bool) (d : Sides) (a c : Activation) (own : List Slot)
      → HasAllocas e homes hides d (record a { func = s.top.func }) c own
      → length own ≡ length (allocas_ahead (rooms e s.top.func) (function_in e s.top.func))
  own_by homes hides d a c own (inl first) =
      ap (λ (xs : List Slot). length xs) first.2 ∙ sym (ap (λ (is : List Instr). length is) no_more)
  own_by homes hides d a c own (inr made) = made.1

  pub resumed_both : AreElided e (with_mode s Mode.Resumed) (with_mode t Mode.Resumed)
  resumed_both =
      let q = named_modes in
      record {
        homes = q.homes;
        hides = q.hides;
        world = q.world;
        known = q.known;
        globals = q.globals;
        hidden = q.hidden;
        mates = q.mates;
        count = q.count;
        instances = q.instances;
        top = record {
          func = q.top.func;
          result = q.top.result;
          instance = q.top.instance;
          has_left = q.top.has_left;
          mode = Same Mode.Resumed refl;
          place = Beside block front;
          values = record { each = q.top.values.each; room = q.top.values.room };
          asked = λ given. absurd (cc);
          released = λ given.
              record { freed = (q.top.released given).freed; tested = (q.top.released given).tested };
          own = q.top.own;
          slots = q.top.slots;
          allocas = inr (
            subst (λ (is : List Instr). Each (HasAlloca q.homes q.hides (sides mine yours) yours.top q.top.own) is)
                (sym no_more) tt,
            own_by q.homes q.hides (sides (with_mode s M) (with_mode t M)) (with_mode s M).top (with_mode t M).top
                q.top.own q.top.allocas,
          );
          held = tt;
        };
        below = q.below;
        once = apart_same e s.below t.below (with_mode s M).top (with_mode t M).top mine.top yours.top refl
            (λ u h. refl) q.once;
        allocs = q.allocs;
        outcome = q.outcome;
      }

-- ---- the step

-- the activation enters its label
slot_last : (g : FramedGiven) (s : State) (slot : Slot) (from label : ℕ) → s.top.mode ≡ Mode.Entering from label
    → alloca_from (function_of g.given s) s.top.at ≡ None
    → framed_slot g s slot s.top.mode
    ≡ enter_block g.given (with_mode (with_slots (at_point s (record { block = from; at = 0 })) (slot ∷ s.top.slots))
    Mode.Resumed) label
slot_last g s slot from label mode last =
    ap (framed_slot g s slot) mode ∙ ap (enter_after g (with_slots s (slot ∷ s.top.slots)) from label) last

module _ (e : Elision) (s t : State) (name : ℕ) (ty : Ty) (align from label : ℕ) (r : AreElided e s t)
    (front : StandsInFront e s t) (at : IsAtLastAlloca e s t name ty align from label) where
  abbrev i : Instr
  i = Instr.Alloca name ty align

  abbrev p : Point
  p = record { block = from; at = 0 }

  abbrev to : ℕ
  to = position_of (function_in e s.top.func) label

  abbrev u : State
  u = with_slots (at_point (settled s (v e s t t.top.at r (all_made e s t r front i at.own) name ty align from label
      at.own at.slots at.mode at.small at.aligned at.none)) p)
      (ours e s t t.top.at r (all_made e s t r front i at.own) name ty align from label at.own at.slots at.mode
      at.small at.aligned at.none ∷ s.top.slots)

  abbrev w : State
  w = with_slots (at_point (settled t (y e s t t.top.at r (all_made e s t r front i at.own) name ty align from label
      at.own at.slots at.mode at.small at.aligned at.none)) p)
      (theirs e s t t.top.at r (all_made e s t r front i at.own) name ty align from label at.own at.slots at.mode
      at.small at.aligned at.none ∷ t.top.slots)

  yours_mode : t.top.mode ≡ Mode.Entering from label
  yours_mode =
      mode_too e s t t.top.at r (all_made e s t r front i at.own) name ty align from label at.own at.slots at.mode
      at.small at.aligned at.none

  bare : GivesNone e s.top.func
  bare = no_frames (rooms e s.top.func) (function_in e s.top.func) at.none

  both : AreElided e (with_mode u Mode.Resumed) (with_mode w Mode.Resumed)
  both =
      resumed_both e u w from label
      (made_both e s t t.top.at r (all_made e s t r front i at.own) name ty align from label at.own at.slots at.mode
      at.small at.aligned at.none p) bare at.mode yours_mode refl
      (sym (front_same (rooms e s.top.func) (function_in e s.top.func) at.none from 0))

  -- the frame was given as before
  same_given : was_given (sides u w) (with_mode w Mode.Resumed).top ≡ was_given (sides s t) t.top
  same_given =
      was_same e (sides s t) u.world.memory w.world.memory r.homes
      (homes e s t t.top.at r i at.own (all_made e s t r front i at.own) at.slots (Some name) refl (size_of e.code ty) align
      (alloca_kind (function_in e s.top.func)) (has_markers (function_in e s.top.func) name) at.small s.world.allocs
      t.world.allocs (λ more h. h)) r.hides
      (hides e s t t.top.at r i at.own (all_made e s t r front i at.own) at.slots (Some name) refl (size_of e.code ty) align
      (alloca_kind (function_in e s.top.func)) (has_markers (function_in e s.top.func) name) at.small s.world.allocs
      t.world.allocs (λ more h. h))
      (on e s t t.top.at r i at.own (all_made e s t r front i at.own) at.slots (Some name) refl (size_of e.code ty) align
      (alloca_kind (function_in e s.top.func)) (has_markers (function_in e s.top.func) name) at.small s.world.allocs
      t.world.allocs (λ more h. h)) (with_mode w Mode.Resumed).top
      ∙ sym (ap (λ (m : Mode). if is_given_mode m then true
      else option_map_or (is_given t.world.memory) (instance_in t.instances t.top.instance) false) yours_mode)

  -- and names differ as before
  same_names : (k : ℕ)
      → differs_in (e.shape s.top.func) false (was_given (sides u w) (with_mode w Mode.Resumed).top) k
      ≡ differs_in (e.shape s.top.func) (is_given_mode t.top.mode) (was_given (sides s t) t.top) k
  same_names k =
      (λ j. differs_in (e.shape s.top.func) (is_given_mode (sym yours_mode j)) (same_given j) k)

  alike : Each (IsPhiAlike e (with_mode u Mode.Resumed) (with_mode w Mode.Resumed)
      (label_from (function_in e s.top.func) from)) (phis_at (function_in e s.top.func) to)
  alike =
      each_as (IsPhiAlike e s t (label_from (function_in e s.top.func) from))
      (IsPhiAlike e (with_mode u Mode.Resumed) (with_mode w Mode.Resumed)
      (label_from (function_in e s.top.func) from))
      (λ x h. record {
        known = h.known;
        answers = h.answers;
        takes = λ same k is. same_names k ∙ h.takes (sym (same_names x.result) ∙ same) k is;
      }) (phis_at (function_in e s.top.func) to) at.phis

  entered_both : AreElided e (enter_block (framed e).given (with_mode u Mode.Resumed) label)
      (enter_block (elided e).given (with_mode w Mode.Resumed) label)
  entered_both =
      subst (AreElided e (enter_block (framed e).given (with_mode u Mode.Resumed) label))
      (sym (enters e (with_mode w Mode.Resumed) label s.top.func r.top.func))
      (edge_moved e (with_mode u Mode.Resumed) (with_mode w Mode.Resumed) both to s.top.has_left t.top.has_left
      r.top.has_left (bare_slots e (with_mode u Mode.Resumed) (with_mode w Mode.Resumed) both bare) alike
      (λ given. absurd (cc)))

  pub last_goes : AreElided e (framed_step (framed e) s) (framed_step (elided e) t)
  last_goes =
      both_step e s t t.top.at r (all_made e s t r front i at.own) name ty align from label at.own at.slots at.mode
      at.small at.aligned at.none (enter_block (framed e).given (with_mode u Mode.Resumed) label)
      (enter_block (elided e).given (with_mode w Mode.Resumed) label)
      (slot_last (framed e) _ _ from label at.mode at.last)
      (slot_last (elided e) _ _ from label yours_mode
      (follows_too e s t t.top.at r (all_made e s t r front i at.own) name ty align from label at.own at.slots at.mode
      at.small at.aligned at.none None at.last)) entered_both
