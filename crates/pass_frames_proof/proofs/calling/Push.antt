-- A function is entered: its activation is on top, and that of the caller stands right behind its call.
use Rattle.std.proofs.Common.{◌≡◌, ◌⊎◌, inl, inr, ℕ, ◌+◌, ◌<◌, ◌≤◌, Bool, true, false, List, ◌∷◌, ◌++◌, length, refl, ◌∙◌, arith}
use Rattle.std.proofs.lemmas.Bool.{cases_lt}
use Rattle.std.specs.List.{Contains}
use Rattle.std.specs.Prelude.{map, slice_get}
use Rattle.pass_frames_steps.specs.flow_solver.Paths.{IsListed}
use Rattle.pass_frames_steps.proofs.ir_laws.facts.Lists.{get_within}
use Rattle.pass_frames_steps.specs.ir_laws.paths.woven_rules.Pairs.{AreDifferent}
use Rattle.pass_frames_steps.specs.ir_model.Ty.{Ty}
use Rattle.pass_frames_proof.proofs.calling.Passed.{ahead_passed, caller_passed, passed_on}
use Rattle.pass_frames_proof.proofs.returning.Turned.{placed_at}
use Rattle.pass_frames_steps.proofs.stepping.Rest.{LeavesRest, all_ahead_kept, below_kept, got, has_kept, instance_kept, made_kept, more_below, one_below}
use Rattle.pass_frames_steps.proofs.stepping.Same.{fields_kept, kept, own_frame, rest_left}
use Rattle.pass_frames_steps.specs.Framings.{IsFraming}
use Rattle.pass_frames_steps.specs.Places.{is_return}
use Rattle.pass_frames_steps.specs.Related.{AreActivations, AreAhead, AreBuiltOf, Building, HasValues, IsAhead, IsCellName, IsFreeOf, all_slots, below_place, instance_in, is_coroutine, is_first, returned_from, slots_below, top_place}
use Rattle.pass_frames_steps.specs.Returning.{IsAmong}
use Rattle.pass_frames_steps.specs.Stepping.{IsNotEntering}
use Rattle.pass_frames_steps.specs.run_framed.Framed.{frame_rights}
use Rattle.pass_frames_steps.proofs.run_laws.transfer.Muted.{muted_length}
use Rattle.pass_frames_steps.specs.run_laws.access.Lines.{Holds}
use Rattle.pass_frames_steps.specs.run_laws.memory.Pointers.{home_of}
use Rattle.pass_frames_steps.specs.run_laws.transfer.Muted.{muted}
use Rattle.pass_frames_steps.specs.run_laws.transfer.Transfer.{AreOver}
use Rattle.pass_frames_steps.specs.run_memory.Memory.{Rights, owner_rights}
use Rattle.pass_frames_steps.specs.run_memory.declared.block.Byte.{Byte}
use Rattle.pass_frames_steps.specs.run_source.declared.state.Activation.{Activation}
use Rattle.pass_frames_steps.specs.run_source.declared.state.State.{State}
use Rattle.pass_frames_steps.specs.run_step.declared.world.Slot.{Slot}
use Rattle.pass_frames_steps.specs.run_step.declared.world.World.{World}

-- ---- the target's memory grows

module _ (b : Building) (s t : State) (r : AreBuiltOf b s t)
    (framings : (func : ℕ) → is_coroutine b func ≡ true → IsFraming (b.framing func))
    (slots_there : (n : ℕ) → IsAmong n (all_slots t) → n < length t.world.memory) (u : World)
    (same : (e : ℕ) → e < length t.world.memory → slice_get u.memory e ≡ slice_get t.world.memory e) where
  abbrev R : Rights
  R = frame_rights b.given t.instances

  abbrev Touched : ℕ → Type 0
  Touched e = length t.world.memory ≤ e

  old : (e : ℕ) → (Touched e → ⊥) → slice_get u.memory e ≡ slice_get t.world.memory e
  old e none = on (cases_lt e (length t.world.memory))
    where
      on : (e < length t.world.memory) ⊎ (length t.world.memory ≤ e)
          → slice_get u.memory e ≡ slice_get t.world.memory e
      on (inl lt) = same e lt
      on (inr le) = absurd (none le)

  stood : (n : ℕ) → n < length s.world.memory → (home_of r.homes n).is_seen ≡ true
      → Touched (home_of r.homes n).block → ⊥
  stood n lt seen le =
      let long : length (muted r.hides s.world.memory) ≡ length s.world.memory = muted_length r.hides s.world.memory in
      let z = got (muted r.hides s.world.memory) n (omega (arith, lt, long)) in
      let q = r.world.bounds.each n z.0 seen z.1 in
      let less : (home_of r.homes n).block < length t.world.memory =
      get_within t.world.memory (home_of r.homes n).block q.block q.there in
      omega (arith, less, le)

  others : (n : ℕ) → IsListed n (map (λ (slot : Slot). slot.block) (slots_below t.below)) → Touched n → ⊥
  others n l le =
      let less : n < length t.world.memory = slots_there n (more_below t.top t.below n l) in omega (arith, less, le)

  pub grown_left : LeavesRest b s t r s.world u
  grown_left = rest_left b s t r s.world u Touched framings refl old stood others

  own_stays : (slot : Slot) → Contains t.top.slots slot → Touched slot.block → ⊥
  own_stays slot e le =
      let less : slot.block < length t.world.memory =
      slots_there slot.block (one_below t.top t.below slot e) in
      omega (arith, less, le)

  top_kept : (slot : Slot) → Contains t.top.slots slot → (o most : ℕ) (bytes : List Byte)
      → Holds R t.world.memory slot.block o most bytes → Holds R u.memory slot.block o most bytes
  top_kept slot e o most bytes h =
      kept b s t r s.world u Touched framings refl old stood others slot.block (own_stays slot e) o most bytes h

  -- ---- the caller

  module _ (calm : is_coroutine b s.top.func ≡ true
      → IsNotEntering s.top.mode × (is_return (b.framing s.top.func) s.top.block ≡ false)) (new : Activation) where
    abbrev pub old_s : Activation
    old_s = passed_on s.top

    abbrev pub old_t : Activation
    old_t = placed_at t.top (below_place b old_s)

    abbrev pub t' : State
    t' = record t { world = u; top = new; below = old_t ∷ t.below }

    values_kept : (k : Bool) → is_coroutine b s.top.func ≡ k → HasValues b r.homes R t s.top t.top k
        → HasValues b r.homes R t' s.top t.top k
    values_kept true is h = record {
      names = record { each = h.names.each; room = h.names.room };
      cells = has_kept R t.world.memory u.memory (b.framing s.top.func) (framings s.top.func is) t.top
          (λ slot e name. top_kept slot e) r.homes
          (instance_in t.instances t.top.instance) s.top (returned_from (b.framing s.top.func) s.top s.top.mode)
          (λ y j own from. fields_kept R t.world.memory u.memory y.block
          (kept b s t r s.world u Touched framings refl old stood others y.block
          (own_frame b s t r s.world u Touched framings refl old stood others t.top.instance y own))
          (b.framing s.top.func) r.homes j s.top.values y.start s.top.mode) h.cells;
      made = made_kept R t.world.memory u.memory (b.framing s.top.func) (framings s.top.func is) t.top
          (λ slot e name. top_kept slot e) s.top.mode h.made;
    }
    values_kept false is h = record { each = h.each; room = h.room }

    caller : AreActivations b r.homes r.hides t' (below_place b) old_s old_t
    caller =
        caller_passed b r.homes r.hides t' s.top t.top calm (top_place b) (record {
          func = r.top.func;
          place = r.top.place;
          result = r.top.result;
          mode = r.top.mode;
          instance = r.top.instance;
          has_left = r.top.has_left;
          values = values_kept (is_coroutine b s.top.func) refl r.top.values;
          slots = r.top.slots;
        })

    ahead_one : (v align : ℕ) (ty : Ty)
        → IsAhead (b.framing s.top.func) r.homes r.hides s.world.memory t.world.memory t.top v ty align
        → IsAhead (b.framing s.top.func) r.homes r.hides s.world.memory u.memory t.top v ty align
    ahead_one v align ty h = record {
      block = h.block;
      address = h.address;
      own = h.own;
      free = h.free;
      bytes = h.bytes;
      sized = h.sized;
      there = old h.block (own_stays (record { alloca = v; block = h.block }) h.own) ∙ h.there;
    }

    caller_ahead : is_coroutine b s.top.func ≡ true → is_first s.top.mode ≡ true → s.top.block ≡ 0
        → AreAhead (b.framing s.top.func) r.homes r.hides s.world.memory u.memory old_s old_t
    caller_ahead is first zero =
        let h = r.ahead.0 is first zero in
        ahead_passed (b.framing s.top.func) r.homes r.hides s.world.memory u.memory s.top t.top (below_place b old_s)
        (record {
          slots = λ at v align ty e le out. ahead_one v align ty (h.slots at v align ty e le out);
          temporaries = λ z at align ty listed e le.
              ahead_one z.temporary z.align z.ty (h.temporaries z at align ty listed e le);
        })

    -- ---- the activation that is entered

    module _ (over : AreOver owner_rights R r.homes r.hides (λ d. d) s.world u) (first : Activation)
        (top_new : AreActivations b r.homes r.hides t' (top_place b) first new)
        (once_new : AreDifferent (map (λ (slot : Slot). slot.block) (new.slots ++ all_slots t)))
        (cells_new : is_coroutine b new.func ≡ true → (slot : Slot) → Contains new.slots slot
        → IsCellName (b.framing new.func) slot.alloca → IsFreeOf r.homes r.hides s.world.memory slot.block)
        (ahead_new : is_coroutine b first.func ≡ true → is_first first.mode ≡ true → first.block ≡ 0
        → AreAhead (b.framing first.func) r.homes r.hides s.world.memory u.memory first new) where
      pub pushed : AreBuiltOf b (record s { top = first; below = old_s ∷ s.below }) t'
      pushed = record {
        homes = r.homes;
        hides = r.hides;
        world = over;
        known = r.known;
        globals = r.globals;
        mates = grown_left.mates;
        hidden = r.hidden;
        count = r.count;
        instances = λ i p q e f.
            instance_kept b s t r s.world u grown_left new (old_t ∷ t.below) i p q e (r.instances i p q e f);
        top = top_new;
        below = (
          caller,
          below_kept b s t r s.world u grown_left new (old_t ∷ t.below) s.below t.below (λ z k. k) (λ z k. k) r.below,
        );
        once = once_new;
        cells = (cells_new, r.cells);
        ahead = (
          ahead_new,
          (caller_ahead, all_ahead_kept b s t r s.world u grown_left s.below t.below (λ z k. k) r.ahead.1),
        );
        outcome = r.outcome;
      }
