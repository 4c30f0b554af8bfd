-- A called activation and its instance, where an alloca makes a slot, and where it begins.
use Rattle.std.proofs.Common.{◌≡◌, ℕ, ◌+◌, Bool, true, false, List, [], ◌∷◌, ◌++◌, length, Option, Some, None}
use Rattle.std.proofs.Common.{refl, sym, ◌∙◌, subst}
use Rattle.std.specs.Prelude.{filter, if◌then◌else◌, not, slice_get, ◌&&◌}
use Rattle.pass_frames_proof.specs.ir_model.Ty.{Ty}
use Rattle.pass_frames_proof.specs.ir_model.declared.instr.Instr.{Instr}
use Rattle.pass_frames_proof.specs.ir_model.declared.module.Function.{Function}
use Rattle.pass_frames_meaning.proofs.once.Lists.{begun_some, next_made, placed_some}
use Rattle.pass_frames_meaning.specs.Executed.{IsFirstMode}
use Rattle.pass_frames_meaning.specs.Once.{AreMadeOnce, IsOnceAt}
use Rattle.pass_frames_proof.specs.pass_renewed_proof.Renewed.{RenewedGiven, renewed_slot, with_life}
use Rattle.pass_frames_proof.specs.pass_renewed_proof.SlotRules.{IsMadeOnce}
use Rattle.pass_renewed_meaning.proofs.run_hooks.alive.Parts.{Here, IsSet, Other, get_set}
use Rattle.pass_renewed_meaning.proofs.run_hooks.alive.Places.{own_there}
use Rattle.pass_frames_proof.specs.run_memory.Memory.{killed, start}
use Rattle.pass_frames_proof.specs.run_source.Source.{begun, is_among, is_over, kill_late, new_instance, new_slot, with_new_slots}
use Rattle.pass_frames_proof.specs.run_source.State.{own_facts, own_instance, with_memory}
use Rattle.pass_frames_proof.specs.run_source.declared.state.Instance.{Instance}
use Rattle.pass_frames_proof.specs.run_source.declared.state.Mode.{Mode}
use Rattle.pass_frames_proof.specs.run_source.declared.state.State.{State}
use Rattle.pass_frames_proof.specs.run_source_tables.Given.{Given}
use Rattle.pass_frames_proof.specs.run_step.Step.{AtInstr, fetch}
use Rattle.pass_frames_proof.specs.run_step.declared.world.Slot.{Slot}

module _ (f : Function) (block at : ℕ) where
  -- of the number of an instance
  number_same : (i j : ℕ) (o : Option ℕ) → o ≡ Some i → o ≡ Some j → j ≡ i
  number_same i j o e d = let both : Some j ≡ Some i = sym d ∙ e in cc

  module _ (slot : Slot) (ty : Ty) (align : ℕ)
      (there : fetch f block at ≡ AtInstr (Instr.Alloca slot.alloca ty align)) (made : IsMadeOnce f slot.alloca) where
    with_new_once : (ramp : List ℕ) (s : State) (o : Option (ℕ × Instance))
        → ((i : ℕ) (x : Instance) → o ≡ Some (i, x)
        → (s.top.instance ≡ Some i) × (slice_get s.instances i ≡ Some x)) → IsOnceAt f block at s
        → IsOnceAt f block (at + 1) (with_new_slots ramp o s (slot ∷ []))
    with_new_once ramp s None is h = record {
      own = placed_some f block at (λ z. true) s.top.slots h.own slot ty align there made;
      instance = λ i x e d. next_made f block at x.slots (h.instance i x e d);
    }
    with_new_once ramp s (Some (i, x)) is h = record {
      own = placed_some f block at (is_among ramp) s.top.slots h.own slot ty align there made;
      instance = λ j y e d. by j y (number_same i j s.top.instance (is i x refl).0 e)
          (get_set s.instances i now j y d);
    }
      where
        now : Instance
        now = record x { slots = filter (λ z. not (is_among ramp z)) (slot ∷ []) ++ x.slots }

        old : AreMadeOnce f block at x.slots
        old = h.instance i x (is i x refl).0 (is i x refl).1

        by : (j : ℕ) (y : Instance) → j ≡ i → IsSet s.instances i now j y → AreMadeOnce f block (at + 1) y.slots
        by j y same (Here k e) = subst (λ (z : Instance). AreMadeOnce f block (at + 1) z.slots) (sym e)
            (placed_some f block at (λ z. not (is_among ramp z)) x.slots old slot ty align there made)
        by j y same (Other ne e) = absurd (ne same)

    new_slot_once : (g : Given) (s : State) → IsOnceAt f block at s → IsOnceAt f block (at + 1) (new_slot g s slot)
    new_slot_once g s h = by (own_instance s) (λ i x e. own_there s i x e)
      where
        ramp : List ℕ
        ramp = (own_facts g s).ramp_slots

        by : (o : Option (ℕ × Instance)) → ((i : ℕ) (x : Instance) → o ≡ Some (i, x)
            → (s.top.instance ≡ Some i) × (slice_get s.instances i ≡ Some x))
            → IsOnceAt f block (at + 1) (with_new_slots ramp o (kill_late ramp o s slot) (slot ∷ []))
        by None is = with_new_once ramp s None is h
        by (Some (i, x)) is = on (is_over x && not (is_among ramp slot))
          where
            on : (b : Bool) → IsOnceAt f block (at + 1) (with_new_slots ramp (Some (i, x))
                (if b then with_memory s (killed s.world.memory slot.block) else s) (slot ∷ []))
            on true = with_new_once ramp (with_memory s (killed s.world.memory slot.block)) (Some (i, x)) is
                (record { own = h.own; instance = h.instance })
            on false = with_new_once ramp s (Some (i, x)) is h

    pub place_once : (g : RenewedGiven) (s : State) → IsFirstMode s.top.mode → IsOnceAt f block at s
        → IsOnceAt f block (at + 1) (renewed_slot g (with_life g s slot) slot s.top.mode)
    place_once g s first h = on (g.flags s.top.func slot.alloca)
      where
        by : (mode : Mode) → IsFirstMode mode → (t : State) → IsOnceAt f block at t
            → IsOnceAt f block (at + 1) (renewed_slot g t slot mode)
        by Mode.Plain k t q = new_slot_once g.given t q
        by Mode.Ramp k t q = new_slot_once g.given t q
        by _ k t q = absurd k

        on : (b : Bool) → IsOnceAt f block (at + 1)
            (renewed_slot g (if b then with_memory s (start s.world.memory slot.block) else s) slot s.top.mode)
        on true = by s.top.mode first (with_memory s (start s.world.memory slot.block))
            (record { own = h.own; instance = h.instance })
        on false = by s.top.mode first s h

  -- at begin the slots are parted by their class
  pub begun_once : (g : Given) (s : State) (b from : ℕ) → AreMadeOnce f block at s.top.slots
      → IsOnceAt f block at (begun g s b from)
  begun_once g s b from h = record {
    own = begun_some f block at (is_among (own_facts g s).ramp_slots) s.top.slots h;
    instance = λ j y e d. by j y (number_same (length s.instances) j (Some (length s.instances)) refl e)
        (get_set (s.instances ++ new_instance s.top.func b from ∷ []) (length s.instances) now j y d);
  }
    where
      now : Instance
      now = record (new_instance s.top.func b from) {
        slots = filter (λ z. not (is_among (own_facts g s).ramp_slots z)) s.top.slots ++ [];
      }

      by : (j : ℕ) (y : Instance) → j ≡ length s.instances
          → IsSet (s.instances ++ new_instance s.top.func b from ∷ []) (length s.instances) now j y
          → AreMadeOnce f block at y.slots
      by j y same (Here k e) = subst (λ (z : Instance). AreMadeOnce f block at z.slots) (sym e)
          (begun_some f block at (λ z. not (is_among (own_facts g s).ramp_slots z)) s.top.slots h)
      by j y same (Other ne e) = absurd (ne same)
