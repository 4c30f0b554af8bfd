-- The hooks of a run that makes slots anew leave activations before begin.
use Rattle.std.proofs.Common.{◌≡◌, ℕ, Bool, true, false, List, [], ◌∷◌, Option, Some, None, refl, sym, ap, ◌∙◌, subst}
use Rattle.std.proofs.Common.{if◌then◌else◌}
use Rattle.std.specs.Prelude.{is_none, not, ◌&&◌}
use Rattle.pass_frames_proof.specs.ir_model.declared.instr.Instr.{Instr}
use Rattle.pass_frames_proof.specs.ir_model.declared.operand.Callee.{Callee}
use Rattle.pass_frames_proof.specs.ir_model.declared.operand.Intrinsic.{Intrinsic}
use Rattle.pass_frames_meaning.specs.Called.{FitsMode}
use Rattle.pass_frames_meaning.specs.Led.{IsBegin}
use Rattle.pass_frames_meaning.specs.Unbegun.{IsSameSpot, KeepsUnbegun}
use Rattle.pass_frames_proof.specs.pass_renewed_proof.Renewed.{RenewedGiven, is_idle, renewed_slot, with_life}
use Rattle.pass_renewed_meaning.proofs.run_hooks.Keeping.{renewed_keeps}
use Rattle.pass_renewed_meaning.proofs.run_hooks.LeftKeeping.{renewed_keeps_last}
use Rattle.pass_renewed_meaning.specs.run_hooks.Meanings.{renewed_hooks}
use Rattle.pass_frames_proof.specs.run_memory.Memory.{killed, start}
use Rattle.pass_frames_proof.specs.run_source.Source.{is_among, is_over, kill_late, new_slot, with_new_slots}
use Rattle.pass_frames_proof.specs.run_source.State.{own_facts, own_instance, with_memory}
use Rattle.pass_frames_proof.specs.run_source.declared.state.Instance.{Instance}
use Rattle.pass_frames_proof.specs.run_source.declared.state.Mode.{Mode}
use Rattle.pass_frames_proof.specs.run_source.declared.state.State.{State}
use Rattle.pass_frames_proof.specs.run_source_tables.Given.{Given}
use Rattle.pass_frames_proof.specs.run_step.Step.{AtInstr}
use Rattle.pass_frames_proof.specs.run_step.declared.world.Slot.{Slot}

new_slot_there : (g : Given) (s : State) (slot : Slot) → s.top.instance ≡ None → IsSameSpot s (new_slot g s slot)
new_slot_there g s slot none = by (own_instance s)
  where
    ramp : List ℕ
    ramp = (own_facts g s).ramp_slots

    by : (o : Option (ℕ × Instance)) → IsSameSpot s (with_new_slots ramp o (kill_late ramp o s slot) (slot ∷ []))
    by None = record { func = refl; block = refl; at = refl }
    by (Some p) = on (is_over p.1 && not (is_among ramp slot))
      where
        on : (b : Bool) → IsSameSpot s (with_new_slots ramp (Some p)
            (if b then with_memory s (killed s.world.memory slot.block) else s) (slot ∷ []))
        on true = record { func = refl; block = refl; at = refl }
        on false = record { func = refl; block = refl; at = refl }

life_there : (g : RenewedGiven) (s : State) (slot : Slot) → (with_life g s slot).top ≡ s.top
life_there g s slot = on (g.flags s.top.func slot.alloca)
  where
    on : (b : Bool) → (if b then with_memory s (start s.world.memory slot.block) else s).top ≡ s.top
    on true = refl
    on false = refl

slot_there : (g : RenewedGiven) (s : State) (slot : Slot) (mode : Mode) → s.top.instance ≡ None
    → FitsMode s.top.instance mode → IsSameSpot s (renewed_slot g s slot mode)
slot_there g s slot (Mode.Entering from label) none fits =
    let both : true ≡ false = ap is_none (sym none) ∙ fits in absurd (cc)
slot_there g s slot Mode.Plain none fits = new_slot_there g.given s slot none
slot_there g s slot Mode.Ramp none fits = new_slot_there g.given s slot none
slot_there g s slot Mode.Resumed none fits = new_slot_there g.given s slot none
slot_there g s slot (Mode.GivenRamp frame) none fits = absurd fits

same_spot : (s t u : State) → t.top ≡ s.top → IsSameSpot t u → IsSameSpot s u
same_spot s t u e p = record {
  func = p.func ∙ (λ i. (e i).func);
  block = p.block ∙ (λ i. (e i).block);
  at = p.at ∙ (λ i. (e i).at);
}

-- a marker is no begin
marks : (flags : ℕ → Bool) (i : Instr) → is_idle flags (AtInstr i) ≡ true → IsBegin i → ⊥
marks flags (Instr.Call result must_tail ty (Callee.Intrinsic Intrinsic.CoroBegin) args) e b = absurd (cc)
marks flags _ e b = b

pub renewed_keeps_unbegun : (g : RenewedGiven) → KeepsUnbegun (renewed_hooks g)
renewed_keeps_unbegun g = record {
  last = renewed_keeps_last g;
  reached = renewed_keeps g;
  place = λ s slot none fits.
      same_spot s (with_life g s slot) (renewed_slot g (with_life g s slot) slot s.top.mode) (life_there g s slot)
      (slot_there g (with_life g s slot) slot s.top.mode (ap (λ a. a.instance) (life_there g s slot) ∙ none)
      (subst (λ (o : Option ℕ). FitsMode o s.top.mode) (sym (ap (λ a. a.instance) (life_there g s slot))) fits));
  marker = λ s i e b. marks (g.flags s.top.func) i e b;
  ungiven = λ s block at. refl;
}
