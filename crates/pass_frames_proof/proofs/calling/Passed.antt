-- The caller of a function, or of a coroutine that is woken: both runs go on behind the call.
use Rattle.std.proofs.Common.{◌≡◌, ℕ, ◌+◌, Bool, true, false, List, refl, sym, subst, arith}
use Rattle.std.specs.Prelude.{Option, ◌&&◌}
use Rattle.pass_frames_steps.specs.ir_paths.declared.point.Point.{Point}
use Rattle.pass_frames_proof.proofs.returning.Turned.{activation_turned, ahead_turned, placed_at}
use Rattle.pass_frames_steps.proofs.stepping.Fetch.{not_returned}
use Rattle.pass_frames_steps.proofs.stepping.Operands.{asked}
use Rattle.pass_frames_steps.specs.Places.{Framing, is_return, offsets}
use Rattle.pass_frames_steps.specs.Related.{AreActivations, AreAhead, AreCoroutines, Building, HasCells, HasValues, IsSlotBy, below_place, instance_in, is_coroutine, point_of}
use Rattle.pass_frames_steps.specs.Stepping.{IsNotEntering}
use Rattle.pass_frames_steps.specs.pass_proofs.addresses.rules.Addresses.{lies_in_frame}
use Rattle.pass_frames_steps.specs.run_framed.Framed.{frame_rights}
use Rattle.pass_frames_steps.specs.run_laws.memory.Pointers.{Home}
use Rattle.pass_frames_steps.specs.run_memory.Memory.{Rights}
use Rattle.pass_frames_steps.specs.run_memory.declared.block.MemoryBlock.{MemoryBlock}
use Rattle.pass_frames_steps.specs.run_source.declared.state.Activation.{Activation}
use Rattle.pass_frames_steps.specs.run_source.declared.state.State.{State}
use Rattle.pass_frames_steps.specs.run_step.declared.world.Slot.{Slot}

-- an activation that has gone on to the next instruction
abbrev pub passed_on : Activation → Activation
passed_on a = record a { at = a.at + 1 }

source_passed : (x : Framing) (homes : List Home) (rights : Rights) (t : State) (a c : Activation)
    → IsNotEntering a.mode → is_return x a.block ≡ false → AreCoroutines x homes rights t a c
    → AreCoroutines x homes rights t (passed_on a) c
source_passed x homes rights t a c mode unreturned h = record {
  names = record { each = λ v asks. h.names.each v (asked x a a.mode v mode); room = h.names.room };
  cells = subst (λ (o : Option ℕ).
      HasCells x homes rights t.world.memory (instance_in t.instances c.instance) (passed_on a) c o)
      (sym (not_returned x (passed_on a) a.mode mode unreturned))
      (subst (λ (o : Option ℕ). HasCells x homes rights t.world.memory (instance_in t.instances c.instance) a c o)
      (not_returned x a a.mode mode unreturned) h.cells);
  made = h.made;
}

module _ (b : Building) (homes : List Home) (hides : ℕ → Bool) (t : State) (a c : Activation)
    (calm : is_coroutine b a.func ≡ true
    → IsNotEntering a.mode × (is_return (b.framing a.func) a.block ≡ false)) where
  values_passed : (k : Bool) → is_coroutine b a.func ≡ k
      → HasValues b homes (frame_rights b.given t.instances) t a c k
      → HasValues b homes (frame_rights b.given t.instances) t (passed_on a) c k
  values_passed true is h =
      source_passed (b.framing a.func) homes (frame_rights b.given t.instances) t a c (calm is).0 (calm is).1 h
  values_passed false is h = record { each = h.each; room = h.room }

  slot_passed : (slot : Slot) (f : Bool) → IsSlotBy b homes hides a c slot f
      → IsSlotBy b homes hides (passed_on a) c slot f
  slot_passed slot true h = h
  slot_passed slot false h = record { block = h.block; home = h.home; own = h.own }

  -- it stands right behind its call
  pub caller_passed : (at : Activation → Point) → AreActivations b homes hides t at a c
      → AreActivations b homes hides t (below_place b) (passed_on a) (placed_at c (below_place b (passed_on a)))
  caller_passed at h =
      activation_turned b homes hides t (λ e. point_of c) (below_place b) (passed_on a) c (record {
        func = h.func;
        place = refl;
        result = h.result;
        mode = h.mode;
        instance = h.instance;
        has_left = h.has_left;
        values = values_passed (is_coroutine b a.func) refl h.values;
        slots = λ slot e.
            slot_passed slot (is_coroutine b a.func && lies_in_frame (offsets (b.framing a.func)) slot.alloca)
            (h.slots slot e);
      })

-- and fewer allocas are ahead
pub ahead_passed : (x : Framing) (homes : List Home) (hides : ℕ → Bool) (m k : List MemoryBlock) (a c : Activation)
    (p : Point) → AreAhead x homes hides m k a c → AreAhead x homes hides m k (passed_on a) (placed_at c p)
ahead_passed x homes hides m k a c p h =
    ahead_turned x homes hides m k (passed_on a) c p (record {
      slots = λ at v align ty e le outside. h.slots at v align ty e (omega (arith, le)) outside;
      temporaries = λ s at align ty listed e le. h.temporaries s at align ty listed e (omega (arith, le));
    })
