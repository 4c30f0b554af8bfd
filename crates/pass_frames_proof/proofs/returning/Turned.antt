-- An activation that stands at another place, or differs in nothing but what no value depends on, is related as it was.
use Rattle.std.proofs.Common.{◌≡◌, ℕ, Bool, true, false, List, ap, refl}
use Rattle.std.specs.Prelude.{None, Option, Some, ◌&&◌}
use Rattle.pass_frames_steps.specs.ir_model.Ty.{Ty, int, ptr}
use Rattle.pass_frames_steps.specs.ir_paths.declared.point.Point.{Point}
use Rattle.pass_frames_steps.proofs.stepping.After.{cell_turned, cells_turned, wheres_turned}
use Rattle.pass_frames_steps.specs.Places.{Framing, offsets}
use Rattle.pass_frames_steps.specs.Related.{Anything, AreActivations, AreAhead, AreCoroutines, AreMade, AreCellsThere, AreWheresThere, Building, HasCells, HasValues, IsAhead, IsSlotBy, instance_in, is_coroutine, returned_from}
use Rattle.pass_frames_steps.specs.pass_proofs.addresses.rules.Addresses.{lies_in_frame}
use Rattle.pass_frames_steps.specs.run_framed.Framed.{frame_rights}
use Rattle.pass_frames_steps.specs.run_laws.memory.Pointers.{Home}
use Rattle.pass_frames_steps.specs.run_memory.Memory.{Rights}
use Rattle.pass_frames_steps.specs.run_memory.declared.block.MemoryBlock.{MemoryBlock}
use Rattle.pass_frames_steps.specs.run_source.declared.state.Activation.{Activation}
use Rattle.pass_frames_steps.specs.run_source.declared.state.Instance.{Instance}
use Rattle.pass_frames_steps.specs.run_source.declared.state.Mode.{Mode}
use Rattle.pass_frames_steps.specs.run_source.declared.state.State.{State}
use Rattle.pass_frames_steps.specs.run_step.Values.{Env, value_in}
use Rattle.pass_frames_steps.specs.run_step.declared.world.Slot.{Slot}

-- the activation at a place
abbrev pub placed_at : Activation → Point → Activation
placed_at c p = record c { block = p.block; at = p.at }

module _ (x : Framing) (homes : List Home) (rights : Rights) (m : List MemoryBlock) (a c d : Activation)
    (slots : d.slots ≡ c.slots) (values : d.values ≡ c.values) where
  value_same : (v : ℕ) → value_in d.values v ≡ value_in c.values v
  value_same v = ap (λ (e : Env). value_in e v) values

  there_turned : AreCellsThere x rights m c → AreCellsThere x rights m d
  there_turned h = record {
    values = λ v k kept. cell_turned rights m c d k.cell k.ty Anything slots (value_same k.cell) (h.values v k kept);
    distances = λ v cell e.
        cell_turned rights m c d cell (int 64) Anything slots (value_same cell) (h.distances v cell e);
  }

  wheres_there_turned : AreWheresThere x rights m c → AreWheresThere x rights m d
  wheres_there_turned h = record {
    each = λ s e. cell_turned rights m c d s.cell ptr Anything slots (value_same s.cell) (h.each s e);
  }

  pub made_turned : (mode : Mode) → AreMade x rights m c mode → AreMade x rights m d mode
  made_turned Mode.Plain h = (there_turned h.0, wheres_there_turned h.1)
  made_turned Mode.Ramp h = (there_turned h.0, wheres_there_turned h.1)
  made_turned (Mode.GivenRamp frame) h = (there_turned h.0, wheres_there_turned h.1)
  made_turned Mode.Resumed h = (there_turned h.0, wheres_there_turned h.1)
  made_turned (Mode.Entering from label) h = tt

  pub has_turned : (own : Option Instance) (from : Option ℕ) → HasCells x homes rights m own a c from
      → HasCells x homes rights m own a d from
  has_turned own None h = (
    cells_turned rights m c d x homes a.values slots values h.0,
    wheres_turned rights m c d x own slots (λ s listed. (value_same s.cell, value_same s.temporary)) h.1,
  )
  has_turned None (Some suspend) h = absurd h
  has_turned (Some y) (Some suspend) h = h

pub coroutines_turned : (x : Framing) (homes : List Home) (rights : Rights) (t : State) (a c : Activation) (p : Point)
    → AreCoroutines x homes rights t a c → AreCoroutines x homes rights t a (placed_at c p)
coroutines_turned x homes rights t a c p h = record {
  names = record { each = h.names.each; room = h.names.room };
  cells = has_turned x homes rights t.world.memory a c (placed_at c p) refl refl (instance_in t.instances c.instance)
      (returned_from x a a.mode) h.cells;
  made = made_turned x homes rights t.world.memory a c (placed_at c p) refl refl a.mode h.made;
}

values_turned : (b : Building) (homes : List Home) (rights : Rights) (t : State) (a c : Activation) (p : Point)
    (k : Bool) → HasValues b homes rights t a c k → HasValues b homes rights t a (placed_at c p) k
values_turned b homes rights t a c p true h = coroutines_turned (b.framing a.func) homes rights t a c p h
values_turned b homes rights t a c p false h = record { each = h.each; room = h.room }

slot_turned : (b : Building) (homes : List Home) (hides : ℕ → Bool) (a c : Activation) (p : Point) (slot : Slot)
    (f : Bool) → IsSlotBy b homes hides a c slot f → IsSlotBy b homes hides a (placed_at c p) slot f
slot_turned b homes hides a c p slot true h = h
slot_turned b homes hides a c p slot false h = record { block = h.block; home = h.home; own = h.own }

pub activation_turned : (b : Building) (homes : List Home) (hides : ℕ → Bool) (t : State)
    (at to : Activation → Point) (a c : Activation) → AreActivations b homes hides t at a c
    → AreActivations b homes hides t to a (placed_at c (to a))
activation_turned b homes hides t at to a c h = record {
  func = h.func;
  place = refl;
  result = h.result;
  mode = h.mode;
  instance = h.instance;
  has_left = h.has_left;
  values = values_turned b homes (frame_rights b.given t.instances) t a c (to a) (is_coroutine b a.func) h.values;
  slots = λ slot e.
      slot_turned b homes hides a c (to a) slot
      (is_coroutine b a.func && lies_in_frame (offsets (b.framing a.func)) slot.alloca) (h.slots slot e);
}

pub one_ahead_turned : (x : Framing) (homes : List Home) (hides : ℕ → Bool) (m k : List MemoryBlock) (c : Activation)
    (p : Point) (v align : ℕ) (ty : Ty) → IsAhead x homes hides m k c v ty align
    → IsAhead x homes hides m k (placed_at c p) v ty align
one_ahead_turned x homes hides m k c p v align ty h = record {
  block = h.block;
  address = h.address;
  own = h.own;
  free = h.free;
  bytes = h.bytes;
  sized = h.sized;
  there = h.there;
}

pub ahead_turned : (x : Framing) (homes : List Home) (hides : ℕ → Bool) (m k : List MemoryBlock) (a c : Activation)
    (p : Point) → AreAhead x homes hides m k a c → AreAhead x homes hides m k a (placed_at c p)
ahead_turned x homes hides m k a c p h = record {
  slots = λ at v align ty e le outside.
      one_ahead_turned x homes hides m k c p v align ty (h.slots at v align ty e le outside);
  temporaries = λ s at align ty listed e le.
      one_ahead_turned x homes hides m k c p s.temporary s.align s.ty (h.temporaries s at align ty listed e le);
}
