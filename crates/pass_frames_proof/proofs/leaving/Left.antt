-- The activation on top has left or goes on again in both runs: the relation holds still.
use Rattle.std.proofs.Common.{◌≡◌, ◌&&◌, ◌∙◌, if◌then◌else◌, Bool, List, None, Option, Some, false, refl, subst, sym, true, ℕ}
use Rattle.pass_frames_steps.specs.ir_model.Ty.{Ty}
use Rattle.pass_frames_proof.proofs.returning.Turned.{has_turned, made_turned}
use Rattle.pass_frames_proof.proofs.waking.Restated.{activation_same, below_same, instance_same}
use Rattle.pass_frames_steps.specs.Places.{Framing, offsets}
use Rattle.pass_frames_steps.specs.Related.{AreActivations, AreAhead, AreBuiltOf, AreCoroutines, Building, HasCells, HasValues, IsAhead, IsAsked, IsSlotBy, instance_in, is_coroutine, place_by, point_of, returned_from, top_place}
use Rattle.pass_frames_steps.specs.pass_proofs.addresses.rules.Addresses.{lies_in_frame}
use Rattle.pass_frames_steps.specs.run_framed.Framed.{frame_rights}
use Rattle.pass_frames_steps.specs.run_laws.memory.Pointers.{Home}
use Rattle.pass_frames_steps.specs.run_memory.Memory.{Rights}
use Rattle.pass_frames_steps.specs.run_memory.declared.block.MemoryBlock.{MemoryBlock}
use Rattle.pass_frames_steps.specs.run_source.declared.state.Activation.{Activation}
use Rattle.pass_frames_steps.specs.run_source.declared.state.Instance.{Instance}
use Rattle.pass_frames_steps.specs.run_source.declared.state.Mode.{Mode}
use Rattle.pass_frames_steps.specs.run_source.declared.state.State.{State}
use Rattle.pass_frames_steps.specs.run_step.declared.world.Slot.{Slot}

abbrev pub left_by : Bool → Activation → Activation
left_by f a = record a { has_left = f }

-- ---- what doesn't depend on it

module _ (x : Framing) (f : Bool) (a : Activation) where
  place_left : (mode : Mode) → place_by x (left_by f a) mode ≡ place_by x a mode
  place_left Mode.Plain = refl
  place_left Mode.Ramp = refl
  place_left (Mode.GivenRamp frame) = refl
  place_left Mode.Resumed = refl
  place_left (Mode.Entering from label) = refl

  asked_left : (mode : Mode) (v : ℕ) → IsAsked x (left_by f a) mode v → IsAsked x a mode v
  asked_left Mode.Plain v h = h
  asked_left Mode.Ramp v h = h
  asked_left (Mode.GivenRamp frame) v h = h
  asked_left Mode.Resumed v h = h
  asked_left (Mode.Entering from label) v h = h

  returned_left : (mode : Mode) → returned_from x (left_by f a) mode ≡ returned_from x a mode
  returned_left Mode.Plain = refl
  returned_left Mode.Ramp = refl
  returned_left (Mode.GivenRamp frame) = refl
  returned_left Mode.Resumed = refl
  returned_left (Mode.Entering from label) = refl

  has_left_too : (homes : List Home) (rights : Rights) (m : List MemoryBlock) (own : Option Instance)
      (c : Activation) (from : Option ℕ) → HasCells x homes rights m own a c from
      → HasCells x homes rights m own (left_by f a) c from
  has_left_too homes rights m own c None h = h
  has_left_too homes rights m None c (Some suspend) h = absurd h
  has_left_too homes rights m (Some y) c (Some suspend) h = h

coroutines_left : (x : Framing) (homes : List Home) (rights : Rights) (t : State) (f : Bool) (a c : Activation)
    → AreCoroutines x homes rights t a c → AreCoroutines x homes rights t (left_by f a) (left_by f c)
coroutines_left x homes rights t f a c h = record {
  names = record { each = λ v asks. h.names.each v (asked_left x f a a.mode v asks); room = h.names.room };
  cells =
      subst (λ (o : Option ℕ). HasCells x homes rights t.world.memory (instance_in t.instances c.instance) (left_by f a)
      (left_by f c) o) (sym (returned_left x f a a.mode))
      (has_turned x homes rights t.world.memory (left_by f a) c (left_by f c) refl refl
      (instance_in t.instances c.instance) (returned_from x a a.mode)
      (has_left_too x f a homes rights t.world.memory (instance_in t.instances c.instance) c (returned_from x a a.mode)
      h.cells));
  made = made_turned x homes rights t.world.memory a c (left_by f c) refl refl a.mode h.made;
}

-- ---- the activation on top

module _ (b : Building) (homes : List Home) (hides : ℕ → Bool) (t : State) (f : Bool) (a c : Activation) where
  values_left : (k : Bool) → HasValues b homes (frame_rights b.given t.instances) t a c k
      → HasValues b homes (frame_rights b.given t.instances) t (left_by f a) (left_by f c) k
  values_left true h =
      coroutines_left (b.framing a.func) homes (frame_rights b.given t.instances) t f a c h
  values_left false h = record { each = h.each; room = h.room }

  slot_left : (slot : Slot) (k : Bool) → IsSlotBy b homes hides a c slot k
      → IsSlotBy b homes hides (left_by f a) (left_by f c) slot k
  slot_left slot true h = h
  slot_left slot false h = record { block = h.block; home = h.home; own = h.own }

  top_left : (k : Bool) → (if k then place_by (b.framing a.func) a a.mode else point_of a)
      ≡ (if k then place_by (b.framing a.func) (left_by f a) a.mode else point_of a)
  top_left true = sym (place_left (b.framing a.func) f a a.mode)
  top_left false = refl

  activation_left : AreActivations b homes hides t (top_place b) a c
      → AreActivations b homes hides t (top_place b) (left_by f a) (left_by f c)
  activation_left h = record {
    func = h.func;
    place = h.place ∙ top_left (is_coroutine b a.func);
    result = h.result;
    mode = h.mode;
    instance = h.instance;
    has_left = refl;
    values = values_left (is_coroutine b a.func) h.values;
    slots = λ slot e.
        slot_left slot (is_coroutine b a.func && lies_in_frame (offsets (b.framing a.func)) slot.alloca)
        (h.slots slot e);
  }

  one_left : (x : Framing) (m k : List MemoryBlock) (v align : ℕ) (ty : Ty) → IsAhead x homes hides m k c v ty align
      → IsAhead x homes hides m k (left_by f c) v ty align
  one_left x m k v align ty h = record {
    block = h.block;
    address = h.address;
    own = h.own;
    free = h.free;
    bytes = h.bytes;
    sized = h.sized;
    there = h.there;
  }

  ahead_left : (x : Framing) (m k : List MemoryBlock) → AreAhead x homes hides m k a c
      → AreAhead x homes hides m k (left_by f a) (left_by f c)
  ahead_left x m k h = record {
    slots = λ at v align ty e le outside. one_left x m k v align ty (h.slots at v align ty e le outside);
    temporaries = λ s at align ty listed e le.
        one_left x m k s.temporary s.align s.ty (h.temporaries s at align ty listed e le);
  }

-- ---- the states

pub related_left : (b : Building) (s t : State) (f : Bool) → AreBuiltOf b s t
    → AreBuiltOf b (record s { top = left_by f s.top }) (record t { top = left_by f t.top })
related_left b s t f r = record {
  homes = r.homes;
  hides = r.hides;
  world = r.world;
  known = r.known;
  globals = r.globals;
  mates = r.mates;
  hidden = r.hidden;
  count = r.count;
  instances = λ i x y e d.
      instance_same b r.homes r.hides t (left_by f t.top) t.below x y (r.instances i x y e d);
  top =
      activation_same b r.homes r.hides t (left_by f t.top) t.below (top_place b) (left_by f s.top) (left_by f t.top)
      (activation_left b r.homes r.hides t f s.top t.top r.top);
  below = below_same b r.homes r.hides t (left_by f t.top) t.below s.below t.below r.below;
  once = r.once;
  cells = (r.cells.0, r.cells.1);
  ahead = (
    (λ is first block.
        ahead_left b r.homes r.hides t f s.top t.top (b.framing s.top.func) s.world.memory t.world.memory
        (r.ahead.0 is first block)),
    r.ahead.1,
  );
  outcome = r.outcome;
}
