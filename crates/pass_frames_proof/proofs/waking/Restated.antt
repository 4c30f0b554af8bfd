-- What is related in a state is so in another one that has the same memory and instances.
use Rattle.std.proofs.Common.{◌∷◌, [], Bool, List, false, true, ℕ}
use Rattle.pass_frames_steps.specs.ir_paths.declared.point.Point.{Point}
use Rattle.pass_frames_steps.specs.Related.{AreActivations, AreBelow, AreInstances, Building, HasValues, IsStatus, below_place, is_coroutine}
use Rattle.pass_frames_steps.specs.run_framed.Framed.{frame_rights}
use Rattle.pass_frames_steps.specs.run_laws.memory.Pointers.{Home}
use Rattle.pass_frames_steps.specs.run_memory.Memory.{Rights}
use Rattle.pass_frames_steps.specs.run_source.declared.state.Activation.{Activation}
use Rattle.pass_frames_steps.specs.run_source.declared.state.Instance.{Instance}
use Rattle.pass_frames_steps.specs.run_source.declared.state.State.{State}
use Rattle.pass_frames_steps.specs.run_source.declared.state.Status.{Status}

module _ (b : Building) (homes : List Home) (hides : ℕ → Bool) (t : State) (top : Activation) (below : List Activation)
  where
    abbrev t' : State
    t' = record t { top = top; below = below }

    status_same : (x y : Instance) (q u : Status) → IsStatus b homes t x y q u → IsStatus b homes t' x y q u
    status_same x y Status.Running u h = h
    status_same x y Status.Finished u h = h
    status_same x y (Status.Suspended p env) u h = h

    pub instance_same : (x y : Instance) → AreInstances b homes t x y → AreInstances b homes t' x y
    instance_same x y h = record {
      coroutine = h.coroutine;
      is_coroutine = h.is_coroutine;
      block = h.block;
      start = h.start;
      status = status_same x y x.status y.status h.status;
      last_save = h.last_save;
      released = h.released;
      freed = h.freed;
      slots = h.slots;
      no_slots = h.no_slots;
    }

    values_same : (rights : Rights) (a c : Activation) (f : Bool) → HasValues b homes rights t a c f
        → HasValues b homes rights t' a c f
    values_same rights a c true h = record { names = h.names; cells = h.cells; made = h.made }
    values_same rights a c false h = h

    pub activation_same : (at : Activation → Point) (a c : Activation) → AreActivations b homes hides t at a c
        → AreActivations b homes hides t' at a c
    activation_same at a c h = record {
      func = h.func;
      place = h.place;
      result = h.result;
      mode = h.mode;
      instance = h.instance;
      has_left = h.has_left;
      values = values_same (frame_rights b.given t.instances) a c (is_coroutine b a.func) h.values;
      slots = h.slots;
    }

    pub below_same : (ps qs : List Activation) → AreBelow b homes hides t ps qs → AreBelow b homes hides t' ps qs
    below_same [] [] h = tt
    below_same [] (q ∷ qs) h = absurd h
    below_same (p ∷ ps) [] h = absurd h
    below_same (p ∷ ps) (q ∷ qs) h = (activation_same (below_place b) p q h.0, below_same ps qs h.1)
