-- The topmost activations go on, each in its block or into another one, and the others wait.
use Rattle.std.proofs.Common.{◌≡◌, ℕ, ◌≤◌, Bool, false, List, [], ◌∷◌, length, Option, Some, refl, sym, ap, ◌∙◌, arith}
use Rattle.std.specs.Prelude.{slice_get}
use Rattle.std.proofs.lemmas.Bool.{false≢true}
use Rattle.pass_proofs.specs.ir_model.Names.{function_at}
use Rattle.pass_proofs.specs.ir_model.declared.module.Module.{Module}
use Rattle.pass_split_proof.proofs.states.Values.{values_on}
use Rattle.pass_split_proof.specs.states.Activations.{AreAllWaiting, HasFrame, IsBeside, IsPlaced, is_entering}
use Rattle.pass_split_proof.specs.states.Going.{goes_to, moved_to, placed_at, stands_at}
use Rattle.pass_split_proof.specs.states.Instances.{AreFrames}
use Rattle.pass_split_proof.specs.states.Memories.{AreWorldsBeside, homes_of}
use Rattle.pass_split_proof.specs.states.Related.{AreRelated}
use Rattle.pass_split_proof.specs.states.Values.{AreValuesOf}
use Rattle.pass_proofs.specs.run_framed.Framed.{FramedGiven}
use Rattle.pass_proofs.specs.run_laws.memory.Pointers.{Extends, Home}
use Rattle.run_access_worked.specs.run_plain.Plain.{PlainGiven}
use Rattle.run_access_worked.specs.run_plain.declared.state.PlainActivation.{PlainActivation}
use Rattle.run_access_worked.specs.run_plain.declared.state.PlainState.{PlainState}
use Rattle.pass_proofs.specs.run_memory.declared.pointer.Value.{Value}
use Rattle.pass_proofs.specs.run_source.State.{frame_address_of}
use Rattle.pass_proofs.specs.run_source.declared.state.Activation.{Activation}
use Rattle.pass_proofs.specs.run_source.declared.state.Instance.{Instance}
use Rattle.pass_proofs.specs.run_source.declared.state.State.{State}
use Rattle.pass_proofs.specs.run_step.Step.{Work}
use Rattle.pass_proofs.specs.run_step.Values.{value_in}

-- ---- more blocks, and other instances

-- each instance has its frame where it had it
pub record KeepsFrames (xs ys : List Instance) : Type 0 where
  pub each : (i : ℕ) (x : Instance) → slice_get xs i ≡ Some x → (y : Instance) × (slice_get ys i ≡ Some y
      × (y.coroutine ≡ x.coroutine) × (frame_address_of y ≡ frame_address_of x))

pub frame_on : (xs ys : List Instance) (func i : ℕ) (v u : Value) → KeepsFrames xs ys → u ≡ v → HasFrame xs func v i
    → HasFrame ys func u i
frame_on xs ys func i v u keeps same h =
    let y = keeps.each i h.instance h.there in
    record { instance = y.0; there = y.1.0; coroutine = y.1.1 ∙ h.coroutine; is = same ∙ h.is ∙ sym y.1.2 }

module _ (g : FramedGiven) (h : Module) (xs ys : List Instance) (homes more : List Home) (ext : Extends homes more)
    (keeps : KeepsFrames xs ys) where
  abbrev pub beside_on : (a : Activation) (b : PlainActivation) → IsBeside g h xs homes a b → IsBeside g h ys more a b
  beside_on a b x = record {
    shape = x.shape;
    part = x.part;
    coded = x.coded;
    shaped = x.shaped;
    runs = x.runs;
    func = x.func;
    place = x.place;
    values = values_on (function_at g.given.code a.func) homes more a.values b.values ext x.values;
    whole = x.whole;
    room = x.room;
    frame = λ i own. frame_on xs ys a.func i _ _ keeps refl (x.frame i own);
    result = x.result;
    slots = x.slots;
    own = x.own;
  }

  pub all_beside_on : (result : Option ℕ) (rest : List Activation) (bs : List PlainActivation)
      → AreAllWaiting g h xs homes result rest bs → AreAllWaiting g h ys more result rest bs
  all_beside_on result [] [] x = x
  all_beside_on result [] (b ∷ bs) x = x
  all_beside_on result (a ∷ rest) [] x = x
  all_beside_on result (a ∷ rest) (b ∷ bs) x
      = (
        record { beside = beside_on a b x.0.beside; behind = x.0.behind; settled = x.0.settled; others = x.0.others },
        all_beside_on a.result rest bs x.1,
      )

pub same_frames : (xs : List Instance) → KeepsFrames xs xs
same_frames xs = record { each = λ i x e. (x, (e, refl, refl)) }

-- ---- the topmost activation

module _ (g : FramedGiven) (h : PlainGiven) (s : State) (t : PlainState) (r : AreRelated g h s t) (v y : Work)
    (ys : List Instance) (block at piece offset : ℕ) (left : Bool) where
  pub advanced : is_entering s.top.mode ≡ false → AreWorldsBeside g ys v.world y.world
      → AreFrames g ys v.world.memory y.world.memory → KeepsFrames s.instances ys
      → length s.world.memory ≤ length v.world.memory
      → Extends (homes_of s.world.memory) (homes_of v.world.memory)
      → AreValuesOf (function_at g.given.code s.top.func) (homes_of v.world.memory) v.values y.values
      → length v.values ≡ length s.top.values → length y.values ≡ length t.top.values
      → value_in y.values r.top.shape.begin ≡ value_in t.top.values r.top.shape.begin
      → IsPlaced r.top.shape r.top.part (function_at g.given.code s.top.func) (function_at h.code t.top.func)
      (moved_to s.top block at v.values left) (placed_at t.top piece offset y.values) s.top.mode
      → AreRelated g h (goes_to s v.world ys block at v.values left) (stands_at t piece offset y)
  advanced mode world frames keeps long ext values whole room begin place = record {
    outcome = r.outcome;
    globals = chain (length g.given.code.globals) (length s.world.memory) (length v.world.memory) r.globals long;
    world = world;
    frames = frames;
    top = record {
      shape = r.top.shape;
      part = r.top.part;
      coded = r.top.coded;
      shaped = r.top.shaped;
      runs = r.top.runs;
      func = r.top.func;
      place = place;
      values = values;
      whole = whole ∙ r.top.whole;
      room = room ∙ r.top.room;
      frame = λ i own. frame_on s.instances ys s.top.func i _ _ keeps begin (r.top.frame i own);
      result = r.top.result;
      slots = r.top.slots;
      own = r.top.own;
    };
    below = all_beside_on g h.code s.instances ys (homes_of s.world.memory) (homes_of v.world.memory) ext keeps
        s.top.result s.below t.below r.below;
    making = λ from label e. absurd (false≢true (sym mode ∙ ap is_entering e));
  }
    where
      chain : (a b c : ℕ) → a ≤ b → b ≤ c → a ≤ c
      chain a b c p q = omega arith
