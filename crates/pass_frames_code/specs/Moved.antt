-- Behind a step the relation is that of other homes, instances and memories: what is asked of each of them.
use Rattle.std.specs.List.{Contains}
use Rattle.std.specs.Prelude.{◌≡◌, ◌<◌, ◌++◌, Bool, List, None, Option, Some, false, length, map, slice_get, true, ℕ}
use Rattle.pass_proofs.specs.flow_solver.Paths.{IsListed}
use Rattle.pass_proofs.specs.ir_laws.paths.woven_rules.Pairs.{AreDifferent}
use Rattle.pass_proofs.specs.ir_model.Ty.{Ty}
use Rattle.pass_frames_code.specs.Framings.{IsFraming}
use Rattle.pass_frames_code.specs.Places.{Framing}
use Rattle.pass_frames_code.specs.Related.{AreActivations, AreAhead, AreBuiltOf, AreInstances, AreMates, Building, HasFields, IsAhead, IsCellName, IsFreeOf, instance_in, is_coroutine, is_first, returned_from, slots_below, top_place}
use Rattle.pass_proofs.specs.run_framed.Framed.{frame_rights}
use Rattle.pass_proofs.specs.run_laws.access.Lines.{Holds}
use Rattle.pass_proofs.specs.run_laws.embedded.Making.{whole_home}
use Rattle.pass_proofs.specs.run_laws.memory.Pointers.{Extends, Home, home_of}
use Rattle.pass_proofs.specs.run_laws.transfer.Transfer.{AreOver}
use Rattle.pass_proofs.specs.run_memory.Memory.{owner_rights}
use Rattle.pass_proofs.specs.run_memory.declared.block.Byte.{Byte}
use Rattle.pass_proofs.specs.run_source.declared.state.Activation.{Activation}
use Rattle.pass_proofs.specs.run_source.declared.state.Instance.{Instance}
use Rattle.pass_proofs.specs.run_source.declared.state.State.{State}
use Rattle.pass_proofs.specs.run_step.declared.world.Slot.{Slot}
use Rattle.pass_proofs.specs.run_step.declared.world.World.{World}

-- two instances begin at the same place
abbrev pub IsSamePlace : Option Instance → Option Instance → Type 0
IsSamePlace None None = Unit {0}
IsSamePlace None (Some z) = ⊥
IsSamePlace (Some y) None = ⊥
IsSamePlace (Some y) (Some z) = (z.block ≡ y.block) × (z.start ≡ y.start)

-- what becomes of these activations, of the instances and of the memory
pub record MovesRest (b : Building) (s t : State) (r : AreBuiltOf b s t) (ups cs : List Activation) (homes : List Home)
    (hides : ℕ → Bool) (ys : List Instance) (w u : World) : Type 0 where
  pub framings : (func : ℕ) → is_coroutine b func ≡ true → IsFraming (b.framing func)
  -- homes into which pointers may be about stay, and so do those of slots
  pub seen : Extends r.homes homes
  pub slots : (a : Activation) → IsListed a ups → (slot : Slot) → Contains a.slots slot
      → (home_of homes slot.block ≡ home_of r.homes slot.block) × (hides slot.block ≡ r.hides slot.block)
  pub owners : (c : Activation) → IsListed c cs → is_coroutine b c.func ≡ true
      → IsSamePlace (instance_in t.instances c.instance) (instance_in ys c.instance)
  pub cells : (c : Activation) → IsListed c cs → is_coroutine b c.func ≡ true → (slot : Slot)
      → Contains c.slots slot → IsCellName (b.framing c.func) slot.alloca → (o most : ℕ) (bytes : List Byte)
      → Holds (frame_rights b.given t.instances) t.world.memory slot.block o most bytes
      → Holds (frame_rights b.given ys) u.memory slot.block o most bytes
  pub returned : (a c : Activation) (y z : Instance) (j : ℕ) → IsListed a ups → is_coroutine b a.func ≡ true
      → instance_in t.instances c.instance ≡ Some y → instance_in ys c.instance ≡ Some z
      → returned_from (b.framing a.func) a a.mode ≡ Some j
      → HasFields (b.framing a.func) r.homes
      (frame_rights b.given t.instances) t.world.memory j a.values y.block y.start a.mode
      → HasFields (b.framing a.func) homes (frame_rights b.given ys) u.memory j a.values z.block z.start a.mode
  pub free : (c : Activation) → IsListed c cs → is_coroutine b c.func ≡ true → (slot : Slot)
      → Contains c.slots slot → IsCellName (b.framing c.func) slot.alloca
      → IsFreeOf r.homes r.hides s.world.memory slot.block → IsFreeOf homes hides w.memory slot.block
  pub ahead : (x : Framing) (c : Activation) (name align : ℕ) (ty : Ty) → IsListed c cs
      → IsAhead x r.homes r.hides s.world.memory t.world.memory c name ty align
      → IsAhead x homes hides w.memory u.memory c name ty align

-- what is to be known of the memories and instances behind a step
pub record AreMoved (b : Building) (t : State) (homes : List Home) (hides : ℕ → Bool) (xs ys : List Instance)
    (w u : World) (top : Activation) : Type 0 where
  pub world : AreOver owner_rights (frame_rights b.given ys) homes hides (λ d. d) w u
  pub known : length homes ≡ length w.memory
  pub globals : (n : ℕ) → n < length b.framed_code.globals → home_of homes n ≡ whole_home n
  pub mates : AreMates homes w.memory u.memory
  pub hidden : (n : ℕ) → hides n ≡ true → (home_of homes n).is_seen ≡ false
  pub count : length ys ≡ length xs
  pub instances : (i : ℕ) (x y : Instance) → slice_get xs i ≡ Some x → slice_get ys i ≡ Some y
      → AreInstances b homes (record t { world = u; instances = ys; top = top }) x y

-- and of the activation on top, where it is another one
pub record IsTopMoved (b : Building) (s t : State) (homes : List Home) (hides : ℕ → Bool) (ys : List Instance)
    (w u : World) (a c : Activation) : Type 0 where
  pub top : AreActivations b homes hides (record t { world = u; instances = ys; top = c }) (top_place b) a c
  pub once : AreDifferent (map (λ (slot : Slot). slot.block) (c.slots ++ slots_below t.below))
  pub cells : is_coroutine b c.func ≡ true → (slot : Slot) → Contains c.slots slot
      → IsCellName (b.framing c.func) slot.alloca → IsFreeOf homes hides w.memory slot.block
  pub ahead : is_coroutine b a.func ≡ true → is_first a.mode ≡ true → a.block ≡ 0
      → AreAhead (b.framing a.func) homes hides w.memory u.memory a c
