-- Which slots of the run that gives frames hold none: those of allocas that the framed form has too.
use Rattle.std.specs.Prelude.{◌≡◌, ◌≢◌, ◌⊎◌, ◌<◌, ◌≤◌, ℕ, List, [], ◌∷◌, length, slice_get, Some}
use Rattle.pass_elide_meaning.specs.pass_elide_edges.pass_elide_proof.Elision.{Elision, function_in}
use Rattle.pass_elide_meaning.specs.pass_elide_edges.pass_elide_proof.pass_proofs.run_memory.declared.pointer.Value.{Value}
use Rattle.pass_elide_meaning.specs.pass_elide_edges.pass_elide_proof.pass_proofs.run_source.declared.state.Activation.{Activation}
use Rattle.pass_elide_meaning.specs.pass_elide_edges.pass_elide_proof.pass_proofs.run_source.declared.state.Instance.{Instance}
use Rattle.pass_elide_meaning.specs.pass_elide_edges.pass_elide_proof.pass_proofs.run_source.declared.state.Mode.{Mode}
use Rattle.pass_elide_meaning.specs.pass_elide_edges.pass_elide_proof.pass_proofs.run_source.declared.state.State.{State}
use Rattle.pass_elide_meaning.specs.pass_elide_edges.pass_elide_proof.pass_proofs.run_step.Values.{pointer_to}
use Rattle.pass_elide_meaning.specs.pass_elide_edges.pass_elide_proof.pass_proofs.run_step.declared.world.Slot.{Slot}

-- ---- slots of allocas that the framed form has too, whose names are below that of the first new one

abbrev pub HasOwn : (low : ℕ) → List Slot → ℕ → Type 0
HasOwn low [] n = ⊥
HasOwn low (z ∷ zs) n = ((z.alloca < low) × (z.block ≡ n)) ⊎ HasOwn low zs n

-- one of the activations has such a slot with the block
abbrev pub OwnsIn : Elision → List Activation → ℕ → Type 0
OwnsIn e [] n = ⊥
OwnsIn e (a ∷ rows) n = HasOwn (length (function_in e a.func).names) a.slots n ⊎ OwnsIn e rows n

-- ---- slots of allocas that were put in front

abbrev pub HasNew : (low : ℕ) → List Slot → ℕ → Type 0
HasNew low [] n = ⊥
HasNew low (z ∷ zs) n = ((low ≤ z.alloca) × (z.block ≡ n)) ⊎ HasNew low zs n

-- the address is that of such a slot of the activation
pub record HasRoom (e : Elision) (b : Activation) (frame : Value) : Type 0 where
  pub block : ℕ
  pub leads : frame ≡ pointer_to block
  pub new : HasNew (length (function_in e b.func).names) b.slots block

-- each ramp that was given its frame has it from the activation right below it
abbrev pub AreInRooms : Elision → List Activation → Type 0
AreInRooms e [] = Unit {0}
AreInRooms e (c ∷ []) = (frame : Value) → c.mode ≡ Mode.GivenRamp frame → ⊥
AreInRooms e (c ∷ (b ∷ below)) =
    ((frame : Value) → c.mode ≡ Mode.GivenRamp frame → HasRoom e b frame) × AreInRooms e (b ∷ below)

-- ---- states

pub record HoldsNone (e : Elision) (t : State) : Type 0 where
  pub rooms : AreInRooms e (t.top ∷ t.below)
  -- no frame lies in a slot that the framed form has too
  pub bare : (n i : ℕ) (x : Instance) → OwnsIn e (t.top ∷ t.below) n → slice_get t.instances i ≡ Some x
      → x.block ≢ n
