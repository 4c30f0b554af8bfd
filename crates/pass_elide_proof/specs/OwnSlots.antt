-- Slots in each state of a framed run in which calls may give frames: how many have a block.
use Rattle.std.specs.Prelude.{◌≡◌, ◌≤◌, ℕ, [], ◌∷◌, slice_get, Some}
use Rattle.pass_elide_proof.specs.Returning.{IsAllocaBlock}
use Rattle.pass_proofs.specs.run_source.declared.state.Instance.{Instance}
use Rattle.pass_proofs.specs.run_source.declared.state.State.{State}
use Rattle.run_slots.specs.Slots.{times_on}

-- each slot has the block of an alloca that wasn't killed, and no two have one
pub record CountsSlots (t : State) : Type 0 where
  pub blocks : (n : ℕ) → 1 ≤ times_on (t.top ∷ t.below) n → IsAllocaBlock t.world.memory n
  pub once : (n : ℕ) → times_on (t.top ∷ t.below) n ≤ 1

-- as in each state beside one of a run in which callees allocate
abbrev pub HaveNoSlots : State → Type 0
HaveNoSlots t = (i : ℕ) (x : Instance) → slice_get t.instances i ≡ Some x → x.slots ≡ []
