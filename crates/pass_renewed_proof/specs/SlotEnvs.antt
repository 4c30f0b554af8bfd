-- Values of an activation and of the one that stands for it, of which some are addresses in slots.
use Rattle.std.specs.Prelude.{ℕ, List, length, Some, None, Option, ◌≡◌, ◌≤◌, ◌⊎◌}
use Rattle.pass_kept_proof.specs.run_memory.Pointers.{moved}
use Rattle.pass_kept_proof.specs.run_memory.declared.pointer.Offset.{Offset}
use Rattle.pass_kept_proof.specs.run_memory.declared.pointer.Pointer.{Pointer}
use Rattle.pass_kept_proof.specs.run_memory.declared.pointer.Value.{Value}
use Rattle.run_laws.specs.memory.Pointers.{Home, IsValue}
use Rattle.pass_kept_proof.specs.run_step.Values.{Env, pointer_to, value_in}

-- an address in the block of a root, and the same address in the block of the root that stands for it
pub record IsAddress (root other v w : Value) : Type 0 where
  pub block : ℕ
  pub target : ℕ
  pub offset : Offset
  pub root_is : root ≡ pointer_to block
  pub other_is : other ≡ pointer_to target
  pub source : v ≡ Value.Ptr (Pointer.At block offset)
  pub stands : w ≡ Value.Ptr (Pointer.At target (moved offset 0))

-- names of the table have addresses in the blocks of their roots, wherever those stand, and the others what stands for the source's values
pub record AreSlotEnvs (homes : List Home) (roots : ℕ → Option ℕ) (env other : Env) : Type 0 where
  pub plain : (v : ℕ) → roots v ≡ None → IsValue homes (value_in env v) (value_in other v)
  pub rooted : (v a : ℕ) → roots v ≡ Some a → (value_in env v ≡ Value.Poison) ⊎ IsAddress (value_in env a) (value_in other a) (value_in env v) (value_in other v)
  pub room : length env ≤ length other

-- a root has itself for a root
abbrev pub AreRoots : (ℕ → Option ℕ) → Type 0
AreRoots roots = (v a : ℕ) → roots v ≡ Some a → roots a ≡ Some a

-- each root has the address of a block, and the other names what they had
pub record AreMadeAnew (roots : ℕ → Option ℕ) (other mid : Env) : Type 0 where
  pub anew : (a : ℕ) → roots a ≡ Some a → (c : ℕ) × (value_in mid a ≡ pointer_to c)
  pub others : (v : ℕ) → (roots v ≡ Some v → ⊥) → value_in mid v ≡ value_in other v
  pub room : length other ≤ length mid
