-- Whose slots blocks are, and from where a live slot with markers may be alive.
use Rattle.std.specs.Prelude.{◌≡◌, ◌≢◌, ◌<◌, ℕ, Bool, true, List, slice_get, Some, None, Option, IsTrue}
use Rattle.std.specs.List.{AllByRecursion}
use Rattle.pass_renewed_proof.specs.ir_model.declared.module.Function.{Function}
use Rattle.pass_renewed_proof.specs.flow_reach.Reached.{IsPointOf}
use Rattle.pass_renewed_proof.specs.ir_paths.Paths.{Leads, has_point}
use Rattle.pass_renewed_proof.specs.ir_paths.Slots.{IsRampSlot}
use Rattle.pass_renewed_proof.specs.ir_paths.Windows.{end_block}
use Rattle.pass_renewed_proof.specs.ir_paths.declared.point.Point.{Point}
use Rattle.pass_renewed_proof.specs.frame_slots.Uses.{ends_of, starts_of}
use Rattle.pass_renewed_proof.specs.SlotRules.{IsMadeOnce}
use Rattle.pass_renewed_proof.specs.rule_windows.Sets.{IsAfterEnd}
use Rattle.pass_renewed_proof.specs.run_memory.Memory.{is_killed, is_live}
use Rattle.pass_renewed_proof.specs.run_memory.declared.block.Life.{Life}
use Rattle.pass_renewed_proof.specs.run_memory.declared.block.MemoryBlock.{MemoryBlock}
use Rattle.pass_renewed_proof.specs.run_step.Step.{block_of, has_markers}
use Rattle.pass_renewed_proof.specs.run_step.Values.{Env, value_in}
use Rattle.pass_renewed_proof.specs.run_step.declared.world.Slot.{Slot}

-- ---- blocks

-- the life of a block; one that isn't there is dead for good
abbrev pub life_of : Option MemoryBlock → Life
life_of None = Life.Killed
life_of (Some x) = x.life

abbrev pub lives : List MemoryBlock → ℕ → Bool
lives memory b = is_live (life_of (slice_get memory b))

abbrev pub is_gone : List MemoryBlock → ℕ → Bool
is_gone memory b = is_killed (life_of (slice_get memory b))

-- ---- whose slots they are

-- of an activation before begin, by how many are below it, or of an instance
pub data Home : Type 0 where
  Ramp : (depth : ℕ) → Home
  Own : (number : ℕ) → Home

-- that of an activation, by its instance
abbrev pub home_of : Option ℕ → ℕ → Home
home_of None depth = Ramp depth
home_of (Some i) depth = Own i

-- whose slot it is, and of which alloca
pub record Tag : Type 0 where
  pub home : Home
  pub alloca : ℕ

abbrev pub Tags : Type 0
Tags = ℕ → Tag

-- the block is there, and is that slot
pub record IsTagged (tags : Tags) (count : ℕ) (home : Home) (alloca b : ℕ) : Type 0 where
  pub there : b < count
  pub tag : tags b ≡ record { home = home; alloca = alloca }

-- the blocks whose addresses allocas have given are slots of theirs
abbrev pub AreTagged : Tags → ℕ → Home → Function → Env → Type 0
AreTagged tags count home f values =
    (v b : ℕ) → IsMadeOnce f v → block_of (value_in values v) ≡ Some b → IsTagged tags count home v b

-- in the entry block an alloca that has given its address stands before the point
abbrev pub ArePast : Function → Env → Point → Type 0
ArePast f values p =
    (v b : ℕ) (made : IsMadeOnce f v) → block_of (value_in values v) ≡ Some b → p.block ≡ 0 → made.at < p.at

-- the slot is one of an alloca of the function, and its block is tagged so
pub record IsSlotOf (tags : Tags) (count : ℕ) (home : Home) (f : Function) (slot : Slot) : Type 0 where
  pub made : IsMadeOnce f slot.alloca
  pub tagged : IsTagged tags count home slot.alloca slot.block

-- ---- slots that may be alive

-- a path leads to the point from a start of the slot without an end of it between, and its name has its address there
pub record IsHeld (f : Function) (values : Env) (p : Point) (slot : Slot) : Type 0 where
  pub start : Point
  pub is_start : IsTrue (has_point (starts_of f slot.alloca) start)
  pub path : Leads f (ends_of f slot.alloca) start p
  pub known : block_of (value_in values slot.alloca) ≡ Some slot.block

-- so it is of a live slot with markers, if it counts
abbrev pub IsAliveSlot : (ℕ → Bool) → List MemoryBlock → Function → Env → Point → Slot → Type 0
IsAliveSlot counts memory f values p slot =
    lives memory slot.block ≡ true → counts slot.alloca ≡ true → has_markers f slot.alloca ≡ true
    → IsHeld f values p slot

abbrev pub AreAliveSlots : (ℕ → Bool) → List MemoryBlock → Function → Env → Point → List Slot → Type 0
AreAliveSlots counts memory f values p slots = AllByRecursion (IsAliveSlot counts memory f values p) slots

-- ---- slots that were alive together

-- a point of the function outside the end's block and what that reaches
pub record IsOpen (f : Function) (p : Point) : Type 0 where
  pub is_point : IsPointOf f p
  pub is_outside : p.block ≢ end_block f
  pub is_before_end : IsAfterEnd f p → ⊥

-- a path leads to such a point from a start of the slot without an end of it between
pub record IsMetAt (f : Function) (p : Point) (slot : Slot) : Type 0 where
  pub is_open : IsOpen f p
  pub start : Point
  pub is_start : IsTrue (has_point (starts_of f slot.alloca) start)
  pub path : Leads f (ends_of f slot.alloca) start p

-- so it is of a live slot with markers, if it counts and isn't the ramp's alone
abbrev pub IsMetSlot : (ℕ → Bool) → List MemoryBlock → Function → Point → Slot → Type 0
IsMetSlot counts memory f p slot =
    lives memory slot.block ≡ true → counts slot.alloca ≡ true → has_markers f slot.alloca ≡ true
    → (IsRampSlot f slot.alloca → ⊥) → IsMetAt f p slot

-- there is one point for all of them
pub record AreMet (counts : ℕ → Bool) (memory : List MemoryBlock) (f : Function) (slots : List Slot) : Type 0 where
  pub point : Point
  pub each : AllByRecursion (IsMetSlot counts memory f point) slots
