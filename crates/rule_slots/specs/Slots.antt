-- Coroutine slots and their addresses.
use Rattle.std.specs.Prelude.{ℕ, Bool, List, IsTrue, not, filter, ◌↔◌}
use Rattle.ir_model.specs.declared.module.Function.{Function}
use Rattle.ir_model.specs.declared.operand.Operand.{Operand}
use Rattle.ir_paths.specs.Slots.{IsRampSlot, addresses_of, allocas_of, has_name}
use Rattle.rule_slots.specs.Names.{is_named}

-- an alloca that isn't the ramp's alone
abbrev pub IsCoroutineSlot : Function → ℕ → Type 0
IsCoroutineSlot f a = IsTrue (has_name (allocas_of f) a) × (¬ IsRampSlot f a)

-- the address of a coroutine slot: its own, or that of a getelementptr of it, chains of them too
pub record IsSlotAddress (f : Function) (v : ℕ) : Type 0 where
  pub slot : ℕ
  pub is_slot : IsCoroutineSlot f slot
  pub is_address : IsTrue (has_name (addresses_of f slot) v)

-- ---- operands

-- the operand is a coroutine slot itself
abbrev pub NamesSlot : Function → Operand → Type 0
NamesSlot f (Operand.Local v) = IsCoroutineSlot f v
NamesSlot f _ = ⊥

-- the operand is an address of a coroutine slot
abbrev pub NamesAddress : Function → Operand → Type 0
NamesAddress f (Operand.Local v) = IsSlotAddress f v
NamesAddress f _ = ⊥

-- the operand is an address of a coroutine slot by a getelementptr
abbrev pub NamesPart : Function → Operand → Type 0
NamesPart f (Operand.Local v) = IsSlotAddress f v × (¬ IsCoroutineSlot f v)
NamesPart f _ = ⊥

-- ---- the same, by sets of names

-- the set has just the coroutine slots
pub record AreSlotsOf (f : Function) (marks : List Bool) : Type 0 where
  pub each : (v : ℕ) → IsTrue (is_named marks v) ↔ IsCoroutineSlot f v

-- the set has just the addresses of coroutine slots
pub record AreAddressesOf (f : Function) (marks : List Bool) : Type 0 where
  pub each : (v : ℕ) → IsTrue (is_named marks v) ↔ IsSlotAddress f v

-- the names of a list that a set doesn't have
abbrev pub names_without : List Bool → List ℕ → List ℕ
names_without marks names = filter (λ v. not (is_named marks v)) names
