-- Structures of a bounded number of fields.
use Rattle.std.specs.Prelude.{ℕ, ◌+◌, ◌≤◌}
use Rattle.compiler.specs.ir_model.Ty.{Ty, Tys, array, field, none, structure}
use Rattle.compiler.specs.ir_model.declared.instr.Instr.{Instr}
use Rattle.compiler.specs.ir_model.declared.module.Block.{Block}
use Rattle.compiler.specs.ir_model.declared.module.Function.{Function}
use Rattle.compiler.specs.ir_model.declared.module.Module.{Module}
use Rattle.compiler.specs.ir_model.declared.module.TypeItem.{TypeItem}
use Rattle.compiler.specs.run_laws.changed.Changed.{Each}

abbrev pub field_count : Tys → ℕ
field_count none = 0
field_count (field t ts) = field_count ts + 1

abbrev mutual
  -- each structure in the type has at most so many fields
  pub IsNarrow : ℕ → Ty → Type 0
  IsNarrow bound (array n t) = IsNarrow bound t
  IsNarrow bound (structure ts) = (field_count ts ≤ bound) × AreNarrow bound ts
  IsNarrow bound t = Unit {0}

  pub AreNarrow : ℕ → Tys → Type 0
  AreNarrow bound none = Unit {0}
  AreNarrow bound (field t ts) = IsNarrow bound t × AreNarrow bound ts

-- so is the type through which a getelementptr leads
abbrev pub IsNarrowInstr : ℕ → Instr → Type 0
IsNarrowInstr bound (Instr.Gep r inbounds ty base indices) = IsNarrow bound ty
IsNarrowInstr bound i = Unit {0}

abbrev pub IsNarrowBlock : ℕ → Block → Type 0
IsNarrowBlock bound b = Each (IsNarrowInstr bound) b.instrs

abbrev pub IsNarrowFunction : ℕ → Function → Type 0
IsNarrowFunction bound f = Each (IsNarrowBlock bound) f.blocks

-- and each named type
pub record IsNarrowModule (bound : ℕ) (m : Module) : Type 0 where
  pub types : Each (λ (t : TypeItem). IsNarrow bound t.ty) m.types
  pub functions : Each (IsNarrowFunction bound) m.functions
