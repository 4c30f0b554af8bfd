-- What the values of the functions are that a function becomes: old ones are what they were, and new ones are told apart by their names.
use Rattle.std.specs.Prelude.{ℕ, Some, Option, ◌==◌, if◌then◌else◌}
use Rattle.pass_intrinsics.specs.Shapes.{index_name}
use Rattle.pass_intrinsics.specs.declared.shape.Shape.{Shape}
use Rattle.ir_laws.specs.ir_model.TypeView.{bits_of}
use Rattle.ir_laws.specs.ir_model.declared.module.Function.{Function}
use Rattle.ir_laws.specs.ir_locals.Tables.{or_first}
use Rattle.rule_values.specs.Kinds.{value_kind}
use Rattle.rule_values.specs.declared.kinds.Kind.{Kind}

-- of the new names of a part the index is a number, and all others are pointers
abbrev pub part_kind : Shape → ℕ → Kind
part_kind s v = if v == index_name s then Kind.Int (bits_of s.width) else Kind.Ptr

-- of a function that is no coroutine all new names are pointers
abbrev pub plain_kind : ℕ → Kind
plain_kind v = Kind.Ptr

-- old names and new ones
abbrev pub kinds_with : Function → (ℕ → Kind) → ℕ → Option Kind
kinds_with f new v = or_first (value_kind f v) (Some (new v))
