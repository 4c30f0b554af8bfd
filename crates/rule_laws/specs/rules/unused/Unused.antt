-- Functions in which nothing uses what coro.frame makes.
use Rattle.std.specs.Prelude.{◌≡◌, ℕ, Bool, true, None, Some, not}
use Rattle.std.specs.List.{list_all}
use Rattle.ir_laws.specs.ir_base.declared.outcome.Place.{Place}
use Rattle.ir_parts.specs.Contents.{part_operands, result_of}
use Rattle.ir_parts.specs.Parts.{Part, first_part, parts_of}
use Rattle.ir_laws.specs.ir_model.Names.{is_local}
use Rattle.ir_laws.specs.ir_model.declared.instr.Instr.{Instr}
use Rattle.ir_laws.specs.ir_model.declared.module.Function.{Function}
use Rattle.ir_laws.specs.ir_model.declared.operand.Intrinsic.{Intrinsic}
use Rattle.ir_laws.specs.ir_model.declared.operand.Operand.{Operand}
use Rattle.ir_laws.specs.ir_paths.Windows.{instr_at, is_call_of}
use Rattle.ir_laws.specs.ir_paths.declared.point.Point.{Point}

-- an operand that isn't the value
abbrev pub is_other : ℕ → Operand → Bool
is_other v x = not (is_local v x)

-- an operand of the part is the value
abbrev pub names_value : ℕ → Place → Part → Bool
names_value v place part = not (list_all (is_other v) (part_operands part))

-- no operand is a value of coro.frame
abbrev pub AreFramesUnused : ℕ → Function → Type 0
AreFramesUnused k f = (p : Point) (i : Instr) (v : ℕ) → instr_at f p ≡ Some i → is_call_of Intrinsic.CoroFrame i ≡ true → result_of i ≡ Some v → first_part (names_value v) (parts_of k f) ≡ None
