-- Lifetime markers (rule K13).
use Rattle.std.specs.Prelude.{ℕ, Bool, true, false, not, List, [], Some, None, Option, ◌-◌, ◌^◌, ◌&&◌, ◌||◌, ◌∷◌, ◌==◌, if◌then◌else◌}
use Rattle.ir_base.specs.declared.outcome.Place.{Place}
use Rattle.ir_parts.specs.Parts.{first_part, parts_of}
use Rattle.run_ints.specs.Numbers.{bits_of}
use Rattle.ir_model.specs.Layout.{size_of}
use Rattle.ir_model.specs.declared.instr.Instr.{Instr}
use Rattle.ir_model.specs.declared.module.Block.{Block}
use Rattle.ir_model.specs.declared.module.Function.{Function}
use Rattle.ir_model.specs.declared.module.Module.{Module}
use Rattle.ir_model.specs.declared.operand.Arg.{Arg}
use Rattle.ir_model.specs.declared.operand.Callee.{Callee}
use Rattle.ir_model.specs.declared.operand.Intrinsic.{Intrinsic}
use Rattle.ir_model.specs.declared.operand.Operand.{Operand}
use Rattle.rule_locals.specs.Instrs.{on_instr}
use Rattle.ir_locals.specs.Tables.{first_in}

-- the size that an alloca makes, beside its name
abbrev pub made_size : Module → Instr → ℕ → Option ℕ
made_size m (Instr.Alloca r ty align) n = if r == n then Some (size_of m ty) else None
made_size m i n = None

abbrev pub block_size : Module → Block → ℕ → Option ℕ
block_size m b n = first_in (made_size m) b.instrs n

-- the size of what a local points to, where it is an alloca of the function
abbrev pub slot_size : Module → Function → ℕ → Option ℕ
slot_size m f n = first_in (block_size m) f.blocks n

abbrev pub is_size_or_all : Operand → ℕ → Bool
is_size_or_all (Operand.Number z) s = (bits_of 64 z == s) || (bits_of 64 z == 2 ^ 64 - 1)
is_size_or_all x s = false

abbrev pub marks_size : Operand → Option ℕ → Bool
marks_size n None = false
marks_size n (Some s) = is_size_or_all n s

abbrev pub marks_slot : (ℕ → Option ℕ) → Operand → Operand → Bool
marks_slot sizes n (Operand.Local v) = marks_size n (sizes v)
marks_slot sizes n x = false

-- the operands of a marker: the size of an alloca's type, or -1, as a word, and the alloca
abbrev pub marks : (ℕ → Option ℕ) → List Arg → Bool
marks sizes (a ∷ b ∷ []) = marks_slot sizes a.value b.value
marks sizes args = false

abbrev pub is_marker : Callee → Bool
is_marker (Callee.Intrinsic Intrinsic.LifetimeStart) = true
is_marker (Callee.Intrinsic Intrinsic.LifetimeEnd) = true
is_marker c = false

-- K13: a marker whose pointer is no alloca, or whose size is neither the type's nor -1
abbrev pub marks_otherwise : (ℕ → Option ℕ) → Place → Instr → Bool
marks_otherwise sizes place (Instr.Call r must_tail ty callee args) = is_marker callee && not (marks sizes args)
marks_otherwise sizes place i = false

abbrev pub first_other_mark : Module → ℕ → Function → Option Place
first_other_mark m k f = first_part (on_instr (marks_otherwise (slot_size m f))) (parts_of k f)
