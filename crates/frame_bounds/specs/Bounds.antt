-- A bound on what the frame of a coroutine takes, by what stands in it alone: no analysis is asked for.
use Rattle.std.specs.Prelude.{◌≡◌, ℕ, false, List, [], None, Some, Option, Err, IsTrue, max, slice_get, ◌+◌, ◌∷◌, ◌≤◌, ◌^◌}
use Rattle.frame_contents.specs.Frames.{AreLayouts}
use Rattle.frame_contents.specs.Held.{result_size, value_size}
use Rattle.frame_contents.specs.declared.module_frames.LayoutsError.{LayoutsError}
use Rattle.ir_parts.specs.Contents.{result_of}
use Rattle.ir_model.specs.Layout.{size_of}
use Rattle.ir_model.specs.declared.instr.Instr.{Instr}
use Rattle.ir_model.specs.declared.instr.Phi.{Phi}
use Rattle.ir_model.specs.declared.module.Block.{Block}
use Rattle.ir_model.specs.declared.module.Function.{Function}
use Rattle.ir_model.specs.declared.module.Module.{Module}
use Rattle.ir_model.specs.declared.module.Param.{Param}
use Rattle.ir_sizes.specs.Cut.{capped}

-- a field takes its size, and no more than its alignment to be aligned
abbrev pub field_bound : ℕ → ℕ → ℕ
field_bound size align = size + max align 1

abbrev pub value_bound : ℕ → ℕ
value_bound size = field_bound size size

abbrev pub result_bound : Option ℕ → ℕ → ℕ
result_bound None size = 0
result_bound (Some v) size = value_bound size

abbrev pub params_bound : List Param → ℕ
params_bound [] = 0
params_bound (p ∷ ps) = value_bound (value_size p.ty) + params_bound ps

abbrev pub phis_bound : List Phi → ℕ
phis_bound [] = 0
phis_bound (p ∷ ps) = value_bound (value_size p.ty) + phis_bound ps

-- an alloca may be held as a slot, any other instruction's result as a value
abbrev pub instr_bound : Module → Instr → ℕ
instr_bound m (Instr.Alloca r ty align) = field_bound (capped (size_of m ty)) align
instr_bound m i = result_bound (result_of i) (result_size i)

abbrev pub instrs_bound : Module → List Instr → ℕ
instrs_bound m [] = 0
instrs_bound m (i ∷ is) = instr_bound m i + instrs_bound m is

abbrev pub block_bound : Module → Block → ℕ
block_bound m b = phis_bound b.phis + instrs_bound m b.instrs

abbrev pub blocks_bound : Module → List Block → ℕ
blocks_bound m [] = 0
blocks_bound m (b ∷ bs) = block_bound m b + blocks_bound m bs

-- the header, the index, and all that may be held
abbrev pub frame_bound : Module → Function → ℕ
frame_bound m f = 20 + params_bound f.params + blocks_bound m f.blocks

-- no coroutine's frame is too large
abbrev pub NoneTooLarge : Module → Type 0
NoneTooLarge m = (func : ℕ) → AreLayouts m false (Err (LayoutsError.TooLarge func)) → ⊥

-- each coroutine's frame is bounded
abbrev pub AreSmall : Module → List Function → Type 0
AreSmall m fs = (i : ℕ) (f : Function) → slice_get fs i ≡ Some f → IsTrue f.coroutine → frame_bound m f ≤ 2 ^ 24
