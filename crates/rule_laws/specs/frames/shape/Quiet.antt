-- Blocks behind suspends without the calls by which a function is a coroutine.
use Rattle.std.specs.Prelude.{◌≡◌, ℕ, [], Some, slice_get}
use Rattle.rule_laws.specs.frames.rows.Returns.{return_labels}
use Rattle.ir_laws.specs.flow_solver.Paths.{IsListed}
use Rattle.pass_intrinsics.specs.Shapes.{suspends_of}
use Rattle.ir_laws.specs.ir_model.declared.module.Block.{Block}
use Rattle.ir_laws.specs.ir_model.declared.module.Function.{Function}
use Rattle.rule_laws.specs.rules.woven_shape.Calls.{calls_of_block}

-- the blocks to which the resume and destroy edges of suspends lead have none of these calls
abbrev pub AreReturnsQuiet : Function → Type 0
AreReturnsQuiet f =
    (label : ℕ) → IsListed label (return_labels (suspends_of f)) → (k : ℕ) (b : Block) → slice_get f.blocks k ≡ Some b → b.label ≡ label → calls_of_block b ≡ []
