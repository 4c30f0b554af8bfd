-- What phis give from blocks.
use Rattle.std.specs.Prelude.{ℕ, Bool, false, List, [], find, Some, None, Option, option_map, ◌&&◌, ◌||◌, ◌==◌}
use Rattle.rule_phis.specs.Operands.{same_operand}
use Rattle.elide_shape.specs.Frames.{is_frame}
use Rattle.ir_model.specs.Names.{position_of}
use Rattle.ir_model.specs.declared.instr.Phi.{Phi}
use Rattle.ir_model.specs.declared.module.Block.{Block}
use Rattle.ir_model.specs.declared.module.Function.{Function}
use Rattle.ir_model.specs.declared.operand.Operand.{Operand}

-- what a phi gives where its block is entered from the block at a position
abbrev pub given : Function → ℕ → Phi → Option Operand
given f block p = option_map (λ i. i.value) (find (λ i. position_of f i.from == block) p.incoming)

abbrev pub is_given : (Operand → Bool) → Option Operand → Bool
is_given test None = false
is_given test (Some x) = test x

-- the operands are the same, or each is begin's value or a coro.frame's, which are one value
abbrev pub same_value : Function → Operand → Operand → Bool
same_value f x y = same_operand x y || (is_frame f x && is_frame f y)

abbrev pub same_given : Function → Option Operand → Option Operand → Bool
same_given f (Some x) (Some y) = same_value f x y
same_given f _ _ = false

-- the phi has equal operands from both blocks
abbrev pub gives_same : Function → ℕ → ℕ → Phi → Bool
gives_same f a d p = same_given f (given f a p) (given f d p)

abbrev pub phis_of : Option Block → List Phi
phis_of None = []
phis_of (Some b) = b.phis
