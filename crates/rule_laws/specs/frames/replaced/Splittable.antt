-- What is asked of a coroutine so that its parts break no rule.
use Rattle.std.specs.Prelude.{◌≡◌, ℕ, Bool, true, false, List, [], Some, is_some, option_to_list, slice_get, flat_map, ◌||◌, ◌∷◌}
use Rattle.rule_shape.specs.Places.{is_the}
use Rattle.rule_phis.specs.Edges.{predecessors}
use Rattle.ir_laws.specs.flow_solver.Paths.{IsListed}
use Rattle.pass_intrinsics.specs.Shapes.{suspends_of}
use Rattle.pass_intrinsics.specs.declared.shape.SuspendPoint.{SuspendPoint}
use Rattle.ir_laws.specs.ir_model.Calls.{first_result}
use Rattle.ir_laws.specs.ir_model.Names.{position_of}
use Rattle.ir_laws.specs.ir_model.Ty.{token}
use Rattle.ir_laws.specs.ir_model.declared.instr.Terminator.{Terminator}
use Rattle.ir_laws.specs.ir_model.declared.module.Block.{Block}
use Rattle.ir_laws.specs.ir_model.declared.module.Function.{Function}
use Rattle.ir_laws.specs.ir_model.declared.module.Module.{Module}
use Rattle.ir_laws.specs.ir_model.declared.operand.Intrinsic.{Intrinsic}
use Rattle.ir_laws.specs.ir_paths.Paths.{targets}
use Rattle.rule_locals.specs.Markers.{slot_size}
use Rattle.frame_contents.specs.frame_crossing.Paths.{IsOutside}
use Rattle.rule_values.specs.Fits.{fits_kind}
use Rattle.rule_values.specs.Kinds.{value_kind}

-- ---- suspends

abbrev pub token_taken : SuspendPoint → List ℕ
token_taken p = option_to_list p.save

-- the tokens that the suspends take
abbrev pub tokens_taken : Function → List ℕ
tokens_taken f = flat_map token_taken (suspends_of f)

-- a label that edges of one block alone name, and whose block has no phis
pub record IsLedToBy (f : Function) (label from : ℕ) : Type 0 where
  pub phis : (at : ℕ) (b : Block) → slice_get f.blocks at ≡ Some b → b.label ≡ label → b.phis ≡ []
  pub sources : predecessors f label ≡ from ∷ []

pub record HasOwnEdges (f : Function) (p : SuspendPoint) : Type 0 where
  pub resume : IsLedToBy f p.resume p.block
  pub destroy : IsLedToBy f p.destroy p.block

-- begin's value, addresses of allocas, and tokens: what each part has anew, or doesn't use
abbrev pub may_cross : Module → Function → ℕ → Bool
may_cross m f v = is_the (first_result Intrinsic.CoroBegin f) v || (is_some (slot_size m f v) || fits_kind (value_kind f v) token)

-- ---- returns

abbrev pub is_return : Terminator → Bool
is_return (Terminator.Ret value) = true
is_return t = false

-- A path outside the end's block leads from the front of a block to a return.
pub data LeadsToReturn (f : Function) : ℕ → Type 0 where
  Here : (block : ℕ) (b : Block) → IsOutside f block → slice_get f.blocks block ≡ Some b → is_return b.term ≡ true → LeadsToReturn f block
  Across : (block label : ℕ) (b : Block) → IsOutside f block → slice_get f.blocks block ≡ Some b → IsListed label (targets b.term) → LeadsToReturn f (position_of f label) → LeadsToReturn f block

-- from neither edge of a suspend such a path leads
pub record IsEndedFirst (f : Function) (p : SuspendPoint) : Type 0 where
  pub resume : LeadsToReturn f (position_of f p.resume) → ⊥
  pub destroy : LeadsToReturn f (position_of f p.destroy) → ⊥
