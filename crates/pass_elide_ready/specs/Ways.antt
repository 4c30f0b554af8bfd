-- Functions with the same edges, and with the same calls in each block, as far as it is asked where coroutines are
-- freed; and functions whose blocks end alike.
use Rattle.std.specs.Prelude.{◌≡◌, ℕ, Some, slice_get}
use Rattle.elide_shape.specs.Edges.{edges_of}
use Rattle.elide_sites.specs.Destroyed.{has_at, is_free, is_stop}
use Rattle.pass_elide_edges.specs.pass_elide_proof.pass_proofs.ir_model.Names.{position_of}
use Rattle.pass_elide_edges.specs.pass_elide_proof.pass_proofs.ir_model.declared.instr.Terminator.{Terminator}
use Rattle.pass_elide_edges.specs.pass_elide_proof.pass_proofs.ir_model.declared.module.Block.{Block}
use Rattle.pass_elide_edges.specs.pass_elide_proof.pass_proofs.ir_model.declared.module.Function.{Function}
use Rattle.pass_elide_edges.specs.pass_elide_proof.pass_proofs.ir_model.declared.operand.Operand.{Operand}
use Rattle.pass_elide_edges.specs.pass_elide_proof.pass_proofs.ir_paths.Paths.{targets}
use Rattle.pass_elide_edges.specs.pass_elide_proof.pass_proofs.ir_paths.Windows.{end_block}

pub record HasSameWays (f g : Function) : Type 0 where
  pub edges : edges_of g ≡ edges_of f
  pub free : (b : ℕ) → has_at is_free g b ≡ has_at is_free f b
  pub stop : (b : ℕ) → has_at is_stop g b ≡ has_at is_stop f b
  pub end : end_block g ≡ end_block f

-- a jump stays the same, and a branch leads to the same labels; unreachable ends stay
abbrev pub SameEnd : Terminator → Terminator → Type 0
SameEnd (Terminator.Jump label) u = u ≡ Terminator.Jump label
SameEnd (Terminator.Branch x one other) u = (y : Operand) × (u ≡ Terminator.Branch y one other)
SameEnd Terminator.Unreachable u = u ≡ Terminator.Unreachable
SameEnd t u = Unit {0}

-- a block stands in a function at a position, and ends like another one
pub record EndsLike (g : Function) (k : ℕ) (b : Block) : Type 0 where
  pub block : Block
  pub there : slice_get g.blocks k ≡ Some block
  pub end : SameEnd b.term block.term

pub record HasSameEnds (f g : Function) : Type 0 where
  pub positions : (t : ℕ) → position_of g t ≡ position_of f t
  pub blocks : (k : ℕ) (b : Block) → slice_get f.blocks k ≡ Some b → EndsLike g k b
  -- no block leads elsewhere
  pub back : (k : ℕ) (c : Block) → slice_get g.blocks k ≡ Some c
      → (b : Block) × ((slice_get f.blocks k ≡ Some b) × (targets c.term ≡ targets b.term))
