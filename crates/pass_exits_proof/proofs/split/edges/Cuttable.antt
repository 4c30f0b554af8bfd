-- What the labels of a part ask of the function that is cut.
use Rattle.std.proofs.Common.{◌≡◌, ◌⊎◌, inl, inr, ℕ, ◌<◌, List, length, true, arith}
use Rattle.std.specs.Prelude.{map}
use Rattle.pass_fetch_proof.specs.rule_shape.Suspends.{is_suspend}
use Rattle.pass_split.specs.Pieces.{pieced_phi, stop_label}
use Rattle.pass_split.specs.declared.origin.Origin.{Origin}
use Rattle.pass_fetch_proof.proofs.ir_laws.facts.Lists.{row_of}
use Rattle.pass_fetch_proof.specs.flow_solver.Paths.{IsListed}
use Rattle.pass_fetch_proof.specs.pass_intrinsics.Shapes.{back_label, begun_label, done_label, entry_label, none_label, pass_label, saved_label}
use Rattle.pass_fetch_proof.specs.pass_intrinsics.declared.shape.Part.{Part}
use Rattle.pass_fetch_proof.specs.pass_intrinsics.declared.shape.Shape.{Shape}
use Rattle.pass_fetch_proof.specs.pass_intrinsics.declared.shape.SuspendPoint.{SuspendPoint}
use Rattle.ir_model.specs.declared.instr.Instr.{Instr}
use Rattle.ir_model.specs.declared.module.Block.{Block}
use Rattle.ir_model.specs.declared.module.Function.{Function}
use Rattle.pass_fetch_proof.specs.ir_paths.Paths.{targets}
use Rattle.pass_exits_proof.proofs.split.edges.Pieces.{block_marks, labels}
use Rattle.pass_exits_proof.specs.split.rules.Pieced.{ArePieces}
use Rattle.pass_fetch_proof.specs.ir_laws.paths.woven_rules.Pairs.{AreDifferent}

-- the labels behind begin, behind the save of a suspend, and of the block of a resume right before a suspend
pub data IsMark (s : Shape) (v : ℕ) : Type 0 where
  Begun : v ≡ begun_label s → IsMark s v
  Saved : (j : ℕ) → j < length s.suspends → v ≡ saved_label s j → IsMark s v
  Passed : (j : ℕ) → j < length s.suspends → v ≡ pass_label s j → IsMark s v

-- a block of a function has a label
pub record HasBlock (h : Function) (label : ℕ) : Type 0 where
  pub block : Block
  pub listed : IsListed block h.blocks
  pub has_label : block.label ≡ label

-- The labels of a function are old and stand once, so do the marks of its blocks; edges lead to blocks, and so do those of the suspends
-- of the shape; a suspend's block stops at the end.
pub record IsCuttable (s : Shape) (part : Part) (h : Function) : Type 0 where
  pub base : s.base ≡ length h.names
  pub low : (b : Block) → IsListed b h.blocks → b.label < s.base
  pub different : AreDifferent (labels h.blocks)
  pub marks : AreDifferent (row_of (block_marks s part) h.blocks)
  pub are_marks : (v : ℕ) → IsListed v (row_of (block_marks s part) h.blocks) → IsMark s v
  pub known : (b : Block) (label : ℕ) → IsListed b h.blocks → IsListed label (targets b.term) → HasBlock h label
  pub end_there : HasBlock h s.end
  pub stop : (b : Block) (i : Instr) → IsListed b h.blocks → IsListed i b.instrs → is_suspend i ≡ true → stop_label b.term ≡ s.end
  pub resumes : (p : SuspendPoint) → IsListed p s.suspends → HasBlock h p.resume
  pub destroys : (p : SuspendPoint) → IsListed p s.suspends → HasBlock h p.destroy

-- the pieces of a block, which stand among some blocks
pub record HasPieces (s : Shape) (part : Part) (origins : List Origin) (all : List Block) (b : Block) : Type 0 where
  pub start : ℕ
  pub last : ℕ
  pub pieces : List Block
  pub are : ArePieces s part b.term b.label (map (pieced_phi s part origins b.label) b.phis) start b.instrs pieces last
  pub there : (c : Block) → IsListed c pieces → IsListed c all

-- a block is a piece of one of a function's
pub record IsPiece (s : Shape) (part : Part) (origins : List Origin) (bs all : List Block) (c : Block) : Type 0 where
  pub block : Block
  pub listed : IsListed block bs
  pub of : HasPieces s part origins all block
  pub piece : IsListed c of.pieces

-- ---- labels of pieces are no other new ones

-- the label of a piece is old or a mark
abbrev pub IsPieceLabel : Shape → ℕ → Type 0
IsPieceLabel s label = (label < s.base) ⊎ IsMark s label

module _ (s : Shape) (label : ℕ) where
  pub mark_not_old : IsMark s label → label < s.base → ⊥
  mark_not_old (Begun d) e = absurd (omega (arith, d, e))
  mark_not_old (Saved j low d) e = absurd (omega (arith, d, e))
  mark_not_old (Passed j low d) e = absurd (omega (arith, d, e))

  pub no_entry : IsPieceLabel s label → label ≡ entry_label s → ⊥
  no_entry (inl low) e = absurd (omega (arith, low, e))
  no_entry (inr (Begun d)) e = absurd (omega (arith, d, e))
  no_entry (inr (Saved j low d)) e = absurd (omega (arith, d, e))
  no_entry (inr (Passed j low d)) e = absurd (omega (arith, d, e))

  pub no_none : IsPieceLabel s label → label ≡ none_label s → ⊥
  no_none (inl low) e = absurd (omega (arith, low, e))
  no_none (inr (Begun d)) e = absurd (omega (arith, d, e))
  no_none (inr (Saved j low d)) e = absurd (omega (arith, d, e))
  no_none (inr (Passed j low d)) e = absurd (omega (arith, d, e))

  pub no_back : (j : ℕ) → IsPieceLabel s label → label ≡ back_label s j → ⊥
  no_back j (inl low) e = absurd (omega (arith, low, e))
  no_back j (inr (Begun d)) e = absurd (omega (arith, d, e))
  no_back j (inr (Saved i low d)) e = absurd (omega (arith, d, e))
  no_back j (inr (Passed i low d)) e = absurd (omega (arith, d, e))

  pub no_done : IsPieceLabel s label → label ≡ done_label s → ⊥
  no_done (inl low) e = absurd (omega (arith, low, e))
  no_done (inr (Begun d)) e = absurd (omega (arith, d, e))
  no_done (inr (Saved j low d)) e = absurd (omega (arith, d, e))
  no_done (inr (Passed j low d)) e = absurd (omega (arith, d, e))
