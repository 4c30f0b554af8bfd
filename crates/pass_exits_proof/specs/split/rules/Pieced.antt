-- The blocks of a function cut into pieces: what stands in each piece, and how it ends.
use Rattle.std.specs.Prelude.{◌≡◌, ℕ, true, false, List, [], map, None, ◌+◌, ◌∷◌, ◌++◌}
use Rattle.pass_split.specs.Pieces.{begins_again, pass_block, pieced_phi, redirected_term, stop_label}
use Rattle.pass_split.specs.declared.origin.Origin.{Origin}
use Rattle.pass_fetch_proof.specs.pass_intrinsics.Cuts.{cut_at}
use Rattle.pass_fetch_proof.specs.pass_intrinsics.Lowered.{lowered, names_taken}
use Rattle.pass_fetch_proof.specs.pass_intrinsics.Shapes.{pass_label}
use Rattle.pass_fetch_proof.specs.pass_intrinsics.declared.cuts.Cut.{Cut}
use Rattle.pass_fetch_proof.specs.pass_intrinsics.declared.shape.Part.{Part}
use Rattle.pass_fetch_proof.specs.pass_intrinsics.declared.shape.Shape.{Shape}
use Rattle.ir_model.specs.declared.instr.Instr.{Instr}
use Rattle.ir_model.specs.declared.instr.Phi.{Phi}
use Rattle.ir_model.specs.declared.instr.Terminator.{Terminator}
use Rattle.ir_model.specs.declared.module.Block.{Block}

abbrev pub block_with : ℕ → List Phi → List Instr → Terminator → Block
block_with label phis instrs term = record { label = label; phis = phis; instrs = instrs; term = term }

-- a block with instructions in front of its own
abbrev pub in_front : List Instr → Block → Block
in_front is c = record { label = c.label; phis = c.phis; instrs = is ++ c.instrs; term = c.term }

-- The instructions that are left of a block with a terminator t, cut into pieces, the first of which has a label and phis; n is the next
-- new name before the pieces, and the last number that behind them. An instruction becomes what is lowered in its place, unless the
-- block ends before it.
pub data ArePieces (s : Shape) (part : Part) (t : Terminator) : ℕ → List Phi → ℕ → List Instr → List Block → ℕ → Type 0 where
  Ends : (label n : ℕ) (phis : List Phi) → ArePieces s part t label phis n [] (block_with label phis [] (redirected_term s t) ∷ []) n
  Stays : (label n last : ℕ) (phis : List Phi) (i : Instr) (is : List Instr) (c : Block) (cs : List Block) → begins_again part i ≡ false → cut_at s part i is ≡ Cut.Stays → ArePieces s part t label phis (n + names_taken i) is (c ∷ cs) last → ArePieces s part t label phis n (i ∷ is) (in_front (lowered s part n i) c ∷ cs) last
  Marks : (label n last mark : ℕ) (phis : List Phi) (i : Instr) (is : List Instr) (cs : List Block) → begins_again part i ≡ false → cut_at s part i is ≡ Cut.Marks mark → ArePieces s part t mark [] (n + names_taken i) is cs last → ArePieces s part t label phis n (i ∷ is) (block_with label phis (lowered s part n i) (Terminator.Jump mark) ∷ cs) last
  Suspends : (label n : ℕ) (phis : List Phi) (i : Instr) (is : List Instr) → begins_again part i ≡ false → cut_at s part i is ≡ Cut.Suspends → ArePieces s part t label phis n (i ∷ is) (block_with label phis [] (Terminator.Jump (stop_label t)) ∷ []) n
  Returns : (label n : ℕ) (phis : List Phi) (i : Instr) (is : List Instr) → begins_again part i ≡ false → cut_at s part i is ≡ Cut.Returns → ArePieces s part t label phis n (i ∷ is) (block_with label phis [] (Terminator.Ret None) ∷ []) n
  Transfers : (label n j : ℕ) (phis : List Phi) (i : Instr) (is : List Instr) → begins_again part i ≡ false → cut_at s part i is ≡ Cut.Transfers j → ArePieces s part t label phis n (i ∷ is) (block_with label phis [] (Terminator.Jump (pass_label s j)) ∷ pass_block (pass_label s j) (lowered s part n i) ∷ []) (n + names_taken i)
  BeginsAgain : (label n : ℕ) (phis : List Phi) (i : Instr) (is : List Instr) → begins_again part i ≡ true → ArePieces s part t label phis n (i ∷ is) (block_with label phis [] Terminator.Unreachable ∷ []) n

-- the pieces of blocks, one block's behind the other's, each with its block's label and phis in front
pub data ArePiecesOf (s : Shape) (part : Part) (origins : List Origin) : ℕ → List Block → List Block → ℕ → Type 0 where
  NoBlock : (n : ℕ) → ArePiecesOf s part origins n [] [] n
  OneBlock : (n next last : ℕ) (b : Block) (bs cs ds : List Block) → ArePieces s part b.term b.label (map (pieced_phi s part origins b.label) b.phis) n b.instrs cs next → ArePiecesOf s part origins next bs ds last → ArePiecesOf s part origins n (b ∷ bs) (cs ++ ds) last
