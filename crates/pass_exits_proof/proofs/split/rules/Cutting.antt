-- What the pass makes of blocks are their pieces.
use Rattle.std.proofs.Common.{◌≡◌, ℕ, ◌+◌, Bool, true, false, List, [], ◌∷◌, ◌++◌, append_assoc, append-nil, refl, sym, ap, ◌∙◌, subst}
use Rattle.std.specs.Prelude.{None, map, if◌then◌else◌}
use Rattle.pass_split.specs.Pieces.{all_pieces, begins_again, next_after, pass_block, pieced, pieced_phi, pieces_of, piecing_of, redirected_term, stop_label, stopped, with_instrs}
use Rattle.pass_split.specs.declared.origin.Origin.{Origin}
use Rattle.pass_split.specs.declared.piecing.Piecing.{Piecing}
use Rattle.pass_fetch_proof.specs.pass_intrinsics.Cuts.{cut_at}
use Rattle.pass_fetch_proof.specs.pass_intrinsics.Lowered.{lowered, names_taken}
use Rattle.pass_fetch_proof.specs.pass_intrinsics.Shapes.{pass_label}
use Rattle.pass_fetch_proof.specs.pass_intrinsics.declared.cuts.Cut.{Cut}
use Rattle.pass_fetch_proof.specs.pass_intrinsics.declared.shape.Part.{Part}
use Rattle.pass_fetch_proof.specs.pass_intrinsics.declared.shape.Shape.{Shape}
use Rattle.ir_model.specs.declared.instr.Instr.{Instr}
use Rattle.ir_model.specs.declared.instr.Phi.{Phi}
use Rattle.ir_model.specs.declared.instr.Terminator.{Terminator}
use Rattle.ir_model.specs.declared.module.Block.{Block}
use Rattle.pass_exits_proof.specs.split.rules.Pieced.{ArePieces, ArePiecesOf, BeginsAgain, Ends, Marks, NoBlock, OneBlock, Returns, Stays, Suspends, Transfers, block_with, in_front}

-- ---- the pieces of a block

-- a block on its way, not ended
abbrev begun : List Block → ℕ → List Phi → List Instr → ℕ → Piecing
begun whole label phis instrs n = record { whole = whole; label = label; phis = phis; instrs = instrs; ended = false; next = n }

module _ (s : Shape) (part : Part) (t : Terminator) where
  ended_stays : (p : Piecing) (is : List Instr) → p.ended ≡ true → with_instrs s part t p is ≡ p
  ended_stays p [] e = refl
  ended_stays p (i ∷ is) e =
      ap (λ (b : Bool). with_instrs s part t (if b then p else if begins_again part i then stopped p else pieced s part p i t (cut_at s part i is)) is) e ∙ ended_stays p is e

  -- a block that has come to q is cut into these pieces behind some whole ones
  record IsCut (whole : List Block) (label : ℕ) (phis : List Phi) (instrs : List Instr) (n : ℕ) (is : List Instr) (q : Piecing) : Type 0 where
    first : Block
    rest : List Block
    pieces : ArePieces s part t label phis n is (first ∷ rest) q.next
    all : all_pieces s q t ≡ whole ++ in_front instrs first ∷ rest

  cut : (whole : List Block) (label : ℕ) (phis : List Phi) (instrs : List Instr) (n : ℕ) (is : List Instr) → IsCut whole label phis instrs n is (with_instrs s part t (begun whole label phis instrs n) is)
  cut whole label phis instrs n [] =
      record {
        first = block_with label phis [] (redirected_term s t);
        rest = [];
        pieces = Ends label n phis;
        all = ap (λ (js : List Instr). whole ++ block_with label phis js (redirected_term s t) ∷ []) (sym (append-nil instrs));
      }
  cut whole label phis instrs n (i ∷ is) = on (begins_again part i) refl (cut_at s part i is) refl (λ w l ps js k. cut w l ps js k is)
    where
      p : Piecing
      p = begun whole label phis instrs n

      -- the block has ended before the instruction
      over : (u : Terminator) (rest : List Block) (next : ℕ) (q : Piecing) → q ≡ record { whole = whole ++ block_with label phis instrs u ∷ rest; label = label; phis = []; instrs = []; ended = true; next = next } → ArePieces s part t label phis n (i ∷ is) (block_with label phis [] u ∷ rest) next → IsCut whole label phis instrs n (i ∷ is) (with_instrs s part t q is)
      over u rest next q e h =
          let stays : with_instrs s part t q is ≡ q = ended_stays q is (ap (λ (x : Piecing). x.ended) e) in
          record {
            first = block_with label phis [] u;
            rest = rest;
            pieces = subst (ArePieces s part t label phis n (i ∷ is) (block_with label phis [] u ∷ rest)) (sym (ap (λ (x : Piecing). x.next) (stays ∙ e))) h;
            all = ap (λ (x : Piecing). all_pieces s x t) (stays ∙ e) ∙ ap (λ (js : List Instr). whole ++ block_with label phis js u ∷ rest) (sym (append-nil instrs));
          }

      on : (b : Bool) → begins_again part i ≡ b → (c : Cut) → cut_at s part i is ≡ c → ((w : List Block) (l : ℕ) (ps : List Phi) (js : List Instr) (k : ℕ) → IsCut w l ps js k is (with_instrs s part t (begun w l ps js k) is)) → IsCut whole label phis instrs n (i ∷ is) (with_instrs s part t (if b then stopped p else pieced s part p i t c) is)
      on true e c d more = over Terminator.Unreachable [] n (stopped p) refl (BeginsAgain label n phis i is e)
      on false e Cut.Stays d more =
          let r = more whole label phis (instrs ++ lowered s part n i) (n + names_taken i) in
          record {
            first = in_front (lowered s part n i) r.first;
            rest = r.rest;
            pieces = Stays label n (with_instrs s part t (begun whole label phis (instrs ++ lowered s part n i) (n + names_taken i)) is).next phis i is r.first r.rest e d r.pieces;
            all = r.all ∙ ap (λ (js : List Instr). whole ++ block_with r.first.label r.first.phis js r.first.term ∷ r.rest) (append_assoc instrs (lowered s part n i) r.first.instrs);
          }
      on false e (Cut.Marks mark) d more =
          let done : List Block = block_with label phis (instrs ++ lowered s part n i) (Terminator.Jump mark) ∷ [] in
          let r = more (whole ++ done) mark [] [] (n + names_taken i) in
          record {
            first = block_with label phis (lowered s part n i) (Terminator.Jump mark);
            rest = r.first ∷ r.rest;
            pieces = Marks label n (with_instrs s part t (begun (whole ++ done) mark [] [] (n + names_taken i)) is).next mark phis i is (r.first ∷ r.rest) e d r.pieces;
            all = r.all ∙ append_assoc whole done (r.first ∷ r.rest);
          }
      on false e Cut.Suspends d more = over (Terminator.Jump (stop_label t)) [] n (pieced s part p i t Cut.Suspends) refl (Suspends label n phis i is e d)
      on false e Cut.Returns d more = over (Terminator.Ret None) [] n (pieced s part p i t Cut.Returns) refl (Returns label n phis i is e d)
      on false e (Cut.Transfers j) d more =
          over (Terminator.Jump (pass_label s j)) (pass_block (pass_label s j) (lowered s part n i) ∷ []) (n + names_taken i) (pieced s part p i t (Cut.Transfers j)) refl (Transfers label n j phis i is e d)

-- ---- the pieces of blocks

module _ (s : Shape) (part : Part) (origins : List Origin) where
  pub cut_block : (n : ℕ) (b : Block) → ArePieces s part b.term b.label (map (pieced_phi s part origins b.label) b.phis) n b.instrs (all_pieces s (piecing_of s part origins n b) b.term) (piecing_of s part origins n b).next
  cut_block n b =
      let phis : List Phi = map (pieced_phi s part origins b.label) b.phis in
      let r = cut s part b.term [] b.label phis [] n b.instrs in
      subst (λ (cs : List Block). ArePieces s part b.term b.label phis n b.instrs cs (piecing_of s part origins n b).next) (sym r.all) r.pieces

pub cut_blocks : (s : Shape) (part : Part) (origins : List Origin) (n : ℕ) (bs : List Block) → ArePiecesOf s part origins n bs (pieces_of s part origins n bs) (next_after s part origins n bs)
cut_blocks s part origins n [] = NoBlock n
cut_blocks s part origins n (b ∷ bs) =
    OneBlock n (piecing_of s part origins n b).next (next_after s part origins (piecing_of s part origins n b).next bs) b bs
    (all_pieces s (piecing_of s part origins n b) b.term) (pieces_of s part origins (piecing_of s part origins n b).next bs)
    (cut_block s part origins n b) (cut_blocks s part origins (piecing_of s part origins n b).next bs)
