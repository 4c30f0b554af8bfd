-- Lemmas on groups.
use Rattle.std.proofs.Common.{◌≡◌, ℕ, zero, suc, List, [], ◌∷◌, ◌++◌, refl, ap, ◌∙◌, subst}
use Rattle.std.specs.Prelude.{Some, map, slice_get}
use Rattle.pass_split.specs.Pieces.{all_pieces, pieced_phi, pieces_of, piecing_of}
use Rattle.pass_split.specs.declared.origin.Origin.{Origin}
use Rattle.pass_fetch_proof.proofs.ir_laws.paths.source_rules.Locals.{Apart}
use Rattle.pass_fetch_proof.specs.pass_intrinsics.declared.shape.Part.{Part}
use Rattle.pass_fetch_proof.specs.pass_intrinsics.declared.shape.Shape.{Shape}
use Rattle.ir_model.specs.declared.module.Block.{Block}
use Rattle.pass_exits_proof.proofs.split.uses.Sources.{HasPieces, IsFirst, first_piece}
use Rattle.pass_exits_proof.proofs.split.rules.Cutting.{cut_block}
use Rattle.pass_exits_proof.specs.split.rules.Pieced.{ArePieces}
use Rattle.pass_fetch_proof.proofs.ir_laws.paths.uses.Groups.{joined, labels}

-- the pieces of each block
abbrev pub groups : Shape → Part → List Origin → ℕ → List Block → List (List Block)
groups s part origins n [] = []
groups s part origins n (b ∷ bs) = all_pieces s (piecing_of s part origins n b) b.term ∷ groups s part origins (piecing_of s part origins n b).next bs

pub pieces_joined : (s : Shape) (part : Part) (origins : List Origin) (n : ℕ) (bs : List Block) → pieces_of s part origins n bs ≡ joined (groups s part origins n bs)
pieces_joined s part origins n [] = refl
pieces_joined s part origins n (b ∷ bs) = ap (λ (cs : List Block). all_pieces s (piecing_of s part origins n b) b.term ++ cs) (pieces_joined s part origins (piecing_of s part origins n b).next bs)

-- ---- the pieces of a block

module _ (s : Shape) (part : Part) (origins : List Origin) where
  group_at : (n : ℕ) (bs : List Block) (q : ℕ) (b : Block) → slice_get bs q ≡ Some b → (m : ℕ) × (slice_get (groups s part origins n bs) q ≡ Some (all_pieces s (piecing_of s part origins m b) b.term))
  group_at n [] q b e = absurd (cc)
  group_at n (c ∷ bs) zero b e = let same : c ≡ b = cc in (n, ap (λ (x : Block). Some (all_pieces s (piecing_of s part origins n x) x.term)) same)
  group_at n (c ∷ bs) (suc q) b e = group_at (piecing_of s part origins n c).next bs q b e

  pub block_at_group : (n : ℕ) (bs : List Block) (q : ℕ) (cs : List Block) → slice_get (groups s part origins n bs) q ≡ Some cs → (b : Block) × (slice_get bs q ≡ Some b)
  block_at_group n [] q cs e = absurd (cc)
  block_at_group n (c ∷ bs) zero cs e = (c, refl)
  block_at_group n (c ∷ bs) (suc q) cs e = block_at_group (piecing_of s part origins n c).next bs q cs e

  pub has_pieces : (n : ℕ) (bs : List Block) → ((q : ℕ) (cs : List Block) → slice_get (groups s part origins n bs) q ≡ Some cs → Apart (labels cs)) → (q : ℕ) (b : Block) → slice_get bs q ≡ Some b → HasPieces s part origins (groups s part origins n bs) q b
  has_pieces n bs apart q b e =
      let g = group_at n bs q b e in
      let cs : List Block = all_pieces s (piecing_of s part origins g.0 b) b.term in
      let k : ArePieces s part b.term b.label (map (pieced_phi s part origins b.label) b.phis) g.0 b.instrs cs (piecing_of s part origins g.0 b).next = cut_block s part origins g.0 b in
      let x : IsFirst b.label (map (pieced_phi s part origins b.label) b.phis) cs = first_piece s part b.term b.label (map (pieced_phi s part origins b.label) b.phis) g.0 (piecing_of s part origins g.0 b).next b.instrs cs k in
      record {
        first = x.first;
        rest = x.rest;
        new = g.0;
        last = (piecing_of s part origins g.0 b).next;
        there = g.1 ∙ ap (λ (ds : List Block). Some ds) x.is;
        pieces = subst (λ (ds : List Block). ArePieces s part b.term b.label (map (pieced_phi s part origins b.label) b.phis) g.0 b.instrs ds (piecing_of s part origins g.0 b).next) x.is k;
        apart = subst (λ (ds : List Block). Apart (labels ds)) x.is (apart q cs g.1);
      }
