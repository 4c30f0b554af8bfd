-- The code of a ramp begins where the coroutine does.
use Rattle.std.proofs.Common.{◌≡◌, ℕ, Bool, true, false, List, [], ◌∷◌, ◌++◌, refl, sym, ap, ◌∙◌, subst}
use Rattle.std.specs.Prelude.{Some, map, slice_get, if◌then◌else◌}
use Rattle.pass_proofs.specs.flow_solver.Paths.{IsListed}
use Rattle.pass_proofs.specs.frame_layout.declared.layout.Layout.{Layout}
use Rattle.pass_proofs.proofs.ir_laws.facts.Numbers.{label_of}
use Rattle.pass_proofs.proofs.ir_laws.paths.edges.Lists.{listed_at}
use Rattle.pass_proofs.specs.ir_model.declared.module.Block.{Block}
use Rattle.pass_proofs.specs.ir_model.declared.module.Function.{Function}
use Rattle.pass_proofs.specs.ir_model.declared.module.Module.{Module}
use Rattle.pass_proofs.specs.pass_intrinsics.Cuts.{goes_on}
use Rattle.pass_proofs.specs.pass_intrinsics.Shapes.{first_name, shape_of}
use Rattle.pass_proofs.specs.pass_intrinsics.declared.shape.Part.{Part}
use Rattle.pass_proofs.specs.pass_intrinsics.declared.shape.Shape.{Shape}
use Rattle.pass_proofs.proofs.split.edges.Entries.{entry_flagged, listed_entry}
use Rattle.pass_proofs.proofs.split.edges.Labels.{one_block, whole}
use Rattle.pass_proofs.proofs.split.edges.Pieces.{head_is}
use Rattle.pass_proofs.proofs.split.edges.Sources.{cuttable, pruned_part}
use Rattle.pass_split_proof.proofs.places.Fronts.{at_front}
use Rattle.pass_split_proof.proofs.places.Parts.{first_in, has_cuts}
use Rattle.pass_proofs.proofs.split.rules.Cutting.{cut_block}
use Rattle.pass_proofs.proofs.split.uses.Assembled.{first_kept}
use Rattle.pass_split_proof.specs.places.Places.{IsPlace}
use Rattle.pass_proofs.specs.split.rules.Parted.{IsPartOf}
use Rattle.pass_proofs.specs.split.rules.Pieced.{ArePieces}
use Rattle.pass_proofs.specs.split.rules.Reached.{Entry}
use Rattle.pass_proofs.specs.split.rules.Splittable.{IsSplittable}
use Rattle.pass_proofs.specs.pass_split.Parts.{done_block, later_head, origins_for, part_names}
use Rattle.pass_proofs.specs.pass_split.Pieces.{all_pieces, pieced_phi, pieces_of, piecing_of}
use Rattle.pass_proofs.specs.pass_split.Reached.{is_flagged, kept_block, kept_blocks, pruned, reached}
use Rattle.pass_proofs.specs.pass_split.declared.origin.Origin.{Origin}

module _ (m : Module) (k : ℕ) (f : Function) (begin : ℕ) (x : IsSplittable m k f begin) (layout : Layout) (part : Part)
    (ramp : goes_on part ≡ false) where
  abbrev s : Shape
  s = shape_of f layout

  abbrev os : List Origin
  os = origins_for s part f

  -- the part has no head of its own
  bare_head : whole s part f ≡ pieces_of s part os (first_name s) f.blocks ++ done_block s ∷ []
  bare_head
      = ap (λ (b : Bool). ((if b then later_head s (reached f) part f.blocks else []) ++ pieces_of s part os
      (first_name s) f.blocks) ++ done_block s ∷ []) ramp

  -- so its first block is the first piece of the function's
  record IsFirst (b : Block) : Type 0 where
    piece : Block
    more : List Block
    is : whole s part f ≡ piece ∷ more
    has_label : piece.label ≡ b.label

  first : (bs : List Block) (b : Block) → slice_get bs 0 ≡ Some b → f.blocks ≡ bs → IsFirst b
  first [] b e same = absurd (cc)
  first (c ∷ bs) b e same = on (all_pieces s (piecing_of s part os (first_name s) c) c.term) refl
      (cut_block s part os (first_name s) c)
    where
      is_one : c ≡ b
      is_one = cc

      on : (cs : List Block) → all_pieces s (piecing_of s part os (first_name s) c) c.term ≡ cs
          → ArePieces s part c.term c.label (map (pieced_phi s part os c.label) c.phis) (first_name s) c.instrs cs
          (piecing_of s part os (first_name s) c).next → IsFirst b
      on [] d h = absurd (head_is s part c.term c.label (map (pieced_phi s part os c.label) c.phis) (first_name s)
          (piecing_of s part os (first_name s) c).next c.instrs [] h)
      on (a ∷ rest) d h =
          let others : List Block = pieces_of s part os (piecing_of s part os (first_name s) c).next bs in
          record {
            piece = a;
            more = (rest ++ others) ++ done_block s ∷ [];
            is = bare_head ∙ ap (λ (ds : List Block). pieces_of s part os (first_name s) ds ++ done_block s ∷ []) same
                ∙ ap (λ (ds : List Block). (ds ++ others) ++ done_block s ∷ []) d;
            has_label = (head_is s part c.term c.label (map (pieced_phi s part os c.label) c.phis) (first_name s)
                (piecing_of s part os (first_name s) c).next c.instrs (a ∷ rest) h).0 ∙ ap label_of is_one;
          }

  module _ (p : Function) (blocks : p.blocks ≡ whole s part f) (names : p.names ≡ part_names s part f os) where
    pruned_front : (b : Block) → slice_get f.blocks 0 ≡ Some b → IsPlace s part f (pruned p) 0 0 0 0
    pruned_front b e =
        let l : IsListed b f.blocks = listed_at f.blocks 0 b e in
        let y = has_cuts m k f begin x layout part p blocks names b l in
        let head = head_is s part b.term b.label (map (pieced_phi s part os b.label) b.phis) y.start y.last b.instrs
        (y.first ∷ y.rest) y.are in
        let c = first f.blocks b e refl in
        let there : slice_get (whole s part f) 0 ≡ Some c.piece = ap (λ (bs : List Block). slice_get bs 0) c.is in
        let same : c.piece ≡ y.first =
        one_block s part f (cuttable m k f begin x layout part) c.piece y.first
        (listed_at (whole s part f) 0 c.piece there) (first_in m k f begin x layout part p blocks names b l)
        (c.has_label ∙ sym head.0) in
        let flagged : is_flagged (reached p) c.piece.label ≡ true = entry_flagged m k f begin x layout part p blocks
        names c.piece (ap (λ (bs : List Block). slice_get bs 0) blocks ∙ there) in
        let stands : slice_get (pruned p).blocks 0 ≡ Some (kept_block (reached p) c.piece) = ap
        (λ (bs : List Block). slice_get (kept_blocks (reached p) bs) 0) (blocks ∙ c.is)
        ∙ first_kept (reached p) c.piece c.more flagged in
        at_front s part f (pruned p) os b (kept_block (reached p) y.first) 0 0 y e
        (Entry b.label (listed_entry f.blocks b e))
        (stands ∙ ap (λ (d : Block). Some (kept_block (reached p) d)) same) head.0 refl refl

pub ramp_front : (m : Module) (k : ℕ) (f g : Function) (begin : ℕ) (layout : Layout) (part : Part) (b : Block)
    → IsSplittable m k f begin → IsPartOf (shape_of f layout) f part g → goes_on part ≡ false
    → slice_get f.blocks 0 ≡ Some b → IsPlace (shape_of f layout) part f g 0 0 0 0
ramp_front m k f g begin layout part b x is ramp e =
    let y = pruned_part (shape_of f layout) part f g is in
    subst (λ (h : Function). IsPlace (shape_of f layout) part f h 0 0 0 0) (sym y.is)
    (pruned_front m k f begin x layout part ramp y.before y.blocks y.names b e)
