-- The blocks of a part, as they are looked for by their labels, and their pieces.
use Rattle.std.proofs.Common.{◌≡◌, ◌≤◌, inl, inr, ℕ, ◌+◌, ◌-◌, List, [], ◌∷◌, ◌++◌, length, refl, sym, ap, ◌∙◌, subst, arith}
use Rattle.std.specs.Prelude.{Some, map, slice_get}
use Rattle.pass_proofs.specs.flow_solver.Paths.{IsListed}
use Rattle.pass_proofs.specs.frame_layout.declared.layout.Layout.{Layout}
use Rattle.pass_proofs.proofs.ir_laws.facts.Numbers.{label_of}
use Rattle.pass_proofs.proofs.ir_laws.paths.edges.Lists.{listed_at, one_numbered}
use Rattle.pass_proofs.proofs.ir_laws.paths.source_rules.Locals.{listed_left, listed_right}
use Rattle.pass_proofs.proofs.rule_laws.rules.source_rules.Locals.{own_label}
use Rattle.pass_proofs.specs.ir_model.Names.{position_of}
use Rattle.pass_proofs.specs.ir_model.declared.module.Block.{Block}
use Rattle.pass_proofs.specs.ir_model.declared.module.Function.{Function}
use Rattle.pass_proofs.specs.ir_model.declared.module.Module.{Module}
use Rattle.pass_proofs.specs.pass_intrinsics.Shapes.{first_name, has_end, shape_of}
use Rattle.pass_proofs.specs.pass_intrinsics.declared.shape.Part.{Part}
use Rattle.pass_proofs.specs.pass_intrinsics.declared.shape.Shape.{Shape}
use Rattle.pass_proofs.proofs.split.edges.Cuttable.{IsCuttable}
use Rattle.pass_proofs.proofs.split.edges.Entries.{label_found}
use Rattle.pass_proofs.proofs.split.edges.Kept.{kept_home}
use Rattle.pass_proofs.proofs.split.edges.Labels.{done_there, in_pieces, one_block, whole}
use Rattle.pass_proofs.proofs.split.edges.Pieces.{HasHead, head_is}
use Rattle.pass_proofs.proofs.split.edges.Rules.{begins_with_end, end_is, labels_different, the_end}
use Rattle.pass_proofs.proofs.split.edges.Sources.{cuttable, pruned_part}
use Rattle.pass_proofs.proofs.split.edges.Targets.{names_are_long, part_own, part_tabled}
use Rattle.pass_split_proof.proofs.places.Cuts.{names_grow}
use Rattle.pass_split_proof.proofs.places.Fronts.{HasCuts, IsCutCode}
use Rattle.pass_split_proof.proofs.places.Phis.{kept_entering, takes}
use Rattle.pass_proofs.proofs.split.rules.Cutting.{cut_blocks}
use Rattle.pass_proofs.proofs.split.rules.Pruned.{kept_targets}
use Rattle.pass_proofs.proofs.split.uses.Paths.{listed_found}
use Rattle.pass_split_proof.specs.places.Places.{HasLike, IsNamed}
use Rattle.pass_proofs.specs.split.rules.Parted.{IsPartOf}
use Rattle.pass_proofs.specs.split.rules.Pieced.{ArePieces, ArePiecesOf, NoBlock, OneBlock}
use Rattle.pass_proofs.specs.split.rules.Splittable.{IsSplittable}
use Rattle.pass_proofs.specs.pass_split.Parts.{done_block, origins_for, part_names}
use Rattle.pass_proofs.specs.pass_split.Pieces.{next_after, pieced_phi, pieces_of}
use Rattle.pass_proofs.specs.pass_split.Reached.{is_flagged, kept_block, pruned, reached}
use Rattle.pass_proofs.specs.pass_split.declared.origin.Origin.{Origin}

-- ---- the pieces of blocks, and the names that they take

module _ (s : Shape) (part : Part) (origins : List Origin) where
  -- the pieces of a block among those of blocks, which take names from n up to last
  pub record IsAmong (n last : ℕ) (cs : List Block) (b : Block) : Type 0 where
    pub first : Block
    pub rest : List Block
    pub start : ℕ
    pub next : ℕ
    pub are : ArePieces s part b.term b.label (map (pieced_phi s part origins b.label) b.phis) start b.instrs
        (first ∷ rest) next
    pub there : (c : Block) → IsListed c (first ∷ rest) → IsListed c cs
    pub low : n ≤ start
    pub high : next ≤ last

  pub blocks_grow : (n last : ℕ) (bs cs : List Block) → ArePiecesOf s part origins n bs cs last → n ≤ last
  blocks_grow _ _ _ _ (NoBlock n) = omega arith
  blocks_grow _ _ _ _ (OneBlock n next last c bs cs ds k rest) =
      let here : n ≤ next = names_grow s part c.term c.label (map (pieced_phi s part origins c.label) c.phis) n next
      c.instrs cs k in
      let more : next ≤ last = blocks_grow next last bs ds rest in
      omega (arith, here, more)

  pub among : (n last : ℕ) (bs cs : List Block) → ArePiecesOf s part origins n bs cs last → (b : Block) → IsListed b bs
      → IsAmong n last cs b
  among _ _ _ _ (NoBlock n) b l = absurd l
  among _ _ _ _ (OneBlock n next last c bs cs ds k rest) b (inl e) =
      let more : next ≤ last = blocks_grow next last bs ds rest in
      subst (IsAmong n last (cs ++ ds)) (sym e)
      (on cs k (head_is s part c.term c.label (map (pieced_phi s part origins c.label) c.phis) n next c.instrs cs
      k) more)
    where
      on : (es : List Block) → ArePieces s part c.term c.label (map (pieced_phi s part origins c.label) c.phis) n
          c.instrs es next → HasHead s part c.label (map (pieced_phi s part origins c.label) c.phis) es → next ≤ last
          → IsAmong n last (es ++ ds) c
      on [] h k more = absurd k
      on (d ∷ es) h k more = record {
        first = d;
        rest = es;
        start = n;
        next = next;
        are = h;
        there = λ z l. listed_left z (d ∷ es) ds l;
        low = omega arith;
        high = more;
      }
  among _ _ _ _ (OneBlock n next last c bs cs ds k rest) b (inr l) =
      let x = among next last bs ds rest b l in
      let here : n ≤ next = names_grow s part c.term c.label (map (pieced_phi s part origins c.label) c.phis) n next
      c.instrs cs k in
      let low : next ≤ x.start = x.low in
      record {
        first = x.first;
        rest = x.rest;
        start = x.start;
        next = x.next;
        are = x.are;
        there = λ z m. listed_right z cs ds (x.there z m);
        low = omega (arith, here, low);
        high = x.high;
      }

-- ---- a part

module _ (m : Module) (k : ℕ) (f : Function) (begin : ℕ) (x : IsSplittable m k f begin) (layout : Layout)
    (part : Part) where
  abbrev s : Shape
  s = shape_of f layout

  abbrev os : List Origin
  os = origins_for s part f

  ok : IsCuttable s part f
  ok = cuttable m k f begin x layout part

  abbrev last : ℕ
  last = next_after s part os (first_name s) f.blocks

  are_cut : ArePiecesOf s part os (first_name s) f.blocks (pieces_of s part os (first_name s) f.blocks) last
  are_cut = cut_blocks s part os (first_name s) f.blocks

  -- the end's block has no phis
  pub end_bare : (b : Block) → IsListed b f.blocks → b.label ≡ s.end → b.phis ≡ []
  end_bare b l e =
      let end = the_end m k f begin x in
      let same : b ≡ end.block = one_numbered label_of f.blocks (labels_different m k f begin x) b end.block l
      end.listed (e ∙ end_is m k f begin x layout) in
      (begins_with_end m k f begin x b l (ap (λ (c : Block). has_end c.instrs) same ∙ end.has)).no_phis

  module _ (p : Function) (blocks : p.blocks ≡ whole s part f) (names : p.names ≡ part_names s part f os) where
    -- a block that is left, as it was
    as_before : (c d : Block) → IsListed c (whole s part f) → IsListed d (pruned p).blocks → d.label ≡ c.label
        → d ≡ kept_block (reached p) c
    as_before c d l n e =
        let y = kept_home m k f begin x layout part p blocks names d n in
        let same : y.before ≡ c = one_block s part f ok y.before c y.listed l (ap label_of (sym y.is) ∙ e) in
        y.is ∙ ap (kept_block (reached p)) same

    -- a block of the part stands where its label is looked for, if an edge leads there
    pub like : (c : Block) → IsListed c (whole s part f) → IsNamed (pruned p) c.label → HasLike (pruned p) c
    like c l n =
        let t = kept_targets p (part_tabled s part f ok p blocks names) (part_own s part f ok p blocks names) n.0
        c.label n.1.0 n.1.1 in
        let d = listed_found (pruned p) t.0 t.1.0 in
        let there : slice_get (pruned p).blocks (position_of (pruned p) c.label) ≡ Some d.0 = ap
        (λ (v : ℕ). slice_get (pruned p).blocks (position_of (pruned p) v)) (sym t.1.1) ∙ d.1 in
        let is : d.0 ≡ kept_block (reached p) c = as_before c d.0 l (listed_at (pruned p).blocks
        (position_of (pruned p) c.label) d.0 there) (label_found (pruned p) c.label d.0 there) in
        record {
          block = kept_block (reached p) c;
          there = there ∙ ap (λ (b : Block). Some b) is;
          label = refl;
          instrs = refl;
          term = refl;
          phis = λ from w.
              let y = kept_home m k f begin x layout part p blocks names from w in
              kept_entering (reached p) from.label (ap (is_flagged (reached p)) (ap label_of y.is) ∙ y.flagged) c.phis;
        }

    pub names_long : length (pruned p).names ≡ first_name s + (last - first_name s)
    names_long = ap length names ∙ names_are_long s part f ok f.names (last - first_name s) ok.base

    pub has_cuts : (b : Block) → IsListed b f.blocks → HasCuts s part f (pruned p) os b
    has_cuts b l =
        let y = among s part os (first_name s) last f.blocks (pieces_of s part os (first_name s) f.blocks) are_cut b l
        in
        let grown : first_name s ≤ last = blocks_grow s part os (first_name s) last f.blocks
        (pieces_of s part os (first_name s) f.blocks) are_cut in
        let low : first_name s ≤ y.start = y.low in
        let high : y.next ≤ last = y.high in
        let long : length (pruned p).names ≡ first_name s + (last - first_name s) = names_long in
        let base : s.base ≡ length f.names = ok.base in
        record {
          first = y.first;
          rest = y.rest;
          start = y.start;
          last = y.next;
          are = y.are;
          like = λ c w n. like c (in_pieces s part f c (y.there c w)) n;
          low = omega (arith, low, base);
          high = omega (arith, high, long, grown);
        }

    -- the first of them is one of the part's
    pub first_in : (b : Block) (l : IsListed b f.blocks) → IsListed (has_cuts b l).first (whole s part f)
    unfolding has_cuts
    first_in b l =
        let y = among s part os (first_name s) last f.blocks (pieces_of s part os (first_name s) f.blocks) are_cut b l
        in
        in_pieces s part f y.first (y.there y.first (inl refl))

    pub pruned_code : IsCutCode s part f (pruned p)
    pruned_code =
        record {
          origins = os;
          own = λ q b e. own_label k f x.rules.definitions q b e;
          known = λ b label l t. ok.known b label l t;
          pieces = has_cuts;
          done = λ n. like (done_block s) (done_there s part f) n;
          bare = end_bare;
          phis = λ d b l from to leads o. takes m k f begin x layout part d b l from to leads o;
        }

pub part_code : (m : Module) (k : ℕ) (f g : Function) (begin : ℕ) (layout : Layout) (part : Part)
    → IsSplittable m k f begin → IsPartOf (shape_of f layout) f part g → IsCutCode (shape_of f layout) part f g
part_code m k f g begin layout part x is =
    let y = pruned_part (shape_of f layout) part f g is in
    subst (IsCutCode (shape_of f layout) part f) (sym y.is) (pruned_code m k f begin x layout part y.before y.blocks
    y.names)
