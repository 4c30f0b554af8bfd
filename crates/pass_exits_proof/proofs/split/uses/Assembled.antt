-- The parts of a coroutine are cut up as the paths ask.
use Rattle.std.proofs.Common.{◌≡◌, inl, inr, ℕ, ◌+◌, ◌<◌, Bool, true, false, List, [], ◌∷◌, ◌++◌, length, sym, ap, ◌∙◌, subst}
use Rattle.std.specs.Prelude.{Some, filter, map, slice_get, if◌then◌else◌}
use Rattle.pass_split.specs.Parts.{back_blocks, done_block, head_blocks, later_head, origins_for, part_blocks}
use Rattle.pass_split.specs.Pieces.{comes_from, going_on, origin_in}
use Rattle.pass_split.specs.Reached.{is_flagged, kept_block, kept_blocks, reached}
use Rattle.pass_split.specs.declared.origin.Origin.{Origin}
use Rattle.pass_fetch_proof.proofs.ir_laws.paths.source_rules.Locals.{Apart, in_row, listed_right}
use Rattle.pass_fetch_proof.proofs.rule_laws.rules.source_rules.Locals.{block_names, own_label}
use Rattle.pass_fetch_proof.proofs.ir_laws.facts.Lists.{row_of, label_found}
use Rattle.pass_fetch_proof.specs.rule_uses.Undefined.{params_of}
use Rattle.pass_fetch_proof.specs.flow_solver.Paths.{IsListed}
use Rattle.pass_fetch_proof.specs.frame_layout.declared.layout.Layout.{Layout}
use Rattle.pass_fetch_proof.specs.pass_intrinsics.Cuts.{goes_on}
use Rattle.pass_fetch_proof.specs.pass_intrinsics.Shapes.{first_name, shape_of, suspends_of}
use Rattle.pass_fetch_proof.specs.pass_intrinsics.declared.shape.Part.{Part}
use Rattle.pass_fetch_proof.specs.pass_intrinsics.declared.shape.Shape.{Shape}
use Rattle.pass_fetch_proof.specs.pass_intrinsics.declared.shape.SuspendPoint.{SuspendPoint}
use Rattle.ir_model.specs.Names.{position_of}
use Rattle.ir_model.specs.declared.instr.Incoming.{Incoming}
use Rattle.ir_model.specs.declared.instr.Phi.{Phi}
use Rattle.ir_model.specs.declared.module.Block.{Block}
use Rattle.ir_model.specs.declared.module.Function.{Function}
use Rattle.ir_model.specs.declared.module.Module.{Module}
use Rattle.pass_exits_proof.proofs.split.edges.Cuttable.{HasBlock, IsCuttable}
use Rattle.pass_exits_proof.proofs.split.edges.Labels.{part_different}
use Rattle.pass_exits_proof.proofs.split.edges.Sources.{cuttable}
use Rattle.pass_exits_proof.proofs.split.uses.Groups.{block_at_group, groups, has_pieces, pieces_joined}
use Rattle.pass_fetch_proof.proofs.ir_laws.paths.uses.Groups.{joined, one_source, pieces_apart, source_of as group_of, source_there}
use Rattle.pass_exits_proof.proofs.split.uses.Origins.{from_piece, no_suspends, suspend_there}
use Rattle.pass_exits_proof.proofs.split.uses.Paths.{IsPieced, listed_found}
use Rattle.pass_fetch_proof.proofs.ir_laws.paths.uses.Paths.{place_of, there_listed}
use Rattle.pass_fetch_proof.proofs.rule_laws.frames.uses.PhiEdges.{phi_source}
use Rattle.pass_exits_proof.proofs.split.uses.Rules.{phi_plain, told}
use Rattle.pass_exits_proof.proofs.split.uses.Sources.{NoSuspends}
use Rattle.pass_fetch_proof.proofs.ir_laws.facts.uses.Sources.{label_of}
use Rattle.pass_exits_proof.proofs.split.uses.Walk.{IsCutUp}
use Rattle.pass_fetch_proof.proofs.ir_laws.paths.replaced.Known.{of_listed}
use Rattle.pass_fetch_proof.specs.rule_laws.frames.replaced.Splittable.{HasOwnEdges}
use Rattle.pass_exits_proof.specs.split.rules.Splittable.{IsSplittable}
use Rattle.pass_fetch_proof.proofs.rule_laws.rules.woven_rules.Once.{names_below}

module _ (m : Module) (k : ℕ) (f : Function) (begin : ℕ) (split : IsSplittable m k f begin) (layout : Layout) where
  abbrev pub s : Shape
  s = shape_of f layout

  module _ (part : Part) where
    abbrev pub h : Function
    h = f

    abbrev pub origins : List Origin
    origins = origins_for s part f

    abbrev pub head : List Block
    head = head_blocks s part f

    abbrev pub css : List (List Block)
    css = groups s part (origins_for s part f) (first_name s) f.blocks

    pub ok : IsCuttable (shape_of f layout) part f
    ok = cuttable m k f begin split layout part

    pub blocks_grouped : part_blocks s part h origins ≡ (head ++ joined css) ++ done_block s ∷ []
    blocks_grouped = ap (λ (cs : List Block). (head ++ cs) ++ done_block s ∷ []) (pieces_joined s part origins (first_name s) h.blocks)

    labels_apart : Apart (map label_of ((head ++ joined css) ++ done_block s ∷ []))
    labels_apart = subst (λ (bs : List Block). Apart (map label_of bs)) blocks_grouped (part_different s part h ok)

    pub own : (q : ℕ) (b : Block) → slice_get h.blocks q ≡ Some b → position_of h b.label ≡ q
    own q c e = own_label k f split.rules.definitions q c e

    pub has_block : (label : ℕ) → HasBlock h label → (c : Block) × ((slice_get h.blocks (position_of h label) ≡ Some c) × (c.label ≡ label))
    has_block label x =
        let y = listed_found h x.block x.listed in
        let got : slice_get h.blocks (position_of h label) ≡ Some y.0 = ap (λ (n : ℕ). slice_get h.blocks (position_of h n)) (sym x.has_label) ∙ y.1 in
        (y.0, (got, label_found h label y.0 got))

    pub cut : IsCutUp f f s part (origins_for s part f) (head_blocks s part f) (groups s part (origins_for s part f) (first_name s) f.blocks)
    cut =
        record {
          pieces = has_pieces s part origins (first_name s) h.blocks (pieces_apart head css (done_block s) labels_apart);
          told = λ q c got. told m k f begin split layout part q c got;
          there = λ q c label got l. has_block label (ok.known c label (there_listed h.blocks q c got) l);
          own = own;
          blocks = λ q cs e. block_at_group s part origins (first_name s) h.blocks q cs e;
          end = has_block s.end ok.end_there;
          one = one_source head css (done_block s) labels_apart;
        }

    -- ---- phis

    back_bare : (j : ℕ) (ps : List SuspendPoint) (c : Block) → IsListed c (back_blocks s part j ps) → c.phis ≡ []
    back_bare j [] c l = absurd l
    back_bare j (p ∷ ps) c (inl e) = ap (λ (b : Block). b.phis) e
    back_bare j (p ∷ ps) c (inr l) = back_bare (j + 1) ps c l

    head_bare : (c : Block) → IsListed c head → c.phis ≡ []
    head_bare c l = on (goes_on part) l
      where
        on : (b : Bool) → IsListed c (if b then later_head s (reached h) part h.blocks else []) → c.phis ≡ []
        on true (inl e) = ap (λ (b : Block). b.phis) e
        on true (inr (inl e)) = ap (λ (b : Block). b.phis) e
        on true (inr (inr x)) = back_bare 0 s.suspends c x
        on false x = absurd x

    none_listed : (ps : List Phi) (y : Phi) → ps ≡ [] → IsListed y ps → ⊥
    none_listed ps y e l = subst (IsListed y) e l

    -- where a part goes on behind a suspend no phis stand
    bare_behind : (p : SuspendPoint) (to q : ℕ) (b : Block) (y : Phi) → IsListed p (suspends_of f) → going_on part (Some p) ≡ Some to → slice_get f.blocks q ≡ Some b → to ≡ b.label → IsListed y b.phis → ⊥
    bare_behind p to q b y listed e got same l =
        let edges = of_listed (HasOwnEdges f) (suspends_of f) p split.edges listed in
        none_listed b.phis y (on part e edges) l
      where
        on : (x : Part) → going_on x (Some p) ≡ Some to → HasOwnEdges f p → b.phis ≡ []
        on Part.Ramp d edges = absurd (cc)
        on Part.GivenRamp d edges = absurd (cc)
        on Part.Resume d edges = let is : p.resume ≡ to = cc in edges.resume.phis q b got (sym same ∙ sym is)
        on Part.Destroy d edges = let is : p.destroy ≡ to = cc in edges.destroy.phis q b got (sym same ∙ sym is)
        on Part.Cleanup d edges = let is : p.destroy ≡ to = cc in edges.destroy.phis q b got (sym same ∙ sym is)

    origin_is : (q : ℕ) (c : Block) (y : Phi) (i : Incoming) (l : ℕ) → slice_get h.blocks q ≡ Some c → IsListed y c.phis → IsListed i y.incoming → comes_from s part c.label i.from (slice_get origins i.from) ≡ Some l → (q0 : ℕ) × ((b0 : Block) × ((slice_get h.blocks q0 ≡ Some b0) × ((b0.label ≡ i.from) × (NoSuspends b0.instrs × (origin_in s part (Origin.Piece b0.label) b0.instrs ≡ Origin.Piece l)))))
    origin_is q c y i l got phi incoming e =
        let d = phi_source k f split.rules.edges split.rules.definitions q c y i got phi incoming in
        let known : IsListed i.from (params_of f ++ row_of block_names f.blocks) = listed_right i.from (params_of f) (row_of block_names f.blocks) (in_row block_names f.blocks (position_of f i.from) i.from d.0 d.1.0 (inl (sym d.1.1.0))) in
        let low : i.from < length f.names = names_below k f split.rules.tabled i.from known in
        let z = from_piece s part (length h.names) h.blocks c.label i.from l low (λ p j stands to going is. bare_behind p to q c y (there_listed s.suspends j p stands) going got is phi) e in
        let at = place_of h.blocks z.0 z.1.0 in (
          at.0,
          (
            z.0,
            (
              at.1,
              (
                z.1.1.0,
                (
                  no_suspends z.0.instrs
                      (λ j m is.
                      let p = suspend_there f z.0 j z.1.0 m is in
                      z.1.1.1.1 p.0 p.1.0 (p.1.1 ∙ z.1.1.0)),
                  z.1.1.1.0,
                ),
              ),
            ),
          ),
        )

    pub pieced : (whole : Function) → whole.blocks ≡ part_blocks s part h origins → IsPieced f f s part (origins_for s part f) (head_blocks s part f) (groups s part (origins_for s part f) (first_name s) f.blocks) whole
    pieced whole same =
        let grouped : whole.blocks ≡ (head ++ joined css) ++ done_block s ∷ [] = same ∙ blocks_grouped in
        record {
          cut = cut;
          sources = λ c l. group_of head css (done_block s) labels_apart c (subst (IsListed c) grouped l);
          there = λ x c l. subst (IsListed c) (sym grouped) (source_there head css (done_block s) labels_apart x c l);
          bare = head_bare;
          origin = origin_is;
          plain = λ q c y i v got phi incoming local. phi_plain m k f begin split layout q c y i v got phi incoming local;
        }

-- ---- the entry stays

pub first_kept : (flags : List Bool) (c : Block) (rest : List Block) → is_flagged flags c.label ≡ true → slice_get (kept_blocks flags (c ∷ rest)) 0 ≡ Some (kept_block flags c)
first_kept flags c rest e = ap (λ (t : Bool). slice_get (map (kept_block flags) (if t then c ∷ filter (λ b. is_flagged flags b.label) rest else filter (λ b. is_flagged flags b.label) rest)) 0) e
