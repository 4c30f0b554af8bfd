-- Which blocks of a part lead to a block with phis: the pieces in which blocks of the function end that lead there.
use Rattle.std.proofs.Common.{Bool, List, ap, arith, false, inl, inr, refl, subst, sym, true, ℕ, ⊎_elim, ◌<◌, ◌∙◌, ◌≡◌, ◌≤◌, ◌⊎◌}
use Rattle.std.specs.Prelude.{Some, if◌then◌else◌, slice_get, ◌==◌}
use Rattle.pass_fetch_proof.specs.rule_shape.Suspends.{is_suspend}
use Rattle.pass_split.specs.Parts.{done_block, or_zero, origins_for}
use Rattle.pass_split.specs.Pieces.{comes_from, going_on, origin_in, redirected, redirected_term, stop_label}
use Rattle.pass_split.specs.Reached.{reached}
use Rattle.pass_split.specs.declared.origin.Origin.{Origin}
use Rattle.pass_fetch_proof.proofs.ir_laws.facts.Truth.{equal_numbers}
use Rattle.pass_fetch_proof.specs.rule_phis.Edges.{incoming_labels}
use Rattle.pass_fetch_proof.specs.flow_solver.Paths.{IsListed}
use Rattle.pass_fetch_proof.specs.frame_layout.declared.layout.Layout.{Layout}
use Rattle.pass_fetch_proof.specs.pass_intrinsics.Cuts.{goes_on}
use Rattle.pass_fetch_proof.specs.pass_intrinsics.Shapes.{back_label, done_label, none_label, shape_of}
use Rattle.pass_fetch_proof.specs.pass_intrinsics.declared.shape.Part.{Part}
use Rattle.pass_fetch_proof.specs.pass_intrinsics.declared.shape.Shape.{Shape}
use Rattle.pass_fetch_proof.specs.pass_intrinsics.declared.shape.SuspendPoint.{SuspendPoint}
use Rattle.ir_model.specs.declared.instr.Instr.{Instr}
use Rattle.ir_model.specs.declared.instr.Phi.{Phi}
use Rattle.ir_model.specs.declared.instr.Terminator.{Terminator}
use Rattle.ir_model.specs.declared.module.Block.{Block}
use Rattle.ir_model.specs.declared.module.Function.{Function}
use Rattle.ir_model.specs.declared.module.Module.{Module}
use Rattle.pass_fetch_proof.specs.ir_paths.Paths.{targets}
use Rattle.pass_exits_proof.proofs.split.edges.Cuttable.{IsCuttable, IsPiece}
use Rattle.pass_exits_proof.proofs.split.edges.Entered.{IsEntered, no_point}
use Rattle.pass_exits_proof.proofs.split.edges.Labels.{IsPartBlock, OfBack, OfDone, OfEntry, OfNone, OfPiece, block_pieces, mark_is_new, part_home, whole}
use Rattle.pass_fetch_proof.proofs.ir_laws.paths.edges.Lists.{listed_at}
use Rattle.pass_exits_proof.proofs.split.edges.Origins.{comes_from_piece, going, origin_there}
use Rattle.pass_exits_proof.proofs.split.edges.Pieces.{EndsAs, HasNoSuspend, Never, Return, Stop, ToMark, Whole, block_marks, labels, piece_label, whole_piece}
use Rattle.pass_fetch_proof.proofs.ir_laws.facts.Numbers.{label_of}
use Rattle.pass_exits_proof.proofs.split.edges.Sources.{cuttable}
use Rattle.pass_exits_proof.proofs.split.edges.Targets.{goes_on_label, index_target, not_redirected, piece_ends, redirected_target, to_redirected}
use Rattle.pass_fetch_proof.proofs.ir_laws.paths.replaced.Known.{listed_mapped}
use Rattle.pass_exits_proof.specs.split.rules.Splittable.{IsSplittable}

-- a jump leads to its label alone
pub jumps_to : (label l : ℕ) (t : Terminator) → t ≡ Terminator.Jump l → IsListed label (targets t) → label ≡ l
jumps_to label l t e n = ⊎_elim (λ same. same) (λ none. absurd none) (subst (λ (u : Terminator). IsListed label (targets u)) e n)

-- where an edge to an old label comes from in a piece
pub data LeadsOut (s : Shape) (part : Part) (b : Block) (label from : ℕ) : Type 0 where
  AsBefore : IsListed label (targets b.term) → origin_in s part (Origin.Piece b.label) b.instrs ≡ Origin.Piece from → LeadsOut s part b label from
  AtTheEnd : (i : Instr) → IsListed i b.instrs → is_suspend i ≡ true → label ≡ s.end → LeadsOut s part b label from

module _ (s : Shape) (part : Part) (h : Function) (ok : IsCuttable s part h) where
  -- a piece that leads to an old label is the one in which its block ends, or a suspend's
  pub leads_out : (c : Block) (x : IsPiece s part (origins_for s part h) h.blocks (whole s part h) c) (label : ℕ) → label < s.base → IsListed label (targets c.term) → LeadsOut s part x.block label c.label
  leads_out c x label low t = on (piece_ends s part h ok c x)
    where
      on : EndsAs s part x.block.term x.block.instrs x.block.label (labels x.of.pieces) c.label c.term → LeadsOut s part x.block label c.label
      on (Whole e o) =
          let r = redirected_target s x.block.term label (subst (λ (u : Terminator). IsListed label (targets u)) e t) in
          let back : redirected s r.0 ≡ r.0 = not_redirected s r.0 (λ d. let new : label ≡ done_label s = r.1.1 ∙ d in absurd (omega (arith, low, new))) in
          AsBefore (subst (λ (v : ℕ). IsListed v (targets x.block.term)) (sym (r.1.1 ∙ back)) r.1.0) o
      on (ToMark mark m k e) =
          let high : s.base ≤ mark = mark_is_new s part h ok x.block x.listed mark m in
          let same : label ≡ mark = jumps_to label mark c.term e t in
          absurd (omega (arith, high, same, low))
      on (Stop i m k e) = AtTheEnd i m k (jumps_to label (stop_label x.block.term) c.term e t ∙ ok.stop x.block i x.listed m k)
      on (Return g e) = absurd (subst (λ (u : Terminator). IsListed label (targets u)) e t)
      on (Never e) = absurd (subst (λ (u : Terminator). IsListed label (targets u)) e t)

  -- where an edge of the part to an old label comes from
  pub data LeadsOld (label : ℕ) (c : Block) : Type 0 where
    FromPiece : (x : IsPiece s part (origins_for s part h) h.blocks (whole s part h) c) → LeadsOut s part x.block label c.label → LeadsOld label c
    FromBack : goes_on part ≡ true → (p : SuspendPoint) → IsListed p s.suspends → (label ≡ p.resume) ⊎ (label ≡ p.destroy) → LeadsOld label c
    FromDone : c ≡ done_block s → label ≡ s.end → LeadsOld label c

  pub leads_old : (c : Block) (label : ℕ) → label < s.base → IsListed c (whole s part h) → IsListed label (targets c.term) → LeadsOld label c
  leads_old c label low l t = on (part_home s part h c l)
    where
      on : IsPartBlock s part h c → LeadsOld label c
      on (OfEntry e is) =
          ⊎_elim
          (λ (same : label ≡ none_label s). absurd (omega (arith, same, low)))
          (λ y. let same : label ≡ back_label s y.0 = y.1.1.1.1 in absurd (omega (arith, same, low)))
          (index_target s (reached h) part label (subst (λ (d : Block). IsListed label (targets d.term)) is t))
      on (OfNone e is) = absurd (subst (λ (d : Block). IsListed label (targets d.term)) is t)
      on (OfBack e y) =
          let same : label ≡ redirected s (or_zero (going_on part (Some y.point))) = jumps_to label (redirected s (or_zero (going_on part (Some y.point)))) c.term (ap (λ (d : Block). d.term) y.is) t in
          let back = not_redirected s (or_zero (going_on part (Some y.point))) (λ d. let new : label ≡ done_label s = same ∙ d in absurd (omega (arith, low, new))) in
          FromBack e y.point (listed_at s.suspends y.number y.point y.stands)
          (⊎_elim (λ d. inl (same ∙ back ∙ d)) (λ d. inr (same ∙ back ∙ d)) (goes_on_label part y.point e))
      on (OfPiece x) = FromPiece x (leads_out c x label low t)
      on (OfDone is) = FromDone is (jumps_to label s.end c.term (ap (λ (d : Block). d.term) is) t)

module _ (m : Module) (k : ℕ) (f : Function) (begin : ℕ) (x : IsSplittable m k f begin) (layout : Layout) (part : Part) where
  abbrev s : Shape
  s = shape_of f layout

  abbrev h : Function
  h = f

  abbrev os : List Origin
  os = origins_for s part h

  abbrev Entered : Block → Phi → Type 0
  Entered b y = IsEntered m k f begin x layout part b y

  ok : IsCuttable s part h
  ok = cuttable m k f begin x layout part

  -- the origin of a block without a suspend
  pub its_origin : (d : Block) → IsListed d h.blocks → HasNoSuspend d.instrs → slice_get os d.label ≡ Some (origin_in s part (Origin.Piece d.label) d.instrs)
  its_origin d l none = origin_there s part h d ok.different l (subst (λ (n : ℕ). d.label < n) ok.base (ok.low d l)) (no_point m k f begin x layout part d l none)

  module _ (b : Block) (y : Phi) (listed : IsListed b h.blocks) (e : Entered b y) where
    -- a block that leads to the phi's is the last piece of a block that its labels name
    pub record IsNamed (c : Block) : Type 0 where
      pub source : Block
      pub listed_source : IsListed source h.blocks
      pub named : IsListed source.label (incoming_labels y.incoming)
      pub origin : slice_get os source.label ≡ Some (Origin.Piece c.label)

    pub led_is_named : (c : Block) → IsListed c (whole s part h) → IsListed b.label (targets c.term) → IsNamed c
    led_is_named c l t = on (leads_old s part h ok c b.label (ok.low b listed) l t)
      where
        out : (z : IsPiece s part (origins_for s part h) h.blocks (whole s part h) c) → LeadsOut s part z.block b.label c.label → IsNamed c
        out z (AsBefore u o) = record {
          source = z.block;
          listed_source = z.listed;
          named = e.fits.to z.block z.listed u;
          origin = its_origin z.block z.listed (e.no_suspend z.block z.listed u) ∙ ap (λ (v : Origin). Some v) o;
        }
        out z (AtTheEnd i w u d) = absurd (e.no_end d)

        on : LeadsOld s part h ok b.label c → IsNamed c
        on (FromPiece z o) = out z o
        on (FromBack g p w d) = absurd (e.no_return p w d)
        on (FromDone g d) = absurd (e.no_end d)

    -- and the other way round
    pub record IsLast (n l : ℕ) : Type 0 where
      pub source : Block
      pub listed_source : IsListed source h.blocks
      pub is : n ≡ source.label
      pub origin : origin_in s part (Origin.Piece source.label) source.instrs ≡ Origin.Piece l
      pub piece : Block
      pub listed_piece : IsListed piece (whole s part h)
      pub has_label : piece.label ≡ l
      pub kind : (l ≡ source.label) ⊎ IsListed l (block_marks s part source)
      pub leads_there : IsListed b.label (targets piece.term)

    pub named_is_led : (n l : ℕ) → IsListed n (incoming_labels y.incoming) → comes_from s part b.label n (slice_get os n) ≡ Some l → IsLast n l
    named_is_led n l w c =
        let z = e.fits.from n w in
        let none = e.no_suspend z.block z.listed z.leads_there in
        let o : slice_get os n ≡ Some (origin_in s part (Origin.Piece z.block.label) z.block.instrs) = ap (slice_get os) z.is ∙ its_origin z.block z.listed none in
        let piece : origin_in s part (Origin.Piece z.block.label) z.block.instrs ≡ Origin.Piece l =
        comes_from_piece s part b.label n l (origin_in s part (Origin.Piece z.block.label) z.block.instrs) (going s part z.block.instrs z.block.label) (sym (ap (comes_from s part b.label n) o) ∙ c) in
        let ps = block_pieces s part h z.block z.listed in
        let last = whole_piece s part z.block.term z.block.label _ ps.start ps.last z.block.instrs ps.pieces ps.are none l piece in
        let old : redirected s b.label ≡ b.label = not_the_end (b.label == s.end) refl in
        record {
          source = z.block;
          listed_source = z.listed;
          is = z.is;
          origin = piece;
          piece = last.piece;
          listed_piece = ps.there last.piece last.listed;
          has_label = last.has_label;
          kind = subst (λ (v : ℕ). (v ≡ z.block.label) ⊎ IsListed v (block_marks s part z.block)) last.has_label
              (piece_label s part z.block.term z.block.label _ ps.start ps.last z.block.instrs ps.pieces ps.are last.piece.label (listed_mapped label_of ps.pieces last.piece last.listed));
          leads_there = subst (λ (t : Terminator). IsListed b.label (targets t)) (sym last.has_term) (subst (λ (v : ℕ). IsListed v (targets (redirected_term s z.block.term))) old (to_redirected s z.block.term b.label z.leads_there));
        }
      where
        not_the_end : (t : Bool) → (b.label == s.end) ≡ t → (if t then done_label s else b.label) ≡ b.label
        not_the_end true d = absurd (e.no_end (equal_numbers b.label s.end d))
        not_the_end false d = refl
