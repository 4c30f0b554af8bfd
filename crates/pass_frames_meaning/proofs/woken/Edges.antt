-- The label behind a suspend leads to a block on the edge, and the tables tell of which suspend. Cells stand in
-- front of the entry, without markers.
use Rattle.std.proofs.Common.{◌≡◌, ◌⊎◌, inl, inr, ⊎_elim, ℕ, zero, suc, ◌+◌, ◌<◌, Bool, true, false, List, [], ◌∷◌, length, replicate, Option, Some, None, refl, sym, ap, ◌∙◌, subst, arith}
use Rattle.std.proofs.lemmas.List.{length-replicate}
use Rattle.std.specs.Prelude.{slice_get, slice_set, unwrap_or}
use Rattle.pass_frames_proof.proofs.flow_solver.Lists.{listed_at as listed_there}
use Rattle.pass_frames_proof.specs.flow_solver.Paths.{IsListed}
use Rattle.pass_frames_proof.proofs.ir_laws.facts.Lists.{set_here, set_length, set_other}
use Rattle.pass_frames_proof.proofs.ir_laws.paths.crossing.Values.{listed_at}
use Rattle.pass_frames_proof.specs.ir_laws.paths.rows.Returns.{IsOwnBlock}
use Rattle.pass_frames_proof.specs.ir_laws.paths.woven_rules.Pairs.{AreDifferent}
use Rattle.pass_frames_proof.specs.ir_model.Names.{block_labelled, position_of}
use Rattle.pass_frames_proof.specs.ir_model.Ty.{Ty, int, ptr}
use Rattle.pass_frames_proof.specs.ir_model.declared.instr.Instr.{Instr}
use Rattle.pass_frames_proof.specs.ir_model.declared.module.Block.{Block}
use Rattle.pass_frames_proof.specs.ir_paths.Windows.{destroy_label, resume_label}
use Rattle.pass_frames_proof.specs.ir_paths.declared.point.Point.{Point}
use Rattle.pass_frames_proof.specs.pass_cells.Kept.{entry, joined}
use Rattle.pass_frames_proof.specs.pass_cells.Plan.{with_returns}
use Rattle.pass_frames_proof.specs.pass_copies.Slots.{resumed_at, set_resumed}
use Rattle.pass_frames_proof.specs.pass_copies.Uses.{flag_at}
use Rattle.pass_frames_proof.specs.pass_fetch.Fetching.{value_bytes}
use Rattle.pass_frames_meaning.proofs.woken.Fronts.{allocas}
use Rattle.pass_frames_meaning.proofs.woken.Listed.{listed_suspend}
use Rattle.pass_frames_meaning.specs.Setting.{Setting}
use Rattle.pass_frames_meaning.specs.Woken.{IsWakeable}
use Rattle.pass_frames_proof.proofs.code.Names.{has_cells}
use Rattle.pass_frames_proof.proofs.lines.Cells.{contained}
use Rattle.pass_frames_proof.proofs.lines.Names.{distance_of}
use Rattle.pass_frames_proof.proofs.lines.Results.{kept_is_cell}
use Rattle.pass_frames_proof.proofs.ramps.Allocas.{allocas_in_front}
use Rattle.pass_frames_proof.proofs.ramps.Behind.{cell_in, cell_size}
use Rattle.pass_frames_proof.specs.Entered.{IsEntryName}
use Rattle.pass_frames_proof.specs.Entering.{front_allocas}
use Rattle.pass_frames_proof.specs.Framings.{IsFraming}
use Rattle.pass_frames_proof.specs.Passes.{block_at, no_block}
use Rattle.pass_frames_proof.specs.Places.{Framing, copies, edged, plan}
use Rattle.pass_frames_proof.specs.Related.{IsSuspendNumber}
use Rattle.pass_frames_proof.specs.Waking.{HasEdgeBlock, IsCellMade}
use Rattle.pass_frames_proof.specs.pass_intrinsics.Shapes.{suspends_of}
use Rattle.pass_frames_proof.specs.pass_intrinsics.declared.shape.SuspendPoint.{SuspendPoint}
use Rattle.pass_frames_proof.proofs.pass_proofs.copies.begin_order.Marks.{flag_set, flag_stays}
use Rattle.pass_frames_proof.proofs.pass_proofs.frames.begin_order.Blocks.{label_low}
use Rattle.pass_frames_proof.specs.rule_laws.frames.rows.Returns.{HaveOwnReturns, return_labels}

-- ---- labels of suspends in tables

-- one of the two labels of a suspend
abbrev pub IsReturnOf : SuspendPoint → ℕ → Type 0
IsReturnOf s label = (label ≡ s.resume) ⊎ (label ≡ s.destroy)

pub return_listed : (ss : List SuspendPoint) (i : ℕ) (s : SuspendPoint) (label : ℕ) → slice_get ss i ≡ Some s
    → IsReturnOf s label → IsListed label (return_labels ss)
return_listed [] i s label e h = absurd (cc)
return_listed (x ∷ ss) zero s label e h =
    let same : s ≡ x = cc in
    ⊎_elim (λ a. inl (a ∙ ap (λ (y : SuspendPoint). y.resume) same))
    (λ a. inr (inl (a ∙ ap (λ (y : SuspendPoint). y.destroy) same))) h
return_listed (x ∷ ss) (suc i) s label e h = inr (inr (return_listed ss i s label e h))

untouched : (table : List (Option ℕ)) (j : ℕ) (ss : List SuspendPoint) (label : ℕ)
    → (IsListed label (return_labels ss) → ⊥) → entry (with_returns table j ss) label ≡ entry table label
untouched table j [] label none = refl
untouched table j (s ∷ ss) label none =
    untouched (slice_set (slice_set table s.resume (Some j)) s.destroy (Some j)) (j + 1) ss label
    (λ l. none (inr (inr l)))
    ∙ ap joined (set_other (slice_set table s.resume (Some j)) s.destroy label (Some j)
    (λ e. none (inr (inl (sym e)))))
    ∙ ap joined (set_other table s.resume label (Some j) (λ e. none (inl (sym e))))

told : (table : List (Option ℕ)) (j : ℕ) (ss : List SuspendPoint) (i : ℕ) (s : SuspendPoint) (label : ℕ)
    → slice_get ss i ≡ Some s → AreDifferent (return_labels ss) → IsReturnOf s label → label < length table
    → entry (with_returns table j ss) label ≡ Some (j + i)
told table j [] i s label e d h low = absurd (cc)
told table j (x ∷ ss) zero s label e d h low =
    let same : s ≡ x = cc in
    let here : j ≡ j + 0 = omega arith in
    ⊎_elim
    (λ a.
    let at : label ≡ x.resume = a ∙ ap (λ (y : SuspendPoint). y.resume) same in
    subst (λ (n : ℕ). entry (with_returns table j (x ∷ ss)) n ≡ Some (j + 0)) (sym at)
    (untouched (slice_set (slice_set table x.resume (Some j)) x.destroy (Some j)) (j + 1) ss x.resume
    (λ l. d.0 (inr l))
    ∙ ap joined (set_other (slice_set table x.resume (Some j)) x.destroy x.resume (Some j)
    (λ e'. d.0 (inl (sym e'))))
    ∙ ap joined (set_here table x.resume (Some j) (subst (λ (n : ℕ). n < length table) at low))
    ∙ ap Some here))
    (λ a.
    let at : label ≡ x.destroy = a ∙ ap (λ (y : SuspendPoint). y.destroy) same in
    let long = set_length table x.resume (Some j) in
    subst (λ (n : ℕ). entry (with_returns table j (x ∷ ss)) n ≡ Some (j + 0)) (sym at)
    (untouched (slice_set (slice_set table x.resume (Some j)) x.destroy (Some j)) (j + 1) ss x.destroy d.1.0
    ∙ ap joined (set_here (slice_set table x.resume (Some j)) x.destroy (Some j)
    (subst (λ (n : ℕ). n < length (slice_set table x.resume (Some j))) at
    (subst (λ (n : ℕ). label < n) (sym long) low)))
    ∙ ap Some here)) h
told table j (x ∷ ss) (suc i) s label e d h low =
    let long : length (slice_set (slice_set table x.resume (Some j)) x.destroy (Some j)) ≡ length table =
    set_length (slice_set table x.resume (Some j)) x.destroy (Some j) ∙ set_length table x.resume (Some j) in
    let here : j + 1 + i ≡ j + suc i = omega arith in
    told (slice_set (slice_set table x.resume (Some j)) x.destroy (Some j)) (j + 1) ss i s label e d.1.1 h
    (subst (λ (n : ℕ). label < n) (sym long) low)
    ∙ ap Some here

-- ---- labels with a flag

flags_stay : (flags : List Bool) (ss : List SuspendPoint) (label : ℕ) → flag_at flags label ≡ true
    → flag_at (set_resumed flags ss) label ≡ true
flags_stay flags [] label e = e
flags_stay flags (s ∷ ss) label e =
    flags_stay (slice_set (slice_set flags s.resume true) s.destroy true) ss label
    (flag_stays (slice_set flags s.resume true) s.destroy label (flag_stays flags s.resume label e))

flagged : (flags : List Bool) (ss : List SuspendPoint) (label : ℕ) → IsListed label (return_labels ss)
    → label < length flags → flag_at (set_resumed flags ss) label ≡ true
flagged flags [] label l low = absurd l
flagged flags (s ∷ ss) label (inl e) low =
    flags_stay (slice_set (slice_set flags s.resume true) s.destroy true) ss label
    (flag_stays (slice_set flags s.resume true) s.destroy label
    (subst (λ (n : ℕ). flag_at (slice_set flags n true) label ≡ true) e (flag_set flags label low)))
flagged flags (s ∷ ss) label (inr (inl e)) low =
    let long = set_length flags s.resume true in
    flags_stay (slice_set (slice_set flags s.resume true) s.destroy true) ss label
    (subst (λ (n : ℕ). flag_at (slice_set (slice_set flags s.resume true) n true) label ≡ true) e
    (flag_set (slice_set flags s.resume true) label (subst (λ (n : ℕ). label < n) (sym long) low)))
flagged flags (s ∷ ss) label (inr (inr l)) low =
    let long : length (slice_set (slice_set flags s.resume true) s.destroy true) ≡ length flags =
    set_length (slice_set flags s.resume true) s.destroy true ∙ set_length flags s.resume true in
    flagged (slice_set (slice_set flags s.resume true) s.destroy true) ss label l
    (subst (λ (n : ℕ). label < n) (sym long) low)

-- a position that leads to a block is the label's
labelled : (o : Option ℕ) (bs : List Block) (b : Block) → slice_get bs (unwrap_or o (length bs)) ≡ Some b
    → o ≡ Some (unwrap_or o (length bs))
labelled (Some k) bs b e = refl
labelled None bs b e = absurd (past bs b e)
  where
    past : (bs : List Block) (b : Block) → slice_get bs (length bs) ≡ Some b → ⊥
    past [] b e = cc
    past (c ∷ bs) b e = past bs b e

-- ---- a coroutine

module _ (c : Setting) (func : ℕ) (is : IsFraming (c.b.framing func)) (w : IsWakeable c func (c.b.framing func))
    (own : HaveOwnReturns (edged (c.b.framing func))) where
  abbrev x : Framing
  x = c.b.framing func

  -- the label of a resume or destroy edge of a suspend
  pub record IsLabelOf (label order : ℕ) : Type 0 where
    pub suspend : SuspendPoint
    pub there : slice_get (suspends_of (edged x)) order ≡ Some suspend
    pub of : IsReturnOf suspend label

  pub resume_of : (j : ℕ) (p : Point) → IsSuspendNumber x j p → IsLabelOf (resume_label (edged x) p) j
  resume_of j p n =
      let z = listed_suspend x j p n in record { suspend = z.suspend; there = z.there; of = inl z.resume }

  pub destroy_of : (j : ℕ) (p : Point) → IsSuspendNumber x j p → IsLabelOf (destroy_label (edged x) p) j
  destroy_of j p n =
      let z = listed_suspend x j p n in record { suspend = z.suspend; there = z.there; of = inr z.destroy }

  module _ (label order : ℕ) (h : IsLabelOf label order) where
    is_listed : IsListed label (return_labels (suspends_of (edged x)))
    is_listed = return_listed (suspends_of (edged x)) order h.suspend label h.there h.of

    block : IsOwnBlock (edged x) label
    block = own.own label is_listed

    low : label < length (edged x).names
    low = subst (λ (n : ℕ). n < length (edged x).names) block.is_label
        (label_low x.code is.position (edged x) is.frameable.rules (position_of (edged x) label) block.block block.got)

    pub returns_there : entry (plan x).returns label ≡ Some order
    returns_there =
        let long = length-replicate (length (edged x).names) None in
        told (replicate (length (edged x).names) None) 0 (suspends_of (edged x)) order h.suspend label h.there
        own.different h.of (subst (λ (n : ℕ). label < n) (sym long) low)
        ∙ ap Some zero_more
      where
        zero_more : 0 + order ≡ order
        zero_more = omega arith

    flag : flag_at (resumed_at (edged x)) label ≡ true
    flag =
        let long = length-replicate (length (edged x).names) false in
        flagged (replicate (length (edged x).names) false) (suspends_of (edged x)) label is_listed
        (subst (λ (n : ℕ). label < n) (sym long) low)

    abbrev k : ℕ
    k = position_of (edged x) label

    same_block : block_at (edged x) k ≡ block.block
    same_block = ap (λ (o : Option Block). unwrap_or o no_block) block.got

    label_is : (block_at (edged x) k).label ≡ label
    label_is = ap (λ (b : Block). b.label) same_block ∙ block.is_label

    later : k ≡ 0 → ⊥
    later e =
        let away = is.frameable.cells.returns h.suspend
        (listed_there (suspends_of (edged x)) order h.suspend h.there) in
        ⊎_elim (λ a. away.resume (ap (position_of (edged x)) (sym a) ∙ e))
        (λ a. away.destroy (ap (position_of (edged x)) (sym a) ∙ e)) h.of

    made : (cell : ℕ) (ty : Ty) → IsEntryName x cell
        → IsListed (Instr.Alloca cell ty (value_bytes ty)) (front_allocas x) → IsCellMade x cell ty
    made cell ty name l =
        let z = listed_at (front_allocas x) (Instr.Alloca cell ty (value_bytes ty)) l in
        record {
          position = z.0;
          align = value_bytes ty;
          there = z.1;
          unmarked = (allocas c func x is w).unmarked cell name;
          aligned = omega arith;
        }

    pub edge_block : HasEdgeBlock c.b func label order
    edge_block = record {
      block = k;
      labelled = labelled (block_labelled (edged x) label) (edged x).blocks block.block block.got;
      there = block.got ∙ ap Some (sym same_block);
      later = later;
      no_phis = ap (λ (b : Block). b.phis) same_block ∙ block.no_phis;
      returned = ap (flag_at (resumed_at (edged x))) label_is ∙ flag;
      behind = ap (entry (plan x).returns) label_is ∙ returns_there;
      sizes = λ v kept told. cell_size c.b.framed_code kept.ty (has_cells x is told.number kept told.there).ty;
      sized_words = (refl, refl);
      values = λ v kept told.
          made kept.cell kept.ty (inl (kept_is_cell x is v kept told))
          ((allocas_in_front x is w.entry).values v kept told);
      distances = λ v cell told.
          made cell (int 64) (inl (distance_of x is v cell told))
          ((allocas_in_front x is w.entry).distances v cell told);
      wheres = λ s e.
          made s.cell ptr (inr (cell_in (copies x).slots s (contained (copies x).slots s e)))
          ((allocas_in_front x is w.entry).wheres s e);
    }
