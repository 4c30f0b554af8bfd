-- A part that goes on behind a suspend returns nothing: behind a suspend of a coroutine the end comes before a return, and there the part has ended.
use Rattle.std.proofs.Common.{Bool, List, ap, arith, false, inl, inr, length, refl, subst, sym, true, ℕ, ⊎_elim, ◌+◌, ◌<◌, ◌∙◌, ◌∷◌, ◌≡◌, ◌≤◌, ◌⊎◌}
use Rattle.std.specs.Prelude.{None, Option, Some, if◌then◌else◌, map, option_map, slice_get}
use Rattle.pass_fetch_proof.specs.ir_base.declared.outcome.Place.{Place}
use Rattle.pass_split.specs.Parts.{goes_on_at, is_entered, or_zero, origins_for, part_names}
use Rattle.pass_split.specs.Pieces.{begins_again, going_on, pieced_phi, redirected, redirected_term, stop_label}
use Rattle.pass_split.specs.Reached.{entry_of, is_flagged, pruned, reached}
use Rattle.pass_fetch_proof.proofs.rule_laws.rules.path_rules.Holding.{part_none, to_parts}
use Rattle.pass_fetch_proof.proofs.rule_laws.rules.source_rules.Locals.{own_label}
use Rattle.pass_fetch_proof.specs.flow_solver.Paths.{IsListed}
use Rattle.pass_fetch_proof.specs.frame_layout.declared.layout.Layout.{Layout}
use Rattle.pass_fetch_proof.specs.ir_parts.Parts.{Ending, instr_place, parts_of}
use Rattle.pass_fetch_proof.specs.pass_intrinsics.Cuts.{cut_at, goes_on}
use Rattle.pass_fetch_proof.specs.pass_intrinsics.Shapes.{back_label, entry_label, has_end, is_end, shape_of}
use Rattle.pass_fetch_proof.specs.pass_intrinsics.declared.cuts.Cut.{Cut}
use Rattle.pass_fetch_proof.specs.pass_intrinsics.declared.shape.Part.{Part}
use Rattle.pass_fetch_proof.specs.pass_intrinsics.declared.shape.Shape.{Shape}
use Rattle.pass_fetch_proof.specs.pass_intrinsics.declared.shape.SuspendPoint.{SuspendPoint}
use Rattle.ir_model.specs.Names.{position_of}
use Rattle.ir_model.specs.declared.instr.Instr.{Instr}
use Rattle.ir_model.specs.declared.instr.Phi.{Phi}
use Rattle.ir_model.specs.declared.instr.Terminator.{Terminator}
use Rattle.ir_model.specs.declared.module.Block.{Block}
use Rattle.ir_model.specs.declared.module.Function.{Function}
use Rattle.ir_model.specs.declared.module.Module.{Module}
use Rattle.ir_model.specs.declared.operand.Arg.{Arg}
use Rattle.ir_model.specs.declared.operand.Callee.{Callee}
use Rattle.ir_model.specs.declared.operand.Intrinsic.{Intrinsic}
use Rattle.pass_fetch_proof.specs.ir_paths.Paths.{targets}
use Rattle.pass_fetch_proof.specs.ir_paths.Windows.{end_block}
use Rattle.pass_exits_proof.proofs.split.edges.Cuttable.{Begun, IsCuttable, IsPiece, IsPieceLabel, Passed, Saved, no_back, no_done, no_entry, no_none}
use Rattle.pass_exits_proof.proofs.split.edges.Entries.{IsEntryLabel, IsTargetKind, OfLater, OfRamp, ToAMark, ToBack, ToDone, ToNone, ToOld, edge_from, entry_is, entry_listed, first_block, found_passes, known_low, target_kind}
use Rattle.pass_exits_proof.proofs.split.edges.Kept.{kept_home}
use Rattle.pass_exits_proof.proofs.split.edges.Labels.{IsPartBlock, OfBack, OfDone, OfEntry, OfNone, OfPiece, is_mark, label_of_piece, mark_is_new, one_home, part_home, whole}
use Rattle.pass_exits_proof.proofs.split.edges.Led.{jumps_to}
use Rattle.pass_fetch_proof.proofs.ir_laws.paths.edges.Lists.{listed_at}
use Rattle.pass_fetch_proof.proofs.ir_laws.paths.uses.Paths.{place_of}
use Rattle.pass_exits_proof.proofs.split.edges.Pieces.{EndsAs, Never, Return, Stop, ToMark, Whole, block_marks, labels}
use Rattle.pass_fetch_proof.proofs.ir_laws.facts.Numbers.{label_of}
use Rattle.pass_exits_proof.proofs.split.edges.Rules.{begins_with_end, end_is, the_end}
use Rattle.pass_fetch_proof.proofs.rule_laws.frames.edges.Shaped.{ends_here, has_end_any, same_end}
use Rattle.pass_exits_proof.proofs.split.edges.Sources.{cuttable, pruned_part}
use Rattle.pass_exits_proof.proofs.split.edges.Targets.{goes_on_label, index_target, not_redirected, piece_ends, redirected_target}
use Rattle.pass_exits_proof.proofs.split.rules.Reached.{flagged_is_led}
use Rattle.pass_exits_proof.specs.split.rules.Parted.{IsPartOf}
use Rattle.pass_exits_proof.specs.split.rules.Pieced.{ArePieces, BeginsAgain, Ends, Marks, Returns, Stays, Suspends, Transfers}
use Rattle.pass_exits_proof.specs.split.rules.Reached.{Edge, Entry, IsLedTo}
use Rattle.pass_fetch_proof.specs.rule_laws.rules.replaced.Returns.{ReturnsNothing, gives_value}
use Rattle.pass_fetch_proof.specs.rule_laws.frames.replaced.Splittable.{Across, Here, LeadsToReturn, is_return}
use Rattle.pass_exits_proof.specs.split.rules.Splittable.{IsSplittable}
use Rattle.pass_fetch_proof.specs.frame_crossing.Paths.{IsOutside}

-- ---- the end's block in a part that goes on

module _ (s : Shape) (part : Part) (on_it : goes_on part ≡ true) where
  end_cut : (i : Instr) (is : List Instr) → is_end i ≡ true → cut_at s part i is ≡ Cut.Returns
  end_cut (Instr.Call r must_tail ty (Callee.Intrinsic Intrinsic.CoroEnd) args) is e = ap (λ (b : Bool). if b then Cut.Returns else Cut.Stays) on_it
  end_cut _ is e = absurd (cc)

  end_is_no_begin : (i : Instr) → is_end i ≡ true → begins_again part i ≡ false
  end_is_no_begin (Instr.Call r must_tail ty (Callee.Intrinsic Intrinsic.CoroEnd) args) e = ap (λ (b : Bool). if b then false else false) on_it
  end_is_no_begin _ e = absurd (cc)

  -- it is one piece, which returns
  end_piece : (t : Terminator) (label : ℕ) (phis : List Phi) (n last : ℕ) (js : List Instr) (cs : List Block) → ArePieces s part t label phis n js cs last → (i : Instr) (is : List Instr) → js ≡ i ∷ is → is_end i ≡ true → (c : Block) → IsListed c cs → c.term ≡ Terminator.Ret None
  end_piece t _ _ _ _ _ _ (Ends label n phis) i is same e c l = absurd (cc)
  end_piece t _ _ _ _ _ _ (Stays label n last phis j js d cs again cut rest) i is same e c l =
      let one : j ≡ i = cc in
      let both : Cut.Stays ≡ Cut.Returns = sym cut ∙ end_cut j js (ap is_end one ∙ e) in
      absurd (cc)
  end_piece t _ _ _ _ _ _ (Marks label n last mark phis j js cs again cut rest) i is same e c l =
      let one : j ≡ i = cc in
      let both : Cut.Marks mark ≡ Cut.Returns = sym cut ∙ end_cut j js (ap is_end one ∙ e) in
      absurd (cc)
  end_piece t _ _ _ _ _ _ (Suspends label n phis j js again cut) i is same e c l =
      let one : j ≡ i = cc in
      let both : Cut.Suspends ≡ Cut.Returns = sym cut ∙ end_cut j js (ap is_end one ∙ e) in
      absurd (cc)
  end_piece t _ _ _ _ _ _ (Returns label n phis j js again cut) i is same e c l = ⊎_elim (λ q. ap (λ (b : Block). b.term) q) (λ none. absurd none) l
  end_piece t _ _ _ _ _ _ (Transfers label n k phis j js again cut) i is same e c l =
      let one : j ≡ i = cc in
      let both : Cut.Transfers k ≡ Cut.Returns = sym cut ∙ end_cut j js (ap is_end one ∙ e) in
      absurd (cc)
  end_piece t _ _ _ _ _ _ (BeginsAgain label n phis j js again) i is same e c l =
      let one : j ≡ i = cc in
      let both : true ≡ false = sym again ∙ end_is_no_begin j (ap is_end one ∙ e) in
      absurd (cc)

-- ---- terminators

returns_before : (s : Shape) (t : Terminator) (a : Arg) → redirected_term s t ≡ Terminator.Ret (Some a) → is_return t ≡ true
returns_before s (Terminator.Ret value) a e = refl
returns_before s (Terminator.Jump label) a e = absurd (cc)
returns_before s (Terminator.Branch c x y) a e = absurd (cc)
returns_before s (Terminator.Switch arg default cases) a e = absurd (cc)
returns_before s Terminator.Unreachable a e = absurd (cc)

gives_none : (place : Place) (t : Terminator) → ((a : Arg) → t ≡ Terminator.Ret (Some a) → ⊥) → gives_value place (Ending t) ≡ false
gives_none place (Terminator.Ret None) h = refl
gives_none place (Terminator.Ret (Some a)) h = absurd (h a refl)
gives_none place (Terminator.Jump label) h = refl
gives_none place (Terminator.Branch c x y) h = refl
gives_none place (Terminator.Switch arg default cases) h = refl
gives_none place Terminator.Unreachable h = refl

pub is_reached : (flags : List Bool) (part : Part) (p : SuspendPoint) → is_entered flags part p ≡ true → is_flagged flags p.block ≡ true
is_reached flags part p e = on (is_flagged flags p.block) refl e
  where
    on : (b : Bool) → is_flagged flags p.block ≡ b → (if b then goes_on_at part p else false) ≡ true → is_flagged flags p.block ≡ true
    on true d e = d
    on false d e = absurd (cc)

later_source : (part : Part) (f : Function) → goes_on part ≡ true → f ≡ f
later_source Part.Ramp f e = absurd (cc)
later_source Part.Resume f e = refl
later_source Part.Destroy f e = refl
later_source Part.Cleanup f e = refl
later_source Part.GivenRamp f e = absurd (cc)

-- ---- the part

module _ (m : Module) (k : ℕ) (f : Function) (begin : ℕ) (x : IsSplittable m k f begin) (layout : Layout) (part : Part) (on_it : goes_on part ≡ true) where
  abbrev s : Shape
  s = shape_of f layout

  abbrev h : Function
  h = f

  ok : IsCuttable s part h
  ok = cuttable m k f begin x layout part

  in_f : (d : Block) → IsListed d h.blocks → IsListed d f.blocks
  in_f d l = subst (λ (q : Function). IsListed d q.blocks) (later_source part f on_it) l

  in_h : (d : Block) → IsListed d f.blocks → IsListed d h.blocks
  in_h d l = subst (λ (q : Function). IsListed d q.blocks) (sym (later_source part f on_it)) l

  -- where a block of the function stands
  stands : (d : Block) → IsListed d f.blocks → slice_get f.blocks (position_of f d.label) ≡ Some d
  stands d l = let q = place_of f.blocks d l in ap (slice_get f.blocks) (own_label k f x.rules.definitions q.0 d q.1) ∙ q.1

  -- ---- the end's block

  end_has : (d : Block) → IsListed d f.blocks → position_of f d.label ≡ end_block f → has_end d.instrs ≡ true
  end_has d l e = has_end_any d.instrs ∙ found_passes ends_here f.blocks (length f.blocks) d (omega arith) (ap (slice_get f.blocks) (sym e) ∙ stands d l)

  -- the block with the end's label stands there
  at_the_end : position_of f s.end ≡ end_block f
  at_the_end = on (slice_get f.blocks (end_block f)) refl (same_end f.blocks ∙ (the_end m k f begin x).is)
    where
      on : (o : Option Block) → slice_get f.blocks (end_block f) ≡ o → option_map label_of o ≡ Some (the_end m k f begin x).block.label → position_of f s.end ≡ end_block f
      on None e d = absurd (cc)
      on (Some b) e d =
          let same : b.label ≡ (the_end m k f begin x).block.label = cc in
          ap (position_of f) (end_is m k f begin x layout ∙ sym same) ∙ own_label k f x.rules.definitions (end_block f) b e

  returns_outside : (block : ℕ) → LeadsToReturn f block → IsOutside f block
  returns_outside block (Here _ b outside got is) = outside
  returns_outside block (Across _ label b outside got t more) = outside

  -- no return comes from the end
  not_from_end : LeadsToReturn f (position_of f s.end) → ⊥
  not_from_end r = returns_outside (position_of f s.end) r at_the_end

  -- a block that goes on, or gives a value, in the part is not the end's
  outside : (c : Block) (z : IsPiece s part (origins_for s part h) h.blocks (whole s part h) c) → (c.term ≡ Terminator.Ret None → ⊥) → IsOutside f (position_of f z.block.label)
  outside c z none e =
      let l : IsListed z.block f.blocks = in_f z.block z.listed in
      let y = begins_with_end m k f begin x z.block l (end_has z.block l e) in
      none
      (end_piece s part on_it z.block.term z.block.label (map (pieced_phi s part (origins_for s part h) z.block.label) z.block.phis) z.of.start z.of.last z.block.instrs z.of.pieces z.of.are y.first y.rest y.is y.is_end c z.piece)

  -- ---- labels of the part

  abbrev IsOf : ℕ → Block → Type 0
  IsOf label d = (label ≡ d.label) ⊎ IsListed label (block_marks s part d)

  kind_of : (label : ℕ) (d : Block) → IsListed d f.blocks → IsOf label d → IsPieceLabel s label
  kind_of label d l (inl e) = inl (subst (λ (n : ℕ). n < s.base) (sym e) (ok.low d (in_h d l)))
  kind_of label d l (inr n) = inr (is_mark s part h ok d (in_h d l) label n)

  -- an old label of a block is its own
  own_old : (label : ℕ) (d : Block) → IsListed d f.blocks → IsOf label d → label < s.base → label ≡ d.label
  own_old label d l (inl e) low = e
  own_old label d l (inr n) low = let high : s.base ≤ label = mark_is_new s part h ok d (in_h d l) label n in absurd (omega (arith, high, low))

  module _ (p : Function) (blocks : p.blocks ≡ whole s part h) (names : p.names ≡ part_names s part h (origins_for s part h)) where
    in_whole : (c : Block) → IsListed c p.blocks → IsListed c (whole s part h)
    in_whole c l = subst (λ (bs : List Block). IsListed c bs) blocks l

    pub entry_label_is : (label : ℕ) → IsListed label (entry_of p.blocks) → label ≡ entry_label s
    entry_label_is label l =
        let y = entry_listed p.blocks label l in
        let b = first_block m k f begin x layout part in
        on y.0.label (entry_is s part h b.0 y.0 b.1 (ap (λ (bs : List Block). slice_get bs 0) (sym blocks) ∙ y.1.0)) y.1.1
      where
        on : (v : ℕ) → IsEntryLabel s part h v → label ≡ v → label ≡ entry_label s
        on v (OfLater g a) q = q ∙ a
        on v (OfRamp a b n o) q = let both : true ≡ false = sym on_it ∙ a in absurd (cc)

    -- the back block of a suspend is reached where the suspend is
    back_entered : (label j : ℕ) (point : SuspendPoint) → IsLedTo p label → label ≡ back_label s j → slice_get s.suspends j ≡ Some point → IsLedTo f point.block
    back_entered label j point (Entry _ l) e d = let same : label ≡ entry_label s = entry_label_is label l in absurd (omega (arith, same, e))
    back_entered label j point (Edge from _ led l) e d =
        let y = edge_from p from label l in
        on (target_kind s part h ok y.block label (in_whole y.block y.listed) y.leads)
      where
        on : IsTargetKind s part h label → IsLedTo f point.block
        on (ToNone a) = absurd (omega (arith, a, e))
        on (ToBack i q n entered a) =
            let same : i ≡ j = omega (arith, a, e) in
            let both : Some q ≡ Some point = sym n ∙ ap (slice_get s.suspends) same ∙ d in
            let one : q ≡ point = cc in
            subst (λ (g : Function). IsLedTo g point.block) (later_source part f on_it)
            (flagged_is_led h point.block (is_reached (reached h) part point (subst (λ (r : SuspendPoint). is_entered (reached h) part r ≡ true) one entered)))
        on (ToDone a) = absurd (omega (arith, a, e))
        on (ToOld a) = absurd (omega (arith, a, e))
        on (ToAMark (Begun a)) = absurd (omega (arith, a, e))
        on (ToAMark (Saved i low a)) = absurd (omega (arith, a, e))
        on (ToAMark (Passed i low a)) = absurd (omega (arith, a, e))

    -- from no block of the function of which the part reaches a piece a path outside the end leads to a return
    led_ends : (label : ℕ) → IsLedTo p label → (d : Block) → IsListed d f.blocks → IsOf label d → LeadsToReturn f (position_of f d.label) → ⊥
    led_ends label (Entry _ l) d w q r = no_entry s label (kind_of label d w q) (entry_label_is label l)
    led_ends label (Edge from _ led l) d w q r =
        let y = edge_from p from label l in
        on y.block y.has_label y.leads (part_home s part h y.block (in_whole y.block y.listed)) (λ c n o t. led_ends from led c n o t)
      where
        kind : IsPieceLabel s label
        kind = kind_of label d w q

        -- an edge that doesn't go through the done block leads to the block's own label
        straight : (o : ℕ) → label ≡ redirected s o → o < s.base → d.label ≡ o
        straight o e low =
            let same : label ≡ o = e ∙ not_redirected s o (λ a. no_done s label kind (e ∙ a)) in
            sym (own_old label d w q (subst (λ (n : ℕ). n < s.base) (sym same) low)) ∙ same

        to_the_end : label ≡ s.end → ⊥
        to_the_end e =
            let low : s.end < s.base = known_low s part h ok s.end ok.end_there in
            let own : label ≡ d.label = own_old label d w q (subst (λ (n : ℕ). n < s.base) (sym e) low) in
            not_from_end (subst (λ (n : ℕ). LeadsToReturn f (position_of f n)) (sym own ∙ e) r)

        ends : (c : Block) → c.label ≡ from → IsListed label (targets c.term) → (z : IsPiece s part (origins_for s part h) h.blocks (whole s part h) c) → ((b : Block) → IsListed b f.blocks → IsOf from b → LeadsToReturn f (position_of f b.label) → ⊥) → EndsAs s part z.block.term z.block.instrs z.block.label (labels z.of.pieces) c.label c.term → ⊥
        ends c is t z again (Whole e o) =
            let u = redirected_target s z.block.term label (subst (λ (v : Terminator). IsListed label (targets v)) e t) in
            let own : d.label ≡ u.0 = straight u.0 u.1.1 (known_low s part h ok u.0 (ok.known z.block u.0 z.listed u.1.0)) in
            let there : IsListed z.block f.blocks = in_f z.block z.listed in
            again z.block there (subst (λ (n : ℕ). IsOf n z.block) is (label_of_piece s part h c z))
            (Across (position_of f z.block.label) u.0 z.block
            (outside c z (λ a. subst (λ (v : Terminator). IsListed label (targets v)) a t))
            (stands z.block there) u.1.0 (subst (λ (n : ℕ). LeadsToReturn f (position_of f n)) own r))
        ends c is t z again (ToMark mark n o e) =
            let same : label ≡ mark = jumps_to label mark c.term e t in
            let one : d ≡ z.block = one_home s part h ok label d z.block (in_h d w) z.listed q (inr (subst (λ (v : ℕ). IsListed v (block_marks s part z.block)) (sym same) n)) in
            again z.block (in_f z.block z.listed) (subst (λ (v : ℕ). IsOf v z.block) is (label_of_piece s part h c z)) (subst (λ (b : Block). LeadsToReturn f (position_of f b.label)) one r)
        ends c is t z again (Stop i n o e) = to_the_end (jumps_to label (stop_label z.block.term) c.term e t ∙ ok.stop z.block i z.listed n o)
        ends c is t z again (Return g e) = subst (λ (v : Terminator). IsListed label (targets v)) e t
        ends c is t z again (Never e) = subst (λ (v : Terminator). IsListed label (targets v)) e t

        behind : (point : SuspendPoint) → IsListed point s.suspends → IsLedTo f point.block → (d.label ≡ point.resume) ⊎ (d.label ≡ point.destroy) → ⊥
        behind point n reached_there (inl e) = (x.returns point n reached_there).resume (subst (λ (v : ℕ). LeadsToReturn f (position_of f v)) e r)
        behind point n reached_there (inr e) = (x.returns point n reached_there).destroy (subst (λ (v : ℕ). LeadsToReturn f (position_of f v)) e r)

        on : (c : Block) → c.label ≡ from → IsListed label (targets c.term) → IsPartBlock s part h c → ((b : Block) → IsListed b f.blocks → IsOf from b → LeadsToReturn f (position_of f b.label) → ⊥) → ⊥
        on c is t (OfEntry e a) again =
            ⊎_elim (λ n. no_none s label kind n) (λ y. no_back s label y.0 kind y.1.1.1.1) (index_target s (reached h) part label (subst (λ (b : Block). IsListed label (targets b.term)) a t))
        on c is t (OfNone e a) again = subst (λ (b : Block). IsListed label (targets b.term)) a t
        on c is t (OfBack e y) again =
            let same : label ≡ redirected s (or_zero (going_on part (Some y.point))) = jumps_to label (redirected s (or_zero (going_on part (Some y.point)))) c.term (ap (λ (b : Block). b.term) y.is) t in
            let there : IsListed y.point s.suspends = listed_at s.suspends y.number y.point y.stands in
            let led_there : IsLedTo f y.point.block = back_entered from y.number y.point led (sym is ∙ ap label_of y.is) y.stands in
            behind y.point there led_there
            (⊎_elim
            (λ a. inl (straight y.point.resume (same ∙ ap (redirected s) a) (known_low s part h ok y.point.resume (ok.resumes y.point there))))
            (λ a. inr (straight y.point.destroy (same ∙ ap (redirected s) a) (known_low s part h ok y.point.destroy (ok.destroys y.point there))))
            (goes_on_label part y.point on_it))
        on c is t (OfPiece z) again = ends c is t z again (piece_ends s part h ok c z)
        on c is t (OfDone a) again = to_the_end (jumps_to label s.end c.term (ap (λ (b : Block). b.term) a) t)

    -- a block that is reached gives no value
    gives_nothing : (c : Block) → IsListed c (whole s part h) → is_flagged (reached p) c.label ≡ true → (a : Arg) → c.term ≡ Terminator.Ret (Some a) → ⊥
    gives_nothing c l flagged a e = on (part_home s part h c l)
      where
        ends : (z : IsPiece s part (origins_for s part h) h.blocks (whole s part h) c) → EndsAs s part z.block.term z.block.instrs z.block.label (labels z.of.pieces) c.label c.term → ⊥
        ends z (Whole d o) =
            let there : IsListed z.block f.blocks = in_f z.block z.listed in
            led_ends c.label (flagged_is_led p c.label flagged) z.block there (label_of_piece s part h c z)
            (Here (position_of f z.block.label) z.block (outside c z (λ n. let both : Terminator.Ret None ≡ Terminator.Ret (Some a) = sym n ∙ e in absurd (cc))) (stands z.block there) (returns_before s z.block.term a (sym d ∙ e)))
        ends z (ToMark mark n o d) = let both : Terminator.Jump mark ≡ Terminator.Ret (Some a) = sym d ∙ e in absurd (cc)
        ends z (Stop i n o d) = let both : Terminator.Jump (stop_label z.block.term) ≡ Terminator.Ret (Some a) = sym d ∙ e in absurd (cc)
        ends z (Return g d) = let both : Terminator.Ret None ≡ Terminator.Ret (Some a) = sym d ∙ e in absurd (cc)
        ends z (Never d) = let both : Terminator.Unreachable ≡ Terminator.Ret (Some a) = sym d ∙ e in absurd (cc)

        on : IsPartBlock s part h c → ⊥
        on (OfEntry g d) = let both = sym (ap (λ (b : Block). b.term) d) ∙ e in absurd (cc)
        on (OfNone g d) = let both = sym (ap (λ (b : Block). b.term) d) ∙ e in absurd (cc)
        on (OfBack g y) = let both = sym (ap (λ (b : Block). b.term) y.is) ∙ e in absurd (cc)
        on (OfPiece z) = ends z (piece_ends s part h ok c z)
        on (OfDone d) = let both = sym (ap (λ (b : Block). b.term) d) ∙ e in absurd (cc)

    pub returns_nothing : (l : ℕ) → ReturnsNothing l (pruned p)
    returns_nothing l =
        part_none gives_value (parts_of l (pruned p)) (to_parts (λ z. gives_value z.0 z.1 ≡ false) l (pruned p) (record {
          signature = refl;
          blocks = λ at c there. record {
            head = refl;
            phis = λ j z e. refl;
            instrs = λ j i e. refl;
            ending =
                let w = kept_home m k f begin x layout part p blocks names c (listed_at (pruned p).blocks at c there) in
                gives_none (instr_place l at (length c.phis + length c.instrs)) c.term (λ a e. gives_nothing w.before w.listed w.flagged a (ap (λ (b : Block). b.term) (sym w.is) ∙ e));
          };
        }))

pub later_parts_return_nothing : (m : Module) (k l : ℕ) (layout : Layout) (part : Part) (begin : ℕ) (f g : Function) → IsSplittable m k f begin → IsPartOf (shape_of f layout) f part g → goes_on part ≡ true → ReturnsNothing l g
later_parts_return_nothing m k l layout part begin f g x is on_it =
    let y = pruned_part (shape_of f layout) part f g is in
    subst (ReturnsNothing l) (sym y.is) (returns_nothing m k f begin x layout part on_it y.before y.blocks y.names l)
