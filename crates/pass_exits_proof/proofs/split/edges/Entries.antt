-- The entry block of a part: no edge of a block that is reached leads to it.
use Rattle.std.proofs.Common.{Bool, List, [], ap, arith, false, inl, inr, length, refl, subst, suc, sym, true, ℕ, ⊎_elim, ◌++◌, ◌<◌, ◌∙◌, ◌∷◌, ◌≡◌, ◌≤◌, ◌⊎◌}
use Rattle.std.specs.Prelude.{None, Option, Some, filter, if◌then◌else◌, map, option_map, slice_get, unwrap_or, ◌==◌}
use Rattle.pass_split.specs.Parts.{done_block, entry_block, is_entered, or_zero, origins_for, part_names}
use Rattle.pass_split.specs.Pieces.{going_on, pieced_phi, redirected, stop_label}
use Rattle.pass_split.specs.Reached.{entry_of, is_flagged, kept_block, kept_blocks, reached, targets_at, targets_in}
use Rattle.pass_split.specs.declared.origin.Origin.{Origin}
use Rattle.pass_fetch_proof.specs.rule_uses.Undefined.{Entry as WithoutEntry}
use Rattle.pass_fetch_proof.specs.rule_uses.Uses.{made_by_phis, phi_values}
use Rattle.pass_fetch_proof.proofs.ir_laws.facts.Truth.{equal_numbers}
use Rattle.pass_fetch_proof.proofs.ir_laws.facts.Lists.{get_within}
use Rattle.pass_fetch_proof.specs.flow_solver.Paths.{IsListed}
use Rattle.pass_fetch_proof.specs.frame_layout.declared.layout.Layout.{Layout}
use Rattle.pass_fetch_proof.specs.pass_intrinsics.Cuts.{goes_on}
use Rattle.pass_fetch_proof.specs.pass_intrinsics.Shapes.{back_label, done_label, entry_label, has_end, is_end, none_label, shape_of}
use Rattle.pass_fetch_proof.specs.pass_intrinsics.declared.shape.Part.{Part}
use Rattle.pass_fetch_proof.specs.pass_intrinsics.declared.shape.Shape.{Shape}
use Rattle.pass_fetch_proof.specs.pass_intrinsics.declared.shape.SuspendPoint.{SuspendPoint}
use Rattle.ir_model.specs.Names.{first_where, position_of}
use Rattle.ir_model.specs.declared.instr.Instr.{Instr}
use Rattle.ir_model.specs.declared.instr.Phi.{Phi}
use Rattle.ir_model.specs.declared.instr.Terminator.{Terminator}
use Rattle.ir_model.specs.declared.module.Block.{Block}
use Rattle.ir_model.specs.declared.module.Function.{Function}
use Rattle.ir_model.specs.declared.module.Module.{Module}
use Rattle.ir_model.specs.declared.operand.Callee.{Callee}
use Rattle.ir_model.specs.declared.operand.Intrinsic.{Intrinsic}
use Rattle.pass_fetch_proof.specs.ir_paths.Paths.{targets}
use Rattle.pass_exits_proof.proofs.split.edges.Cuttable.{Begun, HasBlock, IsCuttable, IsMark, IsPiece, Passed, Saved, mark_not_old, no_back, no_done, no_none}
use Rattle.pass_exits_proof.proofs.split.edges.Entered.{entry_alone}
use Rattle.pass_exits_proof.proofs.split.edges.Labels.{IsPartBlock, OfBack, OfDone, OfEntry, OfNone, OfPiece, are_cut, is_mark, part_home, whole}
use Rattle.pass_exits_proof.proofs.split.edges.Led.{AsBefore, AtTheEnd, FromBack, FromDone, FromPiece, LeadsOld, LeadsOut, jumps_to, leads_old}
use Rattle.pass_fetch_proof.proofs.ir_laws.paths.edges.Lists.{listed_at, one_numbered}
use Rattle.pass_exits_proof.proofs.split.edges.Pieces.{EndsAs, HasHead, Never, Return, Stop, ToMark, Whole, block_marks, head_is, labels}
use Rattle.pass_fetch_proof.proofs.ir_laws.facts.Numbers.{label_of}
use Rattle.pass_exits_proof.proofs.split.edges.Rules.{begins_with_end, end_is, labels_different, returned_target, stopped, the_end}
use Rattle.pass_fetch_proof.proofs.rule_laws.frames.edges.Shaped.{point_home}
use Rattle.pass_exits_proof.proofs.split.edges.Sources.{cuttable}
use Rattle.pass_exits_proof.proofs.split.edges.Targets.{goes_on_label, index_target, part_tabled, piece_ends, redirected_target}
use Rattle.pass_exits_proof.proofs.split.rules.Reached.{led_is_flagged}
use Rattle.pass_exits_proof.specs.split.rules.Pieced.{ArePiecesOf, NoBlock, OneBlock}
use Rattle.pass_exits_proof.specs.split.rules.Reached.{Entry}
use Rattle.pass_fetch_proof.specs.rule_laws.rules.replaced.Splittable.{AreBegun, AreBlocksBegun}
use Rattle.pass_exits_proof.specs.split.rules.Splittable.{IsSplittable}
use Rattle.pass_fetch_proof.specs.ir_laws.facts.replaced.Splittable.{asks_begin}

-- ---- where edges lead to new labels

-- an edge that goes through the done block leads to the end
pub through_done : (s : Shape) (l : ℕ) → l < s.base → redirected s l ≡ done_label s → l ≡ s.end
through_done s l low e = on (l == s.end) refl e
  where
    on : (b : Bool) → (l == s.end) ≡ b → (if b then done_label s else l) ≡ done_label s → l ≡ s.end
    on true d e = equal_numbers l s.end d
    on false d e = absurd (omega (arith, e, low))

-- an edge leads through the done block, or to an old label
pub old_or_done : (s : Shape) (l : ℕ) → l < s.base → (redirected s l ≡ done_label s) ⊎ (redirected s l < s.base)
old_or_done s l low = on (l == s.end)
  where
    on : (b : Bool) → ((if b then done_label s else l) ≡ done_label s) ⊎ ((if b then done_label s else l) < s.base)
    on true = inl refl
    on false = inr low

-- what a label is to which an edge of a part leads
pub data IsTargetKind (s : Shape) (part : Part) (h : Function) (label : ℕ) : Type 0 where
  ToNone : label ≡ none_label s → IsTargetKind s part h label
  ToBack : (j : ℕ) (p : SuspendPoint) → slice_get s.suspends j ≡ Some p → is_entered (reached h) part p ≡ true → label ≡ back_label s j → IsTargetKind s part h label
  ToDone : label ≡ done_label s → IsTargetKind s part h label
  ToOld : label < s.base → IsTargetKind s part h label
  ToAMark : IsMark s label → IsTargetKind s part h label

module _ (s : Shape) (part : Part) (h : Function) (ok : IsCuttable s part h) where
  pub known_low : (label : ℕ) → HasBlock h label → label < s.base
  known_low label x = subst (λ (n : ℕ). n < s.base) x.has_label (ok.low x.block x.listed)

  by_redirection : (label l : ℕ) → l < s.base → label ≡ redirected s l → IsTargetKind s part h label
  by_redirection label l low e = ⊎_elim (λ d. ToDone (e ∙ d)) (λ (d : redirected s l < s.base). ToOld (subst (λ (n : ℕ). n < s.base) (sym e) d)) (old_or_done s l low)

  pub target_kind : (c : Block) (label : ℕ) → IsListed c (whole s part h) → IsListed label (targets c.term) → IsTargetKind s part h label
  target_kind c label l t = on (part_home s part h c l)
    where
      ends : (x : IsPiece s part (origins_for s part h) h.blocks (whole s part h) c) → EndsAs s part x.block.term x.block.instrs x.block.label (labels x.of.pieces) c.label c.term → IsTargetKind s part h label
      ends x (Whole e o) =
          let r = redirected_target s x.block.term label (subst (λ (u : Terminator). IsListed label (targets u)) e t) in
          by_redirection label r.0 (known_low r.0 (ok.known x.block r.0 x.listed r.1.0)) r.1.1
      ends x (ToMark mark m k e) = ToAMark (subst (IsMark s) (sym (jumps_to label mark c.term e t)) (is_mark s part h ok x.block x.listed mark m))
      ends x (Stop i m k e) = ToOld (subst (λ (n : ℕ). n < s.base) (sym (jumps_to label (stop_label x.block.term) c.term e t ∙ ok.stop x.block i x.listed m k)) (known_low s.end ok.end_there))
      ends x (Return g e) = absurd (subst (λ (u : Terminator). IsListed label (targets u)) e t)
      ends x (Never e) = absurd (subst (λ (u : Terminator). IsListed label (targets u)) e t)

      on : IsPartBlock s part h c → IsTargetKind s part h label
      on (OfEntry e is) = ⊎_elim (λ d. ToNone d) (λ y. ToBack y.0 y.1.0 y.1.1.0 y.1.1.1.0 y.1.1.1.1) (index_target s (reached h) part label (subst (λ (d : Block). IsListed label (targets d.term)) is t))
      on (OfNone e is) = absurd (subst (λ (d : Block). IsListed label (targets d.term)) is t)
      on (OfBack e y) =
          let same : label ≡ redirected s (or_zero (going_on part (Some y.point))) = jumps_to label (redirected s (or_zero (going_on part (Some y.point)))) c.term (ap (λ (d : Block). d.term) y.is) t in
          let there : IsListed y.point s.suspends = listed_at s.suspends y.number y.point y.stands in
          ⊎_elim
          (λ d. by_redirection label y.point.resume (known_low y.point.resume (ok.resumes y.point there)) (same ∙ ap (redirected s) d))
          (λ d. by_redirection label y.point.destroy (known_low y.point.destroy (ok.destroys y.point there)) (same ∙ ap (redirected s) d))
          (goes_on_label part y.point e)
      on (OfPiece x) = ends x (piece_ends s part h ok c x)
      on (OfDone is) = ToOld (subst (λ (n : ℕ). n < s.base) (sym (jumps_to label s.end c.term (ap (λ (d : Block). d.term) is) t)) (known_low s.end ok.end_there))

  -- no edge leads to the label at which a part goes on
  pub not_to_entry : (label : ℕ) → IsTargetKind s part h label → label ≡ entry_label s → ⊥
  not_to_entry label (ToNone d) e = absurd (omega (arith, d, e))
  not_to_entry label (ToBack j p stands entered d) e = absurd (omega (arith, d, e))
  not_to_entry label (ToDone d) e = absurd (omega (arith, d, e))
  not_to_entry label (ToOld d) e = absurd (omega (arith, d, e))
  not_to_entry label (ToAMark (Begun d)) e = absurd (omega (arith, d, e))
  not_to_entry label (ToAMark (Saved j low d)) e = absurd (omega (arith, d, e))
  not_to_entry label (ToAMark (Passed j low d)) e = absurd (omega (arith, d, e))

  -- an edge to a mark comes from a piece of the block that has it
  pub record IsMarkFrom (c : Block) (label : ℕ) : Type 0 where
    pub source : IsPiece s part (origins_for s part h) h.blocks (whole s part h) c
    pub marks : IsListed label (block_marks s part source.block)

  pub mark_from : (c : Block) (label : ℕ) → IsListed c (whole s part h) → IsListed label (targets c.term) → IsMark s label → IsMarkFrom c label
  mark_from c label l t mark = on (part_home s part h c l)
    where
      old : (v : ℕ) → HasBlock h v → label ≡ v → ⊥
      old v b e = mark_not_old s label mark (subst (λ (n : ℕ). n < s.base) (sym e) (known_low v b))

      redirected_old : (v : ℕ) → HasBlock h v → label ≡ redirected s v → ⊥
      redirected_old v b e = ⊎_elim (λ d. no_done s label (inr mark) (e ∙ d)) (λ (d : redirected s v < s.base). mark_not_old s label mark (subst (λ (n : ℕ). n < s.base) (sym e) d)) (old_or_done s v (known_low v b))

      ends : (x : IsPiece s part (origins_for s part h) h.blocks (whole s part h) c) → EndsAs s part x.block.term x.block.instrs x.block.label (labels x.of.pieces) c.label c.term → IsMarkFrom c label
      ends x (Whole e o) =
          let r = redirected_target s x.block.term label (subst (λ (u : Terminator). IsListed label (targets u)) e t) in
          absurd (redirected_old r.0 (ok.known x.block r.0 x.listed r.1.0) r.1.1)
      ends x (ToMark v m k e) = record { source = x; marks = subst (λ (u : ℕ). IsListed u (block_marks s part x.block)) (sym (jumps_to label v c.term e t)) m }
      ends x (Stop i m k e) = absurd (old s.end ok.end_there (jumps_to label (stop_label x.block.term) c.term e t ∙ ok.stop x.block i x.listed m k))
      ends x (Return g e) = absurd (subst (λ (u : Terminator). IsListed label (targets u)) e t)
      ends x (Never e) = absurd (subst (λ (u : Terminator). IsListed label (targets u)) e t)

      on : IsPartBlock s part h c → IsMarkFrom c label
      on (OfEntry e is) = absurd (⊎_elim (λ d. no_none s label (inr mark) d) (λ y. no_back s label y.0 (inr mark) y.1.1.1.1) (index_target s (reached h) part label (subst (λ (d : Block). IsListed label (targets d.term)) is t)))
      on (OfNone e is) = absurd (subst (λ (d : Block). IsListed label (targets d.term)) is t)
      on (OfBack e y) =
          let same : label ≡ redirected s (or_zero (going_on part (Some y.point))) = jumps_to label (redirected s (or_zero (going_on part (Some y.point)))) c.term (ap (λ (d : Block). d.term) y.is) t in
          let there : IsListed y.point s.suspends = listed_at s.suspends y.number y.point y.stands in
          absurd
          (⊎_elim
          (λ d. redirected_old y.point.resume (ok.resumes y.point there) (same ∙ ap (redirected s) d))
          (λ d. redirected_old y.point.destroy (ok.destroys y.point there) (same ∙ ap (redirected s) d))
          (goes_on_label part y.point e))
      on (OfPiece x) = ends x (piece_ends s part h ok c x)
      on (OfDone is) = absurd (old s.end ok.end_there (jumps_to label s.end c.term (ap (λ (d : Block). d.term) is) t))

-- ---- the first block

-- the entry of a part that goes on is its own, and that of the ramp is the function's
pub data IsEntryLabel (s : Shape) (part : Part) (h : Function) (label : ℕ) : Type 0 where
  OfLater : goes_on part ≡ true → label ≡ entry_label s → IsEntryLabel s part h label
  OfRamp : goes_on part ≡ false → (b : Block) → slice_get h.blocks 0 ≡ Some b → label ≡ b.label → IsEntryLabel s part h label

first_cut : (s : Shape) (part : Part) (os : List Origin) (n last : ℕ) (bs cs more : List Block) → ArePiecesOf s part os n bs cs last → (b : Block) → slice_get bs 0 ≡ Some b → (e : Block) → slice_get (cs ++ more) 0 ≡ Some e → e.label ≡ b.label
first_cut s part os _ _ _ _ more (NoBlock n) b d e g = absurd (cc)
first_cut s part os _ _ _ _ more (OneBlock n next last c bs cs ds k rest) b d e g = on cs (head_is s part c.term c.label (map (pieced_phi s part os c.label) c.phis) n next c.instrs cs k) g
  where
    same : c ≡ b
    same = cc

    on : (xs : List Block) → HasHead s part c.label (map (pieced_phi s part os c.label) c.phis) xs → slice_get ((xs ++ ds) ++ more) 0 ≡ Some e → e.label ≡ b.label
    on [] k g = absurd k
    on (x ∷ xs) k g = let is : x ≡ e = cc in ap label_of (sym is) ∙ k.0 ∙ ap label_of same

pub entry_is : (s : Shape) (part : Part) (h : Function) (b e : Block) → slice_get h.blocks 0 ≡ Some b → slice_get (whole s part h) 0 ≡ Some e → IsEntryLabel s part h e.label
entry_is s Part.Ramp h b e d g = OfRamp refl b d (first_cut s Part.Ramp _ _ _ h.blocks _ (done_block s ∷ []) (are_cut s Part.Ramp h) b d e g)
entry_is s Part.GivenRamp h b e d g = OfRamp refl b d (first_cut s Part.GivenRamp _ _ _ h.blocks _ (done_block s ∷ []) (are_cut s Part.GivenRamp h) b d e g)
entry_is s Part.Resume h b e d g = let same : entry_block s (reached h) Part.Resume h.blocks ≡ e = cc in OfLater refl (ap label_of (sym same))
entry_is s Part.Destroy h b e d g = let same : entry_block s (reached h) Part.Destroy h.blocks ≡ e = cc in OfLater refl (ap label_of (sym same))
entry_is s Part.Cleanup h b e d g = let same : entry_block s (reached h) Part.Cleanup h.blocks ≡ e = cc in OfLater refl (ap label_of (sym same))

-- ---- labels and the blocks that have them

-- what a search ends at passes its test
pub found_passes : (test : Block → Bool) (bs : List Block) (out : ℕ) (b : Block) → length bs ≤ out → slice_get bs (unwrap_or (first_where test bs) out) ≡ Some b → test b ≡ true
found_passes test [] out b high e = absurd (cc)
found_passes test (c ∷ bs) out b high e = on (test c) refl (first_where test bs) refl e (λ d. found_passes test bs (length bs) b (omega arith) d)
  where
    on : (t : Bool) → test c ≡ t → (o : Option ℕ) → first_where test bs ≡ o → slice_get (c ∷ bs) (unwrap_or (if t then Some 0 else option_map suc o) out) ≡ Some b → (slice_get bs (unwrap_or (first_where test bs) (length bs)) ≡ Some b → test b ≡ true) → test b ≡ true
    on true d o h e again = let is_one : c ≡ b = cc in ap test (sym is_one) ∙ d
    on false d (Some k) h e again = again (ap (λ (o : Option ℕ). slice_get bs (unwrap_or o (length bs))) h ∙ e)
    on false d None h e again = let low : out < length (c ∷ bs) = get_within (c ∷ bs) out b e in absurd (omega (arith, low, high))

pub label_found : (p : Function) (label : ℕ) (b : Block) → slice_get p.blocks (position_of p label) ≡ Some b → b.label ≡ label
label_found p label b e = equal_numbers b.label label (found_passes (λ (c : Block). c.label == label) p.blocks (length p.blocks) b (omega arith) e)

-- an edge from a label comes from the block that has it
pub record ComesFrom (p : Function) (from label : ℕ) : Type 0 where
  pub block : Block
  pub listed : IsListed block p.blocks
  pub has_label : block.label ≡ from
  pub leads : IsListed label (targets block.term)

pub edge_from : (p : Function) (from label : ℕ) → IsListed label (targets_at p from) → ComesFrom p from label
edge_from p from label l = on (slice_get p.blocks (position_of p from)) refl l
  where
    on : (o : Option Block) → slice_get p.blocks (position_of p from) ≡ o → IsListed label (targets_in o) → ComesFrom p from label
    on None e l = absurd l
    on (Some b) e l = record { block = b; listed = listed_at p.blocks (position_of p from) b e; has_label = label_found p from b e; leads = l }

pub entry_listed : (bs : List Block) (label : ℕ) → IsListed label (entry_of bs) → (b : Block) × ((slice_get bs 0 ≡ Some b) × (label ≡ b.label))
entry_listed [] label l = absurd l
entry_listed (b ∷ bs) label l = (b, (refl, ⊎_elim (λ e. e) (λ none. absurd none) l))

pub listed_entry : (bs : List Block) (b : Block) → slice_get bs 0 ≡ Some b → IsListed b.label (entry_of bs)
listed_entry [] b e = absurd (cc)
listed_entry (c ∷ bs) b e = let same : b ≡ c = cc in inl (ap label_of same)

-- the first block that is kept is the first
pub first_kept : (flags : List Bool) (bs : List Block) → ((b : Block) → slice_get bs 0 ≡ Some b → is_flagged flags b.label ≡ true) → (c : Block) → slice_get (kept_blocks flags bs) 0 ≡ Some c → (b : Block) × ((slice_get bs 0 ≡ Some b) × (c ≡ kept_block flags b))
first_kept flags [] h c e = absurd (cc)
first_kept flags (b ∷ bs) h c e = on (is_flagged flags b.label) (h b refl) e
  where
    on : (t : Bool) → t ≡ true → slice_get (map (kept_block flags) (if t then b ∷ filter (λ d. is_flagged flags d.label) bs else filter (λ d. is_flagged flags d.label) bs)) 0 ≡ Some c → (d : Block) × ((slice_get (b ∷ bs) 0 ≡ Some d) × (c ≡ kept_block flags d))
    on true k e = let same : c ≡ kept_block flags b = cc in (b, (refl, same))
    on false k e = absurd (cc)

-- ---- no edge leads to the entry of a part

-- the end stands behind begin, so not in the entry block
first_begun : (f : Function) (begin : ℕ) (bs : List Block) (b : Block) → slice_get bs 0 ≡ Some b → AreBlocksBegun f begin 0 bs → AreBegun f begin 0 (phi_values b) b.instrs
first_begun f begin [] b e h = absurd (cc)
first_begun f begin (c ∷ cs) b e h = let same : c ≡ b = cc in subst (λ (d : Block). AreBegun f begin 0 (phi_values d) d.instrs) same h.0

end_asks : (i : Instr) → is_end i ≡ true → asks_begin i ≡ true
end_asks (Instr.Call r must_tail ty (Callee.Intrinsic Intrinsic.CoroEnd) args) e = refl
end_asks _ e = absurd (cc)

pub entry_no_end : (m : Module) (k : ℕ) (f : Function) (begin : ℕ) → IsSplittable m k f begin → (b : Block) → slice_get f.blocks 0 ≡ Some b → has_end b.instrs ≡ true → ⊥
entry_no_end m k f begin x b e h =
    let y = begins_with_end m k f begin x b (listed_at f.blocks 0 b e) h in
    let begun : AreBegun f begin 0 (phi_values b) (y.first ∷ y.rest) = subst (AreBegun f begin 0 (phi_values b)) y.is (first_begun f begin f.blocks b e x.begun) in
    let there : IsListed begin (phi_values b) = begun.0 (end_asks y.first y.is_end) WithoutEntry in
    subst (λ (ps : List Phi). IsListed begin (made_by_phis [] ps)) y.no_phis there

module _ (m : Module) (k : ℕ) (f : Function) (begin : ℕ) (x : IsSplittable m k f begin) (layout : Layout) (part : Part) where
  abbrev s : Shape
  s = shape_of f layout

  abbrev h : Function
  h = f

  ok : IsCuttable s part h
  ok = cuttable m k f begin x layout part

  -- the function has a first block
  pub first_block : (b : Block) × (slice_get f.blocks 0 ≡ Some b)
  first_block = on h.blocks refl ok.end_there.block ok.end_there.listed
    where
      on : (bs : List Block) → h.blocks ≡ bs → (b : Block) → IsListed b h.blocks → (c : Block) × (slice_get h.blocks 0 ≡ Some c)
      on [] e b l = absurd (subst (λ (bs : List Block). IsListed b bs) e l)
      on (c ∷ cs) e b l = (c, ap (λ (bs : List Block). slice_get bs 0) e)

  entry_low : (b : Block) → slice_get h.blocks 0 ≡ Some b → b.label < s.base
  entry_low b e = ok.low b (listed_at h.blocks 0 b e)

  -- no edge of the function leads to its entry
  first_alone : (b : Block) → slice_get h.blocks 0 ≡ Some b → (d : Block) → IsListed d f.blocks → IsListed b.label (targets d.term) → ⊥
  first_alone b e d l t = entry_alone m k f begin x b e d l t

  -- nor is its entry the end's block
  first_no_end : (b : Block) → slice_get h.blocks 0 ≡ Some b → b.label ≡ s.end → ⊥
  first_no_end b e d =
      let end = the_end m k f begin x in
      let same : b ≡ end.block = one_numbered label_of f.blocks (labels_different m k f begin x) b end.block (listed_at f.blocks 0 b e) end.listed (d ∙ end_is m k f begin x layout) in
      entry_no_end m k f begin x b e (ap (λ (y : Block). has_end y.instrs) same ∙ end.has)

  -- no block of a part leads to the label of the function's entry
  pub first_unled : (r : Block) → slice_get f.blocks 0 ≡ Some r → (c : Block) → IsListed c (whole s part h) → IsListed r.label (targets c.term) → ⊥
  first_unled r n c l t = old (leads_old s part h ok c r.label (entry_low r n) l t)
    where
      out : (z : IsPiece s part (origins_for s part h) h.blocks (whole s part h) c) → LeadsOut s part z.block r.label c.label → ⊥
      out z (AsBefore u o) = first_alone r n z.block z.listed u
      out z (AtTheEnd i q u a) = first_no_end r n a

      back : (p : SuspendPoint) → IsListed p s.suspends → (r.label ≡ p.resume) ⊎ (r.label ≡ p.destroy) → ⊥
      back p w e =
          let y = point_home p f w in
          let st = stopped m k f begin x layout y.0 y.1.1.instr y.1.0 y.1.1.listed y.1.1.is_one in
          first_alone r n y.0 y.1.0
          (⊎_elim
          (λ a. subst (λ (v : ℕ). IsListed v (targets y.0.term)) (sym (a ∙ y.1.1.resume)) (returned_target m k f begin x layout 0 y.0 st))
          (λ a. subst (λ (v : ℕ). IsListed v (targets y.0.term)) (sym (a ∙ y.1.1.destroy)) (returned_target m k f begin x layout 1 y.0 st))
          e)

      old : LeadsOld s part h ok r.label c → ⊥
      old (FromPiece z o) = out z o
      old (FromBack a q u v) = back q u v
      old (FromDone a q) = first_no_end r n q

  -- no block leads to the entry of a part
  pub entry_unled : (b e : Block) → slice_get f.blocks 0 ≡ Some b → slice_get (whole s part h) 0 ≡ Some e → (c : Block) → IsListed c (whole s part h) → IsListed e.label (targets c.term) → ⊥
  entry_unled b e d w c l t = on (entry_is s part h b e d w)
    where
      on : IsEntryLabel s part h e.label → ⊥
      on (OfLater g a) = not_to_entry s part h ok e.label (target_kind s part h ok c e.label l t) a
      on (OfRamp g r n same) = first_unled r n c l (subst (λ (v : ℕ). IsListed v (targets c.term)) same t)

  -- the entry is reached
  pub entry_flagged : (p : Function) → p.blocks ≡ whole s part h → p.names ≡ part_names s part h (origins_for s part h) → (b : Block) → slice_get p.blocks 0 ≡ Some b → is_flagged (reached p) b.label ≡ true
  entry_flagged p blocks names b e = led_is_flagged p (part_tabled s part h ok p blocks names) b.label (Entry b.label (listed_entry p.blocks b e))
