-- The edges of a part before blocks are left out lead to its blocks, and its labels are positions of its table of names.
use Rattle.std.proofs.Common.{Bool, List, [], ap, arith, false, inl, inr, length, length-append, refl, subst, suc, sym, true, zero, ℕ, ⊎_elim, ◌*◌, ◌++◌, ◌+◌, ◌<◌, ◌∙◌, ◌∷◌, ◌≡◌, ◌⊎◌}
use Rattle.std.specs.Prelude.{None, Option, Some, if◌then◌else◌, map, slice_get, slice_set, unwrap_or, ◌-◌, ◌==◌}
use Rattle.pass_fetch_proof.specs.ir_base.declared.name.Name.{Name}
use Rattle.pass_split.specs.Parts.{back_block, case_of, cases_from, done_block, entry_term, frame_mark, instr_names, is_entered, mark_names, names_of, none_block, or_zero, origins_for, part_names, suspend_names}
use Rattle.pass_split.specs.Pieces.{going_on, next_after, pieced_phi, redirected, redirected_case, redirected_term, stop_label}
use Rattle.pass_split.specs.Reached.{entry_of, reached, targets_in}
use Rattle.pass_fetch_proof.proofs.ir_laws.facts.Lists.{get_within, set_length}
use Rattle.pass_fetch_proof.specs.flow_solver.Paths.{IsListed}
use Rattle.pass_fetch_proof.specs.pass_intrinsics.Cuts.{goes_on}
use Rattle.pass_fetch_proof.specs.pass_intrinsics.Shapes.{back_label, done_label, entry_label, first_name, none_label}
use Rattle.pass_fetch_proof.specs.pass_intrinsics.declared.shape.Part.{Part}
use Rattle.pass_fetch_proof.specs.pass_intrinsics.declared.shape.Shape.{Shape}
use Rattle.pass_fetch_proof.specs.pass_intrinsics.declared.shape.SuspendPoint.{SuspendPoint}
use Rattle.ir_model.specs.Names.{position_of}
use Rattle.ir_model.specs.declared.instr.Case.{Case}
use Rattle.ir_model.specs.declared.instr.Terminator.{Terminator}
use Rattle.ir_model.specs.declared.module.Block.{Block}
use Rattle.ir_model.specs.declared.module.Function.{Function}
use Rattle.pass_fetch_proof.specs.ir_paths.Paths.{targets}
use Rattle.pass_exits_proof.proofs.split.edges.Cuttable.{HasBlock, IsCuttable, IsPiece}
use Rattle.pass_exits_proof.proofs.split.edges.Labels.{IsPartBlock, OfBack, OfDone, OfEntry, OfNone, OfPiece, done_there, is_mark, label_of_piece, label_there, mark_low, none_there, part_different, part_home, suspend_there, whole}
use Rattle.pass_fetch_proof.proofs.ir_laws.paths.edges.Lists.{first_is, from_mapped, listed_at}
use Rattle.pass_fetch_proof.proofs.ir_laws.paths.woven_rules.Unbroken.{each_listed as listed_each}
use Rattle.pass_exits_proof.proofs.split.edges.Pieces.{EndsAs, Never, PieceEnds, Return, Stop, ToMark, Whole, labels, pieces_end}
use Rattle.pass_fetch_proof.proofs.ir_laws.facts.Numbers.{label_of}
use Rattle.pass_fetch_proof.proofs.ir_laws.paths.replaced.Known.{of_listed}
use Rattle.pass_exits_proof.specs.split.rules.Reached.{HasOwnBlocks, HasTabledLabels, IsTabled}
use Rattle.pass_fetch_proof.specs.run_laws.changed.Changed.{Each}
use Rattle.pass_fetch_proof.specs.ir_laws.paths.woven_rules.Pairs.{AreDifferent}

-- ---- terminators

-- a label to which an edge leads that goes through the done block instead of to the end
pub redirected_target : (s : Shape) (t : Terminator) (label : ℕ) → IsListed label (targets (redirected_term s t)) → (l : ℕ) × (IsListed l (targets t) × (label ≡ redirected s l))
redirected_target s (Terminator.Jump a) label (inl e) = (a, (inl refl, e))
redirected_target s (Terminator.Jump a) label (inr l) = absurd l
redirected_target s (Terminator.Branch c a b) label (inl e) = (a, (inl refl, e))
redirected_target s (Terminator.Branch c a b) label (inr (inl e)) = (b, (inr (inl refl), e))
redirected_target s (Terminator.Branch c a b) label (inr (inr l)) = absurd l
redirected_target s (Terminator.Switch arg default cases) label (inl e) = (default, (inl refl, e))
redirected_target s (Terminator.Switch arg default cases) label (inr l) =
    let x = those cases l in (x.0, (inr x.1.0, x.1.1))
  where
    those : (cases : List Case) → IsListed label (map (λ k. k.target) (map (redirected_case s) cases)) → (l : ℕ) × (IsListed l (map (λ k. k.target) cases) × (label ≡ redirected s l))
    those [] l = absurd l
    those (k ∷ ks) (inl e) = (k.target, (inl refl, e))
    those (k ∷ ks) (inr l) = let x = those ks l in (x.0, (inr x.1.0, x.1.1))
redirected_target s (Terminator.Ret value) label l = absurd l
redirected_target s Terminator.Unreachable label l = absurd l

-- and the other way round
pub to_redirected : (s : Shape) (t : Terminator) (l : ℕ) → IsListed l (targets t) → IsListed (redirected s l) (targets (redirected_term s t))
to_redirected s (Terminator.Jump a) l (inl e) = inl (ap (redirected s) e)
to_redirected s (Terminator.Jump a) l (inr k) = absurd k
to_redirected s (Terminator.Branch c a b) l (inl e) = inl (ap (redirected s) e)
to_redirected s (Terminator.Branch c a b) l (inr (inl e)) = inr (inl (ap (redirected s) e))
to_redirected s (Terminator.Branch c a b) l (inr (inr k)) = absurd k
to_redirected s (Terminator.Switch arg default cases) l (inl e) = inl (ap (redirected s) e)
to_redirected s (Terminator.Switch arg default cases) l (inr k) = inr (those cases k)
  where
    those : (cases : List Case) → IsListed l (map (λ k. k.target) cases) → IsListed (redirected s l) (map (λ k. k.target) (map (redirected_case s) cases))
    those [] k = absurd k
    those (c ∷ cs) (inl e) = inl (ap (redirected s) e)
    those (c ∷ cs) (inr k) = inr (those cs k)
to_redirected s (Terminator.Ret value) l k = absurd k
to_redirected s Terminator.Unreachable l k = absurd k

-- a label that isn't the done block's is as it was, and not the end's
pub not_redirected : (s : Shape) (l : ℕ) → (redirected s l ≡ done_label s → ⊥) → redirected s l ≡ l
not_redirected s l none = on (l == s.end) refl
  where
    on : (b : Bool) → (l == s.end) ≡ b → (if b then done_label s else l) ≡ l
    on true e = absurd (none (ap (λ (b : Bool). if b then done_label s else l) e))
    on false e = refl

-- ---- the cases of the index

module _ (s : Shape) (flags : List Bool) (part : Part) where
  -- a case is that of a suspend at which the part may go on
  pub record IsCaseOf (j : ℕ) (ps : List SuspendPoint) (k : Case) : Type 0 where
    pub at : ℕ
    pub point : SuspendPoint
    pub stands : slice_get ps at ≡ Some point
    pub entered : is_entered flags part point ≡ true
    pub is : k ≡ case_of s (j + at)

  pub case_home : (j : ℕ) (ps : List SuspendPoint) (k : Case) → IsListed k (cases_from s flags part j ps) → IsCaseOf j ps k
  case_home j [] k l = absurd l
  case_home j (p ∷ ps) k l = on (is_entered flags part p) refl l (λ m. case_home (j + 1) ps k m)
    where
      further : IsCaseOf (j + 1) ps k → IsCaseOf j (p ∷ ps) k
      further x =
          let same : j + 1 + x.at ≡ j + suc x.at = omega arith in
          record { at = suc x.at; point = x.point; stands = x.stands; entered = x.entered; is = x.is ∙ ap (case_of s) same }

      on : (b : Bool) → is_entered flags part p ≡ b → IsListed k ((if b then case_of s j ∷ [] else []) ++ cases_from s flags part (j + 1) ps) → (IsListed k (cases_from s flags part (j + 1) ps) → IsCaseOf (j + 1) ps k) → IsCaseOf j (p ∷ ps) k
      on true e (inl d) more = let same : j ≡ j + 0 = omega arith in record { at = 0; point = p; stands = refl; entered = e; is = d ∙ ap (case_of s) same }
      on true e (inr m) more = further (more m)
      on false e m more = further (more m)

  -- the index leads to none, or to the back block of a suspend
  pub index_target : (label : ℕ) → IsListed label (targets (entry_term s flags part)) → (label ≡ none_label s) ⊎ ((j : ℕ) × ((p : SuspendPoint) × ((slice_get s.suspends j ≡ Some p) × ((is_entered flags part p ≡ true) × (label ≡ back_label s j)))))
  index_target label (inl e) = inl e
  index_target label (inr l) =
      let k = from_mapped (λ (c : Case). c.target) (cases_from s flags part 0 s.suspends) label l in
      let x = case_home 0 s.suspends k.0 k.1.0 in
      let same : 0 + x.at ≡ x.at = omega arith in
      inr (x.at, (x.point, (x.stands, (x.entered, k.1.1 ∙ ap (λ (c : Case). c.target) x.is ∙ ap (back_label s) same))))

-- ---- edges lead to blocks

-- the label at which a part goes on behind a suspend
pub goes_on_label : (part : Part) (p : SuspendPoint) → goes_on part ≡ true → (or_zero (going_on part (Some p)) ≡ p.resume) ⊎ (or_zero (going_on part (Some p)) ≡ p.destroy)
goes_on_label Part.Ramp p e = absurd (cc)
goes_on_label Part.Resume p e = inl refl
goes_on_label Part.Destroy p e = inr refl
goes_on_label Part.Cleanup p e = inr refl
goes_on_label Part.GivenRamp p e = absurd (cc)

-- so many names of instructions
pub instr_names_long : (n : ℕ) → length (instr_names n) ≡ n
instr_names_long zero = refl
instr_names_long (suc n) =
    let e : length (instr_names (suc n)) ≡ length (instr_names n) + 1 = length-append (instr_names n) _ in
    let d : length (instr_names n) ≡ n = instr_names_long n in
    omega (arith, e, d)

module _ (s : Shape) (part : Part) (h : Function) (ok : IsCuttable s part h) where
  -- a block of the part has the label
  abbrev IsThere : ℕ → Type 0
  IsThere label = (c : Block) × (IsListed c (whole s part h) × (c.label ≡ label))

  old_there : (label : ℕ) → HasBlock h label → IsThere label
  old_there label x = let y = label_there s part h x.block x.listed in (y.0, (y.1.0, y.1.1 ∙ x.has_label))

  redirected_there : (label : ℕ) → HasBlock h label → IsThere (redirected s label)
  redirected_there label x = on (label == s.end)
    where
      on : (b : Bool) → IsThere (if b then done_label s else label)
      on true = (done_block s, (done_there s part h, refl))
      on false = old_there label x

  -- how a piece ends
  pub piece_ends : (c : Block) (x : IsPiece s part (origins_for s part h) h.blocks (whole s part h) c) → EndsAs s part x.block.term x.block.instrs x.block.label (labels x.of.pieces) c.label c.term
  piece_ends c x =
      of_listed (PieceEnds s part x.block.term x.block.instrs x.block.label (labels x.of.pieces)) x.of.pieces c
      (pieces_end s part x.block.term x.block.label (map (pieced_phi s part (origins_for s part h) x.block.label) x.block.phis) x.of.start x.of.last x.block.instrs x.of.pieces x.of.are) x.piece

  piece_target : (c : Block) (x : IsPiece s part (origins_for s part h) h.blocks (whole s part h) c) (label : ℕ) → IsListed label (targets c.term) → EndsAs s part x.block.term x.block.instrs x.block.label (labels x.of.pieces) c.label c.term → IsThere label
  piece_target c x label l (Whole e d) =
      let t = redirected_target s x.block.term label (subst (λ (u : Terminator). IsListed label (targets u)) e l) in
      subst IsThere (sym t.1.1) (redirected_there t.0 (ok.known x.block t.0 x.listed t.1.0))
  piece_target c x label l (ToMark mark m k e) =
      let d = from_mapped label_of x.of.pieces mark k in
      let same : label ≡ mark = ⊎_elim (λ a. a) (λ none. absurd none) (subst (λ (u : Terminator). IsListed label (targets u)) e l) in
      (d.0, (x.of.there d.0 d.1.0, sym d.1.1 ∙ sym same))
  piece_target c x label l (Stop i m k e) =
      let same : label ≡ stop_label x.block.term = ⊎_elim (λ a. a) (λ none. absurd none) (subst (λ (u : Terminator). IsListed label (targets u)) e l) in
      subst IsThere (sym (same ∙ ok.stop x.block i x.listed m k)) (old_there s.end ok.end_there)
  piece_target c x label l (Return g e) = absurd (subst (λ (u : Terminator). IsListed label (targets u)) e l)
  piece_target c x label l (Never e) = absurd (subst (λ (u : Terminator). IsListed label (targets u)) e l)

  -- each edge of the part leads to a block of it
  pub target_there : (c : Block) (label : ℕ) → IsListed c (whole s part h) → IsListed label (targets c.term) → IsThere label
  target_there c label l t = on (part_home s part h c l) t
    where
      on : IsPartBlock s part h c → IsListed label (targets c.term) → IsThere label
      on (OfEntry e is) t =
          ⊎_elim
          (λ same. (none_block s, (none_there s part h e, sym same)))
          (λ x. (back_block s part x.0 x.1.0, (suspend_there s part h e x.0 x.1.0 x.1.1.0, sym x.1.1.1.1)))
          (index_target s (reached h) part label (subst (λ (d : Block). IsListed label (targets d.term)) is t))
      on (OfNone e is) t = absurd (subst (λ (d : Block). IsListed label (targets d.term)) is t)
      on (OfBack e x) t =
          let same : label ≡ redirected s (or_zero (going_on part (Some x.point))) = ⊎_elim (λ a. a) (λ none. absurd none) (subst (λ (d : Block). IsListed label (targets d.term)) x.is t) in
          let stands : IsListed x.point s.suspends = listed_at s.suspends x.number x.point x.stands in
          subst IsThere (sym same)
          (⊎_elim
          (λ d. subst (λ (n : ℕ). IsThere (redirected s n)) (sym d) (redirected_there x.point.resume (ok.resumes x.point stands)))
          (λ d. subst (λ (n : ℕ). IsThere (redirected s n)) (sym d) (redirected_there x.point.destroy (ok.destroys x.point stands)))
          (goes_on_label part x.point e))
      on (OfPiece x) t = piece_target c x label t (piece_ends c x)
      on (OfDone is) t =
          let same : label ≡ s.end = ⊎_elim (λ a. a) (λ none. absurd none) (subst (λ (d : Block). IsListed label (targets d.term)) is t) in
          subst IsThere (sym same) (old_there s.end ok.end_there)

  -- ---- labels are positions of the table

  label_low : (c : Block) → IsListed c (whole s part h) → c.label < first_name s
  label_low c l = on (part_home s part h c l)
    where
      on : IsPartBlock s part h c → c.label < first_name s
      on (OfEntry e is) = let same : c.label ≡ entry_label s = ap label_of is in omega (arith, same)
      on (OfNone e is) = let same : c.label ≡ none_label s = ap label_of is in omega (arith, same)
      on (OfBack e x) = let same : c.label ≡ back_label s x.number = ap label_of x.is in let low : x.number < length s.suspends = get_within s.suspends x.number x.point x.stands in omega (arith, same, low)
      on (OfPiece x) =
          ⊎_elim
          (λ (same : c.label ≡ x.block.label). let low : x.block.label < s.base = ok.low x.block x.listed in omega (arith, same, low))
          (λ m. mark_low s part h ok c.label (is_mark s part h ok x.block x.listed c.label m))
          (label_of_piece s part h c x)
      on (OfDone is) = let same : c.label ≡ done_label s = ap label_of is in omega (arith, same)

  suspends_named : (n : ℕ) → length (suspend_names n) ≡ 3 * n
  suspends_named zero = omega arith
  suspends_named (suc n) =
      let e : length (suspend_names (suc n)) ≡ length (suspend_names n) + 3 = length-append (suspend_names n) _ in
      let d : length (suspend_names n) ≡ 3 * n = suspends_named n in
      omega (arith, e, d)

  pub names_are_long : (names : List Name) (count : ℕ) → s.base ≡ length names → length (names_of s names count) ≡ first_name s + count
  names_are_long names count same =
      let old : List Name = slice_set names s.begin frame_mark in
      let points : List Name = suspend_names (length s.suspends) in
      let a : length (names_of s names count) ≡ length ((old ++ mark_names) ++ points) + length (instr_names count) = length-append ((old ++ mark_names) ++ points) (instr_names count) in
      let b : length ((old ++ mark_names) ++ points) ≡ length (old ++ mark_names) + length points = length-append (old ++ mark_names) points in
      let c : length (old ++ mark_names) ≡ length old + 7 = length-append old mark_names in
      let d : length old ≡ length names = set_length names s.begin frame_mark in
      let e : length points ≡ 3 * length s.suspends = suspends_named (length s.suspends) in
      let i : length (instr_names count) ≡ count = instr_names_long count in
      omega (arith, a, b, c, d, e, i, same)

  -- ---- the part

  module _ (p : Function) (blocks : p.blocks ≡ whole s part h) (names : p.names ≡ part_names s part h (origins_for s part h)) where
    abbrev count : ℕ
    count = next_after s part (origins_for s part h) (first_name s) h.blocks - first_name s

    pub tabled_label : (c : Block) → IsListed c (whole s part h) → IsTabled p c.label
    tabled_label c l =
        let low : c.label < first_name s = label_low c l in
        let long : length (names_of s h.names count) ≡ first_name s + count = names_are_long h.names count ok.base in
        let same : length p.names ≡ length (names_of s h.names count) = ap length names in
        omega (arith, low, long, same)

    tabled_target : (c : Block) → IsListed c (whole s part h) → Each (IsTabled p) (targets c.term)
    tabled_target c l = listed_each (IsTabled p) (targets c.term) (λ label t. let d = target_there c label l t in subst (IsTabled p) d.1.1 (tabled_label d.0 d.1.0))

    in_p : (c : Block) → IsListed c p.blocks → IsListed c (whole s part h)
    in_p c l = subst (λ (bs : List Block). IsListed c bs) blocks l

    -- the labels of the part are positions of its table of names
    pub part_tabled : HasTabledLabels p
    part_tabled = record {
      entry = entries p.blocks (λ c l. in_p c l);
      targets = λ from. at (position_of p from) (slice_get p.blocks (position_of p from)) refl;
    }
      where
        entries : (bs : List Block) → ((c : Block) → IsListed c bs → IsListed c (whole s part h)) → Each (IsTabled p) (entry_of bs)
        entries [] k = tt
        entries (b ∷ bs) k = (tabled_label b (k b (inl refl)), tt)

        at : (n : ℕ) (o : Option Block) → slice_get p.blocks n ≡ o → Each (IsTabled p) (targets_in o)
        at n None e = tt
        at n (Some c) e = tabled_target c (in_p c (listed_at p.blocks n c e))

    -- each block is the first with its label, and edges lead to blocks
    pub part_own : HasOwnBlocks p
    part_own = record {
      first = λ k b e. ap (λ (o : Option ℕ). unwrap_or o (length p.blocks)) (first_is label_of p.blocks (subst (λ (bs : List Block). AreDifferent (labels bs)) (sym blocks) (part_different s part h ok)) k b e);
      there = λ b label l t. let d = target_there b label (in_p b l) t in (d.0, (subst (λ (bs : List Block). IsListed d.0 bs) (sym blocks) d.1.0, d.1.1));
    }
