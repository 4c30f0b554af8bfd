-- The blocks of a part before those that aren't reached are left out: where they come from, and their labels, of which none stands twice.
use Rattle.std.proofs.Common.{Bool, List, [], ap, arith, false, inl, inr, refl, subst, suc, sym, true, zero, ℕ, ⊎_elim, ◌++◌, ◌+◌, ◌<◌, ◌∙◌, ◌∷◌, ◌≡◌, ◌≤◌, ◌⊎◌}
use Rattle.std.specs.Prelude.{Some, if◌then◌else◌, map, slice_get}
use Rattle.pass_split.specs.Parts.{back_block, back_blocks, done_block, entry_block, head_blocks, later_head, none_block, origins_for, part_blocks}
use Rattle.pass_split.specs.Pieces.{next_after, pieced_phi, pieces_of}
use Rattle.pass_split.specs.Reached.{reached}
use Rattle.pass_split.specs.declared.origin.Origin.{Origin}
use Rattle.pass_fetch_proof.proofs.ir_laws.paths.source_rules.Locals.{listed_either, listed_left, listed_right}
use Rattle.pass_fetch_proof.proofs.ir_laws.facts.Lists.{row_of, times_joined}
use Rattle.pass_fetch_proof.specs.flow_solver.Paths.{IsListed}
use Rattle.pass_fetch_proof.specs.pass_intrinsics.Cuts.{goes_on}
use Rattle.pass_fetch_proof.specs.pass_intrinsics.Shapes.{back_label, done_label, entry_label, first_name, none_label}
use Rattle.pass_fetch_proof.specs.pass_intrinsics.declared.shape.Part.{Part}
use Rattle.pass_fetch_proof.specs.pass_intrinsics.declared.shape.Shape.{Shape}
use Rattle.pass_fetch_proof.specs.pass_intrinsics.declared.shape.SuspendPoint.{SuspendPoint}
use Rattle.ir_model.specs.declared.module.Block.{Block}
use Rattle.ir_model.specs.declared.module.Function.{Function}
use Rattle.pass_exits_proof.proofs.split.edges.Cuttable.{Begun, HasPieces, IsCuttable, IsMark, IsPiece, IsPieceLabel, Passed, Saved, no_back, no_done, no_entry, no_none}
use Rattle.pass_fetch_proof.proofs.ir_laws.paths.edges.Lists.{as_apart, as_different, from_mapped, joined_different, listed_times, one_numbered, same_element, to_row}
use Rattle.pass_exits_proof.proofs.split.edges.Pieces.{block_marks, blocks_times, first_piece, labels, labels_joined, piece_label, piece_phis}
use Rattle.pass_fetch_proof.proofs.ir_laws.facts.Numbers.{label_of}
use Rattle.pass_exits_proof.proofs.split.rules.Cutting.{cut_blocks}
use Rattle.pass_fetch_proof.proofs.ir_laws.paths.replaced.Known.{listed_mapped}
use Rattle.pass_exits_proof.specs.split.rules.Pieced.{ArePieces, ArePiecesOf, NoBlock, OneBlock}
use Rattle.pass_fetch_proof.proofs.rule_laws.rules.woven_rules.Once.{apart_once, once_apart}
use Rattle.pass_fetch_proof.proofs.ir_laws.paths.woven_rules.Once.{times_listed}
use Rattle.pass_fetch_proof.specs.ir_laws.paths.woven_rules.Pairs.{AreDifferent}
use Rattle.pass_fetch_proof.specs.ir_laws.facts.woven_rules.Pairs.{times}

-- ---- the pieces of blocks

module _ (s : Shape) (part : Part) (origins : List Origin) where
  abbrev more_there : (cs ds : List Block) (b : Block) → HasPieces s part origins ds b → HasPieces s part origins (cs ++ ds) b
  more_there cs ds b h = record { start = h.start; last = h.last; pieces = h.pieces; are = h.are; there = λ c l. listed_right c cs ds (h.there c l) }

  abbrev first_there : (n next : ℕ) (b : Block) (cs ds : List Block) → ArePieces s part b.term b.label (map (pieced_phi s part origins b.label) b.phis) n b.instrs cs next → HasPieces s part origins (cs ++ ds) b
  first_there n next b cs ds k = record { start = n; last = next; pieces = cs; are = k; there = λ c l. listed_left c cs ds l }

  pub pieces_there : (n last : ℕ) (bs cs : List Block) → ArePiecesOf s part origins n bs cs last → (b : Block) → IsListed b bs → HasPieces s part origins cs b
  pieces_there _ _ _ _ (NoBlock n) b l = absurd l
  pieces_there _ _ _ _ (OneBlock n next last c bs cs ds k rest) b l =
      ⊎_elim
      (λ (e : b ≡ c). subst (HasPieces s part origins (cs ++ ds)) (sym e) (first_there n next c cs ds k))
      (λ m. more_there cs ds b (pieces_there next last bs ds rest b m))
      l

  pub piece_home : (n last : ℕ) (bs cs : List Block) → ArePiecesOf s part origins n bs cs last → (c : Block) → IsListed c cs → IsPiece s part origins bs cs c
  piece_home _ _ _ _ (NoBlock n) c l = absurd l
  piece_home _ _ _ _ (OneBlock n next last b bs cs ds k rest) c l =
      ⊎_elim
      (λ here. record { block = b; listed = inl refl; of = first_there n next b cs ds k; piece = here })
      (λ later. let x = piece_home next last bs ds rest c later in record { block = x.block; listed = inr x.listed; of = more_there cs ds x.block x.of; piece = x.piece })
      (listed_either c cs ds l)

-- ---- the blocks to which the index leads

-- a block of a suspend, by its number
pub record IsBackBlock (s : Shape) (part : Part) (c : Block) : Type 0 where
  pub number : ℕ
  pub point : SuspendPoint
  pub stands : slice_get s.suspends number ≡ Some point
  pub is : c ≡ back_block s part number point

module _ (s : Shape) (part : Part) where
  record IsBack (j : ℕ) (ps : List SuspendPoint) (c : Block) : Type 0 where
    at : ℕ
    point : SuspendPoint
    stands : slice_get ps at ≡ Some point
    is : c ≡ back_block s part (j + at) point

  back_home : (j : ℕ) (ps : List SuspendPoint) (c : Block) → IsListed c (back_blocks s part j ps) → IsBack j ps c
  back_home j [] c l = absurd l
  back_home j (p ∷ ps) c (inl e) = let same : j ≡ j + 0 = omega arith in record { at = 0; point = p; stands = refl; is = e ∙ ap (λ (n : ℕ). back_block s part n p) same }
  back_home j (p ∷ ps) c (inr l) =
      let x = back_home (j + 1) ps c l in
      let same : j + 1 + x.at ≡ j + suc x.at = omega arith in
      record { at = suc x.at; point = x.point; stands = x.stands; is = x.is ∙ ap (λ (n : ℕ). back_block s part n x.point) same }

  back_there : (j : ℕ) (ps : List SuspendPoint) (at : ℕ) (p : SuspendPoint) → slice_get ps at ≡ Some p → IsListed (back_block s part (j + at) p) (back_blocks s part j ps)
  back_there j [] at p e = absurd (cc)
  back_there j (q ∷ ps) zero p e =
      let is_one : p ≡ q = cc in
      let same : j + 0 ≡ j = omega arith in
      inl (λ k. back_block s part (same k) (is_one k))
  back_there j (q ∷ ps) (suc at) p e =
      let same : j + 1 + at ≡ j + suc at = omega arith in
      inr (subst (λ (n : ℕ). IsListed (back_block s part n p) (back_blocks s part (j + 1) ps)) same (back_there (j + 1) ps at p e))

  backs_different : (j : ℕ) (ps : List SuspendPoint) → AreDifferent (labels (back_blocks s part j ps))
  backs_different j [] = tt
  backs_different j (p ∷ ps) = (
    λ l.
        let c = from_mapped label_of (back_blocks s part (j + 1) ps) (back_label s j) l in
        let x = back_home (j + 1) ps c.0 c.1.0 in
        let same : back_label s j ≡ back_label s (j + 1 + x.at) = c.1.1 ∙ ap label_of x.is in
        absurd (omega (arith, same)),
    backs_different (j + 1) ps,
  )

-- ---- the blocks of a part

-- where a block of a part comes from
pub data IsPartBlock (s : Shape) (part : Part) (h : Function) (c : Block) : Type 0 where
  OfEntry : goes_on part ≡ true → c ≡ entry_block s (reached h) part h.blocks → IsPartBlock s part h c
  OfNone : goes_on part ≡ true → c ≡ none_block s → IsPartBlock s part h c
  OfBack : goes_on part ≡ true → IsBackBlock s part c → IsPartBlock s part h c
  OfPiece : IsPiece s part (origins_for s part h) h.blocks (part_blocks s part h (origins_for s part h)) c → IsPartBlock s part h c
  OfDone : c ≡ done_block s → IsPartBlock s part h c

module _ (s : Shape) (part : Part) (h : Function) where
  -- its blocks, before those that aren't reached are left out
  abbrev pub whole : List Block
  whole = part_blocks s part h (origins_for s part h)

  abbrev pieces : List Block
  pieces = pieces_of s part (origins_for s part h) (first_name s) h.blocks

  abbrev head : List Block
  head = head_blocks s part h

  pub are_cut : ArePiecesOf s part (origins_for s part h) (first_name s) h.blocks (pieces_of s part (origins_for s part h) (first_name s) h.blocks) (next_after s part (origins_for s part h) (first_name s) h.blocks)
  are_cut = cut_blocks s part (origins_for s part h) (first_name s) h.blocks

  in_head : (c : Block) → IsListed c head → IsListed c whole
  in_head c l = listed_left c (head ++ pieces) (done_block s ∷ []) (listed_left c head pieces l)

  pub in_pieces : (c : Block) → IsListed c pieces → IsListed c whole
  in_pieces c l = listed_left c (head ++ pieces) (done_block s ∷ []) (listed_right c head pieces l)

  pub done_there : IsListed (done_block s) whole
  done_there = listed_right (done_block s) (head ++ pieces) (done_block s ∷ []) (inl refl)

  later_there : goes_on part ≡ true → (c : Block) → IsListed c (later_head s (reached h) part h.blocks) → IsListed c whole
  later_there e c l = in_head c (subst (λ (b : Bool). IsListed c (if b then later_head s (reached h) part h.blocks else [])) (sym e) l)

  pub entry_there : goes_on part ≡ true → IsListed (entry_block s (reached h) part h.blocks) whole
  entry_there e = later_there e (entry_block s (reached h) part h.blocks) (inl refl)

  pub none_there : goes_on part ≡ true → IsListed (none_block s) whole
  none_there e = later_there e (none_block s) (inr (inl refl))

  pub suspend_there : goes_on part ≡ true → (j : ℕ) (p : SuspendPoint) → slice_get s.suspends j ≡ Some p → IsListed (back_block s part j p) whole
  suspend_there e j p d =
      let same : 0 + j ≡ j = omega arith in
      later_there e (back_block s part j p) (inr (inr (subst (λ (n : ℕ). IsListed (back_block s part n p) (back_blocks s part 0 s.suspends)) same (back_there s part 0 s.suspends j p d))))

  -- the pieces of a block of the function
  pub block_pieces : (b : Block) → IsListed b h.blocks → HasPieces s part (origins_for s part h) whole b
  block_pieces b l =
      let x = pieces_there s part (origins_for s part h) (first_name s) (next_after s part (origins_for s part h) (first_name s) h.blocks) h.blocks pieces are_cut b l in
      record { start = x.start; last = x.last; pieces = x.pieces; are = x.are; there = λ c m. in_pieces c (x.there c m) }

  piece_of : (c : Block) → IsListed c pieces → IsPiece s part (origins_for s part h) h.blocks whole c
  piece_of c l =
      let x = piece_home s part (origins_for s part h) (first_name s) (next_after s part (origins_for s part h) (first_name s) h.blocks) h.blocks pieces are_cut c l in
      record {
        block = x.block;
        listed = x.listed;
        of = record { start = x.of.start; last = x.of.last; pieces = x.of.pieces; are = x.of.are; there = λ d m. in_pieces d (x.of.there d m) };
        piece = x.piece;
      }

  head_home : (c : Block) → IsListed c head → IsPartBlock s part h c
  head_home c l = on (goes_on part) refl l
    where
      on : (b : Bool) → goes_on part ≡ b → IsListed c (if b then later_head s (reached h) part h.blocks else []) → IsPartBlock s part h c
      on true e (inl d) = OfEntry e d
      on true e (inr (inl d)) = OfNone e d
      on true e (inr (inr k)) =
          let x = back_home s part 0 s.suspends c k in
          let same : 0 + x.at ≡ x.at = omega arith in
          OfBack e (record { number = x.at; point = x.point; stands = x.stands; is = x.is ∙ ap (λ (n : ℕ). back_block s part n x.point) same })
      on false e k = absurd k

  pub part_home : (c : Block) → IsListed c whole → IsPartBlock s part h c
  part_home c l =
      ⊎_elim
      (λ front. ⊎_elim (λ k. head_home c k) (λ k. OfPiece (piece_of c k)) (listed_either c head pieces front))
      (λ last. ⊎_elim (λ e. OfDone e) (λ none. absurd none) last)
      (listed_either c (head ++ pieces) (done_block s ∷ []) l)

  -- each label of the function is that of a block of the part
  pub label_there : (b : Block) → IsListed b h.blocks → (c : Block) × (IsListed c whole × (c.label ≡ b.label))
  label_there b l =
      let x = block_pieces b l in
      let y = first_piece s part b.term b.label (map (pieced_phi s part (origins_for s part h) b.label) b.phis) x.start x.last b.instrs x.pieces x.are in
      (y.piece, (x.there y.piece y.listed, y.has_label))

  -- ---- labels

  -- the label of a piece is its block's, or a mark of it
  pub label_of_piece : (c : Block) (x : IsPiece s part (origins_for s part h) h.blocks whole c) → (c.label ≡ x.block.label) ⊎ IsListed c.label (block_marks s part x.block)
  label_of_piece c x =
      piece_label s part x.block.term x.block.label (map (pieced_phi s part (origins_for s part h) x.block.label) x.block.phis) x.of.start x.of.last x.block.instrs x.of.pieces x.of.are c.label (listed_mapped label_of x.of.pieces c x.piece)

  -- a block with phis has those of the block of the function with its label
  pub phis_of_piece : (c : Block) (x : IsPiece s part (origins_for s part h) h.blocks whole c) → ((c.label ≡ x.block.label) × (c.phis ≡ map (pieced_phi s part (origins_for s part h) x.block.label) x.block.phis)) ⊎ (c.phis ≡ [])
  phis_of_piece c x = piece_phis s part x.block.term x.block.label (map (pieced_phi s part (origins_for s part h) x.block.label) x.block.phis) x.of.start x.of.last x.block.instrs x.of.pieces x.of.are c x.piece

  module _ (ok : IsCuttable s part h) where
    -- old labels are below, and marks are not
    mark_high : (v : ℕ) → IsMark s v → s.base ≤ v
    mark_high v (Begun e) = omega (arith, e)
    mark_high v (Saved j low e) = omega (arith, e)
    mark_high v (Passed j low e) = omega (arith, e)

    pub mark_low : (v : ℕ) → IsMark s v → v < first_name s
    mark_low v (Begun e) = omega (arith, e)
    mark_low v (Saved j low e) = omega (arith, e, low)
    mark_low v (Passed j low e) = omega (arith, e, low)

    pub is_mark : (b : Block) → IsListed b h.blocks → (v : ℕ) → IsListed v (block_marks s part b) → IsMark s v
    is_mark b l v m = ok.are_marks v (to_row (block_marks s part) h.blocks b v l m)

    pub mark_is_new : (b : Block) → IsListed b h.blocks → (v : ℕ) → IsListed v (block_marks s part b) → s.base ≤ v
    mark_is_new b l v m = mark_high v (is_mark b l v m)

    old_low : (v : ℕ) → IsListed v (labels h.blocks) → v < s.base
    old_low v l = let x = from_mapped label_of h.blocks v l in subst (λ (n : ℕ). n < s.base) (sym x.1.1) (ok.low x.0 x.1.0)

    abbrev both_rows : List ℕ
    both_rows = labels h.blocks ++ row_of (block_marks s part) h.blocks

    both_different : AreDifferent both_rows
    both_different = joined_different (labels h.blocks) (row_of (block_marks s part) h.blocks) ok.different ok.marks (λ v a b. let low : v < s.base = old_low v a in let high : s.base ≤ v = mark_high v (ok.are_marks v b) in absurd (omega (arith, low, high)))

    most : (v : ℕ) → times v (labels pieces) ≤ times v both_rows
    most v =
        let t : times v (labels pieces) ≤ times v (labels h.blocks) + times v (row_of (block_marks s part) h.blocks) = blocks_times s part (origins_for s part h) (first_name s) (next_after s part (origins_for s part h) (first_name s) h.blocks) h.blocks pieces are_cut v in
        let e : times v both_rows ≡ times v (labels h.blocks) + times v (row_of (block_marks s part) h.blocks) = times_joined v (labels h.blocks) (row_of (block_marks s part) h.blocks) in
        omega (arith, t, e)

    pieces_different : AreDifferent (labels pieces)
    pieces_different =
        as_different (labels pieces)
        (once_apart (labels pieces)
        (λ v. let one : times v both_rows ≤ 1 = apart_once both_rows (as_apart both_rows both_different) v in let few = most v in omega (arith, one, few)))

    -- the label of a piece is old or a mark
    piece_kind : (v : ℕ) → IsListed v (labels pieces) → IsPieceLabel s v
    piece_kind v l =
        let one : 1 ≤ times v (labels pieces) = times_listed v (labels pieces) l in
        let few = most v in
        ⊎_elim (λ old. inl (old_low v old)) (λ mark. inr (ok.are_marks v mark)) (listed_either v (labels h.blocks) (row_of (block_marks s part) h.blocks) (listed_times v both_rows (omega (arith, one, few))))

    -- the labels with which a part that goes on begins
    data IsHeadLabel (v : ℕ) : Type 0 where
      EntryLabel : v ≡ entry_label s → IsHeadLabel v
      NoneLabel : v ≡ none_label s → IsHeadLabel v
      BackLabel : (j : ℕ) → v ≡ back_label s j → IsHeadLabel v

    back_is : (v : ℕ) → IsListed v (labels (back_blocks s part 0 s.suspends)) → (j : ℕ) × (v ≡ back_label s j)
    back_is v l = let c = from_mapped label_of (back_blocks s part 0 s.suspends) v l in let x = back_home s part 0 s.suspends c.0 c.1.0 in (0 + x.at, c.1.1 ∙ ap label_of x.is)

    later_label : (v : ℕ) → IsListed v (labels (later_head s (reached h) part h.blocks)) → IsHeadLabel v
    later_label v (inl e) = EntryLabel e
    later_label v (inr (inl e)) = NoneLabel e
    later_label v (inr (inr l)) = let x = back_is v l in BackLabel x.0 x.1

    later_different : AreDifferent (labels (later_head s (reached h) part h.blocks))
    later_different = (
      λ l. ⊎_elim (λ (e : entry_label s ≡ none_label s). absurd (omega (arith, e))) (λ k. let x = back_is (entry_label s) k in let e : entry_label s ≡ back_label s x.0 = x.1 in absurd (omega (arith, e))) l,
      (λ l. let x = back_is (none_label s) l in let e : none_label s ≡ back_label s x.0 = x.1 in absurd (omega (arith, e)), backs_different s part 0 s.suspends),
    )

    head_different : AreDifferent (labels head)
    head_different = on (goes_on part)
      where
        on : (b : Bool) → AreDifferent (labels (if b then later_head s (reached h) part h.blocks else []))
        on true = later_different
        on false = tt

    head_label : (v : ℕ) → IsListed v (labels head) → IsHeadLabel v
    head_label v l = on (goes_on part) l
      where
        on : (b : Bool) → IsListed v (labels (if b then later_head s (reached h) part h.blocks else [])) → IsHeadLabel v
        on true k = later_label v k
        on false k = absurd k

    -- a head's label is new and no mark
    head_apart : (v : ℕ) → IsHeadLabel v → IsPieceLabel s v → ⊥
    head_apart v (EntryLabel e) q = no_entry s v q e
    head_apart v (NoneLabel e) q = no_none s v q e
    head_apart v (BackLabel j e) q = no_back s v j q e

    -- the done block's label is no other's
    done_apart : (v : ℕ) → IsHeadLabel v ⊎ IsPieceLabel s v → v ≡ done_label s → ⊥
    done_apart v (inl (EntryLabel e)) d = absurd (omega (arith, e, d))
    done_apart v (inl (NoneLabel e)) d = absurd (omega (arith, e, d))
    done_apart v (inl (BackLabel j e)) d = absurd (omega (arith, e, d))
    done_apart v (inr q) d = no_done s v q d

    labels_whole : labels whole ≡ (labels head ++ labels pieces) ++ done_label s ∷ []
    labels_whole = labels_joined (head ++ pieces) (done_block s ∷ []) ∙ ap (λ (ns : List ℕ). ns ++ done_label s ∷ []) (labels_joined head pieces)

    -- no label of the part stands twice
    pub part_different : AreDifferent (labels whole)
    part_different =
        subst AreDifferent (sym labels_whole)
        (joined_different (labels head ++ labels pieces) (done_label s ∷ [])
        (joined_different (labels head) (labels pieces) head_different pieces_different (λ v a b. head_apart v (head_label v a) (piece_kind v b)))
        (λ l. l, tt)
        (λ v a b. ⊎_elim (λ e. done_apart v (⊎_elim (λ k. inl (head_label v k)) (λ k. inr (piece_kind v k)) (listed_either v (labels head) (labels pieces) a)) e) (λ none. none) b))

    -- a block of the part is known by its label
    pub one_block : (c d : Block) → IsListed c whole → IsListed d whole → c.label ≡ d.label → c ≡ d
    one_block c d k l e = one_numbered label_of whole part_different c d k l e

    -- a block of the function has pieces that share no label with those of another
    pub one_home : (v : ℕ) (b c : Block) → IsListed b h.blocks → IsListed c h.blocks → (v ≡ b.label) ⊎ IsListed v (block_marks s part b) → (v ≡ c.label) ⊎ IsListed v (block_marks s part c) → b ≡ c
    one_home v b c k l (inl d) (inl e) = one_numbered label_of h.blocks ok.different b c k l (sym d ∙ e)
    one_home v b c k l (inl d) (inr m) = let low : b.label < s.base = ok.low b k in let high : s.base ≤ v = mark_is_new c l v m in absurd (omega (arith, d, low, high))
    one_home v b c k l (inr m) (inl e) = let low : c.label < s.base = ok.low c l in let high : s.base ≤ v = mark_is_new b k v m in absurd (omega (arith, e, low, high))
    one_home v b c k l (inr m) (inr o) = same_element (block_marks s part) h.blocks ok.marks v b c k l m o

    -- the piece with an old label is its block's first
    pub old_piece : (c : Block) (x : IsPiece s part (origins_for s part h) h.blocks whole c) → c.label < s.base → c.label ≡ x.block.label
    old_piece c x low = ⊎_elim (λ e. e) (λ m. let high : s.base ≤ c.label = mark_is_new x.block x.listed c.label m in absurd (omega (arith, low, high))) (label_of_piece c x)
