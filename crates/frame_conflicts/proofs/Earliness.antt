-- Slots used before begin, by words.
use Rattle.std.proofs.Common.{◌≡◌, ℕ, zero, suc, ◌+◌, ◌<◌, ◌≤◌, ◌⊎◌, Bool, true, false, List, [], ◌∷◌, ◌++◌, Some, None, Option, refl, sym, ap, ◌∙◌, subst, ⊎_elim, inl, inr, arith, eq-eqb, length, map}
use Rattle.std.specs.Prelude.{bit_or, slice_get, if◌then◌else◌, ◌==◌}
use Rattle.std.proofs.lemmas.Bool.{eqb-true, false≢true}
use Rattle.std.proofs.lemmas.List.{length-map}
use Rattle.flow_bits.specs.Bits.{HasBit}
use Rattle.frame_classes.proofs.flow_blocks.Elements.{listed_append}
use Rattle.frame_classes.specs.flow_blocks.Words.{word_at}
use Rattle.flow_solver.proofs.Lists.{listed_at, listed_front, place_of}
use Rattle.flow_solver.specs.Paths.{IsListed}
use Rattle.ir_model.specs.declared.instr.Instr.{Instr}
use Rattle.ir_model.specs.declared.module.Block.{Block}
use Rattle.ir_model.specs.declared.module.Function.{Function}
use Rattle.ir_paths.specs.declared.point.Point.{Point}
use Rattle.flow_points.specs.Rows.{is_marked}
use Rattle.frame_classes.proofs.flow_reach.Bits.{left_bit, no_bit, one_bit, right_bit}
use Rattle.frame_classes.proofs.flow_reach.Ways.{listed_back}
use Rattle.frame_classes.specs.flow_reach.Reached.{row_of}
use Rattle.frame_conflicts.specs.Conflicts.{IsUsedEarly}
use Rattle.frame_conflicts.specs.Early.{AreEarly, early_edges, early_row, early_rows, word_if}
use Rattle.frame_classes.specs.rule_slots.Early.{IsBeforeBegin, end_at}
use Rattle.frame_classes.proofs.frame_slots.Spotting.{HasEdge, edge_told, use_told}
use Rattle.frame_classes.specs.frame_slots.Spots.{IsUse, Spot, point_at}
use Rattle.frame_classes.specs.frame_slots.Spots.Spot.{At, On}
use Rattle.frame_classes.specs.frame_slots.Told.{AreAddressWords}
use Rattle.frame_classes.specs.frame_slots.Words.{edge_words, phi_uses, use_row, use_rows, used, with_term}
use Rattle.frame_classes.specs.frame_slots.declared.edge.EdgeWord.{EdgeWord}
use Rattle.frame_classes.specs.frame_slots.declared.edge.PhiUse.{PhiUse}
use Rattle.frame_classes.specs.rule_windows.Sets.{AreThose}

-- ---- words at marked points

if_bit : (b : Bool) (w c : ℕ) → HasBit (word_if b w) c → (b ≡ true) × HasBit w c
if_bit true w c h = (refl, h)
if_bit false w c h = absurd (no_bit c h)

bit_if : (b : Bool) (w c : ℕ) → b ≡ true → HasBit w c → HasBit (word_if b w) c
bit_if true w c e h = h
bit_if false w c e h = absurd (false≢true e)

module _ (before : List (List Bool)) where
  abbrev marked_at : ℕ → ℕ → Bool
  marked_at n k = is_marked before (record { block = n; at = k })

  first_row : (n at : ℕ) (row : List ℕ) (word c : ℕ) → HasBit word c → HasBit (early_row before n at word row) c
  first_row n at [] word c h = h
  first_row n at (w ∷ row) word c h = first_row n (at + 1) row (bit_or word (word_if (marked_at n at) w)) c (left_bit word (word_if (marked_at n at) w) c h)

  in_row : (n at : ℕ) (row : List ℕ) (word k c : ℕ) → marked_at n (at + k) ≡ true → HasBit (word_at row k) c → HasBit (early_row before n at word row) c
  in_row n at [] word k c e h = absurd (no_bit c h)
  in_row n at (w ∷ row) word zero c e h =
      let z : at + 0 ≡ at = omega arith in
      first_row n (at + 1) row (bit_or word (word_if (marked_at n at) w)) c (right_bit word (word_if (marked_at n at) w) c (bit_if (marked_at n at) w c (ap (marked_at n) (sym z) ∙ e) h))
  in_row n at (w ∷ row) word (suc k) c e h =
      let s : at + 1 + k ≡ at + suc k = omega arith in
      in_row n (at + 1) row (bit_or word (word_if (marked_at n at) w)) k c (ap (marked_at n) s ∙ e) h

  record IsInRow (n at : ℕ) (row : List ℕ) (c : ℕ) : Type 0 where
    pub place : ℕ
    pub marked : marked_at n (at + place) ≡ true
    pub has : HasBit (word_at row place) c

  of_row : (n at : ℕ) (row : List ℕ) (word c : ℕ) → HasBit (early_row before n at word row) c → HasBit word c ⊎ IsInRow n at row c
  of_row n at [] word c h = inl h
  of_row n at (w ∷ row) word c h = ⊎_elim
      (λ first. ⊎_elim
      (λ old. inl old)
      (λ here.
      let two = if_bit (marked_at n at) w c here in
      let z : at ≡ at + 0 = omega arith in
      inr (record { place = 0; marked = ap (marked_at n) (sym z) ∙ two.0; has = two.1 }))
      (one_bit word (word_if (marked_at n at) w) c first))
      (λ (x : IsInRow n (at + 1) row c).
      let s : at + suc x.place ≡ at + 1 + x.place = omega arith in
      inr (record { place = suc x.place; marked = ap (marked_at n) s ∙ x.marked; has = x.has }))
      (of_row n (at + 1) row (bit_or word (word_if (marked_at n at) w)) c h)

  first_rows : (n : ℕ) (rows : List (List ℕ)) (word c : ℕ) → HasBit word c → HasBit (early_rows before n word rows) c
  first_rows n [] word c h = h
  first_rows n (row ∷ rows) word c h = first_rows (n + 1) rows (early_row before n 0 word row) c (first_row n 0 row word c h)

  in_rows : (n : ℕ) (rows : List (List ℕ)) (word m k c : ℕ) → marked_at (n + m) k ≡ true → HasBit (word_at (row_of rows m) k) c → HasBit (early_rows before n word rows) c
  in_rows n [] word m k c e h = absurd (no_bit c h)
  in_rows n (row ∷ rows) word zero k c e h =
      let z : n ≡ n + 0 = omega arith in
      let y : 0 + k ≡ k = omega arith in
      first_rows (n + 1) rows (early_row before n 0 word row) c (in_row n 0 row word k c (ap (marked_at n) y ∙ ap (λ (x : ℕ). marked_at x k) z ∙ e) h)
  in_rows n (row ∷ rows) word (suc m) k c e h =
      let s : n + 1 + m ≡ n + suc m = omega arith in
      in_rows (n + 1) rows (early_row before n 0 word row) m k c (ap (λ (x : ℕ). marked_at x k) s ∙ e) h

  record IsInRows (n : ℕ) (rows : List (List ℕ)) (c : ℕ) : Type 0 where
    pub place : ℕ
    pub at : ℕ
    pub marked : marked_at (n + place) at ≡ true
    pub has : HasBit (word_at (row_of rows place) at) c

  of_rows : (n : ℕ) (rows : List (List ℕ)) (word c : ℕ) → HasBit (early_rows before n word rows) c → HasBit word c ⊎ IsInRows n rows c
  of_rows n [] word c h = inl h
  of_rows n (row ∷ rows) word c h = ⊎_elim
      (λ first. ⊎_elim
      (λ old. inl old)
      (λ (x : IsInRow n 0 row c).
      let z : n + 0 ≡ n = omega arith in
      let y : x.place ≡ 0 + x.place = omega arith in
      inr (record { place = 0; at = x.place; marked = ap (λ (k : ℕ). marked_at k x.place) z ∙ ap (marked_at n) y ∙ x.marked; has = x.has }))
      (of_row n 0 row word c first))
      (λ (x : IsInRows (n + 1) rows c).
      let s : n + suc x.place ≡ n + 1 + x.place = omega arith in
      inr (record { place = suc x.place; at = x.at; marked = ap (λ (k : ℕ). marked_at k x.at) s ∙ x.marked; has = x.has }))
      (of_rows (n + 1) rows (early_row before n 0 word row) c h)

  -- ---- edges

  first_edges : (f : Function) (es : List EdgeWord) (word c : ℕ) → HasBit word c → HasBit (early_edges f before word es) c
  first_edges f [] word c h = h
  first_edges f (e ∷ es) word c h = first_edges f es (bit_or word (word_if (is_marked before (end_at f e.from)) e.word)) c (left_bit word (word_if (is_marked before (end_at f e.from)) e.word) c h)

  in_edges : (f : Function) (es : List EdgeWord) (word c : ℕ) (e : EdgeWord) → IsListed e es → is_marked before (end_at f e.from) ≡ true → HasBit e.word c → HasBit (early_edges f before word es) c
  in_edges f [] word c e listed m h = absurd listed
  in_edges f (x ∷ es) word c e listed m h = ⊎_elim
      (λ same. first_edges f es (bit_or word (word_if (is_marked before (end_at f x.from)) x.word)) c
      (right_bit word (word_if (is_marked before (end_at f x.from)) x.word) c
      (subst (λ (y : EdgeWord). HasBit (word_if (is_marked before (end_at f y.from)) y.word) c) same (bit_if (is_marked before (end_at f e.from)) e.word c m h))))
      (λ later. in_edges f es (bit_or word (word_if (is_marked before (end_at f x.from)) x.word)) c e later m h)
      listed

  record IsInEdges (f : Function) (es : List EdgeWord) (c : ℕ) : Type 0 where
    pub edge : EdgeWord
    pub is_listed : IsListed edge es
    pub marked : is_marked before (end_at f edge.from) ≡ true
    pub has : HasBit edge.word c

  of_edges : (f : Function) (es : List EdgeWord) (word c : ℕ) → HasBit (early_edges f before word es) c → HasBit word c ⊎ IsInEdges f es c
  of_edges f [] word c h = inl h
  of_edges f (e ∷ es) word c h = ⊎_elim
      (λ first. ⊎_elim
      (λ old. inl old)
      (λ here. let two = if_bit (is_marked before (end_at f e.from)) e.word c here in inr (record { edge = e; is_listed = inl refl; marked = two.0; has = two.1 }))
      (one_bit word (word_if (is_marked before (end_at f e.from)) e.word) c first))
      (λ (x : IsInEdges f es c). inr (record { edge = x.edge; is_listed = inr x.is_listed; marked = x.marked; has = x.has }))
      (of_edges f es (bit_or word (word_if (is_marked before (end_at f e.from)) e.word)) c h)

-- ---- put together

pub are_early : (f : Function) (slots words : List ℕ) (before : List (List Bool)) → AreAddressWords f slots words → AreThose (IsBeforeBegin f) before → AreEarly f slots (early_edges f before (early_rows before 0 0 (use_rows words f)) (edge_words words (phi_uses f)))
are_early f slots words before known set = record { each = λ c slot lt is. (to c slot lt is, from c slot lt is) }
  where
    to : (c slot : ℕ) → c < 64 → slice_get slots c ≡ Some slot → HasBit (early_edges f before (early_rows before 0 0 (use_rows words f)) (edge_words words (phi_uses f))) c → IsUsedEarly f slot
    to c slot lt is h = ⊎_elim
        (λ first. ⊎_elim
        (λ none. absurd (no_bit c none))
        (λ (x : IsInRows before 0 (use_rows words f) c).
        let p : Point = record { block = x.place; at = x.at } in
        let z : x.place ≡ 0 + x.place = omega arith in
        record {
          spot = At p;
          is_use = (use_told f slots words known c slot lt is p).0 x.has;
          is_early = (set.each p).0 (ap (λ (n : ℕ). is_marked before (record { block = n; at = x.at })) z ∙ x.marked);
        })
        (of_rows before 0 (use_rows words f) 0 c first))
        (λ (x : IsInEdges before f (edge_words words (phi_uses f)) c).
        record {
          spot = On x.edge.from x.edge.to;
          is_use = (edge_told f slots words known c slot lt is x.edge.from x.edge.to).0 (record { word = x.edge.word; is_listed = x.is_listed; has = x.has });
          is_early = (set.each (end_at f x.edge.from)).0 x.marked;
        })
        (of_edges before f (edge_words words (phi_uses f)) (early_rows before 0 0 (use_rows words f)) c h)

    from_spot : (c slot : ℕ) → c < 64 → slice_get slots c ≡ Some slot → (s : Spot) → IsUse f slot s → IsBeforeBegin f (point_at f s) → HasBit (early_edges f before (early_rows before 0 0 (use_rows words f)) (edge_words words (phi_uses f))) c
    from_spot c slot lt is (At p) uses early =
        let z : 0 + p.block ≡ p.block = omega arith in
        first_edges before f (edge_words words (phi_uses f)) (early_rows before 0 0 (use_rows words f)) c
        (in_rows before 0 (use_rows words f) 0 p.block p.at c (ap (λ (n : ℕ). is_marked before (record { block = n; at = p.at })) z ∙ (set.each p).1 early) ((use_told f slots words known c slot lt is p).1 uses))
    from_spot c slot lt is (On a b) uses early =
        let x : HasEdge (edge_words words (phi_uses f)) a b c = (edge_told f slots words known c slot lt is a b).1 uses in
        in_edges before f (edge_words words (phi_uses f)) (early_rows before 0 0 (use_rows words f)) c (record { from = a; to = b; word = x.word }) x.is_listed ((set.each (end_at f a)).1 early) x.has

    from : (c slot : ℕ) → c < 64 → slice_get slots c ≡ Some slot → IsUsedEarly f slot → HasBit (early_edges f before (early_rows before 0 0 (use_rows words f)) (edge_words words (phi_uses f))) c
    from c slot lt is x = from_spot c slot lt is x.spot x.is_use x.is_early

pub early_made : (f : Function) (slots words names : List ℕ) (before : List (List Bool)) (uses : List PhiUse) (blocks : List Block) (edges on_edges : List EdgeWord) (early word : ℕ) → AreAddressWords f slots words → AreThose (IsBeforeBegin f) before → uses ≡ phi_uses f → names ≡ words →
    edges ≡ edge_words names uses → blocks ≡ f.blocks → early ≡ early_rows before 0 0 (map (use_row names) blocks) → on_edges ≡ edges → word ≡ early_edges f before early on_edges → AreEarly f slots word
early_made f slots words names before uses blocks edges on_edges early word known set uses_are names_are edges_are blocks_are early_is on_edges_are is =
    subst (AreEarly f slots)
    (sym (is ∙ ap (λ (w : ℕ). early_edges f before w on_edges) (early_is ∙ ap (λ (bs : List Block). early_rows before 0 0 (map (use_row names) bs)) blocks_are ∙ ap (λ (n : List ℕ). early_rows before 0 0 (use_rows n f)) names_are)
    ∙ ap (early_edges f before (early_rows before 0 0 (use_rows words f))) (on_edges_are ∙ edges_are ∙ ap (edge_words names) uses_are ∙ ap (λ (n : List ℕ). edge_words n (phi_uses f)) names_are)))
    (are_early f slots words before known set)

-- the last of a row stands behind the others
pub row_ends : (before : List (List Bool)) (block at word : ℕ) (ws : List ℕ) (w : ℕ) → early_row before block at word (ws ++ w ∷ []) ≡ bit_or (early_row before block at word ws) (word_if (is_marked before (record { block = block; at = at + length ws })) w)
row_ends before block at word [] w = let z : at ≡ at + 0 = omega arith in ap (λ (k : ℕ). bit_or word (word_if (is_marked before (record { block = block; at = k })) w)) z
row_ends before block at word (x ∷ ws) w =
    let s : at + 1 + length ws ≡ at + suc (length ws) = omega arith in
    row_ends before block (at + 1) (bit_or word (word_if (is_marked before (record { block = block; at = at })) x)) ws w
    ∙ ap (λ (k : ℕ). bit_or (early_row before block (at + 1) (bit_or word (word_if (is_marked before (record { block = block; at = at })) x)) ws) (word_if (is_marked before (record { block = block; at = k })) w)) s

pub block_made : (before : List (List Bool)) (block first : ℕ) (words : List ℕ) (b : Block) (instrs : List Instr) (n word : ℕ) → instrs ≡ b.instrs → word ≡ early_row before block 0 first (map (used words) instrs) → n ≡ length instrs →
    bit_or word (word_if (is_marked before (record { block = block; at = n })) (with_term words 0 b.term)) ≡ early_row before block 0 first (use_row words b)
block_made before block first words b instrs n word same is long =
    let ws : List ℕ = map (used words) b.instrs in
    let z : length ws ≡ 0 + length ws = omega arith in
    ap (λ (w : ℕ). bit_or w (word_if (is_marked before (record { block = block; at = n })) (with_term words 0 b.term))) (is ∙ ap (λ (xs : List Instr). early_row before block 0 first (map (used words) xs)) same)
    ∙ ap (λ (k : ℕ). bit_or (early_row before block 0 first ws) (word_if (is_marked before (record { block = block; at = k })) (with_term words 0 b.term))) (long ∙ ap (λ (xs : List Instr). length xs) same ∙ sym (length-map b.instrs (used words)) ∙ z)
    ∙ sym (row_ends before block 0 first ws (with_term words 0 b.term))
