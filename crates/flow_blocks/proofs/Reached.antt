-- The answers to one question over the blocks of a function are the blocks that paths reach.
use Rattle.std.proofs.Common.{◌≡◌, ℕ, ◌+◌, ◌<◌, ◌≤◌, Bool, true, false, List, [], ◌∷◌, length, map, Some, None, Option, refl, sym, ap, ◌∙◌, subst, ⊎_elim, arith}
use Rattle.std.specs.Prelude.{slice_get, option_map}
use Rattle.std.proofs.lemmas.Nat.Bits.{bit_at-zero}
use Rattle.std.proofs.lemmas.Option.{slice_get-get_or, slice_get-map, unwrap_or-slice_get}
use Rattle.flow_bits.specs.Bits.{HasBit}
use Rattle.flow_bits.specs.Reaching.{AnswersAt, Reaches, StartAt}
use Rattle.flow_bits.specs.Reaching.Reaches.{Start as AskedStart, Edge as AskedEdge}
use Rattle.flow_blocks.proofs.Bounds.{edge_bounded}
use Rattle.flow_blocks.proofs.Elements.{listed_map, map_listed}
use Rattle.flow_blocks.specs.Edges.{block_edges}
use Rattle.flow_blocks.specs.Reach.{AreReached, IsReached}
use Rattle.flow_blocks.specs.Reach.IsReached.{Start, Edge}
use Rattle.flow_blocks.specs.Words.{AreMarked, AreTold, kept_word, word_at, word_of}
use Rattle.flow_bits.proofs.flow_solver.Lists.{listed_at, place_of}
use Rattle.flow_bits.specs.flow_solver.Paths.{IsListed}
use Rattle.ir_model.specs.declared.module.Function.{Function}

abbrev pub kept_of : List Bool → List (ℕ × ℕ) → List ℕ
kept_of marks edges = map (λ (e : ℕ × ℕ). kept_word marks e.1) edges

abbrev pub asked_at : List ℕ → List (ℕ × ℕ)
asked_at starts = map (λ (b : ℕ). (b, 1)) starts

-- the word of an edge
word_is : (marks : List Bool) (edges : List (ℕ × ℕ)) (e from to : ℕ) → slice_get edges e ≡ Some (from, to) → slice_get (kept_of marks edges) e ≡ Some (kept_word marks to)
word_is marks edges e from to at = slice_get-map (λ (x : ℕ × ℕ). kept_word marks x.1) edges e ∙ ap (option_map (λ (x : ℕ × ℕ). kept_word marks x.1)) at

same_some : (a b : ℕ) → Some a ≡ Some b → a ≡ b
same_some a b e = cc

pub word_within : (words : List ℕ) (b : ℕ) → b < length words → slice_get words b ≡ Some (word_at words b)
word_within words b lt = slice_get-get_or words b 0 lt ∙ ap (λ (w : ℕ). Some w) (sym (unwrap_or-slice_get words b 0))

no_bit : (word : ℕ) → word ≡ 0 → HasBit word 0 → ⊥
no_bit word is has = let none : HasBit 0 0 = subst (λ w. HasBit w 0) is has in let zero_bit = bit_at-zero 0 in omega (arith, none, zero_bit)

module _ (f : Function) (starts avoided : List ℕ) (marks : List Bool) (marked : AreMarked (length f.blocks + 1) avoided marks) where
  to_path : (b : ℕ) → Reaches (block_edges f) (kept_of marks (block_edges f)) (asked_at starts) 0 b → IsReached f starts avoided b
  to_path _ (AskedStart node word listed has) =
      let found : (b : ℕ) × (IsListed b starts × ((node, word) ≡ (b, 1))) = listed_map (λ (b : ℕ). (b, 1)) (node, word) starts listed in
      Start node (subst (λ x. IsListed x starts) (sym (ap (λ (p : ℕ × ℕ). p.0) found.1.1)) found.1.0)
  to_path _ (AskedEdge e from to word at kept_is has before) =
      let listed = listed_at (block_edges f) e (from, to) at in
      Edge from to (to_path from before) listed
      (λ avoids. no_bit word (same_some word (kept_word marks to) (sym kept_is ∙ word_is marks (block_edges f) e from to at) ∙ ap word_of (marked.is_marked to (edge_bounded f from to listed).1 avoids)) has)

  open_word : (to : ℕ) → (IsListed to avoided → ⊥) → (o : Option Bool) → slice_get marks to ≡ o → HasBit (word_of o) 0
  open_word to free None e = refl
  open_word to free (Some true) e = absurd (free (marked.marks_listed to e))
  open_word to free (Some false) e = refl

  from_path : (b : ℕ) → IsReached f starts avoided b → Reaches (block_edges f) (kept_of marks (block_edges f)) (asked_at starts) 0 b
  from_path _ (Start b listed) = AskedStart b 1 (map_listed (λ (x : ℕ). (x, 1)) b starts listed) refl
  from_path _ (Edge from to before listed free) =
      let found = place_of (block_edges f) (from, to) listed in
      AskedEdge found.0 from to (kept_word marks to) found.1 (word_is marks (block_edges f) found.0 from to found.1) (open_word to free (slice_get marks to) refl) (from_path from before)

  pub are_reached : (words blocks : List ℕ) → length words ≡ length f.blocks + 1 →
      ((node word : ℕ) → slice_get words node ≡ Some word → AnswersAt (block_edges f) (kept_of marks (block_edges f)) (asked_at starts) node word) →
      AreTold words (length f.blocks) blocks → AreReached f starts avoided blocks
  are_reached words blocks len answers t = record {
    in_order = t.in_order;
    is_block = t.below;
    is_reached = λ b h. to_path b ((at b (t.below b h)).is_reached 0 (omega arith) (t.has_bit b h));
    is_told = λ b lt path. t.listed b lt ((at b lt).is_told 0 (omega arith) (from_path b path));
  }
    where
      at : (b : ℕ) → b < length f.blocks → AnswersAt (block_edges f) (kept_of marks (block_edges f)) (asked_at starts) b (word_at words b)
      at b lt = answers b (word_at words b) (word_within words b (omega (arith, len, lt)))

-- where the start is no block, nothing else is reached
only_start : (f : Function) (from : ℕ) (avoided : List ℕ) → length f.blocks ≤ from → (b : ℕ) → IsReached f (from ∷ []) avoided b → b ≡ from
only_start f from avoided le _ (Start b listed) = ⊎_elim (λ e. e) (λ none. absurd none) listed
only_start f from avoided le _ (Edge a to before listed free) =
    let same = only_start f from avoided le a before in
    let within = (edge_bounded f a to listed).0 in
    absurd (omega (arith, same, within, le))

pub none_reached : (f : Function) (from : ℕ) (avoided : List ℕ) → length f.blocks ≤ from → AreReached f (from ∷ []) avoided []
none_reached f from avoided le = record {
  in_order = λ k lt. absurd (omega arith);
  is_block = λ b h. absurd h;
  is_reached = λ b h. absurd h;
  is_told = λ b lt path. let same = only_start f from avoided le b path in absurd (omega (arith, same, lt, le));
}

pub starts_within : (nodes : ℕ) (starts : List ℕ) → ((b : ℕ) → IsListed b starts → b < nodes) → StartAt nodes (asked_at starts)
starts_within nodes starts within i node word at =
    let found : (b : ℕ) × (IsListed b starts × ((node, word) ≡ (b, 1))) = listed_map (λ (b : ℕ). (b, 1)) (node, word) starts (listed_at (asked_at starts) i (node, word) at) in
    subst (λ x. x < nodes) (sym (ap (λ (p : ℕ × ℕ). p.0) found.1.1)) (within found.0 found.1.0)
