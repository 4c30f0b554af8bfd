-- The paths of a question, and those from a suspend's own edges.
use Rattle.std.proofs.Common.{◌≡◌, ℕ, ◌+◌, ◌<◌, ◌⊎◌, List, [], ◌∷◌, length, map, Some, Option, refl, sym, ap, ◌∙◌, subst, ⊎_elim, inl, inr, arith}
use Rattle.std.specs.Prelude.{◌↔◌, option_map, slice_get, unwrap_or}
use Rattle.std.proofs.lemmas.Bool.{cases_lt}
use Rattle.std.proofs.lemmas.Option.{slice_get-map, slice_get_past}
use Rattle.flow_bits.specs.Bits.{HasBit}
use Rattle.flow_bits.specs.Reaching.{AnswersAt, Reaches, StartAt}
use Rattle.flow_bits.specs.Reaching.Reaches.{Start, Edge}
use Rattle.rule_uses.proofs.flow_blocks.Bounds.{edge_bounded, position_bounded}
use Rattle.rule_uses.proofs.flow_blocks.Reached.{word_within}
use Rattle.rule_uses.specs.flow_blocks.Edges.{block_edges}
use Rattle.rule_uses.specs.flow_blocks.Words.{word_at}
use Rattle.rule_uses.specs.Uses.{values_at}
use Rattle.flow_solver.proofs.Lists.{listed_at, place_of, same_place}
use Rattle.flow_solver.specs.Paths.{IsListed}
use Rattle.ir_model.specs.declared.module.Function.{Function}
use Rattle.ir_paths.specs.Windows.{destroy_label, end_block, resume_label, saves_of}
use Rattle.ir_paths.specs.declared.point.Point.{Point}
use Rattle.rule_window_values.proofs.Bits.{Asks, Passes, no_bit, passes_is}
use Rattle.rule_window_values.proofs.Taking.{span_bit}
use Rattle.rule_window_values.specs.Kept.{IsMadeIn, Next, Own, ReachesBehind, own_blocks}
use Rattle.rule_window_values.specs.Spans.{AreSpansOf, ComesFrom, HasSpan, IsSpanOf}
use Rattle.rule_window_values.specs.Words.{passed_word, span_word, starts_of}
use Rattle.rule_window_values.specs.declared.spans.Span.{Span}

-- ---- starts

-- a span whose suspend's own edges lead to the node
record HasStart (numbers : List (Option ℕ)) (chunk node word : ℕ) (spans : List Span) : Type 0 where
  span : Span
  is_listed : IsListed span spans
  leads : (node ≡ span.resumed) ⊎ (node ≡ span.destroyed)
  is_word : word ≡ span_word numbers chunk span

first_part : (a b c d : ℕ) → ◌≡◌ {A = ℕ × ℕ} (a, b) (c, d) → a ≡ c
first_part a b c d e = ap (λ (p : ℕ × ℕ). p.0) e

second_part : (a b c d : ℕ) → ◌≡◌ {A = ℕ × ℕ} (a, b) (c, d) → b ≡ d
second_part a b c d e = ap (λ (p : ℕ × ℕ). p.1) e

start_from : (numbers : List (Option ℕ)) (chunk node word : ℕ) (spans : List Span) → IsListed (node, word) (starts_of numbers chunk spans) → HasStart numbers chunk node word spans
start_from numbers chunk node word [] h = absurd h
start_from numbers chunk node word (s ∷ ss) h = ⊎_elim resumed (λ more. ⊎_elim destroyed (λ l. later (start_from numbers chunk node word ss l)) more) h
  where
    resumed : ◌≡◌ {A = ℕ × ℕ} (node, word) (s.resumed, span_word numbers chunk s) → HasStart numbers chunk node word (s ∷ ss)
    resumed e = record { span = s; is_listed = inl refl; leads = inl (first_part node word s.resumed (span_word numbers chunk s) e); is_word = second_part node word s.resumed (span_word numbers chunk s) e }

    destroyed : ◌≡◌ {A = ℕ × ℕ} (node, word) (s.destroyed, span_word numbers chunk s) → HasStart numbers chunk node word (s ∷ ss)
    destroyed e = record { span = s; is_listed = inl refl; leads = inr (first_part node word s.destroyed (span_word numbers chunk s) e); is_word = second_part node word s.destroyed (span_word numbers chunk s) e }

    later : HasStart numbers chunk node word ss → HasStart numbers chunk node word (s ∷ ss)
    later rest =
        record { span = rest.span; is_listed = inr rest.is_listed; leads = rest.leads; is_word = rest.is_word }

resumed_start : (numbers : List (Option ℕ)) (chunk : ℕ) (s : Span) (spans : List Span) → IsListed s spans → IsListed (s.resumed, span_word numbers chunk s) (starts_of numbers chunk spans)
resumed_start numbers chunk s [] h = absurd h
resumed_start numbers chunk s (x ∷ xs) h = ⊎_elim (λ e. inl (ap (λ (y : Span). (y.resumed, span_word numbers chunk y)) e)) (λ later. inr (inr (resumed_start numbers chunk s xs later))) h

destroyed_start : (numbers : List (Option ℕ)) (chunk : ℕ) (s : Span) (spans : List Span) → IsListed s spans → IsListed (s.destroyed, span_word numbers chunk s) (starts_of numbers chunk spans)
destroyed_start numbers chunk s [] h = absurd h
destroyed_start numbers chunk s (x ∷ xs) h = ⊎_elim (λ e. inr (inl (ap (λ (y : Span). (y.destroyed, span_word numbers chunk y)) e))) (λ later. inr (inr (destroyed_start numbers chunk s xs later))) h

span_bounded : (f : Function) (saves : List (Point × Point)) (span : Span) (node : ℕ) → ComesFrom f saves span → (node ≡ span.resumed) ⊎ (node ≡ span.destroyed) → node < length f.blocks + 1
span_bounded f saves span node c leads = ⊎_elim
    (λ e. subst (λ (x : ℕ). x < length f.blocks + 1) (sym (e ∙ c.is_span.resumed)) (position_bounded f (resume_label f c.suspend)))
    (λ e. subst (λ (x : ℕ). x < length f.blocks + 1) (sym (e ∙ c.is_span.destroyed)) (position_bounded f (destroy_label f c.suspend)))
    leads

pub starts_within : (f : Function) (numbers : List (Option ℕ)) (chunk : ℕ) (spans : List Span) → AreSpansOf f spans → StartAt (length f.blocks + 1) (starts_of numbers chunk spans)
starts_within f numbers chunk spans are i node word at =
    let start : HasStart numbers chunk node word spans = start_from numbers chunk node word spans (listed_at (starts_of numbers chunk spans) i (node, word) at) in
    span_bounded f (saves_of f) start.span node (are.each start.span start.is_listed) start.leads

-- ---- paths

-- the value is made in the window of a suspend, from whose own edges a path leads to the block
pub record IsBehind (f : Function) (v block : ℕ) : Type 0 where
  pub save : Point
  pub suspend : Point
  pub is_save : IsListed (save, suspend) (saves_of f)
  pub is_made : IsMadeIn f save suspend v
  pub reaches : ReachesBehind f suspend v block

module _ (f : Function) (numbers : List (Option ℕ)) (chunk v c : ℕ) (a : Asks numbers chunk v c) (spans : List Span) (are : AreSpansOf f spans) (made : List ℕ) (end : ℕ) (end_is : end ≡ end_block f)
    (mades : (b : ℕ) → HasBit (word_at made b) c ↔ IsListed v (values_at f b)) where
  abbrev kept : List ℕ
  kept = map (passed_word made end) (block_edges f)

  abbrev asked : List (ℕ × ℕ)
  asked = starts_of numbers chunk spans

  word_is : (e from to : ℕ) → slice_get (block_edges f) e ≡ Some (from, to) → slice_get kept e ≡ Some (passed_word made end (from, to))
  word_is e from to there = slice_get-map (passed_word made end) (block_edges f) e ∙ ap (option_map (passed_word made end)) there

  own_listed : (span : Span) (s k : Point) (node : ℕ) → IsSpanOf f k s span → (node ≡ span.resumed) ⊎ (node ≡ span.destroyed) → IsListed node (own_blocks f s)
  own_listed span s k node is leads = ⊎_elim (λ e. inl (e ∙ is.resumed)) (λ e. inr (inl (e ∙ is.destroyed))) leads

  begun : (node word : ℕ) → IsListed (node, word) asked → HasBit word c → IsBehind f v node
  begun node word listed has =
      let start : HasStart numbers chunk node word spans = start_from numbers chunk node word spans listed in
      let from : ComesFrom f (saves_of f) start.span = are.each start.span start.is_listed in
      let value : IsListed v start.span.values = (span_bit numbers chunk v c a start.span).0 (subst (λ (w : ℕ). HasBit w c) start.is_word has) in
      record {
        save = from.save;
        suspend = from.suspend;
        is_save = from.is_save;
        is_made = (from.is_span.values v).0 value;
        reaches = Own node (own_listed start.span from.suspend from.save node from.is_span start.leads);
      }

  to_path : (b : ℕ) → Reaches (block_edges f) kept asked c b → IsBehind f v b
  to_path _ (Start node word listed has) = begun node word listed has
  to_path _ (Edge e from to word there kept_is has before) =
      let word_same : word ≡ passed_word made end (from, to) = same_place (slice_get kept e) word (passed_word made end (from, to)) kept_is (word_is e from to there) in
      let passes : Passes made end from c = (passes_is made end from to c a.small).0 (subst (λ (x : ℕ). HasBit x c) word_same has) in
      let rest : IsBehind f v from = to_path from before in
      record {
        save = rest.save;
        suspend = rest.suspend;
        is_save = rest.is_save;
        is_made = rest.is_made;
        reaches = Next from to rest.reaches (λ makes. passes.not_made ((mades from).1 makes)) (λ same. passes.no_end (same ∙ sym end_is)) (listed_at (block_edges f) e (from, to) there);
      }

  start_at : (k s : Point) (block : ℕ) → HasSpan f k s spans → IsMadeIn f k s v → IsListed block (own_blocks f s) → Reaches (block_edges f) kept asked c block
  start_at k s block h is_made l =
      let has : HasBit (span_word numbers chunk h.span) c = (span_bit numbers chunk v c a h.span).1 ((h.is_span.values v).1 is_made) in
      ⊎_elim
      (λ e. subst (Reaches (block_edges f) kept asked c) (h.is_span.resumed ∙ sym e) (Start h.span.resumed (span_word numbers chunk h.span) (resumed_start numbers chunk h.span spans h.is_listed) has))
      (λ later. ⊎_elim
      (λ e. subst (Reaches (block_edges f) kept asked c) (h.is_span.destroyed ∙ sym e) (Start h.span.destroyed (span_word numbers chunk h.span) (destroyed_start numbers chunk h.span spans h.is_listed) has))
      (λ none. absurd none) later)
      l

  from_path : (k s : Point) → HasSpan f k s spans → IsMadeIn f k s v → (b : ℕ) → ReachesBehind f s v b → Reaches (block_edges f) kept asked c b
  from_path k s h is_made _ (Own block l) = start_at k s block h is_made l
  from_path k s h is_made _ (Next from to before not_made no_end listed) =
      let found = place_of (block_edges f) (from, to) listed in
      Edge found.0 from to (passed_word made end (from, to)) found.1 (word_is found.0 from to found.1)
      ((passes_is made end from to c a.small).1 (record { no_end = λ same. no_end (same ∙ end_is); not_made = λ has. not_made ((mades from).0 has) }))
      (from_path k s h is_made from before)

  listed_bounded : (s : Point) (block : ℕ) → IsListed block (own_blocks f s) → block < length f.blocks + 1
  listed_bounded s block l = ⊎_elim
      (λ e. subst (λ (x : ℕ). x < length f.blocks + 1) (sym e) (position_bounded f (resume_label f s)))
      (λ later. ⊎_elim (λ e. subst (λ (x : ℕ). x < length f.blocks + 1) (sym e) (position_bounded f (destroy_label f s))) (λ none. absurd none) later)
      l

  reaches_bounded : (s : Point) (b : ℕ) → ReachesBehind f s v b → b < length f.blocks + 1
  reaches_bounded s _ (Own block l) = listed_bounded s block l
  reaches_bounded s _ (Next from to before not_made no_end listed) = (edge_bounded f from to listed).1

  module _ (words : List ℕ) (len : length words ≡ length f.blocks + 1) (answers : (node word : ℕ) → slice_get words node ≡ Some word → AnswersAt (block_edges f) kept asked node word) where
    pub behind_told : (b : ℕ) → IsBehind f v b → HasBit (word_at words b) c
    behind_told b h =
        let lt = reaches_bounded h.suspend b h.reaches in
        (answers b (word_at words b) (word_within words b (omega (arith, len, lt)))).is_told c a.small (from_path h.save h.suspend (are.all h.save h.suspend h.is_save) h.is_made b h.reaches)

    pub told_behind : (b : ℕ) → HasBit (word_at words b) c → IsBehind f v b
    told_behind b has = ⊎_elim
        (λ lt. to_path b ((answers b (word_at words b) (word_within words b lt)).is_reached c a.small has))
        (λ past. absurd (no_bit c (subst (λ (o : Option ℕ). HasBit (unwrap_or o 0) c) (slice_get_past words b past) has)))
        (cases_lt b (length words))
