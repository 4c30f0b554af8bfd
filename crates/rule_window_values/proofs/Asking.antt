-- What the words of all chunks tell of values.
use Rattle.std.proofs.Common.{◌≡◌, ℕ, zero, suc, ◌+◌, ◌/◌, ◌%◌, ◌<◌, Bool, true, false, List, [], ◌∷◌, ◌++◌, length, Some, None, Option, refl, sym, ap, ◌∙◌, subst, ⊎_elim, inl, inr, arith, eq-eqb}
use Rattle.std.specs.Prelude.{◌↔◌, ◌==◌, IsTrue, bit_or, if◌then◌else◌, slice_get}
use Rattle.std.specs.Int.{bit_at}
use Rattle.std.proofs.lemmas.Bool.{cases_lt, eqb-true, false≢true}
use Rattle.std.proofs.lemmas.List.{length-append}
use Rattle.std.proofs.lemmas.Option.{slice_get_past}
use Rattle.flow_bits.specs.Bits.{HasBit}
use Rattle.rule_uses.specs.flow_blocks.Words.{word_at}
use Rattle.ir_base.specs.declared.outcome.Place.{Place}
use Rattle.rule_uses.specs.Uses.{Use, uses_of, values_at}
use Rattle.flow_solver.specs.Paths.{IsListed}
use Rattle.ir_parts.specs.Parts.{Part, first_part, or_place, parts_of, place_if}
use Rattle.ir_model.specs.declared.module.Function.{Function}
use Rattle.ir_paths.specs.Windows.{saves_of}
use Rattle.ir_paths.specs.declared.point.Point.{Point}
use Rattle.rule_shape.specs.rule_windows.First.{IsFirst}
use Rattle.rule_window_values.proofs.Bits.{Asks, asks, either_bit, made_told, no_bit}
use Rattle.rule_window_values.proofs.Reaching.{IsBehind, behind_told, told_behind}
use Rattle.rule_window_values.proofs.Taking.{TakesOwn, all_taken, edge_listed}
use Rattle.rule_window_values.proofs.Using.{IsHit, all_hit, some_from, some_to}
use Rattle.rule_window_values.specs.Kept.{BreaksValue, InBlock, IsFirstKept, IsKept, IsMadeIn, IsUsedBehind, OnEdge, TakesFrom, value_of}
use Rattle.rule_window_values.specs.Spans.{AreNumbered, AreSpansOf, ComesFrom, HasSpan, IsNumbered}
use Rattle.rule_window_values.specs.Told.{AreTold, IsChunkOf, IsKeptRuleOf, IsToldBy, breaks_value, told_number, told_value}
use Rattle.rule_window_values.specs.Words.{is_own_edge, live_at, taken_blocks, told_blocks}
use Rattle.rule_window_values.specs.declared.chunk.Chunk.{Chunk}
use Rattle.rule_window_values.specs.declared.rule.KeptRule.{KeptRule}
use Rattle.rule_window_values.specs.declared.spans.Span.{Span}

-- ---- one question

live_by : (ch : Chunk) (block c : ℕ) (b : Bool) → (block == ch.end) ≡ b → HasBit (if b then 0 else word_at ch.words block) c ↔ ((block ≡ ch.end → ⊥) × HasBit (word_at ch.words block) c)
live_by ch block c true e = ((λ h. absurd (no_bit c h)), (λ h. absurd (h.0 (eqb-true block ch.end e))))
live_by ch block c false e = ((λ h. ((λ same. false≢true (sym e ∙ eq-eqb block ch.end same)), h)), (λ h. h.1))

live_is : (ch : Chunk) (block c : ℕ) → HasBit (live_at ch block) c ↔ ((block ≡ ch.end → ⊥) × HasBit (word_at ch.words block) c)
live_is ch block c = live_by ch block c (block == ch.end) refl

module _ (f : Function) (numbers : List (Option ℕ)) (v c : ℕ) (spans : List Span) (are : AreSpansOf f spans) (ch : Chunk) (is : IsChunkOf f numbers spans ch.number ch) (a : Asks numbers ch.number v c) where
  mades : (b : ℕ) → HasBit (word_at ch.made b) c ↔ IsListed v (values_at f b)
  mades b = subst (λ (m : List ℕ). HasBit (word_at m b) c ↔ IsListed v (values_at f b)) (sym is.made) (made_told numbers ch.number v c a f b)

  told_there : (b : ℕ) → HasBit (word_at ch.words b) c → IsBehind f v b
  told_there b h = told_behind f numbers ch.number v c a spans are ch.made ch.end is.end mades ch.words is.words_length is.words b h

  there_told : (b : ℕ) → IsBehind f v b → HasBit (word_at ch.words b) c
  there_told b h = behind_told f numbers ch.number v c a spans are ch.made ch.end is.end mades ch.words is.words_length is.words b h

  hit_kept : (func : ℕ) (u : Use) → IsListed u (uses_of func f) → IsHit v c ch u → IsKept func f v
  hit_kept func u l h =
      let live = (live_is ch u.block c).0 h.live in
      let behind : IsBehind f v u.block = told_there u.block live.1 in
      record {
        save = behind.save;
        suspend = behind.suspend;
        is_save = behind.is_save;
        is_made = behind.is_made;
        is_used = InBlock u l h.value behind.reaches h.not_before (λ same. live.0 (same ∙ sym is.end));
      }

  own_kept : (func : ℕ) → TakesOwn f v spans → IsKept func f v
  own_kept func t =
      let from : ComesFrom f (saves_of f) t.span = are.each t.span t.is_span in
      let same : t.span.block ≡ from.suspend.block = from.is_span.block in
      record {
        save = from.save;
        suspend = from.suspend;
        is_save = from.is_save;
        is_made = (from.is_span.values v).0 t.has;
        is_used = OnEdge t.block ((edge_listed f from.suspend t.block).0 (subst (λ (n : ℕ). is_own_edge f n t.block ≡ true) same t.is_own)) (subst (λ (n : ℕ). TakesFrom f v n t.block) same t.takes);
      }

  abbrev all_told : ℕ
  all_told = bit_or (told_blocks f numbers ch 0 0 f.blocks) (taken_blocks f numbers ch 0 0 f.blocks)

  told_kept : (func : ℕ) → HasBit all_told c → IsKept func f v
  told_kept func h = ⊎_elim
      (λ used. let found : (u : Use) × (IsListed u (uses_of func f) × IsHit v c ch u) = some_from (IsHit v c ch) (uses_of func f) ((all_hit numbers v c ch a f mades func).0 used) in hit_kept func found.0 found.1.0 found.1.1)
      (λ taken. own_kept func ((all_taken f numbers v c ch spans a is.own).0 taken))
      ((either_bit (told_blocks f numbers ch 0 0 f.blocks) (taken_blocks f numbers ch 0 0 f.blocks) c).0 h)

  used_told : (func : ℕ) (k s : Point) → IsListed (k, s) (saves_of f) → IsMadeIn f k s v → IsUsedBehind func f s v → HasBit all_told c
  used_told func k s pair made (InBlock u l value reach not_before no_end) =
      (either_bit (told_blocks f numbers ch 0 0 f.blocks) (taken_blocks f numbers ch 0 0 f.blocks) c).1
      (inl ((all_hit numbers v c ch a f mades func).1 (some_to (IsHit v c ch) (uses_of func f) u l (record {
        value = value;
        live = (live_is ch u.block c).1 ((λ same. no_end (same ∙ is.end)), there_told u.block (record { save = k; suspend = s; is_save = pair; is_made = made; reaches = reach }));
        not_before = not_before;
      }))))
  used_told func k s pair made (OnEdge block own takes) =
      let span : HasSpan f k s spans = are.all k s pair in
      let same : s.block ≡ span.span.block = sym span.is_span.block in
      (either_bit (told_blocks f numbers ch 0 0 f.blocks) (taken_blocks f numbers ch 0 0 f.blocks) c).1
      (inr ((all_taken f numbers v c ch spans a is.own).1 (record {
        block = block;
        span = span.span;
        is_span = span.is_listed;
        has = (span.is_span.values v).1 made;
        is_own = subst (λ (n : ℕ). is_own_edge f n block ≡ true) same ((edge_listed f s block).1 own);
        takes = subst (λ (n : ℕ). TakesFrom f v n block) same takes;
      })))

  told_same : (func : ℕ) → HasBit all_told c ↔ IsKept func f v
  told_same func = ((λ h. told_kept func h), (λ k. used_told func k.save k.suspend k.is_save k.is_made k.is_used))

-- ---- the words

pub told_by_chunk : (f : Function) (names : ℕ) (numbers : List (Option ℕ)) (values : List ℕ) (spans : List Span) (chunk : ℕ) (ch : Chunk) (told taken : ℕ) → AreSpansOf f spans → AreNumbered names spans numbers values → IsChunkOf f numbers spans chunk ch →
    told ≡ told_blocks f numbers ch 0 0 f.blocks → taken ≡ taken_blocks f numbers ch 0 0 f.blocks → IsToldBy f numbers chunk (bit_or told taken)
told_by_chunk f names numbers values spans chunk ch told taken are numbered is told_is taken_is = record { each = each }
  where
    word_is : bit_or told taken ≡ bit_or (told_blocks f numbers ch 0 0 f.blocks) (taken_blocks f numbers ch 0 0 f.blocks)
    word_is = ap (λ (x : ℕ). bit_or x taken) told_is ∙ ap (bit_or (told_blocks f numbers ch 0 0 f.blocks)) taken_is

    each : (func v k : ℕ) → slice_get numbers v ≡ Some (Some k) → k / 64 ≡ chunk → HasBit (bit_or told taken) (k % 64) ↔ IsKept func f v
    each func v k at chunk_is =
        subst (λ (w : ℕ). HasBit w (k % 64) ↔ IsKept func f v) (sym word_is)
        (told_same f numbers v (k % 64) spans are ch (subst (λ (n : ℕ). IsChunkOf f numbers spans n ch) (sym is.number) is)
        (asks names numbers values numbered.numbering ch.number v k at (chunk_is ∙ sym is.number)) func)

pub none_told_yet : (f : Function) (numbers : List (Option ℕ)) → AreTold f numbers 0 []
none_told_yet f numbers = record { words_length = refl; each = λ func v k at lt. absurd (omega arith) }

before_word : (words : List ℕ) (w i : ℕ) → i < length words → word_at (words ++ w ∷ []) i ≡ word_at words i
before_word [] w i lt = absurd (omega arith)
before_word (x ∷ xs) w zero lt = refl
before_word (x ∷ xs) w (suc i) lt = before_word xs w i (omega arith)

last_word : (words : List ℕ) (w : ℕ) → word_at (words ++ w ∷ []) (length words) ≡ w
last_word [] w = refl
last_word (x ∷ xs) w = last_word xs w

pub next_told : (f : Function) (numbers : List (Option ℕ)) (chunk word : ℕ) (words words2 : List ℕ) → words2 ≡ words ++ word ∷ [] → IsToldBy f numbers chunk word → AreTold f numbers chunk words → AreTold f numbers (chunk + 1) words2
next_told f numbers chunk word words words2 pushed one all =
    subst (AreTold f numbers (chunk + 1)) (sym pushed) (record {
      words_length = length-append words (word ∷ []) ∙ ap (λ (n : ℕ). n + 1) all.words_length;
      each = λ func v k at lt. ⊎_elim (λ less. early func v k at less) (λ more. now func v k at (omega (arith, lt, more))) (cases_lt (k / 64) chunk);
    })
  where
    early : (func v k : ℕ) → slice_get numbers v ≡ Some (Some k) → k / 64 < chunk → HasBit (word_at (words ++ word ∷ []) (k / 64)) (k % 64) ↔ IsKept func f v
    early func v k at less =
        let len = all.words_length in
        subst (λ (w : ℕ). HasBit w (k % 64) ↔ IsKept func f v) (sym (before_word words word (k / 64) (omega (arith, less, len)))) (all.each func v k at less)

    now : (func v k : ℕ) → slice_get numbers v ≡ Some (Some k) → k / 64 ≡ chunk → HasBit (word_at (words ++ word ∷ []) (k / 64)) (k % 64) ↔ IsKept func f v
    now func v k at same =
        subst (λ (w : ℕ). HasBit w (k % 64) ↔ IsKept func f v)
        (sym (ap (word_at (words ++ word ∷ [])) (same ∙ sym all.words_length) ∙ last_word words word))
        (one.each func v k at same)

-- ---- the rule

number_told : (f : Function) (names : ℕ) (numbers : List (Option ℕ)) (values : List ℕ) (spans : List Span) (words : List ℕ) (chunks : ℕ) → AreSpansOf f spans → AreNumbered names spans numbers values → ((k : ℕ) → k < length values → k / 64 < chunks) → AreTold f numbers chunks words →
    (func v : ℕ) → IsTrue (told_value numbers words (Some v)) ↔ IsKept func f v
number_told f names numbers values spans words chunks are numbered enough told func v = by (slice_get numbers v) refl
  where
    below : (k : ℕ) → slice_get numbers v ≡ Some (Some k) → k < length values
    below k at = ⊎_elim (λ lt. lt) (λ past. absurd (past_none k (slice_get_past values k past) (numbered.numbering.asked v k at))) (cases_lt k (length values))
      where
        past_none : (k : ℕ) → slice_get values k ≡ None → slice_get values k ≡ Some v → ⊥
        past_none k e g = cc

    has_number : IsKept func f v → IsNumbered numbers values v
    has_number kept =
        let span : HasSpan f kept.save kept.suspend spans = are.all kept.save kept.suspend kept.is_save in
        numbered.numbered span.span v span.is_listed ((span.is_span.values v).1 kept.is_made)

    no_number : (o : Option (Option ℕ)) → ((k : ℕ) → o ≡ Some (Some k) → ⊥) → slice_get numbers v ≡ o → IsKept func f v → ⊥
    no_number o never e kept = let n = has_number kept in never n.number (sym e ∙ n.has)

    by : (o : Option (Option ℕ)) → slice_get numbers v ≡ o → IsTrue (told_number words o) ↔ IsKept func f v
    by None e = ((λ h. absurd (false≢true h)), (λ kept. absurd (no_number None (λ k same. cc) e kept)))
    by (Some None) e = ((λ h. absurd (false≢true h)), (λ kept. absurd (no_number (Some None) (λ k same. cc) e kept)))
    by (Some (Some k)) e =
        let same = told.each func v k e (enough k (below k e)) in
        ((λ h. same.0 (eqb-true (bit_at (word_at words (k / 64)) (k % 64)) 1 h)), (λ kept. eq-eqb (bit_at (word_at words (k / 64)) (k % 64)) 1 (same.1 kept)))

pub rule_is : (f : Function) (names : ℕ) (numbers : List (Option ℕ)) (values : List ℕ) (spans : List Span) (words : List ℕ) (chunks : ℕ) → AreSpansOf f spans → AreNumbered names spans numbers values → ((k : ℕ) → k < length values → k / 64 < chunks) → AreTold f numbers chunks words →
    IsKeptRuleOf f (record { numbers = numbers; words = words })
rule_is f names numbers values spans words chunks are numbered enough told = record { each = number_told f names numbers values spans words chunks are numbered enough told }

-- ---- the first

none_first : (func : ℕ) (f : Function) (xs : List (Place × Part)) → ((x : Place × Part) → BreaksValue func f x → ⊥) → IsFirst (BreaksValue func f) (λ x. x.0) xs None
none_first func f [] h = refl
none_first func f (x ∷ xs) h = inr (h x, none_first func f xs h)

pub no_first_kept : (func : ℕ) (f : Function) → f.coroutine ≡ false → IsFirstKept func f None
no_first_kept func f e = none_first func f (parts_of func f) (λ x b. false≢true (sym e ∙ b.is_coroutine))

module _ (func : ℕ) (f : Function) (numbers : List (Option ℕ)) (words : List ℕ) (co : f.coroutine ≡ true) (told : (v : ℕ) → IsTrue (told_value numbers words (Some v)) ↔ IsKept func f v) where
  value_sound : (x : Place × Part) (o : Option ℕ) → value_of x.1 ≡ o → told_value numbers words o ≡ true → BreaksValue func f x
  value_sound x None e h = absurd (false≢true h)
  value_sound x (Some v) e h = record { is_coroutine = co; value = v; makes = e; is_kept = (told v).0 h }

  value_complete : (x : Place × Part) → BreaksValue func f x → breaks_value numbers words x.0 x.1 ≡ true
  value_complete x b = subst (λ (o : Option ℕ). told_value numbers words o ≡ true) (sym b.makes) ((told b.value).1 b.is_kept)

  first_by : (x : Place × Part) (xs : List (Place × Part)) (b : Bool) → breaks_value numbers words x.0 x.1 ≡ b → IsFirst (BreaksValue func f) (λ y. y.0) xs (first_part (breaks_value numbers words) xs) →
      IsFirst (BreaksValue func f) (λ y. y.0) (x ∷ xs) (or_place (place_if b x.0) (first_part (breaks_value numbers words) xs))
  first_by x xs true e h = inl (value_sound x (value_of x.1) refl e, refl)
  first_by x xs false e h = inr ((λ b. false≢true (sym e ∙ value_complete x b)), h)

  first_is : (xs : List (Place × Part)) → IsFirst (BreaksValue func f) (λ y. y.0) xs (first_part (breaks_value numbers words) xs)
  first_is [] = refl
  first_is (x ∷ xs) = first_by x xs (breaks_value numbers words x.0 x.1) refl (first_is xs)

pub first_kept_is : (func : ℕ) (f : Function) (r : KeptRule) (o : Option Place) → f.coroutine ≡ true → IsKeptRuleOf f r → o ≡ first_part (breaks_value r.numbers r.words) (parts_of func f) → IsFirstKept func f o
first_kept_is func f r o co is e = subst (IsFirstKept func f) (sym e) (first_is func f r.numbers r.words co (λ v. is.each func v) (parts_of func f))
