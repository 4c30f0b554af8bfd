-- Pairs of values and suspends, value after value.
use Rattle.std.proofs.Common.{◌≡◌, ℕ, zero, suc, ◌+◌, ◌*◌, ◌/◌, ◌%◌, ◌<◌, ◌≤◌, Bool, true, false, List, [], ◌∷◌, ◌++◌, length, take, get_or, Some, Option, refl, sym, ap, ◌∙◌, subst, ⊎_elim, arith, append_assoc}
use Rattle.std.specs.Prelude.{slice_get, ◌==◌}
use Rattle.std.specs.Int.{bit_at}
use Rattle.std.proofs.lemmas.Bool.{eq-eqb, eqb-true, false≢true}
use Rattle.std.proofs.lemmas.List.{append-nil, take_more}
use Rattle.std.proofs.lemmas.Option.{slice_get-get_or}
use Rattle.flow_bits.specs.Bits.{HasBit}
use Rattle.rule_uses.specs.Questions.{has_bit}
use Rattle.flow_solver.proofs.Lists.{listed_at}
use Rattle.ir_model.specs.declared.module.Function.{Function}
use Rattle.ir_paths.specs.declared.point.Point.{Point}
use Rattle.frame_crossing.proofs.Bits.{no_bit}
use Rattle.frame_crossing.specs.Crossing.{AreCrossed, CrossedBy, Crosses, suspends_of}
use Rattle.frame_crossing.specs.Crossing.AreCrossed.{NoMore, Taken, LeftOut}
use Rattle.frame_crossing.specs.Crossing.CrossedBy.{Nothing, More}
use Rattle.frame_crossing.specs.Words.{AreNumbered, AreTold, AreValues, TellChunk, mark_unless, marked_from, pair_if, pairs_in}
use Rattle.frame_crossing.specs.Words.AreTold.{Nothing as NoneTold, More as MoreTold}

-- ---- one value

module _ (f : Function) (v c : ℕ) where
  by_bit : (k : ℕ) (s : Point) (ss : List Point) (w : ℕ) (all : List (ℕ × ℕ)) → (HasBit w c → Crosses f v s) → (Crosses f v s → HasBit w c) → AreCrossed f v (k + 1) ss all → (b : Bool) → has_bit w c ≡ b → AreCrossed f v k (s ∷ ss) (pair_if b v k ++ all)
  by_bit k s ss w all forth back rest true e = Taken k s ss all (forth (eqb-true (bit_at w c) 1 e)) rest
  by_bit k s ss w all forth back rest false e = LeftOut k s ss all (λ x. false≢true (sym e ∙ eq-eqb (bit_at w c) 1 (back x))) rest

  by_word : (k : ℕ) (s : Point) (ss : List Point) (w : ℕ) (marked : List (ℕ × ℕ)) → (HasBit w c → Crosses f v s) → (Crosses f v s → HasBit w c) → AreCrossed f v (k + 1) ss (pairs_in v c marked) → (b : Bool) → (w == 0) ≡ b → AreCrossed f v k (s ∷ ss) (pairs_in v c (mark_unless b k w ++ marked))
  by_word k s ss w marked forth back rest true e = LeftOut k s ss (pairs_in v c marked) (λ x. no_bit c (subst (λ (n : ℕ). HasBit n c) (eqb-true w 0 e) (back x))) rest
  by_word k s ss w marked forth back rest false e = by_bit k s ss w (pairs_in v c marked) forth back rest (has_bit w c) refl

  told_crossed : (k : ℕ) (ss : List Point) (ws : List ℕ) → AreTold f v c ss ws → AreCrossed f v k ss (pairs_in v c (marked_from k ws))
  told_crossed k _ _ NoneTold = NoMore k
  told_crossed k _ _ (MoreTold s ss w ws forth back rest) = by_word k s ss w (marked_from (k + 1) ws) forth back (told_crossed (k + 1) ss ws rest) (w == 0) refl

-- ---- one value more

one_crossed : (f : Function) (vs : List ℕ) (all : List (ℕ × ℕ)) (v : ℕ) (here : List (ℕ × ℕ)) → CrossedBy f vs all → AreCrossed f v 0 (suspends_of f) here → CrossedBy f (vs ++ v ∷ []) (all ++ here)
one_crossed f _ _ v here Nothing a = subst (CrossedBy f (v ∷ [])) (append-nil here) (More v [] here [] a Nothing)
one_crossed f _ _ v here (More u vs first rest b more) a =
    subst (CrossedBy f (u ∷ (vs ++ v ∷ []))) (sym (append_assoc first rest here))
    (More u (vs ++ v ∷ []) first (rest ++ here) b (one_crossed f vs rest v here more a))

pub same_chunk : (chunk n : ℕ) → chunk * 64 ≤ n → n < chunk * 64 + 64 → n / 64 ≡ chunk
same_chunk chunk n le lt = omega arith

pub more_crossed : (f : Function) (numbers : List (Option ℕ)) (values xs : List ℕ) (words : List ℕ) (marked marked2 all all2 : List (ℕ × ℕ)) (chunk start n : ℕ) → AreNumbered (length f.names) numbers values → AreValues f values → TellChunk f numbers chunk words →
    xs ≡ values → start ≡ chunk * 64 → start ≤ n → n < start + 64 → n < length xs → marked ≡ marked_from 0 words → marked2 ≡ marked → all2 ≡ all ++ pairs_in (get_or xs n 0) (n % 64) marked2 →
    CrossedBy f (take n values) all → CrossedBy f (take (n + 1) values) all2
more_crossed f numbers values xs words marked marked2 all all2 chunk start n numbered values_are tell xs_are start_is le lt within marked_is marked_same all_is crossed =
    subst (CrossedBy f (take (n + 1) values)) (sym (all_is ∙ ap (λ (m : List (ℕ × ℕ)). all ++ pairs_in (get_or xs n 0) (n % 64) m) (marked_same ∙ marked_is) ∙ ap (λ (l : List ℕ). all ++ pairs_in (get_or l n 0) (n % 64) (marked_from 0 words)) xs_are))
    (subst (λ (l : List ℕ). CrossedBy f l (all ++ pairs_in v (n % 64) (marked_from 0 words))) (sym (take_more values n 0 inside))
    (one_crossed f (take n values) all v (pairs_in v (n % 64) (marked_from 0 words)) crossed
    (told_crossed f v (n % 64) 0 (suspends_of f) words (tell v n (numbered.numbered v n at) (same_chunk chunk n (omega (arith, le, start_is)) (omega (arith, lt, start_is))) (values_are v (listed_at values n v at))))))
  where
    v : ℕ
    v = get_or values n 0

    inside : n < length values
    inside = let same = ap length xs_are in omega (arith, within, same)

    at : slice_get values n ≡ Some v
    at = slice_get-get_or values n 0 inside

-- ---- all of them

pub take_all : (xs : List ℕ) (n : ℕ) → length xs ≤ n → take n xs ≡ xs
take_all [] zero le = refl
take_all [] (suc n) le = refl
take_all (x ∷ xs) zero le = absurd (omega arith)
take_all (x ∷ xs) (suc n) le = ap (λ l. x ∷ l) (take_all xs n (omega arith))

pub chunk_crossed : (f : Function) (values xs : List ℕ) (pairs : List (ℕ × ℕ)) (count start end : ℕ) → xs ≡ values → count ≡ length xs → end ≤ start + 64 → (end < start + 64 → end ≡ count) → CrossedBy f (take end values) pairs → CrossedBy f (take (start + 64) values) pairs
chunk_crossed f values xs pairs count start end xs_are count_is le all crossed = subst (λ (l : List ℕ). CrossedBy f l pairs) (⊎_elim short long (Rattle.std.proofs.lemmas.Bool.cases_lt end (start + 64))) crossed
  where
    short : end < start + 64 → take end values ≡ take (start + 64) values
    short lt =
        let same = all lt in
        let len = ap length xs_are in
        take_all values end (omega (arith, same, count_is, len)) ∙ sym (take_all values (start + 64) (omega (arith, same, count_is, len, lt)))

    long : start + 64 ≤ end → take end values ≡ take (start + 64) values
    long ge = ap (λ (n : ℕ). take n values) (let same : end ≡ start + 64 = omega (arith, ge, le) in same)

pub none_crossed : (f : Function) (values : List ℕ) → CrossedBy f (take 0 values) []
none_crossed f [] = Nothing
none_crossed f (v ∷ vs) = Nothing

pub all_crossed : (f : Function) (values : List ℕ) (pairs : List (ℕ × ℕ)) (n : ℕ) → length values ≤ n → CrossedBy f (take n values) pairs → CrossedBy f values pairs
all_crossed f values pairs n le crossed = subst (λ (l : List ℕ). CrossedBy f l pairs) (take_all values n le) crossed
