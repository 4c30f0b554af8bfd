-- The positions of the words that aren't empty.
use Rattle.std.proofs.Common.{◌≡◌, ℕ, zero, suc, ◌+◌, ◌<◌, ◌≤◌, Bool, true, false, List, [], ◌∷◌, ◌++◌, length, get_or, map, drop, Some, refl, sym, ap, ◌∙◌, subst, arith, append_assoc}
use Rattle.std.specs.Prelude.{if◌then◌else◌, slice_get, ◌==◌}
use Rattle.std.proofs.lemmas.Bool.{eqb-true}
use Rattle.std.proofs.lemmas.List.{length-map}
use Rattle.std.proofs.lemmas.Option.{slice_get-get_or}
use Rattle.flow_bits.specs.Bits.{HasBit}
use Rattle.frame_classes.specs.flow_blocks.Words.{word_at}
use Rattle.frame_classes.proofs.flow_reach.Bits.{no_bit}
use Rattle.frame_conflicts.proofs.Meetings.{are_meetings}
use Rattle.frame_conflicts.proofs.Places.{map_some, some_map, word_of_some, word_some}
use Rattle.frame_conflicts.specs.Meeting.{AreMeetings, AreMeetingsBefore, Meet, spot_if, spots_from}

-- ---- one word after the other

word_first : (n : ℕ) (words : List ℕ) → n < length words → drop n words ≡ word_at words n ∷ drop (suc n) words
word_first n [] lt = absurd (omega (arith, lt))
word_first zero (w ∷ words) lt = refl
word_first (suc n) (w ∷ words) lt = word_first n words (omega (arith, lt))

pub next_spot : (words spots next all : List ℕ) (n word : ℕ) → n < length words → word ≡ word_at words n → next ≡ spots ++ spot_if n word →
    spots ++ spots_from n (drop n words) ≡ all → next ++ spots_from (n + 1) (drop (n + 1) words) ≡ all
next_spot words spots next all n word lt word_is next_is so_far =
    let s : suc n ≡ n + 1 = omega arith in
    ap (λ (l : List ℕ). l ++ spots_from (n + 1) (drop (n + 1) words)) (next_is ∙ ap (λ (w : ℕ). spots ++ spot_if n w) word_is)
    ∙ append_assoc spots (spot_if n (word_at words n)) (spots_from (n + 1) (drop (n + 1) words))
    ∙ ap (λ (l : List ℕ). spots ++ spots_from n l) (sym (word_first n words lt ∙ ap (λ (k : ℕ). word_at words n ∷ drop k words) s))
    ∙ so_far

-- ---- a word that isn't empty has its position listed

abbrev IsSpot : List ℕ → ℕ → Type 0
IsSpot spots at = (k : ℕ) × (slice_get spots k ≡ Some at)

first_spot : (b : Bool) (at : ℕ) (later : List ℕ) → (b ≡ true → ⊥) → IsSpot ((if b then [] else at ∷ []) ++ later) at
first_spot true at later never = absurd (never refl)
first_spot false at later never = (0, refl)

later_spot : (b : Bool) (first at : ℕ) (later : List ℕ) → IsSpot later at → IsSpot ((if b then [] else first ∷ []) ++ later) at
later_spot true first at later h = h
later_spot false first at later h = (suc h.0, h.1)

spot_from : (n at c : ℕ) (words : List ℕ) → HasBit (word_at words at) c → IsSpot (spots_from n words) (n + at)
spot_from n at c [] h = absurd (no_bit c h)
spot_from n zero c (w ∷ words) h =
    let z : n ≡ n + 0 = omega arith in
    subst (IsSpot (spots_from n (w ∷ words))) z (first_spot (w == 0) n (spots_from (n + 1) words) (λ e. no_bit c (subst (λ (x : ℕ). HasBit x c) (eqb-true w 0 e) h)))
spot_from n (suc at) c (w ∷ words) h =
    let s : n + 1 + at ≡ n + suc at = omega arith in
    later_spot (w == 0) n (n + suc at) (spots_from (n + 1) words) (subst (IsSpot (spots_from (n + 1) words)) s (spot_from (n + 1) at c words h))

pub spot_of_bit : (words : List ℕ) (at c : ℕ) → HasBit (word_at words at) c → IsSpot (spots_from 0 words) at
spot_of_bit words at c h = let z : 0 + at ≡ at = omega arith in subst (IsSpot (spots_from 0 words)) z (spot_from 0 at c words h)

-- ---- meetings at spots

-- the words at the spots
abbrev pub at_spots : List ℕ → List ℕ → List ℕ
at_spots spots words = map (word_at words) spots

pub word_at_spot : (spots words : List ℕ) (k at : ℕ) → slice_get spots k ≡ Some at → word_at (at_spots spots words) k ≡ word_at words at
word_at_spot spots words k at e = word_of_some (at_spots spots words) k (word_at words at) (map_some (word_at words) spots k at e)

pub spot_word : (spots words : List ℕ) (n x : ℕ) → n < length spots → x ≡ word_at words (get_or spots n 0) → x ≡ word_at (at_spots spots words) n
spot_word spots words n x lt is = is ∙ sym (word_at_spot spots words n (get_or spots n 0) (slice_get-get_or spots n 0 lt))

module _ (one other spots : List ℕ) where
  meet_anywhere : (c d : ℕ) → Meet (at_spots spots one) (at_spots spots other) c d → Meet one other c d
  meet_anywhere c d m =
      let w = word_some (at_spots spots one) m.at c m.has_one in
      let p = some_map (word_at one) spots m.at w.0 w.1 in
      record {
        at = p.0;
        has_one = subst (λ (x : ℕ). HasBit x c) (word_at_spot spots one m.at p.0 p.1) m.has_one;
        has_other = subst (λ (x : ℕ). HasBit x d) (word_at_spot spots other m.at p.0 p.1) m.has_other;
      }

  meet_at_spot : (c d : ℕ) → spots ≡ spots_from 0 one → Meet one other c d → Meet (at_spots spots one) (at_spots spots other) c d
  meet_at_spot c d are m =
      let p : IsSpot spots m.at = subst (λ (l : List ℕ). IsSpot l m.at) (sym are) (spot_of_bit one m.at c m.has_one) in
      record {
        at = p.0;
        has_one = subst (λ (x : ℕ). HasBit x c) (sym (word_at_spot spots one p.0 m.at p.1)) m.has_one;
        has_other = subst (λ (x : ℕ). HasBit x d) (sym (word_at_spot spots other p.0 m.at p.1)) m.has_other;
      }

  pub meetings_at_spots : (words : List ℕ) (n : ℕ) → length spots ≤ n → spots ≡ spots_from 0 one → AreMeetingsBefore (at_spots spots one) (at_spots spots other) n words → AreMeetings one other words
  meetings_at_spots words n le are before = record {
    each = λ c d small. (
      λ h. meet_anywhere c d ((m.each c d small).0 h),
      λ h. (m.each c d small).1 (meet_at_spot c d are h),
    );
  }
    where
      m : AreMeetings (at_spots spots one) (at_spots spots other) words
      m = let same = length-map spots (word_at one) in are_meetings (at_spots spots one) (at_spots spots other) words n (omega (arith, le, same)) before
