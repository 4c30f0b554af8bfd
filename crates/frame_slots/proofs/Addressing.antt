-- The words of names that paths over the steps of getelementptrs give.
use Rattle.std.proofs.Common.{◌≡◌, ℕ, zero, suc, ◌+◌, ◌-◌, ◌^◌, ◌<◌, ◌≤◌, true, List, [], ◌∷◌, length, replicate, Option, Some, refl, sym, ap, ◌∙◌, subst, ⊎_elim, inl, inr, arith}
use Rattle.std.specs.Prelude.{◌==◌, Err, IfOk, IsTrue, Ok, Result, slice_get, unwrap_or}
use Rattle.std.proofs.lemmas.Bool.{cases_eq, cases_lt}
use Rattle.std.proofs.lemmas.Nat.Bits.{bit_at_ones, bit_at-pow_other, bit_at-pow_same}
use Rattle.std.proofs.lemmas.Option.{slice_get_past, slice_get_within}
use Rattle.flow_bits.specs.Bits.{HasBit}
use Rattle.flow_bits.specs.Reaching.{AnswersAt, Reaches, StartAt}
use Rattle.flow_solver.proofs.Lists.{listed_at, place_of}
use Rattle.flow_solver.specs.Paths.{HasNodes, IsListed}
use Rattle.ir_model.specs.declared.module.Function.{Function}
use Rattle.ir_paths.proofs.Search.{eq_itself, or_left, or_right}
use Rattle.ir_paths.specs.Slots.{has_name}
use Rattle.rule_slots.proofs.Chains.{addresses-by, itself-is, step-is}
use Rattle.rule_slots.specs.Steps.{steps_of}
use Rattle.frame_slots.proofs.Bits.{no_bit}
use Rattle.frame_slots.specs.Told.{AreAddressWords, AreSlotWords, IsAddressIn}
use Rattle.frame_slots.specs.Words.{name_word, questions_from}

-- ---- the questions of slots

-- the number of a question
record IsQuestion (n : ℕ) (slots : List ℕ) (v word : ℕ) : Type 0 where
  pub place : ℕ
  pub stands : slice_get slots place ≡ Some v
  pub is : word ≡ 2 ^ (n + place)

question_of : (n : ℕ) (slots : List ℕ) (v word : ℕ) → IsListed (v, word) (questions_from n slots) → IsQuestion n slots v word
question_of n [] v word h = absurd h
question_of n (s ∷ slots) v word (inl e) =
    let z : n ≡ n + 0 = omega arith in
    record {
      place = 0;
      stands = ap (λ (x : ℕ × ℕ). Some x.0) (sym e);
      is = ap (λ (x : ℕ × ℕ). x.1) e ∙ ap (λ (k : ℕ). 2 ^ k) z;
    }
question_of n (s ∷ slots) v word (inr later) =
    let q = question_of (n + 1) slots v word later in
    let z : n + 1 + q.place ≡ n + suc q.place = omega arith in
    record { place = suc q.place; stands = q.stands; is = q.is ∙ ap (λ (k : ℕ). 2 ^ k) z }

asked : (n : ℕ) (slots : List ℕ) (k v : ℕ) → slice_get slots k ≡ Some v → IsListed (v, 2 ^ (n + k)) (questions_from n slots)
asked n [] k v e = absurd (cc)
asked n (s ∷ slots) zero v e =
    let z : n + 0 ≡ n = omega arith in
    let same : v ≡ s = cc in
    inl (ap (λ (k : ℕ). (v, 2 ^ k)) z ∙ ap (λ (x : ℕ). (x, 2 ^ n)) same)
asked n (s ∷ slots) (suc k) v e =
    let z : n + 1 + k ≡ n + suc k = omega arith in
    inr (subst (λ (m : ℕ). IsListed (v, 2 ^ m) (questions_from (n + 1) slots)) z (asked (n + 1) slots k v e))

bit_of_power : (k c : ℕ) → HasBit (2 ^ k) c → c ≡ k
bit_of_power k c h = ⊎_elim (λ e. e) (λ other. let none = bit_at-pow_other k c other in absurd (omega (arith, none, h))) (cases_eq c k)

-- the slot of a start
slot_at : (slots : List ℕ) (v word c : ℕ) → IsListed (v, word) (questions_from 0 slots) → HasBit word c → slice_get slots c ≡ Some v
slot_at slots v word c listed has =
    let q = question_of 0 slots v word listed in
    let z : 0 + q.place ≡ q.place = omega arith in
    let same = bit_of_power q.place c (subst (λ (w : ℕ). HasBit w c) (q.is ∙ ap (λ (k : ℕ). 2 ^ k) z) has) in
    ap (slice_get slots) same ∙ q.stands

start_of : (slots : List ℕ) (c v : ℕ) → slice_get slots c ≡ Some v → IsListed (v, 2 ^ c) (questions_from 0 slots)
start_of slots c v e = let z : 0 + c ≡ c = omega arith in subst (λ (k : ℕ). IsListed (v, 2 ^ k) (questions_from 0 slots)) z (asked 0 slots c v e)

name_at : (slots : List ℕ) (k v : ℕ) → slice_get slots k ≡ Some v → has_name slots v ≡ true
name_at [] k v e = absurd (cc)
name_at (s ∷ slots) zero v e = let same : v ≡ s = cc in or_left (s == v) (has_name slots v) (subst (λ (x : ℕ). (s == x) ≡ true) (sym same) (eq_itself s))
name_at (s ∷ slots) (suc k) v e = or_right (s == v) (has_name slots v) (name_at slots k v e)

-- all names of a list are below a number
abbrev pub AreBelow : List ℕ → ℕ → Type 0
AreBelow names nodes = (v : ℕ) → IsTrue (has_name names v) → v < nodes

pub starts_below : (slots : List ℕ) (nodes : ℕ) → AreBelow slots nodes → StartAt nodes (questions_from 0 slots)
starts_below slots nodes below i node word at =
    let q = question_of 0 slots node word (listed_at (questions_from 0 slots) i (node, word) at) in
    below node (name_at slots q.place node q.stands)

-- ---- words of names by paths

word_in : (words : List ℕ) (v : ℕ) → v < length words → slice_get words v ≡ Some (name_word words v)
word_in [] v lt = absurd (omega arith)
word_in (w ∷ words) zero lt = refl
word_in (w ∷ words) (suc v) lt = word_in words v (omega arith)

word_past : (words : List ℕ) (v c : ℕ) → length words ≤ v → HasBit (name_word words v) c → ⊥
word_past words v c le h = no_bit c (subst (λ (w : ℕ). HasBit w c) (ap (λ (o : Option ℕ). unwrap_or o 0) (slice_get_past words v le)) h)

module _ (edges starts : List (ℕ × ℕ)) (kept words : List ℕ) (answers : (node word : ℕ) → slice_get words node ≡ Some word → AnswersAt edges kept starts node word) where
  reached_by : (v c : ℕ) → c < 64 → HasBit (name_word words v) c → Reaches edges kept starts c v
  reached_by v c lt h = ⊎_elim
      (λ inside. (answers v (name_word words v) (word_in words v inside)).is_reached c lt h)
      (λ past. absurd (word_past words v c past h))
      (cases_lt v (length words))

  told_of : (v c : ℕ) → c < 64 → v < length words → Reaches edges kept starts c v → HasBit (name_word words v) c
  told_of v c lt inside r = (answers v (name_word words v) (word_in words v inside)).is_told c lt r

-- ---- the slots themselves

module _ (slots : List ℕ) where
  own_to : (c v : ℕ) → Reaches [] [] (questions_from 0 slots) c v → slice_get slots c ≡ Some v
  own_to c _ (Reaches.Start v word listed has) = slot_at slots v word c listed has
  own_to c _ (Reaches.Edge e u v word at kept has before) = absurd (none at)
    where
      none : slice_get {X = ℕ × ℕ} [] e ≡ Some (u, v) → ⊥
      none e = cc

  pub slot_words_are : (nodes : ℕ) (words : List ℕ) → length words ≡ nodes → AreBelow slots nodes →
      ((node word : ℕ) → slice_get words node ≡ Some word → AnswersAt [] [] (questions_from 0 slots) node word) → AreSlotWords slots words
  slot_words_are nodes words len below answers = record {
    each = λ v c lt. (
      λ h. own_to c v (reached_by [] (questions_from 0 slots) [] words answers v c lt h),
      λ e. let small = below v (name_at slots c v e) in
          told_of [] (questions_from 0 slots) [] words answers v c lt (omega (arith, small, len))
          (Reaches.Start v (2 ^ c) (start_of slots c v e) (bit_at-pow_same c)),
    );
  }

-- ---- their addresses

all_kept : (n e : ℕ) → e < n → slice_get {X = ℕ} (replicate n (2 ^ 64 - 1)) e ≡ Some (2 ^ 64 - 1)
all_kept zero e lt = absurd (omega arith)
all_kept (suc n) zero lt = refl
all_kept (suc n) (suc e) lt = all_kept n e (omega arith)

module _ (f : Function) (slots : List ℕ) where
  abbrev ways : List ℕ
  ways = replicate (length (steps_of f)) (2 ^ 64 - 1)

  abbrev IsMet : ℕ → ℕ → Type 0
  IsMet c v = Reaches (steps_of f) ways (questions_from 0 slots) c v

  to_address : (c v : ℕ) → IsMet c v → IsAddressIn f slots c v
  to_address c _ (Reaches.Start v word listed has) = record { slot = v; is_slot = slot_at slots v word c listed has; is_address = itself-is f v }
  to_address c _ (Reaches.Edge e u v word at kept has before) =
      let r = to_address c u before in
      record { slot = r.slot; is_slot = r.is_slot; is_address = step-is f r.slot u v (listed_at (steps_of f) e (u, v) at) r.is_address }

  from_address : (c v : ℕ) → c < 64 → IsAddressIn f slots c v → IsMet c v
  from_address c v lt a =
      let P : ℕ → Type 0 = λ x. IsMet c x in
      addresses-by f a.slot P
      (Reaches.Start a.slot (2 ^ c) (start_of slots c a.slot a.is_slot) (bit_at-pow_same c))
      (λ u w listed before.
      let found = place_of (steps_of f) (u, w) listed in
      Reaches.Edge found.0 u w (2 ^ 64 - 1) found.1 (all_kept (length (steps_of f)) found.0 (slice_get_within (steps_of f) found.0 (u, w) found.1)) (bit_at_ones 64 c lt) before)
      v a.is_address

  met_below : (nodes : ℕ) → AreBelow slots nodes → HasNodes nodes (steps_of f) → (c v : ℕ) → IsMet c v → v < nodes
  met_below nodes below within c _ (Reaches.Start v word listed has) = below v (name_at slots c v (slot_at slots v word c listed has))
  met_below nodes below within c _ (Reaches.Edge e u v word at kept has before) = (within e u v at).1

  address_words_are : (nodes : ℕ) (words : List ℕ) → length words ≡ nodes → AreBelow slots nodes → HasNodes nodes (steps_of f) →
      ((node word : ℕ) → slice_get words node ≡ Some word → AnswersAt (steps_of f) ways (questions_from 0 slots) node word) → AreAddressWords f slots words
  address_words_are nodes words len below within answers = record {
    each = λ v c lt. (
      λ h. to_address c v (reached_by (steps_of f) (questions_from 0 slots) ways words answers v c lt h),
      λ a. let met = from_address c v lt a in
          let small = met_below nodes below within c v met in
          told_of (steps_of f) (questions_from 0 slots) ways words answers v c lt (omega (arith, small, len)) met,
    );
  }

-- ---- by equations

pub slot_words_by : (slots : List ℕ) (nodes : ℕ) (edges starts : List (ℕ × ℕ)) (kept words : List ℕ) → edges ≡ [] → kept ≡ [] → starts ≡ questions_from 0 slots → AreBelow slots nodes →
    length words ≡ nodes → ((node word : ℕ) → slice_get words node ≡ Some word → AnswersAt edges kept starts node word) → AreSlotWords slots words
slot_words_by slots nodes edges starts kept words ee ek es below len answers =
    slot_words_are slots nodes words len below
    (λ node word at.
    subst (λ (s : List (ℕ × ℕ)). AnswersAt [] [] s node word) es
    (subst (λ (e : List (ℕ × ℕ)). AnswersAt e [] starts node word) ee
    (subst (λ (k : List ℕ). AnswersAt edges k starts node word) ek (answers node word at))))

pub address_words_by : (f : Function) (slots : List ℕ) (nodes : ℕ) (edges starts : List (ℕ × ℕ)) (kept words : List ℕ) → edges ≡ steps_of f → kept ≡ replicate (length edges) (2 ^ 64 - 1) → starts ≡ questions_from 0 slots → AreBelow slots nodes → HasNodes nodes edges →
    length words ≡ nodes → ((node word : ℕ) → slice_get words node ≡ Some word → AnswersAt edges kept starts node word) → AreAddressWords f slots words
address_words_by f slots nodes edges starts kept words ee ek es below within len answers =
    address_words_are f slots nodes words len below (subst (HasNodes nodes) ee within)
    (λ node word at.
    subst (λ (s : List (ℕ × ℕ)). AnswersAt (steps_of f) (ways f slots) s node word) es
    (subst (λ (e : List (ℕ × ℕ)). AnswersAt e (replicate (length e) (2 ^ 64 - 1)) starts node word) ee
    (subst (λ (k : List ℕ). AnswersAt edges k starts node word) ek (answers node word at))))

pub if_ok_both : {T E : Type 0} (r : Result T E) (P Q R : T → Type 0) → ((x : T) → P x → Q x → R x) → IfOk r P → IfOk r Q → IfOk r R
if_ok_both (Ok x) P Q R h p q = h x p q
if_ok_both (Err e) P Q R h p q = tt
