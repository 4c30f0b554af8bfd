-- Names of other words than those of a table may stand behind it.
use Rattle.std.proofs.Common.{◌≡◌, inl, inr, ℕ, Bool, true, false, List, [], ◌∷◌, ◌++◌, refl, sym, ◌∙◌, subst, eqb-true, eq-eqb}
use Rattle.std.specs.Prelude.{codes, not, ◌==◌, ◌&&◌, ◌||◌}
use Rattle.std.specs.List.{list_all}
use Rattle.std.proofs.lemmas.Bool.{and_parts}
use Rattle.ir_laws.specs.ir_base.declared.name.Name.{Name}
use Rattle.rule_names.specs.Reserved.{begins_with, name_begins}
use Rattle.ir_laws.proofs.facts.Members.{at_each, each_behind, each_there, each_turns, apart_from, different_behind, different_from}
use Rattle.ir_laws.specs.run_laws.changed.Changed.{Each}
use Rattle.ir_laws.proofs.facts.Lists.{AreDifferent}
use Rattle.rule_laws.specs.rules.names_apart.Words.{IsOfWords, IsTableOf, begins_with_one}
use Rattle.ir_laws.proofs.facts.Truth.{or_last}
use Rattle.ir_laws.proofs.facts.names_apart.Words.{either}

-- ---- words of which none begins with another

abbrev pub are_unlike : List ℕ → List ℕ → Bool
are_unlike [] w = false
are_unlike (x ∷ v) [] = false
are_unlike (x ∷ v) (y ∷ w) = not (x == y) || are_unlike v w

abbrev pub are_all_unlike : List (List ℕ) → List (List ℕ) → Bool
are_all_unlike vs ws = list_all (λ v. list_all (are_unlike v) ws) vs

never_both : (v w t : List ℕ) → begins_with v t ≡ true → begins_with w t ≡ true → are_unlike v w ≡ true → ⊥
never_both [] w t e f u = absurd (cc)
never_both (x ∷ v) [] t e f u = absurd (cc)
never_both (x ∷ v) (y ∷ w) [] e f u = absurd (cc)
never_both (x ∷ v) (y ∷ w) (z ∷ t) e f u =
    let first = and_parts (x == z) (begins_with v t) e in
    let second = and_parts (y == z) (begins_with w t) f in
    let same : x ≡ y = eqb-true x z first.0 ∙ sym (eqb-true y z second.0) in
    let test : (x == y) ≡ true = eq-eqb x y same in
    never_both v w t first.1 second.1 (subst (λ (b : Bool). (not b || are_unlike v w) ≡ true) test u)

pub name_never_both : (v w : List ℕ) (n : Name) → name_begins v n ≡ true → name_begins w n ≡ true → are_unlike v w ≡ true → ⊥
name_never_both v w (Name.Number k) e f u = absurd (cc)
name_never_both v w (Name.Text t) e f u = never_both v w t e f u

one_never : (v : List ℕ) (ws : List (List ℕ)) (n : Name) → name_begins v n ≡ true → begins_with_one ws n ≡ true → list_all (are_unlike v) ws ≡ true → ⊥
one_never v [] n e f u = absurd (cc)
one_never v (w ∷ ws) n e f u =
    let both = and_parts (are_unlike v w) (list_all (are_unlike v) ws) u in
    elim (either (name_begins w n) (begins_with_one ws n) f) [
      | inl g ↦ name_never_both v w n e g both.0
      | inr g ↦ one_never v ws n e g both.1
    ]

pub words_never_both : (vs ws : List (List ℕ)) (n : Name) → begins_with_one vs n ≡ true → begins_with_one ws n ≡ true → are_all_unlike vs ws ≡ true → ⊥
words_never_both [] ws n e f u = absurd (cc)
words_never_both (v ∷ vs) ws n e f u =
    let both = and_parts (list_all (are_unlike v) ws) (are_all_unlike vs ws) u in
    elim (either (name_begins v n) (begins_with_one vs n) e) [
      | inl g ↦ one_never v ws n g f both.0
      | inr g ↦ words_never_both vs ws n g f both.1
    ]

-- ---- words that begin with `$c.`

abbrev pub are_own : List (List ℕ) → Bool
are_own ws = list_all (λ w. begins_with (codes "$c.") w) ws

begins_too : (u w t : List ℕ) → begins_with u w ≡ true → begins_with w t ≡ true → begins_with u t ≡ true
begins_too [] w t e f = refl
begins_too (x ∷ u) [] t e f = absurd (cc)
begins_too (x ∷ u) (y ∷ w) [] e f = absurd (cc)
begins_too (x ∷ u) (y ∷ w) (z ∷ t) e f =
    let first = and_parts (x == y) (begins_with u w) e in
    let second = and_parts (y == z) (begins_with w t) f in
    let test : (x == z) ≡ true = eq-eqb x z (eqb-true x y first.0 ∙ eqb-true y z second.0) in
    subst (λ (b : Bool). (b && begins_with u t) ≡ true) (sym test) (begins_too u w t first.1 second.1)

name_begins_too : (u w : List ℕ) (n : Name) → begins_with u w ≡ true → name_begins w n ≡ true → name_begins u n ≡ true
name_begins_too u w (Name.Number k) e f = absurd (cc)
name_begins_too u w (Name.Text t) e f = begins_too u w t e f

pub own_begins : (ws : List (List ℕ)) (n : Name) → are_own ws ≡ true → begins_with_one ws n ≡ true → name_begins (codes "$c.") n ≡ true
own_begins [] n own e = absurd (cc)
own_begins (w ∷ ws) n own e =
    let both = and_parts (begins_with (codes "$c.") w) (are_own ws) own in
    elim (either (name_begins w n) (begins_with_one ws n) e) [
      | inl g ↦ name_begins_too (codes "$c.") w n both.0 g
      | inr g ↦ own_begins ws n both.1 g
    ]

pub first_words : (vs ws : List (List ℕ)) (n : Name) → begins_with_one vs n ≡ true → begins_with_one (vs ++ ws) n ≡ true
first_words [] ws n e = absurd (cc)
first_words (v ∷ vs) ws n e = elim (either (name_begins v n) (begins_with_one vs n) e) [
  | inl g ↦ subst (λ (b : Bool). (b || begins_with_one (vs ++ ws) n) ≡ true) (sym g) refl
  | inr g ↦ or_last (name_begins v n) (begins_with_one (vs ++ ws) n) (first_words vs ws n g)
]

pub last_words : (vs ws : List (List ℕ)) (n : Name) → begins_with_one ws n ≡ true → begins_with_one (vs ++ ws) n ≡ true
last_words [] ws n e = e
last_words (v ∷ vs) ws n e = or_last (name_begins v n) (begins_with_one (vs ++ ws) n) (last_words vs ws n e)

-- ---- tables

-- different names that all begin with one of these words
pub record AreNew (allowed : List (List ℕ)) (names : List Name) : Type 0 where
  pub different : AreDifferent names
  pub words : Each (λ n. begins_with_one allowed n ≡ true) names

pub table_different : (ws : List (List ℕ)) (names : List Name) → IsTableOf ws names → AreDifferent names
table_different ws names h = different_from names h.apart

pub table_words : (ws : List (List ℕ)) (names : List Name) → IsTableOf ws names → Each (IsOfWords ws) names
table_words ws names h = each_there (IsOfWords ws) names h.words

pub table_of : (ws : List (List ℕ)) (names : List Name) → AreDifferent names → Each (IsOfWords ws) names → IsTableOf ws names
table_of ws names d h = record { apart = apart_from names d; words = λ i n there. at_each (IsOfWords ws) names i n h there }

-- what begins with one of the new words is none of a table's names
pub is_other : (old new : List (List ℕ)) (x y : Name) → are_all_unlike new old ≡ true → are_own new ≡ true → IsOfWords old x → begins_with_one new y ≡ true → x ≡ y → ⊥
is_other old new x y unlike own ours begins same =
    let other : begins_with_one new x ≡ true = subst (λ (z : Name). begins_with_one new z ≡ true) (sym same) begins in
    words_never_both new old x other (ours (own_begins new x own other)) unlike

pub table_behind : (old new : List (List ℕ)) (names more : List Name) → are_all_unlike new old ≡ true → are_own new ≡ true → IsTableOf old names → AreNew new more → IsTableOf (new ++ old) (names ++ more)
table_behind old new names more unlike own h k =
    let ours = table_words old names h in
    table_of (new ++ old) (names ++ more)
    (different_behind names more (table_different old names h) k.different
    (each_turns (λ y. begins_with_one new y ≡ true) (λ y. Each (λ x. x ≡ y → ⊥) names)
    (λ y begins. each_turns (IsOfWords old) (λ x. x ≡ y → ⊥) (λ x o. is_other old new x y unlike own o begins) names ours) more k.words))
    (each_behind (IsOfWords (new ++ old)) names more
    (each_turns (IsOfWords old) (IsOfWords (new ++ old)) (λ x o b. last_words new old x (o b)) names ours)
    (each_turns (λ y. begins_with_one new y ≡ true) (IsOfWords (new ++ old)) (λ y begins b. first_words new old y begins) more k.words))

pub new_behind : (vs ws : List (List ℕ)) (xs ys : List Name) → are_all_unlike ws vs ≡ true → AreNew vs xs → AreNew ws ys → AreNew (vs ++ ws) (xs ++ ys)
new_behind vs ws xs ys unlike h k =
    record {
      different = different_behind xs ys h.different k.different
          (each_turns (λ y. begins_with_one ws y ≡ true) (λ y. Each (λ x. x ≡ y → ⊥) xs)
          (λ y begins. each_turns (λ x. begins_with_one vs x ≡ true) (λ x. x ≡ y → ⊥)
          (λ x first same. words_never_both ws vs x (subst (λ (z : Name). begins_with_one ws z ≡ true) (sym same) begins) first unlike) xs h.words) ys k.words);
      words = each_behind (λ n. begins_with_one (vs ++ ws) n ≡ true) xs ys
          (each_turns (λ n. begins_with_one vs n ≡ true) (λ n. begins_with_one (vs ++ ws) n ≡ true) (first_words vs ws) xs h.words)
          (each_turns (λ n. begins_with_one ws n ≡ true) (λ n. begins_with_one (vs ++ ws) n ≡ true) (last_words vs ws) ys k.words);
    }

-- a table of these words is one of more
pub more_words : (vs ws : List (List ℕ)) (names : List Name) → IsTableOf ws names → IsTableOf (vs ++ ws) names
more_words vs ws names h = record { apart = h.apart; words = λ i n e own. last_words vs ws n (h.words i n e own) }
