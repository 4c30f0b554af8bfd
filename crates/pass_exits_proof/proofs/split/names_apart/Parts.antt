-- The names of the parts of a coroutine are all different.
use Rattle.std.proofs.Common.{◌≡◌, ℕ, zero, suc, ◌≤◌, ◌^◌, true, List, [], ◌∷◌, ◌++◌, length, refl, sym, subst, arith}
use Rattle.std.specs.Prelude.{codes, slice_set}
use Rattle.pass_fetch_proof.specs.ir_base.declared.name.Name.{Name}
use Rattle.pass_split.specs.Parts.{back_name, begun_mark, done_mark, entry_mark, frame_mark, given_mark, index_mark, instr_names, mark_names, none_mark, pass_name, saved_name, slot_mark, suspend_names}
use Rattle.ir_model.specs.Names.{numbered}
use Rattle.pass_split.specs.pass_exits.ExitBlocks.{exit_names}
use Rattle.pass_split.specs.pass_exits.declared.exit.Exit.{Exit}
use Rattle.pass_fetch_proof.proofs.ir_laws.facts.Members.{each_behind, each_turns, different_behind, different_set, each_both, each_set}
use Rattle.pass_fetch_proof.specs.run_laws.changed.Changed.{Each}
use Rattle.pass_fetch_proof.proofs.ir_laws.facts.Lists.{AreDifferent, tested, row, rows}
use Rattle.pass_exits_proof.proofs.exits.names.Exits.{IsExitName, are_exit_names, exit_is_no_back, exits_new}
use Rattle.pass_fetch_proof.proofs.rule_laws.rules.names_apart.Numbered.{digit_words, numbers_new, rows_new}
use Rattle.pass_fetch_proof.proofs.rule_laws.rules.names_apart.Words.{AreNew, are_all_unlike, are_own, is_other, more_words, new_behind, own_begins, table_behind, table_different, table_words, words_never_both}
use Rattle.pass_fetch_proof.specs.rule_laws.rules.names_apart.Words.{IsOfWords, IsTableOf, begins_with_one, framed_words}

-- ---- the names of marks, of suspends and of instructions

abbrev mark_words : List (List ℕ)
mark_words = codes "$c.begun" ∷ codes "$c.done" ∷ codes "$c.entry" ∷ codes "$c.none" ∷ codes "$c.slot" ∷ codes "$c.index" ∷ codes "$c.given" ∷ []

abbrev pub suspend_words : List (List ℕ)
suspend_words = codes "$c.saved." ∷ codes "$c.back." ∷ codes "$c.pass." ∷ []

marks_new : AreNew mark_words mark_names
unfolding begun_mark done_mark entry_mark none_mark slot_mark index_mark given_mark
marks_new = record { different = tested mark_names refl; words = (refl, (refl, (refl, (refl, (refl, (refl, (refl, tt))))))) }

pub suspends_are : (n : ℕ) → suspend_names n ≡ rows suspend_words n
unfolding saved_name back_name pass_name
suspends_are zero = refl
suspends_are (suc n) = λ i. suspends_are n i ++ row suspend_words n

pub numbers_are : (n : ℕ) → instr_names n ≡ rows (codes "$c." ∷ []) n
numbers_are zero = refl
numbers_are (suc n) = λ i. numbers_are n i ++ row (codes "$c." ∷ []) n

-- ---- the table before these

abbrev exit_words : List (List ℕ)
exit_words = codes "$c.back." ∷ framed_words

-- where it begins with `$c.back.`, it is the label of an edge that leaves a window
abbrev IsExitIfBack : Name → Type 0
IsExitIfBack x = begins_with_one (codes "$c.back." ∷ []) x ≡ true → IsExitName x

-- of the words of the framed form or begin's, or the label of such an edge
abbrev IsBefore : Name → Type 0
IsBefore x = IsOfWords (codes "$c.frame" ∷ exit_words) x × IsExitIfBack x

framed_is_no_back : (x : Name) → IsOfWords framed_words x → IsExitIfBack x
framed_is_no_back x ours back =
    absurd (words_never_both (codes "$c.back." ∷ []) framed_words x back (ours (own_begins (codes "$c.back." ∷ []) x refl back)) refl)

module _ (names : List Name) (es : List Exit) (b : ℕ) (h : IsTableOf framed_words names) (few : length es ≤ 2 ^ 64) where
  abbrev with_exits : List Name
  with_exits = names ++ exit_names 0 es

  abbrev before : List Name
  before = slice_set with_exits b frame_mark

  table : IsTableOf exit_words with_exits
  table = table_behind framed_words (codes "$c.back." ∷ []) names (exit_names 0 es) refl refl h (exits_new 0 es (omega arith))

  backs : Each IsExitIfBack with_exits
  backs =
      each_behind IsExitIfBack names (exit_names 0 es)
      (each_turns (IsOfWords framed_words) IsExitIfBack framed_is_no_back names (table_words framed_words names h))
      (each_turns IsExitName IsExitIfBack (λ x e back. e) (exit_names 0 es) (are_exit_names 0 es))

  frame_is_other : Each (λ x. x ≡ frame_mark → ⊥) with_exits
  unfolding frame_mark
  frame_is_other =
      each_turns (IsOfWords exit_words) (λ x. x ≡ frame_mark → ⊥)
      (λ x ours. is_other exit_words (codes "$c.frame" ∷ []) x frame_mark refl refl ours refl) with_exits (table_words exit_words with_exits table)

  frame_before : IsBefore frame_mark
  unfolding frame_mark
  frame_before = ((λ own. refl), (λ back. absurd (cc)))

  before_different : AreDifferent before
  before_different = different_set with_exits b frame_mark frame_is_other (table_different exit_words with_exits table)

  all_before : Each IsBefore before
  all_before =
      each_set IsBefore with_exits b frame_mark frame_before
      (each_both (IsOfWords (codes "$c.frame" ∷ exit_words)) IsExitIfBack with_exits
      (table_words (codes "$c.frame" ∷ exit_words) with_exits (more_words (codes "$c.frame" ∷ []) exit_words with_exits table)) backs)

-- ---- the names behind it

-- none of those before
abbrev IsBehind : Name → Type 0
IsBehind y = (x : Name) → IsBefore x → x ≡ y → ⊥

word_behind : (ws : List (List ℕ)) (y : Name) → are_all_unlike ws (codes "$c.frame" ∷ exit_words) ≡ true → are_own ws ≡ true → begins_with_one ws y ≡ true → IsBehind y
word_behind ws y unlike own begins x ours = is_other (codes "$c.frame" ∷ exit_words) ws x y unlike own ours.0 begins

back_behind : (k : ℕ) → IsBehind (numbered (codes "$c.back.") k)
back_behind k x ours same =
    exit_is_no_back x k (ours.1 (subst (λ (z : Name). begins_with_one (codes "$c.back." ∷ []) z ≡ true) (sym same) refl)) same

suspends_behind : (n : ℕ) → Each IsBehind (rows suspend_words n)
suspends_behind zero = tt
suspends_behind (suc n) =
    each_behind IsBehind (rows suspend_words n) (row suspend_words n) (suspends_behind n) (
      word_behind (codes "$c.saved." ∷ []) (numbered (codes "$c.saved.") n) refl refl refl,
      (back_behind n, (word_behind (codes "$c.pass." ∷ []) (numbered (codes "$c.pass.") n) refl refl refl, tt)),
    )

module _ (n count : ℕ) (few : n ≤ 2 ^ 64) (short : count ≤ 2 ^ 64) where
  abbrev suspends : List Name
  suspends = rows suspend_words n

  abbrev numbers : List Name
  numbers = rows (codes "$c." ∷ []) count

  later_new : AreNew (suspend_words ++ digit_words) (suspends ++ numbers)
  later_new = new_behind suspend_words digit_words suspends numbers refl (rows_new suspend_words n refl few) (numbers_new count short)

  behind_new : AreNew (mark_words ++ (suspend_words ++ digit_words)) (mark_names ++ (suspends ++ numbers))
  behind_new = new_behind mark_words (suspend_words ++ digit_words) mark_names (suspends ++ numbers) refl marks_new later_new

  all_behind : Each IsBehind (mark_names ++ (suspends ++ numbers))
  all_behind =
      each_behind IsBehind mark_names (suspends ++ numbers)
      (each_turns (λ y. begins_with_one mark_words y ≡ true) IsBehind (λ y e. word_behind mark_words y refl refl e) mark_names marks_new.words)
      (each_behind IsBehind suspends numbers (suspends_behind n)
      (each_turns (λ y. begins_with_one digit_words y ≡ true) IsBehind (λ y e. word_behind digit_words y refl refl e) numbers (numbers_new count short).words))

-- ---- all

pub parts_different : (names : List Name) (es : List Exit) (b n count : ℕ) → IsTableOf framed_words names → length es ≤ 2 ^ 64 → n ≤ 2 ^ 64 → count ≤ 2 ^ 64
    → AreDifferent (slice_set (names ++ exit_names 0 es) b frame_mark ++ (mark_names ++ (suspend_names n ++ instr_names count)))
parts_different names es b n count h exits suspends numbers =
    subst (λ (l : List Name). AreDifferent (before names es b h exits ++ (mark_names ++ l))) (λ i. sym (suspends_are n) i ++ sym (numbers_are count) i)
    (different_behind (before names es b h exits) (mark_names ++ (rows suspend_words n ++ rows (codes "$c." ∷ []) count)) (before_different names es b h exits)
    (behind_new n count suspends numbers).different
    (each_turns IsBehind (λ y. Each (λ x. x ≡ y → ⊥) (before names es b h exits))
    (λ y other. each_turns IsBefore (λ x. x ≡ y → ⊥) other (before names es b h exits) (all_before names es b h exits))
    (mark_names ++ (rows suspend_words n ++ rows (codes "$c." ∷ []) count)) (all_behind n count suspends numbers)))
