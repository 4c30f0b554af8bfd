-- What each pass appends to a table of names.
use Rattle.std.proofs.Common.{◌≡◌, ℕ, zero, suc, ◌+◌, ◌≤◌, true, List, [], ◌∷◌, ◌++◌, append_assoc, length, refl, sym, ap, ◌∙◌, subst, arith}
use Rattle.std.specs.Prelude.{codes, slice_set}
use Rattle.std.proofs.lemmas.List.{length-append}
use Rattle.std.proofs.Math.ListN.{length-set}
use Rattle.pass_copies.specs.Slots.{early_name, slot_names, where_name}
use Rattle.pass_fetch_proof.specs.ir_base.declared.name.Name.{Name}
use Rattle.pass_split.specs.Parts.{frame_mark, instr_names, mark_names, suspend_names}
use Rattle.pass_edges.specs.EdgeBlocks.{edge_names}
use Rattle.pass_fetch_proof.specs.pass_fetch.Blocks.{numbered_names}
use Rattle.pass_fetch_proof.specs.pass_cells.Cells.{with_own_names}
use Rattle.pass_split.specs.pass_exits.ExitBlocks.{exit_names}
use Rattle.pass_split.specs.pass_exits.declared.exit.Exit.{Exit}
use Rattle.pass_fetch_proof.proofs.ir_laws.facts.Lists.{AreDifferent, row, rows, rows_longer}
use Rattle.pass_fetch_proof.proofs.ir_laws.facts.Members.{apart_from}
use Rattle.pass_fetch_proof.proofs.rule_laws.rules.names_apart.Numbered.{are_right, digit_words, numbers_new, rows_new}
use Rattle.pass_exits_proof.proofs.split.names_apart.Parts.{numbers_are, parts_different, suspends_are}
use Rattle.pass_fetch_proof.proofs.rule_laws.rules.names_apart.Words.{AreNew, are_all_unlike, are_own}
use Rattle.pass_fetch_proof.specs.ir_laws.facts.names_apart.Apart.{AreApart}
use Rattle.pass_fetch_proof.specs.rule_laws.rules.names_apart.Words.{AreFew, IsTableOf, cell_words, copy_words, early_words, edge_words, framed_words}
use Rattle.pass_fetch_proof.proofs.rule_laws.rules.names_apart.Steps.{IsStep, append_step, then_step, word_new}
use Rattle.pass_exits_proof.proofs.exits.rules.Names.{names_length as exits_length}

numbered_are : (w : List ℕ) (n : ℕ) → numbered_names w n ≡ rows (w ∷ []) n
numbered_are w zero = refl
numbered_are w (suc n) = λ i. numbered_are w n i ++ row (w ∷ []) n

edges_are : (n : ℕ) → edge_names n ≡ rows (codes "$c.edge." ∷ []) n
edges_are zero = refl
edges_are (suc n) = λ i. edges_are n i ++ row (codes "$c.edge." ∷ []) n

abbrev slot_words : List (List ℕ)
slot_words = codes "$c.early." ∷ codes "$c.where." ∷ []

slots_are : (n : ℕ) → slot_names n ≡ rows slot_words n
unfolding early_name where_name
slots_are zero = refl
slots_are (suc n) = λ i. slots_are n i ++ row slot_words n

-- ---- blocks on edges

pub edges_step : (names : List Name) (n : ℕ) → IsStep early_words edge_words names (names ++ edge_names n)
edges_step names n = append_step early_words (codes "$c.edge." ∷ []) names (edge_names n) refl refl (word_new (codes "$c.edge.") n (edge_names n) refl (edges_are n))

-- ---- values that are kept

pub named_step : (old : List (List ℕ)) (w : List ℕ) (names : List Name) (n : ℕ) → are_all_unlike (w ∷ []) old ≡ true → are_own (w ∷ []) ≡ true → are_right (w ∷ []) ≡ true → IsStep old (w ∷ old) names (names ++ numbered_names w n)
named_step old w names n unlike own right = append_step old (w ∷ []) names (numbered_names w n) unlike own (word_new w n (numbered_names w n) right (numbered_are w n))

-- those of cells and fields
abbrev pub own_words : List (List ℕ)
own_words = codes "$c.link." ∷ codes "$c.distance." ∷ codes "$c.field." ∷ codes "$c.cell." ∷ edge_words

pub own_step : (names : List Name) (count links : ℕ) → IsStep edge_words own_words names (with_own_names names count links)
own_step names count links =
    let celled : List Name = names ++ numbered_names (codes "$c.cell.") count in
    let fielded : List Name = celled ++ numbered_names (codes "$c.field.") count in
    let distanced : List Name = fielded ++ numbered_names (codes "$c.distance.") count in
    let linked : List Name = distanced ++ numbered_names (codes "$c.link.") links in
    let cell : List (List ℕ) = codes "$c.cell." ∷ edge_words in
    let field : List (List ℕ) = codes "$c.field." ∷ cell in
    let distance : List (List ℕ) = codes "$c.distance." ∷ field in
    then_step edge_words cell own_words names celled linked
    (named_step edge_words (codes "$c.cell.") names count refl refl refl)
    (then_step cell field own_words celled fielded linked
    (named_step cell (codes "$c.field.") celled count refl refl refl)
    (then_step field distance own_words fielded distanced linked
    (named_step field (codes "$c.distance.") fielded count refl refl refl)
    (named_step distance (codes "$c.link.") distanced links refl refl refl)))

-- ---- slots that are copied

slots_step : (names : List Name) (slots : ℕ) → IsStep cell_words (slot_words ++ cell_words) names (names ++ slot_names slots)
slots_step names slots =
    append_step cell_words slot_words names (slot_names slots) refl refl
    (λ short. subst (λ (l : List Name). AreNew slot_words l) (sym (slots_are slots))
    (rows_new slot_words slots refl (let least = rows_longer (codes "$c.early.") (codes "$c.where." ∷ []) slots in omega (arith, least, ap length (slots_are slots), short))))

pub copies_step : (names : List Name) (slots uses : ℕ) → IsStep cell_words copy_words names ((names ++ slot_names slots) ++ numbered_names (codes "$c.there.") uses)
copies_step names slots uses =
    then_step cell_words (slot_words ++ cell_words) copy_words names (names ++ slot_names slots) ((names ++ slot_names slots) ++ numbered_names (codes "$c.there.") uses)
    (slots_step names slots)
    (named_step (slot_words ++ cell_words) (codes "$c.there.") (names ++ slot_names slots) uses refl refl refl)

-- ---- functions that are no coroutines, when they are split

pub plain_apart : (names : List Name) (n : ℕ) → IsTableOf [] names → AreFew (names ++ instr_names n) → AreApart (names ++ instr_names n)
plain_apart names n h short =
    let step = append_step [] digit_words names (instr_names n) refl refl
    (λ less. subst (λ (l : List Name). AreNew digit_words l) (sym (numbers_are n)) (numbers_new n (let size = rows_longer (codes "$c.") [] n in omega (arith, size, ap length (numbers_are n), less)))) in
    (step.table short h).apart

module _ (names : List Name) (es : List Exit) (b n count : ℕ) where
  abbrev front : List Name
  front = slice_set (names ++ exit_names 0 es) b frame_mark

  abbrev whole : List Name
  whole = ((front ++ mark_names) ++ suspend_names n) ++ instr_names count

  front_length : length front ≡ length names + length es
  front_length = length-set (names ++ exit_names 0 es) b frame_mark ∙ length-append names (exit_names 0 es) ∙ ap (λ (k : ℕ). length names + k) (exits_length 0 es)

  whole_length : length whole ≡ length (front ++ mark_names) + length (suspend_names n) + length (instr_names count)
  whole_length = length-append ((front ++ mark_names) ++ suspend_names n) (instr_names count) ∙ ap (λ (k : ℕ). k + length (instr_names count)) (length-append (front ++ mark_names) (suspend_names n))

  marked_length : length (front ++ mark_names) ≡ length front + length mark_names
  marked_length = length-append front mark_names

  pub part_longer : length names ≤ length whole
  part_longer = let a = front_length in let c = whole_length in let d = marked_length in omega (arith, a, c, d)

  suspends_less : n ≤ length (suspend_names n)
  suspends_less = let size = rows_longer (codes "$c.saved.") (codes "$c.back." ∷ codes "$c.pass." ∷ []) n in omega (arith, size, ap length (suspends_are n))

  numbers_less : count ≤ length (instr_names count)
  numbers_less = let size = rows_longer (codes "$c.") [] count in omega (arith, size, ap length (numbers_are count))

  nested : front ++ (mark_names ++ (suspend_names n ++ instr_names count)) ≡ whole
  nested = sym (append_assoc (front ++ mark_names) (suspend_names n) (instr_names count) ∙ append_assoc front mark_names (suspend_names n ++ instr_names count))

  pub part_apart : IsTableOf framed_words names → AreFew whole → AreApart whole
  part_apart h short =
      let a = front_length in
      let c = whole_length in
      let d = marked_length in
      let e = suspends_less in
      let g = numbers_less in
      apart_from whole
      (subst AreDifferent nested (parts_different names es b n count h (omega (arith, a, c, d, short)) (omega (arith, c, e, short)) (omega (arith, c, g, short))))
