-- The turns of the loops.
use Rattle.std.proofs.Common.{◌≡◌, ℕ, zero, suc, ◌+◌, ◌<◌, ◌≤◌, List, [], ◌∷◌, ◌++◌, length, get_or, drop, Bool, refl, sym, ap, ◌∙◌, append_assoc, append-nil, arith}
use Rattle.std.specs.Prelude.{◌==◌, if◌then◌else◌}
use Rattle.std.proofs.lemmas.List.{drop_all, drop_more}
use Rattle.frame_layout.specs.Conflicts.{conflict, pairs_from, pairs_of}
use Rattle.frame_layout.specs.Rows.{AreTables, firsts_of, marked_pairs, marks_by, seconds_of}
use Rattle.frame_layout.specs.declared.conflicts.Tables.{Tables}
use Rattle.frame_layout.specs.declared.layout.Field.{Field}
use Rattle.frame_layout.proofs.Marked.{pairs_tell}

-- ---- rows

turn : (F : List (ℕ × ℕ) → List ℕ) (pairs : List (ℕ × ℕ)) (i : ℕ) (old new more : List ℕ) → F (drop i pairs) ≡ more ++ F (drop (i + 1) pairs) → new ≡ old ++ more → old ++ F (drop i pairs) ≡ F pairs → new ++ F (drop (i + 1) pairs) ≡ F pairs
turn F pairs i old new more split grown h =
    ap (λ (l : List ℕ). l ++ F (drop (i + 1) pairs)) grown
    ∙ append_assoc old more (F (drop (i + 1) pairs))
    ∙ ap (λ (l : List ℕ). old ++ l) (sym split)
    ∙ h

done : (F : List (ℕ × ℕ) → List ℕ) (pairs : List (ℕ × ℕ)) (i : ℕ) (row : List ℕ) → F [] ≡ [] → length pairs ≤ i → row ++ F (drop i pairs) ≡ F pairs → row ≡ F pairs
done F pairs i row none le h = sym (append-nil row) ∙ ap (λ (l : List ℕ). row ++ l) (sym none ∙ ap F (sym (drop_all i pairs le))) ∙ h

pub second_noted : (pairs : List (ℕ × ℕ)) (i : ℕ) (old new : List (List ℕ)) → i < length pairs → ((s : ℕ) → get_or old s [] ++ seconds_of (drop i pairs) s ≡ seconds_of pairs s) →
    ((s : ℕ) → get_or new s [] ≡ get_or old s [] ++ (if (get_or pairs i (0, 0)).0 == s then (get_or pairs i (0, 0)).1 ∷ [] else [])) → (s : ℕ) → get_or new s [] ++ seconds_of (drop (i + 1) pairs) s ≡ seconds_of pairs s
second_noted pairs i old new lt h grown s =
    turn (λ (l : List (ℕ × ℕ)). seconds_of l s) pairs i (get_or old s []) (get_or new s []) (if (get_or pairs i (0, 0)).0 == s then (get_or pairs i (0, 0)).1 ∷ [] else [])
    (ap (λ (l : List (ℕ × ℕ)). seconds_of l s) (drop_more pairs i (0, 0) lt)) (grown s) (h s)

pub first_noted : (pairs : List (ℕ × ℕ)) (i : ℕ) (old new : List (List ℕ)) → i < length pairs → ((s : ℕ) → get_or old s [] ++ firsts_of (drop i pairs) s ≡ firsts_of pairs s) →
    ((s : ℕ) → get_or new s [] ≡ get_or old s [] ++ (if (get_or pairs i (0, 0)).1 == s then (get_or pairs i (0, 0)).0 ∷ [] else [])) → (s : ℕ) → get_or new s [] ++ firsts_of (drop (i + 1) pairs) s ≡ firsts_of pairs s
first_noted pairs i old new lt h grown s =
    turn (λ (l : List (ℕ × ℕ)). firsts_of l s) pairs i (get_or old s []) (get_or new s []) (if (get_or pairs i (0, 0)).1 == s then (get_or pairs i (0, 0)).0 ∷ [] else [])
    (ap (λ (l : List (ℕ × ℕ)). firsts_of l s) (drop_more pairs i (0, 0) lt)) (grown s) (h s)

pub seconds_done : (pairs : List (ℕ × ℕ)) (i : ℕ) (rows : List (List ℕ)) → length pairs ≤ i → ((s : ℕ) → get_or rows s [] ++ seconds_of (drop i pairs) s ≡ seconds_of pairs s) → (s : ℕ) → get_or rows s [] ≡ seconds_of pairs s
seconds_done pairs i rows le h s = done (λ (l : List (ℕ × ℕ)). seconds_of l s) pairs i (get_or rows s []) refl le (h s)

pub firsts_done : (pairs : List (ℕ × ℕ)) (i : ℕ) (rows : List (List ℕ)) → length pairs ≤ i → ((s : ℕ) → get_or rows s [] ++ firsts_of (drop i pairs) s ≡ firsts_of pairs s) → (s : ℕ) → get_or rows s [] ≡ firsts_of pairs s
firsts_done pairs i rows le h s = done (λ (l : List (ℕ × ℕ)). firsts_of l s) pairs i (get_or rows s []) refl le (h s)

-- ---- pairs

split_at : (test : ℕ → ℕ → Bool) (fields : List Field) (j i : ℕ) (fs : List Field) → i < length fs → pairs_from test fields j (drop i fs) ≡ pairs_of (test j) j 0 fields ++ pairs_from test fields (j + 1) (drop (suc i) fs)
split_at test fields j i [] lt = absurd (omega arith)
split_at test fields j zero (f ∷ fs) lt = refl
split_at test fields j (suc i) (f ∷ fs) lt = split_at test fields j i fs (omega arith)

pub row_pushed : (fields : List Field) (crossing alive slots : List (ℕ × ℕ)) (t : Tables) (j : ℕ) (old new whole : List (ℕ × ℕ)) (marks : List Bool) → AreTables crossing alive slots t → j < length fields →
    marks ≡ marks_by fields t j → new ≡ old ++ marked_pairs j 0 marks → old ++ pairs_from (conflict fields crossing alive slots) fields j (drop j fields) ≡ whole →
    new ++ pairs_from (conflict fields crossing alive slots) fields (j + 1) (drop (j + 1) fields) ≡ whole
row_pushed fields crossing alive slots t j old new whole marks tables lt is grown h =
    let one : suc j ≡ j + 1 = omega arith in
    ap (λ (l : List (ℕ × ℕ)). l ++ pairs_from (conflict fields crossing alive slots) fields (j + 1) (drop (j + 1) fields))
    (grown ∙ ap (λ (l : List (ℕ × ℕ)). old ++ l) (ap (marked_pairs j 0) is ∙ pairs_tell fields crossing alive slots t j tables))
    ∙ append_assoc old (pairs_of (conflict fields crossing alive slots j) j 0 fields) (pairs_from (conflict fields crossing alive slots) fields (j + 1) (drop (j + 1) fields))
    ∙ ap (λ (l : List (ℕ × ℕ)). old ++ l)
    (sym (split_at (conflict fields crossing alive slots) fields j j fields lt
    ∙ ap (λ (n : ℕ). pairs_of (conflict fields crossing alive slots j) j 0 fields ++ pairs_from (conflict fields crossing alive slots) fields (j + 1) (drop n fields)) one))
    ∙ h
