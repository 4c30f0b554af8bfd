-- Words that were seen.
use Rattle.std.proofs.Common.{◌≡◌, ◌<◌, ◌≤◌, ◌+◌, ℕ, zero, suc, cond, Bool, true, false, List, [], ◌∷◌, length, drop, get_or, drop-cons, add-one, map, refl, ap, sym, ◌∙◌, arith, Option, Some}
use Rattle.std.specs.Prelude.{is_some, ◌||◌, ◌==◌}
use Rattle.ir_model.specs.declared.instr.Case.{Case}
use Rattle.rule_values.specs.Switches.{any_twice, case_word, has_word}

-- the same, with the words before as a test
abbrev pub also : ℕ → (ℕ → Bool) → ℕ → Bool
also w before v = (w == v) || before v

abbrev pub twice_by : (ℕ → Bool) → List ℕ → Bool
twice_by before [] = false
twice_by before (w ∷ ws) = before w || twice_by (also w before) ws

pub twice_is : (before ws : List ℕ) → twice_by (has_word before) ws ≡ any_twice before ws
twice_is before [] = refl
twice_is before (w ∷ ws) = ap (λ (b : Bool). has_word before w || b) (twice_is (w ∷ before) ws)

past : {A : Type 0} (xs : List A) (i : ℕ) → length xs ≤ i → drop i xs ≡ []
past [] zero le = refl
past [] (suc i) le = refl
past (x ∷ xs) zero le = absurd (omega arith)
past (x ∷ xs) (suc i) le = past xs i (omega arith)

abbrev words : ℕ → List Case → List ℕ
words w cases = map (case_word w) cases

here : (w : ℕ) (cases : List Case) (i : ℕ) (x : Case) → i < length cases → x ≡ get_or cases i x → words w (drop i cases) ≡ case_word w x ∷ words w (drop (i + 1) cases)
here w cases i x lt is =
    ap (words w) (drop-cons cases i x lt)
    ∙ ap (λ (y : Case). case_word w y ∷ words w (drop (suc i) cases)) (sym is)
    ∙ ap (λ (k : ℕ). case_word w x ∷ words w (drop k cases)) (sym (add-one i))

pub found : (w : ℕ) (before : ℕ → Bool) (cases : List Case) (i : ℕ) (x : Case) (word : ℕ) → i < length cases → x ≡ get_or cases i x → word ≡ case_word w x → before word ≡ true → twice_by before (words w (drop i cases)) ≡ any_twice [] (words w cases) → true ≡ any_twice [] (words w cases)
found w before cases i x word lt is ew e inv =
    sym (ap (λ (b : Bool). b || twice_by (also (case_word w x) before) (words w (drop (i + 1) cases))) (ap before (sym ew) ∙ e))
    ∙ sym (ap (twice_by before) (here w cases i x lt is)) ∙ inv

pub next : (w : ℕ) (before after : ℕ → Bool) (cases : List Case) (i : ℕ) (x : Case) (word : ℕ) → i < length cases → x ≡ get_or cases i x → word ≡ case_word w x → before word ≡ false → ((v : ℕ) → after v ≡ ((word == v) || before v)) → twice_by before (words w (drop i cases)) ≡ any_twice [] (words w cases) → twice_by after (words w (drop (i + 1) cases)) ≡ any_twice [] (words w cases)
next w before after cases i x word lt is ew e h inv =
    let same : after ≡ also (case_word w x) before = λ j v. (h v ∙ ap (λ (k : ℕ). (k == v) || before v) ew) j in
    ap (λ (f : ℕ → Bool). twice_by f (words w (drop (i + 1) cases))) same
    ∙ sym (ap (λ (b : Bool). b || twice_by (also (case_word w x) before) (words w (drop (i + 1) cases))) (ap before (sym ew) ∙ e))
    ∙ sym (ap (twice_by before) (here w cases i x lt is)) ∙ inv

pub none_found : (w : ℕ) (before : ℕ → Bool) (cases : List Case) (i : ℕ) → length cases ≤ i → twice_by before (words w (drop i cases)) ≡ any_twice [] (words w cases) → false ≡ any_twice [] (words w cases)
none_found w before cases i le inv = sym (ap (λ (l : List Case). twice_by before (words w l)) (past cases i le)) ∙ inv

pub begun : (before : ℕ → Bool) (ws : List ℕ) → ((v : ℕ) → before v ≡ false) → twice_by before ws ≡ any_twice [] ws
begun before ws h =
    let same : before ≡ has_word [] = λ i v. h v i in
    ap (λ (f : ℕ → Bool). twice_by f ws) same ∙ twice_is [] ws

some-by : (b x : Bool) (o : Option Bool) → is_some (cond b (Some x) o) ≡ (b || is_some o)
some-by true x o = refl
some-by false x o = refl

pub one_word : (old new : Option Bool) (b x : Bool) → new ≡ cond b (Some x) old → is_some new ≡ (b || is_some old)
one_word old new b x e = ap is_some e ∙ some-by b x old
