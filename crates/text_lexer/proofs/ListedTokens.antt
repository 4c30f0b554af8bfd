-- A text has one list of tokens, and it is the one that is computed.
use Rattle.std.proofs.Common.{◌≡◌, ◌<◌, ◌≤◌, ℕ, zero, suc, Bool, true, cond, List, [], ◌∷◌, ◌++◌, length, take, drop, Option, None, refl, sym, ap, subst, ◌∙◌, arith, length-drop}
use Rattle.std.specs.Prelude.{Some}
use Rattle.std.proofs.Math.Seq.{drop-append_seam, take-append_seam}
use Rattle.std.proofs.lemmas.Bool.{lt-ltb}
use Rattle.std.proofs.lemmas.List.{take-append-drop, length-take-le, length-append}
use Rattle.text_lexer.specs.Lists.{when, front, is_shorter, up_to}
use Rattle.text_lexer.specs.Listed.{behind_blanks, AreTokens}
use Rattle.text_lexer.specs.Scan.{blank_len, token_at}
use Rattle.text_lexer.specs.Token.{IsToken, IsLongest, HasNone}
use Rattle.text_lexer.specs.Tokens.{cut, first_token, tokens}
use Rattle.text_lexer.specs.declared.token.Kind.{Kind}
use Rattle.text_lexer.proofs.Tokens.{longest_token, no_token, token_some, longest_some}

-- ---- the computed tokens are tokens

none_in_nothing : HasNone []
none_in_nothing = λ j w rest h e. let some : 0 < length w = token_some j w h in let all : 0 ≡ length (w ++ rest) = ap (length {A = ℕ}) e in absurd (omega (arith, length-append w rest))

abbrev Computed : ℕ → List ℕ → List (Kind × List ℕ) × List ℕ → Type 0
Computed n text r = AreTokens text r.0 r.1

-- on from what stands behind the blanks
computed_cases : (n : ℕ) (text : List ℕ) → length text ≤ suc n → ((rest : List ℕ) → length rest ≤ n → AreTokens rest (up_to first_token n rest).0 (up_to first_token n rest).1) → (o : Option (Kind × ℕ)) → token_at (behind_blanks text) ≡ o → (r : List (Kind × List ℕ) × List ℕ) → r ≡ when (cut (behind_blanks text) o) ([], text) (λ x. cond (is_shorter x.1 text) (front x.0 (up_to first_token n x.1)) ([], text)) → AreTokens text r.0 r.1
computed_cases n text enough more None e r is = subst (λ (x : List (Kind × List ℕ) × List ℕ). AreTokens text x.0 x.1) (sym is) (refl, no_token (behind_blanks text) e)
computed_cases n text enough more (Some (k, len)) e r is =
    let b = behind_blanks text in
    let longest : IsLongest b k len = longest_token b k len e in
    let some : 0 < len = longest_some b k len longest in
    let long : length (take len b) ≡ len = length-take-le len b longest.within in
    let left : length (drop len b) ≤ n = omega (arith, enough, some, longest.within, length-drop len b, length-drop (blank_len text) text) in
    let less : is_shorter (drop len b) text ≡ true = lt-ltb (length (drop len b)) (length text) (omega (arith, some, longest.within, length-drop len b, length-drop (blank_len text) text)) in
    let shown : r ≡ front (k, take len b) (up_to first_token n (drop len b)) = is ∙ ap (λ (c : Bool). cond c (front (k, take len b) (up_to first_token n (drop len b))) ([], text)) less in
    let own : IsLongest b k (length (take len b)) = subst (IsLongest b k) (sym long) longest in
    subst (λ (x : List (Kind × List ℕ) × List ℕ). AreTokens text x.0 x.1) (sym shown) (drop len b, sym (take-append-drop len b), own, more (drop len b) left)

by_token : (n : ℕ) (text : List ℕ) → up_to first_token (suc n) text ≡ when (cut (behind_blanks text) (token_at (behind_blanks text))) ([], text) (λ x. cond (is_shorter x.1 text) (front x.0 (up_to first_token n x.1)) ([], text))
unfolding first_token
by_token n text = refl

computed : (n : ℕ) (text : List ℕ) → length text ≤ n → AreTokens text (up_to first_token n text).0 (up_to first_token n text).1
computed zero [] enough = (refl, none_in_nothing)
computed zero (b ∷ text) enough = absurd (omega arith)
computed (suc n) text enough = computed_cases n text enough (computed n) (token_at (behind_blanks text)) refl (up_to first_token (suc n) text) (by_token n text)

pub tokens_listed : (text : List ℕ) → AreTokens text (tokens text).0 (tokens text).1
tokens_listed text = computed (length text) text (omega arith)

-- ---- and no other list is

-- a token that stands at the front is a token of the text
front_token : (k : Kind) (w rest b : List ℕ) → b ≡ w ++ rest → IsToken k (take (length w) b) → IsToken k w
front_token k w rest b e h = subst (IsToken k) (ap (take (length w)) e ∙ take-append_seam w rest) h

abbrev SameTokens : List (Kind × List ℕ) → List (Kind × List ℕ) → List ℕ → List ℕ → Type 0
SameTokens l m a b = (l ≡ m) × (a ≡ b)

none_and_some : (text : List ℕ) (k : Kind) (w rest : List ℕ) → HasNone text → text ≡ w ++ rest → IsLongest text k (length w) → ⊥
none_and_some text k w rest none e longest = none k w rest (front_token k w rest text e longest.token) e

same_first : (text : List ℕ) (j k : Kind) (v w a b : List ℕ) → text ≡ v ++ a → text ≡ w ++ b → IsLongest text j (length v) → IsLongest text k (length w) → (j ≡ k) × (v ≡ w) × (a ≡ b)
same_first text j k v w a b e f x y =
    let down : length w ≤ length v = x.longest k w b (front_token k w b text f y.token) f in
    let up : length v ≤ length w = y.longest j v a (front_token j v a text e x.token) e in
    let same : length v ≡ length w = omega (arith, down, up) in
    let v_is : take (length v) text ≡ v = ap (take (length v)) e ∙ take-append_seam v a in
    let w_is : take (length w) text ≡ w = ap (take (length w)) f ∙ take-append_seam w b in
    let a_is : drop (length v) text ≡ a = ap (drop (length v)) e ∙ drop-append_seam v a in
    let b_is : drop (length w) text ≡ b = ap (drop (length w)) f ∙ drop-append_seam w b in
    (y.only j (subst (λ (n : ℕ). IsToken j (take n text)) same x.token), sym v_is ∙ ap (λ (n : ℕ). take n text) same ∙ w_is, sym a_is ∙ ap (λ (n : ℕ). drop n text) same ∙ b_is)

pair_same : (j k : Kind) (v w : List ℕ) → j ≡ k → v ≡ w → ◌≡◌ {A = Kind × List ℕ} (j, v) (k, w)
pair_same j k v w e f = λ i. (e i, f i)

cons_same : (s t : Kind × List ℕ) (l m : List (Kind × List ℕ)) → s ≡ t → l ≡ m → s ∷ l ≡ t ∷ m
cons_same s t l m e f = λ i. e i ∷ f i

pub one_list : (text : List ℕ) (l m : List (Kind × List ℕ)) (a b : List ℕ) → AreTokens text l a → AreTokens text m b → SameTokens l m a b
one_list text [] [] a b h k = (refl, sym h.0 ∙ k.0)
one_list text [] (t ∷ m) a b h k = absurd (none_and_some (behind_blanks text) t.0 t.1 k.0 h.1 k.1 k.2)
one_list text (s ∷ l) [] a b h k = absurd (none_and_some (behind_blanks text) s.0 s.1 h.0 k.1 h.1 h.2)
one_list text (s ∷ l) (t ∷ m) a b h k =
    let first = same_first (behind_blanks text) s.0 t.0 s.1 t.1 h.0 k.0 h.1 k.1 h.2 k.2 in
    let more : SameTokens l m a b = one_list k.0 l m a b (subst (λ (r : List ℕ). AreTokens r l a) first.2 h.3) k.3 in
    (cons_same s t l m (pair_same s.0 t.0 s.1 t.1 first.0 first.1) more.0, more.1)
