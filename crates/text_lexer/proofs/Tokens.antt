-- The token that the definition finds is a token, and none that stands there is longer.
use Rattle.std.proofs.Common.{◌≡◌, ℕ, zero, suc, ◌+◌, ◌<◌, ◌≤◌, inl, inr, Bool, true, false, cond, List, [], ◌∷◌, ◌++◌, length, take, drop, ◌==◌, nat_lt, ◌||◌, refl, sym, ap, subst, ◌∙◌, append_assoc, arith, Option, None}
use Rattle.std.specs.Prelude.{Some as Just}
use Rattle.std.specs.List.{prefix_len}
use Rattle.std.proofs.lemmas.Bool.{eqb-true, false≢true, both_ways, and_parts, ltb-true, lt-ltb, or_left, or_right}
use Rattle.std.proofs.Math.Dec.{eqb-suc-zero}
use Rattle.std.proofs.lemmas.List.{length-append, drop_at, length-take-le}
use Rattle.std.proofs.lemmas.List.Sums.{prefix_len-le-length}
use Rattle.text_lexer.specs.Bytes.{is_digit, is_name_byte, is_word_start, is_mark}
use Rattle.text_lexer.specs.Scan.{close_len, any_name_len, begins_colon, behind, is_label, plain_token_at, token_at}
use Rattle.text_lexer.specs.Token.{Each, Some, is_inside, IsQuoted, IsName, IsToken, IsLongest, HasNone}
use Rattle.text_lexer.specs.declared.token.Kind.{Kind}
use Rattle.text_lexer.specs.declared.token.Kind.TheVariants.{Label, Word, Int, String, Local, Global, Group, Meta, Mark}
use Rattle.text_lexer.proofs.OneKind.{same_kind}
use Rattle.text_lexer.proofs.Fronts.{other_byte, closes, Each-take, prefix_len-append, close_len-append, name_found, any_name_len-append, any_name_len-colon}

-- ---- what is found is a token

abbrev Found : List ℕ → Option (Kind × ℕ) → Type 0
Found bs None = Unit {0}
Found bs (Just x) = IsToken x.0 (take x.1 bs) × (x.1 ≤ length bs)

found_cond : (bs : List ℕ) (x y : Option (Kind × ℕ)) (t : Bool) → (t ≡ true → Found bs x) → (t ≡ false → Found bs y) → Found bs (cond t x y)
found_cond bs x y true f g = f refl
found_cond bs x y false f g = g refl

behind_found : (k : Kind) (b : ℕ) (bs : List ℕ) (n : ℕ) → (0 < n → IsToken k (b ∷ take n bs) × (n ≤ length bs)) → Found (b ∷ bs) (behind k n)
behind_found k b bs zero f = tt
behind_found k b bs (suc n) f =
    let s : 1 + suc n ≡ suc (suc n) = omega arith in
    let r = f (omega arith) in
    rw (eqb-suc-zero, s) (r.0, omega (arith, r.1))

some_take : (p : ℕ → Bool) (bs : List ℕ) → 0 < prefix_len p bs → Some p (take (prefix_len p bs) bs)
some_take p bs lt = (omega (arith, length-take-le (prefix_len p bs) bs (prefix_len-le-length p bs)), Each-take p bs)

word_start_name : (b : ℕ) → is_word_start b ≡ true → is_name_byte b ≡ true
word_start_name b h = rw h refl

digit_name : (b : ℕ) → is_digit b ≡ true → prefix_len is_digit (b ∷ []) ≡ 1
digit_name b h = rw h refl

word_found : (b : ℕ) (bs : List ℕ) → is_word_start b ≡ true → Found (b ∷ bs) (Just (Word, prefix_len is_name_byte (b ∷ bs)))
word_found b bs h =
    let name : is_name_byte b ≡ true = word_start_name b h in
    let s : 1 + prefix_len is_name_byte bs ≡ suc (prefix_len is_name_byte bs) = omega arith in
    let within = prefix_len-le-length is_name_byte bs in
    rw (name, s) ((b, take (prefix_len is_name_byte bs) bs, h, Each-take is_name_byte bs, refl), omega arith)

meta_found : (b : ℕ) (bs : List ℕ) → b ≡ 33 → Found (b ∷ bs) (Just (Meta, 1 + prefix_len is_name_byte bs))
meta_found b bs is =
    let s : 1 + prefix_len is_name_byte bs ≡ suc (prefix_len is_name_byte bs) = omega arith in
    let within = prefix_len-le-length is_name_byte bs in
    rw s ((take (prefix_len is_name_byte bs) bs, Each-take is_name_byte bs, ap (λ (x : ℕ). x ∷ take (prefix_len is_name_byte bs) bs) is), omega arith)

string_found : (b : ℕ) (bs : List ℕ) → b ≡ 34 → 0 < close_len bs → IsQuoted (b ∷ take (close_len bs) bs) × (close_len bs ≤ length bs)
string_found b bs is lt =
    let c = closes bs lt in
    ((c.inside, c.each, ap (λ (x : ℕ). x ∷ take (close_len bs) bs) is ∙ ap (λ (l : List ℕ). 34 ∷ l) c.front), c.within)

plain_found : (bs : List ℕ) → Found bs (plain_token_at bs)
plain_found [] = tt
plain_found (b ∷ bs) =
    found_cond _ _ _ (is_word_start b) (λ h. word_found b bs h) (λ h0.
    found_cond _ _ _ (is_digit b) (λ h. (inl (some_take is_digit (b ∷ bs) (rw h (omega arith))), prefix_len-le-length is_digit (b ∷ bs))) (λ h1.
    found_cond _ _ _ (b == 45) (λ h. behind_found Int b bs (prefix_len is_digit bs) (λ lt. (inr (take (prefix_len is_digit bs) bs, some_take is_digit bs lt, ap (λ (x : ℕ). x ∷ take (prefix_len is_digit bs) bs) (eqb-true b 45 h)), prefix_len-le-length is_digit bs))) (λ h2.
    found_cond _ _ _ (b == 34) (λ h. behind_found String b bs (close_len bs) (λ lt. string_found b bs (eqb-true b 34 h) lt)) (λ h3.
    found_cond _ _ _ (b == 37) (λ h. behind_found Local b bs (any_name_len bs) (λ lt. let r = name_found bs lt in ((take (any_name_len bs) bs, r.0, ap (λ (x : ℕ). x ∷ take (any_name_len bs) bs) (eqb-true b 37 h)), r.1))) (λ h4.
    found_cond _ _ _ (b == 64) (λ h. behind_found Global b bs (any_name_len bs) (λ lt. let r = name_found bs lt in ((take (any_name_len bs) bs, r.0, ap (λ (x : ℕ). x ∷ take (any_name_len bs) bs) (eqb-true b 64 h)), r.1))) (λ h5.
    found_cond _ _ _ (b == 35) (λ h. behind_found Group b bs (prefix_len is_digit bs) (λ lt. ((take (prefix_len is_digit bs) bs, some_take is_digit bs lt, ap (λ (x : ℕ). x ∷ take (prefix_len is_digit bs) bs) (eqb-true b 35 h)), prefix_len-le-length is_digit bs))) (λ h6.
    found_cond _ _ _ (b == 33) (λ h. meta_found b bs (eqb-true b 33 h)) (λ h7.
    found_cond _ _ _ (is_mark b) (λ h. ((b, h, refl), omega arith)) (λ h8. tt)))))))))

colon_front : (n : ℕ) (bs : List ℕ) → begins_colon (drop n bs) ≡ true → (take (n + 1) bs ≡ take n bs ++ 58 ∷ []) × (n + 1 ≤ length bs)
colon_front n [] h = absurd (colon_none n h)
  where
    colon_none : (n : ℕ) → begins_colon (drop {A = ℕ} n []) ≡ true → ⊥
    colon_none zero h = false≢true h
    colon_none (suc n) h = false≢true h
colon_front zero (b ∷ bs) h = (ap (λ (x : ℕ). x ∷ []) (eqb-true b 58 h), omega arith)
colon_front (suc n) (b ∷ bs) h =
    let r = colon_front n bs h in
    let s : suc n + 1 ≡ suc (n + 1) = omega arith in
    (rw s (ap (λ (l : List ℕ). b ∷ l) r.0), omega (arith, r.1))

label_found : (bs : List ℕ) → is_label bs ≡ true → Found bs (Just (Label, any_name_len bs + 1))
label_found bs h =
    let parts = and_parts (nat_lt 0 (any_name_len bs)) (begins_colon (drop (any_name_len bs) bs)) h in
    let name = name_found bs (ltb-true 0 (any_name_len bs) parts.0) in
    let front = colon_front (any_name_len bs) bs parts.1 in
    ((take (any_name_len bs) bs, name.0, front.0), front.1)

pub token_found : (bs : List ℕ) → Found bs (token_at bs)
token_found bs = found_cond bs _ _ (is_label bs) (label_found bs) (λ h. plain_found bs)

-- ---- none that stands there is longer

-- a token at least as long as n is found
abbrev Reaches : ℕ → Option (Kind × ℕ) → Type 0
Reaches n None = ⊥
Reaches n (Just x) = n ≤ x.1

reaches_cond : (n : ℕ) (x y : Option (Kind × ℕ)) (t : Bool) → (t ≡ true → Reaches n x) → (t ≡ false → Reaches n y) → Reaches n (cond t x y)
reaches_cond n x y true f g = f refl
reaches_cond n x y false f g = g refl

behind_reaches : (k : Kind) (m n : ℕ) → 0 < n → m ≤ n → Reaches (suc m) (behind k n)
behind_reaches k m zero pos le = absurd (omega arith)
behind_reaches k m (suc n) pos le = rw eqb-suc-zero (omega arith)

name_length : (w : List ℕ) → IsName w → 0 < length w
name_length w (inl h) = h.0
name_length w (inr q) = rw q.2 (omega arith)

-- what isn't a label's front reaches as far by the plain rule, or by a label
by_label : (n : ℕ) (bs : List ℕ) → n ≤ any_name_len bs + 1 → Reaches n (plain_token_at bs) → Reaches n (token_at bs)
by_label n bs le plain = reaches_cond n _ _ (is_label bs) (λ h. le) (λ h. plain)

label_reaches : (name rest : List ℕ) → IsName name → Reaches (length (name ++ 58 ∷ [])) (token_at (name ++ 58 ∷ rest))
label_reaches name rest h =
    let len : any_name_len (name ++ 58 ∷ rest) ≡ length name = any_name_len-colon name rest h in
    let pos : nat_lt 0 (length name) ≡ true = lt-ltb 0 (length name) (name_length name h) in
    rw (len, pos, drop_at name (58 ∷ rest) (length name) refl) (omega (arith, length-append name (58 ∷ [])))

word_reaches : (b : ℕ) (bs rest : List ℕ) → is_word_start b ≡ true → Each is_name_byte bs → Reaches (length (b ∷ bs)) (token_at (b ∷ bs ++ rest))
word_reaches b bs rest h each =
    let name : is_name_byte b ≡ true = word_start_name b h in
    let all = prefix_len-append is_name_byte (b ∷ bs) rest (name, each) in
    let one = any_name_len-append (b ∷ bs) rest (inl (omega arith, (name, each))) in
    by_label (length (b ∷ bs)) (b ∷ bs ++ rest) (omega (arith, one))
    (reaches_cond _ _ _ (is_word_start b) (λ _. all) (λ off. absurd (both_ways (is_word_start b) off h)))

digit_is_name : (b : ℕ) → is_digit b ≡ true → is_name_byte b ≡ true
digit_is_name b h = or_left (is_word_start b || is_digit b) (b == 45) (or_right (is_word_start b) (is_digit b) h)

digits_are_names : (bs : List ℕ) → Each is_digit bs → Each is_name_byte bs
digits_are_names [] h = tt
digits_are_names (b ∷ bs) h = (digit_is_name b h.0, digits_are_names bs h.1)

digits_reach : (b : ℕ) (bs rest : List ℕ) → Each is_digit (b ∷ bs) → Reaches (length (b ∷ bs)) (token_at (b ∷ bs ++ rest))
digits_reach b bs rest h =
    let names = digits_are_names (b ∷ bs) h in
    let one = any_name_len-append (b ∷ bs) rest (inl (omega arith, names)) in
    by_label (length (b ∷ bs)) (b ∷ bs ++ rest) (omega (arith, one))
    (reaches_cond _ _ _ (is_word_start b) (λ _. prefix_len-append is_name_byte (b ∷ bs) rest names) (λ _.
    reaches_cond _ _ _ (is_digit b) (λ _. prefix_len-append is_digit (b ∷ bs) rest h) (λ off. absurd (both_ways (is_digit b) off h.0))))

negative_reaches : (digits rest : List ℕ) → Some is_digit digits → Reaches (length (45 ∷ digits)) (token_at (45 ∷ digits ++ rest))
negative_reaches digits rest h =
    let names = prefix_len-append is_name_byte digits rest (digits_are_names digits h.1) in
    let all = prefix_len-append is_digit digits rest h.1 in
    by_label (length (45 ∷ digits)) (45 ∷ digits ++ rest) (omega (arith, names)) (behind_reaches Int (length digits) (prefix_len is_digit (digits ++ rest)) (omega (arith, h.0, all)) all)

quoted_reaches : (inside rest : List ℕ) → Each is_inside inside → Reaches (length (34 ∷ inside ++ 34 ∷ [])) (token_at ((34 ∷ inside ++ 34 ∷ []) ++ rest))
quoted_reaches inside rest h =
    let one = any_name_len-append (34 ∷ inside ++ 34 ∷ []) rest (inr (inside, h, refl)) in
    let len : length (inside ++ 34 ∷ []) ≡ suc (length inside) = omega (arith, length-append inside (34 ∷ [])) in
    let shut : close_len ((inside ++ 34 ∷ []) ++ rest) ≡ suc (length inside) = ap close_len (append_assoc inside (34 ∷ []) rest) ∙ close_len-append inside rest h in
    by_label (length (34 ∷ inside ++ 34 ∷ [])) ((34 ∷ inside ++ 34 ∷ []) ++ rest) (omega (arith, one))
    (behind_reaches String (length (inside ++ 34 ∷ [])) (close_len ((inside ++ 34 ∷ []) ++ rest)) (omega (arith, shut)) (omega (arith, shut, len)))

named_reaches : (k : Kind) (name rest : List ℕ) → IsName name → Reaches (suc (length name)) (behind k (any_name_len (name ++ rest)))
named_reaches k name rest h =
    let all = any_name_len-append name rest h in
    behind_reaches k (length name) _ (omega (arith, name_length name h, all)) all

mark_reaches : (b : ℕ) (rest : List ℕ) → is_mark b ≡ true → Reaches 1 (token_at (b ∷ rest))
mark_reaches b rest h =
    by_label 1 (b ∷ rest) (omega arith)
    (reaches_cond 1 _ _ (is_word_start b) (λ w. let n = word_start_name b w in rw n (omega arith)) (λ _.
    reaches_cond 1 _ _ (is_digit b) (λ d. rw d (omega arith)) (λ _.
    rw (other_byte is_mark b 45 h refl, other_byte is_mark b 34 h refl, other_byte is_mark b 37 h refl, other_byte is_mark b 64 h refl, other_byte is_mark b 35 h refl, other_byte is_mark b 33 h refl, h) (omega arith))))

pub token_reaches : (k : Kind) (w rest : List ℕ) → IsToken k w → Reaches (length w) (token_at (w ++ rest))
token_reaches Label w rest h =
    let r = label_reaches h.0 rest h.1 in
    subst (λ (l : List ℕ). Reaches (length l) (token_at (l ++ rest))) (sym h.2) (rw (append_assoc h.0 (58 ∷ []) rest) r)
token_reaches Word w rest h = subst (λ (l : List ℕ). Reaches (length l) (token_at (l ++ rest))) (sym h.4) (word_reaches h.0 h.1 rest h.2 h.3)
token_reaches Int [] rest (inl h) = absurd (omega (arith, h.0))
token_reaches Int (b ∷ bs) rest (inl h) = digits_reach b bs rest h.1
token_reaches Int w rest (inr h) = subst (λ (l : List ℕ). Reaches (length l) (token_at (l ++ rest))) (sym h.2) (negative_reaches h.0 rest h.1)
token_reaches String w rest h = subst (λ (l : List ℕ). Reaches (length l) (token_at (l ++ rest))) (sym h.2) (quoted_reaches h.0 rest h.1)
token_reaches Local w rest h = subst (λ (l : List ℕ). Reaches (length l) (token_at (l ++ rest))) (sym h.2) (named_reaches Local h.0 rest h.1)
token_reaches Global w rest h = subst (λ (l : List ℕ). Reaches (length l) (token_at (l ++ rest))) (sym h.2) (named_reaches Global h.0 rest h.1)
token_reaches Group w rest h =
    let all = prefix_len-append is_digit h.0 rest h.1.1 in
    subst (λ (l : List ℕ). Reaches (length l) (token_at (l ++ rest))) (sym h.2) (behind_reaches Group (length h.0) _ (omega (arith, h.1.0, all)) all)
token_reaches Meta w rest h =
    let all = prefix_len-append is_name_byte h.0 rest h.1 in
    subst (λ (l : List ℕ). Reaches (length l) (token_at (l ++ rest))) (sym h.2) (omega (arith, all))
token_reaches Mark w rest h = subst (λ (l : List ℕ). Reaches (length l) (token_at (l ++ rest))) (sym h.2) (mark_reaches h.0 rest h.1)

reaches_is : (bs : List ℕ) (n : ℕ) (x : Option (Kind × ℕ)) (y : Kind × ℕ) → x ≡ Just y → Reaches n x → n ≤ y.1
reaches_is bs n None y e h = absurd h
reaches_is bs n (Just x) y e h = let same : x ≡ y = cc in subst (λ (p : Kind × ℕ). n ≤ p.1) same h

found_is : (bs : List ℕ) (x : Option (Kind × ℕ)) (y : Kind × ℕ) → x ≡ Just y → Found bs x → IsToken y.0 (take y.1 bs) × (y.1 ≤ length bs)
found_is bs None y e h = absurd cc
found_is bs (Just x) y e h = let same : x ≡ y = cc in subst (λ (p : Kind × ℕ). IsToken p.0 (take p.1 bs) × (p.1 ≤ length bs)) same h

-- the token that is found is the longest
pub longest_token : (bs : List ℕ) (k : Kind) (n : ℕ) → token_at bs ≡ Just (k, n) → IsLongest bs k n
longest_token bs k n e =
    let f = found_is bs (token_at bs) (k, n) e (token_found bs) in
    record {
      within = f.1;
      token = f.0;
      only = λ j t. same_kind j k (take n bs) t f.0;
      longest = λ j w rest t whole. reaches_is bs (length w) (token_at bs) (k, n) e (subst (λ (l : List ℕ). Reaches (length w) (token_at l)) (sym whole) (token_reaches j w rest t));
    }

none_is : (n : ℕ) (x : Option (Kind × ℕ)) → x ≡ None → Reaches n x → ⊥
none_is n None e h = h
none_is n (Just x) e h = cc

-- where none is found there is none
pub no_token : (bs : List ℕ) → token_at bs ≡ None → HasNone bs
no_token bs e j w rest t whole =
    none_is (length w) (token_at bs) e (subst (λ (l : List ℕ). Reaches (length w) (token_at l)) (sym whole) (token_reaches j w rest t))

-- a token has a byte
pub token_some : (k : Kind) (w : List ℕ) → IsToken k w → 0 < length w
token_some Label w h = rw h.2 (omega (arith, length-append h.0 (58 ∷ [])))
token_some Word w h = rw h.4 (omega arith)
token_some Int w (inl h) = h.0
token_some Int w (inr h) = rw h.2 (omega arith)
token_some String w h = rw h.2 (omega arith)
token_some Local w h = rw h.2 (omega arith)
token_some Global w h = rw h.2 (omega arith)
token_some Group w h = rw h.2 (omega arith)
token_some Meta w h = rw h.2 (omega arith)
token_some Mark w h = rw h.2 (omega arith)

pub longest_some : (bs : List ℕ) (k : Kind) (n : ℕ) → IsLongest bs k n → 0 < n
longest_some bs k zero l = token_some k [] l.token
longest_some bs k (suc n) l = omega arith
