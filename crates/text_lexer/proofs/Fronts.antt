-- What stands at the front of a text is as long as the definitions of its length say.
use Rattle.std.proofs.Common.{◌≡◌, ℕ, suc, ◌+◌, ◌<◌, ◌≤◌, inl, inr, Bool, true, false, cond, List, [], ◌∷◌, ◌++◌, length, take, ◌==◌, refl, sym, ap, subst, ◌∙◌, append_assoc, arith}
use Rattle.std.specs.List.{prefix_len}
use Rattle.std.proofs.lemmas.Bool.{eqb-true, eqb-false, ne_eqb, both_ways}
use Rattle.std.proofs.Math.Dec.{eqb-suc-zero}
use Rattle.std.proofs.lemmas.List.{length-append, length-take-le}
use Rattle.std.proofs.lemmas.List.Sums.{prefix_len-le-length}
use Rattle.text_lexer.specs.Bytes.{is_name_byte}
use Rattle.text_lexer.specs.Scan.{close_len, any_name_len}
use Rattle.text_lexer.specs.Token.{Each, is_inside, IsQuoted, IsName}

-- a byte that passes isn't one that doesn't
pub other_byte : (p : ℕ → Bool) (b c : ℕ) → p b ≡ true → p c ≡ false → (b == c) ≡ false
other_byte p b c pb pc = ne_eqb b c (λ e. both_ways (p b) (ap p e ∙ pc) pb)

-- ---- bytes that pass

Each-take-cases : (p : ℕ → Bool) (b : ℕ) (bs : List ℕ) (t : Bool) → p b ≡ t → Each p (take (prefix_len p bs) bs) → Each p (take (cond t (1 + prefix_len p bs) 0) (b ∷ bs))
Each-take-cases p b bs true e h = let s : 1 + prefix_len p bs ≡ suc (prefix_len p bs) = omega arith in rw s (e, h)
Each-take-cases p b bs false e h = tt

pub Each-take : (p : ℕ → Bool) (bs : List ℕ) → Each p (take (prefix_len p bs) bs)
Each-take p [] = tt
Each-take p (b ∷ bs) = Each-take-cases p b bs (p b) refl (Each-take p bs)

-- a front of bytes that pass is no longer than the longest
pub prefix_len-append : (p : ℕ → Bool) (w rest : List ℕ) → Each p w → length w ≤ prefix_len p (w ++ rest)
prefix_len-append p [] rest h = omega arith
prefix_len-append p (b ∷ bs) rest h = rw h.0 (omega (arith, prefix_len-append p bs rest h.1))

-- and as long where a byte follows that doesn't pass
pub prefix_len-stop : (p : ℕ → Bool) (w : List ℕ) (c : ℕ) (rest : List ℕ) → Each p w → p c ≡ false → prefix_len p (w ++ c ∷ rest) ≡ length w
prefix_len-stop p [] c rest h pc = rw pc refl
prefix_len-stop p (b ∷ bs) c rest h pc = rw h.0 (omega (arith, prefix_len-stop p bs c rest h.1 pc))

-- ---- quotes

inside_not : (b : ℕ) → is_inside b ≡ true → (b == 34) ≡ false
inside_not b h = other_byte is_inside b 34 h refl

pub close_len-append : (w rest : List ℕ) → Each is_inside w → close_len (w ++ 34 ∷ rest) ≡ suc (length w)
close_len-append [] rest h = refl
close_len-append (b ∷ bs) rest h =
    let here : (b == 34) ≡ false = inside_not b h.0 in
    let there : close_len (bs ++ 34 ∷ rest) ≡ suc (length bs) = close_len-append bs rest h.1 in
    rw (here, there, eqb-suc-zero) (omega arith)

-- the text between an opening quote that was read and the closing one
pub record Closes (bs : List ℕ) (n : ℕ) : Type 0 where
  pub inside : List ℕ
  pub each : Each is_inside inside
  pub front : take n bs ≡ inside ++ 34 ∷ []
  pub within : n ≤ length bs

closes_more : (b : ℕ) (bs : List ℕ) (n : ℕ) → (b == 34) ≡ false → Closes bs n → Closes (b ∷ bs) (1 + n)
closes_more b bs n e c =
    let s : 1 + n ≡ suc n = omega arith in
    let inside-is : is_inside b ≡ true = rw e refl in
    record {
      inside = b ∷ c.inside;
      each = (inside-is, c.each);
      front = rw s (ap (λ (l : List ℕ). b ∷ l) c.front);
      within = omega (arith, c.within);
    }

-- what the definition finds is closed
closes_cases : (b : ℕ) (bs : List ℕ) (t : Bool) → (b == 34) ≡ t → (u : Bool) → (close_len bs == 0) ≡ u → (0 < close_len bs → Closes bs (close_len bs)) → 0 < cond t 1 (cond u 0 (1 + close_len bs)) → Closes (b ∷ bs) (cond t 1 (cond u 0 (1 + close_len bs)))
closes_cases b bs true e u eu h lt =
    let is : b ≡ 34 = eqb-true b 34 e in
    record { inside = []; each = tt; front = ap (λ (x : ℕ). x ∷ []) is; within = omega arith }
closes_cases b bs false e true eu h lt = absurd (omega arith)
closes_cases b bs false e false eu h lt =
    closes_more b bs (close_len bs) e (h (let ne = eqb-false (close_len bs) 0 eu in omega arith))

pub closes : (bs : List ℕ) → 0 < close_len bs → Closes bs (close_len bs)
closes [] lt = absurd (omega arith)
closes (b ∷ bs) lt = closes_cases b bs (b == 34) refl (close_len bs == 0) refl (closes bs) lt

-- ---- names

quoted_from : (bs : List ℕ) (n : ℕ) → Closes bs n → IsQuoted (take (1 + n) (34 ∷ bs))
quoted_from bs n c =
    let s : 1 + n ≡ suc n = omega arith in
    (c.inside, c.each, rw s (ap (λ (l : List ℕ). 34 ∷ l) c.front))

-- a quoted text at the front
pub quoted_found : (bs : List ℕ) → 0 < close_len bs → IsQuoted (take (1 + close_len bs) (34 ∷ bs)) × (1 + close_len bs ≤ length (34 ∷ bs))
quoted_found bs lt = let c = closes bs lt in (quoted_from bs (close_len bs) c, omega (arith, c.within))

name_cases : (b : ℕ) (bs : List ℕ) (t u : Bool) → (b == 34) ≡ t → (close_len bs == 0) ≡ u → 0 < cond t (cond u 0 (1 + close_len bs)) (prefix_len is_name_byte (b ∷ bs)) → IsName (take (cond t (cond u 0 (1 + close_len bs)) (prefix_len is_name_byte (b ∷ bs))) (b ∷ bs)) × (cond t (cond u 0 (1 + close_len bs)) (prefix_len is_name_byte (b ∷ bs)) ≤ length (b ∷ bs))
name_cases b bs true true e eu lt = absurd (omega arith)
name_cases b bs true false e eu lt =
    let is : b ≡ 34 = eqb-true b 34 e in
    let pos : 0 < close_len bs = let ne = eqb-false (close_len bs) 0 eu in omega arith in
    rw is (inr (quoted_found bs pos).0, (quoted_found bs pos).1)
name_cases b bs false u e eu lt =
    let within = prefix_len-le-length is_name_byte (b ∷ bs) in
    (inl (omega (arith, length-take-le (prefix_len is_name_byte (b ∷ bs)) (b ∷ bs) within), Each-take is_name_byte (b ∷ bs)), within)

pub name_found : (bs : List ℕ) → 0 < any_name_len bs → IsName (take (any_name_len bs) bs) × (any_name_len bs ≤ length bs)
name_found [] lt = absurd (omega arith)
name_found (b ∷ bs) lt = name_cases b bs (b == 34) (close_len bs == 0) refl refl lt

plain_not : (b : ℕ) → is_name_byte b ≡ true → (b == 34) ≡ false
plain_not b h = other_byte is_name_byte b 34 h refl

any_name_len-quoted : (inside rest : List ℕ) → Each is_inside inside → any_name_len (34 ∷ inside ++ 34 ∷ rest) ≡ suc (suc (length inside))
any_name_len-quoted inside rest h = rw (close_len-append inside rest h, eqb-suc-zero) (omega arith)

quoted_length : (inside : List ℕ) → length (34 ∷ inside ++ 34 ∷ []) ≡ suc (suc (length inside))
quoted_length inside = omega (arith, length-append inside (34 ∷ []))

-- a name at the front is no longer than the one that is found
pub any_name_len-append : (w rest : List ℕ) → IsName w → length w ≤ any_name_len (w ++ rest)
any_name_len-append [] rest h = omega arith
any_name_len-append (b ∷ bs) rest (inl h) = rw (plain_not b h.1.0) (prefix_len-append is_name_byte (b ∷ bs) rest h.1)
any_name_len-append (b ∷ bs) rest (inr q) =
    let w-is : b ∷ bs ≡ 34 ∷ q.0 ++ 34 ∷ [] = q.2 in
    let here : length (34 ∷ q.0 ++ 34 ∷ []) ≤ any_name_len ((34 ∷ q.0 ++ 34 ∷ []) ++ rest) =
    omega (arith, ap (λ (l : List ℕ). any_name_len (34 ∷ l)) (append_assoc q.0 (34 ∷ []) rest), any_name_len-quoted q.0 rest q.1, quoted_length q.0) in
    subst (λ (l : List ℕ). length l ≤ any_name_len (l ++ rest)) (sym w-is) here

-- a name before a colon is the one that is found
pub any_name_len-colon : (w rest : List ℕ) → IsName w → any_name_len (w ++ 58 ∷ rest) ≡ length w
any_name_len-colon [] rest (inl h) = absurd (omega (arith, h.0))
any_name_len-colon [] rest (inr q) = absurd cc
any_name_len-colon (b ∷ bs) rest (inl h) = rw (plain_not b h.1.0) (prefix_len-stop is_name_byte (b ∷ bs) 58 rest h.1 refl)
any_name_len-colon (b ∷ bs) rest (inr q) =
    let w-is : b ∷ bs ≡ 34 ∷ q.0 ++ 34 ∷ [] = q.2 in
    let here : any_name_len ((34 ∷ q.0 ++ 34 ∷ []) ++ 58 ∷ rest) ≡ length (34 ∷ q.0 ++ 34 ∷ []) =
    ap (λ (l : List ℕ). any_name_len (34 ∷ l)) (append_assoc q.0 (34 ∷ []) (58 ∷ rest)) ∙ any_name_len-quoted q.0 (58 ∷ rest) q.1 ∙ sym (quoted_length q.0) in
    subst (λ (l : List ℕ). any_name_len (l ++ 58 ∷ rest) ≡ length l) (sym w-is) here
