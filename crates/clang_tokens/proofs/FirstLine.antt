-- A text's first line and the lines behind it.
use Rattle.std.proofs.Common.{◌≡◌, ℕ, suc, ◌+◌, ◌<◌, ◌≤◌, Bool, true, false, List, [], ◌∷◌, length, take, drop, refl, sym, ap, subst, ◌∙◌, arith}
use Rattle.std.specs.Prelude.{◌==◌, if◌then◌else◌}
use Rattle.std.proofs.lemmas.List.{length-drop}
use Rattle.clang_tokens.specs.Lines.{line_len, lines, onto_first}

-- a byte in front of the first line
joined : (b : ℕ) (bs : List ℕ) → (0 < length bs → lines bs ≡ take (line_len bs) bs ∷ lines (drop (line_len bs + 1) bs))
    → onto_first b (lines bs) ≡ (b ∷ take (line_len bs) bs) ∷ lines (drop (line_len bs + 1) bs)
joined b [] h = refl
joined b (c ∷ cs) h = ap (onto_first b) (h (omega arith))

step : (e : Bool) (b : ℕ) (bs : List ℕ) → (b == 10) ≡ e
    → onto_first b (lines bs) ≡ (b ∷ take (line_len bs) bs) ∷ lines (drop (line_len bs + 1) bs)
    → lines (b ∷ bs) ≡ take (line_len (b ∷ bs)) (b ∷ bs) ∷ lines (drop (line_len (b ∷ bs) + 1) (b ∷ bs))
step true b bs e h = rw e refl
step false b bs e h =
    let one : suc (line_len bs) ≡ 1 + line_len bs = omega arith in
    let two : suc (line_len bs + 1) ≡ suc (line_len bs) + 1 = omega arith in
    let moved : onto_first b (lines bs) ≡ (b ∷ take (line_len bs) bs) ∷ lines (drop (suc (line_len bs) + 1) (b ∷ bs)) =
    subst (λ (n : ℕ). onto_first b (lines bs) ≡ (b ∷ take (line_len bs) bs) ∷ lines (drop n (b ∷ bs))) two h in
    rw e (subst (λ (n : ℕ). onto_first b (lines bs) ≡ take n (b ∷ bs) ∷ lines (drop (n + 1) (b ∷ bs))) one moved)

-- the first line is what stands before the line feed
first_lines : (text : List ℕ) → 0 < length text → lines text ≡ take (line_len text) text ∷ lines (drop (line_len text + 1) text)
first_lines [] some = absurd (omega arith)
first_lines (b ∷ bs) some = step (b == 10) b bs refl (joined b bs (first_lines bs))

pub first_line_is : (text line rest : List ℕ) (n : ℕ) → 0 < length text → n ≡ line_len text → line ≡ take n text → rest ≡ drop (n + 1) text → lines text ≡ line ∷ lines rest
first_line_is text line rest n some e l r =
    first_lines text some
    ∙ ap (λ (m : ℕ). take m text ∷ lines (drop (m + 1) text)) (sym e)
    ∙ ap (λ (x : List ℕ). x ∷ lines (drop (n + 1) text)) (sym l)
    ∙ ap (λ (x : List ℕ). line ∷ lines x) (sym r)

pub first_line_shorter : (text rest : List ℕ) (n : ℕ) → 0 < length text → rest ≡ drop (n + 1) text → length rest + 1 ≤ length text
first_line_shorter text rest n some r =
    let same : length rest ≡ length (drop (n + 1) text) = ap (length {A = ℕ}) r in
    omega (arith, length-drop (n + 1) text)
