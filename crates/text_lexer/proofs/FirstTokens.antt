-- What the next token is, said of the text from the place on.
use Rattle.std.proofs.Common.{◌≡◌, ℕ, ◌+◌, ◌-◌, List, [], length, take, drop, refl, sym, ap, ◌∙◌, arith, None}
use Rattle.std.specs.Prelude.{Some}
use Rattle.std.proofs.lemmas.List.{drop-drop, drop_all}
use Rattle.text_lexer.specs.Scan.{blank_len, token_at}
use Rattle.text_lexer.specs.Tokens.{cut, first_token}
use Rattle.text_lexer.specs.declared.token.Kind.{Kind}

-- what stands behind the blanks
behind_blanks : (text rest : List ℕ) (at blanks : ℕ) → blanks ≡ blank_len (drop at text) → rest ≡ drop (at + blanks) text → first_token (drop at text) ≡ cut rest (token_at rest)
unfolding first_token
behind_blanks text rest at blanks e r =
    let same : drop (blank_len (drop at text)) (drop at text) ≡ rest = ap (λ (n : ℕ). drop n (drop at text)) (sym e) ∙ drop-drop blanks at text ∙ sym r in
    ap (λ (l : List ℕ). cut l (token_at l)) same

pub some_first : (text rest : List ℕ) (at blanks n : ℕ) (k : Kind) → blanks ≡ blank_len (drop at text) → rest ≡ drop (at + blanks) text → Some (k, n) ≡ token_at rest → first_token (drop at text) ≡ Some ((k, take (at + blanks + n - (at + blanks)) (drop (at + blanks) text)), drop (at + blanks + n) text)
some_first text rest at blanks n k e r found =
    let len : at + blanks + n - (at + blanks) ≡ n = omega arith in
    let shown : first_token (drop at text) ≡ Some ((k, take n rest), drop n rest) = behind_blanks text rest at blanks e r ∙ ap (cut rest) (sym found) in
    let front : take n rest ≡ take n (drop (at + blanks) text) = ap (take n) r in
    let back : drop n rest ≡ drop (at + blanks + n) text = ap (drop n) r ∙ drop-drop n (at + blanks) text in
    rw len (shown ∙ ap (λ (l : List ℕ). Some ((k, l), drop n rest)) front ∙ ap (λ (l : List ℕ). Some ((k, take n (drop (at + blanks) text)), l)) back)

pub none_first : (text rest : List ℕ) (at blanks : ℕ) → blanks ≡ blank_len (drop at text) → rest ≡ drop (at + blanks) text → None ≡ token_at rest → first_token (drop at text) ≡ None
none_first text rest at blanks e r found = behind_blanks text rest at blanks e r ∙ ap (cut rest) (sym found)

pub end_first : (text : List ℕ) (at blanks : ℕ) → blanks ≡ blank_len (drop at text) → at + blanks ≡ length text → first_token (drop at text) ≡ None
end_first text at blanks e whole = none_first text [] at blanks e (sym (drop_all (at + blanks) text (omega arith))) refl
