-- Turns of the loops over the lines of a text.
use Rattle.std.proofs.Common.{◌≡◌, ℕ, ◌+◌, Bool, true, false, List, [], ◌∷◌, ◌++◌, length, Option, Some, None, refl, sym, ap, ◌∙◌, append_assoc, append-nil}
use Rattle.std.specs.Prelude.{◌==◌, option_to_list, if◌then◌else◌, codes}
use Rattle.std.proofs.lemmas.Bool.{eqb-true}
use Rattle.std.proofs.lemmas.List.{nil_from_length}
use Rattle.clang_tokens.specs.Lines.{lines}
use Rattle.clang_tokens.specs.Listing.{tokens_of}
use Rattle.clang_tokens.specs.declared.listing.Listed.{Listed}
use Rattle.clang_writer.specs.Kept.{kept_of, kept_lines}
use Rattle.clang_writer.specs.Lowered.{written_line, behind, write_lines}
use Rattle.clang_writer.specs.declared.kept.Kept.{Kept}
use Rattle.clang_writer.specs.declared.lowered.Writing.{Writing}

-- what is kept of one line more
pub kept_turn : (whole all new : List Kept) (line rest behind-line : List ℕ) (listed : Listed) (o : Option Kept)
    → whole ≡ all ++ kept_lines (lines rest)
    → lines rest ≡ line ∷ lines behind-line
    → listed ≡ tokens_of line
    → o ≡ kept_of listed.tokens
    → new ≡ all ++ option_to_list o
    → whole ≡ new ++ kept_lines (lines behind-line)
kept_turn whole all new line rest behind-line listed o inv first is found items =
    inv
    ∙ ap (λ (l : List (List ℕ)). all ++ kept_lines l) first
    ∙ ap (λ (s : Listed). all ++ (option_to_list (kept_of s.tokens) ++ kept_lines (lines behind-line))) (sym is)
    ∙ ap (λ (k : Option Kept). all ++ (option_to_list k ++ kept_lines (lines behind-line))) (sym found)
    ∙ sym (append_assoc all (option_to_list o) (kept_lines (lines behind-line)))
    ∙ ap (λ (l : List Kept). l ++ kept_lines (lines behind-line)) (sym items)

pub kept_end : (whole all : List Kept) (rest : List ℕ) → whole ≡ all ++ kept_lines (lines rest) → rest ≡ [] → whole ≡ all
kept_end whole all rest inv none = inv ∙ ap (λ (l : List ℕ). all ++ kept_lines (lines l)) none ∙ append-nil all

behind-behind : (a b : List ℕ) (r : Writing) → behind a (behind b r) ≡ behind (a ++ b) r
behind-behind a b (Writing.Written rest) = ap (λ (l : List ℕ). Writing.Written l) (sym (append_assoc a b rest))
behind-behind a b (Writing.NoToken n) = refl

-- what one line is written as
abbrev line_written : List Kept → ℕ → Listed → Writing → Writing
line_written all n s more = if s.whole then behind (written_line all s.tokens) more else Writing.NoToken n

pub line_turn : (whole : Writing) (all : List Kept) (out new line rest behind-line : List ℕ) (listed : Listed) (n : ℕ)
    → whole ≡ behind out (write_lines all n (lines rest))
    → lines rest ≡ line ∷ lines behind-line
    → listed ≡ tokens_of line
    → listed.whole ≡ true
    → new ≡ out ++ written_line all listed.tokens
    → whole ≡ behind new (write_lines all (n + 1) (lines behind-line))
line_turn whole all out new line rest behind-line listed n inv first is good items =
    inv
    ∙ ap (λ (l : List (List ℕ)). behind out (write_lines all n l)) first
    ∙ ap (λ (s : Listed). behind out (line_written all n s (write_lines all (n + 1) (lines behind-line)))) (sym is)
    ∙ ap (λ (b : Bool). behind out (if b then behind (written_line all listed.tokens) (write_lines all (n + 1) (lines behind-line)) else Writing.NoToken n)) good
    ∙ behind-behind out (written_line all listed.tokens) (write_lines all (n + 1) (lines behind-line))
    ∙ ap (λ (l : List ℕ). behind l (write_lines all (n + 1) (lines behind-line))) (sym items)

pub line_stop : (whole : Writing) (all : List Kept) (out line rest behind-line : List ℕ) (listed : Listed) (n : ℕ)
    → whole ≡ behind out (write_lines all n (lines rest))
    → lines rest ≡ line ∷ lines behind-line
    → listed ≡ tokens_of line
    → listed.whole ≡ false
    → whole ≡ Writing.NoToken n
line_stop whole all out line rest behind-line listed n inv first is bad =
    inv
    ∙ ap (λ (l : List (List ℕ)). behind out (write_lines all n l)) first
    ∙ ap (λ (s : Listed). behind out (line_written all n s (write_lines all (n + 1) (lines behind-line)))) (sym is)
    ∙ ap (λ (b : Bool). behind out (if b then behind (written_line all listed.tokens) (write_lines all (n + 1) (lines behind-line)) else Writing.NoToken n)) bad

pub line_end : (whole : Writing) (all : List Kept) (out rest : List ℕ) (n : ℕ)
    → whole ≡ behind out (write_lines all n (lines rest)) → rest ≡ [] → whole ≡ Writing.Written out
line_end whole all out rest n inv none =
    inv
    ∙ ap (λ (l : List ℕ). behind out (write_lines all n (lines l))) none
    ∙ ap (λ (l : List ℕ). Writing.Written l) (append-nil out)

-- what was written, by what is kept of the original and by the line's tokens
pub line_put : (all kept : List Kept) (ts tokens : List (List ℕ)) (out new : List ℕ)
    → new ≡ out ++ written_line all ts → all ≡ kept → ts ≡ tokens → new ≡ out ++ written_line kept tokens
line_put all kept ts tokens out new put same-kept same-tokens =
    put
    ∙ ap (λ (a : List Kept). out ++ written_line a ts) same-kept
    ∙ ap (λ (l : List (List ℕ)). out ++ written_line kept l) same-tokens

-- nothing is left
pub rest_empty : (rest : List ℕ) (b : Bool) → b ≡ (length rest == 0) → b ≡ true → rest ≡ []
rest_empty rest b is told = nil_from_length rest (eqb-true (length rest) 0 (sym is ∙ told))
