-- Turns of the loop over the lines of a text.
use Rattle.std.proofs.Common.{◌≡◌, ℕ, ◌+◌, List, [], ◌∷◌, ◌++◌, refl, sym, ap, ◌∙◌, append_assoc, append-nil}
use Rattle.clang_tokens.specs.Lines.{lines}
use Rattle.clang_tokens.specs.Listing.{tokens_of}
use Rattle.clang_tokens.specs.Spaced.{line_of}
use Rattle.clang_tokens.specs.declared.listing.Listed.{Listed}
use Rattle.clang_reader.specs.Bitcasts.{bitcasts_at}
use Rattle.clang_reader.specs.Read.{line_read, behind, follow, read_lines}
use Rattle.clang_reader.specs.declared.bitcasts.Bitcast.{Bitcast}
use Rattle.clang_reader.specs.declared.fault.Fault.{Fault}
use Rattle.clang_reader.specs.declared.line.LineRead.{LineRead}
use Rattle.clang_reader.specs.declared.read.Reading.{Reading}

behind-behind : (a b : List ℕ) (r : Reading) → behind a (behind b r) ≡ behind (a ++ b) r
behind-behind a b (Reading.Written rest) = ap (λ (l : List ℕ). Reading.Written l) (sym (append_assoc a b rest))
behind-behind a b (Reading.Refused n fault) = refl

-- what is written for a line, in front of what is written for the others
abbrev read_on : List ℕ → List Bitcast → ℕ → List ℕ → List (List ℕ) → Listed → Reading
read_on out bitcasts n line more s = behind out (follow (line_read bitcasts n line s) n (read_lines bitcasts (n + 1) more))

-- the first line is read with the bitcasts of its function
begun : (whole : Reading) (out line rest behind-line : List ℕ) (listed : Listed) (bitcasts here : List Bitcast) (n : ℕ)
    → whole ≡ behind out (read_lines bitcasts n (lines rest))
    → lines rest ≡ line ∷ lines behind-line
    → listed ≡ tokens_of line
    → here ≡ bitcasts_at bitcasts listed.tokens (lines behind-line)
    → whole ≡ read_on out here n line (lines behind-line) listed
begun whole out line rest behind-line listed bitcasts here n inv first is found =
    inv
    ∙ ap (λ (l : List (List ℕ)). behind out (read_lines bitcasts n l)) first
    ∙ ap (λ (s : Listed). read_on out (bitcasts_at bitcasts s.tokens (lines behind-line)) n line (lines behind-line) s) (sym is)
    ∙ ap (λ (b : List Bitcast). read_on out b n line (lines behind-line) listed) (sym found)

-- a line gives these tokens
pub line_turn : (whole : Reading) (out new line rest behind-line : List ℕ) (listed : Listed) (ts : List (List ℕ)) (bitcasts here : List Bitcast) (n : ℕ)
    → whole ≡ behind out (read_lines bitcasts n (lines rest))
    → lines rest ≡ line ∷ lines behind-line
    → listed ≡ tokens_of line
    → here ≡ bitcasts_at bitcasts listed.tokens (lines behind-line)
    → LineRead.Gives ts ≡ line_read here n line listed
    → new ≡ out ++ line_of ts
    → whole ≡ behind new (read_lines here (n + 1) (lines behind-line))
line_turn whole out new line rest behind-line listed ts bitcasts here n inv first is found gives items =
    begun whole out line rest behind-line listed bitcasts here n inv first is found
    ∙ ap (λ (r : LineRead). behind out (follow r n (read_lines here (n + 1) (lines behind-line)))) (sym gives)
    ∙ behind-behind out (line_of ts) (read_lines here (n + 1) (lines behind-line))
    ∙ ap (λ (l : List ℕ). behind l (read_lines here (n + 1) (lines behind-line))) (sym items)

-- a line isn't taken
pub line_stop : (whole : Reading) (out line rest behind-line : List ℕ) (listed : Listed) (fault : Fault) (bitcasts here : List Bitcast) (n : ℕ)
    → whole ≡ behind out (read_lines bitcasts n (lines rest))
    → lines rest ≡ line ∷ lines behind-line
    → listed ≡ tokens_of line
    → here ≡ bitcasts_at bitcasts listed.tokens (lines behind-line)
    → LineRead.Stops fault ≡ line_read here n line listed
    → whole ≡ Reading.Refused n fault
line_stop whole out line rest behind-line listed fault bitcasts here n inv first is found stops =
    begun whole out line rest behind-line listed bitcasts here n inv first is found
    ∙ ap (λ (r : LineRead). behind out (follow r n (read_lines here (n + 1) (lines behind-line)))) (sym stops)

-- no line is left
pub line_end : (whole : Reading) (out rest : List ℕ) (bitcasts : List Bitcast) (n : ℕ)
    → whole ≡ behind out (read_lines bitcasts n (lines rest)) → rest ≡ [] → whole ≡ Reading.Written out
line_end whole out rest bitcasts n inv none =
    inv
    ∙ ap (λ (l : List ℕ). behind out (read_lines bitcasts n (lines l))) none
    ∙ ap (λ (l : List ℕ). Reading.Written l) (append-nil out)
