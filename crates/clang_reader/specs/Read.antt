-- A text of clang as a text of the subset.
use Rattle.std.specs.Prelude.{ℕ, ◌+◌, ◌-◌, Bool, true, false, List, [], ◌∷◌, ◌++◌, ◌&&◌, ◌||◌, ◌==◌, not, nat_le, if◌then◌else◌, codes, drop, length, Option, Some, None}
use Rattle.clang_tokens.specs.Lines.{lines}
use Rattle.clang_tokens.specs.Listing.{tokens_of}
use Rattle.clang_tokens.specs.Spaced.{line_of}
use Rattle.clang_tokens.specs.Words.{same, begins}
use Rattle.clang_tokens.specs.declared.listing.Listed.{Listed}
use Rattle.clang_reader.specs.Plain.{plain}
use Rattle.clang_reader.specs.Forms.{form_of}
use Rattle.clang_reader.specs.Bitcasts.{bitcasts_at, bitcasts_of, replaced}
use Rattle.clang_reader.specs.Written.{written_as}
use Rattle.clang_reader.specs.declared.bitcasts.Bitcast.{Bitcast}
use Rattle.clang_reader.specs.declared.fault.Fault.{Fault}
use Rattle.clang_reader.specs.declared.line.LineRead.{LineRead}
use Rattle.clang_reader.specs.declared.read.Reading.{Reading}

-- a first byte that begins a keyword
abbrev pub begins_small : List ℕ → Bool
begins_small [] = false
begins_small (b ∷ bs) = nat_le 97 b && nat_le b 122

-- the last two bytes are `cc`
abbrev pub ends_cc : List ℕ → Bool
ends_cc t = nat_le 2 (length t) && same (drop (length t - 2) t) (codes "cc")

-- a convention whose word doesn't end so
abbrev pub is_kernel : List ℕ → Bool
is_kernel t =
    same t (codes "aarch64_vector_pcs") || (same t (codes "aarch64_sve_vector_pcs") || (same t (codes "ptx_kernel") || (same t (codes "ptx_device") || (same t (codes "spir_kernel") || (same t (codes "spir_func") || same t (codes "amdgpu_kernel"))))))

-- a word that names another calling convention than C's
abbrev pub is_convention : List ℕ → Bool
is_convention t = (begins_small t && (ends_cc t && not (same t (codes "ccc")))) || is_kernel t

-- the first such word of a line
abbrev pub first_convention : List (List ℕ) → Option (List ℕ)
first_convention [] = None
first_convention (t ∷ ts) = if is_convention t then Some t else first_convention ts

-- the bytes behind spaces
abbrev pub behind_spaces : List ℕ → List ℕ
behind_spaces [] = []
behind_spaces (b ∷ bs) = if b == 32 then behind_spaces bs else b ∷ bs

-- a debug record stands on the line
abbrev pub is_debug : List ℕ → Bool
is_debug line = begins (codes "#dbg_") (behind_spaces line)

-- what is written for a line without flags and `sret`
abbrev pub plain_read : List Bitcast → ℕ → List (List ℕ) → LineRead
plain_read all n p = LineRead.Gives (written_as (form_of p) n (replaced all p))

-- a convention is told
abbrev pub unless_convention : Option (List ℕ) → LineRead → LineRead
unless_convention None r = r
unless_convention (Some t) r = LineRead.Stops (Fault.Convention t)

-- what the tokens of a line become
abbrev pub listed_read : List Bitcast → ℕ → Listed → LineRead
listed_read all n listed =
    if listed.whole then unless_convention (first_convention listed.tokens) (plain_read all n (plain listed.tokens))
    else LineRead.Stops Fault.NoToken

-- what a line becomes: nothing where it is a debug record, a fault where no token begins or a convention is named
abbrev pub line_read : List Bitcast → ℕ → List ℕ → Listed → LineRead
line_read all n line listed = if is_debug line then LineRead.Gives [] else listed_read all n listed

-- text in front of what is written
abbrev pub behind : List ℕ → Reading → Reading
behind text (Reading.Written rest) = Reading.Written (text ++ rest)
behind text (Reading.Refused n fault) = Reading.Refused n fault

-- a line, and what the lines behind it become
abbrev pub follow : LineRead → ℕ → Reading → Reading
follow (LineRead.Gives ts) n rest = behind (line_of ts) rest
follow (LineRead.Stops fault) n rest = Reading.Refused n fault

-- the lines from the n-th on, behind those of a function with these bitcasts
abbrev pub read_lines : List Bitcast → ℕ → List (List ℕ) → Reading
read_lines all n [] = Reading.Written []
read_lines all n (line ∷ more) =
    follow (line_read (bitcasts_at all (tokens_of line).tokens more) n line (tokens_of line)) n
    (read_lines (bitcasts_at all (tokens_of line).tokens more) (n + 1) more)

-- each line becomes a line, or the first line with a fault is told
abbrev pub from_clang : List ℕ → Reading
from_clang text = read_lines (bitcasts_of (lines text)) 1 (lines text)
