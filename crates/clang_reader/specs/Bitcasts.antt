-- The bitcasts of a function, and what stands for their results.
use Rattle.std.specs.Prelude.{ℕ, zero, suc, Bool, true, false, List, [], ◌∷◌, ◌++◌, ◌&&◌, not, if◌then◌else◌, codes, Option, Some, None, is_some, slice_get}
use Rattle.ir_base.specs.declared.name.Name.{Name}
use Rattle.ir_model.specs.Names.{first_where, same_name}
use Rattle.clang_tokens.specs.Listing.{tokens_of}
use Rattle.clang_tokens.specs.Words.{at, is_at}
use Rattle.clang_reader.specs.Forms.{is_bitcast}
use Rattle.clang_reader.specs.Plain.{plain}
use Rattle.clang_reader.specs.declared.bitcasts.Bitcast.{Bitcast}

-- a function begins on the line
abbrev pub is_define : List (List ℕ) → Bool
is_define ts = is_at 0 ts (codes "define")

-- the bitcast of a line without flags and `sret`
abbrev pub bitcast_of : List (List ℕ) → List Bitcast
bitcast_of p = if is_bitcast p then record { name = Name.Text (at 0 p); value = at 4 p } ∷ [] else []

-- the bitcasts on the lines up to the next on which a function begins
abbrev pub bitcasts_in : List (List ℕ) → List Bitcast
bitcasts_in [] = []
bitcasts_in (line ∷ more) =
    if is_define (tokens_of line).tokens then [] else bitcast_of (plain (tokens_of line).tokens) ++ bitcasts_in more

-- where the first of these with a result of this spelling stands
abbrev pub place_of : List Bitcast → List ℕ → Option ℕ
place_of all t = first_where (λ b. same_name b.name (Name.Text t)) all

-- the operand of the bitcast at a place, and else the token itself
abbrev pub operand_at : List ℕ → Option Bitcast → List ℕ
operand_at t None = t
operand_at t (Some b) = b.value

-- the bitcast at a place
abbrev pub bitcast_at : List Bitcast → Option ℕ → Option Bitcast
bitcast_at all None = None
bitcast_at all (Some i) = slice_get all i

-- a bitcast's operand stands for its result
abbrev pub stands_for : List Bitcast → List ℕ → List ℕ
stands_for all t = operand_at t (bitcast_at all (place_of all t))

-- what stands for each token
abbrev pub replaced : List Bitcast → List (List ℕ) → List (List ℕ)
replaced all [] = []
replaced all (t ∷ ts) = stands_for all t ∷ replaced all ts

-- the bitcasts, with what stands for each operand in its place
abbrev pub followed : List Bitcast → List Bitcast → List Bitcast
followed all [] = []
followed all (b ∷ bs) = record { name = b.name; value = stands_for all b.value } ∷ followed all bs

-- no operand is a bitcast's result
abbrev pub is_settled : List Bitcast → List Bitcast → Bool
is_settled all [] = true
is_settled all (b ∷ bs) = not (is_some (place_of all b.value)) && is_settled all bs

-- so many times over; behind n times a chain of 2 ^ n bitcasts is followed
unfoldable pub settled : ℕ → List Bitcast → List Bitcast
settled zero all = all
settled (suc n) all = settled n (followed all all)

-- a text has at most 2 ^ 24 bytes, and fewer bitcasts
unfoldable pub bitcasts_of : List (List ℕ) → List Bitcast
bitcasts_of lines = settled 24 (bitcasts_in lines)

-- the bitcasts of the function in which a line with these tokens stands, or which begins there
abbrev pub bitcasts_at : List Bitcast → List (List ℕ) → List (List ℕ) → List Bitcast
bitcasts_at all ts more = if is_define ts then bitcasts_of more else all
