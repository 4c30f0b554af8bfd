-- A lowered text with what native code needs of its original.
use Rattle.std.specs.Prelude.{ℕ, ◌+◌, Bool, true, false, List, [], ◌∷◌, ◌++◌, if◌then◌else◌, codes, Option, Some, None, slice_get}
use Rattle.ir_base.specs.declared.name.Name.{Name}
use Rattle.ir_model.specs.Names.{first_where, same_name}
use Rattle.clang_tokens.specs.Lines.{lines}
use Rattle.clang_tokens.specs.Listing.{tokens_of}
use Rattle.clang_tokens.specs.Spaced.{line_of}
use Rattle.clang_tokens.specs.Words.{is_at}
use Rattle.clang_writer.specs.Kept.{kept_in}
use Rattle.clang_writer.specs.Dressed.{dressed, all_renamed}
use Rattle.clang_writer.specs.declared.kept.Kept.{Kept}
use Rattle.clang_writer.specs.declared.lowered.Writing.{Writing}

-- what is kept at a position, where there is one
abbrev pub kept_at : List Kept → Option ℕ → Option Kept
kept_at all None = None
kept_at all (Some i) = slice_get all i

-- what is kept of a name: of the original's first line of it
abbrev pub kept_named : List Kept → List ℕ → Option Kept
kept_named all name = kept_at all (first_where (λ k. same_name k.name (Name.Text name)) all)

-- the lines that name the machine
abbrev pub target_lines : List (List ℕ) → List ℕ
target_lines [] = []
target_lines (line ∷ more) =
    (if is_at 0 (tokens_of line).tokens (codes "target") then line_of (tokens_of line).tokens else []) ++ target_lines more

-- text in front of what is written
abbrev pub behind : List ℕ → Writing → Writing
behind text (Writing.Written rest) = Writing.Written (text ++ rest)
behind text (Writing.NoToken n) = Writing.NoToken n

-- a lowered line
abbrev pub written_line : List Kept → List (List ℕ) → List ℕ
written_line all ts = line_of (dressed (kept_named all) (all_renamed ts))

-- the lowered lines from the n-th on
abbrev pub write_lines : List Kept → ℕ → List (List ℕ) → Writing
write_lines all n [] = Writing.Written []
write_lines all n (line ∷ more) =
    if (tokens_of line).whole then behind (written_line all (tokens_of line).tokens) (write_lines all (n + 1) more)
    else Writing.NoToken n

-- the original's machine, and the lowered lines with what is kept of the original's functions and globals
abbrev pub to_clang : List ℕ → List ℕ → Writing
to_clang original lowered = behind (target_lines (lines original)) (write_lines (kept_in original) 1 (lines lowered))
