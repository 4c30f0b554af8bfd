-- What native code needs of a line of the original.
use Rattle.std.specs.Prelude.{ℕ, Bool, true, false, List, [], ◌∷◌, ◌++◌, ◌&&◌, ◌||◌, not, ◌==◌, if◌then◌else◌, codes, drop, Option, Some, None, option_to_list}
use Rattle.ir_base.specs.declared.name.Name.{Name}
use Rattle.clang_tokens.specs.Lines.{lines}
use Rattle.clang_tokens.specs.Listing.{tokens_of}
use Rattle.clang_tokens.specs.Words.{same, at, is_at, begins}
use Rattle.clang_tokens.specs.Brackets.{depth_after, of_sret, sret_after}
use Rattle.clang_tokens.specs.declared.brackets.Sret.{Sret}
use Rattle.clang_writer.specs.declared.kept.Kept.{Kept}
use Rattle.clang_writer.specs.declared.kept.Role.{Role}

-- how a value is passed
abbrev pub is_passing : List ℕ → Bool
is_passing t = (same t (codes "zeroext") || (same t (codes "signext") || (same t (codes "inreg") || same t (codes "noundef"))))

-- which other units see a name
abbrev pub is_linkage : List ℕ → Bool
is_linkage t =
    same t (codes "private") || (same t (codes "internal") || (same t (codes "available_externally") || (
    same t (codes "linkonce") || (same t (codes "weak") || (same t (codes "common") || (
    same t (codes "appending") || (same t (codes "extern_weak") || (same t (codes "linkonce_odr") || (
    same t (codes "weak_odr") || same t (codes "external"))))))))))

-- how other units see it
abbrev pub is_visibility : List ℕ → Bool
is_visibility t =
    same t (codes "dso_local") || (same t (codes "dso_preemptable") || (same t (codes "default") || (
    same t (codes "hidden") || (same t (codes "protected") || (same t (codes "dllimport") ||
    same t (codes "dllexport"))))))

-- a word that is kept before a name
abbrev pub is_front : List ℕ → Bool
is_front t = is_linkage t || (is_visibility t || is_passing t)

-- where the words before a name or a global's type end
abbrev pub ends_front : List ℕ → Bool
ends_front t = begins (codes "@") t || (same t (codes "global") || same t (codes "constant"))

-- the words before a name that are kept
abbrev pub front_of : List (List ℕ) → List (List ℕ)
front_of [] = []
front_of (t ∷ ts) = if ends_front t then [] else (if is_front t then t ∷ front_of ts else front_of ts)

-- the first name of a function or global
abbrev pub name_in : List (List ℕ) → List ℕ
name_in [] = []
name_in (t ∷ ts) = if begins (codes "@") t then t else name_in ts

-- the tokens behind that name and one more, the bracket before the parameters
abbrev pub behind_name : List (List ℕ) → List (List ℕ)
behind_name [] = []
behind_name (t ∷ ts) = if begins (codes "@") t then drop 1 ts else behind_name ts

-- a token in front of the first of some lists
abbrev pub onto_first : List ℕ → List (List (List ℕ)) → List (List (List ℕ))
onto_first t [] = (t ∷ []) ∷ []
onto_first t (p ∷ ps) = (t ∷ p) ∷ ps

-- tokens in front of the first of some lists
abbrev pub onto_all : List (List ℕ) → List (List (List ℕ)) → List (List (List ℕ))
onto_all [] r = r
onto_all (t ∷ ts) r = onto_first t (onto_all ts r)

-- what a token does to parameters
abbrev pub role_of : ℕ → List ℕ → Role
role_of depth t =
    if depth == 0 then (if same t (codes ")") then Role.Closes else (if same t (codes ",") then Role.Parts else Role.Inside))
    else Role.Inside

-- a token that is kept of a parameter: how it is passed, and `sret(..)`
abbrev pub kept_tokens : Sret → List ℕ → List (List ℕ)
kept_tokens s t = if of_sret s t || is_passing t then t ∷ [] else []

-- parameters by what their first token does
abbrev pub by_role : Role → List (List ℕ) → List (List (List ℕ)) → List (List (List ℕ)) → List (List (List ℕ))
by_role Role.Closes kept parted more = [] ∷ []
by_role Role.Parts kept parted more = [] ∷ parted
by_role Role.Inside kept parted more = onto_all kept more

-- what is kept of each parameter
abbrev pub params_of : ℕ → Sret → List (List ℕ) → List (List (List ℕ))
params_of depth s [] = [] ∷ []
params_of depth s (t ∷ ts) =
    by_role (role_of depth t) (kept_tokens s t) (params_of 0 Sret.Outside ts) (params_of (depth_after depth t) (sret_after s t) ts)

-- a function's line
abbrev pub is_signature : List (List ℕ) → Bool
is_signature ts = is_at 0 ts (codes "define") || is_at 0 ts (codes "declare")

-- a global's line
abbrev pub is_global : List (List ℕ) → Bool
is_global ts = begins (codes "@") (at 0 ts) && is_at 1 ts (codes "=")

-- what is kept of a function's line
abbrev pub signature_of : List (List ℕ) → Kept
signature_of ts = record { name = Name.Text (name_in ts); front = front_of (drop 1 ts); params = params_of 0 Sret.Outside (behind_name ts) }

-- what is kept of a global's line
abbrev pub global_of : List (List ℕ) → Kept
global_of ts = record { name = Name.Text (at 0 ts); front = front_of (drop 2 ts); params = [] }

-- what is kept of a function's line or a global's
abbrev pub kept_of : List (List ℕ) → Option Kept
kept_of ts = if is_signature ts then Some (signature_of ts) else (if is_global ts then Some (global_of ts) else None)

-- what is kept of the functions and globals of a text
abbrev pub kept_lines : List (List ℕ) → List Kept
kept_lines [] = []
kept_lines (line ∷ more) = option_to_list (kept_of (tokens_of line).tokens) ++ kept_lines more

-- what is kept of the functions and globals of the original
abbrev pub kept_in : List ℕ → List Kept
kept_in original = kept_lines (lines original)
