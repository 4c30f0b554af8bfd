-- What goes from a line token by token.
use Rattle.std.specs.Prelude.{ℕ, Bool, true, false, List, [], ◌∷◌, ◌&&◌, ◌||◌, if◌then◌else◌, codes}
use Rattle.clang_tokens.specs.Words.{has, same}
use Rattle.clang_tokens.specs.Brackets.{of_sret, sret_after}
use Rattle.clang_tokens.specs.declared.brackets.Sret.{Sret}

-- a line whose instruction keeps no `nuw` and `nsw`
abbrev pub drops_flags : List (List ℕ) → Bool
drops_flags ts = has (codes "trunc") ts || has (codes "getelementptr") ts

-- a flag that only makes poison, and that the subset hasn't there
abbrev pub is_flag : Bool → List ℕ → Bool
is_flag drops t = (same t (codes "nusw") || same t (codes "samesign")) || (drops && (same t (codes "nuw") || same t (codes "nsw")))

-- what is left of a line without flags and `sret`
abbrev pub plain_from : Bool → Sret → List (List ℕ) → List (List ℕ)
plain_from drops s [] = []
plain_from drops s (t ∷ ts) =
    if of_sret s t || is_flag drops t then plain_from drops (sret_after s t) ts
    else t ∷ plain_from drops (sret_after s t) ts

-- what is left of a line, from outside `sret` on
abbrev pub plain : List (List ℕ) → List (List ℕ)
plain ts = plain_from (drops_flags ts) Sret.Outside ts
