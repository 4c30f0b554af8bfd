-- Brackets in a line, and the attribute `sret(..)`.
use Rattle.std.specs.Prelude.{ℕ, ◌+◌, ◌-◌, Bool, true, false, List, [], ◌∷◌, ◌||◌, ◌&&◌, if◌then◌else◌, ◌==◌, codes, ◌<◌}
use Rattle.clang_tokens.specs.Words.{same}
use Rattle.clang_tokens.specs.declared.brackets.Sret.{Sret}

-- an opening bracket
abbrev pub opens : List ℕ → Bool
opens t = (same t (codes "(") || (same t (codes "[") || same t (codes "{")))

-- a closing bracket
abbrev pub closes : List ℕ → Bool
closes t = (same t (codes ")") || (same t (codes "]") || same t (codes "}")))

-- how many brackets are open behind a token
abbrev pub depth_after : ℕ → List ℕ → ℕ
depth_after depth t = if opens t then depth + 1 else (if closes t then depth - 1 else depth)

-- where a token leaves `sret` and the bracketed type behind it
abbrev pub sret_after : Sret → List ℕ → Sret
sret_after Sret.Outside t = if same t (codes "sret") then Sret.Word else Sret.Outside
sret_after Sret.Word t = if same t (codes "(") then Sret.Inside 0 else (if same t (codes "sret") then Sret.Word else Sret.Outside)
sret_after (Sret.Inside depth) t = if closes t && (depth == 0) then Sret.Outside else Sret.Inside (depth_after depth t)

-- a token of `sret` and the bracketed type behind it
abbrev pub of_sret : Sret → List ℕ → Bool
of_sret Sret.Outside t = same t (codes "sret")
of_sret Sret.Word t = same t (codes "(") || same t (codes "sret")
of_sret (Sret.Inside depth) t = true

-- fewer brackets than n are open
abbrev pub Bounded : Sret → ℕ → Type 0
Bounded (Sret.Inside depth) n = depth < n
Bounded _ n = Unit {0}
