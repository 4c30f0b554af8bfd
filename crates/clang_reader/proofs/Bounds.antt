-- How many brackets are open, behind one token more.
use Rattle.std.proofs.Common.{◌≡◌, ℕ, ◌+◌, ◌-◌, ◌<◌, ◌≤◌, Bool, true, false, List, arith}
use Rattle.std.specs.Prelude.{◌&&◌, ◌==◌, if◌then◌else◌, codes}
use Rattle.clang_tokens.specs.Words.{same}
use Rattle.clang_tokens.specs.Brackets.{Bounded, closes, depth_after, opens, sret_after}
use Rattle.clang_tokens.specs.declared.brackets.Sret.{Sret}

pub within : (s : Sret) (m n : ℕ) → Bounded s m → m ≤ n → Bounded s n
within Sret.Outside m n b l = tt
within Sret.Word m n b l = tt
within (Sret.Inside d) m n b l = let less : d < m = b in omega (arith, less, l)

either : (c : Bool) (x y : Sret) (n : ℕ) → Bounded x n → Bounded y n → Bounded (if c then x else y) n
either true x y n a b = a
either false x y n a b = b

depth_le : (c e : Bool) (d : ℕ) → (if c then d + 1 else (if e then d - 1 else d)) ≤ d + 1
depth_le true e d = omega arith
depth_le false true d = omega arith
depth_le false false d = omega arith

pub next_bound : (s : Sret) (t : List ℕ) (n : ℕ) → Bounded s n → Bounded (sret_after s t) (n + 1)
next_bound Sret.Outside t n b = either (same t (codes "sret")) Sret.Word Sret.Outside (n + 1) tt tt
next_bound Sret.Word t n b =
    let some : 0 < n + 1 = omega arith in
    either (same t (codes "(")) (Sret.Inside 0) (if same t (codes "sret") then Sret.Word else Sret.Outside) (n + 1) some
    (either (same t (codes "sret")) Sret.Word Sret.Outside (n + 1) tt tt)
next_bound (Sret.Inside d) t n b =
    let less : d < n = b in
    let le : depth_after d t ≤ d + 1 = depth_le (opens t) (closes t) d in
    let below : depth_after d t < n + 1 = omega (arith, less, le) in
    either (closes t && (d == 0)) Sret.Outside (Sret.Inside (depth_after d t)) (n + 1) tt below
