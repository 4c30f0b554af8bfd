-- The first of some marks.
use Rattle.std.proofs.Common.{◌≡◌, ℕ, Bool, true, false, ◌||◌, ◌&&◌, List, [], ◌∷◌, ◌++◌, refl, sym, ap, ◌∙◌, Option, Some, None}
use Rattle.std.specs.Prelude.{if◌then◌else◌, not}
use Rattle.pass_exits.specs.Exits.{or_else}
use Rattle.pass_exits.specs.Regions.{first_mark, mark_at}
use Rattle.pass_exits.specs.declared.regions.Region.{Region}

pub or_else-assoc : (a b c : Option ℕ) → or_else (or_else a b) c ≡ or_else a (or_else b c)
or_else-assoc None b c = refl
or_else-assoc (Some j) b c = refl

pub or_else-none : (a : Option ℕ) → or_else a None ≡ a
or_else-none None = refl
or_else-none (Some j) = refl

-- a mark that counts where a test holds
abbrev pub mark_if : Bool → Option ℕ → Option ℕ
mark_if x m = if x then m else None

pub mark_if-either : (a m : Option ℕ) (x y : Bool) → or_else (or_else a (mark_if x m)) (mark_if y m) ≡ or_else a (mark_if (x || y) m)
mark_if-either None None true true = refl
mark_if-either None (Some j) true true = refl
mark_if-either (Some k) m true true = refl
mark_if-either a m true false = or_else-none (or_else a m)
mark_if-either a m false y = ap (λ (o : Option ℕ). or_else o (mark_if y m)) (or_else-none a)

-- a mark that is none where one of two further tests holds
pub mark_if-unless : (x y z : Bool) (m : Option ℕ) → mark_if x (if y || z then None else m) ≡ (if x && not y && not z then m else None)
mark_if-unless true true z m = refl
mark_if-unless true false true m = refl
mark_if-unless true false false m = refl
mark_if-unless false y z m = refl

-- one region more at the end
pub first_mark-push : (rs : List Region) (ns : List ℕ) (n t : ℕ) → first_mark rs (ns ++ n ∷ []) t ≡ or_else (first_mark rs ns t) (mark_at rs n t)
first_mark-push rs [] n t = or_else-none (mark_at rs n t)
first_mark-push rs (m ∷ ns) n t =
    ap (or_else (mark_at rs m t)) (first_mark-push rs ns n t) ∙ sym (or_else-assoc (mark_at rs m t) (first_mark rs ns t) (mark_at rs n t))
