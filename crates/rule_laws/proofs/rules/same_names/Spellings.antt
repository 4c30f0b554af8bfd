-- What the name of a part tells of the name that it is made of.
use Rattle.std.proofs.Common.{◌≡◌, ℕ, ◌<◌, true, false, List, [], ◌∷◌, ◌++◌, refl, sym, ap, ◌∙◌, arith}
use Rattle.std.proofs.lemmas.Bool.{and_from, le-leb, or_parts}
use Rattle.std.proofs.lemmas.Fmt.{decimal_injective, decimal_is_IsNumeral}
use Rattle.std.proofs.lemmas.List.{append_cancel_right}
use Rattle.std.proofs.lemmas.Str.Parse.{digit_from_value}
use Rattle.std.specs.Prelude.{codes, decimal, nat_le, ◌^◌, ◌==◌, if◌then◌else◌}
use Rattle.std.specs.List.{list_all}
use Rattle.std.specs.Str.Parse.{AllDigits}
use Rattle.ir_laws.specs.ir_base.declared.name.Name.{Name}
use Rattle.ir_laws.specs.ir_model.Names.{same_name, same_text, spelling}
use Rattle.rule_names.specs.Reserved.{is_digit, is_odd, part_name}
use Rattle.ir_laws.specs.facts.same_names.Short.{IsShort}
use Rattle.ir_laws.proofs.facts.Truth.{same_name-itself}

pub never_same : (a b : Name) → same_name a b ≡ false → a ≡ b → ⊥
never_same a b e same = let other : false ≡ true = sym e ∙ ap (λ (x : Name). same_name x b) same ∙ same_name-itself b in absurd (cc)

-- ---- the last byte of a text

abbrev last_of : ℕ → List ℕ → ℕ
last_of d [] = d
last_of d (x ∷ xs) = last_of x xs

last_behind : (d : ℕ) (xs : List ℕ) (y : ℕ) (ys : List ℕ) → last_of d (xs ++ y ∷ ys) ≡ last_of y ys
last_behind d [] y ys = refl
last_behind d (x ∷ xs) y ys = last_behind x xs y ys

-- ---- the suffixes of the names of parts

pub data IsSuffix : List ℕ → Type 0 where
  OfResume : IsSuffix (codes ".resume")
  OfDestroy : IsSuffix (codes ".destroy")
  OfCleanup : IsSuffix (codes ".cleanup")
  OfNoalloc : IsSuffix (codes ".noalloc")

-- the suffix that ends with a byte
abbrev suffix_of : ℕ → List ℕ
suffix_of c = if c == 101 then codes ".resume" else if c == 121 then codes ".destroy" else if c == 112 then codes ".cleanup" else codes ".noalloc"

last_tells : (w : List ℕ) → IsSuffix w → (d : List ℕ) → suffix_of (last_of 0 (d ++ w)) ≡ w
last_tells _ OfResume d = ap suffix_of (last_behind 0 d 46 (codes "resume"))
last_tells _ OfDestroy d = ap suffix_of (last_behind 0 d 46 (codes "destroy"))
last_tells _ OfCleanup d = ap suffix_of (last_behind 0 d 46 (codes "cleanup"))
last_tells _ OfNoalloc d = ap suffix_of (last_behind 0 d 46 (codes "noalloc"))

same_suffix : (v w : List ℕ) → IsSuffix v → IsSuffix w → (d e : List ℕ) → d ++ v ≡ e ++ w → v ≡ w
same_suffix v w p q d e same = sym (last_tells v p d) ∙ ap (λ (t : List ℕ). suffix_of (last_of 0 t)) same ∙ last_tells w q e

-- ---- numbers are digits

are_digits : (ds : List ℕ) → AllDigits 10 ds → list_all is_digit ds ≡ true
are_digits [] h = refl
are_digits (c ∷ cs) h =
    let range = digit_from_value c h.0 in
    and_from (is_digit c) (list_all is_digit cs) (and_from (nat_le 48 c) (nat_le c 57) (le-leb 48 c (omega (arith, range))) (le-leb c 57 (omega (arith, range)))) (are_digits cs h.1)

pub number_is_digits : (n : ℕ) → n < 2 ^ 64 → list_all is_digit (decimal n) ≡ true
number_is_digits n h = are_digits (decimal n) (decimal_is_IsNumeral n h).0.1

-- ---- names that are spelled alike

no_digits : (n : ℕ) (t : List ℕ) → n < 2 ^ 64 → is_odd (Name.Text t) ≡ false → decimal n ≡ t → ⊥
no_digits n t h odd e =
    let other : false ≡ true = sym ((or_parts (same_text t (codes "llvm")) (list_all is_digit t) odd).1) ∙ sym (ap (list_all is_digit) e) ∙ number_is_digits n h in
    absurd (cc)

spelled_alike : (a b : Name) → IsShort a → IsShort b → is_odd a ≡ false → is_odd b ≡ false → spelling a ≡ spelling b → a ≡ b
spelled_alike (Name.Number m) (Name.Number n) p q h k e = ap Name.Number (decimal_injective m n p q e)
spelled_alike (Name.Number m) (Name.Text t) p q h k e = absurd (no_digits m t p k e)
spelled_alike (Name.Text s) (Name.Number n) p q h k e = absurd (no_digits n s q h (sym e))
spelled_alike (Name.Text s) (Name.Text t) p q h k e = ap Name.Text e

abbrev text_of : Name → List ℕ
text_of (Name.Number n) = []
text_of (Name.Text t) = t

-- of two parts with one name the suffixes are one
pub suffixes_alike : (a b : Name) (v w : List ℕ) → IsSuffix v → IsSuffix w → part_name a v ≡ part_name b w → v ≡ w
suffixes_alike a b v w p q e = same_suffix v w p q (spelling a) (spelling b) (ap text_of e)

-- and so are the names that they are made of
pub parts_alike : (a b : Name) (v w : List ℕ) → IsSuffix v → IsSuffix w → IsShort a → IsShort b → is_odd a ≡ false → is_odd b ≡ false → part_name a v ≡ part_name b w → a ≡ b
parts_alike a b v w p q x y h k e =
    let one : v ≡ w = suffixes_alike a b v w p q e in
    spelled_alike a b x y h k (append_cancel_right (spelling a) (spelling b) v (ap text_of (e ∙ ap (part_name b) (sym one))))
