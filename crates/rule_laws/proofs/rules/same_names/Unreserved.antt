-- The name of a part is not reserved, where the name that it is made of isn't.
use Rattle.std.proofs.Common.{◌≡◌, ℕ, Bool, true, false, List, [], ◌∷◌, ◌++◌, refl, sym, ap, ◌∙◌, arith, Option, Some, None}
use Rattle.std.proofs.Math.Bool.{and-false}
use Rattle.std.proofs.lemmas.Bool.{eq-eqb, eqb-false, eqb-true, leb-true, ne_eqb, or_parts, or_right}
use Rattle.std.specs.Prelude.{codes, decimal, nat_le, if◌then◌else◌, ◌&&◌, ◌==◌}
use Rattle.std.specs.List.{list_all, list_any}
use Rattle.ir_laws.specs.ir_base.declared.name.Name.{Name}
use Rattle.ir_laws.specs.ir_model.Names.{same_text, spelling}
use Rattle.ir_laws.specs.ir_model.Table.{all_allocators, all_intrinsics, allocator_in, allocator_word, callee_named, callee_or, intrinsic_in}
use Rattle.ir_laws.specs.ir_model.declared.operand.Allocator.{Allocator}
use Rattle.ir_laws.specs.ir_model.declared.operand.Intrinsic.{Intrinsic}
use Rattle.ir_laws.proofs.ir_tables.Tables.{and-left, and-right, same_text-same}
use Rattle.rule_names.specs.Reserved.{begins_with, is_allocator, is_digit, is_odd, is_reserved, name_begins, part_name}
use Rattle.rule_laws.proofs.rules.same_names.Spellings.{number_is_digits}
use Rattle.ir_laws.specs.facts.same_names.Short.{IsShort}
use Rattle.ir_laws.proofs.facts.Truth.{out_of_both as both_out}

-- ---- allocators have no dot

abbrev has_dot : List ℕ → Bool
has_dot t = list_any (λ c. c == 46) t

dot_behind : (p rest : List ℕ) → has_dot (p ++ 46 ∷ rest) ≡ true
dot_behind [] rest = refl
dot_behind (c ∷ p) rest = or_right (c == 46) (has_dot (p ++ 46 ∷ rest)) (dot_behind p rest)

word_without_dot : (a : Allocator) → has_dot (allocator_word a) ≡ false
word_without_dot Allocator.Malloc = refl
word_without_dot Allocator.Znwm = refl
word_without_dot Allocator.Free = refl
word_without_dot Allocator.ZdlPv = refl
word_without_dot Allocator.ZdlPvm = refl

other_word : (t : List ℕ) → has_dot t ≡ true → (a : Allocator) → same_text t (allocator_word a) ≡ false
other_word t dot a = on (same_text t (allocator_word a)) refl
  where
    on : (b : Bool) → same_text t (allocator_word a) ≡ b → b ≡ false
    on true e = let other : false ≡ true = sym (word_without_dot a) ∙ ap has_dot (sym (same_text-same t (allocator_word a) e)) ∙ dot in absurd (cc)
    on false e = refl

no_allocator : (t : List ℕ) → has_dot t ≡ true → (all : List Allocator) → allocator_in all t ≡ None
no_allocator t dot [] = refl
no_allocator t dot (a ∷ all) = ap (λ (b : Bool). if b then Some a else allocator_in all t) (other_word t dot a) ∙ no_allocator t dot all

called_otherwise : (t : List ℕ) → has_dot t ≡ true → is_allocator (callee_named (Name.Text t)) ≡ false
called_otherwise t dot = ap (λ (o : Option Allocator). is_allocator (callee_or (Name.Text t) (intrinsic_in all_intrinsics t) o)) (no_allocator t dot all_allocators) ∙ on (intrinsic_in all_intrinsics t)
  where
    on : (o : Option Intrinsic) → is_allocator (callee_or (Name.Text t) o None) ≡ false
    on None = refl
    on (Some i) = refl

-- ---- nor does it begin with `llvm.`

all_but_last : (a b c : Bool) → (a && (b && (c && false))) ≡ false
all_but_last true true true = refl
all_but_last true true false = refl
all_but_last true false c = refl
all_but_last false b c = refl

-- four equal bytes in either order
four : (a b c d : ℕ) → ((a == 108) && ((b == 108) && ((c == 118) && ((d == 109) && true)))) ≡ false → ((108 == a) && ((108 == b) && ((118 == c) && ((109 == d) && true)))) ≡ false
four a b c d e = (λ i. turned 108 a i && (turned 108 b i && (turned 118 c i && (turned 109 d i && true)))) ∙ e
  where
    turned : (x y : ℕ) → (x == y) ≡ (y == x)
    turned x y = on (y == x) refl
      where
        on : (s : Bool) → (y == x) ≡ s → (x == y) ≡ s
        on true e = eq-eqb x y (sym (eqb-true y x e))
        on false e = ne_eqb x y (λ same. eqb-false y x e (sym same))

without_prefix : (p rest : List ℕ) → begins_with (codes "llvm.") p ≡ false → same_text p (codes "llvm") ≡ false → begins_with (codes "llvm.") (p ++ 46 ∷ rest) ≡ false
without_prefix [] rest h k = refl
without_prefix (a ∷ []) rest h k = and-false (108 == a)
without_prefix (a ∷ b ∷ []) rest h k = all_but_last true (108 == a) (108 == b)
without_prefix (a ∷ b ∷ c ∷ []) rest h k = all_but_last (108 == a) (108 == b) (118 == c)
without_prefix (a ∷ b ∷ c ∷ d ∷ []) rest h k = four a b c d k
without_prefix (a ∷ b ∷ c ∷ d ∷ e ∷ p) rest h k = h

-- ---- names that are numbers

digits_begin_otherwise : (ds : List ℕ) → list_all is_digit ds ≡ true → (begins_with (codes "llvm.") ds ≡ false) × (same_text ds (codes "llvm") ≡ false)
digits_begin_otherwise [] h = (refl, refl)
digits_begin_otherwise (c ∷ cs) h =
    let digit = and-left (is_digit c) (list_all is_digit cs) h in
    let below = leb-true c 57 (and-right (nat_le 48 c) (nat_le c 57) digit) in (
      ap (λ (b : Bool). b && begins_with (codes "lvm.") cs) (ne_eqb 108 c (λ e. omega (arith, e, below))),
      ap (λ (b : Bool). b && same_text cs (codes "lvm")) (ne_eqb c 108 (λ e. omega (arith, e, below))),
    )

spelled_otherwise : (x : Name) → IsShort x → is_odd x ≡ false → is_reserved x ≡ false → (begins_with (codes "llvm.") (spelling x) ≡ false) × (same_text (spelling x) (codes "llvm") ≡ false)
spelled_otherwise (Name.Number n) short odd free = digits_begin_otherwise (decimal n) (number_is_digits n short)
spelled_otherwise (Name.Text t) short odd free =
    ((or_parts (is_allocator (callee_named (Name.Text t))) (begins_with (codes "llvm.") t) free).1, (or_parts (same_text t (codes "llvm")) (list_all is_digit t) odd).0)

pub part_is_free : (x : Name) (rest : List ℕ) → IsShort x → is_odd x ≡ false → is_reserved x ≡ false → is_reserved (part_name x (46 ∷ rest)) ≡ false
part_is_free x rest short odd free =
    let otherwise = spelled_otherwise x short odd free in
    both_out (is_allocator (callee_named (part_name x (46 ∷ rest)))) (name_begins (codes "llvm.") (part_name x (46 ∷ rest)))
    (called_otherwise (spelling x ++ 46 ∷ rest) (dot_behind (spelling x) rest)) (without_prefix (spelling x) rest otherwise.0 otherwise.1)
