-- Truth: what and, or and not say of their parts.
use Rattle.std.proofs.Common.{◌≡◌, Bool, true, false, refl, ℕ, ◌<◌, arith, ap, ◌∙◌, ◌⊎◌, inl, inr, sym, ◌+◌, []}
use Rattle.std.specs.Prelude.{◌&&◌, nat_lt, ◌==◌, IsTrue, ◌||◌, ◌-◌, not, is_none, if◌then◌else◌}
use Rattle.std.proofs.lemmas.Bool.{ltb-true, eqb-true, eqb-false, true_from_ne_false, eq-eqb, and_from, lt-ltb}
use Rattle.run_laws.proofs.ir_paths.Search.{eq_from}
use Rattle.run_laws.specs.ir_base.declared.name.Name.{Name}
use Rattle.run_laws.specs.ir_model.Names.{same_name}
use Rattle.ir_tables.proofs.Tables.{same_text-refl, same_name-same}
use Rattle.run_laws.specs.ir_model.declared.instr.Instr.{Instr}
use Rattle.run_laws.specs.ir_model.declared.operand.Callee.{Callee}
use Rattle.run_laws.specs.ir_model.declared.operand.Intrinsic.{Intrinsic}
use Rattle.std.specs.Fmt.{digit_glyph}
use Rattle.text_names.specs.Spelling.{is_name_byte, is_name_text}

-- ---- a name that no operand has

pub false_behind : (b : Bool) → (b && false) ≡ false
false_behind true = refl
false_behind false = refl

pub not_below : (n : ℕ) → nat_lt n n ≡ false
not_below n = on (nat_lt n n) refl
  where
    on : (b : Bool) → nat_lt n n ≡ b → b ≡ false
    on true e = let lt : n < n = ltb-true n n e in absurd (omega arith)
    on false e = refl

pub equal_numbers : (a b : ℕ) → (a == b) ≡ true → a ≡ b
equal_numbers a b e = eqb-true a b e

pub itself : (n : ℕ) → (n == n) ≡ true
itself n = true_from_ne_false (n == n) (λ e. eqb-false n n e refl)

pub not_equal : (a b : ℕ) → (a == b) ≡ false → a ≡ b → ⊥
not_equal a b e h = eqb-false a b e h

pub or_right : (a b : Bool) → IsTrue b → IsTrue (a || b)
or_right true b e = refl
or_right false b e = e

pub same_truth : (a b : Bool) → (a ≡ true → b ≡ true) → (b ≡ true → a ≡ true) → a ≡ b
same_truth true true h k = refl
same_truth true false h k = let e = h refl in absurd (cc)
same_truth false true h k = let e = k refl in absurd (cc)
same_truth false false h k = refl

-- ---- tokens by their names

pub other_name : (m v : ℕ) → v < m → (m == v) ≡ false
other_name m v lt = on (m == v) refl
  where
    on : (b : Bool) → (m == v) ≡ b → (m == v) ≡ false
    on true e = let same = eq_from m v e in absurd (omega arith)
    on false e = e

pub other_number : (v n : ℕ) → v < n → (v == n) ≡ false
other_number v n lt = on (v == n) refl
  where
    on : (b : Bool) → (v == n) ≡ b → b ≡ false
    on true e = let same = eqb-true v n e in absurd (omega (arith, same, lt))
    on false e = refl

pub second_of_three : (a b c : Bool) → (a || (b || c)) ≡ false → b ≡ false
second_of_three false false c e = refl
second_of_three false true c e = absurd (cc)
second_of_three true b c e = absurd (cc)

-- ---- tests of two and of all

pub and_first : (a b : Bool) → (a && b) ≡ true → a ≡ true
and_first true b e = refl
and_first false b e = absurd (cc)

pub and_second : (a b : Bool) → (a && b) ≡ true → b ≡ true
and_second true b e = e
and_second false b e = absurd (cc)

pub and_both : (a b : Bool) → a ≡ true → b ≡ true → (a && b) ≡ true
and_both a b e d = ap (λ (x : Bool). x && b) e ∙ d

pub holds : (b : Bool) → not b ≡ false → b ≡ true
holds true e = refl
holds false e = absurd (cc)

pub second_false : (b a : Bool) → (b || not a) ≡ false → (b ≡ false) × (a ≡ true)
second_false true a e = absurd (cc)
second_false false true e = (refl, refl)
second_false false false e = absurd (cc)

pub both_stay : (a b c d : Bool) → (a ≡ true → c ≡ true) → (b ≡ true → d ≡ true) → (a && b) ≡ true → (c && d) ≡ true
both_stay true b c d h k e = (λ i. h refl i && k e i)
both_stay false b c d h k e = absurd (cc)

pub not_breaks : (a b : Bool) → (a ≡ true → b ≡ true) → not a ≡ false → not b ≡ false
not_breaks true b h e = ap not (h refl)
not_breaks false b h e = absurd (cc)

-- a number is another or not
pub either : (a b : ℕ) → (a ≡ b) ⊎ (a ≡ b → ⊥)
either a b = on (a == b) refl
  where
    on : (t : Bool) → (a == b) ≡ t → (a ≡ b) ⊎ (a ≡ b → ⊥)
    on true e = inl (equal_numbers a b e)
    on false e = inr (not_equal a b e)

pub was_not : (b : Bool) → not b ≡ true → b ≡ false
was_not true e = absurd (cc)
was_not false e = refl

-- ---- tests

pub both_true : (a b : Bool) → (a && b) ≡ true → (a ≡ true) × (b ≡ true)
both_true true true e = (refl, refl)
both_true true false e = absurd (cc)
both_true false b e = absurd (cc)

pub neither : (a b : Bool) → (a || b) ≡ false → (a ≡ false) × (b ≡ false)
neither true b e = absurd (cc)
neither false b e = (refl, e)

-- ---- a split module

pub out_of_both : (a b : Bool) → a ≡ false → b ≡ false → (a || b) ≡ false
out_of_both a b e d = ap (λ (c : Bool). c || b) e ∙ d

pub same_name-itself : (a : Name) → same_name a a ≡ true
same_name-itself (Name.Number n) = eq-eqb n n refl
same_name-itself (Name.Text t) = same_text-refl t

pub differ : (a b : Name) → (a ≡ b → ⊥) → same_name a b ≡ false
differ a b never = on (same_name a b) refl
  where
    on : (s : Bool) → same_name a b ≡ s → s ≡ false
    on true e = absurd (never (same_name-same a b e))
    on false e = refl

pub second_no : (a b : Bool) → (a || b) ≡ false → b ≡ false
second_no true b e = absurd (cc)
second_no false b e = e

-- ---- lists

-- a number is another or not
pub is_number : (r n : ℕ) → (r ≡ n) ⊎ (r ≡ n → ⊥)
is_number r n = on (r == n) refl
  where
    on : (b : Bool) → (r == n) ≡ b → (r ≡ n) ⊎ (r ≡ n → ⊥)
    on true e = inl (equal_numbers r n e)
    on false e = inr (not_equal r n e)

pub or_true : (b : Bool) → (b || true) ≡ true
or_true true = refl
or_true false = refl

pub not_both : (b : Bool) → b ≡ false → b ≡ true → ⊥
not_both b plain marked = let both : false ≡ true = sym plain ∙ marked in absurd (cc)

-- a resume or a destroy has no result
abbrev pub is_void : Instr → Bool
is_void (Instr.Call r must_tail ty (Callee.Intrinsic Intrinsic.CoroResume) args) = is_none r
is_void (Instr.Call r must_tail ty (Callee.Intrinsic Intrinsic.CoroDestroy) args) = is_none r
is_void i = true

pub first_no : (a b : Bool) → (a || b) ≡ false → a ≡ false
first_no true b e = absurd (cc)
first_no false b e = refl

-- ---- lists of words

pub or_last : (a b : Bool) → b ≡ true → (a || b) ≡ true
or_last true b h = refl
or_last false b h = h

-- ---- numbers are bytes

pub glyph_byte : (d : ℕ) → d < 10 → is_name_byte (digit_glyph false d) ≡ true
glyph_byte d small = on (nat_lt d 10) (lt-ltb d 10 small)
  where
    on : (b : Bool) → b ≡ true → is_name_byte (if b then 48 + d else (if false then 55 + d else 87 + d)) ≡ true
    on true e = and_from (nat_lt 0 (48 + d)) (nat_lt (48 + d) 256) (lt-ltb 0 (48 + d) (omega arith)) (lt-ltb (48 + d) 256 (omega (arith, small)))
    on false e = absurd (cc)

-- ---- a word and bytes

pub nothing_no_name : is_name_text [] ≡ true → ⊥
nothing_no_name e = absurd (cc)
