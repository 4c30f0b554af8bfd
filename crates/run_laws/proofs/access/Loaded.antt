-- A value that is stored is loaded again.
use Rattle.std.proofs.Common.{◌≡◌, ℕ, zero, suc, ◌+◌, ◌*◌, ◌/◌, ◌%◌, ◌^◌, ◌<◌, ◌≤◌, Bool, true, false, replicate, Some, refl, sym, ap, ◌∙◌, subst, ⊎_elim, arith, if◌then◌else◌, ◌&&◌, ◌==◌}
use Rattle.std.specs.Prelude.{nat_lt}
use Rattle.std.proofs.Math.Pow.{pow_mono}
use Rattle.std.proofs.lemmas.Nat.{pow-add}
use Rattle.std.proofs.lemmas.Bool.{and_parts, cases_eq, eq-eqb, eqb-true, le-ltb, ltb-true, ne_eqb}
use Rattle.run_memory.specs.Memory.{access_bytes, are_parts, decode, digits, encode, integer_from, number_of, onto, parts, width_bytes}
use Rattle.run_memory.specs.declared.block.Byte.{Byte}
use Rattle.run_memory.specs.declared.pointer.Access.{Access}
use Rattle.run_memory.specs.declared.pointer.Pointer.{Pointer}
use Rattle.run_memory.specs.declared.pointer.Value.{Value}
use Rattle.ir_base.specs.declared.outcome.Word.{Word}
use Rattle.run_ints.specs.declared.num.Num.{Num}
use Rattle.run_laws.proofs.memory.Matching.{same_pointer-refl}
use Rattle.run_step.specs.Values.{address, is_word_of, stored, value_of}

-- ---- numbers

-- digits of a number below 2^(8 n) are n bytes of it
number_back : (n x : ℕ) → x < 2 ^ (8 * n) → number_of (digits n x) ≡ Some x
number_back zero x lt = let e : 0 ≡ x = omega arith in ap Some e
number_back (suc n) x lt =
    let e : 8 * suc n ≡ 8 * n + 8 = omega arith in
    let p : 2 ^ (8 * suc n) ≡ 2 ^ (8 * n) * 2 ^ 8 = ap (λ (k : ℕ). 2 ^ k) e ∙ pow-add 2 (8 * n) 8 in
    let is : x % 256 + 256 * (x / 256) ≡ x = omega arith in
    ap (onto (x % 256)) (number_back n (x / 256) (below x (2 ^ (8 * n)) (subst (λ (k : ℕ). x < k) p lt))) ∙ ap Some is
  where
    below : (x k : ℕ) → x < k * 2 ^ 8 → x / 256 < k
    below x k lt = omega arith

enough : (n x : ℕ) → x < 2 ^ n → x < 2 ^ (8 * width_bytes n)
enough n x lt =
    let le : n ≤ 8 * width_bytes n = omega arith in
    let m = pow_mono le in
    omega arith

abbrev small_or : ℕ → ℕ → Bool → Value
small_or n x t = if t then Value.Poison else Value.Int (record { width = n; bits = x })

-- an i1 is 0 or 1
integer_back : (n : ℕ) (y : Word) → y.width ≡ n → y.bits < 2 ^ n → integer_from n (Some y.bits) ≡ Value.Int y
integer_back n y is lt = ⊎_elim one other (cases_eq n 1)
  where
    last : Value.Int (record { width = n; bits = y.bits }) ≡ Value.Int y
    last = ap (λ (k : ℕ). Value.Int (record { width = k; bits = y.bits })) (sym is)

    one : n ≡ 1 → integer_from n (Some y.bits) ≡ Value.Int y
    one e =
        let small : y.bits < 2 ^ 1 = subst (λ (k : ℕ). y.bits < 2 ^ k) e lt in
        ap (small_or n y.bits) (ap (λ (t : Bool). (n == 1) && t) (le-ltb 1 y.bits (omega arith)) ∙ and_false (n == 1)) ∙ last
      where
        and_false : (t : Bool) → (t && false) ≡ false
        and_false true = refl
        and_false false = refl

    other : (n ≡ 1 → ⊥) → integer_from n (Some y.bits) ≡ Value.Int y
    other ne = ap (λ (t : Bool). small_or n y.bits (t && nat_lt 1 y.bits)) (ne_eqb n 1 ne) ∙ last

blank_number : (n k : ℕ) → 0 < k → integer_from n (number_of (replicate k Byte.Undefined)) ≡ Value.Poison
blank_number n zero lt = absurd (omega arith)
blank_number n (suc k) lt = refl

-- ---- pointers

parts_back : (p : Pointer) (k n : ℕ) → are_parts p k (parts p k n) ≡ true
parts_back p k zero = refl
parts_back p k (suc n) = λ i. same_pointer-refl p i && eq-eqb k k refl i && parts_back p (suc k) n i

-- ---- values

word_back : (n : ℕ) (y : Word) → is_word_of n y ≡ true → decode (Access.Int n) (encode (access_bytes (Access.Int n)) (Value.Int y)) ≡ Value.Int y
word_back n y e =
    let h = and_parts _ _ e in
    let lt = ltb-true y.bits (2 ^ n) h.1 in
    ap (integer_from n) (number_back (width_bytes n) y.bits (enough n y.bits lt)) ∙ integer_back n y (eqb-true y.width n h.0) lt

int_back : (n : ℕ) (v : Value) → 0 < width_bytes n → decode (Access.Int n) (encode (access_bytes (Access.Int n)) (stored (Access.Int n) v)) ≡ stored (Access.Int n) v
int_back n Value.Poison lt = blank_number n (width_bytes n) lt
int_back n (Value.Ptr p) lt = blank_number n (width_bytes n) lt
int_back n (Value.Int y) lt = on (is_word_of n y) refl
  where
    on : (t : Bool) → is_word_of n y ≡ t → decode (Access.Int n) (encode (width_bytes n) (value_of (if t then Num.Is y else Num.Poison))) ≡ value_of (if t then Num.Is y else Num.Poison)
    on true e = word_back n y e
    on false e = blank_number n (width_bytes n) lt

ptr_back : (v : Value) → decode Access.Ptr (encode 8 (address v)) ≡ address v
ptr_back Value.Poison = refl
ptr_back (Value.Int y) = refl
ptr_back (Value.Ptr p) = ap (λ (t : Bool). if t then Value.Ptr p else Value.Poison) (parts_back p 0 8)

pub stored_back : (what : Access) (v : Value) → 0 < access_bytes what → decode what (encode (access_bytes what) (stored what v)) ≡ stored what v
stored_back (Access.Int n) v lt = int_back n v lt
stored_back Access.Ptr v lt = ptr_back v
