-- Bytes and values of the source, and what stands for them.
use Rattle.std.proofs.Common.{◌≡◌, ℕ, zero, suc, ◌+◌, ◌/◌, ◌<◌, ◌≤◌, Bool, true, false, List, [], ◌∷◌, length, get_or, take, drop, replicate, Option, Some, None, refl, sym, ap, ◌∙◌, subst, arith, drop-cons, if◌then◌else◌, ◌&&◌, ◌==◌}
use Rattle.std.specs.Prelude.{nat_lt}
use Rattle.std.proofs.lemmas.Bool.{eqb-true, eq-eqb, and_parts, and_from}
use Rattle.run_memory.specs.Memory.{are_parts, decode, digits, encode, integer_from, number_of, onto, parts, pointer_from}
use Rattle.run_memory.specs.Pointers.{same_pointer}
use Rattle.run_memory.specs.declared.block.Byte.{Byte}
use Rattle.run_memory.specs.declared.pointer.Access.{Access}
use Rattle.run_memory.specs.declared.pointer.Offset.{Offset}
use Rattle.run_memory.specs.declared.pointer.Pointer.{Pointer}
use Rattle.run_memory.specs.declared.pointer.Value.{Value}
use Rattle.ir_base.specs.declared.outcome.Word.{Word}
use Rattle.run_laws.specs.memory.Pointers.{AreBytes, Home, IsByte, IsSeen, IsValue, moved_pointer}

-- ---- pointers that are the same

offset_same : (o p : Offset) → o.bits ≡ p.bits → o ≡ p
offset_same o p e = ap (λ (n : ℕ). record { bits = n }) e

pub same_pointer-true : (p q : Pointer) → same_pointer p q ≡ true → p ≡ q
same_pointer-true Pointer.Null Pointer.Null e = refl
same_pointer-true (Pointer.At b o) (Pointer.At c p) e =
    let h = and_parts _ _ e in
    let hb = eqb-true b c h.0 in
    let ho = offset_same o p (eqb-true o.bits p.bits h.1) in
    λ i. Pointer.At (hb i) (ho i)
same_pointer-true (Pointer.Func f) (Pointer.Func g) e = ap Pointer.Func (eqb-true f g e)
same_pointer-true _ _ e = absurd (cc)

pub same_pointer-refl : (p : Pointer) → same_pointer p p ≡ true
same_pointer-refl Pointer.Null = refl
same_pointer-refl (Pointer.At b o) = and_from _ _ (eq-eqb b b refl) (eq-eqb o.bits o.bits refl)
same_pointer-refl (Pointer.Func f) = eq-eqb f f refl

-- ---- lists of bytes

pub byte_at : (homes : List Home) (cs ds : List Byte) (i : ℕ) → AreBytes homes cs ds → i < length cs → IsByte homes (get_or cs i Byte.Undefined) (get_or ds i Byte.Undefined)
byte_at homes [] ds i h lt = absurd (omega arith)
byte_at homes (c ∷ cs) [] i h lt = absurd h
byte_at homes (c ∷ cs) (d ∷ ds) zero h lt = h.0
byte_at homes (c ∷ cs) (d ∷ ds) (suc i) h lt = byte_at homes cs ds i h.1 (omega arith)

-- as many bytes of two lists, from an offset of each on
pub cut_stands : (homes : List Home) (cs ds : List Byte) (o p len : ℕ) → o + len ≤ length cs → p + len ≤ length ds → ((i : ℕ) → i < len → IsByte homes (get_or cs (o + i) Byte.Undefined) (get_or ds (p + i) Byte.Undefined)) → AreBytes homes (take len (drop o cs)) (take len (drop p ds))
cut_stands homes cs ds o p zero lo lp h = tt
cut_stands homes cs ds o p (suc len) lo lp h =
    let c : drop o cs ≡ get_or cs o Byte.Undefined ∷ drop (suc o) cs = drop-cons cs o Byte.Undefined (omega arith) in
    let d : drop p ds ≡ get_or ds p Byte.Undefined ∷ drop (suc p) ds = drop-cons ds p Byte.Undefined (omega arith) in
    let z : o + 0 ≡ o = omega arith in
    let w : p + 0 ≡ p = omega arith in
    let first : IsByte homes (get_or cs o Byte.Undefined) (get_or ds p Byte.Undefined) = rw (z, w) at (h 0 (omega arith)) in
    let rest : AreBytes homes (take len (drop (suc o) cs)) (take len (drop (suc p) ds)) = cut_stands homes cs ds (suc o) (suc p) len (omega arith) (omega arith) (λ i lt. shifted i (h (suc i) (omega arith))) in
    subst (λ (x : List Byte × List Byte). AreBytes homes (take (suc len) x.0) (take (suc len) x.1)) (λ i. (sym c i, sym d i)) (first, rest)
  where
    shifted : (i : ℕ) → IsByte homes (get_or cs (o + suc i) Byte.Undefined) (get_or ds (p + suc i) Byte.Undefined) → IsByte homes (get_or cs (suc o + i) Byte.Undefined) (get_or ds (suc p + i) Byte.Undefined)
    shifted i k =
        let e : o + suc i ≡ suc o + i = omega arith in
        let f : p + suc i ≡ suc p + i = omega arith in
        subst (λ (x : ℕ × ℕ). IsByte homes (get_or cs x.0 Byte.Undefined) (get_or ds x.1 Byte.Undefined)) (λ j. (e j, f j)) k

-- ---- what bytes stand for

number_kept : (homes : List Home) (cs ds : List Byte) (n : ℕ) → AreBytes homes cs ds → number_of cs ≡ Some n → number_of ds ≡ Some n
number_kept homes [] [] n h e = e
number_kept homes [] (d ∷ ds) n h e = absurd h
number_kept homes (c ∷ cs) [] n h e = absurd h
number_kept homes (Byte.Undefined ∷ cs) (d ∷ ds) n h e = absurd (cc)
number_kept homes (Byte.Part p k ∷ cs) (d ∷ ds) n h e = absurd (cc)
number_kept homes (Byte.Number k ∷ cs) (d ∷ ds) n h e = ap (λ (x : Byte). number_of (x ∷ ds)) h.0 ∙ on (number_of cs) refl e (λ i f. number_kept homes cs ds i h.1 f)
  where
    on : (o : Option ℕ) → number_of cs ≡ o → onto k o ≡ Some n → ((i : ℕ) → number_of cs ≡ Some i → number_of ds ≡ Some i) → onto k (number_of ds) ≡ Some n
    on None f e again = absurd (cc)
    on (Some i) f e again = ap (onto k) (again i f) ∙ e

integer_kept : (homes : List Home) (w : ℕ) (cs ds : List Byte) → AreBytes homes cs ds → IsValue homes (integer_from w (number_of cs)) (integer_from w (number_of ds))
integer_kept homes w cs ds h = on (number_of cs) refl
  where
    if_kept : (t : Bool) (x : Word) → IsValue homes (if t then Value.Poison else Value.Int x) (if t then Value.Poison else Value.Int x)
    if_kept true x = tt
    if_kept false x = refl

    on : (o : Option ℕ) → number_of cs ≡ o → IsValue homes (integer_from w o) (integer_from w (number_of ds))
    on None e = tt
    on (Some n) e =
        subst (λ (o : Option ℕ). IsValue homes (integer_from w (Some n)) (integer_from w o)) (sym (number_kept homes cs ds n h e))
        (if_kept ((w == 1) && nat_lt 1 n) (record { width = w; bits = n }))

parts_kept : (homes : List Home) (p : Pointer) (k : ℕ) (cs ds : List Byte) → AreBytes homes cs ds → are_parts p k cs ≡ true → are_parts (moved_pointer homes p) k ds ≡ true
parts_kept homes p k [] [] h e = refl
parts_kept homes p k [] (d ∷ ds) h e = absurd h
parts_kept homes p k (c ∷ cs) [] h e = absurd h
parts_kept homes p k (Byte.Undefined ∷ cs) (d ∷ ds) h e = absurd (cc)
parts_kept homes p k (Byte.Number n ∷ cs) (d ∷ ds) h e = absurd (cc)
parts_kept homes p k (Byte.Part q j ∷ cs) (d ∷ ds) h e =
    let both = and_parts _ _ e in
    let first = and_parts _ _ both.0 in
    let same : moved_pointer homes q ≡ moved_pointer homes p = ap (moved_pointer homes) (sym (same_pointer-true p q first.0)) in
    ap (λ (x : Byte). are_parts (moved_pointer homes p) k (x ∷ ds)) h.0.1
    ∙ and_from _ _ (and_from _ _ (ap (same_pointer (moved_pointer homes p)) same ∙ same_pointer-refl (moved_pointer homes p)) first.1) (parts_kept homes p (suc k) cs ds h.1 both.1)

pointer_kept : (homes : List Home) (cs ds : List Byte) → AreBytes homes cs ds → IsValue homes (pointer_from cs) (pointer_from ds)
pointer_kept homes [] ds h = tt
pointer_kept homes (c ∷ cs) [] h = absurd h
pointer_kept homes (Byte.Undefined ∷ cs) (d ∷ ds) h = tt
pointer_kept homes (Byte.Number n ∷ cs) (d ∷ ds) h = tt
pointer_kept homes (Byte.Part p k ∷ cs) (d ∷ ds) h = on (are_parts p 0 (Byte.Part p k ∷ cs)) refl
  where
    on : (t : Bool) → are_parts p 0 (Byte.Part p k ∷ cs) ≡ t → IsValue homes (if t then Value.Ptr p else Value.Poison) (pointer_from (d ∷ ds))
    on false e = tt
    on true e =
        let there = parts_kept homes p 0 (Byte.Part p k ∷ cs) (d ∷ ds) h e in
        let there' : are_parts (moved_pointer homes p) 0 (Byte.Part (moved_pointer homes p) k ∷ ds) ≡ true = ap (λ (x : Byte). are_parts (moved_pointer homes p) 0 (x ∷ ds)) (sym h.0.1) ∙ there in
        (h.0.0, ap (λ (x : Byte). pointer_from (x ∷ ds)) h.0.1 ∙ ap (λ (t : Bool). if t then Value.Ptr (moved_pointer homes p) else Value.Poison) there')

pub decode_kept : (homes : List Home) (what : Access) (cs ds : List Byte) → AreBytes homes cs ds → IsValue homes (decode what cs) (decode what ds)
decode_kept homes (Access.Int w) cs ds h = integer_kept homes w cs ds h
decode_kept homes Access.Ptr cs ds h = pointer_kept homes cs ds h

-- ---- the bytes of a value

undefined_kept : (homes : List Home) (n : ℕ) (ds : List Byte) → length ds ≡ n → AreBytes homes (replicate n Byte.Undefined) ds
undefined_kept homes zero [] e = tt
undefined_kept homes zero (d ∷ ds) e = absurd (omega arith)
undefined_kept homes (suc n) [] e = absurd (omega arith)
undefined_kept homes (suc n) (d ∷ ds) e = (tt, undefined_kept homes n ds (omega arith))

digits_kept : (homes : List Home) (n k : ℕ) → AreBytes homes (digits n k) (digits n k)
digits_kept homes zero k = tt
digits_kept homes (suc n) k = (refl, digits_kept homes n (k / 256))

pointer_parts_kept : (homes : List Home) (p : Pointer) (k n : ℕ) → IsSeen homes p → AreBytes homes (parts p k n) (parts (moved_pointer homes p) k n)
pointer_parts_kept homes p k zero h = tt
pointer_parts_kept homes p k (suc n) h = ((h, refl), pointer_parts_kept homes p (suc k) n h)

pub encode_kept : (homes : List Home) (n : ℕ) (v w : Value) → IsValue homes v w → length (encode n w) ≡ n → AreBytes homes (encode n v) (encode n w)
encode_kept homes n Value.Poison w h len = undefined_kept homes n (encode n w) len
encode_kept homes n (Value.Int x) w h len = subst (λ (u : Value). AreBytes homes (digits n x.bits) (encode n u)) (sym h) (digits_kept homes n x.bits)
encode_kept homes n (Value.Ptr p) w h len = subst (λ (u : Value). AreBytes homes (parts p 0 n) (encode n u)) (sym h.1) (pointer_parts_kept homes p 0 n h.0)
