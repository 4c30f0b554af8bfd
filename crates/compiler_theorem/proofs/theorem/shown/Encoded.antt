-- Bytes from which what stands for a value is loaded are what stands for its bytes.
use Rattle.std.proofs.Common.{◌≡◌, ◌⊎◌, inl, inr, ℕ, suc, ◌+◌, ◌*◌, ◌/◌, ◌%◌, ◌<◌, Bool, true, false, List, [], ◌∷◌, Option, Some, None, length, refl, sym, ap, ◌∙◌, subst, arith, if◌then◌else◌, ◌&&◌, ◌==◌}
use Rattle.std.proofs.lemmas.Bool.{and_parts, eqb-true}
use Rattle.std.specs.Prelude.{nat_lt, replicate}
use Rattle.compiler.specs.ir_base.declared.outcome.Word.{Word}
use Rattle.compiler.proofs.run_laws.memory.Matching.{encode_kept, same_pointer-true}
use Rattle.compiler.specs.run_laws.memory.Pointers.{AreBytes, Home, IsValue}
use Rattle.compiler.specs.run_memory.Memory.{are_parts, decode, digits, encode, integer_from, number_of, onto, parts}
use Rattle.compiler.specs.run_memory.declared.block.Byte.{Byte}
use Rattle.compiler.specs.run_memory.declared.pointer.Access.{Access}
use Rattle.compiler.specs.run_memory.declared.pointer.Pointer.{Pointer}
use Rattle.compiler.specs.run_memory.declared.pointer.Value.{Value}
use Rattle.pass_frames_meaning.specs.run_types.Fitting as fitting

-- ---- numbers

low_byte : (k n x : ℕ) → k < 256 → k + 256 * n ≡ x → x % 256 ≡ k
low_byte k n x lt e = omega (arith, lt, e)

high_bytes : (k n x : ℕ) → k < 256 → k + 256 * n ≡ x → x / 256 ≡ n
high_bytes k n x lt e = omega (arith, lt, e)

-- numbers of a byte each are the digits of the number that they make
pub number_digits : (bs : List Byte) (x : ℕ) → fitting.AreBytes bs → number_of bs ≡ Some x → digits (length bs) x ≡ bs
number_digits [] x fit e = refl
number_digits (Byte.Undefined ∷ bs) x fit e = absurd (cc)
number_digits (Byte.Part p k ∷ bs) x fit e = absurd (cc)
number_digits (Byte.Number k ∷ bs) x fit e = on (number_of bs) refl e (λ n d. number_digits bs n fit.1 d)
  where
    on : (o : Option ℕ) → number_of bs ≡ o → onto k o ≡ Some x
        → ((n : ℕ) → number_of bs ≡ Some n → digits (length bs) n ≡ bs)
        → digits (suc (length bs)) x ≡ Byte.Number k ∷ bs
    on None d e again = absurd (cc)
    on (Some n) d e again =
        let is : k + 256 * n ≡ x = cc in
        let low = low_byte k n x fit.0 is in
        let high = high_bytes k n x fit.0 is in
        (λ i. Byte.Number (low i) ∷ digits (length bs) (high i))
        ∙ ap (λ (ds : List Byte). Byte.Number k ∷ ds) (again n d)

word_number : (w : ℕ) (o : Option ℕ) (x : Word) → integer_from w o ≡ Value.Int x → o ≡ Some x.bits
word_number w None x e = absurd (cc)
word_number w (Some n) x e = on ((w == 1) && nat_lt 1 n) e
  where
    bits_of : Value → ℕ
    bits_of (Value.Int y) = y.bits
    bits_of Value.Poison = 0
    bits_of (Value.Ptr p) = 0

    on : (t : Bool) → (if t then Value.Poison else Value.Int (record { width = w; bits = n })) ≡ Value.Int x
        → Some n ≡ Some x.bits
    on true h = absurd (cc)
    on false h = ap (λ (v : Value). Some (bits_of v)) h

no_pointer : (w : ℕ) (o : Option ℕ) (p : Pointer) → integer_from w o ≡ Value.Ptr p → ⊥
no_pointer w None p e = absurd (cc)
no_pointer w (Some n) p e = on ((w == 1) && nat_lt 1 n) e
  where
    on : (t : Bool) → (if t then Value.Poison else Value.Int (record { width = w; bits = n })) ≡ Value.Ptr p → ⊥
    on true h = absurd (cc)
    on false h = absurd (cc)

-- ---- pointers

parts_are : (p : Pointer) (k : ℕ) (bs : List Byte) → are_parts p k bs ≡ true → parts p k (length bs) ≡ bs
parts_are p k [] e = refl
parts_are p k (Byte.Undefined ∷ bs) e = absurd (cc)
parts_are p k (Byte.Number n ∷ bs) e = absurd (cc)
parts_are p k (Byte.Part q j ∷ bs) e =
    let both = and_parts _ _ e in
    let first = and_parts _ _ both.0 in
    let same = same_pointer-true p q first.0 in
    let at = eqb-true j k first.1 in
    λ i. Byte.Part (same i) (sym at i) ∷ parts_are p (suc k) bs both.1 i

-- ---- values

-- what is loaded from bytes and isn't poison is what is stored for it
pub decoded_encodes : (what : Access) (v : Value) (bs : List Byte) → fitting.AreBytes bs → decode what bs ≡ v
    → (v ≡ Value.Poison → ⊥) → encode (length bs) v ≡ bs
decoded_encodes what Value.Poison bs fit e some = absurd (some refl)
decoded_encodes (Access.Int w) (Value.Int x) bs fit e some =
    number_digits bs x.bits fit (word_number w (number_of bs) x e)
decoded_encodes (Access.Int w) (Value.Ptr p) bs fit e some = absurd (no_pointer w (number_of bs) p e)
decoded_encodes Access.Ptr v [] fit e some = absurd (some (sym e))
decoded_encodes Access.Ptr v (Byte.Undefined ∷ bs) fit e some = absurd (some (sym e))
decoded_encodes Access.Ptr v (Byte.Number n ∷ bs) fit e some = absurd (some (sym e))
decoded_encodes Access.Ptr v (Byte.Part p k ∷ bs) fit e some = on (are_parts p 0 (Byte.Part p k ∷ bs)) refl e
  where
    on : (t : Bool) → are_parts p 0 (Byte.Part p k ∷ bs) ≡ t → (if t then Value.Ptr p else Value.Poison) ≡ v
        → encode (suc (length bs)) v ≡ Byte.Part p k ∷ bs
    on false d h = absurd (some (sym h))
    on true d h = ap (encode (suc (length bs))) (sym h) ∙ parts_are p 0 (Byte.Part p k ∷ bs) d

poison_or : (v : Value) → (v ≡ Value.Poison) ⊎ (v ≡ Value.Poison → ⊥)
poison_or Value.Poison = inl refl
poison_or (Value.Int x) = inr (λ e. absurd (cc))
poison_or (Value.Ptr p) = inr (λ e. absurd (cc))

-- anything stands for undefined bytes
blank_stands : (homes : List Home) (bs : List Byte) → AreBytes homes (replicate (length bs) Byte.Undefined) bs
blank_stands homes [] = tt
blank_stands homes (b ∷ bs) = (tt, blank_stands homes bs)

not_poison : (homes : List Home) (v w : Value) → IsValue homes v w → (v ≡ Value.Poison → ⊥) → w ≡ Value.Poison → ⊥
not_poison homes Value.Poison w h some e = some refl
not_poison homes (Value.Int x) w h some e = let no : Value.Int x ≡ Value.Poison = sym h ∙ e in absurd (cc)
not_poison homes (Value.Ptr p) w h some e = let no = sym h.1 ∙ e in absurd (cc)

-- bytes from which what stands for a value is loaded stand for what is stored for it
pub decoded_stand : (homes : List Home) (what : Access) (v : Value) (size : ℕ) (bs : List Byte) → fitting.AreBytes bs
    → length bs ≡ size → IsValue homes v (decode what bs) → AreBytes homes (encode size v) bs
decoded_stand homes what v size bs fit long h =
    subst (λ (n : ℕ). AreBytes homes (encode n v) bs) long (on (poison_or v))
  where
    on : (v ≡ Value.Poison) ⊎ (v ≡ Value.Poison → ⊥) → AreBytes homes (encode (length bs) v) bs
    on (inl e) = subst (λ (u : Value). AreBytes homes (encode (length bs) u) bs) (sym e) (blank_stands homes bs)
    on (inr some) =
        let is = decoded_encodes what (decode what bs) bs fit refl (not_poison homes v (decode what bs) h some) in
        subst (AreBytes homes (encode (length bs) v)) is
        (encode_kept homes (length bs) v (decode what bs) h (ap length is))

-- a distance of 64 bits stands as it is
pub distance_stands : (homes : List Home) (size bits : ℕ) (bs : List Byte) → fitting.AreBytes bs → length bs ≡ size
    → decode (Access.Int 64) bs ≡ Value.Int (record { width = 64; bits = bits }) → AreBytes homes (digits size bits) bs
distance_stands homes size bits bs fit long e =
    decoded_stand homes (Access.Int 64) (Value.Int (record { width = 64; bits = bits })) size bs fit long e
