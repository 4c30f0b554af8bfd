-- Bytes read one after another.
use Rattle.std.proofs.Common.{◌≡◌, ℕ, ◌+◌, ◌*◌, ◌%◌, ◌^◌, ◌≤◌, ◌<◌, List, ◌∷◌, length, get_or, drop, Option, Some, None, refl, sym, ap, ◌∙◌, arith}
use Rattle.std.proofs.Math.Nat.{pow-le-pow_right, mul-le-mul_right, mod-eq_of_lt}
use Rattle.std.proofs.lemmas.Nat.{pow-add, pow_pos}
use Rattle.std.proofs.lemmas.List.{drop_more, drop_all}
use Rattle.run_memory.specs.declared.block.Byte.{Byte}
use Rattle.run_memory.specs.Memory.{onto, number_of}

-- the number whose k lowest bytes are n and whose others are those of a number, where that is one
abbrev pub above : ℕ → ℕ → Option ℕ → Option ℕ
above k n None = None
above k n (Some r) = Some (n + 2 ^ (8 * k) * r)

power_more : (k : ℕ) → 2 ^ (8 * (k + 1)) ≡ 2 ^ (8 * k) * 256
power_more k = let e : 8 * (k + 1) ≡ 8 * k + 8 = omega arith in ap (λ i. 2 ^ i) e ∙ pow-add 2 (8 * k) 8

above_onto : (k n digit : ℕ) (r : Option ℕ) → above k n (onto digit r) ≡ above (k + 1) (n + digit * 2 ^ (8 * k)) r
above_onto k n digit None = refl
above_onto k n digit (Some r) =
    let e : 2 ^ (8 * (k + 1)) ≡ 2 ^ (8 * k) * 256 = power_more k in
    let s : n + 2 ^ (8 * k) * (digit + 256 * r) ≡ (n + digit * 2 ^ (8 * k)) + 2 ^ (8 * k) * 256 * r = grind arith in
    ap Some (s ∙ ap (λ (p : ℕ). (n + digit * 2 ^ (8 * k)) + p * r) (sym e))

pub number_more : (bytes : List Byte) (k n digit : ℕ) → k < length bytes → get_or bytes k Byte.Undefined ≡ Byte.Number digit → above k n (number_of (drop k bytes)) ≡ above (k + 1) (n + digit * 2 ^ (8 * k)) (number_of (drop (k + 1) bytes))
number_more bytes k n digit lt is =
    ap (λ (l : List Byte). above k n (number_of l)) (drop_more bytes k Byte.Undefined lt ∙ ap (λ (x : Byte). x ∷ drop (k + 1) bytes) is)
    ∙ above_onto k n digit (number_of (drop (k + 1) bytes))

-- a byte that is no number
abbrev pub IsNoNumber : Byte → Type 0
IsNoNumber Byte.Undefined = Unit {0}
IsNoNumber (Byte.Part p k) = Unit {0}
IsNoNumber (Byte.Number n) = ⊥

no_number : (x : Byte) (rest : List Byte) → IsNoNumber x → number_of (x ∷ rest) ≡ None
no_number Byte.Undefined rest h = refl
no_number (Byte.Part p k) rest h = refl
no_number (Byte.Number n) rest h = absurd h

pub number_none : (bytes : List Byte) (k n : ℕ) → k < length bytes → IsNoNumber (get_or bytes k Byte.Undefined) → None ≡ above k n (number_of (drop k bytes))
number_none bytes k n lt h =
    sym (ap (λ (l : List Byte). above k n (number_of l)) (drop_more bytes k Byte.Undefined lt) ∙ ap (above k n) (no_number (get_or bytes k Byte.Undefined) (drop (k + 1) bytes) h))

pub number_done : (bytes : List Byte) (k n : ℕ) → length bytes ≤ k → Some n ≡ above k n (number_of (drop k bytes))
number_done bytes k n le =
    let e : n ≡ n + 2 ^ (8 * k) * 0 = grind arith in
    ap Some e ∙ sym (ap (λ (l : List Byte). above k n (number_of l)) (drop_all k bytes le))

-- a digit at a place below eight isn't cut
pub digit_kept : (k digit : ℕ) → k < 8 → digit < 256 → digit * 2 ^ (8 * k) % 2 ^ 64 ≡ digit * 2 ^ (8 * k)
digit_kept k digit lt d =
    let e : 2 ^ (8 * (k + 1)) ≡ 2 ^ (8 * k) * 256 = power_more k in
    let s : 2 ^ (8 * (k + 1)) ≤ 2 ^ 64 = (let h : 8 * (k + 1) ≤ 64 = omega arith in let two : 0 < 2 = omega arith in pow-le-pow_right two h) in
    let p : 0 < 2 ^ (8 * k) = pow_pos (8 * k) in
    mod-eq_of_lt (grind arith)

pub number_below : (k n digit : ℕ) → n < 2 ^ (8 * k) → digit < 256 → n + digit * 2 ^ (8 * k) < 2 ^ (8 * (k + 1))
number_below k n digit lt d =
    let e : 2 ^ (8 * (k + 1)) ≡ 2 ^ (8 * k) * 256 = power_more k in
    let m : digit * 2 ^ (8 * k) ≤ 255 * 2 ^ (8 * k) = mul-le-mul_right (2 ^ (8 * k)) (omega arith) in
    omega arith

pub place_below : (k : ℕ) → k < 8 → 2 ^ (8 * (k + 1)) ≤ 2 ^ 64
place_below k lt = (let h : 8 * (k + 1) ≤ 64 = omega arith in let two : 0 < 2 = omega arith in pow-le-pow_right two h)
