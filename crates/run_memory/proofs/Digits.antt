-- The bytes of a value, one by one.
use Rattle.std.proofs.Common.{◌≡◌, ℕ, zero, suc, ◌+◌, ◌*◌, ◌/◌, ◌%◌, ◌^◌, ◌<◌, length, get_or, replicate, refl, sym, ap, ◌∙◌, arith}
use Rattle.std.proofs.Math.Nat.{div-div-eq-div-mul}
use Rattle.std.proofs.lemmas.Nat.{pow-add}
use Rattle.std.proofs.lemmas.List.{length-replicate}
use Rattle.run_memory.specs.declared.pointer.Pointer.{Pointer}
use Rattle.run_memory.specs.declared.pointer.Value.{Value}
use Rattle.run_memory.specs.declared.block.Byte.{Byte}
use Rattle.run_memory.specs.Memory.{digits, parts, encode}

pub part_at : (p : Pointer) (j n k : ℕ) → k < n → get_or (parts p j n) k Byte.Undefined ≡ Byte.Part p (j + k)
part_at p j zero k lt = absurd (omega arith)
part_at p j (suc n) zero lt = let e : j ≡ j + 0 = omega arith in ap (Byte.Part p) e
part_at p j (suc n) (suc k) lt = let e : suc j + k ≡ j + suc k = omega arith in part_at p (suc j) n k (omega arith) ∙ ap (Byte.Part p) e

digit_down : (b k : ℕ) → b / 256 / 2 ^ (8 * k) ≡ b / 2 ^ (8 * suc k)
digit_down b k =
    let e : 8 * suc k ≡ 8 + 8 * k = omega arith in
    div-div-eq-div-mul b 256 (2 ^ (8 * k)) ∙ ap (λ d. b / d) (sym (pow-add 2 8 (8 * k)) ∙ ap (λ i. 2 ^ i) (sym e))

pub digit_at : (n b k : ℕ) → k < n → get_or (digits n b) k Byte.Undefined ≡ Byte.Number (b / 2 ^ (8 * k) % 256)
digit_at zero b k lt = absurd (omega arith)
digit_at (suc n) b zero lt = let e : b ≡ b / 2 ^ (8 * 0) = omega arith in ap (λ x. Byte.Number (x % 256)) e
digit_at (suc n) b (suc k) lt = digit_at n (b / 256) k (omega arith) ∙ ap (λ x. Byte.Number (x % 256)) (digit_down b k)

pub undefined_at : (n k : ℕ) → get_or (replicate n Byte.Undefined) k Byte.Undefined ≡ Byte.Undefined
undefined_at zero k = refl
undefined_at (suc n) zero = refl
undefined_at (suc n) (suc k) = undefined_at n k

length-digits : (n b : ℕ) → length (digits n b) ≡ n
length-digits zero b = refl
length-digits (suc n) b = ap suc (length-digits n (b / 256))

length-parts : (p : Pointer) (k n : ℕ) → length (parts p k n) ≡ n
length-parts p k zero = refl
length-parts p k (suc n) = ap suc (length-parts p (suc k) n)

pub length-encode : (n : ℕ) (v : Value) → length (encode n v) ≡ n
length-encode n Value.Poison = length-replicate n Byte.Undefined
length-encode n (Value.Int w) = length-digits n w.bits
length-encode n (Value.Ptr p) = length-parts p 0 n
