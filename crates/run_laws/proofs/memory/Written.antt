-- Bytes written into a list, and blocks changed in a memory.
use Rattle.std.proofs.Common.{◌≡◌, ◌≢◌, ℕ, zero, suc, ◌+◌, ◌-◌, ◌<◌, ◌≤◌, List, [], ◌∷◌, ◌++◌, length, get_or, take, drop, Some, refl, sym, ap, ◌∙◌, arith, get_or-drop, get_or-take, get_or-append-add, length-append}
use Rattle.std.proofs.lemmas.List.{get_or_append_left, get_or-append_right, length-take-le}
use Rattle.std.specs.Prelude.{slice_get}
use Rattle.run_memory.specs.Memory.{with_block, written}
use Rattle.run_memory.specs.declared.block.Byte.{Byte}
use Rattle.run_memory.specs.declared.block.MemoryBlock.{MemoryBlock}

length_front : (bytes : List Byte) (o : ℕ) (new : List Byte) → o ≤ length bytes → length (take o bytes ++ new) ≡ o + length new
length_front bytes o new le =
    let a = length-append (take o bytes) new in
    let b = length-take-le o bytes le in
    omega arith

pub written_before : (bytes : List Byte) (o : ℕ) (new : List Byte) (i : ℕ) → o ≤ length bytes → i < o → get_or (written bytes o new) i Byte.Undefined ≡ get_or bytes i Byte.Undefined
written_before bytes o new i le lt =
    let a = length_front bytes o new le in
    let b = length-take-le o bytes le in
    get_or_append_left (take o bytes ++ new) (drop (o + length new) bytes) Byte.Undefined i (omega arith)
    ∙ get_or_append_left (take o bytes) new Byte.Undefined i (omega arith)
    ∙ get_or-take o bytes i Byte.Undefined lt

pub written_inside : (bytes : List Byte) (o : ℕ) (new : List Byte) (i : ℕ) → o ≤ length bytes → i < length new → get_or (written bytes o new) (o + i) Byte.Undefined ≡ get_or new i Byte.Undefined
written_inside bytes o new i le lt =
    let a = length_front bytes o new le in
    let b = length-take-le o bytes le in
    get_or_append_left (take o bytes ++ new) (drop (o + length new) bytes) Byte.Undefined (o + i) (omega arith)
    ∙ ap (λ n. get_or (take o bytes ++ new) (n + i) Byte.Undefined) (sym b)
    ∙ get_or-append-add (take o bytes) new i Byte.Undefined

pub written_behind : (bytes : List Byte) (o : ℕ) (new : List Byte) (i : ℕ) → o + length new ≤ length bytes → o + length new ≤ i → get_or (written bytes o new) i Byte.Undefined ≡ get_or bytes i Byte.Undefined
written_behind bytes o new i le lt =
    let a = length_front bytes o new (omega arith) in
    let e : o + length new + (i - (o + length new)) ≡ i = omega arith in
    get_or-append_right (take o bytes ++ new) (drop (o + length new) bytes) (o + length new) i Byte.Undefined a lt
    ∙ get_or-drop (o + length new) bytes (i - (o + length new)) Byte.Undefined
    ∙ ap (λ n. get_or bytes n Byte.Undefined) e

-- ---- one block changed

pub same_some : {A : Type 0} (x y : A) → Some x ≡ Some y → x ≡ y
same_some x y e = cc

pub changed_here : (m : List MemoryBlock) (b : ℕ) (f : MemoryBlock → MemoryBlock) (x : MemoryBlock) → slice_get m b ≡ Some x → slice_get (with_block m b f) b ≡ Some (f x)
changed_here [] b f x e = absurd (cc)
changed_here (y ∷ m) zero f x e = ap (λ z. Some (f z)) (same_some y x e)
changed_here (y ∷ m) (suc b) f x e = changed_here m b f x e

pub changed_elsewhere : (m : List MemoryBlock) (b c : ℕ) (f : MemoryBlock → MemoryBlock) → c ≢ b → slice_get (with_block m b f) c ≡ slice_get m c
changed_elsewhere [] b c f ne = refl
changed_elsewhere (y ∷ m) zero zero f ne = absurd (ne refl)
changed_elsewhere (y ∷ m) zero (suc c) f ne = refl
changed_elsewhere (y ∷ m) (suc b) zero f ne = refl
changed_elsewhere (y ∷ m) (suc b) (suc c) f ne = changed_elsewhere m b c f (λ e. ne (ap suc e))
