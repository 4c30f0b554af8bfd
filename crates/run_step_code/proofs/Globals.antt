-- The block of a global.
use Rattle.std.proofs.Common.{◌≡◌, ℕ, zero, suc, ◌+◌, ◌≤◌, Bool, true, false, List, [], ◌∷◌, ◌++◌, length, drop, refl, ap, sym, ◌∙◌, arith, Option, Some, Ok, Err}
use Rattle.std.specs.Prelude.{Result, OnOk, IfErr, slice_get, replicate, nat_lt, nat_le, if◌then◌else◌}
use Rattle.std.proofs.lemmas.Bool.{false≢true, le-leb, le-ltb}
use Rattle.run_memory.specs.Memory.{access_bytes, encode, fresh, is_constant, owner_rights, range, range_at, seal, sealed, store, unless_constant, with_block, write, written, on_ok}
use Rattle.run_memory.specs.declared.pointer.Spot.{Spot}
use Rattle.run_memory.specs.declared.block.Byte.{Byte}
use Rattle.run_memory.specs.declared.block.Kind.{Kind}
use Rattle.run_memory.specs.declared.block.MemoryBlock.{MemoryBlock}
use Rattle.run_memory.specs.declared.pointer.Access.{Access}
use Rattle.run_memory.specs.declared.pointer.Value.{Value}
use Rattle.run_memory.proofs.Digits.{length-encode}
use Rattle.ir_base.specs.declared.cause.Cause.{Cause}
use Rattle.run_step.specs.Values.{pointer_to}
use Rattle.run_step.specs.Effects.{made_block}

get-last : (m : List MemoryBlock) (x : MemoryBlock) → slice_get (m ++ x ∷ []) (length m) ≡ Some x
get-last [] x = refl
get-last (y ∷ m) x = get-last m x

change-last : (m : List MemoryBlock) (x : MemoryBlock) (f : MemoryBlock → MemoryBlock) → with_block (m ++ x ∷ []) (length m) f ≡ m ++ f x ∷ []
change-last [] x f = refl
change-last (y ∷ m) x f = ap (λ (l : List MemoryBlock). y ∷ l) (change-last m x f)

not-below : (n : ℕ) → nat_lt n (0 + n) ≡ false
not-below n = le-ltb n (0 + n) (omega arith)

at-least : (a : ℕ) → 1 ≤ a → nat_le 1 a ≡ true
at-least a h = le-leb 1 a h

pick-false : {A : Type 0} (b : Bool) (x y : A) → b ≡ false → (if b then x else y) ≡ y
pick-false false x y e = refl
pick-false true x y e = absurd (false≢true (sym e))

pick-true : {A : Type 0} (b : Bool) (x y : A) → b ≡ true → (if b then x else y) ≡ x
pick-true true x y e = refl
pick-true false x y e = absurd (false≢true e)

abbrev constant-at : Option MemoryBlock → Bool
constant-at y = is_constant y

abbrev spot : ℕ → Spot
spot b = record { block = b; offset = 0 }

range-last : (m : List MemoryBlock) (len align : ℕ) (bytes : List Byte) → 1 ≤ align → range owner_rights (m ++ made_block len align Kind.Global bytes ∷ []) (pointer_to (length m)) len 1 ≡ Ok (spot (length m))
range-last m len align bytes h =
    ap (λ (x : Option MemoryBlock). range_at owner_rights (length m) x 0 len 1) (get-last m (made_block len align Kind.Global bytes))
    ∙ pick-false (nat_lt len (0 + len)) (Err Cause.Bounds) (if nat_le 1 align then Ok (spot (length m)) else Err Cause.Align) (not-below len)
    ∙ pick-true (nat_le 1 align) (Ok (spot (length m))) (Err Cause.Align) (at-least align h)

append-none : (l : List Byte) → l ++ [] ≡ l
append-none [] = refl
append-none (x ∷ xs) = ap (λ (l : List Byte). x ∷ l) (append-none xs)

drop-replicate : (n : ℕ) → drop n (replicate n Byte.Undefined) ≡ []
drop-replicate zero = refl
drop-replicate (suc n) = drop-replicate n

written-all : (n : ℕ) (new : List Byte) → length new ≡ n → written (replicate n Byte.Undefined) 0 new ≡ new
written-all n new e =
    let z : 0 + length new ≡ n = omega arith in
    ap (λ k. new ++ drop k (replicate n Byte.Undefined)) z ∙ ap (λ l. new ++ l) (drop-replicate n) ∙ append-none new

store-last : (m : List MemoryBlock) (what : Access) (align : ℕ) (v : Value) → 1 ≤ align → store owner_rights (fresh m (access_bytes what) align Kind.Global) (pointer_to (length m)) v what 1 ≡ Ok (m ++ made_block (access_bytes what) align Kind.Global (encode (access_bytes what) v) ∷ [])
store-last m what align v h =
    let len = access_bytes what in
    let x = made_block len align Kind.Global (replicate len Byte.Undefined) in
    let M = m ++ x ∷ [] in
    let new = encode len v in
    ap (on_ok (λ s. unless_constant M s (write M s new))) (range-last m len align (replicate len Byte.Undefined) h)
    ∙ ap (λ (y : Option MemoryBlock). if constant-at y then Err Cause.Constant else Ok (write M (spot (length m)) new)) (get-last m x)
    ∙ ap Ok (change-last m x (λ y. record y { bytes = written y.bytes 0 new }))
    ∙ ap (λ (l : List Byte). Ok (m ++ made_block len align Kind.Global l ∷ [])) (written-all len new (length-encode len v))

filled-by : (r : Result (Unit {0}) Cause) (s : Result (List MemoryBlock) Cause) (new x : List MemoryBlock) → s ≡ Ok x → OnOk r (s ≡ Ok new) → IfErr r (λ c. s ≡ Err c) → new ≡ x
filled-by (Ok u) s new x e ok err = let f : Ok new ≡ Ok x = sym ok ∙ e in cc
filled-by (Err c) s new x e ok err = absurd cc

pub filled : (r : Result (Unit {0}) Cause) (old new m : List MemoryBlock) (b : ℕ) (what : Access) (align : ℕ) (v p : Value) → p ≡ pointer_to b → old ≡ fresh m (access_bytes what) align Kind.Global → b ≡ length m → 1 ≤ align → OnOk r (store owner_rights old p v what 1 ≡ Ok new) → IfErr r (λ c. store owner_rights old p v what 1 ≡ Err c) → new ≡ m ++ made_block (access_bytes what) align Kind.Global (encode (access_bytes what) v) ∷ []
filled r old new m b what align v p at is e h ok err =
    filled-by r (store owner_rights old p v what 1) new (m ++ made_block (access_bytes what) align Kind.Global (encode (access_bytes what) v) ∷ [])
    (ap (λ o. store owner_rights o p v what 1) is
    ∙ ap (λ q. store owner_rights (fresh m (access_bytes what) align Kind.Global) q v what 1) (at ∙ ap pointer_to e)
    ∙ store-last m what align v h)
    ok err

-- a constant's block
pub seal-last : (m : List MemoryBlock) (size align : ℕ) (bytes : List Byte) → seal (m ++ made_block size align Kind.Global bytes ∷ []) (length m) ≡ m ++ made_block size align Kind.Constant bytes ∷ []
seal-last m size align bytes = change-last m (made_block size align Kind.Global bytes) sealed

pub constant-made : (m filled done : List MemoryBlock) (b size align : ℕ) (bytes : List Byte) → b ≡ length m → filled ≡ m ++ made_block size align Kind.Global bytes ∷ [] → done ≡ seal filled b → done ≡ m ++ made_block size align Kind.Constant bytes ∷ []
constant-made m filled done b size align bytes at is e =
    e ∙ ap (λ k. seal filled k) at ∙ ap (λ l. seal l (length m)) is ∙ seal-last m size align bytes
