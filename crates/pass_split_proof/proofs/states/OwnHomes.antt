-- Homes that are each block's own.
use Rattle.std.proofs.Common.{◌≡◌, ℕ, zero, suc, ◌+◌, ◌%◌, ◌^◌, ◌<◌, true, [], ◌∷◌, ◌++◌, length, refl, sym, ap, ◌∙◌, subst, arith}
use Rattle.pass_proofs.proofs.run_laws.memory.Homes.{append_extends, seen_within}
use Rattle.pass_proofs.specs.run_laws.embedded.Making.{whole_home}
use Rattle.pass_proofs.specs.run_laws.memory.Pointers.{Extends, Home, home_of, moved_pointer}
use Rattle.pass_proofs.specs.run_laws.memory.Standing.{own_homes}
use Rattle.pass_proofs.specs.run_memory.declared.pointer.Offset.{Offset}
use Rattle.pass_proofs.specs.run_memory.declared.pointer.Pointer.{Pointer}

-- the home of a block of so many, of which the first has the number k
home_from : (k n b : ℕ) → b < n → home_of (own_homes k n) b ≡ whole_home (k + b)
home_from k zero b lt = absurd (omega arith)
home_from k (suc n) zero lt = let e : k ≡ k + 0 = omega arith in ap whole_home e
home_from k (suc n) (suc b) lt =
    let e : suc k + b ≡ k + suc b = omega arith in
    home_from (suc k) n b (omega arith) ∙ ap whole_home e

pub own_home : (n b : ℕ) → b < n → home_of (own_homes 0 n) b ≡ whole_home b
own_home n b lt = let e : 0 + b ≡ b = omega arith in home_from 0 n b lt ∙ ap whole_home e

length_from : (k n : ℕ) → length (own_homes k n) ≡ n
length_from k zero = refl
length_from k (suc n) = ap suc (length_from (suc k) n)

pub own_length : (n : ℕ) → length (own_homes 0 n) ≡ n
own_length n = length_from 0 n

-- one more
more_from : (k n : ℕ) → own_homes k (suc n) ≡ own_homes k n ++ whole_home (k + n) ∷ []
more_from k zero = let e : k ≡ k + 0 = omega arith in ap (λ b. whole_home b ∷ []) e
more_from k (suc n) =
    let e : suc k + n ≡ k + suc n = omega arith in
    ap (λ hs. whole_home k ∷ hs) (more_from (suc k) n ∙ ap (λ b. own_homes (suc k) n ++ whole_home b ∷ []) e)

pub own_more : (n : ℕ) → own_homes 0 (suc n) ≡ own_homes 0 n ++ whole_home n ∷ []
own_more n = let e : 0 + n ≡ n = omega arith in more_from 0 n ∙ ap (λ b. own_homes 0 n ++ whole_home b ∷ []) e

pub own_extends : (n : ℕ) → Extends (own_homes 0 n) (own_homes 0 (suc n))
own_extends n = subst (Extends (own_homes 0 n)) (sym (own_more n)) (append_extends (own_homes 0 n) (whole_home n ∷ []))

-- a block to which pointers may be about is one of them
pub own_seen : (n b : ℕ) → (home_of (own_homes 0 n) b).is_seen ≡ true → b < n
own_seen n b e = let lt = seen_within (own_homes 0 n) b e in let l = own_length n in omega arith

-- a pointer into a block leads to the same place of the same block
pub own_pointer : (n b : ℕ) (o : Offset) → b < n → o.bits < 2 ^ 64
    → moved_pointer (own_homes 0 n) (Pointer.At b o) ≡ Pointer.At b o
own_pointer n b o lt le =
    let e : (o.bits + 0) % 2 ^ 64 ≡ o.bits = omega arith in
    ap (λ (q : Home). Pointer.At q.block (record { bits = (o.bits + q.offset) % 2 ^ 64 })) (own_home n b lt)
    ∙ ap (λ (k : ℕ). Pointer.At b (record { bits = k })) e
