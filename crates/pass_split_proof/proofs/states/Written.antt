-- The part writes where nothing of the framed run stands: twins stay twins, and what stands stays.
use Rattle.std.proofs.Common.{◌≡◌, ℕ, zero, suc, ◌+◌, ◌%◌, ◌≤◌, ⊎_elim, true, false, List, [], ◌∷◌, length, take, drop, Option, Some, None, refl, sym, ap, ◌∙◌, subst, arith, ◌==◌, ◌&&◌, length-drop}
use Rattle.std.specs.Prelude.{slice_get, nat_le}
use Rattle.std.proofs.lemmas.Bool.{and_from, cases_eq, eq-eqb, le-leb}
use Rattle.std.proofs.lemmas.List.{length-take-le}
use Rattle.pass_split_proof.proofs.states.Standing.{same_writable}
use Rattle.pass_split_proof.proofs.states.Twins.{twin_at, twin_full, twin_lives, unowned}
use Rattle.pass_split_proof.specs.states.Memories.{AreTwins, AreTwinsAt, IsTwin}
use Rattle.pass_proofs.proofs.run_laws.memory.Written.{changed_elsewhere, changed_here}
use Rattle.pass_proofs.specs.run_laws.access.Lines.{Holds, refilled_at}
use Rattle.pass_proofs.specs.run_laws.memory.Standing.{IsAlignment}
use Rattle.pass_proofs.proofs.run_memory.Kept.{length-written}
use Rattle.pass_proofs.specs.run_memory.Memory.{is_live, owner_rights, same_kind, with_bytes, with_block, written}
use Rattle.pass_proofs.specs.run_memory.declared.block.Byte.{Byte}
use Rattle.pass_proofs.specs.run_memory.declared.block.Kind.{Kind}
use Rattle.pass_proofs.specs.run_memory.declared.block.MemoryBlock.{MemoryBlock}

-- ---- a range of a live block

module _ (m n : List MemoryBlock) (twins : AreTwins m n) (b : ℕ) (u : MemoryBlock) (there : slice_get m b ≡ Some u)
    (live : is_live u.life ≡ true)
    (changes : same_kind u.kind Kind.Constant ≡ false) where
  -- it may be loaded and stored, at each alignment that it meets
  pub range_holds : (o len most : ℕ) → o + len ≤ u.size → ((a : ℕ) → IsAlignment a → a ≤ most → (o % a ≡ 0)
      × (a ≤ u.align)) → (bytes : List Byte) × (Holds owner_rights n b o most bytes × (length bytes ≡ len))
  range_holds o len most within meets =
      let y = twin_at m n twins b u there in
      let v = y.twin in
      let size : v.size ≡ u.size = ap (λ (z : MemoryBlock). z.size) y.is.is in
      let align : v.align ≡ u.align = ap (λ (z : MemoryBlock). z.align) y.is.is in
      let full : length v.bytes ≡ v.size = y.is.long ∙ twin_full u v y.is live ∙ sym size in
      let long : length (take len (drop o v.bytes)) ≡ len = cut (v.bytes) o len (omega arith) in (
        take len (drop o v.bytes),
        (
          record {
            block = v;
            there = y.there;
            live = twin_lives u v y.is live;
            writable = ap (λ (z : MemoryBlock). same_kind z.kind Kind.Constant) y.is.is ∙ same_writable u.kind changes;
            whole = full;
            within = omega arith;
            holds = ap (λ (k : ℕ). take k (drop o v.bytes)) long;
            unclosed = closes v.owned (unowned m n twins b v y.there);
            aligned = λ a is le. let h = meets a is le
                in met a v.align (h.0) (subst (λ (k : ℕ). a ≤ k) (sym align) h.1);
          },
          long,
        ),
      )
    where
      cut : (bytes : List Byte) (o len : ℕ) → o + len ≤ length bytes → length (take len (drop o bytes)) ≡ len
      cut bytes o len le = length-take-le len (drop o bytes) (let h = length-drop o bytes in omega arith)

      closes : (owner : Option ℕ) → owner ≡ None
          → owner_rights.is_closed b (record (twin_at m n twins b u there).twin { owned = owner }) o
          (length (take len (drop o (twin_at m n twins b u there).twin.bytes))) ≡ false
      closes owner e
          = subst (λ (w : Option ℕ). owner_rights.is_closed b (record (twin_at m n twins b u there).twin { owned = w })
          o (length (take len (drop o (twin_at m n twins b u there).twin.bytes))) ≡ false) (sym e) refl

      met : (a k : ℕ) → o % a ≡ 0 → a ≤ k → ((o % a == 0) && nat_le a k) ≡ true
      met a k e le = and_from _ _ (eq-eqb (o % a) 0 e) (le-leb a k le)

-- ---- one block of the parts' run gets other bytes

written_twin : (x y : MemoryBlock) (o : ℕ) (new : List Byte) → o + length new ≤ length y.bytes → IsTwin x y
    → IsTwin x (with_bytes o new y)
written_twin x y o new within t = record {
  is = ap (λ (z : MemoryBlock). record z { bytes = written y.bytes o new }) t.is;
  life = t.life;
  long = length-written y.bytes o new within ∙ t.long;
  full = t.full;
  small = t.small;
  sixteen = t.sixteen;
}

at_twin : (a : Option MemoryBlock) (y : MemoryBlock) (o : ℕ) (new : List Byte) → o + length new ≤ length y.bytes
    → AreTwinsAt a (Some y) → AreTwinsAt a (Some (with_bytes o new y))
at_twin None y o new within t = absurd t
at_twin (Some x) y o new within t = written_twin x y o new within t

pub length-changed : (n : List MemoryBlock) (b : ℕ) (f : MemoryBlock → MemoryBlock)
    → length (with_block n b f) ≡ length n
length-changed [] b f = refl
length-changed (y ∷ n) zero f = refl
length-changed (y ∷ n) (suc b) f = ap suc (length-changed n b f)

pub written_apart : (m n : List MemoryBlock) (b o most : ℕ) (old new : List Byte) → AreTwins m n
    → Holds owner_rights n b o most old → length new ≡ length old → AreTwins m (refilled_at n b o new)
written_apart m n b o most old new twins h long = record {
  each = λ c. ⊎_elim
      (λ e. subst (λ (k : ℕ). AreTwinsAt (slice_get m k) (slice_get (refilled_at n b o new) k)) (sym e)
      (subst (AreTwinsAt (slice_get m b)) (sym (changed_here n b (with_bytes o new) h.block h.there))
      (at_twin (slice_get m b) h.block o new fits (subst (AreTwinsAt (slice_get m b)) h.there (twins.each b)))))
      (λ ne. subst (AreTwinsAt (slice_get m c)) (sym (changed_elsewhere n b c (with_bytes o new) ne)) (twins.each c))
      (cases_eq c b);
  long = length-changed n b (with_bytes o new) ∙ twins.long;
}
  where
    fits : o + length new ≤ length h.block.bytes
    fits = let a = h.within in let b = h.whole in omega arith
