-- Twins stand in each other by the rights of frames where their open bytes do.
use Rattle.std.proofs.Common.{◌≡◌, ℕ, ◌+◌, ◌-◌, ◌%◌, ◌^◌, ◌<◌, ◌≤◌, ◌⊎◌, inl, inr, ◌&&◌, ◌||◌, Bool, true, false, List, length, Option, Some, None, refl, sym, ap, ◌∙◌, subst, arith, ◌==◌}
use Rattle.std.specs.Prelude.{slice_get, nat_le}
use Rattle.std.proofs.lemmas.Bool.{and_from, and_parts, eqb-true, eq-eqb, le-leb, leb-true}
use Rattle.std.proofs.lemmas.Option.{slice_get_within}
use Rattle.pass_split_proof.proofs.states.Judged.{judge_is}
use Rattle.pass_split_proof.proofs.states.OwnHomes.{own_home, own_length}
use Rattle.pass_split_proof.proofs.states.Twins.{twin_at, twin_full, twin_lives, unowned}
use Rattle.pass_split_proof.specs.states.Instances.{LiesAligned}
use Rattle.pass_split_proof.specs.states.Memories.{AreTwins, IsTwin, homes_of, plain_kind}
use Rattle.pass_proofs.specs.run_framed.Framed.{FramedGiven, frame_rights, judge_of, layout_of, meets_in}
use Rattle.pass_proofs.proofs.run_laws.memory.Written.{same_some}
use Rattle.pass_proofs.specs.run_laws.embedded.Making.{whole_home}
use Rattle.pass_proofs.specs.run_laws.memory.Pointers.{Home, IsByte}
use Rattle.pass_proofs.specs.run_laws.memory.Standing.{Embeds, HasRights, IsAlignment, IsOpen, Stands, byte_of}
use Rattle.pass_proofs.specs.run_memory.Memory.{is_live, meets, owner_rights, same_kind}
use Rattle.pass_proofs.specs.run_memory.declared.block.Kind.{Kind}
use Rattle.pass_proofs.specs.run_memory.declared.block.MemoryBlock.{MemoryBlock}
use Rattle.pass_proofs.specs.run_source.declared.state.Instance.{Instance}

-- ---- alignments

-- what divides the distance from a frame's start divides the offset
pub divides : (o s a l : ℕ) → IsAlignment a → (l ≡ 8) ⊎ (l ≡ 16) → a ≤ l → s ≤ o → s % l ≡ 0 → (o - s) % a ≡ 0
    → o % a ≡ 0
divides o s a l (inl is) big le from start far = subst (λ (k : ℕ). o % k ≡ 0) (sym is) (omega arith)
divides o s a l (inr (inl is)) (inl big) le from start far
    = two (subst (λ (k : ℕ). s % k ≡ 0) big start) (subst (λ (k : ℕ). (o - s) % k ≡ 0) is far)
  where
    two : s % 8 ≡ 0 → (o - s) % 2 ≡ 0 → o % a ≡ 0
    two p q = subst (λ (k : ℕ). o % k ≡ 0) (sym is) (omega arith)
divides o s a l (inr (inl is)) (inr big) le from start far
    = two (subst (λ (k : ℕ). s % k ≡ 0) big start) (subst (λ (k : ℕ). (o - s) % k ≡ 0) is far)
  where
    two : s % 16 ≡ 0 → (o - s) % 2 ≡ 0 → o % a ≡ 0
    two p q = subst (λ (k : ℕ). o % k ≡ 0) (sym is) (omega arith)
divides o s a l (inr (inr (inl is))) (inl big) le from start far
    = four (subst (λ (k : ℕ). s % k ≡ 0) big start) (subst (λ (k : ℕ). (o - s) % k ≡ 0) is far)
  where
    four : s % 8 ≡ 0 → (o - s) % 4 ≡ 0 → o % a ≡ 0
    four p q = subst (λ (k : ℕ). o % k ≡ 0) (sym is) (omega arith)
divides o s a l (inr (inr (inl is))) (inr big) le from start far
    = four (subst (λ (k : ℕ). s % k ≡ 0) big start) (subst (λ (k : ℕ). (o - s) % k ≡ 0) is far)
  where
    four : s % 16 ≡ 0 → (o - s) % 4 ≡ 0 → o % a ≡ 0
    four p q = subst (λ (k : ℕ). o % k ≡ 0) (sym is) (omega arith)
divides o s a l (inr (inr (inr (inl is)))) (inl big) le from start far
    = eight (subst (λ (k : ℕ). s % k ≡ 0) big start) (subst (λ (k : ℕ). (o - s) % k ≡ 0) is far)
  where
    eight : s % 8 ≡ 0 → (o - s) % 8 ≡ 0 → o % a ≡ 0
    eight p q = subst (λ (k : ℕ). o % k ≡ 0) (sym is) (omega arith)
divides o s a l (inr (inr (inr (inl is)))) (inr big) le from start far
    = eight (subst (λ (k : ℕ). s % k ≡ 0) big start) (subst (λ (k : ℕ). (o - s) % k ≡ 0) is far)
  where
    eight : s % 16 ≡ 0 → (o - s) % 8 ≡ 0 → o % a ≡ 0
    eight p q = subst (λ (k : ℕ). o % k ≡ 0) (sym is) (omega arith)
divides o s a l (inr (inr (inr (inr is)))) (inl big) le from start far = absurd (omega arith)
divides o s a l (inr (inr (inr (inr is)))) (inr big) le from start far
    = sixteen (subst (λ (k : ℕ). s % k ≡ 0) big start) (subst (λ (k : ℕ). (o - s) % k ≡ 0) is far)
  where
    sixteen : s % 16 ≡ 0 → (o - s) % 16 ≡ 0 → o % a ≡ 0
    sixteen p q = subst (λ (k : ℕ). o % k ≡ 0) (sym is) (omega arith)

pub same_writable : (k : Kind) → same_kind k Kind.Constant ≡ false → same_kind (plain_kind k) Kind.Constant ≡ false
same_writable Kind.Allocator e = refl
same_writable Kind.Stack e = refl
same_writable Kind.Slot e = refl
same_writable Kind.Global e = refl
same_writable Kind.Constant e = e

module _ (g : FramedGiven) (xs : List Instance) (m n : List MemoryBlock) (twins : AreTwins m n)
    (lies : (i : ℕ) (x : Instance) (y : MemoryBlock) → slice_get xs i ≡ Some x → slice_get m x.block ≡ Some y
    → LiesAligned g x y) where
  met : (b o a : ℕ) (u v : MemoryBlock) → slice_get m b ≡ Some u → v.align ≡ u.align → IsAlignment a
      → (j : Option (ℕ × Instance)) → judge_of g xs b o ≡ j → meets_in g u o a j ≡ true → meets v o a ≡ true
  met b o a u v there same is None e ok = subst (λ (k : ℕ). ((o % a == 0) && nat_le a k) ≡ true) (sym same) ok
  met b o a u v there same is (Some (i, x)) e ok =
      let judge = judge_is g xs b o i x e in
      let cover = and_parts _ _ judge.covered in
      let front = and_parts _ _ cover.0 in
      let at : x.block ≡ b = eqb-true x.block b front.0 in
      let from : x.start ≤ o = leb-true x.start o front.1 in
      let h = lies i x u judge.there (ap (slice_get m) at ∙ there) in
      let parts = and_parts _ _ ok in
      let small : a ≤ (layout_of g.layouts x.coroutine).align = leb-true _ _ parts.1 in
      let big : (layout_of g.layouts x.coroutine).align ≤ v.align = subst
      (λ (k : ℕ). (layout_of g.layouts x.coroutine).align ≤ k) (sym same) h.block in
      and_from _ _ (eq-eqb (o % a) 0 (divides o x.start a (layout_of g.layouts x.coroutine).align is h.alignment small
      from h.start (eqb-true _ _ parts.0)))
      (le-leb a v.align (chain a (layout_of g.layouts x.coroutine).align v.align small big))
    where
      chain : (a b c : ℕ) → a ≤ b → b ≤ c → a ≤ c
      chain a b c p q = omega arith

  pub frame_allowed : (b : ℕ) (u v : MemoryBlock) → slice_get m b ≡ Some u → slice_get n b ≡ Some v → IsTwin u v
      → HasRights (frame_rights g xs) owner_rights (whole_home b) b u v
  frame_allowed b u v there there' t = record {
    opens = λ o len within e. closes v.owned (unowned m n twins b v there') (0 + o);
    aligned = λ o len align some within opened is ok. subst (λ (k : ℕ). meets v k align ≡ true) (start o)
        (met b o align u v there (ap (λ (z : MemoryBlock). z.align) t.is) is (judge_of g xs b o) refl ok);
    comparable = λ o le e. compares v.owned (unowned m n twins b v there') (0 + o);
  }
    where
      start : (o : ℕ) → o ≡ 0 + o
      start o = omega arith

      closes : (owner : Option ℕ) → owner ≡ None → (o : ℕ)
          → owner_rights.is_closed b (record v { owned = owner }) o 1 ≡ false
      closes owner e o = subst (λ (w : Option ℕ). owner_rights.is_closed b (record v { owned = w }) o 1 ≡ false)
          (sym e) refl

      compares : (owner : Option ℕ) → owner ≡ None → (o : ℕ)
          → owner_rights.is_comparable b (record v { owned = owner }) o ≡ true
      compares owner e o = subst (λ (w : Option ℕ). owner_rights.is_comparable b (record v { owned = w }) o ≡ true)
          (sym e) (or_true (o == 0))
        where
          or_true : (t : Bool) → (t || true) ≡ true
          or_true true = refl
          or_true false = refl

  module _ (bytes : (b i : ℕ) (u v : MemoryBlock) → slice_get m b ≡ Some u → slice_get n b ≡ Some v
      → is_live u.life ≡ true → i < u.size → IsOpen (frame_rights g xs) b u i
      → IsByte (homes_of m) (byte_of u i) (byte_of v i)) where
    stand : (b : ℕ) (u : MemoryBlock) → slice_get m b ≡ Some u → is_live u.life ≡ true
        → Stands (frame_rights g xs) owner_rights (homes_of m) n b u
    stand b u e live =
        let lt = slice_get_within m b u e in
        let h = own_home (length m) b lt in
        let y = twin_at m n twins b u e in
        let v = y.twin in
        let size : v.size ≡ u.size = ap (λ (z : MemoryBlock). z.size) y.is.is in
        let full = twin_full u v y.is live in
        let small = y.is.small in
        record {
          known = subst (λ (k : ℕ). b < k) (sym (own_length (length m))) lt;
          block = v;
          there = ap (λ (q : Home). slice_get n q.block) h ∙ y.there;
          live = twin_lives u v y.is live;
          full = full;
          whole = y.is.long ∙ full ∙ sym size;
          fits = subst (λ (q : Home). q.offset + u.size ≤ v.size) (sym h) (within u.size v.size size);
          small = subst (λ (k : ℕ). k < 2 ^ 64) (sym size) small;
          writable = λ w. ap (λ (z : MemoryBlock). same_kind z.kind Kind.Constant) y.is.is ∙ same_writable u.kind w;
          allowed = subst (λ (q : Home). HasRights (frame_rights g xs) owner_rights q b u v) (sym h)
              (frame_allowed b u v e y.there y.is);
          bytes = λ i lt' opened. subst (λ (q : Home). IsByte (homes_of m) (byte_of u i) (byte_of v (q.offset + i)))
              (sym h) (subst (λ (k : ℕ). IsByte (homes_of m) (byte_of u i) (byte_of v k)) (from_start i)
              (bytes b i u v e y.there live lt' opened));
        }
      where
        from_start : (i : ℕ) → i ≡ 0 + i
        from_start i = omega arith

        within : (k l : ℕ) → l ≡ k → 0 + k ≤ l
        within k l e = omega arith

    -- twins stand where their open bytes do
    pub twins_stand : Embeds (frame_rights g xs) owner_rights (homes_of m) m n
    twins_stand = record {
      each = stand;
      apart = λ b c x y ne e f live live' same. absurd (ne (
          ap (λ (q : Home). q.block) (sym (own_home (length m) b (slice_get_within m b x e))) ∙ same
          ∙ ap (λ (q : Home). q.block) (own_home (length m) c (slice_get_within m c y f))));
    }

-- and they do where they stand
pub open_bytes : (g : FramedGiven) (xs : List Instance) (m n : List MemoryBlock)
    → Embeds (frame_rights g xs) owner_rights (homes_of m) m n → (b i : ℕ) (u v : MemoryBlock) → slice_get m b ≡ Some u
    → slice_get n b ≡ Some v → is_live u.life ≡ true → i < u.size → IsOpen (frame_rights g xs) b u i
    → IsByte (homes_of m) (byte_of u i) (byte_of v i)
open_bytes g xs m n em b i u v e f live lt opened =
    let h = own_home (length m) b (slice_get_within m b u e) in
    let s = em.each b u e live in
    let is : s.block ≡ v = same_some s.block v (sym (ap (λ (q : Home). slice_get n q.block) (sym h) ∙ s.there) ∙ f) in
    subst (λ (k : ℕ). IsByte (homes_of m) (byte_of u i) (byte_of v k)) start
    (subst (λ (p : Home × MemoryBlock). IsByte (homes_of m) (byte_of u i) (byte_of p.1 (p.0.offset + i)))
    (λ j. (h j, is j)) (s.bytes i lt opened))
  where
    start : 0 + i ≡ i
    start = omega arith
