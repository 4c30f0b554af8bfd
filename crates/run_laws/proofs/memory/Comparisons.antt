-- Comparisons of pointers.
use Rattle.std.proofs.Common.{◌≡◌, ◌≢◌, ℕ, ◌+◌, ◌<◌, ◌≤◌, Bool, true, false, not, List, Option, Some, None, Result, Ok, refl, sym, ap, ◌∙◌, subst, ⊎_elim, arith, if◌then◌else◌}
use Rattle.std.specs.Prelude.{slice_get, ◌==◌, ◌&&◌, ◌||◌}
use Rattle.std.proofs.lemmas.Bool.{and_from, and_left, and_parts, and_right, cases_eq, eq-eqb, le-leb, leb-true, lt-ltb, ltb-true, ne_eqb}
use Rattle.run_memory.specs.Memory.{Rights, check, compare, is_compared, is_inside, is_live, is_within, may_compare, may_compare_at}
use Rattle.run_memory.specs.Pointers.{moved, same_pointer}
use Rattle.run_memory.specs.declared.block.MemoryBlock.{MemoryBlock}
use Rattle.run_memory.specs.declared.pointer.Offset.{Offset}
use Rattle.run_memory.specs.declared.pointer.Pointer.{Pointer}
use Rattle.run_memory.specs.declared.pointer.Value.{Value}
use Rattle.ir_base.specs.declared.cause.Cause.{Cause}
use Rattle.run_laws.proofs.memory.Copies.{eq_moved}
use Rattle.run_laws.proofs.memory.Loads.{moved_bits}
use Rattle.run_laws.specs.memory.Pointers.{Home, IsSeen, IsValue, home_of, moved_pointer}
use Rattle.run_laws.specs.memory.Standing.{AreNullsKept, Embeds, Stands}

checked : {A : Type 0} (t : Bool) (c : Cause) (r : Result A Cause) (a : A) → check t c r ≡ Ok a → (t ≡ true) × (r ≡ Ok a)
checked true c r a e = (refl, e)
checked false c r a e = absurd (cc)

-- a live block's pointers are compared where its rights allow it
live_compared : (rights : Rights) (b : ℕ) (x : MemoryBlock) (o : Offset) → is_live x.life ≡ true → may_compare rights b x o ≡ true → rights.is_comparable b x o.bits ≡ true
live_compared rights b x o live e = ap (λ t. not t || rights.is_comparable b x o.bits) (sym live) ∙ e

may_be_compared : (rights : Rights) (b : ℕ) (x : MemoryBlock) (o : Offset) → rights.is_comparable b x o.bits ≡ true → may_compare rights b x o ≡ true
may_be_compared rights b x o e = on (not (is_live x.life))
  where
    on : (t : Bool) → (t || rights.is_comparable b x o.bits) ≡ true
    on true = refl
    on false = e

record Compared (rights : Rights) (m : List MemoryBlock) (b : ℕ) (o : Offset) (c : ℕ) (p : Offset) : Type 0 where
  x : MemoryBlock
  y : MemoryBlock
  at_x : slice_get m b ≡ Some x
  at_y : slice_get m c ≡ Some y
  live_x : is_live x.life ≡ true
  live_y : is_live y.life ≡ true
  may_x : rights.is_comparable b x o.bits ≡ true
  may_y : rights.is_comparable c y p.bits ≡ true
  same_block : b ≡ c → (o.bits ≤ x.size) × (p.bits ≤ y.size)
  other_block : b ≢ c → (o.bits < x.size) × (p.bits < y.size)

compared_in : (rights : Rights) (m : List MemoryBlock) (b : ℕ) (o : Offset) (c : ℕ) (p : Offset) (x y : Option MemoryBlock) → slice_get m b ≡ x → slice_get m c ≡ y → is_compared rights b o c p x y ≡ true → Compared rights m b o c p
compared_in rights m b o c p None y is_x is_y e = absurd (cc)
compared_in rights m b o c p (Some x) None is_x is_y e = absurd (cc)
compared_in rights m b o c p (Some x) (Some y) is_x is_y e =
    let h4 = and_parts _ _ e in
    let h3 = and_parts _ _ h4.0 in
    let h2 = and_parts _ _ h3.0 in
    let h1 = and_parts _ _ h2.0 in
    record {
      x = x;
      y = y;
      at_x = is_x;
      at_y = is_y;
      live_x = h1.0;
      live_y = h1.1;
      may_x = live_compared rights b x o h1.0 h2.1;
      may_y = live_compared rights c y p h1.1 h3.1;
      same_block = λ s.
          let k = and_parts _ _ (sym (ap (λ (t : Bool). if t then is_within x o && is_within y p else is_inside x o && is_inside y p) (eq-eqb b c s)) ∙ h4.1) in
          (leb-true _ _ k.0, leb-true _ _ k.1);
      other_block = λ s.
          let k = and_parts _ _ (sym (ap (λ (t : Bool). if t then is_within x o && is_within y p else is_inside x o && is_inside y p) (ne_eqb b c s)) ∙ h4.1) in
          (ltb-true _ _ k.0, ltb-true _ _ k.1);
    }

compared_ok : (rights : Rights) (n : List MemoryBlock) (x y : MemoryBlock) (b : ℕ) (o : Offset) (c : ℕ) (p : Offset) → slice_get n b ≡ Some x → slice_get n c ≡ Some y → is_live x.life ≡ true → is_live y.life ≡ true → rights.is_comparable b x o.bits ≡ true → rights.is_comparable c y p.bits ≡ true → (b ≡ c → (o.bits ≤ x.size) × (p.bits ≤ y.size)) → (b ≢ c → (o.bits < x.size) × (p.bits < y.size)) → is_compared rights b o c p (slice_get n b) (slice_get n c) ≡ true
compared_ok rights n x y b o c p at_x at_y live_x live_y may_x may_y same other =
    let test : (if b == c then is_within x o && is_within y p else is_inside x o && is_inside y p) ≡ true = ⊎_elim
    (λ e. let k = same e in ap (λ (t : Bool). if t then is_within x o && is_within y p else is_inside x o && is_inside y p) (eq-eqb b c e) ∙ and_from _ _ (le-leb _ _ k.0) (le-leb _ _ k.1))
    (λ e. let k = other e in ap (λ (t : Bool). if t then is_within x o && is_within y p else is_inside x o && is_inside y p) (ne_eqb b c e) ∙ and_from _ _ (lt-ltb _ _ k.0) (lt-ltb _ _ k.1))
    (cases_eq b c) in
    ap (λ u. is_compared rights b o c p u (slice_get n c)) at_x
    ∙ ap (λ u. is_compared rights b o c p (Some x) u) at_y
    ∙ and_from _ _ (and_from _ _ (and_from _ _ (and_from _ _ live_x live_y) (may_be_compared rights b x o may_x)) (may_be_compared rights c y p may_y)) test

module _ (rights target : Rights) (homes : List Home) (m n : List MemoryBlock) (em : Embeds rights target homes m n) (nulls : AreNullsKept rights target homes m n) where
  abbrev H : ℕ → Home
  H b = home_of homes b

  -- an offset within its block doesn't wrap where it is moved
  moved_is : (b : ℕ) (o : Offset) (x : MemoryBlock) (s : Stands rights target homes n b x) → o.bits ≤ x.size → moved o (H b).offset ≡ record { bits = (H b).offset + o.bits }
  moved_is b o x s le =
      let fits = s.fits in let small = s.small in
      ap (λ (k : ℕ). record { bits = k }) (moved_bits o.bits (H b).offset (omega arith))

  module _ (b : ℕ) (o : Offset) (c : ℕ) (p : Offset) (h : Compared rights m b o c p) where
    sx : Stands rights target homes n b h.x
    sx = em.each b h.x h.at_x h.live_x

    sy : Stands rights target homes n c h.y
    sy = em.each c h.y h.at_y h.live_y

    within : (o.bits ≤ h.x.size) × (p.bits ≤ h.y.size)
    within = ⊎_elim (λ e. h.same_block e) (λ ne. let k = h.other_block ne in (omega arith, omega arith)) (cases_eq b c)

    abbrev o' : Offset
    o' = record { bits = (H b).offset + o.bits }

    abbrev p' : Offset
    p' = record { bits = (H c).offset + p.bits }

    compared_there : is_compared target (H b).block o' (H c).block p' (slice_get n (H b).block) (slice_get n (H c).block) ≡ true
    compared_there =
        let fx = sx.fits in let fy = sy.fits in let le = within in
        compared_ok target n sx.block sy.block (H b).block o' (H c).block p' sx.there sy.there sx.live sy.live (sx.allowed.comparable o.bits within.0 h.may_x) (sy.allowed.comparable p.bits within.1 h.may_y)
        (λ e. (omega (arith, within.0), omega (arith, within.1)))
        (λ d. let k = h.other_block (λ e. d (ap (λ i. (H i).block) e)) in (omega arith, omega arith))

    same_there : same_pointer (Pointer.At (H b).block o') (Pointer.At (H c).block p') ≡ same_pointer (Pointer.At b o) (Pointer.At c p)
    same_there = ⊎_elim
        (λ e.
        subst (λ (i : ℕ). ((H b).block == (H i).block && ((H b).offset + o.bits == (H i).offset + p.bits)) ≡ (b == i && (o.bits == p.bits))) e
        (ap (λ t. t && ((H b).offset + o.bits == (H b).offset + p.bits)) (eq-eqb (H b).block (H b).block refl ∙ sym (eq-eqb b b refl)) ∙ ap (λ t. b == b && t) (eq_moved (H b).offset o.bits p.bits)))
        (λ ne.
        let k = h.other_block ne in
        ⊎_elim
        (λ shared. and_right _ _ (ne_eqb _ _ ((em.apart b c h.x h.y ne h.at_x h.at_y h.live_x h.live_y shared).places o.bits p.bits k.0 k.1 h.may_x h.may_y)))
        (λ other. and_left _ _ (ne_eqb _ _ other))
        (cases_eq (H b).block (H c).block)
        ∙ sym (and_left _ _ (ne_eqb b c ne)))
        (cases_eq b c)

    both_compared : (t : Bool) → same_pointer (Pointer.At b o) (Pointer.At c p) ≡ t → compare target n (Value.Ptr (moved_pointer homes (Pointer.At b o))) (Value.Ptr (moved_pointer homes (Pointer.At c p))) ≡ Ok t
    both_compared t e =
        ap (λ (u : Offset × Offset). compare target n (Value.Ptr (Pointer.At (H b).block u.0)) (Value.Ptr (Pointer.At (H c).block u.1))) (λ i. (moved_is b o h.x sx within.0 i, moved_is c p h.y sy within.1 i))
        ∙ ap (λ (t : Bool). check t Cause.Compare (Ok (same_pointer (Pointer.At (H b).block o') (Pointer.At (H c).block p')))) compared_there
        ∙ ap Ok (same_there ∙ e)

  null_left : (c : ℕ) (p : Offset) (t : Bool) → IsSeen homes (Pointer.At c p) → check (may_compare_at rights c (slice_get m c) p) Cause.Compare (Ok false) ≡ Ok t → check (may_compare_at target (H c).block (slice_get n (H c).block) (moved p (H c).offset)) Cause.Compare (Ok false) ≡ Ok t
  null_left c p t seen e =
      let k = checked _ _ (Ok false) t e in
      ap (λ (u : Bool). check u Cause.Compare (Ok false)) (nulls.each c p seen k.0) ∙ k.1

  pub compare_kept : (v v' w w' : Value) (t : Bool) → IsValue homes v v' → IsValue homes w w' → compare rights m v w ≡ Ok t → compare target n v' w' ≡ Ok t
  compare_kept (Value.Ptr Pointer.Null) v' (Value.Ptr Pointer.Null) w' t hv hw e = rw (hv.1, hw.1) e
  compare_kept (Value.Ptr Pointer.Null) v' (Value.Ptr (Pointer.Func g)) w' t hv hw e = rw (hv.1, hw.1) e
  compare_kept (Value.Ptr (Pointer.Func f)) v' (Value.Ptr Pointer.Null) w' t hv hw e = rw (hv.1, hw.1) e
  compare_kept (Value.Ptr Pointer.Null) v' (Value.Ptr (Pointer.At c p)) w' t hv hw e = rw (hv.1, hw.1) (null_left c p t hw.0 e)
  compare_kept (Value.Ptr (Pointer.At b o)) v' (Value.Ptr Pointer.Null) w' t hv hw e = rw (hv.1, hw.1) (null_left b o t hv.0 e)
  compare_kept (Value.Ptr (Pointer.At b o)) v' (Value.Ptr (Pointer.At c p)) w' t hv hw e =
      let k = checked _ _ (Ok (same_pointer (Pointer.At b o) (Pointer.At c p))) t e in
      let same : same_pointer (Pointer.At b o) (Pointer.At c p) ≡ t = cc in
      ap (λ (u : Value × Value). compare target n u.0 u.1) (λ i. (hv.1 i, hw.1 i))
      ∙ both_compared b o c p (compared_in rights m b o c p (slice_get m b) (slice_get m c) refl refl k.0) t same
  compare_kept _ v' _ w' t hv hw e = absurd (cc)

pub comparisons_kept : (rights target : Rights) (homes : List Home) (m n : List MemoryBlock) (v v' w w' : Value) (t : Bool) → Embeds rights target homes m n → AreNullsKept rights target homes m n → IsValue homes v v' → IsValue homes w w' → compare rights m v w ≡ Ok t → compare target n v' w' ≡ Ok t
comparisons_kept rights target homes m n v v' w w' t em nulls hv hw e = compare_kept rights target homes m n em nulls v v' w w' t hv hw e
