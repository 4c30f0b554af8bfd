-- Blocks of the source that come to stand in blocks of the target that are ready for them, that are hidden, and to which pointers are no longer about.
use Rattle.std.proofs.Common.{◌≡◌, ◌≢◌, ℕ, zero, suc, ◌+◌, ◌%◌, ◌^◌, ◌<◌, ◌≤◌, inl, Bool, true, false, not, List, [], ◌∷◌, ◌++◌, length, get_or, Option, Some, None, refl, sym, ap, ◌∙◌, subst, ⊎_elim, arith, if◌then◌else◌, ◌&&◌, ◌||◌, ◌==◌, nat_le}
use Rattle.std.proofs.lemmas.Bool.{cases_eq, false≢true}
use Rattle.std.specs.Prelude.{slice_get, option_map}
use Rattle.pass_kept_proof.specs.run_memory.Memory.{end, ended, fresh, is_below, is_live, killed_block, may_compare, may_compare_at, owner_rights, start, started, with_block}
use Rattle.pass_kept_proof.specs.run_memory.Pointers.{moved}
use Rattle.pass_kept_proof.specs.run_memory.declared.block.Byte.{Byte}
use Rattle.pass_kept_proof.specs.run_memory.declared.block.Kind.{Kind}
use Rattle.pass_kept_proof.specs.run_memory.declared.block.MemoryBlock.{MemoryBlock}
use Rattle.pass_kept_proof.specs.run_memory.declared.pointer.Offset.{Offset}
use Rattle.pass_kept_proof.specs.run_memory.declared.pointer.Pointer.{Pointer}
use Rattle.pass_kept_proof.specs.run_memory.declared.pointer.Value.{Value}
use Rattle.run_laws.proofs.memory.Changes.{blank_stands, reseated, target_changes, target_grows}
use Rattle.run_laws.proofs.memory.Itself.{owner_rights_fit}
use Rattle.run_laws.proofs.memory.Written.{changed_elsewhere, changed_here, same_some}
use Rattle.run_laws.specs.memory.Pointers.{Extends, Home, IsByte, IsSeen, home_of, moved_pointer}
use Rattle.run_laws.specs.memory.Standing.{HasBounds, HasRights, IsAlignment, IsOpen, Stands, byte_of}
use Rattle.pass_renewed_proof.specs.Muted.{IsShown, ended_if, muted}
use Rattle.pass_renewed_proof.specs.Places.{AreStanding, HasFewer, IsBlank, IsFree, IsReady, hiding, showing, unseen}
use Rattle.pass_renewed_proof.specs.Small.{small_rights}
use Rattle.pass_renewed_proof.specs.Shown.{AreShownBlocks, AreShownBytes, IsShownByte}
use Rattle.run_laws.specs.embedded.Making.{whole_home}

-- ---- blocks that nobody owns

or_true : (a : Bool) → (a || true) ≡ true
or_true true = refl
or_true false = refl

from_start : (o : ℕ) → 0 + o ≡ o
from_start o = omega arith

any_or_true : (a b : Bool) → (a || (b || true)) ≡ true
any_or_true a b = ap (λ (t : Bool). a || t) (or_true b) ∙ or_true a

pub unowned_compares : (k : ℕ) (y : MemoryBlock) (o : Offset) → y.owned ≡ None → may_compare owner_rights k y o ≡ true
unowned_compares k y o e = ap (λ (w : Option ℕ). not (is_live y.life) || ((o.bits == 0) || not (is_below o.bits w))) e ∙ any_or_true (not (is_live y.life)) (o.bits == 0)

pub dead_compares : (k : ℕ) (y : MemoryBlock) (o : Offset) → is_live y.life ≡ false → may_compare owner_rights k y o ≡ true
dead_compares k y o e = ap (λ (t : Bool). not t || owner_rights.is_comparable k y o.bits) e

-- what may be done with a block may be done with one that nobody owns and that is aligned as it is
pub unowned_allows : (k b : ℕ) (x y : MemoryBlock) → y.owned ≡ None → y.align ≡ x.align → HasRights owner_rights owner_rights (whole_home k) b x y
unowned_allows k b x y owner align = record {
  opens = λ o len le e. ap (is_below (0 + o)) owner;
  aligned = λ o len d pos within free is e. (λ i. ((from_start o i) % d == 0) && nat_le d (align i)) ∙ e;
  comparable = λ o le e. ap (λ (w : Option ℕ). (0 + o == 0) || not (is_below (0 + o) w)) owner ∙ or_true (0 + o == 0);
}

-- ---- fewer blocks stand where they stood

pub fewer_stand : (homes : List Home) (m k n : List MemoryBlock) → HasFewer homes m k n → AreStanding homes m n → AreStanding homes k n
fewer_stand homes m k n fewer st = record {
  memory = record {
    each = λ b x is live. st.memory.each b x (fewer.live b x is live) live;
    apart = λ b c x y ne at_b at_c live_x live_y. st.memory.apart b c x y ne (fewer.live b x at_b live_x) (fewer.live c y at_c live_y) live_x live_y;
  };
  nulls = record {
    each = λ b o seen e. ⊎_elim
        (λ same. st.nulls.each b o seen (ap (λ z. may_compare_at small_rights b z o) (sym same) ∙ e))
        (λ h. h.each o)
        (fewer.nulls b seen);
  };
  bounds = record {
    each = λ b x seen is.
        let y = fewer.sizes b x is in
        let h = st.bounds.each b y.0 seen y.1 in
        record { block = h.block; there = h.there; fits = subst (λ s. (home_of homes b).offset + s ≤ h.block.size) y.2 h.fits; small = h.small };
  };
}

-- ---- a blank block comes to stand in a block of the target

pub seated : (homes more : List Home) (m k n : List MemoryBlock) (b c : ℕ) (y : MemoryBlock) → Extends homes more → length homes ≤ length more → b < length more → ((d : ℕ) → d ≢ b → home_of more d ≡ home_of homes d) → home_of more b ≡ whole_home c → slice_get n c ≡ Some y → y.owned ≡ None → y.size < 2 ^ 64 → ((d : ℕ) → d ≢ b → slice_get k d ≡ slice_get m d) → ((x : MemoryBlock) → slice_get k b ≡ Some x → x.size ≤ y.size) → ((x : MemoryBlock) → slice_get k b ≡ Some x → is_live x.life ≡ true → IsBlank x × IsReady n c x) → IsFree homes m b c → AreStanding homes m n → AreStanding more k n
seated homes more m k n b c y ext long within others here there owner small same room blank free st = record {
  memory = reseated owner_rights owner_rights homes more m k n b ext long others st.memory same stands
      (λ d x z ne at live at' live' shared. absurd (free.others d x ne at live (shared ∙ ap (λ (q : Home). q.block) here)));
  nulls = record { each = nulls };
  bounds = record { each = bounds };
}
  where
    stands : (x : MemoryBlock) → slice_get k b ≡ Some x → is_live x.life ≡ true → Stands owner_rights owner_rights more n b x
    stands x is live =
        let h = blank x is live in
        let r = h.1 in
        blank_stands owner_rights owner_rights more n b x within h.0 (record {
          block = r.block;
          there = ap (λ (q : Home). slice_get n q.block) here ∙ r.there;
          live = r.live;
          whole = r.whole;
          fits = subst (λ (q : Home). q.offset + x.size ≤ r.block.size) (sym here) (subst (λ l. l ≤ r.block.size) (sym (from_start x.size)) r.room);
          small = r.small;
          writable = λ e. r.writable;
          allowed = subst (λ (q : Home). HasRights owner_rights owner_rights q b x r.block) (sym here) (unowned_allows c b x r.block r.owner r.align);
        })

    nulls : (d : ℕ) (o : Offset) → (home_of more d).is_seen ≡ true → may_compare_at small_rights d (slice_get k d) o ≡ true → may_compare_at owner_rights (home_of more d).block (slice_get n (home_of more d).block) (moved o (home_of more d).offset) ≡ true
    nulls d o seen e = ⊎_elim
        (λ is. subst (λ i. may_compare_at owner_rights (home_of more i).block (slice_get n (home_of more i).block) (moved o (home_of more i).offset) ≡ true) (sym is)
        (subst (λ (q : Home). may_compare_at owner_rights q.block (slice_get n q.block) (moved o q.offset) ≡ true) (sym here)
        (ap (λ z. may_compare_at owner_rights c z (moved o 0)) there ∙ unowned_compares c y (moved o 0) owner)))
        (λ ne.
        subst (λ (q : Home). may_compare_at owner_rights q.block (slice_get n q.block) (moved o q.offset) ≡ true) (sym (others d ne))
        (st.nulls.each d o (ap (λ (q : Home). q.is_seen) (sym (others d ne)) ∙ seen) (ap (λ z. may_compare_at small_rights d z o) (sym (same d ne)) ∙ e)))
        (cases_eq d b)

    bounds : (d : ℕ) (x : MemoryBlock) → (home_of more d).is_seen ≡ true → slice_get k d ≡ Some x → HasBounds n (home_of more d) x.size
    bounds d x seen is = ⊎_elim
        (λ e. subst (λ i. HasBounds n (home_of more i) x.size) (sym e)
        (subst (λ (q : Home). HasBounds n q x.size) (sym here)
        (record { block = y; there = there; fits = subst (λ l. l ≤ y.size) (sym (from_start x.size)) (room x (ap (slice_get k) (sym e) ∙ is)); small = small })))
        (λ ne.
        subst (λ (q : Home). HasBounds n q x.size) (sym (others d ne))
        (st.bounds.each d x (ap (λ (q : Home). q.is_seen) (sym (others d ne)) ∙ seen) (sym (same d ne) ∙ is)))
        (cases_eq d b)

-- ---- blocks of the target that come, and that change where nothing stands

get_grown : (n k : List MemoryBlock) (b : ℕ) (y : MemoryBlock) → slice_get n b ≡ Some y → slice_get (n ++ k) b ≡ Some y
get_grown [] k b y e = absurd (cc)
get_grown (z ∷ n) k zero y e = e
get_grown (z ∷ n) k (suc b) y e = get_grown n k b y e

pub grown : (homes : List Home) (m n k : List MemoryBlock) → ((b : ℕ) → (home_of homes b).is_seen ≡ true → (y : MemoryBlock) × (slice_get n (home_of homes b).block ≡ Some y)) → AreStanding homes m n → AreStanding homes m (n ++ k)
grown homes m n k there st = record {
  memory = target_grows owner_rights owner_rights homes m n k st.memory;
  nulls = record {
    each = λ b o seen e.
        let y = there b seen in
        ap (λ z. may_compare_at owner_rights (home_of homes b).block z (moved o (home_of homes b).offset)) (get_grown n k (home_of homes b).block y.0 y.1 ∙ sym y.1) ∙ st.nulls.each b o seen e;
  };
  bounds = record {
    each = λ b x seen is.
        let h = st.bounds.each b x seen is in
        record { block = h.block; there = get_grown n k (home_of homes b).block h.block h.there; fits = h.fits; small = h.small };
  };
}

pub killed_away : (homes : List Home) (m n : List MemoryBlock) (c : ℕ) → ((b : ℕ) (x : MemoryBlock) → slice_get m b ≡ Some x → is_live x.life ≡ true → (home_of homes b).block ≢ c) → AreStanding homes m n → AreStanding homes m (with_block n c killed_block)
killed_away homes m n c away st = record {
  memory = target_changes owner_rights owner_rights owner_rights_fit owner_rights_fit homes m n c killed_block st.memory away;
  nulls = record { each = λ b o seen e. ⊎_elim (λ is. at_killed b o is (slice_get n c) refl) (λ ne. ap (λ z. may_compare_at owner_rights (home_of homes b).block z (moved o (home_of homes b).offset)) (changed_elsewhere n c (home_of homes b).block killed_block ne) ∙ st.nulls.each b o seen e) (cases_eq (home_of homes b).block c) };
  bounds = record {
    each = λ b x seen is.
        let h = st.bounds.each b x seen is in
        ⊎_elim
        (λ e. record { block = killed_block h.block; there = ap (slice_get (with_block n c killed_block)) e ∙ changed_here n c killed_block h.block (ap (slice_get n) (sym e) ∙ h.there); fits = h.fits; small = h.small })
        (λ ne. record { block = h.block; there = changed_elsewhere n c (home_of homes b).block killed_block ne ∙ h.there; fits = h.fits; small = h.small })
        (cases_eq (home_of homes b).block c);
  };
}
  where
    none_there : (n : List MemoryBlock) (c : ℕ) → slice_get n c ≡ None → slice_get (with_block n c killed_block) c ≡ None
    none_there [] c e = refl
    none_there (y ∷ n) zero e = absurd (cc)
    none_there (y ∷ n) (suc c) e = none_there n c e

    at_killed : (b : ℕ) (o : Offset) → (home_of homes b).block ≡ c → (z : Option MemoryBlock) → slice_get n c ≡ z → may_compare_at owner_rights (home_of homes b).block (slice_get (with_block n c killed_block) (home_of homes b).block) (moved o (home_of homes b).offset) ≡ true
    at_killed b o is None e = ap (λ z. may_compare_at owner_rights (home_of homes b).block z (moved o (home_of homes b).offset)) (ap (slice_get (with_block n c killed_block)) is ∙ none_there n c e)
    at_killed b o is (Some y) e = ap (λ z. may_compare_at owner_rights (home_of homes b).block z (moved o (home_of homes b).offset)) (ap (slice_get (with_block n c killed_block)) is ∙ changed_here n c killed_block y e)

-- ---- hidden blocks

pub muted_at : (hides : ℕ → Bool) (m : List MemoryBlock) (b : ℕ) → slice_get (muted hides m) b ≡ option_map (ended_if (hides b)) (slice_get m b)
muted_at hides [] b = refl
muted_at hides (x ∷ m) zero = refl
muted_at hides (x ∷ m) (suc b) = muted_at (λ i. hides (suc i)) m b

is_itself : (a : ℕ) → (a == a) ≡ true
is_itself a = grind arith

differs : (a b : ℕ) → a ≢ b → (a == b) ≡ false
differs a b ne = on (a == b) refl
  where
    on : (t : Bool) → (a == b) ≡ t → (a == b) ≡ false
    on true e = absurd (ne (grind arith))
    on false e = e

or_false : (a : Bool) → (a || false) ≡ a
or_false true = refl
or_false false = refl

and_true : (a : Bool) → (a && true) ≡ a
and_true true = refl
and_true false = refl

and_false : (a : Bool) → (a && false) ≡ false
and_false true = refl
and_false false = refl

pub hiding_others : (hides : ℕ → Bool) (b c : ℕ) → c ≢ b → hiding hides b c ≡ hides c
hiding_others hides b c ne = ap (λ t. hides c || t) (differs c b ne) ∙ or_false (hides c)

pub showing_others : (hides : ℕ → Bool) (b c : ℕ) → c ≢ b → showing hides b c ≡ hides c
showing_others hides b c ne = ap (λ t. hides c && not t) (differs c b ne) ∙ and_true (hides c)

pub showing_it : (hides : ℕ → Bool) (b : ℕ) → showing hides b b ≡ false
showing_it hides b = ap (λ t. hides b && not t) (is_itself b) ∙ and_false (hides b)

pub hiding_it : (hides : ℕ → Bool) (b : ℕ) → hiding hides b b ≡ true
hiding_it hides b = ap (λ t. hides b || t) (is_itself b) ∙ or_true (hides b)

ended_size : (t : Bool) (x : MemoryBlock) → (ended_if t x).size ≡ x.size
ended_size true x = refl
ended_size false x = refl

-- another memory whose blocks are the same, but for one that is hidden from now on, of which pointers aren't about
module _ (homes : List Home) (hides : ℕ → Bool) (m k n : List MemoryBlock) (b : ℕ) (hidden : (home_of homes b).is_seen ≡ false) (same : (d : ℕ) → d ≢ b → slice_get k d ≡ slice_get m d) (size : (x : MemoryBlock) → slice_get k b ≡ Some x → (y : MemoryBlock) × (slice_get m b ≡ Some y) × (y.size ≡ x.size)) where
  at_other : (d : ℕ) → d ≢ b → slice_get (muted (hiding hides b) k) d ≡ slice_get (muted hides m) d
  at_other d ne = muted_at (hiding hides b) k d ∙ (λ i. option_map (ended_if (hiding_others hides b d ne i)) (same d ne i)) ∙ sym (muted_at hides m d)

  at_it : slice_get (muted (hiding hides b) k) b ≡ option_map (ended_if true) (slice_get k b)
  at_it = muted_at (hiding hides b) k b ∙ ap (λ t. option_map (ended_if t) (slice_get k b)) (hiding_it hides b)

  not_live : (o : Option MemoryBlock) (x : MemoryBlock) → option_map (ended_if true) o ≡ Some x → is_live x.life ≡ true → ⊥
  not_live None x e live = absurd (cc)
  not_live (Some z) x e live = let is : ended_if true z ≡ x = same_some (ended_if true z) x e in false≢true (ap (λ (u : MemoryBlock). is_live u.life) is ∙ live)

  sizes : (d : ℕ) (x : MemoryBlock) → slice_get (muted (hiding hides b) k) d ≡ Some x → (y : MemoryBlock) × (slice_get (muted hides m) d ≡ Some y) × (y.size ≡ x.size)
  sizes d x is = ⊎_elim
      (λ e. at_b (slice_get k b) refl (sym at_it ∙ ap (slice_get (muted (hiding hides b) k)) (sym e) ∙ is) e)
      (λ ne. (x, sym (at_other d ne) ∙ is, refl))
      (cases_eq d b)
    where
      at_b : (o : Option MemoryBlock) → slice_get k b ≡ o → option_map (ended_if true) o ≡ Some x → d ≡ b → (y : MemoryBlock) × (slice_get (muted hides m) d ≡ Some y) × (y.size ≡ x.size)
      at_b None eo e is_b = absurd (cc)
      at_b (Some z) eo e is_b =
          let p = size z eo in
          let is_x : ended_if true z ≡ x = same_some (ended_if true z) x e in
          (ended_if (hides b) p.0, ap (slice_get (muted hides m)) is_b ∙ muted_at hides m b ∙ ap (option_map (ended_if (hides b))) p.1, ended_size (hides b) p.0 ∙ p.2 ∙ ap (λ (u : MemoryBlock). u.size) is_x)

  pub hidden_stand : AreStanding homes (muted hides m) n → AreStanding homes (muted (hiding hides b) k) n
  hidden_stand st = fewer_stand homes (muted hides m) (muted (hiding hides b) k) n (record {
    live = λ d x is live. ⊎_elim
        (λ e. absurd (not_live (slice_get k b) x (sym at_it ∙ ap (slice_get (muted (hiding hides b) k)) (sym e) ∙ is) live))
        (λ ne. sym (at_other d ne) ∙ is)
        (cases_eq d b);
    nulls = λ d seen. inl (at_other d (λ e. false≢true (sym hidden ∙ ap (λ i. (home_of homes i).is_seen) (sym e) ∙ seen)));
    sizes = sizes;
  }) st

-- ---- pointers that are no longer about

pub forgotten : (homes more : List Home) (m n : List MemoryBlock) (b : ℕ) → length more ≡ length homes → ((d : ℕ) → d ≢ b → home_of more d ≡ home_of homes d) → home_of more b ≡ unseen (home_of homes b) → AreShownBlocks (λ d. d == b) m → AreStanding homes m n → AreStanding more m n
forgotten homes more m n b long others here shown st = record {
  memory = record {
    each = λ d x is live.
        let s = st.memory.each d x is live in
        let e = place d in
        let known = s.known in
        record {
          known = subst (λ l. d < l) (sym long) s.known;
          block = s.block;
          there = ap (λ (p : ℕ × ℕ). slice_get n p.0) e ∙ s.there;
          live = s.live;
          full = s.full;
          whole = s.whole;
          fits = subst (λ (p : ℕ × ℕ). p.1 + x.size ≤ s.block.size) (sym e) s.fits;
          small = s.small;
          writable = s.writable;
          allowed = rights d x s.block s.allowed;
          bytes = λ i lt o. byte (byte_of x i) _ (byte_shown m d x i shown is) (subst (λ (p : ℕ × ℕ). IsByte homes (byte_of x i) (byte_of s.block (p.1 + i))) (sym e) (s.bytes i lt o));
        };
    apart = λ d c x y ne at_d at_c live_x live_y e.
        let a = st.memory.apart d c x y ne at_d at_c live_x live_y (sym (ap (λ (p : ℕ × ℕ). p.0) (place d)) ∙ e ∙ ap (λ (p : ℕ × ℕ). p.0) (place c)) in
        record {
          bytes = subst (λ (p : ℕ × ℕ). (i j : ℕ) → i < x.size → j < y.size → IsOpen owner_rights d x i → IsOpen owner_rights c y j → p.0 + i ≢ p.1 + j) (λ i. ((sym (place d) i).1, (sym (place c) i).1)) a.bytes;
          places = subst (λ (p : ℕ × ℕ). (i j : ℕ) → i < x.size → j < y.size → owner_rights.is_comparable d x i ≡ true → owner_rights.is_comparable c y j ≡ true → p.0 + i ≢ p.1 + j) (λ i. ((sym (place d) i).1, (sym (place c) i).1)) a.places;
        };
  };
  nulls = record {
    each = λ d o seen e.
        let q = seen_before d seen in
        subst (λ (h : Home). may_compare_at owner_rights h.block (slice_get n h.block) (moved o h.offset) ≡ true) (sym q) (st.nulls.each d o (ap (λ (h : Home). h.is_seen) (sym q) ∙ seen) e);
  };
  bounds = record {
    each = λ d x seen is.
        let q = seen_before d seen in
        subst (λ (h : Home). HasBounds n h x.size) (sym q) (st.bounds.each d x (ap (λ (h : Home). h.is_seen) (sym q) ∙ seen) is);
  };
}
  where
    place : (d : ℕ) → ◌≡◌ {A = ℕ × ℕ} ((home_of more d).block, (home_of more d).offset) ((home_of homes d).block, (home_of homes d).offset)
    place d = ⊎_elim
        (λ e. ap (λ i. ((home_of more i).block, (home_of more i).offset)) e ∙ ap (λ (q : Home). (q.block, q.offset)) here ∙ ap (λ i. ((home_of homes i).block, (home_of homes i).offset)) (sym e))
        (λ ne. ap (λ (q : Home). (q.block, q.offset)) (others d ne))
        (cases_eq d b)

    seen_before : (d : ℕ) → (home_of more d).is_seen ≡ true → home_of more d ≡ home_of homes d
    seen_before d seen = ⊎_elim
        (λ e. absurd (false≢true (sym (ap (λ i. (home_of more i).is_seen) e ∙ ap (λ (q : Home). q.is_seen) here) ∙ seen)))
        (others d)
        (cases_eq d b)

    rights : (d : ℕ) (x y : MemoryBlock) → HasRights owner_rights owner_rights (home_of homes d) d x y → HasRights owner_rights owner_rights (home_of more d) d x y
    rights d x y h = record {
      opens = subst (λ (p : ℕ × ℕ). (o len : ℕ) → o + len ≤ x.size → owner_rights.is_closed d x o len ≡ false → owner_rights.is_closed p.0 y (p.1 + o) len ≡ false) (sym (place d)) h.opens;
      aligned = subst (λ (p : ℕ × ℕ). (o len align : ℕ) → 0 < len → o + len ≤ x.size → owner_rights.is_closed d x o len ≡ false → IsAlignment align → owner_rights.is_aligned d x o align ≡ true → owner_rights.is_aligned p.0 y (p.1 + o) align ≡ true) (sym (place d)) h.aligned;
      comparable = subst (λ (p : ℕ × ℕ). (o : ℕ) → o ≤ x.size → owner_rights.is_comparable d x o ≡ true → owner_rights.is_comparable p.0 y (p.1 + o) ≡ true) (sym (place d)) h.comparable;
    }

    other_than : (d : ℕ) → (d == b) ≡ false → d ≢ b
    other_than d e is = false≢true (sym e ∙ ap (λ i. i == b) is ∙ is_itself b)

    pointer : (p : Pointer) → IsShown (λ d. d == b) (Value.Ptr p) → IsSeen homes p → IsSeen more p × (moved_pointer more p ≡ moved_pointer homes p)
    pointer Pointer.Null h s = (tt, refl)
    pointer (Pointer.Func f) h s = (tt, refl)
    pointer (Pointer.At d o) h s =
        let q = others d (other_than d h) in
        (ap (λ (u : Home). u.is_seen) q ∙ s, ap (λ (u : Home). Pointer.At u.block (moved o u.offset)) q)

    byte : (x y : Byte) → IsShownByte (λ d. d == b) x → IsByte homes x y → IsByte more x y
    byte Byte.Undefined y h k = tt
    byte (Byte.Number i) y h k = k
    byte (Byte.Part p i) y h k = let r = pointer p h k.0 in (r.0, k.1 ∙ ap (λ (q : Pointer). Byte.Part q i) (sym r.1))

    shown_at : (bytes : List Byte) (i : ℕ) → AreShownBytes (λ d. d == b) bytes → IsShownByte (λ d. d == b) (get_or bytes i Byte.Undefined)
    shown_at [] i h = tt
    shown_at (x ∷ bytes) zero h = h.0
    shown_at (x ∷ bytes) (suc i) h = shown_at bytes i h.1

    byte_shown : (m : List MemoryBlock) (d : ℕ) (x : MemoryBlock) (i : ℕ) → AreShownBlocks (λ d. d == b) m → slice_get m d ≡ Some x → IsShownByte (λ d. d == b) (byte_of x i)
    byte_shown [] d x i h e = absurd (cc)
    byte_shown (y ∷ m) zero x i h e = subst (λ (z : MemoryBlock). IsShownByte (λ d. d == b) (byte_of z i)) (same_some y x e) (shown_at y.bytes i h.0)
    byte_shown (y ∷ m) (suc d) x i h e = byte_shown m d x i h.1 e

-- ---- allocas of slots that live from then on

pub changed_last : (n : List MemoryBlock) (x : MemoryBlock) (f : MemoryBlock → MemoryBlock) → with_block (n ++ x ∷ []) (length n) f ≡ n ++ f x ∷ []
changed_last [] x f = refl
changed_last (y ∷ n) x f = ap (λ k. y ∷ k) (changed_last n x f)

-- whether it has markers or not, a new block that is started at once is a live one of undefined bytes
pub made_live : (n : List MemoryBlock) (size align : ℕ) (kind : Kind) (t : Bool) → start (if t then end (fresh n size align kind) (length n) else fresh n size align kind) (length n) ≡ fresh n size align kind
made_live n size align kind true = ap (λ k. with_block k (length n) started) (changed_last n _ ended) ∙ changed_last n _ started
made_live n size align kind false = changed_last n _ started
