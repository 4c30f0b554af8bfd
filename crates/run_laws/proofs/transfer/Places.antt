-- Blocks of the source that come to stand, move, are hidden or are gone, and to which pointers come about or are no
-- longer about.
use Rattle.std.proofs.Common.{◌≡◌, ◌≢◌, ℕ, zero, suc, ◌+◌, ◌<◌, ◌≤◌, inl, Bool, true, false, not, List, [], ◌∷◌, ◌++◌, length, get_or, Option, Some, None, refl, sym, ap, ◌∙◌, subst, ⊎_elim, arith, ◌&&◌, ◌||◌, ◌==◌}
use Rattle.std.proofs.lemmas.Bool.{cases_eq, false≢true}
use Rattle.std.proofs.lemmas.List.{get_or-replicate, length-replicate}
use Rattle.std.specs.Prelude.{slice_get, option_map}
use Rattle.run_memory.specs.Memory.{Rights, is_live, killed_block, may_compare_at, with_block}
use Rattle.run_memory.specs.Pointers.{moved}
use Rattle.run_memory.specs.declared.block.Byte.{Byte}
use Rattle.run_memory.specs.declared.block.MemoryBlock.{MemoryBlock}
use Rattle.run_memory.specs.declared.pointer.Offset.{Offset}
use Rattle.run_memory.specs.declared.pointer.Pointer.{Pointer}
use Rattle.run_memory.specs.declared.pointer.Value.{Value}
use Rattle.run_laws.proofs.memory.Changes.{reseated, target_changes, target_grows}
use Rattle.run_laws.proofs.memory.Homes.{byte_on}
use Rattle.run_laws.proofs.memory.Written.{changed_elsewhere, changed_here, same_some}
use Rattle.run_laws.specs.memory.Pointers.{Extends, Home, IsByte, IsSeen, home_of, moved_pointer}
use Rattle.run_laws.specs.memory.Standing.{AreByteRights, Embeds, HasBounds, HasRights, IsAlignment, IsOpen, Stands, byte_of}
use Rattle.run_laws.specs.transfer.Muted.{IsShown, ended_if, muted}
use Rattle.run_laws.specs.transfer.Places.{AreShownBlocks, AreShownBytes, AreStanding, AreThere, HasFewer, HasRoom, IsBlank, IsEmpty, IsRehomed, IsSeated, IsShownByte, MayBeSeen, hiding, seen, showing, unseen}

-- ---- hidden blocks

is_itself : (a : ℕ) → (a == a) ≡ true
is_itself a = grind arith

differs : (a b : ℕ) → a ≢ b → (a == b) ≡ false
differs a b ne = on (a == b) refl
  where
    on : (t : Bool) → (a == b) ≡ t → (a == b) ≡ false
    on true e = absurd (ne (grind arith))
    on false e = e

or_true : (a : Bool) → (a || true) ≡ true
or_true true = refl
or_true false = refl

or_false : (a : Bool) → (a || false) ≡ a
or_false true = refl
or_false false = refl

and_true : (a : Bool) → (a && true) ≡ a
and_true true = refl
and_true false = refl

and_false : (a : Bool) → (a && false) ≡ false
and_false true = refl
and_false false = refl

pub muted_at : (hides : ℕ → Bool) (m : List MemoryBlock) (b : ℕ)
    → slice_get (muted hides m) b ≡ option_map (ended_if (hides b)) (slice_get m b)
muted_at hides [] b = refl
muted_at hides (x ∷ m) zero = refl
muted_at hides (x ∷ m) (suc b) = muted_at (λ i. hides (suc i)) m b

pub hiding_others : (hides : ℕ → Bool) (b c : ℕ) → c ≢ b → hiding hides b c ≡ hides c
hiding_others hides b c ne = ap (λ t. hides c || t) (differs c b ne) ∙ or_false (hides c)

pub showing_others : (hides : ℕ → Bool) (b c : ℕ) → c ≢ b → showing hides b c ≡ hides c
showing_others hides b c ne = ap (λ t. hides c && not t) (differs c b ne) ∙ and_true (hides c)

pub showing_it : (hides : ℕ → Bool) (b : ℕ) → showing hides b b ≡ false
showing_it hides b = ap (λ t. hides b && not t) (is_itself b) ∙ and_false (hides b)

pub hiding_it : (hides : ℕ → Bool) (b : ℕ) → hiding hides b b ≡ true
hiding_it hides b = ap (λ t. hides b || t) (is_itself b) ∙ or_true (hides b)

ended_size : (t : Bool) (x : MemoryBlock) → (ended_if t x).size ≡ x.size
ended_size true x = refl
ended_size false x = refl

module _ (rights target : Rights) where
  -- ---- fewer blocks stand where they stood

  pub fewer_stand : (homes : List Home) (m k n : List MemoryBlock) → HasFewer target homes m k n
      → AreStanding rights target homes m n → AreStanding rights target homes k n
  fewer_stand homes m k n fewer st = record {
    memory = record {
      each = λ b x is live. st.memory.each b x (fewer.live b x is live) live;
      apart = λ b c x y ne at_b at_c live_x live_y. st.memory.apart b c x y ne (fewer.live b x at_b live_x)
          (fewer.live c y at_c live_y) live_x live_y;
    };
    nulls = record {
      each = λ b o s e. ⊎_elim
          (λ same. st.nulls.each b o s (ap (λ z. may_compare_at rights b z o) (sym same) ∙ e))
          (λ h. h.each o)
          (fewer.nulls b s);
    };
    bounds = record {
      each = λ b x s is.
          let y = fewer.sizes b x is in
          let h = st.bounds.each b y.0 s y.1 in
          record {
            block = h.block;
            there = h.there;
            fits = subst
                (λ l. (home_of homes b).offset + l ≤ h.block.size) y.2 h.fits;
            small = h.small;
          };
    };
  }

  -- another memory whose blocks are the same, but for one that is hidden from now on, of which pointers aren't about
  module _ (homes : List Home) (hides : ℕ
      → Bool) (m k n : List MemoryBlock) (b : ℕ) (hidden : (home_of homes b).is_seen ≡ false) (same : (d : ℕ) → d ≢ b
      → slice_get k d ≡ slice_get m d) (size : (x : MemoryBlock) → slice_get k b ≡ Some x
      → (y : MemoryBlock) × (slice_get m b ≡ Some y) × (y.size ≡ x.size)) where
    at_other : (d : ℕ) → d ≢ b → slice_get (muted (hiding hides b) k) d ≡ slice_get (muted hides m) d
    at_other d ne = muted_at (hiding hides b) k d ∙ (λ i. option_map (ended_if (hiding_others hides b d ne i))
        (same d ne i)) ∙ sym (muted_at hides m d)

    at_it : slice_get (muted (hiding hides b) k) b ≡ option_map (ended_if true) (slice_get k b)
    at_it = muted_at (hiding hides b) k b ∙ ap (λ t. option_map (ended_if t) (slice_get k b)) (hiding_it hides b)

    not_live : (o : Option MemoryBlock) (x : MemoryBlock) → option_map (ended_if true) o ≡ Some x
        → is_live x.life ≡ true → ⊥
    not_live None x e live = absurd (cc)
    not_live (Some z) x e live = let is : ended_if true z ≡ x = same_some (ended_if true z) x e in false≢true
        (ap (λ (u : MemoryBlock). is_live u.life) is ∙ live)

    sizes : (d : ℕ) (x : MemoryBlock) → slice_get (muted (hiding hides b) k) d ≡ Some x
        → (y : MemoryBlock) × (slice_get (muted hides m) d ≡ Some y) × (y.size ≡ x.size)
    sizes d x is = ⊎_elim
        (λ e. at_b (slice_get k b) refl (sym at_it ∙ ap (slice_get (muted (hiding hides b) k)) (sym e) ∙ is) e)
        (λ ne. (x, sym (at_other d ne) ∙ is, refl))
        (cases_eq d b)
      where
        at_b : (o : Option MemoryBlock) → slice_get k b ≡ o → option_map (ended_if true) o ≡ Some x → d ≡ b
            → (y : MemoryBlock) × (slice_get (muted hides m) d ≡ Some y) × (y.size ≡ x.size)
        at_b None eo e is_b = absurd (cc)
        at_b (Some z) eo e is_b =
            let p = size z eo in
            let is_x : ended_if true z ≡ x = same_some (ended_if true z) x e in (
              ended_if (hides b) p.0,
              ap (slice_get (muted hides m)) is_b ∙ muted_at hides m b ∙ ap
                  (option_map (ended_if (hides b))) p.1,
              ended_size (hides b) p.0 ∙ p.2 ∙ ap
                  (λ (u : MemoryBlock). u.size) is_x,
            )

    pub hidden_stand : AreStanding rights target homes (muted hides m) n
        → AreStanding rights target homes (muted (hiding hides b) k) n
    hidden_stand st = fewer_stand homes (muted hides m) (muted (hiding hides b) k) n (record {
      live = λ d x is live. ⊎_elim
          (λ e. absurd (not_live (slice_get k b) x (sym at_it ∙ ap (slice_get (muted (hiding hides b) k))
          (sym e) ∙ is) live))
          (λ ne. sym (at_other d ne) ∙ is)
          (cases_eq d b);
      nulls = λ d s. inl (at_other d (λ e. false≢true (sym hidden ∙ ap (λ i. (home_of homes i).is_seen) (sym e) ∙ s)));
      sizes = sizes;
    }) st

  -- ---- a block comes to stand

  pub blank_room : (homes : List Home) (n : List MemoryBlock) (b : ℕ) (x : MemoryBlock) → b < length homes → IsBlank x
      → HasRoom rights target n (home_of homes b) b x → Stands rights target homes n b x
  blank_room homes n b x lt blank r = record {
    known = lt;
    block = r.block;
    there = r.there;
    live = r.live;
    full = ap length blank ∙ length-replicate x.size Byte.Undefined;
    whole = r.whole;
    fits = r.fits;
    small = r.small;
    writable = r.writable;
    allowed = r.allowed;
    bytes = λ i low o. subst (λ (c : Byte). IsByte homes c (byte_of r.block ((home_of homes b).offset + i)))
        (sym (ap (λ (bs : List Byte). get_or bs i Byte.Undefined) blank ∙ get_or-replicate x.size i Byte.Undefined
        Byte.Undefined low)) tt;
  }

  pub seated : (homes more : List Home) (m k n : List MemoryBlock) (b : ℕ) → IsSeated rights target homes more m k n b
      → AreStanding rights target homes m n → AreStanding rights target more k n
  seated homes more m k n b is st = record {
    memory = reseated rights target homes more m k n b is.extends is.long is.others st.memory is.same is.stands
        (λ d z x ne at live at' live' shared. is.apart x at' live' d z ne at live shared);
    nulls = record { each = nulls };
    bounds = record { each = bounds };
  }
    where
      nulls : (d : ℕ) (o : Offset) → (home_of more d).is_seen ≡ true
          → may_compare_at rights d (slice_get k d) o ≡ true
          → may_compare_at target (home_of more d).block (slice_get n (home_of more d).block)
          (moved o (home_of more d).offset) ≡ true
      nulls d o s e = ⊎_elim
          (λ i. subst (λ j. may_compare_at target (home_of more j).block (slice_get n (home_of more j).block)
          (moved o (home_of more j).offset) ≡ true) (sym i)
          ((is.seen (ap (λ j. (home_of more j).is_seen) (sym i) ∙ s)).nulls o
          (ap (λ j. may_compare_at rights j (slice_get k j) o) (sym i) ∙ e)))
          (λ ne.
          subst (λ (q : Home). may_compare_at target q.block (slice_get n q.block) (moved o q.offset) ≡ true)
          (sym (is.others d ne))
          (st.nulls.each d o (ap (λ (q : Home). q.is_seen) (sym (is.others d ne)) ∙ s)
          (ap (λ z. may_compare_at rights d z o) (sym (is.same d ne)) ∙ e)))
          (cases_eq d b)

      bounds : (d : ℕ) (x : MemoryBlock) → (home_of more d).is_seen ≡ true → slice_get k d ≡ Some x
          → HasBounds n (home_of more d) x.size
      bounds d x s e = ⊎_elim
          (λ i. subst (λ j. HasBounds n (home_of more j) x.size) (sym i)
          ((is.seen (ap (λ j. (home_of more j).is_seen) (sym i) ∙ s)).bounds x (ap (slice_get k) (sym i) ∙ e)))
          (λ ne.
          subst (λ (q : Home). HasBounds n q x.size) (sym (is.others d ne))
          (st.bounds.each d x (ap (λ (q : Home). q.is_seen) (sym (is.others d ne)) ∙ s) (sym (is.same d ne) ∙ e)))
          (cases_eq d b)

  -- ---- blocks of the target that come, and that die where nothing stands

  pub grown : (homes : List Home) (m n k : List MemoryBlock) → AreThere homes n → AreStanding rights target homes m n
      → AreStanding rights target homes m (n ++ k)
  grown homes m n k there st = record {
    memory = target_grows rights target homes m n k st.memory;
    nulls = record {
      each = λ b o s e.
          let y = there b s in
          ap (λ z. may_compare_at target (home_of homes b).block z (moved o (home_of homes b).offset))
          (get_grown n (home_of homes b).block y.0 y.1 ∙ sym y.1) ∙ st.nulls.each b o s e;
    };
    bounds = record {
      each = λ b x s is.
          let h = st.bounds.each b x s is in
          record {
            block = h.block;
            there = get_grown n
                (home_of homes b).block h.block h.there;
            fits = h.fits;
            small = h.small;
          };
    };
  }
    where
      get_grown : (n : List MemoryBlock) (b : ℕ) (y : MemoryBlock) → slice_get n b ≡ Some y
          → slice_get (n ++ k) b ≡ Some y
      get_grown [] b y e = absurd (cc)
      get_grown (z ∷ n) zero y e = e
      get_grown (z ∷ n) (suc b) y e = get_grown n b y e

  pub given_back : (homes : List Home) (m n : List MemoryBlock) (B : ℕ) → AreByteRights rights → AreByteRights target
      → IsEmpty homes m B → AreStanding rights target homes m n
      → AreStanding rights target homes m (with_block n B killed_block)
  given_back homes m n B law law' empty st = record {
    memory = target_changes rights target law law' homes m n B killed_block st.memory empty;
    nulls = record {
      each = λ b o s e. ⊎_elim (λ is. at_killed b o is (slice_get n B) refl)
          (λ ne. ap (λ z. may_compare_at target (home_of homes b).block z (moved o (home_of homes b).offset))
          (changed_elsewhere n B (home_of homes b).block killed_block ne) ∙ st.nulls.each b o s e)
          (cases_eq (home_of homes b).block B);
    };
    bounds = record {
      each = λ b x s is.
          let h = st.bounds.each b x s is in
          ⊎_elim
          (λ e. record {
            block = killed_block h.block;
            there = ap
                (slice_get (with_block n B killed_block)) e ∙ changed_here n B killed_block h.block
                (ap (slice_get n) (sym e) ∙ h.there);
            fits = h.fits;
            small = h.small;
          })
          (λ ne. record {
            block = h.block;
            there = changed_elsewhere n B
                (home_of homes b).block killed_block ne ∙ h.there;
            fits = h.fits;
            small = h.small;
          })
          (cases_eq (home_of homes b).block B);
    };
  }
    where
      none_there : (n : List MemoryBlock) (c : ℕ) → slice_get n c ≡ None
          → slice_get (with_block n c killed_block) c ≡ None
      none_there [] c e = refl
      none_there (y ∷ n) zero e = absurd (cc)
      none_there (y ∷ n) (suc c) e = none_there n c e

      at_killed : (b : ℕ) (o : Offset) → (home_of homes b).block ≡ B → (z : Option MemoryBlock) → slice_get n B ≡ z
          → may_compare_at target (home_of homes b).block (slice_get (with_block n B killed_block)
          (home_of homes b).block) (moved o (home_of homes b).offset) ≡ true
      at_killed b o is None e = ap (λ z. may_compare_at target (home_of homes b).block z
          (moved o (home_of homes b).offset)) (ap (slice_get (with_block n B killed_block)) is ∙ none_there n B e)
      at_killed b o is (Some y) e = ap (λ z. may_compare_at target (home_of homes b).block z
          (moved o (home_of homes b).offset))
          (ap (slice_get (with_block n B killed_block)) is ∙ changed_here n B killed_block y e)

  -- ---- pointers that come about, and that are no longer about

  module _ (homes more : List Home) (b : ℕ) (q : Home) (re : IsRehomed homes more b q) (still : ◌≡◌ {A = ℕ × ℕ}
      (q.block, q.offset) ((home_of homes b).block, (home_of homes b).offset)) where
    place : (d : ℕ) → ◌≡◌ {A = ℕ × ℕ} ((home_of more d).block, (home_of more d).offset) (
      (home_of homes d).block,
      (home_of homes d).offset,
    )
    place d = ⊎_elim
        (λ e. ap (λ i. ((home_of more i).block, (home_of more i).offset)) e ∙ ap
        (λ (h : Home). (h.block, h.offset)) re.here ∙ still ∙ ap
        (λ i. ((home_of homes i).block, (home_of homes i).offset)) (sym e))
        (λ ne. ap (λ (h : Home). (h.block, h.offset)) (re.others d ne))
        (cases_eq d b)

    same_rights : (d : ℕ) (x y : MemoryBlock) → HasRights rights target (home_of homes d) d x y
        → HasRights rights target (home_of more d) d x y
    same_rights d x y h = record {
      opens = subst (λ (p : ℕ × ℕ). (o len : ℕ) → o + len ≤ x.size → rights.is_closed d x o len ≡ false
          → target.is_closed p.0 y (p.1 + o) len ≡ false) (sym (place d)) h.opens;
      aligned = subst (λ (p : ℕ × ℕ). (o len align : ℕ) → 0 < len → o + len ≤ x.size
          → rights.is_closed d x o len ≡ false → IsAlignment align → rights.is_aligned d x o align ≡ true
          → target.is_aligned p.0 y (p.1 + o) align ≡ true) (sym (place d)) h.aligned;
      comparable = subst (λ (p : ℕ × ℕ). (o : ℕ) → o ≤ x.size → rights.is_comparable d x o ≡ true
          → target.is_comparable p.0 y (p.1 + o) ≡ true) (sym (place d)) h.comparable;
    }

    -- bytes that stood still do
    abbrev Bytes : List MemoryBlock → Type 0
    Bytes m = (d : ℕ) (x : MemoryBlock) (i : ℕ) (c : Byte) → slice_get m d ≡ Some x → IsByte homes (byte_of x i) c
        → IsByte more (byte_of x i) c

    embeds_still : (m n : List MemoryBlock) → Bytes m → AreStanding rights target homes m n
        → Embeds rights target more m n
    embeds_still m n bytes st = record {
      each = λ d x is live.
          let s = st.memory.each d x is live in
          let e = place d in
          record {
            known = subst (λ l. d < l) (sym re.long) s.known;
            block = s.block;
            there = ap (λ (p : ℕ × ℕ). slice_get n p.0) e ∙ s.there;
            live = s.live;
            full = s.full;
            whole = s.whole;
            fits = subst (λ (p : ℕ × ℕ). p.1 + x.size ≤ s.block.size) (sym e) s.fits;
            small = s.small;
            writable = s.writable;
            allowed = same_rights d x s.block s.allowed;
            bytes = λ i lt o. bytes d x i _ is (subst (λ (p : ℕ × ℕ). IsByte homes (byte_of x i)
                (byte_of s.block (p.1 + i))) (sym e) (s.bytes i lt o));
          };
      apart = λ d c x y ne at_d at_c live_x live_y e.
          let a = st.memory.apart d c x y ne at_d at_c live_x live_y (sym (ap (λ (p : ℕ × ℕ). p.0) (place d)) ∙ e ∙ ap
          (λ (p : ℕ × ℕ). p.0) (place c)) in
          record {
            bytes = subst (λ (p : ℕ × ℕ). (i j : ℕ) → i < x.size → j < y.size → IsOpen rights d x i
                → IsOpen rights c y j → p.0 + i ≢ p.1 + j) (λ i. ((sym (place d) i).1, (sym (place c) i).1)) a.bytes;
            places = subst (λ (p : ℕ × ℕ). (i j : ℕ) → i < x.size → j < y.size → rights.is_comparable d x i ≡ true
                → rights.is_comparable c y j ≡ true
                → p.0 + i ≢ p.1 + j) (λ i. ((sym (place d) i).1, (sym (place c) i).1)) a.places;
          };
    }

  pub raised : (homes more : List Home) (m n : List MemoryBlock) (b : ℕ) → Extends homes more
      → IsRehomed homes more b (seen (home_of homes b))
      → MayBeSeen rights target n (home_of homes b) b (slice_get m b) → AreStanding rights target homes m n
      → AreStanding rights target more m n
  raised homes more m n b ext re may st = record {
    memory = embeds_still homes more b (seen (home_of homes b)) re refl m n (λ d x i c is h. byte_on homes more ext
        (byte_of x i) c h) st;
    nulls = record {
      each = λ d o s e. ⊎_elim
          (λ is. subst (λ j. may_compare_at target (home_of more j).block (slice_get n (home_of more j).block)
          (moved o (home_of more j).offset) ≡ true) (sym is)
          (subst (λ (h : Home). may_compare_at target h.block (slice_get n h.block) (moved o h.offset) ≡ true)
          (sym re.here) (may.nulls o (ap (λ j. may_compare_at rights j (slice_get m j) o) (sym is) ∙ e))))
          (λ ne. subst (λ (h : Home). may_compare_at target h.block (slice_get n h.block) (moved o h.offset) ≡ true)
          (sym (re.others d ne)) (st.nulls.each d o (ap (λ (h : Home). h.is_seen) (sym (re.others d ne)) ∙ s) e))
          (cases_eq d b);
    };
    bounds = record {
      each = λ d x s e. ⊎_elim
          (λ is. subst (λ j. HasBounds n (home_of more j) x.size) (sym is)
          (bounds_of x (ap (slice_get m) (sym is) ∙ e)))
          (λ ne. subst (λ (h : Home). HasBounds n h x.size) (sym (re.others d ne)) (st.bounds.each d x
          (ap (λ (h : Home). h.is_seen) (sym (re.others d ne)) ∙ s) e))
          (cases_eq d b);
    };
  }
    where
      bounds_of : (x : MemoryBlock) → slice_get m b ≡ Some x → HasBounds n (home_of more b) x.size
      bounds_of x e =
          let h = may.bounds x e in
          record {
            block = h.block;
            there = ap (λ (p : Home). slice_get n p.block) re.here ∙ h.there;
            fits = subst
                (λ (p : Home). p.offset + x.size ≤ h.block.size) (sym re.here) h.fits;
            small = h.small;
          }

  pub forgotten : (homes more : List Home) (m n : List MemoryBlock) (b : ℕ)
      → IsRehomed homes more b (unseen (home_of homes b)) → AreShownBlocks (λ d. d == b) m
      → AreStanding rights target homes m n → AreStanding rights target more m n
  forgotten homes more m n b re shown st = record {
    memory = embeds_still homes more b (unseen (home_of homes b)) re refl m n (λ d x i c is h. byte (byte_of x i) c
        (byte_shown m d x i shown is) h) st;
    nulls = record {
      each = λ d o s e.
          let q = seen_before d s in
          subst (λ (h : Home). may_compare_at target h.block (slice_get n h.block) (moved o h.offset) ≡ true) (sym q)
          (st.nulls.each d o (ap (λ (h : Home). h.is_seen) (sym q) ∙ s) e);
    };
    bounds = record {
      each = λ d x s is.
          let q = seen_before d s in
          subst (λ (h : Home). HasBounds n h x.size) (sym q) (st.bounds.each d x (ap (λ (h : Home). h.is_seen)
          (sym q) ∙ s) is);
    };
  }
    where
      seen_before : (d : ℕ) → (home_of more d).is_seen ≡ true → home_of more d ≡ home_of homes d
      seen_before d s = ⊎_elim
          (λ e. absurd (false≢true (sym (ap (λ i. (home_of more i).is_seen) e ∙ ap
          (λ (q : Home). q.is_seen) re.here) ∙ s)))
          (re.others d)
          (cases_eq d b)

      other_than : (d : ℕ) → (d == b) ≡ false → d ≢ b
      other_than d e is = false≢true (sym e ∙ ap (λ i. i == b) is ∙ is_itself b)

      pointer : (p : Pointer) → IsShown (λ d. d == b) (Value.Ptr p) → IsSeen homes p
          → IsSeen more p × (moved_pointer more p ≡ moved_pointer homes p)
      pointer Pointer.Null h s = (tt, refl)
      pointer (Pointer.Func f) h s = (tt, refl)
      pointer (Pointer.At d o) h s =
          let q = re.others d (other_than d h) in
          (ap (λ (u : Home). u.is_seen) q ∙ s, ap (λ (u : Home). Pointer.At u.block (moved o u.offset)) q)

      byte : (x y : Byte) → IsShownByte (λ d. d == b) x → IsByte homes x y → IsByte more x y
      byte Byte.Undefined y h k = tt
      byte (Byte.Number i) y h k = k
      byte (Byte.Part p i) y h k = let r = pointer p h k.0 in (
        r.0,
        k.1 ∙ ap (λ (q : Pointer). Byte.Part q i)
            (sym r.1),
      )

      shown_at : (bytes : List Byte) (i : ℕ) → AreShownBytes (λ d. d == b) bytes
          → IsShownByte (λ d. d == b) (get_or bytes i Byte.Undefined)
      shown_at [] i h = tt
      shown_at (x ∷ bytes) zero h = h.0
      shown_at (x ∷ bytes) (suc i) h = shown_at bytes i h.1

      byte_shown : (m : List MemoryBlock) (d : ℕ) (x : MemoryBlock) (i : ℕ) → AreShownBlocks (λ d. d == b) m
          → slice_get m d ≡ Some x → IsShownByte (λ d. d == b) (byte_of x i)
      byte_shown [] d x i h e = absurd (cc)
      byte_shown (y ∷ m) zero x i h e = subst (λ (z : MemoryBlock). IsShownByte (λ d. d == b) (byte_of z i))
          (same_some y x e) (shown_at y.bytes i h.0)
      byte_shown (y ∷ m) (suc d) x i h e = byte_shown m d x i h.1 e
