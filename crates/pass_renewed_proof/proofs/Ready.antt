-- An instruction that uses slots whose blocks stand in blocks of their own, or come to stand there.
use Rattle.std.proofs.Common.{◌≡◌, ◌≢◌, ℕ, suc, ◌+◌, ◌^◌, ◌<◌, ◌≤◌, ◌⊎◌, inl, inr, Bool, true, false, List, [], ◌∷◌, length, set, Option, Some, None, refl, sym, ap, ◌∙◌, subst, ⊎_elim, arith, if◌then◌else◌, get_or-set_other}
use Rattle.std.proofs.lemmas.Bool.{cases_eq, false≢true}
use Rattle.std.proofs.lemmas.List.{get_or-set_same, length-set}
use Rattle.std.specs.Prelude.{not, option_map, slice_get, ◌&&◌, ◌==◌}
use Rattle.pass_kept_proof.specs.run_memory.Memory.{may_compare_at, owner_rights}
use Rattle.pass_kept_proof.specs.run_memory.Pointers.{moved}
use Rattle.pass_kept_proof.specs.run_memory.declared.block.MemoryBlock.{MemoryBlock}
use Rattle.pass_kept_proof.specs.run_memory.declared.pointer.Offset.{Offset}
use Rattle.pass_kept_proof.specs.run_memory.declared.pointer.Pointer.{Pointer}
use Rattle.pass_kept_proof.specs.run_memory.declared.pointer.Value.{Value}
use Rattle.pass_kept_proof.specs.run_memory.declared.block.Byte.{Byte}
use Rattle.pass_kept_proof.specs.flow_solver.Paths.{IsListed}
use Rattle.run_laws.proofs.memory.Homes.{byte_on, move_extends, value_on}
use Rattle.run_laws.specs.memory.Pointers.{Extends, Home, IsByte, IsValue, home_of, nowhere}
use Rattle.run_laws.specs.memory.Standing.{HasBounds, HasRights, IsAlignment, IsOpen, byte_of}
use Rattle.pass_kept_proof.specs.run_step.Step.{Context, Fetched, Work, action_of}
use Rattle.pass_kept_proof.specs.run_step.Values.{element}
use Rattle.pass_renewed_proof.proofs.Muted.{element_muted, muted_get}
use Rattle.pass_renewed_proof.proofs.Places.{forgotten, muted_at, seated, showing_it, showing_others, unowned_compares}
use Rattle.pass_renewed_proof.proofs.Steps.{step_over}
use Rattle.pass_renewed_proof.specs.Muted.{IsShown, ended_if, muted}
use Rattle.pass_renewed_proof.specs.Places.{AreStanding, showing, unseen}
use Rattle.pass_renewed_proof.specs.Ready.{ArePlacesApart, Comes, IsPartPlaced, IsPlace, IsPlaced, IsSettled, IsUsing, Place, Stays, faded, shown_of, stood}
use Rattle.pass_renewed_proof.specs.Shown.{AreShownBlocks, AreShownBytes, IsShownByte}
use Rattle.pass_renewed_proof.specs.Steps.{AreOver, GoesOver, IsRead, given_at}
use Rattle.run_laws.proofs.embedded.Memories.{element_kept}
use Rattle.run_laws.specs.embedded.Making.{whole_home}
use Rattle.run_laws.specs.embedded.Related.{IsSameDistance}
use Rattle.run_laws.specs.changed.Changed.{Each}

-- ---- pointers come about into a block that stands already

module _ (homes more : List Home) (m n : List MemoryBlock) (b c : ℕ) (y : MemoryBlock) (long : length more ≡ length homes) (others : (d : ℕ) → d ≢ b → home_of more d ≡ home_of homes d) (here : home_of more b ≡ whole_home c) (block : (home_of homes b).block ≡ c) (offset : (home_of homes b).offset ≡ 0) (ext : Extends homes more) (there : slice_get n c ≡ Some y) (owner : y.owned ≡ None) (small : y.size < 2 ^ 64) (room : (x : MemoryBlock) → slice_get m b ≡ Some x → x.size ≤ y.size) where
  place : (d : ℕ) → ◌≡◌ {A = ℕ × ℕ} ((home_of more d).block, (home_of more d).offset) ((home_of homes d).block, (home_of homes d).offset)
  place d = ⊎_elim
      (λ e. ap (λ i. ((home_of more i).block, (home_of more i).offset)) e ∙ ap (λ (q : Home). (q.block, q.offset)) here ∙ (λ i. (sym block i, sym offset i)) ∙ ap (λ i. ((home_of homes i).block, (home_of homes i).offset)) (sym e))
      (λ ne. ap (λ (q : Home). (q.block, q.offset)) (others d ne))
      (cases_eq d b)

  rights : (d : ℕ) (x z : MemoryBlock) → HasRights owner_rights owner_rights (home_of homes d) d x z → HasRights owner_rights owner_rights (home_of more d) d x z
  rights d x z h = record {
    opens = subst (λ (p : ℕ × ℕ). (o len : ℕ) → o + len ≤ x.size → owner_rights.is_closed d x o len ≡ false → owner_rights.is_closed p.0 z (p.1 + o) len ≡ false) (sym (place d)) h.opens;
    aligned = subst (λ (p : ℕ × ℕ). (o len align : ℕ) → 0 < len → o + len ≤ x.size → owner_rights.is_closed d x o len ≡ false → IsAlignment align → owner_rights.is_aligned d x o align ≡ true → owner_rights.is_aligned p.0 z (p.1 + o) align ≡ true) (sym (place d)) h.aligned;
    comparable = subst (λ (p : ℕ × ℕ). (o : ℕ) → o ≤ x.size → owner_rights.is_comparable d x o ≡ true → owner_rights.is_comparable p.0 z (p.1 + o) ≡ true) (sym (place d)) h.comparable;
  }

  from_start : (k : ℕ) → 0 + k ≡ k
  from_start k = omega arith

  pub raised : AreStanding homes m n → AreStanding more m n
  raised st = record {
    memory = record {
      each = λ d x is live.
          let s = st.memory.each d x is live in
          let e = place d in
          record {
            known = subst (λ l. d < l) (sym long) s.known;
            block = s.block;
            there = ap (λ (p : ℕ × ℕ). slice_get n p.0) e ∙ s.there;
            live = s.live;
            full = s.full;
            whole = s.whole;
            fits = subst (λ (p : ℕ × ℕ). p.1 + x.size ≤ s.block.size) (sym e) s.fits;
            small = s.small;
            writable = s.writable;
            allowed = rights d x s.block s.allowed;
            bytes = λ i lt o. subst (λ (p : ℕ × ℕ). IsByte more (byte_of x i) (byte_of s.block (p.1 + i))) (sym e) (byte_on homes more ext (byte_of x i) _ (s.bytes i lt o));
          };
      apart = λ d k x z ne at_d at_k live_x live_z e.
          let a = st.memory.apart d k x z ne at_d at_k live_x live_z (sym (ap (λ (p : ℕ × ℕ). p.0) (place d)) ∙ e ∙ ap (λ (p : ℕ × ℕ). p.0) (place k)) in
          record {
            bytes = subst (λ (p : ℕ × ℕ). (i j : ℕ) → i < x.size → j < z.size → IsOpen owner_rights d x i → IsOpen owner_rights k z j → p.0 + i ≢ p.1 + j) (λ i. ((sym (place d) i).1, (sym (place k) i).1)) a.bytes;
            places = subst (λ (p : ℕ × ℕ). (i j : ℕ) → i < x.size → j < z.size → owner_rights.is_comparable d x i ≡ true → owner_rights.is_comparable k z j ≡ true → p.0 + i ≢ p.1 + j) (λ i. ((sym (place d) i).1, (sym (place k) i).1)) a.places;
          };
    };
    nulls = record {
      each = λ d o seen e. ⊎_elim
          (λ is. subst (λ i. may_compare_at owner_rights (home_of more i).block (slice_get n (home_of more i).block) (moved o (home_of more i).offset) ≡ true) (sym is)
          (subst (λ (q : Home). may_compare_at owner_rights q.block (slice_get n q.block) (moved o q.offset) ≡ true) (sym here)
          (ap (λ z. may_compare_at owner_rights c z (moved o 0)) there ∙ unowned_compares c y (moved o 0) owner)))
          (λ ne. subst (λ (q : Home). may_compare_at owner_rights q.block (slice_get n q.block) (moved o q.offset) ≡ true) (sym (others d ne)) (st.nulls.each d o (ap (λ (q : Home). q.is_seen) (sym (others d ne)) ∙ seen) e))
          (cases_eq d b);
    };
    bounds = record {
      each = λ d x seen is. ⊎_elim
          (λ e. subst (λ i. HasBounds n (home_of more i) x.size) (sym e)
          (subst (λ (q : Home). HasBounds n q x.size) (sym here)
          (record { block = y; there = there; fits = subst (λ l. l ≤ y.size) (sym (from_start x.size)) (room x (ap (slice_get m) (sym e) ∙ is)); small = small })))
          (λ ne. subst (λ (q : Home). HasBounds n q x.size) (sym (others d ne)) (st.bounds.each d x (ap (λ (q : Home). q.is_seen) (sym (others d ne)) ∙ seen) is))
          (cases_eq d b);
    };
  }

-- ---- one place

module _ (homes : List Home) (hides : ℕ → Bool) (m n : List MemoryBlock) (p : Place) where
  abbrev more : List Home
  more = set homes p.block (whole_home p.target)

  others_stay : (d : ℕ) → d ≢ p.block → home_of more d ≡ home_of homes d
  others_stay d ne = get_or-set_other homes p.block d (whole_home p.target) nowhere ne

  ended_none : (x : MemoryBlock) → ended_if false x ≡ x
  ended_none x = refl

  shown_at : slice_get (muted (showing hides p.block) m) p.block ≡ slice_get m p.block
  shown_at = muted_get (showing hides p.block) m p.block (showing_it hides p.block)

  muted_others : (d : ℕ) → d ≢ p.block → slice_get (muted (showing hides p.block) m) d ≡ slice_get (muted hides m) d
  muted_others d ne = muted_at (showing hides p.block) m d ∙ ap (λ t. option_map (ended_if t) (slice_get m d)) (showing_others hides p.block d ne) ∙ sym (muted_at hides m d)

  stays_extend : (seen : Bool) → home_of homes p.block ≡ record { block = p.target; offset = 0; is_seen = seen } → p.block < length homes → Extends homes more
  stays_extend true e lt = record { each = λ d h. ⊎_elim (λ is. ap (home_of more) is ∙ get_or-set_same homes p.block (whole_home p.target) nowhere lt ∙ sym e ∙ ap (home_of homes) (sym is)) (λ ne. others_stay d ne) (cases_eq d p.block) }
  stays_extend false e lt = move_extends homes p.block (whole_home p.target) (ap (λ (q : Home). q.is_seen) e)

  pub place_extends : p.block < length homes → IsSettled homes hides m p → Extends homes more
  place_extends lt (Stays seen e h) = stays_extend seen e lt
  place_extends lt (Comes un blank) = move_extends homes p.block (whole_home p.target) un

  same_hides : hides p.block ≡ false → (d : ℕ) → showing hides p.block d ≡ hides d
  same_hides h d = ⊎_elim (λ e. ap (showing hides p.block) e ∙ showing_it hides p.block ∙ sym h ∙ ap hides (sym e)) (showing_others hides p.block d) (cases_eq d p.block)

  pub ready_one : IsPlace homes hides m n p → IsSettled homes hides m p → AreStanding homes (muted hides m) n → AreStanding more (muted (showing hides p.block) m) n
  ready_one is (Stays seen e h) st =
      subst (λ (k : List MemoryBlock). AreStanding more k n) (λ i. muted (λ d. sym (same_hides h d) i) m)
      (raised homes more (muted hides m) n p.block p.target is.here (length-set homes p.block (whole_home p.target)) others_stay (get_or-set_same homes p.block (whole_home p.target) nowhere is.within) (ap (λ (q : Home). q.block) e) (ap (λ (q : Home). q.offset) e) (stays_extend seen e is.within) is.there is.owner is.small (λ x at. is.room x (sym (muted_get hides m p.block h) ∙ at)) st)
  ready_one is (Comes un blank) st =
      seated homes more (muted hides m) (muted (showing hides p.block) m) n p.block p.target is.here (move_extends homes p.block (whole_home p.target) un)
      (subst (λ l. length homes ≤ l) (sym (length-set homes p.block (whole_home p.target))) (omega arith))
      (subst (λ l. p.block < l) (sym (length-set homes p.block (whole_home p.target))) is.within)
      others_stay (get_or-set_same homes p.block (whole_home p.target) nowhere is.within) is.there is.owner is.small muted_others
      (λ x at. is.room x (sym shown_at ∙ at))
      (λ x at live. (blank x (sym shown_at ∙ at) live, record { block = is.here; there = is.there; live = is.live; owner = is.owner; whole = is.whole; room = is.room x (sym shown_at ∙ at); small = is.small; align = is.align x (sym shown_at ∙ at); writable = is.writable }))
      (record { others = is.live_others }) st

  -- ---- what holds of another one stays

  pub place_kept : (q : Place) → p.block < length homes → q.block ≢ p.block → q.target ≢ p.target → IsPlace homes hides m n q → IsPlace more (showing hides p.block) m n q
  place_kept q lt ne nt is = record {
    within = subst (λ l. q.block < l) (sym (length-set homes p.block (whole_home p.target))) is.within;
    here = is.here;
    there = is.there;
    live = is.live;
    owner = is.owner;
    whole = is.whole;
    small = is.small;
    writable = is.writable;
    room = is.room;
    align = is.align;
    live_others = λ d z nd at live. ⊎_elim
        (λ e. other d e)
        (λ np. subst (λ (h : Home). h.block ≢ q.target) (sym (others_stay d np)) (is.live_others d z nd (sym (muted_others d np) ∙ at) live))
        (cases_eq d p.block);
    seen_others = λ d nd seen. ⊎_elim
        (λ e. other d e)
        (λ np. subst (λ (h : Home). h.block ≢ q.target) (sym (others_stay d np)) (is.seen_others d nd (ap (λ (h : Home). h.is_seen) (sym (others_stay d np)) ∙ seen)))
        (cases_eq d p.block);
  }
    where
      other : (d : ℕ) → d ≡ p.block → (home_of more d).block ≢ q.target
      other d e is = nt (sym is ∙ ap (λ i. (home_of more i).block) e ∙ ap (λ (h : Home). h.block) (get_or-set_same homes p.block (whole_home p.target) nowhere lt))

  pub settled_kept : (q : Place) → q.block ≢ p.block → IsSettled homes hides m q → IsSettled more (showing hides p.block) m q
  settled_kept q ne (Stays seen e h) = Stays seen (others_stay q.block ne ∙ e) (showing_others hides p.block q.block ne ∙ h)
  settled_kept q ne (Comes un blank) = Comes (ap (λ (h : Home). h.is_seen) (others_stay q.block ne) ∙ un) blank

-- ---- all places

each_with : {A : Type 0} (P Q R : A → Type 0) (xs : List A) → ((x : A) → P x → Q x → R x) → Each P xs → Each Q xs → Each R xs
each_with P Q R [] f h k = tt
each_with P Q R (x ∷ xs) f h k = (f x h.0 k.0, each_with P Q R xs f h.1 k.1)

pub ready_all : (homes : List Home) (hides : ℕ → Bool) (m n : List MemoryBlock) (ps : List Place) → Each (IsPlace homes hides m n) ps → Each (IsSettled homes hides m) ps → ArePlacesApart ps → AreStanding homes (muted hides m) n → AreStanding (stood homes ps) (muted (shown_of hides ps) m) n
ready_all homes hides m n [] places settled apart st = st
ready_all homes hides m n (p ∷ ps) places settled apart st =
    ready_all (set homes p.block (whole_home p.target)) (showing hides p.block) m n ps
    (each_with _ _ _ ps (λ q a is. place_kept homes hides m n p q places.0.within a.0 a.1 is) apart.0 places.1)
    (each_with _ _ _ ps (λ q a is. settled_kept homes hides m n p q a.0 is) apart.0 settled.1)
    apart.1 (ready_one homes hides m n p places.0 settled.0 st)

pub trans_extends : (homes next most : List Home) → Extends homes next → Extends next most → Extends homes most
trans_extends homes next most f g = record { each = λ b h. g.each b (ap (λ (q : Home). q.is_seen) (f.each b h) ∙ h) ∙ f.each b h }

pub stood_extends : (homes : List Home) (hides : ℕ → Bool) (m n : List MemoryBlock) (ps : List Place) → Each (IsPlace homes hides m n) ps → Each (IsSettled homes hides m) ps → ArePlacesApart ps → Extends homes (stood homes ps)
stood_extends homes hides m n [] places settled apart = record { each = λ b h. refl }
stood_extends homes hides m n (p ∷ ps) places settled apart =
    trans_extends homes (set homes p.block (whole_home p.target)) _ (place_extends homes hides m n p places.0.within settled.0)
    (stood_extends (set homes p.block (whole_home p.target)) (showing hides p.block) m n ps
    (each_with _ _ _ ps (λ q a is. place_kept homes hides m n p q places.0.within a.0 a.1 is) apart.0 places.1)
    (each_with _ _ _ ps (λ q a is. settled_kept homes hides m n p q a.0 is) apart.0 settled.1)
    apart.1)

pub stood_length : (homes : List Home) (ps : List Place) → length (stood homes ps) ≡ length homes
stood_length homes [] = refl
stood_length homes (p ∷ ps) = stood_length (set homes p.block (whole_home p.target)) ps ∙ length-set homes p.block (whole_home p.target)

-- another block stands where it stood
pub stood_others : (homes : List Home) (ps : List Place) (d : ℕ) → Each (λ (q : Place). q.block ≢ d) ps
    → home_of (stood homes ps) d ≡ home_of homes d
stood_others homes [] d h = refl
stood_others homes (p ∷ ps) d h = stood_others (set homes p.block (whole_home p.target)) ps d h.1 ∙ get_or-set_other homes p.block d (whole_home p.target) nowhere (λ e. h.0 (sym e))

pub each_map : {A : Type 0} (P Q : A → Type 0) (xs : List A) → ((x : A) → P x → Q x) → Each P xs → Each Q xs
each_map P Q [] f h = tt
each_map P Q (x ∷ xs) f h = (f x h.0, each_map P Q xs f h.1)

pub stood_at : (homes : List Home) (ps : List Place) (p : Place) → Each (λ (q : Place). q.block < length homes) ps
    → ArePlacesApart ps → IsListed p ps → home_of (stood homes ps) p.block ≡ whole_home p.target
stood_at homes [] p within apart h = absurd h
stood_at homes (q ∷ ps) p within apart (inl e) =
    subst (λ (z : Place). home_of (stood (set homes q.block (whole_home q.target)) ps) z.block ≡ whole_home z.target) (sym e)
    (stood_others (set homes q.block (whole_home q.target)) ps q.block (each_map _ _ ps (λ z a. a.0) apart.0) ∙ get_or-set_same homes q.block (whole_home q.target) nowhere within.0)
stood_at homes (q ∷ ps) p within apart (inr h) =
    stood_at (set homes q.block (whole_home q.target)) ps p (each_map _ _ ps (λ z lt. subst (λ l. z.block < l) (sym (length-set homes q.block (whole_home q.target))) lt) within.1) apart.1 h

-- what is shown stays so, and hidden blocks aren't seen
pub shown_stays : (hides : ℕ → Bool) (ps : List Place) (d : ℕ) → hides d ≡ false → shown_of hides ps d ≡ false
shown_stays hides [] d h = h
shown_stays hides (p ∷ ps) d h = shown_stays (showing hides p.block) ps d (ap (λ t. t && not (d == p.block)) h)

pub still_hidden : (homes : List Home) (hides : ℕ → Bool) (ps : List Place) → ((b : ℕ) → hides b ≡ true
    → (home_of homes b).is_seen ≡ false) → (b : ℕ) → shown_of hides ps b ≡ true
    → (home_of (stood homes ps) b).is_seen ≡ false
still_hidden homes hides [] h b e = h b e
still_hidden homes hides (p ∷ ps) h b e = still_hidden (set homes p.block (whole_home p.target)) (showing hides p.block) ps one b e
  where
    one : (d : ℕ) → showing hides p.block d ≡ true → (home_of (set homes p.block (whole_home p.target)) d).is_seen ≡ false
    one d k = ⊎_elim
        (λ is. absurd (false≢true (sym (ap (showing hides p.block) is ∙ showing_it hides p.block) ∙ k)))
        (λ ne. ap (λ (q : Home). q.is_seen) (get_or-set_other homes p.block d (whole_home p.target) nowhere ne) ∙ h d (sym (showing_others hides p.block d ne) ∙ k))
        (cases_eq d p.block)

-- ---- the instruction

module _ (homes : List Home) (hides quiet : ℕ → Bool) (ps : List Place) (c : Context) (w x : Work) (here : Fetched) (u : IsUsing homes hides quiet ps c w x here) where
  extends : Extends homes (stood homes ps)
  extends = stood_extends homes hides w.world.memory x.world.memory ps u.places u.settled u.apart

  over : AreOver (stood homes ps) (shown_of hides ps) w.world x.world
  over =
      let st = ready_all homes hides w.world.memory x.world.memory ps u.places u.settled u.apart (record { memory = u.over.memory; nulls = u.over.nulls; bounds = u.over.bounds }) in
      record { memory = st.memory; nulls = st.nulls; bounds = st.bounds; events = u.over.events; answers = u.over.answers; allocs = u.over.allocs }

  placed : (a b : Value) → IsPlaced ps a b → IsValue (stood homes ps) a b
  placed a b h =
      let e = stood_at homes ps h.place (each_map _ _ ps (λ p is. is.within) u.places) u.apart h.listed in
      subst (λ (z : Value). IsValue (stood homes ps) z b) (sym h.source)
      (ap (λ (q : Home). q.is_seen) e, h.target ∙ ap (λ (q : Home). Value.Ptr (Pointer.At q.block (moved h.offset q.offset))) (sym e))

  read : IsRead (stood homes ps) c w.values x.values here
  read = record {
    reads = λ v t. ⊎_elim (value_on homes (stood homes ps) extends _ _) (placed _ _) (u.reads v t);
    room = u.room;
    globals = λ k. value_on homes (stood homes ps) extends _ _ (u.globals k);
    distance = u.distance;
    small = u.small;
    no_slot = u.no_slot;
    bytes = u.bytes;
  }

  pub used_step : c.rights ≡ owner_rights → GoesOver (stood homes ps) (shown_of hides ps) (given_at here) w x (action_of c w here) (action_of c x here)
  used_step rights = step_over (stood homes ps) (shown_of hides ps) c w x here rights over (still_hidden homes hides ps u.hidden) (shown_stays hides ps (length w.world.memory) u.new_hides) read

  -- ---- addresses in slots

  -- a block that stands in its own isn't hidden
  placed_shown : (p : Place) → IsListed p ps → shown_of hides ps p.block ≡ false
  placed_shown p listed = on (shown_of hides ps p.block) refl
    where
      on : (t : Bool) → shown_of hides ps p.block ≡ t → shown_of hides ps p.block ≡ false
      on true e = absurd (false≢true (sym (still_hidden homes hides ps u.hidden p.block e) ∙ ap (λ (q : Home). q.is_seen) (stood_at homes ps p (each_map _ _ ps (λ p is. is.within) u.places) u.apart listed)))
      on false e = e

  part_of : (h : (p : Place) × (o : Offset) × IsListed p ps) → (a b : Value) → (a ≡ Value.Poison) ⊎ ((o : Offset) × (a ≡ Value.Ptr (Pointer.At h.0.block o))) → IsValue (stood homes ps) a b → IsPartPlaced ps a b
  part_of h a b (inl e) k = inl e
  part_of h a b (inr e) k =
      let v = subst (λ (z : Value). IsValue (stood homes ps) z b) e.1 k in
      let home = stood_at homes ps h.0 (each_map _ _ ps (λ p is. is.within) u.places) u.apart h.2 in
      inr (record { place = h.0; listed = h.2; offset = e.0; source = e.1; target = v.1 ∙ ap (λ (q : Home). Value.Ptr (Pointer.At q.block (moved e.0 q.offset))) home })

  stays_inside : (memory : List MemoryBlock) (inbounds : Bool) (b : ℕ) (o : Offset) (d : Option ℕ) → (element memory inbounds (Value.Ptr (Pointer.At b o)) d ≡ Value.Poison) ⊎ ((q : Offset) × (element memory inbounds (Value.Ptr (Pointer.At b o)) d ≡ Value.Ptr (Pointer.At b q)))
  stays_inside memory inbounds b o None = inl refl
  stays_inside memory inbounds b o (Some d) = on _
    where
      on : (t : Bool) → ((if t then Value.Poison else Value.Ptr (Pointer.At b (moved o d))) ≡ Value.Poison) ⊎ ((q : Offset) × ((if t then Value.Poison else Value.Ptr (Pointer.At b (moved o d))) ≡ Value.Ptr (Pointer.At b q)))
      on true = inl refl
      on false = inr (moved o d, refl)

  pub part_placed : (inbounds : Bool) (a b : Value) (d e : Option ℕ) → IsPlaced ps a b → IsSameDistance d e → IsPartPlaced ps (element w.world.memory inbounds a d) (element x.world.memory inbounds b e)
  part_placed inbounds a b None e h k = inl refl
  part_placed inbounds a b (Some d) e h k =
      let v : IsValue (stood homes ps) a b = placed a b h in
      let shown : IsShown (shown_of hides ps) a = subst (IsShown (shown_of hides ps)) (sym h.source) (placed_shown h.place h.listed) in
      let kept = element_kept (stood homes ps) (muted (shown_of hides ps) w.world.memory) x.world.memory over.bounds inbounds a b (Some d) v in
      let here : IsValue (stood homes ps) (element w.world.memory inbounds a (Some d)) (element x.world.memory inbounds b e) =
      subst (λ (z : Value). IsValue (stood homes ps) z (element x.world.memory inbounds b e)) (element_muted (shown_of hides ps) w.world.memory inbounds a (Some d) shown)
      (subst (λ (z : Option ℕ). IsValue (stood homes ps) (element (muted (shown_of hides ps) w.world.memory) inbounds a (Some d)) (element x.world.memory inbounds b z)) (sym k) kept) in
      part_of (h.place, h.offset, h.listed) _ _
      (subst (λ (z : Value). (element w.world.memory inbounds z (Some d) ≡ Value.Poison) ⊎ ((q : Offset) × (element w.world.memory inbounds z (Some d) ≡ Value.Ptr (Pointer.At h.place.block q)))) (sym h.source) (stays_inside w.world.memory inbounds h.place.block h.offset (Some d)))
      here

-- ---- pointers are no longer about

shown_only : (quiet : ℕ → Bool) (b : ℕ) → quiet b ≡ true → (v : Value) → IsShown quiet v → IsShown (λ d. d == b) v
shown_only quiet b e (Value.Ptr (Pointer.At d o)) h = on (d == b) refl
  where
    on : (t : Bool) → (d == b) ≡ t → (d == b) ≡ false
    on true k = let is : d ≡ b = grind arith in absurd (false≢true (sym h ∙ ap quiet is ∙ e))
    on false k = k
shown_only quiet b e (Value.Ptr Pointer.Null) h = tt
shown_only quiet b e (Value.Ptr (Pointer.Func f)) h = tt
shown_only quiet b e Value.Poison h = tt
shown_only quiet b e (Value.Int z) h = tt

byte_only : (quiet : ℕ → Bool) (b : ℕ) → quiet b ≡ true → (z : Byte) → IsShownByte quiet z → IsShownByte (λ d. d == b) z
byte_only quiet b e Byte.Undefined h = tt
byte_only quiet b e (Byte.Number k) h = tt
byte_only quiet b e (Byte.Part p k) h = shown_only quiet b e (Value.Ptr p) h

ended_bytes : (t : Bool) (x : MemoryBlock) → (ended_if t x).bytes ≡ x.bytes
ended_bytes true x = refl
ended_bytes false x = refl

pub blocks_only : (quiet hides : ℕ → Bool) (b : ℕ) → quiet b ≡ true → (m : List MemoryBlock) → AreShownBlocks quiet m
    → AreShownBlocks (λ d. d == b) (muted hides m)
blocks_only quiet hides b e [] h = tt
blocks_only quiet hides b e (x ∷ m) h = (subst (AreShownBytes (λ d. d == b)) (sym (ended_bytes (hides 0) x)) (each_map (IsShownByte quiet) (IsShownByte (λ d. d == b)) x.bytes (byte_only quiet b e) h.0), blocks_only quiet (λ i. hides (suc i)) b e m h.1)

pub fade : (quiet hides : ℕ → Bool) (homes : List Home) (m n : List MemoryBlock) (ps : List Place) → Each (λ (p : Place). p.block < length homes) ps → AreShownBlocks quiet m → AreStanding homes (muted hides m) n → AreStanding (faded quiet homes ps) (muted hides m) n
fade quiet hides homes m n [] within shown st = st
fade quiet hides homes m n (p ∷ ps) within shown st = on (λ hs lts k. fade quiet hides hs m n ps lts shown k) (quiet p.block) refl
  where
    less : List Home
    less = set homes p.block (unseen (home_of homes p.block))

    Rest : Type 0
    Rest = (hs : List Home) → Each (λ (q : Place). q.block < length hs) ps → AreStanding hs (muted hides m) n → AreStanding (faded quiet hs ps) (muted hides m) n

    lower : (hs : List Home) → length hs ≡ length homes → Each (λ (q : Place). q.block < length hs) ps
    lower hs e = each_map _ _ ps (λ q lt. subst (λ l. q.block < l) (sym e) lt) within.1

    on : Rest → (t : Bool) → quiet p.block ≡ t → AreStanding (faded quiet (if t then less else homes) ps) (muted hides m) n
    on rest true e = rest less (lower less (length-set homes p.block _)) (forgotten homes less (muted hides m) n p.block (length-set homes p.block _) (λ d ne. get_or-set_other homes p.block d _ nowhere ne) (get_or-set_same homes p.block _ nowhere within.0) (blocks_only quiet hides p.block e m shown) st)
    on rest false e = rest homes (lower homes refl) st
