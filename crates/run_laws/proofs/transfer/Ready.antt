-- An instruction that uses blocks which stand in their places, or come to stand there.
use Rattle.std.proofs.Common.{◌≡◌, ◌≢◌, ℕ, suc, ◌<◌, ◌≤◌, ◌⊎◌, inl, inr, Bool, true, false, List, [], ◌∷◌, length, set, Option, Some, None, refl, sym, ap, ◌∙◌, subst, ⊎_elim, arith, if◌then◌else◌, get_or-set_other}
use Rattle.std.proofs.lemmas.Bool.{cases_eq, false≢true}
use Rattle.std.proofs.lemmas.List.{get_or-set_same, length-set}
use Rattle.std.specs.Prelude.{option_map, slice_get, ◌==◌}
use Rattle.run_memory.specs.Memory.{Rights, is_live}
use Rattle.run_memory.specs.Pointers.{moved}
use Rattle.run_memory.specs.declared.block.Byte.{Byte}
use Rattle.run_memory.specs.declared.block.MemoryBlock.{MemoryBlock}
use Rattle.run_memory.specs.declared.pointer.Offset.{Offset}
use Rattle.run_memory.specs.declared.pointer.Pointer.{Pointer}
use Rattle.run_memory.specs.declared.pointer.Value.{Value}
use Rattle.flow_solver.specs.Paths.{IsListed}
use Rattle.run_laws.proofs.memory.Homes.{move_extends, value_on}
use Rattle.run_laws.specs.memory.Pointers.{Extends, Home, IsValue, home_of, nowhere}
use Rattle.run_laws.specs.memory.Standing.{AreApart, AreByteRights}
use Rattle.run_step.specs.Step.{Context, Fetched, Work, action_of}
use Rattle.run_step.specs.Values.{element}
use Rattle.run_laws.proofs.embedded.Memories.{element_kept}
use Rattle.run_laws.specs.embedded.Related.{IsSameDistance}
use Rattle.run_laws.specs.changed.Changed.{Each}
use Rattle.run_laws.proofs.transfer.Muted.{element_muted, muted_get}
use Rattle.run_laws.proofs.transfer.Over.{step_over}
use Rattle.run_laws.proofs.transfer.Places.{blank_room, forgotten, muted_at, raised, seated, showing_it, showing_others}
use Rattle.run_laws.proofs.transfer.Shapes.{stays_on}
use Rattle.run_laws.specs.transfer.Muted.{IsShown, ended_if, muted}
use Rattle.run_laws.specs.transfer.Places.{AreShownBlocks, AreShownBytes, AreStanding, HasRoom, IsApartFrom, IsShownByte, MayBeSeen, seen, showing, unseen}
use Rattle.run_laws.specs.transfer.Ready.{ArePlaces, AreTwoPlaces, Comes, IsPartPlaced, IsPlace, IsPlaced, IsSettled, IsValueOver, Place, Stays, faded, home_at, shown_of, stood}
use Rattle.run_laws.specs.transfer.Transfer.{AreJoined, GoesOver, IsTransferred, Maps, StandsFor, args_at, given_at, looks_at}

each_with : {A : Type 0} (P Q R : A → Type 0) (xs : List A) → ((x : A) → P x → Q x → R x) → Each P xs → Each Q xs
    → Each R xs
each_with P Q R [] f h k = tt
each_with P Q R (x ∷ xs) f h k = (f x h.0 k.0, each_with P Q R xs f h.1 k.1)

each_map : {A : Type 0} (P Q : A → Type 0) (xs : List A) → ((x : A) → P x → Q x) → Each P xs → Each Q xs
each_map P Q [] f h = tt
each_map P Q (x ∷ xs) f h = (f x h.0, each_map P Q xs f h.1)

module _ (rights target : Rights) where
  -- whether pointers are about already
  may_be : (n : List MemoryBlock) (q : Home) (b : ℕ) (x : Option MemoryBlock) (s : Bool)
      → MayBeSeen rights target n q b x → MayBeSeen rights target n (record q { is_seen = s }) b x
  may_be n q b x s may = record {
    nulls = may.nulls;
    bounds = λ z e. let h = may.bounds z e in record {
      block = h.block;
      there = h.there;
      fits = h.fits;
      small =
          h.small;
    };
  }

  -- ---- one place

  module _ (homes : List Home) (hides : ℕ → Bool) (m n : List MemoryBlock) (p : Place) where
    abbrev more : List Home
    more = set homes p.block (home_at p)

    others_stay : (d : ℕ) → d ≢ p.block → home_of more d ≡ home_of homes d
    others_stay d ne = get_or-set_other homes p.block d (home_at p) nowhere ne

    at_home : p.block < length homes → home_of more p.block ≡ home_at p
    at_home lt = get_or-set_same homes p.block (home_at p) nowhere lt

    shown_at : slice_get (muted (showing hides p.block) m) p.block ≡ slice_get m p.block
    shown_at = muted_get (showing hides p.block) m p.block (showing_it hides p.block)

    muted_others : (d : ℕ) → d ≢ p.block → slice_get (muted (showing hides p.block) m) d ≡ slice_get (muted hides m) d
    muted_others d ne = muted_at (showing hides p.block) m d ∙ ap (λ t. option_map (ended_if t) (slice_get m d))
        (showing_others hides p.block d ne) ∙ sym (muted_at hides m d)

    stays_extend : (s : Bool) → home_of homes p.block ≡ record (home_at p) { is_seen = s } → p.block < length homes
        → Extends homes more
    stays_extend true e lt = record {
      each = λ d h. ⊎_elim (λ is. ap (home_of more) is ∙ at_home lt ∙ sym e ∙ ap
          (home_of homes) (sym is)) (λ ne. others_stay d ne) (cases_eq d p.block);
    }
    stays_extend false e lt = move_extends homes p.block (home_at p) (ap (λ (q : Home). q.is_seen) e)

    pub place_extends : p.block < length homes → IsSettled rights target homes hides m n p → Extends homes more
    place_extends lt (Stays s e h) = stays_extend s e lt
    place_extends lt (Comes un coming) = move_extends homes p.block (home_at p) un

    same_hides : hides p.block ≡ false → (d : ℕ) → showing hides p.block d ≡ hides d
    same_hides h d = ⊎_elim (λ e. ap (showing hides p.block) e ∙ showing_it hides p.block ∙ sym h ∙ ap hides (sym e))
        (showing_others hides p.block d) (cases_eq d p.block)

    pub ready_one : IsPlace rights target homes m n p → IsSettled rights target homes hides m n p
        → AreStanding rights target homes (muted hides m) n
        → AreStanding rights target more (muted (showing hides p.block) m) n
    ready_one is (Stays s e h) st =
        subst (λ (k : List MemoryBlock). AreStanding rights target more k n)
        (λ i. muted (λ d. sym (same_hides h d) i) m)
        (raised rights target homes more (muted hides m) n p.block (stays_extend s e is.within)
        (record {
          long = length-set homes p.block (home_at p);
          others = others_stay;
          here = at_home is.within ∙ sym
              (ap seen e);
        })
        (subst (λ (q : Home). MayBeSeen rights target n q p.block (slice_get (muted hides m) p.block)) (sym e)
        (subst (MayBeSeen rights target n (record (home_at p) { is_seen = s }) p.block)
        (sym (muted_get hides m p.block h)) (may_be n (home_at p) p.block (slice_get m p.block) s is.seen)))
        st)
    ready_one is (Comes un coming) st =
        seated rights target homes more (muted hides m) (muted (showing hides p.block) m) n p.block (record {
          extends = move_extends homes p.block (home_at p) un;
          long = subst (λ l. length homes ≤ l) (sym (length-set homes p.block (home_at p))) (omega arith);
          others = others_stay;
          same = muted_others;
          stands = λ x at live.
              let g = coming x (sym shown_at ∙ at) live in
              blank_room rights target more n p.block x (subst (λ l. p.block < l)
              (sym (length-set homes p.block (home_at p))) is.within) g.blank
              (subst (λ (q : Home). HasRoom rights target n q p.block x) (sym (at_home is.within)) g.room);
          apart = λ x at live.
              let g = coming x (sym shown_at ∙ at) live in
              subst (λ (q : Home). IsApartFrom rights homes (muted hides m) q p.block x)
              (sym (at_home is.within)) g.apart;
          seen = λ s.
              subst (λ (q : Home). MayBeSeen rights target n q p.block
              (slice_get (muted (showing hides p.block) m) p.block)) (sym (at_home is.within))
              (subst (MayBeSeen rights target n (home_at p) p.block) (sym shown_at) is.seen);
        }) st

    -- ---- what holds of another one stays

    pub place_kept : (q : Place) → IsPlace rights target homes m n q → IsPlace rights target more m n q
    place_kept q is = record {
      within = subst (λ l. q.block < l)
          (sym (length-set homes p.block (home_at p))) is.within;
      seen = is.seen;
    }

    pub settled_kept : p.block < length homes → (q : Place) → AreTwoPlaces rights m p q
        → IsSettled rights target homes hides m n q → IsSettled rights target more (showing hides p.block) m n q
    settled_kept lt q two (Stays s e h) = Stays s (others_stay q.block two.blocks ∙ e)
        (showing_others hides p.block q.block two.blocks ∙ h)
    settled_kept lt q two (Comes un coming) = Comes (ap (λ (h : Home). h.is_seen)
        (others_stay q.block two.blocks) ∙ un) (λ x at live.
        let g = coming x at live in
        record {
          blank = g.blank;
          room = g.room;
          apart = λ c z ne at' live' same. apart x at live g.apart c z ne at'
              live' same;
        })
      where
        of_both : (x z : MemoryBlock) → slice_get m q.block ≡ Some x → is_live x.life ≡ true
            → slice_get m p.block ≡ Some z → is_live z.life ≡ true → (home_of more p.block).block ≡ q.target
            → AreApart rights (home_of more p.block) (home_at q) p.block q.block z x
        of_both x z at live at' live' same =
            subst (λ (h : Home). AreApart rights h (home_at q) p.block q.block z x) (sym (at_home lt))
            (two.homes z x at' at live' live (ap (λ (h : Home). h.block) (sym (at_home lt)) ∙ same))

        apart : (x : MemoryBlock) → slice_get m q.block ≡ Some x → is_live x.life ≡ true
            → IsApartFrom rights homes (muted hides m) (home_at q) q.block x → (c : ℕ) (z : MemoryBlock) → c ≢ q.block
            → slice_get (muted (showing hides p.block) m) c ≡ Some z → is_live z.life ≡ true
            → (home_of more c).block ≡ q.target → AreApart rights (home_of more c) (home_at q) c q.block z x
        apart x at live old c z ne at' live' same = ⊎_elim
            (λ is.
            subst (λ i. AreApart rights (home_of more i) (home_at q) i q.block z x) (sym is)
            (of_both x z at live (sym shown_at ∙ ap (slice_get (muted (showing hides p.block) m))
            (sym is) ∙ at') live' (ap (λ i. (home_of more i).block) (sym is) ∙ same)))
            (λ np.
            subst (λ (h : Home). AreApart rights h (home_at q) c q.block z x) (sym (others_stay c np))
            (old c z ne (sym (muted_others c np) ∙ at') live' (ap (λ (h : Home). h.block)
            (sym (others_stay c np)) ∙ same)))
            (cases_eq c p.block)

  -- ---- all places

  trans_extends : (homes next most : List Home) → Extends homes next → Extends next most → Extends homes most
  trans_extends homes next most f g = record {
    each = λ b h. g.each b (ap (λ (q : Home). q.is_seen)
        (f.each b h) ∙ h) ∙ f.each b h;
  }

  pub rest_of : (homes : List Home) (hides : ℕ → Bool) (m n : List MemoryBlock) (p : Place) (ps : List Place)
      → ArePlaces rights target homes hides m n (p ∷ ps)
      → ArePlaces rights target (set homes p.block (home_at p)) (showing hides p.block) m n ps
  rest_of homes hides m n p ps are = record {
    places = each_map _ _ ps (place_kept homes hides m n p) are.places.1;
    settled = each_with _ _ _ ps (settled_kept homes hides m n p are.places.0.within) are.apart.0 are.settled.1;
    apart = are.apart.1;
  }

  pub ready_all : (homes : List Home) (hides : ℕ → Bool) (m n : List MemoryBlock) (ps : List Place)
      → ArePlaces rights target homes hides m n ps → AreStanding rights target homes (muted hides m) n
      → AreStanding rights target (stood homes ps) (muted (shown_of hides ps) m) n
  ready_all homes hides m n [] are st = st
  ready_all homes hides m n (p ∷ ps) are st =
      ready_all (set homes p.block (home_at p)) (showing hides p.block) m n ps (rest_of homes hides m n p ps are)
      (ready_one homes hides m n p are.places.0 are.settled.0 st)

  pub stood_extends : (homes : List Home) (hides : ℕ → Bool) (m n : List MemoryBlock) (ps : List Place)
      → ArePlaces rights target homes hides m n ps → Extends homes (stood homes ps)
  stood_extends homes hides m n [] are = record { each = λ b h. refl }
  stood_extends homes hides m n (p ∷ ps) are =
      trans_extends homes (set homes p.block (home_at p)) _
      (place_extends homes hides m n p are.places.0.within are.settled.0)
      (stood_extends (set homes p.block (home_at p)) (showing hides p.block) m n ps (rest_of homes hides m n p ps are))

  -- another block stands where it stood
  stood_others : (homes : List Home) (ps : List Place) (d : ℕ) → Each (λ (q : Place). q.block ≢ d) ps
      → home_of (stood homes ps) d ≡ home_of homes d
  stood_others homes [] d h = refl
  stood_others homes (p ∷ ps) d h = stood_others (set homes p.block
      (home_at p)) ps d h.1 ∙ get_or-set_other homes p.block d (home_at p) nowhere (λ e. h.0 (sym e))

  pub stood_at : (homes : List Home) (hides : ℕ → Bool) (m n : List MemoryBlock) (ps : List Place) (p : Place)
      → ArePlaces rights target homes hides m n ps → IsListed p ps → home_of (stood homes ps) p.block ≡ home_at p
  stood_at homes hides m n [] p are h = absurd h
  stood_at homes hides m n (q ∷ ps) p are (inl e) =
      subst (λ (z : Place). home_of (stood (set homes q.block (home_at q)) ps) z.block ≡ home_at z) (sym e)
      (stood_others (set homes q.block (home_at q)) ps q.block
      (each_map _ _ ps (λ z a. a.blocks) are.apart.0) ∙ get_or-set_same homes q.block
      (home_at q) nowhere are.places.0.within)
  stood_at homes hides m n (q ∷ ps) p are (inr h) = stood_at (set homes q.block (home_at q))
      (showing hides q.block) m n ps p (rest_of homes hides m n q ps are) h

  -- hidden blocks aren't seen
  pub still_hidden : (homes : List Home) (hides : ℕ → Bool) (ps : List Place) → ((b : ℕ) → hides b ≡ true
      → (home_of homes b).is_seen ≡ false) → (b : ℕ) → shown_of hides ps b ≡ true
      → (home_of (stood homes ps) b).is_seen ≡ false
  still_hidden homes hides [] h b e = h b e
  still_hidden homes hides (p ∷ ps) h b e = still_hidden (set homes p.block (home_at p))
      (showing hides p.block) ps one b e
    where
      one : (d : ℕ) → showing hides p.block d ≡ true → (home_of (set homes p.block (home_at p)) d).is_seen ≡ false
      one d k = ⊎_elim
          (λ is. absurd (false≢true (sym (ap (showing hides p.block) is ∙ showing_it hides p.block) ∙ k)))
          (λ ne. ap (λ (q : Home). q.is_seen) (get_or-set_other homes p.block d (home_at p) nowhere ne) ∙ h d
          (sym (showing_others hides p.block d ne) ∙ k))
          (cases_eq d p.block)

-- ---- the instruction

module _ (homes : List Home) (hides : ℕ
    → Bool) (maps : Maps) (ps : List Place) (c d : Context) (w x : Work) (joined : AreJoined homes hides maps c d w x)
    (are : ArePlaces c.rights d.rights homes hides w.world.memory x.world.memory ps) where
  abbrev m : List MemoryBlock
  m = w.world.memory

  extends : Extends homes (stood homes ps)
  extends = stood_extends c.rights d.rights homes hides m x.world.memory ps are

  pub joined_there : AreJoined (stood homes ps) (shown_of hides ps) maps c d w x
  joined_there =
      let st = ready_all c.rights d.rights homes hides m x.world.memory ps are
      (record { memory = joined.over.memory; nulls = joined.over.nulls; bounds = joined.over.bounds }) in
      record {
        over = record {
          memory = st.memory;
          nulls = st.nulls;
          bounds = st.bounds;
          events = joined.over.events;
          answers = joined.over.answers;
          allocs = joined.over.allocs;
        };
        hidden = still_hidden c.rights d.rights homes hides ps joined.hidden;
        answers = joined.answers;
        room = joined.room;
      }

  placed : (a b : Value) → IsPlaced ps a b → IsValue (stood homes ps) a b
  placed a b h =
      let e = stood_at c.rights d.rights homes hides m x.world.memory ps h.place are h.listed in
      subst (λ (z : Value). IsValue (stood homes ps) z b) (sym h.source) (
        ap (λ (q : Home). q.is_seen) e,
        h.target ∙ ap (λ (q : Home). Value.Ptr (Pointer.At q.block
            (moved h.offset q.offset))) (sym e),
      )

  value_there : (a b : Value) → IsValueOver homes ps a b → IsValue (stood homes ps) a b
  value_there a b h = ⊎_elim (value_on homes (stood homes ps) extends a b) (placed a b) h

  transferred : (here there : Fetched) → IsTransferred (IsValueOver homes ps) maps c d w.values x.values here there
      → IsTransferred (IsValue (stood homes ps)) maps c d w.values x.values here there
  transferred here there k = record {
    shape = stays_on (StandsFor (looks_at here) (IsValueOver homes ps) c d w.values x.values)
        (StandsFor (looks_at here) (IsValue (stood homes ps)) c d w.values x.values)
        (λ a b. on (looks_at here) a b) maps.label here there k.shape;
    callee = k.callee;
    pointed = k.pointed;
    distance = k.distance;
    cases = k.cases;
    no_slot = k.no_slot;
    bytes = k.bytes;
  }
    where
      on : (t : Bool) (a b : _) → StandsFor t (IsValueOver homes ps) c d w.values x.values a b
          → StandsFor t (IsValue (stood homes ps)) c d w.values x.values a b
      on true a b h = λ ty. value_there _ _ (h ty)
      on false a b h = tt

  pub used_step : (here there : Fetched) → AreByteRights c.rights → AreByteRights d.rights
      → IsTransferred (IsValueOver homes ps) maps c d w.values x.values here there
      → GoesOver c.rights d.rights (stood homes ps) (shown_of hides ps) maps (given_at here) (args_at here) (args_at there) w x
      (action_of c w here) (action_of d x there)
  used_step here there law law' k = step_over (stood homes ps)
      (shown_of hides ps) maps c d w x here there law law' joined_there (transferred here there k)

  -- ---- addresses in slots

  -- a block that stands in its place isn't hidden
  placed_shown : (p : Place) → IsListed p ps → shown_of hides ps p.block ≡ false
  placed_shown p listed = on (shown_of hides ps p.block) refl
    where
      on : (t : Bool) → shown_of hides ps p.block ≡ t → shown_of hides ps p.block ≡ false
      on true e = absurd (false≢true (sym (still_hidden c.rights d.rights homes hides ps joined.hidden p.block e) ∙ ap
          (λ (q : Home). q.is_seen) (stood_at c.rights d.rights homes hides m x.world.memory ps p are listed)))
      on false e = e

  part_of : (p : Place) → IsListed p ps → (a b : Value)
      → (a ≡ Value.Poison) ⊎ ((o : Offset) × (a ≡ Value.Ptr (Pointer.At p.block o))) → IsValue (stood homes ps) a b
      → IsPartPlaced ps a b
  part_of p listed a b (inl e) k = inl e
  part_of p listed a b (inr e) k =
      let v = subst (λ (z : Value). IsValue (stood homes ps) z b) e.1 k in
      let home = stood_at c.rights d.rights homes hides m x.world.memory ps p are listed in
      inr (record {
        place = p;
        listed = listed;
        offset = e.0;
        source = e.1;
        target = v.1 ∙ ap (λ (q : Home). Value.Ptr
            (Pointer.At q.block (moved e.0 q.offset))) home;
      })

  stays_inside : (memory : List MemoryBlock) (inbounds : Bool) (b : ℕ) (o : Offset) (k : Option ℕ)
      → (element memory inbounds (Value.Ptr (Pointer.At b o)) k ≡ Value.Poison) ⊎
      ((q : Offset) × (element memory inbounds (Value.Ptr (Pointer.At b o)) k ≡ Value.Ptr (Pointer.At b q)))
  stays_inside memory inbounds b o None = inl refl
  stays_inside memory inbounds b o (Some k) = on _
    where
      on : (t : Bool) → ((if t then Value.Poison else Value.Ptr (Pointer.At b (moved o k))) ≡ Value.Poison) ⊎
          ((q : Offset) × ((if t then Value.Poison else Value.Ptr (Pointer.At b (moved o k))) ≡ Value.Ptr
          (Pointer.At b q)))
      on true = inl refl
      on false = inr (moved o k, refl)

  pub part_placed : (inbounds : Bool) (a b : Value) (e f : Option ℕ) → IsPlaced ps a b → IsSameDistance e f
      → IsPartPlaced ps (element m inbounds a e) (element x.world.memory inbounds b f)
  part_placed inbounds a b None f h k = inl refl
  part_placed inbounds a b (Some e) f h k =
      let v : IsValue (stood homes ps) a b = placed a b h in
      let shown : IsShown (shown_of hides ps) a = subst (IsShown (shown_of hides ps)) (sym h.source)
      (placed_shown h.place h.listed) in
      let kept = element_kept (stood homes ps)
      (muted (shown_of hides ps) m) x.world.memory joined_there.over.bounds inbounds a b (Some e) v in
      let here : IsValue (stood homes ps) (element m inbounds a (Some e)) (element x.world.memory inbounds b f) =
      subst (λ (z : Value). IsValue (stood homes ps) z (element x.world.memory inbounds b f))
      (element_muted (shown_of hides ps) m inbounds a (Some e) shown)
      (subst (λ (z : Option ℕ). IsValue (stood homes ps) (element (muted (shown_of hides ps) m) inbounds a (Some e))
      (element x.world.memory inbounds b z)) (sym k) kept) in
      part_of h.place h.listed _ _
      (subst (λ (z : Value). (element m inbounds z (Some e) ≡ Value.Poison) ⊎ ((q : Offset) × (element m inbounds z
      (Some e) ≡ Value.Ptr (Pointer.At h.place.block q)))) (sym h.source)
      (stays_inside m inbounds h.place.block h.offset (Some e)))
      here

-- ---- pointers are no longer about

shown_only : (quiet : ℕ → Bool) (b : ℕ) → quiet b ≡ true → (v : Value) → IsShown quiet v → IsShown (λ d. d == b) v
shown_only quiet b e (Value.Ptr (Pointer.At d o)) h = on (d == b) refl
  where
    on : (t : Bool) → (d == b) ≡ t → (d == b) ≡ false
    on true k = let is : d ≡ b = grind arith in absurd (false≢true (sym h ∙ ap quiet is ∙ e))
    on false k = k
shown_only quiet b e (Value.Ptr Pointer.Null) h = tt
shown_only quiet b e (Value.Ptr (Pointer.Func f)) h = tt
shown_only quiet b e Value.Poison h = tt
shown_only quiet b e (Value.Int z) h = tt

byte_only : (quiet : ℕ → Bool) (b : ℕ) → quiet b ≡ true → (z : Byte) → IsShownByte quiet z
    → IsShownByte (λ d. d == b) z
byte_only quiet b e Byte.Undefined h = tt
byte_only quiet b e (Byte.Number k) h = tt
byte_only quiet b e (Byte.Part p k) h = shown_only quiet b e (Value.Ptr p) h

ended_bytes : (t : Bool) (x : MemoryBlock) → (ended_if t x).bytes ≡ x.bytes
ended_bytes true x = refl
ended_bytes false x = refl

blocks_only : (quiet hides : ℕ → Bool) (b : ℕ) → quiet b ≡ true → (m : List MemoryBlock) → AreShownBlocks quiet m
    → AreShownBlocks (λ d. d == b) (muted hides m)
blocks_only quiet hides b e [] h = tt
blocks_only quiet hides b e (x ∷ m) h = (
  subst (AreShownBytes (λ d. d == b)) (sym (ended_bytes (hides 0) x))
      (each_map (IsShownByte quiet) (IsShownByte (λ d. d == b)) x.bytes (byte_only quiet b e) h.0),
  blocks_only quiet
      (λ i. hides (suc i)) b e m h.1,
)

pub fade : (rights target : Rights) (quiet hides : ℕ
    → Bool) (homes : List Home) (m n : List MemoryBlock) (ps : List Place)
    → Each (λ (p : Place). p.block < length homes) ps → AreShownBlocks quiet m
    → AreStanding rights target homes (muted hides m) n
    → AreStanding rights target (faded quiet homes ps) (muted hides m) n
fade rights target quiet hides homes m n [] within shown st = st
fade rights target quiet hides homes m n (p ∷ ps) within shown st = on
    (λ hs lts k. fade rights target quiet hides hs m n ps lts shown k) (quiet p.block) refl
  where
    less : List Home
    less = set homes p.block (unseen (home_of homes p.block))

    Rest : Type 0
    Rest = (hs : List Home) → Each (λ (q : Place). q.block < length hs) ps
        → AreStanding rights target hs (muted hides m) n
        → AreStanding rights target (faded quiet hs ps) (muted hides m) n

    lower : (hs : List Home) → length hs ≡ length homes → Each (λ (q : Place). q.block < length hs) ps
    lower hs e = each_map _ _ ps (λ q lt. subst (λ l. q.block < l) (sym e) lt) within.1

    on : Rest → (t : Bool) → quiet p.block ≡ t
        → AreStanding rights target (faded quiet (if t then less else homes) ps) (muted hides m) n
    on rest true e = rest less (lower less (length-set homes p.block _))
        (forgotten rights target homes less (muted hides m) n p.block
        (record {
          long = length-set homes p.block _;
          others = λ d ne. get_or-set_other homes p.block d _ nowhere
              ne;
          here = get_or-set_same homes p.block _ nowhere within.0;
        })
        (blocks_only quiet hides p.block e m shown) st)
    on rest false e = rest homes (lower homes refl) st
