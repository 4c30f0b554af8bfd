-- One block more in both memories.
use Rattle.std.proofs.Common.{◌≡◌, ◌≢◌, ℕ, zero, suc, ◌+◌, ◌^◌, ◌<◌, ◌≤◌, Bool, true, false, List, [], ◌∷◌, ◌++◌, length, Some, None, refl, sym, ap, ◌∙◌, subst, ⊎_elim, arith, if◌then◌else◌, length-append}
use Rattle.std.specs.Prelude.{slice_get}
use Rattle.std.proofs.lemmas.Bool.{cases_eq, cases_lt, false≢true}
use Rattle.std.proofs.lemmas.List.{get_or_append_left, get_or_at, get_or_past, length-replicate}
use Rattle.std.proofs.lemmas.Option.{slice_get_past}
use Rattle.run_memory.specs.Memory.{Rights, end, ended, fresh, is_live, may_compare, may_compare_at, same_kind}
use Rattle.run_memory.specs.Pointers.{moved}
use Rattle.run_memory.specs.declared.block.Byte.{Byte}
use Rattle.run_memory.specs.declared.block.Kind.{Kind}
use Rattle.run_memory.specs.declared.block.MemoryBlock.{MemoryBlock}
use Rattle.run_memory.specs.declared.pointer.Offset.{Offset}
use Rattle.run_laws.proofs.memory.Changes.{HasRoom, blank_stands, reseated, target_grows}
use Rattle.run_laws.proofs.memory.Homes.{append_extends, seen_within}
use Rattle.run_laws.proofs.memory.Written.{same_some}
use Rattle.run_laws.specs.memory.Pointers.{Home, home_of, nowhere}
use Rattle.run_laws.specs.memory.Standing.{AreBoundsKept, AreNullsKept, Embeds, HasBounds, Stands, blank_block}
use Rattle.run_laws.specs.embedded.Making.{AreNewRights, IsNewHome, whole_home}
use Rattle.run_laws.specs.embedded.Marks.{IsAlone, IsTwin, LivesAlone}

last_get : (m : List MemoryBlock) (x : MemoryBlock) → slice_get (m ++ x ∷ []) (length m) ≡ Some x
last_get [] x = refl
last_get (y ∷ m) x = last_get m x

other_get : (m : List MemoryBlock) (x : MemoryBlock) (c : ℕ) → c ≢ length m → slice_get (m ++ x ∷ []) c ≡ slice_get m c
other_get [] x zero ne = absurd (ne refl)
other_get [] x (suc c) ne = refl
other_get (y ∷ m) x zero ne = refl
other_get (y ∷ m) x (suc c) ne = other_get m x c (λ e. ne (ap suc e))

differ : (a b : ℕ) → a ≢ b → b ≤ a → b + 1 ≤ a
differ a b ne le = ⊎_elim (λ lt. omega arith) (λ ge. absurd (ne (omega arith))) (cases_lt b a)

other_home : (homes : List Home) (q : Home) (c : ℕ) → c ≢ length homes → home_of (homes ++ q ∷ []) c ≡ home_of homes c
other_home homes q c ne = ⊎_elim
    (λ lt. get_or_append_left homes (q ∷ []) nowhere c lt)
    (λ ge. let l = length-append homes (q ∷ []) in get_or_past (homes ++ q ∷ []) c nowhere (omega (arith, differ c (length homes) ne ge)) ∙ sym (get_or_past homes c nowhere ge))
    (cases_lt c (length homes))

-- the last block ends
pub end_last : (m : List MemoryBlock) (x : MemoryBlock) → end (m ++ x ∷ []) (length m) ≡ m ++ ended x ∷ []
end_last [] x = refl
end_last (y ∷ m) x = ap (λ k. y ∷ k) (end_last m x)

pub record There (m : List MemoryBlock) (b : ℕ) : Type 0 where
  pub block : MemoryBlock
  pub there : slice_get m b ≡ Some block

there_at : (m : List MemoryBlock) (b : ℕ) → b < length m → There m b
there_at [] b lt = absurd (omega arith)
there_at (x ∷ m) zero lt = record { block = x; there = refl }
there_at (x ∷ m) (suc b) lt = let h = there_at m b (omega arith) in record { block = h.block; there = h.there }

module _ (rights target : Rights) (homes : List Home) (m n : List MemoryBlock) (x y : MemoryBlock) (len : length homes ≡ length m) where
  abbrev q : Home
  q = whole_home (length n)

  abbrev more : List Home
  more = homes ++ q ∷ []

  abbrev after : List MemoryBlock
  after = n ++ y ∷ []

  pub own : home_of more (length m) ≡ q
  own = get_or_at homes q [] nowhere (length m) len

  other : (c : ℕ) → c ≢ length m → home_of more c ≡ home_of homes c
  other c ne = other_home homes q c (λ e. ne (e ∙ len))

  pub more_known : length more ≡ length (m ++ x ∷ [])
  more_known = let a = length-append homes (q ∷ []) in let b = length-append m (x ∷ []) in omega (arith, len)

  -- the block stands in the target's new one, where it lives
  pub embeds_grown : Embeds rights target homes m n → (is_live x.life ≡ true → Stands rights target more after (length m) x) → Embeds rights target more (m ++ x ∷ []) after
  embeds_grown em stands =
      reseated rights target homes more m (m ++ x ∷ []) after (length m) (append_extends homes (q ∷ [])) (omega (arith, length-append homes (q ∷ [])))
      other
      (target_grows rights target homes m n (y ∷ []) em)
      (λ c ne. other_get m x c ne)
      (λ z is live.
      let same : x ≡ z = same_some x z (sym (last_get m x) ∙ is) in
      subst (λ (u : MemoryBlock). Stands rights target more after (length m) u) same (stands (ap (λ (u : MemoryBlock). is_live u.life) same ∙ live)))
      (λ c z u ne at live is live' shared.
      let st = em.each c z at live in
      let there : slice_get n (length n) ≡ Some st.block = ap (slice_get n) (sym (shared ∙ ap (λ (h : Home). h.block) own)) ∙ st.there in
      let gone : slice_get n (length n) ≡ None = slice_get_past n (length n) (omega arith) in
      absurd (cc))

  -- a block into which pointers may be about stands where there is one
  home_there : AreBoundsKept homes m n → (b : ℕ) → (home_of homes b).is_seen ≡ true → (home_of homes b).block ≢ length n
  home_there bounds b seen e =
      let lt : b < length m = let l = seen_within homes b seen in omega (arith, len) in
      let z = there_at m b lt in
      let h = bounds.each b z.block seen z.there in
      let there : slice_get n (length n) ≡ Some h.block = ap (slice_get n) (sym e) ∙ h.there in
      let gone : slice_get n (length n) ≡ None = slice_get_past n (length n) (omega arith) in
      absurd (cc)

  pub nulls_grown : AreNullsKept rights target homes m n → AreBoundsKept homes m n → ((o : Offset) → may_compare rights (length m) x o ≡ true → may_compare target (length n) y (moved o 0) ≡ true) → AreNullsKept rights target more (m ++ x ∷ []) after
  nulls_grown nulls bounds new = record {
    each = λ b o seen e. ⊎_elim
        (λ is.
        let old : may_compare rights (length m) x o ≡ true = ap (λ z. may_compare_at rights (length m) z o) (sym (last_get m x)) ∙ ap (λ i. may_compare_at rights i (slice_get (m ++ x ∷ []) i) o) (sym is) ∙ e in
        subst (λ (h : Home). may_compare_at target h.block (slice_get after h.block) (moved o h.offset) ≡ true) (sym (ap (home_of more) is ∙ own))
        (ap (λ z. may_compare_at target (length n) z (moved o 0)) (last_get n y) ∙ new o old))
        (λ ne.
        let same = other b ne in
        let seen' : (home_of homes b).is_seen ≡ true = ap (λ (h : Home). h.is_seen) (sym same) ∙ seen in
        let old : may_compare_at rights b (slice_get m b) o ≡ true = ap (λ z. may_compare_at rights b z o) (sym (other_get m x b ne)) ∙ e in
        subst (λ (h : Home). may_compare_at target h.block (slice_get after h.block) (moved o h.offset) ≡ true) (sym same)
        (ap (λ z. may_compare_at target (home_of homes b).block z (moved o (home_of homes b).offset)) (other_get n y (home_of homes b).block (home_there bounds b seen')) ∙ nulls.each b o seen' old))
        (cases_eq b (length m));
  }

  pub bounds_grown : AreBoundsKept homes m n → x.size ≤ y.size → y.size < 2 ^ 64 → AreBoundsKept more (m ++ x ∷ []) after
  bounds_grown bounds fits small = record {
    each = λ b z seen at. ⊎_elim
        (λ is.
        let same : x ≡ z = same_some x z (sym (last_get m x) ∙ ap (slice_get (m ++ x ∷ [])) (sym is) ∙ at) in
        subst (λ (u : MemoryBlock). HasBounds after (home_of more b) u.size) same
        (subst (λ (h : Home). HasBounds after h x.size) (sym (ap (home_of more) is ∙ own)) here))
        (λ ne.
        let same = other b ne in
        let seen' : (home_of homes b).is_seen ≡ true = ap (λ (h : Home). h.is_seen) (sym same) ∙ seen in
        let h = bounds.each b z seen' (sym (other_get m x b ne) ∙ at) in
        subst (λ (h : Home). HasBounds after h z.size) (sym same)
        (record { block = h.block; there = other_get n y (home_of homes b).block (home_there bounds b seen') ∙ h.there; fits = h.fits; small = h.small }))
        (cases_eq b (length m));
  }
    where
      here : HasBounds after q x.size
      here = record { block = y; there = last_get n y; fits = omega (arith, fits); small = small }

  own_first : (home_of more (length homes)).block ≡ length n
  own_first = ap (λ (h : Home). h.block) (get_or_at homes q [] nowhere (length homes) refl)

  home_same : (c : ℕ) → c ≢ length m → (home_of homes c).block ≡ (home_of more c).block
  home_same c ne = ap (λ (h : Home). h.block) (sym (other c ne))

  pub alone_new : Embeds rights target homes m n → AreBoundsKept homes m n → IsAlone more (m ++ x ∷ []) (length homes)
  alone_new em bounds = record {
    live = λ c z ne at live e.
        let nm : c ≢ length m = λ i. ne (i ∙ sym len) in
        let st = em.each c z (sym (other_get m x c nm) ∙ at) live in
        let there : slice_get n (length n) ≡ Some st.block = ap (slice_get n) (sym (home_same c nm ∙ e ∙ own_first)) ∙ st.there in
        let gone : slice_get n (length n) ≡ None = slice_get_past n (length n) (omega arith) in
        absurd (cc);
    seen = λ c ne seen e.
        let nm : c ≢ length m = λ i. ne (i ∙ sym len) in
        home_there bounds c (ap (λ (h : Home). h.is_seen) (sym (other c nm)) ∙ seen) (home_same c nm ∙ e ∙ own_first);
  }

  module _ (bounds : AreBoundsKept homes m n) (b : ℕ) (seen : (home_of homes b).is_seen ≡ true) where
    not_last : b ≢ length m
    not_last is = let l = seen_within homes b seen in absurd (omega (arith, len, is))

    far : (c : ℕ) → c ≡ length m → (home_of more c).block ≡ (home_of more b).block → ⊥
    far c is e = home_there bounds b seen (home_same b not_last ∙ sym e ∙ ap (λ (h : Home). h.block) (ap (home_of more) is ∙ own))

    pub lives_others : LivesAlone homes m b → LivesAlone more (m ++ x ∷ []) b
    lives_others alone = λ c z ne at live e. ⊎_elim
        (λ is. far c is e)
        (λ nc. alone c z ne (sym (other_get m x c nc) ∙ at) live (home_same c nc ∙ e ∙ sym (home_same b not_last)))
        (cases_eq c (length m))

    pub alone_others : IsAlone homes m b → IsAlone more (m ++ x ∷ []) b
    alone_others alone = record {
      live = lives_others alone.live;
      seen = λ c ne there e. ⊎_elim
          (λ is. far c is e)
          (λ nc. alone.seen c ne (ap (λ (h : Home). h.is_seen) (sym (other c nc)) ∙ there) (home_same c nc ∙ e ∙ sym (home_same b not_last)))
          (cases_eq c (length m));
    }

  pub new_home : Embeds rights target homes m n → AreBoundsKept homes m n → IsTwin after q x → IsNewHome homes (length n) m (m ++ x ∷ []) after
  new_home em bounds twin = record {
    alone = alone_new em bounds;
    others = alone_others bounds;
    lives = lives_others bounds;
    twin = λ z at.
        let same : x ≡ z = same_some x z (sym (last_get m x) ∙ ap (slice_get (m ++ x ∷ [])) (sym len) ∙ at) in
        subst (λ (u : MemoryBlock). IsTwin after q u) same twin;
  }

-- a memory that stands in another, with all that a work asks of it
pub record IsMade (rights target : Rights) (homes : List Home) (old : List MemoryBlock) (k : ℕ) (m n : List MemoryBlock) : Type 0 where
  pub memory : Embeds rights target (homes ++ whole_home k ∷ []) m n
  pub nulls : AreNullsKept rights target (homes ++ whole_home k ∷ []) m n
  pub bounds : AreBoundsKept (homes ++ whole_home k ∷ []) m n
  pub known : length (homes ++ whole_home k ∷ []) ≡ length m
  pub new : IsNewHome homes k old m n

module _ (rights target : Rights) (homes : List Home) (m n : List MemoryBlock) (known : length homes ≡ length m) (em : Embeds rights target homes m n) (nulls : AreNullsKept rights target homes m n) (bounds : AreBoundsKept homes m n) (size align : ℕ) (kind other : Kind) (small : size < 2 ^ 64) (new : AreNewRights rights target (length m) (length n) kind other) (writable : same_kind kind Kind.Constant ≡ false → same_kind other Kind.Constant ≡ false) where
  abbrev source : MemoryBlock
  source = blank_block size align kind

  abbrev made : MemoryBlock
  made = blank_block size align other

  abbrev longer : List Home
  longer = homes ++ whole_home (length n) ∷ []

  fresh_room : HasRoom rights target (fresh n size align other) (whole_home (length n)) (length m) source
  fresh_room = record {
    block = made;
    there = last_get n made;
    live = refl;
    whole = length-replicate size Byte.Undefined;
    fits = omega arith;
    small = small;
    writable = writable;
    allowed = new.allowed size align;
  }

  fresh_stands : Stands rights target longer (fresh n size align other) (length m) source
  fresh_stands =
      blank_stands rights target longer (fresh n size align other) (length m) source (omega (arith, known, length-append homes (whole_home (length n) ∷ []))) refl
      (subst (λ (h : Home). HasRoom rights target (fresh n size align other) h (length m) source) (sym (own rights target homes m n source made known)) fresh_room)

  pub fresh_made : IsMade rights target homes m (length n) (fresh m size align kind) (fresh n size align other)
  fresh_made = record {
    memory = embeds_grown rights target homes m n source made known em (λ live. fresh_stands);
    nulls = nulls_grown rights target homes m n source made known nulls bounds (λ o e. new.nulls size align o e);
    bounds = bounds_grown rights target homes m n source made known bounds (omega arith) small;
    known = more_known rights target homes m n source made known;
    new = new_home rights target homes m n source made known em bounds (record { block = made; there = last_get n made; start = refl; unkilled = λ e. refl; owner = refl; align = refl; writable = writable });
  }

  ended_made : IsMade rights target homes m (length n) (m ++ ended source ∷ []) (n ++ ended made ∷ [])
  ended_made = record {
    memory = embeds_grown rights target homes m n (ended source) (ended made) known em (λ live. absurd (false≢true live));
    nulls = nulls_grown rights target homes m n (ended source) (ended made) known nulls bounds (λ o e. refl);
    bounds = bounds_grown rights target homes m n (ended source) (ended made) known bounds (omega arith) small;
    known = more_known rights target homes m n (ended source) (ended made) known;
    new = new_home rights target homes m n (ended source) (ended made) known em bounds (record { block = ended made; there = last_get n (ended made); start = refl; unkilled = λ e. refl; owner = refl; align = refl; writable = writable });
  }

  -- with markers, and without
  pub slot_made : (t : Bool) → IsMade rights target homes m (length n) (if t then end (fresh m size align kind) (length m) else fresh m size align kind) (if t then end (fresh n size align other) (length n) else fresh n size align other)
  slot_made true = subst (λ (p : List MemoryBlock × List MemoryBlock). IsMade rights target homes m (length n) p.0 p.1) (λ i. (sym (end_last m source) i, sym (end_last n made) i)) ended_made
  slot_made false = fresh_made
