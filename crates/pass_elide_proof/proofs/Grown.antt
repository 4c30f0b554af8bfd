-- Where both runs make a block, the new one stands in the other one's, and all that is said of blocks stays.
use Rattle.std.proofs.Common.{◌≡◌, ◌≢◌, ◌<◌, ◌+◌, ◌%◌, ◌^◌, ◌⊎◌, inl, inr, ⊎_elim, ℕ, zero, suc, Bool, true, false, not, List, [], ◌∷◌, ◌++◌, length, Option, refl, sym, ap, ◌∙◌, subst, arith, if◌then◌else◌, ◌&&◌, ◌||◌, ◌==◌, length-append}
use Rattle.std.proofs.lemmas.Bool.{cases_lt, ne_eqb}
use Rattle.std.proofs.lemmas.List.{get_or_at, length-replicate}
use Rattle.std.specs.Option.{option_map_or}
use Rattle.std.specs.Prelude.{Some, slice_get}
use Rattle.pass_elide_proof.proofs.Facts.{not_both, other_than}
use Rattle.pass_elide_proof.proofs.Onward.{GoesOn, IsRoom, LivesIn, sides_with}
use Rattle.pass_elide_proof.specs.Match.{AreMates, IsNoGivenFrame, Sides}
use Rattle.pass_proofs.proofs.ir_laws.facts.Lists.{get_front, get_last, get_within}
use Rattle.pass_proofs.proofs.ir_laws.facts.Truth.{itself}
use Rattle.pass_proofs.proofs.run_laws.memory.Homes.{append_extends, seen_within}
use Rattle.pass_proofs.proofs.run_laws.transfer.Grown.{made_together}
use Rattle.pass_proofs.proofs.run_laws.transfer.Muted.{muted_append, muted_length}
use Rattle.pass_proofs.specs.run_framed.Framed.{is_given}
use Rattle.pass_proofs.specs.run_laws.embedded.Making.{AreNewRights, whole_home}
use Rattle.pass_proofs.specs.run_laws.memory.Pointers.{Home, IsValue, home_of, nowhere}
use Rattle.pass_proofs.specs.run_laws.memory.Standing.{AreBoundsKept, HasRights, blank_block}
use Rattle.pass_proofs.specs.run_laws.transfer.Muted.{ended_if, muted}
use Rattle.pass_proofs.specs.run_laws.transfer.Places.{AreBothNew, AreStanding, AreThere, HasRoom, IsBlank, MayBeSeen, showing}
use Rattle.pass_proofs.specs.run_memory.Memory.{Rights, ended, is_live, may_compare_at, same_kind}
use Rattle.pass_proofs.specs.run_memory.Pointers.{moved}
use Rattle.pass_proofs.specs.run_memory.declared.block.Byte.{Byte}
use Rattle.pass_proofs.specs.run_memory.declared.block.Kind.{Kind}
use Rattle.pass_proofs.specs.run_memory.declared.block.MemoryBlock.{MemoryBlock}
use Rattle.pass_proofs.specs.run_memory.declared.pointer.Offset.{Offset}
use Rattle.pass_proofs.specs.run_memory.declared.pointer.Pointer.{Pointer}
use Rattle.pass_proofs.specs.run_memory.declared.pointer.Value.{Value}
use Rattle.pass_proofs.specs.run_source.declared.state.Instance.{Instance}
use Rattle.pass_proofs.specs.run_step.Values.{pointer_to}

-- ---- lists and truths

pub have_at : {A : Type 0} (xs : List A) (i : ℕ) → i < length xs → (x : A) × (slice_get xs i ≡ Some x)
have_at [] i lt = absurd (omega (arith, lt))
have_at (x ∷ xs) zero lt = (x, refl)
have_at (x ∷ xs) (suc i) lt = have_at xs i (omega (arith, lt))

and_true : (a : Bool) → (a && true) ≡ a
and_true true = refl
and_true false = refl

and_false : (a : Bool) → (a && false) ≡ false
and_false true = refl
and_false false = refl

and_first : (a b : Bool) → (a && b) ≡ true → a ≡ true
and_first true b e = refl
and_first false b e = absurd (cc)

home_other : (homes : List Home) (q : Home) (b : ℕ) → b ≢ length homes
    → home_of (homes ++ q ∷ []) b ≡ home_of homes b
home_other [] q zero ne = absurd (ne refl)
home_other [] q (suc b) ne = refl
home_other (h ∷ homes) q zero ne = refl
home_other (h ∷ homes) q (suc b) ne = home_other homes q b (λ e. ne (ap suc e))

muted_same : (hides later : ℕ → Bool) (m : List MemoryBlock) → ((c : ℕ) → c < length m → later c ≡ hides c)
    → muted later m ≡ muted hides m
muted_same hides later [] same = refl
muted_same hides later (x ∷ m) same =
    let first : later 0 ≡ hides 0 = same 0 (omega arith) in
    let rest = muted_same (λ c. hides (suc c)) (λ c. later (suc c)) m (λ c lt. same (suc c) (omega (arith, lt))) in
    λ j. ended_if (first j) x ∷ rest j

-- the new block; one with markers isn't alive
abbrev pub new_block : ℕ → ℕ → Kind → Bool → MemoryBlock
new_block size align kind marked = if marked then ended (blank_block size align kind) else blank_block size align kind

-- ---- what is said of blocks

module _ (d : Sides) (homes : List Home) (hides : ℕ → Bool) (z : MemoryBlock)
    (known : length homes ≡ length d.memory)
    (theirs : (i : ℕ) (y : Instance) → slice_get d.second i ≡ Some y → y.block < length d.other) where
  abbrev pub more : List Home
  more = homes ++ whole_home (length d.other) ∷ []

  abbrev pub later : ℕ → Bool
  later = showing hides (length d.memory)

  abbrev memory : List MemoryBlock
  memory = d.memory ++ z ∷ []

  abbrev other : List MemoryBlock
  other = d.other ++ z ∷ []

  abbrev k : Sides
  k = sides_with d memory other

  pub later_old : (c : ℕ) → c < length d.memory → later c ≡ hides c
  later_old c lt =
      (λ j. hides c && not (ne_eqb c (length d.memory) (other_than c (length d.memory) lt) j)) ∙ and_true (hides c)

  pub later_new : later (length d.memory) ≡ false
  later_new = (λ j. hides (length d.memory) && not (itself (length d.memory) j)) ∙ and_false (hides (length d.memory))

  pub was_hidden : (c : ℕ) → later c ≡ true → hides c ≡ true
  was_hidden c e = and_first (hides c) (not (c == length d.memory)) e

  home_elsewhere : (c : ℕ) → c ≢ length d.memory → home_of more c ≡ home_of homes c
  home_elsewhere c ne = home_other homes (whole_home (length d.other)) c (λ is. ne (is ∙ known))

  pub home_old : (c : ℕ) → c < length d.memory → home_of more c ≡ home_of homes c
  home_old c lt = home_elsewhere c (other_than c (length d.memory) lt)

  pub home_new : home_of more (length d.memory) ≡ whole_home (length d.other)
  home_new = get_or_at homes (whole_home (length d.other)) [] nowhere (length d.memory) known

  pub hidden_grown : ((b : ℕ) → hides b ≡ true → (home_of homes b).is_seen ≡ false) → (b : ℕ) → later b ≡ true
      → (home_of more b).is_seen ≡ false
  hidden_grown hidden b h =
      ap (λ (q : Home). q.is_seen) (home_elsewhere b other_block) ∙ hidden b (was_hidden b h)
    where
      other_block : b ≢ length d.memory
      other_block is = not_both (later b) h (ap later is ∙ later_new)

  -- a block of the framed run is an old one, or the new one
  abbrev IsOldOrNew : ℕ → Type 0
  IsOldOrNew b = (b < length d.memory) ⊎ (b ≡ length d.memory)

  old_or_new : (b : ℕ) → b < length memory → IsOldOrNew b
  old_or_new b lt =
      let long = length-append d.memory (z ∷ []) in
      ⊎_elim (λ old. inl old) (λ ge. inr (omega (arith, lt, ge, long))) (cases_lt b (length d.memory))

  -- ---- given frames

  given : (i : ℕ) (y : Instance) → slice_get d.second i ≡ Some y → is_given other y ≡ is_given d.other y
  given i y at =
      ap (λ (o : Option MemoryBlock). option_map_or (λ (x : MemoryBlock). same_kind x.kind Kind.Stack) o false
      || not (y.start == 0)) (get_front d.other (z ∷ []) y.block (theirs i y at))

  no_frame : (n : ℕ) → IsNoGivenFrame k n → IsNoGivenFrame d n
  no_frame n h i x y at to g = h i x y at to (given i y to ∙ g)

  lives : (i : ℕ) (y : Instance) → slice_get d.second i ≡ Some y → is_given d.other y ≡ true
      → LivesIn d.other y.block → LivesIn other y.block
  lives i y at g h = (h.0, get_front d.other (z ∷ []) y.block (theirs i y at) ∙ h.1, h.2)

  held : (b size : ℕ) → hides b ≡ true → slice_get d.memory b ≡ Some (blank_block size 16 Kind.Allocator)
      → (later b ≡ true) × (slice_get memory b ≡ Some (blank_block size 16 Kind.Allocator))
  held b size h there =
      let lt = get_within d.memory b (blank_block size 16 Kind.Allocator) there in
      (later_old b lt ∙ h, get_front d.memory (z ∷ []) b lt ∙ there)

  -- ---- allocas put in front

  free_by : (block size : ℕ) → IsRoom homes hides d block size → (n : ℕ) → IsOldOrNew n → later n ≡ false
      → IsNoGivenFrame k n → (home_of more n).block ≢ block
  free_by block size room n (inl lt) calm none same =
      room.free n lt (sym (later_old n lt) ∙ calm) (no_frame n none)
      (ap (λ (h : Home). h.block) (sym (home_old n lt)) ∙ same)
  free_by block size room n (inr is) calm none same =
      let at : length d.other ≡ block
      = ap (λ (h : Home). h.block) (sym home_new) ∙ (ap (λ (b : ℕ). (home_of more b).block) (sym is) ∙ same) in
      other_than block (length d.other) (get_within d.other block room.there room.is_there) (sym at)

  rooms : (block size : ℕ) → IsRoom homes hides d block size → IsRoom more later k block size
  rooms block size room = record {
    there = room.there;
    is_there = get_front d.other (z ∷ []) block (get_within d.other block room.there room.is_there) ∙ room.is_there;
    kind = room.kind;
    live = room.live;
    sized = room.sized;
    full = room.full;
    free = λ n lt calm none. free_by block size room n (old_or_new n lt) calm none;
  }

  pub grows_on : GoesOn d memory other homes more hides later
  grows_on = record {
    extends = append_extends homes (whole_home (length d.other) ∷ []);
    given = given;
    lives = lives;
    held = held;
    rooms = rooms;
  }

  -- ---- blocks that are alike in both runs

  module _ (mates : AreMates homes hides d) where
    abbrev Mate : ℕ → MemoryBlock → Type 0
    Mate b x =
        (c : ℕ) × (bytes : List Byte) × (home_of more b ≡ whole_home c)
        × (slice_get other c ≡ Some (record x { bytes = bytes }))

    mate_by : (b : ℕ) (x : MemoryBlock) → slice_get memory b ≡ Some x → later b ≡ false → IsNoGivenFrame k b
        → IsOldOrNew b → Mate b x
    mate_by b x there calm none (inl lt) =
        let old = mates.each b x (sym (get_front d.memory (z ∷ []) b lt) ∙ there) (sym (later_old b lt) ∙ calm)
        (no_frame b none) in
        let within = get_within d.other old.0 (record x { bytes = old.1 }) old.3 in
        (old.0, old.1, home_old b lt ∙ old.2, get_front d.other (z ∷ []) old.0 within ∙ old.3)
    mate_by b x there calm none (inr is) =
        let both : Some z ≡ Some x = sym (get_last d.memory z) ∙ (ap (slice_get memory) (sym is) ∙ there) in
        let same : z ≡ x = cc in (
          length d.other,
          x.bytes,
          ap (home_of more) is ∙ home_new,
          get_last d.other z ∙ ap Some same,
        )

    -- the home of an old block lies in a block that there was
    old_home : (b : ℕ) → b < length d.memory → later b ≡ false → IsNoGivenFrame k b
        → (home_of homes b).block < length d.other
    old_home b lt calm none =
        let x = have_at d.memory b lt in
        let old = mates.each b x.0 x.1 (sym (later_old b lt) ∙ calm) (no_frame b none) in
        subst (λ (c : ℕ). c < length d.other) (ap (λ (h : Home). h.block) (sym old.2))
        (get_within d.other old.0 (record x.0 { bytes = old.1 }) old.3)

    new_home : (b : ℕ) → b ≡ length d.memory → (home_of more b).block ≡ length d.other
    new_home b is = ap (λ (c : ℕ). (home_of more c).block) is ∙ ap (λ (h : Home). h.block) home_new

    alone_by : (a b : ℕ) → IsOldOrNew a → IsOldOrNew b → later a ≡ false → later b ≡ false → IsNoGivenFrame k a
        → IsNoGivenFrame k b → (home_of more a).block ≡ (home_of more b).block → a ≡ b
    alone_by a b (inl lt) (inl gt) calm still free none same =
        mates.alone a b lt gt (sym (later_old a lt) ∙ calm) (sym (later_old b gt) ∙ still) (no_frame a free)
        (no_frame b none) (ap (λ (h : Home). h.block) (sym (home_old a lt)) ∙ (same
        ∙ ap (λ (h : Home). h.block) (home_old b gt)))
    alone_by a b (inl lt) (inr is) calm still free none same =
        absurd (other_than (home_of homes a).block (length d.other) (old_home a lt calm free)
        (ap (λ (h : Home). h.block) (sym (home_old a lt)) ∙ (same ∙ new_home b is)))
    alone_by a b (inr is) (inl gt) calm still free none same =
        absurd (other_than (home_of homes b).block (length d.other) (old_home b gt still none)
        (ap (λ (h : Home). h.block) (sym (home_old b gt)) ∙ (sym same ∙ new_home a is)))
    alone_by a b (inr is) (inr too) calm still free none same = is ∙ sym too

    pub mates_grow : AreMates more later k
    mates_grow = record {
      each = λ b x there calm none.
          mate_by b x there calm none (old_or_new b (get_within memory b x there));
      alone = λ a b lt gt calm still free none same.
          alone_by a b (old_or_new a lt) (old_or_new b gt) calm still free none same;
    }

  -- the address of the new block
  pub new_pointer : IsValue more (pointer_to (length d.memory)) (pointer_to (length d.other))
  new_pointer =
      subst (λ (h : Home). (h.is_seen ≡ true)
      × (pointer_to (length d.other) ≡ Value.Ptr (Pointer.At h.block (record { bits = (0 + h.offset) % 2 ^ 64 }))))
      (sym home_new) (refl, refl)

-- ---- the memories

blocks_there : (homes : List Home) (m n : List MemoryBlock) → length homes ≡ length m → AreBoundsKept homes m n
    → AreThere homes n
blocks_there homes m n known bounds b seen =
    let lt = seen_within homes b seen in
    let x = have_at m b (omega (arith, lt, known)) in
    let at = bounds.each b x.0 seen x.1 in
    (at.block, at.there)

pub homes_there : (homes : List Home) (m n : List MemoryBlock) → length homes ≡ length m → AreBoundsKept homes m n
    → (b : ℕ) → (home_of homes b).is_seen ≡ true → (home_of homes b).block < length n
homes_there homes m n known bounds b seen =
    let at = blocks_there homes m n known bounds b seen in get_within n (home_of homes b).block at.0 at.1

module _ (R T : Rights) (d : Sides) (homes : List Home) (hides : ℕ → Bool) (size align : ℕ) (kind : Kind)
    (marked : Bool) (known : length homes ≡ length d.memory)
    (theirs : (i : ℕ) (y : Instance) → slice_get d.second i ≡ Some y → y.block < length d.other)
    (allowed : AreNewRights R T (length d.memory) (length d.other) kind kind) (small : size < 2 ^ 64)
    (free : (c : ℕ) (x : Option MemoryBlock) (o : Offset) → may_compare_at T c x o ≡ true)
    (old : AreStanding R T homes (muted hides d.memory) d.other) where
  abbrev z : MemoryBlock
  z = new_block size align kind marked

  abbrev then_hides : ℕ → Bool
  then_hides = later d homes hides z known theirs

  abbrev m : List MemoryBlock
  m = muted then_hides d.memory

  as_many : length d.memory ≡ length m
  as_many = sym (muted_length then_hides d.memory)

  now_known : length homes ≡ length m
  now_known = known ∙ as_many

  now_old : AreStanding R T homes m d.other
  now_old =
      subst (λ (n : List MemoryBlock). AreStanding R T homes n d.other)
      (sym (muted_same hides then_hides d.memory (later_old d homes hides z known theirs))) old

  blank : (t : Bool) → IsBlank (new_block size align kind t)
  blank true = refl
  blank false = refl

  sized : (t : Bool) → (new_block size align kind t).size ≡ size
  sized true = refl
  sized false = refl

  rights : HasRights R T (whole_home (length d.other)) (length m) (blank_block size align kind)
      (blank_block size align kind)
  rights =
      subst (λ (b : ℕ). HasRights R T (whole_home (length d.other)) b (blank_block size align kind)
      (blank_block size align kind)) as_many (allowed.allowed size align)

  room : (t : Bool) → t ≡ marked → is_live (new_block size align kind t).life ≡ true
      → HasRoom R T (d.other ++ new_block size align kind t ∷ []) (whole_home (length d.other)) (length m)
      (new_block size align kind t)
  room true is live = absurd (cc)
  room false is live = record {
    block = blank_block size align kind;
    there = get_last d.other (blank_block size align kind);
    live = refl;
    whole = length-replicate size Byte.Undefined;
    fits = omega arith;
    small = small;
    writable = λ h. h;
    allowed = rights;
  }

  seen : MayBeSeen R T (d.other ++ z ∷ []) (whole_home (length d.other)) (length m) (Some z)
  seen = record {
    nulls = λ o may. free (length d.other) (slice_get (d.other ++ z ∷ []) (length d.other)) (moved o 0);
    bounds = λ x is.
        let same : z ≡ x = cc in
        let wide : x.size ≡ size = ap (λ (u : MemoryBlock). u.size) (sym same) ∙ sized marked in
        let here : z.size ≡ size = sized marked in
        record {
          block = z;
          there = get_last d.other z;
          fits = omega (arith, wide, here);
          small = subst (λ (n : ℕ). n < 2 ^ 64) (sym here) small;
        };
  }

  both_new : AreBothNew R T homes m d.other z z
  both_new = record {
    known = now_known;
    there = blocks_there homes m d.other now_known now_old.bounds;
    blank = λ live. blank marked;
    room = room marked refl;
    seen = seen;
  }

  pub stands_grown : AreStanding R T (more d homes hides z known theirs) (muted then_hides (d.memory ++ z ∷ []))
      (d.other ++ z ∷ [])
  stands_grown =
      subst (λ (n : List MemoryBlock). AreStanding R T (more d homes hides z known theirs) n (d.other ++ z ∷ []))
      (muted_append then_hides d.memory z (later_new d homes hides z known theirs))
      (made_together R T homes m d.other z z both_new now_old)

  pub known_grown : length (more d homes hides z known theirs) ≡ length (d.memory ++ z ∷ [])
  known_grown =
      let wide = length-append homes (whole_home (length d.other) ∷ []) in
      let long = length-append d.memory (z ∷ []) in
      omega (arith, wide, long, known)
