-- A block in which no frame lies is changed in both runs: all that is said of the others stays.
use Rattle.std.proofs.Common.{◌≡◌, ◌≢◌, ◌<◌, inl, inr, ⊎_elim, ◌⊎◌, ℕ, zero, suc, Bool, true, false, not, List, [], ◌∷◌, length, replicate, Option, refl, sym, ap, ◌∙◌, arith, if◌then◌else◌, ◌||◌, ◌==◌}
use Rattle.std.proofs.lemmas.Bool.{cases_eq}
use Rattle.std.specs.Option.{option_map_or}
use Rattle.std.specs.Prelude.{Some, slice_get}
use Rattle.pass_elide_proof.proofs.Facts.{not_both}
use Rattle.pass_elide_proof.proofs.Onward.{GoesOn, IsRoom, LivesIn, sides_with}
use Rattle.pass_elide_proof.specs.Elision.{Elision}
use Rattle.pass_elide_proof.specs.Match.{AreElided, AreMates, IsNoGivenFrame, Sides, sides}
use Rattle.pass_elide_proof.specs.Ordinary.{with_at}
use Rattle.pass_proofs.proofs.ir_laws.facts.Lists.{get_within}
use Rattle.pass_proofs.proofs.run_laws.memory.Homes.{seen_within}
use Rattle.pass_proofs.proofs.run_laws.memory.Written.{changed_elsewhere, changed_here}
use Rattle.pass_proofs.proofs.run_laws.transfer.Muted.{muted_length}
use Rattle.pass_proofs.specs.run_framed.Framed.{is_given}
use Rattle.pass_proofs.specs.run_laws.embedded.Making.{whole_home}
use Rattle.pass_proofs.specs.run_laws.embedded.Marks.{IsAlone, LivesAlone}
use Rattle.pass_proofs.specs.run_laws.memory.Pointers.{Home, home_of}
use Rattle.pass_proofs.specs.run_laws.memory.Standing.{blank_block}
use Rattle.pass_proofs.specs.run_laws.transfer.Muted.{ended_if, muted}
use Rattle.pass_proofs.specs.run_memory.Memory.{ended, is_killed, is_live, killed_block, same_kind, started, with_block}
use Rattle.pass_proofs.specs.run_memory.declared.block.Byte.{Byte}
use Rattle.pass_proofs.specs.run_memory.declared.block.Kind.{Kind}
use Rattle.pass_proofs.specs.run_memory.declared.block.Life.{Life}
use Rattle.pass_proofs.specs.run_memory.declared.block.MemoryBlock.{MemoryBlock}
use Rattle.pass_proofs.specs.run_source.declared.state.Instance.{Instance}
use Rattle.pass_proofs.specs.run_source.declared.state.State.{State}

-- ---- lists

pub changed_many : (m : List MemoryBlock) (b : ℕ) (f : MemoryBlock → MemoryBlock) → length (with_block m b f) ≡ length m
changed_many [] b f = refl
changed_many (x ∷ m) zero f = refl
changed_many (x ∷ m) (suc b) f = ap suc (changed_many m b f)

shown_alive : (hides : ℕ → Bool) (m : List MemoryBlock) (c : ℕ) (z : MemoryBlock)
    → slice_get (muted hides m) c ≡ Some z → is_live z.life ≡ true → hides c ≡ false
shown_alive hides [] c z at live = absurd (cc)
shown_alive hides (x ∷ m) zero z at live = on (hides 0) refl
  where
    on : (t : Bool) → hides 0 ≡ t → hides 0 ≡ false
    on true is =
        let same : Some (ended_if true x) ≡ Some z = ap (λ (t : Bool). Some (ended_if t x)) (sym is) ∙ at in
        let block : ended_if true x ≡ z = cc in
        absurd (not_both (is_live z.life) live (ap (λ (u : MemoryBlock). is_live u.life) (sym block)))
    on false is = is
shown_alive hides (x ∷ m) (suc c) z at live = shown_alive (λ i. hides (suc i)) m c z at live

-- an instance whose frame was given lies in the block, or none does
pub record HasGiven (other : List MemoryBlock) (xs ys : List Instance) (c : ℕ) : Type 0 where
  pub number : ℕ
  pub first : Instance
  pub second : Instance
  pub at : slice_get xs number ≡ Some first
  pub to : slice_get ys number ≡ Some second
  pub given : is_given other second ≡ true
  pub same : first.block ≡ c

abbrev HasNone : List MemoryBlock → List Instance → List Instance → ℕ → Type 0
HasNone other xs ys c =
    (i : ℕ) (x y : Instance) → slice_get xs i ≡ Some x → slice_get ys i ≡ Some y → is_given other y ≡ true → x.block ≢ c

one_more : (other : List MemoryBlock) (x y : Instance) (xs ys : List Instance) (c : ℕ) → HasGiven other xs ys c
    → HasGiven other (x ∷ xs) (y ∷ ys) c
one_more other x y xs ys c h = record {
  number = suc h.number;
  first = h.first;
  second = h.second;
  at = h.at;
  to = h.to;
  given = h.given;
  same = h.same;
}

none_more : (other : List MemoryBlock) (x y : Instance) (xs ys : List Instance) (c : ℕ)
    → (is_given other y ≡ true → x.block ≢ c) → HasNone other xs ys c → HasNone other (x ∷ xs) (y ∷ ys) c
none_more other x y xs ys c first rest zero u w at to given same =
    let is : x ≡ u = cc in
    let too : y ≡ w = cc in
    first (ap (is_given other) too ∙ given) (ap (λ (z : Instance). z.block) is ∙ same)
none_more other x y xs ys c first rest (suc i) u w at to given same = rest i u w at to given same

pub given_or_none : (other : List MemoryBlock) (xs ys : List Instance) (c : ℕ)
    → HasGiven other xs ys c ⊎ HasNone other xs ys c
given_or_none other [] ys c = inr (λ i x y at to given same. absurd (cc))
given_or_none other (x ∷ xs) [] c = inr (λ i u y at to given same. absurd (cc))
given_or_none other (x ∷ xs) (y ∷ ys) c = on (is_given other y) refl (given_or_none other xs ys c)
  where
    rest : ((is_given other y ≡ true → x.block ≢ c)) → HasGiven other xs ys c ⊎ HasNone other xs ys c
        → HasGiven other (x ∷ xs) (y ∷ ys) c ⊎ HasNone other (x ∷ xs) (y ∷ ys) c
    rest first again =
        ⊎_elim (λ h. inl (one_more other x y xs ys c h)) (λ h. inr (none_more other x y xs ys c first h)) again

    on : (t : Bool) → is_given other y ≡ t → HasGiven other xs ys c ⊎ HasNone other xs ys c
        → HasGiven other (x ∷ xs) (y ∷ ys) c ⊎ HasNone other (x ∷ xs) (y ∷ ys) c
    on false is again = rest (λ given. absurd (not_both (is_given other y) given is)) again
    on true is again =
        ⊎_elim
        (λ same. inl (record {
          number = 0;
          first = x;
          second = y;
          at = refl;
          to = refl;
          given = is;
          same = same;
        }))
        (λ ne. rest (λ given. ne) again) (cases_eq x.block c)

-- ---- changes of one block

-- a change that leaves a block's size and kind, and that makes alike what differs in bytes
pub record IsChange (f : MemoryBlock → MemoryBlock) : Type 0 where
  pub size : (x : MemoryBlock) → (f x).size ≡ x.size
  pub kind : (x : MemoryBlock) → (f x).kind ≡ x.kind
  pub alike : (x : MemoryBlock) (bytes : List Byte)
      → (now : List Byte) × (f (record x { bytes = bytes }) ≡ record (f x) { bytes = now })

pub kills : IsChange killed_block
kills = record { size = λ x. refl; kind = λ x. refl; alike = λ x bytes. ([], refl) }

pub ends : IsChange ended
ends = record {
  size = λ x. size x (is_killed x.life);
  kind = λ x. kind x (is_killed x.life);
  alike = λ x bytes. alike x bytes (is_killed x.life);
}
  where
    size : (x : MemoryBlock) (t : Bool) → (if t then x else record x { life = Life.Ended }).size ≡ x.size
    size x true = refl
    size x false = refl

    kind : (x : MemoryBlock) (t : Bool) → (if t then x else record x { life = Life.Ended }).kind ≡ x.kind
    kind x true = refl
    kind x false = refl

    alike : (x : MemoryBlock) (bytes : List Byte) (t : Bool)
        → (now : List Byte) × ((if t then record x { bytes = bytes } else record x { life = Life.Ended; bytes = bytes })
        ≡ record (if t then x else record x { life = Life.Ended }) { bytes = now })
    alike x bytes true = (bytes, refl)
    alike x bytes false = (bytes, refl)

pub starts : IsChange started
starts = record {
  size = λ x. size x (is_killed x.life);
  kind = λ x. kind x (is_killed x.life);
  alike = λ x bytes. alike x bytes (is_killed x.life);
}
  where
    size : (x : MemoryBlock) (t : Bool)
        → (if t then x else record x { life = Life.Live; bytes = replicate x.size Byte.Undefined }).size ≡ x.size
    size x true = refl
    size x false = refl

    kind : (x : MemoryBlock) (t : Bool)
        → (if t then x else record x { life = Life.Live; bytes = replicate x.size Byte.Undefined }).kind ≡ x.kind
    kind x true = refl
    kind x false = refl

    alike : (x : MemoryBlock) (bytes : List Byte) (t : Bool)
        → (now : List Byte) × ((if t then record x { bytes = bytes }
        else record x { life = Life.Live; bytes = replicate x.size Byte.Undefined })
        ≡ record (if t then x else record x { life = Life.Live; bytes = replicate x.size Byte.Undefined }) {
          bytes = now;
        })
    alike x bytes true = (bytes, refl)
    alike x bytes false = (replicate x.size Byte.Undefined, refl)

-- ---- one block of both

module _ (e : Elision) (s t : State) (n : ℕ) (r : AreElided e s (with_at t n)) (b : ℕ) (was : MemoryBlock)
    (at : slice_get s.world.memory b ≡ Some was) (shown : r.hides b ≡ false)
    (ours : (i : ℕ) (x : Instance) → slice_get s.instances i ≡ Some x → x.block ≢ b)
    (theirs : (i : ℕ) (y : Instance) → slice_get t.instances i ≡ Some y → y.block ≢ (home_of r.homes b).block) where
  abbrev d : Sides
  d = sides s t

  abbrev pub home : ℕ
  home = (home_of r.homes b).block

  within : b < length s.world.memory
  within = get_within s.world.memory b was at

  no_frame : IsNoGivenFrame d b
  no_frame i x y there to given = ours i x there

  -- the block in the other run
  pub mate : (k : ℕ) × (bytes : List Byte) × (home_of r.homes b ≡ whole_home k)
      × (slice_get t.world.memory k ≡ Some (record was { bytes = bytes }))
  mate = r.mates.each b was at shown no_frame

  pub home_is : home ≡ mate.0
  home_is = ap (λ (h : Home). h.block) mate.2

  apart_by : (c : ℕ) → c < length s.world.memory → r.hides c ≡ false → c ≢ b
      → HasGiven t.world.memory s.instances t.instances c
      ⊎ HasNone t.world.memory s.instances t.instances c → (home_of r.homes c).block ≢ home
  apart_by c lt calm ne (inl h) same =
      theirs h.number h.second h.to
      (ap (λ (q : Home). q.block) (sym (r.instances h.number h.first h.second h.at h.to).home)
      ∙ (ap (λ (a : ℕ). (home_of r.homes a).block) h.same ∙ same))
  apart_by c lt calm ne (inr none) same = ne (r.mates.alone c b lt within calm shown none no_frame same)

  -- no other block that isn't hidden has its home there
  pub apart : (c : ℕ) → c < length s.world.memory → r.hides c ≡ false → c ≢ b → (home_of r.homes c).block ≢ home
  apart c lt calm ne = apart_by c lt calm ne (given_or_none t.world.memory s.instances t.instances c)

  pub lives_alone : LivesAlone r.homes (muted r.hides s.world.memory) b
  lives_alone c z ne there live =
      let lt = get_within (muted r.hides s.world.memory) c z there in
      let many = muted_length r.hides s.world.memory in
      apart c (omega (arith, lt, many)) (shown_alive r.hides s.world.memory c z there live) ne

  pub is_alone : IsAlone r.homes (muted r.hides s.world.memory) b
  is_alone = record {
    live = lives_alone;
    seen = λ c ne seen.
        let lt = seen_within r.homes c seen in
        let known = r.known in
        apart c (omega (arith, lt, known)) (calm c (r.hides c) refl seen) ne;
  }
    where
      calm : (c : ℕ) (p : Bool) → r.hides c ≡ p → (home_of r.homes c).is_seen ≡ true → r.hides c ≡ false
      calm c true is seen = absurd (not_both (home_of r.homes c).is_seen seen (r.hidden c is))
      calm c false is seen = is

  module _ (f : MemoryBlock → MemoryBlock) (change : IsChange f) where
    abbrev pub memory : List MemoryBlock
    memory = with_block s.world.memory b f

    abbrev pub other : List MemoryBlock
    other = with_block t.world.memory home f

    abbrev k : Sides
    k = sides_with d memory other

    elsewhere : (c : ℕ) → c ≢ home → slice_get other c ≡ slice_get t.world.memory c
    elsewhere c ne = changed_elsewhere t.world.memory home c f ne

    given : (i : ℕ) (y : Instance) → slice_get t.instances i ≡ Some y
        → is_given other y ≡ is_given t.world.memory y
    given i y to =
        ap (λ (o : Option MemoryBlock). option_map_or (λ (x : MemoryBlock). same_kind x.kind Kind.Stack) o false
        || not (y.start == 0)) (elsewhere y.block (theirs i y to))

    was_no_frame : (c : ℕ) → IsNoGivenFrame k c → IsNoGivenFrame d c
    was_no_frame c h i x y there to g = h i x y there to (given i y to ∙ g)

    lives : (i : ℕ) (y : Instance) → slice_get t.instances i ≡ Some y → is_given t.world.memory y ≡ true
        → LivesIn t.world.memory y.block → LivesIn other y.block
    lives i y to g h = (h.0, elsewhere y.block (theirs i y to) ∙ h.1, h.2)

    held : (c size : ℕ) → r.hides c ≡ true → slice_get s.world.memory c ≡ Some (blank_block size 16 Kind.Allocator)
        → (r.hides c ≡ true) × (slice_get memory c ≡ Some (blank_block size 16 Kind.Allocator))
    held c size h there = (h, changed_elsewhere s.world.memory b c f other_block ∙ there)
      where
        other_block : c ≢ b
        other_block same = not_both (r.hides c) h (ap r.hides same ∙ shown)

    long : (c : ℕ) → c < length memory → c < length s.world.memory
    long c lt = let many = changed_many s.world.memory b f in omega (arith, lt, many)

    rooms : (block size : ℕ) → IsRoom r.homes r.hides d block size → IsRoom r.homes r.hides k block size
    rooms block size room = record {
      there = room.there;
      is_there = elsewhere block (λ same. room.free b within shown no_frame (sym same)) ∙ room.is_there;
      kind = room.kind;
      live = room.live;
      sized = room.sized;
      full = room.full;
      free = λ c lt calm none. room.free c (long c lt) calm (was_no_frame c none);
    }

    pub changes_on : GoesOn d memory other r.homes r.homes r.hides r.hides
    changes_on = record {
      extends = record { each = λ c seen. refl };
      given = given;
      lives = lives;
      held = held;
      rooms = rooms;
    }

    -- ---- blocks that are alike in both runs

    abbrev Mate : ℕ → MemoryBlock → Type 0
    Mate c x =
        (j : ℕ) × (bytes : List Byte) × (home_of r.homes c ≡ whole_home j)
        × (slice_get other j ≡ Some (record x { bytes = bytes }))

    here : (c : ℕ) (x : MemoryBlock) → slice_get memory c ≡ Some x → c ≡ b → Mate c x
    here c x there is =
        let both : Some (f was) ≡ Some x
        = sym (changed_here s.world.memory b f was at) ∙ (ap (slice_get memory) (sym is) ∙ there) in
        let same : f was ≡ x = cc in
        let now = change.alike was mate.1 in (
          mate.0,
          now.0,
          ap (home_of r.homes) is ∙ mate.2,
          ap (λ (j : ℕ). slice_get (with_block t.world.memory j f) mate.0) home_is
              ∙ (changed_here t.world.memory mate.0 f (record was { bytes = mate.1 }) mate.3
              ∙ (ap Some now.1 ∙ ap (λ (u : MemoryBlock). Some (record u { bytes = now.0 })) same)),
        )

    away : (c : ℕ) (x : MemoryBlock) → slice_get memory c ≡ Some x → r.hides c ≡ false → IsNoGivenFrame k c → c ≢ b
        → Mate c x
    away c x there calm none ne =
        let old_there = sym (changed_elsewhere s.world.memory b c f ne) ∙ there in
        let old = r.mates.each c x old_there calm (was_no_frame c none) in
        let far : old.0 ≢ home
        = λ same. apart c (get_within s.world.memory c x old_there) calm ne
        (ap (λ (q : Home). q.block) old.2 ∙ same) in
        (old.0, old.1, old.2, elsewhere old.0 far ∙ old.3)

    pub mates_change : AreMates r.homes r.hides k
    mates_change = record {
      each = λ c x there calm none.
          ⊎_elim (λ is. here c x there is) (λ ne. away c x there calm none ne) (cases_eq c b);
      alone = λ a c lt gt calm still free none same.
          r.mates.alone a c (long a lt) (long c gt) calm still (was_no_frame a free) (was_no_frame c none) same;
    }
