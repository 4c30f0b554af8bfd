-- What is known of memories of twins.
use Rattle.std.proofs.Common.{◌≡◌, ℕ, ◌<◌, ◌^◌, ◌||◌, Bool, true, false, not, List, [], ◌∷◌, length, map, Option, Some, None, refl, sym, ap, ◌∙◌, subst, arith}
use Rattle.std.specs.Prelude.{slice_get, ◌==◌}
use Rattle.std.proofs.lemmas.Bool.{false≢true}
use Rattle.pass_split_proof.proofs.states.OwnHomes.{own_home, own_seen}
use Rattle.pass_split_proof.specs.states.Memories.{AreTwins, AreTwinsAt, AreWorldsBeside, IsTwin, LivesAs, homes_of}
use Rattle.pass_proofs.specs.run_framed.Framed.{FramedGiven, frame_rights}
use Rattle.pass_proofs.proofs.run_laws.transfer.Carried.{muted_none}
use Rattle.pass_proofs.specs.run_laws.embedded.Related.{AreWorlds, moved_event}
use Rattle.pass_proofs.specs.run_laws.memory.Pointers.{Home, home_of}
use Rattle.pass_proofs.specs.run_laws.memory.Standing.{AreBoundsKept, AreNullsKept, HasBounds}
use Rattle.pass_proofs.specs.run_laws.transfer.Transfer.{AreOver}
use Rattle.pass_proofs.specs.run_memory.Memory.{Rights, is_killed, is_live, may_compare_at, owner_rights}
use Rattle.pass_proofs.specs.run_memory.Pointers.{moved}
use Rattle.pass_proofs.specs.run_memory.declared.block.Life.{Life}
use Rattle.pass_proofs.specs.run_memory.declared.block.MemoryBlock.{MemoryBlock}
use Rattle.pass_proofs.specs.run_memory.declared.pointer.Offset.{Offset}
use Rattle.pass_proofs.specs.run_source.declared.state.Instance.{Instance}
use Rattle.pass_proofs.specs.ir_base.declared.outcome.Event.{Event}
use Rattle.pass_proofs.specs.run_step.declared.world.World.{World}

-- ---- a block and its twin

pub record HasTwin (n : List MemoryBlock) (b : ℕ) (x : MemoryBlock) : Type 0 where
  pub twin : MemoryBlock
  pub there : slice_get n b ≡ Some twin
  pub is : IsTwin x twin

pub record IsTwinOf (m : List MemoryBlock) (b : ℕ) (y : MemoryBlock) : Type 0 where
  pub source : MemoryBlock
  pub there : slice_get m b ≡ Some source
  pub is : IsTwin source y

-- what lives isn't killed, and its twin lives too
live_unkilled : (l : Life) → is_live l ≡ true → is_killed l ≡ false
live_unkilled Life.Live e = refl
live_unkilled Life.Ended e = refl
live_unkilled Life.Killed e = absurd (cc)

lives_too : (l k : Life) → LivesAs l k → is_live l ≡ true → is_live k ≡ true
lives_too Life.Live k same e = ap is_live same
lives_too Life.Ended k same e = absurd (cc)
lives_too Life.Killed k same e = absurd (cc)

lived_before : (l k : Life) → LivesAs l k → is_live k ≡ true → is_killed l ≡ false
lived_before Life.Live k same e = refl
lived_before Life.Ended k same e = refl
lived_before Life.Killed k same e = absurd (false≢true (sym (ap is_live same) ∙ e))

pub twin_lives : (x y : MemoryBlock) → IsTwin x y → is_live x.life ≡ true → is_live y.life ≡ true
twin_lives x y t live = lives_too x.life y.life t.life live

-- so both have all their bytes where one of them lives
pub twin_full : (x y : MemoryBlock) → IsTwin x y → is_live x.life ≡ true → length x.bytes ≡ x.size
twin_full x y t live = t.full (live_unkilled x.life live)

pub full_twin : (x y : MemoryBlock) → IsTwin x y → is_live y.life ≡ true → length y.bytes ≡ y.size
full_twin x y t live = t.long ∙ t.full (lived_before x.life y.life t.life live)
    ∙ sym (ap (λ (z : MemoryBlock). z.size) t.is)

twin_of : (n : List MemoryBlock) (b : ℕ) (x : MemoryBlock) (o : Option MemoryBlock) → slice_get n b ≡ o
    → AreTwinsAt (Some x) o → HasTwin n b x
twin_of n b x None e t = absurd t
twin_of n b x (Some y) e t = record { twin = y; there = e; is = t }

source_of : (m : List MemoryBlock) (b : ℕ) (y : MemoryBlock) (o : Option MemoryBlock) → slice_get m b ≡ o
    → AreTwinsAt o (Some y) → IsTwinOf m b y
source_of m b y None e t = absurd t
source_of m b y (Some x) e t = record { source = x; there = e; is = t }

module _ (m n : List MemoryBlock) (t : AreTwins m n) where
  pub twin_at : (b : ℕ) (x : MemoryBlock) → slice_get m b ≡ Some x → HasTwin n b x
  twin_at b x e = twin_of n b x (slice_get n b) refl (subst (λ o. AreTwinsAt o (slice_get n b)) e (t.each b))

  pub source_at : (b : ℕ) (y : MemoryBlock) → slice_get n b ≡ Some y → IsTwinOf m b y
  source_at b y e = source_of m b y (slice_get m b) refl (subst (AreTwinsAt (slice_get m b)) e (t.each b))

  -- nobody owns a block
  pub unowned : (b : ℕ) (y : MemoryBlock) → slice_get n b ≡ Some y → y.owned ≡ None
  unowned b y e = ap (λ (z : MemoryBlock). z.owned) (source_at b y e).is.is

-- ---- pointers are compared, and have room

or_true : (a b : Bool) → (a || (b || true)) ≡ true
or_true true b = refl
or_true false true = refl
or_true false false = refl

pub free_compares : (b : ℕ) (y : Option MemoryBlock) (o : Offset) → ((z : MemoryBlock) → y ≡ Some z → z.owned ≡ None)
    → may_compare_at owner_rights b y o ≡ true
free_compares b None o free = refl
free_compares b (Some y) o free = compares y.owned (free y refl)
  where
    compares : (owner : Option ℕ) → owner ≡ None
        → may_compare_at owner_rights b (Some (record y { owned = owner })) o ≡ true
    compares owner e = subst (λ (w : Option ℕ). may_compare_at owner_rights b (Some (record y { owned = w })) o ≡ true)
        (sym e) (or_true (not (is_live y.life)) (o.bits == 0))

module _ (m n : List MemoryBlock) (t : AreTwins m n) where
  pub twin_nulls : (rights : Rights) → AreNullsKept rights owner_rights (homes_of m) m n
  twin_nulls rights = record {
    each = λ b o seen ok. free_compares (home_of (homes_of m) b).block (slice_get n (home_of (homes_of m) b).block)
        (moved o (home_of (homes_of m) b).offset) (λ z e. unowned m n t _ z e);
  }

  pub twin_bounds : AreBoundsKept (homes_of m) m n
  twin_bounds = record {
    each = λ b x seen e.
        let lt = own_seen (length m) b seen in
        let h = own_home (length m) b lt in
        let y = twin_at m n t b x e in
        let size : y.twin.size ≡ x.size = ap (λ (z : MemoryBlock). z.size) y.is.is in
        let small = y.is.small in
        subst (λ (q : Home). HasBounds n q x.size) (sym h) (record {
          block = y.twin;
          there = y.there;
          fits = omega (arith, size);
          small = subst (λ (k : ℕ). k < 2 ^ 64) (sym size) small;
        });
  }

-- ---- worlds

pub same_events : (es : List Event) → map (moved_event (λ d. d)) es ≡ es
same_events [] = refl
same_events (e ∷ es) = ap (λ rest. e ∷ rest) (same_events es)

module _ (g : FramedGiven) (instances : List Instance) (s t : World) where
  pub worlds_of : AreWorldsBeside g instances s t → AreWorlds (frame_rights g instances) owner_rights
      (homes_of s.memory) (λ d. d) s t
  worlds_of w = record {
    memory = w.memory.stands;
    nulls = twin_nulls s.memory t.memory w.memory.twins (frame_rights g instances);
    bounds = twin_bounds s.memory t.memory w.memory.twins;
    events = w.events ∙ sym (same_events s.events);
    answers = w.answers;
    allocs = w.allocs;
  }

  pub over_of : AreWorldsBeside g instances s t → AreOver (frame_rights g instances) owner_rights (homes_of s.memory)
      (λ b. false) (λ d. d) s t
  over_of w = subst (λ (m : List MemoryBlock). AreWorlds (frame_rights g instances) owner_rights (homes_of s.memory)
      (λ d. d) (record s { memory = m }) t) (sym (muted_none s.memory)) (worlds_of w)

  pub beside_of : AreTwins s.memory t.memory → AreOver (frame_rights g instances) owner_rights (homes_of s.memory)
      (λ b. false) (λ d. d) s t → AreWorldsBeside g instances s t
  beside_of twins over =
      let w = subst (λ (m : List MemoryBlock). AreWorlds (frame_rights g instances) owner_rights (homes_of s.memory)
      (λ d. d) (record s { memory = m }) t) (muted_none s.memory) over in
      record {
        memory = record { twins = twins; stands = w.memory };
        events = w.events ∙ same_events s.events;
        answers = w.answers;
        allocs = w.allocs;
      }
