-- A block of the first run and the block in which it stands die in both runs.
use Rattle.std.proofs.Common.{◌≡◌, ◌≢◌, ◌+◌, ◌<◌, inl, inr, ⊎_elim, ℕ, Bool, true, false, List, [], ◌∷◌, length, refl, sym, ap, ◌∙◌, subst, not, ◌||◌, ◌==◌}
use Rattle.std.proofs.lemmas.Bool.{cases_eq}
use Rattle.std.specs.Option.{option_map_or}
use Rattle.std.specs.Prelude.{None, Option, Some, if◌then◌else◌, option_map, slice_get}
use Rattle.pass_elide_proof.proofs.FrameDies.{changed_long}
use Rattle.pass_elide_proof.proofs.KindsStay.{given_kept, many_kept, one_kept}
use Rattle.pass_elide_proof.specs.Counts.{capped, counted, given_frames}
use Rattle.pass_elide_proof.specs.Elision.{Elision, elided, framed, function_in, rooms}
use Rattle.pass_elide_proof.specs.Match.{AreActivations, AreBelow, AreElided, AreInstances, AreMates, AreNamed, AreReleased, HasAlloca, HasAllocas, HoldsBlock, IsAt, IsFreedAs, IsNoGivenFrame, Sides, held_blocks, held_name, instance_in, is_given_mode, sides, was_given}
use Rattle.pass_elide_proof.specs.Places.{allocas_ahead}
use Rattle.pass_proofs.proofs.ir_laws.facts.Lists.{get_within}
use Rattle.pass_proofs.proofs.run_laws.embedded.Mirrors.{bounds_changed, dies_embedded}
use Rattle.pass_proofs.proofs.run_laws.memory.Written.{changed_elsewhere, changed_here, same_some}
use Rattle.pass_proofs.proofs.run_laws.transfer.Muted.{muted_change, muted_get}
use Rattle.pass_proofs.proofs.run_laws.transfer.Places.{muted_at}
use Rattle.pass_proofs.specs.ir_model.declared.instr.Instr.{Instr}
use Rattle.pass_proofs.specs.run_framed.Framed.{frame_rights, is_given}
use Rattle.pass_proofs.specs.run_laws.changed.Changed.{Each}
use Rattle.pass_proofs.specs.run_laws.embedded.Making.{whole_home}
use Rattle.pass_proofs.specs.run_laws.embedded.Marks.{LivesAlone}
use Rattle.pass_proofs.specs.run_laws.embedded.Related.{AreWorlds}
use Rattle.pass_proofs.specs.run_laws.memory.Pointers.{Home, home_of}
use Rattle.pass_proofs.specs.run_laws.memory.Standing.{AreBoundsKept, Embeds}
use Rattle.pass_proofs.specs.run_laws.transfer.Muted.{ended_if, muted}
use Rattle.pass_proofs.specs.run_laws.transfer.Places.{AreStanding}
use Rattle.pass_proofs.specs.run_memory.Memory.{Rights, is_live, killed, killed_block, may_compare_at, with_block}
use Rattle.pass_proofs.specs.run_memory.Pointers.{moved}
use Rattle.pass_proofs.specs.run_memory.declared.block.Byte.{Byte}
use Rattle.pass_proofs.specs.run_memory.declared.block.MemoryBlock.{MemoryBlock}
use Rattle.pass_proofs.specs.run_memory.declared.pointer.Offset.{Offset}
use Rattle.pass_proofs.specs.run_source.State.{with_memory}
use Rattle.pass_proofs.specs.run_source.declared.state.Activation.{Activation}
use Rattle.pass_proofs.specs.run_source.declared.state.Instance.{Instance}
use Rattle.pass_proofs.specs.run_source.declared.state.State.{State}
use Rattle.pass_proofs.specs.run_step.declared.world.Slot.{Slot}
use Rattle.run_access_worked.proofs.run_laws_worked.Frames.{frame_rights_fit}

-- ---- kinds stay

pub given_still : (n : List MemoryBlock) (k : ℕ) (z : Instance) → is_given (killed n k) z ≡ is_given n z
given_still n k z = given_kept killed_block (λ y. refl) n k z

lit : (a : Bool) → a ≡ true → a ≡ false → ⊥
lit true y n = absurd (cc)
lit false y n = absurd (cc)

or_true : (a : Bool) → (a || true) ≡ true
or_true true = refl
or_true false = refl

-- no frame that was given in the second run lies in a block
abbrev pub NoneGivenIn : Sides → ℕ → Type 0
NoneGivenIn d k =
    (i : ℕ) (y z : Instance) → slice_get d.first i ≡ Some y → slice_get d.second i ≡ Some z
    → is_given d.other z ≡ true → z.block ≢ k

-- ---- the states

module _ (e : Elision) (s t : State) (r : AreElided e s t) (b k : ℕ) (x : MemoryBlock) (bytes : List Byte)
    (there : slice_get s.world.memory b ≡ Some x) (shown : r.hides b ≡ false)
    (own : IsNoGivenFrame (sides s t) b) (home : home_of r.homes b ≡ whole_home k)
    (mate : slice_get t.world.memory k ≡ Some (record x { bytes = bytes })) (apart : NoneGivenIn (sides s t) k) where
  abbrev m : List MemoryBlock
  m = s.world.memory

  abbrev n : List MemoryBlock
  n = t.world.memory

  abbrev u : State
  u = with_memory s (killed m b)

  abbrev w : State
  w = with_memory t (killed n k)

  abbrev d : Sides
  d = sides s t

  abbrev q : Sides
  q = sides u w

  abbrev R : Rights
  R = frame_rights (framed e) s.instances

  abbrev T : Rights
  T = frame_rights (elided e) t.instances

  is_k : (home_of r.homes b).block ≡ k
  is_k = ap (λ (h : Home). h.block) home

  within : b < length m
  within = get_within m b x there

  no_given : (c : ℕ) → IsNoGivenFrame q c → IsNoGivenFrame d c
  no_given c free i y z here beside given same = free i y z here beside (given_still n k z ∙ given) same

  -- what stands in the same block is the block itself
  none_there : (c : ℕ) → (home_of r.homes c).block ≡ k → IsNoGivenFrame d c
  none_there c same i y z here beside given is =
      apart i y z here beside given
      (sym (ap (λ (h : Home). h.block) (r.instances i y z here beside).home)
      ∙ (ap (λ (j : ℕ). (home_of r.homes j).block) is ∙ same))

  pub only : (c : ℕ) → c < length m → r.hides c ≡ false → (home_of r.homes c).block ≡ k → c ≡ b
  only c lt calm same =
      r.mates.alone c b lt within calm shown (none_there c same) own (same ∙ sym is_k)

  -- ---- memory

  lives : LivesAlone r.homes (muted r.hides m) b
  lives c z ne is live same = on (r.hides c) refl
    where
      dead : (o : Option MemoryBlock) → option_map (ended_if true) o ≡ Some z → ⊥
      dead None h = absurd (cc)
      dead (Some y) h =
          let is : ended_if true y ≡ z = same_some (ended_if true y) z h in
          lit (is_live z.life) live (ap (λ (v : MemoryBlock). is_live v.life) (sym is))

      on : (h : Bool) → r.hides c ≡ h → ⊥
      on true hidden =
          dead (slice_get m c)
          (ap (λ (h : Bool). option_map (ended_if h) (slice_get m c)) (sym hidden)
          ∙ (sym (muted_at r.hides m c) ∙ is))
      on false calm =
          ne (only c (get_within m c z (sym (muted_get r.hides m c calm) ∙ is)) calm (same ∙ is_k))

  compares : (c : ℕ) (z : Option MemoryBlock) (o : Offset) → may_compare_at T c z o ≡ true
  compares c None o = refl
  compares c (Some y) o = or_true (not (is_live y.life))

  died : Embeds R T r.homes (with_block (muted r.hides m) b killed_block) (killed n k)
  died =
      subst (λ (h : ℕ). Embeds R T r.homes (with_block (muted r.hides m) b killed_block) (killed n h)) is_k
      (dies_embedded R T (frame_rights_fit (framed e) s.instances) (frame_rights_fit (elided e) t.instances) r.homes
      (muted r.hides m) n b r.world.memory lives killed_block killed_block (λ y. refl))

  bounded : AreBoundsKept r.homes (with_block (muted r.hides m) b killed_block) (killed n k)
  bounded =
      bounds_changed r.homes (muted r.hides m) n b k killed_block killed_block (λ y. refl) (λ y. refl) r.world.bounds

  stands : AreStanding R T r.homes (muted r.hides (killed m b)) (killed n k)
  stands =
      subst (λ (l : List MemoryBlock). AreStanding R T r.homes l (killed n k)) (muted_change r.hides m b killed_block shown)
      (record {
        memory = died;
        nulls = record {
          each = λ c o seen may. compares (home_of r.homes c).block (slice_get (killed n k) (home_of r.homes c).block)
              (moved o (home_of r.homes c).offset);
        };
        bounds = bounded;
      })

  world : AreWorlds R T r.homes (λ j. j)
      (record (counted t.world.allocs u.world) { memory = muted r.hides (killed m b) }) w.world
  world = record {
    memory = stands.memory;
    nulls = stands.nulls;
    bounds = stands.bounds;
    events = r.world.events;
    answers = r.world.answers;
    allocs = refl;
  }

  -- a block and what it has in the second run
  abbrev HasMate : ℕ → MemoryBlock → Type 0
  HasMate c y =
      (j : ℕ) × (bs : List Byte) × (home_of r.homes c ≡ whole_home j)
      × (slice_get (killed n k) j ≡ Some (record y { bytes = bs }))

  mate_here : (y : MemoryBlock) → slice_get (killed m b) b ≡ Some y → HasMate b y
  mate_here y is =
      let same : killed_block x ≡ y = same_some (killed_block x) y (sym (changed_here m b killed_block x there) ∙ is) in (
        k,
        [],
        home,
        changed_here n k killed_block (record x { bytes = bytes }) mate
            ∙ ap (λ (v : MemoryBlock). Some (record v { bytes = [] })) same,
      )

  mate_there : (c : ℕ) (y : MemoryBlock) → c ≢ b → slice_get m c ≡ Some y → r.hides c ≡ false → IsNoGivenFrame d c
      → HasMate c y
  mate_there c y ne is calm free =
      let h = r.mates.each c y is calm free in (
        h.0,
        h.1,
        h.2,
        changed_elsewhere n k h.0 killed_block
            (λ same. ne (only c (get_within m c y is) calm (ap (λ (v : Home). v.block) h.2 ∙ same))) ∙ h.3,
      )

  mates : AreMates r.homes r.hides q
  mates = record {
    each = λ c y is calm free.
        ⊎_elim
        (λ same.
        subst (λ (j : ℕ). HasMate j y) (sym same) (mate_here y (ap (slice_get (killed m b)) (sym same) ∙ is)))
        (λ ne. mate_there c y ne (sym (changed_elsewhere m b c killed_block ne) ∙ is) calm (no_given c free))
        (cases_eq c b);
    alone = λ c j lt gt calm still free none.
        r.mates.alone c j (subst (λ (l : ℕ). c < l) (changed_long m b killed_block) lt)
        (subst (λ (l : ℕ). j < l) (changed_long m b killed_block) gt) calm still (no_given c free) (no_given j none);
  }

  -- ---- instances

  freed_on : (y z : Instance) (g : Bool) → (g ≡ true → z.block ≢ k) → IsFreedAs n y z g → IsFreedAs (killed n k) y z g
  freed_on y z false far h = h
  freed_on y z true far h = (
    h.0,
    λ running.
        let l = h.1 running in (l.0, changed_elsewhere n k z.block killed_block (far refl) ∙ l.1, l.2),
  )

  instances : (i : ℕ) (y z : Instance) → slice_get s.instances i ≡ Some y → slice_get t.instances i ≡ Some z
      → AreInstances e r.homes (killed n k) y z
  instances i y z here beside =
      let old = r.instances i y z here beside in
      record {
        coroutine = old.coroutine;
        whole = old.whole;
        home = old.home;
        status = old.status;
        last_save = old.last_save;
        released = old.released;
        freed = subst (λ (g : Bool). IsFreedAs (killed n k) y z g) (sym (given_still n k z))
            (freed_on y z (is_given n z) (λ given. apart i y z here beside given) old.freed);
        slots = old.slots;
        no_slots = old.no_slots;
      }

  -- ---- activations

  was_still : (c : Activation) → was_given q c ≡ was_given d c
  was_still c = on (is_given_mode c.mode)
    where
      on : (g : Bool)
          → (if g then true else option_map_or (is_given (killed n k)) (instance_in t.instances c.instance) false)
          ≡ (if g then true else option_map_or (is_given n) (instance_in t.instances c.instance) false)
      on true = refl
      on false = one_kept killed_block (λ y. refl) n k (instance_in t.instances c.instance)

  alloca_left : (c : Activation) (ss : List Slot) (i : Instr) → HasAlloca r.homes r.hides d c ss i
      → HasAlloca r.homes r.hides q c ss i
  alloca_left c ss i h = record {
    name = h.name;
    size = h.size;
    align = h.align;
    is = h.is;
    block = h.block;
    address = h.address;
    slot = h.slot;
    there = h.there;
    is_there = changed_elsewhere n k h.block killed_block
        (λ same. h.free b within shown own (is_k ∙ sym same)) ∙ h.is_there;
    kind = h.kind;
    live = h.live;
    sized = h.sized;
    full = h.full;
    free = λ c lt calm free.
        h.free c (subst (λ (l : ℕ). c < l) (changed_long m b killed_block) lt) calm (no_given c free);
  }

  allocas_left : (c : Activation) (ss : List Slot) (is : List Instr) → Each (HasAlloca r.homes r.hides d c ss) is
      → Each (HasAlloca r.homes r.hides q c ss) is
  allocas_left c ss [] h = tt
  allocas_left c ss (i ∷ is) h = (alloca_left c ss i h.0, allocas_left c ss is h.1)

  all_left : (a c : Activation) (ss : List Slot) → HasAllocas e r.homes r.hides d a c ss
      → HasAllocas e r.homes r.hides q a c ss
  all_left a c ss (inl first) = inl first
  all_left a c ss (inr made) =
      inr (allocas_left c ss (allocas_ahead (rooms e a.func) (function_in e a.func)) made.0, made.1)

  hidden_other : (c : ℕ) → r.hides c ≡ true → c ≢ b
  hidden_other c is same = lit (r.hides c) is (ap r.hides same ∙ shown)

  held_left : (a : Activation) (o : Option ℕ) → HoldsBlock r.hides m a o
      → HoldsBlock r.hides (killed m b) a o
  held_left a None h = tt
  held_left a (Some name) h = record {
    block = h.block;
    size = h.size;
    address = h.address;
    hidden = h.hidden;
    there = changed_elsewhere m b h.block killed_block (hidden_other h.block h.hidden) ∙ h.there;
  }

  released_left : (a c : Activation) → AreReleased (e.shape a.func) d a c → AreReleased (e.shape a.func) q a c
  released_left a c h = record { freed = h.freed; tested = h.tested }

  acts_left : (a c : Activation) → AreActivations e r.homes r.hides d a c → AreActivations e r.homes r.hides q a c
  acts_left a c h = record {
    func = h.func;
    result = h.result;
    instance = h.instance;
    has_left = h.has_left;
    mode = h.mode;
    place = subst (λ (g : Bool). IsAt e r.homes g a c) (sym (was_still c)) h.place;
    values = subst (λ (g : Bool). AreNamed e r.homes g a c) (sym (was_still c)) h.values;
    asked = h.asked;
    released = λ given. released_left a c (h.released (sym (was_still c) ∙ given));
    own = h.own;
    slots = h.slots;
    allocas = all_left a c h.own h.allocas;
    held = held_left a (held_name e (is_given_mode c.mode) a) h.held;
  }

  below_left : (bs cs : List Activation) → AreBelow e r.homes r.hides d bs cs → AreBelow e r.homes r.hides q bs cs
  below_left [] [] h = tt
  below_left [] (c ∷ cs) h = h
  below_left (a ∷ bs) [] h = h
  below_left (a ∷ bs) (c ∷ cs) h = ((h.0.0, acts_left a c h.0.1), below_left bs cs h.1)

  allocs : s.world.allocs
      ≡ capped (t.world.allocs + (given_frames w + held_blocks e (s.top ∷ s.below) (t.top ∷ t.below)))
  allocs =
      r.allocs
      ∙ ap (λ (c : ℕ). capped (t.world.allocs + (c + held_blocks e (s.top ∷ s.below) (t.top ∷ t.below))))
      (sym (many_kept killed_block (λ y. refl) n k t.instances))

  pub both_die : AreElided e (with_memory s (killed m b)) (with_memory t (killed n k))
  both_die = record {
    homes = r.homes;
    hides = r.hides;
    world = world;
    known = r.known ∙ sym (changed_long m b killed_block);
    globals = r.globals;
    hidden = r.hidden;
    mates = mates;
    count = r.count;
    instances = instances;
    top = acts_left s.top t.top r.top;
    below = below_left s.below t.below r.below;
    once = r.once;
    allocs = allocs;
    outcome = r.outcome;
  }

  -- where blocks stand stays
  pub homes_stay : both_die.homes ≡ r.homes
  unfolding both_die
  homes_stay = refl

  pub hidden_stay : both_die.hides ≡ r.hides
  unfolding both_die
  hidden_stay = refl
