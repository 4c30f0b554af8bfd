-- A block of the second run loses its owner in which nothing stands but frames that were given.
use Rattle.std.proofs.Common.{◌≡◌, ◌≢◌, ◌+◌, ◌<◌, ◌≤◌, ◌^◌, inl, inr, ⊎_elim, ℕ, zero, suc, Bool, true, false, List, [], ◌∷◌, length, refl, sym, ap, ◌∙◌, subst, not, ◌||◌}
use Rattle.std.proofs.lemmas.Bool.{cases_eq}
use Rattle.std.specs.Option.{option_map_or}
use Rattle.std.specs.Prelude.{None, Option, Some, if◌then◌else◌, slice_get}
use Rattle.pass_elide_proof.proofs.KindsStay.{given_kept, many_kept, one_kept}
use Rattle.pass_elide_proof.specs.Counts.{capped, counted, given_frames}
use Rattle.pass_elide_proof.specs.Elision.{Elision, elided, framed, function_in, rooms}
use Rattle.pass_elide_proof.specs.Match.{AreActivations, AreBelow, AreElided, AreInstances, AreMates, AreNamed, AreReleased, HasAlloca, HasAllocas, IsAt, IsFreedAs, IsNoGivenFrame, Sides, held_blocks, instance_in, is_given_mode, sides, was_given}
use Rattle.pass_elide_proof.specs.Places.{allocas_ahead}
use Rattle.pass_proofs.proofs.ir_laws.facts.Lists.{get_within}
use Rattle.pass_proofs.proofs.run_laws.access.Turned.{disowned_reowns, rights_turn, same_reowns}
use Rattle.pass_proofs.proofs.run_laws.embedded.Mirrors.{bounds_changed}
use Rattle.pass_proofs.proofs.run_laws.memory.Written.{changed_elsewhere, changed_here, same_some}
use Rattle.pass_proofs.specs.ir_model.declared.instr.Instr.{Instr}
use Rattle.pass_proofs.specs.run_framed.Framed.{FramedGiven, frame_rights, is_given, judge_of, meets_in}
use Rattle.pass_proofs.specs.run_laws.access.Rights.{MayTurn}
use Rattle.pass_proofs.specs.run_laws.changed.Changed.{Each}
use Rattle.pass_proofs.specs.run_laws.embedded.Related.{AreWorlds}
use Rattle.pass_proofs.specs.run_laws.memory.Pointers.{Home, home_of}
use Rattle.pass_proofs.specs.run_laws.memory.Standing.{AreBoundsKept, Embeds, HasRights, IsOpen}
use Rattle.pass_proofs.specs.run_laws.transfer.Muted.{muted}
use Rattle.pass_proofs.specs.run_memory.Memory.{Rights, disown, disowned, is_live, may_compare_at, with_block}
use Rattle.pass_proofs.specs.run_memory.Pointers.{moved}
use Rattle.pass_proofs.specs.run_memory.declared.block.Byte.{Byte}
use Rattle.pass_proofs.specs.run_memory.declared.block.MemoryBlock.{MemoryBlock}
use Rattle.pass_proofs.specs.run_memory.declared.pointer.Offset.{Offset}
use Rattle.pass_proofs.specs.run_source.State.{is_finished, with_memory}
use Rattle.pass_proofs.specs.run_source.declared.state.Activation.{Activation}
use Rattle.pass_proofs.specs.run_source.declared.state.Instance.{Instance}
use Rattle.pass_proofs.specs.run_source.declared.state.State.{State}
use Rattle.pass_proofs.specs.run_step.declared.world.Slot.{Slot}

or_true : (a : Bool) → (a || true) ≡ true
or_true true = refl
or_true false = refl

-- ---- the block

-- it is as it was, but for its owner
pub record IsKeptAs (y z : MemoryBlock) : Type 0 where
  pub kind : z.kind ≡ y.kind
  pub live : is_live z.life ≡ is_live y.life
  pub sized : z.size ≡ y.size
  pub bytes : z.bytes ≡ y.bytes

kept_there : (n : List MemoryBlock) (c b : ℕ) (y : MemoryBlock) → slice_get n b ≡ Some y
    → (z : MemoryBlock) × (slice_get (disown n c) b ≡ Some z) × IsKeptAs y z
kept_there n c b y is =
    ⊎_elim
    (λ same. (
      disowned y,
      subst (λ (k : ℕ). slice_get (disown n k) b ≡ Some (disowned y)) same (changed_here n b disowned y is),
      record { kind = refl; live = refl; sized = refl; bytes = refl },
    ))
    (λ ne. (
      y,
      changed_elsewhere n c b disowned ne ∙ is,
      record { kind = refl; live = refl; sized = refl; bytes = refl },
    )) (cases_eq b c)

-- frames' rights don't look at owners
meets_still : (g : FramedGiven) (y : MemoryBlock) (o align : ℕ) (j : Option (ℕ × Instance))
    → meets_in g (disowned y) o align j ≡ meets_in g y o align j
meets_still g y o align None = refl
meets_still g y o align (Some p) = refl

rights_still : (g h : FramedGiven) (xs ys : List Instance) (q : Home) (b : ℕ) (x y : MemoryBlock)
    → HasRights (frame_rights g xs) (frame_rights h ys) q b x y
    → HasRights (frame_rights g xs) (frame_rights h ys) q b x (disowned y)
rights_still g h xs ys q b x y old = record {
  opens = old.opens;
  aligned = λ o len align some fits closed is may.
      meets_still h y (q.offset + o) align (judge_of h ys q.block (q.offset + o))
      ∙ old.aligned o len align some fits closed is may;
  comparable = old.comparable;
}

-- ---- the states

module _ (e : Elision) (s t : State) (r : AreElided e s t) (c : ℕ)
    (away : (b : ℕ) → b < length s.world.memory → r.hides b ≡ false → IsNoGivenFrame (sides s t) b
    → (home_of r.homes b).block ≢ c) where
  abbrev m : List MemoryBlock
  m = muted r.hides s.world.memory

  abbrev n : List MemoryBlock
  n = t.world.memory

  abbrev l : List MemoryBlock
  l = disown n c

  abbrev w : State
  w = with_memory t l

  abbrev d : Sides
  d = sides s t

  abbrev q : Sides
  q = sides s w

  abbrev R : Rights
  R = frame_rights (framed e) s.instances

  abbrev T : Rights
  T = frame_rights (elided e) t.instances

  given_still : (z : Instance) → is_given l z ≡ is_given n z
  given_still z = given_kept disowned (λ y. refl) n c z

  no_given : (b : ℕ) → IsNoGivenFrame q b → IsNoGivenFrame d b
  no_given b free i y z here beside given same = free i y z here beside (given_still z ∙ given) same

  -- ---- memory

  allowed : (b : ℕ) (x y : MemoryBlock) → slice_get m b ≡ Some x → is_live x.life ≡ true
      → slice_get l (home_of r.homes b).block ≡ Some y → HasRights R T (home_of r.homes b) b x y
  allowed b x y here live there =
      let st = r.world.memory.each b x here live in
      ⊎_elim
      (λ same.
      let now : slice_get l (home_of r.homes b).block ≡ Some (disowned st.block)
      = subst (λ (k : ℕ). slice_get (disown n k) (home_of r.homes b).block ≡ Some (disowned st.block)) same
      (changed_here n (home_of r.homes b).block disowned st.block st.there) in
      subst (λ (z : MemoryBlock). HasRights R T (home_of r.homes b) b x z)
      (same_some (disowned st.block) y (sym now ∙ there))
      (rights_still (framed e) (elided e) s.instances t.instances (home_of r.homes b) b x st.block st.allowed))
      (λ ne.
      subst (λ (z : MemoryBlock). HasRights R T (home_of r.homes b) b x z)
      (same_some st.block y
      (sym (changed_elsewhere n c (home_of r.homes b).block disowned ne ∙ st.there) ∙ there)) st.allowed)
      (cases_eq (home_of r.homes b).block c)

  turns : MayTurn R R T r.homes m m l
  turns = record {
    opens = λ b i x y here there live lt opens.
        inl (subst (λ (z : MemoryBlock). IsOpen R b z i) (same_some y x (sym there ∙ here)) opens);
    compares = λ b i x y here there live lt may. inl refl;
    allowed = allowed;
  }

  embeds : Embeds R T r.homes m l
  embeds =
      rights_turn R T R T r.homes m n m l (same_reowns m) (disowned_reowns n c) turns r.world.memory

  compares : (k : ℕ) (z : Option MemoryBlock) (o : Offset) → may_compare_at T k z o ≡ true
  compares k None o = refl
  compares k (Some y) o = or_true (not (is_live y.life))

  keep_none : (hs : List Home) (k : List MemoryBlock) → AreBoundsKept hs m k → AreBoundsKept hs m (disown k c)
  keep_none hs k h = record {
    each = λ b x seen is.
        let old = h.each b x seen is in
        let now = kept_there k c (home_of hs b).block old.block old.there in
        record {
          block = now.0;
          there = now.1;
          fits = subst (λ (size : ℕ). (home_of hs b).offset + x.size ≤ size) (sym now.2.sized) old.fits;
          small = subst (λ (size : ℕ). size < 2 ^ 64) (sym now.2.sized) old.small;
        };
  }

  world : AreWorlds R T r.homes (λ j. j)
      (record (counted t.world.allocs s.world) { memory = m }) w.world
  world = record {
    memory = embeds;
    nulls = record {
      each = λ b o seen may. compares (home_of r.homes b).block (slice_get l (home_of r.homes b).block)
          (moved o (home_of r.homes b).offset);
    };
    bounds = keep_none r.homes n r.world.bounds;
    events = r.world.events;
    answers = r.world.answers;
    allocs = refl;
  }

  mates : AreMates r.homes r.hides q
  mates = record {
    each = λ b x here calm free.
        let h = r.mates.each b x here calm (no_given b free) in (
          h.0,
          h.1,
          h.2,
          changed_elsewhere n c h.0 disowned
              (λ same. away b (get_within s.world.memory b x here) calm (no_given b free)
              (ap (λ (v : Home). v.block) h.2 ∙ same)) ∙ h.3,
        );
    alone = λ b k lt gt calm still free none. r.mates.alone b k lt gt calm still (no_given b free) (no_given k none);
  }

  -- ---- instances

  freed_on : (y z : Instance) (g : Bool) → IsFreedAs n y z g → IsFreedAs l y z g
  freed_on y z false h = h
  freed_on y z true h = (
    h.0,
    λ running.
        let old = h.1 running in
        let now = kept_there n c z.block old.0 old.1 in (now.0, now.1, now.2.live ∙ old.2),
  )

  instances : (i : ℕ) (y z : Instance) → slice_get s.instances i ≡ Some y → slice_get t.instances i ≡ Some z
      → AreInstances e r.homes l y z
  instances i y z here beside =
      let old = r.instances i y z here beside in
      record {
        coroutine = old.coroutine;
        whole = old.whole;
        home = old.home;
        status = old.status;
        last_save = old.last_save;
        released = old.released;
        freed = subst (λ (g : Bool). IsFreedAs l y z g) (sym (given_still z)) (freed_on y z (is_given n z) old.freed);
        slots = old.slots;
        no_slots = old.no_slots;
      }

  -- ---- activations

  was_still : (a : Activation) → was_given q a ≡ was_given d a
  was_still a = on (is_given_mode a.mode)
    where
      on : (g : Bool) → (if g then true else option_map_or (is_given l) (instance_in t.instances a.instance) false)
          ≡ (if g then true else option_map_or (is_given n) (instance_in t.instances a.instance) false)
      on true = refl
      on false = one_kept disowned (λ y. refl) n c (instance_in t.instances a.instance)

  alloca_left : (a : Activation) (ss : List Slot) (i : Instr) → HasAlloca r.homes r.hides d a ss i
      → HasAlloca r.homes r.hides q a ss i
  alloca_left a ss i h =
      let now = kept_there n c h.block h.there h.is_there in
      record {
        name = h.name;
        size = h.size;
        align = h.align;
        is = h.is;
        block = h.block;
        address = h.address;
        slot = h.slot;
        there = now.0;
        is_there = now.1;
        kind = now.2.kind ∙ h.kind;
        live = now.2.live ∙ h.live;
        sized = now.2.sized ∙ h.sized;
        full = ap (λ (bs : List Byte). length bs) now.2.bytes ∙ h.full;
        free = λ b lt calm free. h.free b lt calm (no_given b free);
      }

  allocas_left : (a : Activation) (ss : List Slot) (is : List Instr) → Each (HasAlloca r.homes r.hides d a ss) is
      → Each (HasAlloca r.homes r.hides q a ss) is
  allocas_left a ss [] h = tt
  allocas_left a ss (i ∷ is) h = (alloca_left a ss i h.0, allocas_left a ss is h.1)

  all_left : (a b : Activation) (ss : List Slot) → HasAllocas e r.homes r.hides d a b ss
      → HasAllocas e r.homes r.hides q a b ss
  all_left a b ss (inl first) = inl first
  all_left a b ss (inr made) =
      inr (allocas_left b ss (allocas_ahead (rooms e a.func) (function_in e a.func)) made.0, made.1)

  released_left : (a b : Activation) → AreReleased (e.shape a.func) d a b → AreReleased (e.shape a.func) q a b
  released_left a b h = record { freed = h.freed; tested = h.tested }

  acts_left : (a b : Activation) → AreActivations e r.homes r.hides d a b → AreActivations e r.homes r.hides q a b
  acts_left a b h = record {
    func = h.func;
    result = h.result;
    instance = h.instance;
    has_left = h.has_left;
    mode = h.mode;
    place = subst (λ (g : Bool). IsAt e r.homes g a b) (sym (was_still b)) h.place;
    values = subst (λ (g : Bool). AreNamed e r.homes g a b) (sym (was_still b)) h.values;
    asked = h.asked;
    released = λ given. released_left a b (h.released (sym (was_still b) ∙ given));
    own = h.own;
    slots = h.slots;
    allocas = all_left a b h.own h.allocas;
    held = h.held;
  }

  below_left : (bs cs : List Activation) → AreBelow e r.homes r.hides d bs cs → AreBelow e r.homes r.hides q bs cs
  below_left [] [] h = tt
  below_left [] (b ∷ cs) h = h
  below_left (a ∷ bs) [] h = h
  below_left (a ∷ bs) (b ∷ cs) h = ((h.0.0, acts_left a b h.0.1), below_left bs cs h.1)

  allocs : s.world.allocs
      ≡ capped (t.world.allocs + (given_frames w + held_blocks e (s.top ∷ s.below) (t.top ∷ t.below)))
  allocs =
      r.allocs
      ∙ ap (λ (k : ℕ). capped (t.world.allocs + (k + held_blocks e (s.top ∷ s.below) (t.top ∷ t.below))))
      (sym (many_kept disowned (λ y. refl) n c t.instances))

  pub disowned_stays : AreElided e s (with_memory t (disown n c))
  disowned_stays = record {
    homes = r.homes;
    hides = r.hides;
    world = world;
    known = r.known;
    globals = r.globals;
    hidden = r.hidden;
    mates = mates;
    count = r.count;
    instances = instances;
    top = acts_left s.top t.top r.top;
    below = below_left s.below t.below r.below;
    once = r.once;
    allocs = allocs;
    outcome = r.outcome;
  }
