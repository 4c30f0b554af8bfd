-- The block of a frame that was given in the second run dies in the first one.
use Rattle.std.proofs.Common.{◌≡◌, ◌≢◌, ◌+◌, ◌<◌, inl, inr, ⊎_elim, ℕ, zero, suc, Bool, true, false, List, [], ◌∷◌, length, refl, sym, ap, ◌∙◌, subst, not, ◌||◌}
use Rattle.std.proofs.lemmas.Bool.{cases_eq}
use Rattle.std.specs.Prelude.{None, Option, Some, option_map, slice_get}
use Rattle.pass_elide_proof.specs.Counts.{counted}
use Rattle.pass_elide_proof.specs.Elision.{Elision, elided, framed, function_in, rooms}
use Rattle.pass_elide_proof.specs.Match.{AreActivations, AreBelow, AreElided, AreMates, AreReleased, HasAlloca, HasAllocas, HoldsBlock, IsNoGivenFrame, Sides, held_name, is_given_mode, sides}
use Rattle.pass_elide_proof.specs.Places.{allocas_ahead}
use Rattle.pass_proofs.proofs.run_laws.memory.Written.{changed_elsewhere}
use Rattle.pass_proofs.proofs.run_laws.transfer.Muted.{muted_get}
use Rattle.pass_proofs.proofs.run_laws.transfer.Places.{fewer_stand, muted_at}
use Rattle.pass_proofs.specs.ir_model.declared.instr.Instr.{Instr}
use Rattle.pass_proofs.specs.run_framed.Framed.{frame_rights, is_given}
use Rattle.pass_proofs.specs.run_laws.changed.Changed.{Each}
use Rattle.pass_proofs.specs.run_laws.embedded.Related.{AreWorlds}
use Rattle.pass_proofs.specs.run_laws.memory.Pointers.{Home, home_of}
use Rattle.pass_proofs.specs.run_laws.transfer.Muted.{ended_if, muted}
use Rattle.pass_proofs.specs.run_laws.transfer.Places.{AreStanding, IsComparable}
use Rattle.pass_proofs.specs.run_memory.Memory.{Rights, disowned, is_live, killed, killed_block, may_compare_at, with_block}
use Rattle.pass_proofs.specs.run_memory.Pointers.{moved}
use Rattle.pass_proofs.specs.run_memory.declared.block.MemoryBlock.{MemoryBlock}
use Rattle.pass_proofs.specs.run_memory.declared.pointer.Offset.{Offset}
use Rattle.pass_proofs.specs.run_source.State.{with_memory}
use Rattle.pass_proofs.specs.run_source.declared.state.Activation.{Activation}
use Rattle.pass_proofs.specs.run_source.declared.state.Instance.{Instance}
use Rattle.pass_proofs.specs.run_source.declared.state.State.{State}
use Rattle.pass_proofs.specs.run_step.declared.world.Slot.{Slot}

-- ---- the block

-- it has the frame of an instance that was given it in the second run
pub record IsGivenFrame (d : Sides) (b : ℕ) : Type 0 where
  pub number : ℕ
  pub first : Instance
  pub second : Instance
  pub there : slice_get d.first number ≡ Some first
  pub beside : slice_get d.second number ≡ Some second
  pub given : is_given d.other second ≡ true
  pub block : first.block ≡ b

-- it is dead, and of its size; all others are as they were
pub record IsDeadIn (m k : List MemoryBlock) (b : ℕ) : Type 0 where
  pub long : length k ≡ length m
  pub others : (c : ℕ) → c ≢ b → slice_get k c ≡ slice_get m c
  pub dead : (x : MemoryBlock) → slice_get k b ≡ Some x → is_live x.life ≡ false
  pub sized : (x : MemoryBlock) → slice_get k b ≡ Some x
      → (y : MemoryBlock) × (slice_get m b ≡ Some y) × (y.size ≡ x.size)

-- ---- blocks that are killed

pub changed_long : (m : List MemoryBlock) (b : ℕ) (f : MemoryBlock → MemoryBlock)
    → length (with_block m b f) ≡ length m
changed_long [] b f = refl
changed_long (x ∷ m) zero f = refl
changed_long (x ∷ m) (suc b) f = ap suc (changed_long m b f)

-- what stands there is what stood there, changed
was_there : (m : List MemoryBlock) (b : ℕ) (f : MemoryBlock → MemoryBlock) (x : MemoryBlock)
    → slice_get (with_block m b f) b ≡ Some x → (y : MemoryBlock) × (slice_get m b ≡ Some y) × (f y ≡ x)
was_there [] b f x e = absurd (cc)
was_there (y ∷ m) zero f x e = let is : f y ≡ x = cc in (y, refl, is)
was_there (y ∷ m) (suc b) f x e = was_there m b f x e

pub killed_dies : (m : List MemoryBlock) (b : ℕ) → IsDeadIn m (killed m b) b
killed_dies m b = record {
  long = changed_long m b killed_block;
  others = λ c ne. changed_elsewhere m b c killed_block ne;
  dead = λ x is.
      let y = was_there m b killed_block x is in
      ap (λ (z : MemoryBlock). is_live z.life) (sym y.2);
  sized = λ x is.
      let y = was_there m b killed_block x is in
      (y.0, y.1, ap (λ (z : MemoryBlock). z.size) y.2);
}

pub disowned_dies : (m : List MemoryBlock) (b : ℕ) → IsDeadIn m (killed (with_block m b disowned) b) b
disowned_dies m b = record {
  long = changed_long (with_block m b disowned) b killed_block ∙ changed_long m b disowned;
  others = λ c ne.
      changed_elsewhere (with_block m b disowned) b c killed_block ne ∙ changed_elsewhere m b c disowned ne;
  dead = λ x is.
      let y = was_there (with_block m b disowned) b killed_block x is in
      ap (λ (z : MemoryBlock). is_live z.life) (sym y.2);
  sized = λ x is.
      let y = was_there (with_block m b disowned) b killed_block x is in
      let z = was_there m b disowned y.0 y.1 in (
        z.0,
        z.1,
        ap (λ (q : MemoryBlock). q.size) z.2 ∙ ap (λ (q : MemoryBlock). q.size) y.2,
      );
}

-- ---- the states

lit : (a : Bool) → a ≡ true → a ≡ false → ⊥
lit true y n = absurd (cc)
lit false y n = absurd (cc)

or_true : (a : Bool) → (a || true) ≡ true
or_true true = refl
or_true false = refl

module _ (e : Elision) (s t : State) (r : AreElided e s t) (m : List MemoryBlock) (b : ℕ)
    (frame : IsGivenFrame (sides s t) b) (dies : IsDeadIn s.world.memory m b) where
  abbrev u : State
  u = with_memory s m

  abbrev d : Sides
  d = sides s t

  abbrev k : Sides
  k = sides u t

  abbrev old : List MemoryBlock
  old = s.world.memory

  abbrev R : Rights
  R = frame_rights (framed e) s.instances

  abbrev T : Rights
  T = frame_rights (elided e) t.instances

  -- pointers into it are about, so it isn't hidden
  is_seen : (home_of r.homes b).is_seen ≡ true
  is_seen =
      ap (λ (c : ℕ). (home_of r.homes c).is_seen) (sym frame.block)
      ∙ ap (λ (q : Home). q.is_seen) (r.instances frame.number frame.first frame.second frame.there frame.beside).home

  shown : r.hides b ≡ false
  shown = on (r.hides b) refl
    where
      on : (h : Bool) → r.hides b ≡ h → r.hides b ≡ false
      on true is = absurd (lit (home_of r.homes b).is_seen is_seen (r.hidden b is))
      on false is = is

  hidden_other : (c : ℕ) → r.hides c ≡ true → c ≢ b
  hidden_other c is same = lit (r.hides c) is (ap r.hides same ∙ shown)

  given_here : IsNoGivenFrame d b → ⊥
  given_here free = free frame.number frame.first frame.second frame.there frame.beside frame.given frame.block

  other : (n : ℕ) → IsNoGivenFrame d n → n ≢ b
  other n free same = given_here (subst (IsNoGivenFrame d) same free)

  -- ---- memory

  compares : (c : ℕ) (z : Option MemoryBlock) (o : Offset) → may_compare_at T c z o ≡ true
  compares c None o = refl
  compares c (Some x) o = or_true (not (is_live x.life))

  comparable : (c : ℕ) → IsComparable T r.homes t.world.memory c
  comparable c = record {
    each = λ o. compares (home_of r.homes c).block (slice_get t.world.memory (home_of r.homes c).block)
        (moved o (home_of r.homes c).offset);
  }

  muted_here : slice_get (muted r.hides m) b ≡ slice_get m b
  muted_here = muted_get r.hides m b shown

  muted_there : (c : ℕ) → c ≢ b → slice_get (muted r.hides m) c ≡ slice_get (muted r.hides old) c
  muted_there c ne =
      muted_at r.hides m c
      ∙ (ap (option_map (ended_if (r.hides c))) (dies.others c ne) ∙ sym (muted_at r.hides old c))

  live : (c : ℕ) (x : MemoryBlock) → slice_get (muted r.hides m) c ≡ Some x → is_live x.life ≡ true
      → slice_get (muted r.hides old) c ≡ Some x
  live c x is lives =
      ⊎_elim
      (λ same.
      absurd (lit (is_live x.life) lives (dies.dead x
      (sym muted_here ∙ (ap (slice_get (muted r.hides m)) (sym same) ∙ is)))))
      (λ ne. sym (muted_there c ne) ∙ is) (cases_eq c b)

  sizes : (c : ℕ) (x : MemoryBlock) → slice_get (muted r.hides m) c ≡ Some x
      → (y : MemoryBlock) × (slice_get (muted r.hides old) c ≡ Some y) × (y.size ≡ x.size)
  sizes c x is =
      ⊎_elim
      (λ same.
      let y = dies.sized x (sym muted_here ∙ (ap (slice_get (muted r.hides m)) (sym same) ∙ is)) in
      (y.0, ap (slice_get (muted r.hides old)) same ∙ (muted_get r.hides old b shown ∙ y.1), y.2))
      (λ ne. (x, sym (muted_there c ne) ∙ is, refl)) (cases_eq c b)

  stood : AreStanding R T r.homes (muted r.hides old) t.world.memory
  stood = record { memory = r.world.memory; nulls = r.world.nulls; bounds = r.world.bounds }

  stands : AreStanding R T r.homes (muted r.hides m) t.world.memory
  stands =
      fewer_stand R T r.homes (muted r.hides old) (muted r.hides m) t.world.memory
      (record { live = live; nulls = λ c is. inr (comparable c); sizes = sizes }) stood

  world : AreWorlds R T r.homes (λ n. n) (record (counted t.world.allocs u.world) { memory = muted r.hides m }) t.world
  world = record {
    memory = stands.memory;
    nulls = stands.nulls;
    bounds = stands.bounds;
    events = r.world.events;
    answers = r.world.answers;
    allocs = refl;
  }

  mates : AreMates r.homes r.hides k
  mates = record {
    each = λ n x there calm free. r.mates.each n x (sym (dies.others n (other n free)) ∙ there) calm free;
    alone = λ n c lt gt calm still free none.
        r.mates.alone n c (subst (λ (l : ℕ). n < l) dies.long lt) (subst (λ (l : ℕ). c < l) dies.long gt) calm still
        free none;
  }

  -- ---- activations

  alloca_left : (c : Activation) (own : List Slot) (i : Instr) → HasAlloca r.homes r.hides d c own i
      → HasAlloca r.homes r.hides k c own i
  alloca_left c own i h = record {
    name = h.name;
    size = h.size;
    align = h.align;
    is = h.is;
    block = h.block;
    address = h.address;
    slot = h.slot;
    there = h.there;
    is_there = h.is_there;
    kind = h.kind;
    live = h.live;
    sized = h.sized;
    full = h.full;
    free = λ n lt calm free. h.free n (subst (λ (l : ℕ). n < l) dies.long lt) calm free;
  }

  allocas_left : (c : Activation) (own : List Slot) (is : List Instr) → Each (HasAlloca r.homes r.hides d c own) is
      → Each (HasAlloca r.homes r.hides k c own) is
  allocas_left c own [] h = tt
  allocas_left c own (i ∷ is) h = (alloca_left c own i h.0, allocas_left c own is h.1)

  all_left : (a c : Activation) (own : List Slot) → HasAllocas e r.homes r.hides d a c own
      → HasAllocas e r.homes r.hides k a c own
  all_left a c own (inl first) = inl first
  all_left a c own (inr made) =
      inr (allocas_left c own (allocas_ahead (rooms e a.func) (function_in e a.func)) made.0, made.1)

  held_left : (a : Activation) (o : Option ℕ) → HoldsBlock r.hides old a o
      → HoldsBlock r.hides m a o
  held_left a None h = tt
  held_left a (Some name) h = record {
    block = h.block;
    size = h.size;
    address = h.address;
    hidden = h.hidden;
    there = dies.others h.block (hidden_other h.block h.hidden) ∙ h.there;
  }

  released_left : (a c : Activation) → AreReleased (e.shape a.func) d a c → AreReleased (e.shape a.func) k a c
  released_left a c h = record { freed = h.freed; tested = h.tested }

  acts_left : (a c : Activation) → AreActivations e r.homes r.hides d a c → AreActivations e r.homes r.hides k a c
  acts_left a c h = record {
    func = h.func;
    result = h.result;
    instance = h.instance;
    has_left = h.has_left;
    mode = h.mode;
    place = h.place;
    values = h.values;
    asked = h.asked;
    released = λ given. released_left a c (h.released given);
    own = h.own;
    slots = h.slots;
    allocas = all_left a c h.own h.allocas;
    held = held_left a (held_name e (is_given_mode c.mode) a) h.held;
  }

  below_left : (bs cs : List Activation) → AreBelow e r.homes r.hides d bs cs → AreBelow e r.homes r.hides k bs cs
  below_left [] [] h = tt
  below_left [] (c ∷ cs) h = h
  below_left (a ∷ bs) [] h = h
  below_left (a ∷ bs) (c ∷ cs) h = ((h.0.0, acts_left a c h.0.1), below_left bs cs h.1)

  pub frame_dies : AreElided e (with_memory s m) t
  frame_dies = record {
    homes = r.homes;
    hides = r.hides;
    world = world;
    known = r.known ∙ sym dies.long;
    globals = r.globals;
    hidden = r.hidden;
    mates = mates;
    count = r.count;
    instances = r.instances;
    top = acts_left s.top t.top r.top;
    below = below_left s.below t.below r.below;
    once = r.once;
    allocs = r.allocs;
    outcome = r.outcome;
  }
