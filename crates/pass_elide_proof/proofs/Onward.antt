-- What is said of two states stays so behind a step that changes blocks, and no instance.
use Rattle.std.proofs.Common.{◌≡◌, ◌≢◌, ◌<◌, inl, inr, ℕ, suc, Bool, true, false, List, [], ◌∷◌, ◌++◌, length, cond, refl, sym, ap, ◌∙◌, subst}
use Rattle.std.specs.Option.{option_map_or}
use Rattle.std.specs.Prelude.{None, Option, Some, filter, if◌then◌else◌, map, slice_get}
use Rattle.pass_elide_proof.specs.Elision.{Elision, differs_in, function_in, rooms}
use Rattle.pass_elide_proof.specs.Match.{AreActivations, AreBelow, AreInstances, AreNamed, Aside, Beside, Freeing, HasAlloca, HasAllocas, HoldsBlock, IsAt, IsFreedAs, IsNoGivenFrame, Sides, Waiting, held_name, instance_in, is_given_mode, was_given}
use Rattle.pass_elide_proof.specs.Places.{allocas_ahead}
use Rattle.pass_proofs.proofs.run_laws.memory.Homes.{value_on}
use Rattle.pass_proofs.specs.ir_model.Ty.{array, int}
use Rattle.pass_proofs.specs.ir_model.declared.instr.Instr.{Instr}
use Rattle.pass_proofs.specs.run_framed.Framed.{is_given}
use Rattle.pass_proofs.specs.run_laws.changed.Changed.{Each}
use Rattle.pass_proofs.specs.run_laws.embedded.Deaths.{moved_slot}
use Rattle.pass_proofs.specs.run_laws.embedded.Making.{whole_home}
use Rattle.pass_proofs.specs.run_laws.memory.Pointers.{Extends, Home, home_of}
use Rattle.pass_proofs.specs.run_laws.memory.Standing.{blank_block}
use Rattle.pass_proofs.specs.run_memory.Memory.{is_live}
use Rattle.pass_proofs.specs.run_memory.declared.block.Kind.{Kind}
use Rattle.pass_proofs.specs.run_memory.declared.block.MemoryBlock.{MemoryBlock}
use Rattle.pass_proofs.specs.run_source.declared.state.Activation.{Activation}
use Rattle.pass_proofs.specs.run_source.declared.state.Instance.{Instance}
use Rattle.pass_proofs.specs.run_step.Values.{value_in}
use Rattle.pass_proofs.specs.run_step.declared.world.Slot.{Slot}

-- ---- what a step leaves

abbrev pub LivesIn : List MemoryBlock → ℕ → Type 0
LivesIn m b = (z : MemoryBlock) × (slice_get m b ≡ Some z) × (is_live z.life ≡ true)

-- the block of an alloca that is put in front of an entry block
pub record IsRoom (homes : List Home) (hides : ℕ → Bool) (d : Sides) (block size : ℕ) : Type 0 where
  pub there : MemoryBlock
  pub is_there : slice_get d.other block ≡ Some there
  pub kind : there.kind ≡ Kind.Stack
  pub live : is_live there.life ≡ true
  pub sized : there.size ≡ size
  pub full : length there.bytes ≡ size
  pub free : (n : ℕ) → n < length d.memory → hides n ≡ false → IsNoGivenFrame d n → (home_of homes n).block ≢ block

-- both sides with other memories
abbrev pub sides_with : Sides → List MemoryBlock → List MemoryBlock → Sides
sides_with d memory other = record d { memory = memory; other = other }

-- Homes stay. Given frames live, hidden blocks stay as they are, and so do the allocas put in front.
pub record GoesOn (d : Sides) (memory other : List MemoryBlock) (homes more : List Home) (hides later : ℕ → Bool)
    : Type 0 where
  pub extends : Extends homes more
  pub given : (i : ℕ) (y : Instance) → slice_get d.second i ≡ Some y → is_given other y ≡ is_given d.other y
  pub lives : (i : ℕ) (y : Instance) → slice_get d.second i ≡ Some y → is_given d.other y ≡ true
      → LivesIn d.other y.block → LivesIn other y.block
  pub held : (b size : ℕ) → hides b ≡ true → slice_get d.memory b ≡ Some (blank_block size 16 Kind.Allocator)
      → (later b ≡ true) × (slice_get memory b ≡ Some (blank_block size 16 Kind.Allocator))
  pub rooms : (block size : ℕ) → IsRoom homes hides d block size
      → IsRoom more later (sides_with d memory other) block size

-- ---- lists

pub each_all : {A : Type 0} (P : A → Type 0) → ((x : A) → P x) → (xs : List A) → Each P xs
each_all P h [] = tt
each_all P h (x ∷ xs) = (h x, each_all P h xs)

pub filter_same : {A : Type 0} (test now : A → Bool) (xs : List A)
    → ((i : ℕ) (x : A) → slice_get xs i ≡ Some x → now x ≡ test x) → filter now xs ≡ filter test xs
filter_same test now [] h = refl
filter_same test now (x ∷ xs) h =
    let first : now x ≡ test x = h 0 x refl in
    let again = filter_same test now xs (λ i y e. h (suc i) y e) in
    λ j. cond (first j) (x ∷ again j) (again j)

-- ---- behind the step

module _ (e : Elision) (d : Sides) (memory other : List MemoryBlock) (homes more : List Home) (hides later : ℕ → Bool)
    (on : GoesOn d memory other homes more hides later) where
  abbrev k : Sides
  k = sides_with d memory other

  -- ---- which frames were given

  by_instance : (i : ℕ) (o : Option Instance) → slice_get d.second i ≡ o
      → option_map_or (is_given other) o false ≡ option_map_or (is_given d.other) o false
  by_instance i None is = refl
  by_instance i (Some y) is = on.given i y is

  of_instance : (o : Option ℕ)
      → option_map_or (is_given other) (instance_in d.second o) false
      ≡ option_map_or (is_given d.other) (instance_in d.second o) false
  of_instance None = refl
  of_instance (Some i) = by_instance i (slice_get d.second i) refl

  pub was_same : (c : Activation) → was_given k c ≡ was_given d c
  was_same c = ap (λ (b : Bool). if is_given_mode c.mode then true else b) (of_instance c.instance)

  pub no_frame : (n : ℕ) → IsNoGivenFrame k n → IsNoGivenFrame d n
  no_frame n h i x y at to given = h i x y at to (on.given i y to ∙ given)

  pub still_no_frame : (n : ℕ) → IsNoGivenFrame d n → IsNoGivenFrame k n
  still_no_frame n h i x y at to given = h i x y at to (sym (on.given i y to) ∙ given)

  pub same_frames : length (filter (is_given other) d.second) ≡ length (filter (is_given d.other) d.second)
  same_frames = ap length (filter_same (is_given d.other) (is_given other) d.second on.given)

  -- ---- allocas put in front

  -- the address of an alloca stays
  abbrev pub KeepsAddress : Activation → Activation → Instr → Type 0
  KeepsAddress c b i =
      (name size align : ℕ) → i ≡ Instr.Alloca name (array size (int 8)) align
      → value_in b.values name ≡ value_in c.values name

  room_of : (c : Activation) (own : List Slot) (i : Instr) (h : HasAlloca homes hides d c own i)
      → IsRoom homes hides d h.block h.size
  room_of c own i h = record {
    there = h.there;
    is_there = h.is_there;
    kind = h.kind;
    live = h.live;
    sized = h.sized;
    full = h.full;
    free = h.free;
  }

  alloca_on : (c b : Activation) (own : List Slot) (i : Instr) → KeepsAddress c b i
      → HasAlloca homes hides d c own i → HasAlloca more later k b own i
  alloca_on c b own i keeps h =
      let room = on.rooms h.block h.size (room_of c own i h) in
      record {
        name = h.name;
        size = h.size;
        align = h.align;
        is = h.is;
        block = h.block;
        address = keeps h.name h.size h.align h.is ∙ h.address;
        slot = h.slot;
        there = room.there;
        is_there = room.is_there;
        kind = room.kind;
        live = room.live;
        sized = room.sized;
        full = room.full;
        free = room.free;
      }

  pub allocas_on : (c b : Activation) (own : List Slot) (is : List Instr) → Each (KeepsAddress c b) is
      → Each (HasAlloca homes hides d c own) is → Each (HasAlloca more later k b own) is
  allocas_on c b own [] keeps h = tt
  allocas_on c b own (i ∷ is) keeps h = (alloca_on c b own i keeps.0 h.0, allocas_on c b own is keeps.1 h.1)

  has_allocas : (a c : Activation) (own : List Slot) → HasAllocas e homes hides d a c own
      → HasAllocas e more later k a c own
  has_allocas a c own (inl first) = inl first
  has_allocas a c own (inr made) = inr (
    allocas_on c c own (allocas_ahead (rooms e a.func) (function_in e a.func))
        (each_all (KeepsAddress c c) (λ i name size align is. refl)
        (allocas_ahead (rooms e a.func) (function_in e a.func)))
        made.0,
    made.1,
  )

  -- ---- one activation

  place_on : (given now : Bool) (a c : Activation) → now ≡ given → IsAt e homes given a c → IsAt e more now a c
  place_on given now a c same (Beside block there) = Beside block there
  place_on given now a c same (Waiting ramp waits there) = Waiting ramp waits there
  place_on given now a c same (Freeing holds frees there) = Freeing (same ∙ holds) frees there
  place_on given now a c same (Aside holds aside there alike) =
      Aside (same ∙ holds) aside there
      (λ n p q i j lt is js pi qj. value_on homes more on.extends (value_in a.values p) (value_in c.values q)
      (alike n p q i j lt is js pi qj))

  named_on : (given now : Bool) (a c : Activation) → now ≡ given → AreNamed e homes given a c → AreNamed e more now a c
  named_on given now a c same h = record {
    each = λ v calm. value_on homes more on.extends (value_in a.values v) (value_in c.values v)
        (h.each v (ap (λ (b : Bool). differs_in (e.shape a.func) (is_given_mode c.mode) b v) (sym same) ∙ calm));
    room = h.room;
  }

  pub held_on : (a : Activation) (o : Option ℕ) → HoldsBlock hides d.memory a o
      → HoldsBlock later memory a o
  held_on a None h = tt
  held_on a (Some name) h =
      let still = on.held h.block h.size h.hidden h.there in
      record { block = h.block; size = h.size; address = h.address; hidden = still.0; there = still.1 }

  abbrev pub SlotsStay : Activation → Type 0
  SlotsStay a = map (moved_slot more) a.slots ≡ map (moved_slot homes) a.slots

  pub activation_on : (a c : Activation) → SlotsStay a → AreActivations e homes hides d a c
      → AreActivations e more later k a c
  activation_on a c slots h = record {
    func = h.func;
    result = h.result;
    instance = h.instance;
    has_left = h.has_left;
    mode = h.mode;
    place = place_on (was_given d c) (was_given k c) a c (was_same c) h.place;
    values = named_on (was_given d c) (was_given k c) a c (was_same c) h.values;
    asked = h.asked;
    released = λ given. let old = h.released (sym (was_same c) ∙ given) in
        record { freed = old.freed; tested = old.tested };
    own = h.own;
    slots = h.slots ∙ ap (λ (ss : List Slot). ss ++ h.own) (sym slots);
    allocas = has_allocas a c h.own h.allocas;
    held = held_on a (held_name e (is_given_mode c.mode) a) h.held;
  }

  -- ---- those below, and instances

  pub below_on : (bs cs : List Activation) → Each SlotsStay bs → AreBelow e homes hides d bs cs
      → AreBelow e more later k bs cs
  below_on [] [] slots h = tt
  below_on [] (c ∷ cs) slots h = h
  below_on (b ∷ bs) [] slots h = h
  below_on (b ∷ bs) (c ∷ cs) slots h =
      ((h.0.0, activation_on b c slots.0 h.0.1), below_on bs cs slots.1 h.1)

  freed_on : (i : ℕ) (x y : Instance) → slice_get d.second i ≡ Some y → (b : Bool) → is_given d.other y ≡ b
      → IsFreedAs d.other x y b → IsFreedAs other x y b
  freed_on i x y at false is h = h
  freed_on i x y at true is h = (h.0, λ busy. on.lives i y at is (h.1 busy))

  pub instance_on : (i : ℕ) (x y : Instance) → slice_get d.second i ≡ Some y → AreInstances e homes d.other x y
      → AreInstances e more other x y
  instance_on i x y at h = record {
    coroutine = h.coroutine;
    whole = h.whole;
    home = on.extends.each x.block (ap (λ (q : Home). q.is_seen) h.home) ∙ h.home;
    status = h.status;
    last_save = h.last_save;
    released = h.released;
    freed = subst (λ (b : Bool). IsFreedAs other x y b) (sym (on.given i y at))
        (freed_on i x y at (is_given d.other y) refl h.freed);
    slots = h.slots;
    no_slots = h.no_slots;
  }

  pub global_on : (n : ℕ) → home_of homes n ≡ whole_home n → home_of more n ≡ whole_home n
  global_on n h = on.extends.each n (ap (λ (q : Home). q.is_seen) h) ∙ h
