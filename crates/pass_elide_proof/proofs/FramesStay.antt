-- States that stand beside each other still do where their instances change, but not where their frames are.
use Rattle.std.proofs.Common.{◌≡◌, ◌+◌, ◌⊎◌, inl, inr, ℕ, zero, suc, Bool, true, false, List, [], ◌∷◌, length, not, refl, sym, ap, ◌∙◌, subst, ◌||◌, ◌==◌}
use Rattle.std.specs.Option.{option_map_or}
use Rattle.std.specs.Prelude.{None, Option, Some, filter, if◌then◌else◌, slice_get}
use Rattle.pass_elide_proof.specs.Counts.{capped, counted, given_frames}
use Rattle.pass_elide_proof.specs.Elision.{Elision, elided, framed, function_in, rooms}
use Rattle.pass_elide_proof.specs.Match.{AreActivations, AreBelow, AreElided, AreInstances, AreMates, AreNamed, AreReleased, HasAlloca, HasAllocas, IsAt, IsNoGivenFrame, Sides, held_blocks, instance_in, is_given_mode, sides, was_given}
use Rattle.pass_elide_proof.specs.Places.{allocas_ahead}
use Rattle.pass_proofs.specs.ir_model.declared.instr.Instr.{Instr}
use Rattle.pass_proofs.specs.run_framed.Framed.{frame_rights, is_given, is_stack_block}
use Rattle.pass_proofs.specs.run_laws.changed.Changed.{Each}
use Rattle.pass_proofs.specs.run_laws.memory.Pointers.{Home}
use Rattle.pass_proofs.specs.run_laws.transfer.Transfer.{AreOver}
use Rattle.pass_proofs.specs.run_memory.Memory.{Rights}
use Rattle.pass_proofs.specs.run_memory.declared.block.MemoryBlock.{MemoryBlock}
use Rattle.pass_proofs.specs.run_memory.declared.pointer.Pointer.{Pointer}
use Rattle.pass_proofs.specs.run_memory.declared.pointer.Value.{Value}
use Rattle.pass_proofs.specs.run_source.State.{address_in, frame_address_of}
use Rattle.pass_proofs.specs.run_source.declared.state.Activation.{Activation}
use Rattle.pass_proofs.specs.run_source.declared.state.Instance.{Instance}
use Rattle.pass_proofs.specs.run_source.declared.state.State.{State}
use Rattle.pass_proofs.specs.run_step.Values.{value_in}
use Rattle.pass_proofs.specs.run_step.declared.world.Slot.{Slot}
use Rattle.run_access_worked.proofs.Ended.{rights_same}
use Rattle.run_access_worked.specs.Frames.{AreSameFrames, IsSameFrame}

-- ---- instances of lists with the same frames

-- the instance beside one
pub record IsBesideIn (xs : List Instance) (i : ℕ) (x : Instance) : Type 0 where
  pub beside : Instance
  pub there : slice_get xs i ≡ Some beside
  pub same : IsSameFrame x beside

pub beside_in : (xs ys : List Instance) → AreSameFrames xs ys → (i : ℕ) (x : Instance) → slice_get xs i ≡ Some x
    → IsBesideIn ys i x
beside_in [] ys h i x e = absurd (cc)
beside_in (z ∷ xs) [] h i x e = absurd h
beside_in (z ∷ xs) (y ∷ ys) h zero x e =
    let is : z ≡ x = cc in
    record { beside = y; there = refl; same = subst (λ (q : Instance). IsSameFrame q y) is h.0 }
beside_in (z ∷ xs) (y ∷ ys) h (suc i) x e =
    let r = beside_in xs ys h.1 i x e in
    record { beside = r.beside; there = r.there; same = r.same }

given_same : (m : List MemoryBlock) (x y : Instance) → IsSameFrame x y → is_given m y ≡ is_given m x
given_same m x y h = λ i. is_stack_block m (h.block i) || not (h.start i == 0)

pub given_by : (m : List MemoryBlock) (o : Option ℕ) (xs ys : List Instance) → AreSameFrames xs ys
    → option_map_or (is_given m) (instance_in ys o) false ≡ option_map_or (is_given m) (instance_in xs o) false
given_by m None xs ys h = refl
given_by m (Some i) [] [] h = refl
given_by m (Some i) [] (y ∷ ys) h = absurd h
given_by m (Some i) (x ∷ xs) [] h = absurd h
given_by m (Some zero) (x ∷ xs) (y ∷ ys) h = given_same m x y h.0
given_by m (Some (suc i)) (x ∷ xs) (y ∷ ys) h = given_by m (Some i) xs ys h.1

given_many : (m : List MemoryBlock) (xs ys : List Instance) → AreSameFrames xs ys
    → length (filter (is_given m) ys) ≡ length (filter (is_given m) xs)
given_many m [] [] h = refl
given_many m [] (y ∷ ys) h = absurd h
given_many m (x ∷ xs) [] h = absurd h
given_many m (x ∷ xs) (y ∷ ys) h =
    (λ i. length (if given_same m x y h.0 i then y ∷ filter (is_given m) ys else filter (is_given m) ys))
    ∙ on (is_given m x) (given_many m xs ys h.1)
  where
    on : (t : Bool) → length (filter (is_given m) ys) ≡ length (filter (is_given m) xs)
        → length (if t then y ∷ filter (is_given m) ys else filter (is_given m) ys)
        ≡ length (if t then x ∷ filter (is_given m) xs else filter (is_given m) xs)
    on true k = ap suc k
    on false k = k

-- ---- what stands beside each other

module _ (d : Sides) (xs ys : List Instance) (first : AreSameFrames d.first xs) (second : AreSameFrames d.second ys)
  where
    abbrev k : Sides
    k = record d { first = xs; second = ys }

    pub was_same : (c : Activation) → was_given k c ≡ was_given d c
    was_same c = on (is_given_mode c.mode)
      where
        on : (t : Bool) → (if t then true else option_map_or (is_given d.other) (instance_in ys c.instance) false)
            ≡ (if t then true else option_map_or (is_given d.other) (instance_in d.second c.instance) false)
        on true = refl
        on false = given_by d.other c.instance d.second ys second

    pub no_given : (n : ℕ) → IsNoGivenFrame k n → IsNoGivenFrame d n
    no_given n h i x y at to given same =
        let p = beside_in d.first xs first i x at in
        let q = beside_in d.second ys second i y to in
        h i p.beside q.beside p.there q.there (given_same d.other y q.beside q.same ∙ given) (p.same.block ∙ same)

    mates_same : (homes : List Home) (hides : ℕ → Bool) → AreMates homes hides d → AreMates homes hides k
    mates_same homes hides h = record {
      each = λ n x there calm free. h.each n x there calm (no_given n free);
      alone = λ n m lt gt calm still free none. h.alone n m lt gt calm still (no_given n free) (no_given m none);
    }

    alloca_same : (homes : List Home) (hides : ℕ → Bool) (c : Activation) (own : List Slot) (i : Instr)
        → HasAlloca homes hides d c own i → HasAlloca homes hides k c own i
    alloca_same homes hides c own i h = record {
      name = h.name;
      size = h.size;
      align = h.align;
      is = h.is;
      block = h.block;
      address = h.address;
      slot = h.slot;
      there = h.there;
      is_there = h.is_there;
      kind = h.kind;
      live = h.live;
      sized = h.sized;
      full = h.full;
      free = λ n lt calm free. h.free n lt calm (no_given n free);
    }

    allocas_same : (homes : List Home) (hides : ℕ → Bool) (c : Activation) (own : List Slot) (is : List Instr)
        → Each (HasAlloca homes hides d c own) is → Each (HasAlloca homes hides k c own) is
    allocas_same homes hides c own [] h = tt
    allocas_same homes hides c own (i ∷ is) h =
        (alloca_same homes hides c own i h.0, allocas_same homes hides c own is h.1)

    has_same : (e : Elision) (homes : List Home) (hides : ℕ → Bool) (a c : Activation) (own : List Slot)
        → HasAllocas e homes hides d a c own → HasAllocas e homes hides k a c own
    has_same e homes hides a c own (inl start) = inl start
    has_same e homes hides a c own (inr made) =
        inr (allocas_same homes hides c own (allocas_ahead (rooms e a.func) (function_in e a.func)) made.0, made.1)

    address_same : (o : Option ℕ) (x : Instance) → instance_in d.first o ≡ Some x
        → (y : Instance) × (instance_in xs o ≡ Some y) × (frame_address_of x ≡ frame_address_of y)
    address_same None x e = absurd (cc)
    address_same (Some i) x e =
        let p = beside_in d.first xs first i x e in
        (p.beside, p.there, (λ j. address_in (sym p.same.block j) (sym p.same.start j)))

    -- what coro.free gave, by the instances of the first run
    abbrev Frees : List Instance → Activation → Activation → ℕ → Type 0
    Frees is a c v =
        (value_in a.values v ≡ Value.Poison)
        ⊎ ((value_in c.values v ≡ Value.Ptr Pointer.Null)
        × ((y : Instance) × (instance_in is a.instance ≡ Some y) × (value_in a.values v ≡ frame_address_of y)))

    frees_same : (a c : Activation) (v : ℕ) → Frees d.first a c v → Frees xs a c v
    frees_same a c v (inl none) = inl none
    frees_same a c v (inr both) =
        let q = address_same a.instance both.1.0 both.1.1 in
        inr (both.0, (q.0, q.1, both.1.2 ∙ q.2))

    module _ (e : Elision) where
      released_same : (a c : Activation) → AreReleased (e.shape a.func) d a c → AreReleased (e.shape a.func) k a c
      released_same a c h = record { freed = λ v is. frees_same a c v (h.freed v is); tested = h.tested }

      -- so do two activations
      pub acts_same : (homes : List Home) (hides : ℕ → Bool) (a c : Activation) → AreActivations e homes hides d a c
          → AreActivations e homes hides k a c
      acts_same homes hides a c h = record {
        func = h.func;
        result = h.result;
        instance = h.instance;
        has_left = h.has_left;
        mode = h.mode;
        place = subst (λ (t : Bool). IsAt e homes t a c) (sym (was_same c)) h.place;
        values = subst (λ (t : Bool). AreNamed e homes t a c) (sym (was_same c)) h.values;
        asked = h.asked;
        released = λ given. released_same a c (h.released (sym (was_same c) ∙ given));
        own = h.own;
        slots = h.slots;
        allocas = has_same e homes hides a c h.own h.allocas;
        held = h.held;
      }

      pub below_same : (homes : List Home) (hides : ℕ → Bool) (bs cs : List Activation)
          → AreBelow e homes hides d bs cs → AreBelow e homes hides k bs cs
      below_same homes hides [] [] h = tt
      below_same homes hides [] (c ∷ cs) h = h
      below_same homes hides (b ∷ bs) [] h = h
      below_same homes hides (b ∷ bs) (c ∷ cs) h =
          ((h.0.0, acts_same homes hides b c h.0.1), below_same homes hides bs cs h.1)

-- ---- states

module _ (e : Elision) (s t : State) (r : AreElided e s t) (xs ys : List Instance)
    (first : AreSameFrames s.instances xs) (second : AreSameFrames t.instances ys) (count : length ys ≡ length xs)
    (each : (i : ℕ) (x y : Instance) → slice_get xs i ≡ Some x → slice_get ys i ≡ Some y
    → AreInstances e r.homes t.world.memory x y) where
  abbrev u : State
  u = record s { instances = xs }

  abbrev w : State
  w = record t { instances = ys }

  abbrev Over : Rights → Rights → Type 0
  Over R T = AreOver R T r.homes r.hides (λ d. d) (counted t.world.allocs s.world) t.world

  over : Over (frame_rights (framed e) xs) (frame_rights (elided e) ys)
  over =
      subst (λ (p : Rights × Rights). Over p.0 p.1)
      (λ i. (
        sym (rights_same (framed e) s.instances xs first) i,
        sym (rights_same (elided e) t.instances ys second) i,
      )) r.world

  allocs : s.world.allocs
      ≡ capped (t.world.allocs + (given_frames w + held_blocks e (s.top ∷ s.below) (t.top ∷ t.below)))
  allocs =
      r.allocs
      ∙ ap (λ (n : ℕ). capped (t.world.allocs + (n + held_blocks e (s.top ∷ s.below) (t.top ∷ t.below))))
      (sym (given_many t.world.memory t.instances ys second))

  pub instances_change : AreElided e (record s { instances = xs }) (record t { instances = ys })
  instances_change = record {
    homes = r.homes;
    hides = r.hides;
    world = over;
    known = r.known;
    globals = r.globals;
    hidden = r.hidden;
    mates = mates_same (sides s t) xs ys first second r.homes r.hides r.mates;
    count = count;
    instances = each;
    top = acts_same (sides s t) xs ys first second e r.homes r.hides s.top t.top r.top;
    below = below_same (sides s t) xs ys first second e r.homes r.hides s.below t.below r.below;
    once = r.once;
    allocs = allocs;
    outcome = r.outcome;
  }
