-- Behind a begin both states stand beside each other again, with one instance more.
use Rattle.std.proofs.Common.{◌≡◌, ◌≢◌, ◌⊎◌, ◌<◌, ◌+◌, inl, inr, ⊎_elim, ℕ, zero, suc, Bool, true, false, not, List, [], ◌∷◌, ◌++◌, length, length-append, refl, sym, ap, ◌∙◌, subst, arith, if◌then◌else◌, ◌||◌, ◌==◌}
use Rattle.std.proofs.lemmas.Bool.{cases_eq}
use Rattle.std.specs.Option.{option_map_or}
use Rattle.std.specs.Prelude.{None, Option, Some, filter, slice_get}
use Rattle.pass_elide_proof.proofs.BeginSteps.{begun_in}
use Rattle.pass_elide_proof.proofs.Setting.{AreActing, IsHere, IsOwnPlace, SetsAlike, acting, held_too, none_apart, went, went_on, went_place}
use Rattle.pass_elide_proof.proofs.Sides.{HaveOthers, SidesGoOn, WasFree, acting_on, below_on}
use Rattle.pass_elide_proof.specs.Beginning.{IsKnownTo}
use Rattle.pass_elide_proof.specs.Counts.{capped, counted, given_frames}
use Rattle.pass_elide_proof.specs.Elision.{Elision, elided, framed, function_in, rooms}
use Rattle.pass_elide_proof.specs.Match.{AreActivations, AreElided, AreInstances, AreMates, AreNamed, AreReleased, HasAlloca, HasAllocas, HoldsBlock, IsFreedAs, IsNoGivenFrame, Runs, Sides, held_blocks, held_name, holds_one, instance_in, is_given_mode, sides, was_given}
use Rattle.pass_elide_proof.specs.Places.{allocas_ahead}
use Rattle.pass_proofs.proofs.ir_laws.facts.Lists.{get_before, get_front, get_within}
use Rattle.pass_proofs.proofs.run_laws.memory.Homes.{value_on}
use Rattle.pass_proofs.proofs.run_laws.memory.Written.{changed_elsewhere, changed_here}
use Rattle.pass_proofs.specs.ir_model.declared.instr.Instr.{Instr}
use Rattle.pass_proofs.specs.run_framed.Framed.{frame_rights, is_given, is_stack_block}
use Rattle.pass_proofs.specs.run_laws.changed.Changed.{Each}
use Rattle.pass_proofs.specs.run_laws.embedded.Making.{whole_home}
use Rattle.pass_proofs.specs.run_laws.memory.Pointers.{Extends, Home, home_of}
use Rattle.pass_proofs.specs.run_laws.transfer.Transfer.{AreOver}
use Rattle.pass_proofs.specs.run_memory.Memory.{is_live, owned_to, with_block}
use Rattle.pass_proofs.specs.run_memory.declared.block.Byte.{Byte}
use Rattle.pass_proofs.specs.run_memory.declared.block.MemoryBlock.{MemoryBlock}
use Rattle.pass_proofs.specs.run_memory.declared.pointer.Value.{Value}
use Rattle.pass_proofs.specs.run_source.Source.{new_instance}
use Rattle.pass_proofs.specs.run_source.State.{frame_address_of, gives}
use Rattle.pass_proofs.specs.run_source.declared.state.Activation.{Activation}
use Rattle.pass_proofs.specs.run_source.declared.state.Instance.{Instance}
use Rattle.pass_proofs.specs.run_source.declared.state.State.{State}
use Rattle.pass_proofs.specs.run_step.declared.world.Slot.{Slot}

-- ---- lists with one more

pub end_or_before : {A : Type 0} (xs : List A) (x y : A) (i : ℕ) → slice_get (xs ++ x ∷ []) i ≡ Some y
    → ((i ≡ length xs) × (y ≡ x)) ⊎ (slice_get xs i ≡ Some y)
end_or_before [] x y zero at = inl (refl, let same : x ≡ y = cc in sym same)
end_or_before [] x y (suc i) at = absurd (cc)
end_or_before (z ∷ xs) x y zero at = inr at
end_or_before (z ∷ xs) x y (suc i) at =
    ⊎_elim (λ h. inl (ap suc h.0, h.1)) (λ h. inr h) (end_or_before xs x y i at)

pub one_longer : {A : Type 0} (xs : List A) (x : A) → length (xs ++ x ∷ []) ≡ length xs + 1
one_longer xs x = length-append xs (x ∷ [])

pub filter_one : (test : Instance → Bool) (xs : List Instance) (x : Instance)
    → length (filter test (xs ++ x ∷ [])) ≡ length (filter test xs) + (if test x then 1 else 0)
filter_one test [] x = by (test x)
  where
    by : (b : Bool) → length {A = Instance} (if b then x ∷ [] else []) ≡ 0 + (if b then 1 else 0)
    by true = refl
    by false = refl
filter_one test (y ∷ xs) x = by (test y) (filter_one test xs x)
  where
    by : (b : Bool) → length (filter test (xs ++ x ∷ [])) ≡ length (filter test xs) + (if test x then 1 else 0)
        → length (if b then y ∷ filter test (xs ++ x ∷ []) else filter test (xs ++ x ∷ []))
        ≡ length (if b then y ∷ filter test xs else filter test xs) + (if test x then 1 else 0)
    by true h = next (length (filter test (xs ++ x ∷ []))) (length (filter test xs)) (if test x then 1 else 0) h
      where
        next : (p q n : ℕ) → p ≡ q + n → suc p ≡ suc q + n
        next p q n e = omega (arith, e)
    by false h = h

-- ---- the owner of a block changes

same_length : (m : List MemoryBlock) (b : ℕ) (f : MemoryBlock → MemoryBlock) → length (with_block m b f) ≡ length m
same_length [] b f = refl
same_length (x ∷ m) zero f = refl
same_length (x ∷ m) (suc b) f = ap suc (same_length m b f)

pub stack_still : (m : List MemoryBlock) (b size c : ℕ)
    → is_stack_block (with_block m b (owned_to size)) c ≡ is_stack_block m c
stack_still [] b size c = refl
stack_still (x ∷ m) zero size zero = refl
stack_still (x ∷ m) zero size (suc c) = refl
stack_still (x ∷ m) (suc b) size zero = refl
stack_still (x ∷ m) (suc b) size (suc c) = stack_still m b size c

pub given_still : (m : List MemoryBlock) (b size : ℕ) → is_given (with_block m b (owned_to size)) ≡ is_given m
given_still m b size = λ i x. stack_still m b size x.block i || not (x.start == 0)

-- a block with its new owner, if any
pub owner_of : (m : List MemoryBlock) (b size c : ℕ) (z : MemoryBlock) → slice_get m c ≡ Some z
    → (o : Option ℕ) × (slice_get (with_block m b (owned_to size)) c ≡ Some (record z { owned = o }))
owner_of m b size c z at = ⊎_elim
    (λ same. (
      Some size,
      ap (slice_get (with_block m b (owned_to size))) same
          ∙ changed_here m b (owned_to size) z (ap (slice_get m) (sym same) ∙ at),
    ))
    (λ ne. (z.owned, changed_elsewhere m b c (owned_to size) ne ∙ at))
    (cases_eq c b)

-- ---- what is known of both begins

pub record HasBegun (e : Elision) (s t : State) (r : AreElided e s t) (b k size most : ℕ) (more : List Home)
    (now : ℕ → Bool) (other : ℕ → Type 0) : Type 0 where
  pub long : length more ≡ length r.homes
  pub extends : Extends r.homes more
  pub homes : (c : ℕ) → c ≢ b → home_of more c ≡ home_of r.homes c
  pub hides : (c : ℕ) → c ≢ b → now c ≡ r.hides c
  pub home : home_of more b ≡ whole_home k
  pub shown : now b ≡ false
  pub none : (i : ℕ) (x : Instance) → slice_get s.instances i ≡ Some x → x.block ≢ b
  pub alone : s.top.instance ≡ None
  pub low : b < length s.world.memory
  pub there : MemoryBlock
  pub is_there : slice_get t.world.memory k ≡ Some there
  pub live : is_live there.life ≡ true
  pub apart : (c : ℕ) → c ≢ b → c < length s.world.memory → r.hides c ≡ false → IsNoGivenFrame (sides s t) c
      → (home_of r.homes c).block ≢ k
  pub mate : (z : MemoryBlock) → slice_get (with_block s.world.memory b (owned_to size)) b ≡ Some z
      → IsNoGivenFrame (sides (begun_in s b size) (begun_in t k most)) b
      → (bytes : List Byte)
      × (slice_get (with_block t.world.memory k (owned_to most)) k ≡ Some (record z { bytes = bytes }))
  pub was : IsNoGivenFrame (sides (begun_in s b size) (begun_in t k most)) b
      → WasFree r.homes more r.hides (sides s t) b
  pub world : AreOver (frame_rights (framed e) (begun_in s b size).instances)
      (frame_rights (elided e) (begun_in t k most).instances) more now (λ n. n)
      (counted t.world.allocs (begun_in s b size).world) (begun_in t k most).world
  -- other blocks have their homes, and no such block is hidden
  pub others : (n : ℕ) → other n → (home_of more n).block ≡ (home_of r.homes n).block
  pub held : (n : ℕ) → other n → r.hides n ≡ true → n ≢ b
  pub slots : Each (λ (z : Slot). other z.block) s.top.slots
  pub below : HaveOthers e other (IsKnownTo t.instances) s.below t.below
  -- the mode tells whether the frame was given
  pub mode : was_given (sides (begun_in s b size) (begun_in t k most)) (begun_in t k most).top
      ≡ was_given (sides (begun_in s b size) (begun_in t k most)) t.top

module _ (e : Elision) (s t : State) (r : AreElided e s t) (b k size most : ℕ) (more : List Home) (now : ℕ → Bool)
    (other : ℕ → Type 0) (g : HasBegun e s t r b k size most more now other) where
  abbrev u : State
  u = begun_in s b size

  abbrev w : State
  w = begun_in t k most

  abbrev d : Sides
  d = sides s t

  abbrev q : Sides
  q = sides u w

  abbrev x : Instance
  x = new_instance s.top.func b 0

  abbrev y : Instance
  y = new_instance t.top.func k 0

  -- ---- what goes on

  first_on : (o : Option ℕ) (z : Instance) → instance_in s.instances o ≡ Some z
      → (v : Instance) × (instance_in u.instances o ≡ Some v) × (frame_address_of v ≡ frame_address_of z)
  first_on None z is = absurd (cc)
  first_on (Some i) z is = (z, get_before s.instances (x ∷ []) i z is, refl)

  given_on : (c : Activation) → IsKnownTo t.instances c → was_given q c ≡ was_given d c
  given_on c known = by (is_given_mode c.mode)
    where
      at : (o : Option ℕ) → ((i : ℕ) → o ≡ Some i → i < length t.instances)
          → option_map_or (is_given w.world.memory) (instance_in w.instances o) false
          ≡ option_map_or (is_given t.world.memory) (instance_in t.instances o) false
      at None low = refl
      at (Some i) low =
          λ j. option_map_or (given_still t.world.memory k most j) (get_front t.instances (y ∷ []) i (low i refl) j)
          false

      by : (m : Bool)
          → (if m then true else option_map_or (is_given w.world.memory) (instance_in w.instances c.instance) false)
          ≡ (if m then true else option_map_or (is_given t.world.memory) (instance_in t.instances c.instance) false)
      by true = refl
      by false = at c.instance known

  free_on : (n : ℕ) → IsNoGivenFrame q n → IsNoGivenFrame d n
  free_on n free i p v at to given same =
      free i p v (get_before s.instances (x ∷ []) i p at) (get_before t.instances (y ∷ []) i v to)
      (ap (λ (f : Instance → Bool). f v) (given_still t.world.memory k most) ∙ given) same

  goes_on : SidesGoOn r.homes more r.hides now d q other (IsKnownTo t.instances)
  goes_on = record {
    values = value_on r.homes more g.extends;
    given = given_on;
    first = first_on;
    stacks = λ n z there kind live. owner_of t.world.memory k most n z there;
    free = λ n lt calm free. ⊎_elim
        (λ same.
        subst (λ (a : ℕ). WasFree r.homes more r.hides d a) (sym same)
        (g.was (subst (λ (a : ℕ). IsNoGivenFrame q a) same free)))
        (λ ne. record {
          low = subst (λ (a : ℕ). n < a) (same_length s.world.memory b (owned_to size)) lt;
          shown = sym (g.hides n ne) ∙ calm;
          free = free_on n free;
          home = ap (λ (h : Home). h.block) (g.homes n ne);
        })
        (cases_eq n b);
    held = λ n most is hidden there. let ne = g.held n is hidden in (
      g.hides n ne ∙ hidden,
      changed_elsewhere s.world.memory b n (owned_to size) ne ∙ there,
    );
    blocks = g.others;
  }

  -- ---- memories

  was_block : (n : ℕ) (z : MemoryBlock) → n ≢ b → slice_get u.world.memory n ≡ Some z
      → slice_get s.world.memory n ≡ Some z
  was_block n z ne at = sym (changed_elsewhere s.world.memory b n (owned_to size) ne) ∙ at

  mate_on : (n : ℕ) (z : MemoryBlock) → n ≢ b → slice_get u.world.memory n ≡ Some z → now n ≡ false
      → IsNoGivenFrame q n
      → (c : ℕ) × (bytes : List Byte) × (home_of more n ≡ whole_home c)
      × (slice_get w.world.memory c ≡ Some (record z { bytes = bytes }))
  mate_on n z ne at calm free =
      let old_at = was_block n z ne at in
      let old_calm = sym (g.hides n ne) ∙ calm in
      let old_free = free_on n free in
      let old = r.mates.each n z old_at old_calm old_free in
      let far : old.0 ≢ k
      = λ same. g.apart n ne (get_within s.world.memory n z old_at) old_calm old_free
      (ap (λ (h : Home). h.block) old.2 ∙ same) in (
        old.0,
        old.1,
        g.homes n ne ∙ old.2,
        changed_elsewhere t.world.memory k old.0 (owned_to most) far ∙ old.3,
      )

  mate_here : (z : MemoryBlock) → slice_get u.world.memory b ≡ Some z → IsNoGivenFrame q b
      → (c : ℕ) × (bytes : List Byte) × (home_of more b ≡ whole_home c)
      × (slice_get w.world.memory c ≡ Some (record z { bytes = bytes }))
  mate_here z at free = let is = g.mate z at free in (k, is.0, g.home, is.1)

  apart_on : (n : ℕ) → n ≢ b → n < length u.world.memory → now n ≡ false → IsNoGivenFrame q n
      → (home_of more n).block ≢ k
  apart_on n ne lt calm free same =
      g.apart n ne (subst (λ (a : ℕ). n < a) (same_length s.world.memory b (owned_to size)) lt)
      (sym (g.hides n ne) ∙ calm) (free_on n free) (sym (ap (λ (h : Home). h.block) (g.homes n ne)) ∙ same)

  block_here : (home_of more b).block ≡ k
  block_here = ap (λ (h : Home). h.block) g.home

  alone_on : (n c : ℕ) → n < length u.world.memory → c < length u.world.memory → now n ≡ false → now c ≡ false
      → IsNoGivenFrame q n → IsNoGivenFrame q c → (home_of more n).block ≡ (home_of more c).block → n ≡ c
  alone_on n c lt gt h i free none same = by (cases_eq n b) (cases_eq c b)
    where
      by : (n ≡ b) ⊎ (n ≡ b → ⊥) → (c ≡ b) ⊎ (c ≡ b → ⊥) → n ≡ c
      by (inl f) (inl p) = f ∙ sym p
      by (inl f) (inr p) =
          absurd (apart_on c p gt i none
          (sym same ∙ (ap (λ (a : ℕ). (home_of more a).block) f ∙ block_here)))
      by (inr f) (inl p) =
          absurd (apart_on n f lt h free (same ∙ (ap (λ (a : ℕ). (home_of more a).block) p ∙ block_here)))
      by (inr f) (inr p) =
          r.mates.alone n c (subst (λ (a : ℕ). n < a) (same_length s.world.memory b (owned_to size)) lt)
          (subst (λ (a : ℕ). c < a) (same_length s.world.memory b (owned_to size)) gt)
          (sym (g.hides n f) ∙ h) (sym (g.hides c p) ∙ i) (free_on n free) (free_on c none)
          (sym (ap (λ (z : Home). z.block) (g.homes n f)) ∙ (same ∙ ap (λ (z : Home). z.block) (g.homes c p)))

  mates : AreMates more now q
  mates = record {
    each = λ n z at calm free. ⊎_elim
        (λ same.
        subst (λ (a : ℕ). (c : ℕ) × (bytes : List Byte) × (home_of more a ≡ whole_home c)
        × (slice_get w.world.memory c ≡ Some (record z { bytes = bytes }))) (sym same)
        (mate_here z (ap (slice_get u.world.memory) (sym same) ∙ at) (subst (λ (a : ℕ). IsNoGivenFrame q a) same free)))
        (λ ne. mate_on n z ne at calm free)
        (cases_eq n b);
    alone = alone_on;
  }

  -- ---- instances

  freed_on : (p v : Instance) (c : Bool) → IsFreedAs t.world.memory p v c → IsFreedAs w.world.memory p v c
  freed_on p v false h = h
  freed_on p v true h = (
    h.0,
    λ goes.
        let old = h.1 goes in
        let new = owner_of t.world.memory k most v.block old.0 old.1 in
        (record old.0 { owned = new.0 }, new.1, old.2),
  )

  old_instance : (i : ℕ) (p v : Instance) → slice_get s.instances i ≡ Some p → slice_get t.instances i ≡ Some v
      → AreInstances e more w.world.memory p v
  old_instance i p v at to =
      let old = r.instances i p v at to in
      record {
        coroutine = old.coroutine;
        whole = old.whole;
        home = g.homes p.block (g.none i p at) ∙ old.home;
        status = old.status;
        last_save = old.last_save;
        released = old.released;
        freed = subst (λ (c : Bool). IsFreedAs w.world.memory p v c)
            (sym (ap (λ (f : Instance → Bool). f v) (given_still t.world.memory k most)))
            (freed_on p v (is_given t.world.memory v) old.freed);
        slots = old.slots;
        no_slots = old.no_slots;
      }

  new_freed : (c : Bool) → IsFreedAs w.world.memory x y c
  new_freed false = refl
  new_freed true = (
    refl,
    λ goes.
        (owned_to most g.there, changed_here t.world.memory k (owned_to most) g.there g.is_there, g.live),
  )

  new_instances : AreInstances e more w.world.memory x y
  new_instances = record {
    coroutine = r.top.func;
    whole = refl;
    home = g.home;
    status = Runs;
    last_save = refl;
    released = refl;
    freed = new_freed (is_given w.world.memory y);
    slots = refl;
    no_slots = refl;
  }

  instances : (i : ℕ) (p v : Instance) → slice_get u.instances i ≡ Some p → slice_get w.instances i ≡ Some v
      → AreInstances e more w.world.memory p v
  instances i p v at to = by (end_or_before s.instances x p i at) (end_or_before t.instances y v i to)
    where
      never : (n : ℕ) (zs : List Instance) (z : Instance) → n ≡ length zs → slice_get zs n ≡ Some z → ⊥
      never n zs z same f = let lt = get_within zs n z f in omega (arith, same, lt)

      by : ((i ≡ length s.instances) × (p ≡ x)) ⊎ (slice_get s.instances i ≡ Some p)
          → ((i ≡ length t.instances) × (v ≡ y)) ⊎ (slice_get t.instances i ≡ Some v)
          → AreInstances e more w.world.memory p v
      by (inl f) (inl h) =
          subst (λ (z : Instance × Instance). AreInstances e more w.world.memory z.0 z.1)
          (λ j. (sym f.1 j, sym h.1 j)) new_instances
      by (inl f) (inr h) = absurd (never i t.instances v (f.0 ∙ sym r.count) h)
      by (inr f) (inl h) = absurd (never i s.instances p (h.0 ∙ r.count) f)
      by (inr f) (inr h) = old_instance i p v f h

  -- ---- the topmost activation

  abbrev a : Activation
  a = u.top

  abbrev c : Activation
  c = w.top

  alone_too : t.top.instance ≡ None
  alone_too = r.top.instance ∙ g.alone

  known_top : IsKnownTo t.instances t.top
  known_top i is = absurd (never_so t.top.instance i alone_too is)
    where
      never_so : (o : Option ℕ) (i : ℕ) → o ≡ None → o ≡ Some i → ⊥
      never_so None i f h = absurd (cc)
      never_so (Some j) i f h = absurd (cc)

  acting_top : AreActing e more now q s.top t.top
  acting_top =
      acting_on e r.homes more r.hides now d q other (IsKnownTo t.instances) goes_on s.top t.top known_top g.slots
      (acting e r.homes r.hides d s.top t.top r.top)

  no_frame : (o : Option ℕ) → o ≡ None → (z : Instance) → instance_in u.instances o ≡ Some z → ⊥
  no_frame None is z f = absurd (cc)
  no_frame (Some i) is z f = absurd (cc)

  released : AreReleased (e.shape s.top.func) q s.top t.top → AreReleased (e.shape s.top.func) q a c
  released h = record {
    freed = λ n is. ⊎_elim (λ none. inl none)
        (λ both. absurd (no_frame s.top.instance g.alone both.1.0 both.1.1)) (h.freed n is);
    tested = h.tested;
  }

  allocas_same : (own : List Slot) (is : List Instr) → Each (HasAlloca more now q t.top own) is
      → Each (HasAlloca more now q c own) is
  allocas_same own [] h = tt
  allocas_same own (i ∷ is) h = (
    record {
      name = h.0.name;
      size = h.0.size;
      align = h.0.align;
      is = h.0.is;
      block = h.0.block;
      address = h.0.address;
      slot = h.0.slot;
      there = h.0.there;
      is_there = h.0.is_there;
      kind = h.0.kind;
      live = h.0.live;
      sized = h.0.sized;
      full = h.0.full;
      free = h.0.free;
    },
    allocas_same own is h.1,
  )

  all_same : (own : List Slot) → HasAllocas e more now q s.top t.top own → HasAllocas e more now q a c own
  all_same own (inl first) = inl first
  all_same own (inr made) =
      inr (allocas_same own (allocas_ahead (rooms e s.top.func) (function_in e s.top.func)) made.0, made.1)

  named : AreNamed e more (was_given q t.top) s.top t.top → AreNamed e more (was_given q c) a c
  named h = subst (λ (m : Bool). AreNamed e more m a c) (sym g.mode) (record { each = h.each; room = h.room })

  begun_top : AreActing e more now q a c
  begun_top = record {
    func = acting_top.func;
    result = acting_top.result;
    instance = ap Some r.count;
    has_left = acting_top.has_left;
    mode = acting_top.mode;
    values = named acting_top.values;
    asked = acting_top.asked;
    released = λ given. released (acting_top.released (sym g.mode ∙ given));
    own = acting_top.own;
    slots = acting_top.slots;
    allocas = all_same acting_top.own acting_top.allocas;
  }

  -- ---- behind the begin

  module _ (result : Option ℕ) (first second : Value) (p : IsOwnPlace e a c)
      (sets : SetsAlike e more q a c result first second)
      (none : held_name e (is_given_mode t.top.mode) (went a result first s.top.has_left) ≡ None)
      (counts : given_frames w ≡ given_frames t + holds_one (held_name e (is_given_mode t.top.mode) s.top)) where
    abbrev behind : Activation
    behind = went a result first s.top.has_left

    abbrev other_behind : Activation
    other_behind = went c result second t.top.has_left

    held : HoldsBlock now u.world.memory behind
        (held_name e (is_given_mode t.top.mode) behind)
    held =
        subst (λ (o : Option ℕ). HoldsBlock now u.world.memory behind o) (sym none) tt

    here : IsHere e a c
    here = record { block = p.block; own = p.own }

    top : AreActivations e more now q behind other_behind
    top =
        held_too e more now q behind other_behind
        (went_place e more now q a c result first second s.top.has_left t.top.has_left begun_top here
        (λ z. p.starts z.0 z.1) sets r.top.has_left)
        (went_on e more now q a c result first second s.top.has_left t.top.has_left begun_top here
        (λ z. p.starts z.0 z.1) sets r.top.has_left) held

    total : (p n h l k : ℕ) (o : Option ℕ) → o ≡ None → l ≡ n + h
        → p + (n + (h + k)) ≡ p + (l + (holds_one o + k))
    total p n h l k None is e = omega (arith, e)
    total p n h l k (Some name) is e = absurd (cc)

    pub begun_beside : AreElided e (gives u result first) (gives w result second)
    begun_beside = record {
      homes = more;
      hides = now;
      world = g.world;
      known = g.long ∙ (r.known ∙ sym (same_length s.world.memory b (owned_to size)));
      globals = λ n lt. g.extends.each n (ap (λ (h : Home). h.is_seen) (r.globals n lt)) ∙ r.globals n lt;
      hidden = λ n is. ⊎_elim
          (λ same. absurd (both (now n) (ap now same ∙ g.shown) is))
          (λ ne. ap (λ (h : Home). h.is_seen) (g.homes n ne) ∙ r.hidden n (sym (g.hides n ne) ∙ is))
          (cases_eq n b);
      mates = mates;
      count = one_longer t.instances y ∙ (ap (λ (n : ℕ). n + 1) r.count ∙ sym (one_longer s.instances x));
      instances = instances;
      top = top;
      below = below_on e r.homes more r.hides now d q other (IsKnownTo t.instances) goes_on s.below t.below g.below
          r.below;
      once = none_apart e s.top behind t.top other_behind s.below t.below none r.once;
      allocs = r.allocs ∙ ap capped (total t.world.allocs (given_frames t)
          (holds_one (held_name e (is_given_mode t.top.mode) s.top)) (given_frames w)
          (held_blocks e s.below t.below) (held_name e (is_given_mode t.top.mode) behind) none counts);
      outcome = r.outcome;
    }
      where
        both : (m : Bool) → m ≡ false → m ≡ true → ⊥
        both true f h = absurd (cc)
        both false f h = absurd (cc)
