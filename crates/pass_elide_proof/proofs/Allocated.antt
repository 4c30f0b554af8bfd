-- The framed run allocates a frame while the other run waits.
use Rattle.std.proofs.Common.{◌≡◌, ◌≢◌, ◌<◌, ◌+◌, ◌-◌, ◌^◌, inl, inr, ⊎_elim, ℕ, zero, suc, Bool, true, false, List, [], ◌∷◌, ◌++◌, length, min, Ok, refl, sym, ap, ◌∙◌, subst, arith, ◌&&◌, ◌||◌, ◌==◌, length-append}
use Rattle.std.proofs.lemmas.List.{length-set}
use Rattle.std.specs.Option.{option_map_or}
use Rattle.std.specs.Prelude.{None, Option, Some, if◌then◌else◌, map, slice_get}
use Rattle.elide_shape.specs.Calls.{deals}
use Rattle.elide_shape.specs.declared.calls.Dealing.{Dealing}
use Rattle.pass_elide_proof.proofs.Sized.{other_value, stepped}
use Rattle.pass_elide_proof.specs.Allocating.{IsAtAllocation}
use Rattle.pass_elide_proof.specs.Counts.{capped, counted, given_frames}
use Rattle.pass_elide_proof.specs.Elision.{Elision, differs_in, elided, framed, function_in, rooms}
use Rattle.pass_elide_proof.specs.Match.{AreActivations, AreAsked, AreBelow, AreElided, AreInstances, AreMates, AreNamed, AreReleased, Aside, Beside, Freeing, HasAlloca, HasAllocas, HoldApart, HoldsBlock, IsAt, IsHeld, Sides, Waiting, held_blocks, held_name, holds_one, instance_in, is_given_mode, sides, was_given}
use Rattle.pass_elide_proof.specs.Places.{allocas_ahead}
use Rattle.pass_proofs.proofs.ir_laws.facts.Lists.{get_before, get_front, get_last, get_within, map_same}
use Rattle.pass_proofs.proofs.ir_laws.facts.Truth.{equal_numbers, itself, not_equal}
use Rattle.pass_proofs.proofs.run_laws.transfer.Grown.{new_stands}
use Rattle.pass_proofs.proofs.run_laws.transfer.Muted.{muted_length}
use Rattle.pass_proofs.specs.ir_model.Ty.{Ty}
use Rattle.pass_proofs.specs.ir_model.declared.instr.Instr.{Instr}
use Rattle.pass_proofs.specs.ir_model.declared.operand.Allocator.{Allocator}
use Rattle.pass_proofs.specs.ir_model.declared.operand.Arg.{Arg}
use Rattle.pass_proofs.specs.ir_model.declared.operand.Callee.{Callee}
use Rattle.pass_proofs.specs.run_framed.Framed.{frame_rights, framed_act, framed_next, framed_step, is_given}
use Rattle.pass_proofs.specs.run_laws.changed.Changed.{Each}
use Rattle.pass_proofs.specs.run_laws.embedded.Deaths.{moved_slot}
use Rattle.pass_proofs.specs.run_laws.embedded.Related.{AreWorlds}
use Rattle.pass_proofs.specs.run_laws.memory.Pointers.{Home, IsValue, home_of, nowhere}
use Rattle.pass_proofs.specs.run_laws.memory.Standing.{blank_block}
use Rattle.pass_proofs.specs.run_laws.transfer.Muted.{ended_if, muted}
use Rattle.pass_proofs.specs.run_laws.transfer.Places.{AreStanding, IsNewIn}
use Rattle.pass_proofs.specs.run_memory.Memory.{Rights}
use Rattle.pass_proofs.specs.run_memory.Pointers.{moved}
use Rattle.pass_proofs.specs.run_memory.declared.block.Kind.{Kind}
use Rattle.pass_proofs.specs.run_memory.declared.block.MemoryBlock.{MemoryBlock}
use Rattle.pass_proofs.specs.run_memory.declared.pointer.Pointer.{Pointer}
use Rattle.pass_proofs.specs.run_memory.declared.pointer.Value.{Value}
use Rattle.pass_proofs.specs.run_source.State.{settled, work_of}
use Rattle.pass_proofs.specs.run_source.declared.state.Activation.{Activation}
use Rattle.pass_proofs.specs.run_source.declared.state.Instance.{Instance}
use Rattle.pass_proofs.specs.run_source.declared.state.State.{State}
use Rattle.pass_proofs.specs.run_step.Step.{AtInstr, Done, Fetched, allocated, with_length}
use Rattle.pass_proofs.specs.run_step.Values.{Env, pointer_to, value_in, with_value}
use Rattle.pass_proofs.specs.run_step.declared.world.Slot.{Slot}

-- ---- one home more, to which no pointer leads

same_home : (homes : List Home) (b : ℕ) → home_of (homes ++ nowhere ∷ []) b ≡ home_of homes b
same_home [] zero = refl
same_home [] (suc b) = refl
same_home (h ∷ homes) zero = refl
same_home (h ∷ homes) (suc b) = same_home homes b

value_more : (homes : List Home) (v w : Value) → IsValue homes v w → IsValue (homes ++ nowhere ∷ []) v w
value_more homes Value.Poison w h = tt
value_more homes (Value.Int x) w h = h
value_more homes (Value.Ptr Pointer.Null) w h = h
value_more homes (Value.Ptr (Pointer.Func f)) w h = h
value_more homes (Value.Ptr (Pointer.At b o)) w h = (
  ap (λ (q : Home). q.is_seen) (same_home homes b) ∙ h.0,
  h.1 ∙ ap (λ (q : Home). Value.Ptr (Pointer.At q.block (moved o q.offset))) (sym (same_home homes b)),
)

-- ---- one block more, which is hidden

muted_more : (hides more : ℕ → Bool) (m : List MemoryBlock) (x : MemoryBlock)
    → ((c : ℕ) → c < length m → more c ≡ hides c) → more (length m) ≡ true
    → muted more (m ++ x ∷ []) ≡ muted hides m ++ ended_if true x ∷ []
muted_more hides more [] x same here = ap (λ (t : Bool). ended_if t x ∷ []) here
muted_more hides more (y ∷ m) x same here =
    let rest = muted_more (λ b. hides (suc b)) (λ b. more (suc b)) m x
    (λ c lt. same (suc c) (omega (arith, lt))) here in
    let first : more 0 ≡ hides 0 = same 0 (omega arith) in
    λ i. ended_if (first i) y ∷ rest i

-- the next block is hidden too
abbrev with_hidden : (ℕ → Bool) → ℕ → ℕ → Bool
with_hidden hides b c = hides c || (c == b)

was_hidden : (a b : Bool) → (a || b) ≡ false → a ≡ false
was_hidden true b e = e
was_hidden false b e = refl

no_other : (a b : Bool) → (a || b) ≡ false → b ≡ false
no_other true b e = absurd (cc)
no_other false b e = e

or_left : (a b : Bool) → a ≡ true → (a || b) ≡ true
or_left true b e = refl
or_left false b e = absurd (cc)

or_right : (a b : Bool) → b ≡ true → (a || b) ≡ true
or_right true b e = refl
or_right false b e = e

or_none : (a b : Bool) → b ≡ false → (a || b) ≡ a
or_none true b e = refl
or_none false b e = e

unequal : (c n : ℕ) → c < n → (c == n) ≡ false
unequal c n lt = on (c == n) refl
  where
    on : (t : Bool) → (c == n) ≡ t → t ≡ false
    on true e = absurd (less c n lt (equal_numbers c n e))
      where
        less : (c n : ℕ) → c < n → c ≡ n → ⊥
        less c n lt e = omega (arith, lt, e)
    on false e = refl

within : (m : List MemoryBlock) (x : MemoryBlock) (c : ℕ) → c < length (m ++ x ∷ []) → (c == length m) ≡ false
    → c < length m
within m x c lt lacks =
    let long : length (m ++ x ∷ []) ≡ length m + 1 = length-append m (x ∷ []) in
    let other : c ≢ length m = not_equal c (length m) lacks in
    omega (arith, lt, long, other)

-- ---- the step

module _ (e : Elision) (s t : State) (a : Allocator) (result : ℕ) (must_tail : Bool) (ty : Option Ty)
    (args : List Arg) (r : AreElided e s t) (at : IsAtAllocation e s t a result must_tail ty args) where
  abbrev call : Allocator → Fetched
  call b = AtInstr (Instr.Call (Some result) must_tail ty (Callee.Allocator b) args)

  abbrev f : ℕ
  f = s.top.func

  abbrev m : List MemoryBlock
  m = s.world.memory

  abbrev x : MemoryBlock
  x = blank_block at.word.bits 16 Kind.Allocator

  -- the state behind the call
  abbrev u : State
  u = settled s (allocated (work_of s) (Some result) at.word.bits)

  abbrev Allocates : Allocator → Type 0
  Allocates b = deals Dealing.Allocates b ≡ true → framed_next (framed e) s (call b) ≡ Ok u

  goes : (b : Allocator) → Allocates b
  goes Allocator.Malloc h =
      ap (λ (v : Value). framed_act (framed e) s (with_length v
      (λ n. Done (allocated (work_of s) (Some result) n)))) at.size
  goes Allocator.Znwm h =
      ap (λ (v : Value). framed_act (framed e) s (with_length v
      (λ n. Done (allocated (work_of s) (Some result) n)))) at.size
  goes Allocator.Free h = absurd (cc)
  goes Allocator.ZdlPv h = absurd (cc)
  goes Allocator.ZdlPvm h = absurd (cc)

  pub allocates_here : framed_step (framed e) s
      ≡ settled s (allocated (work_of s) (Some result) at.word.bits)
  allocates_here = stepped (framed e) s u (call a) at.runs at.there (goes a at.allocates)

  -- ---- homes and what is hidden

  abbrev homes : List Home
  homes = r.homes ++ nowhere ∷ []

  abbrev hides : ℕ → Bool
  hides = with_hidden r.hides (length m)

  abbrev d : Sides
  d = sides s t

  abbrev k : Sides
  k = sides u t

  hides_old : (c : ℕ) → c < length m → hides c ≡ r.hides c
  hides_old c lt = or_none (r.hides c) (c == length m) (unequal c (length m) lt)

  hides_new : hides (length m) ≡ true
  hides_new = or_right (r.hides (length m)) (length m == length m) (itself (length m))

  is_muted : muted hides (m ++ x ∷ []) ≡ muted r.hides m ++ ended_if true x ∷ []
  is_muted = muted_more r.hides hides m x hides_old hides_new

  abbrev R : Rights
  R = frame_rights (framed e) s.instances

  abbrev T : Rights
  T = frame_rights (elided e) t.instances

  old_stands : AreStanding R T r.homes (muted r.hides m) t.world.memory
  old_stands = record { memory = r.world.memory; nulls = r.world.nulls; bounds = r.world.bounds }

  unlit : (q : Bool) → q ≡ false → q ≡ true → ⊥
  unlit true e h = absurd (cc)
  unlit false e h = absurd (cc)

  new_in : IsNewIn R T r.homes (muted r.hides m) t.world.memory nowhere (ended_if true x)
  new_in = record {
    known = r.known ∙ sym (muted_length r.hides m);
    stands = λ live. absurd (unlit _ refl live);
    apart = λ live. absurd (unlit _ refl live);
    seen = λ seen. absurd (unlit _ refl seen);
  }

  now_stands : AreStanding R T homes (muted hides (m ++ x ∷ [])) t.world.memory
  now_stands =
      subst (λ (n : List MemoryBlock). AreStanding R T homes n t.world.memory) (sym is_muted)
      (new_stands R T r.homes (muted r.hides m) t.world.memory nowhere (ended_if true x) new_in old_stands)

  world : AreWorlds R T homes (λ d. d) (record (counted t.world.allocs u.world) { memory = muted hides (m ++ x ∷ []) })
      t.world
  world = record {
    memory = now_stands.memory;
    nulls = now_stands.nulls;
    bounds = now_stands.bounds;
    events = r.world.events;
    answers = r.world.answers;
    allocs = refl;
  }

  known : length homes ≡ length (m ++ x ∷ [])
  known =
      let more : length homes ≡ length r.homes + 1 = length-append r.homes (nowhere ∷ []) in
      let grown : length (m ++ x ∷ []) ≡ length m + 1 = length-append m (x ∷ []) in
      let old = r.known in
      omega (arith, more, grown, old)

  hidden : (n : ℕ) → hides n ≡ true → (home_of homes n).is_seen ≡ false
  hidden n h = ap (λ (q : Home). q.is_seen) (same_home r.homes n) ∙ on (r.hides n) refl (n == length m) refl h
    where
      last : (homes : List Home) → (home_of homes (length homes)).is_seen ≡ false
      last [] = refl
      last (q ∷ homes) = last homes

      on : (p : Bool) → r.hides n ≡ p → (q : Bool) → (n == length m) ≡ q → (p || q)
          ≡ true → (home_of r.homes n).is_seen ≡ false
      on true old q new h = r.hidden n old
      on false old true new h =
          let is : n ≡ length r.homes = equal_numbers n (length m) new ∙ sym r.known in
          ap (λ (b : ℕ). (home_of r.homes b).is_seen) is ∙ last r.homes
      on false old false new h = absurd (cc)

  -- ---- blocks

  old_block : (n : ℕ) (z : MemoryBlock) → slice_get (m ++ x ∷ []) n ≡ Some z → hides n ≡ false → slice_get m n ≡ Some z
  old_block n z there h =
      let lt = within m x n (get_within (m ++ x ∷ []) n z there) (no_other (r.hides n) (n == length m) h) in
      sym (get_front m (x ∷ []) n lt) ∙ there

  mates : AreMates homes hides k
  mates = record {
    each = λ n z there h free.
        let old = r.mates.each n z (old_block n z there h) (was_hidden (r.hides n) (n == length m) h) free in
        (old.0, old.1, same_home r.homes n ∙ old.2, old.3);
    alone = λ n c lt gt h i free none same.
        r.mates.alone n c (within m x n lt (no_other (r.hides n) (n == length m) h))
        (within m x c gt (no_other (r.hides c) (c == length m) i)) (was_hidden (r.hides n) (n == length m) h)
        (was_hidden (r.hides c) (c == length m) i) free none
        (ap (λ (q : Home). q.block) (sym (same_home r.homes n)) ∙ (same
        ∙ ap (λ (q : Home). q.block) (same_home r.homes c)));
  }

  instances : (i : ℕ) (y z : Instance) → slice_get s.instances i ≡ Some y → slice_get t.instances i ≡ Some z
      → AreInstances e homes t.world.memory y z
  instances i y z at to =
      let old = r.instances i y z at to in
      record {
        coroutine = old.coroutine;
        whole = old.whole;
        home = same_home r.homes y.block ∙ old.home;
        status = old.status;
        last_save = old.last_save;
        released = old.released;
        freed = old.freed;
        slots = old.slots;
        no_slots = old.no_slots;
      }

  -- ---- activations

  alloca_more : (c : Activation) (own : List Slot) (i : Instr) → HasAlloca r.homes r.hides d c own i
      → HasAlloca homes hides k c own i
  alloca_more c own i h = record {
    name = h.name;
    size = h.size;
    align = h.align;
    is = h.is;
    block = h.block;
    address = h.address;
    slot = h.slot;
    there = h.there;
    is_there = h.is_there;
    kind = h.kind;
    live = h.live;
    sized = h.sized;
    full = h.full;
    free = λ n lt calm free same.
        h.free n (within m x n lt (no_other (r.hides n) (n == length m) calm)) (was_hidden (r.hides n)
        (n == length m) calm)
        free (ap (λ (q : Home). q.block) (sym (same_home r.homes n)) ∙ same);
  }

  allocas_more : (c : Activation) (own : List Slot) (is : List Instr) → Each (HasAlloca r.homes r.hides d c own) is
      → Each (HasAlloca homes hides k c own) is
  allocas_more c own [] h = tt
  allocas_more c own (i ∷ is) h = (alloca_more c own i h.0, allocas_more c own is h.1)

  all_more : (b c : Activation) (own : List Slot) → HasAllocas e r.homes r.hides d b c own
      → HasAllocas e homes hides k b c own
  all_more b c own (inl first) = inl first
  all_more b c own (inr made) =
      inr (allocas_more c own (allocas_ahead (rooms e b.func) (function_in e b.func)) made.0, made.1)

  held_more : (b : Activation) (o : Option ℕ) → HoldsBlock r.hides m b o
      → HoldsBlock hides (m ++ x ∷ []) b o
  held_more b None h = tt
  held_more b (Some name) h = record {
    block = h.block;
    size = h.size;
    address = h.address;
    hidden = or_left (r.hides h.block) (h.block == length m) h.hidden;
    there = get_before m (x ∷ []) h.block (blank_block h.size 16 Kind.Allocator) h.there;
  }

  slots_more : (ss : List Slot) → map (moved_slot r.homes) ss ≡ map (moved_slot homes) ss
  slots_more ss =
      map_same (moved_slot r.homes) (moved_slot homes)
      (λ z. ap (λ (q : Home). record { alloca = z.alloca; block = q.block }) (sym (same_home r.homes z.block))) ss

  place_more : (given : Bool) (b c : Activation) → IsAt e r.homes given b c → IsAt e homes given b c
  place_more given b c (Beside same there) = Beside same there
  place_more given b c (Waiting ramp waits there) = Waiting ramp waits there
  place_more given b c (Freeing holds waits there) = Freeing holds waits there
  place_more given b c (Aside holds waits there alike) =
      Aside holds waits there (λ n p q i j lt is js pi qj.
      value_more r.homes (value_in b.values p) (value_in c.values q) (alike n p q i j lt is js pi qj))

  released_below : (b c : Activation) → AreReleased (e.shape b.func) d b c → AreReleased (e.shape b.func) k b c
  released_below b c h = record { freed = h.freed; tested = h.tested }

  moved_below : (b c : Activation) → AreActivations e r.homes r.hides d b c → AreActivations e homes hides k b c
  moved_below b c h = record {
    func = h.func;
    result = h.result;
    instance = h.instance;
    has_left = h.has_left;
    mode = h.mode;
    place = place_more (was_given d c) b c h.place;
    values = record {
      each = λ v calm. value_more r.homes (value_in b.values v) (value_in c.values v) (h.values.each v calm);
      room = h.values.room;
    };
    asked = h.asked;
    released = λ given. released_below b c (h.released given);
    own = h.own;
    slots = h.slots ∙ ap (λ (ss : List Slot). ss ++ h.own) (slots_more b.slots);
    allocas = all_more b c h.own h.allocas;
    held = held_more b (held_name e (is_given_mode c.mode) b) h.held;
  }

  below : (bs cs : List Activation) → AreBelow e r.homes r.hides d bs cs → AreBelow e homes hides k bs cs
  below [] [] h = tt
  below [] (c ∷ cs) h = h
  below (b ∷ bs) [] h = h
  below (b ∷ bs) (c ∷ cs) h = ((h.0.0, moved_below b c h.0.1), below bs cs h.1)

  -- ---- the ramp that allocated

  value_here : (env : Env) (name : ℕ) (v : Value) → name < length env → value_in (with_value env name v) name ≡ v
  value_here [] name v lt = absurd (omega (arith, lt))
  value_here (c ∷ env) zero v lt = refl
  value_here (c ∷ env) (suc name) v lt = value_here env name v (omega (arith, lt))

  new_value : value_in u.top.values result ≡ pointer_to (length m)
  new_value = value_here s.top.values result (pointer_to (length m)) at.room

  was : was_given d t.top ≡ true
  was =
      ap (λ (b : Bool). if b then true
      else option_map_or (is_given d.other) (instance_in d.second t.top.instance) false) at.given

  differ : (need made rest ramp : Bool) → ramp ≡ true → made ≡ true → ((ramp && (need || made)) || rest) ≡ false → ⊥
  differ true made rest true y z h = absurd (cc)
  differ false true rest true y z h = absurd (cc)
  differ false false rest true y z h = absurd (cc)
  differ need made rest false y z h = absurd (cc)

  unset : (v : ℕ) → differs_in (e.shape f) (is_given_mode t.top.mode) (was_given d t.top) v ≡ false → v ≢ result
  unset v h same =
      differ ((e.shape f).need v) ((e.shape f).made v) _ (is_given_mode t.top.mode) at.given
      (ap (e.shape f).made same ∙ at.made.made) h

  same_value : (v : ℕ) → v ≢ result → value_in u.top.values v ≡ value_in s.top.values v
  same_value v ne = other_value s.top.values result v (pointer_to (length m)) ne

  named : AreNamed e homes (was_given k t.top) u.top t.top
  named = record {
    each = λ v h.
        subst (λ (y : Value). IsValue homes y (value_in t.top.values v)) (sym (same_value v (unset v h)))
        (value_more r.homes (value_in s.top.values v) (value_in t.top.values v) (r.top.values.each v h));
    room =
        let long = length-set s.top.values result (Some (pointer_to (length m))) in
        let old = r.top.values.room in
        omega (arith, long, old);
  }

  yes_no : (p : Bool) → p ≡ true → p ≡ false → ⊥
  yes_no true y n = absurd (cc)
  yes_no false y n = absurd (cc)

  some_none : {A : Type 0} (o : Option A) (q : A) → o ≡ Some q → o ≡ None → ⊥
  some_none None q y n = absurd (cc)
  some_none (Some p) q y n = absurd (cc)

  same_need : (v : ℕ) → (e.shape f).need v ≡ true → value_in u.top.values v ≡ value_in s.top.values v
  same_need v is =
      same_value v (λ same. yes_no ((e.shape f).need v) is (ap (e.shape f).need same ∙ at.made.need))

  same_freed : (v : ℕ) → (e.shape f).freed v ≡ true → value_in u.top.values v ≡ value_in s.top.values v
  same_freed v is =
      same_value v (λ same. yes_no ((e.shape f).freed v) is (ap (e.shape f).freed same ∙ at.made.freed))

  same_tested : (v : ℕ) (p : Bool) → (e.shape f).tested v ≡ Some p
      → value_in u.top.values v ≡ value_in s.top.values v
  same_tested v p is =
      same_value v (λ same. some_none ((e.shape f).tested v) p is (ap (e.shape f).tested same ∙ at.made.tested))

  asked : is_given_mode t.top.mode ≡ true → AreAsked (e.shape f) u.top t.top
  asked ramp v is =
      ⊎_elim (λ none. inl (same_need v is ∙ none)) (λ both. inr (same_need v is ∙ both.0, both.1))
      (r.top.asked ramp v is)

  released : was_given k t.top ≡ true → AreReleased (e.shape f) k u.top t.top
  released given = record {
    freed = λ v is. ⊎_elim (λ none. inl (same_freed v is ∙ none))
        (λ both. inr (both.0, (both.1.0, both.1.1, same_freed v is ∙ both.1.2))) ((r.top.released given).freed v is);
    tested = λ v p is. ⊎_elim (λ none. inl (same_tested v p is ∙ none))
        (λ both. inr (same_tested v p is ∙ both.0, both.1)) ((r.top.released given).tested v p is);
  }

  allocas : (own : List Slot) → HasAllocas e r.homes r.hides d s.top t.top own
      → HasAllocas e homes hides k u.top t.top own
  allocas own (inl first) =
      let empty : length own ≡ 0 = ap length first.2 in
      let none : length (allocas_ahead (rooms e f) (function_in e f)) ≡ 0 = ap length at.none in
      inr (
        subst (λ (is : List Instr). Each (HasAlloca homes hides k t.top own) is) (sym at.none) tt,
        empty ∙ sym none,
      )
  allocas own (inr made) =
      inr (allocas_more t.top own (allocas_ahead (rooms e f) (function_in e f)) made.0, made.1)

  held : (b : Bool) → b ≡ true → HoldsBlock hides (m ++ x ∷ []) u.top (held_name e b u.top)
  held true holds =
      subst (λ (o : Option ℕ). HoldsBlock hides (m ++ x ∷ []) u.top o) (sym at.behind)
      (record {
        block = length m;
        size = at.word.bits;
        address = new_value;
        hidden = hides_new;
        there = get_last m x;
      })
  held false holds = absurd (cc)

  top : AreActivations e homes hides k u.top t.top
  top = record {
    func = r.top.func;
    result = r.top.result;
    instance = r.top.instance;
    has_left = r.top.has_left;
    mode = r.top.mode;
    place = Waiting at.given at.waits at.stays;
    values = named;
    asked = asked;
    released = released;
    own = r.top.own;
    slots = r.top.slots ∙ ap (λ (ss : List Slot). ss ++ r.top.own) (slots_more s.top.slots);
    allocas = allocas r.top.own r.top.allocas;
    held = held (is_given_mode t.top.mode) at.given;
  }

  -- ---- what others hold is another block

  abbrev target : Value → ℕ
  target (Value.Ptr (Pointer.At b o)) = b
  target v = 0

  held_old : (b : Activation) (q : ℕ) (o : Option ℕ) → o ≡ Some q → HoldsBlock r.hides m b o
      → target (value_in b.values q) < length m
  held_old b q o is h =
      let old : IsHeld r.hides m b q = subst (λ (p : Option ℕ). HoldsBlock r.hides m b p) is h in
      let lt = get_within m old.block (blank_block old.size 16 Kind.Allocator) old.there in
      subst (λ (n : ℕ). n < length m) (ap target (sym old.address)) lt

  held_below : (bs cs : List Activation) → AreBelow e r.homes r.hides d bs cs → (n q : ℕ) (b c : Activation)
      → slice_get bs n ≡ Some b → slice_get cs n ≡ Some c → held_name e (is_given_mode c.mode) b ≡ Some q
      → target (value_in b.values q) < length m
  held_below [] cs h n q b c eb ec is = absurd (cc)
  held_below (y ∷ ys) [] h n q b c eb ec is = absurd h
  held_below (y ∷ ys) (z ∷ zs) h zero q b c eb ec is =
      let first : y ≡ b = cc in
      let second : z ≡ c = cc in
      let name : held_name e (is_given_mode z.mode) y ≡ Some q
      = (λ j. held_name e (is_given_mode (second j).mode) (first j)) ∙ is in
      subst (λ (o : Activation). target (value_in o.values q) < length m) first
      (held_old y q (held_name e (is_given_mode z.mode) y) name h.0.1.held)
  held_below (y ∷ ys) (z ∷ zs) h (suc n) q b c eb ec is = held_below ys zs h.1 n q b c eb ec is

  top_name : (b : Bool) → b ≡ true → (p : ℕ) → held_name e b u.top ≡ Some p → result ≡ p
  top_name true holds p is = let same : Some result ≡ Some p = sym at.behind ∙ is in cc
  top_name false holds p is = absurd (cc)

  not_below : (v w : Value) → v ≡ pointer_to (length m) → v ≡ w → target w < length m → ⊥
  not_below v w new same lt =
      let is : length m ≡ target w = ap target (sym new ∙ same) in omega (arith, is, lt)

  once : HoldApart e (u.top ∷ s.below) (t.top ∷ t.below)
  once zero zero p q b c g h ne eb ec eg eh hb hc same = ne refl
  once zero (suc n) p q b c g h ne eb ec eg eh hb hc same =
      let first : u.top ≡ b = cc in
      let second : t.top ≡ g = cc in
      let name = top_name (is_given_mode t.top.mode) at.given p
      ((λ j. held_name e (is_given_mode (second j).mode) (first j)) ∙ hb) in
      let new : value_in b.values p ≡ pointer_to (length m)
      = (λ j. value_in (sym first j).values (sym name j)) ∙ new_value in
      not_below (value_in b.values p) (value_in c.values q) new same
      (held_below s.below t.below r.below n q c h ec eh hc)
  once (suc n) zero p q b c g h ne eb ec eg eh hb hc same =
      let first : u.top ≡ c = cc in
      let second : t.top ≡ h = cc in
      let name = top_name (is_given_mode t.top.mode) at.given q
      ((λ j. held_name e (is_given_mode (second j).mode) (first j)) ∙ hc) in
      let new : value_in c.values q ≡ pointer_to (length m)
      = (λ j. value_in (sym first j).values (sym name j)) ∙ new_value in
      not_below (value_in c.values q) (value_in b.values p) new (sym same)
      (held_below s.below t.below r.below n p b g eb eg hb)
  once (suc j) (suc n) p q b c g h ne eb ec eg eh hb hc same =
      r.once (suc j) (suc n) p q b c g h ne eb ec eg eh hb hc same

  -- ---- counts

  rises : (most c n : ℕ) → c ≡ min n most → min (c + 1) most ≡ min (n + 1) most
  rises most c n e = omega (arith, e)

  before_name : (b : Bool) → held_name e b s.top ≡ None
  before_name true = at.before
  before_name false = refl

  behind_name : (b : Bool) → b ≡ true → held_name e b u.top ≡ Some result
  behind_name true holds = at.behind
  behind_name false holds = absurd (cc)

  abbrev total : ℕ → ℕ
  total n = t.world.allocs + (given_frames t + (n + held_blocks e s.below t.below))

  allocs : u.world.allocs ≡ capped (total (holds_one (held_name e (is_given_mode t.top.mode) u.top)))
  allocs =
      let old : s.world.allocs ≡ min (total 0) (2 ^ 128 - 1)
      = r.allocs ∙ ap (λ (o : Option ℕ). capped (total (holds_one o))) (before_name (is_given_mode t.top.mode)) in
      let more : total 0 + 1 ≡ total 1 = one (t.world.allocs) (given_frames t) (held_blocks e s.below t.below) in
      rises (2 ^ 128 - 1) s.world.allocs (total 0) old
      ∙ (ap (λ (n : ℕ). min n (2 ^ 128 - 1)) more
      ∙ ap (λ (o : Option ℕ). capped (total (holds_one o))) (sym (behind_name (is_given_mode t.top.mode) at.given)))
    where
      one : (p q n : ℕ) → p + (q + (0 + n)) + 1 ≡ p + (q + (1 + n))
      one p q n = omega arith

  beside : AreElided e u t
  beside = record {
    homes = homes;
    hides = hides;
    world = world;
    known = known;
    globals = λ n lt. same_home r.homes n ∙ r.globals n lt;
    hidden = hidden;
    mates = mates;
    count = r.count;
    instances = instances;
    top = top;
    below = below s.below t.below r.below;
    once = once;
    allocs = allocs;
    outcome = r.outcome;
  }

  pub waits : AreElided e (framed_step (framed e) s) t
  waits =
      subst (λ (v : State). AreElided e v t)
      (sym allocates_here) beside
