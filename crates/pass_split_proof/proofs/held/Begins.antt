-- A coroutine begins: in an allocator's block, in one that it is given, or in a frame around.
use Rattle.std.proofs.Common.{◌≡◌, ℕ, ◌<◌, ◌≤◌, Bool, true, false, not, List, [], ◌∷◌, ◌++◌, length, Option, Some, None, Result, Ok, Err, refl, sym, ap, ◌∙◌, subst, arith, if◌then◌else◌, ◌&&◌, ◌==◌}
use Rattle.std.specs.Prelude.{slice_get, is_none, is_some, filter}
use Rattle.std.proofs.lemmas.Bool.{and_from, and_parts, eq-eqb, false≢true, leb-true}
use Rattle.std.proofs.lemmas.Option.{slice_get_within}
use Rattle.std.specs.Option.{option_map_or}
use Rattle.pass_proofs.specs.ir_base.declared.cause.Cause.{Cause}
use Rattle.pass_split_proof.proofs.held.Instances.{changed_kept, have_slots_on, kept_on, more_kept}
use Rattle.pass_split_proof.proofs.held.Memory.{Keeps, keeps_changed, slots_on}
use Rattle.pass_split_proof.proofs.held.Moves.{StaysKept, found_is, if_kept, ok_is, ok_same, then_kept}
use Rattle.pass_split_proof.proofs.states.Judged.{get_new}
use Rattle.pass_split_proof.proofs.steps.Woken.{found_there}
use Rattle.pass_split_proof.specs.held.Kept.{IsKeptState, IsNoHeap, is_heap_in, is_kept_in}
use Rattle.pass_proofs.specs.run_framed.Framed.{FramedGiven, are_finished_at, begin_given, begin_given_at, begin_in_block, begin_in_frame, covers, frame_around, framed_begin, has_room, has_size}
use Rattle.pass_proofs.proofs.run_laws.memory.Written.{changed_here, same_some}
use Rattle.pass_proofs.specs.run_laws.changed.Changed.{Each}
use Rattle.pass_proofs.specs.run_memory.Memory.{check, is_live, may_be_owned, own, owned_to, with_block}
use Rattle.pass_proofs.specs.run_memory.declared.block.Kind.{Kind}
use Rattle.pass_proofs.specs.run_memory.declared.block.MemoryBlock.{MemoryBlock}
use Rattle.pass_proofs.specs.run_memory.declared.pointer.Offset.{Offset}
use Rattle.pass_proofs.specs.run_memory.declared.pointer.Pointer.{Pointer}
use Rattle.pass_proofs.specs.run_memory.declared.pointer.Value.{Value}
use Rattle.pass_proofs.proofs.run_source.Indexes.{last-passes}
use Rattle.pass_proofs.specs.run_source.Source.{begin, begin_at, begun, is_among, is_live_at, new_instance}
use Rattle.pass_proofs.specs.run_source.State.{began_at, gives, last_where, own_facts, own_frame, with_memory}
use Rattle.pass_proofs.specs.run_source.declared.state.Instance.{Instance}
use Rattle.pass_proofs.specs.run_source.declared.state.Mode.{Mode}
use Rattle.pass_proofs.specs.run_source.declared.state.State.{State}
use Rattle.pass_proofs.specs.run_source_tables.Given.{Given}
use Rattle.pass_proofs.specs.run_step.Results.{and_then, found, ok_if}
use Rattle.pass_proofs.specs.run_step.Step.{block_of}
use Rattle.pass_proofs.specs.run_step.declared.world.Slot.{Slot}

-- ---- slots that are parted

each_filtered : (P : Slot → Type 0) (test : Slot → Bool) (slots more : List Slot) → Each P slots → Each P more
    → Each P (filter test slots ++ more)
each_filtered P test [] more x y = y
each_filtered P test (slot ∷ slots) more x y = on (test slot) (each_filtered P test slots more x.1 y)
  where
    on : (b : Bool) → Each P (filter test slots ++ more)
        → Each P ((if b then slot ∷ filter test slots else filter test slots) ++ more)
    on true rest = (x.0, rest)
    on false rest = rest

-- ---- an instance more

module _ (g : Given) (s : State) (block start : ℕ) where
  abbrev x : Instance
  x = new_instance s.top.func block start

  abbrev out : Slot → Bool
  out slot = not (is_among (own_facts g s).ramp_slots slot)

  abbrev no_heap : Slot → Type 0
  no_heap slot = IsNoHeap s.world.memory slot.block

  begun_kept : IsKeptState s → block < length s.world.memory
      → (start ≡ 0 → is_heap_in (slice_get s.world.memory block) ≡ true
      → is_kept_in (slice_get s.world.memory block) ≡ true)
      → ((i : ℕ) (y : Instance) → slice_get s.instances i ≡ Some y → y.freed ≡ false → start ≡ 0 → y.start ≡ 0
      → y.block ≡ block → is_heap_in (slice_get s.world.memory block) ≡ true → ⊥)
      → IsKeptState (begun g s block start)
  begun_kept k known kept alone = record {
    instances = changed_kept (s.instances ++ x ∷ []) s.world.memory (length s.instances) x
        (record x { slots = filter out s.top.slots ++ [] }) (get_new s.instances x) refl refl refl
        (λ h. absurd (false≢true h)) (each_filtered no_heap out s.top.slots [] k.top tt)
        (more_kept s.instances x s.world.memory known refl refl tt kept alone k.instances);
    top = each_filtered no_heap (is_among (own_facts g s).ramp_slots) s.top.slots [] k.top tt;
    below = k.below;
  }

-- ---- a block that may be owned

record MayBeOwned (m : List MemoryBlock) (b : ℕ) (kind : Kind) : Type 0 where
  block : MemoryBlock
  there : slice_get m b ≡ Some block
  alive : is_live block.life ≡ true
  unowned : is_some block.owned ≡ false

may_be_owned_at : (m : List MemoryBlock) (b n : ℕ) (kind : Kind) → may_be_owned kind n (slice_get m b) ≡ true
    → MayBeOwned m b kind
may_be_owned_at m b n kind h = on (slice_get m b) refl h
  where
    no_true : (c : Bool) → not c ≡ true → c ≡ false
    no_true true e = absurd (false≢true e)
    no_true false e = refl

    on : (o : Option MemoryBlock) → slice_get m b ≡ o → may_be_owned kind n o ≡ true → MayBeOwned m b kind
    on None e h = absurd (false≢true h)
    on (Some u) e h =
        let p = and_parts _ _ h in let q = and_parts _ _ p.0 in let r = and_parts _ _ q.0 in
        record { block = u; there = e; alive = r.0; unowned = no_true (is_some u.owned) q.1 }

-- what owning gives
record Owned (m : List MemoryBlock) (mem : Value) (n : ℕ) (kind : Kind) (k : List MemoryBlock) : Type 0 where
  at : ℕ
  offset : Offset
  is : mem ≡ Value.Ptr (Pointer.At at offset)
  may : MayBeOwned m at kind
  memory : k ≡ with_block m at (owned_to n)

owned_by : (m : List MemoryBlock) (mem : Value) (n : ℕ) (kind : Kind) (k : List MemoryBlock) → own m mem n kind ≡ Ok k
    → Owned m mem n kind k
owned_by m (Value.Ptr (Pointer.At b o)) n kind k h = on ((o.bits == 0) && may_be_owned kind n (slice_get m b)) refl h
  where
    on : (t : Bool) → ((o.bits == 0) && may_be_owned kind n (slice_get m b)) ≡ t
        → check t Cause.Begin (Ok (with_block m b (owned_to n))) ≡ Ok k
        → Owned m (Value.Ptr (Pointer.At b o)) n kind k
    on false e h = absurd (cc)
    on true e h = record {
      at = b;
      offset = o;
      is = refl;
      may = may_be_owned_at m b n kind (and_parts (o.bits == 0) (may_be_owned kind n (slice_get m b)) e).1;
      memory = sym (ok_same (Ok (with_block m b (owned_to n))) (with_block m b (owned_to n)) k refl h);
    }
owned_by m _ n kind k h = absurd (cc)

keeps_owned : (m : List MemoryBlock) (b n : ℕ) → Keeps m (with_block m b (owned_to n))
keeps_owned m b n = keeps_changed m b (owned_to n) (λ u e. record {
  heap = refl;
  stack = refl;
  kept = λ h c. and_from (is_live u.life) true (and_parts (is_live u.life) (is_some u.owned) c).0 refl;
  gone = λ h c. c;
})

module _ (g : FramedGiven) (s : State) (kind : Kind) (kept : IsKeptState s) where
  -- the block is owned, and the instance begins in it
  module _ (mem : Value) (k : List MemoryBlock) (y : Owned s.world.memory mem (own_frame g.given s).size kind k)
      (b : ℕ)
      (is_at : block_of mem ≡ Some b) where
    abbrev l : List MemoryBlock
    l = with_block s.world.memory y.at (owned_to (own_frame g.given s).size)

    abbrev u : MemoryBlock
    u = y.may.block

    keeps : Keeps s.world.memory l
    keeps = keeps_owned s.world.memory y.at (own_frame g.given s).size

    here : y.at ≡ b
    here = same_some y.at b (ap block_of (sym y.is) ∙ is_at)

    on_owned : IsKeptState (with_memory s l)
    on_owned = record {
      instances = kept_on s.instances s.world.memory l keeps kept.instances;
      top = slots_on s.world.memory l keeps s.top.slots kept.top;
      below = have_slots_on s.world.memory l keeps s.below kept.below;
    }

    before : y.at < length s.world.memory
    before = slice_get_within s.world.memory y.at u y.may.there

    known : y.at < length l
    known = more y.at (length s.world.memory) (length l) before keeps.longer
      where
        more : (a b c : ℕ) → a < b → b ≤ c → a < c
        more a b c lt le = omega arith

    now : slice_get l y.at ≡ Some (owned_to (own_frame g.given s).size u)
    now = changed_here s.world.memory y.at (owned_to (own_frame g.given s).size) u y.may.there

    owned : ◌≡◌ {A = ℕ} 0 0 → is_heap_in (slice_get l y.at) ≡ true → is_kept_in (slice_get l y.at) ≡ true
    owned e h = ap is_kept_in now ∙ and_from (is_live u.life) true y.may.alive refl

    alone : (i : ℕ) (z : Instance) → slice_get s.instances i ≡ Some z → z.freed ≡ false → ◌≡◌ {A = ℕ} 0 0
        → z.start ≡ 0
        → z.block ≡ y.at → is_heap_in (slice_get l y.at) ≡ true → ⊥
    alone i z e unfreed begins start same heap =
        let at : slice_get s.world.memory z.block ≡ Some u = ap (slice_get s.world.memory) same ∙ y.may.there in
        let h : is_heap_in (slice_get s.world.memory z.block) ≡ true = ap (λ (c : ℕ).
        is_heap_in (slice_get s.world.memory c)) same ∙ sym (keeps.each y.at before).heap ∙ heap in
        let c : is_kept_in (slice_get s.world.memory z.block) ≡ true = kept.instances.kept i z e unfreed start h in
        let d : is_kept_in (Some u) ≡ true = sym (ap is_kept_in at) ∙ c in
        false≢true (sym y.may.unowned ∙ (and_parts (is_live u.life) (is_some u.owned) d).1)

    owned_kept : IsKeptState (begun g.given (with_memory s k) b 0)
    owned_kept = subst (λ (c : ℕ). IsKeptState (begun g.given (with_memory s k) c 0)) here
        (subst (λ (l : List MemoryBlock). IsKeptState (begun g.given (with_memory s l) y.at 0)) (sym y.memory)
        (begun_kept g.given (with_memory s l) y.at 0 on_owned known owned alone))

  at_kept : (mem : Value) → StaysKept (begin_at g.given s mem kind)
  at_kept mem = then_kept (own s.world.memory mem (own_frame g.given s).size kind)
      (λ (memory : List MemoryBlock). and_then (found Cause.Begin (block_of mem)) (λ (b : ℕ).
      Ok (begun g.given (with_memory s memory) b 0)))
      (λ k e. then_kept (found Cause.Begin (block_of mem)) (λ (b : ℕ). Ok (begun g.given (with_memory s k) b 0))
      (λ b f. owned_kept mem k (owned_by s.world.memory mem (own_frame g.given s).size kind k e) b
      (found_is Cause.Begin (block_of mem) b f)))

-- ---- in a frame around

-- a field of a frame lies behind the frame's start
module _ (g : FramedGiven) (xs : List Instance) (b k size : ℕ) where
  abbrev test : Instance → Bool
  test x = covers g b k x && not (began_at b k x)

  none_less : (a k : ℕ) → a ≤ k → k ≡ 0 → a ≡ k
  none_less a k le z = omega arith

  behind : (x : Instance) → test x ≡ true → k ≡ 0 → ⊥
  behind x e z =
      let p = and_parts (covers g b k x) (not (began_at b k x)) e in
      let front = and_parts _ _ (and_parts _ _ p.0).0 in
      let low : x.start ≤ k = leb-true x.start k front.1 in
      let begins : began_at b k x ≡ true = and_from (x.block == b) (x.start == k) front.0
      (eq-eqb x.start k (none_less x.start k low z)) in
      false≢true (ap not (sym begins) ∙ p.1)

  around_by : (o : Option (ℕ × Instance)) → last_where test xs ≡ o → has_room g k size o ≡ true → k ≡ 0 → ⊥
  around_by None e h z = false≢true h
  around_by (Some q) e h z =
      let f = found_there xs test q.0 q.1 e in
      behind q.1 (last-passes test xs (Some q.0) (sym f.0) q.1 f.1) z

  pub around_behind : has_room g k size (frame_around g xs b k) ≡ true → k ≡ 0 → ⊥
  around_behind = around_by (frame_around g xs b k) refl

module _ (g : FramedGiven) (s : State) (kept : IsKeptState s) where
  live_known : (b : ℕ) → is_live_at s.world.memory b ≡ true → b < length s.world.memory
  live_known b h = on (slice_get s.world.memory b) refl h
    where
      on : (o : Option MemoryBlock) → slice_get s.world.memory b ≡ o
          → option_map_or (λ (x : MemoryBlock). is_live x.life) o false ≡ true → b < length s.world.memory
      on None e h = absurd (false≢true h)
      on (Some u) e h = slice_get_within s.world.memory b u e

  frame_kept : (b : ℕ) (o : Offset) → (o.bits ≡ 0 → ⊥) → StaysKept (begin_in_frame g s b o)
  frame_kept b o behind = if_kept (is_live_at s.world.memory b) Cause.Begin (begun g.given s b o.bits) (λ h.
      begun_kept g.given s b o.bits kept (live_known b h) (λ z. absurd (behind z)) (λ i y e unfreed z. absurd
      (behind z)))

  block_kept : (b : ℕ) (o : Offset) → StaysKept (begin_in_block g s b o)
  block_kept b o = then_kept (ok_if ((o.bits == 0) && has_size s.world.memory b
      (own_frame g.given s).size) Cause.Begin s)
      (λ (u : State). begin_at g.given u (Value.Ptr (Pointer.At b o)) Kind.Stack)
      (λ u e. subst (λ (v : State). StaysKept (begin_at g.given v (Value.Ptr (Pointer.At b o)) Kind.Stack))
      (ok_is ((o.bits == 0) && has_size s.world.memory b (own_frame g.given s).size) Cause.Begin s u e).1
      (at_kept g s Kind.Stack kept (Value.Ptr (Pointer.At b o))))

  given_at_kept : (frame : Value) → StaysKept (begin_given_at g s frame)
  given_at_kept (Value.Ptr (Pointer.At b o))
      = on (has_room g o.bits (own_frame g.given s).size (frame_around g s.instances b o.bits)) refl
    where
      on : (t : Bool) → has_room g o.bits (own_frame g.given s).size (frame_around g s.instances b o.bits) ≡ t
          → StaysKept (if t then begin_in_frame g s b o else begin_in_block g s b o)
      on true e = frame_kept b o (around_behind g s.instances b o.bits (own_frame g.given s).size e)
      on false e = block_kept b o
  given_at_kept _ = tt

  -- behind a begin its value is given to a name
  gives_kept : (result : Option ℕ) (v : Value) (r : Result State Cause) → StaysKept r
      → StaysKept (and_then r (λ (u : State). Ok (gives u result v)))
  gives_kept result v (Err cause) k = tt
  gives_kept result v (Ok u) k = record { instances = k.instances; top = k.top; below = k.below }

  ramp_begins : (result : Option ℕ) (mem : Value) → StaysKept (begin g.given s result mem)
  ramp_begins result mem = then_kept (ok_if (is_none s.top.instance) Cause.Begin s)
      (λ (u : State). and_then (begin_at g.given u mem Kind.Allocator) (λ (v : State). Ok (gives v result mem)))
      (λ u e. subst (λ (w : State). StaysKept (and_then (begin_at g.given w mem Kind.Allocator)
      (λ (v : State). Ok (gives v result mem)))) (ok_is (is_none s.top.instance) Cause.Begin s u e).1
      (gives_kept result mem (begin_at g.given s mem Kind.Allocator) (at_kept g s Kind.Allocator kept mem)))

  given_begins : (result : Option ℕ) (frame : Value) → StaysKept (begin_given g s result frame)
  given_begins result frame = then_kept
      (ok_if (is_none s.top.instance && are_finished_at s.instances frame) Cause.Begin s)
      (λ (u : State). and_then (begin_given_at g u frame) (λ (v : State). Ok (gives v result frame)))
      (λ u e. subst (λ (w : State). StaysKept (and_then (begin_given_at g w frame)
      (λ (v : State). Ok (gives v result frame))))
      (ok_is (is_none s.top.instance && are_finished_at s.instances frame) Cause.Begin s u e).1
      (gives_kept result frame (begin_given_at g s frame) (given_at_kept frame)))

  pub begins_kept : (result : Option ℕ) (mem : Value) (mode : Mode) → StaysKept (framed_begin g s result mem mode)
  begins_kept result mem (Mode.GivenRamp frame) = given_begins result frame
  begins_kept result mem _ = ramp_begins result mem
