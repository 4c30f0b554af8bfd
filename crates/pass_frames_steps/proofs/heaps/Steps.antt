-- A deallocation of both runs: the block and its home die, and an instance is let go where one began there.
use Rattle.std.proofs.Common.{◌≡◌, ◌⊎◌, ◌+◌, ◌<◌, ◌%◌, ◌^◌, ◌&&◌, ◌==◌, ◌∷◌, ◌∙◌, [], if◌then◌else◌, Bool, Err, List, None, Ok, Option, Result, Some, ap, arith, false, inl, inr, length, not, refl, subst, suc, sym, true, zero, ℕ, ⊎_elim}
use Rattle.std.proofs.lemmas.Bool.{eqb-true}
use Rattle.std.specs.List.{Contains}
use Rattle.std.specs.Prelude.{slice_get, slice_set}
use Rattle.pass_frames_code.specs.ir_base.declared.cause.Cause.{Cause}
use Rattle.pass_frames_code.proofs.ir_laws.facts.Truth.{both_true, is_number}
use Rattle.pass_frames_steps.proofs.asking.Found.{found_at, known_block}
use Rattle.pass_frames_code.proofs.followed.Assembly.{other_instance}
use Rattle.pass_frames_steps.proofs.heaps.Killed.{WasThere, given_back, instance_left, slots_many, slots_were}
use Rattle.pass_frames_code.proofs.moved.Instances.{set_many}
use Rattle.pass_frames_code.proofs.stepping.Rest.{got}
use Rattle.pass_frames_code.specs.Asking.{AreFound, IsFoundBeside}
use Rattle.pass_frames_code.specs.Framings.{IsFraming}
use Rattle.pass_frames_code.specs.Heaps.{IsGivenBack, IsGivingBack, MayGiveBack, slots_let_go}
use Rattle.pass_frames_code.specs.Related.{AreBuiltOf, AreInstances, Building, IsStatus, is_coroutine}
use Rattle.pass_frames_code.proofs.pass_renewed_proof.Finishing.{found_in}
use Rattle.pass_frames_code.proofs.pass_renewed_proof.Freeing.{IsKilledAt, found_passes, killed_at, kills_at}
use Rattle.pass_frames_code.proofs.pass_renewed_proof.Listing.{set_here, set_other}
use Rattle.pass_frames_code.proofs.run_access_worked.Ended.{set_frames}
use Rattle.pass_frames_code.specs.run_access_worked.Frames.{AreSameFrames}
use Rattle.pass_frames_code.proofs.run_laws.memory.Written.{changed_here, same_some}
use Rattle.pass_frames_code.specs.run_laws.embedded.Making.{whole_home}
use Rattle.pass_frames_code.specs.run_laws.memory.Pointers.{Home, IsValue, home_of}
use Rattle.pass_frames_code.specs.run_memory.Memory.{disown, disowned, is_killed, is_owned, is_unkilled, kill, killed, killed_block, same_kind, with_block}
use Rattle.pass_frames_code.specs.run_memory.Pointers.{moved}
use Rattle.pass_frames_code.specs.run_memory.declared.block.Byte.{Byte}
use Rattle.pass_frames_code.specs.run_memory.declared.block.Kind.{Kind}
use Rattle.pass_frames_code.specs.run_memory.declared.block.MemoryBlock.{MemoryBlock}
use Rattle.pass_frames_code.specs.run_memory.declared.pointer.Offset.{Offset}
use Rattle.pass_frames_code.specs.run_memory.declared.pointer.Pointer.{Pointer}
use Rattle.pass_frames_code.specs.run_memory.declared.pointer.Value.{Value}
use Rattle.pass_frames_code.specs.run_source.Source.{deallocate, if_let_go, let_go, may_be_freed}
use Rattle.pass_frames_code.specs.run_source.State.{began_at, instance_at, is_suspended, last_from, last_where, next, with_instance, with_memory}
use Rattle.pass_frames_code.specs.run_source.declared.state.Activation.{Activation}
use Rattle.pass_frames_code.specs.run_source.declared.state.Instance.{Instance}
use Rattle.pass_frames_code.specs.run_source.declared.state.State.{State}
use Rattle.pass_frames_code.specs.run_source.declared.state.Status.{Status}
use Rattle.pass_frames_code.specs.run_step.Results.{and_then}
use Rattle.pass_frames_code.specs.run_step.Step.{deallocated, without_slots}
use Rattle.pass_frames_code.specs.run_step.declared.world.Slot.{Slot}

-- ---- what was executed

abbrev end_with : State → Value → Result State Cause
end_with z p = and_then (deallocated z.world.memory p) (λ memory. Ok (next (with_memory z memory)))

same_ok : {A : Type 0} {x y : A} → ◌≡◌ {A = Result A Cause} (Ok x) (Ok y) → x ≡ y
same_ok q = cc

-- the memory that is left
record IsEnded (z : State) (p : Value) (after : State) : Type 0 where
  memory : List MemoryBlock
  is : deallocated z.world.memory p ≡ Ok memory
  after_is : after ≡ next (with_memory z memory)

ended : (z : State) (p : Value) (after : State) → end_with z p ≡ Ok after → IsEnded z p after
ended z p after e = on (deallocated z.world.memory p) refl e
  where
    on : (w : Result (List MemoryBlock) Cause) → deallocated z.world.memory p ≡ w
        → and_then w (λ memory. Ok (next (with_memory z memory))) ≡ Ok after → IsEnded z p after
    on (Ok m) d e = record { memory = m; is = d; after_is = sym (same_ok e) }
    on (Err c) d e = absurd (cc)

-- ---- kinds, lives and frames

with_twice : (m : List MemoryBlock) (k : ℕ) (f g : MemoryBlock → MemoryBlock)
    → with_block (with_block m k f) k g ≡ with_block m k (λ x. g (f x))
with_twice [] k f g = refl
with_twice (x ∷ m) zero f g = refl
with_twice (x ∷ m) (suc k) f g = ap (λ (z : List MemoryBlock). x ∷ z) (with_twice m k f g)

same_frames : (xs : List Instance) → AreSameFrames xs xs
same_frames [] = tt
same_frames (x ∷ xs) = (record { coroutine = refl; block = refl; start = refl }, same_frames xs)

no_slot : (kind : Kind) → same_kind kind Kind.Allocator ≡ true → same_kind kind Kind.Slot ≡ false
no_slot Kind.Allocator e = refl
no_slot Kind.Stack e = absurd (cc)
no_slot Kind.Slot e = absurd (cc)
no_slot Kind.Global e = absurd (cc)
no_slot Kind.Constant e = absurd (cc)

-- ---- the states

module _ (b : Building) (s t : State) (r : AreBuiltOf b s t)
    (framings : (func : ℕ) → is_coroutine b func ≡ true → IsFraming (b.framing func)) (n k : ℕ)
    (home : home_of r.homes n ≡ whole_home k) (o : Offset) (at_start : o.bits ≡ 0) where
  abbrev P : Value
  P = Value.Ptr (Pointer.At n o)

  abbrev Q : Value
  Q = Value.Ptr (Pointer.At k (moved o 0))

  zero_there : (o.bits + 0) % 2 ^ 64 ≡ 0
  zero_there = ap (λ (z : ℕ). (z + 0) % 2 ^ 64) at_start

  start_there : ((moved o 0).bits == 0) ≡ true
  start_there = ap (λ (z : ℕ). z == 0) zero_there

  -- both find an instance that began there, or none
  pub both_found : AreFound b r.homes s t (instance_at s.instances (Value.Ptr (Pointer.At n o)))
      (instance_at t.instances (Value.Ptr (Pointer.At k (moved o 0))))
  both_found =
      subst
      (λ (z : ℕ × ℕ). AreFound b r.homes s t (last_where (began_at n z.0) s.instances)
      (last_where (began_at k z.1) t.instances)) (λ j. (sym at_start j, sym zero_there j)) (found_at b s t r n k home 0)

  -- ---- no instance is let go

  module _ (m : List MemoryBlock) (K : IsKilledAt s.world.memory n o m) (may : MayGiveBack b s t r n k [])
      (quiet : (top : Activation)
      → if_let_go (record t { top = top }) (instance_at t.instances (Value.Ptr (Pointer.At k (moved o 0))))
      ≡ record t { top = top }) where
    block : (x : MemoryBlock) × (slice_get s.world.memory n ≡ Some x)
    block = got s.world.memory n (known_block b s t r n k home)

    mate : (bytes : List Byte) × (slice_get t.world.memory k ≡ Some (record block.0 { bytes = bytes }))
    mate = r.mates.each n k block.0 block.1 home

    kills : kill t.world.memory Q Kind.Allocator ≡ Ok (killed t.world.memory k)
    kills =
        kills_at t.world.memory k (moved o 0) start_there
        (ap (is_unkilled Kind.Allocator) mate.1 ∙ ap (is_unkilled Kind.Allocator) (sym block.1) ∙ K.unkilled)
        (ap is_owned mate.1 ∙ ap is_owned (sym block.1) ∙ K.free)

    frames : AreSameFrames t.instances t.instances
    frames = same_frames t.instances

    placed : (slot : Slot) → Contains [] slot → (home_of r.homes slot.block).block ≡ k
    placed slot e = absurd (omega (arith, e.1))

    pub stayed : IsGivenBack b s t (next (with_memory s m)) (Value.Ptr (Pointer.At k (moved o 0)))
    stayed = record {
      source = record s.world { memory = killed s.world.memory n };
      instances = s.instances;
      target = record t.world { memory = killed t.world.memory k };
      others = t.instances;
      related = given_back b s t r framings n k home [] placed may t.instances frames s.instances r.count
          (λ i x y e d.
          instance_left b s t r framings n k home [] placed may t.instances frames s.instances i x y e
          (r.instances i x y e d));
      gives = ap (λ (z : List MemoryBlock). next (with_memory s z)) K.is;
      leads = λ top.
          ap (λ (z : State). end_with z Q) (quiet top)
          ∙ ap (λ (w : Result (List MemoryBlock) Cause). and_then w
          (λ memory. Ok (next (with_memory (record t { top = top }) memory)))) kills;
    }

  -- ---- an instance is let go

  module _ (i : ℕ) (x y : Instance) (there : slice_get s.instances i ≡ Some x)
      (there' : slice_get t.instances i ≡ Some y) (h : AreInstances b r.homes t x y) (began : x.block ≡ n)
      (lets : may_be_freed x ≡ true) (may : MayGiveBack b s t r n k x.slots) (m2 : List MemoryBlock)
      (K : IsKilledAt (disown (without_slots s.world.memory x.slots) x.block) n o m2)
      (found : instance_at t.instances (Value.Ptr (Pointer.At k (moved o 0))) ≡ Some (i, y)) where
    abbrev m : List MemoryBlock
    m = without_slots s.world.memory x.slots

    abbrev gone : Instance
    gone = record x { freed = true }

    abbrev gone' : Instance
    gone' = record y { freed = true }

    abbrev xs : List Instance
    xs = slice_set s.instances i gone

    abbrev ys : List Instance
    ys = slice_set t.instances i gone'

    y_block : y.block ≡ k
    y_block = ap (λ (z : Home). z.block) (sym h.block ∙ ap (home_of r.homes) began ∙ home)

    frames2 : AreSameFrames t.instances ys
    frames2 = set_frames t.instances i y gone' there' (record { coroutine = refl; block = refl; start = refl })

    placed2 : (slot : Slot) → Contains x.slots slot → (home_of r.homes slot.block).block ≡ k
    placed2 slot e = ap (λ (z : Home). z.block) (h.slots slot e).home ∙ y_block

    -- ---- the block before and behind

    KK : IsKilledAt (disown m n) n o m2
    KK = subst (λ (d : ℕ). IsKilledAt (disown m d) n o m2) began K

    block2 : (z : MemoryBlock) × (slice_get m n ≡ Some z)
    block2 =
        let lt : n < length s.world.memory = known_block b s t r n k home in
        let many : length m ≡ length s.world.memory = slots_many s.world.memory x.slots in
        got m n (omega (arith, lt, many))

    was : WasThere s.world.memory (λ c. (slot : Slot) × Contains x.slots slot × (slot.block ≡ c)) n block2.0
    was = slots_were s.world.memory x.slots n block2.0 block2.1

    first_there : slice_get (disown m n) n ≡ Some (disowned block2.0)
    first_there = changed_here m n disowned block2.0 block2.1

    unkilled : is_unkilled Kind.Allocator (Some (disowned block2.0)) ≡ true
    unkilled = ap (is_unkilled Kind.Allocator) (sym first_there) ∙ KK.unkilled

    alive : block2.0 ≡ was.old
    alive = on was.is
      where
        lives : not (is_killed block2.0.life) ≡ true
        lives = (both_true (same_kind block2.0.kind Kind.Allocator) (not (is_killed block2.0.life)) unkilled).1

        on : (block2.0 ≡ was.old)
            ⊎ ((block2.0 ≡ killed_block was.old) × ((slot : Slot) × Contains x.slots slot × (slot.block ≡ n)))
            → block2.0 ≡ was.old
        on (inl e) = e
        on (inr e) =
            let no : false ≡ true = ap (λ (z : MemoryBlock). not (is_killed z.life)) (sym e.0) ∙ lives in absurd (cc)

    mate2 : (bytes : List Byte) × (slice_get t.world.memory k ≡ Some (record was.old { bytes = bytes }))
    mate2 = r.mates.each n k was.old was.there home

    second_there : slice_get (disown t.world.memory k) k ≡ Some (disowned (record was.old { bytes = mate2.0 }))
    second_there = changed_here t.world.memory k disowned (record was.old { bytes = mate2.0 }) mate2.1

    kills2 : kill (disown t.world.memory k) Q Kind.Allocator ≡ Ok (killed t.world.memory k)
    kills2 =
        kills_at (disown t.world.memory k) k (moved o 0) start_there
        (ap (is_unkilled Kind.Allocator) second_there
        ∙ ap (λ (z : MemoryBlock). is_unkilled Kind.Allocator (Some (disowned z))) (sym alive) ∙ unkilled)
        (ap is_owned second_there)
        ∙ ap Ok (with_twice t.world.memory k disowned killed_block)

    memory_is : m2 ≡ killed m n
    memory_is = KK.is ∙ with_twice m n disowned killed_block

    -- ---- the instances

    status_turned : (z : State) (q u : Status) → IsStatus b r.homes z x y q u → IsStatus b r.homes z gone gone' q u
    status_turned z Status.Running u c = c
    status_turned z Status.Finished u c = c
    status_turned z (Status.Suspended p env) u c = (c.0, c.1, c.2, c.3, λ e. absurd (cc))

    abbrev t2 : State
    t2 = record t { world = record t.world { memory = killed t.world.memory k }; instances = ys }

    old : AreInstances b r.homes t2 x y
    old = instance_left b s t r framings n k home x.slots placed2 may ys frames2 xs i x y there h

    gone_now : AreInstances b r.homes t2 gone gone'
    gone_now = record {
      coroutine = old.coroutine;
      is_coroutine = old.is_coroutine;
      block = old.block;
      start = old.start;
      status = status_turned t2 x.status y.status old.status;
      last_save = old.last_save;
      released = old.released;
      freed = refl;
      slots = λ slot e. let f = old.slots slot e in record {
        position = f.position;
        position_is = f.position_is;
        home = f.home;
      };
      no_slots = old.no_slots;
    }

    each : (j : ℕ) (a c : Instance) → slice_get xs j ≡ Some a → slice_get ys j ≡ Some c
        → AreInstances b r.homes t2 a c
    each j a c e d = ⊎_elim at_i other (is_number j i)
      where
        at_i : j ≡ i → AreInstances b r.homes t2 a c
        at_i z =
            let first : gone ≡ a =
            same_some gone a (sym (set_here s.instances i x gone there) ∙ ap (slice_get xs) (sym z) ∙ e) in
            let second : gone' ≡ c =
            same_some gone' c (sym (set_here t.instances i y gone' there') ∙ ap (slice_get ys) (sym z) ∙ d) in
            subst (λ (z : Instance × Instance). AreInstances b r.homes t2 z.0 z.1) (λ q. (first q, second q)) gone_now

        other : (j ≡ i → ⊥) → AreInstances b r.homes t2 a c
        other z =
            let e' : slice_get s.instances j ≡ Some a = sym (set_other s.instances i j gone z) ∙ e in
            let d' : slice_get t.instances j ≡ Some c = sym (set_other t.instances i j gone' z) ∙ d in
            instance_left b s t r framings n k home x.slots placed2 may ys frames2 xs j a c e' (r.instances j a c e' d')

    -- ---- the framed run lets it go

    lets_there : may_be_freed y ≡ true
    lets_there = (λ j. released j && not (suspended j)) ∙ lets
      where
        released : y.released ≡ x.released
        released = h.released

        same : (q u : Status) → IsStatus b r.homes t x y q u → is_suspended u ≡ is_suspended q
        same Status.Running u c = ap is_suspended c
        same Status.Finished u c = ap is_suspended c
        same (Status.Suspended p env) u c = ap is_suspended c.2

        suspended : is_suspended y.status ≡ is_suspended x.status
        suspended = same x.status y.status h.status

    goes : (top : Activation) → deallocate (record t { top = top }) (Value.Ptr (Pointer.At k (moved o 0)))
        ≡ Ok (next (record t {
          world = record t.world { memory = killed t.world.memory k };
          instances = ys;
          top = top;
        }))
    goes top =
        ap (λ (f : Option (ℕ × Instance)). end_with (if_let_go (record t { top = top }) f) Q) found
        ∙ ap (λ (u : Bool). end_with (if u then let_go (record t { top = top }) i y else (record t { top = top })) Q) lets_there
        ∙ ap
        (λ (z : List Slot × ℕ). end_with (with_memory (with_instance (record t { top = top }) i gone')
        (disown (without_slots t.world.memory z.0) z.1)) Q) (λ j. (h.no_slots j, y_block j))
        ∙ ap (λ (w : Result (List MemoryBlock) Cause). and_then w
        (λ memory. Ok (next (with_memory (with_instance (record t { top = top }) i gone') memory)))) kills2

    pub let_back : IsGivenBack b s t (next (with_memory (let_go s i x) m2)) (Value.Ptr (Pointer.At k (moved o 0)))
    let_back = record {
      source = record s.world { memory = killed m n };
      instances = xs;
      target = record t.world { memory = killed t.world.memory k };
      others = ys;
      related = given_back b s t r framings n k home x.slots placed2 may ys frames2 xs
          (set_many t.instances i gone' ∙ r.count ∙ sym (set_many s.instances i gone)) each;
      gives = ap (λ (z : List MemoryBlock). next (with_memory (let_go s i x) z)) memory_is;
      leads = goes;
    }

-- ---- any value

module _ (b : Building) (s t : State) (r : AreBuiltOf b s t)
    (framings : (func : ℕ) → is_coroutine b func ≡ true → IsFraming (b.framing func)) where
  -- a block that both know
  module _ (n : ℕ) (o : Offset) (giving : IsGivingBack b s t r (Value.Ptr (Pointer.At n o))) (after : State) where
    abbrev PP : Value
    PP = Value.Ptr (Pointer.At n o)

    abbrev QQ : Value
    QQ = Value.Ptr (Pointer.At (home_of r.homes n).block (moved o (home_of r.homes n).offset))

    -- where it stands
    at_home : (k : ℕ) → home_of r.homes n ≡ whole_home k
        → IsGivenBack b s t after (Value.Ptr (Pointer.At k (moved o 0)))
        → IsGivenBack b s t after
        (Value.Ptr (Pointer.At (home_of r.homes n).block (moved o (home_of r.homes n).offset)))
    at_home k home =
        subst (λ (z : Home). IsGivenBack b s t after (Value.Ptr (Pointer.At z.block (moved o z.offset)))) (sym home)

    -- no instance began there, or none that may be let go
    kept : slots_let_go (instance_at s.instances (Value.Ptr (Pointer.At n o))) ≡ []
        → end_with s (Value.Ptr (Pointer.At n o)) ≡ Ok after
        → ((k : ℕ) → home_of r.homes n ≡ whole_home k → o.bits ≡ 0 → (top : Activation)
        → if_let_go (record t { top = top }) (instance_at t.instances (Value.Ptr (Pointer.At k (moved o 0))))
        ≡ record t { top = top })
        → IsGivenBack b s t after
        (Value.Ptr (Pointer.At (home_of r.homes n).block (moved o (home_of r.homes n).offset)))
    kept none e quiet =
        at_home whole.0 home
        (subst (λ (z : State). IsGivenBack b s t z (Value.Ptr (Pointer.At whole.0 (moved o 0)))) (sym E.after_is)
        (stayed b s t r framings n whole.0 home o at_start E.memory K
        (subst (MayGiveBack b s t r n whole.0) none (giving.may n whole.0 o refl home)) (quiet whole.0 home at_start)))
      where
        E : IsEnded s PP after
        E = ended s PP after e

        K : IsKilledAt s.world.memory n o E.memory
        K = killed_at s.world.memory n o E.memory E.is

        at_start : o.bits ≡ 0
        at_start = eqb-true o.bits 0 K.start

        there : (x : MemoryBlock) × (slice_get s.world.memory n ≡ Some x)
        there = on (slice_get s.world.memory n) refl
          where
            on : (z : Option MemoryBlock) → slice_get s.world.memory n ≡ z
                → (x : MemoryBlock) × (slice_get s.world.memory n ≡ Some x)
            on (Some x) d = (x, d)
            on None d =
                let no : false ≡ true = sym (ap (is_unkilled Kind.Allocator) d) ∙ K.unkilled in absurd (cc)

        allocated : same_kind there.0.kind Kind.Allocator ≡ true
        allocated =
            (both_true (same_kind there.0.kind Kind.Allocator) (not (is_killed there.0.life))
            (sym (ap (is_unkilled Kind.Allocator) there.1) ∙ K.unkilled)).0

        whole : (k : ℕ) × (home_of r.homes n ≡ whole_home k)
        whole = r.mates.whole n there.0 there.1 (no_slot there.0.kind allocated)

        home : home_of r.homes n ≡ whole_home whole.0
        home = whole.1

    pub block_back : deallocate s (Value.Ptr (Pointer.At n o)) ≡ Ok after
        → IsGivenBack b s t after
        (Value.Ptr (Pointer.At (home_of r.homes n).block (moved o (home_of r.homes n).offset)))
    block_back e = on (instance_at s.instances PP) refl e
      where
        quiet_none : (k : ℕ) → home_of r.homes n ≡ whole_home k → o.bits ≡ 0 → instance_at s.instances PP ≡ None
            → (top : Activation)
            → if_let_go (record t { top = top }) (instance_at t.instances (Value.Ptr (Pointer.At k (moved o 0))))
            ≡ record t { top = top }
        quiet_none k home at_start d top =
            let f : instance_at t.instances (Value.Ptr (Pointer.At k (moved o 0))) ≡ None =
            subst (λ (z : Option (ℕ × Instance)). AreFound b r.homes s t z
            (instance_at t.instances (Value.Ptr (Pointer.At k (moved o 0))))) d
            (both_found b s t r framings n k home o at_start) in
            ap (if_let_go (record t { top = top })) f

        beside : (k : ℕ) → home_of r.homes n ≡ whole_home k → o.bits ≡ 0 → (i : ℕ) (x : Instance)
            → instance_at s.instances PP ≡ Some (i, x)
            → IsFoundBeside b r.homes s t i x (instance_at t.instances (Value.Ptr (Pointer.At k (moved o 0))))
        beside k home at_start i x d =
            subst (λ (z : Option (ℕ × Instance)). AreFound b r.homes s t z
            (instance_at t.instances (Value.Ptr (Pointer.At k (moved o 0))))) d
            (both_found b s t r framings n k home o at_start)

        may_same : (x y : Instance) → AreInstances b r.homes t x y → may_be_freed y ≡ may_be_freed x
        may_same x y h = λ j. h.released j && not (suspended j)
          where
            same : (q u : Status) → IsStatus b r.homes t x y q u → is_suspended u ≡ is_suspended q
            same Status.Running u c = ap is_suspended c
            same Status.Finished u c = ap is_suspended c
            same (Status.Suspended p env) u c = ap is_suspended c.2

            suspended : is_suspended y.status ≡ is_suspended x.status
            suspended = same x.status y.status h.status

        quiet_some : (i : ℕ) (x : Instance) → instance_at s.instances PP ≡ Some (i, x) → may_be_freed x ≡ false
            → (k : ℕ) → home_of r.homes n ≡ whole_home k → o.bits ≡ 0 → (top : Activation)
            → if_let_go (record t { top = top }) (instance_at t.instances (Value.Ptr (Pointer.At k (moved o 0))))
            ≡ record t { top = top }
        quiet_some i x d stays k home at_start top =
            let f = beside k home at_start i x d in
            ap (if_let_go (record t { top = top })) f.is
            ∙ ap (λ (u : Bool). if u then let_go (record t { top = top }) i f.beside else record t { top = top })
            (may_same x f.beside f.instances ∙ stays)

        let_it : (i : ℕ) (x : Instance) → instance_at s.instances PP ≡ Some (i, x) → may_be_freed x ≡ true
            → end_with (let_go s i x) PP ≡ Ok after → IsGivenBack b s t after QQ
        let_it i x d lets e =
            at_home whole.0 home
            (subst (λ (z : State). IsGivenBack b s t z (Value.Ptr (Pointer.At whole.0 (moved o 0)))) (sym E.after_is)
            (let_back b s t r framings n whole.0 home o at_start i x f.beside f.source f.target f.instances began lets
            (subst (MayGiveBack b s t r n whole.0) slots_are (giving.may n whole.0 o refl home)) E.memory K f.is))
          where
            E : IsEnded (let_go s i x) PP after
            E = ended (let_go s i x) PP after e

            K : IsKilledAt (disown (without_slots s.world.memory x.slots) x.block) n o E.memory
            K = killed_at (disown (without_slots s.world.memory x.slots) x.block) n o E.memory E.is

            at_start : o.bits ≡ 0
            at_start = eqb-true o.bits 0 K.start

            there : slice_get s.instances i ≡ Some x
            there = found_in s.instances (last_from (began_at n o.bits) 0 s.instances) (i, x) d

            began : x.block ≡ n
            began =
                eqb-true x.block n
                (both_true (x.block == n) (x.start == o.bits)
                (found_passes (began_at n o.bits) s.instances (i, x) d)).0

            whole : (k : ℕ) × (home_of r.homes n ≡ whole_home k)
            whole =
                let z = other_instance b s t r i x there in
                (z.0.block, ap (home_of r.homes) (sym began) ∙ z.2.block)

            home : home_of r.homes n ≡ whole_home whole.0
            home = whole.1

            f : IsFoundBeside b r.homes s t i x (instance_at t.instances (Value.Ptr (Pointer.At whole.0 (moved o 0))))
            f = beside whole.0 home at_start i x d

            slots_are : slots_let_go (instance_at s.instances PP) ≡ x.slots
            slots_are = ap slots_let_go d ∙ ap (λ (u : Bool). if u then x.slots else []) lets

        on : (f : Option (ℕ × Instance)) → instance_at s.instances PP ≡ f → end_with (if_let_go s f) PP ≡ Ok after
            → IsGivenBack b s t after QQ
        on None d e = kept (ap slots_let_go d) e (λ k home at_start. quiet_none k home at_start d)
        on (Some (i, x)) d e = by (may_be_freed x) refl e
          where
            by : (u : Bool) → may_be_freed x ≡ u → end_with (if u then let_go s i x else s) PP ≡ Ok after
                → IsGivenBack b s t after QQ
            by true lets e = let_it i x d lets e
            by false stays e =
                kept (ap slots_let_go d ∙ ap (λ (u : Bool). if u then x.slots else []) stays) e (quiet_some i x d stays)

  -- a null pointer stays one, and nothing else is given back
  pub value_back : (p q : Value) → IsValue r.homes p q → IsGivingBack b s t r p → (after : State)
      → deallocate s p ≡ Ok after → IsGivenBack b s t after q
  value_back (Value.Ptr (Pointer.At n o)) q stands giving after e =
      subst (IsGivenBack b s t after) (sym stands.1) (block_back n o giving after e)
  value_back (Value.Ptr Pointer.Null) q stands giving after e =
      subst (IsGivenBack b s t after) (sym stands.1) (record {
        source = s.world;
        instances = s.instances;
        target = t.world;
        others = t.instances;
        related = r;
        gives = sym (same_ok e);
        leads = λ top. refl;
      })
  value_back (Value.Ptr (Pointer.Func f)) q stands giving after e = absurd (cc)
  value_back (Value.Int w) q stands giving after e = absurd (cc)
  value_back Value.Poison q stands giving after e = absurd (cc)
