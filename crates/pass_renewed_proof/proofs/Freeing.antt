-- A deallocation kills the same block in both runs, and an instance is let go with its frame.
use Rattle.std.proofs.Common.{◌≡◌, ℕ, zero, suc, ◌+◌, ◌%◌, ◌^◌, Bool, true, false, not, List, [], ◌∷◌, Option}
use Rattle.std.proofs.Common.{Some, None, Result, Ok, Err, refl, sym, ap, ◌∙◌, subst, ◌&&◌, ◌||◌, ◌==◌, if◌then◌else◌}
use Rattle.std.proofs.Common.{arith}
use Rattle.std.proofs.lemmas.Bool.{eqb-true, false≢true}
use Rattle.std.specs.Prelude.{option_and_then, option_map, slice_get}
use Rattle.pass_kept_proof.specs.ir_base.declared.cause.Cause.{Cause}
use Rattle.pass_kept_proof.specs.ir_model.Names.{function_at}
use Rattle.pass_kept_proof.specs.ir_model.declared.instr.Instr.{Instr}
use Rattle.pass_kept_proof.specs.ir_model.declared.module.Module.{Module}
use Rattle.run_laws.proofs.memory.Written.{changed_here, same_some}
use Rattle.run_laws.specs.embedded.Making.{whole_home}
use Rattle.run_laws.specs.memory.Pointers.{Home, home_of}
use Rattle.pass_kept_proof.specs.run_memory.Memory.{disown, disowned, is_owned, is_unkilled, kill, killed, killed_block, with_block}
use Rattle.pass_kept_proof.specs.run_memory.Pointers.{moved}
use Rattle.pass_kept_proof.specs.run_memory.declared.block.Kind.{Kind}
use Rattle.pass_kept_proof.specs.run_memory.declared.block.MemoryBlock.{MemoryBlock}
use Rattle.pass_kept_proof.specs.run_memory.declared.pointer.Offset.{Offset}
use Rattle.pass_kept_proof.specs.run_memory.declared.pointer.Pointer.{Pointer}
use Rattle.pass_kept_proof.specs.run_memory.declared.pointer.Value.{Value}
use Rattle.pass_kept_proof.specs.run_source.Source.{let_go, may_be_freed}
use Rattle.pass_kept_proof.specs.run_source.State.{began_at, instance_at, is_finished, is_suspended, last_from, last_where, next}
use Rattle.pass_kept_proof.specs.run_source.State.{numbered, or_else, with_instance, with_memory}
use Rattle.pass_kept_proof.specs.run_source.declared.state.Instance.{Instance}
use Rattle.pass_kept_proof.specs.run_source.declared.state.State.{State}
use Rattle.pass_kept_proof.specs.run_source.declared.state.Status.{Status}
use Rattle.pass_kept_proof.specs.run_step.Results.{and_then}
use Rattle.pass_kept_proof.specs.run_step.Step.{deallocated, without_slots}
use Rattle.pass_renewed_proof.proofs.Anew.{present_block}
use Rattle.pass_renewed_proof.proofs.Dying.{both_die}
use Rattle.pass_renewed_proof.proofs.Finishing.{over_beside, status_awake}
use Rattle.pass_renewed_proof.proofs.Giving.{gives_beside}
use Rattle.pass_renewed_proof.proofs.Listing.{instance_beside, set_here, worlds_beside}
use Rattle.pass_renewed_proof.proofs.Owning.{found_at}
use Rattle.pass_renewed_proof.specs.Beside.{IsBeside, IsInstanceBeside, IsStatusBeside}
use Rattle.pass_renewed_proof.specs.Found.{AreFound}
use Rattle.pass_renewed_proof.specs.Ledger.{AreEntered, IsMate, Ledger, Seat}
use Rattle.pass_renewed_proof.specs.Making.{IsGiving}
use Rattle.pass_renewed_proof.specs.Renewed.{Flags, Roots}
use Rattle.pass_renewed_proof.specs.SlotRules.{KeepsSlots}

both_first : (a b : Bool) → (a && b) ≡ true → a ≡ true
both_first true b e = refl
both_first false b e = absurd (cc)

both_second : (a b : Bool) → (a && b) ≡ true → b ≡ true
both_second true b e = e
both_second false b e = absurd (cc)

-- what a block becomes twice
with_twice : (n : List MemoryBlock) (b : ℕ) (f g : MemoryBlock → MemoryBlock) → with_block (with_block n b f) b g ≡
    with_block n b (λ x. g (f x))
with_twice [] b f g = refl
with_twice (x ∷ n) zero f g = refl
with_twice (x ∷ n) (suc b) f g = ap (λ k. x ∷ k) (with_twice n b f g)

-- ---- the instance of a frame address began there

from_where : (test : Instance → Bool) (k : ℕ) (xs : List Instance) (j : ℕ) → last_from test k xs ≡ Some j
    → (d : ℕ) × (x : Instance) × (j ≡ k + d) × (slice_get xs d ≡ Some x) × (test x ≡ true)
from_where test k [] j e = absurd (cc)
from_where test k (x ∷ xs) j e = on (λ i h. from_where test (suc k) xs i h) (last_from test (suc k) xs) refl e
  where
    here : (u : Bool) → test x ≡ u → (if u then Some k else None) ≡ Some j
        → (d : ℕ) × (y : Instance) × (j ≡ k + d) × (slice_get (x ∷ xs) d ≡ Some y) × (test y ≡ true)
    here true h q = let same : k ≡ j = same_number q in (0, x, omega arith, refl, h)
      where
        same_number : {a b : ℕ} → Some a ≡ Some b → a ≡ b
        same_number z = cc
    here false h q = absurd (cc)

    on : ((i : ℕ) → last_from test (suc k) xs ≡ Some i → (d : ℕ) × (y : Instance) × (i ≡ suc k + d) × (slice_get xs d ≡
        Some y) × (test y ≡ true)) → (o : Option ℕ) → last_from test (suc k) xs ≡ o → or_else o (if test x then Some k
        else None) ≡ Some j → (d : ℕ) × (y : Instance) × (j ≡ k + d) × (slice_get (x ∷ xs) d ≡ Some y) × (test y ≡ true)
    on later None h q = here (test x) refl q
    on later (Some i) h q =
        let r = later i h in
        let same : i ≡ j = same_number q in
        let sum : j ≡ k + suc r.0 = plus i j k r.0 same r.2 in
        (suc r.0, r.1, sum, r.3, r.4)
      where
        same_number : {a b : ℕ} → Some a ≡ Some b → a ≡ b
        same_number z = cc

        plus : (i j k d : ℕ) → i ≡ j → i ≡ suc k + d → j ≡ k + suc d
        plus i j k d e f = omega arith

pub found_passes : (test : Instance → Bool) (xs : List Instance) (p : ℕ × Instance) → last_where test xs ≡ Some p
    → test p.1 ≡ true
found_passes test xs p e = on (last_from test 0 xs) refl
  where
    same_number : {a b : ℕ} → Some a ≡ Some b → a ≡ b
    same_number z = cc

    on : (o : Option ℕ) → last_from test 0 xs ≡ o → test p.1 ≡ true
    on None h = let c : None ≡ Some p = ap (option_and_then (numbered xs)) (sym h) ∙ e in absurd (cc)
    on (Some j) h =
        let r = from_where test 0 xs j h in
        let d : r.0 ≡ j = zero_plus r.0 j r.2 in
        let at : numbered xs j ≡ Some (j, r.1) = ap (option_map (λ x. (j, x))) (ap (slice_get xs) (sym d) ∙ r.3) in
        let is : (j, r.1) ≡ p = same_some (j, r.1) p (sym at ∙ ap (option_and_then (numbered xs)) (sym h) ∙ e) in
        ap (λ (z : ℕ × Instance). test z.1) (sym is) ∙ r.4
      where
        zero_plus : (d j : ℕ) → j ≡ 0 + d → d ≡ j
        zero_plus d j e = omega arith

-- ---- what a deallocation finds

abbrev pub killed_if : (start unkilled owned : Bool) → List MemoryBlock → ℕ → Result (List MemoryBlock) Cause
killed_if start unkilled owned n b =
    if not (start && unkilled) then Err Cause.Free else if owned then Err Cause.Owned else Ok (killed n b)

-- it was one of an allocator, and its start was given
pub record IsKilledAt (n : List MemoryBlock) (b : ℕ) (o : Offset) (after : List MemoryBlock) : Type 0 where
  pub start : (o.bits == 0) ≡ true
  pub unkilled : is_unkilled Kind.Allocator (slice_get n b) ≡ true
  pub free : is_owned (slice_get n b) ≡ false
  pub is : after ≡ killed n b

pub killed_at : (n : List MemoryBlock) (b : ℕ) (o : Offset) (after : List MemoryBlock) → kill n (Value.Ptr (Pointer.At
    b o)) Kind.Allocator ≡ Ok after → IsKilledAt n b o after
killed_at n b o after e = on (o.bits == 0) refl (is_unkilled Kind.Allocator (slice_get n b)) refl (is_owned (slice_get
    n b)) refl e
  where
    on : (p : Bool) → (o.bits == 0) ≡ p → (q : Bool) → is_unkilled Kind.Allocator (slice_get n b) ≡ q → (r : Bool)
        → is_owned (slice_get n b) ≡ r → killed_if p q r n b ≡ Ok after → IsKilledAt n b o after
    on true ep true eq false er k = record { start = ep; unkilled = eq; free = er; is = cc }
    on true ep true eq true er k = absurd (cc)
    on true ep false eq r er k = absurd (cc)
    on false ep q eq r er k = absurd (cc)

pub kills_at : (n : List MemoryBlock) (b : ℕ) (o : Offset) → (o.bits == 0) ≡ true → is_unkilled Kind.Allocator
    (slice_get n b) ≡ true → is_owned (slice_get n b) ≡ false → kill n (Value.Ptr (Pointer.At b o)) Kind.Allocator ≡ Ok
    (killed n b)
kills_at n b o p q r = λ i. killed_if (p i) (q i) (r i) n b

-- an allocator's block isn't one that may be made anew
pub allocator_unseated : (m : Module) (l : Ledger) (memory target : List MemoryBlock) → AreEntered m l memory target
    → (b : ℕ) → is_unkilled Kind.Allocator (slice_get memory b) ≡ true → l.seats b ≡ None
allocator_unseated m l memory target e b un = on (l.seats b) refl (slice_get memory b) refl
  where
    on : (o : Option Seat) → l.seats b ≡ o → (z : Option MemoryBlock) → slice_get memory b ≡ z → l.seats b ≡ None
    on None is z at = is
    on (Some seat) is None at = absurd (false≢true (ap (is_unkilled Kind.Allocator) (sym at) ∙ un))
    on (Some seat) is (Some x) at = absurd (false≢true (sym (e.kinds b seat x is at) ∙ both_first _ _ (ap (is_unkilled
        Kind.Allocator) (sym at) ∙ un)))

-- ---- the states

module _ (m : Module) (flags : Flags) (roots : Roots) (keeps : (func : ℕ)
    → KeepsSlots m (function_at m func) (flags func) (roots func)) (i : Instr) where
  -- both kill a block of an allocator, and go on
  module _ (s t : State) (beside : IsBeside m flags roots s t) (giving : IsGiving m roots s.top i None) (b c : ℕ)
      (home : home_of beside.ledger.homes b ≡ whole_home c) (none : beside.ledger.seats b ≡ None) where
    pub kill_beside : IsBeside m flags roots (next (with_memory s (killed s.world.memory b))) (next (with_memory t
        (killed t.world.memory c)))
    kill_beside =
        let dead = both_die m beside.ledger s.world.memory t.world.memory b c home none (record {
          memory = beside.world.memory;
          nulls = beside.world.nulls;
          bounds = beside.world.bounds;
        }) beside.entered in
        gives_beside m flags roots keeps (with_memory s (killed s.world.memory b)) (with_memory t (killed t.world.memory
        c)) (worlds_beside m flags roots s t beside beside.ledger (record s.world {
          memory = killed s.world.memory b;
        }) (record t.world { memory = killed t.world.memory c }) dead.carried dead.kept (record {
          memory = dead.standing.memory;
          nulls = dead.standing.nulls;
          bounds = dead.standing.bounds;
          events = beside.world.events;
          answers = beside.world.answers;
          allocs = beside.world.allocs;
        }) dead.entered) i None (record {
          place = giving.place;
          here = giving.here;
          no_start = giving.no_start;
          no_end = giving.no_end;
          no_part = giving.no_part;
          no_alloca = giving.no_alloca;
        }) Value.Poison Value.Poison tt

  module _ (s t : State) (beside : IsBeside m flags roots s t) (giving : IsGiving m roots s.top i None) where
    abbrev l : Ledger
    l = beside.ledger

    -- what the second run does, by what the first has done
    abbrev Goes : State → Result State Cause → Type 0
    Goes after r = (other : State) × (r ≡ Ok other) × IsBeside m flags roots after other

    same_ok : {A : Type 0} {a b : A} → ◌≡◌ {A = Result A Cause} (Ok a) (Ok b) → a ≡ b
    same_ok q = cc

    abbrev end_with : State → Value → Result State Cause
    end_with z p = and_then (deallocated z.world.memory p) (λ memory. Ok (next (with_memory z memory)))

    -- a block of which the first run's is let go by no instance
    module _ (b : ℕ) (o : Offset) (seen : (home_of beside.ledger.homes b).is_seen ≡ true) (n : List MemoryBlock)
        (k : IsKilledAt s.world.memory b o n) where
      none : beside.ledger.seats b ≡ None
      none = allocator_unseated m l s.world.memory t.world.memory beside.entered b k.unkilled

      there : (x : MemoryBlock) × (slice_get s.world.memory b ≡ Some x)
      there = present_block l s.world.memory beside.entered.known b seen

      mate : IsMate beside.ledger t.world.memory b there.0
      mate = beside.entered.mates b there.0 none there.1

      unkilled' : is_unkilled Kind.Allocator (slice_get t.world.memory mate.block) ≡ true
      unkilled' = ap (is_unkilled Kind.Allocator) mate.there ∙ ap (is_unkilled Kind.Allocator) (sym there.1) ∙
          k.unkilled

      free' : is_owned (slice_get t.world.memory mate.block) ≡ false
      free' = ap is_owned mate.there ∙ ap is_owned (sym there.1) ∙ k.free

      start' : ((moved o 0).bits == 0) ≡ true
      start' = from_zero o.bits k.start
        where
          from_zero : (n : ℕ) → (n == 0) ≡ true → ((n + 0) % 2 ^ 64 == 0) ≡ true
          from_zero n e = subst (λ k. ((k + 0) % 2 ^ 64 == 0) ≡ true) (sym (eqb-true n 0 e)) refl

      -- where it stands
      pub plain_home : (c : ℕ) × (home_of beside.ledger.homes b ≡ whole_home c)
      plain_home = (mate.block, mate.home)

      pub plain_kill : (q : Value) → q ≡ Value.Ptr (Pointer.At (home_of beside.ledger.homes b).block (moved o (home_of
          beside.ledger.homes b).offset)) → Goes (next (with_memory s n)) (end_with t q)
      plain_kill q e =
          let is : q ≡ Value.Ptr (Pointer.At mate.block (moved o 0)) = e ∙ ap (λ (h : Home). Value.Ptr (Pointer.At
          h.block (moved o h.offset))) mate.home in
          let goes = kills_at t.world.memory mate.block (moved o 0) start' unkilled' free' in (
            next (with_memory t (killed t.world.memory mate.block)),
            ap (end_with t) is ∙ ap (λ r. and_then r (λ memory. Ok (next (with_memory t memory)))) goes,
            subst (λ z. IsBeside m flags roots (next (with_memory s z)) (next (with_memory t (killed t.world.memory
                mate.block)))) (sym k.is) (kill_beside s t beside giving b mate.block mate.home none),
          )

    -- ---- an instance is let go

    or_true : (a : Bool) → (a || true) ≡ true
    or_true true = refl
    or_true false = refl

    not_of : (a : Bool) → not a ≡ true → a ≡ false
    not_of true e = absurd (false≢true e)
    not_of false e = refl

    module _ (b : ℕ) (o : Offset) (n : ℕ) (x y : Instance) (there : slice_get s.instances n ≡ Some x)
        (there' : slice_get t.instances n ≡ Some y) (h : IsInstanceBeside m flags roots beside.ledger s.world.memory n x
        y) (began : x.block ≡ b) (may : may_be_freed x ≡ true) where
      awake : is_suspended x.status ≡ false
      awake = not_of (is_suspended x.status) (both_second x.released _ may)

      abbrev memory : List MemoryBlock
      memory = without_slots s.world.memory x.slots

      abbrev target : List MemoryBlock
      target = without_slots t.world.memory y.slots

      y_status : h.status ≡ y.status
      y_status = ap (λ (z : Instance). z.status) (sym h.is)

      y_block : h.block ≡ y.block
      y_block = ap (λ (z : Instance). z.block) (sym h.is)

      pub may' : may_be_freed y ≡ true
      may' = ap (λ u. u && not (is_suspended y.status)) (ap (λ (z : Instance). z.released) h.is ∙ both_first x.released
          _ may) ∙ ap not (awake_other x.status y.status (subst (IsStatusBeside m flags roots l s.world.memory x
          x.status) y_status h.statuses) awake)
        where
          awake_other : (p q : Status) → IsStatusBeside m flags roots beside.ledger s.world.memory x p q
              → is_suspended p ≡ false → is_suspended q ≡ false
          awake_other Status.Running q k e = ap is_suspended k
          awake_other (Status.Suspended u env) q k e = absurd (false≢true (sym e))
          awake_other Status.Finished q k e = ap is_suspended k

      abbrev s2 : State
      s2 = with_memory (with_instance s n (record x { freed = true })) memory

      abbrev t2 : State
      t2 = with_memory (with_instance t n (record y { freed = true })) target

      over : IsBeside m flags roots s2 t2
      over = over_beside m flags roots s t beside n x y x.status y.status true there there' awake (or_true (is_finished
          x.status)) (λ after. status_awake m flags roots l s.world.memory after x (record x { freed = true }) x.status
          y.status awake (subst (IsStatusBeside m flags roots l s.world.memory x x.status) y_status h.statuses))

      -- the instance behind it
      now : slice_get s2.instances n ≡ Some (record x { freed = true })
      now = set_here s.instances n x (record x { freed = true }) there

      found : (z : Instance) × (slice_get t2.instances n ≡ Some z) × IsInstanceBeside m flags roots over.ledger memory
          (0 + n) (record x { freed = true }) z
      found = instance_beside m flags roots over.ledger memory 0 s2.instances t2.instances n (record x {
        freed = true;
      }) over.instances now

      abbrev c : ℕ
      c = found.2.block

      same_block : c ≡ y.block
      same_block = ap (λ (z : Instance). z.block) (sym found.2.is) ∙ ap (λ (z : Instance). z.block) (same_some found.0
          (record y { freed = true }) (sym found.1 ∙ set_here t.instances n y (record y { freed = true }) there'))

      home : home_of over.ledger.homes b ≡ whole_home c
      home = ap (home_of over.ledger.homes) (sym began) ∙ found.2.home

      unseated : over.ledger.seats b ≡ None
      unseated = ap over.ledger.seats (sym began) ∙ found.2.unseated

      block : (z : MemoryBlock) × (slice_get memory b ≡ Some z)
      block = present_block over.ledger memory over.entered.known b (ap (λ (q : Home). q.is_seen) home)

      twin : IsMate over.ledger target b block.0
      twin = over.entered.mates b block.0 unseated block.1

      twin_block : twin.block ≡ c
      twin_block = ap (λ (q : Home). q.block) (sym twin.home ∙ home)

      module _ (after : List MemoryBlock) (k : IsKilledAt (disown memory b) b o after) where
        disowned_first : slice_get (disown memory b) b ≡ Some (disowned block.0)
        disowned_first = changed_here memory b disowned block.0 block.1

        disowned_second : slice_get (disown target c) c ≡ Some (disowned (record block.0 { bytes = twin.bytes }))
        disowned_second = changed_here target c disowned (record block.0 { bytes = twin.bytes }) (ap (slice_get target)
            (sym twin_block) ∙ twin.there)

        unkilled_there : is_unkilled Kind.Allocator (slice_get (disown target c) c) ≡ true
        unkilled_there = ap (is_unkilled Kind.Allocator) disowned_second ∙ ap (is_unkilled Kind.Allocator) (sym
            disowned_first) ∙ k.unkilled

        killed_second : kill (disown target c) (Value.Ptr (Pointer.At c (moved o 0))) Kind.Allocator ≡ Ok (killed target
            c)
        killed_second = kills_at (disown target c) c (moved o 0) (from_zero o.bits k.start) unkilled_there (ap is_owned
            disowned_second) ∙ ap Ok (with_twice target c disowned killed_block)
          where
            from_zero : (n : ℕ) → (n == 0) ≡ true → ((n + 0) % 2 ^ 64 == 0) ≡ true
            from_zero n e = subst (λ k. ((k + 0) % 2 ^ 64 == 0) ≡ true) (sym (eqb-true n 0 e)) refl

        after_is : after ≡ killed memory b
        after_is = k.is ∙ with_twice memory b disowned killed_block

        pub let_go_beside : (q : Value) → q ≡ Value.Ptr (Pointer.At y.block (moved o 0)) → Goes (next (with_memory s2
            after)) (end_with (let_go t n y) q)
        let_go_beside q e =
            let is : q ≡ Value.Ptr (Pointer.At c (moved o 0)) = e ∙ ap (λ d. Value.Ptr (Pointer.At d (moved o 0))) (sym
            same_block) in (
              next (with_memory t2 (killed target c)),
              ap (end_with (let_go t n y)) is
                  ∙ ap (λ d. and_then (kill (disown target d) (Value.Ptr (Pointer.At c (moved o 0))) Kind.Allocator) (λ
                  memory. Ok (next (with_memory t2 memory)))) (sym same_block)
                  ∙ ap (λ r. and_then r (λ memory. Ok (next (with_memory t2 memory)))) killed_second,
              subst (λ z. IsBeside m flags roots (next (with_memory s2 z)) (next (with_memory t2 (killed target c))))
                  (sym after_is) (kill_beside s2 t2 over (record {
                    place = giving.place;
                    here = giving.here;
                    no_start = giving.no_start;
                    no_end = giving.no_end;
                    no_part = giving.no_part;
                    no_alloca = giving.no_alloca;
                  }) b c home unseated),
            )

    -- ---- any value

    pub may_same : (n : ℕ) (x y : Instance) → IsInstanceBeside m flags roots beside.ledger s.world.memory n x y
        → may_be_freed y ≡ may_be_freed x
    may_same n x y h = (λ j. released j && not (suspended j))
      where
        released : y.released ≡ x.released
        released = ap (λ (z : Instance). z.released) h.is

        same : (p q : Status) → IsStatusBeside m flags roots beside.ledger s.world.memory x p q → is_suspended q ≡
            is_suspended p
        same Status.Running q k = ap is_suspended k
        same (Status.Suspended u env) q k = ap is_suspended k.1
        same Status.Finished q k = ap is_suspended k

        suspended : is_suspended y.status ≡ is_suspended x.status
        suspended = ap (λ (z : Instance). is_suspended z.status) h.is ∙ same x.status h.status h.statuses

    -- in a block of an allocator, both find an instance, or none
    pub both_found : (b : ℕ) (o : Offset) → (o.bits == 0) ≡ true → (c : ℕ) → home_of beside.ledger.homes b ≡ whole_home
        c → AreFound m flags roots beside.ledger s.world.memory (instance_at s.instances (Value.Ptr (Pointer.At b o)))
        (instance_at t.instances (Value.Ptr (Pointer.At c (moved o 0))))
    both_found b o start c home = subst (λ (z : ℕ × ℕ). AreFound m flags roots l s.world.memory (last_where (began_at b
        z.0) s.instances) (last_where (began_at c z.1) t.instances)) (λ j. (
          sym (zeros o.bits start).0 j,
          sym (zeros
              o.bits start).1 j,
        )) (found_at m flags roots s t beside b c home)
      where
        zeros : (n : ℕ) → (n == 0) ≡ true → (n ≡ 0) × ((n + 0) % 2 ^ 64 ≡ 0)
        zeros n e =
            let z : n ≡ 0 = eqb-true n 0 e in
            (z, ap (λ k. (k + 0) % 2 ^ 64) z)
