-- Both runs free the same block, which has no frame that was given.
use Rattle.std.proofs.Common.{◌≡◌, ◌≢◌, ◌+◌, ◌%◌, ◌^◌, ◌<◌, ⊎_elim, ℕ, zero, suc, Bool, true, false, List, [], ◌∷◌, length, not, Ok, Result, refl, sym, ap, ◌∙◌, subst, arith, ◌&&◌, ◌||◌, ◌==◌}
use Rattle.std.proofs.lemmas.List.{length-set}
use Rattle.std.specs.Option.{option_map_or}
use Rattle.std.specs.Prelude.{None, Option, Some, if◌then◌else◌, option_and_then, option_map, slice_get, slice_set}
use Rattle.pass_elide_proof.proofs.BothDie.{NoneGivenIn, both_die, given_still, only}
use Rattle.pass_elide_proof.proofs.Deallocates.{Kills, behind_it, disowned_too, goes_if, kills, kills_too, let_go_of}
use Rattle.pass_elide_proof.proofs.EdgeEntered.{code_of, same_operand}
use Rattle.pass_elide_proof.proofs.EdgeValues.{operand_stands}
use Rattle.pass_elide_proof.proofs.FramesStay.{instances_change}
use Rattle.pass_elide_proof.proofs.FreedAlone.{at_call, deallocates}
use Rattle.pass_elide_proof.proofs.GoesOn.{StandsReady, both_go, instr_there}
use Rattle.pass_elide_proof.proofs.LastFound.{began_in, found_from, found_there}
use Rattle.pass_elide_proof.proofs.LeftWindows.{set_instances, there_is}
use Rattle.pass_elide_proof.proofs.Sized.{stepped}
use Rattle.pass_elide_proof.specs.Both.{standing_at}
use Rattle.pass_elide_proof.specs.Elision.{Elision, elided, elided_code, framed, function_in, function_in_elided, rooms}
use Rattle.pass_elide_proof.specs.Ending.{IsAtFreeBeside}
use Rattle.pass_elide_proof.specs.Match.{AreElided, AreInstances, AreStatuses, Ends, IsFreedAs, IsNoGivenFrame, Runs, Sleeps, sides}
use Rattle.pass_elide_proof.specs.Places.{elided_instr, name_at, own_at}
use Rattle.pass_proofs.proofs.ir_laws.facts.Lists.{get_within}
use Rattle.pass_proofs.proofs.ir_laws.facts.Truth.{both_true, equal_numbers, itself}
use Rattle.pass_proofs.proofs.run_laws.memory.Homes.{seen_within}
use Rattle.pass_proofs.proofs.run_laws.memory.Written.{changed_here}
use Rattle.pass_proofs.specs.ir_base.declared.cause.Cause.{Cause}
use Rattle.pass_proofs.specs.ir_model.Ty.{Ty, ptr}
use Rattle.pass_proofs.specs.ir_model.declared.instr.Instr.{Instr}
use Rattle.pass_proofs.specs.ir_model.declared.module.Module.{Module}
use Rattle.pass_proofs.specs.ir_model.declared.operand.Allocator.{Allocator}
use Rattle.pass_proofs.specs.ir_model.declared.operand.Arg.{Arg}
use Rattle.pass_proofs.specs.ir_model.declared.operand.Callee.{Callee}
use Rattle.pass_proofs.specs.ir_model.declared.operand.Operand.{Operand}
use Rattle.pass_proofs.specs.ir_paths.Windows.{operand_at}
use Rattle.pass_proofs.specs.run_framed.Framed.{framed_next, framed_step, is_given, is_stack_block}
use Rattle.pass_proofs.specs.run_laws.embedded.Making.{whole_home}
use Rattle.pass_proofs.specs.run_laws.memory.Pointers.{Home, IsValue, home_of}
use Rattle.pass_proofs.specs.run_memory.Memory.{disown, disowned, is_killed, is_owned, is_unkilled, killed, same_kind}
use Rattle.pass_proofs.specs.run_memory.Pointers.{moved}
use Rattle.pass_proofs.specs.run_memory.declared.block.Byte.{Byte}
use Rattle.pass_proofs.specs.run_memory.declared.block.Kind.{Kind}
use Rattle.pass_proofs.specs.run_memory.declared.block.MemoryBlock.{MemoryBlock}
use Rattle.pass_proofs.specs.run_memory.declared.pointer.Offset.{Offset}
use Rattle.pass_proofs.specs.run_memory.declared.pointer.Pointer.{Pointer}
use Rattle.pass_proofs.specs.run_memory.declared.pointer.Value.{Value}
use Rattle.pass_proofs.specs.run_source.Source.{deallocate, if_let_go, let_go, may_be_freed}
use Rattle.pass_proofs.specs.run_source.State.{began_at, function_of, instance_at, is_suspended, last_from, next, numbered, or_else, with_instance, with_memory}
use Rattle.pass_proofs.specs.run_source.declared.state.Instance.{Instance}
use Rattle.pass_proofs.specs.run_source.declared.state.State.{State}
use Rattle.pass_proofs.specs.run_source.declared.state.Status.{Status}
use Rattle.pass_proofs.specs.run_step.Step.{fetch}
use Rattle.pass_proofs.specs.run_step.Values.{Env, address, arg_values, nth, operand_value, value_in}
use Rattle.run_access_worked.proofs.Ended.{set_frames}

-- ---- values

-- the first argument in both runs
pub first_stands : (homes : List Home) (m k : Module) (env other : Env) (args : List Arg)
    → ((ty : Ty) → IsValue homes (operand_value m env ty (operand_at args 0))
    (operand_value k other ty (operand_at args 0)))
    → IsValue homes (nth (arg_values m env args) 0) (nth (arg_values k other args) 0)
first_stands homes m k env other [] h = tt
first_stands homes m k env other (x ∷ args) h = h x.ty

-- ---- instances

-- where each passes the one test as the other one passes the other, the last that does so has the same number
same_last : (test other : Instance → Bool) (i : ℕ) (xs ys : List Instance) → length ys ≡ length xs
    → ((j : ℕ) (x y : Instance) → slice_get xs j ≡ Some x → slice_get ys j ≡ Some y → test x ≡ other y)
    → last_from test i xs ≡ last_from other i ys
same_last test other i [] [] many same = refl
same_last test other i [] (y ∷ ys) many same = absurd (omega (arith, many))
same_last test other i (x ∷ xs) [] many same = absurd (omega (arith, many))
same_last test other i (x ∷ xs) (y ∷ ys) many same =
    let rest = same_last test other (suc i) xs ys (omega (arith, many)) (λ j p q at to. same (suc j) p q at to) in
    λ k. or_else (rest k) (if same 0 x y refl refl k then Some i else None)

same_truth : (a b : Bool) → (a ≡ true → b ≡ true) → (b ≡ true → a ≡ true) → a ≡ b
same_truth true b h k = sym (h refl)
same_truth false true h k = k refl
same_truth false false h k = refl

sleeps_too : (e : Elision) (func : ℕ) (p q : Status) → AreStatuses e func p q → is_suspended q ≡ is_suspended p
sleeps_too e func _ _ Runs = refl
sleeps_too e func _ _ Ends = refl
sleeps_too e func _ _ (Sleeps p values others) = refl

block_there : (m : List MemoryBlock) (b : ℕ) → b < length m → (x : MemoryBlock) × (slice_get m b ≡ Some x)
block_there [] b lt = absurd (omega (arith, lt))
block_there (x ∷ m) zero lt = (x, refl)
block_there (x ∷ m) (suc b) lt = block_there m b (omega (arith, lt))

lit : (a : Bool) → a ≡ true → a ≡ false → ⊥
lit true y n = absurd (cc)
lit false y n = absurd (cc)

no_stack : (k : Kind) → same_kind k Kind.Allocator ≡ true → same_kind k Kind.Stack ≡ false
no_stack Kind.Allocator h = refl
no_stack Kind.Stack h = absurd (cc)
no_stack Kind.Slot h = refl
no_stack Kind.Global h = refl
no_stack Kind.Constant h = refl

-- the start of a block
abbrev pub start : Offset
start = record { bits = 0 }

abbrev pub started : ℕ → Value
started b = Value.Ptr (Pointer.At b start)

-- ---- the block

module _ (e : Elision) (s t : State) (front : ℕ) (r : AreElided e s (standing_at t front))
    (ready : StandsReady e s.top t.top) (starts : (i : ℕ) (y : Instance) → slice_get t.instances i ≡ Some y → y.start ≡ 0) (b : ℕ)
    (seen : (home_of r.homes b).is_seen ≡ true) (own : IsNoGivenFrame (sides s t) b) (after : State)
    (goes : deallocate s (started b) ≡ Ok after) where
  abbrev w : State
  w = standing_at t front

  abbrev m : List MemoryBlock
  m = s.world.memory

  abbrev n : List MemoryBlock
  n = t.world.memory

  shown_if : (c : ℕ) → (home_of r.homes c).is_seen ≡ true → r.hides c ≡ false
  shown_if c is = on (r.hides c) refl
    where
      on : (h : Bool) → r.hides c ≡ h → r.hides c ≡ false
      on true hidden = absurd (lit (home_of r.homes c).is_seen is (r.hidden c hidden))
      on false calm = calm

  within_if : (c : ℕ) → (home_of r.homes c).is_seen ≡ true → c < length m
  within_if c is = subst (λ (l : ℕ). c < l) r.known (seen_within r.homes c is)

  it : (x : MemoryBlock) × (slice_get m b ≡ Some x)
  it = block_there m b (within_if b seen)

  abbrev x : MemoryBlock
  x = it.0

  mate : (k : ℕ) × (bytes : List Byte) × (home_of r.homes b ≡ whole_home k)
      × (slice_get n k ≡ Some (record x { bytes = bytes }))
  mate = r.mates.each b x it.1 (shown_if b seen) own

  abbrev k : ℕ
  k = mate.0

  module _ (kind : same_kind x.kind Kind.Allocator ≡ true) where
    -- no stack block, and no frame behind the start of another one
    not_given : (z : Instance) → z.block ≡ k → z.start ≡ 0 → is_given n z ≡ false
    not_given z same zero_start =
        (λ i. is_stack_block n (same i) || not (zero_start i == 0))
        ∙ (ap (λ (o : Option MemoryBlock). option_map_or (λ (y : MemoryBlock). same_kind y.kind Kind.Stack) o false
        || false) mate.3 ∙ ap (λ (c : Bool). c || false) (no_stack x.kind kind))

    apart : NoneGivenIn (sides s t) k
    apart i y z here beside given same =
        lit (is_given n z) given (not_given z same (starts i z beside))

    died : AreElided e (with_memory s (killed m b)) (with_memory (standing_at t front) (killed n k))
    died = both_die e s w r b k x mate.1 it.1 (shown_if b seen) own mate.2 mate.3 apart

    -- the same instances begin there
    begins : (j : ℕ) (y z : Instance) → slice_get s.instances j ≡ Some y → slice_get t.instances j ≡ Some z
        → began_at b 0 y ≡ began_at k 0 z
    begins j y z here beside = same_truth (began_at b 0 y) (began_at k 0 z) there back
      where
        there : began_at b 0 y ≡ true → began_at k 0 z ≡ true
        there h =
            let block = began_in b 0 y h in
            let home : record { block = z.block; offset = z.start; is_seen = true } ≡ whole_home k
            = sym (r.instances j y z here beside).home ∙ (ap (home_of r.homes) block ∙ mate.2) in
            (λ i. ((home i).block == k) && ((home i).offset == 0)) ∙ ap (λ (c : Bool). c && true) (itself k)

        back : began_at k 0 z ≡ true → began_at b 0 y ≡ true
        back h =
            let block = began_in k 0 z h in
            let home = (r.instances j y z here beside).home in
            let is = ap (λ (q : Home). q.is_seen) home in
            let same : y.block ≡ b
            = only e s w r b k x mate.1 it.1 (shown_if b seen) own mate.2 mate.3 apart y.block
            (within_if y.block is) (shown_if y.block is) (ap (λ (q : Home). q.block) home ∙ block) in
            (λ i. (same i == b) && ((r.instances j y z here beside).whole i == 0))
            ∙ ap (λ (c : Bool). c && true) (itself b)

    found : last_from (began_at b 0) 0 s.instances ≡ last_from (began_at k 0) 0 t.instances
    found = same_last (began_at b 0) (began_at k 0) 0 s.instances t.instances r.count begins

    -- ---- no instance lets it go

    stays : Kills s b start after → (deallocate t (started k) ≡ behind_it t k start)
        → (v : State) × (deallocate t (started k) ≡ Ok v) × AreElided e after v
    stays h none = (
      next (with_memory t (killed n k)),
      none
          ∙ kills_too t k start refl (ap (is_unkilled Kind.Allocator) mate.3
          ∙ (ap (is_unkilled Kind.Allocator) (sym it.1) ∙ h.unkilled))
          (ap is_owned mate.3 ∙ (ap is_owned (sym it.1) ∙ h.unowned)),
      subst (λ (v : State). AreElided e v (next (with_memory t (killed n k)))) h.is
          (both_go e (with_memory s (killed m b)) (with_memory t (killed n k)) front died ready),
    )

    -- ---- an instance of a number does

    module _ (j : ℕ) (y z : Instance) (here : slice_get s.instances j ≡ Some y)
        (beside : slice_get t.instances j ≡ Some z) (first : y.block ≡ b) (second : z.block ≡ k) where
      abbrev xs : List Instance
      xs = slice_set s.instances j (record y { freed = true })

      abbrev ys : List Instance
      ys = slice_set t.instances j (record z { freed = true })

      old : AreInstances e died.homes (killed n k) y z
      old = died.instances j y z here beside

      free_too : AreInstances e died.homes (killed n k) (record y { freed = true }) (record z { freed = true })
      free_too = record {
        coroutine = old.coroutine;
        whole = old.whole;
        home = old.home;
        status = old.status;
        last_save = old.last_save;
        released = old.released;
        freed = subst (λ (g : Bool). IsFreedAs (killed n k) (record y { freed = true }) (record z { freed = true }) g)
            (sym (given_still n k z ∙ not_given z second (starts j z beside))) refl;
        slots = old.slots;
        no_slots = old.no_slots;
      }

      freed_both : AreElided e (next (with_memory (record s { instances = xs }) (killed m b)))
          (next (with_memory (record t { instances = ys }) (killed n k)))
      freed_both =
          both_go e (with_memory (record s { instances = xs }) (killed m b))
          (with_memory (record t { instances = ys }) (killed n k)) front
          (instances_change e (with_memory s (killed m b)) (with_memory (standing_at t front) (killed n k)) died xs ys
          (set_frames s.instances j y (record y { freed = true }) here
          (record { coroutine = refl; block = refl; start = refl }))
          (set_frames t.instances j z (record z { freed = true }) beside
          (record { coroutine = refl; block = refl; start = refl }))
          (length-set t.instances j (record z { freed = true })
          ∙ (r.count ∙ sym (length-set s.instances j (record y { freed = true }))))
          (set_instances e died.homes (killed n k) s.instances t.instances died.instances j
          (record y { freed = true }) (record z { freed = true }) y z here beside free_too)) ready

      abbrev gone : State
      gone = with_memory (with_instance s j (record y { freed = true })) (disown m b)

      abbrev gone_too : State
      gone_too = with_memory (with_instance t j (record z { freed = true })) (disown n k)

      unkilled_if : is_unkilled Kind.Allocator (slice_get (disown m b) b) ≡ true
          → is_unkilled Kind.Allocator (slice_get (disown n k) k) ≡ true
      unkilled_if h =
          ap (is_unkilled Kind.Allocator) (changed_here n k disowned (record x { bytes = mate.1 }) mate.3)
          ∙ (ap (is_unkilled Kind.Allocator) (sym (changed_here m b disowned x it.1)) ∙ h)

      lets_go : Kills gone b start after → (deallocate t (started k) ≡ behind_it gone_too k start)
          → (v : State) × (deallocate t (started k) ≡ Ok v) × AreElided e after v
      lets_go h by = (
        next (with_memory gone_too (killed (disown n k) k)),
        by ∙ kills_too gone_too k start refl (unkilled_if h.unkilled)
            (ap is_owned (changed_here n k disowned (record x { bytes = mate.1 }) mate.3)),
        subst (λ (v : State). AreElided e v (next (with_memory gone_too (killed (disown n k) k)))) h.is
            (subst (λ (p : List MemoryBlock × List MemoryBlock).
            AreElided e (next (with_memory gone p.0)) (next (with_memory gone_too p.1)))
            (λ i. (sym (disowned_too m b) i, sym (disowned_too n k) i)) freed_both),
      )

      may_too : may_be_freed z ≡ may_be_freed y
      may_too =
          let same = r.instances j y z here beside in
          let sleeps = sleeps_too e y.coroutine y.status z.status same.status in
          λ i. same.released i && not (sleeps i)

      by_may : (may : Bool) → may_be_freed y ≡ may → behind_it (if_let_go s (Some (j, y))) b start ≡ Ok after
          → (deallocate t (started k) ≡ behind_it (if_let_go t (Some (j, z))) k start)
          → (v : State) × (deallocate t (started k) ≡ Ok v) × AreElided e after v
      by_may true may now by =
          let same = r.instances j y z here beside in
          lets_go
          (kills gone b start after
          (ap (λ (v : State). behind_it v b start)
          (sym (goes_if s j y true may ∙ let_go_of s j b y same.slots first)) ∙ now))
          (by ∙ ap (λ (v : State). behind_it v k start)
          (goes_if t j z true (may_too ∙ may) ∙ let_go_of t j k z same.no_slots second))
      by_may false may now by =
          stays
          (kills s b start after (ap (λ (v : State). behind_it v b start) (sym (goes_if s j y false may)) ∙ now))
          (by ∙ ap (λ (v : State). behind_it v k start) (goes_if t j z false (may_too ∙ may)))

    -- ---- by the instance that is found

    abbrev let_by : State → ℕ → Option ℕ → Result State Cause
    let_by v c o = behind_it (if_let_go v (option_and_then (numbered v.instances) o)) c start

    by_one : (j : ℕ) → last_from (began_at b 0) 0 s.instances ≡ Some j → (y z : Instance)
        → slice_get s.instances j ≡ Some y → slice_get t.instances j ≡ Some z → let_by s b (Some j) ≡ Ok after
        → (deallocate t (started k) ≡ let_by t k (Some j))
        → (v : State) × (deallocate t (started k) ≡ Ok v) × AreElided e after v
    by_one j last y z here beside now by =
        let first = found_there (began_at b 0) s.instances (j, y)
        (ap (option_and_then (numbered s.instances)) last
        ∙ ap (option_map {U = ℕ × Instance} (λ q. (j, q))) here) in
        let second = found_there (began_at k 0) t.instances (j, z)
        (ap (option_and_then (numbered t.instances)) (sym found ∙ last)
        ∙ ap (option_map {U = ℕ × Instance} (λ q. (j, q))) beside) in
        by_may j y z here beside (began_in b 0 y first.1) (began_in k 0 z second.1) (may_be_freed y) refl
        (ap (λ (o : Option Instance). behind_it (if_let_go s (option_map {U = ℕ × Instance} (λ q. (j, q)) o)) b start)
        (sym here) ∙ now)
        (by ∙ ap (λ (o : Option Instance).
        behind_it (if_let_go t (option_map {U = ℕ × Instance} (λ q. (j, q)) o)) k start) beside)

    by_found : (o : Option ℕ) → last_from (began_at b 0) 0 s.instances ≡ o → let_by s b o ≡ Ok after
        → (deallocate t (started k) ≡ let_by t k o)
        → (v : State) × (deallocate t (started k) ≡ Ok v) × AreElided e after v
    by_found None last now by = stays (kills s b start after now) by
    by_found (Some j) last now by =
        on (slice_get s.instances j) refl (slice_get t.instances j) refl
      where
        lacks : slice_get s.instances j ≡ None → ⊥
        lacks none =
            let r = found_from (began_at b 0) 0 s.instances j last in
            let number = r.number in
            let same : r.at ≡ j = omega (arith, number) in
            let there : slice_get s.instances j ≡ Some r.instance = ap (slice_get s.instances) (sym same) ∙ r.there in
            let c : Some r.instance ≡ None = sym there ∙ none in
            absurd (cc)

        on : (o : Option Instance) → slice_get s.instances j ≡ o → (q : Option Instance)
            → slice_get t.instances j ≡ q
            → (v : State) × (deallocate t (started k) ≡ Ok v) × AreElided e after v
        on None here q beside = absurd (lacks here)
        on (Some y) here (Some z) beside = by_one j last y z here beside now by
        on (Some y) here None beside =
            let lt = get_within s.instances j y here in
            let count = r.count in
            let z = there_is t.instances j (omega (arith, lt, count)) in
            let c : None ≡ Some z.0 = sym beside ∙ z.1 in
            absurd (cc)

    freed_kind : (v : State) × (deallocate t (started k) ≡ Ok v) × AreElided e after v
    freed_kind =
        by_found (last_from (began_at b 0) 0 s.instances) refl goes
        (ap (λ (o : Option ℕ). let_by t k o) (sym found))

  -- the block is an allocator's
  is_kind : same_kind x.kind Kind.Allocator ≡ true
  is_kind = on (instance_at s.instances (started b)) refl goes
    where
      kind_of : is_unkilled Kind.Allocator (Some x) ≡ true → same_kind x.kind Kind.Allocator ≡ true
      kind_of h = (both_true (same_kind x.kind Kind.Allocator) (not (is_killed x.life)) h).0

      stays_kind : Kills s b start after → same_kind x.kind Kind.Allocator ≡ true
      stays_kind h = kind_of (ap (is_unkilled Kind.Allocator) (sym it.1) ∙ h.unkilled)

      empty : (j : ℕ) (y : Instance) → slice_get s.instances j ≡ Some y → y.slots ≡ []
      empty j y here =
          let lt = get_within s.instances j y here in
          let count = r.count in
          let z = there_is t.instances j (omega (arith, lt, count)) in
          (r.instances j y z.0 here z.1).slots

      by_may : (j : ℕ) (y : Instance) → y.slots ≡ [] → y.block ≡ b → (may : Bool) → may_be_freed y ≡ may
          → behind_it (if_let_go s (Some (j, y))) b start ≡ Ok after → same_kind x.kind Kind.Allocator ≡ true
      by_may j y none same true may now =
          let h = kills (with_memory (with_instance s j (record y { freed = true })) (disown m b)) b start after
          (ap (λ (v : State). behind_it v b start) (sym (goes_if s j y true may ∙ let_go_of s j b y none same))
          ∙ now) in
          kind_of (ap (is_unkilled Kind.Allocator) (sym (changed_here m b disowned x it.1)) ∙ h.unkilled)
      by_may j y none same false may now =
          stays_kind
          (kills s b start after (ap (λ (v : State). behind_it v b start) (sym (goes_if s j y false may)) ∙ now))

      on : (q : Option (ℕ × Instance)) → instance_at s.instances (started b) ≡ q
          → behind_it (if_let_go s q) b start ≡ Ok after → same_kind x.kind Kind.Allocator ≡ true
      on None found now = stays_kind (kills s b start after now)
      on (Some p) found now =
          let h = found_there (began_at b 0) s.instances p found in
          by_may p.0 p.1 (empty p.0 p.1 h.0) (began_in b 0 p.1 h.1) (may_be_freed p.1) refl now

  -- what stands for the pointer in the second run
  abbrev there_value : Home → Value
  there_value h = Value.Ptr (Pointer.At h.block (moved start h.offset))

  pub frees_both : (v : State) × (deallocate t (there_value (home_of r.homes b)) ≡ Ok v) × AreElided e after v
  frees_both =
      let f = freed_kind is_kind in
      (f.0, ap (λ (h : Home). deallocate t (there_value h)) mate.2 ∙ f.1, f.2)
