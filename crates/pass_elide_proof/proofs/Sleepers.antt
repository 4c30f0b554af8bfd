-- An instance that isn't Finished is found in both runs by an address of its frame.
use Rattle.std.proofs.Common.{◌≡◌, ◌<◌, ◌≤◌, ◌%◌, ◌^◌, ◌+◌, ◌∙◌, ◌&&◌, ◌||◌, ◌==◌, ap, arith, Bool, false, List, not, refl, subst, sym, true, ℕ, length}
use Rattle.std.specs.Prelude.{Some, slice_get}
use Rattle.pass_elide_proof.proofs.Kept.{get_some}
use Rattle.pass_elide_proof.proofs.LastOnes.{IsLast, found_is, is_found}
use Rattle.pass_elide_proof.proofs.MoreBlocks.{other_instance}
use Rattle.pass_elide_proof.specs.Elision.{Elision}
use Rattle.pass_elide_proof.specs.Match.{AreElided, AreInstances, AreStatuses, Ends, IsNoGivenFrame, Runs, Sleeps, sides}
use Rattle.pass_proofs.proofs.ir_laws.facts.Lists.{get_within}
use Rattle.pass_proofs.proofs.ir_laws.facts.Truth.{both_true, equal_numbers, itself}
use Rattle.pass_proofs.proofs.run_laws.memory.Homes.{seen_within}
use Rattle.pass_proofs.proofs.run_laws.transfer.Muted.{muted_length}
use Rattle.pass_proofs.specs.run_framed.Framed.{is_given, is_stack_block}
use Rattle.pass_proofs.specs.run_laws.memory.Pointers.{Home, IsValue, home_of}
use Rattle.pass_proofs.specs.run_laws.transfer.Muted.{muted}
use Rattle.pass_proofs.specs.run_memory.Pointers.{moved}
use Rattle.pass_proofs.specs.run_memory.declared.block.MemoryBlock.{MemoryBlock}
use Rattle.pass_proofs.specs.run_memory.declared.pointer.Offset.{Offset}
use Rattle.pass_proofs.specs.run_memory.declared.pointer.Pointer.{Pointer}
use Rattle.pass_proofs.specs.run_memory.declared.pointer.Value.{Value}
use Rattle.pass_proofs.specs.run_source.State.{began_at, frame_address_of, instance_at, is_finished}
use Rattle.pass_proofs.specs.run_source.declared.state.Instance.{Instance}
use Rattle.pass_proofs.specs.run_source.declared.state.State.{State}
use Rattle.pass_proofs.specs.run_source.declared.state.Status.{Status}

same_some : {A : Type 0} (x y : A) → Some x ≡ Some y → x ≡ y
same_some x y e = cc

not_both : (b : Bool) → b ≡ true → b ≡ false → ⊥
not_both true y n = absurd (cc)
not_both false y n = absurd (cc)

began_parts : (b o : ℕ) (x : Instance) → began_at b o x ≡ true → (x.block ≡ b) × (x.start ≡ o)
began_parts b o x e =
    let both = both_true (x.block == b) (x.start == o) e in
    (equal_numbers x.block b both.0, equal_numbers x.start o both.1)

began : (b o : ℕ) (x : Instance) → x.block ≡ b → x.start ≡ o → began_at b o x ≡ true
began b o x block start =
    (λ i. (block i == b) && (start i == o)) ∙ (λ i. itself b i && itself o i)

finished_too : (e : Elision) (func : ℕ) (a b : Status) → AreStatuses e func a b → is_finished b ≡ true
    → is_finished a ≡ true
finished_too e func _ _ Runs h = h
finished_too e func _ _ Ends h = h
finished_too e func _ _ (Sleeps p values others) h = h

-- an instance that was given its frame and isn't Finished is the last that began there
abbrev pub AreLast : List Instance → List MemoryBlock → Type 0
AreLast instances memory =
    (number later : ℕ) (y z : Instance) → slice_get instances number ≡ Some y → slice_get instances later ≡ Some z
    → number < later → is_given memory y ≡ true → began_at y.block y.start z ≡ true → is_finished y.status ≡ true

module _ (e : Elision) (s t : State) (r : AreElided e s t) where
  -- ---- a block that is seen

  seen_low : (b : ℕ) → (home_of r.homes b).is_seen ≡ true → b < length s.world.memory
  seen_low b seen =
      let lt = seen_within r.homes b seen in
      let known = r.known in
      omega (arith, lt, known)

  pub seen_small : (b : ℕ) → (home_of r.homes b).is_seen ≡ true → (home_of r.homes b).offset < 2 ^ 64
  seen_small b seen =
      let lt = seen_low b seen in
      let many = muted_length r.hides s.world.memory in
      let x = get_some (muted r.hides s.world.memory) b (omega (arith, lt, many)) in
      let bounds = r.world.bounds.each b x.0 seen x.1 in
      below (home_of r.homes b).offset x.0.size bounds.block.size bounds.fits bounds.small
    where
      below : (o n size : ℕ) → o + n ≤ size → size < 2 ^ 64 → o < 2 ^ 64
      below o n size fits small = omega (arith, fits, small)

  shown : (b : ℕ) → (home_of r.homes b).is_seen ≡ true → r.hides b ≡ false
  shown b seen = on (r.hides b) refl
    where
      on : (q : Bool) → r.hides b ≡ q → q ≡ false
      on true h = absurd (not_both (home_of r.homes b).is_seen seen (r.hidden b h))
      on false h = refl

  -- ---- frames that begin at one place

  given_same : (y z : Instance) → z.block ≡ y.block → z.start ≡ y.start
      → is_given t.world.memory z ≡ is_given t.world.memory y
  given_same y z block start = λ i. is_stack_block t.world.memory (block i) || not (start i == 0)

  -- a frame that wasn't given has a block that is none of a given one
  no_frame : (i : ℕ) (x y : Instance) → slice_get s.instances i ≡ Some x → slice_get t.instances i ≡ Some y
      → is_given t.world.memory y ≡ false → IsNoGivenFrame (sides s t) x.block
  no_frame i x y at to none j x' y' at' to' given same =
      let old = r.instances i x y at to in
      let new = r.instances j x' y' at' to' in
      let home = sym new.home ∙ (ap (home_of r.homes) same ∙ old.home) in
      not_both (is_given t.world.memory y')
      given
      (given_same y y' (ap (λ (q : Home). q.block) home) (ap (λ (q : Home). q.offset) home) ∙ none)

  -- frames that weren't given and have one place are in one block
  same_block : (i j : ℕ) (x y x' y' : Instance) → slice_get s.instances i ≡ Some x → slice_get t.instances i ≡ Some y
      → slice_get s.instances j ≡ Some x' → slice_get t.instances j ≡ Some y'
      → is_given t.world.memory y ≡ false → y'.block ≡ y.block → y'.start ≡ y.start → x.block ≡ x'.block
  same_block i j x y x' y' at to at' to' none block start =
      let old = r.instances i x y at to in
      let new = r.instances j x' y' at' to' in
      let seen = ap (λ (q : Home). q.is_seen) old.home in
      let seen' = ap (λ (q : Home). q.is_seen) new.home in
      r.mates.alone x.block x'.block (seen_low x.block seen) (seen_low x'.block seen') (shown x.block seen)
      (shown x'.block seen') (no_frame i x y at to none)
      (no_frame j x' y' at' to' (given_same y y' block start ∙ none))
      (ap (λ (q : Home). q.block) old.home ∙ (sym block ∙ sym (ap (λ (q : Home). q.block) new.home)))

  -- ---- the instance that an address finds

  module _ (lasts : AreLast t.instances t.world.memory) (i : ℕ) (x : Instance) where
    abbrev Finds : Value → Type 0
    Finds q = (y : Instance) × ((slice_get t.instances i ≡ Some y) × ((instance_at t.instances q ≡ Some (i, y))
        × AreInstances e r.homes t.world.memory x y))

    module _ (b : ℕ) (o : Offset) (there : slice_get s.instances i ≡ Some x)
        (last : IsLast (began_at b o.bits) s.instances i) (going : is_finished x.status ≡ false) where
      place : (x.block ≡ b) × (x.start ≡ o.bits)
      place =
          let same : last.instance ≡ x = same_some last.instance x (sym last.there ∙ there) in
          began_parts b o.bits x (ap (began_at b o.bits) (sym same) ∙ last.passes)

      low : i < length t.instances
      low = let lt = get_within s.instances i x there in let same = r.count in omega (arith, lt, same)

      other : (y : Instance) × (slice_get t.instances i ≡ Some y)
      other = get_some t.instances i low

      abbrev y : Instance
      y = other.0

      they : AreInstances e r.homes t.world.memory x y
      they = r.instances i x y there other.1

      home_is : home_of r.homes b ≡ record { block = y.block; offset = y.start; is_seen = true }
      home_is = ap (home_of r.homes) (sym place.0) ∙ they.home

      abbrev to : Offset
      to = moved o (home_of r.homes b).offset

      bits_are : to.bits ≡ y.start
      bits_are =
          let start : o.bits ≡ 0 = sym place.1 ∙ they.whole in
          let far : (home_of r.homes b).offset ≡ y.start = ap (λ (q : Home). q.offset) home_is in
          let small = seen_small b (ap (λ (q : Home). q.is_seen) home_is) in
          on o.bits (home_of r.homes b).offset y.start start far small
        where
          on : (o h n : ℕ) → o ≡ 0 → h ≡ n → h < 2 ^ 64 → (o + h) % 2 ^ 64 ≡ n
          on o h n start far small = omega (arith, start, far, small)

      block_is : (home_of r.homes b).block ≡ y.block
      block_is = ap (λ (q : Home). q.block) home_is

      passes : began_at (home_of r.homes b).block to.bits y ≡ true
      passes = began (home_of r.homes b).block to.bits y (sym block_is) (sym bits_are)

      -- no later one began there
      later : (j : ℕ) (z : Instance) → i < j → slice_get t.instances j ≡ Some z
          → began_at (home_of r.homes b).block to.bits z ≡ false
      later j z lt at = on (began_at (home_of r.homes b).block to.bits z) refl
        where
          w : (x' : Instance) × ((slice_get s.instances j ≡ Some x') × AreInstances e r.homes t.world.memory x' z)
          w = other_instance e s t r j z at

          never : (q : Bool) → is_given t.world.memory y ≡ q → z.block ≡ y.block → z.start ≡ y.start → ⊥
          never true given block start =
              not_both (is_finished x.status)
              (finished_too e x.coroutine x.status y.status they.status
              (lasts i j y z other.1 at lt given (began y.block y.start z block start))) going
          never false none block start =
              let same = same_block i j x y w.0 z there other.1 w.1.0 at none block start in
              not_both (began_at b o.bits w.0)
              (began b o.bits w.0 (sym same ∙ place.0) (w.1.1.whole ∙ (sym they.whole ∙ place.1)))
              (last.later j w.0 lt w.1.0)

          on : (q : Bool) → began_at (home_of r.homes b).block to.bits z ≡ q → q ≡ false
          on true e =
              let parts = began_parts (home_of r.homes b).block to.bits z e in
              absurd (never (is_given t.world.memory y) refl (parts.0 ∙ block_is) (parts.1 ∙ bits_are))
          on false e = refl

      last_too : IsLast (began_at (home_of r.homes b).block to.bits) t.instances i
      last_too = record { instance = y; there = other.1; passes = passes; later = later }

      found_there : Finds (Value.Ptr (Pointer.At (home_of r.homes b).block to))
      unfolding other last_too
      found_there = (
        y,
        (other.1, (found_is (began_at (home_of r.homes b).block to.bits) i t.instances last_too, they)),
      )

    -- by what stands for the address
    pub found_too : (p q : Value) → IsValue r.homes p q → instance_at s.instances p ≡ Some (i, x)
        → is_finished x.status ≡ false
        → (y : Instance) × ((slice_get t.instances i ≡ Some y) × ((instance_at t.instances q ≡ Some (i, y))
        × AreInstances e r.homes t.world.memory x y))
    found_too (Value.Ptr (Pointer.At b o)) q stands e going =
        let there = is_found (began_at b o.bits) i x s.instances e in
        subst Finds (sym stands.1) (found_there b o there.0 there.1 going)
    found_too (Value.Ptr Pointer.Null) q stands e going = absurd (cc)
    found_too (Value.Ptr (Pointer.Func f)) q stands e going = absurd (cc)
    found_too Value.Poison q stands e going = absurd (cc)
    found_too (Value.Int n) q stands e going = absurd (cc)

  -- ---- its frame's address

  pub frames_stand : (x y : Instance) → AreInstances e r.homes t.world.memory x y
      → IsValue r.homes (frame_address_of x) (frame_address_of y)
  frames_stand x y h =
      let far : (home_of r.homes x.block).offset ≡ y.start = ap (λ (q : Home). q.offset) h.home in
      let seen = ap (λ (q : Home). q.is_seen) h.home in
      let small = seen_small x.block seen in
      let bits : y.start ≡ (x.start + (home_of r.homes x.block).offset) % 2 ^ 64
      = on x.start (home_of r.homes x.block).offset y.start h.whole far small in (
        seen,
        λ i. Value.Ptr (Pointer.At (ap (λ (q : Home). q.block) (sym h.home) i) (record { bits = bits i })),
      )
    where
      on : (o h n : ℕ) → o ≡ 0 → h ≡ n → h < 2 ^ 64 → n ≡ (o + h) % 2 ^ 64
      on o h n start far small = omega (arith, start, far, small)
