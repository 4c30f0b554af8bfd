-- The run in which callees are given frames has more blocks, in which nothing stands.
use Rattle.std.proofs.Common.{◌≡◌, ◌<◌, ◌≤◌, ◌∙◌, ◌++◌, ◌||◌, ◌==◌, ap, arith, Bool, false, List, Option, refl, subst, sym, true, ℕ, length, not}
use Rattle.std.specs.Option.{option_map_or}
use Rattle.std.specs.Prelude.{None, Some, slice_get}
use Rattle.pass_elide_proof.proofs.Kept.{KeepsSides, filter_many, get_some}
use Rattle.pass_elide_proof.specs.Counts.{counted, given_frames}
use Rattle.pass_elide_proof.specs.Elision.{Elision, elided, framed}
use Rattle.pass_elide_proof.specs.Match.{AreElided, AreInstances, AreMates, IsFreedAs, IsNoGivenFrame, Sides, instance_in, sides}
use Rattle.pass_proofs.proofs.ir_laws.facts.Lists.{get_before, get_front, get_within}
use Rattle.pass_proofs.proofs.run_laws.memory.Homes.{seen_within}
use Rattle.pass_proofs.proofs.run_laws.transfer.Muted.{muted_length}
use Rattle.pass_proofs.proofs.run_laws.transfer.Places.{grown}
use Rattle.pass_proofs.specs.run_framed.Framed.{frame_rights, is_given}
use Rattle.pass_proofs.specs.run_laws.memory.Pointers.{Home, home_of}
use Rattle.pass_proofs.specs.run_laws.transfer.Muted.{muted}
use Rattle.pass_proofs.specs.run_laws.transfer.Places.{AreStanding, AreThere}
use Rattle.pass_proofs.specs.run_laws.transfer.Transfer.{AreOver}
use Rattle.pass_proofs.specs.run_memory.Memory.{Rights, same_kind}
use Rattle.pass_proofs.specs.run_memory.declared.block.Kind.{Kind}
use Rattle.pass_proofs.specs.run_memory.declared.block.MemoryBlock.{MemoryBlock}
use Rattle.pass_proofs.specs.run_source.declared.state.Instance.{Instance}
use Rattle.pass_proofs.specs.run_source.declared.state.State.{State}

module _ (e : Elision) (s t : State) (r : AreElided e s t) where
  -- ---- blocks that there are

  -- a block to which pointers may be about has a home in which there is one
  pub homes_there : AreThere r.homes t.world.memory
  homes_there b seen =
      let lt = seen_within r.homes b seen in
      let known = r.known in
      let many = muted_length r.hides s.world.memory in
      let x = get_some (muted r.hides s.world.memory) b (omega (arith, lt, known, many)) in
      let bounds = r.world.bounds.each b x.0 seen x.1 in
      (bounds.block, bounds.there)

  -- each instance has one of the first run, whose home is its frame
  pub other_instance : (i : ℕ) (y : Instance) → slice_get t.instances i ≡ Some y
      → (x : Instance) × ((slice_get s.instances i ≡ Some x) × AreInstances e r.homes t.world.memory x y)
  other_instance i y there =
      let lt = get_within t.instances i y there in
      let same = r.count in
      let x = get_some s.instances i (omega (arith, lt, same)) in
      (x.0, (x.1, r.instances i x.0 y x.1 there))

  -- the block of its frame is there
  pub frame_there : (i : ℕ) (y : Instance) → slice_get t.instances i ≡ Some y → y.block < length t.world.memory
  frame_there i y there =
      let x = other_instance i y there in
      let z = homes_there x.0.block (ap (λ (q : Home). q.is_seen) x.1.1.home) in
      subst (λ (n : ℕ). n < length t.world.memory) (ap (λ (q : Home). q.block) x.1.1.home)
      (get_within t.world.memory (home_of r.homes x.0.block).block z.0 z.1)

  -- ---- more of them

  module _ (more : List MemoryBlock) where
    abbrev n : List MemoryBlock
    n = t.world.memory ++ more

    abbrev k : Sides
    k = record (sides s t) { other = t.world.memory ++ more }

    pub given_more : (i : ℕ) (y : Instance) → slice_get t.instances i ≡ Some y
        → is_given (t.world.memory ++ more) y ≡ is_given t.world.memory y
    given_more i y there =
        ap (λ (o : Option MemoryBlock). option_map_or (λ (x : MemoryBlock). same_kind x.kind Kind.Stack) o false
        || not (y.start == 0)) (get_front t.world.memory more y.block (frame_there i y there))

    given_in : (o : Option Instance) → ((y : Instance) → o ≡ Some y
        → is_given (t.world.memory ++ more) y ≡ is_given t.world.memory y)
        → option_map_or (is_given (t.world.memory ++ more)) o false ≡ option_map_or (is_given t.world.memory) o false
    given_in None h = refl
    given_in (Some y) h = h y refl

    by_number : (o : Option ℕ) → option_map_or (is_given (t.world.memory ++ more)) (instance_in t.instances o) false
        ≡ option_map_or (is_given t.world.memory) (instance_in t.instances o) false
    by_number None = refl
    by_number (Some i) = given_in (slice_get t.instances i) (λ y there. given_more i y there)

    pub keeps_more : KeepsSides r.hides (sides s t) (record (sides s t) { other = t.world.memory ++ more })
    keeps_more = record {
      given = by_number;
      first = λ o y is. (y, is, refl);
      hidden = λ n size h there. there;
    }

    pub frames_more : (b : ℕ) → IsNoGivenFrame (record (sides s t) { other = t.world.memory ++ more }) b
        → IsNoGivenFrame (sides s t) b
    frames_more b none i x y at to given = none i x y at to (given_more i y to ∙ given)

    fewer_given : (b : ℕ) → IsNoGivenFrame (sides s t) b
        → IsNoGivenFrame (record (sides s t) { other = t.world.memory ++ more }) b
    fewer_given b none i x y at to given = none i x y at to (sym (given_more i y to) ∙ given)

    pub count_more : given_frames (record t { world = record t.world { memory = t.world.memory ++ more } })
        ≡ given_frames t
    count_more = filter_many (is_given t.world.memory) (is_given (t.world.memory ++ more)) t.instances given_more

    -- ---- the parts of the relation

    abbrev R : Rights
    R = frame_rights (framed e) s.instances

    abbrev T : Rights
    T = frame_rights (elided e) t.instances

    standing : AreStanding R T r.homes (muted r.hides s.world.memory) (t.world.memory ++ more)
    standing =
        grown R T r.homes (muted r.hides s.world.memory) t.world.memory more homes_there
        (record { memory = r.world.memory; nulls = r.world.nulls; bounds = r.world.bounds })

    pub world_more : AreOver (frame_rights (framed e) s.instances) (frame_rights (elided e) t.instances) r.homes r.hides
        (λ d. d) (counted t.world.allocs s.world) (record t.world { memory = t.world.memory ++ more })
    world_more = record {
      memory = standing.memory;
      nulls = standing.nulls;
      bounds = standing.bounds;
      events = r.world.events;
      answers = r.world.answers;
      allocs = r.world.allocs;
    }

    pub mates_more : AreMates r.homes r.hides (record (sides s t) { other = t.world.memory ++ more })
    mates_more = record {
      each = λ b x there h free.
          let old = r.mates.each b x there h (frames_more b free) in
          (old.0, old.1, old.2, get_before t.world.memory more old.0 (record x { bytes = old.1 }) old.3);
      alone = λ b c lt gt h i free none same.
          r.mates.alone b c lt gt h i (frames_more b free) (frames_more c none) same;
    }

    freed_more : (x y : Instance) (b : Bool) → IsFreedAs t.world.memory x y b
        → IsFreedAs (t.world.memory ++ more) x y b
    freed_more x y false h = h
    freed_more x y true h = (
      h.0,
      λ going. let z = h.1 going in (z.0, get_before t.world.memory more y.block z.0 z.1, z.2),
    )

    pub instances_more : (i : ℕ) (x y : Instance) → slice_get s.instances i ≡ Some x → slice_get t.instances i ≡ Some y
        → AreInstances e r.homes (t.world.memory ++ more) x y
    instances_more i x y at to =
        let old = r.instances i x y at to in
        record {
          coroutine = old.coroutine;
          whole = old.whole;
          home = old.home;
          status = old.status;
          last_save = old.last_save;
          released = old.released;
          freed = subst (λ (b : Bool). IsFreedAs (t.world.memory ++ more) x y b) (sym (given_more i y to))
              (freed_more x y (is_given t.world.memory y) old.freed);
          slots = old.slots;
          no_slots = old.no_slots;
        }

    -- a block that is new is the home of none of the first run but given frames
    pub new_free : (b : ℕ) → length t.world.memory ≤ b → (c : ℕ) → c < length s.world.memory → r.hides c ≡ false
        → IsNoGivenFrame (record (sides s t) { other = t.world.memory ++ more }) c
        → (home_of r.homes c).block ≡ b → ⊥
    new_free b le c lt h none same =
        let x = get_some s.world.memory c lt in
        let old = r.mates.each c x.0 x.1 h (frames_more c none) in
        let at : (home_of r.homes c).block ≡ old.0 = ap (λ (q : Home). q.block) old.2 in
        let within = get_within t.world.memory old.0 (record x.0 { bytes = old.1 }) old.3 in
        omega (arith, le, same, at, within)
