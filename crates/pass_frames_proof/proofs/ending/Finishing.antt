-- At the end of a coroutine its instance is over in both runs, and its slots die in the first one.
use Rattle.std.proofs.Common.{◌≡◌, ◌⊎◌, inl, inr, ⊎_elim, ℕ, ◌<◌, true, List, [], ◌∷◌, length, refl, sym, ap, ◌∙◌, subst, arith}
use Rattle.std.specs.Prelude.{None, Option, Some, option_map, slice_get, slice_set}
use Rattle.pass_frames_steps.proofs.ir_laws.facts.Lists.{get_within}
use Rattle.pass_frames_steps.specs.ir_model.Ty.{Ty}
use Rattle.pass_frames_steps.proofs.moved.Instances.{one_related}
use Rattle.pass_frames_proof.proofs.returning.Deaths.{fewer, living, slot_among, was_there, without_length}
use Rattle.pass_frames_steps.proofs.stepping.Rest.{seen_known}
use Rattle.pass_frames_steps.proofs.stepping.Stored.{muted_is}
use Rattle.pass_frames_steps.specs.Framings.{IsFraming}
use Rattle.pass_frames_steps.specs.Places.{Framing}
use Rattle.pass_frames_steps.specs.Related.{AreAllAhead, AreBuiltOf, AreFreeCells, AreInstances, AreMates, Building, IsAhead, IsFreeOf, is_coroutine, is_slot}
use Rattle.pass_frames_steps.specs.Returning.{IsAmong}
use Rattle.pass_frames_steps.specs.run_framed.Framed.{frame_rights}
use Rattle.pass_frames_steps.proofs.run_laws.transfer.Places.{fewer_stand}
use Rattle.pass_frames_steps.specs.run_laws.embedded.Making.{whole_home}
use Rattle.pass_frames_steps.specs.run_laws.memory.Pointers.{Home, home_of}
use Rattle.pass_frames_steps.specs.run_laws.transfer.Muted.{ended_if, muted}
use Rattle.pass_frames_steps.specs.run_laws.transfer.Places.{AreStanding}
use Rattle.pass_frames_steps.specs.run_laws.transfer.Transfer.{AreOver}
use Rattle.pass_frames_steps.specs.run_memory.Memory.{Rights, is_live, owner_rights}
use Rattle.pass_frames_steps.specs.run_memory.declared.block.MemoryBlock.{MemoryBlock}
use Rattle.pass_frames_steps.specs.run_source.declared.state.Activation.{Activation}
use Rattle.pass_frames_steps.specs.run_source.declared.state.Instance.{Instance}
use Rattle.pass_frames_steps.specs.run_source.declared.state.State.{State}
use Rattle.pass_frames_steps.specs.run_source.declared.state.Status.{Status}
use Rattle.pass_frames_steps.specs.run_step.Step.{without_slots}
use Rattle.pass_frames_steps.specs.run_step.declared.world.World.{World}

-- ---- slots of an instance die in the first run alone: none of them has a block of its own

module _ (b : Building) (s t : State) (r : AreBuiltOf b s t) (i : ℕ) (x : Instance)
    (there : slice_get s.instances i ≡ Some x) (y : Instance) (beside : AreInstances b r.homes t x y)
    (apart : IsAmong x.block x.slots → ⊥) where
  abbrev R : Rights
  R = frame_rights b.given t.instances

  abbrev pub w : World
  w = record s.world { memory = without_slots s.world.memory x.slots }

  standing : AreStanding owner_rights R r.homes (muted r.hides w.memory) t.world.memory
  standing =
      fewer_stand owner_rights R r.homes (muted r.hides s.world.memory) (muted r.hides w.memory) t.world.memory
      (fewer b.given t.instances r.homes r.hides s.world.memory x.slots t.world.memory)
      (record { memory = r.world.memory; nulls = r.world.nulls; bounds = r.world.bounds })

  over : AreOver owner_rights R r.homes r.hides (λ d. d) w t.world
  over = record {
    memory = standing.memory;
    nulls = standing.nulls;
    bounds = standing.bounds;
    events = r.world.events;
    answers = r.world.answers;
    allocs = r.world.allocs;
  }

  long : length w.memory ≡ length s.world.memory
  long = without_length x.slots s.world.memory

  known_block : x.block < length s.world.memory
  known_block =
      let lt : x.block < length r.homes = seen_known r.homes x.block (ap (λ (q : Home). q.is_seen) beside.block) in
      let known : length r.homes ≡ length s.world.memory = r.known in
      omega (arith, lt, known)

  -- a slot that stands whole would be the frame itself
  not_whole : (n k : ℕ) → n < length s.world.memory → IsAmong n x.slots → home_of r.homes n ≡ whole_home k → ⊥
  not_whole n k lt among home =
      let z = slot_among n x.slots among in
      let p = beside.slots z.0 z.1 in
      let at : (home_of r.homes n).block ≡ y.block =
      ap (λ (j : ℕ). (home_of r.homes j).block) (sym z.2) ∙ ap (λ (q : Home). q.block) p.home in
      let same : k ≡ y.block = sym (ap (λ (q : Home). q.block) home) ∙ at in
      let one : n ≡ x.block =
      r.mates.alone n x.block y.block lt known_block (home ∙ ap whole_home same) beside.block in
      apart (subst (λ (j : ℕ). IsAmong j x.slots) one among)

  mates : AreMates r.homes w.memory t.world.memory
  mates = record {
    whole = λ n z e no_slot.
        let q = was_there x.slots s.world.memory n z e in
        r.mates.whole n q.block q.there
        (⊎_elim (λ k. ap (λ (p : MemoryBlock). is_slot p) (sym k.1)) (λ k. ap (λ (p : MemoryBlock). is_slot p) (sym k.1))
        q.is ∙ no_slot);
    each = λ n k z e home.
        let q = was_there x.slots s.world.memory n z e in
        let lt : n < length s.world.memory = get_within s.world.memory n q.block q.there in
        let mate = r.mates.each n k q.block q.there home in
        ⊎_elim (λ d. absurd (not_whole n k lt d.0 home))
        (λ d. (mate.0, mate.1 ∙ ap (λ (p : MemoryBlock). Some (record p { bytes = mate.0 })) (sym d.1))) q.is;
    alone = λ n m k lt lt'.
        r.mates.alone n m k (subst (λ (z : ℕ). n < z) long lt) (subst (λ (z : ℕ). m < z) long lt');
  }

  free_kept : (block : ℕ) → IsFreeOf r.homes r.hides s.world.memory block → IsFreeOf r.homes r.hides w.memory block
  free_kept block free n z e about = by about
    where
      by : ((home_of r.homes n).is_seen ≡ true) ⊎ (is_live z.life ≡ true) → (home_of r.homes n).block ≡ block → ⊥
      by (inr live) = free n z (living r.hides x.slots s.world.memory n z e live).1 (inr live)
      by (inl seen) = on (slice_get w.memory n) refl (sym (muted_is r.hides w.memory n) ∙ e)
        where
          on : (o : Option MemoryBlock) → slice_get w.memory n ≡ o → option_map (ended_if (r.hides n)) o ≡ Some z
              → (home_of r.homes n).block ≡ block → ⊥
          on None d f = absurd (cc)
          on (Some k) d f =
              let q = was_there x.slots s.world.memory n k d in
              free n (ended_if (r.hides n) q.block)
              (muted_is r.hides s.world.memory n ∙ ap (option_map (ended_if (r.hides n))) q.there) (inl seen)

  cells_kept : (cs : List Activation) → AreFreeCells b r.homes r.hides s.world.memory cs
      → AreFreeCells b r.homes r.hides w.memory cs
  cells_kept [] h = tt
  cells_kept (c ∷ cs) h = ((λ is slot e name. free_kept slot.block (h.0 is slot e name)), cells_kept cs h.1)

  one_ahead : (X : Framing) (c : Activation) (v align : ℕ) (ty : Ty)
      → IsAhead X r.homes r.hides s.world.memory t.world.memory c v ty align
      → IsAhead X r.homes r.hides w.memory t.world.memory c v ty align
  one_ahead X c v align ty k = record {
    block = k.block;
    address = k.address;
    own = k.own;
    free = free_kept k.block k.free;
    bytes = k.bytes;
    sized = k.sized;
    there = k.there;
  }

  ahead_kept : (ups cs : List Activation) → AreAllAhead b r.homes r.hides s.world.memory t.world.memory ups cs
      → AreAllAhead b r.homes r.hides w.memory t.world.memory ups cs
  ahead_kept [] cs h = tt
  ahead_kept (a ∷ ups) [] h = tt
  ahead_kept (a ∷ ups) (c ∷ cs) h = (
    λ is first zero.
        let k = h.0 is first zero in record {
          slots = λ at v align ty e le out.
              one_ahead (b.framing a.func) c v align ty (k.slots at v align ty e le out);
          temporaries = λ z at align ty listed e le.
              one_ahead (b.framing a.func) c z.temporary z.align z.ty (k.temporaries z at align ty listed e le);
        },
    ahead_kept ups cs h.1,
  )

  pub slots_die : AreBuiltOf b (record s { world = w }) t
  slots_die = record {
    homes = r.homes;
    hides = r.hides;
    world = over;
    known = r.known ∙ sym long;
    globals = r.globals;
    mates = mates;
    hidden = r.hidden;
    count = r.count;
    instances = r.instances;
    top = r.top;
    below = r.below;
    once = r.once;
    cells = cells_kept (t.top ∷ t.below) r.cells;
    ahead = ahead_kept (s.top ∷ s.below) (t.top ∷ t.below) r.ahead;
    outcome = r.outcome;
  }

  pub die_homes : slots_die.homes ≡ r.homes
  unfolding slots_die
  die_homes = refl

-- ---- the instance is over

abbrev pub over_now : Instance → Instance
over_now x = record x { status = Status.Finished }

module _ (b : Building) (s t : State) (r : AreBuiltOf b s t)
    (framings : (func : ℕ) → is_coroutine b func ≡ true → IsFraming (b.framing func)) (i : ℕ) (x y : Instance)
    (there : slice_get s.instances i ≡ Some x) (there' : slice_get t.instances i ≡ Some y)
    (beside : AreInstances b r.homes t x y) (apart : IsAmong x.block x.slots → ⊥) where
  abbrev s1 : State
  s1 = record s { world = w b s t r i x there y beside apart }

  r1 : AreBuiltOf b s1 t
  r1 = slots_die b s t r i x there y beside apart

  beside1 : AreInstances b r1.homes (record t { instances = slice_set t.instances i (over_now y) }) (over_now x)
      (over_now y)
  unfolding r1 slots_die
  beside1 =
      subst (λ (homes : List Home).
      AreInstances b homes (record t { instances = slice_set t.instances i (over_now y) }) (over_now x) (over_now y))
      (sym (die_homes b s t r i x there y beside apart)) (record {
        coroutine = beside.coroutine;
        is_coroutine = beside.is_coroutine;
        block = beside.block;
        start = beside.start;
        status = refl;
        last_save = beside.last_save;
        released = beside.released;
        freed = beside.freed;
        slots = λ slot e.
            let q = beside.slots slot e in
            record { position = q.position; position_is = q.position_is; home = q.home };
        no_slots = beside.no_slots;
      })

  pub finished : AreBuiltOf b (record s1 { instances = slice_set s.instances i (over_now x) })
      (record t { instances = slice_set t.instances i (over_now y) })
  finished =
      one_related b s1 t r1 framings i x y (over_now x) (over_now y) there there' (record { block = refl; start = refl; coroutine = refl }) beside1
