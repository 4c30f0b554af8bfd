-- The slots of the activation on top die in both runs: the rest is left, and the source stands in the target.
use Rattle.std.proofs.Common.{◌≡◌, ◌⊎◌, inl, inr, ⊎_elim, ℕ, ◌<◌, Bool, true, false, List, [], length, refl, sym, ap, ◌∙◌, subst, arith}
use Rattle.std.specs.List.{Contains}
use Rattle.std.specs.Prelude.{None, Option, Some, map, option_map, slice_get, ◌&&◌}
use Rattle.pass_frames_steps.specs.flow_solver.Paths.{IsListed}
use Rattle.pass_frames_steps.proofs.ir_laws.facts.Lists.{get_within}
use Rattle.pass_frames_steps.specs.ir_model.Ty.{Ty}
use Rattle.pass_frames_proof.proofs.returning.Deaths.{WasThere, both_die, dead_there, kept_there, living, slot_among, was_there, without_length}
use Rattle.pass_frames_steps.proofs.stepping.Rest.{LeavesRest, got, seen_known, slot_block}
use Rattle.pass_frames_steps.proofs.stepping.Same.{fields_kept, right_kept, slot_listed}
use Rattle.pass_frames_steps.proofs.stepping.Stored.{muted_is}
use Rattle.pass_frames_steps.proofs.ir_laws.paths.edges.Lists.{different_both}
use Rattle.pass_frames_steps.specs.ir_laws.paths.woven_rules.Pairs.{AreDifferent}
use Rattle.std.proofs.lemmas.List.{map-append}
use Rattle.pass_frames_steps.specs.Framings.{IsFraming}
use Rattle.pass_frames_steps.specs.Places.{Framing, offsets}
use Rattle.pass_frames_steps.specs.Related.{AreBuiltOf, AreInstances, AreMates, Building, IsAhead, IsFreeOf, IsSlotBy, IsUnplacedSlot, instance_in, is_coroutine, is_slot, slots_below}
use Rattle.pass_frames_steps.specs.Returning.{IsAmong, OwnsSlots}
use Rattle.pass_frames_steps.specs.pass_proofs.addresses.rules.Addresses.{lies_in_frame}
use Rattle.pass_frames_steps.specs.run_framed.Framed.{frame_rights}
use Rattle.pass_frames_steps.specs.run_laws.access.Lines.{Holds}
use Rattle.pass_frames_steps.specs.run_laws.embedded.Making.{whole_home}
use Rattle.pass_frames_steps.specs.run_laws.memory.Pointers.{Home, home_of}
use Rattle.pass_frames_steps.specs.run_laws.transfer.Muted.{ended_if, muted}
use Rattle.pass_frames_steps.specs.run_laws.transfer.Places.{AreStanding}
use Rattle.pass_frames_steps.specs.run_laws.transfer.Transfer.{AreOver}
use Rattle.pass_frames_steps.specs.run_memory.Memory.{Rights, is_live, killed_block, owner_rights}
use Rattle.pass_frames_steps.specs.run_memory.declared.block.Byte.{Byte}
use Rattle.pass_frames_steps.specs.run_memory.declared.block.MemoryBlock.{MemoryBlock}
use Rattle.pass_frames_steps.specs.run_source.declared.state.Activation.{Activation}
use Rattle.pass_frames_steps.specs.run_source.declared.state.Instance.{Instance}
use Rattle.pass_frames_steps.specs.run_source.declared.state.State.{State}
use Rattle.pass_frames_steps.specs.run_step.Step.{without_slots}
use Rattle.pass_frames_steps.specs.run_step.declared.world.Slot.{Slot}
use Rattle.pass_frames_steps.specs.run_step.declared.world.World.{World}

-- no pointer is about into a slot that isn't in its frame yet
pub unplaced_unseen : (x : Framing) (homes : List Home) (hides : ℕ → Bool) (c : Activation) (slot : Slot)
    → ((n : ℕ) → hides n ≡ true → (home_of homes n).is_seen ≡ false) → IsUnplacedSlot x homes hides c slot
    → (home_of homes slot.block).is_seen ≡ false
unplaced_unseen x homes hides c slot hidden (inl h) = hidden slot.block h.0
unplaced_unseen x homes hides c slot hidden (inr k) = ap (λ (q : Home). q.is_seen) k.5

module _ (b : Building) (s t : State) (r : AreBuiltOf b s t)
    (framings : (func : ℕ) → is_coroutine b func ≡ true → IsFraming (b.framing func)) (owns : OwnsSlots b s t r) where
  abbrev R : Rights
  R = frame_rights b.given t.instances

  abbrev pub w : World
  w = record s.world { memory = without_slots s.world.memory s.top.slots }

  abbrev pub u : World
  u = record t.world { memory = without_slots t.world.memory t.top.slots }

  -- ---- the memories

  empty : (slot : Slot) → Contains t.top.slots slot → (n : ℕ) (x : MemoryBlock)
      → slice_get (muted r.hides w.memory) n ≡ Some x → is_live x.life ≡ true → (home_of r.homes n).block ≡ slot.block
      → ⊥
  empty slot c n x e live at =
      let k = living r.hides s.top.slots s.world.memory n x e live in k.0 (owns.live slot c n x k.1 live at)

  standing : AreStanding owner_rights R r.homes (muted r.hides w.memory) u.memory
  standing =
      both_die b.given t.instances r.homes r.hides s.world.memory s.top.slots t.top.slots t.world.memory empty
      (record { memory = r.world.memory; nulls = r.world.nulls; bounds = r.world.bounds })

  pub over : AreOver owner_rights R r.homes r.hides (λ d. d) w u
  over = record {
    memory = standing.memory;
    nulls = standing.nulls;
    bounds = standing.bounds;
    events = r.world.events;
    answers = r.world.answers;
    allocs = r.world.allocs;
  }

  -- ---- blocks that stay

  kept : (e : ℕ) → (IsAmong e t.top.slots → ⊥) → (o most : ℕ) (bytes : List Byte)
      → Holds R t.world.memory e o most bytes → Holds R u.memory e o most bytes
  kept e none o most bytes h = record {
    block = h.block;
    there = kept_there t.top.slots t.world.memory e none ∙ h.there;
    live = h.live;
    writable = h.writable;
    whole = h.whole;
    within = h.within;
    holds = h.holds;
    unclosed = h.unclosed;
    aligned = h.aligned;
  }

  -- slots of activations below
  below_stays : (c : Activation) (slot : Slot) → IsListed c t.below → Contains c.slots slot
      → IsAmong slot.block t.top.slots → ⊥
  below_stays c slot l e among =
      different_both (map (λ (z : Slot). z.block) t.top.slots) (map (λ (z : Slot). z.block) (slots_below t.below))
      slot.block
      (subst AreDifferent (map-append (λ (z : Slot). z.block) t.top.slots (slots_below t.below)) r.once) among
      (slot_listed t.below c slot l e)

  -- frames
  frame_stays : (k : ℕ) (x y : Instance) → slice_get s.instances k ≡ Some x → AreInstances b r.homes t x y
      → IsAmong y.block t.top.slots → ⊥
  frame_stays k x y e h among =
      let slot = slot_among y.block t.top.slots among in
      let seen : (home_of r.homes x.block).is_seen ≡ true = ap (λ (q : Home). q.is_seen) h.block in
      let lt : x.block < length r.homes = seen_known r.homes x.block seen in
      let known : length r.homes ≡ length s.world.memory = r.known in
      owns.frames k x e
      (owns.whole slot.0 slot.1 x.block (omega (arith, lt, known)) (h.block ∙ ap whole_home (sym slot.2)))

  own_frame : (i : Option ℕ) (y : Instance) → instance_in t.instances i ≡ Some y → IsAmong y.block t.top.slots → ⊥
  own_frame None y e = absurd (cc)
  own_frame (Some i) y e =
      let lt : i < length t.instances = get_within t.instances i y e in
      let same : length t.instances ≡ length s.instances = r.count in
      let x = got s.instances i (omega (arith, lt, same)) in
      frame_stays i x.0 y x.1 (r.instances i x.0 y x.1 e)

  -- ---- blocks that stand alone

  -- a slot of the source that dies has a slot of the target for its home, if it has a block of its own
  mate_dies : (n k : ℕ) → IsAmong n s.top.slots → home_of r.homes n ≡ whole_home k → IsAmong k t.top.slots
  mate_dies n k among home =
      let z = slot_among n s.top.slots among in
      by z.0 z.2
      (is_coroutine b s.top.func && lies_in_frame (offsets (b.framing s.top.func)) z.0.alloca) (r.top.slots z.0 z.1)
    where
      by : (slot : Slot) → slot.block ≡ n → (f : Bool) → IsSlotBy b r.homes r.hides s.top t.top slot f
          → IsAmong k t.top.slots
      by slot e true q =
          let no : false ≡ true =
          sym (unplaced_unseen (b.framing s.top.func) r.homes r.hides t.top slot r.hidden q)
          ∙ ap (λ (h : Home). h.is_seen) (ap (home_of r.homes) e ∙ home) in
          absurd (cc)
      by slot e false q =
          let both : whole_home q.block ≡ whole_home k = sym q.home ∙ ap (home_of r.homes) e ∙ home in
          let same : q.block ≡ k = ap (λ (h : Home). h.block) both in
          subst (λ (j : ℕ). IsAmong j t.top.slots) same
          (slot_block t.top.slots (record { alloca = slot.alloca; block = q.block }) q.own)

  mates_kept : AreMates r.homes w.memory u.memory
  mates_kept = record {
    whole = λ n x e no_slot.
        let z = was_there s.top.slots s.world.memory n x e in
        r.mates.whole n z.block z.there
        (⊎_elim (λ k. ap (λ (q : MemoryBlock). is_slot q) (sym k.1)) (λ k. ap (λ (q : MemoryBlock). is_slot q) (sym k.1))
        z.is ∙ no_slot);
    each = λ n k x e home. each_there n k x home (was_there s.top.slots s.world.memory n x e);
    alone = λ n m k lt lt'.
        r.mates.alone n m k (subst (λ (z : ℕ). n < z) long lt) (subst (λ (z : ℕ). m < z) long lt');
  }
    where
      long : length w.memory ≡ length s.world.memory
      long = without_length s.top.slots s.world.memory

      each_there : (n k : ℕ) (x : MemoryBlock) → home_of r.homes n ≡ whole_home k
          → WasThere s.top.slots s.world.memory n x
          → (bytes : List Byte) × (slice_get u.memory k ≡ Some (record x { bytes = bytes }))
      each_there n k x home z = on z.is
        where
          mate : (bytes : List Byte) × (slice_get t.world.memory k ≡ Some (record z.block { bytes = bytes }))
          mate = r.mates.each n k z.block z.there home

          lt : n < length s.world.memory
          lt = get_within s.world.memory n z.block z.there

          on : (IsAmong n s.top.slots × (x ≡ killed_block z.block))
              ⊎ ((IsAmong n s.top.slots → ⊥) × (x ≡ z.block))
              → (bytes : List Byte) × (slice_get u.memory k ≡ Some (record x { bytes = bytes }))
          on (inl q) = (
            [],
            dead_there t.top.slots t.world.memory k (record z.block { bytes = mate.0 }) (mate_dies n k q.0 home) mate.1
                ∙ ap (λ (p : MemoryBlock). Some (record p { bytes = [] })) (sym q.1),
          )
          on (inr q) = (
            mate.0,
            kept_there t.top.slots t.world.memory k
                (λ among. let slot = slot_among k t.top.slots among in
                q.0 (owns.whole slot.0 slot.1 n lt (home ∙ ap whole_home (sym slot.2))))
                ∙ mate.1 ∙ ap (λ (p : MemoryBlock). Some (record p { bytes = mate.0 })) (sym q.1),
          )

  -- ---- what is free stays free

  free_kept : (block : ℕ) → IsFreeOf r.homes r.hides s.world.memory block → IsFreeOf r.homes r.hides w.memory block
  free_kept block free n x e about = by about
    where
      by : ((home_of r.homes n).is_seen ≡ true) ⊎ (is_live x.life ≡ true) → (home_of r.homes n).block ≡ block → ⊥
      by (inr live) = free n x (living r.hides s.top.slots s.world.memory n x e live).1 (inr live)
      by (inl seen) = on (slice_get w.memory n) refl (sym (muted_is r.hides w.memory n) ∙ e)
        where
          on : (o : Option MemoryBlock) → slice_get w.memory n ≡ o → option_map (ended_if (r.hides n)) o ≡ Some x
              → (home_of r.homes n).block ≡ block → ⊥
          on None d f = absurd (cc)
          on (Some z) d f =
              let q = was_there s.top.slots s.world.memory n z d in
              free n (ended_if (r.hides n) q.block)
              (muted_is r.hides s.world.memory n ∙ ap (option_map (ended_if (r.hides n))) q.there) (inl seen)

  ahead_kept : (x : Framing) (c : Activation) (v align : ℕ) (ty : Ty) → IsListed c t.below
      → IsAhead x r.homes r.hides s.world.memory t.world.memory c v ty align
      → IsAhead x r.homes r.hides w.memory u.memory c v ty align
  ahead_kept x c v align ty l k = record {
    block = k.block;
    address = k.address;
    own = k.own;
    free = free_kept k.block k.free;
    bytes = k.bytes;
    sized = k.sized;
    there = kept_there t.top.slots t.world.memory k.block
        (below_stays c (record { alloca = v; block = k.block }) l k.own) ∙ k.there;
  }

  pub died : LeavesRest b s t r w u
  died = record {
    framings = framings;
    cells = λ c l is slot e name o most bytes. kept slot.block (below_stays c slot l e) o most bytes;
    fields = λ i x y e h p env is j number live.
        right_kept R t.world.memory u.memory y.block (kept y.block (frame_stays i x y e h)) (b.framing x.coroutine)
        r.homes j env y.start;
    returned = λ a c y j l is own from.
        fields_kept R t.world.memory u.memory y.block (kept y.block (own_frame c.instance y own)) (b.framing a.func)
        r.homes j a.values y.start a.mode;
    mates = mates_kept;
    free = free_kept;
    ahead = ahead_kept;
    known = without_length s.top.slots s.world.memory;
  }
