-- Where a step changes no more than what bytes hold, all that is said of blocks stays.
use Rattle.std.proofs.Common.{◌≡◌, ◌<◌, ℕ, Bool, true, false, not, List, length, Option, refl, sym, ap, ◌∙◌, subst, arith, ◌||◌, ◌==◌}
use Rattle.std.specs.Option.{option_map_or}
use Rattle.std.specs.Prelude.{None, Some, slice_get}
use Rattle.pass_elide_proof.proofs.Onward.{GoesOn, IsRoom, LivesIn, sides_with}
use Rattle.pass_elide_proof.specs.Match.{AreMates, IsNoGivenFrame, Sides}
use Rattle.pass_proofs.proofs.run_laws.access.Reading.{as_many}
use Rattle.pass_proofs.specs.run_framed.Framed.{is_given}
use Rattle.pass_proofs.specs.run_laws.access.Changed.{IsFull}
use Rattle.pass_proofs.specs.run_laws.embedded.Refilled.{AreRefilled, IsRefilled}
use Rattle.pass_proofs.specs.run_laws.memory.Pointers.{Home}
use Rattle.pass_proofs.specs.run_laws.memory.Standing.{blank_block}
use Rattle.pass_proofs.specs.run_memory.Memory.{bytes_in, is_live, same_kind}
use Rattle.pass_proofs.specs.run_memory.declared.block.Kind.{Kind}
use Rattle.pass_proofs.specs.run_memory.declared.block.MemoryBlock.{MemoryBlock}
use Rattle.pass_proofs.specs.run_source.declared.state.Instance.{Instance}

-- the block that a block was
record Was (o : Option MemoryBlock) (y : MemoryBlock) : Type 0 where
  block : MemoryBlock
  there : o ≡ Some block
  same : y ≡ record block { bytes = y.bytes }

was : (o now : Option MemoryBlock) (y : MemoryBlock) → IsRefilled o now → now ≡ Some y → Was o y
was None None y h e = absurd (cc)
was None (Some z) y h e = absurd h
was (Some x) None y h e = absurd h
was (Some x) (Some z) y h e =
    let is : z ≡ y = cc in
    record { block = x; there = refl; same = subst (λ (u : MemoryBlock). u ≡ record x { bytes = u.bytes }) is h }

-- the block that it is now
record Became (now : Option MemoryBlock) (x : MemoryBlock) : Type 0 where
  block : MemoryBlock
  there : now ≡ Some block
  same : block ≡ record x { bytes = block.bytes }

became : (o now : Option MemoryBlock) (x : MemoryBlock) → IsRefilled o now → o ≡ Some x → Became now x
became None now x h e = absurd (cc)
became (Some z) None x h e = absurd h
became (Some z) (Some y) x h e =
    let is : z ≡ x = cc in
    record { block = y; there = refl; same = subst (λ (u : MemoryBlock). y ≡ record u { bytes = y.bytes }) is h }

stack_same : (o now : Option MemoryBlock) → IsRefilled o now
    → option_map_or (λ (x : MemoryBlock). same_kind x.kind Kind.Stack) now false
    ≡ option_map_or (λ (x : MemoryBlock). same_kind x.kind Kind.Stack) o false
stack_same None None h = refl
stack_same None (Some y) h = absurd h
stack_same (Some x) None h = absurd h
stack_same (Some x) (Some y) h = ap (λ (z : MemoryBlock). same_kind z.kind Kind.Stack) h

module _ (d : Sides) (memory other : List MemoryBlock) (homes : List Home) (hides : ℕ → Bool)
    (first : AreRefilled d.memory memory) (second : AreRefilled d.other other)
    (still : (b : ℕ) → hides b ≡ true → slice_get memory b ≡ slice_get d.memory b)
    (lengths : (b : ℕ) → IsFull d.other b
    → length (bytes_in (slice_get other b)) ≡ length (bytes_in (slice_get d.other b))) where
  abbrev k : Sides
  k = sides_with d memory other

  given : (y : Instance) → is_given other y ≡ is_given d.other y
  given y =
      ap (λ (t : Bool). t || not (y.start == 0))
      (stack_same (slice_get d.other y.block) (slice_get other y.block) (second.each y.block))

  no_frame : (n : ℕ) → IsNoGivenFrame k n → IsNoGivenFrame d n
  no_frame n h i x y at to g = h i x y at to (given y ∙ g)

  within : (n : ℕ) → n < length memory → n < length d.memory
  within n lt = let many = as_many d.memory memory first in omega (arith, lt, many)

  lives : (b : ℕ) → LivesIn d.other b → LivesIn other b
  lives b h =
      let z = became (slice_get d.other b) (slice_get other b) h.0 (second.each b) h.1 in
      (z.block, z.there, ap (λ (u : MemoryBlock). is_live u.life) z.same ∙ h.2)

  held : (b size : ℕ) → hides b ≡ true → slice_get d.memory b ≡ Some (blank_block size 16 Kind.Allocator)
      → (hides b ≡ true) × (slice_get memory b ≡ Some (blank_block size 16 Kind.Allocator))
  held b size h there = (h, still b h ∙ there)

  module _ (block size : ℕ) (room : IsRoom homes hides d block size) where
    now_there : Became (slice_get other block) room.there
    now_there = became (slice_get d.other block) (slice_get other block) room.there (second.each block) room.is_there

    is_full : IsFull d.other block
    is_full x at live =
        let at_both : Some room.there ≡ Some x = sym room.is_there ∙ at in
        let same : room.there ≡ x = cc in
        subst (λ (z : MemoryBlock). length z.bytes ≡ z.size) same (room.full ∙ sym room.sized)

    room_stays : IsRoom homes hides k block size
    room_stays = record {
      there = now_there.block;
      is_there = now_there.there;
      kind = ap (λ (u : MemoryBlock). u.kind) now_there.same ∙ room.kind;
      live = ap (λ (u : MemoryBlock). is_live u.life) now_there.same ∙ room.live;
      sized = ap (λ (u : MemoryBlock). u.size) now_there.same ∙ room.sized;
      full = ap (λ (o : Option MemoryBlock). length (bytes_in o)) (sym now_there.there)
          ∙ (lengths block is_full
          ∙ (ap (λ (o : Option MemoryBlock). length (bytes_in o)) room.is_there ∙ room.full));
      free = λ n lt calm none. room.free n (within n lt) calm (no_frame n none);
    }

  pub goes_on : GoesOn d memory other homes homes hides hides
  goes_on = record {
    extends = record { each = λ b seen. refl };
    given = λ i y at. given y;
    lives = λ i y at is h. lives y.block h;
    held = held;
    rooms = room_stays;
  }

  pub mates_stay : AreMates homes hides d → AreMates homes hides k
  mates_stay h = record {
    each = λ n x there calm none.
        let old = was (slice_get d.memory n) (slice_get memory n) x (first.each n) there in
        let mate = h.each n old.block old.there calm (no_frame n none) in
        let now = became (slice_get d.other mate.0) (slice_get other mate.0) (record old.block { bytes = mate.1 })
        (second.each mate.0) mate.3 in (
          mate.0,
          now.block.bytes,
          mate.2,
          now.there ∙ ap Some (now.same
              ∙ ap (λ (u : MemoryBlock). record u { bytes = now.block.bytes }) (sym old.same)),
        );
    alone = λ n m lt gt calm still free none same.
        h.alone n m (within n lt) (within m gt) calm still (no_frame n free) (no_frame m none) same;
  }
