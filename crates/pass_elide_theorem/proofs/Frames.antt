-- A frame that is given lives while its instance isn't Finished, where both runs stand beside each other.
use Rattle.std.proofs.Common.{◌≡◌, ◌∙◌, ℕ, Bool, true, false, List, [], ◌∷◌, ap, refl, sym, ◌&&◌, ◌==◌}
use Rattle.std.specs.Option.{option_map_or}
use Rattle.std.specs.Prelude.{Option, Some, slice_get}
use Rattle.pass_elide_apart.specs.pass_elide_edges.States.{EndsFramed}
use Rattle.pass_elide_apart.proofs.pass_elide_proof.Addresses.{twin_back}
use Rattle.pass_elide_apart.proofs.pass_elide_proof.Facts.{not_both}
use Rattle.pass_elide_apart.specs.pass_elide_proof.Elision.{Elision}
use Rattle.pass_elide_apart.specs.pass_elide_proof.Invariant.{IsCalledIn, begins_heap, lives_in}
use Rattle.pass_elide_apart.specs.pass_elide_proof.Match.{AreElided, AreInstances, IsNoGivenFrame, sides}
use Rattle.pass_elide_apart.specs.pass_elide_proof.Statement.{AreRelated}
use Rattle.pass_elide_theorem.specs.Carried.{DoFramesLive}
use Rattle.pass_elide_apart.specs.pass_proofs.run_framed.Framed.{is_given}
use Rattle.pass_elide_apart.specs.pass_proofs.run_laws.memory.Pointers.{Home, home_of}
use Rattle.pass_elide_apart.specs.pass_proofs.run_memory.Memory.{same_kind}
use Rattle.pass_elide_apart.specs.pass_proofs.run_memory.declared.block.Kind.{Kind}
use Rattle.pass_elide_apart.specs.pass_proofs.run_memory.declared.block.MemoryBlock.{MemoryBlock}
use Rattle.pass_elide_apart.specs.pass_proofs.run_source.declared.state.Activation.{Activation}
use Rattle.pass_elide_apart.specs.pass_proofs.run_source.declared.state.Instance.{Instance}
use Rattle.pass_elide_apart.specs.pass_proofs.run_source.declared.state.State.{State}

-- the alloca of the caller lives
lives_of : (e : Elision) (memory : List MemoryBlock) (y : Instance) (number : ℕ) (above rows : List Activation)
    → IsCalledIn e memory y number above rows → lives_in (slice_get memory y.block) ≡ true
lives_of e memory y number _ _ (IsCalledIn.Here c above below k) = ap lives_in k.lives.1 ∙ k.lives.2
lives_of e memory y number _ _ (IsCalledIn.Below c above below k) = lives_of e memory y number (c ∷ above) below k

same_instance : (x y : Instance) → Some x ≡ Some y → x ≡ y
same_instance x y h = cc

module _ (e : Elision) (s t : State) (beside : AreElided e s t) (known : EndsFramed e s) where
  -- a frame that wasn't given begins an allocator's block in both runs
  module _ (i : ℕ) (x y : Instance) (first : slice_get s.instances i ≡ Some x)
      (second : slice_get t.instances i ≡ Some y) (none : is_given t.world.memory y ≡ false) where
    q : AreInstances e beside.homes t.world.memory x y
    q = beside.instances i x y first second

    shown : beside.hides x.block ≡ false
    shown = by (beside.hides x.block) refl
      where
        by : (h : Bool) → beside.hides x.block ≡ h → beside.hides x.block ≡ false
        by false is = is
        by true is =
            absurd (not_both (home_of beside.homes x.block).is_seen (ap (λ (h : Home). h.is_seen) q.home)
            (beside.hidden x.block is))

    own : IsNoGivenFrame (sides s t) x.block
    own j p v at to given same =
        let one : j ≡ i = known.slotted.slotted.apart j i p x at first same in
        let two : v ≡ y = same_instance v y (sym to ∙ (ap (slice_get t.instances) one ∙ second)) in
        not_both (is_given t.world.memory y) (ap (is_given t.world.memory) (sym two) ∙ given) none

    heap : begins_heap t.world.memory y ≡ true
    heap =
        let b = known.slotted.slotted.frames i x first in
        let mate = beside.mates.each x.block b.block b.there shown own in
        let place : y.block ≡ mate.0 = ap (λ (h : Home). h.block) (sym q.home ∙ mate.2) in
        let start : y.start ≡ 0 = ap (λ (h : Home). h.offset) (sym q.home ∙ mate.2) in
        (λ j. option_map_or (λ (z : MemoryBlock). same_kind z.kind Kind.Allocator)
        (slice_get t.world.memory (place j)) false && (start j == 0))
        ∙ (ap (λ (o : Option MemoryBlock). option_map_or (λ (z : MemoryBlock). same_kind z.kind Kind.Allocator) o false
        && (0 == 0)) mate.3
        ∙ ap (λ (k : Kind). same_kind k Kind.Allocator && (0 == 0)) b.heap)

  -- so any other was given
  pub given_or_heap : (i : ℕ) (y : Instance) → slice_get t.instances i ≡ Some y
      → begins_heap t.world.memory y ≡ false → is_given t.world.memory y ≡ true
  given_or_heap i y there on_heap = by (is_given t.world.memory y) refl
    where
      by : (given : Bool) → is_given t.world.memory y ≡ given → is_given t.world.memory y ≡ true
      by true given = given
      by false given =
          let x = twin_back e s t beside i y there in
          absurd (not_both (begins_heap t.world.memory y) (heap i x.0 y x.1 there given) on_heap)

module _ (e : Elision) (s t : State) (r : AreRelated e s t) (known : EndsFramed e s) where
  pub frames_live : DoFramesLive t
  frames_live i y there on_heap going =
      lives_of e t.world.memory y i [] (t.top ∷ t.below)
      (r.callers.each i y there (given_or_heap e s t r.beside known i y there on_heap) going)
