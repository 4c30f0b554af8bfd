-- Addresses of frames stand for each other.
use Rattle.std.proofs.Common.{◌≡◌, ◌<◌, ◌≤◌, ◌+◌, ◌^◌, ℕ, zero, suc, true, List, [], ◌∷◌, length, refl, sym, ap, ◌∙◌, subst, arith}
use Rattle.std.specs.Prelude.{None, Option, Some, option_and_then, option_map, slice_get}
use Rattle.pass_elide_proof.specs.Elision.{Elision}
use Rattle.pass_elide_proof.specs.Match.{AreElided, AreInstances}
use Rattle.pass_proofs.proofs.ir_laws.facts.Lists.{get_within}
use Rattle.pass_proofs.proofs.run_laws.memory.Homes.{seen_within}
use Rattle.pass_proofs.proofs.run_laws.memory.Loads.{moved_bits}
use Rattle.pass_proofs.proofs.run_laws.transfer.Muted.{muted_length}
use Rattle.pass_proofs.specs.run_laws.memory.Pointers.{Home, IsValue, home_of}
use Rattle.pass_proofs.specs.run_laws.transfer.Muted.{muted}
use Rattle.pass_proofs.specs.run_memory.Pointers.{moved, offset_of}
use Rattle.pass_proofs.specs.run_memory.declared.block.MemoryBlock.{MemoryBlock}
use Rattle.pass_proofs.specs.run_memory.declared.pointer.Pointer.{Pointer}
use Rattle.pass_proofs.specs.run_memory.declared.pointer.Value.{Value}
use Rattle.pass_proofs.specs.run_source.Source.{frame_address}
use Rattle.pass_proofs.specs.run_source.State.{frame_address_of, numbered, own_instance}
use Rattle.pass_proofs.specs.run_source.declared.state.Instance.{Instance}
use Rattle.pass_proofs.specs.run_source.declared.state.State.{State}

pub got_at : {A : Type 0} (xs : List A) (n : ℕ) → n < length xs → (x : A) × (slice_get xs n ≡ Some x)
got_at [] n lt = absurd (omega (arith, lt))
got_at (x ∷ xs) zero lt = (x, refl)
got_at (x ∷ xs) (suc n) lt = got_at xs n (omega (arith, lt))

-- an offset that is moved from the start is that far
pub moved_from_start : (n : ℕ) → n < 2 ^ 64 → moved (offset_of 0) n ≡ offset_of n
moved_from_start n lt =
    let same : n + 0 ≡ n = omega arith in
    λ i. record { bits = (moved_bits 0 n (omega (arith, lt)) ∙ same) i }

module _ (e : Elision) (s t : State) (r : AreElided e s t) where
  abbrev b : List MemoryBlock
  b = muted r.hides s.world.memory

  module _ (x y : Instance) (h : AreInstances e r.homes t.world.memory x y) where
    pub home_seen : (home_of r.homes x.block).is_seen ≡ true
    home_seen = ap (λ (q : Home). q.is_seen) h.home

    pub block_within : x.block < length s.world.memory
    block_within =
        let lt = seen_within r.homes x.block home_seen in
        let same = r.known in
        omega (arith, lt, same)

    pub start_small : y.start < 2 ^ 64
    start_small =
        let within = block_within in
        let long = muted_length r.hides s.world.memory in
        let z = got_at b x.block (omega (arith, within, long)) in
        let h' = r.world.bounds.each x.block z.0 home_seen z.1 in
        let at : (home_of r.homes x.block).offset ≡ y.start = ap (λ (q : Home). q.offset) h.home in
        small (home_of r.homes x.block).offset z.0.size h'.block.size y.start at h'.fits h'.small
      where
        small : (o n k y : ℕ) → o ≡ y → o + n ≤ k → k < 2 ^ 64 → y < 2 ^ 64
        small o n k y same le lt = omega (arith, same, le, lt)

    pub address_stands : IsValue r.homes (frame_address_of x) (frame_address_of y)
    address_stands = (
      home_seen,
      sym ((λ i. Value.Ptr (Pointer.At (h.home i).block (moved (offset_of (h.whole i)) (h.home i).offset)))
          ∙ ap (λ o. Value.Ptr (Pointer.At y.block o)) (moved_from_start y.start start_small)),
    )

  -- there are as many instances in both
  pub twin_of : (i : ℕ) (x : Instance) → slice_get s.instances i ≡ Some x
      → (y : Instance) × (slice_get t.instances i ≡ Some y)
  twin_of i x is =
      let lt = get_within s.instances i x is in
      let same = r.count in
      got_at t.instances i (omega (arith, lt, same))

  pub twin_back : (i : ℕ) (y : Instance) → slice_get t.instances i ≡ Some y
      → (x : Instance) × (slice_get s.instances i ≡ Some x)
  twin_back i y is =
      let lt = get_within t.instances i y is in
      let same = r.count in
      got_at s.instances i (omega (arith, lt, same))

  -- the frame of the topmost activation's instance
  pub own_frames_stand : IsValue r.homes (frame_address (own_instance s)) (frame_address (own_instance t))
  own_frames_stand =
      subst (λ (o : Option ℕ). IsValue r.homes (frame_address (own_instance s))
      (frame_address (option_and_then (numbered t.instances) o))) (sym r.top.instance) (by s.top.instance)
    where
      at : (i : ℕ) (o q : Option Instance) → slice_get s.instances i ≡ o → slice_get t.instances i ≡ q
          → IsValue r.homes (frame_address (option_map (λ x. (i, x)) o)) (frame_address (option_map (λ x. (i, x)) q))
      at i None q eo eq = tt
      at i (Some x) None eo eq = absurd (none (twin_of i x eo) eq)
        where
          never_so : (o : Option Instance) (y : Instance) → o ≡ Some y → o ≡ None → ⊥
          never_so None y f g = absurd (cc)
          never_so (Some z) y f g = absurd (cc)

          none : (y : Instance) × (slice_get t.instances i ≡ Some y) → slice_get t.instances i ≡ None → ⊥
          none y f = never_so (slice_get t.instances i) y.0 y.1 f
      at i (Some x) (Some y) eo eq = address_stands x y (r.instances i x y eo eq)

      by : (o : Option ℕ) → IsValue r.homes (frame_address (option_and_then (numbered s.instances) o))
          (frame_address (option_and_then (numbered t.instances) o))
      by None = tt
      by (Some i) = at i (slice_get s.instances i) (slice_get t.instances i) refl refl
