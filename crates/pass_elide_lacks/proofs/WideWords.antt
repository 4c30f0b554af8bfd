-- Behind an allocation of 2^64 bytes no two states are related.
use Rattle.std.proofs.Common.{◌≡◌, inl, inr, ◌+◌, ◌^◌, ◌≤◌, ℕ, Bool, true, false, List, [], ◌∷◌, refl, arith}
use Rattle.pass_elide_lacks.specs.Wide.{AllWordsKeepStates, the_wide_elision}
use Rattle.pass_elide_meaning.specs.pass_elide_edges.pass_elide_proof.Counts.{uncounted}
use Rattle.pass_elide_meaning.specs.pass_elide_edges.pass_elide_proof.Elision.{differs_in, no_shape}
use Rattle.pass_elide_meaning.specs.pass_elide_edges.pass_elide_proof.Match.{is_given_mode, sides, was_given}
use Rattle.pass_elide_meaning.specs.pass_elide_edges.pass_elide_proof.Statement.{AreRelated, AreRelatedOrOver, elided_run, framed_run}
use Rattle.pass_elide_meaning.specs.pass_elide_edges.pass_elide_proof.pass_proofs.ir_base.declared.outcome.Word.{Word}
use Rattle.pass_elide_meaning.specs.pass_elide_edges.pass_elide_proof.pass_proofs.run_agreement.Costs.{AgreesBy, IsNear}
use Rattle.pass_elide_meaning.specs.pass_elide_edges.pass_elide_proof.pass_proofs.run_agreement.Machines.{state_at}
use Rattle.pass_elide_meaning.specs.pass_elide_edges.pass_elide_proof.pass_proofs.run_laws.memory.Pointers.{home_of}
use Rattle.pass_elide_meaning.specs.pass_elide_edges.pass_elide_proof.pass_proofs.run_laws.memory.Standing.{HasBounds, blank_block}
use Rattle.pass_elide_meaning.specs.pass_elide_edges.pass_elide_proof.pass_proofs.run_laws.transfer.Muted.{ended_if}
use Rattle.pass_elide_meaning.specs.pass_elide_edges.pass_elide_proof.pass_proofs.run_memory.declared.block.Kind.{Kind}
use Rattle.pass_elide_meaning.specs.pass_elide_edges.pass_elide_proof.pass_proofs.run_memory.declared.block.MemoryBlock.{MemoryBlock}
use Rattle.pass_elide_meaning.specs.pass_elide_edges.pass_elide_proof.pass_proofs.run_source.declared.state.State.{State}

none_differs : (ramp given : Bool) (v : ℕ) → differs_in no_shape ramp given v ≡ false
none_differs true true v = refl
none_differs true false v = refl
none_differs false true v = refl
none_differs false false v = refl

module _ (n : ℕ) (large : 2 ^ 64 ≤ n) where
  abbrev words : List Word
  words = record { width = 64; bits = n } ∷ []

  -- the framed run has allocated
  abbrev s : State
  s = state_at (framed_run the_wide_elision 0 words) 1

  abbrev block : MemoryBlock
  block = blank_block n 16 Kind.Allocator

  as_large : (b : Bool) → (ended_if b block).size ≡ n
  as_large true = refl
  as_large false = refl

  no_relation : (t : State) → AreRelated the_wide_elision s t → ⊥
  no_relation t r =
      let v = r.beside.top.values.each 2
      (none_differs (is_given_mode t.top.mode) (was_given (sides s t) t.top) 2) in
      let b : HasBounds t.world.memory (home_of r.beside.homes 0) (ended_if (r.beside.hides 0) block).size
      = r.beside.world.bounds.each 0 (ended_if (r.beside.hides 0) block) v.0 refl in
      let fits = b.fits in
      let small = b.small in
      let size = as_large (r.beside.hides 0) in
      absurd (omega (arith, fits, small, size, large))

  no_agreement : (most : ℕ) → AgreesBy (AreRelatedOrOver the_wide_elision)
      (IsNear (elided_run the_wide_elision 0 words) (1 + most) (AreRelatedOrOver the_wide_elision))
      (uncounted (framed_run the_wide_elision 0 words)) (λ s. 1 + most)
      (uncounted (elided_run the_wide_elision 0 words)) (λ t. 1) → ⊥
  no_agreement most h =
      let reached = h.forward 1 tt in
      by (state_at (uncounted (elided_run the_wide_elision 0 words)) reached.steps) reached.related
    where
      by : (t : State) → AreRelatedOrOver the_wide_elision s t → ⊥
      by t (inl r) = no_relation t r
      by t (inr over) = over.returned

pub no_states : (most : ℕ) → AllWordsKeepStates the_wide_elision most → ⊥
no_states most claim = no_agreement (2 ^ 64) (omega arith) most (claim 0 (words (2 ^ 64) (omega arith)) refl)
