-- What is carried through both runs, and the statements of one call of an entry.
use Rattle.std.specs.Prelude.{◌≡◌, ◌+◌, ◌≤◌, ℕ, Bool, true, false, List, slice_get, Some}
use Rattle.pass_elide_apart.specs.pass_elide_edges.States.{AllStandApart}
use Rattle.pass_elide_apart.specs.pass_elide_proof.Assembling.{elided_after}
use Rattle.pass_elide_apart.specs.pass_elide_proof.Counts.{uncounted}
use Rattle.pass_elide_apart.specs.pass_elide_proof.Elision.{Elision}
use Rattle.pass_elide_apart.specs.pass_elide_proof.Invariant.{begins_heap, lives_in}
use Rattle.pass_elide_apart.specs.pass_elide_proof.Statement.{AreRelatedOrOver, elided_run}
use Rattle.pass_elide_kept.specs.Kept.{AreKept}
use Rattle.pass_elide_theorem.specs.Exact.{exact_run}
use Rattle.pass_elide_apart.specs.pass_proofs.ir_base.declared.outcome.Word.{Word}
use Rattle.pass_elide_apart.specs.pass_proofs.run_agreement.Agreements.{Follows}
use Rattle.pass_elide_apart.specs.pass_proofs.run_agreement.Costs.{AgreesBy, IsNear}
use Rattle.pass_elide_apart.specs.pass_proofs.run_agreement.Machines.{at}
use Rattle.pass_elide_apart.specs.pass_proofs.run_source.State.{is_finished}
use Rattle.pass_elide_apart.specs.pass_proofs.run_source.declared.state.Instance.{Instance}
use Rattle.pass_elide_apart.specs.pass_proofs.run_source.declared.state.State.{State}

-- The states are related and handles are kept. Activations are in blocks of their own only as the relation says.
pub record AreCarried (e : Elision) (s t : State) : Type 0 where
  pub kept : AreKept e s t
  pub apart : AllStandApart e s t

-- ---- the statements, of one call of an entry

-- The exact run agrees with the one that gives frames, by prices of at most one step and one for each site of a
-- function.
abbrev pub AgreesWithElided : Elision → (ℕ → Bool) → ℕ → ℕ → List Word → Type 0
AgreesWithElided e callees most entry args =
    AgreesBy (AreRelatedOrOver e) (IsNear (elided_run e entry args) (1 + most) (AreRelatedOrOver e))
    (uncounted (exact_run e callees entry args)) (λ s. 1 + most) (uncounted (elided_run e entry args)) (λ t. 1)

-- The block of each frame that isn't in an allocator's block lives while its instance isn't Finished.
abbrev pub DoFramesLive : State → Type 0
DoFramesLive t =
    (i : ℕ) (x : Instance) → slice_get t.instances i ≡ Some x → begins_heap t.world.memory x ≡ false
    → is_finished x.status ≡ false → lives_in (slice_get t.world.memory x.block) ≡ true

-- the run that gives frames follows the first steps of the exact run; up to there frames live
pub record FollowsLive (e : Elision) (callees : ℕ → Bool) (entry : ℕ) (args : List Word) (n : ℕ) : Type 0 where
  pub steps : ℕ
  pub follows : Follows (at (uncounted (exact_run e callees entry args)) n) (at (uncounted (elided_run e entry args)) steps)
  pub live : (m : ℕ) → m ≤ steps → DoFramesLive (elided_after e entry args m)
