-- The framed run, which is undefined too where a running state doesn't pass a test.
use Rattle.std.specs.Prelude.{◌+◌, ℕ, Bool, List, if◌then◌else◌}
use Rattle.pass_elide_proof.specs.Counts.{LosesCalls, uncounted}
use Rattle.pass_elide_proof.specs.Elision.{Elision, framed}
use Rattle.pass_elide_proof.specs.Statement.{AreRelatedOrOver, IsEntryCall, elided_run, framed_run}
use Rattle.pass_proofs.specs.ir_base.declared.cause.Cause.{Cause}
use Rattle.pass_proofs.specs.ir_base.declared.outcome.Outcome.{Outcome}
use Rattle.pass_proofs.specs.ir_base.declared.outcome.Word.{Word}
use Rattle.pass_proofs.specs.run_agreement.Costs.{AgreesBy, IsNear}
use Rattle.pass_proofs.specs.run_agreement.Machines.{Machine}
use Rattle.pass_proofs.specs.run_framed.Framed.{framed_step}
use Rattle.pass_proofs.specs.run_source.State.{undefined}
use Rattle.pass_proofs.specs.run_source.declared.state.State.{State}

-- a state that is over stays as it is
abbrev pub failed_by : Elision → State → Outcome → State
failed_by e s Outcome.Running = undefined (framed e).given s Cause.Begin
failed_by e s (Outcome.Returned v) = s
failed_by e s (Outcome.Undefined cause place) = s

-- a step from a state that passes, which is undefined from others
abbrev pub checked_step : Elision → (State → Bool) → State → State
checked_step e passes s = if passes s then framed_step (framed e) s else failed_by e s s.outcome

abbrev pub checked_run : Elision → (State → Bool) → ℕ → List Word → Machine State
checked_run e passes entry args = record (framed_run e entry args) { step = checked_step e passes }

-- ---- the statements

-- The checked run agrees with the run that gives frames, by prices of at most one step and one for each site of a
-- function.
abbrev pub ElisionKeepsStates : Elision → (State → Bool) → ℕ → Type 0
ElisionKeepsStates e passes most =
    (entry : ℕ) (args : List Word) → IsEntryCall e entry args
    → AgreesBy (AreRelatedOrOver e) (IsNear (elided_run e entry args) (1 + most) (AreRelatedOrOver e))
    (uncounted (checked_run e passes entry args)) (λ s. 1 + most) (uncounted (elided_run e entry args)) (λ t. 1)

-- The second makes fewer allocator calls by the calls that it executes without allocation.
abbrev pub ElisionLosesCalls : Elision → (State → Bool) → Type 0
ElisionLosesCalls e passes =
    (entry : ℕ) (args : List Word) → IsEntryCall e entry args
    → LosesCalls (checked_run e passes entry args) (elided_run e entry args)
