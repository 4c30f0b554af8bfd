-- Agreement of whole runs by their steps: what is asked of each pair of states to which the runs come, and how long the
-- second run waits.
use Rattle.std.specs.Prelude.{◌≡◌, ◌+◌, ◌-◌, ℕ, Bool, true, false, List, [], ◌∷◌, length, is_some, ◌||◌, if◌then◌else◌}
use Rattle.pass_elide_proof.specs.EdgesFreeing.{FreesFrame}
use Rattle.pass_elide_proof.specs.Elision.{Elision, Shape, elided, framed, function_in}
use Rattle.pass_elide_proof.specs.Match.{AreElided}
use Rattle.pass_elide_proof.specs.Places.{instrs_of}
use Rattle.pass_elide_proof.specs.Shapes.{AsksForFrame}
use Rattle.pass_elide_proof.specs.Statement.{AreRelated, elided_run, framed_run}
use Rattle.pass_elide_proof.specs.Stepping.{IsKnownStep, steps_of}
use Rattle.pass_proofs.specs.ir_base.declared.outcome.Outcome.{Outcome}
use Rattle.pass_proofs.specs.ir_base.declared.outcome.Word.{Word}
use Rattle.pass_proofs.specs.ir_model.declared.module.Block.{Block}
use Rattle.pass_proofs.specs.ir_model.declared.module.Function.{Function}
use Rattle.pass_proofs.specs.run_agreement.Machines.{IsFine, iterate, state_at}
use Rattle.pass_proofs.specs.run_framed.Framed.{framed_step}
use Rattle.pass_proofs.specs.run_source.declared.state.State.{State}

-- ---- states to which the runs come

abbrev pub framed_after : Elision → ℕ → List Word → ℕ → State
framed_after e entry args n = state_at (framed_run e entry args) n

abbrev pub elided_after : Elision → ℕ → List Word → ℕ → State
elided_after e entry args n = state_at (elided_run e entry args) n

-- A relation that implies the one of the simulation holds at the start. From states of which it holds each step that
-- isn't undefined is of a known kind, if the state passes. Behind it the relation holds again, if the states stand
-- beside each other.
pub record KnowsSteps (e : Elision) (entry : ℕ) (args : List Word) (passes : State → Bool)
    (Keeps : State → State → Type 0) : Type 0 where
  pub related : (n m : ℕ) → Keeps (framed_after e entry args n) (elided_after e entry args m)
      → AreRelated e (framed_after e entry args n) (elided_after e entry args m)
  pub start : Keeps (framed_after e entry args 0) (elided_after e entry args 0)
  pub known : (n m : ℕ) (k : Keeps (framed_after e entry args n) (elided_after e entry args m))
      → (framed_after e entry args n).outcome ≡ Outcome.Running → passes (framed_after e entry args n) ≡ true
      → IsFine (framed_step (framed e) (framed_after e entry args n)).outcome
      → IsKnownStep e (framed_after e entry args n) (elided_after e entry args m) (related n m k).beside
  pub kept : (n m : ℕ) (k : Keeps (framed_after e entry args n) (elided_after e entry args m))
      → (framed_after e entry args n).outcome ≡ Outcome.Running → passes (framed_after e entry args n) ≡ true
      → IsFine (framed_step (framed e) (framed_after e entry args n)).outcome
      → (place : IsKnownStep e (framed_after e entry args n) (elided_after e entry args m) (related n m k).beside)
      → AreElided e (framed_step (framed e) (framed_after e entry args n)) (iterate (framed_step (elided e))
      (steps_of e (framed_after e entry args n) (elided_after e entry args m) (related n m k).beside place)
      (elided_after e entry args m))
      → Keeps (framed_step (framed e) (framed_after e entry args n)) (iterate (framed_step (elided e))
      (steps_of e (framed_after e entry args n) (elided_after e entry args m) (related n m k).beside place)
      (elided_after e entry args m))

-- ---- how long the second run waits

-- it may wait while the first is in the block
abbrev pub waits_in : Shape → ℕ → Bool
waits_in x block = is_some (x.waits block) || is_some (x.frees block)

abbrev pub instrs_total : List Block → ℕ
instrs_total [] = 0
instrs_total (b ∷ bs) = length b.instrs + instrs_total bs

-- what is left of a block in which it may wait; elsewhere more than each block has
abbrev pub waiting_left : Elision → State → ℕ
waiting_left e s =
    if waits_in (e.shape s.top.func) s.top.block
    then length (instrs_of (function_in e s.top.func) s.top.block) - s.top.at
    else 1 + instrs_total (function_in e s.top.func).blocks

-- where a frame is asked for, and where what is to be freed is tested, it doesn't wait yet
pub record WaitsBehind (f : Function) (x : Shape) : Type 0 where
  pub asks : (k : AsksForFrame f x) → waits_in x k.asks ≡ false
  pub tests : (k : FreesFrame f x) → waits_in x k.tests ≡ false
