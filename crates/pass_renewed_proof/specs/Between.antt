-- What holds between all states of two runs, of which the second makes slots anew.
use Rattle.std.specs.Prelude.{ℕ, List, [], ◌∷◌, length, Some, Option, ◌≡◌}
use Rattle.std.specs.List.{Contains}
use Rattle.pass_kept_proof.specs.Kept.{Keep, continue_keeping}
use Rattle.pass_renewed_proof.specs.Renewed.{RenewedGiven}
use Rattle.pass_kept_proof.specs.run_agreement.Machines.{IsFine}
use Rattle.run_laws.specs.access.Accessed.{accessed}
use Rattle.run_laws.specs.memory.Pointers.{Home, home_of}
use Rattle.run_laws.specs.transfer.Shapes.{Pairwise}
use Rattle.pass_kept_proof.specs.run_source.Source.{context_of, step_by}
use Rattle.pass_kept_proof.specs.run_source.State.{function_of, work_of}
use Rattle.pass_kept_proof.specs.run_source.declared.state.Activation.{Activation}
use Rattle.pass_kept_proof.specs.run_source.declared.state.Instance.{Instance}
use Rattle.pass_kept_proof.specs.run_source.declared.state.State.{State}
use Rattle.pass_kept_proof.specs.run_source.declared.state.Status.{Status}
use Rattle.pass_kept_proof.specs.run_source_tables.Given.{Given}
use Rattle.pass_kept_proof.specs.run_step.Step.{fetch}

-- ---- instances and activations, one to one

-- the status without the values that are kept
abbrev pub bare : Status → Status
bare Status.Running = Status.Running
bare (Status.Suspended s values) = Status.Suspended s []
bare Status.Finished = Status.Finished

pub record AreLikeInstances (x y : Instance) : Type 0 where
  pub coroutine : y.coroutine ≡ x.coroutine
  pub start : y.start ≡ x.start
  pub status : bare y.status ≡ bare x.status
  pub last_save : y.last_save ≡ x.last_save
  pub released : y.released ≡ x.released
  pub freed : y.freed ≡ x.freed

pub record AreLikeActivations (a b : Activation) : Type 0 where
  pub func : b.func ≡ a.func
  pub result : b.result ≡ a.result
  pub instance : b.instance ≡ a.instance
  pub has_left : b.has_left ≡ a.has_left

-- ---- what the second's next step accesses

-- a block in which one stands that the first's next step accesses, one that the topmost activation has made anew, or a
-- new one
pub data IsTouched (homes : List Home) (owners : ℕ → Option ℕ) (sources : List ℕ) (depth count c : ℕ) : Type 0 where
  Stands : (b : ℕ) → Contains sources b → (home_of homes b).block ≡ c → IsTouched homes owners sources depth count c
  Own : owners c ≡ Some depth → IsTouched homes owners sources depth count c
  New : c ≡ count → IsTouched homes owners sources depth count c

abbrev pub accessed_by : Given → State → List ℕ
accessed_by g s = accessed (context_of g s) (work_of s) (fetch (function_of g s) s.top.block s.top.at)

-- ---- states

pub record IsBetween (g : Given) (keep : Keep) (h : RenewedGiven) (s t : State) : Type 0 where
  pub homes : List Home
  pub owners : ℕ → Option ℕ
  pub instances : Pairwise AreLikeInstances s.instances t.instances
  pub activations : Pairwise AreLikeActivations (s.top ∷ s.below) (t.top ∷ t.below)
  pub touches : IsFine (step_by g (continue_keeping g keep) s).outcome → (c : ℕ) → Contains (accessed_by h.given t) c
      → IsTouched homes owners (accessed_by g s) (length t.below) (length t.world.memory) c
