-- Instances that are found in both runs.
use Rattle.std.specs.Prelude.{ℕ, List, Some, None, Option, ◌≡◌}
use Rattle.pass_kept_proof.specs.ir_model.declared.module.Module.{Module}
use Rattle.pass_kept_proof.specs.run_memory.declared.block.MemoryBlock.{MemoryBlock}
use Rattle.pass_kept_proof.specs.run_source.Source.{Sleeper}
use Rattle.pass_kept_proof.specs.run_source.declared.state.Instance.{Instance}
use Rattle.pass_kept_proof.specs.run_source.declared.state.Status.{Status}
use Rattle.pass_renewed_proof.specs.Beside.{AreKeptBeside, IsInstanceBeside}
use Rattle.pass_renewed_proof.specs.Ledger.{Ledger}
use Rattle.pass_renewed_proof.specs.Renewed.{Flags, Roots}

-- none in either, or those of one number, which are beside each other
abbrev pub AreFound : Module → Flags → Roots → Ledger → List MemoryBlock → Option (ℕ × Instance)
    → Option (ℕ × Instance) → Type 0
AreFound m flags roots l memory None q = q ≡ None
AreFound m flags roots l memory (Some p) q =
    (y : Instance) × (q ≡ Some (p.0, y)) × IsInstanceBeside m flags roots l memory p.0 p.1 y

-- a suspended instance in both runs: of one number, at one suspend, with values that stand for one another
pub record IsSleeperBeside (m : Module) (flags : Flags) (roots : Roots) (l : Ledger) (memory : List MemoryBlock) (y z :
    Sleeper) : Type 0 where
  pub number : z.number ≡ y.number
  pub suspend : z.suspend ≡ y.suspend
  pub status : y.instance.status ≡ Status.Suspended y.suspend y.values
  pub instance : IsInstanceBeside m flags roots l memory y.number y.instance z.instance
  pub kept : AreKeptBeside m flags roots l memory y.instance y.suspend y.values z.values
