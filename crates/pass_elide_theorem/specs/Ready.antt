-- What is asked of a module whose calls are elided.
use Rattle.std.specs.Prelude.{◌≡◌, ◌<◌, ◌^◌, ℕ, length, slice_get, Some}
use Rattle.elide_sites.specs.Destroyed.{FreesWhenDestroyed}
use Rattle.pass_elide_apart.specs.Rets.{EndsBeforeRets, HasOneEnd}
use Rattle.pass_elide_apart.specs.pass_elide_edges.Keeping.{EntersAlone, KeepsEnds}
use Rattle.pass_elide_apart.specs.pass_elide_proof.Assembling.{WaitsBehind}
use Rattle.pass_elide_apart.specs.pass_elide_proof.Elision.{Elision, function_in}
use Rattle.pass_elide_apart.specs.pass_elide_proof.Placing.{HasShape, KeepsPlaces}
use Rattle.pass_elide_apart.specs.pass_elide_proof.Releasing.{FreesAtOnce}
use Rattle.pass_elide_apart.specs.pass_elide_proof.Statement.{IsElisionOf}
use Rattle.pass_elide_kept.specs.Modules.{KeepsHandlesAndEnds}
use Rattle.pass_elide_meaning.specs.pass_elide_known.Keeping.{KeepsMore}
use Rattle.pass_elide_apart.specs.pass_elide_runs.Keeps.{KeepsRuns}
use Rattle.pass_elide_apart.specs.pass_proofs.ir_model.declared.module.Module.{Module}
use Rattle.pass_elide_apart.specs.pass_proofs.run_laws.memory.Standing.{Embeds, own_homes}
use Rattle.pass_elide_apart.specs.pass_proofs.run_memory.Memory.{owner_rights}
use Rattle.pass_elide_apart.specs.pass_proofs.run_memory.declared.block.MemoryBlock.{MemoryBlock}
use Rattle.pass_elide_apart.specs.pass_proofs.run_step.Step.{first_world}

-- A coroutine that may be given its frame frees it when it is destroyed, right behind its coro.free. It has one end.
pub record FreesItsFrame (e : Elision) (func : ℕ) : Type 0 where
  pub at_once : FreesAtOnce (function_in e func) (e.shape func)
  pub destroyed : FreesWhenDestroyed (function_in e func)
  pub ends : HasOneEnd (function_in e func)

-- globals stand in themselves, and have small sizes
pub record KeepsGlobals (e : Elision) : Type 0 where
  pub stands : Embeds owner_rights owner_rights (own_homes 0 (length (first_world e.code).memory))
      (first_world e.code).memory (first_world e.code).memory
  pub small : (b : ℕ) (x : MemoryBlock) → slice_get (first_world e.code).memory b ≡ Some x → x.size < 2 ^ 64

pub record IsElisionReady (e : Elision) (source : Module) (most : ℕ) : Type 0 where
  -- what the framed module keeps: at instructions, at ends of blocks, and in each state of its runs
  pub places : KeepsPlaces e
  pub more : KeepsMore e
  pub ends : KeepsEnds e
  pub alone : (func : ℕ) → EntersAlone (function_in e func) (e.shape func)
  pub runs : KeepsRuns e
  pub handles : KeepsHandlesAndEnds e
  pub globals : KeepsGlobals e
  -- K5: suspends stand behind begin, and behind begin no ret stands without the end before it
  pub returns : (func : ℕ) → EndsBeforeRets (function_in e func)
  -- callees
  pub frees : (func : ℕ) → HasShape e func → FreesItsFrame e func
  -- the sites are those of the source
  pub sites : IsElisionOf e source most
  pub waits : (func : ℕ) → WaitsBehind (function_in e func) (e.shape func)
