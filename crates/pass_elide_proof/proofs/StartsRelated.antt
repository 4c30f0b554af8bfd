-- Where both runs start nothing has begun, so all that is related besides holds.
use Rattle.std.proofs.Common.{◌≡◌, ◌<◌, ℕ, List, false, length}
use Rattle.std.specs.Prelude.{◌^◌, Some, slice_get}
use Rattle.pass_elide_proof.proofs.CallersLinks.{links_first}
use Rattle.pass_elide_proof.proofs.PlacingStarts.{first_passed}
use Rattle.pass_elide_proof.proofs.Starts.{starts}
use Rattle.pass_elide_proof.specs.Elision.{Elision, elided_code, function_in}
use Rattle.pass_elide_proof.specs.Statement.{AreRelated}
use Rattle.pass_proofs.specs.ir_base.declared.outcome.Word.{Word}
use Rattle.pass_proofs.specs.run_laws.memory.Standing.{Embeds, own_homes}
use Rattle.pass_proofs.specs.run_memory.Memory.{owner_rights}
use Rattle.pass_proofs.specs.run_memory.declared.block.MemoryBlock.{MemoryBlock}
use Rattle.pass_proofs.specs.run_source.Source.{first_state}
use Rattle.pass_proofs.specs.run_step.Step.{first_world}

pub starts_related : (e : Elision) (entry : ℕ) (args : List Word) → (function_in e entry).coroutine ≡ false
    → Embeds owner_rights owner_rights (own_homes 0 (length (first_world e.code).memory)) (first_world e.code).memory
    (first_world e.code).memory
    → ((b : ℕ) (x : MemoryBlock) → slice_get (first_world e.code).memory b ≡ Some x → x.size < 2 ^ 64)
    → AreRelated e (first_state e.code entry args) (first_state (elided_code e) entry args)
starts_related e entry args plain stands small = record {
  beside = starts e entry args plain stands small;
  callers = record {
    each = λ number y there given going. absurd (cc);
    last = λ number later y z there after lt given began. absurd (cc);
    ramps = λ frame is. absurd (cc);
  };
  freed = λ number x y there after given over. absurd (cc);
  renewed = λ number block offset x y c there after stands none mode same start. absurd (cc);
  passed = first_passed e entry args;
  called = links_first e (elided_code e) entry args;
}
