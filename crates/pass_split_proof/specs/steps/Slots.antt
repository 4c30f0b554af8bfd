-- Blocks that both runs make: those of allocas, and of allocators.
use Rattle.std.specs.Prelude.{ℕ, Bool, List, Option, length, if◌then◌else◌}
use Rattle.pass_proofs.specs.run_memory.Memory.{end, fresh}
use Rattle.pass_proofs.specs.run_memory.declared.block.Kind.{Kind}
use Rattle.pass_proofs.specs.run_memory.declared.block.MemoryBlock.{MemoryBlock}
use Rattle.pass_proofs.specs.run_step.Step.{Work}
use Rattle.pass_proofs.specs.run_step.Values.{pointer_to, with_result}

-- a memory with one block more, which starts dead where it has markers
abbrev pub slot_memory : List MemoryBlock → ℕ → ℕ → Kind → Bool → List MemoryBlock
slot_memory m size align kind marked = if marked then end (fresh m size align kind) (length m) else fresh m size
    align kind

-- a work with it, its address and a count of allocator calls
abbrev pub with_made : Work → Option ℕ → ℕ → ℕ → Kind → Bool → ℕ → Work
with_made w result size align kind marked count =
    record {
      world = record w.world { memory = slot_memory w.world.memory size align kind marked; allocs = count };
      values = with_result w.values result (pointer_to (length w.world.memory));
    }
