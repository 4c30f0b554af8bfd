use Rattle.std.proofs.Common.{◌∙◌, ap, List}
use Rattle.run_memory.specs.Memory.{owned_to, with_block}
use Rattle.run_memory.specs.declared.block.MemoryBlock.{MemoryBlock}
use Rattle.run_source.specs.SourceEffects.{given_of}
use Rattle.run_source.specs.State.{gives, with_memory}
use Rattle.run_source.specs.declared.state.State.{State}
use Rattle.run_source.proofs.frames.begin_at.Goals as goal

pub returns-clause-done : goal.returns-clause-done
returns-clause-done c =
    c.give.ensures
    ∙ ap (λ (m : List MemoryBlock). gives (with_memory c.start_at.new.state m) c.args.result_name c.args.mem) c.own_at.ensures
    ∙ ap (λ (s : State). gives (with_memory s (with_block s.world.memory c.args.block (owned_to c.args.size))) c.args.result_name c.args.mem) c.in_ok-start_at.ensures.done
