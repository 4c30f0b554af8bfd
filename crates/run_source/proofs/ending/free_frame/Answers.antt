use Rattle.std.proofs.Common.{◌∙◌, ap, sym, List}
use Rattle.std.proofs.lemmas.Bool.{eq-eqb}
use Rattle.run_memory.specs.Memory.{disown, killed}
use Rattle.run_memory.specs.declared.block.MemoryBlock.{MemoryBlock}
use Rattle.std.specs.Prelude.{Ok}
use Rattle.run_source.proofs.Freeing.{freed, let-go-done, let-go-refused, refused-killed, refused-slot}
use Rattle.run_source.proofs.ending.free_frame.Goals as goal

pub returns-then-not-is_allocated-clause-refused : goal.returns-then-not-is_allocated-clause-refused
returns-then-not-is_allocated-clause-refused c = λ x got at.
    let s = c.args.state.now in
    let y = c.in-Some.instance.now in
    let-go-refused s c.args.i x y c.args.block c.args.offset got c.in-Some.ensures at
    (refused-killed s.world.memory y.slots c.args.block c.args.offset (sym c.is_allocated.ensures ∙ c.if-not-is_allocated.true))

pub returns-then-has_block-clause-refused : goal.returns-then-has_block-clause-refused
returns-then-has_block-clause-refused c = λ x got at.
    let s = c.args.state.now in
    let y = c.in-Some.instance.now in
    let-go-refused s c.args.i x y c.args.block c.args.offset got c.in-Some.ensures at
    (refused-slot s.world.memory y.slots c.args.block c.args.offset (sym c.has_block.ensures ∙ c.if-has_block.true))

pub returns-clause-done : goal.returns-clause-done
returns-clause-done c = λ x got at.
    let s = c.args.state.now in
    let y = c.in-Some.instance.now in
    let b = c.args.block in
    let memory = ap (λ (m : List MemoryBlock). killed (disown m b) b) (sym c.kill_all.ensures) ∙ ap (λ (m : List MemoryBlock). killed m b) (sym c.disown.ensures) ∙ sym c.kill_at.ensures in
    let-go-done s c.args.i c.args.next x y b c.args.offset c.kill_at.new.self c.free.new.self got c.in-Some.ensures at
    (freed s.world.memory y.slots b c.args.offset (eq-eqb c.args.offset.bits 0 c.if-offset-ne0.false) (sym c.is_allocated.ensures ∙ c.if-not-is_allocated.false) (sym c.has_block.ensures ∙ c.if-has_block.false) ∙ ap Ok memory)
    (c.free.ensures x got) c.requires
