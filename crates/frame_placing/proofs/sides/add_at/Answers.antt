use Rattle.frame_placing.proofs.Grouping.{bars_there, put_at}
use Rattle.frame_placing.proofs.sides.add_at.Goals as goal

pub add_field-requires-clause-bars : goal.add_field-requires-clause-bars
add_field-requires-clause-bars c = bars_there (λ bars. bars.items) c.args.side.now.items c.args.group c.index_mut.result.now c.requires.within c.index_mut.ensures.value c.requires.bars

pub returns : goal.returns
returns c =
    put_at (λ bars. bars.items) c.args.side.now.items c.args.group c.index_mut.result.now c.add_field.new.bars _ c.requires.within c.index_mut.ensures.value c.requires.bars c.in_ok-add_field.ensures
