use Rattle.frame_classes.proofs.Passing.{shape_of_starts}
use Rattle.frame_classes.proofs.frame.across_word.Goals as goal

pub behind_rows-requires-clause-shape : goal.behind_rows-requires-clause-shape
behind_rows-requires-clause-shape c = shape_of_starts c.args.function.now c.args.chunk.now c.requires.chunk
