use Rattle.std.proofs.Common.{subst, sym}
use Rattle.frame_classes.specs.Ways.{LeadToBlocks}
use Rattle.frame_classes.proofs.Passing.{chunk_edges, shape_of_starts}
use Rattle.frame_classes.proofs.frame.suspend_rows.Goals as goal

pub coming_rows-requires-clause-shape : goal.coming_rows-requires-clause-shape
coming_rows-requires-clause-shape c = shape_of_starts c.args.function.now c.args.chunk.now c.requires.chunk

pub coming_rows-requires-clause-edges : goal.coming_rows-requires-clause-edges
coming_rows-requires-clause-edges c = subst (LeadToBlocks c.args.function.now) (sym c.as_slice-edges.ensures) (chunk_edges c.args.function.now c.args.chunk.now c.requires.chunk)
