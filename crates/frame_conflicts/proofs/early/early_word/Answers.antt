use Rattle.frame_conflicts.proofs.Earliness.{early_made}
use Rattle.frame_conflicts.proofs.early.early_word.Goals as goal

pub returns : goal.returns
returns c = early_made c.args.function.now c.args.slots.now c.in_ok-words.words.items c.as_slice-names.result.now c.args.before.now c.args.uses.now c.as_slice-blocks.result.now c.in_ok-edges.edges c.as_slice-on_edges.result.now c.in_ok-early.early c.early_edges-word.result
    c.in_ok-words.ensures c.requires.before c.requires.uses c.as_slice-names.ensures.value c.in_ok-edges.ensures c.as_slice-blocks.ensures c.in_ok-early.ensures c.as_slice-on_edges.ensures c.early_edges-word.ensures
