use Rattle.compiler_theorem.proofs.calls.Kept.{split_frees, split_keeps, split_signs}
use Rattle.compiler_theorem.proofs.calls.split_functions.Goals as goal

pub returns-clause-free : goal.returns-clause-free
returns-clause-free c = split_frees c.args.layouts.now c.args.framed.now c.split.result c.split.ensures

pub returns-clause-signatures : goal.returns-clause-signatures
returns-clause-signatures c = split_signs c.args.layouts.now c.args.framed.now c.split.result c.split.ensures

pub returns-clause-meaning : goal.returns-clause-meaning
returns-clause-meaning c = split_keeps c.args.layouts.now c.args.framed.now c.split.result c.split.ensures
