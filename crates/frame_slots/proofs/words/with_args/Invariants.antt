use Rattle.std.proofs.Common.{◌≡◌, drop}
use Rattle.frame_slots.specs.Words.{with_args}
use Rattle.frame_slots.proofs.words.with_args.Given as goal

abbrev pub invariant-loop-arg : goal.invariant-loop-arg
invariant-loop-arg l = with_args l.words l.word (drop l.arg-index l.args) ≡ with_args l.words l.first l.args
