use Rattle.std.proofs.Common.{◌≡◌, map, take}
use Rattle.run_memory.specs.declared.pointer.Value.{Value}
use Rattle.run_source.proofs.starting.values_of_words.Given as goal

abbrev pub invariant-loop-word : goal.invariant-loop-word
invariant-loop-word l = l.all ≡ map Value.Int (take l.word-index l.words)
