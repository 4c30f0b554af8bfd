use Rattle.std.proofs.Common.{◌≡◌, drop}
use Rattle.frame_crossing.specs.Words.{params_word}
use Rattle.frame_crossing.proofs.text.params_word.Given as goal

abbrev pub invariant-loop-param : goal.invariant-loop-param
invariant-loop-param l = params_word l.numbers l.chunk l.word (drop l.param-index l.params) ≡ params_word l.numbers l.chunk 0 l.params
