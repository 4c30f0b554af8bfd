use Rattle.std.proofs.Common.{◌≡◌, drop}
use Rattle.frame_slots.specs.Words.{phis_word}
use Rattle.frame_slots.proofs.escaped.phis_word.Given as goal

abbrev pub invariant-loop-phi : goal.invariant-loop-phi
invariant-loop-phi l = phis_word l.words l.word (drop l.phi-index l.phis) ≡ phis_word l.words l.first l.phis
