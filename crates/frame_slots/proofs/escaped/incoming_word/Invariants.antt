use Rattle.std.proofs.Common.{◌≡◌, drop}
use Rattle.frame_slots.specs.Words.{incoming_word}
use Rattle.frame_slots.proofs.escaped.incoming_word.Given as goal

abbrev pub invariant-loop-one : goal.invariant-loop-one
invariant-loop-one l = incoming_word l.words l.word (drop l.one-index l.incoming) ≡ incoming_word l.words l.first l.incoming
