use Rattle.std.proofs.Common.{◌≡◌, drop, map}
use Rattle.text_symbols.specs.Words.{word_in}
use Rattle.text_symbols.proofs.word.word_in.Given as goal

abbrev pub invariant-loop-spelling : goal.invariant-loop-spelling
invariant-loop-spelling l = word_in (map (λ e. (e.0.now, e.1)) l.table) l.text ≡ word_in (map (λ e. (e.0.now, e.1)) (drop l.spelling-index l.table)) l.text
