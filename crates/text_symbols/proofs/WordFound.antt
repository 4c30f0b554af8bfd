-- The word that is looked up.
use Rattle.std.proofs.Common.{◌≡◌, ℕ, List, Option, None, ap, ◌∙◌}
use Rattle.std.specs.Prelude.{Some, unwrap_or}
use Rattle.text_symbols.specs.declared.word.Word.{Word}
use Rattle.text_symbols.specs.Words.{word_in, the_words, plain_word, word_of}

pub found : (s : List ℕ) (w : Word) → Some w ≡ word_in the_words s → w ≡ word_of s
unfolding word_of
found s w e = ap (λ (o : Option Word). unwrap_or o (plain_word s)) e

pub other : (s : List ℕ) (w : Word) → None ≡ word_in the_words s → w ≡ plain_word s → w ≡ word_of s
unfolding word_of
other s w e p = p ∙ ap (λ (o : Option Word). unwrap_or o (plain_word s)) e
