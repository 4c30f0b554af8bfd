-- Arguments one by one.
use Rattle.std.proofs.Common.{◌≡◌, List, [], ◌∷◌, ◌++◌, Option, Some, None, ap, refl, sym, append_assoc, append-nil}
use Rattle.ir_base.specs.declared.outcome.Word.{Word}
use Rattle.cli_entries.specs.Entries.{with_word}

-- words, and others behind them where there are some
abbrev pub with_words : List Word → Option (List Word) → Option (List Word)
with_words words None = None
with_words words (Some others) = Some (words ++ others)

pub with_more : (words : List Word) (w : Word) (others : Option (List Word)) → with_words words (with_word (Some w) others) ≡ with_words (words ++ w ∷ []) others
with_more words w None = refl
with_more words w (Some others) = sym (ap (λ (l : List Word). Some l) (append_assoc words (w ∷ []) others))

pub with_none_left : (words : List Word) → with_words words (Some []) ≡ Some words
with_none_left words = ap (λ (l : List Word). Some l) (append-nil words)
