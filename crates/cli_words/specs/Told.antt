-- What the answers say of the words.
use Rattle.std.specs.Prelude.{◌≡◌, Bool, true, false, List, [], ◌∷◌, ◌&&◌}
use Rattle.std.specs.List.{list_any}
use Rattle.clap.specs.Words.{Kinds, Text, fault_of}
use Rattle.clap.specs.declared.error.kind.ErrorKind.{ErrorKind}
use Rattle.cli_words.specs.App.{the_app}
use Rattle.cli_words.specs.Asked.{asked, asks_help}
use Rattle.cli_words.specs.declared.answer.Taken.{Taken}
use Rattle.cli_words.specs.declared.words.Reading.{Reading}

-- help alone is answered
abbrev pub is_help : Kinds → Bool
is_help (ErrorKind.DisplayHelp ∷ []) = true
is_help _ = false

-- All that clap finds is that help is asked for, and one of the words asks for it.
abbrev pub wants_help : List Text → Bool
wants_help words = is_help (fault_of the_app words) && list_any asks_help words

-- The answer is what the words ask for. Help comes only where one of them asks for it, and always where that is all that
-- clap finds.
abbrev pub Tells : Taken → List Text → Type 0
Tells (Taken.Words w) words = asked words ≡ Reading.Read w
Tells (Taken.BadList w) words = asked words ≡ Reading.BadList w
Tells (Taken.Usage text) words = (asked words ≡ Reading.Refused) × (wants_help words ≡ false)
Tells (Taken.Help text) words = (asked words ≡ Reading.Refused) × (list_any asks_help words ≡ true)
