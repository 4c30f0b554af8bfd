-- The empty text.
use Rattle.std.proofs.Common.{[], refl}
use Rattle.text_grammar.specs.Items.{module_of}
use Rattle.text_grammar.specs.Text.{StandsFor}

pub empty_text : StandsFor [] (module_of [])
empty_text = record { whole = refl; items = []; are = refl; kept = refl }
