-- Which texts are read, printed and read again as the same module.
use Rattle.std.specs.Prelude.{◌≡◌, ℕ, Bool, true, List}
use Rattle.text_grammar.specs.Text.{StandsFor}
use Rattle.ir_model.specs.declared.module.Module.{Module}
use Rattle.text_canonical.specs.grammar.Bytes.{AreBytes}

-- the text stands for some module
pub record StandsForOne (text : List ℕ) : Type 0 where
  pub stood : Module
  pub stands : StandsFor text stood

-- the answer is true where a text of bytes stands for the module
abbrev pub IsPrintedAgain : Module → Bool → Type 0
IsPrintedAgain m answer = (text : List ℕ) → AreBytes text → StandsFor text m → answer ≡ true

-- the answer is true of no text but those that stand for a module, and of each such text of bytes
pub record IsReadAgain (text : List ℕ) (answer : Bool) : Type 0 where
  pub sound : answer ≡ true → StandsForOne text
  pub complete : AreBytes text → StandsForOne text → answer ≡ true
