-- What is read of a printed module.
use Rattle.std.specs.Prelude.{◌≡◌, ℕ, true, List}
use Rattle.text_canonical.specs.canonical.ItemSymbols.{IsPrintable, module_symbols}
use Rattle.text_grammar.specs.Text.{StandsFor}
use Rattle.ir_model.specs.declared.module.Module.{Module}
use Rattle.text_symbols.specs.Listing.{symbols_of}
use Rattle.text_canonical.specs.grammar.Bytes.{AreBytes}

-- A text that is printed of a module is read as the same module.
pub record IsReadBack (printed : List ℕ) (m : Module) : Type 0 where
  -- where some text of bytes stands for the module, this one does too
  pub stands : (text : List ℕ) → AreBytes text → StandsFor text m → StandsFor printed m
  -- where the module's symbols can be written, its tokens say them, and are all of it
  pub lexed : IsPrintable m → symbols_of printed ≡ record { symbols = module_symbols m; whole = true }
