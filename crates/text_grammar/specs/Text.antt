-- Which module a text stands for, and with how many items a text begins.
use Rattle.std.specs.Prelude.{◌≡◌, ◌≤◌, ℕ, true, List, [], length}
use Rattle.ir_model.specs.declared.module.Module.{Module}
use Rattle.text_symbols.specs.Listing.{symbols_of}
use Rattle.text_symbols.specs.declared.sym.Sym.{Sym}
use Rattle.text_grammar.specs.Items.{Item, module_of, AreItems}

-- The text stands for the module: its tokens are all of it and are items, of which the module's are the kept parts.
pub record StandsFor (text : List ℕ) (m : Module) : Type 0 where
  pub whole : (symbols_of text).whole ≡ true
  pub items : List Item
  pub are : AreItems items (symbols_of text).symbols []
  pub kept : m ≡ module_of items

-- The text begins with this many whole items, and with no more.
pub record BeginsWith (text : List ℕ) (count : ℕ) : Type 0 where
  pub items : List Item
  pub rest : List Sym
  pub are : AreItems items (symbols_of text).symbols rest
  pub many : length items ≡ count
  pub most : (more : List Item) (left : List Sym) → AreItems more (symbols_of text).symbols left → length more ≤ count
