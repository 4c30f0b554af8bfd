-- Reading a whole text.
use Rattle.std.specs.Prelude.{ℕ, Bool, true, false, List, [], ◌∷◌, if◌then◌else◌, ◌&&◌}
use Rattle.text_parser.specs.Items.{items_at}
use Rattle.text_parser.specs.Known.{nothing}
use Rattle.text_parser.specs.declared.items.Draft.{Draft}
use Rattle.text_parser.specs.declared.known.Known.{Known}
use Rattle.text_parser.specs.declared.text.Parsed.{Parsed}
use Rattle.text_parser.specs.declared.text.Parsed.TheVariants as parsed
use Rattle.text_symbols.specs.Listing.{symbols_of}
use Rattle.text_symbols.specs.declared.listing.Symbols.{Symbols}
use Rattle.text_symbols.specs.declared.sym.Sym.{Sym}

abbrev pub is_none : List Sym → Bool
is_none [] = true
is_none (t ∷ ts) = false

-- what the items tell about those that come before them
abbrev pub known_by : Draft → Known
known_by d = record { types = d.parts.types; groups = d.groups }

-- the module that symbols are, read with what its own items tell
abbrev pub module_at : Draft → List Sym → Parsed
module_at first ts = parsed.Module (items_at (known_by first) ts).0.parts

-- nothing is left, of symbols that are all of the text
abbrev pub is_all : List Sym → Bool → Bool
is_all rest whole = is_none rest && whole

abbrev pub answer : Draft → Bool → List Sym → Parsed
answer first all ts = if all then module_at first ts else parsed.Syntax first.count

abbrev pub read_symbols : Symbols → Parsed
read_symbols s = answer (items_at nothing s.symbols).0 (is_all (items_at nothing s.symbols).1 s.whole) s.symbols

-- the module that a text stands for, or with how many whole items it begins
unfoldable pub read_module : List ℕ → Parsed
read_module text = read_symbols (symbols_of text)
