-- The canonical text of a module that a text stands for stands for it.
use Rattle.std.proofs.Common.{◌≡◌, ℕ, List, [], sym, ap, subst}
use Rattle.ir_model.specs.declared.module.Module.{Module}
use Rattle.text_symbols.specs.Listing.{symbols_of}
use Rattle.text_symbols.specs.declared.listing.Symbols.{Symbols}
use Rattle.text_symbols.specs.declared.sym.Sym.{Sym}
use Rattle.text_canonical.specs.canonical.Items.{module_text}
use Rattle.text_canonical.specs.canonical.ItemSymbols.{IsPrintable}
use Rattle.text_canonical.proofs.canonical.ItemsLexed.{module_lexed}
use Rattle.text_grammar.specs.Items.{AreItems}
use Rattle.text_grammar.specs.Text.{StandsFor}
use Rattle.text_canonical.specs.grammar.Bytes.{AreBytes}
use Rattle.text_canonical.specs.grammar.ReadBack.{IsReadBack}
use Rattle.text_canonical.proofs.grammar.Items.{IsPrinted, items_kept, items_of, printed_items}
use Rattle.text_canonical.proofs.grammar.Sound.{text_symbols_sound}

pub printed : (text : List ℕ) (m : Module) → AreBytes text → StandsFor text m → IsPrinted m
printed text m bytes h = subst IsPrinted (sym h.kept) (printed_items h.items (symbols_of text).symbols h.are (text_symbols_sound text bytes))

stands : (m : Module) → IsPrinted m → StandsFor (module_text m) m
stands m p =
    let lexed = module_lexed m p.printable in
    record {
      whole = ap (λ (s : Symbols). s.whole) lexed;
      items = items_of m;
      are = subst (λ (l : List Sym). AreItems (items_of m) l []) (sym (ap (λ (s : Symbols). s.symbols) lexed)) p.are;
      kept = sym (items_kept m);
    }

pub stands_again : (text : List ℕ) (m : Module) → AreBytes text → StandsFor text m → StandsFor (module_text m) m
stands_again text m bytes h = stands m (printed text m bytes h)

pub is_printable : (text : List ℕ) (m : Module) → AreBytes text → StandsFor text m → IsPrintable m
is_printable text m bytes h = (printed text m bytes h).printable

pub read_back : (printed : List ℕ) (m : Module) → printed ≡ module_text m → IsReadBack printed m
read_back printed m e = subst (λ (l : List ℕ). IsReadBack l m) (sym e) (record { stands = λ text bytes h. stands_again text m bytes h; lexed = λ p. module_lexed m p })
