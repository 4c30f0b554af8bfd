-- Turns of the loop over the items.
use Rattle.std.proofs.Common.{◌≡◌, ◌<◌, ◌≤◌, List, length, None, refl, sym, ap, ◌∙◌}
use Rattle.std.specs.Prelude.{Some}
use Rattle.text_lexer.specs.Lists.{all_at}
use Rattle.text_lexer.proofs.ListSteps.{all_at-some, all_at-none, all_at-stuck}
use Rattle.text_parser.specs.Items.{item_at, no_items, with_item, gathered, items_at}
use Rattle.text_parser.specs.declared.items.Draft.{Draft}
use Rattle.text_parser.specs.declared.items.Item.{Item}
use Rattle.text_parser.specs.declared.known.Known.{Known}
use Rattle.text_symbols.specs.declared.sym.Sym.{Sym}

-- on from a draft
abbrev pub from : Draft → List Item × List Sym → Draft × List Sym
from d r = (gathered d r.0, r.1)

pub items_begun : (known : Known) (ts : List Sym) → items_at known ts ≡ from no_items (all_at (item_at known) ts)
unfolding items_at
items_begun known ts = refl

pub items_turn : (known : Known) (whole : Draft × List Sym) (d e : Draft) (ts rest : List Sym) (i : Item) → whole ≡ from d (all_at (item_at known) ts) → item_at known ts ≡ Some (i, rest) → length rest < length ts → e ≡ with_item d i → whole ≡ from e (all_at (item_at known) rest)
items_turn known whole d e ts rest i inv read less added =
    inv ∙ ap (from d) (all_at-some (item_at known) ts i rest read less) ∙ ap (λ (x : Draft). from x (all_at (item_at known) rest)) (sym added)

pub items_end : (known : Known) (whole : Draft × List Sym) (d : Draft) (ts : List Sym) → whole ≡ from d (all_at (item_at known) ts) → item_at known ts ≡ None → whole ≡ (d, ts)
items_end known whole d ts inv e = inv ∙ ap (from d) (all_at-none (item_at known) ts e)

pub items_stuck : (known : Known) (whole : Draft × List Sym) (d : Draft) (ts rest : List Sym) (i : Item) → whole ≡ from d (all_at (item_at known) ts) → item_at known ts ≡ Some (i, rest) → length ts ≤ length rest → whole ≡ (d, ts)
items_stuck known whole d ts rest i inv e more = inv ∙ ap (from d) (all_at-stuck (item_at known) ts i rest e more)
