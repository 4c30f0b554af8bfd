-- Whole texts: reading is exactly the grammar.
use Rattle.std.proofs.Common.{◌≡◌, ◌≤◌, ◌+◌, ℕ, suc, Bool, true, false, ◌||◌, cond, List, [], ◌∷◌, ◌++◌, map, length, None, refl, sym, ap, subst, ◌∙◌, append_assoc, arith}
use Rattle.std.specs.Prelude.{Some, Result, Ok, Err, IfOk}
use Rattle.std.specs.List.{list_any}
use Rattle.text_lexer.specs.Lists.{all_at, front}
use Rattle.text_lexer.proofs.ListSteps.{all_at-some, all_at-none}
use Rattle.ir_model.specs.Names.{same_text}
use Rattle.ir_model.specs.declared.module.Declaration.{Declaration}
use Rattle.ir_model.specs.declared.module.Function.{Function}
use Rattle.ir_model.specs.declared.module.GlobalItem.{GlobalItem}
use Rattle.ir_model.specs.declared.module.Module.{Module}
use Rattle.ir_model.specs.declared.module.TypeItem.{TypeItem}
use Rattle.text_symbols.specs.Listing.{symbols_of}
use Rattle.text_symbols.specs.declared.listing.Symbols.{Symbols}
use Rattle.text_symbols.specs.declared.sym.Sym.{Sym}
use Rattle.text_grammar.specs.Attributes.{is_one_of}
use Rattle.text_grammar.specs.Items as grammar
use Rattle.text_grammar.specs.Items.{type_item, global_item, declaration, function, group, other, IsItem, types_of, globals_of, declarations_of, functions_of, groups_of, module_of, AreItems}
use Rattle.text_grammar.specs.Phrases.{each}
use Rattle.text_grammar.specs.Text.{StandsFor, BeginsWith}
use Rattle.text_reader.specs.Groups.{has_group, with_group}
use Rattle.text_reader.proofs.Follow.{EndsLine}
use Rattle.text_reader.proofs.ListsRead.{all_found}
use Rattle.text_reader.proofs.PlacesRead.{same_text-same}
use Rattle.text_parser.specs.Items as readers
use Rattle.text_parser.specs.Items.{item_at, items_at, no_items, with_item, gathered}
use Rattle.text_parser.specs.Known.{nothing}
use Rattle.text_parser.specs.Parse.{known_by, is_all, answer, read_module}
use Rattle.text_parser.specs.Reading.{IsReading}
use Rattle.text_parser.specs.declared.items.Draft.{Draft}
use Rattle.text_parser.specs.declared.items.Item.{Item}
use Rattle.text_parser.specs.declared.items.Item.TheVariants as items
use Rattle.text_parser.specs.declared.known.Known.{Known}
use Rattle.text_parser.specs.declared.text.Parsed.{Parsed}
use Rattle.text_parser.specs.declared.text.Parsed.TheVariants as parsed
use Rattle.text_parser.proofs.FunctionsRead.{SameGroups}
use Rattle.text_parser.proofs.ItemsRead.{told, kept, item_found, item_shorter, item_reads, item_starts}
use Rattle.text_parser.proofs.Retyped.{retyped}

-- ---- all items

told_kept : (i : grammar.Item) → told (kept i) ≡ i
told_kept (type_item t) = refl
told_kept (global_item g) = refl
told_kept (declaration d) = refl
told_kept (function f) = refl
told_kept (group g) = refl
told_kept other = refl

all_told : (is : List grammar.Item) → map told (map kept is) ≡ is
all_told [] = refl
all_told (i ∷ is) = ap (λ (j : grammar.Item). j ∷ map told (map kept is)) (told_kept i) ∙ ap (λ (l : List grammar.Item). i ∷ l) (all_told is)

module _ (known : Known) (groups : List (List ℕ)) (same : SameGroups known.groups groups) where
  abbrev Items : List grammar.Item → List Sym → List Sym → Type 0
  Items = each (IsItem known.types groups)

  each_told : (xs : List Item) (ts rest : List Sym) → each (λ x. IsItem known.types groups (told x)) xs ts rest → Items (map told xs) ts rest
  each_told [] ts rest h = h
  each_told (x ∷ xs) ts rest h = (h.0, h.1, each_told xs h.0 rest h.2)

  items_found : (ts : List Sym) → Items (map told (all_at (item_at known) ts).0) ts (all_at (item_at known) ts).1
  items_found ts = each_told _ ts _ (all_found (λ x. IsItem known.types groups (told x)) (item_at known) (item_found known groups same) ts)

  next_starts : (is : List grammar.Item) (ts : List Sym) → Items is ts [] → EndsLine ts
  next_starts [] ts h = subst EndsLine (sym h) tt
  next_starts (i ∷ is) ts h = item_starts known.types groups i ts h.0 h.1

  none_left : item_at known [] ≡ None
  unfolding item_at
  none_left = refl

  -- items that are all of the symbols are read
  items_again : (is : List grammar.Item) (ts : List Sym) → Items is ts [] → all_at (item_at known) ts ≡ (map kept is, [])
  items_again [] ts h = ap (all_at (item_at known)) h ∙ all_at-none (item_at known) [] none_left
  items_again (i ∷ is) ts h =
      let r = item_reads known groups same i ts h.0 h.1 in
      let e : item_at known ts ≡ Some (kept i, h.0) = r.is ∙ ap Some (r.exact (next_starts is h.0 h.2)) in
      all_at-some (item_at known) ts (kept i) h.0 e (item_shorter known groups same ts (kept i) h.0 e) ∙ ap (front (kept i)) (items_again is h.0 h.2)

  abbrev read_count : List Sym → ℕ
  read_count ts = length (all_at (item_at known) ts).0

  one_more : (ts rest : List Sym) (x : Item) → item_at known ts ≡ Some (x, rest) → read_count ts ≡ suc (read_count rest)
  one_more ts rest x e = ap (λ (l : List Item × List Sym). length l.0) (all_at-some (item_at known) ts x rest e (item_shorter known groups same ts x rest e))

  -- no items are more than those that are read
  at_most_read : (is : List grammar.Item) (ts rest : List Sym) → Items is ts rest → length is ≤ read_count ts
  at_most_read [] ts rest h = omega arith
  at_most_read (i ∷ []) ts rest h =
      let r = item_reads known groups same i ts h.0 h.1 in omega (arith, one_more ts r.read.1 r.read.0 r.is)
  at_most_read (i ∷ j ∷ is) ts rest h =
      let r = item_reads known groups same i ts h.0 h.1 in
      let e : item_at known ts ≡ Some (kept i, h.0) = r.is ∙ ap Some (r.exact (item_starts known.types groups j h.0 h.2.0 h.2.1)) in
      omega (arith, one_more ts h.0 (kept i) e, at_most_read (j ∷ is) h.0 rest h.2)

-- ---- what the items make together

append_none : {A : Type 0} (xs : List A) → xs ++ [] ≡ xs
append_none [] = refl
append_none (x ∷ xs) = ap (λ (l : List _). x ∷ l) (append_none xs)

-- the parts of a module and those of further items
abbrev joined : Module → List grammar.Item → Module
joined m is = record { types = m.types ++ types_of is; globals = m.globals ++ globals_of is; declarations = m.declarations ++ declarations_of is; functions = m.functions ++ functions_of is }

joined_none : (m : Module) → m ≡ joined m []
joined_none m =
    ap (λ (l : List TypeItem). record m { types = l }) (sym (append_none m.types))
    ∙ ap (λ (l : List GlobalItem). record (joined m []) { globals = l; declarations = m.declarations; functions = m.functions }) (sym (append_none m.globals))
    ∙ ap (λ (l : List Declaration). record (joined m []) { declarations = l; functions = m.functions }) (sym (append_none m.declarations))
    ∙ ap (λ (l : List Function). record (joined m []) { functions = l }) (sym (append_none m.functions))

joined_more : (m : Module) (x : Item) (is : List grammar.Item) → joined (readers.kept m x) is ≡ joined m (told x ∷ is)
joined_more m items.Skipped is = refl
joined_more m (items.Group g) is = refl
joined_more m (items.Type t) is = ap (λ (l : List TypeItem). record (joined m is) { types = l }) (append_assoc m.types (t ∷ []) (types_of is))
joined_more m (items.Global g) is = ap (λ (l : List GlobalItem). record (joined m is) { globals = l }) (append_assoc m.globals (g ∷ []) (globals_of is))
joined_more m (items.Declaration d) is = ap (λ (l : List Declaration). record (joined m is) { declarations = l }) (append_assoc m.declarations (d ∷ []) (declarations_of is))
joined_more m (items.Function f) is = ap (λ (l : List Function). record (joined m is) { functions = l }) (append_assoc m.functions (f ∷ []) (functions_of is))

parts_gathered : (d : Draft) (xs : List Item) → (gathered d xs).parts ≡ joined d.parts (map told xs)
parts_gathered d [] = joined_none d.parts
parts_gathered d (x ∷ xs) = parts_gathered (with_item d x) xs ∙ joined_more d.parts x (map told xs)

count_gathered : (d : Draft) (xs : List Item) → (gathered d xs).count ≡ d.count + length xs
count_gathered d [] = omega arith
count_gathered d (x ∷ xs) = omega (arith, count_gathered (with_item d x) xs)

-- ---- groups

or_assoc : (a b c : Bool) → ((a || b) || c) ≡ (a || (b || c))
or_assoc true b c = refl
or_assoc false b c = refl

or_false : (a : Bool) → a ≡ (a || false)
or_false true = refl
or_false false = refl

any_append : (g h : List ℕ) (gs : List (List ℕ)) → list_any (same_text g) (gs ++ h ∷ []) ≡ (list_any (same_text g) gs || same_text g h)
any_append g h [] = sym (or_false (same_text g h))
any_append g h (x ∷ gs) = ap (λ (b : Bool). same_text g x || b) (any_append g h gs) ∙ sym (or_assoc (same_text g x) (list_any (same_text g) gs) (same_text g h))

or_known : (a b : Bool) → (b ≡ true → a ≡ true) → a ≡ (a || b)
or_known true b h = refl
or_known false true h = h refl
or_known false false h = refl

has_known : (gs : List (List ℕ)) (g h : List ℕ) → list_any (same_text h) gs ≡ true → same_text g h ≡ true → list_any (same_text g) gs ≡ true
has_known gs g h known e = subst (λ (x : List ℕ). list_any (same_text x) gs ≡ true) (sym (same_text-same g h e)) known

has_with : (gs : List (List ℕ)) (g h : List ℕ) → has_group (with_group gs h) g ≡ (has_group gs g || same_text g h)
has_with gs g h = split (list_any (same_text h) gs) refl
  where
    split : (b : Bool) → list_any (same_text h) gs ≡ b → has_group (cond (list_any (same_text h) gs) gs (gs ++ h ∷ [])) g ≡ (has_group gs g || same_text g h)
    split true e = ap (λ (b : Bool). has_group (cond b gs (gs ++ h ∷ [])) g) e ∙ or_known (has_group gs g) (same_text g h) (has_known gs g h e)
    split false e = ap (λ (b : Bool). has_group (cond b gs (gs ++ h ∷ [])) g) e ∙ any_append g h gs

groups_more : (gs : List (List ℕ)) (x : Item) (is : List grammar.Item) (g : List ℕ) → (has_group (readers.grouped gs x) g || is_one_of (groups_of is) g) ≡ (has_group gs g || is_one_of (groups_of (told x ∷ is)) g)
groups_more gs items.Skipped is g = refl
groups_more gs (items.Group h) is g = ap (λ (b : Bool). b || is_one_of (groups_of is) g) (has_with gs g h) ∙ or_assoc (has_group gs g) (same_text g h) (is_one_of (groups_of is) g)
groups_more gs (items.Type t) is g = refl
groups_more gs (items.Global h) is g = refl
groups_more gs (items.Declaration d) is g = refl
groups_more gs (items.Function f) is g = refl

groups_gathered : (d : Draft) (xs : List Item) (g : List ℕ) → has_group (gathered d xs).groups g ≡ (has_group d.groups g || is_one_of (groups_of (map told xs)) g)
groups_gathered d [] g = or_false (has_group d.groups g)
groups_gathered d (x ∷ xs) g = groups_gathered (with_item d x) xs g ∙ groups_more d.groups x (map told xs) g

-- ---- the first reading, which knows nothing yet

nothing_same : SameGroups [] []
nothing_same = λ g. refl

abbrev read_first : List Sym → List Item × List Sym
read_first ts = all_at (item_at nothing) ts

first_types : (xs : List Item) → (known_by (gathered no_items xs)).types ≡ types_of (map told xs)
first_types xs = ap (λ (m : Module). m.types) (parts_gathered no_items xs)

first_groups : (xs : List Item) → SameGroups (known_by (gathered no_items xs)).groups (groups_of (map told xs))
first_groups xs = λ g. groups_gathered no_items xs g

-- ---- a reading of all items, with what they tell

-- the module that is read with what the items tell is made of these items
module_read : (known : Known) (is : List grammar.Item) (ts : List Sym) → SameGroups known.groups (groups_of is) → known.types ≡ types_of is → AreItems is ts [] → (items_at known ts).0.parts ≡ module_of is
unfolding items_at
module_read known is ts same types h =
    let own : each (IsItem known.types (groups_of is)) is ts [] = subst (λ (l : List TypeItem). each (IsItem l (groups_of is)) is ts []) (sym types) h in
    ap (λ (r : List Item × List Sym). (gathered no_items r.0).parts) (items_again known (groups_of is) same is ts own)
    ∙ parts_gathered no_items (map kept is)
    ∙ ap module_of (all_told is)

-- items with the types and groups of their own
own_items : (is js : List grammar.Item) (ts rest : List Sym) → types_of is ≡ types_of js → groups_of is ≡ groups_of js → each (IsItem (types_of is) (groups_of is)) js ts rest → AreItems js ts rest
own_items is js ts rest types groups h =
    subst (λ (l : List TypeItem). each (IsItem l (groups_of js)) js ts rest) types (subst (λ (gs : List (List ℕ)). each (IsItem (types_of is) gs) js ts rest) groups h)

pub record Owned (is : List grammar.Item) (ts rest : List Sym) : Type 0 where
  pub items : List grammar.Item
  pub are : AreItems items ts rest
  pub types_same : types_of is ≡ types_of items
  pub groups_same : groups_of is ≡ groups_of items
  pub as_many : length is ≡ length items

owned : (is : List grammar.Item) (ts rest : List Sym) → each (IsItem [] []) is ts rest → Owned is ts rest
owned is ts rest h =
    let r = retyped [] (types_of is) [] (groups_of is) is ts rest h in
    record { items = r.items; are = own_items is r.items ts rest r.types_same r.groups_same r.are; types_same = r.types_same; groups_same = r.groups_same; as_many = r.as_many }

-- what the first reading takes
first_owned : (ts : List Sym) → Owned (map told (read_first ts).0) ts (read_first ts).1
first_owned ts = owned (map told (read_first ts).0) ts (read_first ts).1 (items_found nothing [] nothing_same ts)

-- ---- found

stands_by : (text : List ℕ) (whole : (symbols_of text).whole ≡ true) → (read_first (symbols_of text).symbols).1 ≡ [] → StandsFor text (items_at (known_by (gathered no_items (read_first (symbols_of text).symbols).0)) (symbols_of text).symbols).0.parts
stands_by text whole none =
    let ts = (symbols_of text).symbols in
    let xs = (read_first ts).0 in
    let o = first_owned ts in
    let are : AreItems o.items ts [] = subst (λ (l : List Sym). AreItems o.items ts l) none o.are in
    let same : SameGroups (known_by (gathered no_items xs)).groups (groups_of o.items) = subst (SameGroups (known_by (gathered no_items xs)).groups) o.groups_same (first_groups xs) in
    record {
      whole = whole;
      items = o.items;
      are = are;
      kept = module_read (known_by (gathered no_items xs)) o.items ts same (first_types xs ∙ o.types_same) are;
    }

none_is : (rest : List Sym) (whole : Bool) → is_all rest whole ≡ true → (rest ≡ []) × (whole ≡ true)
none_is [] whole e = (refl, e)
none_is (t ∷ ts) whole e = absurd cc

-- ---- the count

abbrev first_count : List Sym → ℕ
first_count ts = length (read_first ts).0

length_map : (xs : List Item) → length (map told xs) ≡ length xs
length_map [] = refl
length_map (x ∷ xs) = ap suc (length_map xs)

begins_by : (text : List ℕ) → BeginsWith text (first_count (symbols_of text).symbols)
begins_by text =
    let ts = (symbols_of text).symbols in
    let o = first_owned ts in
    record {
      items = o.items;
      rest = (read_first ts).1;
      are = o.are;
      many = sym o.as_many ∙ length_map (read_first ts).0;
      most = λ more left h. at_most more left h;
    }
  where
    at_most : (more : List grammar.Item) (left : List Sym) → AreItems more (symbols_of text).symbols left → length more ≤ first_count (symbols_of text).symbols
    at_most more left h =
        let r = retyped (types_of more) [] (groups_of more) [] more (symbols_of text).symbols left h in
        omega (arith, r.as_many, at_most_read nothing [] nothing_same r.items (symbols_of text).symbols left r.are)

-- ---- nothing is refused

abbrev answered : Symbols → List Item × List Sym → Parsed
answered s r = answer (gathered no_items r.0) (is_all r.1 s.whole) s.symbols

by_first : (text : List ℕ) → read_module text ≡ answered (symbols_of text) (read_first (symbols_of text).symbols)
unfolding read_module items_at
by_first text = refl

pub module_again : (text : List ℕ) (m : Module) → StandsFor text m → read_module text ≡ parsed.Module m
module_again text m h =
    let s = symbols_of text in
    let r = retyped (types_of h.items) [] (groups_of h.items) [] h.items s.symbols [] h.are in
    let first : read_first s.symbols ≡ (map kept r.items, []) = items_again nothing [] nothing_same r.items s.symbols r.are in
    let known = known_by (gathered no_items (map kept r.items)) in
    let types : known.types ≡ types_of h.items = first_types (map kept r.items) ∙ ap types_of (all_told r.items) ∙ sym r.types_same in
    let groups : groups_of (map told (map kept r.items)) ≡ groups_of h.items = ap groups_of (all_told r.items) ∙ sym r.groups_same in
    let same : SameGroups known.groups (groups_of h.items) = subst (SameGroups known.groups) groups (first_groups (map kept r.items)) in
    by_first text
    ∙ ap (answered s) first
    ∙ ap (λ (b : Bool). answer (gathered no_items (map kept r.items)) b s.symbols) h.whole
    ∙ ap parsed.Module (module_read known h.items s.symbols same types h.are ∙ sym h.kept)

-- ---- the clauses

no_module : (text : List ℕ) (n : ℕ) → read_module text ≡ parsed.Syntax n → (m : Module) → StandsFor text m → ⊥
no_module text n e m h = let both : parsed.Syntax n ≡ parsed.Module m = sym e ∙ module_again text m h in cc

syntax_by : (text : List ℕ) → is_all (read_first (symbols_of text).symbols).1 (symbols_of text).whole ≡ false → read_module text ≡ parsed.Syntax (first_count (symbols_of text).symbols)
syntax_by text e =
    by_first text
    ∙ ap (λ (b : Bool). answer (gathered no_items (read_first (symbols_of text).symbols).0) b (symbols_of text).symbols) e
    ∙ ap parsed.Syntax (count_gathered no_items (read_first (symbols_of text).symbols).0 ∙ zero_count (first_count (symbols_of text).symbols))
  where
    zero_count : (n : ℕ) → 0 + n ≡ n
    zero_count n = omega arith

module_by : (text : List ℕ) → is_all (read_first (symbols_of text).symbols).1 (symbols_of text).whole ≡ true → read_module text ≡ parsed.Module (items_at (known_by (gathered no_items (read_first (symbols_of text).symbols).0)) (symbols_of text).symbols).0.parts
module_by text e = by_first text ∙ ap (λ (b : Bool). answer (gathered no_items (read_first (symbols_of text).symbols).0) b (symbols_of text).symbols) e

read_is : (text : List ℕ) → IsReading text (read_module text)
read_is text = split (is_all (read_first (symbols_of text).symbols).1 (symbols_of text).whole) refl
  where
    split : (b : Bool) → is_all (read_first (symbols_of text).symbols).1 (symbols_of text).whole ≡ b → IsReading text (read_module text)
    split true e =
        let n = none_is (read_first (symbols_of text).symbols).1 (symbols_of text).whole e in
        subst (IsReading text) (sym (module_by text e)) (stands_by text n.1 n.0)
    split false e = subst (IsReading text) (sym (syntax_by text e)) (begins_by text, no_module text _ (syntax_by text e))

-- what is told is what the grammar says
pub reading_of : (text : List ℕ) (p : Parsed) → p ≡ read_module text → IsReading text p
reading_of text p e = subst (IsReading text) (sym e) (read_is text)

-- and every module of the grammar is told
pub told_of : (text : List ℕ) (p : Parsed) (m : Module) → p ≡ read_module text → StandsFor text m → p ≡ parsed.Module m
told_of text p m e h = e ∙ module_again text m h

-- a text stands for one module at most
pub one_module : (text : List ℕ) (m n : Module) → StandsFor text m → StandsFor text n → m ≡ n
one_module text m n h k = let both : parsed.Module m ≡ parsed.Module n = sym (module_again text m h) ∙ module_again text n k in cc

pub if_told : {E : Type 0} (text : List ℕ) (r : Result Parsed E) → IfOk r (λ p. p ≡ read_module text) → IfOk r (λ p. (m : Module) → StandsFor text m → p ≡ parsed.Module m)
if_told text (Ok p) h = λ m k. told_of text p m h k
if_told text (Err e) h = tt
