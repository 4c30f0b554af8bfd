-- The names of functions of a text are names that symbols of the text have.
use Rattle.std.proofs.Common.{◌≡◌, ℕ, ◌<◌, zero, suc, Bool, true, false, List, [], ◌∷◌, refl, sym, ap, subst, ◌∙◌, ltb-true, arith}
use Rattle.std.specs.Prelude.{Option, Some, None, map, slice_get, nat_lt, if◌then◌else◌, ◌^◌, ◌==◌, ◌||◌}
use Rattle.ir_laws.specs.ir_base.declared.name.Name.{Name}
use Rattle.text_grammar.specs.Items.{IsItem, Item, declaration, function, functions_of, global_item, group, groups_of, other, type_item, types_of}
use Rattle.text_grammar.specs.Phrases.{each}
use Rattle.text_grammar.specs.Text.{StandsFor}
use Rattle.text_lexer.specs.Tokens.{tokens}
use Rattle.text_lexer.specs.declared.token.Kind.{Kind}
use Rattle.ir_laws.specs.ir_model.declared.module.Function.{Function}
use Rattle.ir_laws.specs.ir_model.declared.module.Module.{Module}
use Rattle.ir_laws.specs.ir_model.declared.module.TypeItem.{TypeItem}
use Rattle.text_symbols.specs.Listing.{symbols_of}
use Rattle.text_symbols.specs.Numbers.{are_digits, fitting, value_of}
use Rattle.text_symbols.specs.Sym.{behind_first, negative, positive, sym_of}
use Rattle.text_symbols.specs.Names.{is_empty, has_zero, name_of, number_name, plain_name, text_name, inside, unescaped}
use Rattle.text_symbols.specs.declared.sym.Sym.{Sym}
use Rattle.text_canonical.specs.order.Shape.{Each}
use Rattle.rule_laws.proofs.texts.widths.Kept.{Keeps}
use Rattle.rule_laws.proofs.texts.widths.Said.{kept_item, name_said}
use Rattle.ir_laws.specs.facts.same_names.Short.{IsShort}
use Rattle.text_lexer.specs.declared.token.Kind.TheVariants as kinds
use Rattle.text_symbols.specs.declared.sym.Sym.TheVariants as syms

-- a global symbol's name is short
abbrev pub IsShortName : Option Name → Type 0
IsShortName None = Unit {0}
IsShortName (Some n) = IsShort n

abbrev pub IsShortSym : Sym → Type 0
IsShortSym (syms.Global n) = IsShortName n
IsShortSym _ = Unit {0}

-- ---- what tokens say

numbered_short : (n : ℕ) (b : Bool) → nat_lt n (2 ^ 32) ≡ b → IsShortName (if b then Some (Name.Number n) else None)
numbered_short n true e = let low : n < 2 ^ 32 = ltb-true n (2 ^ 32) e in omega (arith, low)
numbered_short n false e = tt

text_short : (bs : List ℕ) (b : Bool) → IsShortName (if b then None else Some (Name.Text bs))
text_short bs true = tt
text_short bs false = tt

plain_short : (bs : List ℕ) (b : Bool) → IsShortName (if b then number_name bs else text_name bs)
plain_short bs true = numbered_short (value_of bs) (nat_lt (value_of bs) (2 ^ 32)) refl
plain_short bs false = text_short bs (is_empty bs || has_zero bs)

quoted_short : (bs cs : List ℕ) (b : Bool) → IsShortName (if b then text_name cs else plain_name bs)
quoted_short bs cs true = text_short cs (is_empty cs || has_zero cs)
quoted_short bs cs false = plain_short bs (are_digits bs)

name_short : (bs : List ℕ) → IsShortName (name_of bs)
name_short [] = plain_short [] (are_digits [])
name_short (b ∷ bs) = quoted_short (b ∷ bs) (unescaped (inside bs)) (b == 34)

fitting_short : (o : Option ℕ) → IsShortSym (positive o) × IsShortSym (negative o)
fitting_short None = (tt, tt)
fitting_short (Some n) = (tt, tt)

integer_short : (b : Bool) (o p : Option ℕ) → IsShortSym (if b then negative o else positive p)
integer_short true o p = (fitting_short o).1
integer_short false o p = (fitting_short p).0

symbol_short : (t : Kind × List ℕ) → IsShortSym (sym_of t)
unfolding sym_of
symbol_short (kinds.Label, bs) = tt
symbol_short (kinds.Word, bs) = tt
symbol_short (kinds.Int, []) = (fitting_short (fitting (value_of []))).0
symbol_short (kinds.Int, b ∷ bs) = integer_short (b == 45) (fitting (value_of bs)) (fitting (value_of (b ∷ bs)))
symbol_short (kinds.String, bs) = tt
symbol_short (kinds.Local, bs) = tt
symbol_short (kinds.Global, bs) = name_short (behind_first bs)
symbol_short (kinds.Group, bs) = tt
symbol_short (kinds.Meta, bs) = tt
symbol_short (kinds.Mark, bs) = tt

all_short : (ts : List (Kind × List ℕ)) → Each IsShortSym (map sym_of ts)
all_short [] = tt
all_short (t ∷ ts) = (symbol_short t, all_short ts)

-- ---- functions

-- nothing is asked of other names
abbrev AnyName : Name → Type 0
AnyName n = Unit {0}

kept_short : (types : List TypeItem) (groups : List (List ℕ)) (i : Item) → Keeps IsShortSym (IsItem types groups i)
kept_short = kept_item IsShortSym AnyName (λ n g. tt) (λ n g. tt) (λ k l. tt)

functions_short : (types : List TypeItem) (groups : List (List ℕ)) (is : List Item) (ts rest : List Sym) → each (IsItem types groups) is ts rest → Each IsShortSym ts → (k : ℕ) (f : Function) → slice_get (functions_of is) k ≡ Some f → IsShort f.name
functions_short types groups [] ts rest h g k f there = absurd (cc)
functions_short types groups (function x ∷ is) ts rest h g zero f there =
    let same : x ≡ f = cc in
    subst (λ (y : Function). IsShort y.name) same (name_said IsShortSym AnyName (λ n g. tt) (λ n g. tt) (λ k l. tt) types groups x ts h.0 h.1 g)
functions_short types groups (function x ∷ is) ts rest h g (suc k) f there =
    functions_short types groups is h.0 rest h.2 ((kept_short types groups (function x)).at ts h.0 h.1 g) k f there
functions_short types groups (type_item x ∷ is) ts rest h g k f there =
    functions_short types groups is h.0 rest h.2 ((kept_short types groups (type_item x)).at ts h.0 h.1 g) k f there
functions_short types groups (global_item x ∷ is) ts rest h g k f there =
    functions_short types groups is h.0 rest h.2 ((kept_short types groups (global_item x)).at ts h.0 h.1 g) k f there
functions_short types groups (declaration x ∷ is) ts rest h g k f there =
    functions_short types groups is h.0 rest h.2 ((kept_short types groups (declaration x)).at ts h.0 h.1 g) k f there
functions_short types groups (group x ∷ is) ts rest h g k f there =
    functions_short types groups is h.0 rest h.2 ((kept_short types groups (group x)).at ts h.0 h.1 g) k f there
functions_short types groups (other ∷ is) ts rest h g k f there =
    functions_short types groups is h.0 rest h.2 ((kept_short types groups other).at ts h.0 h.1 g) k f there

pub text_names_short : (text : List ℕ) (m : Module) → StandsFor text m → (k : ℕ) (f : Function) → slice_get m.functions k ≡ Some f → IsShort f.name
text_names_short text m stands k f there =
    functions_short (types_of stands.items) (groups_of stands.items) stands.items (symbols_of text).symbols [] stands.are (all_short (tokens text).0) k f
    (ap (λ (n : Module). slice_get n.functions k) (sym stands.kept) ∙ there)
