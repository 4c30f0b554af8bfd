-- Reading from left to right: a value and the symbols behind it, or none.
use Rattle.std.specs.Prelude.{◌≡◌, List, [], ◌∷◌, Option, Some, None, Result, Ok, Err, if◌then◌else◌, ◌==◌, Bool, false}
use Rattle.text_reader.specs.declared.fault.ReadError.{ReadError}
use Rattle.text_reader.specs.declared.fault.ReadError.TheVariants as errors
use Rattle.text_symbols.specs.declared.sym.Mark.{Mark}
use Rattle.text_symbols.specs.declared.sym.Mark.TheVariants as marks
use Rattle.text_symbols.specs.declared.sym.Sym.{Sym}
use Rattle.text_symbols.specs.declared.sym.Sym.TheVariants as syms
use Rattle.text_symbols.specs.Sym.{mark_number}

infixl 10 ◌>>=◌
abbrev pub ◌>>=◌ : {A B : Type 0} → Option A → (A → Option B) → Option B
(Some x) >>= f = f x
None >>= f = None

abbrev pub Fails : {Y : Type 0} → ReadError → Option Y → Type 0
Fails errors.Memory read = Unit {0}
Fails errors.Syntax read = read ≡ None

-- What a function returned, seen by view, is what reading gives, unless memory ran out.
abbrev pub Gives : {X Y : Type 0} → (X → Y) → Result X ReadError → Option Y → Type 0
Gives view (Ok x) read = read ≡ Some (view x)
Gives view (Err e) read = Fails e read

abbrev pub is_mark : Mark → Sym → Bool
is_mark m (syms.Mark n) = mark_number n == mark_number m
is_mark m _ = false

-- behind a mark
abbrev pub mark_at : Mark → List Sym → Option (List Sym)
mark_at m [] = None
mark_at m (t ∷ ts) = if is_mark m t then Some ts else None

-- behind any number of pairs of metadata, each behind a comma
abbrev pub behind_metadata : List Sym → List Sym
behind_metadata (syms.Mark marks.Comma ∷ syms.Meta ∷ syms.Meta ∷ ts) = behind_metadata ts
behind_metadata ts = ts

-- behind any number of pairs of metadata
abbrev pub behind_pairs : List Sym → List Sym
behind_pairs (syms.Meta ∷ syms.Meta ∷ ts) = behind_pairs ts
behind_pairs ts = ts
