-- Phrases of the grammar: a relation between what is there to be read and what is left behind the phrase.
use Rattle.std.specs.Prelude.{◌≡◌, ◌⊎◌, Bool, true, false, List, [], ◌∷◌, ◌++◌}
use Rattle.ir_base.specs.declared.name.Name.{Name}
use Rattle.text_symbols.specs.declared.sym.Mark.{Mark}
use Rattle.text_symbols.specs.declared.sym.Mark.TheVariants as marks
use Rattle.text_symbols.specs.declared.sym.Sym.{Sym}
use Rattle.text_symbols.specs.declared.sym.Sym.TheVariants as syms
use Rattle.text_symbols.specs.declared.word.Word.{Word}

-- The symbols begin with the phrase, and these are left behind it.
abbrev pub Phrase : Type 1
Phrase = List Sym → List Sym → Type 0

-- What is there to be read inside a function: the names of its locals so far, and the symbols. A phrase takes symbols and
-- may add names.
abbrev pub Locals : Type 0
Locals = List Name × List Sym

abbrev pub Naming : Type 1
Naming = Locals → Locals → Type 0

-- ---- phrases of both kinds

-- one phrase, and another behind it
infixr 20 ◌⨾◌
abbrev pub ◌⨾◌ : {S : Type 0} → (S → S → Type 0) → (S → S → Type 0) → S → S → Type 0
◌⨾◌ {S} P Q s end = (m : S) × P s m × Q m end

-- one phrase or another
infixr 15 ◌∥◌
abbrev pub ◌∥◌ : {S : Type 0} → (S → S → Type 0) → (S → S → Type 0) → S → S → Type 0
(P ∥ Q) s end = P s end ⊎ Q s end

abbrev pub nothing : {S : Type 0} → S → S → Type 0
nothing s end = s ≡ end

abbrev pub never : {S : Type 0} → S → S → Type 0
never s end = ⊥

-- a phrase that may be left out
abbrev pub perhaps : {S : Type 0} → (S → S → Type 0) → S → S → Type 0
perhaps P = P ∥ nothing

-- a phrase for each of the values, one behind another
abbrev pub each : {A S : Type 0} → (A → S → S → Type 0) → List A → S → S → Type 0
each P [] = nothing
each P (x ∷ xs) = P x ⨾ each P xs

-- the same for one value or more
abbrev pub some : {A S : Type 0} → (A → S → S → Type 0) → List A → S → S → Type 0
some P [] = never
some P (x ∷ xs) = P x ⨾ each P xs

-- ---- symbols

-- these symbols
abbrev pub these : List Sym → Phrase
these ws ts rest = ts ≡ ws ++ rest

abbrev pub mark : Mark → Phrase
mark m = these (syms.Mark m ∷ [])

abbrev pub word : Word → Phrase
word w = these (syms.Word w ∷ [])

-- a word that stands there, or doesn't
abbrev pub flag : Word → Bool → Phrase
flag w true = word w
flag w false = nothing

-- phrases for the values with commas between
abbrev pub commas : {A : Type 0} → (A → Phrase) → List A → Phrase
commas P [] = nothing
commas P (x ∷ xs) = P x ⨾ each (λ y. mark marks.Comma ⨾ P y) xs

-- ---- inside a function

-- a phrase without names of locals
abbrev pub plain : Phrase → Naming
plain P s end = (s.0 ≡ end.0) × P s.1 end.1

abbrev pub comma : Naming
comma = plain (mark marks.Comma)

-- a phrase for each of the values, with a comma before it
abbrev pub behind_comma : {A : Type 0} → (A → Naming) → A → Naming
behind_comma P x = comma ⨾ P x

-- phrases for one value or more with commas between
abbrev pub listed : {A : Type 0} → (A → Naming) → List A → Naming
listed P [] = never
listed P (x ∷ xs) = P x ⨾ each (behind_comma P) xs
