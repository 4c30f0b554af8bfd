-- Locals, values and alignments.
use Rattle.std.specs.Prelude.{◌≡◌, ◌⊎◌, ℕ, zero, suc, ℤ, pos, ◌-ℤ◌, List, [], ◌∷◌, ◌++◌, length, Some}
use Rattle.ir_base.specs.declared.name.Name.{Name}
use Rattle.ir_model.specs.Ty.{Ty}
use Rattle.ir_model.specs.declared.module.TypeItem.{TypeItem}
use Rattle.ir_model.specs.declared.operand.Arg.{Arg}
use Rattle.ir_model.specs.declared.operand.Operand.{Operand}
use Rattle.ir_model.specs.declared.operand.Operand.TheVariants as operands
use Rattle.text_symbols.specs.declared.sym.Mark.TheVariants as marks
use Rattle.text_symbols.specs.declared.sym.Sym.TheVariants as syms
use Rattle.text_symbols.specs.declared.word.Word.TheVariants as words
use Rattle.ir_alignments.specs.Alignment.{align_in}
use Rattle.text_grammar.specs.Attributes.{attributes}
use Rattle.text_grammar.specs.Phrases.{Phrase, Naming, ◌⨾◌, nothing, never, these, word, plain}
use Rattle.text_grammar.specs.Types.{IsType}

-- ---- the table of a function's names

-- the first place at which a name stands
abbrev pub StandsAt : List Name → Name → ℕ → Type 0
StandsAt [] n i = ⊥
StandsAt (m ∷ ns) n zero = m ≡ n
StandsAt (m ∷ ns) n (suc i) = (m ≡ n → ⊥) × StandsAt ns n i

abbrev pub IsNew : List Name → Name → Type 0
IsNew [] n = Unit {0}
IsNew (m ∷ ns) n = (m ≡ n → ⊥) × IsNew ns n

-- A name's position, and the names with it: that of its first occurrence, or the end, to which a new name goes.
abbrev pub IsPlace : List Name → Name → ℕ → List Name → Type 0
IsPlace ns n i with_it =
    (StandsAt ns n i × (with_it ≡ ns)) ⊎ (IsNew ns n × (i ≡ length ns) × (with_it ≡ ns ++ n ∷ []))

-- LOCAL, of the name at a position
abbrev pub local : ℕ → Naming
local i s end = (n : Name) × these (syms.Local (Some n) ∷ []) s.1 end.1 × IsPlace s.0 n i end.0

-- ---- values

-- INT
abbrev pub integer : ℤ → Phrase
integer z ts rest = (n : ℕ) × (((z ≡ pos n) × these (syms.Int n ∷ []) ts rest) ⊎ ((z ≡ pos 0 -ℤ pos n) × these (syms.Negative n ∷ []) ts rest))

-- GLOBAL
abbrev pub global : Name → Phrase
global n = these (syms.Global (Some n) ∷ [])

-- val = LOCAL | GLOBAL | INT | 'true' | 'false' | 'null' | 'none' | 'poison'
abbrev pub IsValue : Operand → Naming
IsValue (operands.Local i) = local i
IsValue (operands.Global n) = plain (global n)
IsValue (operands.Number z) = plain (integer z)
IsValue operands.True = plain (word words.True)
IsValue operands.False = plain (word words.False)
IsValue operands.Null = plain (word words.Null)
IsValue operands.None = plain (word words.None)
IsValue operands.Poison = plain (word words.Poison)

-- init = INT | 'true' | 'false' | 'null' | GLOBAL
abbrev pub IsInitial : Operand → Phrase
IsInitial (operands.Global n) = global n
IsInitial (operands.Number z) = integer z
IsInitial operands.True = word words.True
IsInitial operands.False = word words.False
IsInitial operands.Null = word words.Null
IsInitial _ = never

-- type val
abbrev pub IsTyped : Arg → Naming
IsTyped a = plain (IsType a.ty) ⨾ IsValue a.value

-- arg = type attr* val
abbrev pub IsArg : Arg → Naming
IsArg a = plain (IsType a.ty ⨾ attributes) ⨾ IsValue a.value

-- 'label' LOCAL
abbrev pub IsTarget : ℕ → Naming
IsTarget i = plain (word words.Label) ⨾ local i

-- ',' 'ptr' val
abbrev pub IsAddress : Operand → Naming
IsAddress p = plain (these (syms.Mark marks.Comma ∷ syms.Word words.Ptr ∷ [])) ⨾ IsValue p

-- [',' 'align' INT], where an alignment that isn't written is the type's; a negative one, which no rule allows, counts as 0
abbrev pub IsAligned : List TypeItem → Ty → ℕ → Phrase
IsAligned types t n ts rest =
    these (syms.Mark marks.Comma ∷ syms.Word words.Align ∷ syms.Int n ∷ []) ts rest
    ⊎ ((k : ℕ) × (n ≡ 0) × these (syms.Mark marks.Comma ∷ syms.Word words.Align ∷ syms.Negative k ∷ []) ts rest)
    ⊎ ((n ≡ align_in types t) × nothing ts rest)
