-- Declarations and functions.
use Rattle.std.specs.Prelude.{◌≡◌, ◌<◌, ◌+◌, ◌^◌, ℕ, List, [], ◌∷◌, map, Option, Some, None}
use Rattle.ir_base.specs.declared.name.Name.{Name}
use Rattle.ir_model.specs.Ty.{Ty}
use Rattle.ir_model.specs.declared.module.Declaration.{Declaration}
use Rattle.ir_model.specs.declared.module.Function.{Function}
use Rattle.ir_model.specs.declared.module.Param.{Param}
use Rattle.ir_model.specs.declared.module.TypeItem.{TypeItem}
use Rattle.text_symbols.specs.declared.sym.Mark.TheVariants as marks
use Rattle.text_symbols.specs.declared.sym.Sym.{Sym}
use Rattle.text_symbols.specs.declared.sym.Sym.TheVariants as syms
use Rattle.text_symbols.specs.declared.word.Word.TheVariants as words
use Rattle.text_grammar.specs.Attributes.{Attr, IsAttr, attributes, make_coroutine, pairs}
use Rattle.text_grammar.specs.Blocks.{AreBlocks}
use Rattle.text_grammar.specs.Phrases.{Phrase, ◌⨾◌, nothing, each, these, mark, word, commas}
use Rattle.text_grammar.specs.Types.{IsType, IsResult}
use Rattle.text_grammar.specs.Values.{IsPlace, global}

-- a parameter as it is written: its type and perhaps a name
abbrev pub Written : Type 0
Written = Ty × Option Name

-- [LOCAL]
abbrev pub IsWrittenName : Option Name → Phrase
IsWrittenName None = nothing
IsWrittenName (Some n) = these (syms.Local (Some n) ∷ [])

-- type attr* [LOCAL]
abbrev pub IsParam : Written → Phrase
IsParam p = IsType p.0 ⨾ attributes ⨾ IsWrittenName p.1

-- params = '(' [type attr* [LOCAL] (',' type attr* [LOCAL])*] ')'
abbrev pub AreParams : List Written → Phrase
AreParams ps = mark marks.OpenRound ⨾ commas IsParam ps ⨾ mark marks.CloseRound

-- attr* result GLOBAL params
abbrev pub IsHead : Option Ty → Name → List Written → Phrase
IsHead result name ps = attributes ⨾ IsResult result ⨾ global name ⨾ AreParams ps

-- 'declare' attr* result GLOBAL params attr*
abbrev pub IsDeclaration : Declaration → Phrase
IsDeclaration d ts rest =
    (ps : List Written) × (d.params ≡ map (λ p. p.0) ps) × (word words.Declare ⨾ IsHead d.result d.name ps ⨾ attributes) ts rest

-- ---- the names of parameters

-- a parameter's name, where the names of k parameters before it are numbers: a name that isn't written is k
abbrev pub IsParamName : ℕ → Option Name → Name → Type 0
IsParamName k None n = (n ≡ Name.Number k) × (k < 2 ^ 32)
IsParamName k (Some w) n = n ≡ w

-- how many names are numbers, with this one
abbrev pub counted : Name → ℕ → ℕ
counted (Name.Number n) k = k + 1
counted (Name.Text t) k = k

-- The parameters by their positions, from names and a count of numbers before them to those behind.
abbrev pub AreNamed : List Written → List Param → ℕ → List Name → ℕ → List Name → Type 0
AreNamed [] [] k ns k_end ns_end = (k ≡ k_end) × (ns ≡ ns_end)
AreNamed (w ∷ ws) (p ∷ ps) k ns k_end ns_end =
    (n : Name) × (with_it : List Name) × (p.ty ≡ w.0) × IsParamName k w.1 n × IsPlace ns n p.name with_it × AreNamed ws ps (counted n k) with_it k_end ns_end
AreNamed _ _ k ns k_end ns_end = ⊥

-- ---- functions

-- 'define' attr* result GLOBAL params attr* (META META)* '{' block+ '}', in a text with these types and in which these
-- groups hold `presplitcoroutine`
pub record IsFunction (types : List TypeItem) (groups : List (List ℕ)) (f : Function) (ts rest : List Sym) : Type 0 where
  pub written : List Written
  pub attrs : List Attr
  pub body : List Sym
  pub head : (word words.Define ⨾ IsHead f.result f.name written ⨾ each IsAttr attrs ⨾ pairs ⨾ mark marks.OpenCurly) ts body
  pub coroutine : f.coroutine ≡ make_coroutine groups attrs
  -- the names of the parameters, and how many of these are numbers
  pub names : List Name
  pub numbers : ℕ
  pub params : AreNamed written f.params 0 [] numbers names
  pub blocks : AreBlocks types numbers f.blocks (names, body) (f.names, syms.Mark marks.CloseCurly ∷ rest)
