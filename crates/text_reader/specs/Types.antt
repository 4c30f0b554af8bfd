-- Reading a type: a machine over the symbols, with the arrays and structures that are open.
use Rattle.std.specs.Prelude.{List, [], ◌∷◌, ◌++◌, Option, Some, None, option_map}
use Rattle.ir_model.specs.Ty.{Ty, int, ptr, token, array, structure, named, to_tys}
use Rattle.ir_model.specs.TypeView.{bits_of}
use Rattle.text_reader.specs.declared.types.Open.{Open}
use Rattle.text_reader.specs.declared.types.Open.TheVariants as opens
use Rattle.text_reader.specs.declared.types.Step.{Step}
use Rattle.text_reader.specs.declared.types.Step.TheVariants as steps
use Rattle.text_symbols.specs.declared.sym.Mark.TheVariants as marks
use Rattle.text_symbols.specs.declared.word.Word.{Word}
use Rattle.text_symbols.specs.declared.word.Word.TheVariants as words
use Rattle.text_symbols.specs.declared.sym.Sym.{Sym}
use Rattle.text_symbols.specs.declared.sym.Sym.TheVariants as syms

-- a type of one word
abbrev pub word_type : Word → Option Ty
word_type (words.Int w) = Some (int (bits_of w))
word_type words.Ptr = Some ptr
word_type words.Token = Some token
word_type _ = None

abbrev pub whole : Option Ty → List Sym → Option (Step × List Sym)
whole None ts = None
whole (Some t) ts = Some (steps.Whole t, ts)

-- what stands where a type begins
abbrev pub begin_at : List Sym → Option (Step × List Sym)
begin_at (syms.Word w ∷ ts) = whole (word_type w) ts
begin_at (syms.Local n ∷ ts) = whole (option_map named n) ts
begin_at (syms.Mark marks.OpenSquare ∷ syms.Int n ∷ syms.Word words.X ∷ ts) = Some (steps.Inside (opens.Array n), ts)
begin_at (syms.Mark marks.OpenCurly ∷ syms.Mark marks.CloseCurly ∷ ts) = Some (steps.Whole (structure (to_tys [])), ts)
begin_at (syms.Mark marks.OpenCurly ∷ ts) = Some (steps.Inside (opens.Struct []), ts)
begin_at _ = None

-- what stands behind a type inside something open
abbrev pub end_at : Ty → Open → List Sym → Option (Step × List Sym)
end_at t (opens.Array n) (syms.Mark marks.CloseSquare ∷ ts) = Some (steps.Whole (array n t), ts)
end_at t (opens.Struct fs) (syms.Mark marks.CloseCurly ∷ ts) = Some (steps.Whole (structure (to_tys (fs ++ t ∷ []))), ts)
end_at t (opens.Struct fs) (syms.Mark marks.Comma ∷ ts) = Some (steps.Inside (opens.Struct (fs ++ t ∷ [])), ts)
end_at _ _ _ = None

abbrev pub behind_word : Option Ty → (Ty → Option (Ty × List Sym)) → Option (Ty × List Sym)
behind_word None go = None
behind_word (Some t) go = go t

-- a type from the front of the symbols on, inside what is open, the innermost first
abbrev mutual
  pub type_in : List Sym → List Open → Option (Ty × List Sym)
  type_in (syms.Word w ∷ ts) st = behind_word (word_type w) (λ t. type_behind ts t st)
  type_in (syms.Local n ∷ ts) st = behind_word (option_map named n) (λ t. type_behind ts t st)
  type_in (syms.Mark marks.OpenSquare ∷ syms.Int n ∷ syms.Word words.X ∷ ts) st = type_in ts (opens.Array n ∷ st)
  type_in (syms.Mark marks.OpenCurly ∷ syms.Mark marks.CloseCurly ∷ ts) st = type_behind ts (structure (to_tys [])) st
  type_in (syms.Mark marks.OpenCurly ∷ ts) st = type_in ts (opens.Struct [] ∷ st)
  type_in _ st = None

  pub type_behind : List Sym → Ty → List Open → Option (Ty × List Sym)
  type_behind ts t [] = Some (t, ts)
  type_behind (syms.Mark marks.CloseSquare ∷ ts) t (opens.Array n ∷ st) = type_behind ts (array n t) st
  type_behind (syms.Mark marks.CloseCurly ∷ ts) t (opens.Struct fs ∷ st) = type_behind ts (structure (to_tys (fs ++ t ∷ []))) st
  type_behind (syms.Mark marks.Comma ∷ ts) t (opens.Struct fs ∷ st) = type_in ts (opens.Struct (fs ++ t ∷ []) ∷ st)
  type_behind _ t (o ∷ st) = None

-- the type at the front of the symbols
unfoldable pub type_at : List Sym → Option (Ty × List Sym)
type_at ts = type_in ts []

-- on from a step
abbrev pub on_from : Step → List Sym → List Open → Option (Ty × List Sym)
on_from (steps.Whole t) ts st = type_behind ts t st
on_from (steps.Inside o) ts st = type_in ts (o ∷ st)
