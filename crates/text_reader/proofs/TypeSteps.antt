-- A turn of the reader of types.
use Rattle.std.proofs.Common.{◌≡◌, List, [], ◌∷◌, ◌++◌, Option, None, refl, sym, ap, ◌∙◌, reverse, option_map}
use Rattle.std.specs.Prelude.{Some}
use Rattle.std.proofs.lemmas.List.{reverse-append}
use Rattle.ir_model.specs.Ty.{Ty, named}
use Rattle.text_symbols.specs.declared.sym.Sym.{Sym}
use Rattle.text_reader.specs.declared.types.Open.{Open}
use Rattle.text_reader.specs.declared.types.Step.{Step}
use Rattle.text_reader.specs.declared.types.Step.TheVariants as steps
use Rattle.text_reader.specs.Reading.{◌>>=◌}
use Rattle.text_symbols.specs.declared.sym.Sym.TheVariants as syms
use Rattle.text_symbols.specs.declared.sym.Mark.TheVariants as marks
use Rattle.text_symbols.specs.declared.word.Word.TheVariants as words
use Rattle.text_reader.specs.declared.types.Open.TheVariants as opens
use Rattle.text_reader.specs.Types.{word_type, whole, behind_word, type_in, type_behind, type_at, begin_at, end_at, on_from}

abbrev Read : Type 0
Read = Option (Ty × List Sym)

abbrev resume : List Open → Step × List Sym → Read
resume st r = on_from r.0 r.1 st

word_step : (o : Option Ty) (ts : List Sym) (st : List Open) → behind_word o (λ t. type_behind ts t st) ≡ (whole o ts >>= resume st)
word_step None ts st = refl
word_step (Some t) ts st = refl

type_in-step : (ts : List Sym) (st : List Open) → type_in ts st ≡ (begin_at ts >>= resume st)
type_in-step (syms.Word w ∷ ts) st = word_step (word_type w) ts st
type_in-step (syms.Local n ∷ ts) st = word_step (option_map named n) ts st
type_in-step (syms.Mark marks.OpenSquare ∷ syms.Int n ∷ syms.Word words.X ∷ ts) st = refl
type_in-step (syms.Mark marks.OpenCurly ∷ syms.Mark marks.CloseCurly ∷ ts) st = refl
type_in-step (syms.Mark marks.OpenCurly ∷ ts) st = refl
type_in-step _ st = refl

type_behind-step : (ts : List Sym) (t : Ty) (o : Open) (st : List Open) → type_behind ts t (o ∷ st) ≡ (end_at t o ts >>= resume st)
type_behind-step (syms.Mark marks.CloseSquare ∷ ts) t (opens.Array n) st = refl
type_behind-step (syms.Mark marks.CloseCurly ∷ ts) t (opens.Struct fs) st = refl
type_behind-step (syms.Mark marks.Comma ∷ ts) t (opens.Struct fs) st = refl
type_behind-step _ t (opens.Array n) st = refl
type_behind-step _ t (opens.Struct fs) st = refl

pub begin_turn : (st : List Open) (ts : List Sym) (r : Step × List Sym) → begin_at ts ≡ Some r → type_in ts st ≡ on_from r.0 r.1 st
begin_turn st ts r e = type_in-step ts st ∙ ap (λ (x : Option (Step × List Sym)). x >>= resume st) e

pub inside_turn : (read : Read) (st : List Open) (s : Step) (o : Open) (ts : List Sym) (r : Step × List Sym) → read ≡ on_from s ts st → s ≡ steps.Inside o → begin_at ts ≡ Some r → read ≡ on_from r.0 r.1 (o ∷ st)
inside_turn read st s o ts r inv is e =
    inv ∙ ap (λ (x : Step). on_from x ts st) is ∙ begin_turn (o ∷ st) ts r e

pub whole_turn : (read : Read) (st : List Open) (s : Step) (t : Ty) (o : Open) (ts : List Sym) (r : Step × List Sym) → read ≡ on_from s ts (o ∷ st) → s ≡ steps.Whole t → end_at t o ts ≡ Some r → read ≡ on_from r.0 r.1 st
whole_turn read st s t o ts r inv is e =
    inv ∙ ap (λ (x : Step). on_from x ts (o ∷ st)) is ∙ type_behind-step ts t o st ∙ ap (λ (x : Option (Step × List Sym)). x >>= resume st) e

-- the same where the innermost stands last
pub inside_turn_last : (read : Read) (xs ys : List Open) (s : Step) (o : Open) (ts : List Sym) (r : Step × List Sym) → read ≡ on_from s ts (reverse xs) → s ≡ steps.Inside o → ys ≡ xs ++ o ∷ [] → begin_at ts ≡ Some r → read ≡ on_from r.0 r.1 (reverse ys)
inside_turn_last read xs ys s o ts r inv is items e =
    inside_turn read (reverse xs) s o ts r inv is e ∙ ap (on_from r.0 r.1) (sym (reverse-append xs (o ∷ [])) ∙ ap reverse (sym items))

pub whole_turn_last : (read : Read) (xs ys : List Open) (s : Step) (t : Ty) (o : Open) (ts : List Sym) (r : Step × List Sym) → read ≡ on_from s ts (reverse xs) → s ≡ steps.Whole t → xs ≡ ys ++ o ∷ [] → end_at t o ts ≡ Some r → read ≡ on_from r.0 r.1 (reverse ys)
whole_turn_last read xs ys s t o ts r inv is items e =
    whole_turn read (reverse ys) s t o ts r (inv ∙ ap (on_from s ts) (ap reverse items ∙ reverse-append ys (o ∷ []))) is e

-- the first turn, the last, and a fault
pub type_begun : (ts : List Sym) (r : Step × List Sym) → begin_at ts ≡ Some r → type_at ts ≡ on_from r.0 r.1 (reverse [])
unfolding type_at
type_begun ts r e = begin_turn [] ts r e

pub type_not_begun : (ts : List Sym) → begin_at ts ≡ None → type_at ts ≡ None
unfolding type_at
type_not_begun ts e = type_in-step ts [] ∙ ap (λ (x : Option (Step × List Sym)). x >>= resume []) e

pub inside_fault : (read : Read) (st : List Open) (s : Step) (o : Open) (ts : List Sym) → read ≡ on_from s ts st → s ≡ steps.Inside o → begin_at ts ≡ None → read ≡ None
inside_fault read st s o ts inv is e =
    inv ∙ ap (λ (x : Step). on_from x ts st) is ∙ type_in-step ts (o ∷ st) ∙ ap (λ (x : Option (Step × List Sym)). x >>= resume (o ∷ st)) e

pub whole_fault : (read : Read) (xs ys : List Open) (s : Step) (t : Ty) (o : Open) (ts : List Sym) → read ≡ on_from s ts (reverse xs) → s ≡ steps.Whole t → xs ≡ ys ++ o ∷ [] → end_at t o ts ≡ None → read ≡ None
whole_fault read xs ys s t o ts inv is items e =
    inv ∙ ap (on_from s ts) (ap reverse items ∙ reverse-append ys (o ∷ [])) ∙ ap (λ (x : Step). on_from x ts (o ∷ reverse ys)) is ∙ type_behind-step ts t o (reverse ys) ∙ ap (λ (x : Option (Step × List Sym)). x >>= resume (reverse ys)) e
