-- Types: what is read is of the grammar, and what is of the grammar is read.
use Rattle.std.proofs.Common.{◌≡◌, ℕ, List, [], ◌∷◌, ◌++◌, Option, None, refl, sym, ap, subst, ◌∙◌, append_assoc}
use Rattle.std.specs.Prelude.{Some, IfSome, option_map}
use Rattle.ir_base.specs.declared.name.Name.{Name}
use Rattle.ir_model.specs.Ty.{Ty, Tys, int, ptr, token, array, structure, named, none, field, to_tys}
use Rattle.text_grammar.specs.Phrases.{◌⨾◌, nothing, mark}
use Rattle.text_grammar.specs.Types.{IsType, AreFields}
use Rattle.text_reader.specs.Types.{word_type, type_in, type_behind, behind_word, type_at}
use Rattle.text_reader.specs.declared.types.Open.{Open}
use Rattle.text_reader.specs.declared.types.Open.TheVariants as opens
use Rattle.text_symbols.specs.declared.sym.Mark.TheVariants as marks
use Rattle.text_symbols.specs.declared.sym.Sym.{Sym}
use Rattle.text_symbols.specs.declared.sym.Sym.TheVariants as syms
use Rattle.text_symbols.specs.declared.word.Word.{Word}
use Rattle.text_symbols.specs.declared.word.Word.TheVariants as words

-- ---- a type of the grammar is read

-- no closing bracket at the front
abbrev no_close : List Sym → Type 0
no_close (syms.Mark marks.CloseCurly ∷ ts) = ⊥
no_close _ = Unit {0}

type_front : (t : Ty) (ts rest : List Sym) → IsType t ts rest → no_close ts
type_front (int n) ts rest h = rw h.2 tt
type_front ptr ts rest h = rw h tt
type_front token ts rest h = rw h tt
type_front (array n t) ts rest h = rw h.1 tt
type_front (structure fs) ts rest h = rw h.1 tt
type_front (named n) ts rest h = rw h tt

open_structure : (ts : List Sym) (st : List Open) → no_close ts → type_in (syms.Mark marks.OpenCurly ∷ ts) st ≡ type_in ts (opens.Struct [] ∷ st)
open_structure (syms.Mark marks.CloseCurly ∷ ts) st h = absurd h
open_structure _ st h = refl

abbrev fields_of : Tys → List Ty
fields_of none = []
fields_of (field t ts) = t ∷ fields_of ts

to_tys-fields_of : (fs : Tys) → to_tys (fields_of fs) ≡ fs
to_tys-fields_of none = refl
to_tys-fields_of (field t ts) = ap (field t) (to_tys-fields_of ts)

snoc_cons : (xs : List Ty) (y : Ty) (ys : List Ty) → (xs ++ y ∷ []) ++ ys ≡ xs ++ y ∷ ys
snoc_cons xs y ys = append_assoc xs (y ∷ []) ys

fields_front : (t : Ty) (fs : Tys) (ts rest : List Sym) → AreFields (field t fs) ts rest → no_close ts
fields_front t none ts rest h = type_front t ts rest h
fields_front t (field u fs) ts rest h = type_front t ts h.0 h.1

abbrev IsSome : Tys → Type 0
IsSome none = ⊥
IsSome (field t fs) = Unit {0}

mutual
  pub type_in_again : (t : Ty) (ts rest : List Sym) (st : List Open) → IsType t ts rest → type_in ts st ≡ type_behind rest t st
  type_in_again (int n) ts rest st h = ap (λ (x : List Sym). type_in x st) h.2 ∙ ap (λ (x : ℕ). type_behind rest (int x) st) (sym h.1)
  type_in_again ptr ts rest st h = ap (λ (x : List Sym). type_in x st) h
  type_in_again token ts rest st h = ap (λ (x : List Sym). type_in x st) h
  type_in_again (array n t) ts rest st h =
      ap (λ (x : List Sym). type_in x st) h.1
      ∙ type_in_again t h.0 h.2.0 (opens.Array n ∷ st) h.2.1
      ∙ ap (λ (x : List Sym). type_behind x t (opens.Array n ∷ st)) h.2.2
  type_in_again (structure none) ts rest st h =
      ap (λ (x : List Sym). type_in x st) (h.1 ∙ ap (λ (x : List Sym). syms.Mark marks.OpenCurly ∷ x) (h.2.1 ∙ h.2.2))
  type_in_again (structure (field t fs)) ts rest st h =
      ap (λ (x : List Sym). type_in x st) h.1
      ∙ open_structure h.0 st (fields_front t fs h.0 h.2.0 h.2.1)
      ∙ fields_again (field t fs) [] h.0 h.2.0 rest st tt h.2.1 h.2.2
      ∙ ap (λ (x : Tys). type_behind rest (structure (field t x)) st) (to_tys-fields_of fs)
  type_in_again (named n) ts rest st h = ap (λ (x : List Sym). type_in x st) h

  fields_again : (fs : Tys) (done : List Ty) (ts end rest : List Sym) (st : List Open) → IsSome fs → AreFields fs ts end → end ≡ syms.Mark marks.CloseCurly ∷ rest → type_in ts (opens.Struct done ∷ st) ≡ type_behind rest (structure (to_tys (done ++ fields_of fs))) st
  fields_again none done ts end rest st some h e = absurd some
  fields_again (field t none) done ts end rest st some h e =
      type_in_again t ts end (opens.Struct done ∷ st) h ∙ ap (λ (x : List Sym). type_behind x t (opens.Struct done ∷ st)) e
  fields_again (field t (field u fs)) done ts end rest st some h e =
      type_in_again t ts h.0 (opens.Struct done ∷ st) h.1
      ∙ ap (λ (x : List Sym). type_behind x t (opens.Struct done ∷ st)) h.2.1
      ∙ fields_again (field u fs) (done ++ t ∷ []) h.2.0 end rest st tt h.2.2 e
      ∙ ap (λ (x : List Ty). type_behind rest (structure (to_tys x)) st) (snoc_cons done t (fields_of (field u fs)))

pub type_again : (t : Ty) (ts rest : List Sym) → IsType t ts rest → type_at ts ≡ Some (t, rest)
unfolding type_at
type_again t ts rest h = type_in_again t ts rest [] h

-- ---- what is read is a type of the grammar

-- fields, a comma behind each
abbrev AreDone : List Ty → List Sym → List Sym → Type 0
AreDone [] = nothing
AreDone (t ∷ fs) = IsType t ⨾ mark marks.Comma ⨾ AreDone fs

AreDone-snoc : (fs : List Ty) (t : Ty) (ts mid rest : List Sym) → AreDone fs ts mid → IsType t mid (syms.Mark marks.Comma ∷ rest) → AreDone (fs ++ t ∷ []) ts rest
AreDone-snoc [] t ts mid rest h k = (syms.Mark marks.Comma ∷ rest, subst (λ (x : List Sym). IsType t x (syms.Mark marks.Comma ∷ rest)) (sym h) k, (rest, refl, refl))
AreDone-snoc (f ∷ fs) t ts mid rest h k = (h.0, h.1, (h.2.0, h.2.1, AreDone-snoc fs t h.2.0 mid rest h.2.2 k))

AreFields-done : (fs : List Ty) (t : Ty) (ts mid rest : List Sym) → AreDone fs ts mid → IsType t mid rest → AreFields (to_tys (fs ++ t ∷ [])) ts rest
AreFields-done [] t ts mid rest h k = subst (λ (x : List Sym). IsType t x rest) (sym h) k
AreFields-done (f ∷ []) t ts mid rest h k = (h.0, h.1, (h.2.0, h.2.1, AreFields-done [] t h.2.0 mid rest h.2.2 k))
AreFields-done (f ∷ g ∷ fs) t ts mid rest h k = (h.0, h.1, (h.2.0, h.2.1, AreFields-done (g ∷ fs) t h.2.0 mid rest h.2.2 k))

-- the symbols from the start up to here opened what is open
abbrev Opened : List Open → List Sym → List Sym → Type 0
Opened [] start ts = start ≡ ts
Opened (opens.Array n ∷ st) start ts = (mid : List Sym) × Opened st start mid × (mid ≡ syms.Mark marks.OpenSquare ∷ syms.Int n ∷ syms.Word words.X ∷ ts)
Opened (opens.Struct fs ∷ st) start ts = (mid inside : List Sym) × Opened st start mid × (mid ≡ syms.Mark marks.OpenCurly ∷ inside) × AreDone fs inside ts

abbrev Finds : List Sym → Option (Ty × List Sym) → Type 0
Finds start o = IfSome o (λ r. IsType r.0 start r.1)

word_type_is : (w : Word) (ts : List Sym) → IfSome (word_type w) (λ t. IsType t (syms.Word w ∷ ts) ts)
word_type_is (words.Int w) ts = (w, refl, refl)
word_type_is words.Ptr ts = refl
word_type_is words.Token ts = refl
word_type_is _ ts = tt

local_type_is : (n : Option Name) (ts : List Sym) → IfSome (option_map named n) (λ t. IsType t (syms.Local n ∷ ts) ts)
local_type_is None ts = tt
local_type_is (Some n) ts = refl

behind_word_found : (o : Option Ty) (start ts rest : List Sym) (go : Ty → Option (Ty × List Sym)) → IfSome o (λ t. IsType t ts rest) → ((t : Ty) → IsType t ts rest → Finds start (go t)) → Finds start (behind_word o go)
behind_word_found None start ts rest go h k = tt
behind_word_found (Some t) start ts rest go h k = k t h

mutual
  in_found : (ts : List Sym) (st : List Open) (start : List Sym) → Opened st start ts → Finds start (type_in ts st)
  in_found (syms.Word w ∷ ts) st start s =
      behind_word_found (word_type w) start (syms.Word w ∷ ts) ts _ (word_type_is w ts) (λ t h. behind_found ts t st start (syms.Word w ∷ ts) s h)
  in_found (syms.Local n ∷ ts) st start s =
      behind_word_found (option_map named n) start (syms.Local n ∷ ts) ts _ (local_type_is n ts) (λ t h. behind_found ts t st start (syms.Local n ∷ ts) s h)
  in_found (syms.Mark marks.OpenSquare ∷ syms.Int n ∷ syms.Word words.X ∷ ts) st start s =
      in_found ts (opens.Array n ∷ st) start (syms.Mark marks.OpenSquare ∷ syms.Int n ∷ syms.Word words.X ∷ ts, s, refl)
  in_found (syms.Mark marks.OpenCurly ∷ syms.Mark marks.CloseCurly ∷ ts) st start s =
      behind_found ts (structure none) st start (syms.Mark marks.OpenCurly ∷ syms.Mark marks.CloseCurly ∷ ts) s (syms.Mark marks.CloseCurly ∷ ts, refl, (syms.Mark marks.CloseCurly ∷ ts, refl, refl))
  in_found (syms.Mark marks.OpenCurly ∷ ts) st start s =
      in_found ts (opens.Struct [] ∷ st) start (syms.Mark marks.OpenCurly ∷ ts, ts, s, refl, refl)
  in_found _ st start s = tt

  behind_found : (ts : List Sym) (u : Ty) (st : List Open) (start mid : List Sym) → Opened st start mid → IsType u mid ts → Finds start (type_behind ts u st)
  behind_found ts u [] start mid s h = subst (λ (x : List Sym). IsType u x ts) (sym s) h
  behind_found (syms.Mark marks.CloseSquare ∷ ts) u (opens.Array n ∷ st) start mid s h =
      behind_found ts (array n u) st start s.0 s.1 (mid, s.2, (syms.Mark marks.CloseSquare ∷ ts, h, refl))
  behind_found (syms.Mark marks.CloseCurly ∷ ts) u (opens.Struct fs ∷ st) start mid s h =
      behind_found ts (structure (to_tys (fs ++ u ∷ []))) st start s.0 s.2 (s.1, s.3, (syms.Mark marks.CloseCurly ∷ ts, AreFields-done fs u s.1 mid (syms.Mark marks.CloseCurly ∷ ts) s.4 h, refl))
  behind_found (syms.Mark marks.Comma ∷ ts) u (opens.Struct fs ∷ st) start mid s h =
      in_found ts (opens.Struct (fs ++ u ∷ []) ∷ st) start (s.0, s.1, s.2, s.3, AreDone-snoc fs u s.1 mid ts s.4 h)
  behind_found _ u (o ∷ st) start mid s h = tt

pub type_found : (ts : List Sym) → IfSome (type_at ts) (λ r. IsType r.0 ts r.1)
unfolding type_at
type_found ts = in_found ts [] ts refl
