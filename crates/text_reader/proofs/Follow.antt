-- What may follow attributes, instructions and lines (docs/TEXT.md).
use Rattle.std.proofs.Common.{◌≡◌, ℕ, Bool, List, [], ◌∷◌, map, Option, None, refl, sym, ap, subst, ◌∙◌, inl, inr}
use Rattle.std.specs.Prelude.{Some}
use Rattle.text_grammar.specs.Attributes.{Attr, presplit, in_group, plain_attr, IsAttr, attributes, metadata, pairs}
use Rattle.text_grammar.specs.Phrases.{each, these}
use Rattle.text_grammar.specs.Types.{IsType, IsResult}
use Rattle.text_grammar.proofs.Takes.{attr_takes}
use Rattle.text_lexer.specs.Lists.{all_at}
use Rattle.ir_model.specs.Ty.{Ty, int, ptr, token, array, structure, named}
use Rattle.text_reader.specs.Attrs.{attr_at, any_true, attrs_at, behind_attrs}
use Rattle.text_reader.specs.Reading.{behind_metadata, behind_pairs}
use Rattle.text_symbols.specs.declared.sym.Mark.TheVariants as marks
use Rattle.text_symbols.specs.declared.sym.Sym.{Sym}
use Rattle.text_symbols.specs.declared.sym.Sym.TheVariants as syms
use Rattle.text_symbols.specs.declared.word.Word.TheVariants as words
use Rattle.text_reader.proofs.AttrsRead.{EndsAttr, makes, Told, attr_found, attr_again}
use Rattle.text_reader.proofs.ListsRead.{all_found, all_again}

-- no attribute, and nothing that would belong to the attribute before
abbrev pub EndsAttrs : List Sym → Type 0
EndsAttrs (syms.Mark marks.OpenRound ∷ ts) = ⊥
EndsAttrs (syms.Mark marks.Equals ∷ ts) = ⊥
EndsAttrs (syms.Word words.Attr ∷ ts) = ⊥
EndsAttrs (syms.Word words.Comdat ∷ ts) = ⊥
EndsAttrs (syms.Word words.Align ∷ ts) = ⊥
EndsAttrs (syms.Word words.Presplitcoroutine ∷ ts) = ⊥
EndsAttrs (syms.Group g ∷ ts) = ⊥
EndsAttrs (syms.Str ∷ ts) = ⊥
EndsAttrs _ = Unit {0}

-- the same, and no comma
abbrev pub EndsLine : List Sym → Type 0
EndsLine (syms.Mark marks.Comma ∷ ts) = ⊥
EndsLine ts = EndsAttrs ts

-- the same, but for the comma of metadata
abbrev pub EndsInstr : List Sym → Type 0
EndsInstr (syms.Mark marks.Comma ∷ syms.Meta ∷ ts) = Unit {0}
EndsInstr (syms.Mark marks.Comma ∷ ts) = ⊥
EndsInstr ts = EndsAttrs ts

pub line_ends_instr : (ts : List Sym) → EndsLine ts → EndsInstr ts
line_ends_instr (syms.Mark marks.Comma ∷ ts) h = absurd h
line_ends_instr _ h = h

pub line_ends_attrs : (ts : List Sym) → EndsLine ts → EndsAttrs ts
line_ends_attrs (syms.Mark marks.Comma ∷ ts) h = absurd h
line_ends_attrs _ h = h

pub instr_ends_attrs : (ts : List Sym) → EndsInstr ts → EndsAttrs ts
instr_ends_attrs (syms.Mark marks.Comma ∷ ts) h = tt
instr_ends_attrs _ h = h

-- ---- attributes

ends_attr : (ts : List Sym) → EndsAttrs ts → EndsAttr ts
ends_attr (syms.Mark marks.OpenRound ∷ ts) h = absurd h
ends_attr (syms.Mark marks.Equals ∷ ts) h = absurd h
ends_attr _ h = tt

ends_none : (gs : List (List ℕ)) (ts : List Sym) → EndsAttrs ts → attr_at gs ts ≡ None
unfolding attr_at
ends_none gs (syms.Word words.Attr ∷ ts) h = absurd h
ends_none gs (syms.Word words.Comdat ∷ ts) h = absurd h
ends_none gs (syms.Word words.Align ∷ ts) h = absurd h
ends_none gs (syms.Word words.Presplitcoroutine ∷ ts) h = absurd h
ends_none gs (syms.Group g ∷ ts) h = absurd h
ends_none gs (syms.Str ∷ ts) h = absurd h
ends_none gs _ h = refl

attr_starts : (a : Attr) (ts rest : List Sym) → IsAttr a ts rest → EndsAttr ts
attr_starts presplit ts rest h = rw h tt
attr_starts (in_group g) ts rest h = rw h tt
attr_starts plain_attr ts rest (inl h) = rw h.1 tt
attr_starts plain_attr ts rest (inr (inl h)) = rw h.1 tt
attr_starts plain_attr ts rest (inr (inr (inl h))) = rw h.1 tt
attr_starts plain_attr ts rest (inr (inr (inr h))) = rw h.1 tt

-- what attributes tell is as many things as there are attributes
abbrev Attributes : List (List ℕ) → List Bool → List Sym → List Sym → Type 0
Attributes gs told ts rest = (attrs : List Attr) × each IsAttr attrs ts rest × (told ≡ map (makes gs) attrs)

told_attributes : (gs : List (List ℕ)) (told : List Bool) (ts rest : List Sym) → each (Told gs) told ts rest → Attributes gs told ts rest
told_attributes gs [] ts rest h = ([], h, refl)
told_attributes gs (b ∷ told) ts rest h =
    let a : Attr = h.1.0 in
    let more : Attributes gs told h.0 rest = told_attributes gs told h.0 rest h.2 in
    (a ∷ more.0, (h.0, h.1.1, more.1), ap (λ (c : Bool). c ∷ told) h.1.2 ∙ ap (λ (l : List Bool). makes gs a ∷ l) more.2)

attributes_told : (gs : List (List ℕ)) (attrs : List Attr) (ts rest : List Sym) → each IsAttr attrs ts rest → each (Told gs) (map (makes gs) attrs) ts rest
attributes_told gs [] ts rest h = h
attributes_told gs (a ∷ attrs) ts rest h = (h.0, (a, h.1, refl), attributes_told gs attrs h.0 rest h.2)

-- the attributes that stand there, by whether they make a coroutine where these groups do
pub record AttrsFound (gs : List (List ℕ)) (ts : List Sym) (told : Bool) (rest : List Sym) : Type 0 where
  pub attrs : List Attr
  pub are : each IsAttr attrs ts rest
  pub made : told ≡ any_true (map (makes gs) attrs)

pub attrs_found : (gs : List (List ℕ)) (ts : List Sym) → AttrsFound gs ts (attrs_at gs ts).0 (attrs_at gs ts).1
attrs_found gs ts =
    let a : Attributes gs (all_at (attr_at gs) ts).0 ts (all_at (attr_at gs) ts).1 = told_attributes gs _ ts _ (all_found (Told gs) (attr_at gs) (attr_found gs) ts) in
    record { attrs = a.0; are = a.1; made = ap any_true a.2 }

told_again : (gs : List (List ℕ)) (b : Bool) (ts rest : List Sym) → Told gs b ts rest → EndsAttr rest → attr_at gs ts ≡ Some (b, rest)
told_again gs b ts rest h ends = attr_again gs h.0 ts rest h.1 ends ∙ ap (λ (c : Bool). Some (c, rest)) (sym h.2)

pub attrs_again : (gs : List (List ℕ)) (attrs : List Attr) (ts rest : List Sym) → each IsAttr attrs ts rest → EndsAttrs rest → attrs_at gs ts ≡ (any_true (map (makes gs) attrs), rest)
attrs_again gs attrs ts rest h ends =
    ap (λ (r : List Bool × List Sym). (any_true r.0, r.1))
    (all_again (Told gs) (attr_at gs) EndsAttr (λ b us r k. attr_takes k.0 us r k.1) (told_again gs) (λ b us r k. attr_starts k.0 us r k.1) (map (makes gs) attrs) ts rest (attributes_told gs attrs ts rest h) (ends_attr rest ends) (ends_none gs rest ends))

pub behind_attrs_found : (ts : List Sym) → attributes ts (behind_attrs ts)
behind_attrs_found ts = let a = attrs_found [] ts in (a.attrs, a.are)

pub behind_attrs_again : (ts rest : List Sym) → attributes ts rest → EndsAttrs rest → behind_attrs ts ≡ rest
behind_attrs_again ts rest h ends = ap (λ (r : Bool × List Sym). r.1) (attrs_again [] h.0 ts rest h.1 ends)

-- ---- metadata

pub metadata_found : (ts : List Sym) → metadata ts (behind_metadata ts)
metadata_found (syms.Mark marks.Comma ∷ syms.Meta ∷ syms.Meta ∷ ts) = let r = metadata_found ts in (tt ∷ r.0, (ts, refl, r.1))
metadata_found _ = ([], refl)

no_metadata : (ts : List Sym) → EndsLine ts → behind_metadata ts ≡ ts
no_metadata (syms.Mark marks.Comma ∷ ts) h = absurd h
no_metadata _ h = refl

metadata_each : (us : List (Unit {0})) (ts rest : List Sym) → each (λ u. these (syms.Mark marks.Comma ∷ syms.Meta ∷ syms.Meta ∷ [])) us ts rest → EndsLine rest → behind_metadata ts ≡ rest
metadata_each [] ts rest h ends = ap behind_metadata h ∙ no_metadata rest ends
metadata_each (u ∷ us) ts rest h ends = ap behind_metadata h.1 ∙ metadata_each us h.0 rest h.2 ends

pub metadata_again : (ts rest : List Sym) → metadata ts rest → EndsLine rest → behind_metadata ts ≡ rest
metadata_again ts rest h ends = metadata_each h.0 ts rest h.1 ends

metadata_each_starts : (us : List (Unit {0})) (ts rest : List Sym) → each (λ u. these (syms.Mark marks.Comma ∷ syms.Meta ∷ syms.Meta ∷ [])) us ts rest → EndsLine rest → EndsInstr ts
metadata_each_starts [] ts rest h ends = subst EndsInstr (sym h) (line_ends_instr rest ends)
metadata_each_starts (u ∷ us) ts rest h ends = rw h.1 tt

pub metadata_starts : (ts rest : List Sym) → metadata ts rest → EndsLine rest → EndsInstr ts
metadata_starts ts rest h ends = metadata_each_starts h.0 ts rest h.1 ends

pub pairs_found : (ts : List Sym) → pairs ts (behind_pairs ts)
pairs_found (syms.Meta ∷ syms.Meta ∷ ts) = let r = pairs_found ts in (tt ∷ r.0, (ts, refl, r.1))
pairs_found _ = ([], refl)

pairs_each : (us : List (Unit {0})) (ts rest : List Sym) → each (λ u. these (syms.Meta ∷ syms.Meta ∷ [])) us ts (syms.Mark marks.OpenCurly ∷ rest) → behind_pairs ts ≡ syms.Mark marks.OpenCurly ∷ rest
pairs_each [] ts rest h = ap behind_pairs h
pairs_each (u ∷ us) ts rest h = ap behind_pairs h.1 ∙ pairs_each us h.0 rest h.2

-- pairs of metadata before a body
pub pairs_again : (ts rest : List Sym) → pairs ts (syms.Mark marks.OpenCurly ∷ rest) → behind_pairs ts ≡ syms.Mark marks.OpenCurly ∷ rest
pairs_again ts rest h = pairs_each h.0 ts rest h.1

pub pairs_ends : (us : List (Unit {0})) (ts rest : List Sym) → each (λ u. these (syms.Meta ∷ syms.Meta ∷ [])) us ts (syms.Mark marks.OpenCurly ∷ rest) → EndsAttrs ts
pairs_ends [] ts rest h = rw h tt
pairs_ends (u ∷ us) ts rest h = rw h.1 tt

-- ---- types and results begin no attribute

pub type_starts : (t : Ty) (ts rest : List Sym) → IsType t ts rest → EndsAttrs ts
type_starts (int n) ts rest h = rw h.2 tt
type_starts ptr ts rest h = rw h tt
type_starts token ts rest h = rw h tt
type_starts (array n t) ts rest h = rw h.1 tt
type_starts (structure fs) ts rest h = rw h.1 tt
type_starts (named n) ts rest h = rw h tt

pub result_starts : (t : Option Ty) (ts rest : List Sym) → IsResult t ts rest → EndsAttrs ts
result_starts None ts rest h = rw h tt
result_starts (Some t) ts rest h = type_starts t ts rest h
