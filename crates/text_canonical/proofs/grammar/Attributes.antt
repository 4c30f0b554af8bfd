-- What is read and not kept leaves sound symbols behind it.
use Rattle.std.proofs.Common.{List, [], ◌∷◌, refl}
use Rattle.text_symbols.specs.declared.sym.Sym.{Sym}
use Rattle.text_grammar.specs.Attributes.{Attr, presplit, in_group, plain_attr, Balanced, empty, other, nested, IsAttr, any, any_integer, attributes, curly_text, metadata, pairs, round_text}
use Rattle.text_grammar.specs.Phrases.{Phrase, ◌⨾◌, each, mark, nothing, perhaps, these, word}
use Rattle.text_canonical.proofs.grammar.Again.{Again, AreSound, Leaves, left_out, leaves_each, leaves_nothing, leaves_or, leaves_seq, leaves_these}
use Rattle.text_symbols.specs.declared.sym.Mark.TheVariants as marks
use Rattle.text_symbols.specs.declared.sym.Sym.TheVariants as syms
use Rattle.text_symbols.specs.declared.word.Word.TheVariants as words

balanced_left : {ts rest : List Sym} → Balanced ts rest → AreSound ts → AreSound rest
balanced_left empty h = h
balanced_left (other e b) h = balanced_left b h.1
balanced_left (nested p inner outer) h = balanced_left outer (balanced_left inner h.1).1

leaves_balanced : Leaves Balanced
leaves_balanced ts rest b h = balanced_left b h

leaves_perhaps : (P : Phrase) → Leaves P → Leaves (perhaps P)
leaves_perhaps P p = leaves_or P nothing p leaves_nothing

pub leaves_round : Leaves round_text
leaves_round =
    leaves_seq (mark marks.OpenRound) (Balanced ⨾ mark marks.CloseRound) (leaves_these (syms.Mark marks.OpenRound ∷ []))
    (leaves_seq Balanced (mark marks.CloseRound) leaves_balanced (leaves_these (syms.Mark marks.CloseRound ∷ [])))

pub leaves_curly : Leaves curly_text
leaves_curly =
    leaves_seq (mark marks.OpenCurly) (Balanced ⨾ mark marks.CloseCurly) (leaves_these (syms.Mark marks.OpenCurly ∷ []))
    (leaves_seq Balanced (mark marks.CloseCurly) leaves_balanced (leaves_these (syms.Mark marks.CloseCurly ∷ [])))

leaves_integer : Leaves any_integer
leaves_integer ts rest d h =
    leaves_or (these (syms.Int d.0 ∷ [])) (these (syms.Negative d.0 ∷ [])) (leaves_these (syms.Int d.0 ∷ [])) (leaves_these (syms.Negative d.0 ∷ [])) ts rest d.1 h

pub leaves_attr : (a : Attr) → Leaves (IsAttr a)
leaves_attr presplit = leaves_these (syms.Word words.Presplitcoroutine ∷ [])
leaves_attr (in_group g) = leaves_these (syms.Group g ∷ [])
leaves_attr plain_attr =
    leaves_or _ _ (leaves_seq (word words.Attr) (perhaps round_text) (leaves_these (syms.Word words.Attr ∷ [])) (leaves_perhaps round_text leaves_round))
    (leaves_or _ _ (leaves_seq (word words.Comdat) (perhaps round_text) (leaves_these (syms.Word words.Comdat ∷ [])) (leaves_perhaps round_text leaves_round))
    (leaves_or _ _ (leaves_seq (word words.Align) (perhaps (mark marks.Equals) ⨾ any_integer) (leaves_these (syms.Word words.Align ∷ []))
    (leaves_seq (perhaps (mark marks.Equals)) any_integer (leaves_perhaps (mark marks.Equals) (leaves_these (syms.Mark marks.Equals ∷ []))) leaves_integer))
    (leaves_seq (these (syms.Str ∷ [])) (perhaps (these (syms.Mark marks.Equals ∷ syms.Str ∷ []))) (leaves_these (syms.Str ∷ []))
    (leaves_perhaps (these (syms.Mark marks.Equals ∷ syms.Str ∷ [])) (leaves_these (syms.Mark marks.Equals ∷ syms.Str ∷ []))))))

pub leaves_attrs : (attrs : List Attr) → Leaves (each IsAttr attrs)
leaves_attrs attrs = leaves_each IsAttr leaves_attr attrs

leaves_attributes : Leaves attributes
leaves_attributes ts rest d h = leaves_attrs d.0 ts rest d.1 h

-- attributes and metadata aren't printed
pub attributes_again : (ts rest : List Sym) → attributes ts rest → Again attributes [] ts rest
attributes_again ts rest d = left_out leaves_attributes d (λ behind. ([], refl))

leaves_any : (P : Phrase) → Leaves P → Leaves (any P)
leaves_any P p ts rest d h = leaves_each (λ (u : Unit {0}). P) (λ u. p) d.0 ts rest d.1 h

pub metadata_again : (ts rest : List Sym) → metadata ts rest → Again metadata [] ts rest
metadata_again ts rest d =
    left_out (leaves_any (these (syms.Mark marks.Comma ∷ syms.Meta ∷ syms.Meta ∷ [])) (leaves_these (syms.Mark marks.Comma ∷ syms.Meta ∷ syms.Meta ∷ []))) d (λ behind. ([], refl))

pub pairs_again : (ts rest : List Sym) → pairs ts rest → Again pairs [] ts rest
pairs_again ts rest d =
    left_out (leaves_any (these (syms.Meta ∷ syms.Meta ∷ [])) (leaves_these (syms.Meta ∷ syms.Meta ∷ []))) d (λ behind. ([], refl))
