-- Written-out words, marks and blanks of the printed text.
use Rattle.std.proofs.Common.{◌≡◌, ℕ, Bool, true, false, not, ◌&&◌, ◌||◌, List, [], ◌∷◌, ◌++◌, append-nil, refl, sym}
use Rattle.std.specs.List.{list_all}
use Rattle.std.proofs.lemmas.Bool.{and_parts}
use Rattle.text_lexer.specs.Bytes.{is_blank, is_digit, is_mark, is_name_byte, is_word_start}
use Rattle.text_lexer.specs.Token.{Each}
use Rattle.text_symbols.specs.Sym.{mark_of_byte}
use Rattle.text_symbols.specs.Words.{word_of}
use Rattle.text_symbols.specs.declared.sym.Sym.{Sym}
use Rattle.text_canonical.proofs.canonical.Lexed.{Lexed, blank, mark, plain_word, same_symbols, same_text, stops, then}
use Rattle.text_symbols.specs.declared.sym.Sym.TheVariants as syms

-- a piece of a text that is written out
pub data Piece : Type 0 where
  gap : ℕ → Piece
  sign : ℕ → Piece
  name : ℕ → List ℕ → Piece

abbrev pub piece_text : Piece → List ℕ
piece_text (gap b) = b ∷ []
piece_text (sign b) = b ∷ []
piece_text (name b bs) = b ∷ bs

abbrev pub pieces_text : List Piece → List ℕ
pieces_text [] = []
pieces_text (p ∷ ps) = piece_text p ++ pieces_text ps

abbrev pub piece_symbols : Piece → List Sym
piece_symbols (gap b) = []
piece_symbols (sign b) = syms.Mark (mark_of_byte b) ∷ []
piece_symbols (name b bs) = syms.Word (word_of (b ∷ bs)) ∷ []

abbrev pub pieces_symbols : List Piece → List Sym
pieces_symbols [] = []
pieces_symbols (p ∷ ps) = piece_symbols p ++ pieces_symbols ps

-- whether a piece is what it says
abbrev pub is_piece : Piece → Bool
is_piece (gap b) = is_blank b
is_piece (sign b) = is_mark b && (not (is_word_start b) && not (is_digit b))
is_piece (name b bs) = is_word_start b && list_all is_name_byte bs

-- nothing has to stand behind it
abbrev pub is_free : Piece → Bool
is_free (gap b) = true
is_free (sign b) = true
is_free (name b bs) = false

-- each piece is what it says, and stopped by the next
abbrev pub fit : Piece → List Piece → Bool
fit p [] = is_piece p
fit p (q ∷ qs) = is_piece p && ((is_free p || stops (pieces_text (q ∷ qs))) && fit q qs)

abbrev pub ends_free : Piece → List Piece → Bool
ends_free p [] = is_free p
ends_free p (q ∷ qs) = ends_free q qs

not_true : (t : Bool) → not t ≡ true → t ≡ false
not_true true h = absurd cc
not_true false h = refl

all_each : (p : ℕ → Bool) (bs : List ℕ) → list_all p bs ≡ true → Each p bs
all_each p [] h = tt
all_each p (b ∷ bs) h = let r = and_parts (p b) (list_all p bs) h in (r.0, all_each p bs r.1)

piece : (p : Piece) → is_piece p ≡ true → Lexed (is_free p) (piece_text p) (piece_symbols p)
piece (gap b) h = blank b h
piece (sign b) h =
    let r = and_parts (is_mark b) (not (is_word_start b) && not (is_digit b)) h in
    let s = and_parts (not (is_word_start b)) (not (is_digit b)) r.1 in
    mark b (not_true (is_word_start b) s.0) (not_true (is_digit b) s.1) r.0
piece (name b bs) h =
    let r = and_parts (is_word_start b) (list_all is_name_byte bs) h in
    plain_word b bs r.0 (all_each is_name_byte bs r.1)

-- what fits is read as it says
pub fitting : (p : Piece) (ps : List Piece) → fit p ps ≡ true → Lexed (ends_free p ps) (pieces_text (p ∷ ps)) (pieces_symbols (p ∷ ps))
fitting p [] h = same_symbols (sym (append-nil (piece_symbols p))) (same_text (sym (append-nil (piece_text p))) (piece p h))
fitting p (q ∷ qs) h =
    let r = and_parts (is_piece p) ((is_free p || stops (pieces_text (q ∷ qs))) && fit q qs) h in
    let s = and_parts (is_free p || stops (pieces_text (q ∷ qs))) (fit q qs) r.1 in
    then (piece p r.0) (fitting q qs s.1) s.0

-- ---- words

abbrev pub is_word : List ℕ → Bool
is_word [] = false
is_word (b ∷ bs) = is_word_start b && list_all is_name_byte bs

-- a word by itself
pub spelled_word : (w : List ℕ) → is_word w ≡ true → Lexed false w (syms.Word (word_of w) ∷ [])
spelled_word [] h = absurd cc
spelled_word (b ∷ bs) h = piece (name b bs) h

-- a word and a space
pub word_gap : (w : List ℕ) → is_word w ≡ true → Lexed true (w ++ 32 ∷ []) (syms.Word (word_of w) ∷ [])
word_gap w h = then (spelled_word w h) (blank 32 refl) refl
