-- Texts whose tokens are known, whatever follows that can't prolong the last.
use Rattle.std.proofs.Common.{◌≡◌, ℕ, ◌+◌, ◌<◌, ◌^◌, Bool, true, false, ◌||◌, List, [], ◌∷◌, ◌++◌, ◌==◌, length, Option, None, refl, sym, ap, subst, ◌∙◌, append_assoc, append-nil, arith, decimal}
use Rattle.std.specs.Prelude.{Some as Just}
use Rattle.std.proofs.lemmas.List.{length-append}
use Rattle.ir_base.specs.declared.name.Name.{Name}
use Rattle.text_names.specs.Spelling.{spelling, IsName}
use Rattle.text_lexer.specs.Bytes.{is_blank, is_digit, is_mark, is_name_byte, is_word_start}
use Rattle.text_lexer.specs.Scan.{token_at}
use Rattle.text_lexer.specs.Token.{Each, Some}
use Rattle.text_lexer.proofs.Fronts.{other_byte}
use Rattle.text_lexer.specs.declared.token.Kind.{Kind}
use Rattle.text_symbols.specs.Listing.{symbols_of}
use Rattle.text_symbols.specs.Names.{name_of}
use Rattle.text_symbols.specs.Numbers.{fitting, value_of}
use Rattle.text_symbols.specs.Sym.{mark_of_byte, negative, positive, sym_of}
use Rattle.text_symbols.specs.Words.{word_of}
use Rattle.text_symbols.specs.declared.sym.Sym.{Sym}
use Rattle.text_symbols.proofs.Values.{at_end}
use Rattle.text_canonical.specs.canonical.Operands.{spelled}
use Rattle.text_canonical.specs.canonical.Written.{AreWritten}
use Rattle.text_canonical.proofs.canonical.Decimals.{decimal_is}
use Rattle.text_canonical.proofs.canonical.Spellings.{before_last_is, spelling_read, spelling_token}
use Rattle.text_canonical.proofs.canonical.Steps.{before, blank_said, token_said}
use Rattle.text_canonical.proofs.canonical.Tokens.{is_stop, digits_front, global_front, label_front, local_front, mark_front, negative_front, word_front}
use Rattle.text_lexer.specs.declared.token.Kind.TheVariants as kinds
use Rattle.text_symbols.specs.declared.sym.Sym.TheVariants as syms

-- a text begins with a byte that prolongs no name, number or word
abbrev pub stops : List ℕ → Bool
stops [] = false
stops (c ∷ rest) = is_stop c

-- A text says these symbols, if they can be written. Where it isn't free, what follows has to begin with a byte that can't
-- prolong its last token.
pub record Lexed (free : Bool) (w : List ℕ) (ss : List Sym) : Type 0 where
  pub says : (rest : List ℕ) → AreWritten ss → (free || stops rest) ≡ true → symbols_of (w ++ rest) ≡ before ss (symbols_of rest)

-- ---- one behind another

pub written_parts : (xs ys : List Sym) → AreWritten (xs ++ ys) → AreWritten xs × AreWritten ys
written_parts [] ys h = (tt, h)
written_parts (x ∷ xs) ys h = let r = written_parts xs ys h.1 in ((h.0, r.0), r.1)

before_before : (xs ys : List Sym) (text : List ℕ) → before xs (before ys (symbols_of text)) ≡ before (xs ++ ys) (symbols_of text)
before_before xs ys text = ap (λ (l : List Sym). record { symbols = l; whole = (symbols_of text).whole }) (sym (append_assoc xs ys (symbols_of text).symbols))

-- the second may be empty
pub join : {f g : Bool} {a b : List ℕ} {xs ys : List Sym} → Lexed f a xs → Lexed g b ys → ((rest : List ℕ) → (g || stops rest) ≡ true → (f || stops (b ++ rest)) ≡ true) → Lexed g (a ++ b) (xs ++ ys)
join {f} {g} {a} {b} {xs} {ys} first second fits = record {
  says = λ rest written h.
      let parts = written_parts xs ys written in
      ap symbols_of (append_assoc a b rest)
      ∙ first.says (b ++ rest) parts.0 (fits rest h)
      ∙ ap (before xs) (second.says rest parts.1 h)
      ∙ before_before xs ys rest;
}

stops_on : (b rest : List ℕ) (f : Bool) → (f || stops b) ≡ true → (f || stops (b ++ rest)) ≡ true
stops_on b rest true h = refl
stops_on [] rest false h = absurd cc
stops_on (c ∷ b) rest false h = h

-- the second begins with a byte that stops the first
pub then : {f g : Bool} {a b : List ℕ} {xs ys : List Sym} → Lexed f a xs → Lexed g b ys → (f || stops b) ≡ true → Lexed g (a ++ b) (xs ++ ys)
then {f} {g} {a} {b} first second h = join first second (λ rest k. stops_on b rest f h)

-- the second says nothing
pub spaced : {f g : Bool} {a b : List ℕ} {xs : List Sym} → Lexed f a xs → Lexed g b [] → (f || stops b) ≡ true → Lexed g (a ++ b) xs
spaced {f} {g} {a} {b} {xs} first second h = subst (λ (l : List Sym). Lexed g (a ++ b) l) (append-nil xs) (then first second h)

-- what is said of a text holds of the same text
pub same_text : {f : Bool} {a b : List ℕ} {xs : List Sym} → a ≡ b → Lexed f a xs → Lexed f b xs
same_text {f} {a} {b} {xs} e h = subst (λ (l : List ℕ). Lexed f l xs) e h

pub same_symbols : {f : Bool} {a : List ℕ} {xs ys : List Sym} → xs ≡ ys → Lexed f a xs → Lexed f a ys
same_symbols {f} {a} {xs} {ys} e h = subst (λ (l : List Sym). Lexed f a l) e h

pub empty : {f : Bool} → Lexed f [] []
empty = record { says = λ rest written h. refl }

-- what is free may be said not to be
pub unfree : {a : List ℕ} {xs : List Sym} → Lexed true a xs → Lexed false a xs
unfree h = record { says = λ rest written k. h.says rest written refl }

-- ---- blanks and tokens

pub blank : (b : ℕ) → is_blank b ≡ true → Lexed true (b ∷ []) []
blank b h = record { says = λ rest written k. blank_said b rest h }

-- a token that says this symbol, where a byte that stops it follows
record IsFront (w : List ℕ) (k : Kind) (s : Sym) : Type 0 where
  some : 0 < length w
  is : sym_of (k, w) ≡ s
  front : (c : ℕ) (rest : List ℕ) → is_stop c ≡ true → token_at (w ++ c ∷ rest) ≡ Just (k, length w)

stopped : {w : List ℕ} {k : Kind} {s : Sym} → (AreWritten (s ∷ []) → IsFront w k s) → Lexed false w (s ∷ [])
stopped {w} {k} {s} f = record { says = turn }
  where
    turn : (rest : List ℕ) → AreWritten (s ∷ []) → stops rest ≡ true → symbols_of (w ++ rest) ≡ before (s ∷ []) (symbols_of rest)
    turn [] written h = absurd cc
    turn (c ∷ rest) written h =
        let r = f written in
        token_said w (c ∷ rest) k r.some (r.front c rest h)
        ∙ ap (λ (t : Sym). before (t ∷ []) (symbols_of (c ∷ rest))) r.is

word_is : (w : List ℕ) → sym_of (kinds.Word, w) ≡ syms.Word (word_of w)
unfolding sym_of
word_is w = refl

pub plain_word : (b : ℕ) (bs : List ℕ) → is_word_start b ≡ true → Each is_name_byte bs → Lexed false (b ∷ bs) (syms.Word (word_of (b ∷ bs)) ∷ [])
plain_word b bs h each = stopped {k = kinds.Word} (λ written. record { some = omega arith; is = word_is (b ∷ bs); front = λ c rest stop. word_front b bs c rest h each stop })

mark_is : (b : ℕ) → sym_of (kinds.Mark, b ∷ []) ≡ syms.Mark (mark_of_byte b)
unfolding sym_of
mark_is b = refl

pub mark : (b : ℕ) → is_word_start b ≡ false → is_digit b ≡ false → is_mark b ≡ true → Lexed true (b ∷ []) (syms.Mark (mark_of_byte b) ∷ [])
mark b word digit h = record { says = λ rest written k. token_said (b ∷ []) rest kinds.Mark (omega arith) (mark_front b rest word digit h) ∙ ap (λ (t : Sym). before (t ∷ []) (symbols_of rest)) (mark_is b) }

-- ---- numbers

int_is : (ds : List ℕ) → Some is_digit ds → sym_of (kinds.Int, ds) ≡ positive (fitting (value_of ds))
unfolding sym_of
int_is [] h = absurd (omega (arith, h.0))
int_is (d ∷ ds) h = let off : (d == 45) ≡ false = other_byte is_digit d 45 h.1.0 refl in rw off refl

negative_is : (ds : List ℕ) → sym_of (kinds.Int, 45 ∷ ds) ≡ negative (fitting (value_of ds))
unfolding sym_of
negative_is ds = refl

pub number : (n : ℕ) → Lexed false (decimal n) (syms.Int n ∷ [])
number n = stopped {k = kinds.Int} (λ written. front written.0)
  where
    front : n < 2 ^ 64 → IsFront (decimal n) kinds.Int (syms.Int n)
    front h =
        let d = decimal_is n h in
        record {
          some = d.0.0;
          is = int_is (decimal n) d.0 ∙ ap positive (at_end (decimal n) n d.1 h);
          front = λ c rest stop. digits_front (decimal n) c rest d.0 stop;
        }

pub negative_number : (n : ℕ) → Lexed false (45 ∷ decimal n) (syms.Negative n ∷ [])
negative_number n = stopped {k = kinds.Int} (λ written. front written.0)
  where
    front : n < 2 ^ 64 → IsFront (45 ∷ decimal n) kinds.Int (syms.Negative n)
    front h =
        let d = decimal_is n h in
        record {
          some = omega arith;
          is = negative_is (decimal n) ∙ ap negative (at_end (decimal n) n d.1 h);
          front = λ c rest stop. negative_front (decimal n) c rest d.0 stop;
        }

-- ---- names

local_is : (w : List ℕ) → sym_of (kinds.Local, 37 ∷ w) ≡ syms.Local (name_of w)
unfolding sym_of
local_is w = refl

pub local : (o : Option Name) → Lexed false (37 ∷ spelled o) (syms.Local o ∷ [])
local None = record { says = λ rest written h. absurd written.0 }
local (Just n) = stopped {k = kinds.Local} (λ written. record {
  some = omega arith;
  is = local_is (spelling n) ∙ ap (λ (o : Option Name). syms.Local o) (spelling_read n written.0);
  front = λ c rest stop. local_front (spelling n) c rest (spelling_token n written.0) stop;
})

global_is : (w : List ℕ) → sym_of (kinds.Global, 64 ∷ w) ≡ syms.Global (name_of w)
unfolding sym_of
global_is w = refl

pub global : (n : Name) → Lexed false (64 ∷ spelling n) (syms.Global (Just n) ∷ [])
global n = stopped {k = kinds.Global} (λ written. record {
  some = omega arith;
  is = global_is (spelling n) ∙ ap (λ (o : Option Name). syms.Global o) (spelling_read n written.0);
  front = λ c rest stop. global_front (spelling n) c rest (spelling_token n written.0) stop;
})

label_is : (w : List ℕ) → sym_of (kinds.Label, w ++ 58 ∷ []) ≡ syms.Label (name_of w)
unfolding sym_of
label_is w = ap (λ (l : List ℕ). syms.Label (name_of l)) (before_last_is w 58)

pub label : (o : Option Name) → Lexed true (spelled o ++ 58 ∷ []) (syms.Label o ∷ [])
label None = record { says = λ rest written h. absurd written.0 }
label (Just n) = record { says = λ rest written h. turn rest written.0 }
  where
    turn : (rest : List ℕ) → IsName n → symbols_of ((spelling n ++ 58 ∷ []) ++ rest) ≡ before (syms.Label (Just n) ∷ []) (symbols_of rest)
    turn rest h =
        let len : length (spelling n ++ 58 ∷ []) ≡ length (spelling n) + 1 = length-append (spelling n) (58 ∷ []) in
        let front : token_at ((spelling n ++ 58 ∷ []) ++ rest) ≡ Just (kinds.Label, length (spelling n ++ 58 ∷ [])) =
        ap token_at (append_assoc (spelling n) (58 ∷ []) rest) ∙ label_front (spelling n) rest (spelling_token n h) ∙ ap (λ (m : ℕ). Just (kinds.Label, m)) (sym len) in
        token_said (spelling n ++ 58 ∷ []) rest kinds.Label (omega (arith, len)) front
        ∙ ap (λ (t : Sym). before (t ∷ []) (symbols_of rest)) (label_is (spelling n) ∙ ap (λ (o : Option Name). syms.Label o) (spelling_read n h))
