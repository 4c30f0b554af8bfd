-- The tokens of printed types.
use Rattle.std.proofs.Common.{◌≡◌, ℕ, ◌+◌, ◌/◌, ◌%◌, ◌<◌, ◌≤◌, Bool, true, false, cond, ◌==◌, List, [], ◌∷◌, ◌++◌, codes, decimal, refl, sym, ap, ◌∙◌, arith}
use Rattle.std.proofs.lemmas.Fmt.{decimal_digit, decimal_step}
use Rattle.std.specs.Prelude.{Some}
use Rattle.std.proofs.lemmas.Bool.{eqb-true}
use Rattle.ir_model.specs.Ty.{Ty, Tys, array, field, int, named, none, ptr, structure, token}
use Rattle.ir_model.specs.declared.ir_type.IntWidth.{IntWidth}
use Rattle.text_symbols.specs.declared.sym.Sym.{Sym}
use Rattle.text_canonical.specs.canonical.Marks.{word}
use Rattle.text_canonical.specs.canonical.Types.{type_text, fields_text}
use Rattle.text_canonical.specs.canonical.TypeSymbols.{int_symbol, type_symbols, fields_symbols}
use Rattle.text_canonical.proofs.canonical.Lexed.{Lexed, empty, join, local, number, same_text, stops, then, unfree}
use Rattle.text_canonical.proofs.canonical.WordsLexed.{comma_space, curly_both, curly_space, i1_lexed, i8_lexed, i16_lexed, i32_lexed, i64_lexed, ptr_lexed, space_curly, square_close, square_open, token_lexed, x_lexed}
use Rattle.text_symbols.specs.declared.sym.Sym.TheVariants as syms
use Rattle.text_symbols.specs.declared.word.Word.TheVariants as words

-- ---- integer types

-- a symbol where the width is this one, another where not
either : (w n : ℕ) (s t : Sym) (same : Bool) → (w == n) ≡ same → Lexed false (codes "i" ++ decimal n) (s ∷ []) → Lexed false (codes "i" ++ decimal w) (t ∷ []) → Lexed false (codes "i" ++ decimal w) (cond same s t ∷ [])
either w n s t true e first second = same_text (ap (λ (k : ℕ). codes "i" ++ decimal k) (sym (eqb-true w n e))) first
either w n s t false e first second = second

unwritten : (w : List ℕ) → Lexed false w (syms.LongInt ∷ [])
unwritten w = record { says = λ rest written h. absurd written.0 }

one_digit : (n : ℕ) (s : Sym) → n < 10 → Lexed false (105 ∷ (48 + n) ∷ []) (s ∷ []) → Lexed false (codes "i" ++ decimal n) (s ∷ [])
one_digit n s small h = same_text (ap (λ (l : List ℕ). 105 ∷ l) (sym (decimal_digit n small))) h

two_digits : (n : ℕ) (s : Sym) → 10 ≤ n → n < 100 → Lexed false (105 ∷ (48 + n / 10) ∷ (48 + n % 10) ∷ []) (s ∷ []) → Lexed false (codes "i" ++ decimal n) (s ∷ [])
two_digits n s more small h =
    let shown : decimal n ≡ (48 + n / 10) ∷ (48 + n % 10) ∷ [] = decimal_step n more (omega arith) ∙ ap (λ (l : List ℕ). l ++ ((48 + n % 10) ∷ [])) (decimal_digit (n / 10) (omega arith)) in
    same_text (ap (λ (l : List ℕ). 105 ∷ l) (sym shown)) h

abbrev int_word : IntWidth → Sym
int_word w = word (words.Int w)

int_lexed : (w : ℕ) → Lexed false (codes "i" ++ decimal w) (int_symbol w ∷ [])
int_lexed w =
    either w 1 (int_word IntWidth.I1) _ (w == 1) refl (one_digit 1 _ (omega arith) i1_lexed)
    (either w 8 (int_word IntWidth.I8) _ (w == 8) refl (one_digit 8 _ (omega arith) i8_lexed)
    (either w 16 (int_word IntWidth.I16) _ (w == 16) refl (two_digits 16 _ (omega arith) (omega arith) i16_lexed)
    (either w 32 (int_word IntWidth.I32) _ (w == 32) refl (two_digits 32 _ (omega arith) (omega arith) i32_lexed)
    (either w 64 (int_word IntWidth.I64) syms.LongInt (w == 64) refl (two_digits 64 _ (omega arith) (omega arith) i64_lexed) (unwritten (codes "i" ++ decimal w))))))

-- ---- types

fields_pass : (ts : Tys) (rest : List ℕ) → stops rest ≡ true → stops (fields_text ts ++ rest) ≡ true
fields_pass none rest h = h
fields_pass (field t ts) rest h = refl

mutual
  pub type_lexed : (t : Ty) → Lexed false (type_text t) (type_symbols t)
  type_lexed (int w) = int_lexed w
  type_lexed ptr = ptr_lexed
  type_lexed token = token_lexed
  type_lexed (array n t) = unfree (then (then (then (then square_open (number n) refl) x_lexed refl) (type_lexed t) refl) square_close refl)
  type_lexed (structure none) = unfree curly_both
  type_lexed (structure (field t ts)) =
      unfree (then (join (then curly_space (type_lexed t) refl) (fields_lexed ts) (fields_pass ts)) space_curly refl)
  type_lexed (named n) = local (Some n)

  fields_lexed : (ts : Tys) → Lexed false (fields_text ts) (fields_symbols ts)
  fields_lexed none = empty
  fields_lexed (field t ts) = join (then comma_space (type_lexed t) refl) (fields_lexed ts) (fields_pass ts)
