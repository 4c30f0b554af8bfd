-- What the tokens of a text say: names that are names, and numbers below 2^64.
use Rattle.std.proofs.Common.{◌≡◌, ℕ, zero, suc, ◌+◌, ◌-◌, ◌*◌, ◌<◌, ◌^◌, Bool, true, false, cond, ◌&&◌, ◌==◌, nat_lt, List, [], ◌∷◌, length, take, drop, Option, None, refl, subst, arith}
use Rattle.std.specs.Prelude.{Some, map}
use Rattle.std.specs.List.{list_all}
use Rattle.std.proofs.lemmas.Bool.{and_from, and_parts, ltb-true, lt-ltb, eqb-false}
use Rattle.std.proofs.lemmas.Bool.Decides.{nat_tests}
use Rattle.std.proofs.Math.Dec.{eqb-suc-zero}
use Rattle.ir_base.specs.declared.name.Name.{Name}
use Rattle.text_names.specs.Spelling.{is_name_byte}
use Rattle.text_lexer.specs.Lists.{front, is_shorter, up_to, when}
use Rattle.text_lexer.specs.Scan.{blank_len, token_at}
use Rattle.text_lexer.specs.Tokens.{cut, first_token, tokens}
use Rattle.text_lexer.specs.declared.token.Kind.{Kind}
use Rattle.text_symbols.specs.Listing.{symbols_of}
use Rattle.text_symbols.specs.Names.{byte_at, escaped_at, has_zero, hex_value, inside, is_hex, name_of, number_name, plain_name, text_name, unescaped}
use Rattle.text_symbols.specs.Numbers.{are_digits, fitting, value_of}
use Rattle.text_symbols.specs.Sym.{behind_first, integer_of, negative, positive, sym_of}
use Rattle.text_symbols.specs.declared.sym.Sym.{Sym}
use Rattle.text_canonical.specs.grammar.Bytes.{AreBytes}
use Rattle.text_canonical.proofs.grammar.Again.{AreSound, IsNamedSoundly, IsSound}
use Rattle.text_lexer.specs.declared.token.Kind.TheVariants as kinds

take_bytes : (n : ℕ) (bs : List ℕ) → AreBytes bs → AreBytes (take n bs)
take_bytes zero bs h = tt
take_bytes (suc n) [] h = tt
take_bytes (suc n) (b ∷ bs) h = (h.0, take_bytes n bs h.1)

drop_bytes : (n : ℕ) (bs : List ℕ) → AreBytes bs → AreBytes (drop n bs)
drop_bytes zero bs h = h
drop_bytes (suc n) [] h = tt
drop_bytes (suc n) (b ∷ bs) h = drop_bytes n bs h.1

-- ---- what is read one after another

abbrev All : {A : Type 0} → (A → Type 0) → List A → Type 0
All Q [] = Unit {0}
All Q (x ∷ xs) = Q x × All Q xs

-- each step over bytes gives a value that is so, and leaves bytes
abbrev Steps : {A : Type 0} → (List ℕ → Option (A × List ℕ)) → (A → Type 0) → Type 0
Steps {A} p Q = (ts : List ℕ) (x : A × List ℕ) → AreBytes ts → p ts ≡ Some x → Q x.0 × AreBytes x.1

all_when : {A : Type 0} (Q : A → Type 0) (ts : List ℕ) (o : Option (A × List ℕ)) (f : A × List ℕ → List A × List ℕ) → ((x : A × List ℕ) → o ≡ Some x → All Q (f x).0) → All Q (when o ([], ts) f).0
all_when Q ts None f h = tt
all_when Q ts (Some x) f h = h x refl

all_cond : {A : Type 0} (Q : A → Type 0) (b : Bool) (x y : List A × List ℕ) → All Q x.0 → All Q y.0 → All Q (cond b x y).0
all_cond Q true x y h k = h
all_cond Q false x y h k = k

all_up_to : {A : Type 0} (p : List ℕ → Option (A × List ℕ)) (Q : A → Type 0) → Steps p Q → (n : ℕ) (ts : List ℕ) → AreBytes ts → All Q (up_to p n ts).0
all_up_to p Q f zero ts h = tt
all_up_to p Q f (suc n) ts h =
    all_when Q ts (p ts) (λ x. cond (is_shorter x.1 ts) (front x.0 (up_to p n x.1)) ([], ts))
    (λ x e. let step = f ts x h e in all_cond Q (is_shorter x.1 ts) (front x.0 (up_to p n x.1)) ([], ts) (step.0, all_up_to p Q f n x.1 step.1) tt)

-- ---- names

hex_small : (h : ℕ) → is_hex h ≡ true → hex_value h < 16
hex_small h e = grind (arith, nat_tests)

abbrev IsByteStep : ℕ × List ℕ → Type 0
IsByteStep x = (x.0 < 256) × AreBytes x.1

cond_step : (b : Bool) (x y : ℕ × List ℕ) → (b ≡ true → IsByteStep x) → (b ≡ false → IsByteStep y) → IsByteStep (cond b x y)
cond_step true x y h k = h refl
cond_step false x y h k = k refl

escaped_step : (bs : List ℕ) → AreBytes bs → IsByteStep (escaped_at bs)
escaped_step [] h = (omega arith, tt)
escaped_step (a ∷ []) h = cond_step (a == 92) (92, []) (92, a ∷ []) (λ e. (omega arith, tt)) (λ e. (omega arith, h))
escaped_step (a ∷ b ∷ bs) h =
    cond_step (a == 92) (92, b ∷ bs) (cond (is_hex a && is_hex b) (hex_value a * 16 + hex_value b, bs) (92, a ∷ b ∷ bs)) (λ e. (omega arith, h.1))
    (λ e. cond_step (is_hex a && is_hex b) (hex_value a * 16 + hex_value b, bs) (92, a ∷ b ∷ bs)
    (λ k. let r = and_parts (is_hex a) (is_hex b) k in let x = hex_small a r.0 in let y = hex_small b r.1 in (omega arith, h.1.1)) (λ k. (omega arith, h)))

byte_step : Steps byte_at (λ b. b < 256)
byte_step [] x h e = absurd cc
byte_step (b ∷ bs) x h e =
    let is : cond (b == 92) (escaped_at bs) (b, bs) ≡ x = cc in
    subst IsByteStep is (cond_step (b == 92) (escaped_at bs) (b, bs) (λ k. escaped_step bs h.1) (λ k. h))

all_bytes : (bs : List ℕ) → All (λ b. b < 256) bs → AreBytes bs
all_bytes [] h = tt
all_bytes (b ∷ bs) h = (h.0, all_bytes bs h.1)

unescaped_bytes : (bs : List ℕ) → AreBytes bs → AreBytes (unescaped bs)
unescaped_bytes bs h = all_bytes (unescaped bs) (all_up_to byte_at (λ b. b < 256) byte_step (length bs) bs h)

positive_byte : (b : ℕ) → (b == 0) ≡ false → b < 256 → is_name_byte b ≡ true
positive_byte b e h = let some = eqb-false b 0 e in and_from (nat_lt 0 b) (nat_lt b 256) (lt-ltb 0 b (omega arith)) (lt-ltb b 256 h)

nonzero : (b : ℕ) (bs : List ℕ) (z : Bool) → (b == 0) ≡ z → b < 256 → cond z true (has_zero bs) ≡ false → (has_zero bs ≡ false → list_all is_name_byte bs ≡ true) → list_all is_name_byte (b ∷ bs) ≡ true
nonzero b bs true k small e f = absurd cc
nonzero b bs false k small e f = and_from (is_name_byte b) (list_all is_name_byte bs) (positive_byte b k small) (f e)

name_bytes : (bs : List ℕ) → AreBytes bs → has_zero bs ≡ false → list_all is_name_byte bs ≡ true
name_bytes [] h e = refl
name_bytes (b ∷ bs) h e = nonzero b bs (b == 0) refl h.0 e (name_bytes bs h.1)

text_sound : (bs : List ℕ) → AreBytes bs → IsNamedSoundly (text_name bs)
text_sound [] h = tt
text_sound (b ∷ bs) h = split (has_zero (b ∷ bs)) refl
  where
    split : (z : Bool) → has_zero (b ∷ bs) ≡ z → IsNamedSoundly (cond z None (Some (Name.Text (b ∷ bs))))
    split true e = tt
    split false e = rw eqb-suc-zero (name_bytes (b ∷ bs) h e)

number_sound : (n : ℕ) (b : Bool) → nat_lt n (2 ^ 32) ≡ b → IsNamedSoundly (cond b (Some (Name.Number n)) None)
number_sound n true e = ltb-true n (2 ^ 32) e
number_sound n false e = tt

cond_name : (b : Bool) (x y : Option Name) → IsNamedSoundly x → IsNamedSoundly y → IsNamedSoundly (cond b x y)
cond_name true x y h k = h
cond_name false x y h k = k

plain_sound : (bs : List ℕ) → AreBytes bs → IsNamedSoundly (plain_name bs)
plain_sound bs h = cond_name (are_digits bs) (number_name bs) (text_name bs) (number_sound (value_of bs) (nat_lt (value_of bs) (2 ^ 32)) refl) (text_sound bs h)

name_sound : (bs : List ℕ) → AreBytes bs → IsNamedSoundly (name_of bs)
name_sound [] h = plain_sound [] h
name_sound (b ∷ bs) h =
    cond_name (b == 34) (text_name (unescaped (inside bs))) (plain_name (b ∷ bs))
    (text_sound (unescaped (inside bs)) (unescaped_bytes (inside bs) (take_bytes (length bs - 1) bs h.1)))
    (plain_sound (b ∷ bs) h)

-- ---- numbers

positive_sound : (n : ℕ) (b : Bool) → nat_lt n (2 ^ 64) ≡ b → IsSound (positive (cond b (Some n) None))
positive_sound n true e = ltb-true n (2 ^ 64) e
positive_sound n false e = tt

negative_sound : (n : ℕ) (b : Bool) → nat_lt n (2 ^ 64) ≡ b → IsSound (negative (cond b (Some n) None))
negative_sound n true e = ltb-true n (2 ^ 64) e
negative_sound n false e = tt

cond_sound : (b : Bool) (x y : Sym) → IsSound x → IsSound y → IsSound (cond b x y)
cond_sound true x y h k = h
cond_sound false x y h k = k

integer_sound : (bs : List ℕ) → IsSound (integer_of bs)
integer_sound [] = positive_sound (value_of []) (nat_lt (value_of []) (2 ^ 64)) refl
integer_sound (b ∷ bs) =
    cond_sound (b == 45) (negative (fitting (value_of bs))) (positive (fitting (value_of (b ∷ bs))))
    (negative_sound (value_of bs) (nat_lt (value_of bs) (2 ^ 64)) refl)
    (positive_sound (value_of (b ∷ bs)) (nat_lt (value_of (b ∷ bs)) (2 ^ 64)) refl)

-- ---- symbols

behind_bytes : (bs : List ℕ) → AreBytes bs → AreBytes (behind_first bs)
behind_bytes [] h = tt
behind_bytes (b ∷ bs) h = h.1

sym_sound : (k : Kind) (bs : List ℕ) → AreBytes bs → IsSound (sym_of (k, bs))
unfolding sym_of
sym_sound kinds.Label bs h = name_sound (inside bs) (take_bytes (length bs - 1) bs h)
sym_sound kinds.Word bs h = tt
sym_sound kinds.Int bs h = integer_sound bs
sym_sound kinds.String bs h = tt
sym_sound kinds.Local bs h = name_sound (behind_first bs) (behind_bytes bs h)
sym_sound kinds.Global bs h = name_sound (behind_first bs) (behind_bytes bs h)
sym_sound kinds.Group bs h = tt
sym_sound kinds.Meta bs h = tt
sym_sound kinds.Mark bs h = tt

abbrev says_soundly : Kind × List ℕ → Type 0
says_soundly t = IsSound (sym_of t)

cut_step : (text : List ℕ) (o : Option (Kind × ℕ)) (x : (Kind × List ℕ) × List ℕ) → AreBytes text → cut text o ≡ Some x → says_soundly x.0 × AreBytes x.1
cut_step text None x h e = absurd cc
cut_step text (Some y) x h e =
    let is : ◌≡◌ {A = (Kind × List ℕ) × List ℕ} ((y.0, take y.1 text), drop y.1 text) x = cc in
    subst (λ (z : (Kind × List ℕ) × List ℕ). says_soundly z.0 × AreBytes z.1) is (sym_sound y.0 (take y.1 text) (take_bytes y.1 text h), drop_bytes y.1 text h)

token_step : Steps first_token says_soundly
unfolding first_token
token_step ts x h e = cut_step (drop (blank_len ts) ts) (token_at (drop (blank_len ts) ts)) x (drop_bytes (blank_len ts) ts h) e

all_sound : (ts : List (Kind × List ℕ)) → All says_soundly ts → AreSound (map sym_of ts)
all_sound [] h = tt
all_sound (t ∷ ts) h = (h.0, all_sound ts h.1)

-- the symbols of a text of bytes
pub text_symbols_sound : (text : List ℕ) → AreBytes text → AreSound (symbols_of text).symbols
text_symbols_sound text h = all_sound (tokens text).0 (all_up_to first_token says_soundly token_step (length text) text h)
