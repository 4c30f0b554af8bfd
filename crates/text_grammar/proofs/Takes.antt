-- What a phrase takes: it never leaves more symbols than there were, and most leave fewer.
use Rattle.std.proofs.Common.{◌≡◌, ◌<◌, ◌≤◌, ℕ, Bool, true, false, List, [], ◌∷◌, length, Option, Some, None, inl, inr, ap, arith}
use Rattle.ir_model.specs.Ty.{Ty, Tys, int, ptr, token, array, structure, named, none, field}
use Rattle.ir_model.specs.declared.module.TypeItem.{TypeItem}
use Rattle.ir_model.specs.declared.operand.Arg.{Arg}
use Rattle.ir_model.specs.declared.operand.Operand.{Operand}
use Rattle.ir_model.specs.declared.operand.Operand.TheVariants as operands
use Rattle.text_symbols.specs.declared.sym.Sym.{Sym}
use Rattle.text_symbols.specs.declared.word.Word.{Word}
use Rattle.text_grammar.specs.Phrases.{Phrase, Naming, Locals, ◌⨾◌, ◌∥◌, never, nothing, perhaps, each, some, flag, commas, plain, comma, behind_comma, listed}
use Rattle.text_grammar.specs.Types.{IsInt, IsType, AreFields, IsResult, IsScalar}
use Rattle.text_grammar.specs.Attributes.{Balanced, empty, other, nested, Attr, presplit, in_group, plain_attr, IsAttr, attributes, any, any_integer, round_text, curly_text, metadata}
use Rattle.text_grammar.specs.Values.{local, integer, IsValue, IsTyped, IsArg, IsTarget, IsAddress, IsAligned}

-- ---- phrases of both kinds, by the length of what is left

module _ {S : Type 0} (size : S → ℕ) where
  abbrev pub Keeps : (S → S → Type 0) → Type 0
  Keeps P = (s end : S) → P s end → size end ≤ size s

  abbrev pub Takes : (S → S → Type 0) → Type 0
  Takes P = (s end : S) → P s end → size end < size s

  pub takes_keeps : (P : S → S → Type 0) → Takes P → Keeps P
  takes_keeps P t s end h = omega (arith, t s end h)

  pub nothing_keeps : Keeps nothing
  nothing_keeps s end h = let e : size s ≡ size end = ap size h in omega arith

  pub never_takes : Takes never
  never_takes s end h = absurd h

  pub seq_keeps : (P Q : S → S → Type 0) → Keeps P → Keeps Q → Keeps (P ⨾ Q)
  seq_keeps P Q p q s end h = omega (arith, p s h.0 h.1, q h.0 end h.2)

  pub seq_takes : (P Q : S → S → Type 0) → Takes P → Keeps Q → Takes (P ⨾ Q)
  seq_takes P Q p q s end h = omega (arith, p s h.0 h.1, q h.0 end h.2)

  pub seq_takes_later : (P Q : S → S → Type 0) → Keeps P → Takes Q → Takes (P ⨾ Q)
  seq_takes_later P Q p q s end h = omega (arith, p s h.0 h.1, q h.0 end h.2)

  pub or_keeps : (P Q : S → S → Type 0) → Keeps P → Keeps Q → Keeps (P ∥ Q)
  or_keeps P Q p q s end (inl h) = p s end h
  or_keeps P Q p q s end (inr h) = q s end h

  pub or_takes : (P Q : S → S → Type 0) → Takes P → Takes Q → Takes (P ∥ Q)
  or_takes P Q p q s end (inl h) = p s end h
  or_takes P Q p q s end (inr h) = q s end h

  pub perhaps_keeps : (P : S → S → Type 0) → Keeps P → Keeps (perhaps P)
  perhaps_keeps P p = or_keeps P nothing p nothing_keeps

  pub each_keeps : {A : Type 0} (P : A → S → S → Type 0) → ((x : A) → Keeps (P x)) → (xs : List A) → Keeps (each P xs)
  each_keeps P p [] = nothing_keeps
  each_keeps P p (x ∷ xs) = seq_keeps (P x) (each P xs) (p x) (each_keeps P p xs)

  pub some_takes : {A : Type 0} (P : A → S → S → Type 0) → ((x : A) → Takes (P x)) → (xs : List A) → Takes (some P xs)
  some_takes P p [] = never_takes
  some_takes P p (x ∷ xs) = seq_takes (P x) (each P xs) (p x) (each_keeps P (λ y. takes_keeps (P y) (p y)) xs)

-- ---- symbols

abbrev pub KeepsSymbols : Phrase → Type 0
KeepsSymbols = Keeps (length {A = Sym})

abbrev pub TakesSymbols : Phrase → Type 0
TakesSymbols = Takes (length {A = Sym})

-- these symbols, as many as there are
pub one : {a : Sym} → TakesSymbols (λ ts rest. ts ≡ a ∷ rest)
one ts rest h = let e = ap (length {A = Sym}) h in omega arith

pub two : {a b : Sym} → TakesSymbols (λ ts rest. ts ≡ a ∷ b ∷ rest)
two ts rest h = let e = ap (length {A = Sym}) h in omega arith

pub three : {a b c : Sym} → TakesSymbols (λ ts rest. ts ≡ a ∷ b ∷ c ∷ rest)
three ts rest h = let e = ap (length {A = Sym}) h in omega arith

pub four : {a b c d : Sym} → TakesSymbols (λ ts rest. ts ≡ a ∷ b ∷ c ∷ d ∷ rest)
four ts rest h = let e = ap (length {A = Sym}) h in omega arith

pub one_keeps : {a : Sym} → KeepsSymbols (λ ts rest. ts ≡ a ∷ rest)
one_keeps ts rest h = let e = ap (length {A = Sym}) h in omega arith

pub flag_keeps : (w : Word) (b : Bool) → KeepsSymbols (flag w b)
flag_keeps w true = one_keeps
flag_keeps w false = nothing_keeps length

pub commas_keep : {A : Type 0} (P : A → Phrase) → ((x : A) → KeepsSymbols (P x)) → (xs : List A) → KeepsSymbols (commas P xs)
commas_keep P p [] = nothing_keeps length
commas_keep P p (x ∷ xs) = seq_keeps length (P x) _ (p x) (each_keeps length _ (λ y. seq_keeps length _ (P y) one_keeps (p y)) xs)

-- ---- inside a function

abbrev pub left : Locals → ℕ
left s = length s.1

abbrev pub KeepsLocals : Naming → Type 0
KeepsLocals = Keeps left

abbrev pub TakesLocals : Naming → Type 0
TakesLocals = Takes left

pub plain_keeps : (P : Phrase) → KeepsSymbols P → KeepsLocals (plain P)
plain_keeps P p s end h = p s.1 end.1 h.1

pub plain_takes : (P : Phrase) → TakesSymbols P → TakesLocals (plain P)
plain_takes P p s end h = p s.1 end.1 h.1

pub comma_takes : TakesLocals comma
comma_takes = plain_takes _ one

pub behind_comma_takes : {A : Type 0} (P : A → Naming) → ((x : A) → KeepsLocals (P x)) → (x : A) → TakesLocals (behind_comma P x)
behind_comma_takes P p x = seq_takes left comma (P x) comma_takes (p x)

pub listed_takes : {A : Type 0} (P : A → Naming) → ((x : A) → TakesLocals (P x)) → (xs : List A) → TakesLocals (listed P xs)
listed_takes P p [] = never_takes left
listed_takes P p (x ∷ xs) =
    seq_takes left (P x) _ (p x) (each_keeps left _ (λ y. takes_keeps left _ (behind_comma_takes P (λ z. takes_keeps left _ (p z)) y)) xs)

-- ---- types

int_takes : (n : ℕ) → TakesSymbols (IsInt n)
int_takes n ts rest h = one ts rest h.2

mutual
  pub type_takes : (t : Ty) → TakesSymbols (IsType t)
  type_takes (int n) = int_takes n
  type_takes ptr = one
  type_takes token = one
  type_takes (array n t) = seq_takes length _ _ three (seq_keeps length (IsType t) _ (takes_keeps length _ (type_takes t)) one_keeps)
  type_takes (structure fs) = seq_takes length _ _ one (seq_keeps length (AreFields fs) _ (fields_keep fs) one_keeps)
  type_takes (named n) = one

  fields_keep : (fs : Tys) → KeepsSymbols (AreFields fs)
  fields_keep none = nothing_keeps length
  fields_keep (field t none) = takes_keeps length _ (type_takes t)
  fields_keep (field t (field u fs)) = seq_keeps length (IsType t) _ (takes_keeps length _ (type_takes t)) (seq_keeps length _ _ one_keeps (fields_keep (field u fs)))

pub type_keeps : (t : Ty) → KeepsSymbols (IsType t)
type_keeps t = takes_keeps length (IsType t) (type_takes t)

pub result_takes : (t : Option Ty) → TakesSymbols (IsResult t)
result_takes None = one
result_takes (Some t) = type_takes t

pub scalar_takes : (t : Ty) → TakesSymbols (IsScalar t)
scalar_takes (int n) = int_takes n
scalar_takes ptr = one
scalar_takes token = never_takes length
scalar_takes (array n t) = never_takes length
scalar_takes (structure fs) = never_takes length
scalar_takes (named n) = never_takes length

-- ---- attributes

pub balanced_keeps : (ts rest : List Sym) → Balanced ts rest → length rest ≤ length ts
balanced_keeps ts rest empty = omega arith
balanced_keeps ts rest (other {ts = us} h b) = omega (arith, balanced_keeps us rest b)
balanced_keeps ts rest (nested {c = c} {ts = us} {behind = behind} p b d) = omega (arith, balanced_keeps us (c ∷ behind) b, balanced_keeps behind rest d)

pub round_keeps : KeepsSymbols round_text
round_keeps = seq_keeps length _ _ one_keeps (seq_keeps length Balanced _ balanced_keeps one_keeps)

pub curly_keeps : KeepsSymbols curly_text
curly_keeps = seq_keeps length _ _ one_keeps (seq_keeps length Balanced _ balanced_keeps one_keeps)

any_integer_keeps : KeepsSymbols any_integer
any_integer_keeps ts rest h = or_keeps length _ _ one_keeps one_keeps ts rest h.1

pub attr_takes : (a : Attr) → TakesSymbols (IsAttr a)
attr_takes presplit = one
attr_takes (in_group g) = one
attr_takes plain_attr =
    or_takes length _ _ (seq_takes length _ _ one (perhaps_keeps length round_text round_keeps))
    (or_takes length _ _ (seq_takes length _ _ one (perhaps_keeps length round_text round_keeps))
    (or_takes length _ _ (seq_takes length _ _ one (seq_keeps length _ any_integer (perhaps_keeps length _ one_keeps) any_integer_keeps))
    (seq_takes length _ _ one (perhaps_keeps length _ (takes_keeps length _ two)))))

pub attributes_keep : KeepsSymbols attributes
attributes_keep ts rest h = each_keeps length IsAttr (λ a. takes_keeps length _ (attr_takes a)) h.0 ts rest h.1

pub any_keeps : (P : Phrase) → KeepsSymbols P → KeepsSymbols (any P)
any_keeps P p ts rest h = each_keeps length _ (λ u. p) h.0 ts rest h.1

pub metadata_keep : KeepsSymbols metadata
metadata_keep = any_keeps _ (takes_keeps length _ three)

-- ---- values

pub local_takes : (i : ℕ) → TakesLocals (local i)
local_takes i s end h = one s.1 end.1 h.1

pub integer_takes : (z : _) → TakesSymbols (integer z)
integer_takes z ts rest (n, inl h) = one ts rest h.1
integer_takes z ts rest (n, inr h) = one ts rest h.1

pub value_takes : (v : Operand) → TakesLocals (IsValue v)
value_takes (operands.Local i) = local_takes i
value_takes (operands.Global n) = plain_takes _ one
value_takes (operands.Number z) = plain_takes (integer z) (integer_takes z)
value_takes operands.True = plain_takes _ one
value_takes operands.False = plain_takes _ one
value_takes operands.Null = plain_takes _ one
value_takes operands.None = plain_takes _ one
value_takes operands.Poison = plain_takes _ one

pub value_keeps : (v : Operand) → KeepsLocals (IsValue v)
value_keeps v = takes_keeps left (IsValue v) (value_takes v)

pub typed_takes : (a : Arg) → TakesLocals (IsTyped a)
typed_takes a = seq_takes left _ (IsValue a.value) (plain_takes _ (type_takes a.ty)) (value_keeps a.value)

pub arg_takes : (a : Arg) → TakesLocals (IsArg a)
arg_takes a = seq_takes left _ (IsValue a.value) (plain_takes _ (seq_takes length _ attributes (type_takes a.ty) attributes_keep)) (value_keeps a.value)

pub target_takes : (i : ℕ) → TakesLocals (IsTarget i)
target_takes i = seq_takes left _ (local i) (plain_takes _ one) (takes_keeps left (local i) (local_takes i))

pub address_takes : (p : Operand) → TakesLocals (IsAddress p)
address_takes p = seq_takes left _ (IsValue p) (plain_takes _ two) (value_keeps p)

pub aligned_keeps : (types : List TypeItem) (t : Ty) (n : ℕ) → KeepsSymbols (IsAligned types t n)
aligned_keeps types t n ts rest (inl h) = takes_keeps length _ three ts rest h
aligned_keeps types t n ts rest (inr (inl h)) = takes_keeps length _ three ts rest h.2
aligned_keeps types t n ts rest (inr (inr h)) = nothing_keeps length ts rest h.1
