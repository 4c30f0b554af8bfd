-- Locals, labels and values as they are printed.
use Rattle.std.proofs.Common.{◌≡◌, ℕ, ◌-◌, nat_lt, true, zero, suc, inl, inr, List, [], ◌∷◌, ◌++◌, append_assoc, length, Option, refl, sym, ap, subst, ◌∙◌, arith}
use Rattle.std.specs.Prelude.{Some, slice_get, ◌⊎◌, ℤ, pos, negsuc, ◌-ℤ◌}
use Rattle.ir_base.specs.declared.name.Name.{Name}
use Rattle.text_names.specs.Spelling.{IsName}
use Rattle.ir_model.specs.declared.operand.Operand.{Operand}
use Rattle.text_symbols.specs.declared.sym.Sym.{Sym}
use Rattle.text_canonical.specs.canonical.Written.{IsNamed, IsWritten}
use Rattle.text_canonical.specs.canonical.OperandSymbols.{global_symbol, label_symbols, local_symbol, number_symbol, operand_symbol}
use Rattle.text_grammar.specs.Blocks.{label, unwritten_label}
use Rattle.text_grammar.specs.Phrases.{Locals, ◌∥◌, these, mark, word}
use Rattle.std.proofs.lemmas.Bool.{lt-ltb}
use Rattle.text_symbols.specs.declared.sym.Mark.{Mark}
use Rattle.text_symbols.specs.declared.word.Word.{Word}
use Rattle.text_grammar.specs.Values.{IsInitial, IsPlace, IsTarget, IsValue, StandsAt, global, integer, local}
use Rattle.text_canonical.proofs.grammar.Again.{Again, AgainIn, AreSound, Extends, fixed, first_in, plain_in, seq_in, these_again}
use Rattle.ir_model.specs.declared.operand.Operand.TheVariants as operands
use Rattle.text_symbols.specs.declared.sym.Sym.TheVariants as syms
use Rattle.text_symbols.specs.declared.word.Word.TheVariants as words

-- ---- positions

at_place : (ns more : List Name) (n : Name) (i : ℕ) → StandsAt ns n i → slice_get (ns ++ more) i ≡ Some n
at_place [] more n i h = absurd h
at_place (m ∷ ns) more n zero h = ap (λ (x : Name). Some x) h
at_place (m ∷ ns) more n (suc i) h = at_place ns more n i h.1

at_end : (ns : List Name) (n : Name) (more : List Name) → slice_get (ns ++ n ∷ more) (length ns) ≡ Some n
at_end [] n more = refl
at_end (m ∷ ns) n more = at_end ns n more

pub place_extends : (n : Name) (i : ℕ) {names ns with_it : List Name} → IsPlace ns n i with_it → Extends names with_it → Extends names ns
place_extends n i {names} {ns} {with_it} (inl h) e = subst (λ (l : List Name). Extends names l) h.1 e
place_extends n i {names} {ns} {with_it} (inr h) e = record { more = n ∷ e.more; is = e.is ∙ ap (λ (l : List Name). l ++ e.more) h.2 ∙ append_assoc ns (n ∷ []) e.more }

pub place_found : (n : Name) (i : ℕ) {names ns with_it : List Name} → IsPlace ns n i with_it → Extends names with_it → slice_get names i ≡ Some n
place_found n i {names} {ns} {with_it} (inl h) e =
    ap (λ (l : List Name). slice_get l i) (e.is ∙ ap (λ (l : List Name). l ++ e.more) h.1) ∙ at_place ns e.more n i h.0
place_found n i {names} {ns} {with_it} (inr h) e =
    ap (λ (l : List Name). slice_get l i) (e.is ∙ ap (λ (l : List Name). l ++ e.more) h.2 ∙ append_assoc ns (n ∷ []) e.more)
    ∙ ap (slice_get (ns ++ n ∷ e.more)) h.1
    ∙ at_end ns n e.more

-- ---- locals and labels

pub local_again : (names : List Name) (i : ℕ) (s end : Locals) → local i s end → AgainIn names (local i) (local_symbol names i ∷ []) s end
local_again names i s end d =
    let e : s.1 ≡ syms.Local (Some d.0) ∷ end.1 = d.1 in
    record {
      grows = λ x. place_extends d.0 i d.2 x;
      left = λ h. (subst AreSound e h).1;
      written = λ h x. (subst IsNamed (sym (place_found d.0 i d.2 x)) (subst AreSound e h).0, tt);
      again = λ x behind. (d.0, ap (λ (o : Option Name). syms.Local o ∷ behind) (place_found d.0 i d.2 x), d.2);
    }

pub label_again : (names : List Name) (i : ℕ) (s end : Locals) → label i s end → AgainIn names (label i) (syms.Label (slice_get names i) ∷ []) s end
label_again names i s end d =
    let e : s.1 ≡ syms.Label (Some d.0) ∷ end.1 = d.1 in
    record {
      grows = λ x. place_extends d.0 i d.2 x;
      left = λ h. (subst AreSound e h).1;
      written = λ h x. (subst IsNamed (sym (place_found d.0 i d.2 x)) (subst AreSound e h).0, tt);
      again = λ x behind. (d.0, ap (λ (o : Option Name). syms.Label o ∷ behind) (place_found d.0 i d.2 x), d.2);
    }

-- a label that isn't written is printed
pub entry_label_again : (names : List Name) (k i : ℕ) (s end : Locals) → (label i ∥ unwritten_label k i) s end → AgainIn names (label i ∥ unwritten_label k i) (syms.Label (slice_get names i) ∷ []) s end
entry_label_again names k i s end (inl d) = first_in (label_again names i s end d)
entry_label_again names k i s end (inr d) =
    let numbered : IsName (Name.Number k) = d.0 in
    record {
      grows = λ x. place_extends (Name.Number k) i d.2 x;
      left = λ h. subst AreSound d.1 h;
      written = λ h x. (subst IsNamed (sym (place_found (Name.Number k) i d.2 x)) numbered, tt);
      again = λ x behind. inl (Name.Number k, ap (λ (o : Option Name). syms.Label o ∷ behind) (place_found (Name.Number k) i d.2 x), d.2);
    }

pub target_again : (names : List Name) (i : ℕ) (s end : Locals) → IsTarget i s end → AgainIn names (IsTarget i) (label_symbols names i) s end
target_again names i s end d =
    seq_in (plain_in d.1.0 (fixed (syms.Word words.Label ∷ []) s.1 d.0.1 (tt, tt) d.1.1)) (local_again names i d.0 end d.2)

-- ---- values

pub global_again : (n : Name) (ts rest : List Sym) → global n ts rest → Again (global n) (global_symbol n ∷ []) ts rest
global_again n ts rest d = these_again (global_symbol n ∷ []) ts rest d (λ h. (h.0, tt))

pub minus_suc : (n : ℕ) → pos 0 -ℤ pos (suc n) ≡ negsuc n
minus_suc n =
    let less : nat_lt 0 (suc n) ≡ true = lt-ltb 0 (suc n) (omega arith) in
    let one : suc n - 1 ≡ n = omega arith in
    rw (less, one) refl

positive_again : (z : ℤ) (n : ℕ) (ts rest : List Sym) → z ≡ pos n → ts ≡ syms.Int n ∷ rest → Again (integer z) (number_symbol z ∷ []) ts rest
positive_again z n ts rest is e =
    let shown : number_symbol z ≡ syms.Int n = ap number_symbol is in
    record {
      left = λ h. (subst AreSound e h).1;
      written = λ h. (subst IsWritten (sym shown) (subst AreSound e h).0, tt);
      again = λ behind. (n, inl (is, ap (λ (s : Sym). s ∷ behind) shown));
    }

negative_again : (z : ℤ) (n : ℕ) (ts rest : List Sym) → z ≡ pos 0 -ℤ pos n → ts ≡ syms.Negative n ∷ rest → Again (integer z) (number_symbol z ∷ []) ts rest
negative_again z zero ts rest is e =
    let zero_is : z ≡ pos 0 = is in
    let shown : number_symbol z ≡ syms.Int 0 = ap number_symbol zero_is in
    record {
      left = λ h. (subst AreSound e h).1;
      written = λ h. (subst IsWritten (sym shown) (omega arith), tt);
      again = λ behind. (0, inl (zero_is, ap (λ (s : Sym). s ∷ behind) shown));
    }
negative_again z (suc n) ts rest is e =
    let shown : number_symbol z ≡ syms.Negative (suc n) = ap number_symbol (is ∙ minus_suc n) in
    record {
      left = λ h. (subst AreSound e h).1;
      written = λ h. (subst IsWritten (sym shown) (subst AreSound e h).0, tt);
      again = λ behind. (suc n, inr (is, ap (λ (s : Sym). s ∷ behind) shown));
    }

pub integer_again : (z : ℤ) (ts rest : List Sym) → integer z ts rest → Again (integer z) (number_symbol z ∷ []) ts rest
integer_again z ts rest d = split d.1
  where
    split : ((z ≡ pos d.0) × these (syms.Int d.0 ∷ []) ts rest) ⊎ ((z ≡ pos 0 -ℤ pos d.0) × these (syms.Negative d.0 ∷ []) ts rest) → Again (integer z) (number_symbol z ∷ []) ts rest
    split (inl h) = positive_again z d.0 ts rest h.0 h.1
    split (inr h) = negative_again z d.0 ts rest h.0 h.1

pub word_again : (w : Word) (ts rest : List Sym) → word w ts rest → Again (word w) (syms.Word w ∷ []) ts rest
word_again w ts rest d = fixed (syms.Word w ∷ []) ts rest (tt, tt) d

pub mark_again : (m : Mark) (ts rest : List Sym) → mark m ts rest → Again (mark m) (syms.Mark m ∷ []) ts rest
mark_again m ts rest d = fixed (syms.Mark m ∷ []) ts rest (tt, tt) d

pub value_again : (names : List Name) (x : Operand) (s end : Locals) → IsValue x s end → AgainIn names (IsValue x) (operand_symbol names x ∷ []) s end
value_again names (operands.Local i) s end d = local_again names i s end d
value_again names (operands.Global n) s end d = plain_in d.0 (global_again n s.1 end.1 d.1)
value_again names (operands.Number z) s end d = plain_in d.0 (integer_again z s.1 end.1 d.1)
value_again names operands.True s end d = plain_in d.0 (word_again words.True s.1 end.1 d.1)
value_again names operands.False s end d = plain_in d.0 (word_again words.False s.1 end.1 d.1)
value_again names operands.Null s end d = plain_in d.0 (word_again words.Null s.1 end.1 d.1)
value_again names operands.None s end d = plain_in d.0 (word_again words.None s.1 end.1 d.1)
value_again names operands.Poison s end d = plain_in d.0 (word_again words.Poison s.1 end.1 d.1)

pub initial_again : (x : Operand) (ts rest : List Sym) → IsInitial x ts rest → Again (IsInitial x) (operand_symbol [] x ∷ []) ts rest
initial_again (operands.Local i) ts rest d = absurd d
initial_again (operands.Global n) ts rest d = global_again n ts rest d
initial_again (operands.Number z) ts rest d = integer_again z ts rest d
initial_again operands.True ts rest d = word_again words.True ts rest d
initial_again operands.False ts rest d = word_again words.False ts rest d
initial_again operands.Null ts rest d = word_again words.Null ts rest d
initial_again operands.None ts rest d = absurd d
initial_again operands.Poison ts rest d = absurd d
