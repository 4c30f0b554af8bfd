-- A word has just the questions of the names that pass a test.
use Rattle.std.proofs.Common.{◌≡◌, ℕ, Bool, true, false, ◌||◌, List, [], ◌∷◌, refl, sym, ◌∙◌, subst, ⊎_elim}
use Rattle.std.specs.Prelude.{◌&&◌, ◌==◌, not, bit_or, if◌then◌else◌}
use Rattle.std.proofs.lemmas.Bool.{false≢true}
use Rattle.flow_bits.specs.Bits.{HasBit}
use Rattle.ir_model.specs.Names.{is_local}
use Rattle.ir_model.specs.declared.operand.Arg.{Arg}
use Rattle.ir_model.specs.declared.operand.Operand.{Operand}
use Rattle.ir_paths.proofs.Search.{either, eq_from, eq_itself, or_left, or_right}
use Rattle.ir_paths.specs.Slots.{is_in_args}
use Rattle.frame_slots.proofs.Bits.{left_bit, no_bit, one_bit, right_bit}
use Rattle.frame_slots.specs.Words.{name_word, with_args, with_operand}

-- a name with the question passes the test
pub record HasOne (words : List ℕ) (test : ℕ → Bool) (c : ℕ) : Type 0 where
  pub name : ℕ
  pub has : HasBit (name_word words name) c
  pub passes : test name ≡ true

pub record Marks (words : List ℕ) (test : ℕ → Bool) (word : ℕ) : Type 0 where
  pub sound : (c : ℕ) → HasBit word c → HasOne words test c
  pub complete : (c v : ℕ) → HasBit (name_word words v) c → test v ≡ true → HasBit word c

module _ (words : List ℕ) where
  pub marks_none : Marks words (λ v. false) 0
  marks_none = record { sound = λ c h. absurd (no_bit c h); complete = λ c v h e. absurd (false≢true e) }

  pub marks_same : (t u : ℕ → Bool) (word : ℕ) → ((v : ℕ) → t v ≡ u v) → Marks words t word → Marks words u word
  marks_same t u word same m = record {
    sound = λ c h. let one = m.sound c h in record { name = one.name; has = one.has; passes = sym (same one.name) ∙ one.passes };
    complete = λ c v h e. m.complete c v h (same v ∙ e);
  }

  pub marks_or : (t u : ℕ → Bool) (a b : ℕ) → Marks words t a → Marks words u b → Marks words (λ v. t v || u v) (bit_or a b)
  marks_or t u a b ma mb = record {
    sound = λ c h. ⊎_elim
        (λ ha. let one = ma.sound c ha in record { name = one.name; has = one.has; passes = or_left (t one.name) (u one.name) one.passes })
        (λ hb. let one = mb.sound c hb in record { name = one.name; has = one.has; passes = or_right (t one.name) (u one.name) one.passes })
        (one_bit a b c h);
    complete = λ c v h e. ⊎_elim
        (λ et. left_bit a b c (ma.complete c v h et))
        (λ eu. right_bit a b c (mb.complete c v h eu))
        (either (t v) (u v) e);
  }

  pub marks_name : (n : ℕ) → Marks words (λ v. v == n) (name_word words n)
  marks_name n = record {
    sound = λ c h. record { name = n; has = h; passes = eq_itself n };
    complete = λ c v h e. subst (λ (x : ℕ). HasBit (name_word words x) c) (eq_from v n e) h;
  }

  or_none : (b : Bool) → b ≡ (b || false)
  or_none true = refl
  or_none false = refl

  pub or_again : (a b c : Bool) → ((a || b) || c) ≡ (a || (b || c))
  or_again true b c = refl
  or_again false b c = refl

  as_before : (t : ℕ → Bool) (word : ℕ) → Marks words t word → Marks words (λ v. t v || false) word
  as_before t word m = marks_same t (λ v. t v || false) word (λ v. or_none (t v)) m

  pub marks_operand : (t : ℕ → Bool) (word : ℕ) → Marks words t word → (x : Operand) → Marks words (λ v. t v || is_local v x) (with_operand words word x)
  marks_operand t word m (Operand.Local n) = marks_or t (λ v. v == n) word (name_word words n) m (marks_name n)
  marks_operand t word m (Operand.Global n) = as_before t word m
  marks_operand t word m (Operand.Number n) = as_before t word m
  marks_operand t word m Operand.True = as_before t word m
  marks_operand t word m Operand.False = as_before t word m
  marks_operand t word m Operand.Null = as_before t word m
  marks_operand t word m Operand.None = as_before t word m
  marks_operand t word m Operand.Poison = as_before t word m

  pub marks_args : (t : ℕ → Bool) (word : ℕ) → Marks words t word → (args : List Arg) → Marks words (λ v. t v || is_in_args v args) (with_args words word args)
  marks_args t word m [] = as_before t word m
  marks_args t word m (a ∷ args) =
      marks_same (λ v. (t v || is_local v a.value) || is_in_args v args) (λ v. t v || (is_local v a.value || is_in_args v args)) (with_args words (with_operand words word a.value) args)
      (λ v. or_again (t v) (is_local v a.value) (is_in_args v args))
      (marks_args (λ v. t v || is_local v a.value) (with_operand words word a.value) (marks_operand t word m a.value) args)

  -- nothing unless a test passes
  pub marks_if : (b : Bool) (t : ℕ → Bool) (word : ℕ) → Marks words t word → Marks words (λ v. not b && t v) (if b then 0 else word)
  marks_if true t word m = marks_none
  marks_if false t word m = m
