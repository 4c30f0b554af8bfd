-- What the small instructions do that stand for numbers and truths.
use Rattle.std.proofs.Common.{◌≡◌, ℕ, ◌+◌, ◌<◌, ◌%◌, ◌^◌, Bool, true, false, refl, ap, ◌∙◌, arith, if◌then◌else◌}
use Rattle.std.proofs.Math.Nat.{mod-eq_of_lt}
use Rattle.std.proofs.lemmas.Bool.{and_from}
use Rattle.std.specs.Prelude.{nat_lt, pos, ◌==◌}
use Rattle.pass_proofs.specs.ir_base.declared.outcome.Word.{Word}
use Rattle.pass_proofs.specs.ir_base.declared.ops.BinOp.{BinOp}
use Rattle.pass_proofs.proofs.ir_laws.facts.Truth.{itself}
use Rattle.pass_proofs.specs.ir_model.Ty.{int}
use Rattle.pass_proofs.specs.ir_model.declared.instr.Instr.{Instr}
use Rattle.pass_proofs.specs.ir_model.declared.operand.Operand.{Operand}
use Rattle.pass_proofs.specs.pass_intrinsics.Lowered.{no_flags, truth_of}
use Rattle.pass_proofs.specs.run_ints.Numbers.{binary}
use Rattle.pass_proofs.specs.run_ints.declared.num.Num.{Num}
use Rattle.pass_proofs.specs.run_memory.declared.pointer.Value.{Value}
use Rattle.pass_proofs.specs.run_step.Step.{Context, Done, Work, done, instr_action, set_value}
use Rattle.pass_proofs.specs.run_step.Values.{is_word_of, literal, number_at, number_of_width, truth_value, value_of}

abbrev word : ℕ → ℕ → Word
word w n = record { width = w; bits = n }

less_to : (a b : ℕ) → a < b → nat_lt a b ≡ true
less_to a b e = grind arith

is_word : (w n : ℕ) → n < 2 ^ w → is_word_of w (word w n) ≡ true
is_word w n lt = and_from (w == w) (nat_lt n (2 ^ w)) (itself w) (less_to n (2 ^ w) lt)

is_number : (w n : ℕ) → n < 2 ^ w → number_of_width w (Value.Int (word w n)) ≡ Num.Is (word w n)
is_number w n lt = ap (λ (b : Bool). if b then Num.Is (word w n) else Num.Poison) (is_word w n lt)

pub literal_is : (w n : ℕ) → n < 2 ^ w → literal (int w) (pos n) ≡ Value.Int (word w n)
literal_is w n lt = ap (λ (k : ℕ). Value.Int (word w k)) (mod-eq_of_lt lt)

module _ (c : Context) (x : Work) (name : ℕ) where
  -- a number and 0
  pub number_done : (w k : ℕ) → k < 2 ^ w → 0 < 2 ^ w
      → instr_action c x (Instr.Binary name BinOp.Add no_flags (int w) (Operand.Number (pos k)) (Operand.Number (pos 0)))
      ≡ Done (set_value x name (Value.Int (word w k)))
  number_done w k lt some =
      ap (λ (v : Value). done (λ (n : Num). set_value x name (value_of n)) (binary BinOp.Add no_flags
      (number_at (int w) v) (number_at (int w) (literal (int w) (pos 0))))) (literal_is w k lt)
      ∙ ap (λ (v : Value). done (λ (n : Num). set_value x name (value_of n)) (binary BinOp.Add no_flags
      (number_at (int w) (Value.Int (word w k))) (number_at (int w) v))) (literal_is w 0 some)
      ∙ ap (λ (n : Num). done (λ (n : Num). set_value x name (value_of n)) (binary BinOp.Add no_flags
      n (number_at (int w) (Value.Int (word w 0))))) (is_number w k lt)
      ∙ ap (λ (n : Num). done (λ (n : Num). set_value x name (value_of n)) (binary BinOp.Add no_flags
      (Num.Is (word w k)) n)) (is_number w 0 some)
      ∙ ap (λ (n : ℕ). Done (set_value x name (Value.Int (word w n)))) (ap (λ (n : ℕ). n % 2 ^ w) (none_more k)
      ∙ mod-eq_of_lt lt)
    where
      none_more : (n : ℕ) → n + 0 ≡ n
      none_more n = omega arith

  -- a truth with itself
  pub truth_done : (b : Bool)
      → instr_action c x (Instr.Binary name BinOp.And no_flags (int 1) (truth_of b) (truth_of b))
      ≡ Done (set_value x name (truth_value b))
  truth_done true = refl
  truth_done false = refl
