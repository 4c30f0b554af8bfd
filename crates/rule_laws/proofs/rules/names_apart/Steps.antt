-- Lemmas on steps, that speak of no pass.
use Rattle.std.proofs.Common.{◌≡◌, ℕ, ◌+◌, ◌≤◌, true, List, [], ◌∷◌, ◌++◌, length, sym, ap, subst, arith}
use Rattle.std.specs.Prelude.{codes}
use Rattle.std.proofs.lemmas.List.{length-append}
use Rattle.ir_laws.specs.ir_base.declared.name.Name.{Name}
use Rattle.rule_laws.proofs.rules.names_apart.Numbered.{are_right, rows_new}
use Rattle.ir_laws.proofs.facts.Lists.{rows, rows_longer}
use Rattle.rule_laws.proofs.rules.names_apart.Words.{AreNew, are_all_unlike, are_own, more_words, table_behind}
use Rattle.rule_laws.specs.rules.names_apart.Words.{AreFew, IsTableOf}

-- ---- steps

-- A table becomes another that isn't shorter; where that one is short, it is one of these words where the first is.
pub record IsStep (old new : List (List ℕ)) (a b : List Name) : Type 0 where
  pub longer : length a ≤ length b
  pub table : AreFew b → IsTableOf old a → IsTableOf new b

pub then_step : (us vs ws : List (List ℕ)) (a b c : List Name) → IsStep us vs a b → IsStep vs ws b c → IsStep us ws a c
then_step us vs ws a b c p q =
    record {
      longer = let first = p.longer in let second = q.longer in omega (arith, first, second);
      table = λ short h. q.table short (p.table (let second = q.longer in omega (arith, second, short)) h);
    }

pub append_step : (old new : List (List ℕ)) (names more : List Name) → are_all_unlike new old ≡ true → are_own new ≡ true → (AreFew more → AreNew new more) → IsStep old (new ++ old) names (names ++ more)
append_step old new names more unlike own go =
    let size : length (names ++ more) ≡ length names + length more = length-append names more in
    record {
      longer = omega (arith, size);
      table = λ short h. table_behind old new names more unlike own h (go (omega (arith, size, short)));
    }

-- the names of a word with the numbers below another
pub word_new : (w : List ℕ) (n : ℕ) (names : List Name) → are_right (w ∷ []) ≡ true → names ≡ rows (w ∷ []) n → AreFew names → AreNew (w ∷ []) names
word_new w n names right same short =
    subst (λ (l : List Name). AreNew (w ∷ []) l) (sym same)
    (rows_new (w ∷ []) n right (let size = rows_longer w [] n in omega (arith, size, ap length same, short)))

pub no_begin_step : (names : List Name) → IsStep [] (codes "$c.begin" ∷ []) names names
no_begin_step names = record { longer = omega arith; table = λ short h. more_words (codes "$c.begin" ∷ []) [] names h }
