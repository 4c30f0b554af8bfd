-- Lemmas on steps.
use Rattle.std.proofs.Common.{◌≡◌, ℕ, zero, suc, ◌+◌, List, [], ◌∷◌, ◌++◌, refl}
use Rattle.std.specs.Prelude.{codes}
use Rattle.rule_laws.specs.ir_base.declared.name.Name.{Name}
use Rattle.pass_early.specs.BeginName.{begin_name}
use Rattle.pass_early.specs.Early.{save_names}
use Rattle.rule_laws.proofs.ir_laws.facts.Lists.{row, rows}
use Rattle.rule_laws.proofs.rules.names_apart.Words.{AreNew}
use Rattle.rule_laws.specs.rules.names_apart.Words.{early_words}
use Rattle.rule_laws.proofs.rules.names_apart.Steps.{IsStep, append_step, word_new}

saves_are : (n : ℕ) → save_names n ≡ rows (codes "$c.save." ∷ []) n
saves_are zero = refl
saves_are (suc n) = λ i. saves_are n i ++ row (codes "$c.save." ∷ []) n

-- ---- the first pass

begin_new : AreNew (codes "$c.begin" ∷ []) (begin_name ∷ [])
unfolding begin_name
begin_new = record { different = (tt, tt); words = (refl, tt) }

pub begin_step : (names : List Name) → IsStep [] (codes "$c.begin" ∷ []) names (names ++ begin_name ∷ [])
begin_step names = append_step [] (codes "$c.begin" ∷ []) names (begin_name ∷ []) refl refl (λ short. begin_new)

pub saves_step : (names : List Name) (n : ℕ) → IsStep (codes "$c.begin" ∷ []) early_words names (names ++ save_names n)
saves_step names n =
    append_step (codes "$c.begin" ∷ []) (codes "$c.save." ∷ []) names (save_names n) refl refl (word_new (codes "$c.save.") n (save_names n) refl (saves_are n))
