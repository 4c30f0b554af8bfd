-- Lemmas on names.
use Rattle.std.proofs.Common.{ℕ, zero, suc, [], ◌∷◌, refl}
use Rattle.std.specs.Prelude.{codes}
use Rattle.rule_laws.specs.text_names.Spelling.{IsName}
use Rattle.pass_early.specs.BeginName.{begin_name}
use Rattle.pass_early.specs.Early.{save_names}
use Rattle.ir_model.specs.Names.{numbered}
use Rattle.rule_laws.specs.run_laws.changed.Changed.{Each}
use Rattle.rule_laws.proofs.ir_laws.facts.Lists.{numbered_named}
use Rattle.rule_laws.proofs.ir_laws.facts.Members.{joined_names}

pub saves_named : (k : ℕ) → Each IsName (save_names k)
saves_named zero = tt
saves_named (suc k) = joined_names (save_names k) (numbered (codes "$c.save.") k ∷ []) (saves_named k) (numbered_named (codes "$c.save.") k refl, tt)

pub begin_named : IsName begin_name
unfolding begin_name
begin_named = refl
