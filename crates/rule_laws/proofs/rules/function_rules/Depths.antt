-- Lemmas on depths, that speak of no pass.
use Rattle.std.proofs.Common.{None, Option, Some, ap, false, not, true, ℕ, ◌||◌, ◌≡◌}
use Rattle.ir_laws.specs.ir_base.declared.outcome.Place.{Place}
use Rattle.ir_laws.proofs.facts.Truth.{holds, second_no as or_second_out}
use Rattle.ir_parts.specs.Contents.{part_types}
use Rattle.ir_parts.specs.Parts.{Part}
use Rattle.ir_laws.specs.ir_model.declared.module.Module.{Module}
use Rattle.rule_names.specs.declared.stage.Stage.{Stage}
use Rattle.rule_types.specs.Limits.{all_fit, breaks_limits, is_block_past, is_spot}

-- ---- the types of a part

-- in a plain module the rule speaks of types alone
pub plain_part : (m : Module) (p : Place) (x : Part) → all_fit m (part_types x) ≡ true → breaks_limits Stage.Plain m None p x ≡ false
plain_part m p x e = on p.block
  where
    on : (o : Option ℕ) → (is_block_past Stage.Plain o || not (all_fit m (part_types x))) ≡ false
    on None = ap not e
    on (Some k) = ap not e

pub types_fit : (stage : Stage) (m : Module) (past : Option Place) (p : Place) (x : Part) → breaks_limits stage m past p x ≡ false → all_fit m (part_types x) ≡ true
types_fit stage m past p x e =
    holds (all_fit m (part_types x))
    (or_second_out (is_block_past stage p.block) (not (all_fit m (part_types x)))
    (or_second_out (is_spot past p) (is_block_past stage p.block || not (all_fit m (part_types x))) e))
