-- Lemmas on defined.
use Rattle.std.proofs.Common.{◌≡◌, ℕ, List, refl, sym, ◌∙◌}
use Rattle.std.specs.Prelude.{◌==◌, ◌||◌}
use Rattle.pass_early_proof.proofs.early.local_rules.Turned.{NoBlock, OneMore, TurnsBlocks}
use Rattle.pass_early.specs.declared.renaming.Renaming.{Renaming}
use Rattle.ir_model.specs.declared.module.Block.{Block}
use Rattle.ir_model.specs.declared.module.Function.{Function}
use Rattle.rule_laws.specs.rule_names.Known.{is_label}
use Rattle.rule_laws.proofs.rules.local_rules.Defined.{label_defined, labelled}

-- ---- the pass leaves them

module _ (v : ℕ) where
  labels_kept : (r : Renaming) (fresh : ℕ → Type 0) (bs cs : List Block) → TurnsBlocks r fresh bs cs → labelled v cs ≡ labelled v bs
  labels_kept r fresh _ _ NoBlock = refl
  labels_kept r fresh _ _ (OneMore b c bs cs t rest) = λ k. (t.label k == v) || labels_kept r fresh bs cs rest k

  -- the pass leaves the labels
  pub label_same : (r : Renaming) (fresh : ℕ → Type 0) (func : ℕ) (f g : Function) → TurnsBlocks r fresh f.blocks g.blocks → is_label func g v ≡ is_label func f v
  label_same r fresh func f g t = label_defined v func g ∙ labels_kept r fresh f.blocks g.blocks t ∙ sym (label_defined v func f)
