use Rattle.std.proofs.Common.{◌≡◌, ℕ, ◌<◌, false, Some}
use Rattle.std.specs.Prelude.{slice_get}
use Rattle.rule_uses.specs.Questions.{is_told}
use Rattle.rule_uses.specs.declared.open_use.OpenUse.{OpenUse}
use Rattle.rule_uses.proofs.rule.first_told.Given as goal

abbrev pub invariant-loop-at : goal.invariant-loop-at
invariant-loop-at l = (i : ℕ) (u : OpenUse) → i < l.at → slice_get l.opens i ≡ Some u → is_told l.numbers l.chunk l.made l.words u ≡ false
