use Rattle.std.proofs.Common.{ℕ, ◌+◌, Global, Vec, refl, sym, ap, ◌∙◌, subst}
use Rattle.std.proofs.lemmas.Bool.{false≢true}
use Rattle.flow_blocks.proofs.Telling.{told_here, not_told}
use Rattle.flow_blocks.specs.Words.{AreTold}
use Rattle.flow_blocks.proofs.reaching.told.Goals as goal
use Rattle.flow_blocks.proofs.reaching.told.Goals.{then-is_told+in_ok-push, else-is_told}

pub loop-at-preserved : goal.loop-at-preserved
loop-at-preserved c = elim c.if-is_told.branch [
  | then-is_told+in_ok-push w ↦
      subst (AreTold c.args.words.now (c.loop-at.at + 1)) (sym (ap (λ (v : Vec ℕ Global). v.items) w.blocks-is ∙ w.in_ok-push.ensures.items))
      (told_here c.args.words.now c.loop-at.at c.loop-at.blocks.items (w.if-is_told.ensures.0 refl) c.loop-at.invariant)
  | else-is_told w ↦
      subst (AreTold c.args.words.now (c.loop-at.at + 1)) (sym (ap (λ (v : Vec ℕ Global). v.items) w.blocks-is))
      (not_told c.args.words.now c.loop-at.at c.loop-at.blocks.items (λ has. false≢true (w.if-is_told.ensures.1 has)) c.loop-at.invariant)
]
