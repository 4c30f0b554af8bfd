-- Lemmas on numbers.
use Rattle.std.proofs.Common.{List, [], ◌∷◌, refl, inl, inr}
use Rattle.pass_proofs.specs.pass_split.Parts.{first_layout}
use Rattle.pass_proofs.specs.frame_layout.declared.layout.Layout.{Layout}
use Rattle.pass_proofs.specs.rule_laws.frames.suspend_counts.Given.{IsGiven}

pub first_given : (layouts : List Layout) → IsGiven layouts (first_layout layouts)
first_given [] = inr refl
first_given (l ∷ ls) = inl (inl refl)
