-- Layouts of the coroutines of a module in order, each with its coroutine's number.
use Rattle.std.specs.Prelude.{◌≡◌, ◌⊎◌, ◌+◌, ℕ, true, false, List, [], ◌∷◌}
use Rattle.pass_proofs.specs.frame_layout.declared.layout.Layout.{Layout}
use Rattle.pass_proofs.specs.ir_model.declared.module.Function.{Function}

-- of functions, the first of which has a number
abbrev pub AreLayoutsOf : ℕ → List Function → List Layout → Type 0
AreLayoutsOf k [] [] = Unit {0}
AreLayoutsOf k [] (l ∷ ls) = ⊥
AreLayoutsOf k (f ∷ fs) [] = (f.coroutine ≡ false) × AreLayoutsOf (k + 1) fs []
AreLayoutsOf k (f ∷ fs) (l ∷ ls) = ((f.coroutine ≡ false) × AreLayoutsOf (k + 1) fs (l ∷ ls))
    ⊎ ((f.coroutine ≡ true) × (l.coroutine ≡ k) × AreLayoutsOf (k + 1) fs ls)
