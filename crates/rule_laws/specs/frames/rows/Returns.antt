-- Lemmas on returns, that speak of no pass.
use Rattle.std.specs.Prelude.{ℕ, List, [], ◌∷◌}
use Rattle.pass_intrinsics.specs.Shapes.{suspends_of}
use Rattle.pass_intrinsics.specs.declared.shape.SuspendPoint.{SuspendPoint}
use Rattle.ir_laws.specs.ir_model.declared.module.Function.{Function}
use Rattle.ir_laws.specs.paths.rows.Returns.{AreOwnAndDifferent}

-- ---- the same of a list of suspends

-- the labels of the resume and destroy edges of suspends
abbrev pub return_labels : List SuspendPoint → List ℕ
return_labels [] = []
return_labels (s ∷ ss) = s.resume ∷ s.destroy ∷ return_labels ss

-- the resume and destroy edges of a function's suspends lead to blocks of their own, each to another one
abbrev pub HaveOwnReturns : Function → Type 0
HaveOwnReturns f = AreOwnAndDifferent f (return_labels (suspends_of f))
