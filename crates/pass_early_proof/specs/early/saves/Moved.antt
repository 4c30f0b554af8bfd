-- The windows of a function, and those of the function whose saves are written out.
use Rattle.std.specs.Prelude.{false, List, [], ◌≡◌, ◌⊎◌, ◌∷◌}
use Rattle.ir_model.specs.declared.module.Function.{Function}
use Rattle.rule_laws.specs.ir_paths.Paths.{has_point}
use Rattle.rule_laws.specs.ir_paths.declared.point.Point.{Point}
use Rattle.rule_laws.specs.ir_paths.declared.point.Window.{Window}
use Rattle.pass_early_proof.specs.early.saves.Spots.{front_of}

-- a window is moved: its ends are the fronts of those of the window, and it has the fronts of the window's points
pub record IsMoved (f : Function) (w v : Window) : Type 0 where
  pub save : v.save ≡ front_of f w.save
  pub suspend : v.suspend ≡ front_of f w.suspend
  pub inside : (p : Point) → has_point v.inside (front_of f p) ≡ has_point w.inside p

-- the windows are moved, in their order, and among them are others that have no point of the function
abbrev pub AreMoved : Function → List Window → List Window → Type 0
AreMoved f ws [] = ws ≡ []
AreMoved f ws (v ∷ vs) =
    (((p : Point) → has_point v.inside (front_of f p) ≡ false) × AreMoved f ws vs)
    ⊎ ((w : Window) × (rest : List Window) × (ws ≡ w ∷ rest) × IsMoved f w v × AreMoved f rest vs)

-- the same, with no others among them
abbrev pub AreAllMoved : Function → List Window → List Window → Type 0
AreAllMoved f [] [] = Unit {0}
AreAllMoved f [] (v ∷ vs) = ⊥
AreAllMoved f (w ∷ ws) [] = ⊥
AreAllMoved f (w ∷ ws) (v ∷ vs) = IsMoved f w v × AreAllMoved f ws vs
