-- Instances whose frames are the same.
use Rattle.std.specs.Prelude.{List, [], ◌∷◌, ◌≡◌}
use Rattle.run_laws_worked.specs.run_source.declared.state.Instance.{Instance}
use Rattle.run_laws_worked.specs.run_source.declared.state.Status.{Status}

-- of the same coroutine, at the same place
pub record IsSameFrame (x y : Instance) : Type 0 where
  pub coroutine : y.coroutine ≡ x.coroutine
  pub block : y.block ≡ x.block
  pub start : y.start ≡ x.start

-- one by one
abbrev pub AreSameFrames : List Instance → List Instance → Type 0
AreSameFrames [] [] = Unit {0}
AreSameFrames [] (y ∷ ys) = ⊥
AreSameFrames (x ∷ xs) [] = ⊥
AreSameFrames (x ∷ xs) (y ∷ ys) = IsSameFrame x y × AreSameFrames xs ys

abbrev pub in_status : Instance → Status → Instance
in_status x status = record x { status = status }
