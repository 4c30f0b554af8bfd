-- Candidates that would lead back to their caller are dropped.
use Rattle.std.specs.Prelude.{ℕ, List, Some, slice_get, ◌≡◌, ◌⊎◌}
use Rattle.elide_candidates.specs.Candidates.{IsCandidate}
use Rattle.elide_sites.specs.Chosen.{AreChosen}
use Rattle.elide_sites.specs.Sites.{callee_in, is_named_call}
use Rattle.ir_base.specs.declared.outcome.Place.{Place}
use Rattle.ir_model.specs.Names.{function_at}
use Rattle.ir_model.specs.declared.module.Module.{Module}
use Rattle.ir_paths.specs.Windows.{instr_at}
use Rattle.ir_paths.specs.declared.point.Point.{Point}
use Rattle.rule_shape.specs.Places.{places_where}
use Rattle.rule_windows.specs.Points.{point_of}

-- the function at a position has this candidate on the function at another
pub record LeadsBy (m : Module) (func callee : ℕ) (call : Point) : Type 0 where
  pub candidate : IsCandidate m (function_at m func) call
  pub is_callee : callee_in m (instr_at (function_at m func) call) ≡ Some callee

-- it has some candidate on it
pub record LeadsTo (m : Module) (func callee : ℕ) : Type 0 where
  pub call : Point
  pub leads : LeadsBy m func callee call

-- a chain of such leads goes from the first to the second
pub data IsChain (m : Module) (func : ℕ) : ℕ → Type 0 where
  One : (g : ℕ) → LeadsTo m func g → IsChain m func g
  More : (g h : ℕ) → IsChain m func g → LeadsTo m g h → IsChain m func h

-- a candidate on the function itself, or on one from which a chain goes back, is dropped
abbrev pub IsDropped : Module → ℕ → ℕ → Type 0
IsDropped m func callee = (callee ≡ func) ⊎ IsChain m callee func

-- ---- what is left

pub record IsLeft (m : Module) (func callee : ℕ) (call : Point) : Type 0 where
  pub leads : LeadsBy m func callee call
  pub kept : IsDropped m func callee → ⊥

pub record IsLeftAt (m : Module) (func : ℕ) (call : Point) : Type 0 where
  pub callee : ℕ
  pub is_left : IsLeft m func callee call

-- exactly the candidates of the function at a position that are left, in order of place
abbrev pub AreLeft : Module → ℕ → List Place → Type 0
AreLeft m func all =
    AreChosen (λ p. IsLeftAt m func (point_of (function_at m func) p))
    (places_where is_named_call func (function_at m func)) all

-- a chain of candidates that are left
pub record LeadsLeft (m : Module) (func callee : ℕ) : Type 0 where
  pub call : Point
  pub left : IsLeft m func callee call

pub data IsChainLeft (m : Module) (func : ℕ) : ℕ → Type 0 where
  OneLeft : (g : ℕ) → LeadsLeft m func g → IsChainLeft m func g
  MoreLeft : (g h : ℕ) → IsChainLeft m func g → LeadsLeft m g h → IsChainLeft m func h
