-- What blocks on edges ask of a function's labels, and which label an edge leads to then.
use Rattle.std.specs.Prelude.{ℕ, Bool, false, List, [], slice_get, Some, unwrap_or, ◌≡◌, ◌⊎◌, ◌∷◌}
use Rattle.pass_edges.specs.declared.edge.Edge.{Edge}

-- among these edges is one with a block
pub record IsAmong (edges : List Edge) (e : Edge) : Type 0 where
  pub at : ℕ
  pub got : slice_get edges at ≡ Some e

-- an edge from a label to t leads to l then: to t itself, which has no phis, or to the block of one of these edges, which leads to t
abbrev pub IsSplit : List Bool → ℕ → List Edge → ℕ → ℕ → Type 0
IsSplit flags from edges t l =
    ((l ≡ t) × (unwrap_or (slice_get flags t) false ≡ false)) ⊎ IsAmong edges (record { from = from; target = t; label = l })

-- the same for each of some edges
abbrev pub AreSplit : List Bool → ℕ → List Edge → List ℕ → List ℕ → Type 0
AreSplit flags from edges [] [] = Unit {0}
AreSplit flags from edges [] (l ∷ ls) = ⊥
AreSplit flags from edges (t ∷ ts) [] = ⊥
AreSplit flags from edges (t ∷ ts) (l ∷ ls) = IsSplit flags from edges t l × AreSplit flags from edges ts ls
