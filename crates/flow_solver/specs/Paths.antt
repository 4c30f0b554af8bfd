-- The facts that the paths from the starts carry to a node, and their least upper bound.
use Rattle.std.specs.Prelude.{◌≡◌, ℕ, List, [], ◌∷◌, Some, slice_get, ◌<◌, ◌⊎◌}
use Rattle.flow_solver.specs.Domain.{Domain}

-- an element of a list
abbrev pub IsListed : {X : Type 0} → X → List X → Type 0
IsListed y [] = ⊥
IsListed y (x ∷ xs) = (y ≡ x) ⊎ IsListed y xs

-- A path from a start to the node carries the fact there: a start's own fact at its node, and behind one more edge what
-- that edge makes of the fact.
pub data IsCarried {Fact : Type 0} (d : Domain Fact) (edges : List (ℕ × ℕ)) (starts : List (ℕ × Fact)) : ℕ → Fact → Type 0 where
  Start : (node : ℕ) (fact : Fact) → IsListed (node, fact) starts → IsCarried d edges starts node fact
  Edge : (e from to : ℕ) (fact : Fact) → slice_get edges e ≡ Some (from, to) → IsCarried d edges starts from fact → IsCarried d edges starts to (d.carried e fact)

-- A fact at a node that is no higher than finitely many carried facts together.
pub data IsGathered {Fact : Type 0} (d : Domain Fact) (edges : List (ℕ × ℕ)) (starts : List (ℕ × Fact)) (node : ℕ) : Fact → Type 0 where
  Nothing : (fact : Fact) → d.Below fact d.bottom → IsGathered d edges starts node fact
  Alone : (fact carried : Fact) → IsCarried d edges starts node carried → d.Below fact carried → IsGathered d edges starts node fact
  Together : (fact a b : Fact) → d.IsFact a → d.IsFact b → IsGathered d edges starts node a → IsGathered d edges starts node b → d.Below fact (d.joined a b) → IsGathered d edges starts node fact

-- the least upper bound of what is carried to a node
pub record IsLeastAbove {Fact : Type 0} (d : Domain Fact) (edges : List (ℕ × ℕ)) (starts : List (ℕ × Fact)) (node : ℕ) (fact : Fact) : Type 0 where
  pub is_fact : d.IsFact fact
  pub above : (carried : Fact) → IsCarried d edges starts node carried → d.Below carried fact
  pub least : (bound : Fact) → d.IsFact bound → ((carried : Fact) → IsCarried d edges starts node carried → d.Below carried bound) → d.Below fact bound
  pub gathered : IsGathered d edges starts node fact

-- all edges lead between nodes
abbrev pub HasNodes : ℕ → List (ℕ × ℕ) → Type 0
HasNodes nodes edges = (e from to : ℕ) → slice_get edges e ≡ Some (from, to) → (from < nodes) × (to < nodes)

-- all starts are at nodes, with facts of the analysis
abbrev pub AreStarts : {Fact : Type 0} → Domain Fact → ℕ → List (ℕ × Fact) → Type 0
AreStarts d nodes starts = (i node : ℕ) (fact : _) → slice_get starts i ≡ Some (node, fact) → (node < nodes) × d.IsFact fact

-- the analysis knows what each edge makes of facts
abbrev pub AreKnown : {Fact : Type 0} → Domain Fact → List (ℕ × ℕ) → Type 0
AreKnown d edges = (e from to : ℕ) → slice_get edges e ≡ Some (from, to) → d.HasEdge e
