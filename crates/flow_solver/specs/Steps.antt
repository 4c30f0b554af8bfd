-- What a solver's steps do to its state.
use Rattle.std.specs.Prelude.{◌≡◌, ℕ, List, [], ◌∷◌, ◌++◌, ◌+◌, ◌-◌, ◌<◌, ◌⊎◌, Bool, true, length, Some, slice_get, slice_set, sum_by}
use Rattle.flow_solver.specs.Domain.{Domain}
use Rattle.flow_solver.specs.Paths.{IsListed, IsGathered}

abbrev pub AreFacts : {Fact : Type 0} → Domain Fact → List Fact → Type 0
AreFacts d facts = (k : ℕ) (x : _) → slice_get facts k ≡ Some x → d.IsFact x

-- nothing changed, since the node's fact says all that the new one does
pub record IsKept {Fact : Type 0} (d : Domain Fact) (node : ℕ) (fact : Fact) (facts facts2 : List Fact) (waiting waiting2 : List Bool) (todo todo2 : List ℕ) : Type 0 where
  pub old : Fact
  pub was : slice_get facts node ≡ Some old
  pub said : d.Below (d.joined old fact) old
  pub facts_kept : facts2 ≡ facts
  pub waiting_kept : waiting2 ≡ waiting
  pub todo_kept : todo2 ≡ todo

-- the node is first in the list or last
abbrev pub IsPut : ℕ → List ℕ → List ℕ → Type 0
IsPut node todo todo2 = (todo2 ≡ node ∷ todo) ⊎ (todo2 ≡ todo ++ node ∷ [])

-- the node waited before, or is put into the list
abbrev pub IsWaiting : ℕ → List Bool → List Bool → List ℕ → List ℕ → Type 0
IsWaiting node waiting waiting2 todo todo2 = ((slice_get waiting node ≡ Some true) × (waiting2 ≡ waiting) × (todo2 ≡ todo)) ⊎ ((waiting2 ≡ slice_set waiting node true) × IsPut node todo todo2)

-- the node's fact has risen, and the node waits for a visit
pub record IsRisen {Fact : Type 0} (d : Domain Fact) (node : ℕ) (fact : Fact) (facts facts2 : List Fact) (waiting waiting2 : List Bool) (todo todo2 : List ℕ) : Type 0 where
  pub old : Fact
  pub was : slice_get facts node ≡ Some old
  pub new : d.Below (d.joined old fact) old → ⊥
  pub facts_set : facts2 ≡ slice_set facts node (d.joined old fact)
  pub put : IsWaiting node waiting waiting2 todo todo2

abbrev pub IsRaised : {Fact : Type 0} → Domain Fact → ℕ → Fact → List Fact → List Fact → List Bool → List Bool → List ℕ → List ℕ → Type 0
IsRaised d node fact facts facts2 waiting waiting2 todo todo2 =
    IsKept d node fact facts facts2 waiting waiting2 todo todo2 ⊎ IsRisen d node fact facts facts2 waiting waiting2 todo todo2

-- A solver under way: which starts are still to be joined (`yet`), and which edges of the node visited are still to be
-- followed (`rest`).
pub record IsUnderway {Fact : Type 0} (d : Domain Fact) (nodes : ℕ) (edges : List (ℕ × ℕ)) (starts yet : List (ℕ × Fact)) (rest : List ℕ) (facts : List Fact) (waiting : List Bool) (todo : List ℕ) : Type 0 where
  pub facts_length : length facts ≡ nodes
  pub waiting_length : length waiting ≡ nodes
  pub are_facts : AreFacts d facts
  pub gathered : (k : ℕ) (x : Fact) → slice_get facts k ≡ Some x → IsGathered d edges starts k x
  pub listed : (k : ℕ) → slice_get waiting k ≡ Some true → IsListed k todo
  pub inside : (k : ℕ) → IsListed k todo → k < nodes
  pub begun : (s : ℕ × Fact) (x : Fact) → IsListed s starts → slice_get facts s.0 ≡ Some x → IsListed s yet ⊎ d.Below s.1 x
  pub closed : (e from to : ℕ) (x y : Fact) → slice_get edges e ≡ Some (from, to) → slice_get facts from ≡ Some x → slice_get facts to ≡ Some y → IsListed from todo ⊎ (IsListed e rest ⊎ d.Below (d.carried e x) y)

-- how often facts may still rise, and nodes be visited
abbrev pub left_of : {Fact : Type 0} → Domain Fact → List Fact → List ℕ → ℕ
left_of d facts todo = sum_by (λ x. d.height - d.rank x) facts + length todo
