-- What stands at the nodes when none waits is the least upper bound of what is carried there.
use Rattle.std.proofs.Common.{◌≡◌, ℕ, ◌<◌, Bool, List, [], length, get_or, Some, ⊎_elim, arith}
use Rattle.std.specs.Prelude.{slice_get}
use Rattle.std.proofs.lemmas.Option.{slice_get-get_or}
use Rattle.flow_solver.specs.Domain.{Domain, IsLattice}
use Rattle.flow_solver.specs.Paths.{IsListed, IsCarried, IsGathered, IsLeastAbove, HasNodes, AreStarts, AreKnown}
use Rattle.flow_solver.specs.Paths.IsCarried.{Start, Edge}
use Rattle.flow_solver.specs.Paths.IsGathered.{Nothing, Alone, Together}
use Rattle.flow_solver.specs.Steps.{IsUnderway}
use Rattle.flow_solver.proofs.Lists.{place_of}

pub start_is : {Fact : Type 0} (d : Domain Fact) (nodes : ℕ) (starts : List (ℕ × Fact)) → AreStarts d nodes starts → (node : ℕ) (fact : Fact) → IsListed (node, fact) starts → d.IsFact fact
start_is d nodes starts are node fact h = let found = place_of starts (node, fact) h in (are found.0 node fact found.1).1

pub carried_is : {Fact : Type 0} (d : Domain Fact) (nodes : ℕ) (edges : List (ℕ × ℕ)) (starts : List (ℕ × Fact)) → IsLattice d → AreKnown d edges → AreStarts d nodes starts →
    (node : ℕ) (carried : Fact) → IsCarried d edges starts node carried → d.IsFact carried
carried_is d nodes edges starts law known are _ _ (Start node fact h) = start_is d nodes starts are node fact h
carried_is d nodes edges starts law known are _ _ (Edge e from to fact at before) =
    law.carried_is_fact e fact (known e from to at) (carried_is d nodes edges starts law known are from fact before)

carried_below : {Fact : Type 0} (d : Domain Fact) (nodes : ℕ) (edges : List (ℕ × ℕ)) (starts : List (ℕ × Fact)) (facts : List Fact) (waiting : List Bool) → IsLattice d → HasNodes nodes edges → AreKnown d edges → AreStarts d nodes starts →
    IsUnderway d nodes edges starts [] [] facts waiting [] →
    (node : ℕ) (carried : Fact) → IsCarried d edges starts node carried → (x : Fact) → slice_get facts node ≡ Some x → d.Below carried x
carried_below d nodes edges starts facts waiting law has known are u _ _ (Start node fact h) x e = ⊎_elim (λ none. absurd none) (λ b. b) (u.begun (node, fact) x h e)
carried_below {Fact} d nodes edges starts facts waiting law has known are u _ _ (Edge e from to fact at before) x ex =
    let inside = (has e from to at).0 in
    let len = u.facts_length in
    let lt : from < length facts = omega (arith, inside, len) in
    let ey = slice_get-get_or facts from x lt in
    let y : Fact = get_or facts from x in
    let hyp = carried_below d nodes edges starts facts waiting law has known are u from fact before (get_or facts from x) ey in
    let fact_is = carried_is d nodes edges starts law known are from fact before in
    let y_is = u.are_facts from (get_or facts from x) ey in
    let rises = law.carried_rises e fact (get_or facts from x) (known e from to at) fact_is y_is hyp in
    ⊎_elim (λ none. absurd none) (λ p. ⊎_elim (λ none. absurd none) (λ b. law.transitive (d.carried e fact) (d.carried e (get_or facts from x)) x rises b) p)
    (u.closed e from to (get_or facts from x) x at ey ex)

gathered_below : {Fact : Type 0} (d : Domain Fact) (edges : List (ℕ × ℕ)) (starts : List (ℕ × Fact)) (node : ℕ) (bound : Fact) → IsLattice d → d.IsFact bound →
    ((carried : Fact) → IsCarried d edges starts node carried → d.Below carried bound) → (fact : Fact) → IsGathered d edges starts node fact → d.Below fact bound
gathered_below d edges starts node bound law is above _ (Nothing fact b) = law.transitive fact d.bottom bound b (law.bottom_below bound is)
gathered_below d edges starts node bound law is above _ (Alone fact carried c b) = law.transitive fact carried bound b (above carried c)
gathered_below d edges starts node bound law is above _ (Together fact a b a_is b_is ga gb le) =
    law.transitive fact (d.joined a b) bound le
    (law.joined_least a b bound a_is b_is
    (gathered_below d edges starts node bound law is above a ga)
    (gathered_below d edges starts node bound law is above b gb))

pub is_least : {Fact : Type 0} (d : Domain Fact) (nodes : ℕ) (edges : List (ℕ × ℕ)) (starts : List (ℕ × Fact)) (facts : List Fact) (waiting : List Bool) → IsLattice d → HasNodes nodes edges → AreKnown d edges → AreStarts d nodes starts →
    IsUnderway d nodes edges starts [] [] facts waiting [] → (node : ℕ) (fact : Fact) → slice_get facts node ≡ Some fact → IsLeastAbove d edges starts node fact
is_least d nodes edges starts facts waiting law has known are u node fact e = record {
  is_fact = u.are_facts node fact e;
  above = λ carried c. carried_below d nodes edges starts facts waiting law has known are u node carried c fact e;
  least = λ bound is above. gathered_below d edges starts node bound law is above fact (u.gathered node fact e);
  gathered = u.gathered node fact e;
}
