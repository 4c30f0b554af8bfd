-- A solver's beginning, and its steps from start to start, edge to edge and node to node.
use Rattle.std.proofs.Common.{◌≡◌, ℕ, ◌+◌, ◌<◌, ◌≤◌, ◌⊎◌, Bool, true, false, List, [], ◌∷◌, length, get_or, drop, replicate, Some, refl, sym, ap, ◌∙◌, subst, ⊎_elim, inl, inr, arith}
use Rattle.std.specs.Prelude.{slice_get, slice_set}
use Rattle.std.proofs.lemmas.Bool.{false≢true}
use Rattle.std.proofs.lemmas.Option.{slice_get_within, slice_get-get_or, slice_get_read, get_or_from_slice_get}
use Rattle.std.proofs.lemmas.List.{length-set, length-replicate, get_or-replicate}
use Rattle.flow_solver.specs.Domain.{Domain, IsLattice}
use Rattle.flow_solver.specs.Outgoing.{AreOutgoing, LeaveNode}
use Rattle.flow_solver.specs.Paths.{IsListed, IsCarried, IsGathered, HasNodes, AreStarts, AreKnown}
use Rattle.flow_solver.specs.Paths.IsCarried.{Start, Edge}
use Rattle.flow_solver.specs.Paths.IsGathered.{Nothing, Alone, Together}
use Rattle.flow_solver.specs.Steps.{IsRaised, IsUnderway, left_of}
use Rattle.flow_solver.proofs.Lists.{set_cases, same_place, listed_at, drop-next}
use Rattle.flow_solver.proofs.Raising.{raise_keeps, raise_brings, raise_lists, raise_lessens}
use Rattle.flow_solver.proofs.Ending.{carried_is}

replicated : {X : Type 0} (n k : ℕ) (a x : X) → slice_get (replicate n a) k ≡ Some x → x ≡ a
replicated n k a x e =
    let lt = slice_get_within (replicate n a) k x e in
    let len = length-replicate n a in
    let below : k < n = omega (arith, lt, len) in
    same_place (slice_get (replicate n a) k) x a e (slice_get-get_or (replicate n a) k a lt ∙ ap (λ z. Some z) (get_or-replicate n k a a below))

blank : {Fact : Type 0} (d : Domain Fact) (nodes : ℕ) (edges : List (ℕ × ℕ)) (starts : List (ℕ × Fact)) → IsLattice d → AreKnown d edges →
    IsUnderway d nodes edges starts starts [] (replicate nodes d.bottom) (replicate nodes false) []
blank d nodes edges starts law known = record {
  facts_length = length-replicate nodes d.bottom;
  waiting_length = length-replicate nodes false;
  are_facts = λ k x e. subst d.IsFact (sym (replicated nodes k d.bottom x e)) law.bottom_is_fact;
  gathered = λ k x e. Nothing x (subst (λ z. d.Below z d.bottom) (sym (replicated nodes k d.bottom x e)) (law.reflexive d.bottom));
  listed = λ k e. absurd (false≢true (sym (replicated nodes k false true e)));
  inside = λ k h. absurd h;
  begun = λ s x h e. inl h;
  closed = λ e from to x y at ex ey. inr (inr
      (subst (λ z. d.Below (d.carried e z) y) (sym (replicated nodes from d.bottom x ex))
      (subst (d.Below (d.carried e d.bottom)) (sym (replicated nodes to d.bottom y ey)) (law.carried_bottom e (known e from to at)))));
}

pub begins : {Fact : Type 0} (d : Domain Fact) (nodes : ℕ) (edges : List (ℕ × ℕ)) (starts : List (ℕ × Fact)) (facts : List Fact) (waiting : List Bool) (todo : List ℕ) → IsLattice d → AreKnown d edges →
    facts ≡ replicate nodes d.bottom → waiting ≡ replicate nodes false → todo ≡ [] → IsUnderway d nodes edges starts starts [] facts waiting todo
begins d nodes edges starts facts waiting todo law known ef ew et =
    subst (λ t. IsUnderway d nodes edges starts starts [] facts waiting t) (sym et)
    (subst (λ w. IsUnderway d nodes edges starts starts [] facts w []) (sym ew)
    (subst (λ f. IsUnderway d nodes edges starts starts [] f (replicate nodes false) []) (sym ef) (blank d nodes edges starts law known)))

-- a start that was joined is done with
start_done : {Fact : Type 0} {d : Domain Fact} {nodes : ℕ} {edges : List (ℕ × ℕ)} {starts : List (ℕ × Fact)} (s : ℕ × Fact) (yet : List (ℕ × Fact)) {rest : List ℕ} {facts : List Fact} {waiting : List Bool} {todo : List ℕ} →
    (u : IsUnderway d nodes edges starts (s ∷ yet) rest facts waiting todo) → ((y : Fact) → slice_get facts s.0 ≡ Some y → d.Below s.1 y) → IsUnderway d nodes edges starts yet rest facts waiting todo
start_done {Fact} {d} {nodes} {edges} {starts} s yet {rest} {facts} {waiting} {todo} u brought = record {
  facts_length = u.facts_length;
  waiting_length = u.waiting_length;
  are_facts = u.are_facts;
  gathered = u.gathered;
  listed = u.listed;
  inside = u.inside;
  begun = λ t x h e. ⊎_elim (λ p. ⊎_elim (λ same. inr (at_start t x e same)) (λ later. inl later) p) (λ b. inr b) (u.begun t x h e);
  closed = u.closed;
}
  where
    at_start : (t : ℕ × Fact) (x : Fact) → slice_get facts t.0 ≡ Some x → t ≡ s → d.Below t.1 x
    at_start t x e same = subst (λ (q : ℕ × Fact). d.Below q.1 x) (sym same) (brought x (sym (ap (λ (q : ℕ × Fact). slice_get facts q.0) same) ∙ e))

-- an edge that was followed is done with
edge_done : {Fact : Type 0} {d : Domain Fact} {nodes : ℕ} {edges : List (ℕ × ℕ)} {starts yet : List (ℕ × Fact)} (e : ℕ) (rest : List ℕ) {facts : List Fact} {waiting : List Bool} {todo : List ℕ} →
    (u : IsUnderway d nodes edges starts yet (e ∷ rest) facts waiting todo) →
    ((from to : ℕ) (x y : Fact) → slice_get edges e ≡ Some (from, to) → slice_get facts from ≡ Some x → slice_get facts to ≡ Some y → IsListed from todo ⊎ d.Below (d.carried e x) y) →
    IsUnderway d nodes edges starts yet rest facts waiting todo
edge_done {Fact} {d} {nodes} {edges} {starts} {yet} e rest {facts} {waiting} {todo} u followed = record {
  facts_length = u.facts_length;
  waiting_length = u.waiting_length;
  are_facts = u.are_facts;
  gathered = u.gathered;
  listed = u.listed;
  inside = u.inside;
  begun = u.begun;
  closed = λ f from to x y at ex ey. ⊎_elim (λ p. inl p) (λ p. ⊎_elim (λ q. ⊎_elim (λ same. at_edge f from to x y at ex ey same) (λ later. inr (inl later)) q) (λ b. inr (inr b)) p) (u.closed f from to x y at ex ey);
}
  where
    at_edge : (f from to : ℕ) (x y : Fact) → slice_get edges f ≡ Some (from, to) → slice_get facts from ≡ Some x → slice_get facts to ≡ Some y → f ≡ e → IsListed from todo ⊎ (IsListed f rest ⊎ d.Below (d.carried f x) y)
    at_edge f from to x y at ex ey same =
        ⊎_elim (λ p. inl p) (λ b. inr (inr (subst (λ j. d.Below (d.carried j x) y) (sym same) b)))
        (followed from to x y (sym (ap (slice_get edges) same) ∙ at) ex ey)

pub start_step : {Fact : Type 0} (d : Domain Fact) (nodes : ℕ) (edges : List (ℕ × ℕ)) (starts : List (ℕ × Fact)) (i : ℕ) (s : ℕ × Fact) (facts facts2 : List Fact) (waiting waiting2 : List Bool) (todo todo2 : List ℕ) →
    IsLattice d → AreStarts d nodes starts → i < length starts → s ≡ get_or starts i s →
    IsUnderway d nodes edges starts (drop i starts) [] facts waiting todo →
    IsRaised d s.0 s.1 facts facts2 waiting waiting2 todo todo2 →
    IsUnderway d nodes edges starts (drop (i + 1) starts) [] facts2 waiting2 todo2
start_step d nodes edges starts i s facts facts2 waiting waiting2 todo todo2 law are lt is u r =
    let at = slice_get_read starts (length starts) i s refl lt is in
    let fact_is = (are i s.0 s.1 at).1 in
    let now = subst (λ yet. IsUnderway d nodes edges starts yet [] facts waiting todo) (drop-next starts i s lt is) u in
    let made = Alone s.1 s.1 (Start s.0 s.1 (listed_at starts i s at)) (law.reflexive s.1) in
    start_done s (drop (i + 1) starts) (raise_keeps law r now fact_is made) (raise_brings law r now fact_is)

carried_gathered : {Fact : Type 0} (d : Domain Fact) (edges : List (ℕ × ℕ)) (starts : List (ℕ × Fact)) (e node to : ℕ) → IsLattice d → d.HasEdge e → slice_get edges e ≡ Some (node, to) →
    ((c : Fact) → IsCarried d edges starts node c → d.IsFact c) → (fact : Fact) → d.IsFact fact → IsGathered d edges starts node fact → IsGathered d edges starts to (d.carried e fact)
carried_gathered d edges starts e node to law known at are _ is (Nothing fact b) =
    Nothing (d.carried e fact) (law.transitive (d.carried e fact) (d.carried e d.bottom) d.bottom (law.carried_rises e fact d.bottom known is law.bottom_is_fact b) (law.carried_bottom e known))
carried_gathered d edges starts e node to law known at are _ is (Alone fact c carried b) =
    Alone (d.carried e fact) (d.carried e c) (Edge e node to c at carried) (law.carried_rises e fact c known is (are c carried) b)
carried_gathered d edges starts e node to law known at are _ is (Together fact a b a_is b_is ga gb le) =
    let both = law.joined_is_fact a b a_is b_is in
    Together (d.carried e fact) (d.carried e a) (d.carried e b) (law.carried_is_fact e a known a_is) (law.carried_is_fact e b known b_is)
    (carried_gathered d edges starts e node to law known at are a a_is ga)
    (carried_gathered d edges starts e node to law known at are b b_is gb)
    (law.transitive (d.carried e fact) (d.carried e (d.joined a b)) (d.joined (d.carried e a) (d.carried e b)) (law.carried_rises e fact (d.joined a b) known is both le) (law.carried_joined e a b known a_is b_is))

pub edge_step : {Fact : Type 0} (d : Domain Fact) (nodes : ℕ) (edges : List (ℕ × ℕ)) (starts : List (ℕ × Fact)) (row : List ℕ) (i e node to : ℕ) (fact : Fact) (facts facts2 : List Fact) (waiting waiting2 : List Bool) (todo todo2 : List ℕ) →
    IsLattice d → AreKnown d edges → ((k : ℕ) (c : Fact) → IsCarried d edges starts k c → d.IsFact c) → i < length row → e ≡ get_or row i e → slice_get edges e ≡ Some (node, to) → slice_get facts node ≡ Some fact →
    IsUnderway d nodes edges starts [] (drop i row) facts waiting todo →
    IsRaised d to (d.carried e fact) facts facts2 waiting waiting2 todo todo2 →
    IsUnderway d nodes edges starts [] (drop (i + 1) row) facts2 waiting2 todo2
edge_step {Fact} d nodes edges starts row i e node to fact facts facts2 waiting waiting2 todo todo2 law known are lt is at here u r =
    edge_done e (drop (i + 1) row) (raise_keeps law r now carried_is made) followed
  where
    knows : d.HasEdge e
    knows = known e node to at

    fact_is : d.IsFact fact
    fact_is = u.are_facts node fact here

    carried_is : d.IsFact (d.carried e fact)
    carried_is = law.carried_is_fact e fact (known e node to at) (u.are_facts node fact here)

    now : IsUnderway d nodes edges starts [] (e ∷ drop (i + 1) row) facts waiting todo
    now = subst (λ rest. IsUnderway d nodes edges starts [] rest facts waiting todo) (drop-next row i e lt is) u

    made : IsGathered d edges starts to (d.carried e fact)
    made = carried_gathered d edges starts e node to law (known e node to at) at (are node) fact (u.are_facts node fact here) (u.gathered node fact here)

    followed : (from to2 : ℕ) (x y : Fact) → slice_get edges e ≡ Some (from, to2) → slice_get facts2 from ≡ Some x → slice_get facts2 to2 ≡ Some y → IsListed from todo2 ⊎ d.Below (d.carried e x) y
    followed from to2 x y at2 ex ey =
        let same = same_place (slice_get edges e) (from, to2) (node, to) at2 at in
        let from_is = ap (λ (p : ℕ × ℕ). p.0) same in
        let to_is = ap (λ (p : ℕ × ℕ). p.1) same in
        let there : slice_get facts2 to ≡ Some y = sym (ap (slice_get facts2) to_is) ∙ ey in
        let brought = raise_brings law r now carried_is y there in
        ⊎_elim (λ p. inl p)
        (λ old. let x_is = same_place (slice_get facts node) x fact (sym (ap (slice_get facts) from_is) ∙ old) here in
        inr (subst (λ z. d.Below (d.carried e z) y) (sym x_is) brought))
        (raise_lists r now from x ex)

-- a node is taken from the list, and its edges are to be followed
pub node_step : {Fact : Type 0} (d : Domain Fact) (nodes : ℕ) (edges : List (ℕ × ℕ)) (starts : List (ℕ × Fact)) (rows : List (List ℕ)) (row : List ℕ) (node : ℕ) (facts : List Fact) (waiting : List Bool) (todo : List ℕ) →
    AreOutgoing nodes edges rows → slice_get rows node ≡ Some row →
    IsUnderway d nodes edges starts [] [] facts waiting (node ∷ todo) →
    IsUnderway d nodes edges starts [] row facts (slice_set waiting node false) todo
node_step {Fact} d nodes edges starts rows row node facts waiting todo out at u = record {
  facts_length = u.facts_length;
  waiting_length = length-set waiting node false ∙ u.waiting_length;
  are_facts = u.are_facts;
  gathered = u.gathered;
  listed = λ k e. ⊎_elim (λ p. absurd (false≢true (sym p.1))) (λ p. ⊎_elim (λ same. absurd (p.1 same)) (λ later. later) (u.listed k p.0)) (set_cases waiting node k false true e);
  inside = λ k h. u.inside k (inr h);
  begun = u.begun;
  closed = λ e from to x y is ex ey. ⊎_elim (λ p. ⊎_elim (λ same. inr (inl (out.lists e from to row is (ap (slice_get rows) same ∙ at)))) (λ later. inl later) p) (λ p. ⊎_elim (λ none. absurd none) (λ b. inr (inr b)) p) (u.closed e from to x y is ex ey);
}

-- ---- an edge of a row

edge_of : (edges : List (ℕ × ℕ)) (node : ℕ) (row : List ℕ) (i : ℕ) → LeaveNode edges node row → i < length row →
    slice_get edges (get_or row i 0) ≡ Some (node, (get_or edges (get_or row i 0) (0, 0)).1)
edge_of edges node row i leave lt =
    let leaf = leave (get_or row i 0) (listed_at row i (get_or row i 0) (slice_get-get_or row i 0 lt)) in
    let is = ap (λ (p : ℕ × ℕ). p.1) (get_or_from_slice_get edges (get_or row i 0) (node, leaf.0) (0, 0) leaf.1) in
    leaf.1 ∙ ap (λ to. Some (node, to)) (sym is)

pub edge_within : (edges : List (ℕ × ℕ)) (node : ℕ) (row : List ℕ) (i : ℕ) → LeaveNode edges node row → i < length row → get_or row i 0 < length edges
edge_within edges node row i leave lt = slice_get_within edges (get_or row i 0) (node, (get_or edges (get_or row i 0) (0, 0)).1) (edge_of edges node row i leave lt)

pub edge_known : {Fact : Type 0} (d : Domain Fact) (edges : List (ℕ × ℕ)) (node : ℕ) (row : List ℕ) (i : ℕ) → AreKnown d edges → LeaveNode edges node row → i < length row → d.HasEdge (get_or row i 0)
edge_known d edges node row i known leave lt = known (get_or row i 0) node (get_or edges (get_or row i 0) (0, 0)).1 (edge_of edges node row i leave lt)

pub target_inside : (nodes : ℕ) (edges : List (ℕ × ℕ)) (node : ℕ) (row : List ℕ) (i to : ℕ) → HasNodes nodes edges → LeaveNode edges node row → i < length row → to ≡ (get_or edges (get_or row i 0) (0, 0)).1 → to < nodes
target_inside nodes edges node row i to has leave lt is = subst (λ k. k < nodes) (sym is) (has (get_or row i 0) node (get_or edges (get_or row i 0) (0, 0)).1 (edge_of edges node row i leave lt)).1

pub carried_fact : {Fact : Type 0} (d : Domain Fact) (edges : List (ℕ × ℕ)) (node : ℕ) (row : List ℕ) (i : ℕ) (fact carried : Fact) → IsLattice d → AreKnown d edges → LeaveNode edges node row → i < length row →
    d.IsFact fact → carried ≡ d.carried (get_or row i 0) fact → d.IsFact carried
carried_fact d edges node row i fact carried law known leave lt is e = subst d.IsFact (sym e) (law.carried_is_fact (get_or row i 0) fact (edge_known d edges node row i known leave lt) is)

pub visit_step : {Fact : Type 0} (d : Domain Fact) (nodes : ℕ) (edges : List (ℕ × ℕ)) (starts : List (ℕ × Fact)) (row : List ℕ) (i node to : ℕ) (fact carried : Fact) (facts facts2 : List Fact) (waiting waiting2 : List Bool) (todo todo2 : List ℕ) (before : ℕ) →
    IsLattice d → AreKnown d edges → AreStarts d nodes starts → LeaveNode edges node row → i < length row →
    to ≡ (get_or edges (get_or row i 0) (0, 0)).1 → slice_get facts node ≡ Some fact → carried ≡ d.carried (get_or row i 0) fact →
    IsUnderway d nodes edges starts [] (drop i row) facts waiting todo → left_of d facts todo ≤ before →
    IsRaised d to carried facts facts2 waiting waiting2 todo todo2 →
    IsUnderway d nodes edges starts [] (drop (i + 1) row) facts2 waiting2 todo2 × (left_of d facts2 todo2 ≤ before)
visit_step {Fact} d nodes edges starts row i node to fact carried facts facts2 waiting waiting2 todo todo2 before law known are leave lt to_is here carried_eq u le r = (
  edge_step d nodes edges starts row i (get_or row i 0) node to fact facts facts2 waiting waiting2 todo todo2 law known
      (λ k c. carried_is d nodes edges starts law known are k c) lt read at here u now,
  (let less = raise_lessens law r u (carried_fact d edges node row i fact carried law known leave lt (u.are_facts node fact here) carried_eq) in omega (arith, less, le)),
)
  where
    read : get_or row i 0 ≡ get_or row i (get_or row i 0)
    read = sym (get_or_from_slice_get row i (get_or row i 0) (get_or row i 0) (slice_get-get_or row i 0 lt))

    at : slice_get edges (get_or row i 0) ≡ Some (node, to)
    at = edge_of edges node row i leave lt ∙ ap (λ k. Some (node, k)) (sym to_is)

    now : IsRaised d to (d.carried (get_or row i 0) fact) facts facts2 waiting waiting2 todo todo2
    now = subst (λ x. IsRaised d to x facts facts2 waiting waiting2 todo todo2) carried_eq r

-- ---- a node of the list

pub front_inside : {Fact : Type 0} {d : Domain Fact} {nodes : ℕ} {edges : List (ℕ × ℕ)} {starts yet : List (ℕ × Fact)} {rest : List ℕ} {facts : List Fact} {waiting : List Bool} (todo : List ℕ) (node : ℕ) (todo2 : List ℕ) →
    (u : IsUnderway d nodes edges starts yet rest facts waiting todo) → todo ≡ node ∷ todo2 → node < nodes
front_inside todo node todo2 u e = u.inside node (subst (IsListed node) (sym e) (inl refl))

pub front_taken : {Fact : Type 0} (d : Domain Fact) (nodes : ℕ) (edges : List (ℕ × ℕ)) (starts : List (ℕ × Fact)) (rows : List (List ℕ)) (row : List ℕ) (node : ℕ) (facts : List Fact) (waiting waiting2 : List Bool) (todo todo2 : List ℕ) →
    AreOutgoing nodes edges rows → slice_get rows node ≡ Some row → todo ≡ node ∷ todo2 → waiting2 ≡ slice_set waiting node false →
    IsUnderway d nodes edges starts [] [] facts waiting todo → IsUnderway d nodes edges starts [] row facts waiting2 todo2
front_taken d nodes edges starts rows row node facts waiting waiting2 todo todo2 out at e w u =
    subst (λ l. IsUnderway d nodes edges starts [] row facts l todo2) (sym w)
    (node_step d nodes edges starts rows row node facts waiting todo2 out at (subst (λ t. IsUnderway d nodes edges starts [] [] facts waiting t) e u))

pub read_target : (edges edges2 : List (ℕ × ℕ)) (e to : ℕ) → edges2 ≡ edges → to ≡ (get_or edges2 e (0, 0)).1 → to ≡ (get_or edges e (0, 0)).1
read_target edges edges2 e to same is = is ∙ ap (λ (l : List (ℕ × ℕ)). (get_or l e (0, 0)).1) same

-- taking a node from the list lessens what is left
pub taken_lessens : (total less : ℕ) (todo todo2 : List ℕ) (node : ℕ) → todo ≡ node ∷ todo2 → less ≤ total + length todo2 → less < total + length todo
taken_lessens total less todo todo2 node e le = let len = ap length e in omega (arith, len, le)
