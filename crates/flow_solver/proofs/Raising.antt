-- What a raise keeps of a solver under way, and what it brings.
use Rattle.std.proofs.Common.{◌≡◌, ◌≢◌, ℕ, ◌+◌, ◌-◌, ◌<◌, ◌≤◌, ◌⊎◌, Bool, true, List, [], ◌∷◌, ◌++◌, length, Some, refl, sym, ap, ◌∙◌, subst, ⊎_elim, inl, inr, arith}
use Rattle.std.specs.Prelude.{slice_get, slice_set, sum_by}
use Rattle.std.proofs.lemmas.Option.{slice_get_within, get_or_from_slice_get}
use Rattle.std.proofs.lemmas.List.{length-set, length-append}
use Rattle.std.proofs.lemmas.List.Sums.{sum_by-set}
use Rattle.flow_solver.specs.Domain.{Domain, IsLattice}
use Rattle.flow_solver.specs.Paths.{IsListed, IsGathered}
use Rattle.flow_solver.specs.Paths.IsGathered.{Together}
use Rattle.flow_solver.specs.Steps.{IsKept, IsPut, IsRisen, IsUnderway, left_of}
use Rattle.flow_solver.proofs.Lists.{set_cases, same_place, listed_front, listed_last, listed_cases}

-- ---- a node is put into the list

put_stays : (k node : ℕ) (todo todo2 : List ℕ) → IsPut node todo todo2 → IsListed k todo → IsListed k todo2
put_stays k node todo todo2 put h = ⊎_elim (λ e. subst (IsListed k) (sym e) (inr h)) (λ e. subst (IsListed k) (sym e) (listed_front k todo (node ∷ []) h)) put

put_lists : (node : ℕ) (todo todo2 : List ℕ) → IsPut node todo todo2 → IsListed node todo2
put_lists node todo todo2 put = ⊎_elim (λ e. subst (IsListed node) (sym e) (inl refl)) (λ e. subst (IsListed node) (sym e) (listed_last node todo)) put

put_cases : (k node : ℕ) (todo todo2 : List ℕ) → IsPut node todo todo2 → IsListed k todo2 → IsListed k todo ⊎ (k ≡ node)
put_cases k node todo todo2 put h = ⊎_elim (λ e. ⊎_elim (λ is. inr is) (λ more. inl more) (subst (IsListed k) e h)) (λ e. listed_cases k node todo (subst (IsListed k) e h)) put

put_longer : (node : ℕ) (todo todo2 : List ℕ) → IsPut node todo todo2 → length todo2 ≡ length todo + 1
put_longer node todo todo2 put = ⊎_elim (λ e. let a = ap length e in omega (arith, a)) (λ e. ap length e ∙ length-append todo (node ∷ [])) put

-- ---- the node's fact has risen

-- what stands at a place then is the joined fact, or stood there before
pub risen_cases : {Fact : Type 0} {d : Domain Fact} {node : ℕ} {fact : Fact} {facts facts2 : List Fact} {waiting waiting2 : List Bool} {todo todo2 : List ℕ} →
    (r : IsRisen d node fact facts facts2 waiting waiting2 todo todo2) (k : ℕ) (x : Fact) → slice_get facts2 k ≡ Some x →
    ((k ≡ node) × (x ≡ d.joined r.old fact)) ⊎ ((slice_get facts k ≡ Some x) × (k ≢ node))
risen_cases {d} {node} {fact} {facts} r k x e = set_cases facts node k (d.joined r.old fact) x (sym (ap (λ l. slice_get l k) r.facts_set) ∙ e)

pub stays : {Fact : Type 0} {d : Domain Fact} {node : ℕ} {fact : Fact} {facts facts2 : List Fact} {waiting waiting2 : List Bool} {todo todo2 : List ℕ} →
    (r : IsRisen d node fact facts facts2 waiting waiting2 todo todo2) (k : ℕ) → IsListed k todo → IsListed k todo2
stays {node} {todo} {todo2} r k h = ⊎_elim (λ p. subst (IsListed k) (sym p.2) h) (λ p. put_stays k node todo todo2 p.1 h) r.put

pub waits : {Fact : Type 0} {d : Domain Fact} {node : ℕ} {fact : Fact} {facts facts2 : List Fact} {waiting waiting2 : List Bool} {todo todo2 : List ℕ} →
    (r : IsRisen d node fact facts facts2 waiting waiting2 todo todo2) → ((k : ℕ) → slice_get waiting k ≡ Some true → IsListed k todo) → IsListed node todo2
waits {node} {todo} {todo2} r listed = ⊎_elim (λ p. subst (IsListed node) (sym p.2) (listed node p.0)) (λ p. put_lists node todo todo2 p.1) r.put

risen_keeps : {Fact : Type 0} {d : Domain Fact} {node nodes : ℕ} {fact : Fact} {edges : List (ℕ × ℕ)} {starts yet : List (ℕ × Fact)} {rest : List ℕ} {facts facts2 : List Fact} {waiting waiting2 : List Bool} {todo todo2 : List ℕ} →
    (law : IsLattice d) (r : IsRisen d node fact facts facts2 waiting waiting2 todo todo2) (u : IsUnderway d nodes edges starts yet rest facts waiting todo) →
    d.IsFact fact → IsGathered d edges starts node fact → IsUnderway d nodes edges starts yet rest facts2 waiting2 todo2
risen_keeps {Fact} {d} {node} {nodes} {fact} {edges} {starts} {yet} {rest} {facts} {facts2} {waiting} {waiting2} {todo} {todo2} law r u is made = record {
  facts_length = ap length r.facts_set ∙ length-set facts node joined ∙ u.facts_length;
  waiting_length = ⊎_elim (λ p. ap length p.1 ∙ u.waiting_length) (λ p. ap length p.0 ∙ length-set waiting node true ∙ u.waiting_length) r.put;
  are_facts = λ k x e. ⊎_elim (λ p. subst d.IsFact (sym p.1) (law.joined_is_fact old fact old_is is)) (λ p. u.are_facts k x p.0) (risen_cases r k x e);
  gathered = λ k x e. ⊎_elim (λ p. gathered_here k x p.0 p.1) (λ p. u.gathered k x p.0) (risen_cases r k x e);
  listed = λ k e. ⊎_elim (λ p. stays r k (u.listed k (sym (ap (λ w. slice_get w k) p.1) ∙ e))) (λ p. listed_put k (sym (ap (λ w. slice_get w k) p.0) ∙ e)) r.put;
  inside = λ k h. ⊎_elim (λ p. u.inside k (subst (IsListed k) p.2 h)) (λ p. inside_put k (put_cases k node todo todo2 p.1 h)) r.put;
  begun = λ s x h e. ⊎_elim (λ p. begun_here s x h p.0 p.1) (λ p. u.begun s x h p.0) (risen_cases r s.0 x e);
  closed = λ e from to x y at ex ey. ⊎_elim (λ p. inl (subst (λ k. IsListed k todo2) (sym p.0) (waits r u.listed))) (λ p. closed_from e from to x y at p.0 ey) (risen_cases r from x ex);
}
  where
    old : Fact
    old = r.old

    joined : Fact
    joined = d.joined r.old fact

    node_lt : node < length facts
    node_lt = slice_get_within facts node r.old r.was

    old_is : d.IsFact r.old
    old_is = u.are_facts node r.old r.was

    joined_above : d.Below r.old (d.joined r.old fact)
    joined_above = law.joined_left r.old fact old_is is

    gathered_here : (k : ℕ) (x : Fact) → k ≡ node → x ≡ d.joined r.old fact → IsGathered d edges starts k x
    gathered_here k x ek ex = subst (λ z. IsGathered d edges starts k z) (sym ex) (subst (λ j. IsGathered d edges starts j (d.joined r.old fact)) (sym ek) (Together (d.joined r.old fact) r.old fact old_is is (u.gathered node r.old r.was) made (law.reflexive (d.joined r.old fact))))

    listed_put : (k : ℕ) → slice_get (slice_set waiting node true) k ≡ Some true → IsListed k todo2
    listed_put k e = ⊎_elim (λ p. subst (λ j. IsListed j todo2) (sym p.0) (waits r u.listed)) (λ p. stays r k (u.listed k p.0)) (set_cases waiting node k true true e)

    inside_put : (k : ℕ) → IsListed k todo ⊎ (k ≡ node) → k < nodes
    inside_put k h = ⊎_elim (λ p. u.inside k p) (λ e. let lt = node_lt in let len = u.facts_length in omega (arith, lt, len, e)) h

    begun_here : (s : ℕ × Fact) (x : Fact) → IsListed s starts → s.0 ≡ node → x ≡ d.joined r.old fact → IsListed s yet ⊎ d.Below s.1 x
    begun_here s x h es ex = ⊎_elim (λ p. inl p) (λ p. inr (subst (d.Below s.1) (sym ex) (law.transitive s.1 r.old (d.joined r.old fact) p joined_above))) (u.begun s r.old h (ap (slice_get facts) es ∙ r.was))

    closed_here : (e from to : ℕ) (x y : Fact) → slice_get edges e ≡ Some (from, to) → slice_get facts from ≡ Some x → to ≡ node → y ≡ d.joined r.old fact → IsListed from todo2 ⊎ (IsListed e rest ⊎ d.Below (d.carried e x) y)
    closed_here e from to x y at ex et ey =
        ⊎_elim (λ p. inl (stays r from p)) (λ p. ⊎_elim (λ q. inr (inl q)) (λ q. inr (inr (subst (d.Below (d.carried e x)) (sym ey) (law.transitive (d.carried e x) r.old (d.joined r.old fact) q joined_above)))) p)
        (u.closed e from to x r.old at ex (ap (slice_get facts) et ∙ r.was))

    closed_from : (e from to : ℕ) (x y : Fact) → slice_get edges e ≡ Some (from, to) → slice_get facts from ≡ Some x → slice_get facts2 to ≡ Some y → IsListed from todo2 ⊎ (IsListed e rest ⊎ d.Below (d.carried e x) y)
    closed_from e from to x y at ex ey =
        ⊎_elim (λ p. closed_here e from to x y at ex p.0 p.1)
        (λ p. ⊎_elim (λ q. inl (stays r from q)) (λ q. inr q) (u.closed e from to x y at ex p.0))
        (risen_cases r to y ey)

kept_keeps : {Fact : Type 0} {d : Domain Fact} {node nodes : ℕ} {fact : Fact} {edges : List (ℕ × ℕ)} {starts yet : List (ℕ × Fact)} {rest : List ℕ} {facts facts2 : List Fact} {waiting waiting2 : List Bool} {todo todo2 : List ℕ} →
    (r : IsKept d node fact facts facts2 waiting waiting2 todo todo2) → IsUnderway d nodes edges starts yet rest facts waiting todo → IsUnderway d nodes edges starts yet rest facts2 waiting2 todo2
kept_keeps {d} {nodes} {edges} {starts} {yet} {rest} {facts} {facts2} {waiting} {waiting2} {todo} r u =
    subst (λ f. IsUnderway d nodes edges starts yet rest facts2 waiting2 f) (sym r.todo_kept)
    (subst (λ w. IsUnderway d nodes edges starts yet rest facts2 w todo) (sym r.waiting_kept)
    (subst (λ f. IsUnderway d nodes edges starts yet rest f waiting todo) (sym r.facts_kept) u))

-- ---- both cases

pub raise_keeps : {Fact : Type 0} {d : Domain Fact} {node nodes : ℕ} {fact : Fact} {edges : List (ℕ × ℕ)} {starts yet : List (ℕ × Fact)} {rest : List ℕ} {facts facts2 : List Fact} {waiting waiting2 : List Bool} {todo todo2 : List ℕ} →
    (law : IsLattice d) → (IsKept d node fact facts facts2 waiting waiting2 todo todo2 ⊎ IsRisen d node fact facts facts2 waiting waiting2 todo todo2) → (u : IsUnderway d nodes edges starts yet rest facts waiting todo) →
    d.IsFact fact → IsGathered d edges starts node fact → IsUnderway d nodes edges starts yet rest facts2 waiting2 todo2
raise_keeps law r u is made = ⊎_elim (λ k. kept_keeps k u) (λ n. risen_keeps law n u is made) r

-- the node's fact is above the new one then
pub raise_brings : {Fact : Type 0} {d : Domain Fact} {node nodes : ℕ} {fact : Fact} {edges : List (ℕ × ℕ)} {starts yet : List (ℕ × Fact)} {rest : List ℕ} {facts facts2 : List Fact} {waiting waiting2 : List Bool} {todo todo2 : List ℕ} →
    (law : IsLattice d) → (IsKept d node fact facts facts2 waiting waiting2 todo todo2 ⊎ IsRisen d node fact facts facts2 waiting waiting2 todo todo2) → (u : IsUnderway d nodes edges starts yet rest facts waiting todo) →
    d.IsFact fact → (y : Fact) → slice_get facts2 node ≡ Some y → d.Below fact y
raise_brings {Fact} {d} {node} {nodes} {fact} {edges} {starts} {yet} {rest} {facts} {facts2} {waiting} {waiting2} {todo} {todo2} law r u is y e = ⊎_elim kept risen r
  where
    kept : IsKept d node fact facts facts2 waiting waiting2 todo todo2 → d.Below fact y
    kept k =
        subst (d.Below fact) (same_place (slice_get facts node) k.old y k.was (sym (ap (λ l. slice_get l node) k.facts_kept) ∙ e))
        (law.transitive fact (d.joined k.old fact) k.old (law.joined_right k.old fact (u.are_facts node k.old k.was) is) k.said)

    risen : IsRisen d node fact facts facts2 waiting waiting2 todo todo2 → d.Below fact y
    risen n = ⊎_elim (λ p. subst (d.Below fact) (sym p.1) (law.joined_right n.old fact (u.are_facts node n.old n.was) is)) (λ p. absurd (p.1 refl)) (risen_cases n node y e)

-- a node whose fact has changed is listed then
pub raise_lists : {Fact : Type 0} {d : Domain Fact} {node nodes : ℕ} {fact : Fact} {edges : List (ℕ × ℕ)} {starts yet : List (ℕ × Fact)} {rest : List ℕ} {facts facts2 : List Fact} {waiting waiting2 : List Bool} {todo todo2 : List ℕ} →
    (IsKept d node fact facts facts2 waiting waiting2 todo todo2 ⊎ IsRisen d node fact facts facts2 waiting waiting2 todo todo2) → (u : IsUnderway d nodes edges starts yet rest facts waiting todo) →
    (k : ℕ) (x : Fact) → slice_get facts2 k ≡ Some x → IsListed k todo2 ⊎ (slice_get facts k ≡ Some x)
raise_lists {todo2} r u k x e =
    ⊎_elim (λ p. inr (sym (ap (λ l. slice_get l k) p.facts_kept) ∙ e))
    (λ n. ⊎_elim (λ p. inl (subst (λ j. IsListed j todo2) (sym p.0) (waits n u.listed))) (λ p. inr p.0) (risen_cases n k x e))
    r

less_left : (h before after : ℕ) → after ≤ h → before < after → (h - after) < (h - before)
less_left h before after le lt = omega arith

-- what is left doesn't grow
pub raise_lessens : {Fact : Type 0} {d : Domain Fact} {node nodes : ℕ} {fact : Fact} {edges : List (ℕ × ℕ)} {starts yet : List (ℕ × Fact)} {rest : List ℕ} {facts facts2 : List Fact} {waiting waiting2 : List Bool} {todo todo2 : List ℕ} →
    (law : IsLattice d) → (IsKept d node fact facts facts2 waiting waiting2 todo todo2 ⊎ IsRisen d node fact facts facts2 waiting waiting2 todo todo2) → (u : IsUnderway d nodes edges starts yet rest facts waiting todo) →
    d.IsFact fact → left_of d facts2 todo2 ≤ left_of d facts todo
raise_lessens {Fact} {d} {node} {nodes} {fact} {edges} {starts} {yet} {rest} {facts} {facts2} {waiting} {waiting2} {todo} {todo2} law r u is = ⊎_elim kept risen r
  where
    room : Fact → ℕ
    room = λ x. d.height - d.rank x

    kept : IsKept d node fact facts facts2 waiting waiting2 todo todo2 → left_of d facts2 todo2 ≤ left_of d facts todo
    kept k = let a = ap (sum_by (λ x. d.height - d.rank x)) k.facts_kept in let b = ap length k.todo_kept in omega (arith, a, b)

    longer : IsRisen d node fact facts facts2 waiting waiting2 todo todo2 → length todo2 ≤ length todo + 1
    longer n = ⊎_elim (λ p. let a = ap length p.2 in omega (arith, a)) (λ p. let a = put_longer node todo todo2 p.1 in omega (arith, a)) n.put

    risen : IsRisen d node fact facts facts2 waiting waiting2 todo todo2 → left_of d facts2 todo2 ≤ left_of d facts todo
    risen n =
        let old_is = u.are_facts node n.old n.was in
        let joined_is = law.joined_is_fact n.old fact old_is is in
        let bound = law.rank_bounded (d.joined n.old fact) joined_is in
        let rises = law.rank_rises n.old (d.joined n.old fact) old_is joined_is (law.joined_left n.old fact old_is is) n.new in
        let less = less_left d.height (d.rank n.old) (d.rank (d.joined n.old fact)) bound rises in
        let lt = slice_get_within facts node n.old n.was in
        let total = sum_by-set (λ x. d.height - d.rank x) facts node (d.joined n.old fact) n.old lt in
        let here = ap (λ x. d.height - d.rank x) (get_or_from_slice_get facts node n.old n.old n.was) in
        let set = ap (sum_by (λ x. d.height - d.rank x)) n.facts_set in
        let more = longer n in
        omega (arith, less, total, here, set, more)
