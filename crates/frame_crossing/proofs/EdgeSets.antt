-- Sets of edges, and what is left of a list by a test.
use Rattle.std.proofs.Common.{◌≡◌, ℕ, ◌+◌, ◌<◌, Bool, true, false, List, [], ◌∷◌, ◌++◌, length, take, get_or, refl, sym, ap, ◌∙◌, ⊎_elim, eq-eqb}
use Rattle.std.specs.Prelude.{cond, filter, if◌then◌else◌, ◌==◌, ◌&&◌, ◌||◌}
use Rattle.std.specs.List.{list_any}
use Rattle.std.proofs.lemmas.Bool.{cases_eq, ne_eqb}
use Rattle.std.proofs.lemmas.List.{take_more}
use Rattle.frame_crossing.specs.EdgeUses.{has_edge, is_edge}
use Rattle.frame_crossing.specs.declared.edge_use.EdgeUse.{EdgeUse}

turned_eq : (a b : ℕ) → (a == b) ≡ (b == a)
turned_eq a b = ⊎_elim (λ e. eq-eqb a b e ∙ sym (eq-eqb b a (sym e))) (λ ne. ne_eqb a b ne ∙ sym (ne_eqb b a (λ e. ne (sym e)))) (cases_eq a b)

or_again : (a b c : Bool) → ((a || b) || c) ≡ (a || (b || c))
or_again true b c = refl
or_again false b c = refl

or_false : (a : Bool) → (a || false) ≡ a
or_false true = refl
or_false false = refl

cond_or : (a b : Bool) → cond a true b ≡ (b || a)
cond_or true true = refl
cond_or true false = refl
cond_or false true = refl
cond_or false false = refl

any_append : {A : Type 0} (test : A → Bool) (xs ys : List A) → list_any test (xs ++ ys) ≡ (list_any test xs || list_any test ys)
any_append test [] ys = refl
any_append test (x ∷ xs) ys = ap (λ (b : Bool). test x || b) (any_append test xs ys) ∙ sym (or_again (test x) (list_any test xs) (list_any test ys))

edge_added : (keys keys2 done : List (ℕ × ℕ)) (e : ℕ × ℕ) → ((q : ℕ × ℕ) → has_edge keys2 q.0 q.1 ≡ cond ((e.0 == q.0) && (e.1 == q.1)) true (has_edge keys q.0 q.1)) →
    ((from to : ℕ) → has_edge keys from to ≡ has_edge done from to) → (from to : ℕ) → has_edge keys2 from to ≡ has_edge (done ++ e ∷ []) from to
edge_added keys keys2 done e step old from to =
    step (from, to)
    ∙ cond_or ((e.0 == from) && (e.1 == to)) (has_edge keys from to)
    ∙ ap (λ (b : Bool). b || ((e.0 == from) && (e.1 == to))) (old from to)
    ∙ ap (λ (b : Bool). has_edge done from to || (b && (e.1 == to))) (turned_eq e.0 from)
    ∙ ap (λ (b : Bool). has_edge done from to || ((from == e.0) && b)) (turned_eq e.1 to)
    ∙ ap (λ (b : Bool). has_edge done from to || b) (sym (or_false ((from == e.0) && (to == e.1))))
    ∙ sym (any_append (λ (x : ℕ × ℕ). (from == x.0) && (to == x.1)) done (e ∷ []))

pub more_edges : (i : ℕ) (edges : List (ℕ × ℕ)) (keys keys2 : List (ℕ × ℕ)) → i < length edges →
    ((q : ℕ × ℕ) → has_edge keys2 q.0 q.1 ≡ cond (((get_or edges i (0, 0)).0 == q.0) && ((get_or edges i (0, 0)).1 == q.1)) true (has_edge keys q.0 q.1)) →
    ((from to : ℕ) → has_edge keys from to ≡ has_edge (take i edges) from to) → (from to : ℕ) → has_edge keys2 from to ≡ has_edge (take (i + 1) edges) from to
more_edges i edges keys keys2 lt step old from to =
    edge_added keys keys2 (take i edges) (get_or edges i (0, 0)) step old from to
    ∙ ap (λ (l : List (ℕ × ℕ)). has_edge l from to) (sym (take_more edges i (0, 0) lt))

filter_same : {A : Type 0} (p q : A → Bool) (xs : List A) → ((x : A) → p x ≡ q x) → filter p xs ≡ filter q xs
filter_same p q [] h = refl
filter_same p q (x ∷ xs) h =
    ap (λ b. if b then x ∷ filter p xs else filter p xs) (h x)
    ∙ ap (λ l. if q x then x ∷ l else l) (filter_same p q xs h)

pub same_filter : (known edges : List (ℕ × ℕ)) (uses : List EdgeUse) → ((from to : ℕ) → has_edge known from to ≡ has_edge edges from to) → filter (is_edge known) uses ≡ filter (is_edge edges) uses
same_filter known edges uses h = filter_same (is_edge known) (is_edge edges) uses (λ u. h u.from u.to)
