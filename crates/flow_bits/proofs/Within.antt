-- Lists that pass a test at each place.
use Rattle.std.proofs.Common.{◌≡◌, ℕ, zero, suc, Bool, true, false, List, [], ◌∷◌, Some, refl, sym, ap, ◌∙◌}
use Rattle.std.specs.Prelude.{slice_get, nat_lt, IsTrue, ◌&&◌}
use Rattle.std.specs.List.{list_all}
use Rattle.flow_bits.specs.Reaching.{StartAt}
use Rattle.flow_solver.specs.Paths.{HasNodes}
use Rattle.std.proofs.lemmas.Bool.{ltb-true}

both : (a b : Bool) → (a && b) ≡ true → (a ≡ true) × (b ≡ true)
both true b e = (refl, e)
both false b e = absurd (cc)

passes : {X : Type 0} (p : X → Bool) (xs : List X) (i : ℕ) (x : X) → list_all p xs ≡ true → slice_get xs i ≡ Some x → p x ≡ true
passes p [] i x all at = absurd (cc)
passes {X} p (y ∷ ys) zero x all at = let same : y ≡ x = cc in ap p (sym same) ∙ (both (p y) (list_all p ys) all).0
passes p (y ∷ ys) (suc i) x all at = passes p ys i x (both (p y) (list_all p ys) all).1 at

pub edges_within : (nodes : ℕ) (edges : List (ℕ × ℕ)) → IsTrue (list_all (λ e. nat_lt e.0 nodes && nat_lt e.1 nodes) edges) → HasNodes nodes edges
edges_within nodes edges all e from to at =
    let two = both (nat_lt from nodes) (nat_lt to nodes) (passes (λ (x : ℕ × ℕ). nat_lt x.0 nodes && nat_lt x.1 nodes) edges e (from, to) all at) in
    (ltb-true from nodes two.0, ltb-true to nodes two.1)

pub starts_within : (nodes : ℕ) (starts : List (ℕ × ℕ)) → IsTrue (list_all (λ s. nat_lt s.0 nodes) starts) → StartAt nodes starts
starts_within nodes starts all i node word at = ltb-true node nodes (passes (λ (x : ℕ × ℕ). nat_lt x.0 nodes) starts i (node, word) all at)
