-- Elements of lists that are put together or mapped.
use Rattle.std.proofs.Common.{◌≡◌, ◌⊎◌, List, [], ◌∷◌, ◌++◌, map, refl, ap, ⊎_elim, inl, inr}
use Rattle.flow_bits.specs.flow_solver.Paths.{IsListed}

pub listed_append : {X : Type 0} (y : X) (xs zs : List X) → IsListed y (xs ++ zs) → IsListed y xs ⊎ IsListed y zs
listed_append y [] zs h = inr h
listed_append y (x ∷ xs) zs h = ⊎_elim (λ e. inl (inl e)) (λ later. ⊎_elim (λ found. inl (inr found)) (λ found. inr found) (listed_append y xs zs later)) h

pub listed_map : {X Y : Type 0} (f : X → Y) (y : Y) (xs : List X) → IsListed y (map f xs) → (x : X) × (IsListed x xs × (y ≡ f x))
listed_map f y [] h = absurd h
listed_map {X} {Y} f y (x ∷ xs) h = ⊎_elim (λ e. (x, (inl refl, e))) (λ later. let found : (z : X) × (IsListed z xs × (y ≡ f z)) = listed_map f y xs later in (found.0, (inr found.1.0, found.1.1))) h

pub map_listed : {X Y : Type 0} (f : X → Y) (x : X) (xs : List X) → IsListed x xs → IsListed (f x) (map f xs)
map_listed f x [] h = absurd h
map_listed f x (y ∷ ys) h = ⊎_elim (λ e. inl (ap f e)) (λ later. inr (map_listed f x ys later)) h
