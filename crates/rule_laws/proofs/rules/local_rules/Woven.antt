-- Lists of numbers in which further numbers stand, in rising order.
use Rattle.std.proofs.Common.{◌≡◌, ◌⊎◌, inl, inr, ⊎_elim, ℕ, ◌+◌, ◌<◌, ◌≤◌, Bool, true, false, List, [], ◌∷◌, ◌++◌, refl, sym, ap, ◌∙◌, subst, arith}
use Rattle.std.specs.Prelude.{None, Some, map, ◌==◌, ◌||◌, if◌then◌else◌}
use Rattle.ir_laws.proofs.facts.Truth.{itself, second_no as neither}
use Rattle.ir_laws.proofs.paths.source_rules.Locals.{Apart}
use Rattle.rule_laws.proofs.rules.source_rules.Locals.{name_of}
use Rattle.ir_laws.specs.flow_solver.Paths.{IsListed}
use Rattle.ir_parts.specs.declared.defined.Definition.{Definition}
use Rattle.rule_names.specs.Definitions.{first_twice, has_number}
use Rattle.ir_laws.proofs.facts.local_rules.Woven.{other_number}

-- the second list is the first one with the numbers from k up to l put in
pub data Woven : ℕ → List ℕ → ℕ → List ℕ → Type 0 where
  Ends : (k : ℕ) → Woven k [] k []
  Old : (k l n : ℕ) (xs ys : List ℕ) → Woven k xs l ys → Woven k (n ∷ xs) l (n ∷ ys)
  New : (k l : ℕ) (xs ys : List ℕ) → Woven (k + 1) xs l ys → Woven k xs l (k ∷ ys)

pub woven_as : (k l : ℕ) (xs ys us vs : List ℕ) → xs ≡ us → ys ≡ vs → Woven k xs l ys → Woven k us l vs
woven_as k l xs ys us vs d e w = subst (λ zs. Woven k zs l vs) d (subst (λ zs. Woven k xs l zs) e w)

pub same_woven : (k : ℕ) (xs : List ℕ) → Woven k xs k xs
same_woven k [] = Ends k
same_woven k (x ∷ xs) = Old k k x xs xs (same_woven k xs)

pub joined_woven : (k l o : ℕ) (xs ys us vs : List ℕ) → Woven k xs l ys → Woven l us o vs → Woven k (xs ++ us) o (ys ++ vs)
joined_woven _ _ o _ _ us vs (Ends k) v = v
joined_woven _ _ o _ _ us vs (Old k l n xs ys w) v = Old k o n (xs ++ us) (ys ++ vs) (joined_woven k l o xs ys us vs w v)
joined_woven _ _ o _ _ us vs (New k l xs ys w) v = New k o (xs ++ us) (ys ++ vs) (joined_woven (k + 1) l o xs ys us vs w v)

pub rises : (k l : ℕ) (xs ys : List ℕ) → Woven k xs l ys → k ≤ l
rises _ _ _ _ (Ends k) = omega arith
rises _ _ _ _ (Old k l n xs ys w) = rises k l xs ys w
rises _ _ _ _ (New k l xs ys w) = let le : k + 1 ≤ l = rises (k + 1) l xs ys w in omega (arith, le)

pub listed_woven : (k l : ℕ) (xs ys : List ℕ) → Woven k xs l ys → (n : ℕ) → IsListed n ys → IsListed n xs ⊎ ((k ≤ n) × (n < l))
listed_woven _ _ _ _ (Ends k) n h = absurd h
listed_woven _ _ _ _ (Old k l x xs ys w) n (inl e) = inl (inl e)
listed_woven _ _ _ _ (Old k l x xs ys w) n (inr h) = ⊎_elim (λ a. inl (inr a)) (λ b. inr b) (listed_woven k l xs ys w n h)
listed_woven _ _ _ _ (New k l xs ys w) n (inl e) = let le : k + 1 ≤ l = rises (k + 1) l xs ys w in inr (omega (arith, e), omega (arith, e, le))
listed_woven _ _ _ _ (New k l xs ys w) n (inr h) = ⊎_elim (λ a. inl a) (λ b. let low : k + 1 ≤ n = b.0 in inr (omega (arith, low), b.1)) (listed_woven (k + 1) l xs ys w n h)

-- numbers that are apart and below the bound, with others from the bound on put in
pub apart_woven : (bound k l : ℕ) (xs ys : List ℕ) → Woven k xs l ys → bound ≤ k → ((n : ℕ) → IsListed n xs → n < bound) → Apart xs → Apart ys
apart_woven bound _ _ _ _ (Ends k) low below h = tt
apart_woven bound _ _ _ _ (Old k l x xs ys w) low below h = (
  λ listed. ⊎_elim (λ a. h.0 a) (λ b. let first : k ≤ x = b.0 in let lt : x < bound = below x (inl refl) in absurd (omega (arith, first, lt, low))) (listed_woven k l xs ys w x listed),
  apart_woven bound k l xs ys w low (λ n listed. below n (inr listed)) h.1,
)
apart_woven bound _ _ _ _ (New k l xs ys w) low below h = (
  λ listed. ⊎_elim (λ a. let lt : k < bound = below k a in absurd (omega (arith, lt, low))) (λ b. let first : k + 1 ≤ k = b.0 in absurd (omega (arith, first))) (listed_woven (k + 1) l xs ys w k listed),
  apart_woven bound (k + 1) l xs ys w (omega (arith, low)) below h,
)

not_before : (ns : List ℕ) (ds : List Definition) → first_twice ns ds ≡ None → (n : ℕ) → IsListed n (map name_of ds) → has_number ns n ≡ false
not_before ns [] e n h = absurd h
not_before ns (d ∷ ds) e n h = on (has_number ns d.name) refl e h (not_before (d.name ∷ ns) ds)
  where
    on : (b : Bool) → has_number ns d.name ≡ b → (if b then Some d.place else first_twice (d.name ∷ ns) ds) ≡ None → IsListed n (d.name ∷ map name_of ds) → (first_twice (d.name ∷ ns) ds ≡ None → (k : ℕ) → IsListed k (map name_of ds) → has_number (d.name ∷ ns) k ≡ false) → has_number ns n ≡ false
    on true is k l rest = absurd (cc)
    on false is k (inl same) rest = ap (has_number ns) same ∙ is
    on false is k (inr l) rest = neither (d.name == n) (has_number ns n) (rest k n l)

pub apart_names : (ns : List ℕ) (ds : List Definition) → first_twice ns ds ≡ None → Apart (map name_of ds)
apart_names ns [] e = tt
apart_names ns (d ∷ ds) e = on (has_number ns d.name) e (apart_names (d.name ∷ ns) ds)
  where
    not_first : first_twice (d.name ∷ ns) ds ≡ None → IsListed d.name (map name_of ds) → ⊥
    not_first k l =
        let t : true ≡ false = sym (ap (λ (b : Bool). b || has_number ns d.name) (itself d.name)) ∙ not_before (d.name ∷ ns) ds k d.name l in
        absurd (cc)

    on : (b : Bool) → (if b then Some d.place else first_twice (d.name ∷ ns) ds) ≡ None → (first_twice (d.name ∷ ns) ds ≡ None → Apart (map name_of ds)) → Apart (d.name ∷ map name_of ds)
    on true k rest = absurd (cc)
    on false k rest = (not_first k, rest k)

pub none_twice : (ns : List ℕ) (ds : List Definition) → Apart (map name_of ds) → ((n : ℕ) → IsListed n (map name_of ds) → has_number ns n ≡ false) → first_twice ns ds ≡ None
none_twice ns [] h new = refl
none_twice ns (d ∷ ds) h new =
    ap (λ (b : Bool). if b then Some d.place else first_twice (d.name ∷ ns) ds) (new d.name (inl refl))
    ∙ none_twice (d.name ∷ ns) ds h.1
    (λ n listed. ap (λ (b : Bool). b || has_number ns n) (other_number d.name n (λ same. h.0 (subst (λ (k : ℕ). IsListed k (map name_of ds)) (sym same) listed))) ∙ new n (inr listed))
