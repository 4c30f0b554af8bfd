-- The plain layout and that by the conflicts are layouts.
use Rattle.std.proofs.Common.{◌≡◌, ℕ, zero, suc, ◌<◌, List, [], ◌∷◌, length, get_or, Bool, true, Option, refl, ap, ◌∙◌, ⊎_elim, inl, inr, arith}
use Rattle.std.specs.Prelude.{nat_eq, ◌&&◌, ◌||◌}
use Rattle.std.specs.List.{Contains, list_any}
use Rattle.std.proofs.lemmas.Bool.{and_from, and_parts, eq-eqb, eqb-true, or_cases, or_left, or_right}
use Rattle.frame_placing.specs.Placed.{Always, AreKeptApart, AreOpposed, IsPair, IsPlaced}
use Rattle.frame_placing.specs.declared.room.Room.{Room}
use Rattle.frame_placing.proofs.Existing.{is_placed}

pub is_plain : (rooms : List Room) (promise : Option ℕ) → (offsets : List ℕ) × IsPlaced rooms promise Always offsets
is_plain rooms promise = is_placed rooms promise Always (λ j k. true) (λ j k e. tt) (λ j k h. refl)

abbrev has : List (ℕ × ℕ) → ℕ → ℕ → Bool
has pairs j k = list_any (λ (p : ℕ × ℕ). nat_eq p.0 j && nat_eq p.1 k) pairs

same_pair : (x : ℕ × ℕ) (j k : ℕ) → x.0 ≡ j → x.1 ≡ k → x ≡ (j, k)
same_pair (a, b) j k e f = ap (λ (y : ℕ). (y, b)) e ∙ ap (λ (y : ℕ). (j, y)) f

has_told : (xs : List (ℕ × ℕ)) (j k : ℕ) → has xs j k ≡ true → Contains xs (j, k)
has_told [] j k e = absurd (cc)
has_told (x ∷ xs) j k e = ⊎_elim
    (λ here. let p = and_parts (nat_eq x.0 j) (nat_eq x.1 k) here in (0, omega arith, same_pair x j k (eqb-true x.0 j p.0) (eqb-true x.1 k p.1)))
    (λ later. let c = has_told xs j k later in (suc c.0, (let lt = c.1 in omega (arith, lt)), c.2))
    (or_cases (nat_eq x.0 j && nat_eq x.1 k) (has xs j k) e)

has_at : (xs : List (ℕ × ℕ)) (j k i : ℕ) → i < length xs → get_or xs i (j, k) ≡ (j, k) → has xs j k ≡ true
has_at [] j k i lt e = absurd (omega arith)
has_at (x ∷ xs) j k zero lt e = or_left (nat_eq x.0 j && nat_eq x.1 k) (has xs j k)
    (and_from (nat_eq x.0 j) (nat_eq x.1 k) (eq-eqb x.0 j (ap (λ (p : ℕ × ℕ). p.0) e)) (eq-eqb x.1 k (ap (λ (p : ℕ × ℕ). p.1) e)))
has_at (x ∷ xs) j k (suc i) lt e = or_right (nat_eq x.0 j && nat_eq x.1 k) (has xs j k) (has_at xs j k i (omega arith) e)

pub is_shared : (rooms : List Room) (promise : Option ℕ) (conflicts : List (ℕ × ℕ)) → (offsets : List ℕ) × IsPlaced rooms promise (IsPair conflicts) offsets
is_shared rooms promise conflicts = is_placed rooms promise (IsPair conflicts) (λ j k. has conflicts j k || has conflicts k j)
    (λ j k e. ⊎_elim (λ one. inl (has_told conflicts j k one)) (λ other. inr (has_told conflicts k j other)) (or_cases (has conflicts j k) (has conflicts k j) e))
    (λ j k h. ⊎_elim (λ c. or_left (has conflicts j k) (has conflicts k j) (has_at conflicts j k c.0 c.1 c.2)) (λ c. or_right (has conflicts j k) (has conflicts k j) (has_at conflicts k j c.0 c.1 c.2)) h)

-- ---- and that by pairs and groups

abbrev has_group : List ℕ → ℕ → Bool
has_group groups g = list_any (λ (x : ℕ). nat_eq x g) groups

group_told : (groups : List ℕ) (g : ℕ) → has_group groups g ≡ true → Contains groups g
group_told [] g e = absurd (cc)
group_told (x ∷ xs) g e = ⊎_elim
    (λ here. (0, omega arith, eqb-true x g here))
    (λ later. let c = group_told xs g later in (suc c.0, (let lt = c.1 in omega (arith, lt)), c.2))
    (or_cases (nat_eq x g) (has_group xs g) e)

group_at : (groups : List ℕ) (g i : ℕ) → i < length groups → get_or groups i g ≡ g → has_group groups g ≡ true
group_at [] g i lt e = absurd (omega arith)
group_at (x ∷ xs) g zero lt e = or_left (nat_eq x g) (has_group xs g) (eq-eqb x g e)
group_at (x ∷ xs) g (suc i) lt e = or_right (nat_eq x g) (has_group xs g) (group_at xs g i (omega arith) e)

abbrev shares : List ℕ → List ℕ → Bool
shares one other = list_any (has_group other) one

share_told : (one other : List ℕ) → shares one other ≡ true → (g : ℕ) × Contains one g × Contains other g
share_told [] other e = absurd (cc)
share_told (x ∷ xs) other e = ⊎_elim
    (λ here. (x, (0, omega arith, refl), group_told other x here))
    (λ later. let s = share_told xs other later in (s.0, (suc s.1.0, (let lt = s.1.1 in omega (arith, lt)), s.1.2), s.2))
    (or_cases (has_group other x) (shares xs other) e)

share_at : (one other : List ℕ) (g i : ℕ) → i < length one → get_or one i g ≡ g → has_group other g ≡ true → shares one other ≡ true
share_at [] other g i lt e has = absurd (omega arith)
share_at (x ∷ xs) other g zero lt e has = or_left (has_group other x) (shares xs other) (ap (has_group other) e ∙ has)
share_at (x ∷ xs) other g (suc i) lt e has = or_right (has_group other x) (shares xs other) (share_at xs other g i (omega arith) e has)

abbrev opposed : List (List ℕ) → List (List ℕ) → ℕ → ℕ → Bool
opposed one other j k = shares (get_or one j []) (get_or other k [])

opposed_told : (one other : List (List ℕ)) (j k : ℕ) → opposed one other j k ≡ true → AreOpposed one other j k
opposed_told one other j k e = let s = share_told (get_or one j []) (get_or other k []) e in record { group = s.0; is_one = s.1; is_other = s.2 }

opposed_at : (one other : List (List ℕ)) (j k : ℕ) → AreOpposed one other j k → opposed one other j k ≡ true
opposed_at one other j k h =
    share_at (get_or one j []) (get_or other k []) h.group h.is_one.0 h.is_one.1 h.is_one.2 (group_at (get_or other k []) h.group h.is_other.0 h.is_other.1 h.is_other.2)

pub is_apart : (rooms : List Room) (promise : Option ℕ) (conflicts : List (ℕ × ℕ)) (one other : List (List ℕ)) → (offsets : List ℕ) × IsPlaced rooms promise (AreKeptApart conflicts one other) offsets
is_apart rooms promise conflicts one other =
    is_placed rooms promise (AreKeptApart conflicts one other) (λ j k. (has conflicts j k || has conflicts k j) || (opposed one other j k || opposed one other k j))
    (λ j k e. ⊎_elim
    (λ pair. inl (⊎_elim (λ a. inl (has_told conflicts j k a)) (λ b. inr (has_told conflicts k j b)) (or_cases (has conflicts j k) (has conflicts k j) pair)))
    (λ group. inr (⊎_elim (λ a. inl (opposed_told one other j k a)) (λ b. inr (opposed_told one other k j b)) (or_cases (opposed one other j k) (opposed one other k j) group)))
    (or_cases (has conflicts j k || has conflicts k j) (opposed one other j k || opposed one other k j) e))
    (λ j k h. ⊎_elim
    (λ pair. or_left (has conflicts j k || has conflicts k j) (opposed one other j k || opposed one other k j)
    (⊎_elim (λ c. or_left (has conflicts j k) (has conflicts k j) (has_at conflicts j k c.0 c.1 c.2)) (λ c. or_right (has conflicts j k) (has conflicts k j) (has_at conflicts k j c.0 c.1 c.2)) pair))
    (λ group. or_right (has conflicts j k || has conflicts k j) (opposed one other j k || opposed one other k j)
    (⊎_elim (λ a. or_left (opposed one other j k) (opposed one other k j) (opposed_at one other j k a)) (λ b. or_right (opposed one other j k) (opposed one other k j) (opposed_at one other k j b)) group))
    h)
