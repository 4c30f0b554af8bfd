-- Chains of bitcasts are followed.
use Rattle.std.proofs.Common.{◌≡◌, ◌⊎◌, ℕ, zero, suc, ◌+◌, ◌*◌, ◌^◌, ◌<◌, ◌≤◌, Bool, true, false, List, [], ◌∷◌, Option, Some, None, inl, inr, refl, sym, ap, subst, ◌∙◌, arith}
use Rattle.std.specs.Prelude.{if◌then◌else◌, is_some, option_map, slice_get}
use Rattle.ir_base.specs.declared.name.Name.{Name}
use Rattle.ir_model.specs.Names.{first_where, same_name}
use Rattle.clang_reader.specs.Bitcasts.{bitcast_at, followed, operand_at, place_of, settled, stands_for}
use Rattle.clang_reader.specs.Chains.{AreRanked, after}
use Rattle.clang_reader.specs.declared.bitcasts.Bitcast.{Bitcast}

-- of some of all bitcasts: either none has the result, or the followed ones give what stands for what these give
abbrev Follows : List Bitcast → List Bitcast → List ℕ → Type 0
Follows all bs t =
    ((place_of bs t ≡ None) × (place_of (followed all bs) t ≡ None))
    ⊎ (stands_for (followed all bs) t ≡ stands_for all (stands_for bs t))

is_behind_one : (t : List ℕ) (bs : List Bitcast) (b : Bitcast) (p : Option ℕ) → operand_at t (bitcast_at (b ∷ bs) (option_map suc p)) ≡ operand_at t (bitcast_at bs p)
is_behind_one t bs b None = refl
is_behind_one t bs b (Some i) = refl

-- the first one's place by whether it has the result
abbrev place_by : Bool → Option ℕ → Option ℕ
place_by c p = if c then Some 0 else option_map suc p

moved : (all bs : List Bitcast) (b : Bitcast) (t : List ℕ) (c : Bool) → Follows all bs t
    → ((place_by c (place_of bs t) ≡ None) × (place_by c (place_of (followed all bs) t) ≡ None))
    ⊎ (operand_at t (bitcast_at (record { name = b.name; value = stands_for all b.value } ∷ followed all bs) (place_by c (place_of (followed all bs) t)))
    ≡ stands_for all (operand_at t (bitcast_at (b ∷ bs) (place_by c (place_of bs t)))))
moved all bs b t true more = inr refl
moved all bs b t false (inl none) = inl (ap (option_map suc) none.0, ap (option_map suc) none.1)
moved all bs b t false (inr is) =
    inr (is_behind_one t (followed all bs) (record { name = b.name; value = stands_for all b.value }) (place_of (followed all bs) t) ∙ is ∙ ap (stands_for all) (sym (is_behind_one t bs b (place_of bs t))))

follows : (all bs : List Bitcast) (t : List ℕ) → Follows all bs t
follows all [] t = inl (refl, refl)
follows all (b ∷ bs) t = moved all bs b t (same_name b.name (Name.Text t)) (follows all bs t)

unnamed : (all : List Bitcast) (t : List ℕ) → place_of all t ≡ None → stands_for all t ≡ t
unnamed all t none = ap (λ (p : Option ℕ). operand_at t (bitcast_at all p)) none

-- the followed bitcasts give what stands for what stands for a token
once : (all : List Bitcast) (t : List ℕ) → stands_for (followed all all) t ≡ stands_for all (stands_for all t)
once all t = by (follows all all t)
  where
    by : Follows all all t → stands_for (followed all all) t ≡ stands_for all (stands_for all t)
    by (inl none) = unnamed (followed all all) t none.1 ∙ sym (unnamed all t none.0) ∙ ap (stands_for all) (sym (unnamed all t none.0))
    by (inr is) = is

twice : (n : ℕ) (all : List Bitcast) (t : List ℕ) → after n (followed all all) t ≡ after (n + n) all t
twice zero all t = refl
twice (suc n) all t =
    let more : suc n + suc n ≡ suc (suc (n + n)) = omega arith in
    ap (after n (followed all all)) (once all t)
    ∙ twice n all (stands_for all (stands_for all t))
    ∙ sym (ap (λ (k : ℕ). after k all t) more)

-- n times over, chains of 2 ^ n bitcasts are followed
pub settled_after : (n : ℕ) (all : List Bitcast) (t : List ℕ) → stands_for (settled n all) t ≡ after (2 ^ n) all t
unfolding settled
settled_after zero all t = refl
settled_after (suc n) all t =
    let doubled : 2 ^ n + 2 ^ n ≡ 2 ^ suc n = omega arith in
    settled_after n (followed all all) t
    ∙ twice (2 ^ n) all t
    ∙ ap (λ (k : ℕ). after k all t) doubled

stays : (n : ℕ) (all : List Bitcast) (t : List ℕ) → place_of all t ≡ None → after n all t ≡ t
stays zero all t none = refl
stays (suc n) all t none = ap (after n all) (unnamed all t none) ∙ stays n all t none

ends_by : (n : ℕ) (all : List Bitcast) (rank : List ℕ → ℕ) (t : List ℕ) (p : Option ℕ) → place_of all t ≡ p → AreRanked all rank → rank t ≤ n
    → place_of all (after n all t) ≡ None
ends_by zero all rank t None is ranked within = is
ends_by zero all rank t (Some i) is ranked within =
    let less : rank (stands_for all t) < rank t = ranked.falls t (ap is_some is) in
    absurd (omega (arith, less, within))
ends_by (suc n) all rank t None is ranked within = ap (place_of all) (stays (suc n) all t is) ∙ is
ends_by (suc n) all rank t (Some i) is ranked within =
    let less : rank (stands_for all t) < rank t = ranked.falls t (ap is_some is) in
    let left : rank (stands_for all t) ≤ n = omega (arith, less, within) in
    ends_by n all rank (stands_for all t) (place_of all (stands_for all t)) refl ranked left

-- what stands for a token is no bitcast's result
pub settled_ends : (n : ℕ) (all : List Bitcast) (rank : List ℕ → ℕ) → AreRanked all rank → (t : List ℕ) → rank t ≤ 2 ^ n → place_of all (stands_for (settled n all) t) ≡ None
settled_ends n all rank ranked t within =
    ap (place_of all) (settled_after n all t) ∙ ends_by (2 ^ n) all rank t (place_of all t) refl ranked within
