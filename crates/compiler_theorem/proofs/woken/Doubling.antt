-- The table of roots, which leads twice as far with each turn, leads along chains of getelementptrs to their ends.
use Rattle.std.proofs.Common.{◌≡◌, ◌⊎◌, inl, inr, ⊎_elim, ℕ, zero, suc, ◌+◌, ◌<◌, ◌≤◌, ◌^◌, List, [], ◌∷◌, Option, Some, None, length, refl, sym, ap, ◌∙◌, subst, arith}
use Rattle.std.proofs.lemmas.Option.{slice_get-map}
use Rattle.std.specs.Prelude.{map, option_map, replicate, slice_get, slice_set}
use Rattle.compiler.proofs.flow_facts.Chained.{IsAddress}
use Rattle.compiler.specs.flow_facts.Chains.{bases_by, bases_in}
use Rattle.compiler.proofs.flow_solver.Lists.{set_cases}
use Rattle.compiler.specs.flow_solver.Paths.{IsListed}
use Rattle.compiler.proofs.ir_laws.facts.Lists.{blank_length, set_here, set_length, set_other}
use Rattle.compiler.proofs.ir_laws.facts.Truth.{either}
use Rattle.compiler.proofs.ir_laws.paths.source_rules.Locals.{listed_either, listed_left, listed_right}
use Rattle.compiler.specs.ir_model.Calls.{or_else}
use Rattle.compiler.specs.ir_model.declared.instr.Instr.{Instr}
use Rattle.compiler.specs.ir_model.declared.module.Block.{Block}
use Rattle.compiler.specs.ir_model.declared.module.Function.{Function}
use Rattle.compiler.specs.ir_model.declared.operand.Operand.{Operand}
use Rattle.compiler.specs.pass_cells.Kept.{entry, joined}
use Rattle.compiler.specs.pass_cells.Links.{bases_of, further, jumped, roots_after, roots_of, with_base, with_bases_by, with_bases_in}

-- ---- entries

-- of a table that is turned name by name
pub mapped_entry : (f : Option ℕ → Option ℕ) → f None ≡ None → (t : List (Option ℕ)) (v : ℕ)
    → entry (map f t) v ≡ f (entry t v)
mapped_entry f none t v = ap joined (slice_get-map f t v) ∙ on (slice_get t v)
  where
    on : (o : Option (Option ℕ)) → joined (option_map f o) ≡ f (joined o)
    on None = sym none
    on (Some o) = refl

pub entry_within : (t : List (Option ℕ)) (v b : ℕ) → entry t v ≡ Some b → v < length t
entry_within [] v b e = absurd (cc)
entry_within (o ∷ t) zero b e = omega arith
entry_within (o ∷ t) (suc v) b e = let lt = entry_within t v b e in omega (arith, lt)

jumped_entry : (t : List (Option ℕ)) (v : ℕ) → entry (jumped t) v ≡ further t (entry t v)
jumped_entry t v = mapped_entry (further t) refl t v

-- ---- the table leads along chains

abbrev Leads : List (ℕ × ℕ) → List (Option ℕ) → Type 0
Leads gs t = (v u : ℕ) → entry t v ≡ Some u → IsAddress gs u v

join : (gs : List (ℕ × ℕ)) (a b v : ℕ) → IsAddress gs a b → IsAddress gs b v → IsAddress gs a v
join gs a b _ one IsAddress.Own = one
join gs a b _ one (IsAddress.Next v r listed rest) = IsAddress.Next v r listed (join gs a b v one rest)

jumped_leads : (gs : List (ℕ × ℕ)) (t : List (Option ℕ)) → Leads gs t → Leads gs (jumped t)
jumped_leads gs t h v w e = on (entry t v) refl (sym (jumped_entry t v) ∙ e)
  where
    on : (o : Option ℕ) → entry t v ≡ o → further t o ≡ Some w → IsAddress gs w v
    on None d k = absurd (cc)
    on (Some u) d k = by (entry t u) refl k
      where
        by : (o : Option ℕ) → entry t u ≡ o → or_else o (Some u) ≡ Some w → IsAddress gs w v
        by None c j = let same : u ≡ w = cc in subst (λ (n : ℕ). IsAddress gs n v) same (h v u d)
        by (Some x) c j =
            let same : x ≡ w = cc in
            join gs w u v (subst (λ (n : ℕ). IsAddress gs n u) same (h u x c)) (h v u d)

turns_lead : (gs : List (ℕ × ℕ)) (k : ℕ) (t : List (Option ℕ)) → Leads gs t → Leads gs (roots_after k t)
unfolding roots_after
turns_lead gs zero t h = h
turns_lead gs (suc k) t h = turns_lead gs k (jumped t) (jumped_leads gs t h)

-- ---- the bases

one_listed : (t : List (Option ℕ)) (i : Instr) (is : List Instr) (v u : ℕ) → entry (with_base t i) v ≡ Some u
    → (entry t v ≡ Some u) ⊎ IsListed {X = ℕ × ℕ} (v, u) (bases_in (i ∷ is))
one_listed t (Instr.Gep r inbounds ty (Operand.Local b) indices) is v u e =
    on (slice_get (slice_set t r (Some b)) v) refl e
  where
    on : (o : Option (Option ℕ)) → slice_get (slice_set t r (Some b)) v ≡ o → joined o ≡ Some u
        → (entry t v ≡ Some u) ⊎ IsListed {X = ℕ × ℕ} (v, u) ((r, b) ∷ bases_in is)
    on None d k = absurd (cc)
    on (Some o) d k = ⊎_elim
        (λ same. let both : Some b ≡ Some u = sym same.1 ∙ k in
        let one : b ≡ u = cc in inr (inl (λ j. (same.0 j, sym one j))))
        (λ old. inl (ap joined old.0 ∙ k)) (set_cases t r v (Some b) o d)
one_listed t _ is v u e = inl e

tail_listed : (i : Instr) (is : List Instr) (x : ℕ × ℕ) → IsListed x (bases_in is) → IsListed x (bases_in (i ∷ is))
tail_listed (Instr.Gep r inbounds ty (Operand.Local b) indices) is x l = inr l
tail_listed _ is x l = l

instrs_listed : (t : List (Option ℕ)) (is : List Instr) (v u : ℕ) → entry (with_bases_in t is) v ≡ Some u
    → (entry t v ≡ Some u) ⊎ IsListed {X = ℕ × ℕ} (v, u) (bases_in is)
instrs_listed t [] v u e = inl e
instrs_listed t (i ∷ is) v u e =
    ⊎_elim (λ h. one_listed t i is v u h) (λ l. inr (tail_listed i is (v, u) l))
    (instrs_listed (with_base t i) is v u e)

blocks_listed : (t : List (Option ℕ)) (bs : List Block) (v u : ℕ) → entry (with_bases_by t bs) v ≡ Some u
    → (entry t v ≡ Some u) ⊎ IsListed {X = ℕ × ℕ} (v, u) (bases_by bs)
blocks_listed t [] v u e = inl e
blocks_listed t (b ∷ bs) v u e = ⊎_elim
    (λ h. ⊎_elim (λ old. inl old) (λ l. inr (listed_left {A = ℕ × ℕ} (v, u) (bases_in b.instrs) (bases_by bs) l))
    (instrs_listed t b.instrs v u h))
    (λ l. inr (listed_right {A = ℕ × ℕ} (v, u) (bases_in b.instrs) (bases_by bs) l))
    (blocks_listed (with_bases_in t b.instrs) bs v u e)

none_told : (n v u : ℕ) → entry (replicate n None) v ≡ Some u → ⊥
none_told zero v u e = absurd (cc)
none_told (suc n) zero u e = absurd (cc)
none_told (suc n) (suc v) u e = none_told n v u e

pub base_listed : (f : Function) (v u : ℕ) → entry (bases_of f) v ≡ Some u
    → IsListed {X = ℕ × ℕ} (v, u) (bases_by f.blocks)
base_listed f v u e =
    ⊎_elim (λ none. absurd (none_told (length f.names) v u none)) (λ l. l)
    (blocks_listed (replicate (length f.names) None) f.blocks v u e)

pub root_leads : (f : Function) (v s : ℕ) → entry (roots_of (bases_of f)) v ≡ Some s
    → IsAddress (bases_by f.blocks) s v
unfolding roots_of
root_leads f v s e =
    turns_lead (bases_by f.blocks) 64 (bases_of f)
    (λ w u h. IsAddress.Next u w (base_listed f w u h) IsAddress.Own) v s e

-- ---- each getelementptr is told

abbrev IsTold : List (Option ℕ) → ℕ → Type 0
IsTold t v = (u : ℕ) × (entry t v ≡ Some u)

one_stays : (t : List (Option ℕ)) (r b v : ℕ) → IsTold t v → IsTold (slice_set t r (Some b)) v
one_stays t r b v h = ⊎_elim
    (λ same. on t v h.0 h.1 same)
    (λ ne. (h.0, ap joined (set_other t r v (Some b) ne) ∙ h.1))
    (either r v)
  where
    on : (xs : List (Option ℕ)) (v u : ℕ) → entry xs v ≡ Some u → r ≡ v
        → (w : ℕ) × (entry (slice_set xs r (Some b)) v ≡ Some w)
    on xs v u e same = (
      b,
      ap (λ (n : ℕ). entry (slice_set xs n (Some b)) v) same
          ∙ ap joined (set_here xs v (Some b) (entry_within xs v u e)),
    )

base_stays : (t : List (Option ℕ)) (i : Instr) (v : ℕ) → IsTold t v → IsTold (with_base t i) v
base_stays t (Instr.Gep r inbounds ty (Operand.Local b) indices) v h = one_stays t r b v h
base_stays t _ v h = h

in_stays : (t : List (Option ℕ)) (is : List Instr) (v : ℕ) → IsTold t v → IsTold (with_bases_in t is) v
in_stays t [] v h = h
in_stays t (i ∷ is) v h = in_stays (with_base t i) is v (base_stays t i v h)

by_stays : (t : List (Option ℕ)) (bs : List Block) (v : ℕ) → IsTold t v → IsTold (with_bases_by t bs) v
by_stays t [] v h = h
by_stays t (b ∷ bs) v h = by_stays (with_bases_in t b.instrs) bs v (in_stays t b.instrs v h)

base_long : (t : List (Option ℕ)) (i : Instr) → length (with_base t i) ≡ length t
base_long t (Instr.Gep r inbounds ty (Operand.Local b) indices) = set_length t r (Some b)
base_long t _ = refl

in_long : (t : List (Option ℕ)) (is : List Instr) → length (with_bases_in t is) ≡ length t
in_long t [] = refl
in_long t (i ∷ is) = in_long (with_base t i) is ∙ base_long t i

pub by_long : (t : List (Option ℕ)) (bs : List Block) → length (with_bases_by t bs) ≡ length t
by_long t [] = refl
by_long t (b ∷ bs) = by_long (with_bases_in t b.instrs) bs ∙ in_long t b.instrs

told_in : (t : List (Option ℕ)) (is : List Instr) (v u : ℕ) → v < length t
    → IsListed {X = ℕ × ℕ} (v, u) (bases_in is) → IsTold (with_bases_in t is) v
told_in t [] v u lt l = absurd l
told_in t (Instr.Gep r inbounds ty (Operand.Local b) indices ∷ is) v u lt (inl e) =
    in_stays (slice_set t r (Some b)) is v (first (ap (λ (x : ℕ × ℕ). x.0) e))
  where
    first : v ≡ r → IsTold (slice_set t r (Some b)) v
    first same =
        (b, ap (λ (n : ℕ). entry (slice_set t n (Some b)) v) (sym same) ∙ ap joined (set_here t v (Some b) lt))
told_in t (Instr.Gep r inbounds ty (Operand.Local b) indices ∷ is) v u lt (inr l) =
    let long = set_length t r (Some b) in told_in (slice_set t r (Some b)) is v u (omega (arith, lt, long)) l
told_in t (i ∷ is) v u lt l = let long = base_long t i in told_in (with_base t i) is v u (omega (arith, lt, long)) l

told_by : (t : List (Option ℕ)) (bs : List Block) (v u : ℕ) → v < length t
    → IsListed {X = ℕ × ℕ} (v, u) (bases_by bs) → IsTold (with_bases_by t bs) v
told_by t [] v u lt l = absurd l
told_by t (b ∷ bs) v u lt l = ⊎_elim
    (λ (here : IsListed {X = ℕ × ℕ} (v, u) (bases_in b.instrs)).
    by_stays (with_bases_in t b.instrs) bs v (told_in t b.instrs v u lt here))
    (λ (more : IsListed {X = ℕ × ℕ} (v, u) (bases_by bs)).
    let long = in_long t b.instrs in told_by (with_bases_in t b.instrs) bs v u (omega (arith, lt, long)) more)
    (listed_either {A = ℕ × ℕ} (v, u) (bases_in b.instrs) (bases_by bs) l)

pub base_told : (f : Function) (v b : ℕ) → v < length f.names → IsListed {X = ℕ × ℕ} (v, b) (bases_by f.blocks)
    → (u : ℕ) × (entry (bases_of f) v ≡ Some u)
base_told f v b lt l =
    let long : length (replicate {A = Option ℕ} (length f.names) None)
    ≡ length f.names = blank_length (length f.names) in
    told_by (replicate (length f.names) None) f.blocks v b (omega (arith, lt, long)) l

-- ---- chains

-- a chain of so many steps by the table
abbrev pub Path : List (Option ℕ) → ℕ → ℕ → ℕ → Type 0
Path t zero v r = v ≡ r
Path t (suc n) v r = (b : ℕ) × (entry t v ≡ Some b) × Path t n b r

-- half as many, rounded up
record IsHalf (t : List (Option ℕ)) (n v r : ℕ) : Type 0 where
  count : ℕ
  some : 1 ≤ count
  few : count + count ≤ n + 1
  path : Path (jumped t) count v r

one_half : (t : List (Option ℕ)) (v r : ℕ) → entry t r ≡ None → Path t 1 v r → IsHalf t 1 v r
one_half t v r end p =
    let told : entry t v ≡ Some r = p.1 ∙ ap (λ (n : ℕ). Some n) p.2 in
    record {
      count = 1;
      some = omega arith;
      few = omega arith;
      path = (r, jumped_entry t v ∙ ap (further t) told ∙ ap (λ (o : Option ℕ). or_else o (Some r)) end, refl);
    }

two_steps : (t : List (Option ℕ)) (v b c : ℕ) → entry t v ≡ Some b → entry t b ≡ Some c → entry (jumped t) v ≡ Some c
two_steps t v b c e d = jumped_entry t v ∙ ap (further t) e ∙ ap (λ (o : Option ℕ). or_else o (Some b)) d

half : (t : List (Option ℕ)) (n v r : ℕ) → 1 ≤ n → entry t r ≡ None → Path t n v r → IsHalf t n v r
half t zero v r some end p = absurd (omega (arith, some))
half t (suc zero) v r some end p = one_half t v r end p
half t (suc (suc zero)) v r some end p = record {
  count = 1;
  some = omega arith;
  few = omega arith;
  path = (p.2.0, two_steps t v p.0 p.2.0 p.1 p.2.1, p.2.2);
}
half t (suc (suc (suc n))) v r some end p =
    let more = half t (suc n) p.2.0 r (omega arith) end p.2.2 in
    let few = more.few in
    record {
      count = suc more.count;
      some = omega arith;
      few = omega (arith, few);
      path = (p.2.0, two_steps t v p.0 p.2.0 p.1 p.2.1, more.path);
    }

twice : (k : ℕ) → 2 ^ suc k ≡ 2 ^ k + 2 ^ k
twice k = omega arith

pub path_ends : (k : ℕ) (t : List (Option ℕ)) (n v r : ℕ) → 1 ≤ n → n ≤ 2 ^ k → entry t r ≡ None → Path t n v r
    → entry (roots_after k t) v ≡ Some r
unfolding roots_after
path_ends zero t zero v r some few end p = absurd (omega (arith, some))
path_ends zero t (suc zero) v r some few end p = p.1 ∙ ap (λ (n : ℕ). Some n) p.2
path_ends zero t (suc (suc n)) v r some few end p = absurd (omega (arith, few))
path_ends (suc k) t n v r some few end p =
    let h = half t n v r some end p in
    let low = h.few in
    let double = twice k in
    path_ends k (jumped t) h.count v r h.some (omega (arith, low, few, double))
    (jumped_entry t r ∙ ap (further t) end) h.path

pub root_ends : (bases : List (Option ℕ)) (n v r : ℕ) → 1 ≤ n → n ≤ 2 ^ 64 → entry bases r ≡ None → Path bases n v r
    → entry (roots_of bases) v ≡ Some r
unfolding roots_of
root_ends bases n v r some few end p = path_ends 64 bases n v r some few end p
