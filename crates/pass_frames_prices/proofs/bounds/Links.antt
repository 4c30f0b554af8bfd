-- Distances that are kept, and links, are getelementptrs, each another one.
use Rattle.std.proofs.Common.{◌≡◌, ◌⊎◌, inl, inr, ⊎_elim, ℕ, zero, suc, ◌+◌, ◌≤◌, Bool, true, false, List, [], ◌∷◌, ◌++◌, length, refl, sym, ap, ◌∙◌, subst, arith}
use Rattle.std.proofs.lemmas.List.{length-append}
use Rattle.std.proofs.lemmas.Option.{slice_get-map}
use Rattle.std.specs.Prelude.{None, Option, Some, option_map, replicate, slice_get}
use Rattle.pass_frames_proof.specs.flow_solver.Paths.{IsListed}
use Rattle.pass_frames_proof.proofs.ir_laws.facts.Lists.{set_other}
use Rattle.pass_frames_proof.proofs.ir_laws.facts.Truth.{either}
use Rattle.pass_frames_proof.proofs.ir_laws.paths.edges.Lists.{joined_different}
use Rattle.pass_frames_proof.proofs.ir_laws.paths.source_rules.Locals.{listed_either, listed_left, listed_right}
use Rattle.pass_frames_proof.specs.ir_laws.paths.woven_rules.Pairs.{AreDifferent}
use Rattle.pass_frames_proof.specs.ir_model.Ty.{Ty}
use Rattle.pass_frames_proof.specs.ir_model.declared.instr.Instr.{Instr}
use Rattle.pass_frames_proof.specs.ir_model.declared.module.Block.{Block}
use Rattle.pass_frames_proof.specs.ir_model.declared.module.Function.{Function}
use Rattle.pass_frames_proof.specs.ir_model.declared.operand.Operand.{Operand}
use Rattle.pass_frames_proof.specs.pass_cells.Kept.{entry, flag_or_false, is_flagged, joined, value_types}
use Rattle.pass_frames_proof.specs.pass_cells.Links.{bases_of, cell_name, field_name, further, jumped, links_after, links_from, marks_of, roots_after, roots_of, slot_by, slots_of, with_base, with_bases_by, with_bases_in}
use Rattle.pass_frames_proof.specs.pass_cells.Plan.{kept_from, kept_value, type_at}
use Rattle.pass_frames_proof.specs.pass_cells.declared.plan.KeptValue.{KeptValue}
use Rattle.pass_frames_prices.proofs.bounds.Once.{without, without_fewer, without_listed}
use Rattle.pass_frames_prices.proofs.bounds.Values.{kept_once, listed_place}
use Rattle.pass_frames_proof.proofs.code.Names.{Count, F, First, Kept, keeping, local}
use Rattle.pass_frames_proof.specs.Framings.{IsFraming}
use Rattle.pass_frames_prices.specs.Numbers.{distances_of, gep_names, gep_names_of, one_distance}
use Rattle.pass_frames_proof.specs.Places.{Framing, edged, plan}
use Rattle.pass_frames_proof.proofs.pass_proofs.cells.rules.Links.{HasSlot, marks_have}

-- ---- a name with a slot is a getelementptr's

abbrev IsKnown : List (Option ℕ) → ℕ → Type 0
IsKnown t v = (b : ℕ) × (entry t v ≡ Some b)

gep_here : (i : Instr) (is : List Instr) (v : ℕ) → IsListed v (gep_names (i ∷ [])) → IsListed v (gep_names (i ∷ is))
gep_here (Instr.Gep r inbounds ty base indices) is v (inl e) = inl e
gep_here (Instr.Gep r inbounds ty base indices) is v (inr l) = absurd l
gep_here _ is v l = absurd l

gep_later : (i : Instr) (is : List Instr) (v : ℕ) → IsListed v (gep_names is) → IsListed v (gep_names (i ∷ is))
gep_later (Instr.Gep r inbounds ty base indices) is v l = inr l
gep_later _ is v l = l

base_known : (bases : List (Option ℕ)) (i : Instr) (v : ℕ) → IsKnown (with_base bases i) v
    → IsKnown bases v ⊎ IsListed v (gep_names (i ∷ []))
base_known bases (Instr.Gep r inbounds ty (Operand.Local u) indices) v h =
    ⊎_elim (λ same. inr (inl (sym same)))
    (λ other. inl (h.0, sym (ap joined (set_other bases r v (Some u) other)) ∙ h.1)) (either r v)
base_known bases (Instr.Gep r inbounds ty _ indices) v h = inl h
base_known bases _ v h = inl h

bases_known_in : (bases : List (Option ℕ)) (is : List Instr) (v : ℕ) → IsKnown (with_bases_in bases is) v
    → IsKnown bases v ⊎ IsListed v (gep_names is)
bases_known_in bases [] v h = inl h
bases_known_in bases (i ∷ is) v h =
    ⊎_elim
    (λ k. ⊎_elim (λ old. inl old) (λ l. inr (gep_here i is v l)) (base_known bases i v k))
    (λ l. inr (gep_later i is v l)) (bases_known_in (with_base bases i) is v h)

bases_known : (bases : List (Option ℕ)) (bs : List Block) (v : ℕ) → IsKnown (with_bases_by bases bs) v
    → IsKnown bases v ⊎ IsListed v (gep_names_of bs)
bases_known bases [] v h = inl h
bases_known bases (b ∷ bs) v h =
    ⊎_elim
    (λ k. ⊎_elim (λ old. inl old) (λ l. inr (listed_left v (gep_names b.instrs) (gep_names_of bs) l))
    (bases_known_in bases b.instrs v k))
    (λ l. inr (listed_right v (gep_names b.instrs) (gep_names_of bs) l))
    (bases_known (with_bases_in bases b.instrs) bs v h)

none_known : (n v : ℕ) → IsKnown (replicate n None) v → ⊥
none_known zero v h = let e : None ≡ Some h.0 = h.1 in absurd (cc)
none_known (suc n) zero h = let e : None ≡ Some h.0 = h.1 in absurd (cc)
none_known (suc n) (suc v) h = none_known n v h

further_known : (t : List (Option ℕ)) (o : Option (Option ℕ)) → (b : ℕ) → joined (option_map (further t) o) ≡ Some b
    → (c : ℕ) × (joined o ≡ Some c)
further_known t None b e = absurd (cc)
further_known t (Some None) b e = absurd (cc)
further_known t (Some (Some u)) b e = (u, refl)

jumped_known : (t : List (Option ℕ)) (v : ℕ) → IsKnown (jumped t) v → IsKnown t v
jumped_known t v h =
    further_known t (slice_get t v) h.0 (sym (ap joined (slice_get-map (further t) t v)) ∙ h.1)

after_known : (k : ℕ) (t : List (Option ℕ)) (v : ℕ) → IsKnown (roots_after k t) v → IsKnown t v
unfolding roots_after
after_known zero t v h = h
after_known (suc k) t v h = jumped_known t v (after_known k (jumped t) v h)

roots_known : (t : List (Option ℕ)) (v : ℕ) → IsKnown (roots_of t) v → IsKnown t v
unfolding roots_of
roots_known t v h = after_known 64 t v h

slot_known : (local : List Bool) (o : Option (Option ℕ)) (b : ℕ) → joined (option_map (slot_by local) o) ≡ Some b
    → (c : ℕ) × (joined o ≡ Some c)
slot_known local None b e = absurd (cc)
slot_known local (Some None) b e = absurd (cc)
slot_known local (Some (Some u)) b e = (u, refl)

pub slot_listed : (local : List Bool) (f : Function) (v : ℕ) → HasSlot (slots_of local (bases_of f)) v
    → IsListed v (gep_names_of f.blocks)
slot_listed local f v h =
    ⊎_elim (λ k. absurd (none_known (length f.names) v k)) (λ l. l)
    (bases_known (replicate (length f.names) None) f.blocks v
    (roots_known (bases_of f) v
    (slot_known local (slice_get (roots_of (bases_of f)) v) h.0
    (sym (ap joined (slice_get-map (slot_by local) (roots_of (bases_of f)) v)) ∙ h.1))))

-- ---- links

-- names that are marked and have no place are listed, so they are no more
links_few : (places : List (Option ℕ)) (ms : List Bool) (v links : ℕ) (us : List ℕ)
    → ((i : ℕ) → slice_get ms i ≡ Some true → entry places (v + i) ≡ None → IsListed (v + i) us)
    → links_from places v links ms ≤ links + length us
links_few places [] v links us h = omega arith
links_few places (m ∷ ms) v links us h =
    on m (entry places v) refl refl
    (λ l k. links_few places ms (v + 1) l k)
  where
    next : (i : ℕ) → v + 1 + i ≡ v + suc i
    next i = omega arith

    first : v + 0 ≡ v
    first = omega arith

    more : (i : ℕ) → slice_get ms i ≡ Some true → entry places (v + 1 + i) ≡ None → IsListed (v + 1 + i) us
    more i e none =
        subst (λ (w : ℕ). IsListed w us) (sym (next i))
        (h (suc i) e (sym (ap (entry places) (next i)) ∙ none))

    apart : (i : ℕ) → v + 1 + i ≡ v → ⊥
    apart i e = omega (arith, e)

    on : (b : Bool) (o : Option ℕ) → m ≡ b → entry places v ≡ o
        → ((l : ℕ) (k : List ℕ)
        → ((i : ℕ) → slice_get ms i ≡ Some true → entry places (v + 1 + i) ≡ None → IsListed (v + 1 + i) k)
        → links_from places (v + 1) l ms ≤ l + length k)
        → links_from places (v + 1) (links_after links b o) ms ≤ links + length us
    on false o e d rest = rest links us more
    on true (Some k) e d rest = rest links us more
    on true None e d rest =
        let here : IsListed v us =
        subst (λ (w : ℕ). IsListed w us) first (h 0 (ap (λ (b : Bool). Some b) e) (ap (entry places) first ∙ d)) in
        let a = rest (links + 1) (without v us)
        (λ i t none. without_listed v us (v + 1 + i) (apart i) (more i t none)) in
        let b = without_fewer v us here in
        omega (arith, a, b)

-- ---- a list without another

abbrev without_all : List ℕ → List ℕ → List ℕ
without_all [] us = us
without_all (v ∷ vs) us = without_all vs (without v us)

all_fewer : (vs us : List ℕ) → AreDifferent vs → ((v : ℕ) → IsListed v vs → IsListed v us)
    → length (without_all vs us) + length vs ≡ length us
all_fewer [] us once listed = omega arith
all_fewer (v ∷ vs) us once listed =
    let a = without_fewer v us (listed v (inl refl)) in
    let b = all_fewer vs (without v us) once.1
    (λ w l. without_listed v us w (λ same. once.0 (subst (λ (u : ℕ). IsListed u vs) same l)) (listed w (inr l))) in
    omega (arith, a, b)

all_listed : (vs us : List ℕ) (w : ℕ) → (IsListed w vs → ⊥) → IsListed w us → IsListed w (without_all vs us)
all_listed [] us w other l = l
all_listed (v ∷ vs) us w other l =
    all_listed vs (without v us) w (λ m. other (inr m)) (without_listed v us w (λ same. other (inl same)) l)

-- ---- the kept values of which distances are kept

abbrev by_slot : Option ℕ → ℕ → List ℕ
by_slot None v = []
by_slot (Some slot) v = v ∷ []

module _ (first count : ℕ) (types : List Ty) (cells slots : List (Option ℕ)) where
  abbrev kept_one : ℕ → ℕ → KeptValue
  kept_one k v =
      kept_value (cell_name first k) (field_name first count k) (type_at types k) (entry cells v) (entry slots v)

  abbrev measured : ℕ → List ℕ → List ℕ
  measured k [] = []
  measured k (v ∷ vs) = by_slot (kept_one k v).slot v ++ measured (k + 1) vs

  by_slot_long : (o : Option ℕ) (v : ℕ) → length (by_slot o v) ≡ one_distance o
  by_slot_long None v = refl
  by_slot_long (Some slot) v = refl

  measured_long : (k : ℕ) (vs : List ℕ)
      → length (measured k vs) ≡ distances_of (kept_from first count types cells slots k vs)
  measured_long k [] = refl
  measured_long k (v ∷ vs) =
      let a = by_slot_long (kept_one k v).slot v in
      let b = measured_long (k + 1) vs in
      let e = length-append (by_slot (kept_one k v).slot v) (measured (k + 1) vs) in
      omega (arith, a, b, e)

  by_slot_is : (o : Option ℕ) (v w : ℕ) → IsListed w (by_slot o v) → (s : ℕ) × (o ≡ Some s) × (w ≡ v)
  by_slot_is None v w l = absurd l
  by_slot_is (Some slot) v w (inl e) = (slot, refl, e)
  by_slot_is (Some slot) v w (inr l) = absurd l

  has_slot : (cell field : ℕ) (ty : Ty) (c o : Option ℕ) (s : ℕ)
      → (kept_value cell field ty c o).slot ≡ Some s → o ≡ Some s
  has_slot cell field ty None o s e = absurd (cc)
  has_slot cell field ty (Some d) o s e = e

  measured_is : (k : ℕ) (vs : List ℕ) (w : ℕ) → IsListed w (measured k vs) → IsListed w vs × HasSlot slots w
  measured_is k [] w l = absurd l
  measured_is k (v ∷ vs) w l =
      ⊎_elim
      (λ m. let q = by_slot_is (kept_one k v).slot v w m in
      let s = has_slot (cell_name first k) (field_name first count k) (type_at types k) (entry cells v)
      (entry slots v) q.0 q.1 in
      (inl q.2, (q.0, ap (entry slots) q.2 ∙ s)))
      (λ m. let q = measured_is (k + 1) vs w m in (inr q.0, q.1))
      (listed_either w (by_slot (kept_one k v).slot v) (measured (k + 1) vs) l)

  by_slot_once : (o : Option ℕ) (v : ℕ) → AreDifferent (by_slot o v)
  by_slot_once None v = tt
  by_slot_once (Some slot) v = (λ l. absurd l, tt)

  measured_once : (k : ℕ) (vs : List ℕ) → AreDifferent vs → AreDifferent (measured k vs)
  measured_once k [] d = tt
  measured_once k (v ∷ vs) d =
      joined_different (by_slot (kept_one k v).slot v) (measured (k + 1) vs) (by_slot_once (kept_one k v).slot v)
      (measured_once (k + 1) vs d.1)
      (λ w l m. let q = by_slot_is (kept_one k v).slot v w l in
      d.0 (subst (λ (u : ℕ). IsListed u vs) q.2 (measured_is (k + 1) vs w m).0))

-- ---- in a coroutine

flagged_there : (ms : List Bool) (i : ℕ) → slice_get ms i ≡ Some true → is_flagged ms i ≡ true
flagged_there ms i e = ap flag_or_false e

module _ (x : Framing) (is : IsFraming x) where
  abbrev slots : List (Option ℕ)
  slots = slots_of (local x is) (bases_of (edged x))

  abbrev types : List Ty
  types = value_types (F x is) (Kept x is)

  abbrev vs : List ℕ
  vs = measured (First x is) (Count x is) types (plan x).cells slots 0 (Kept x is).values

  abbrev us : List ℕ
  us = gep_names_of (edged x).blocks

  known : (v : ℕ) → HasSlot slots v → IsListed v us
  known v h = slot_listed (local x is) (edged x) v h

  vs_is : (v : ℕ) → IsListed v vs → IsListed v (Kept x is).values × HasSlot slots v
  vs_is v l = measured_is (First x is) (Count x is) types (plan x).cells slots 0 (Kept x is).values v l

  unplaced : (v : ℕ) → entry (Kept x is).places v ≡ None → IsListed v vs → ⊥
  unplaced v none l =
      let q = listed_place (Kept x is).values v (vs_is v l).0 in
      let some : None ≡ Some q.0 = sym none ∙ (keeping x is).back v q.0 q.1 in
      absurd (cc)

  pub distances_few : distances_of (plan x).kept + (plan x).links ≤ length us
  distances_few =
      let marks : List Bool = marks_of (bases_of (edged x)) slots (Kept x is).values in
      let first : (i : ℕ) → 0 + i ≡ i = λ i. omega arith in
      let a = all_fewer vs us
      (measured_once (First x is) (Count x is) types (plan x).cells slots 0 (Kept x is).values (kept_once x is))
      (λ v l. known v (vs_is v l).1) in
      let b = links_few (Kept x is).places marks 0 0 (without_all vs us)
      (λ i e none.
      let none' : entry (Kept x is).places i ≡ None = sym (ap (entry (Kept x is).places) (first i)) ∙ none in
      subst (λ (w : ℕ). IsListed w (without_all vs us)) (sym (first i))
      (all_listed vs us i (unplaced i none')
      (known i (marks_have (bases_of (edged x)) slots (Kept x is).values i (flagged_there marks i e))))) in
      let c = measured_long (First x is) (Count x is) types (plan x).cells slots 0 (Kept x is).values in
      omega (arith, a, b, c)
