-- The places of the slots that an instruction reads hold what it reads, and are apart.
use Rattle.std.proofs.Common.{◌≡◌, ◌≢◌, ℕ, zero, suc, ◌<◌, ◌≤◌, ◌⊎◌, inl, inr, Bool, true, false, List, [], ◌∷◌}
use Rattle.std.proofs.Common.{length, Option, Some, None, refl, sym, ap, ◌∙◌, subst, ⊎_elim, arith, if◌then◌else◌}
use Rattle.std.proofs.Common.{◌==◌}
use Rattle.std.proofs.lemmas.Bool.{cases_lt, false≢true}
use Rattle.std.specs.Prelude.{IsTrue}
use Rattle.std.specs.List.{list_any}
use Rattle.pass_kept_proof.specs.flow_solver.Paths.{IsListed}
use Rattle.pass_kept_proof.proofs.Same.{either, neither}
use Rattle.pass_kept_proof.specs.Needed.{reads_at}
use Rattle.run_laws.specs.changed.Changed.{Each}
use Rattle.run_laws.specs.memory.Pointers.{Home, IsValue}
use Rattle.pass_kept_proof.specs.run_memory.Pointers.{moved}
use Rattle.pass_kept_proof.specs.run_memory.declared.pointer.Offset.{Offset}
use Rattle.pass_kept_proof.specs.run_memory.declared.pointer.Pointer.{Pointer}
use Rattle.pass_kept_proof.specs.run_memory.declared.pointer.Value.{Value}
use Rattle.pass_kept_proof.specs.run_step.Step.{Fetched}
use Rattle.pass_kept_proof.specs.run_step.Values.{Env, pointer_to, value_in, value_or_poison}
use Rattle.pass_renewed_proof.proofs.Made.{get_past}
use Rattle.pass_renewed_proof.specs.Chosen.{IsPlaceOf, both_blocks, names_below, place_by, places_at, places_of}
use Rattle.pass_renewed_proof.specs.Chosen.{with_place}
use Rattle.pass_renewed_proof.specs.Ready.{AreApartFrom, ArePlacesApart, IsPlaced, Place}
use Rattle.pass_renewed_proof.specs.SlotEnvs.{AreRoots, AreSlotEnvs, IsAddress}

-- ---- names that are read

pub names_read : (here : Fetched) (n v : ℕ) → v < n → IsTrue (reads_at v here) → IsListed v (names_below here n)
names_read here zero v lt is = absurd (omega arith)
names_read here (suc n) v lt is = on (names_read here n v) (reads_at n here) refl (cases_lt v n)
  where
    on : (v < n → IsTrue (reads_at v here) → IsListed v (names_below here n)) → (t : Bool) → reads_at n here ≡ t
        → (v < n) ⊎ (n ≤ v) → IsListed v (if t then n ∷ names_below here n else names_below here n)
    on ih true e (inl less) = inr (ih less is)
    on ih true e (inr le) = inl (omega arith)
    on ih false e (inl less) = ih less is
    on ih false e (inr le) =
        let same : v ≡ n = omega arith in
        absurd (false≢true (sym e ∙ ap (λ k. reads_at k here) (sym same) ∙ is))

pub read_names : (here : Fetched) (n v : ℕ) → IsListed v (names_below here n) → IsTrue (reads_at v here)
read_names here zero v h = absurd h
read_names here (suc n) v h = on (read_names here n v) (reads_at n here) refl h
  where
    on : (IsListed v (names_below here n) → IsTrue (reads_at v here)) → (t : Bool) → reads_at n here ≡ t
        → IsListed v (if t then n ∷ names_below here n else names_below here n) → IsTrue (reads_at v here)
    on ih true e (inl is) = ap (λ k. reads_at k here) is ∙ e
    on ih true e (inr h) = ih h
    on ih false e h = ih h

pub beyond : (env : Env) (v : ℕ) → length env ≤ v → value_in env v ≡ Value.Poison
beyond env v le = ap value_or_poison (get_past env v le)

pub pointer_within : (env : Env) (v : ℕ) (p : Pointer) → value_in env v ≡ Value.Ptr p → v < length env
pointer_within env v p e = ⊎_elim (λ lt. lt) (λ le. let c : Value.Poison ≡ Value.Ptr p = sym (beyond env v le)
    ∙ e in absurd (cc)) (cases_lt v (length env))

-- ---- one place for each block

has_block : List Place → ℕ → Bool
has_block ps b = list_any (λ (q : Place). q.block == b) ps

block_listed : (ps : List Place) (b : ℕ) → list_any (λ (q : Place). q.block == b) ps ≡ true
    → (q : Place) × (IsListed q ps × (q.block ≡ b))
block_listed [] b e = absurd (false≢true e)
block_listed (q ∷ ps) b e = ⊎_elim (λ h. (
  q,
  (
    inl refl,
    same q.block b h,
  ),
)) (λ h. let r = block_listed ps b h in (r.0, (inr r.1.0, r.1.1))) (either (q.block == b) _ e)
  where
    same : (a b : ℕ) → (a == b) ≡ true → a ≡ b
    same a b e = grind arith

block_unlisted : (ps : List Place) (b : ℕ) → list_any (λ (q : Place). q.block == b) ps ≡ false
    → Each (λ (q : Place). q.block ≢ b) ps
block_unlisted [] b e = tt
block_unlisted (q ∷ ps) b e = let n = neither (q.block == b) _ e in (differs q.block b n.0, block_unlisted ps b n.1)
  where
    differs : (a b : ℕ) → (a == b) ≡ false → a ≢ b
    differs a b e is = absurd (grind arith)

listed_with : (o : Option Place) (ps : List Place) (q : Place) → IsListed q ps → IsListed q (with_place o ps)
listed_with None ps q h = h
listed_with (Some p) ps q h = on (list_any (λ (z : Place). z.block == p.block) ps)
  where
    on : (t : Bool) → IsListed q (if t then ps else p ∷ ps)
    on true = h
    on false = inr h

listed_new : (p : Place) (ps : List Place) → (q : Place) × (IsListed q (with_place (Some p) ps) × (q.block ≡ p.block))
listed_new p ps = on (list_any (λ (z : Place). z.block == p.block) ps) refl
  where
    on : (t : Bool) → list_any (λ (z : Place). z.block == p.block) ps ≡ t
        → (q : Place) × (IsListed q (if t then ps else p ∷ ps) × (q.block ≡ p.block))
    on true e = block_listed ps p.block e
    on false e = (p, (inl refl, refl))

module _ (roots : ℕ → Option ℕ) (env other : Env) where
  -- each name's place is there, by its block
  place_there : (vs : List ℕ) (v : ℕ) (p : Place) → IsListed v vs → place_by env other (roots v) ≡ Some p
      → (q : Place) × (IsListed q (places_of roots env other vs) × (q.block ≡ p.block))
  place_there [] v p h e = absurd h
  place_there (w ∷ vs) v p (inl is) e =
      let here : place_by env other (roots w) ≡ Some p = ap (λ k. place_by env other (roots k)) (sym is) ∙ e in
      subst (λ o. (q : Place) × (IsListed q (with_place o (places_of roots env other vs)) × (q.block ≡ p.block))) (sym
      here) (listed_new p (places_of roots env other vs))
  place_there (w ∷ vs) v p (inr h) e =
      let r = place_there vs v p h e in
      (r.0, (listed_with (place_by env other (roots w)) (places_of roots env other vs) r.0 r.1.0, r.1.1))

  module _ (P : Place → Type 0) where
    each_with_place : (o : Option Place) (ps : List Place) → ((p : Place) → o ≡ Some p → P p) → Each P ps
        → Each P (with_place o ps)
    each_with_place None ps new h = h
    each_with_place (Some p) ps new h = on (list_any (λ (z : Place). z.block == p.block) ps)
      where
        on : (t : Bool) → Each P (if t then ps else p ∷ ps)
        on true = h
        on false = (new p refl, h)

    each_place : (vs : List ℕ) → ((v : ℕ) (p : Place) → IsListed v vs → place_by env other (roots v) ≡ Some p → P p)
        → Each P (places_of roots env other vs)
    each_place [] h = tt
    each_place (v ∷ vs) h = each_with_place (place_by env other (roots v)) (places_of roots env other vs) (λ p e. h v
        p (inl refl) e) (each_place vs (λ w p l e. h w p (inr l) e))

  -- no two have a block in common, nor a target, where each target has one tenant
  module _ (tenants : ℕ → Option ℕ) where
    abbrev IsTenant : Place → Type 0
    IsTenant p = tenants p.target ≡ Some p.block

    apart_from : (p : Place) (ps : List Place) → tenants p.target ≡ Some p.block
        → Each (λ (q : Place). tenants q.target ≡ Some q.block) ps → Each (λ (q : Place). q.block ≢ p.block) ps
        → AreApartFrom p ps
    apart_from p [] t ts ns = tt
    apart_from p (q ∷ ps) t ts ns = (
      (
        ns.0,
        λ e. let c : Some q.block ≡ Some p.block = sym ts.0 ∙ ap tenants e
            ∙ t in ns.0 (cc),
      ),
      apart_from p ps t ts.1 ns.1,
    )

    pub places_apart : (vs : List ℕ) → Each (λ (q : Place). tenants q.target ≡ Some q.block) (places_of roots env
        other vs) → ArePlacesApart (places_of roots env other vs)
    places_apart [] ts = tt
    places_apart (v ∷ vs) ts = on (place_by env other (roots v)) ts (λ h. places_apart vs h)
      where
        on : (o : Option Place) → Each (λ (q : Place). tenants q.target ≡ Some q.block) (with_place o (places_of roots
            env other vs)) → (Each (λ (q : Place). tenants q.target ≡ Some q.block) (places_of roots env other vs)
            → ArePlacesApart (places_of roots env other vs))
            → ArePlacesApart (with_place o (places_of roots env other vs))
        on None ts rest = rest ts
        on (Some p) ts rest = by (list_any (λ (z : Place). z.block == p.block) (places_of roots env other vs)) refl ts
          where
            by : (t : Bool) → list_any (λ (z : Place). z.block == p.block) (places_of roots env other vs) ≡ t
                → Each (λ (q : Place). tenants q.target ≡ Some q.block) (if t then places_of roots env other vs else p
                ∷ places_of roots env other vs)
                → ArePlacesApart (if t then places_of roots env other vs else p ∷ places_of roots env other vs)
            by true e ts = rest ts
            by false e ts = (
              apart_from p (places_of roots env other vs) ts.0 ts.1 (block_unlisted (places_of roots
                  env other vs) p.block e),
              rest ts.1,
            )

-- ---- what they are

blocks_are : (v w : Value) (p : Place) → both_blocks v w ≡ Some p
    → (o : Offset) × (q : Offset) × (v ≡ Value.Ptr (Pointer.At p.block o)) × (w ≡ Value.Ptr (Pointer.At p.target q))
blocks_are (Value.Ptr (Pointer.At b o)) (Value.Ptr (Pointer.At c q)) p e =
    let is : record { block = b; target = c } ≡ p = cc in (
      o,
      q,
      ap (λ (z : Place). Value.Ptr (Pointer.At z.block o)) is,
      ap (λ (z : Place). Value.Ptr (Pointer.At z.target q)) is,
    )
blocks_are v w p e = absurd (cc)

start_of : (b c : ℕ) (o : Offset) → Value.Ptr (Pointer.At b o) ≡ pointer_to c → c ≡ b
start_of b c o e = cc

module _ (homes : List Home) (roots : ℕ
    → Option ℕ) (env other : Env) (here : Fetched) (idem : AreRoots roots) (envs : AreSlotEnvs homes roots env other)
  where
    root_address : (a : ℕ) (p : Place) → roots a ≡ Some a → both_blocks (value_in env a) (value_in other a) ≡ Some p
        → (value_in env a ≡ pointer_to p.block) × (value_in other a ≡ pointer_to p.target)
    root_address a p root e =
        let r = blocks_are (value_in env a) (value_in other a) p e in
        ⊎_elim
        (λ poison. let c : Value.Poison ≡ Value.Ptr (Pointer.At p.block r.0) = sym poison ∙ r.2 in absurd (cc))
        (λ ad. (
          ad.root_is ∙ ap pointer_to (start_of p.block ad.block r.0 (sym r.2 ∙ ad.root_is)),
          ad.other_is ∙ ap pointer_to (start_of p.target ad.target r.1 (sym r.3 ∙ ad.other_is)),
        ))
        (envs.rooted a a root)

    pub are_places : Each (IsPlaceOf roots env other here) (places_at roots env other here)
    are_places = each_place roots env other (IsPlaceOf roots env other here) (names_below here (length env)) (λ v p
        listed e. on v p listed (roots v) refl e)
      where
        on : (v : ℕ) (p : Place) → IsListed v (names_below here (length env)) → (o : Option ℕ) → roots v ≡ o
            → place_by env other o ≡ Some p → IsPlaceOf roots env other here p
        on v p listed None root e = absurd (cc)
        on v p listed (Some a) root e =
            let r = root_address a p (idem v a root) e in
            record {
              name = v;
              is_read = read_names here (length env) v listed;
              alloca = a;
              root = root;
              source = r.0;
              target = r.1;
            }

    start_is : (b c : ℕ) → pointer_to b ≡ pointer_to c → b ≡ c
    start_is b c e = cc

    each_of : (ps : List Place) (p : Place) → Each (IsPlaceOf roots env other here) ps → IsListed p ps
        → IsPlaceOf roots env other here p
    each_of [] p h l = absurd l
    each_of (z ∷ ps) p h (inl e) = subst (IsPlaceOf roots env other here) (sym e) h.0
    each_of (z ∷ ps) p h (inr l) = each_of ps p h.1 l

    module _ (one : (a b c : ℕ) → roots a ≡ Some a → roots b ≡ Some b → value_in env a ≡ pointer_to c
        → value_in env b ≡ pointer_to c → a ≡ b) where
      -- the place of a block is that of its root
      pub target_of : (p : Place) → IsListed p (places_at roots env other here) → (a b c : ℕ) → roots a ≡ Some a
          → p.block ≡ b → value_in env a ≡ pointer_to b → value_in other a ≡ pointer_to c → p.target ≡ c
      target_of p listed a b c root is at there =
          let q = each_of (places_at roots env other here) p are_places listed in
          let same : q.alloca ≡ a = one q.alloca a b (idem q.name q.alloca q.root) root (q.source
          ∙ ap pointer_to is) at in
          start_is p.target c (sym q.target ∙ ap (value_in other) same ∙ there)

      -- an address in a slot that is read is one in its place
      pub placed : (v a : ℕ) → IsTrue (reads_at v here) → roots v ≡ Some a
          → IsAddress (value_in env a) (value_in other a) (value_in env v) (value_in other v)
          → IsPlaced (places_at roots env other here) (value_in env v) (value_in other v)
      placed v a is root ad =
          let p : Place = record { block = ad.block; target = ad.target } in
          let at : place_by env other (roots v) ≡ Some p = ap (place_by env other) root
          ∙ (λ i. both_blocks (ad.root_is i) (ad.other_is i)) in
          let r = place_there roots env other (names_below here (length env)) v p (names_read here (length env) v
          (pointer_within env v _ ad.source) is) at in
          let target : r.0.target ≡ ad.target = target_of r.0 r.1.0 a ad.block ad.target (idem v a root) r.1.1
          ad.root_is ad.other_is in
          record {
            place = r.0;
            listed = r.1.0;
            offset = ad.offset;
            source = ad.source ∙ ap (λ b. Value.Ptr (Pointer.At b ad.offset)) (sym r.1.1);
            target = ad.stands ∙ ap (λ c. Value.Ptr (Pointer.At c (moved ad.offset 0))) (sym target);
          }

      -- a name that is read has what stands for the source's, or an address in one of the places
      pub reads_placed : (v : ℕ) → IsTrue (reads_at v here)
          → IsValue homes (value_in env v) (value_in other v) ⊎ IsPlaced (places_at roots env other here) (value_in env
          v) (value_in other v)
      reads_placed v is = on (roots v) refl
        where
          on : (o : Option ℕ) → roots v ≡ o → IsValue homes (value_in env v) (value_in other v) ⊎ IsPlaced (places_at
              roots env other here) (value_in env v) (value_in other v)
          on None root = inl (envs.plain v root)
          on (Some a) root = ⊎_elim
              (λ poison. inl (subst (λ z. IsValue homes z (value_in other v)) (sym poison) tt))
              (λ ad. inr (placed v a is root ad))
              (envs.rooted v a root)
