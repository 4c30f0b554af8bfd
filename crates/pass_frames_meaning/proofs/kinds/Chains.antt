-- Chains of bases: where a name leads to a slot that has no base, its base leads there too, or is the slot.
use Rattle.std.proofs.Common.{◌≡◌, ◌⊎◌, inl, inr, ℕ, zero, suc, ◌+◌, ◌≤◌, Bool, true, false, List, Option, Some, None, refl, sym, ap, ◌∙◌, subst, arith, if◌then◌else◌}
use Rattle.std.specs.Prelude.{option_map, slice_get}
use Rattle.std.proofs.lemmas.Option.{slice_get-map}
use Rattle.pass_frames_proof.specs.ir_model.Calls.{or_else}
use Rattle.pass_frames_proof.specs.pass_cells.Kept.{entry, is_flagged, joined}
use Rattle.pass_frames_proof.specs.pass_cells.Links.{further, jumped, roots_after, roots_of, slot_by, slots_of}

-- a name leads to another one in so many steps
abbrev pub Steps : List (Option ℕ) → ℕ → ℕ → ℕ → Type 0
Steps t zero v s = v ≡ s
Steps t (suc n) v s = (u : ℕ) × (entry t v ≡ Some u) × Steps t n u s

-- ---- the table that leads twice as far

jump_is : (t : List (Option ℕ)) (v : ℕ) → entry (jumped t) v ≡ further t (entry t v)
jump_is t v = ap joined (slice_get-map (further t) t v) ∙ on (slice_get t v)
  where
    on : (o : Option (Option ℕ)) → joined (option_map (further t) o) ≡ further t (joined o)
    on None = refl
    on (Some o) = refl

last_stays : (t : List (Option ℕ)) (s : ℕ) → entry t s ≡ None → entry (jumped t) s ≡ None
last_stays t s e = jump_is t s ∙ ap (further t) e

one_jump : (t : List (Option ℕ)) (v w : ℕ) → entry (jumped t) v ≡ Some w → Steps t 1 v w ⊎ Steps t 2 v w
one_jump t v w e = on (entry t v) refl (sym (jump_is t v) ∙ e)
  where
    by : (u : ℕ) → entry t v ≡ Some u → (o : Option ℕ) → entry t u ≡ o → or_else o (Some u) ≡ Some w
        → Steps t 1 v w ⊎ Steps t 2 v w
    by u d None c h = let same : u ≡ w = cc in inl (u, d, same)
    by u d (Some y) c h = let same : y ≡ w = cc in inr (u, d, (y, c, same))

    on : (o : Option ℕ) → entry t v ≡ o → further t o ≡ Some w → Steps t 1 v w ⊎ Steps t 2 v w
    on None d h = absurd (cc)
    on (Some u) d h = by u d (entry t u) refl h

-- steps of the one table, as many at most twice of the other
pub record AreSlower (t : List (Option ℕ)) (n v s : ℕ) : Type 0 where
  count : ℕ
  most : count ≤ n + n
  least : n ≤ count
  steps : Steps t count v s

slower : (t : List (Option ℕ)) (n v s : ℕ) → Steps (jumped t) n v s → AreSlower t n v s
slower t zero v s h = record { count = 0; most = omega arith; least = omega arith; steps = h }
slower t (suc n) v s (w, e, more) = on (one_jump t v w e) (slower t n w s more)
  where
    on : Steps t 1 v w ⊎ Steps t 2 v w → AreSlower t n w s → AreSlower t (suc n) v s
    on (inl (u, d, same)) z =
        let most = z.most in
        let least = z.least in
        record {
          count = suc z.count;
          most = omega (arith, most);
          least = omega (arith, least);
          steps = (w, d ∙ ap Some same, z.steps);
        }
    on (inr (u, d, (y, c, same))) z =
        let most = z.most in
        let least = z.least in
        record {
          count = suc (suc z.count);
          most = omega (arith, most);
          least = omega (arith, least);
          steps = (u, d, (w, c ∙ ap Some same, z.steps));
        }

pub record AreFaster (t : List (Option ℕ)) (n v s : ℕ) : Type 0 where
  count : ℕ
  most : count + count ≤ n + 1
  steps : Steps (jumped t) count v s

faster : (t : List (Option ℕ)) (n v s : ℕ) → entry t s ≡ None → Steps t n v s → AreFaster t n v s
faster t zero v s last h = record { count = 0; most = omega arith; steps = h }
faster t (suc zero) v s last (u, e, same) =
    record {
      count = 1;
      most = omega arith;
      steps = (s, jump_is t v ∙ ap (further t) (e ∙ ap Some same) ∙ ap (λ (o : Option ℕ). or_else o (Some s)) last, refl);
    }
faster t (suc (suc n)) v s last (u, e, (w, d, more)) =
    let z = faster t n w s last more in
    let most = z.most in
    record {
      count = suc z.count;
      most = omega (arith, most);
      steps = (w, jump_is t v ∙ ap (further t) e ∙ ap (λ (o : Option ℕ). or_else o (Some u)) d, z.steps);
    }

-- ---- as often as the table is made

far : ℕ → ℕ
far zero = 1
far (suc k) = far k + far k

far_more : (k : ℕ) → far (suc k) ≡ far k + far k
unfolding far
far_more k = refl

far_none : far 0 ≡ 1
unfolding far
far_none = refl

pub record LeadsTo (t : List (Option ℕ)) (k v s : ℕ) : Type 0 where
  count : ℕ
  most : suc count ≤ far k
  steps : Steps t (suc count) v s

leads_there : (k : ℕ) (t : List (Option ℕ)) (v s : ℕ) → entry (roots_after k t) v ≡ Some s → entry t s ≡ None
    → LeadsTo t k v s
unfolding roots_after
leads_there zero t v s e last =
    let one = far_none in
    record { count = 0; most = omega (arith, one); steps = (s, e, refl) }
leads_there (suc k) t v s e last = on (leads_there k (jumped t) v s e (last_stays t s last))
  where
    by : (z : LeadsTo (jumped t) k v s) → (y : AreSlower t (suc z.count) v s) → (n : ℕ) → y.count ≡ n
        → LeadsTo t (suc k) v s
    by z y zero d = let least = y.least in absurd (omega (arith, least, d))
    by z y (suc n) d =
        let most = z.most in
        let more = y.most in
        let all = far_more k in
        record {
          count = n;
          most = omega (arith, most, more, all, d);
          steps = subst (λ (m : ℕ). Steps t m v s) d y.steps;
        }

    on : LeadsTo (jumped t) k v s → LeadsTo t (suc k) v s
    on z = by z (slower t (suc z.count) v s z.steps) (slower t (suc z.count) v s z.steps).count refl

there_led : (k : ℕ) (t : List (Option ℕ)) (n v s : ℕ) → Steps t (suc n) v s → suc n ≤ far k → entry t s ≡ None
    → entry (roots_after k t) v ≡ Some s
unfolding roots_after
there_led zero t zero v s (u, e, same) le last = e ∙ ap Some same
there_led zero t (suc n) v s h le last = let one = far_none in absurd (omega (arith, one, le))
there_led (suc k) t n v s h le last =
    on (faster t (suc n) v s last h) (λ m steps less. there_led k (jumped t) m v s steps less (last_stays t s last))
  where
    by : (m : ℕ) (z : AreFaster t (suc n) v s) → z.count ≡ m
        → ((m : ℕ) → Steps (jumped t) (suc m) v s → suc m ≤ far k → entry (roots_after k (jumped t)) v ≡ Some s)
        → entry (roots_after k (jumped t)) v ≡ Some s
    by zero z d again =
        let same : v ≡ s = subst (λ (j : ℕ). Steps (jumped t) j v s) d z.steps in
        let none : None ≡ Some h.0 = sym last ∙ ap (entry t) (sym same) ∙ h.1 in
        absurd (cc)
    by (suc m) z d again =
        let most = z.most in
        let all = far_more k in
        again m (subst (λ (j : ℕ). Steps (jumped t) j v s) d z.steps) (omega (arith, most, all, le, d))

    on : AreFaster t (suc n) v s
        → ((m : ℕ) → Steps (jumped t) (suc m) v s → suc m ≤ far k → entry (roots_after k (jumped t)) v ≡ Some s)
        → entry (roots_after k (jumped t)) v ≡ Some s
    on z again = by z.count z refl again

-- ---- the whole chain

pub base_leads : (bases : List (Option ℕ)) (v u s : ℕ) → entry (roots_of bases) v ≡ Some s → entry bases s ≡ None
    → entry bases v ≡ Some u → (u ≡ s) ⊎ (entry (roots_of bases) u ≡ Some s)
unfolding roots_of
base_leads bases v u s e last base = on (leads_there 64 bases v s e last)
  where
    by : (n w : ℕ) → w ≡ u → suc n ≤ far 64 → Steps bases n w s → (u ≡ s) ⊎ (entry (roots_after 64 bases) u ≡ Some s)
    by zero w same le h = inl (sym same ∙ h)
    by (suc n) w same le h =
        inr (there_led 64 bases n u s (subst (λ (y : ℕ). Steps bases (suc n) y s) same h) (omega (arith, le)) last)

    on : LeadsTo bases 64 v s → (u ≡ s) ⊎ (entry (roots_after 64 bases) u ≡ Some s)
    on z =
        let both : Some z.steps.0 ≡ Some u = sym z.steps.1 ∙ base in
        let same : z.steps.0 ≡ u = cc in
        by z.count z.steps.0 same z.most z.steps.2

-- a name with a slot isn't its own base
own_base : (t : List (Option ℕ)) (n v s : ℕ) → entry t v ≡ Some v → entry t s ≡ None → Steps t n v s → ⊥
own_base t zero v s own last h =
    let no : None ≡ Some v = sym last ∙ ap (entry t) (sym h) ∙ own in absurd (cc)
own_base t (suc n) v s own last (u, e, more) =
    let both : Some u ≡ Some v = sym e ∙ own in
    let same : u ≡ v = cc in
    own_base t n v s own last (subst (λ (y : ℕ). Steps t n y s) same more)

pub no_own_base : (bases : List (Option ℕ)) (v s : ℕ) → entry (roots_of bases) v ≡ Some s → entry bases s ≡ None
    → entry bases v ≡ Some v → ⊥
unfolding roots_of
no_own_base bases v s e last own =
    let z = leads_there 64 bases v s e last in
    own_base bases (suc z.count) v s own last z.steps

-- a name that leads to another one has a base
pub root_base : (bases : List (Option ℕ)) (v s : ℕ) → entry (roots_of bases) v ≡ Some s → entry bases s ≡ None
    → (u : ℕ) × (entry bases v ≡ Some u)
unfolding roots_of
root_base bases v s e last = let z = leads_there 64 bases v s e last in (z.steps.0, z.steps.1)

-- ---- slots

pub slot_root : (local : List Bool) (bases : List (Option ℕ)) (v s : ℕ) → entry (slots_of local bases) v ≡ Some s
    → (entry (roots_of bases) v ≡ Some s) × (is_flagged local s ≡ true)
slot_root local bases v s e =
    on (slice_get (roots_of bases) v) refl (sym (ap joined (slice_get-map (slot_by local) (roots_of bases) v)) ∙ e)
  where
    by : (u : ℕ) → slice_get (roots_of bases) v ≡ Some (Some u) → (b : Bool) → is_flagged local u ≡ b
        → (if b then Some u else None) ≡ Some s → (entry (roots_of bases) v ≡ Some s) × (is_flagged local s ≡ true)
    by u d true c h =
        let same : u ≡ s = cc in
        (ap joined d ∙ ap Some same, ap (is_flagged local) (sym same) ∙ c)
    by u d false c h = absurd (cc)

    on : (o : Option (Option ℕ)) → slice_get (roots_of bases) v ≡ o → joined (option_map (slot_by local) o) ≡ Some s
        → (entry (roots_of bases) v ≡ Some s) × (is_flagged local s ≡ true)
    on None d h = absurd (cc)
    on (Some None) d h = absurd (cc)
    on (Some (Some u)) d h = by u d (is_flagged local u) refl h

pub root_slot : (local : List Bool) (bases : List (Option ℕ)) (v s : ℕ) → entry (roots_of bases) v ≡ Some s
    → is_flagged local s ≡ true → entry (slots_of local bases) v ≡ Some s
root_slot local bases v s e flag =
    ap joined (slice_get-map (slot_by local) (roots_of bases) v) ∙ on (slice_get (roots_of bases) v) refl e
  where
    on : (o : Option (Option ℕ)) → slice_get (roots_of bases) v ≡ o → joined o ≡ Some s
        → joined (option_map (slot_by local) o) ≡ Some s
    on None d h = absurd (cc)
    on (Some None) d h = absurd (cc)
    on (Some (Some u)) d h =
        let same : u ≡ s = cc in
        ap (λ (b : Bool). if b then Some u else None) (ap (is_flagged local) same ∙ flag) ∙ ap Some same
