-- The instance that a handle leads to is the last that began at its place, in both runs.
use Rattle.std.proofs.Common.{◌≡◌, ◌<◌, ◌+◌, ℕ, zero, suc, Bool, true, false, not, List, [], ◌∷◌, refl, sym, ap, ◌∙◌, subst, arith, if◌then◌else◌, ◌||◌, ◌==◌}
use Rattle.std.proofs.lemmas.Bool.{and_from, eq-eqb}
use Rattle.std.specs.Prelude.{None, Option, Some, option_and_then, option_map, slice_get}
use Rattle.pass_elide_proof.proofs.Addresses.{block_within, home_seen, twin_back}
use Rattle.pass_elide_proof.proofs.Begins.{no_both}
use Rattle.pass_elide_proof.specs.Elision.{Elision}
use Rattle.pass_elide_proof.specs.Invariant.{HaveCallers}
use Rattle.pass_elide_proof.specs.Match.{AreElided, AreInstances, AreStatuses, Ends, IsNoGivenFrame, Runs, Sides, Sleeps, sides}
use Rattle.pass_proofs.specs.run_framed.Framed.{is_given, is_stack_block}
use Rattle.pass_proofs.specs.run_laws.memory.Pointers.{Home, home_of}
use Rattle.pass_proofs.specs.run_memory.declared.block.MemoryBlock.{MemoryBlock}
use Rattle.pass_proofs.specs.run_source.State.{is_finished, last_from, last_where, numbered, or_else}
use Rattle.pass_proofs.specs.run_source.declared.state.Instance.{Instance}
use Rattle.pass_proofs.specs.run_source.declared.state.State.{State}
use Rattle.pass_proofs.specs.run_source.declared.state.Status.{Status}

-- ---- the last that passes a test

pub record IsLastOf (test : Instance → Bool) (xs : List Instance) (i : ℕ) (x : Instance) : Type 0 where
  pub there : slice_get xs i ≡ Some x
  pub passes : test x ≡ true
  pub later : (j : ℕ) (z : Instance) → i < j → slice_get xs j ≡ Some z → test z ≡ false

none_passes : (test : Instance → Bool) (n : ℕ) (xs : List Instance) → last_from test n xs ≡ None → (j : ℕ)
    (z : Instance) → slice_get xs j ≡ Some z → test z ≡ false
none_passes test n [] e j z at = absurd (cc)
none_passes test n (x ∷ xs) e j z at =
    by (last_from test (suc n) xs) refl (test x) refl e j at (λ h k to. none_passes test (suc n) xs h k z to)
  where
    by : (o : Option ℕ) → last_from test (suc n) xs ≡ o → (b : Bool) → test x ≡ b
        → or_else o (if b then Some n else None) ≡ None → (j : ℕ) → slice_get (x ∷ xs) j ≡ Some z
        → (last_from test (suc n) xs ≡ None → (k : ℕ) → slice_get xs k ≡ Some z → test z ≡ false) → test z ≡ false
    by (Some a) eo b eb h j to again = absurd (cc)
    by None eo true eb h j to again = absurd (cc)
    by None eo false eb h zero to again = let same : x ≡ z = cc in ap test (sym same) ∙ eb
    by None eo false eb h (suc j) to again = again eo j to

all_fail : (test : Instance → Bool) (n : ℕ) (xs : List Instance)
    → ((j : ℕ) (z : Instance) → slice_get xs j ≡ Some z → test z ≡ false) → last_from test n xs ≡ None
all_fail test n [] fails = refl
all_fail test n (x ∷ xs) fails =
    λ k. or_else (all_fail test (suc n) xs (λ j z at. fails (suc j) z at) k) (if fails 0 x refl k then Some n else None)

record IsLastFrom (test : Instance → Bool) (n : ℕ) (xs : List Instance) (k : ℕ) : Type 0 where
  at : ℕ
  is : k ≡ n + at
  instance : Instance
  last : IsLastOf test xs at instance

last_found : (test : Instance → Bool) (n : ℕ) (xs : List Instance) (k : ℕ) → last_from test n xs ≡ Some k
    → IsLastFrom test n xs k
last_found test n [] k e = absurd (cc)
last_found test n (x ∷ xs) k e =
    by (last_from test (suc n) xs) refl (test x) refl e (λ a h. last_found test (suc n) xs a h)
  where
    by : (o : Option ℕ) → last_from test (suc n) xs ≡ o → (b : Bool) → test x ≡ b
        → or_else o (if b then Some n else None) ≡ Some k
        → ((a : ℕ) → last_from test (suc n) xs ≡ Some a → IsLastFrom test (suc n) xs a)
        → IsLastFrom test n (x ∷ xs) k
    by None eo false eb h again = absurd (cc)
    by None eo true eb h again =
        let same : n ≡ k = cc in
        record {
          at = 0;
          is = omega (arith, same);
          instance = x;
          last = record { there = refl; passes = eb; later = behind };
        }
      where
        behind : (j : ℕ) (z : Instance) → 0 < j → slice_get (x ∷ xs) j ≡ Some z → test z ≡ false
        behind zero z lt to = absurd (omega (arith, lt))
        behind (suc j) z lt to = none_passes test (suc n) xs eo j z to
    by (Some a) eo b eb h again =
        let same : a ≡ k = cc in
        let p = again a eo in
        let at = p.is in
        record {
          at = suc p.at;
          is = omega (arith, same, at);
          instance = p.instance;
          last = record {
            there = p.last.there;
            passes = p.last.passes;
            later = behind p.at p.last.later;
          };
        }
      where
        behind : (i : ℕ) → ((j : ℕ) (z : Instance) → i < j → slice_get xs j ≡ Some z → test z ≡ false) → (j : ℕ)
            (z : Instance) → suc i < j → slice_get (x ∷ xs) j ≡ Some z → test z ≡ false
        behind i old zero z lt to = absurd (omega (arith, lt))
        behind i old (suc j) z lt to = old j z (omega (arith, lt)) to

found_last : (test : Instance → Bool) (n : ℕ) (xs : List Instance) (i : ℕ) (x : Instance) → IsLastOf test xs i x
    → last_from test n xs ≡ Some (n + i)
found_last test n [] i x h = absurd (never_so i h.there)
  where
    never_so : (i : ℕ) → slice_get {X = Instance} [] i ≡ Some x → ⊥
    never_so i e = cc
found_last test n (y ∷ xs) zero x h =
    let same : y ≡ x = one h.there in
    let from : n ≡ n + 0 = omega arith in
    (λ k. or_else (all_fail test (suc n) xs (λ j z at. h.later (suc j) z (below j) at) k)
    (if test y then Some n else None))
    ∙ ((λ k. if (ap test same ∙ h.passes) k then Some n else None) ∙ ap Some from)
  where
    one : Some y ≡ Some x → y ≡ x
    one e = cc

    below : (j : ℕ) → 0 < suc j
    below j = omega arith
found_last test n (y ∷ xs) (suc i) x h =
    let from : suc n + i ≡ n + suc i = omega arith in
    (λ k. or_else (found_last test (suc n) xs i x (record {
      there = h.there;
      passes = h.passes;
      later = λ j z lt at. h.later (suc j) z (next i j lt) at;
    }) k) (if test y then Some n else None))
    ∙ ap Some from
  where
    next : (i j : ℕ) → i < j → suc i < suc j
    next i j lt = omega (arith, lt)

abbrev numbering : ℕ → Instance → ℕ × Instance
numbering i x = (i, x)

pub where_last : (test : Instance → Bool) (xs : List Instance) (i : ℕ) (x : Instance)
    → last_where test xs ≡ Some (i, x) → IsLastOf test xs i x
where_last test xs i x e = by (last_from test 0 xs) refl e
  where
    at : (k : ℕ) → IsLastFrom test 0 xs k → option_map (numbering k) (slice_get xs k) ≡ Some (numbering i x)
        → IsLastOf test xs i x
    at k p f =
        let same : p.at ≡ k = start p.at k p.is in
        let got : Some (numbering k p.instance) ≡ Some (numbering i x)
        = sym (ap (option_map (numbering k)) (ap (slice_get xs) (sym same) ∙ p.last.there)) ∙ f in
        let pair : numbering k p.instance ≡ numbering i x = one (numbering k p.instance) (numbering i x) got in
        let number : p.at ≡ i = same ∙ ap (λ (q : ℕ × Instance). q.0) pair in
        subst (λ (q : ℕ × Instance). IsLastOf test xs q.0 q.1)
        (λ j. (number j, (ap (λ (q : ℕ × Instance). q.1) pair) j)) p.last
      where
        start : (a k : ℕ) → k ≡ 0 + a → a ≡ k
        start a k h = omega (arith, h)

        one : (p q : ℕ × Instance) → Some p ≡ Some q → p ≡ q
        one p q h = cc

    by : (o : Option ℕ) → last_from test 0 xs ≡ o → option_and_then (numbered xs) o ≡ Some (numbering i x)
        → IsLastOf test xs i x
    by None eo f = absurd (cc)
    by (Some k) eo f = at k (last_found test 0 xs k eo) f

pub last_is_where : (test : Instance → Bool) (xs : List Instance) (i : ℕ) (x : Instance) → IsLastOf test xs i x
    → last_where test xs ≡ Some (i, x)
last_is_where test xs i x h =
    let from : 0 + i ≡ i = omega arith in
    ap (option_and_then (numbered xs)) (found_last test 0 xs i x h)
    ∙ (ap (numbered xs) from ∙ ap (option_map (numbering i)) h.there)

-- ---- nothing begins where an instance isn't over

pub same_end : (e : Elision) (func : ℕ) (a c : Status) → AreStatuses e func a c → is_finished c ≡ is_finished a
same_end e func _ _ Runs = refl
same_end e func _ _ Ends = refl
same_end e func _ _ (Sleeps p values others) = refl

module _ (e : Elision) (s t : State) (r : AreElided e s t) (callers : HaveCallers e t) where
  abbrev d : Sides
  d = sides s t

  abbrev m : List MemoryBlock
  m = t.world.memory

  calm : (x y : Instance) → AreInstances e r.homes m x y → r.hides x.block ≡ false
  calm x y h = by (r.hides x.block) refl
    where
      by : (b : Bool) → r.hides x.block ≡ b → r.hides x.block ≡ false
      by true is = absurd (no_both (home_of r.homes x.block).is_seen (r.hidden x.block is) (home_seen e s t r x y h))
      by false is = is

  same_given : (y z : Instance) → z.block ≡ y.block → z.start ≡ y.start → is_given m z ≡ is_given m y
  same_given y z block start = λ i. is_stack_block m (block i) || not (start i == 0)

  -- a block in the home of one that wasn't given holds no frame that was
  none_given : (c : ℕ) (y : Instance) → home_of r.homes c ≡ record { block = y.block; offset = y.start; is_seen = true }
      → is_given m y ≡ false → IsNoGivenFrame d c
  none_given c y home unused i p q at to given same =
      let h = r.instances i p q at to in
      let place : home_of r.homes p.block ≡ record { block = y.block; offset = y.start; is_seen = true }
      = ap (home_of r.homes) same ∙ home in
      let both : record { block = q.block; offset = q.start; is_seen = true }
      ≡ record { block = y.block; offset = y.start; is_seen = true } = sym h.home ∙ place in
      no_both (is_given m q)
      (same_given y q (ap (λ (u : Home). u.block) both) (ap (λ (u : Home). u.offset) both) ∙ unused) given

  -- what begins later at the place of an instance that isn't over, begins in its block in the framed run
  pub same_block : (i j : ℕ) (x y p q : Instance) → slice_get s.instances i ≡ Some x → slice_get t.instances i ≡ Some y
      → slice_get s.instances j ≡ Some p → slice_get t.instances j ≡ Some q → i < j → is_finished x.status ≡ false
      → q.block ≡ y.block → q.start ≡ y.start → p.block ≡ x.block
  same_block i j x y p q first second at to lt goes block start = by (is_given m y) refl
    where
      h : AreInstances e r.homes m x y
      h = r.instances i x y first second

      g : AreInstances e r.homes m p q
      g = r.instances j p q at to

      by : (b : Bool) → is_given m y ≡ b → p.block ≡ x.block
      by true given =
          absurd (no_both (is_finished y.status) (same_end e x.coroutine x.status y.status h.status ∙ goes)
          (callers.last i j y q second to lt given
          (and_from (q.block == y.block) (q.start == y.start) (eq-eqb q.block y.block block)
          (eq-eqb q.start y.start start))))
      by false given =
          r.mates.alone p.block x.block (block_within e s t r p q g) (block_within e s t r x y h) (calm p q g)
          (calm x y h) (none_given p.block q g.home (same_given y q block start ∙ given))
          (none_given x.block y h.home given)
          (ap (λ (u : Home). u.block) g.home ∙ (block ∙ sym (ap (λ (u : Home). u.block) h.home)))

  -- Two tests say the same of instances of one block. The second one only lets pass what began where the instance did.
  -- Then that is the last in both.
  pub last_too : (test other : Instance → Bool) (i : ℕ) (x y : Instance) → slice_get t.instances i ≡ Some y
      → is_finished x.status ≡ false → IsLastOf test s.instances i x → other y ≡ true
      → ((j : ℕ) (p q : Instance) → slice_get s.instances j ≡ Some p → slice_get t.instances j ≡ Some q
      → other q ≡ true → (q.block ≡ y.block) × (q.start ≡ y.start))
      → ((j : ℕ) (p q : Instance) → slice_get s.instances j ≡ Some p → slice_get t.instances j ≡ Some q
      → p.block ≡ x.block → other q ≡ true → test p ≡ true) → IsLastOf other t.instances i y
  last_too test other i x y second goes last passes places says = record {
    there = second;
    passes = passes;
    later = λ j q lt to. by j q lt to (other q) refl;
  }
    where
      by : (j : ℕ) (q : Instance) → i < j → slice_get t.instances j ≡ Some q → (b : Bool) → other q ≡ b
          → other q ≡ false
      by j q lt to false is = is
      by j q lt to true is =
          let p = twin_back e s t r j q to in
          let place = places j p.0 q p.1 to is in
          let block = same_block i j x y p.0 q last.there second p.1 to lt goes place.0 place.1 in
          absurd (no_both (test p.0) (last.later j p.0 lt p.1) (says j p.0 q p.1 to block is))
