-- The instance of the topmost activation, and that of a frame address, are found in both runs.
use Rattle.std.proofs.Common.{◌≡◌, ◌+◌, ◌<◌, ◌≤◌, ◌^◌, ◌%◌, ◌&&◌, ◌==◌, ◌∷◌, ◌∙◌, [], if◌then◌else◌, Bool, List, None, Ok, Option, Result, Some, ap, arith, length, refl, subst, suc, sym, true, ℕ}
use Rattle.std.proofs.lemmas.Bool.{eq-eqb, eqb-true}
use Rattle.std.specs.Prelude.{option_and_then, option_map, slice_get}
use Rattle.pass_frames_code.specs.ir_base.declared.cause.Cause.{Cause}
use Rattle.pass_frames_code.proofs.ir_laws.facts.Lists.{get_within, none_past}
use Rattle.pass_frames_code.proofs.ir_laws.facts.Truth.{both_true, same_truth}
use Rattle.pass_frames_code.proofs.followed.Assembly.{other_instance}
use Rattle.pass_frames_code.proofs.stepping.Rest.{seen_known}
use Rattle.pass_frames_code.specs.Asking.{AreFound, AreInstancesPlaced, IsSleeperBeside}
use Rattle.pass_frames_code.specs.Related.{AreBuiltOf, AreInstances, Building, IsStatus, own_place_of}
use Rattle.pass_frames_code.proofs.pass_renewed_proof.Finishing.{found_in}
use Rattle.pass_frames_code.proofs.pass_renewed_proof.Freeing.{found_passes}
use Rattle.pass_frames_code.specs.run_laws.embedded.Making.{whole_home}
use Rattle.pass_frames_code.specs.run_laws.memory.Pointers.{Home, IsValue, home_of}
use Rattle.pass_frames_code.specs.run_memory.Pointers.{moved, offset_of}
use Rattle.pass_frames_code.specs.run_memory.declared.pointer.Pointer.{Pointer}
use Rattle.pass_frames_code.specs.run_memory.declared.pointer.Value.{Value}
use Rattle.pass_frames_code.specs.run_source.Source.{Sleeper, frame_address, sleeper_at, sleeper_of}
use Rattle.pass_frames_code.specs.run_source.State.{address_in, began_at, instance_at, last_from, last_where, numbered, or_else, own_instance}
use Rattle.pass_frames_code.specs.run_source.declared.state.Instance.{Instance}
use Rattle.pass_frames_code.specs.run_source.declared.state.State.{State}
use Rattle.pass_frames_code.specs.run_source.declared.state.Status.{Status}
use Rattle.pass_frames_code.specs.run_step.Results.{and_then, found}

-- ---- lists

-- the last one that passes a test has the same number in both lists
pub same_last : (test other : Instance → Bool) (xs ys : List Instance) → length ys ≡ length xs
    → ((i : ℕ) (x y : Instance) → slice_get xs i ≡ Some x → slice_get ys i ≡ Some y → other y ≡ test x)
    → (k : ℕ) → last_from other k ys ≡ last_from test k xs
same_last test other [] [] long same k = refl
same_last test other [] (y ∷ ys) long same k = absurd (omega (arith, long))
same_last test other (x ∷ xs) [] long same k = absurd (omega (arith, long))
same_last test other (x ∷ xs) (y ∷ ys) long same k =
    ap (λ (o : Option ℕ). or_else o (if other y then Some k else None))
    (same_last test other xs ys (omega (arith, long)) (λ i p q. same (suc i) p q) (suc k))
    ∙ ap (λ (t : Bool). or_else (last_from test (suc k) xs) (if t then Some k else None)) (same 0 x y refl refl)

-- ---- the states

module _ (b : Building) (s t : State) (r : AreBuiltOf b s t) where
  abbrev Found : Option (ℕ × Instance) → Option (ℕ × Instance) → Type 0
  Found o q = AreFound b r.homes s t o q

  -- by its number
  numbered_found : (j : ℕ) → Found (numbered s.instances j) (numbered t.instances j)
  numbered_found j = on (slice_get s.instances j) refl
    where
      none : slice_get s.instances j ≡ None → (o : Option Instance) → slice_get t.instances j ≡ o
          → option_map {U = ℕ × Instance} (λ (y : Instance). (j, y)) o ≡ None
      none e None k = refl
      none e (Some y) k =
          let lt : j < length t.instances = get_within t.instances j y k in
          let past : length s.instances ≤ j = none_past s.instances j e in
          let many : length t.instances ≡ length s.instances = r.count in
          absurd (omega (arith, lt, past, many))

      on : (o : Option Instance) → slice_get s.instances j ≡ o
          → Found (option_map {U = ℕ × Instance} (λ (y : Instance). (j, y)) (slice_get s.instances j)) (numbered t.instances j)
      on None e =
          subst (λ (o : Option Instance). Found (option_map {U = ℕ × Instance} (λ (y : Instance). (j, y)) o) (numbered t.instances j))
          (sym e) (none e (slice_get t.instances j) refl)
      on (Some x) e =
          let z = other_instance b s t r j x e in
          subst (λ (o : Option Instance). Found (option_map {U = ℕ × Instance} (λ (y : Instance). (j, y)) o) (numbered t.instances j))
          (sym e)
          (record {
            beside = z.0;
            is = ap (option_map {U = ℕ × Instance} (λ (y : Instance). (j, y))) z.1;
            source = e;
            target = z.1;
            instances = z.2;
          })

  -- of the topmost activation
  pub own_found : AreFound b r.homes s t (own_instance s) (own_instance t)
  own_found = on s.top.instance refl
    where
      on : (o : Option ℕ) → s.top.instance ≡ o
          → Found (option_and_then (numbered s.instances) s.top.instance)
          (option_and_then (numbered t.instances) t.top.instance)
      on None e =
          subst (λ (z : Option ℕ × Option ℕ). Found (option_and_then (numbered s.instances) z.0)
          (option_and_then (numbered t.instances) z.1)) (λ k. (sym e k, sym (r.top.instance ∙ e) k)) refl
      on (Some j) e =
          subst (λ (z : Option ℕ × Option ℕ). Found (option_and_then (numbered s.instances) z.0)
          (option_and_then (numbered t.instances) z.1)) (λ k. (sym e k, sym (r.top.instance ∙ e) k))
          (numbered_found j)

  -- ---- those that began in a block

  pub known_block : (n k : ℕ) → home_of r.homes n ≡ whole_home k → n < length s.world.memory
  known_block n k home =
      let lt : n < length r.homes = seen_known r.homes n (ap (λ (h : Home). h.is_seen) home) in
      let same : length r.homes ≡ length s.world.memory = r.known in
      omega (arith, lt, same)

  module _ (n k : ℕ) (home : home_of r.homes n ≡ whole_home k) where
    pub block_same : (i : ℕ) (x y : Instance) → slice_get s.instances i ≡ Some x → slice_get t.instances i ≡ Some y
        → (y.block == k) ≡ (x.block == n)
    block_same i x y e d =
        let h = r.instances i x y e d in
        same_truth (y.block == k) (x.block == n)
        (λ q. eq-eqb x.block n
        (r.mates.alone x.block n k (known_block x.block y.block h.block) (known_block n k home)
        (h.block ∙ ap whole_home (eqb-true y.block k q)) home))
        (λ q. eq-eqb y.block k
        (ap (λ (z : Home). z.block) (sym h.block ∙ ap (home_of r.homes) (eqb-true x.block n q) ∙ home)))

    pub found_at : (o : ℕ)
        → AreFound b r.homes s t (last_where (began_at n o) s.instances) (last_where (began_at k o) t.instances)
    found_at o = on (last_from (began_at n o) 0 s.instances) refl
      where
        same : last_from (began_at k o) 0 t.instances ≡ last_from (began_at n o) 0 s.instances
        same =
            same_last (began_at n o) (began_at k o) s.instances t.instances r.count
            (λ i x y e d. λ j. block_same i x y e d j && ((r.instances i x y e d).start j == o)) 0

        on : (z : Option ℕ) → last_from (began_at n o) 0 s.instances ≡ z
            → Found (last_where (began_at n o) s.instances) (last_where (began_at k o) t.instances)
        on None e =
            subst (λ (z : Option ℕ × Option ℕ). Found (option_and_then (numbered s.instances) z.0)
            (option_and_then (numbered t.instances) z.1)) (λ j. (sym e j, sym (same ∙ e) j)) refl
        on (Some i) e =
            subst (λ (z : Option ℕ × Option ℕ). Found (option_and_then (numbered s.instances) z.0)
            (option_and_then (numbered t.instances) z.1)) (λ j. (sym e j, sym (same ∙ e) j)) (numbered_found i)

  -- ---- by a frame address

  module _ (placed : AreInstancesPlaced s) where
    at_zero : (o : ℕ) → o ≡ 0 → (o + 0) % 2 ^ 64 ≡ o
    at_zero o e = subst (λ (k : ℕ). (k + 0) % 2 ^ 64 ≡ k) (sym e) refl

    pub instance_found : (p q : Value) → IsValue r.homes p q → (f : ℕ × Instance)
        → instance_at s.instances p ≡ Some f → AreFound b r.homes s t (Some f) (instance_at t.instances q)
    instance_found Value.Poison q h f e = absurd (cc)
    instance_found (Value.Int w) q h f e = absurd (cc)
    instance_found (Value.Ptr Pointer.Null) q h f e = absurd (cc)
    instance_found (Value.Ptr (Pointer.Func g)) q h f e = absurd (cc)
    instance_found (Value.Ptr (Pointer.At n o)) q h f e =
        subst (λ (v : Value). Found (Some f) (instance_at t.instances v)) (sym q_is)
        (subst (λ (z : Option (ℕ × Instance)). Found z (last_where (began_at other.0 o.bits) t.instances)) e
        (found_at n other.0 home o.bits))
      where
        there : slice_get s.instances f.0 ≡ Some f.1
        there = found_in s.instances (last_from (began_at n o.bits) 0 s.instances) f e

        passed : ((f.1.block == n) ≡ true) × ((f.1.start == o.bits) ≡ true)
        passed = both_true (f.1.block == n) (f.1.start == o.bits) (found_passes (began_at n o.bits) s.instances f e)

        other : (k : ℕ) × (home_of r.homes f.1.block ≡ whole_home k)
        other = let z = other_instance b s t r f.0 f.1 there in (z.0.block, z.2.block)

        home : home_of r.homes n ≡ whole_home other.0
        home = ap (home_of r.homes) (sym (eqb-true f.1.block n passed.0)) ∙ other.1

        zero_bits : o.bits ≡ 0
        zero_bits = sym (eqb-true f.1.start o.bits passed.1) ∙ placed.starts f.0 f.1 there

        q_is : q ≡ Value.Ptr (Pointer.At other.0 o)
        q_is =
            h.1
            ∙ ap (λ (z : Home). Value.Ptr (Pointer.At z.block (moved o z.offset))) home
            ∙ ap (λ (k : ℕ). Value.Ptr (Pointer.At other.0 (offset_of k))) (at_zero o.bits zero_bits)

    -- the frame address of what is found stands for that in the first run
    pub address_stands : (o q : Option (ℕ × Instance)) → AreFound b r.homes s t o q
        → IsValue r.homes (frame_address o) (frame_address q)
    address_stands None q h = tt
    address_stands (Some p) q h =
        let zero_start : p.1.start ≡ 0 = placed.starts p.0 p.1 h.source in
        let home : home_of r.homes p.1.block ≡ whole_home h.beside.block = h.instances.block in
        let second : address_in h.beside.block 0 ≡ frame_address q =
        ap (address_in h.beside.block) (sym (h.instances.start ∙ zero_start)) ∙ ap frame_address (sym h.is) in
        subst (λ (v : Value). IsValue r.homes v (frame_address q)) (ap (address_in p.1.block) (sym zero_start))
        (subst (IsValue r.homes (address_in p.1.block 0)) second (
          ap (λ (z : Home). z.is_seen) home,
          ap (λ (z : Home). Value.Ptr (Pointer.At z.block (moved (offset_of 0) z.offset))) (sym home),
        ))

    -- ---- suspended instances

    asleep : (n : ℕ) (x w : Instance) (y : Sleeper) (status : Status) → x.status ≡ status
        → slice_get s.instances n ≡ Some x → slice_get t.instances n ≡ Some w → AreInstances b r.homes t x w
        → sleeper_of n x status ≡ Ok y → IsSleeperBeside b r.homes s t y (sleeper_of n w w.status)
    asleep n x w y Status.Running e source target h q = absurd (cc)
    asleep n x w y Status.Finished e source target h q = absurd (cc)
    asleep n x w y (Status.Suspended p env) e source target h q =
        let k = subst (λ (z : Status). IsStatus b r.homes t x w z w.status) e h.status in
        subst (λ (z : Sleeper). IsSleeperBeside b r.homes s t z (sleeper_of n w w.status)) (same_ok q) (record {
          sleeper = record {
            number = n;
            instance = w;
            suspend = own_place_of b x.coroutine p;
            values = k.0;
          };
          is = ap (sleeper_of n w) k.2;
          number = refl;
          source = source;
          target = target;
          instances = h;
          status = e;
          suspend = refl;
          suspend_number = k.1;
          numbered = k.3;
        })
      where
        same_ok : {a c : Sleeper} → ◌≡◌ {A = Result Sleeper Cause} (Ok a) (Ok c) → a ≡ c
        same_ok d = cc

    abbrev look : Option (ℕ × Instance) → Result Sleeper Cause
    look o = and_then (found Cause.Frame o) (λ (i, x). sleeper_of i x x.status)

    pub sleeper_found : (p q : Value) → IsValue r.homes p q → (y : Sleeper) → sleeper_at s p ≡ Ok y
        → IsSleeperBeside b r.homes s t y (sleeper_at t q)
    sleeper_found p q stands y e = on (instance_at s.instances p) refl e
      where
        on : (o : Option (ℕ × Instance)) → instance_at s.instances p ≡ o → look o ≡ Ok y
            → IsSleeperBeside b r.homes s t y (sleeper_at t q)
        on None at k = absurd (cc)
        on (Some f) at k =
            let h = instance_found p q stands f at in
            subst (λ (o : Option (ℕ × Instance)). IsSleeperBeside b r.homes s t y (look o)) (sym h.is)
            (asleep f.0 f.1 h.beside y f.1.status refl h.source h.target h.instances k)
