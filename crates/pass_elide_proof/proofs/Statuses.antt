-- An instance goes on in both runs: all else stays beside.
use Rattle.std.proofs.Common.{◌≡◌, ◌≤◌, ◌+◌, ◌∙◌, ◌∷◌, [], ap, arith, Bool, cond, false, ⊎_elim, List, Option, refl, subst, suc, sym, true, zero, ℕ, length}
use Rattle.std.specs.Option.{option_map_or}
use Rattle.std.specs.Prelude.{None, Some, filter, slice_get, slice_set}
use Rattle.pass_elide_proof.proofs.Apart.{apart_more, held_by, held_more}
use Rattle.pass_elide_proof.proofs.Callers.{behind, behind_too, callers, callers_apart, callers_held}
use Rattle.pass_elide_proof.proofs.Kept.{KeepsSides, alloca_kept, below_kept}
use Rattle.pass_elide_proof.specs.Calling.{AreReady, HoldsStill, at_front}
use Rattle.pass_elide_proof.specs.Counts.{capped, counted, given_frames}
use Rattle.pass_elide_proof.specs.Elision.{Elision, elided, framed}
use Rattle.pass_elide_proof.specs.Match.{AreActivations, AreBelow, AreElided, AreInstances, AreMates, IsFreedAs, IsNoGivenFrame, Runs, Sides, held_blocks, instance_in, sides}
use Rattle.pass_proofs.proofs.ir_laws.facts.Lists.{get_within, set_here, set_other}
use Rattle.pass_proofs.proofs.ir_laws.facts.Truth.{is_number}
use Rattle.pass_proofs.specs.run_framed.Framed.{frame_rights, is_given}
use Rattle.pass_proofs.specs.run_laws.transfer.Transfer.{AreOver}
use Rattle.pass_proofs.specs.run_memory.Memory.{Rights}
use Rattle.pass_proofs.specs.run_source.Source.{push}
use Rattle.pass_proofs.specs.run_source.State.{frame_address_of, is_finished, with_status}
use Rattle.pass_proofs.specs.run_source.declared.state.Activation.{Activation}
use Rattle.pass_proofs.specs.run_source.declared.state.Instance.{Instance}
use Rattle.pass_proofs.specs.run_source.declared.state.State.{State}
use Rattle.pass_proofs.specs.run_source.declared.state.Status.{Status}
use Rattle.run_access_worked.proofs.Ended.{status_leaves}

-- ---- lists

set_many : {A : Type 0} (xs : List A) (i : ℕ) (x : A) → length (slice_set xs i x) ≡ length xs
set_many [] i x = refl
set_many (z ∷ xs) zero x = refl
set_many (z ∷ xs) (suc i) x = ap suc (set_many xs i x)

same_some : {A : Type 0} (x y : A) → Some x ≡ Some y → x ≡ y
same_some x y e = cc

-- an element is exchanged for one of which the test says the same
set_filtered : {A : Type 0} (test : A → Bool) (xs : List A) (i : ℕ) (x y : A) → slice_get xs i ≡ Some x
    → test y ≡ test x → length (filter test (slice_set xs i y)) ≡ length (filter test xs)
set_filtered test [] i x y at same = refl
set_filtered test (z ∷ xs) zero x y at same =
    let is : z ≡ x = cc in
    ap (λ (b : Bool). length (cond b (y ∷ filter test xs) (filter test xs))) (same ∙ ap test (sym is)) ∙ on (test z)
  where
    on : (b : Bool) → length (cond b (y ∷ filter test xs) (filter test xs))
        ≡ length (cond b (z ∷ filter test xs) (filter test xs))
    on true = refl
    on false = refl
set_filtered test (z ∷ xs) (suc i) x y at same = on (test z) (set_filtered test xs i x y at same)
  where
    on : (b : Bool) → length (filter test (slice_set xs i y)) ≡ length (filter test xs)
        → length (cond b (z ∷ filter test (slice_set xs i y)) (filter test (slice_set xs i y)))
        ≡ length (cond b (z ∷ filter test xs) (filter test xs))
    on true rest = ap suc rest
    on false rest = rest

module _ (e : Elision) (s t : State) (r : AreReady e s t) (i : ℕ) (x y : Instance)
    (at : slice_get s.instances i ≡ Some x) (to : slice_get t.instances i ≡ Some y)
    (going : is_finished y.status ≡ false) where
  abbrev q : AreElided e s (at_front e s t)
  q = r.beside

  abbrev xs : List Instance
  xs = slice_set s.instances i (record x { status = Status.Running })

  abbrev ys : List Instance
  ys = slice_set t.instances i (record y { status = Status.Running })

  abbrev d : Sides
  d = sides s t

  abbrev pub now : Sides
  now =
      record {
        first = slice_set s.instances i (record x { status = Status.Running });
        second = slice_set t.instances i (record y { status = Status.Running });
        memory = s.world.memory;
        other = t.world.memory;
      }

  -- ---- what stands in the lists

  here : slice_get xs i ≡ Some (record x { status = Status.Running })
  here = set_here s.instances i (record x { status = Status.Running }) (get_within s.instances i x at)

  here_too : slice_get ys i ≡ Some (record y { status = Status.Running })
  here_too = set_here t.instances i (record y { status = Status.Running }) (get_within t.instances i y to)

  other : (j : ℕ) → (i ≡ j → ⊥) → slice_get xs j ≡ slice_get s.instances j
  other j ne = set_other s.instances i j (record x { status = Status.Running }) ne

  other_too : (j : ℕ) → (i ≡ j → ⊥) → slice_get ys j ≡ slice_get t.instances j
  other_too j ne = set_other t.instances i j (record y { status = Status.Running }) ne

  -- ---- frames lie where they did

  given_at : (j : ℕ) → option_map_or (is_given t.world.memory) (slice_get ys j) false
      ≡ option_map_or (is_given t.world.memory) (slice_get t.instances j) false
  given_at j =
      ⊎_elim
      (λ same. subst (λ (n : ℕ). option_map_or (is_given t.world.memory) (slice_get ys n) false
      ≡ option_map_or (is_given t.world.memory) (slice_get t.instances n) false) same
      (ap (λ (o : Option Instance). option_map_or (is_given t.world.memory) o false) here_too
      ∙ sym (ap (λ (o : Option Instance). option_map_or (is_given t.world.memory) o false) to)))
      (λ ne. ap (λ (o : Option Instance). option_map_or (is_given t.world.memory) o false) (other_too j ne))
      (is_number i j)

  abbrev StandsFor : ℕ → Instance → Type 0
  StandsFor j z = (w : Instance) × ((slice_get xs j ≡ Some w) × (frame_address_of w ≡ frame_address_of z))

  first_at : (j : ℕ) (z : Instance) → slice_get s.instances j ≡ Some z
      → (w : Instance) × ((slice_get xs j ≡ Some w) × (frame_address_of w ≡ frame_address_of z))
  first_at j z there =
      ⊎_elim
      (λ same. by same)
      (λ ne. (z, (other j ne ∙ there, refl)))
      (is_number i j)
    where
      by : i ≡ j → StandsFor j z
      by same =
          let is : x ≡ z = same_some x z (sym at ∙ (ap (slice_get s.instances) same ∙ there)) in (
            record x { status = Status.Running },
            (ap (slice_get xs) (sym same) ∙ here, ap frame_address_of is),
          )

  by_number : (o : Option ℕ) → option_map_or (is_given t.world.memory) (instance_in ys o) false
      ≡ option_map_or (is_given t.world.memory) (instance_in t.instances o) false
  by_number None = refl
  by_number (Some j) = given_at j

  first_by : (o : Option ℕ) (z : Instance) → instance_in s.instances o ≡ Some z
      → (w : Instance) × (instance_in xs o ≡ Some w) × (frame_address_of w ≡ frame_address_of z)
  first_by None z there = absurd (cc)
  first_by (Some j) z there = let w = first_at j z there in (w.0, w.1.0, w.1.1)

  pub keeps : KeepsSides r.beside.hides (sides s t) now
  keeps = record { given = by_number; first = first_by; hidden = λ n size h there. there }

  -- a block is no given frame in the one where it is none in the other
  back : (n : ℕ) → IsNoGivenFrame now n → IsNoGivenFrame d n
  back n none j x' y' at' to' given =
      ⊎_elim
      (λ same. by same)
      (λ ne. none j x' y' (other j ne ∙ at') (other_too j ne ∙ to') given)
      (is_number i j)
    where
      by : i ≡ j → x'.block ≡ n → ⊥
      by same is =
          let first : x ≡ x' = same_some x x' (sym at ∙ (ap (slice_get s.instances) same ∙ at')) in
          let second : y ≡ y' = same_some y y' (sym to ∙ (ap (slice_get t.instances) same ∙ to')) in
          none i (record x { status = Status.Running }) (record y { status = Status.Running }) here here_too
          (ap (is_given t.world.memory) second ∙ given) (ap (λ (z : Instance). z.block) first ∙ is)

  count : given_frames (record t { instances = ys }) ≡ given_frames t
  count =
      set_filtered (is_given t.world.memory) t.instances i y (record y { status = Status.Running }) to refl

  -- ---- the parts of the relation

  world : AreOver (frame_rights (framed e) xs) (frame_rights (elided e) ys) q.homes q.hides (λ d. d)
      (counted t.world.allocs s.world) t.world
  world =
      subst (λ (p : Rights × Rights). AreOver p.0 p.1 q.homes q.hides (λ d. d) (counted t.world.allocs s.world) t.world)
      (λ j. (
        sym (status_leaves (framed e) s.instances i x Status.Running at) j,
        sym (status_leaves (elided e) t.instances i y Status.Running to) j,
      )) q.world

  mates : AreMates q.homes q.hides now
  mates = record {
    each = λ n z there h free. q.mates.each n z there h (back n free);
    alone = λ n m lt gt h k free none same. q.mates.alone n m lt gt h k (back n free) (back m none) same;
  }

  freed_on : (b : Bool) → IsFreedAs t.world.memory x y b
      → IsFreedAs t.world.memory (record x { status = Status.Running }) (record y { status = Status.Running }) b
  freed_on false h = h
  freed_on true h = (h.0, λ unfinished. h.1 going)

  awake : AreInstances e q.homes t.world.memory (record x { status = Status.Running })
      (record y { status = Status.Running })
  awake =
      let old = q.instances i x y at to in
      record {
        coroutine = old.coroutine;
        whole = old.whole;
        home = old.home;
        status = Runs;
        last_save = old.last_save;
        released = old.released;
        freed = freed_on (is_given t.world.memory y) old.freed;
        slots = old.slots;
        no_slots = old.no_slots;
      }

  instances : (j : ℕ) (x' y' : Instance) → slice_get xs j ≡ Some x' → slice_get ys j ≡ Some y'
      → AreInstances e q.homes t.world.memory x' y'
  instances j x' y' at' to' =
      ⊎_elim
      (λ same. by same)
      (λ ne. q.instances j x' y' (sym (other j ne) ∙ at') (sym (other_too j ne) ∙ to'))
      (is_number i j)
    where
      by : i ≡ j → AreInstances e q.homes t.world.memory x' y'
      by same =
          let first : record x { status = Status.Running } ≡ x'
          = same_some (record x { status = Status.Running }) x' (sym here ∙ (ap (slice_get xs) same ∙ at')) in
          let second : record y { status = Status.Running } ≡ y'
          = same_some (record y { status = Status.Running }) y' (sym here_too ∙ (ap (slice_get ys) same ∙ to')) in
          subst (λ (p : Instance × Instance). AreInstances e q.homes t.world.memory p.0 p.1)
          (λ j. (first j, second j)) awake

  module _ (holds : HoldsStill e s) where
    reach : length s.world.memory ≤ length s.world.memory
    reach = omega arith

    rows : AreBelow e q.homes q.hides now (behind e s t r ∷ s.below) (behind_too e s t r ∷ t.below)
    rows =
        below_kept e q.homes q.hides d now keeps (behind e s t r ∷ s.below) (behind_too e s t r ∷ t.below)
        (λ j g k from there h al has. alloca_kept q.homes q.hides d now k h.own al has has.is_there reach back)
        (callers e s t r holds)

    -- what goes on stands on top
    pub goes_beside : (A C : Activation) → AreActivations e r.beside.homes r.beside.hides now A C
        → held_by e A C ≡ None
        → AreElided e (push (with_status s i x Status.Running) A) (push (with_status t i y Status.Running) C)
    goes_beside A C new none = record {
      homes = q.homes;
      hides = q.hides;
      world = world;
      known = q.known;
      globals = q.globals;
      hidden = q.hidden;
      mates = mates;
      count = set_many t.instances i (record y { status = Status.Running })
          ∙ (q.count ∙ sym (set_many s.instances i (record x { status = Status.Running })));
      instances = instances;
      top = new;
      below = rows;
      once = apart_more e (behind e s t r ∷ s.below) (behind_too e s t r ∷ t.below) A C none
          (callers_apart e s t r holds);
      allocs = q.allocs
          ∙ ((λ j. capped (t.world.allocs + (sym count j + held_blocks e (s.top ∷ s.below)
          ((at_front e s t).top ∷ t.below))))
          ∙ ap (λ (n : ℕ). capped (t.world.allocs + (given_frames (record t { instances = ys }) + n)))
          (sym (held_more e (behind e s t r ∷ s.below) (behind_too e s t r ∷ t.below) A C none ∙ callers_held e s t r
          holds)));
      outcome = q.outcome;
    }
