-- coro.free gives the frame's address in the framed run, and null in the other one where the frame was given.
use Rattle.std.proofs.Common.{◌≡◌, inl, inr, ℕ, Bool, true, false, List, refl, sym, ap, ◌∙◌, subst, if◌then◌else◌, ◌&&◌, ◌||◌}
use Rattle.std.specs.Option.{option_map_or}
use Rattle.std.specs.Prelude.{None, Option, Some, is_some, option_and_then, option_map, slice_get}
use Rattle.pass_elide_proof.proofs.Addresses.{address_stands, twin_back, twin_of}
use Rattle.pass_elide_proof.proofs.AtCalls.{both_step, name_held, name_kept, own_place}
use Rattle.pass_elide_proof.proofs.Begins.{no_both}
use Rattle.pass_elide_proof.proofs.Changing.{changed_beside, new_there}
use Rattle.pass_elide_proof.proofs.Setting.{IsFreedTo, IsOwnPlace, SetsAlike, given_beside}
use Rattle.pass_elide_proof.specs.Both.{HoldsOn}
use Rattle.pass_elide_proof.specs.Elision.{Elision, Shape, differs_in, elided, framed}
use Rattle.pass_elide_proof.specs.Frees.{IsAtFree}
use Rattle.pass_elide_proof.specs.Match.{AreElided, AreInstances, IsFreedAs, instance_in, is_given_mode, sides, was_given}
use Rattle.pass_proofs.specs.ir_model.Ty.{Ty}
use Rattle.pass_proofs.specs.ir_model.declared.operand.Arg.{Arg}
use Rattle.pass_proofs.specs.ir_model.declared.operand.Intrinsic.{Intrinsic}
use Rattle.pass_proofs.specs.run_framed.Framed.{framed_step, freed_address, is_given}
use Rattle.pass_proofs.specs.run_laws.memory.Pointers.{IsValue}
use Rattle.pass_proofs.specs.run_memory.declared.block.MemoryBlock.{MemoryBlock}
use Rattle.pass_proofs.specs.run_memory.declared.pointer.Pointer.{Pointer}
use Rattle.pass_proofs.specs.run_memory.declared.pointer.Value.{Value}
use Rattle.pass_proofs.specs.run_source.Source.{change_own, release}
use Rattle.pass_proofs.specs.run_source.State.{frame_address_of, gives, numbered, own_instance, with_instance}
use Rattle.pass_proofs.specs.run_source.declared.state.Instance.{Instance}
use Rattle.pass_proofs.specs.run_source.declared.state.State.{State}

no_some : {A : Type 0} (o : Option A) (f : A) → o ≡ None → o ≡ Some f → ⊥
no_some None f p g = absurd (cc)
no_some (Some a) f p g = absurd (cc)

abbrev released_as : Instance → Instance
released_as x = record x { released = true }

module _ (e : Elision) (s t : State) (result : Option ℕ) (must_tail : Bool) (ty : Option Ty) (args : List Arg)
    (r : AreElided e s t) (at : IsAtFree e s t result must_tail ty args) where
  abbrev x : Shape
  x = e.shape s.top.func

  abbrev m : List MemoryBlock
  m = t.world.memory

  -- what comes of it, by the instances
  abbrev Goes : Option (ℕ × Instance) → Option (ℕ × Instance) → Type 0
  Goes o q =
      AreElided e (gives (change_own s released_as o) result (freed_address s.world.memory o))
      (gives (change_own t released_as q) result (freed_address m q))

  -- ---- no instance

  poison_sets : SetsAlike e r.homes (sides s t) s.top t.top result Value.Poison Value.Poison
  poison_sets = record {
    names = at.call.names;
    alike = λ n set calm. tt;
    asked = λ n set ramp is. inl refl;
    freed = λ n set given is. inl refl;
    tested = λ n is_eq set given is. inl refl;
  }

  without : Goes None None
  without =
      given_beside e s t r result Value.Poison Value.Poison
      (own_place e s t Intrinsic.CoroFree result must_tail ty args r at.call) poison_sets
      (name_held e s t result at.holds Value.Poison s.top.has_left) (name_kept e s t result at.holds)

  -- ---- the instance of both

  module _ (i : ℕ) (own : s.top.instance ≡ Some i) (y z : Instance) (first : slice_get s.instances i ≡ Some y)
      (second : slice_get t.instances i ≡ Some z) where
    abbrev u : State
    u = with_instance s i (released_as y)

    abbrev w : State
    w = with_instance t i (released_as z)

    own_too : t.top.instance ≡ Some i
    own_too = r.top.instance ∙ own

    there : instance_in t.instances t.top.instance ≡ Some z
    there = ap (instance_in t.instances) own_too ∙ second

    new : AreInstances e r.homes m (released_as y) (released_as z)
    new =
        let old = r.instances i y z first second in
        record {
          coroutine = old.coroutine;
          whole = old.whole;
          home = old.home;
          status = old.status;
          last_save = old.last_save;
          released = refl;
          freed = freed_too (is_given m z) old.freed;
          slots = old.slots;
          no_slots = old.no_slots;
        }
      where
        freed_too : (b : Bool) → IsFreedAs m y z b → IsFreedAs m (released_as y) (released_as z) b
        freed_too true h = h
        freed_too false h = h

    its_beside : AreElided e u w
    its_beside =
        changed_beside e s t r i y (released_as y) z (released_as z) first second
        (record { coroutine = refl; block = refl; start = refl })
        (record { coroutine = refl; block = refl; start = refl }) new

    -- ---- whether the frame was given

    given_so : (f : Bool) → is_given_mode t.top.mode ≡ f
        → (if f then true else option_map_or (is_given m) (instance_in w.instances t.top.instance) false) ≡ true
        → is_given m z ≡ true
    given_so true mode h = at.ramp z there mode
    given_so false mode h =
        sym (ap (λ (o : Option Instance). option_map_or (is_given m) o false)
        (ap (instance_in w.instances) own_too ∙ new_there t.instances i z (released_as z) second)) ∙ h

    was_so : is_given m z ≡ true → (f : Bool)
        → (if f then true else option_map_or (is_given m) (instance_in w.instances t.top.instance) false) ≡ true
    was_so given true = refl
    was_so given false =
        ap (λ (o : Option Instance). option_map_or (is_given m) o false)
        (ap (instance_in w.instances) own_too ∙ new_there t.instances i z (released_as z) second) ∙ given

    module _ (beside : AreElided e u w) where
      abbrev v : Value
      v = freed_address s.world.memory (Some (i, y))

      abbrev v' : Value
      v' = freed_address m (Some (i, z))

      value_is : v ≡ frame_address_of y
      value_is =
          ap (λ (b : Bool). if b then Value.Ptr Pointer.Null else frame_address_of y) (at.allocates i y first)

      null_is : is_given m z ≡ true → v' ≡ Value.Ptr Pointer.Null
      null_is given = ap (λ (b : Bool). if b then Value.Ptr Pointer.Null else frame_address_of z) given

      other_is : is_given m z ≡ false → v' ≡ frame_address_of z
      other_is given = ap (λ (b : Bool). if b then Value.Ptr Pointer.Null else frame_address_of z) given

      both_stand : IsValue beside.homes (frame_address_of y) (frame_address_of z)
      both_stand =
          address_stands e u w beside (released_as y) (released_as z)
          (beside.instances i (released_as y) (released_as z) (new_there s.instances i y (released_as y) first)
          (new_there t.instances i z (released_as z) second))

      differs : (n : ℕ) → is_given m z ≡ true → x.freed n ≡ true
          → differs_in x (is_given_mode t.top.mode) (was_given (sides u w) w.top) n ≡ false → ⊥
      differs n given freed h =
          never_so (is_given_mode t.top.mode && (x.need n || x.made n)) (was_given (sides u w) w.top) (x.freed n)
          (is_some (x.tested n) || x.passed n) (was_so given (is_given_mode t.top.mode)) freed h
        where
          never_so : (a b c d : Bool) → b ≡ true → c ≡ true → (a || (b && (c || d))) ≡ false → ⊥
          never_so true b c d f g h = absurd (cc)
          never_so false true true d f g h = absurd (cc)
          never_so false true false d f g h = absurd (cc)
          never_so false false c d f g h = absurd (cc)

      by_given : (b : Bool) → is_given m z ≡ b → (n : ℕ) → result ≡ Some n
          → differs_in x (is_given_mode t.top.mode) (was_given (sides u w) w.top) n ≡ false
          → IsValue beside.homes v v'
      by_given true given n set calm = absurd (differs n given (at.freed n z set there given) calm)
      by_given false given n set calm =
          subst (λ (p : Value × Value). IsValue beside.homes p.0 p.1)
          (λ j. (sym value_is j, sym (other_is given) j)) both_stand

      freed_to : is_given m z ≡ true → IsFreedTo (sides u w) u.top v v'
      freed_to given =
          inr (
            null_is given,
            (
              released_as y,
              ap (instance_in u.instances) own ∙ new_there s.instances i y (released_as y) first,
              value_is,
            ),
          )

      sets : SetsAlike e beside.homes (sides u w) u.top w.top result v v'
      sets = record {
        names = at.call.names;
        alike = by_given (is_given m z) refl;
        asked = λ n set ramp is. absurd (no_both (x.need n) (at.need n set) is);
        freed = λ n set given is. freed_to (given_so (is_given_mode t.top.mode) refl given);
        tested = λ n is_eq set given is. absurd (no_some (x.tested n) is_eq (at.tested n set) is);
      }

      place : IsOwnPlace e u.top w.top
      place =
          let p = own_place e s t Intrinsic.CoroFree result must_tail ty args r at.call in
          record { block = p.block; own = p.own; starts = p.starts }

      holds : HoldsOn e u w result
      holds = record { holds = at.holds.holds; kept = at.holds.kept }

      with_both : Goes (Some (i, y)) (Some (i, z))
      with_both =
          given_beside e u w beside result v v' place sets (name_held e u w result holds v s.top.has_left)
          (name_kept e u w result holds)

  -- ---- by what instance there is

  with_one : (i : ℕ) → s.top.instance ≡ Some i → (o q : Option Instance) → slice_get s.instances i ≡ o
      → slice_get t.instances i ≡ q → Goes (option_map (λ y. (i, y)) o) (option_map (λ y. (i, y)) q)
  with_one i own None None first second = without
  with_one i own None (Some z) first second = absurd (no_some _ _ first (twin_back e s t r i z second).1)
  with_one i own (Some y) None first second = absurd (no_some _ _ second (twin_of e s t r i y first).1)
  with_one i own (Some y) (Some z) first second =
      with_both i own y z first second (its_beside i own y z first second)

  with_any : (o : Option ℕ) → s.top.instance ≡ o
      → Goes (option_and_then (numbered s.instances) o) (option_and_then (numbered t.instances) o)
  with_any None own = without
  with_any (Some i) own = with_one i own (slice_get s.instances i) (slice_get t.instances i) refl refl

  both_free : Goes (own_instance s) (own_instance t)
  both_free =
      subst (λ (o : Option ℕ). Goes (own_instance s) (option_and_then (numbered t.instances) o)) (sym r.top.instance)
      (with_any s.top.instance refl)

  pub free_beside : AreElided e (framed_step (framed e) s) (framed_step (elided e) t)
  free_beside =
      both_step e s t Intrinsic.CoroFree result must_tail ty args r at.call
      (gives (release s) result (freed_address s.world.memory (own_instance s)))
      (gives (release t) result (freed_address m (own_instance t))) refl refl both_free
