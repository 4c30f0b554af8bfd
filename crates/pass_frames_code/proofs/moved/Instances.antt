-- One instance becomes another one in both runs, whose frame lies where it did: the relation holds still.
use Rattle.std.proofs.Common.{◌≡◌, ◌∷◌, ◌∙◌, [], List, None, Option, Some, ap, length, refl, subst, suc, sym, true, zero, ℕ, ⊎_elim}
use Rattle.std.specs.Prelude.{slice_get, slice_set}
use Rattle.pass_proofs.proofs.ir_laws.facts.Truth.{is_number}
use Rattle.pass_frames_code.proofs.moved.Rest.{instance_on, on_homes, related_on}
use Rattle.pass_frames_code.specs.Framings.{IsFraming}
use Rattle.pass_frames_code.specs.Moved.{IsSamePlace, MovesRest}
use Rattle.pass_frames_code.specs.Places.{Framing}
use Rattle.pass_frames_code.specs.Related.{AreBuiltOf, AreFieldsRight, AreInstances, Building, HasFields, instance_in, is_coroutine}
use Rattle.pass_renewed_proof.proofs.Listing.{set_here, set_other}
use Rattle.run_access_worked.proofs.Ended.{rights_same, set_frames}
use Rattle.run_access_worked.specs.Frames.{AreSameFrames, IsSameFrame}
use Rattle.pass_proofs.specs.run_framed.Framed.{frame_rights}
use Rattle.pass_proofs.proofs.run_laws.memory.Written.{same_some}
use Rattle.pass_proofs.specs.run_laws.access.Lines.{Holds}
use Rattle.pass_proofs.specs.run_laws.memory.Pointers.{Home}
use Rattle.pass_proofs.specs.run_laws.transfer.Transfer.{AreOver}
use Rattle.pass_proofs.specs.run_memory.Memory.{Rights, owner_rights}
use Rattle.pass_proofs.specs.run_memory.declared.block.MemoryBlock.{MemoryBlock}
use Rattle.pass_proofs.specs.run_source.declared.state.Activation.{Activation}
use Rattle.pass_proofs.specs.run_source.declared.state.Instance.{Instance}
use Rattle.pass_proofs.specs.run_source.declared.state.Mode.{Mode}
use Rattle.pass_proofs.specs.run_source.declared.state.State.{State}
use Rattle.pass_proofs.specs.run_step.Values.{Env}

-- ---- lists

-- instances with the same frames begin at the same places
pub same_places : (xs ys : List Instance) → AreSameFrames xs ys → (j : ℕ)
    → IsSamePlace (slice_get xs j) (slice_get ys j)
same_places [] [] h j = tt
same_places [] (y ∷ ys) h j = absurd h
same_places (x ∷ xs) [] h j = absurd h
same_places (x ∷ xs) (y ∷ ys) h zero = (h.0.block, h.0.start)
same_places (x ∷ xs) (y ∷ ys) h (suc j) = same_places xs ys h.1 j

pub owner_places : (xs ys : List Instance) → AreSameFrames xs ys → (o : Option ℕ)
    → IsSamePlace (instance_in xs o) (instance_in ys o)
owner_places xs ys h None = tt
owner_places xs ys h (Some j) = same_places xs ys h j

pub set_many : {A : Type 0} (xs : List A) (i : ℕ) (x : A) → length (slice_set xs i x) ≡ length xs
set_many [] i x = refl
set_many (z ∷ xs) zero x = refl
set_many (z ∷ xs) (suc i) x = ap suc (set_many xs i x)

-- ---- fields where instances begin at the same places

place_fields : (X : Framing) (homes : List Home) (rights : Rights) (m : List MemoryBlock) (j : ℕ) (env : Env)
    (mode : Mode) (p q : ℕ × ℕ) → p ≡ q → HasFields X homes rights m j env p.0 p.1 mode
    → HasFields X homes rights m j env q.0 q.1 mode
place_fields X homes rights m j env mode p q e =
    subst (λ (z : ℕ × ℕ). HasFields X homes rights m j env z.0 z.1 mode) e

same_start : (o q : Option Instance) → IsSamePlace o q → (y z : Instance) → o ≡ Some y → q ≡ Some z
    → ◌≡◌ {A = ℕ × ℕ} (y.block, y.start) (z.block, z.start)
same_start None None h y z e d = absurd (cc)
same_start None (Some w) h y z e d = absurd h
same_start (Some a) None h y z e d = absurd h
same_start (Some a) (Some w) h y z e d =
    let first : a ≡ y = same_some a y e in
    let second : w ≡ z = same_some w z d in
    (λ j. (
      (ap (λ (u : Instance). u.block) (sym first) ∙ sym h.0 ∙ ap (λ (u : Instance). u.block) second) j,
      (ap (λ (u : Instance). u.start) (sym first) ∙ sym h.1 ∙ ap (λ (u : Instance). u.start) second) j,
    ))

module _ (b : Building) (s t : State) (r : AreBuiltOf b s t)
    (framings : (func : ℕ) → is_coroutine b func ≡ true → IsFraming (b.framing func)) (ys : List Instance)
    (same : AreSameFrames t.instances ys) where
  pub rights_stay : frame_rights b.given ys ≡ frame_rights b.given t.instances
  rights_stay = rights_same b.given t.instances ys same

  abbrev ups : List Activation
  ups = s.top ∷ s.below

  abbrev cs : List Activation
  cs = t.top ∷ t.below

  -- no memory changes
  pub rest_stays : MovesRest b s t r (s.top ∷ s.below) (t.top ∷ t.below) r.homes r.hides ys s.world t.world
  rest_stays = record {
    framings = framings;
    seen = record { each = λ n e. refl };
    slots = λ a l slot e. (refl, refl);
    owners = λ c l is. owner_places t.instances ys same c.instance;
    cells = λ c l is slot e name o most bytes.
        subst (λ (R : Rights). Holds R t.world.memory slot.block o most bytes) (sym rights_stay);
    returned = λ a c y z j l is own now from h.
        subst (λ (R : Rights). HasFields (b.framing a.func) r.homes R t.world.memory j a.values z.block z.start a.mode)
        (sym rights_stay)
        (place_fields (b.framing a.func) r.homes (frame_rights b.given t.instances) t.world.memory j a.values a.mode
        (y.block, y.start) (z.block, z.start)
        (same_start (instance_in t.instances c.instance) (instance_in ys c.instance)
        (owner_places t.instances ys same c.instance) y z own now) h);
    free = λ c l is slot e name h. h;
    ahead = λ X c name align ty l h. h;
  }

  -- an instance that stays
  pub instance_stays : (xs : List Instance) (x y : Instance) → AreInstances b r.homes t x y
      → AreInstances b r.homes (record t { instances = ys }) x y
  instance_stays xs x y =
      instance_on b s t r (s.top ∷ s.below) (t.top ∷ t.below) r.homes r.hides xs ys s.world t.world rest_stays t.top x y
      (λ p env is live j number f.
      subst (λ (R : Rights). AreFieldsRight (b.framing x.coroutine) r.homes R t.world.memory j env y.block y.start)
      (sym rights_stay) f)

  pub related_stays : (xs : List Instance) → length ys ≡ length xs
      → ((i : ℕ) (x y : Instance) → slice_get xs i ≡ Some x → slice_get ys i ≡ Some y
      → AreInstances b r.homes (record t { instances = ys }) x y)
      → AreBuiltOf b (record s { instances = xs }) (record t { instances = ys })
  related_stays xs count instances =
      related_on b s t r r.homes r.hides xs ys s.world t.world rest_stays (record {
        world = subst (λ (R : Rights). AreOver owner_rights R r.homes r.hides (λ d. d) s.world t.world)
            (sym rights_stay) r.world;
        known = r.known;
        globals = r.globals;
        mates = r.mates;
        hidden = r.hidden;
        count = count;
        instances = instances;
      })

  pub stays_homes : (xs : List Instance) (count : length ys ≡ length xs)
      (instances : (i : ℕ) (x y : Instance) → slice_get xs i ≡ Some x → slice_get ys i ≡ Some y
      → AreInstances b r.homes (record t { instances = ys }) x y) → (related_stays xs count instances).homes ≡ r.homes
  unfolding related_stays
  stays_homes xs count instances = on_homes b s t r r.homes r.hides xs ys s.world t.world rest_stays _

-- ---- one instance

module _ (b : Building) (s t : State) (r : AreBuiltOf b s t)
    (framings : (func : ℕ) → is_coroutine b func ≡ true → IsFraming (b.framing func)) (i : ℕ) (x y p q : Instance)
    (there : slice_get s.instances i ≡ Some x) (there' : slice_get t.instances i ≡ Some y) (frame : IsSameFrame y q) where
  pub set_same : AreSameFrames t.instances (slice_set t.instances i q)
  set_same = set_frames t.instances i y q there' frame

  pub one_related : AreInstances b r.homes (record t { instances = slice_set t.instances i q }) p q
      → AreBuiltOf b (record s { instances = slice_set s.instances i p })
      (record t { instances = slice_set t.instances i q })
  one_related now =
      related_stays b s t r framings (slice_set t.instances i q) set_same (slice_set s.instances i p)
      (set_many t.instances i q ∙ r.count ∙ sym (set_many s.instances i p)) each
    where
      each : (j : ℕ) (a c : Instance) → slice_get (slice_set s.instances i p) j ≡ Some a
          → slice_get (slice_set t.instances i q) j ≡ Some c
          → AreInstances b r.homes (record t { instances = slice_set t.instances i q }) a c
      each j a c e d = ⊎_elim at_i other (is_number j i)
        where
          at_i : j ≡ i → AreInstances b r.homes (record t { instances = slice_set t.instances i q }) a c
          at_i z =
              let first : p ≡ a =
              same_some p a (sym (set_here s.instances i x p there)
              ∙ ap (slice_get (slice_set s.instances i p)) (sym z) ∙ e) in
              let second : q ≡ c =
              same_some q c (sym (set_here t.instances i y q there')
              ∙ ap (slice_get (slice_set t.instances i q)) (sym z) ∙ d) in
              subst (λ (z : Instance × Instance). AreInstances b r.homes (record t {
                instances = slice_set t.instances i q;
              }) z.0 z.1) (λ k. (first k, second k)) now

          other : (j ≡ i → ⊥) → AreInstances b r.homes (record t { instances = slice_set t.instances i q }) a c
          other z =
              instance_stays b s t r framings (slice_set t.instances i q) set_same (slice_set s.instances i p) a c
              (r.instances j a c (sym (set_other s.instances i j p z) ∙ e)
              (sym (set_other t.instances i j q z) ∙ d))

  pub one_homes : (now : AreInstances b r.homes (record t { instances = slice_set t.instances i q }) p q)
      → (one_related now).homes ≡ r.homes
  unfolding one_related
  one_homes now =
      stays_homes b s t r framings (slice_set t.instances i q) set_same (slice_set s.instances i p) _ _
