-- An instance of both runs changes, and stays where it is.
use Rattle.std.proofs.Common.{◌≡◌, ◌≢◌, ◌⊎◌, ◌+◌, inl, inr, ℕ, zero, suc, Bool, true, false, not, List, [], ◌∷◌, length, refl, sym, ap, ◌∙◌, subst, if◌then◌else◌, ◌||◌, ◌==◌}
use Rattle.std.specs.Option.{option_map_or}
use Rattle.std.specs.Prelude.{None, Option, Some, filter, slice_get, slice_set}
use Rattle.pass_elide_proof.proofs.Sides.{Anything, SidesGoOn, activation_on, all_others, any_others, below_on}
use Rattle.pass_elide_proof.specs.Counts.{capped, counted}
use Rattle.pass_elide_proof.specs.Elision.{Elision, elided, framed}
use Rattle.pass_elide_proof.specs.Match.{AreElided, AreInstances, AreMates, IsNoGivenFrame, Sides, held_blocks, instance_in, is_given_mode, sides}
use Rattle.pass_proofs.proofs.ir_laws.facts.Lists.{get_within, set_here, set_length, set_other}
use Rattle.pass_proofs.proofs.ir_laws.facts.Truth.{either}
use Rattle.pass_proofs.proofs.run_laws.memory.Written.{same_some}
use Rattle.pass_proofs.specs.run_framed.Framed.{frame_rights, is_given, is_stack_block}
use Rattle.pass_proofs.specs.run_laws.transfer.Transfer.{AreOver}
use Rattle.pass_proofs.specs.run_memory.Memory.{Rights}
use Rattle.pass_proofs.specs.run_memory.declared.block.MemoryBlock.{MemoryBlock}
use Rattle.pass_proofs.specs.run_source.State.{address_in, frame_address_of, with_instance}
use Rattle.pass_proofs.specs.run_source.declared.state.Activation.{Activation}
use Rattle.pass_proofs.specs.run_source.declared.state.Instance.{Instance}
use Rattle.pass_proofs.specs.run_source.declared.state.State.{State}
use Rattle.run_access_worked.proofs.Ended.{rights_same, set_frames}
use Rattle.run_access_worked.specs.Frames.{IsSameFrame}

-- ---- lists in which one element is another

-- what stands at a place of the changed list, by what stood there
pub record WasSet {A : Type 0} (xs : List A) (i : ℕ) (new : A) (j : ℕ) (y : A) : Type 0 where
  pub was : A
  pub at : slice_get xs j ≡ Some was
  pub is : ((j ≡ i) × (y ≡ new)) ⊎ ((j ≢ i) × (y ≡ was))

module _ {A : Type 0} (xs : List A) (i : ℕ) (x new : A) (there : slice_get xs i ≡ Some x) where
  pub new_there : slice_get (slice_set xs i new) i ≡ Some new
  new_there = set_here xs i new (get_within xs i x there)

  pub was_set : (j : ℕ) (y : A) → slice_get (slice_set xs i new) j ≡ Some y → WasSet xs i new j y
  was_set j y is = by (either j i)
    where
      by : (j ≡ i) ⊎ (j ≡ i → ⊥) → WasSet xs i new j y
      by (inl same) = record {
        was = x;
        at = ap (slice_get xs) same ∙ there;
        is = inl (same, same_some y new (sym is ∙ (ap (slice_get (slice_set xs i new)) same ∙ new_there)));
      }
      by (inr ne) = record {
        was = y;
        at = sym (set_other xs i j new (λ same. ne (sym same))) ∙ is;
        is = inr (ne, refl);
      }

-- ---- given frames

module _ (m : List MemoryBlock) (ys : List Instance) (i : ℕ) (y new : Instance) (there : slice_get ys i ≡ Some y)
    (same : IsSameFrame y new) where
  pub is_given_still : is_given m new ≡ is_given m y
  is_given_still = λ k. is_stack_block m (same.block k) || not (same.start k == 0)

  pub given_in : (o : Option ℕ) → option_map_or (is_given m) (instance_in (slice_set ys i new) o) false
      ≡ option_map_or (is_given m) (instance_in ys o) false
  given_in None = refl
  given_in (Some j) = by (either j i)
    where
      by : (j ≡ i) ⊎ (j ≡ i → ⊥) → option_map_or (is_given m) (slice_get (slice_set ys i new) j) false
          ≡ option_map_or (is_given m) (slice_get ys j) false
      by (inl is) =
          ap (λ (n : ℕ). option_map_or (is_given m) (slice_get (slice_set ys i new) n) false) is
          ∙ (ap (λ (o : Option Instance). option_map_or (is_given m) o false) (new_there ys i y new there)
          ∙ (is_given_still
          ∙ (ap (λ (o : Option Instance). option_map_or (is_given m) o false) (sym there)
          ∙ ap (λ (n : ℕ). option_map_or (is_given m) (slice_get ys n) false) (sym is))))
      by (inr ne) =
          ap (λ (o : Option Instance). option_map_or (is_given m) o false) (set_other ys i j new (λ e. ne (sym e)))

-- as many were given
pub as_many_given : (m : List MemoryBlock) (ys : List Instance) (i : ℕ) (y new : Instance) → slice_get ys i ≡ Some y
    → is_given m new ≡ is_given m y
    → length (filter (is_given m) (slice_set ys i new)) ≡ length (filter (is_given m) ys)
as_many_given m [] i y new there same = refl
as_many_given m (z ∷ ys) zero y new there same =
    let is : z ≡ y = cc in
    one (is_given m new) (is_given m z) (same ∙ ap (is_given m) (sym is)) (filter (is_given m) ys)
  where
    one : (b c : Bool) → b ≡ c → (zs : List Instance)
        → length (if b then new ∷ zs else zs) ≡ length (if c then z ∷ zs else zs)
    one true true e zs = refl
    one false false e zs = refl
    one true false e zs = absurd (cc)
    one false true e zs = absurd (cc)
as_many_given m (z ∷ ys) (suc i) y new there same =
    more (is_given m z) (filter (is_given m) (slice_set ys i new)) (filter (is_given m) ys)
    (as_many_given m ys i y new there same)
  where
    more : (b : Bool) (us vs : List Instance) → length us ≡ length vs
        → length (if b then z ∷ us else us) ≡ length (if b then z ∷ vs else vs)
    more true us vs e = ap suc e
    more false us vs e = e

-- ---- both states

module _ (e : Elision) (s t : State) (r : AreElided e s t) (i : ℕ) (x x' y y' : Instance)
    (first : slice_get s.instances i ≡ Some x) (second : slice_get t.instances i ≡ Some y) (kept : IsSameFrame x x')
    (other : IsSameFrame y y') (new : AreInstances e r.homes t.world.memory x' y') where
  abbrev u : State
  u = with_instance s i x'

  abbrev w : State
  w = with_instance t i y'

  abbrev d : Sides
  d = sides s t

  abbrev k : Sides
  k = sides u w

  m : List MemoryBlock
  m = t.world.memory

  set_first : (j : ℕ) (z : Instance) → slice_get s.instances j ≡ Some z
      → (q : Instance) × (slice_get u.instances j ≡ Some q) × (frame_address_of q ≡ frame_address_of z)
      × (q.block ≡ z.block)
  set_first j z there = by (either j i)
    where
      by : (j ≡ i) ⊎ (j ≡ i → ⊥) → (q : Instance) × (slice_get u.instances j ≡ Some q)
          × (frame_address_of q ≡ frame_address_of z) × (q.block ≡ z.block)
      by (inl is) =
          let one : x ≡ z = same_some x z (sym first ∙ (ap (slice_get s.instances) (sym is) ∙ there)) in (
            x',
            ap (slice_get u.instances) is ∙ new_there s.instances i x x' first,
            (λ n. address_in (kept.block n) (kept.start n)) ∙ ap frame_address_of one,
            kept.block ∙ ap (λ (q : Instance). q.block) one,
          )
      by (inr ne) = (z, set_other s.instances i j x' (λ is. ne (sym is)) ∙ there, refl, refl)

  set_second : (j : ℕ) (z : Instance) → slice_get t.instances j ≡ Some z
      → (q : Instance) × (slice_get w.instances j ≡ Some q)
      × (is_given t.world.memory q ≡ is_given t.world.memory z)
  set_second j z there = by (either j i)
    where
      by : (j ≡ i) ⊎ (j ≡ i → ⊥) → (q : Instance) × (slice_get w.instances j ≡ Some q)
          × (is_given t.world.memory q ≡ is_given t.world.memory z)
      by (inl is) =
          let one : y ≡ z = same_some y z (sym second ∙ (ap (slice_get t.instances) (sym is) ∙ there)) in (
            y',
            ap (slice_get w.instances) is ∙ new_there t.instances i y y' second,
            is_given_still t.world.memory t.instances i y y' second other ∙ ap (is_given t.world.memory) one,
          )
      by (inr ne) = (z, set_other t.instances i j y' (λ is. ne (sym is)) ∙ there, refl)

  -- a block that is no given frame was none
  free_still : (n : ℕ) → IsNoGivenFrame k n → IsNoGivenFrame d n
  free_still n free j p q at to given same =
      let a = set_first j p at in
      let b = set_second j q to in
      free j a.0 b.0 a.1 b.1 (b.2 ∙ given) (a.3 ∙ same)

  go_on : SidesGoOn r.homes r.homes r.hides r.hides d k Anything Anything
  go_on = record {
    values = λ v z h. h;
    given = λ c is. by_given c (is_given_mode c.mode);
    first = by_first;
    stacks = λ n z there kind live. (z.owned, there);
    free = λ n lt calm free. record { low = lt; shown = calm; free = free_still n free; home = refl };
    held = λ n size is hidden there. (hidden, there);
    blocks = λ n is. refl;
  }
    where
      by_given : (c : Activation) (b : Bool)
          → (if b then true else option_map_or (is_given t.world.memory) (instance_in w.instances c.instance) false)
          ≡ (if b then true else option_map_or (is_given t.world.memory) (instance_in t.instances c.instance) false)
      by_given c true = refl
      by_given c false = given_in t.world.memory t.instances i y y' second other c.instance

      by_first : (o : Option ℕ) (z : Instance) → instance_in s.instances o ≡ Some z
          → (q : Instance) × (instance_in u.instances o ≡ Some q) × (frame_address_of q ≡ frame_address_of z)
      by_first None z is = absurd (cc)
      by_first (Some j) z is = let a = set_first j z is in (a.0, a.1, a.2)

  mates : AreMates r.homes r.hides k
  mates = record {
    each = λ n z there calm free. r.mates.each n z there calm (free_still n free);
    alone = λ n c lt gt h j free none same.
        r.mates.alone n c lt gt h j (free_still n free) (free_still c none) same;
  }

  rights : frame_rights (framed e) u.instances ≡ frame_rights (framed e) s.instances
  rights = rights_same (framed e) s.instances u.instances (set_frames s.instances i x x' first kept)

  others : frame_rights (elided e) w.instances ≡ frame_rights (elided e) t.instances
  others = rights_same (elided e) t.instances w.instances (set_frames t.instances i y y' second other)

  world : AreOver (frame_rights (framed e) u.instances) (frame_rights (elided e) w.instances) r.homes r.hides (λ n. n)
      (counted t.world.allocs s.world) t.world
  world =
      subst (λ (p : Rights × Rights). AreOver p.0 p.1 r.homes r.hides (λ n. n) (counted t.world.allocs s.world) t.world)
      (λ j. (sym rights j, sym others j)) r.world

  instances : (j : ℕ) (p q : Instance) → slice_get u.instances j ≡ Some p → slice_get w.instances j ≡ Some q
      → AreInstances e r.homes t.world.memory p q
  instances j p q at to =
      by (was_set s.instances i x x' first j p at) (was_set t.instances i y y' second j q to)
    where
      by : (a : WasSet s.instances i x' j p) (b : WasSet t.instances i y' j q)
          → AreInstances e r.homes t.world.memory p q
      by a b = which a.is b.is
        where
          which : ((j ≡ i) × (p ≡ x')) ⊎ ((j ≢ i) × (p ≡ a.was)) → ((j ≡ i) × (q ≡ y')) ⊎ ((j ≢ i) × (q ≡ b.was))
              → AreInstances e r.homes t.world.memory p q
          which (inl f) (inl g) =
              subst (λ (z : Instance × Instance). AreInstances e r.homes t.world.memory z.0 z.1)
              (λ n. (sym f.1 n, sym g.1 n)) new
          which (inl f) (inr g) = absurd (g.0 f.0)
          which (inr f) (inl g) = absurd (f.0 g.0)
          which (inr f) (inr g) =
              subst (λ (z : Instance × Instance). AreInstances e r.homes t.world.memory z.0 z.1)
              (λ n. (sym f.1 n, sym g.1 n)) (r.instances j a.was b.was a.at b.at)

  pub changed_beside : AreElided e u w
  changed_beside = record {
    homes = r.homes;
    hides = r.hides;
    world = world;
    known = r.known;
    globals = r.globals;
    hidden = r.hidden;
    mates = mates;
    count = set_length t.instances i y' ∙ (r.count ∙ sym (set_length s.instances i x'));
    instances = instances;
    top = activation_on e r.homes r.homes r.hides r.hides d k Anything Anything go_on s.top t.top
        (any_others e s.top t.top) r.top;
    below = below_on e r.homes r.homes r.hides r.hides d k Anything Anything go_on s.below t.below
        (all_others e s.below t.below) r.below;
    once = r.once;
    allocs = r.allocs ∙ ap (λ (n : ℕ). capped (t.world.allocs + (n +
        held_blocks e (s.top ∷ s.below) (t.top ∷ t.below))))
        (sym (as_many_given t.world.memory t.instances i y y' second
        (is_given_still t.world.memory t.instances i y y' second other)));
    outcome = r.outcome;
  }
