-- Both runs go back to the activations below.
use Rattle.std.proofs.Common.{◌≡◌, ◌≢◌, ◌+◌, ℕ, zero, suc, Bool, true, false, List, [], ◌∷◌, refl, sym, ap, ◌∙◌, subst, arith}
use Rattle.std.specs.Prelude.{None, Option, Some, slice_get}
use Rattle.pass_elide_proof.specs.Counts.{capped, given_frames}
use Rattle.pass_elide_proof.specs.Elision.{Elision}
use Rattle.pass_elide_proof.specs.Match.{AreActivations, AreBelow, AreElided, HoldApart, Sides, held_blocks, held_name, holds_one, is_given_mode, sides}
use Rattle.pass_proofs.specs.run_laws.memory.Pointers.{Home}
use Rattle.pass_proofs.specs.run_source.declared.state.Activation.{Activation}
use Rattle.pass_proofs.specs.run_source.declared.state.State.{State}

-- there is one below in the second run too
pub below_too : (e : Elision) (homes : List Home) (hides : ℕ → Bool) (d : Sides) (bs cs : List Activation)
    → AreBelow e homes hides d bs cs → (a : Activation) (more : List Activation) → bs ≡ a ∷ more
    → (c : Activation) × (others : List Activation) × (cs ≡ c ∷ others)
below_too e homes hides d [] cs h a more is = absurd (cc)
below_too e homes hides d (b ∷ bs) [] h a more is = absurd h
below_too e homes hides d (b ∷ bs) (c ∷ cs) h a more is = (c, cs, refl)

apart_below : (e : Elision) (x y : Activation) (bs cs : List Activation) → HoldApart e (x ∷ bs) (y ∷ cs)
    → HoldApart e bs cs
apart_below e x y bs cs h j k u v a b c d ne ea eb ec ed ha hb =
    h (suc j) (suc k) u v a b c d (λ is. ne (omega (arith, is))) ea eb ec ed ha hb

none_held : (e : Elision) (a : Activation) (mode : Bool) → mode ≡ false → holds_one (held_name e mode a) ≡ 0
none_held e a false is = refl
none_held e a true is = absurd (cc)

module _ (e : Elision) (s t : State) (r : AreElided e s t) (a c : Activation) (bs cs : List Activation)
    (first : s.below ≡ a ∷ bs) (second : t.below ≡ c ∷ cs) (ramp : is_given_mode t.top.mode ≡ false) where
  both_below : AreBelow e r.homes r.hides (sides s t) (a ∷ bs) (c ∷ cs)
  both_below =
      subst (λ (p : List Activation × List Activation). AreBelow e r.homes r.hides (sides s t) p.0 p.1)
      (λ i. (first i, second i)) r.below

  once : HoldApart e (a ∷ bs) (c ∷ cs)
  once =
      apart_below e s.top t.top (a ∷ bs) (c ∷ cs)
      (subst (λ (p : List Activation × List Activation). HoldApart e (s.top ∷ p.0) (t.top ∷ p.1))
      (λ i. (first i, second i)) r.once)

  allocs : s.world.allocs ≡ capped (t.world.allocs + (given_frames t + held_blocks e (a ∷ bs) (c ∷ cs)))
  allocs =
      r.allocs
      ∙ ((λ i. capped (t.world.allocs + (given_frames t + (none_held e s.top (is_given_mode t.top.mode) ramp i
      + held_blocks e (first i) (second i)))))
      ∙ ap (λ (n : ℕ). capped (t.world.allocs + (given_frames t + n))) (nothing (held_blocks e (a ∷ bs) (c ∷ cs))))
    where
      nothing : (n : ℕ) → 0 + n ≡ n
      nothing n = omega arith

  pub popped : AreElided e (record s { top = a; below = bs }) (record t { top = c; below = cs })
  popped = record {
    homes = r.homes;
    hides = r.hides;
    world = r.world;
    known = r.known;
    globals = r.globals;
    hidden = r.hidden;
    mates = r.mates;
    count = r.count;
    instances = r.instances;
    top = both_below.0.1;
    below = both_below.1;
    once = once;
    allocs = allocs;
    outcome = r.outcome;
  }
