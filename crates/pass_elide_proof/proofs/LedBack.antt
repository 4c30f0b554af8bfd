-- An activation that may end leads back to its caller in both runs.
use Rattle.std.proofs.Common.{◌≡◌, ◌+◌, ◌∙◌, ◌∷◌, [], ap, Bool, false, List, Ok, Option, refl, subst, sym, true, ℕ}
use Rattle.std.specs.Prelude.{unwrap_or}
use Rattle.pass_elide_proof.proofs.Apart.{apart_less, apart_same, held_more}
use Rattle.pass_elide_proof.proofs.Deaths.{below_dead, count_dead, instances_dead, known_dead, mates_dead, now, world_dead}
use Rattle.pass_elide_proof.proofs.GivenBack.{given_back_beside, held_stays}
use Rattle.pass_elide_proof.specs.Calling.{AreReady, at_front}
use Rattle.pass_elide_proof.specs.Counts.{capped}
use Rattle.pass_elide_proof.specs.Elision.{Elision}
use Rattle.pass_elide_proof.specs.Match.{AreActivations, AreBelow, AreElided, HoldApart, held_blocks, held_name, holds_one, is_given_mode, sides}
use Rattle.pass_elide_proof.specs.Returning.{MayEnd, ReturnsTo, SetsAlike}
use Rattle.pass_proofs.specs.run_laws.memory.Pointers.{IsValue}
use Rattle.pass_proofs.specs.run_memory.declared.pointer.Value.{Value}
use Rattle.pass_proofs.specs.run_source.Source.{given_back, pop, return, returned}
use Rattle.pass_proofs.specs.run_source.declared.state.Activation.{Activation}
use Rattle.pass_proofs.specs.run_source.declared.state.State.{State}

module _ (e : Elision) (s t : State) (r : AreReady e s t) (k : MayEnd e s t) (v u : Option Value)
    (stands : IsValue r.beside.homes (unwrap_or v Value.Poison) (unwrap_or u Value.Poison)) where
  abbrev after : Activation → List Activation → State
  after a rest = record (returned s) { top = given_back a s.top.result v; below = rest }

  abbrev other : Activation → List Activation → State
  other c rest = record (returned t) { top = given_back c t.top.result u; below = rest }

  module _ (a : Activation) (rest : List Activation) (c : Activation) (others : List Activation)
      (below : s.below ≡ a ∷ rest) (under : t.below ≡ c ∷ others) (sets : SetsAlike e a s.top.result) where
    rows : AreBelow e r.beside.homes r.beside.hides (now e s t r k) (a ∷ rest) (c ∷ others)
    rows =
        subst (λ (p : List Activation × List Activation). AreBelow e r.beside.homes r.beside.hides (now e s t r k)
        p.0 p.1) (λ j. (below j, under j)) (below_dead e s t r k)

    top : AreActivations e r.beside.homes r.beside.hides (now e s t r k) (given_back a s.top.result v)
        (given_back c s.top.result u)
    top =
        given_back_beside e r.beside.homes r.beside.hides (now e s t r k) a c rows.0.1 rows.0.0 s.top.result sets
        (unwrap_or v Value.Poison) (unwrap_or u Value.Poison) stands

    same_name : (b : Bool) → held_name e b (given_back a s.top.result v) ≡ held_name e b a
    same_name true = refl
    same_name false = refl

    -- all but the topmost hold what they held
    apart_below : HoldApart e (a ∷ rest) (c ∷ others)
    apart_below =
        subst (λ (p : List Activation × List Activation). HoldApart e p.0 p.1) (λ j. (below j, under j))
        (apart_less e s.below t.below s.top (at_front e s t).top r.beside.once)

    once : HoldApart e (given_back a s.top.result v ∷ rest) (given_back c s.top.result u ∷ others)
    once =
        apart_same e rest others a c (given_back a s.top.result v) (given_back c s.top.result u)
        (same_name (is_given_mode c.mode))
        (λ w is. held_stays e r.beside.homes r.beside.hides (now e s t r k) a c rows.0.1 rows.0.0 s.top.result sets
        (unwrap_or v Value.Poison) (unwrap_or u Value.Poison) stands w is) apart_below

    same_held : held_blocks e (s.top ∷ s.below) ((at_front e s t).top ∷ t.below)
        ≡ held_blocks e (given_back a s.top.result v ∷ rest) (given_back c s.top.result u ∷ others)
    same_held =
        held_more e s.below t.below s.top (at_front e s t).top k.held
        ∙ ((λ j. held_blocks e (below j) (under j))
        ∙ ap (λ (o : Option ℕ). holds_one o + held_blocks e rest others) (sym (same_name (is_given_mode c.mode))))

    beside : AreElided e (after a rest)
        (record (returned t) { top = given_back c s.top.result u; below = others })
    beside = record {
      homes = r.beside.homes;
      hides = r.beside.hides;
      world = world_dead e s t r k;
      known = known_dead e s t r k;
      globals = r.beside.globals;
      hidden = r.beside.hidden;
      mates = mates_dead e s t r k;
      count = r.beside.count;
      instances = instances_dead e s t r k;
      top = top;
      below = rows.1;
      once = once;
      allocs = r.beside.allocs
          ∙ (λ j. capped (t.world.allocs + (sym (count_dead e s t r k) j + same_held j)));
      outcome = r.beside.outcome;
    }

    to_caller : AreElided e (after a rest) (other c others)
    to_caller =
        subst (λ (o : Option ℕ). AreElided e (after a rest)
        (record (returned t) { top = given_back c o u; below = others })) (sym r.beside.top.result) beside

  by_rows : (bs cs : List Activation) → AreBelow e r.beside.homes r.beside.hides (sides s t) bs cs
      → (a : Activation) (rest : List Activation) → bs ≡ a ∷ rest
      → (c : Activation) × (others : List Activation) × (cs ≡ c ∷ others)
  by_rows [] cs h a rest e = absurd (cc)
  by_rows (b ∷ bs) [] h a rest e = absurd h
  by_rows (b ∷ bs) (c ∷ cs) h a rest e = (c, cs, refl)

  -- both return, and the states behind it stand beside each other
  pub led_back : ReturnsTo e s
      → (a : State) × ((b : State) × ((return s v ≡ Ok a) × ((return t u ≡ Ok b) × AreElided e a b)))
  led_back to =
      let row = by_rows s.below t.below r.beside.below to.caller to.rest to.below in (
        after to.caller to.rest,
        (
          other row.0 row.1,
          (
            ap (pop (returned s) v) to.below,
            (
              ap (pop (returned t) u) row.2,
              to_caller to.caller to.rest row.0 row.1 to.below row.2 to.sets,
            ),
          ),
        ),
      )
