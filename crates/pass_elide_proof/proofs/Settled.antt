-- Where both runs go on at two places the states stand beside each other, whatever was done to blocks.
use Rattle.std.proofs.Common.{◌≡◌, ◌≤◌, ◌+◌, inl, inr, ⊎_elim, ℕ, zero, suc, Bool, true, false, List, [], ◌∷◌, ◌++◌, length, Option, refl, sym, ap, ◌∙◌, subst, arith}
use Rattle.std.specs.Prelude.{None, Some, map}
use Rattle.pass_elide_proof.proofs.Onward.{GoesOn, KeepsAddress, SlotsStay, allocas_on, below_on, global_on, instance_on, same_frames, sides_with, was_same}
use Rattle.pass_elide_proof.proofs.OwnPlaces.{IsNewName, ahead_new}
use Rattle.pass_elide_proof.specs.Counts.{capped, counted, given_frames}
use Rattle.pass_elide_proof.specs.Elision.{Elision, Shape, differs_in, elided, framed, function_in, rooms}
use Rattle.pass_elide_proof.specs.Match.{AreActivations, AreAsked, AreElided, AreMates, AreNamed, AreReleased, HasAlloca, HasAllocas, HoldApart, HoldsBlock, IsAt, Sides, held_blocks, held_name, holds_one, is_given_mode, sides, was_given}
use Rattle.pass_elide_proof.specs.Ordinary.{with_at}
use Rattle.pass_elide_proof.specs.Places.{allocas_ahead}
use Rattle.pass_proofs.proofs.ir_laws.facts.Lists.{each_of_each}
use Rattle.pass_proofs.specs.ir_model.declared.instr.Instr.{Instr}
use Rattle.pass_proofs.specs.ir_paths.declared.point.Point.{Point}
use Rattle.pass_proofs.specs.run_framed.Framed.{at_point, frame_rights}
use Rattle.pass_proofs.specs.run_laws.changed.Changed.{Each}
use Rattle.pass_proofs.specs.run_laws.embedded.Deaths.{moved_slot}
use Rattle.pass_proofs.specs.run_laws.memory.Pointers.{Home, IsValue, home_of}
use Rattle.pass_proofs.specs.run_laws.transfer.Transfer.{AreOver}
use Rattle.pass_proofs.specs.run_source.State.{settled, with_slots}
use Rattle.pass_proofs.specs.run_source.declared.state.Activation.{Activation}
use Rattle.pass_proofs.specs.run_source.declared.state.State.{State}
use Rattle.pass_proofs.specs.run_step.Step.{Work}
use Rattle.pass_proofs.specs.run_step.Values.{Env, value_in}
use Rattle.pass_proofs.specs.run_step.declared.world.Slot.{Slot}

-- ---- truths

no_names : (own : List Slot) (is : List Instr) (P : Instr → Type 0) → own ≡ [] → length own ≡ length is → Each P is
no_names own [] P none same = tt
no_names own (i ∷ is) P none same =
    let empty : length own ≡ 0 = ap length none in absurd (more (length own) (length is) empty same)
  where
    more : (n k : ℕ) → n ≡ 0 → n ≡ suc k → ⊥
    more n k a c = omega (arith, a, c)

-- ---- the topmost activations behind it

-- an activation at another place, with other values and slots
abbrev pub ahead_of : Activation → Point → Env → List Slot → Activation
ahead_of a p values slots = record a { block = p.block; at = p.at; values = values; slots = slots }

-- one place further on
abbrev pub next_of : Activation → Point
next_of a = record { block = a.block; at = a.at + 1 }

-- Both go on at two places. What doesn't differ has values that stand for each other. What tells of a given frame, of
-- allocas put in front and of a block that is held stays.
pub record KeepsTop (e : Elision) (s t : State) (more : List Home) (p q : Point) (first second : Env) : Type 0 where
  pub place : (ss ts : List Slot)
      → IsAt e more (was_given (sides s t) t.top) (ahead_of s.top p first ss) (ahead_of t.top q second ts)
  pub values : (name : ℕ)
      → differs_in (e.shape s.top.func) (is_given_mode t.top.mode) (was_given (sides s t) t.top) name ≡ false
      → IsValue more (value_in first name) (value_in second name)
  pub room : length first ≤ length second
  pub need : is_given_mode t.top.mode ≡ true → (name : ℕ) → (e.shape s.top.func).need name ≡ true
      → (value_in first name ≡ value_in s.top.values name) × (value_in second name ≡ value_in t.top.values name)
  pub freed : was_given (sides s t) t.top ≡ true → (name : ℕ) → (e.shape s.top.func).freed name ≡ true
      → (value_in first name ≡ value_in s.top.values name) × (value_in second name ≡ value_in t.top.values name)
  pub tested : was_given (sides s t) t.top ≡ true → (name : ℕ) (p : Bool)
      → (e.shape s.top.func).tested name ≡ Some p
      → (value_in first name ≡ value_in s.top.values name) × (value_in second name ≡ value_in t.top.values name)
  pub in_front : (name : ℕ) → length (function_in e s.top.func).names ≤ name
      → value_in second name ≡ value_in t.top.values name
  pub holds : is_given_mode t.top.mode ≡ true
      → (e.shape s.top.func).holds p.block p.at ≡ (e.shape s.top.func).holds s.top.block s.top.at
  pub held : (name : ℕ) → is_given_mode t.top.mode ≡ true
      → (e.shape s.top.func).holds s.top.block s.top.at ≡ Some name
      → value_in first name ≡ value_in s.top.values name

-- ---- the states behind it

module _ (e : Elision) (s t : State) (n : ℕ) (r : AreElided e s (with_at t n))
    (made : length r.top.own ≡ length (allocas_ahead (rooms e s.top.func) (function_in e s.top.func)))
    (v y : Work) (more : List Home) (later : ℕ → Bool)
    (on : GoesOn (sides s t) v.world.memory y.world.memory r.homes more r.hides later)
    (p q : Point) (keeps : KeepsTop e s t more p q v.values y.values) where
  abbrev f : ℕ
  f = s.top.func

  abbrev x : Shape
  x = e.shape f

  abbrev d : Sides
  d = sides s t

  abbrev k : Sides
  k = sides_with d v.world.memory y.world.memory

  abbrev ramp : Bool
  ramp = is_given_mode t.top.mode

  -- the two topmost activations, with their slots
  abbrev ahead : List Slot → Activation
  ahead ss = ahead_of s.top p v.values ss

  abbrev ahead_too : List Slot → Activation
  ahead_too ts = ahead_of t.top q y.values ts

  -- the elided run's activation, where it stands by the relation
  abbrev before : Activation
  before = record t.top { at = n }

  now_given : was_given k t.top ≡ was_given d t.top
  now_given = was_same e d v.world.memory y.world.memory r.homes more r.hides later on t.top

  named : (ss ts : List Slot) → AreNamed e more (was_given k t.top) (ahead ss) (ahead_too ts)
  named ss ts = record {
    each = λ name calm.
        keeps.values name (ap (λ (b : Bool). differs_in x ramp b name) (sym now_given) ∙ calm);
    room = keeps.room;
  }

  -- ---- what coro.alloc and coro.free gave

  asked : (ss ts : List Slot) → ramp ≡ true → AreAsked x (ahead ss) (ahead_too ts)
  asked ss ts holds name is =
      let same = keeps.need holds name is in
      ⊎_elim (λ none. inl (same.0 ∙ none)) (λ both. inr (same.0 ∙ both.0, same.1 ∙ both.1))
      (r.top.asked holds name is)

  released : (ss ts : List Slot) → was_given k t.top ≡ true → AreReleased x k (ahead ss) (ahead_too ts)
  released ss ts given =
      let was : was_given d t.top ≡ true = sym now_given ∙ given in
      let old = r.top.released was in
      record {
        freed = λ name is. let same = keeps.freed was name is in
            ⊎_elim (λ none. inl (same.0 ∙ none))
            (λ both. inr (same.1 ∙ both.0, (both.1.0, both.1.1, same.0 ∙ both.1.2))) (old.freed name is);
        tested = λ name p is. let same = keeps.tested was name p is in
            ⊎_elim (λ none. inl (same.0 ∙ none)) (λ both. inr (same.0 ∙ both.0, same.1 ∙ both.1))
            (old.tested name p is);
      }

  -- ---- allocas put in front

  abbrev front : List Instr
  front = allocas_ahead (rooms e f) (function_in e f)

  keeps_address : (ts : List Slot) (j : Instr) → IsNewName (length (function_in e f).names) j
      → KeepsAddress e d v.world.memory y.world.memory r.homes more r.hides later on before (ahead_too ts) j
  keeps_address ts j new name size align is = keeps.in_front name (new name size align is)

  allocas : (ss ts : List Slot) (slots : List Slot) → length slots ≡ length front
      → HasAllocas e r.homes r.hides d s.top before slots
      → HasAllocas e more later k (ahead ss) (ahead_too ts) slots
  allocas ss ts slots same (inl first) =
      inr (no_names slots front (HasAlloca more later k (ahead_too ts) slots) first.2 same, same)
  allocas ss ts slots same (inr have) = inr (
    allocas_on e d v.world.memory y.world.memory r.homes more r.hides later on before (ahead_too ts) slots front
        (each_of_each (IsNewName (length (function_in e f).names))
        (KeepsAddress e d v.world.memory y.world.memory r.homes more r.hides later on before (ahead_too ts))
        (keeps_address ts) front (ahead_new (rooms e f) (function_in e f)))
        have.0,
    same,
  )

  -- ---- what the activation holds

  same_held : (b : Bool) (ss : List Slot) → ramp ≡ b → held_name e b (ahead ss) ≡ held_name e b s.top
  same_held true ss is = keeps.holds is
  same_held false ss is = refl

  held_value : (b : Bool) (name : ℕ) → ramp ≡ b → held_name e b s.top ≡ Some name
      → value_in v.values name ≡ value_in s.top.values name
  held_value true name is holds = keeps.held name is holds
  held_value false name is holds = absurd (cc)

  held_by : (ss : List Slot) (o : Option ℕ) → held_name e ramp s.top ≡ o
      → HoldsBlock r.hides d.memory s.top o
      → HoldsBlock later v.world.memory (ahead ss) o
  held_by ss None is h = tt
  held_by ss (Some name) is h =
      let still = on.held h.block h.size h.hidden h.there in
      record {
        block = h.block;
        size = h.size;
        address = held_value ramp name refl is ∙ h.address;
        hidden = still.0;
        there = still.1;
      }

  held : (ss : List Slot) → HoldsBlock later v.world.memory (ahead ss) (held_name e ramp (ahead ss))
  held ss =
      subst (λ (o : Option ℕ). HoldsBlock later v.world.memory (ahead ss) o)
      (sym (same_held ramp ss refl)) (held_by ss (held_name e ramp s.top) refl r.top.held)

  -- ---- the activation

  top : (ss ts : List Slot) → ts ≡ map (moved_slot more) ss ++ r.top.own
      → AreActivations e more later k (ahead ss) (ahead_too ts)
  top ss ts same = record {
    func = r.top.func;
    result = r.top.result;
    instance = r.top.instance;
    has_left = r.top.has_left;
    mode = r.top.mode;
    place = subst (λ (b : Bool). IsAt e more b (ahead ss) (ahead_too ts)) (sym now_given) (keeps.place ss ts);
    values = named ss ts;
    asked = asked ss ts;
    released = released ss ts;
    own = r.top.own;
    slots = same;
    allocas = allocas ss ts r.top.own made r.top.allocas;
    held = held ss;
  }

  -- ---- blocks that are held are different ones

  once : (ss ts : List Slot) → HoldApart e (ahead ss ∷ s.below) (ahead_too ts ∷ t.below)
  once ss ts zero zero p q a b c h ne ea eb ec eh ha hb same = ne refl
  once ss ts zero (suc j) p q a b c h ne ea eb ec eh ha hb same =
      let first : ahead ss ≡ a = cc in
      let other : ahead_too ts ≡ c = cc in
      let old : held_name e ramp s.top ≡ Some p
      = sym (same_held ramp ss refl) ∙ ((λ l. held_name e (is_given_mode (other l).mode) (first l)) ∙ ha) in
      let value : value_in s.top.values p ≡ value_in a.values p
      = sym (held_value ramp p refl old) ∙ (λ l. value_in (first l).values p) in
      r.once zero (suc j) p q s.top b before h ne refl eb refl eh old hb (value ∙ same)
  once ss ts (suc m) zero p q a b c h ne ea eb ec eh ha hb same =
      let first : ahead ss ≡ b = cc in
      let other : ahead_too ts ≡ h = cc in
      let old : held_name e ramp s.top ≡ Some q
      = sym (same_held ramp ss refl) ∙ ((λ l. held_name e (is_given_mode (other l).mode) (first l)) ∙ hb) in
      let value : value_in s.top.values q ≡ value_in b.values q
      = sym (held_value ramp q refl old) ∙ (λ l. value_in (first l).values q) in
      r.once (suc m) zero p q a s.top c before ne ea refl ec refl ha old (same ∙ sym value)
  once ss ts (suc m) (suc j) p q a b c h ne ea eb ec eh ha hb same =
      r.once (suc m) (suc j) p q a b c h ne ea eb ec eh ha hb same

  -- ---- counts

  abbrev total : State → List Activation → List Activation → ℕ
  total u bs cs = given_frames u + held_blocks e bs cs

  same_total : (ss ts : List Slot)
      → total (with_slots (at_point (settled t y) q) ts) (ahead ss ∷ s.below) (ahead_too ts ∷ t.below)
      ≡ total t (s.top ∷ s.below) (t.top ∷ t.below)
  same_total ss ts =
      λ j. same_frames e d v.world.memory y.world.memory r.homes more r.hides later on j
      + (holds_one (same_held ramp ss refl j) + held_blocks e s.below t.below)

  -- ---- the states

  module _ (over : AreOver (frame_rights (framed e) s.instances) (frame_rights (elided e) t.instances) more later
      (λ d. d) (counted y.world.allocs v.world) y.world)
      (known : length more ≡ length v.world.memory)
      (hidden : (b : ℕ) → later b ≡ true → (home_of more b).is_seen ≡ false)
      (mates : AreMates more later (sides_with (sides s t) v.world.memory y.world.memory))
      (below : Each (SlotsStay e (sides s t) v.world.memory y.world.memory r.homes more r.hides later on) s.below)
      (counts : (more : ℕ) → s.world.allocs ≡ capped (t.world.allocs + more)
      → v.world.allocs ≡ capped (y.world.allocs + more)) where
    pub settles : (ss ts : List Slot) → ts ≡ map (moved_slot more) ss ++ r.top.own
        → AreElided e (with_slots (at_point (settled s v) p) ss) (with_slots (at_point (settled t y) q) ts)
    settles ss ts same = record {
      homes = more;
      hides = later;
      world = over;
      known = known;
      globals = λ b lt. global_on e d v.world.memory y.world.memory r.homes more r.hides later on b (r.globals b lt);
      hidden = hidden;
      mates = mates;
      count = r.count;
      instances = λ j a b at to.
          instance_on e d v.world.memory y.world.memory r.homes more r.hides later on j a b to
          (r.instances j a b at to);
      top = top ss ts same;
      below = below_on e d v.world.memory y.world.memory r.homes more r.hides later on s.below t.below below r.below;
      once = once ss ts;
      allocs = counts (total t (s.top ∷ s.below) (t.top ∷ t.below)) r.allocs
          ∙ ap (λ (j : ℕ). capped (y.world.allocs + j)) (sym (same_total ss ts));
      outcome = r.outcome;
    }
