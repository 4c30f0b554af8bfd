-- Both runs go on behind a call that gives a value.
use Rattle.std.proofs.Common.{◌≡◌, ◌⊎◌, ◌<◌, ◌≤◌, ◌+◌, inl, inr, ℕ, zero, suc, Bool, true, false, not, List, [], ◌∷◌, ◌++◌, length, refl, sym, ap, ◌∙◌, subst, arith}
use Rattle.std.proofs.lemmas.List.{length-set}
use Rattle.std.specs.Prelude.{None, Option, Some, map}
use Rattle.pass_elide.specs.Elided.{frame_allocas, function_frames}
use Rattle.pass_elide.specs.declared.given.GivenFrame.{GivenFrame}
use Rattle.pass_elide_proof.proofs.Sized.{other_value}
use Rattle.pass_elide_proof.specs.Counts.{capped, given_frames}
use Rattle.pass_elide_proof.specs.Elision.{Elision, Shape, differs_in, function_in, rooms}
use Rattle.pass_elide_proof.specs.Match.{AreActivations, AreAsked, AreElided, AreModes, AreNamed, AreReleased, Beside, HasAlloca, HasAllocas, HoldApart, HoldsBlock, IsAt, Sides, held_blocks, held_name, holds_one, instance_in, is_given_mode, sides, was_given}
use Rattle.pass_elide_proof.specs.Places.{allocas_ahead, front_at, own_at}
use Rattle.pass_proofs.proofs.ir_laws.facts.Truth.{either}
use Rattle.pass_proofs.specs.ir_model.Ty.{array, int}
use Rattle.pass_proofs.specs.ir_model.declared.instr.Instr.{Instr}
use Rattle.pass_proofs.specs.run_laws.changed.Changed.{Each}
use Rattle.pass_proofs.specs.run_laws.embedded.Deaths.{moved_slot}
use Rattle.pass_proofs.specs.run_laws.memory.Pointers.{Home, IsValue}
use Rattle.pass_proofs.specs.run_memory.declared.block.MemoryBlock.{MemoryBlock}
use Rattle.pass_proofs.specs.run_memory.declared.pointer.Pointer.{Pointer}
use Rattle.pass_proofs.specs.run_memory.declared.pointer.Value.{Value}
use Rattle.pass_proofs.specs.run_source.State.{frame_address_of, gives, with_left}
use Rattle.pass_proofs.specs.run_source.declared.state.Activation.{Activation}
use Rattle.pass_proofs.specs.run_source.declared.state.Instance.{Instance}
use Rattle.pass_proofs.specs.run_source.declared.state.State.{State}
use Rattle.pass_proofs.specs.run_step.Values.{Env, truth_value, value_in, with_result, with_value}
use Rattle.pass_proofs.specs.run_step.declared.world.Slot.{Slot}

-- ---- a name that is set in both

pub other_than : (env : Env) (result : Option ℕ) (u : ℕ) (w : Value) → (result ≡ Some u → ⊥)
    → value_in (with_result env result w) u ≡ value_in env u
other_than env None u w ne = refl
other_than env (Some v) u w ne = other_value env v u w (λ same. ne (ap Some (sym same)))

pub as_long : (env : Env) (result : Option ℕ) (w : Value) → length (with_result env result w) ≡ length env
as_long env None w = refl
as_long env (Some v) w = length-set env v (Some w)

module _ (P : Value → Value → Type 0) (none : (z : Value) → P Value.Poison z) where
  set_name : (env other : Env) (n : ℕ) (v w : Value) → length env ≤ length other → P v w
      → P (value_in (with_value env n v) n) (value_in (with_value other n w) n)
  set_name [] other n v w le h = none (value_in (with_value other n w) n)
  set_name (a ∷ rs) [] n v w le h = absurd (omega (arith, le))
  set_name (a ∷ rs) (c ∷ cs) zero v w le h = h
  set_name (a ∷ rs) (c ∷ cs) (suc n) v w le h = set_name rs cs n v w (omega (arith, le)) h

  pub set_alike : (env other : Env) (result : Option ℕ) (u : ℕ) (v w : Value) → length env ≤ length other
      → (result ≡ Some u → P v w) → P (value_in env u) (value_in other u)
      → P (value_in (with_result env result v) u) (value_in (with_result other result w) u)
  set_alike env other None u v w le new old = old
  set_alike env other (Some n) u v w le new old = on (either u n)
    where
      on : (u ≡ n) ⊎ (u ≡ n → ⊥) → P (value_in (with_value env n v) u) (value_in (with_value other n w) u)
      on (inl same) =
          subst (λ (k : ℕ). P (value_in (with_value env k v) u) (value_in (with_value other k w) u)) same
          (set_name env other u v w le (new (ap Some (sym same))))
      on (inr ne) =
          subst (λ (p : Value × Value). P p.0 p.1)
          (λ i. (sym (other_value env n u v ne) i, sym (other_value other n u w ne) i)) old

-- ---- what is asked of the place, and of the values

-- Both stand at the call itself.
pub record IsHere (e : Elision) (a c : Activation) : Type 0 where
  pub block : c.block ≡ a.block
  pub own : c.at ≡ own_at (rooms e a.func) (function_in e a.func) a.block a.at

-- All that stands in front of the call has been executed. At the first place that is nothing, where no alloca was made.
pub record IsOwnPlace (e : Elision) (a c : Activation) : Type 0 where
  pub block : c.block ≡ a.block
  pub starts : a.block ≡ 0 → a.at ≡ 0 → allocas_ahead (rooms e a.func) (function_in e a.func) ≡ []
  pub own : c.at ≡ own_at (rooms e a.func) (function_in e a.func) a.block a.at

abbrev pub IsAskedTo : Value → Value → Type 0
IsAskedTo v w = (v ≡ Value.Poison) ⊎ ((v ≡ truth_value true) × (w ≡ truth_value false))

abbrev pub IsFreedTo : Sides → Activation → Value → Value → Type 0
IsFreedTo d a v w =
    (v ≡ Value.Poison)
    ⊎ ((w ≡ Value.Ptr Pointer.Null)
    × ((y : Instance) × (instance_in d.first a.instance ≡ Some y) × (v ≡ frame_address_of y)))

abbrev pub IsTestedTo : Bool → Value → Value → Type 0
IsTestedTo is_eq v w =
    (v ≡ Value.Poison) ⊎ ((v ≡ truth_value (not is_eq)) × (w ≡ truth_value is_eq))

pub record SetsAlike (e : Elision) (homes : List Home) (d : Sides) (a c : Activation) (result : Option ℕ)
    (v w : Value) : Type 0 where
  pub names : (n : ℕ) → result ≡ Some n → n < length (function_in e a.func).names
  pub alike : (n : ℕ) → result ≡ Some n
      → differs_in (e.shape a.func) (is_given_mode c.mode) (was_given d c) n ≡ false → IsValue homes v w
  pub asked : (n : ℕ) → result ≡ Some n → is_given_mode c.mode ≡ true → (e.shape a.func).need n ≡ true
      → IsAskedTo v w
  pub freed : (n : ℕ) → result ≡ Some n → was_given d c ≡ true → (e.shape a.func).freed n ≡ true
      → IsFreedTo d a v w
  pub tested : (n : ℕ) (is_eq : Bool) → result ≡ Some n → was_given d c ≡ true
      → (e.shape a.func).tested n ≡ Some is_eq → IsTestedTo is_eq v w

-- an activation behind such a call
abbrev pub went : Activation → Option ℕ → Value → Bool → Activation
went a result v has_left =
    record a { at = a.at + 1; values = with_result a.values result v; has_left = has_left }

-- ---- what an activation has but the block that it holds

pub record AreActing (e : Elision) (homes : List Home) (hides : ℕ → Bool) (d : Sides) (a c : Activation)
    : Type 0 where
  pub func : c.func ≡ a.func
  pub result : c.result ≡ a.result
  pub instance : c.instance ≡ a.instance
  pub has_left : c.has_left ≡ a.has_left
  pub mode : AreModes a.mode c.mode
  pub values : AreNamed e homes (was_given d c) a c
  pub asked : is_given_mode c.mode ≡ true → AreAsked (e.shape a.func) a c
  pub released : was_given d c ≡ true → AreReleased (e.shape a.func) d a c
  pub own : List Slot
  pub slots : c.slots ≡ map (moved_slot homes) a.slots ++ own
  pub allocas : HasAllocas e homes hides d a c own

module _ (e : Elision) (homes : List Home) (hides : ℕ → Bool) (d : Sides) (a c : Activation) where
  pub acting : AreActivations e homes hides d a c → AreActing e homes hides d a c
  acting h = record {
    func = h.func;
    result = h.result;
    instance = h.instance;
    has_left = h.has_left;
    mode = h.mode;
    values = h.values;
    asked = h.asked;
    released = h.released;
    own = h.own;
    slots = h.slots;
    allocas = h.allocas;
  }

  pub held_too : IsAt e homes (was_given d c) a c → AreActing e homes hides d a c
      → HoldsBlock hides d.memory a (held_name e (is_given_mode c.mode) a)
      → AreActivations e homes hides d a c
  held_too place h held = record {
    func = h.func;
    result = h.result;
    instance = h.instance;
    has_left = h.has_left;
    mode = h.mode;
    place = place;
    values = h.values;
    asked = h.asked;
    released = h.released;
    own = h.own;
    slots = h.slots;
    allocas = h.allocas;
    held = held;
  }

-- ---- the activation behind the call

module _ (e : Elision) (homes : List Home) (hides : ℕ → Bool) (d : Sides) (a c : Activation) (result : Option ℕ)
    (v w : Value) (left other_left : Bool) (h : AreActing e homes hides d a c) (p : IsHere e a c)
    (starts : (a.block ≡ 0) × (a.at ≡ 0) × (h.own ≡ [])
    → allocas_ahead (rooms e a.func) (function_in e a.func) ≡ [])
    (k : SetsAlike e homes d a c result v w) (leaves : other_left ≡ left) where
  abbrev b : Activation
  b = went a result v left

  abbrev g : Activation
  g = went c result w other_left

  abbrev x : Shape
  x = e.shape a.func

  abbrev ahead_of : List Instr
  ahead_of = allocas_ahead (rooms e a.func) (function_in e a.func)

  named : AreNamed e homes (was_given d c) b g
  named = record {
    each = λ u calm.
        set_alike (IsValue homes) (λ z. tt) a.values c.values result u v w h.values.room
        (λ is. k.alike u is calm) (h.values.each u calm);
    room =
        let few = as_long a.values result v in
        let many = as_long c.values result w in
        let old = h.values.room in
        omega (arith, few, many, old);
  }

  asked : is_given_mode c.mode ≡ true → AreAsked x b g
  asked ramp u is =
      set_alike IsAskedTo (λ z. inl refl) a.values c.values result u v w h.values.room
      (λ set. k.asked u set ramp is) (h.asked ramp u is)

  released : was_given d c ≡ true → AreReleased x d b g
  released given = record {
    freed = λ u is.
        set_alike (IsFreedTo d a) (λ z. inl refl) a.values c.values result u v w h.values.room
        (λ set. k.freed u set given is) ((h.released given).freed u is);
    tested = λ u is_eq is.
        set_alike (IsTestedTo is_eq) (λ z. inl refl) a.values c.values result u v w h.values.room
        (λ set. k.tested u is_eq set given is) ((h.released given).tested u is_eq is);
  }

  -- allocas in front have new names
  alloca_on : (q size align : ℕ) → ((n : ℕ) → result ≡ Some n → n < q)
      → HasAlloca homes hides d c h.own (Instr.Alloca q (array size (int 8)) align)
      → HasAlloca homes hides d g h.own (Instr.Alloca q (array size (int 8)) align)
  alloca_on q size align low z = record {
    name = z.name;
    size = z.size;
    align = z.align;
    is = z.is;
    block = z.block;
    address = other_than c.values result z.name w (new z.name (named_as z.name z.size z.align z.is)) ∙ z.address;
    slot = z.slot;
    there = z.there;
    is_there = z.is_there;
    kind = z.kind;
    live = z.live;
    sized = z.sized;
    full = z.full;
    free = z.free;
  }
    where
      named_as : (name other place : ℕ)
          → Instr.Alloca q (array size (int 8)) align ≡ Instr.Alloca name (array other (int 8)) place → q ≡ name
      named_as name other place is = cc

      new : (name : ℕ) → q ≡ name → result ≡ Some name → ⊥
      new name same set = let lt = low name set in omega (arith, lt, same)

  allocas_on : (q : ℕ) (rs : List GivenFrame) → ((n : ℕ) → result ≡ Some n → n < q)
      → Each (HasAlloca homes hides d c h.own) (frame_allocas q rs)
      → Each (HasAlloca homes hides d g h.own) (frame_allocas q rs)
  allocas_on q [] low z = tt
  allocas_on q (GivenFrame.Alloca size align ∷ rs) low z =
      (alloca_on q size align low z.0, allocas_on (q + 1) rs (λ n set. let lt = low n set in omega (arith, lt)) z.1)
  allocas_on q (GivenFrame.Field base distance ∷ rs) low z =
      allocas_on (q + 1) rs (λ n set. let lt = low n set in omega (arith, lt)) z

  all_allocas : HasAllocas e homes hides d a c h.own → HasAllocas e homes hides d b g h.own
  all_allocas (inl start) =
      let none = starts start in
      inr (
        subst (λ (is : List Instr). Each (HasAlloca homes hides d g h.own) is) (sym none) tt,
        ap (λ (ss : List Slot). length ss) start.2 ∙ sym (ap (λ (is : List Instr). length is) none),
      )
  all_allocas (inr made) =
      inr (
        allocas_on (length (function_in e a.func).names) (function_frames (rooms e a.func) (function_in e a.func))
            k.names made.0,
        made.1,
      )

  next_at : g.at ≡ front_at (rooms e a.func) (function_in e a.func) a.block b.at
  next_at =
      let s : suc a.at ≡ a.at + 1 = omega arith in
      ap (λ (n : ℕ). n + 1) p.own ∙ ap (front_at (rooms e a.func) (function_in e a.func) a.block) s

  pub went_place : IsAt e homes (was_given d g) b g
  went_place = Beside p.block next_at

  pub went_on : AreActing e homes hides d b g
  went_on = record {
    func = h.func;
    result = h.result;
    instance = h.instance;
    has_left = leaves;
    mode = h.mode;
    values = named;
    asked = asked;
    released = released;
    own = h.own;
    slots = h.slots;
    allocas = all_allocas h.allocas;
  }

-- ---- what is held stays held

module _ (e : Elision) (hides : ℕ → Bool) (memory : List MemoryBlock) (a : Activation) (given : Bool)
    (result : Option ℕ) (v : Value) (left : Bool)
    (holds : held_name e given (went a result v left) ≡ held_name e given a)
    (kept : (name : ℕ) → held_name e given a ≡ Some name → result ≡ Some name → ⊥) where
  by_name : (o : Option ℕ) → held_name e given a ≡ o → HoldsBlock hides memory a o
      → HoldsBlock hides memory (went a result v left) o
  by_name None is z = tt
  by_name (Some name) is z = record {
    block = z.block;
    size = z.size;
    address = other_than a.values result name v (kept name is) ∙ z.address;
    hidden = z.hidden;
    there = z.there;
  }

  pub still_held : HoldsBlock hides memory a (held_name e given a)
      → HoldsBlock hides memory (went a result v left)
      (held_name e given (went a result v left))
  still_held z =
      subst (λ (o : Option ℕ). HoldsBlock hides memory (went a result v left) o) (sym holds)
      (by_name (held_name e given a) refl z)

module _ (e : Elision) (a b c g : Activation) (bs cs : List Activation)
    (holds : held_name e (is_given_mode g.mode) b ≡ held_name e (is_given_mode c.mode) a)
    (kept : (name : ℕ) → held_name e (is_given_mode c.mode) a ≡ Some name
    → value_in b.values name ≡ value_in a.values name) (once : HoldApart e (a ∷ bs) (c ∷ cs)) where
  pub still_apart : HoldApart e (b ∷ bs) (g ∷ cs)
  still_apart zero zero p q i j y z ne ei ej ey ez hi hj same = ne refl
  still_apart zero (suc n) p q i j y z ne ei ej ey ez hi hj same =
      let first : b ≡ i = cc in
      let other : g ≡ y = cc in
      let old : held_name e (is_given_mode c.mode) a ≡ Some p
      = sym holds ∙ ((λ k. held_name e (is_given_mode (other k).mode) (first k)) ∙ hi) in
      let value : value_in a.values p ≡ value_in i.values p = sym (kept p old) ∙ (λ k. value_in (first k).values p) in
      once zero (suc n) p q a j c z ne refl ej refl ez old hj (value ∙ same)
  still_apart (suc m) zero p q i j y z ne ei ej ey ez hi hj same =
      let first : b ≡ j = cc in
      let other : g ≡ z = cc in
      let old : held_name e (is_given_mode c.mode) a ≡ Some q
      = sym holds ∙ ((λ k. held_name e (is_given_mode (other k).mode) (first k)) ∙ hj) in
      let value : value_in a.values q ≡ value_in j.values q = sym (kept q old) ∙ (λ k. value_in (first k).values q) in
      once (suc m) zero p q i a y c ne ei refl ey refl hi old (same ∙ sym value)
  still_apart (suc m) (suc n) p q i j y z ne ei ej ey ez hi hj same =
      once (suc m) (suc n) p q i j y z ne ei ej ey ez hi hj same

-- an activation that holds nothing is apart from all
module _ (e : Elision) (a b c g : Activation) (bs cs : List Activation)
    (none : held_name e (is_given_mode g.mode) b ≡ None) (once : HoldApart e (a ∷ bs) (c ∷ cs)) where
  no_name : (o : Option ℕ) (p : ℕ) → o ≡ None → o ≡ Some p → ⊥
  no_name None p e f = absurd (cc)
  no_name (Some q) p e f = absurd (cc)

  pub none_apart : HoldApart e (b ∷ bs) (g ∷ cs)
  none_apart zero zero p q i j y z ne ei ej ey ez hi hj same = ne refl
  none_apart zero (suc n) p q i j y z ne ei ej ey ez hi hj same =
      let first : b ≡ i = cc in
      let other : g ≡ y = cc in
      no_name (held_name e (is_given_mode g.mode) b) p none
      ((λ k. held_name e (is_given_mode (other k).mode) (first k)) ∙ hi)
  none_apart (suc m) zero p q i j y z ne ei ej ey ez hi hj same =
      let first : b ≡ j = cc in
      let other : g ≡ z = cc in
      no_name (held_name e (is_given_mode g.mode) b) q none
      ((λ k. held_name e (is_given_mode (other k).mode) (first k)) ∙ hj)
  none_apart (suc m) (suc n) p q i j y z ne ei ej ey ez hi hj same =
      once (suc m) (suc n) p q i j y z ne ei ej ey ez hi hj same

-- ---- the states

module _ (e : Elision) (s t : State) (r : AreElided e s t) (result : Option ℕ) (v w : Value) (left other_left : Bool)
    (leaves : other_left ≡ left) (p : IsOwnPlace e s.top t.top)
    (k : SetsAlike e r.homes (sides s t) s.top t.top result v w)
    (holds : held_name e (is_given_mode t.top.mode) (went s.top result v left)
    ≡ held_name e (is_given_mode t.top.mode) s.top)
    (kept : (name : ℕ) → held_name e (is_given_mode t.top.mode) s.top ≡ Some name → result ≡ Some name → ⊥) where
  abbrev d : Sides
  d = sides s t

  abbrev a : Activation
  a = went s.top result v left

  abbrev c : Activation
  c = went t.top result w other_left

  here : IsHere e s.top t.top
  here = record { block = p.block; own = p.own }

  top : AreActivations e r.homes r.hides d a c
  top =
      held_too e r.homes r.hides d a c
      (went_place e r.homes r.hides d s.top t.top result v w left other_left
      (acting e r.homes r.hides d s.top t.top r.top) here (λ z. p.starts z.0 z.1) k leaves)
      (went_on e r.homes r.hides d s.top t.top result v w left other_left
      (acting e r.homes r.hides d s.top t.top r.top) here (λ z. p.starts z.0 z.1) k leaves)
      (still_held e r.hides s.world.memory s.top (is_given_mode t.top.mode) result v left holds kept r.top.held)

  pub left_beside : AreElided e (gives (with_left s left) result v) (gives (with_left t other_left) result w)
  left_beside = record {
    homes = r.homes;
    hides = r.hides;
    world = r.world;
    known = r.known;
    globals = r.globals;
    hidden = r.hidden;
    mates = r.mates;
    count = r.count;
    instances = r.instances;
    top = top;
    below = r.below;
    once = still_apart e s.top a t.top c s.below t.below holds
        (λ name is. other_than s.top.values result name v (kept name is)) r.once;
    allocs = r.allocs
        ∙ ap (λ (o : Option ℕ). capped (t.world.allocs + (given_frames t +
        (holds_one o + held_blocks e s.below t.below)))) (sym holds);
    outcome = r.outcome;
  }

module _ (e : Elision) (s t : State) (r : AreElided e s t) (result : Option ℕ) (v w : Value)
    (p : IsOwnPlace e s.top t.top) (k : SetsAlike e r.homes (sides s t) s.top t.top result v w)
    (holds : held_name e (is_given_mode t.top.mode) (went s.top result v s.top.has_left)
    ≡ held_name e (is_given_mode t.top.mode) s.top)
    (kept : (name : ℕ) → held_name e (is_given_mode t.top.mode) s.top ≡ Some name → result ≡ Some name → ⊥) where
  pub given_beside : AreElided e (gives s result v) (gives t result w)
  given_beside = left_beside e s t r result v w s.top.has_left t.top.has_left r.top.has_left p k holds kept
