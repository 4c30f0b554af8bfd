-- The allocas in front of a function's first place are made, one step each.
use Rattle.std.proofs.Common.{◌≡◌, ◌<◌, ◌≤◌, ◌+◌, ◌∙◌, ◌++◌, ◌∷◌, ◌⊎◌, [], ap, arith, Bool, false, inl, inr, List, refl, subst, suc, sym, true, zero, ℕ, length, if◌then◌else◌, length-append}
use Rattle.std.specs.Option.{option_map_or}
use Rattle.std.specs.Prelude.{codes, None, map}
use Rattle.pass_elide.specs.Elided.{elided_function, function_frames}
use Rattle.pass_elide_proof.proofs.Apart.{apart_same}
use Rattle.pass_elide_proof.proofs.Callers.{allocas_same}
use Rattle.pass_elide_proof.proofs.Kept.{alloca_kept, below_kept}
use Rattle.pass_elide_proof.proofs.Making.{HasMade, IsMade, all_made, made_at, on_the_way}
use Rattle.pass_elide_proof.proofs.GivingMarkers.{markers_same, nothing_put, plain_put}
use Rattle.pass_elide_proof.proofs.Modules.{finds_alike}
use Rattle.pass_elide_proof.proofs.MoreBlocks.{count_more, frames_more, given_more, instances_more, keeps_more, mates_more, new_free, world_more}
use Rattle.pass_elide_proof.proofs.Stacks.{IsLiveIn, called_over, called_under, given_on}
use Rattle.pass_elide_proof.proofs.Standing.{has_code}
use Rattle.pass_elide_proof.specs.Calling.{AreReady, IsAtFront, IsBehindFront, at_front}
use Rattle.pass_elide_proof.specs.Counts.{capped}
use Rattle.pass_elide_proof.specs.Elision.{Elision, differs_in, elided, function_in, function_in_elided, rooms}
use Rattle.pass_elide_proof.specs.Invariant.{HasCaller, HaveCallers}
use Rattle.pass_elide_proof.specs.Match.{AreActivations, AreBelow, AreElided, AreNamed, Beside, HasAlloca, HasAllocas, HoldApart, Sides, held_blocks, instance_in, is_given_mode, sides, was_given}
use Rattle.pass_elide_proof.specs.Places.{allocas_ahead, front_at, instrs_of, own_at, phi_count, put_by, put_up_to}
use Rattle.pass_proofs.proofs.ir_laws.facts.Lists.{get_before}
use Rattle.pass_proofs.specs.ir_base.declared.outcome.Outcome.{Outcome}
use Rattle.pass_proofs.specs.ir_model.Names.{numbered}
use Rattle.pass_proofs.specs.ir_model.declared.instr.Instr.{Instr}
use Rattle.pass_proofs.specs.ir_model.declared.module.Function.{Function}
use Rattle.pass_proofs.specs.pass_fetch.Blocks.{numbered_names}
use Rattle.pass_proofs.specs.run_agreement.Machines.{iterate}
use Rattle.pass_proofs.specs.run_framed.Framed.{framed_step, is_given}
use Rattle.pass_proofs.specs.run_laws.access.Lines.{StandAt}
use Rattle.pass_proofs.specs.run_laws.changed.Changed.{Each}
use Rattle.pass_proofs.specs.run_laws.embedded.Deaths.{moved_slot}
use Rattle.pass_proofs.specs.run_laws.memory.Pointers.{IsValue}
use Rattle.pass_proofs.specs.run_laws.memory.Standing.{blank_block}
use Rattle.pass_proofs.specs.run_memory.declared.block.Byte.{Byte}
use Rattle.pass_proofs.specs.run_memory.declared.block.Kind.{Kind}
use Rattle.pass_proofs.specs.run_memory.declared.pointer.Value.{Value}
use Rattle.pass_proofs.specs.run_source.State.{function_of}
use Rattle.pass_proofs.specs.run_source.declared.state.Activation.{Activation}
use Rattle.pass_proofs.specs.run_source.declared.state.Instance.{Instance}
use Rattle.pass_proofs.specs.run_source.declared.state.Mode.{Mode}
use Rattle.pass_proofs.specs.run_source.declared.state.State.{State}
use Rattle.pass_proofs.specs.run_step.Step.{has_markers}
use Rattle.pass_proofs.specs.run_step.Values.{Env, value_in}
use Rattle.pass_proofs.specs.run_step.declared.world.Slot.{Slot}
use Rattle.std.proofs.lemmas.Bool.{cases_lt}
use Rattle.std.proofs.lemmas.List.{length-replicate}

-- ---- lists

none_mapped : {A B : Type 0} (f : A → B) (xs : List A) (ys : List B) → map f xs ++ ys ≡ [] → xs ≡ []
none_mapped f [] ys e = refl
none_mapped f (x ∷ xs) ys e = absurd (cc)

pub past : (env : Env) (v : ℕ) → length env ≤ v → value_in env v ≡ Value.Poison
past [] v le = refl
past (x ∷ env) zero le = absurd (omega (arith, le))
past (x ∷ env) (suc v) le = past env v (omega (arith, le))

names_many : (word : List ℕ) (k : ℕ) → length (numbered_names word k) ≡ k
names_many word zero = refl
names_many word (suc k) =
    let rest = names_many word k in
    let long = length-append (numbered_names word k) (numbered word k ∷ []) in
    omega (arith, rest, long)

-- ---- the place itself

module _ (e : Elision) (func : ℕ) (unput : (block at : ℕ) (i : Instr) → put_by (rooms e func block at i) ≡ 0)
  where
    abbrev f : Function
    f = function_in e func

    none_put : (block at : ℕ) → put_up_to (rooms e func block) (phi_count f block) (instrs_of f block) at ≡ 0
    none_put block at = nothing_put (rooms e func block) (unput block) (phi_count f block) (instrs_of f block) at

    -- where nothing is put in front the place itself is the front of what is put before it, but for allocas
    pub own_is_front : (block at : ℕ) → (block ≡ 0 → at ≡ 0 → allocas_ahead (rooms e func) (function_in e func) ≡ [])
        → own_at (rooms e func) (function_in e func) block at ≡ front_at (rooms e func) (function_in e func) block at
    own_is_front zero zero none =
        let many : length (allocas_ahead (rooms e func) f) ≡ 0 = ap length (none refl refl) in
        let put = none_put 0 0 in
        omega (arith, many, put)
    own_is_front (suc block) zero none = let put = none_put (suc block) 0 in omega (arith, put)
    own_is_front block (suc at) none =
        let now = none_put block (suc at) in
        let before = none_put block at in
        omega (arith, now, before)

    pub own_first : own_at (rooms e func) (function_in e func) 0 0
        ≡ 0 + length (allocas_ahead (rooms e func) (function_in e func))
    own_first = let put = none_put 0 0 in omega (arith, put)

-- ---- at a function's first place

module _ (e : Elision) (s t : State) (r : AreElided e s t) (at : IsAtFront e s t) where
  abbrev own : Function
  own = function_in e s.top.func

  abbrev is : List Instr
  is = allocas_ahead (rooms e s.top.func) (function_in e s.top.func)

  runs : t.outcome ≡ Outcome.Running
  runs = r.outcome ∙ at.runs

  same_function : function_of (elided e).given t ≡ elided_function (rooms e s.top.func) (function_in e s.top.func)
  same_function = ap (function_in_elided e) r.top.func ∙ (finds_alike e).functions s.top.func

  plain : (function_of (elided e).given t).coroutine ≡ false
  plain = ap (λ (h : Function). h.coroutine) same_function ∙ at.plain

  stand : StandAt (function_of (elided e).given t) t.top.block t.top.at is
  stand =
      subst (λ (p : Function × (ℕ × ℕ)). StandAt p.0 p.1.0 p.1.1 is)
      (λ j. (sym same_function j, (sym at.other_block j, sym at.other_at j)))
      ((has_code (rooms e s.top.func) own).allocas at.entry at.has_entry)

  unmarked : (v : ℕ) → length own.names ≤ v → has_markers (function_of (elided e).given t) v ≡ false
  unmarked v le =
      ap (λ (h : Function). has_markers h v) same_function ∙ (markers_same v (rooms e s.top.func) own ∙ at.marks v le)

  room : length own.names + length (function_frames (rooms e s.top.func) own) ≤ length t.top.values
  room =
      let names : length (function_in_elided e s.top.func).names
      ≡ length (elided_function (rooms e s.top.func) own).names
      = ap (λ (h : Function). length h.names) ((finds_alike e).functions s.top.func) in
      let more = length-append own.names
      (numbered_names (codes "$c.callee.") (length (function_frames (rooms e s.top.func) own))) in
      let many = names_many (codes "$c.callee.") (length (function_frames (rooms e s.top.func) own)) in
      let others = at.others in
      omega (arith, names, more, many, others)

  made : HasMade (elided e) t runs at.mode plain t.world.memory t.top.values t.top.slots t.top.at (length own.names) is
  made =
      all_made (elided e) t runs at.mode plain (length own.names) (function_frames (rooms e s.top.func) own)
      t.world.memory
      t.top.values t.top.slots t.top.at stand at.aligned unmarked room

  -- ---- the state behind them

  abbrev u : State
  u = made_at (elided e) t runs at.mode plain (t.world.memory ++ made.more) made.values' made.slots'
      (t.top.at + length is)

  abbrev k : Sides
  k = record (sides s t) { other = t.world.memory ++ made.more }

  none_given : (c : Activation) → c.mode ≡ Mode.Plain → c.instance ≡ None → (q : Sides) → was_given q c ≡ false
  none_given c plain none q =
      λ j. if is_given_mode (plain j) then true
      else option_map_or (is_given q.other) (instance_in q.second (none j)) false

  yes_no : (b : Bool) → b ≡ true → b ≡ false → ⊥
  yes_no true y n = absurd (cc)
  yes_no false y n = absurd (cc)

  plain_mode : is_given_mode t.top.mode ≡ false
  plain_mode = ap is_given_mode at.mode

  named : AreNamed e r.homes (was_given k u.top) s.top u.top
  named = record {
    each = λ v h. by v
        (ap (λ (b : Bool). differs_in (e.shape s.top.func) (is_given_mode t.top.mode) b v)
        (none_given t.top at.mode at.instance (sides s t) ∙ sym (none_given u.top at.mode at.instance k)) ∙ h)
        (cases_lt v (length own.names));
    room =
        let old = r.top.values.room in
        let wide = made.wide in
        omega (arith, old, wide);
  }
    where
      by : (v : ℕ) → differs_in (e.shape s.top.func) (is_given_mode t.top.mode) (was_given (sides s t) t.top) v ≡ false
          → (v < length own.names) ⊎ (length own.names ≤ v) → IsValue r.homes (value_in s.top.values v)
          (value_in made.values' v)
      by v h (inl lt) =
          subst (λ (w : Value). IsValue r.homes (value_in s.top.values v) w) (sym (made.below v lt))
          (r.top.values.each v h)
      by v h (inr le) =
          let few = at.values in
          subst (λ (w : Value). IsValue r.homes w (value_in made.values' v))
          (sym (past s.top.values v (omega (arith, le, few)))) tt

  has : (i : Instr) → IsMade (t.world.memory ++ made.more) (length t.world.memory) made.values' made.slots' i
      → HasAlloca r.homes r.hides k u.top made.slots' i
  has i h = record {
    name = h.name;
    size = h.size;
    align = h.align;
    is = h.is;
    block = h.block;
    address = h.address;
    slot = h.slot;
    there = blank_block h.size h.align Kind.Stack;
    is_there = h.there;
    kind = refl;
    live = refl;
    sized = refl;
    full = length-replicate {A = Byte} h.size Byte.Undefined;
    free = λ n lt calm none. new_free e s t r made.more h.block h.new n lt calm none;
  }

  have : (js : List Instr)
      → Each (IsMade (t.world.memory ++ made.more) (length t.world.memory) made.values' made.slots') js
      → Each (HasAlloca r.homes r.hides k u.top made.slots') js
  have [] h = tt
  have (i ∷ js) h = (has i h.0, have js h.1)

  no_slots : s.top.slots ≡ []
  no_slots = none_mapped (moved_slot r.homes) s.top.slots r.top.own (sym r.top.slots ∙ at.slots)

  many : length made.slots' ≡ length is
  many =
      let long = made.long in
      let none : length t.top.slots ≡ 0 = ap length at.slots in
      omega (arith, long, none)

  top : AreActivations e r.homes r.hides k s.top (at_front e s u).top
  top = record {
    func = r.top.func;
    result = r.top.result;
    instance = r.top.instance;
    has_left = r.top.has_left;
    mode = r.top.mode;
    place = Beside (at.other_block ∙ sym at.block) refl;
    values = record { each = named.each; room = named.room };
    asked = λ given. absurd (yes_no (is_given_mode t.top.mode) given plain_mode);
    released = λ given. absurd (yes_no (was_given k u.top) given (none_given u.top at.mode at.instance k));
    own = made.slots';
    slots = ap (λ (ss : List Slot). map (moved_slot r.homes) ss ++ made.slots') (sym no_slots);
    allocas = inr (
      allocas_same r.homes r.hides k u.top (at_front e s u).top made.slots' (λ v. refl) is (have is made.each),
      many,
    );
    held = r.top.held;
  }

  below : AreBelow e r.homes r.hides k s.below t.below
  below =
      below_kept e r.homes r.hides (sides s t) k (keeps_more e s t r made.more) s.below t.below
      (λ j a c to from h i al.
      alloca_kept r.homes r.hides (sides s t) k c h.own i al
      (get_before t.world.memory made.more al.block al.there al.is_there) reach (frames_more e s t r made.more))
      r.below
    where
      reach : length s.world.memory ≤ length s.world.memory
      reach = omega arith

  once : HoldApart e (s.top ∷ s.below) ((at_front e s u).top ∷ t.below)
  once = apart_same e s.below t.below s.top t.top s.top (at_front e s u).top refl (λ v h. refl) r.once

  beside : AreElided e s (at_front e s u)
  beside = record {
    homes = r.homes;
    hides = r.hides;
    world = world_more e s t r made.more;
    known = r.known;
    globals = r.globals;
    hidden = r.hidden;
    mates = mates_more e s t r made.more;
    count = r.count;
    instances = instances_more e s t r made.more;
    top = top;
    below = below;
    once = once;
    allocs = r.allocs
        ∙ ap (λ (n : ℕ). capped (t.world.allocs + (n + held_blocks e (s.top ∷ s.below) (t.top ∷ t.below))))
        (sym (count_more e s t r made.more));
    outcome = r.outcome;
  }

  ready : AreReady e s u
  unfolding beside made top
  ready = record {
    beside = beside;
    block = at.other_block ∙ sym at.block;
    at = ap (λ (n : ℕ). n + length is) at.other_at
        ∙ (sym (own_first e s.top.func (plain_put e s.top.func at.plain))
        ∙ (λ j. own_at (rooms e s.top.func) (function_in e s.top.func) (sym at.block j) (sym at.at j)));
    made = have is made.each;
    many = many;
  }

  pub fronts_made : AreReady e s (iterate (framed_step (elided e))
      (length (allocas_ahead (rooms e s.top.func) (function_in e s.top.func))) t)
  fronts_made = subst (AreReady e s) (sym made.comes) ready

  -- on the way nothing is shown
  pub fronts_pass : (i : ℕ) → i ≤ length (allocas_ahead (rooms e s.top.func) (function_in e s.top.func))
      → ((iterate (framed_step (elided e)) i t).outcome ≡ Outcome.Running)
      × ((iterate (framed_step (elided e)) i t).world.events ≡ t.world.events)
  fronts_pass i le =
      let x = on_the_way (elided e) t runs at.mode plain (length own.names)
      (function_frames (rooms e s.top.func) own) t.world.memory t.top.values t.top.slots t.top.at stand at.aligned
      unmarked i le in (
        ap (λ (v : State). v.outcome) x.is ∙ runs,
        ap (λ (v : State). v.world.events) x.is,
      )

  -- callers of instances stay: the activation has no slot yet, so it is none
  no_caller : (y : Instance) (number : ℕ) → HasCaller e t.world.memory y number t.top [] → ⊥
  no_caller y number h =
      let lt = h.slot.1 in
      let none : length t.top.slots ≡ 0 = ap length at.slots in
      omega (arith, lt, none)

  grown_lives : (b : ℕ) → IsLiveIn t.world.memory b → IsLiveIn (t.world.memory ++ made.more) b
  grown_lives b z = (z.0, get_before t.world.memory made.more b z.0 z.1, z.2)

  pub fronts_keep : HaveCallers e t → HaveCallers e (iterate (framed_step (elided e))
      (length (allocas_ahead (rooms e s.top.func) (function_in e s.top.func))) t)
  fronts_keep h =
      subst (HaveCallers e) (sym made.comes) (record {
        each = λ number y there given going.
            called_over e t.world.memory (t.world.memory ++ made.more) y number (grown_lives y.block) []
            (u.top ∷ t.below)
            (called_under e t.world.memory y number t.top u.top t.below
            (record { func = refl; block = refl; result = refl; mode = refl; instance = refl; has_left = refl })
            (no_caller y number)
            (h.each number y there (sym (given_more e s t r made.more number y there) ∙ given) going));
        last = λ number later y z there after lt given.
            h.last number later y z there after lt (sym (given_more e s t r made.more number y there) ∙ given);
        ramps = given_on e t.instances t.top u.top t.below refl refl refl h.ramps;
      })

-- ---- at any other place

module _ (e : Elision) (s t : State) (r : AreElided e s t) (at : IsBehindFront e s t) where
  abbrev front : List Instr
  front = allocas_ahead (rooms e s.top.func) (function_in e s.top.func)

  abbrev twin : Activation
  twin = (at_front e s t).top

  have_made : (zs : List Slot) → HasAllocas e r.homes r.hides (sides s t) s.top t.top zs
      → (Each (HasAlloca r.homes r.hides (sides s t) t.top zs) front) × (length zs ≡ length front)
  have_made zs (inl first) =
      let none = at.none first.0 first.1 in (
        subst (λ (js : List Instr). Each (HasAlloca r.homes r.hides (sides s t) t.top zs) js) (sym none) tt,
        ap length first.2 ∙ sym (ap length none),
      )
  have_made zs (inr made) = made

  all_there : (Each (HasAlloca r.homes r.hides (sides s t) t.top r.top.own) front) × (length r.top.own ≡ length front)
  all_there = have_made r.top.own r.top.allocas

  top_there : AreActivations e r.homes r.hides (sides s t) s.top twin
  top_there = record {
    func = r.top.func;
    result = r.top.result;
    instance = r.top.instance;
    has_left = r.top.has_left;
    mode = r.top.mode;
    place = Beside at.block refl;
    values = record { each = r.top.values.each; room = r.top.values.room };
    asked = r.top.asked;
    released = λ given. record {
      freed = (r.top.released given).freed;
      tested = (r.top.released given).tested;
    };
    own = r.top.own;
    slots = r.top.slots;
    allocas = inr (
      allocas_same r.homes r.hides (sides s t) t.top twin r.top.own (λ v. refl) front all_there.0,
      all_there.1,
    );
    held = r.top.held;
  }

  all_beside : AreElided e s (at_front e s t)
  all_beside = record {
    homes = r.homes;
    hides = r.hides;
    world = r.world;
    known = r.known;
    globals = r.globals;
    hidden = r.hidden;
    mates = r.mates;
    count = r.count;
    instances = r.instances;
    top = top_there;
    below = r.below;
    once = apart_same e s.below t.below s.top t.top s.top twin refl (λ v h. refl) r.once;
    allocs = r.allocs;
    outcome = r.outcome;
  }

  pub places_ready : AreReady e s t
  unfolding all_beside top_there
  places_ready = record {
    beside = all_beside;
    block = at.block;
    at = at.at ∙ sym (own_is_front e s.top.func at.unput s.top.block s.top.at at.none);
    made = all_there.0;
    many = all_there.1;
  }
