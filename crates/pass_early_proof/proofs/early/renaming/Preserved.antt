-- A step keeps what holds of the values of coro.frame.
use Rattle.std.proofs.Common.{◌≡◌, inl, inr, ℕ, Bool, true, false, List, [], ◌∷◌, refl, sym, ap, ◌∙◌, subst}
use Rattle.std.specs.Prelude.{Some, None, Option, option_and_then, option_map, slice_get, slice_set, ◌==◌, ◌&&◌}
use Rattle.rule_laws.specs.run_memory.declared.block.MemoryBlock.{MemoryBlock}
use Rattle.rule_laws.specs.run_memory.declared.pointer.Value.{Value}
use Rattle.rule_laws.specs.run_source.State.{numbered, point_of, settled, with_instance, with_left, with_memory, with_slots}
use Rattle.rule_laws.specs.run_source.declared.state.Activation.{Activation}
use Rattle.rule_laws.specs.run_source.declared.state.Instance.{Instance}
use Rattle.rule_laws.specs.run_source.declared.state.State.{State}
use Rattle.rule_laws.specs.run_source.declared.state.Status.{Status}
use Rattle.run_states.proofs.renamed.Fits.{IsOrdinary, IsSet}
use Rattle.pass_early_proof.proofs.early.renaming.Invariant.{AreKept, IsAsleep, IsGrown, IsSteady, PlainName, grown_set, is_resumed, kept_result, kept_same, next_edge, next_point, not_made, origin_at, origin_of, steady_grown, steady_kept, steady_next, unstopped}
use Rattle.rule_laws.proofs.ir_laws.facts.Truth.{equal_numbers, not_equal}
use Rattle.rule_laws.proofs.ir_laws.facts.Lists.{get_within, set_here, set_other}
use Rattle.pass_early_proof.proofs.early.renaming.Slots.{plain_result}
use Rattle.pass_early_proof.specs.early.renaming.Regular.{AreRegular}
use Rattle.rule_laws.specs.ir_laws.paths.renamed.Regular.{is_call_at, makes, stops}
use Rattle.rule_laws.specs.ir_laws.facts.renamed.Regular.{is_result, passes}
use Rattle.pass_early.specs.Early.{renaming_of}
use Rattle.pass_early.specs.Renaming.{is_renamed}
use Rattle.pass_early.specs.declared.renaming.Renaming.{Renaming}
use Rattle.ir_model.specs.Names.{function_at}
use Rattle.ir_model.specs.declared.instr.Instr.{Instr}
use Rattle.ir_model.specs.declared.module.Function.{Function}
use Rattle.ir_model.specs.declared.module.Module.{Module}
use Rattle.ir_model.specs.declared.operand.Intrinsic.{Intrinsic}
use Rattle.rule_laws.specs.ir_paths.Windows.{instr_at, is_call_of}
use Rattle.rule_laws.specs.ir_paths.declared.point.Point.{Point}
use Rattle.rule_laws.specs.run_step.Step.{Work}
use Rattle.rule_laws.specs.run_step.Values.{Env, value_in}
use Rattle.rule_laws.specs.run_step.declared.world.Slot.{Slot}
use Rattle.rule_laws.specs.run_laws.changed.Changed.{result_of}

module _ (m : Module) (ok : AreRegular m) where
  abbrev the : ℕ → Function
  the func = function_at m func

  abbrev ren : ℕ → Renaming
  ren func = renaming_of (function_at m func)

  -- ---- the invariant

  abbrev pub Owns : List Instance → ℕ → Option ℕ → Type 0
  Owns instances func None = Unit {0}
  Owns instances func (Some i) = (v : Value) × (origin_at instances i ≡ Some (func, v))

  -- an activation of a function at a point
  pub record StandsWell (instances : List Instance) (resumed : Bool) (func : ℕ) (o : Option ℕ) (env : Env) (p : Point) : Type 0 where
    pub owns : Owns instances func o
    pub steady : (the func).coroutine ≡ true → IsSteady (the func) (ren func) instances resumed func o env p

  abbrev pub Sleeps : List Instance → ℕ → ℕ → Status → Type 0
  Sleeps instances i func Status.Running = Unit {0}
  Sleeps instances i func (Status.Suspended s env) = (the func).coroutine ≡ true → IsAsleep (the func) (ren func) instances func i env s
  Sleeps instances i func Status.Finished = Unit {0}

  -- the activations below one whose result goes to a name
  abbrev pub Below : List Instance → Option ℕ → List Activation → Type 0
  Below instances o [] = Unit {0}
  Below instances o (a ∷ below) =
      ((the a.func).coroutine ≡ true → PlainName (the a.func) (ren a.func) o)
      × StandsWell instances (is_resumed a.mode) a.func a.instance a.values (record { block = a.block; at = a.at })
      × Below instances a.result below

  abbrev pub AllSleep : List Instance → List Instance → Type 0
  AllSleep instances all = (i : ℕ) (x : Instance) → slice_get all i ≡ Some x → Sleeps instances i x.coroutine x.status

  pub record Holds (s : State) : Type 0 where
    pub top : StandsWell s.instances (is_resumed s.top.mode) s.top.func s.top.instance s.top.values (point_of s)
    pub below : Below s.instances s.top.result s.below
    pub asleep : AllSleep s.instances s.instances

  -- ---- instances that have grown

  pub owns_grown : (a b : List Instance) (func : ℕ) (o : Option ℕ) → IsGrown a b → Owns a func o → Owns b func o
  owns_grown a b func None grown h = tt
  owns_grown a b func (Some i) grown h = (h.0, grown i (func, h.0) h.1)

  pub stands_grown : (a b : List Instance) (resumed : Bool) (func : ℕ) (o : Option ℕ) (env : Env) (p : Point) → IsGrown a b → StandsWell a resumed func o env p → StandsWell b resumed func o env p
  stands_grown a b resumed func o env p grown h = record {
    owns = owns_grown a b func o grown h.owns;
    steady = λ c. steady_grown (the func) (ren func) a b resumed func o env p grown (h.steady c);
  }

  pub below_grown : (a b : List Instance) (o : Option ℕ) (below : List Activation) → IsGrown a b → Below a o below → Below b o below
  below_grown a b o [] grown h = tt
  below_grown a b o (x ∷ below) grown h = (h.0, stands_grown a b (is_resumed x.mode) x.func x.instance x.values (record { block = x.block; at = x.at }) grown h.1, below_grown a b x.result below grown h.2)

  pub sleeps_grown : (a b : List Instance) (i func : ℕ) (st : Status) → IsGrown a b → Sleeps a i func st → Sleeps b i func st
  sleeps_grown a b i func Status.Running grown h = tt
  sleeps_grown a b i func (Status.Suspended s env) grown h = λ c. record { room = (h c).room; begun = grown i (func, value_in env (ren func).to) (h c).begun; frames = (h c).frames }
  sleeps_grown a b i func Status.Finished grown h = tt

  -- an instance is put in the place of one of the same origin
  pub all_set : (a : List Instance) (i : ℕ) (x y : Instance) → slice_get a i ≡ Some x → origin_of y ≡ origin_of x → AllSleep a a → Sleeps a i y.coroutine y.status → AllSleep (slice_set a i y) (slice_set a i y)
  all_set a i x y e same h new j z there = on (i == j) refl
    where
      grown : IsGrown a (slice_set a i y)
      grown = grown_set a i x y e same

      on : (b : Bool) → (i == j) ≡ b → Sleeps (slice_set a i y) j z.coroutine z.status
      on true k =
          let num : i ≡ j = equal_numbers i j k in
          let got : slice_get (slice_set a i y) i ≡ Some z = subst (λ (n : ℕ). slice_get (slice_set a i y) n ≡ Some z) (sym num) there in
          let is : Some y ≡ Some z = sym (set_here a i y (get_within a i x e)) ∙ got in
          let same_one : y ≡ z = cc in
          sleeps_grown a (slice_set a i y) j z.coroutine z.status grown
          (subst (λ (n : ℕ). Sleeps a n z.coroutine z.status) num (subst (λ (w : Instance). Sleeps a i w.coroutine w.status) same_one new))
      on false k = sleeps_grown a (slice_set a i y) j z.coroutine z.status grown (h j z (sym (set_other a i j y (not_equal i j k)) ∙ there))

  pub holds_instance : (s : State) (i : ℕ) (x y : Instance) → slice_get s.instances i ≡ Some x → origin_of y ≡ origin_of x → Sleeps s.instances i y.coroutine y.status → Holds s → Holds (with_instance s i y)
  holds_instance s i x y e same new h = record {
    top = stands_grown s.instances (slice_set s.instances i y) (is_resumed s.top.mode) s.top.func s.top.instance s.top.values (point_of s) (grown_set s.instances i x y e same) h.top;
    below = below_grown s.instances (slice_set s.instances i y) s.top.result s.below (grown_set s.instances i x y e same) h.below;
    asleep = all_set s.instances i x y e same h.asleep new;
  }

  -- an instance that only its slots, its marks or its status change
  pub holds_like : (s : State) (i : ℕ) (x y : Instance) → slice_get s.instances i ≡ Some x → origin_of y ≡ origin_of x → y.status ≡ x.status → Holds s → Holds (with_instance s i y)
  holds_like s i x y e same status h =
      holds_instance s i x y e same (subst (λ (st : Status). Sleeps s.instances i y.coroutine st) (sym status) (subst (λ (c : ℕ). Sleeps s.instances i c x.status) (sym (ap (λ (z : ℕ × Value). z.0) same)) (h.asleep i x e))) h

  pub holds_memory : (s : State) (memory : List MemoryBlock) → Holds s → Holds (with_memory s memory)
  holds_memory s memory h = record { top = h.top; below = h.below; asleep = h.asleep }

  pub holds_slots : (s : State) (slots : List Slot) → Holds s → Holds (with_slots s slots)
  holds_slots s slots h = record { top = h.top; below = h.below; asleep = h.asleep }

  pub holds_left : (s : State) (b : Bool) → Holds s → Holds (with_left s b)
  holds_left s b h = record { top = h.top; below = h.below; asleep = h.asleep }

  -- the own instance is there
  pub own_there : (instances : List Instance) (o : Option ℕ) (i : ℕ) (x : Instance) → option_and_then (numbered instances) o ≡ Some (i, x) → (o ≡ Some i) × (slice_get instances i ≡ Some x)
  own_there instances None i x e = absurd (cc)
  own_there instances (Some j) i x e = on (slice_get instances j) refl e
    where
      on : (u : Option Instance) → slice_get instances j ≡ u → option_map {U = ℕ × Instance} (λ y. (j, y)) u ≡ Some (i, x) → (Some j ≡ Some i) × (slice_get instances i ≡ Some x)
      on None d k = absurd (cc)
      on (Some y) d k =
          let pair : ◌≡◌ {A = ℕ × Instance} (j, y) (i, x) = cc in
          let num : j ≡ i = ap (λ (z : ℕ × Instance). z.0) pair in
          let inst : y ≡ x = ap (λ (z : ℕ × Instance). z.1) pair in
          (ap Some num, subst (λ (n : ℕ). slice_get instances n ≡ Some x) num (d ∙ ap Some inst))

  -- ---- the next instruction

  module _ (s : State) (h : Holds s) (i : Instr) (here : instr_at (the s.top.func) (point_of s) ≡ Some i) where
    abbrev p : Point
    p = point_of s

    abbrev resumed : Bool
    resumed = is_resumed s.top.mode

    pub plain_name : IsOrdinary resumed i → (the s.top.func).coroutine ≡ true → (o : Option ℕ) → result_of i ≡ o → PlainName (the s.top.func) (ren s.top.func) o
    plain_name ordinary c None e = tt
    plain_name ordinary c (Some v) e = plain_result (ren s.top.func) (the s.top.func) (ok s.top.func c) p i v here e ordinary.0 ordinary.1

    no_begin : is_call_of Intrinsic.CoroBegin i ≡ false → is_call_at (the s.top.func) Intrinsic.CoroBegin p ≡ false
    no_begin e = ap (passes (is_call_of Intrinsic.CoroBegin)) here ∙ e

    none_made : IsOrdinary resumed i → (the s.top.func).coroutine ≡ true → (n : ℕ) → is_renamed (ren s.top.func) n ≡ true → makes (the s.top.func) n p ≡ false
    none_made ordinary c n e = ap (passes (λ j. is_result n (result_of j))) here ∙ not_made (the s.top.func) (ren s.top.func) n (result_of i) (plain_name ordinary c (result_of i) refl) e

    -- at what is ordinary no path ends
    no_stop : IsOrdinary resumed i → (the s.top.func).coroutine ≡ true → (n : ℕ) → is_renamed (ren s.top.func) n ≡ true → stops (the s.top.func) resumed n p ≡ false
    no_stop ordinary c n e =
        unstopped (the s.top.func) (ren s.top.func) resumed n p
        (ap (λ (o : Option Instr). resumed && passes (is_call_of Intrinsic.CoroEnd) o) here ∙ ordinary.2)
        (none_made ordinary c n e)

    set_kept : IsOrdinary resumed i → (the s.top.func).coroutine ≡ true → (env : Env) → IsSet s.top.values (result_of i) env → AreKept (the s.top.func) (ren s.top.func) s.top.values env
    set_kept ordinary c env (inl same) = subst (AreKept (the s.top.func) (ren s.top.func) s.top.values) (sym same) (kept_same (the s.top.func) (ren s.top.func) s.top.values)
    set_kept ordinary c env (inr set) = subst (AreKept (the s.top.func) (ren s.top.func) s.top.values) (sym set.1) (kept_result (the s.top.func) (ren s.top.func) s.top.values (result_of i) set.0 (plain_name ordinary c (result_of i) refl))

    -- the activation goes on behind what is ordinary
    pub goes_on : IsOrdinary resumed i → (env : Env) → IsSet s.top.values (result_of i) env → StandsWell s.instances resumed s.top.func s.top.instance env (next_point p)
    goes_on ordinary env set = record {
      owns = h.top.owns;
      steady = λ c.
          steady_kept (the s.top.func) (ren s.top.func) s.instances resumed s.top.func s.top.instance s.top.values env (next_point p) (set_kept ordinary c env set)
          (steady_next (the s.top.func) (ren s.top.func) s.instances resumed s.top.func s.top.instance s.top.values p (next_point p) (no_begin ordinary.1) (no_stop ordinary c) (next_edge (the s.top.func) p i here) (h.top.steady c));
    }

    pub settled_holds : IsOrdinary resumed i → (w : Work) → IsSet s.top.values (result_of i) w.values → Holds (settled s w)
    settled_holds ordinary w set = record { top = goes_on ordinary w.values set; below = h.below; asleep = h.asleep }
