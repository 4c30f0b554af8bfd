-- What calls give, returns, and the way from a save to its suspend.
use Rattle.std.proofs.Common.{◌≡◌, ◌<◌, ◌⊎◌, inl, inr, ℕ, Bool, true, false, List, [], ◌∷◌, length}
use Rattle.std.proofs.Common.{Option, Some, None, Result, Ok, Err, refl, sym, ap, ◌∙◌, subst, arith}
use Rattle.std.specs.Prelude.{if◌then◌else◌, slice_get, unwrap_or}
use Rattle.pass_renewed_proof.specs.ir_base.declared.cause.Cause.{Cause}
use Rattle.pass_renewed_proof.specs.ir_base.declared.ops.Pred.{Pred}
use Rattle.pass_renewed_proof.specs.ir_base.declared.outcome.Word.{Word}
use Rattle.pass_renewed_proof.specs.ir_model.Names.{declaration_named, function_at, function_named}
use Rattle.pass_renewed_proof.specs.ir_model.Ty.{Ty, array, int, named, ptr, structure, token}
use Rattle.pass_renewed_proof.specs.ir_model.declared.instr.Instr.{Instr}
use Rattle.pass_renewed_proof.specs.ir_model.declared.instr.Terminator.{Terminator}
use Rattle.pass_renewed_proof.specs.ir_model.declared.module.Function.{Function}
use Rattle.pass_renewed_proof.specs.ir_model.declared.module.Module.{Module}
use Rattle.pass_renewed_proof.specs.ir_model.declared.operand.Allocator.{Allocator}
use Rattle.pass_renewed_proof.specs.ir_model.declared.operand.Arg.{Arg}
use Rattle.pass_renewed_proof.specs.ir_model.declared.operand.Callee.{Callee}
use Rattle.pass_renewed_proof.specs.ir_model.declared.operand.Intrinsic.{Intrinsic}
use Rattle.pass_renewed_proof.specs.ir_paths.Paths.{IsPath, Leads, has_point, nexts, same_point}
use Rattle.pass_renewed_proof.specs.ir_paths.Windows.{IsInWindow, is_call_of}
use Rattle.pass_renewed_proof.specs.ir_paths.declared.point.Point.{Point}
use Rattle.pass_renewed_proof.proofs.pass_kept_proof.Same.{neither}
use Rattle.pass_renewed_proof.specs.pass_kept_proof.Needed.{given_by}
use Rattle.pass_renewed_proof.specs.pass_kept_proof.SuspendRules.{IsCallAt}
use Rattle.pass_renewed_proof.proofs.Ahead.{leads_more, not_in_either}
use Rattle.pass_renewed_proof.proofs.Left.{end_next}
use Rattle.pass_renewed_proof.proofs.Sets.{result_elsewhere}
use Rattle.pass_renewed_proof.specs.SlotRules.{IsMadeOnce, IsMarkerAt}
use Rattle.run_hooks.proofs.alive.Changes.{emptied, popped}
use Rattle.run_hooks.proofs.alive.Behind.{IsInOrder, IsLower, edge, goes_fewer, same_instr}
use Rattle.run_hooks.proofs.alive.Marks.{held_on, spot_is}
use Rattle.run_hooks.proofs.alive.Open.{after}
use Rattle.run_hooks.proofs.alive.Lives.{same_fewer, without_fewer}
use Rattle.run_hooks.proofs.alive.Moves.{fewer_for, fewer_instance, later_instance, longer_kept, owned_of}
use Rattle.run_hooks.proofs.alive.Parts.{AllIn, all_both, in_any, later_all}
use Rattle.run_hooks.specs.Away.{point_in, spot_by, spot_of}
use Rattle.run_hooks.specs.alive.Alive.{GoesOn, IsAliveState, KeepsAliveRules, MayLeave, Stays, StaysAlive}
use Rattle.run_hooks.specs.alive.Alive.{account_of}
use Rattle.run_hooks.specs.alive.Slots.{IsAliveSlot, IsHeld, IsSlotOf, Ramp}
use Rattle.pass_renewed_proof.specs.rule_windows.Sets.{IsAfterEnd}
use Rattle.pass_renewed_proof.specs.run_memory.Memory.{compare}
use Rattle.pass_renewed_proof.specs.run_memory.declared.pointer.Pointer.{Pointer}
use Rattle.pass_renewed_proof.specs.run_memory.declared.pointer.Value.{Value}
use Rattle.pass_renewed_proof.specs.run_source.Source.{is_over, pop, return, returned}
use Rattle.pass_renewed_proof.specs.run_source.State.{gives, work_of}
use Rattle.pass_renewed_proof.specs.run_source.declared.state.Activation.{Activation}
use Rattle.pass_renewed_proof.specs.run_source.declared.state.Instance.{Instance}
use Rattle.pass_renewed_proof.specs.run_source.declared.state.Mode.{Mode}
use Rattle.pass_renewed_proof.specs.run_source.declared.state.State.{State}
use Rattle.pass_renewed_proof.specs.run_source.declared.state.Status.{Status}
use Rattle.pass_renewed_proof.specs.run_step.Effects.{is_alloca}
use Rattle.pass_renewed_proof.specs.run_step.Results.{and_then}
use Rattle.pass_renewed_proof.specs.run_step.Step.{Action, AtInstr, Context, Enter, GoTo, NewSlot, Return, Stuck, Work, allocator_call}
use Rattle.pass_renewed_proof.specs.run_step.Step.{block_of, compared, copied_bytes, done, fetch, fits_function, if_alignment}
use Rattle.pass_renewed_proof.specs.run_step.Step.{indirect_call, instr_action}
use Rattle.pass_renewed_proof.specs.run_step.Step.{intrinsic_call, is_alignment, named_call, observed, outcome_of, set_result, with_length}
use Rattle.pass_renewed_proof.specs.run_step.Step.{without_slots, words_of}
use Rattle.pass_renewed_proof.specs.run_step.Step.{branch, switch, term_action, value_at}
use Rattle.pass_renewed_proof.specs.run_step.Values.{address, arg_value, arg_values, nth, value_in, with_result}
use Rattle.pass_renewed_proof.specs.run_step.declared.world.Slot.{Slot}

pub then_alive : (m : Module) (counts : ℕ → ℕ → Bool) {A : Type 0} (r : Result A Cause) (f : A → Result State Cause)
    → ((a : A) → r ≡ Ok a → StaysAlive m counts (f a)) → StaysAlive m counts (and_then r f)
then_alive m counts (Err cause) f h = tt
then_alive m counts (Ok a) f h = h a refl

-- ---- what calls of functions give

-- an instruction makes a slot as an alloca alone, calls with the name that it gives, and neither branches nor returns
abbrev Gives : Bool → Option ℕ → Action → Type 0
Gives made given (Enter func args result must_tail) = given ≡ result
Gives made given (NewSlot w slot) = made ≡ true
Gives made given (GoTo label) = ⊥
Gives made given (Return v) = ⊥
Gives made given _ = Unit {0}

done_gives : {A : Type 0} (made : Bool) (given : Option ℕ) (f : A → Work) (r : Result A Cause)
    → Gives made given (done f r)
done_gives made given f (Err cause) = tt
done_gives made given f (Ok a) = tt

if_gives : (made : Bool) (given : Option ℕ) (align : ℕ) (a : Action) → Gives made given a
    → Gives made given (if_alignment align a)
if_gives made given align a h = on (is_alignment align)
  where
    on : (t : Bool) → Gives made given (if t then a else Stuck Cause.Align)
    on true = h
    on false = tt

length_gives : (made : Bool) (given : Option ℕ) (v : Value) (f : ℕ → Action) → ((n : ℕ) → Gives made given (f n))
    → Gives made given (with_length v f)
length_gives made given (Value.Int y) f h = h y.bits
length_gives made given Value.Poison f h = tt
length_gives made given (Value.Ptr p) f h = tt

module _ (c : Context) (w : Work) where
  compared_gives : (name : ℕ) (pred : Pred) (ty : Ty) (a b : Value) → Gives false (Some name)
      (compared c w name pred ty a b)
  compared_gives name pred (int n) a b = tt
  compared_gives name pred ptr a b = done_gives false (Some name) _ (compare c.rights w.world.memory (address a)
      (address b))
  compared_gives name pred token a b = done_gives false (Some name) _ (compare c.rights w.world.memory (address a)
      (address b))
  compared_gives name pred (array n t) a b = done_gives false (Some name) _
      (compare c.rights w.world.memory (address a) (address b))
  compared_gives name pred (structure ts) a b = done_gives false (Some name) _
      (compare c.rights w.world.memory (address a) (address b))
  compared_gives name pred (named n) a b = done_gives false (Some name) _
      (compare c.rights w.world.memory (address a) (address b))

  observed_gives : (d : ℕ) (ty : Option Ty) (result : Option ℕ) (args : Option (List Word))
      → Gives false result (observed c w d ty result args)
  observed_gives d ty result None = tt
  observed_gives d None result (Some args) = tt
  observed_gives d (Some ty) result (Some args) = tt

  named_gives : (f d : Option ℕ) (ty : Option Ty) (result : Option ℕ) (must_tail : Bool) (vs : List Value)
      → Gives false result (named_call c w f d ty result must_tail vs)
  named_gives (Some f) d ty result must_tail vs = refl
  named_gives None (Some d) ty result must_tail vs = observed_gives d ty result (words_of vs)
  named_gives None None ty result must_tail vs = tt

  indirect_gives : (v : Value) (ty : Option Ty) (result : Option ℕ) (must_tail : Bool) (args : List Arg)
      (vs : List Value) → Gives false result (indirect_call c v ty result must_tail args vs)
  indirect_gives (Value.Ptr (Pointer.Func f)) ty result must_tail args vs =
      on (fits_function ty args (slice_get c.code.functions f))
    where
      on : (t : Bool) → Gives false result (if t then Enter f vs result must_tail else Stuck Cause.Call)
      on true = refl
      on false = tt
  indirect_gives (Value.Ptr Pointer.Null) ty result must_tail args vs = tt
  indirect_gives (Value.Ptr (Pointer.At b o)) ty result must_tail args vs = tt
  indirect_gives Value.Poison ty result must_tail args vs = tt
  indirect_gives (Value.Int y) ty result must_tail args vs = tt

  copied_gives : (made : Bool) (given : Option ℕ) (vs : List Value) → Gives made given (copied_bytes c w vs)
  copied_gives made given vs = length_gives made given (nth vs 2) _ (λ n. done_gives made given _ _)

  intrinsic_gives : (made : Bool) (given : Option ℕ) (i : Intrinsic) (result : Option ℕ) (args : List Arg)
      (vs : List Value)
      → Gives made given (intrinsic_call c w i result args vs)
  intrinsic_gives made given Intrinsic.LifetimeStart result args vs = tt
  intrinsic_gives made given Intrinsic.LifetimeEnd result args vs = tt
  intrinsic_gives made given Intrinsic.MemcpyI64 result args vs = copied_gives made given vs
  intrinsic_gives made given Intrinsic.MemcpyI32 result args vs = copied_gives made given vs
  intrinsic_gives made given _ result args vs = tt

  allocator_gives : (made : Bool) (given : Option ℕ) (a : Allocator) (result : Option ℕ) (vs : List Value)
      → Gives made given (allocator_call a w result vs)
  allocator_gives made given Allocator.Malloc result vs = length_gives made given (nth vs 0) _ (λ n. tt)
  allocator_gives made given Allocator.Znwm result vs = length_gives made given (nth vs 0) _ (λ n. tt)
  allocator_gives made given Allocator.Free result vs = tt
  allocator_gives made given Allocator.ZdlPv result vs = tt
  allocator_gives made given Allocator.ZdlPvm result vs = tt

  call_gives : (result : Option ℕ) (must_tail : Bool) (ty : Option Ty) (callee : Callee) (args : List Arg)
      → Gives false (given_by (Instr.Call result must_tail ty callee args))
      (instr_action c w (Instr.Call result must_tail ty callee args))
  call_gives result must_tail ty (Callee.Named n) args = named_gives (function_named c.code n)
      (declaration_named c.code n) ty result must_tail (arg_values c.code w.values args)
  call_gives result must_tail ty (Callee.Allocator a) args = allocator_gives false _ a result
      (arg_values c.code w.values args)
  call_gives result must_tail ty (Callee.Intrinsic i) args = intrinsic_gives false _ i result args
      (arg_values c.code w.values args)
  call_gives result must_tail ty (Callee.Local name) args = indirect_gives (value_in w.values name) ty result must_tail
      args (arg_values c.code w.values args)

  -- a call of a function gives the name that its instruction gives
  pub enter_gives : (i : Instr) → Gives (is_alloca i) (given_by i) (instr_action c w i)
  enter_gives (Instr.Binary name op flags ty a b) = done_gives false (Some name) _ _
  enter_gives (Instr.Icmp name pred ty a b) = compared_gives name pred ty _ _
  enter_gives (Instr.Select name x a b) = tt
  enter_gives (Instr.Cast name op nneg arg to) = tt
  enter_gives (Instr.Alloca name ty align) = if_gives true (Some name) align _ refl
  enter_gives (Instr.Load name ty p align) = if_gives false (Some name) align _ (done_gives false (Some name) _ _)
  enter_gives (Instr.Store arg p align) = if_gives false None align _ (done_gives false None _ _)
  enter_gives (Instr.Gep name inbounds ty base indices) = tt
  enter_gives (Instr.Call result must_tail ty callee args) = call_gives result must_tail ty callee args

pub enters_by : (c : Context) (w : Work) (i : Instr) (func : ℕ) (args : List Value) (result : Option ℕ)
    (must_tail : Bool)
    → instr_action c w i ≡ Enter func args result must_tail → given_by i ≡ result
enters_by c w i func args result must_tail e = subst (Gives (is_alloca i) (given_by i)) e (enter_gives c w i)

pub slots_by : (c : Context) (w : Work) (i : Instr) (v : Work) (slot : Slot) → instr_action c w i ≡ NewSlot v slot
    → is_alloca i ≡ true
slots_by c w i v slot e = subst (Gives (is_alloca i) (given_by i)) e (enter_gives c w i)

pub never_returns : (c : Context) (w : Work) (i : Instr) (v : Option Value) → instr_action c w i ≡ Return v → ⊥
never_returns c w i v e = subst (Gives (is_alloca i) (given_by i)) e (enter_gives c w i)

-- a terminator that returns is a return
pub returns_by : (c : Context) (w : Work) (t : Terminator) (v : Option Value) → term_action c w t ≡ Return v
    → (arg : Option Arg) × (t ≡ Terminator.Ret arg)
returns_by c w (Terminator.Jump label) v e = absurd (cc)
returns_by c w (Terminator.Branch x a b) v e = absurd (on (value_at c w (int 1) x) e)
  where
    on : (y : Value) → branch y a b ≡ Return v → ⊥
    on (Value.Int z) k = absurd (cc)
    on Value.Poison k = absurd (cc)
    on (Value.Ptr q) k = absurd (cc)
returns_by c w (Terminator.Switch arg default cases) v e = absurd (on (arg_value c.code w.values arg) e)
  where
    on : (y : Value) → switch c.code y default cases ≡ Return v → ⊥
    on (Value.Int z) k = absurd (cc)
    on Value.Poison k = absurd (cc)
    on (Value.Ptr q) k = absurd (cc)
returns_by c w (Terminator.Ret None) v e = (None, refl)
returns_by c w (Terminator.Ret (Some arg)) v e = (Some arg, refl)
returns_by c w Terminator.Unreachable v e = absurd (cc)

-- ---- from a save to its suspend

module _ (f : Function) (k s : Point) (H : Point → Type 0) where
  abbrev IsOnWay : Point → Type 0
  IsOnWay p = (p ≡ k) ⊎ IsInWindow f k s p

  module _ (more : (p q : Point) → IsOnWay p → has_point (nexts f p) q ≡ true → H p → H q) where
    walk : (p : Point) (between : List Point) → IsPath f (k ∷ s ∷ []) p between s → IsOnWay p → H p → H s
    walk p [] path way h = more p s way path h
    walk p (v ∷ between) path way h =
        let n = neither (same_point v k) _ path.1 in
        walk v between path.2 (inr (record {
          is_not_save = n.0;
          is_not_suspend = (neither (same_point v s) _ n.1).0;
          from_save = from way;
          to_suspend = record { between = between; is_path = path.2 };
        })) (more p v way path.0 h)
      where
        from : IsOnWay p → Leads f (k ∷ s ∷ []) k v
        from (inl e) = record { between = []; is_path = subst (λ (z : Point). has_point (nexts f z) v ≡ true) e path.0 }
        from (inr w) = leads_more f (k ∷ s ∷ []) k p v w.from_save
            (not_in_either (same_point p k) (same_point p s) w.is_not_save w.is_not_suspend) path.0

    -- what stays along edges of the window holds at the suspend, if it does at the save
    pub walked : Leads f (k ∷ s ∷ []) k s → H k → H s
    walked l h = walk k l.between l.is_path (inl refl) h

-- ---- one state

module _ (m : Module) (counts : ℕ → ℕ → Bool) (t : State) (h : IsAliveState m counts t) (order : IsInOrder t)
    (ramp_slots : List ℕ) (rules : KeepsAliveRules (function_at m t.top.func) ramp_slots)
    (still : (from label : ℕ) → t.top.mode ≡ Mode.Entering from label → ⊥)
    (i : Instr) (stands : fetch (function_at m t.top.func) t.top.block t.top.at ≡ AtInstr i) where
  abbrev f : Function
  f = function_at m t.top.func

  abbrev p : Point
  p = point_in t.top

  no_call : (x : Intrinsic) → is_call_of x i ≡ false → IsCallAt x f p → ⊥
  no_call x never c =
      let same : c.instr ≡ i = same_instr m counts t h order ramp_slots rules still i stands c.instr c.stands in
      let no : true ≡ false = sym c.is ∙ ap (is_call_of x) same ∙ never in absurd (cc)

  no_marker_here : is_call_of Intrinsic.LifetimeEnd i ≡ false → (v : ℕ) → IsMarkerAt f Intrinsic.LifetimeEnd v p → ⊥
  no_marker_here never v mark =
      no_call Intrinsic.LifetimeEnd never (record { instr = mark.instr; stands = mark.stands; is = mark.is })

  -- behind an instruction that gives a value and changes nothing else
  pub gives_alive : is_call_of Intrinsic.CoroEnd i ≡ false → is_call_of Intrinsic.LifetimeEnd i ≡ false
      → (result : Option ℕ) (v : Value) → ((u : ℕ) → IsMadeOnce f u → result ≡ Some u → ⊥)
      → IsAliveState m counts (gives t result v)
  gives_alive no_end no_mark result v apart =
      goes_fewer m counts t h order ramp_slots rules still i stands (set_result (work_of t) result v)
      (same_fewer t.world.memory) (no_call Intrinsic.CoroEnd no_end)
      (λ u made. result_elsewhere t.top.values result u v (λ e. apart u made e))
      (λ slot now counted held mark. no_marker_here no_mark slot.alloca mark)

  -- behind the end, where the instance of one that hasn't left is over
  pub past_end : is_call_of Intrinsic.CoroEnd i ≡ true → is_call_of Intrinsic.LifetimeEnd i ≡ false
      → ((j : ℕ) (x : Instance) → t.top.instance ≡ Some j → slice_get t.instances j ≡ Some x
      → t.top.has_left ≡ false → is_over x ≡ true)
      → (result : Option ℕ) (v : Value) → ((u : ℕ) → IsMadeOnce f u → result ≡ Some u → ⊥)
      → IsAliveState m counts (gives t result v)
  past_end is no_mark over result v apart = record {
    tags = h.tags;
    stack = (
      record {
        tagged = λ u b made e. h.stack.0.tagged u b made (ap block_of (sym (names u made)) ∙ e);
        past = λ u b made e z. past u b made (ap block_of (sym (names u made)) ∙ e) z;
        owned = h.stack.0.owned;
        early = λ e. all_both (IsSlotOf h.tags (length t.world.memory) (Ramp (length t.below)) f)
            (IsAliveSlot (counts t.top.func) t.world.memory f t.top.values (spot_of f t.top))
            (IsAliveSlot (counts t.top.func) t.world.memory f (with_result t.top.values result v)
            (spot_by f t.top.mode (after p))) t.top.slots (λ slot own was now counted marked. held slot own
            (was now counted marked))
            (h.stack.0.owned e) (h.stack.0.early e);
        met = h.stack.0.met;
        stays = h.stack.0.stays;
        goes = λ j x ej ex g not_over. absurd (never j x ej ex not_over g);
        ended = λ j x ej ex left fin. inr (subst (IsAfterEnd f) (sym behind) ended);
      },
      h.stack.1,
      later_all m counts (account_of h.tags t) (account_of h.tags t) t.below (in_any _ t.below
          (fewer_for m counts (account_of h.tags t) t.world.memory (same_fewer t.world.memory) (owned_of m counts t h)))
          h.stack.2,
    );
    instances = λ j x e. later_instance m counts (account_of h.tags t) (account_of h.tags t) (t.top ∷ t.below)
        ((gives t result v).top ∷ t.below) j x
        (longer_kept m counts (account_of h.tags t) t.world.memory (omega arith))
        (fewer_instance m counts (account_of h.tags t) t.world.memory (same_fewer t.world.memory)
        (owned_of m counts t h) j x e) (λ there. there) (h.instances j x e);
  }
    where
      here : spot_of f t.top ≡ p
      here = spot_is f t.top.mode p still

      behind : spot_by f t.top.mode (after p) ≡ after p
      behind = spot_is f t.top.mode (after p) still

      names : (u : ℕ) → IsMadeOnce f u → value_in (with_result t.top.values result v) u ≡ value_in t.top.values u
      names u made = result_elsewhere t.top.values result u v (λ e. apart u made e)

      past : (u b : ℕ) (made : IsMadeOnce f u) → block_of (value_in t.top.values u) ≡ Some b
          → (spot_by f t.top.mode (after p)).block ≡ 0 → made.at < (spot_by f t.top.mode (after p)).at
      past u b made e = subst (λ (z : Point). z.block ≡ 0 → made.at < z.at) (sym behind)
          (λ z. let less : made.at < t.top.at = subst (λ (y : Point). y.block ≡ 0 → made.at < y.at) here
          (h.stack.0.past u b made e) z in omega (arith, less))

      held : (slot : Slot) → IsSlotOf h.tags (length t.world.memory) (Ramp (length t.below)) f slot
          → IsHeld f t.top.values (spot_of f t.top) slot
          → IsHeld f (with_result t.top.values result v) (spot_by f t.top.mode (after p)) slot
      held slot own o = subst (λ (z : Point). IsHeld f (with_result t.top.values result v) z slot) (sym behind)
          (held_on f t.top.values (with_result t.top.values result v) p (after p) slot
          (edge m counts t h order ramp_slots rules still i stands) (no_marker_here no_mark slot.alloca)
          (names slot.alloca own.made)
          (subst (λ (z : Point). IsHeld f t.top.values z slot) here o))

      ended : IsAfterEnd f (after p)
      ended = end_next f p (record { instr = i; stands = stands; is = is })

      never : (j : ℕ) (x : Instance) → t.top.instance ≡ Some j → slice_get t.instances j ≡ Some x → is_over x ≡ false
          → GoesOn f (length t.below) (gives t result v).top x → ⊥
      never j x ej ex not_over (Stays e) = let no : true ≡ false = sym (over j x ej ex e) ∙ not_over in absurd (cc)
      never j x ej ex not_over (MayLeave saved sleeps e d before) = before ended

-- ---- a return

pub return_alive : (m : Module) (counts : ℕ → ℕ → Bool) (t : State) (h : IsAliveState m counts t)
    → AllIn (IsLower t) t.below
    → ((j : ℕ) (x : Instance) → t.top.instance ≡ Some j → slice_get t.instances j ≡ Some x → t.top.has_left ≡ false
    → x.status ≡ Status.Running → x.freed ≡ false → ⊥)
    → (v : Option Value) → StaysAlive m counts (return t v)
return_alive m counts t h lower never v = on t.below refl
  where
    u : State
    u = returned t

    e : IsAliveState m counts (returned t)
    e = emptied m counts t h (without_slots t.world.memory t.top.slots) (without_fewer t.world.memory t.top.slots)

    on : (below : List Activation) → t.below ≡ below → StaysAlive m counts (pop (returned t) v below)
    on [] eb = then_alive m counts (outcome_of v) (λ outcome. Ok (record (returned t) { outcome = outcome }))
        (λ o eo. record { tags = e.tags; stack = e.stack; instances = e.instances })
    on (a ∷ below) eb =
        popped m counts (returned t) e a below eb (unwrap_or v Value.Poison) never
        (λ i x ei ex. (subst (AllIn (IsLower t)) eb lower).0.own i x ei ex)
