-- At the end the instance of an activation that hasn't left is over, and one that wasn't resumed goes on.
use Rattle.std.proofs.Common.{◌≡◌, ◌≢◌, ℕ, ◌+◌, inr, Bool, true, false, [], length, Option, Some, None, refl}
use Rattle.std.proofs.Common.{Result, Ok, sym, ap, ◌∙◌, subst, ⊎_elim, if◌then◌else◌}
use Rattle.std.proofs.lemmas.Bool.{false≢true}
use Rattle.std.specs.Prelude.{IsTrue, option_and_then, option_map, slice_get}
use Rattle.pass_kept_proof.specs.ir_base.declared.cause.Cause.{Cause}
use Rattle.pass_kept_proof.specs.ir_model.Names.{function_at}
use Rattle.pass_kept_proof.specs.ir_model.declared.instr.Instr.{Instr}
use Rattle.pass_kept_proof.specs.ir_model.declared.module.Function.{Function}
use Rattle.pass_kept_proof.specs.ir_model.declared.module.Module.{Module}
use Rattle.pass_kept_proof.specs.ir_model.declared.operand.Callee.{Callee}
use Rattle.pass_kept_proof.specs.ir_model.declared.operand.Intrinsic.{Intrinsic}
use Rattle.pass_kept_proof.specs.ir_paths.Paths.{has_point, nexts}
use Rattle.pass_kept_proof.specs.ir_paths.Windows.{is_call_of}
use Rattle.pass_kept_proof.specs.SuspendRules.{IsCallAt}
use Rattle.pass_kept_proof.specs.rule_windows.Sets.{IsAfterEnd}
use Rattle.pass_kept_proof.specs.run_memory.declared.pointer.Value.{Value}
use Rattle.pass_kept_proof.specs.run_source.Source.{after_end, change_own, end_of, finish, slots_of}
use Rattle.pass_kept_proof.specs.run_source.State.{gives, numbered, own_instance, with_memory}
use Rattle.pass_kept_proof.specs.run_source.declared.state.Activation.{Activation}
use Rattle.pass_kept_proof.specs.run_source.declared.state.Instance.{Instance}
use Rattle.pass_kept_proof.specs.run_source.declared.state.Mode.{Mode}
use Rattle.pass_kept_proof.specs.run_source.declared.state.State.{State}
use Rattle.pass_kept_proof.specs.run_source.declared.state.Status.{Status}
use Rattle.pass_kept_proof.specs.run_step.Step.{without_slots}
use Rattle.pass_kept_proof.specs.run_step.declared.world.Slot.{Slot}
use Rattle.pass_kept_proof.specs.run_step.Values.{truth_value, with_result}
use Rattle.pass_renewed_proof.proofs.Ahead.{next_edge}
use Rattle.pass_renewed_proof.proofs.Carried.{same_carried, same_kept, slots_on}
use Rattle.pass_renewed_proof.proofs.Finishing.{finished_beside}
use Rattle.pass_renewed_proof.proofs.Giving.{IsGivenName, envs, others, unset}
use Rattle.pass_renewed_proof.proofs.Left.{call_listed}
use Rattle.pass_renewed_proof.proofs.Listing.{set_here}
use Rattle.pass_renewed_proof.proofs.Onward.{IsEdgeOf, activation_begun, passed_next, slot_passed}
use Rattle.pass_renewed_proof.proofs.Passing.{unended, unstarted}
use Rattle.pass_renewed_proof.proofs.Sets.{result_elsewhere}
use Rattle.pass_renewed_proof.specs.Beside.{IsActivationBeside, IsBeside, IsOverOf, IsOwn, place_in}
use Rattle.pass_renewed_proof.specs.Ledger.{Ledger}
use Rattle.pass_renewed_proof.specs.Left.{Behind, behind}
use Rattle.pass_renewed_proof.specs.Making.{HasInstance, IsEndOf}
use Rattle.pass_renewed_proof.specs.Renewed.{Flags, Roots}
use Rattle.pass_renewed_proof.specs.SlotRules.{KeepsSlots}

no_start_call : (i : Instr) → is_call_of Intrinsic.CoroEnd i ≡ true → is_call_of Intrinsic.LifetimeStart i ≡ false
no_start_call (Instr.Call r must_tail ty (Callee.Intrinsic Intrinsic.CoroEnd) args) e = refl
no_start_call _ e = absurd (cc)

no_end_call : (i : Instr) → is_call_of Intrinsic.CoroEnd i ≡ true → is_call_of Intrinsic.LifetimeEnd i ≡ false
no_end_call (Instr.Call r must_tail ty (Callee.Intrinsic Intrinsic.CoroEnd) args) e = refl
no_end_call _ e = absurd (cc)

-- ---- one that goes on behind the end

module _ (m : Module) (flags : Flags) (roots : Roots) (keeps : (func : ℕ)
    → KeepsSlots m (function_at m func) (flags func) (roots func)) (s t : State) (beside : IsBeside m flags roots s t)
    (i : Instr) (result : Option ℕ) (is : IsEndOf m roots s.top i result) (over : s.top.instance ≢ None
    → s.top.has_left ≡ false → IsOverOf s.instances s.top) where
  abbrev l : Ledger
  l = beside.ledger

  abbrev f : Function
  f = function_at m s.top.func

  abbrev h : IsActivationBeside m flags roots beside.ledger s.instances s.world.memory t.world.memory (length s.below)
      s.top t.top
  h = beside.top

  abbrev v : Value
  v = truth_value false

  edge : has_point (nexts (function_at m s.top.func) (place_in s.top)) (behind (place_in s.top)) ≡ true
  edge = next_edge f s.top.block s.top.at i is.here

  call : IsCallAt Intrinsic.CoroEnd (function_at m s.top.func) (place_in s.top)
  call = record { instr = i; stands = is.here; is = is.is }

  after : IsAfterEnd (function_at m s.top.func) (behind (place_in s.top))
  after = record {
    start = place_in s.top;
    is_start = call_listed f Intrinsic.CoroEnd (place_in s.top) call;
    path = record { between = []; is_path = edge };
  }

  onward : IsEdgeOf (function_at m s.top.func) s.top (behind (place_in s.top))
  onward = record {
    edge = edge;
    passed = λ slot. passed_next f slot (place_in s.top);
    not_last = λ resumed last. is.first resumed;
    left = λ left z c by. Behind after;
  }

  name : IsGivenName m flags roots beside.ledger s.top result v v
  name = record { no_part = is.no_part; others = λ u other given. absurd (is.no_alloca u other.made given) }

  unset_here : (slot : ℕ) → IsTrue (flags s.top.func slot) → result ≡ Some slot → ⊥
  unset_here = unset m flags roots keeps s t beside l s.world t.world (same_carried l s.world.memory t.world.memory)
      result v v name refl

  own_there : (slot : Slot) → IsOwn beside.ledger (flags s.top.func) (length s.below) s.top.values beside.top.values
      slot → IsOwn beside.ledger (flags s.top.func) (length s.below) (with_result s.top.values result v) (with_result
      beside.top.values result v) slot
  own_there slot o = record {
    flagged = o.flagged;
    owner = o.owner;
    address = result_elsewhere beside.top.values result slot.alloca v (unset_here slot.alloca o.flagged) ∙ o.address;
    tenant = λ d at. result_elsewhere s.top.values result slot.alloca v (unset_here slot.alloca o.flagged) ∙ o.tenant d
        at;
  }

  top_closed : IsActivationBeside m flags roots beside.ledger s.instances s.world.memory t.world.memory (length s.below)
      (record s.top { at = s.top.at + 1; values = with_result s.top.values result v }) (record t.top {
        at = t.top.at + 1;
        values = with_result beside.top.values result v;
      })
  top_closed = activation_begun m l l s.instances s.world.memory s.world.memory t.world.memory t.world.memory
      (same_carried l s.world.memory t.world.memory) (length s.below) s.top (behind (place_in s.top)) (with_result
      s.top.values result v) onward flags roots t.top h (λ some. inr (after, over some)) (record t.top {
        at = t.top.at + 1;
        values = with_result beside.top.values result v;
      }) (with_result beside.top.values result v) h.slots (ap (λ (z : Activation). record z {
        at = z.at + 1;
        values = with_result beside.top.values result v;
      }) h.is)
      (envs m flags roots keeps s t beside l s.world t.world (same_carried l s.world.memory t.world.memory) result v v
      name refl)
      (slots_on m flags roots l l s.instances s.instances s.world.memory s.world.memory t.world.memory t.world.memory
      (same_carried l s.world.memory t.world.memory) _ _ _ _ (flags s.top.func) (λ slot z. z) own_there s.top.slots
      h.slots h.listed)
      (others m flags roots keeps s t beside l s.world t.world (same_carried l s.world.memory t.world.memory) result v v
      name refl)
      (λ slot d e flagged at there. slot_passed m l l s.instances s.world.memory s.world.memory t.world.memory
      t.world.memory (same_carried l s.world.memory t.world.memory) (length s.below) s.top (behind (place_in s.top))
      (with_result s.top.values result v) onward slot d e (unstarted f (place_in s.top) i is.here (no_start_call i
      is.is) slot) (λ live. unended f (place_in s.top) i is.here (no_end_call i is.is) slot) (same_kept l s.world.memory
      d) (h.each slot d e flagged (sym (result_elsewhere s.top.values result slot v (unset_here slot flagged)) ∙ at)
      (sym (result_elsewhere beside.top.values result slot v (unset_here slot flagged)) ∙ there)))
      (λ slot is_in flagged. onward.passed slot.alloca (h.made slot is_in flagged))

  pub closed_beside : IsBeside m flags roots (gives s result (truth_value false)) (gives t result (truth_value false))
  closed_beside = subst (λ (z : Activation). IsBeside m flags roots (gives s result v) (record t {
    top = record t.top { at = t.top.at + 1; values = with_result z.values result v };
  })) (sym h.is) (record {
    ledger = l;
    outcome = beside.outcome;
    world = beside.world;
    entered = beside.entered;
    instances = beside.instances;
    top = top_closed;
    below = beside.below;
  })

-- ---- the instance is over

module _ (m : Module) (flags : Flags) (roots : Roots) (keeps : (func : ℕ)
    → KeepsSlots m (function_at m func) (flags func) (roots func)) (s t : State) (beside : IsBeside m flags roots s t)
    (i : Instr) (result : Option ℕ) (is : IsEndOf m roots s.top i result) (owns : HasInstance s.instances s.top) where
  abbrev Ends : State → State → Type 0
  Ends a b = IsBeside m flags roots (gives a result (truth_value false)) (gives b result (truth_value false))

  over_now : s.top.instance ≢ None → IsOverOf (finish s).instances s.top
  over_now some = on s.top.instance refl
    where
      on : (o : Option ℕ) → s.top.instance ≡ o → IsOverOf (finish s).instances s.top
      on None e = absurd (some e)
      on (Some n) e =
          let x = owns n e in
          let own : own_instance s ≡ Some (n, x.0) = ap (option_and_then (numbered s.instances)) e ∙ ap (option_map (λ
          z. (
            n,
            z,
          ))) x.1 in
          record {
            number = n;
            own = e;
            instance = record x.0 { status = Status.Finished };
            there = ap (λ (q : Option (ℕ × Instance)). slice_get (change_own s (λ z. record z {
              status = Status.Finished;
            }) q).instances n) own ∙ set_here s.instances n x.0 (record x.0 { status = Status.Finished }) x.1;
            over = refl;
          }

  by : (u : Bool) → s.top.has_left ≡ u → Ends (if u then s else finish s) (if u then t else finish t)
  by true e = closed_beside m flags roots keeps s t beside i result is (λ some stays. absurd (false≢true (sym stays ∙
      e)))
  by false e = closed_beside m flags roots keeps (finish s) (finish t) (finished_beside m flags roots s t beside) i
      result is' (λ some stays. over_there (over_now (some_own some)))
    where
      is' : IsEndOf m roots (finish s).top i result
      is' = top_same (own_instance s)
        where
          top_same : (o : Option (ℕ × Instance)) → IsEndOf m roots (with_memory (change_own s (λ x. record x {
            status = Status.Finished;
          }) o) (without_slots s.world.memory (slots_of o))).top i result
          top_same None = is
          top_same (Some p) = is

      same_top : (finish s).top ≡ s.top
      same_top = on (own_instance s)
        where
          on : (o : Option (ℕ × Instance)) → (with_memory (change_own s (λ x. record x { status = Status.Finished }) o)
              (without_slots s.world.memory (slots_of o))).top ≡ s.top
          on None = refl
          on (Some p) = refl

      some_own : (finish s).top.instance ≢ None → s.top.instance ≢ None
      some_own some e = some (ap (λ (z : Activation). z.instance) same_top ∙ e)

      over_there : IsOverOf (finish s).instances s.top → IsOverOf (finish s).instances (finish s).top
      over_there o = subst (IsOverOf (finish s).instances) (sym same_top) o

  -- what the second run does, by what the first has done
  abbrev Goes : State → Result State Cause → Type 0
  Goes z r = (other : State) × (r ≡ Ok other) × IsBeside m flags roots z other

  same_ok : {a b : State} → ◌≡◌ {A = Result State Cause} (Ok a) (Ok b) → a ≡ b
  same_ok q = cc

  abbrev first : State
  first = if s.top.has_left then s else finish s

  abbrev second : State
  second = if t.top.has_left then t else finish t

  both : Ends first second
  both = subst (λ u. Ends first (if u then t else finish t)) (ap (λ (z : Activation). z.has_left) (sym beside.top.is))
      (by s.top.has_left refl)

  -- behind the end it goes on
  goes : (mode : Mode) → s.top.mode ≡ mode → ((z : State) → after_end z result mode ≡ Ok (gives z result (truth_value
      false))) → (z : State) → end_of s finish result ≡ Ok z → Goes z (end_of t finish result)
  goes mode e on z ends = (
    gives second result (truth_value false),
    ap (after_end second result) (ap (λ (a : Activation). a.mode) beside.top.is ∙ e) ∙ on second,
    subst (λ w. IsBeside m flags roots w (gives second result (truth_value false))) (same_ok (sym (ap (after_end first
        result) e ∙ on first) ∙ ends)) both,
  )

  pub ended_beside : (z : State) → end_of s finish result ≡ Ok z → Goes z (end_of t finish result)
  ended_beside = ⊎_elim
      (λ e. goes Mode.Plain e (λ z. refl))
      (λ o. ⊎_elim (λ e. goes Mode.Ramp e (λ z. refl)) (λ e. absurd (is.first e)) o)
      beside.top.modes
