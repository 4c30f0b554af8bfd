-- A resume or destroy leaves a state in which live slots may be alive.
use Rattle.std.proofs.Common.{◌≡◌, inl, inr, ℕ, ◌+◌, Bool, true, false, List, [], ◌∷◌, length}
use Rattle.std.proofs.Common.{Some, None, refl, sym, ap, ◌∙◌, subst}
use Rattle.std.specs.Prelude.{slice_get, slice_set}
use Rattle.pass_renewed_proof.specs.ir_model.Names.{function_at, position_of}
use Rattle.pass_renewed_proof.specs.ir_model.declared.instr.Instr.{Instr}
use Rattle.pass_renewed_proof.specs.ir_model.declared.instr.Terminator.{Terminator}
use Rattle.pass_renewed_proof.specs.ir_model.declared.module.Function.{Function}
use Rattle.pass_renewed_proof.specs.ir_model.declared.module.Module.{Module}
use Rattle.pass_renewed_proof.specs.ir_model.declared.operand.Callee.{Callee}
use Rattle.pass_renewed_proof.specs.ir_model.declared.operand.Intrinsic.{Intrinsic}
use Rattle.pass_renewed_proof.specs.ir_paths.Paths.{entry_point, has_point, nexts}
use Rattle.pass_renewed_proof.specs.ir_paths.Windows.{is_call_of}
use Rattle.pass_renewed_proof.specs.ir_paths.declared.point.Point.{Point}
use Rattle.pass_renewed_proof.specs.pass_kept_proof.Needed.{BranchesTo}
use Rattle.pass_renewed_proof.specs.pass_kept_proof.SuspendRules.{IsCallAt}
use Rattle.pass_renewed_proof.proofs.Ahead.{branch_edge, next_edge}
use Rattle.pass_renewed_proof.specs.SlotRules.{IsMadeOnce, IsMarkerAt}
use Rattle.pass_renewed_proof.specs.rule_windows.Sets.{RunsOut}
use Rattle.run_hooks.proofs.alive.Changes.{others_later, phis_other}
use Rattle.run_hooks.proofs.alive.Marks.{held_on, runs_on}
use Rattle.run_hooks.proofs.alive.Open.{after}
use Rattle.run_hooks.proofs.alive.Parts.{AllIn, Here, IsLaterFor, IsSet, Other, all_both, get_set, in_map, later_all}
use Rattle.run_hooks.proofs.alive.Statuses.{suspended_over}
use Rattle.run_hooks.specs.alive.Alive.{Account, AreAliveAt, GoesOn, IsAliveAsleep, IsAliveIn, IsAliveInstance}
use Rattle.run_hooks.specs.alive.Alive.{IsAliveState}
use Rattle.run_hooks.specs.alive.Alive.{IsEnded, KeepsAliveRules, MayLeave, Stays, account_of}
use Rattle.run_hooks.specs.alive.Slots.{IsAliveSlot, IsHeld, IsSlotOf, Own}
use Rattle.pass_renewed_proof.specs.run_source.State.{is_finished, is_suspended}
use Rattle.pass_renewed_proof.specs.run_source.declared.state.Activation.{Activation}
use Rattle.pass_renewed_proof.specs.run_source.declared.state.Instance.{Instance}
use Rattle.pass_renewed_proof.specs.run_source.declared.state.Mode.{Mode}
use Rattle.pass_renewed_proof.specs.run_source.declared.state.State.{State}
use Rattle.pass_renewed_proof.specs.run_source.declared.state.Status.{Status}
use Rattle.pass_renewed_proof.specs.run_step.Step.{AtInstr, AtTerm, block_of, fetch, phis_of, values_in}
use Rattle.pass_renewed_proof.specs.run_step.Values.{Env, value_in}
use Rattle.pass_renewed_proof.specs.run_step.declared.world.Slot.{Slot}

suspend_marks : (i : Instr) → is_call_of Intrinsic.CoroSuspend i ≡ true
    → is_call_of Intrinsic.LifetimeEnd i ≡ true → ⊥
suspend_marks (Instr.Call result must_tail ty (Callee.Intrinsic Intrinsic.CoroSuspend) args) e h = absurd (cc)
suspend_marks _ e h = absurd (cc)

suspend_ends : (i : Instr) → is_call_of Intrinsic.CoroSuspend i ≡ true
    → is_call_of Intrinsic.CoroEnd i ≡ true → ⊥
suspend_ends (Instr.Call result must_tail ty (Callee.Intrinsic Intrinsic.CoroSuspend) args) e h = absurd (cc)
suspend_ends _ e h = absurd (cc)

module _ (m : Module) (counts : ℕ → ℕ → Bool) (t : State) (h : IsAliveState m counts t) (i : ℕ) (x : Instance)
    (there : slice_get t.instances i ≡ Some x) (u : Point) (old : Env) (status : x.status ≡ Status.Suspended u old)
    (left : AllIn (λ d a. a.instance ≡ Some i → a.has_left ≡ true) (t.top ∷ t.below)) (ramp_slots : List ℕ)
    (rules : KeepsAliveRules (function_at m x.coroutine) ramp_slots)
    (suspend : IsCallAt Intrinsic.CoroSuspend (function_at m x.coroutine) u) (term : Terminator)
    (stands : fetch (function_at m x.coroutine) u.block (u.at + 1) ≡ AtTerm term) (label : ℕ)
    (branches : BranchesTo label (fetch (function_at m x.coroutine) u.block (u.at + 1))) (values : Env)
    (kept : (v b : ℕ) → IsMadeOnce (function_at m x.coroutine) v → block_of (value_in values v) ≡ Some b
    → block_of (value_in old v) ≡ Some b)
    (handed : (slot : Slot) → IsSlotOf h.tags (length t.world.memory) (Own i) (function_at m x.coroutine) slot
    → counts x.coroutine slot.alloca ≡ true → block_of (value_in old slot.alloca) ≡ Some slot.block
    → block_of (value_in values slot.alloca) ≡ Some slot.block) where
  abbrev f : Function
  f = function_at m x.coroutine

  abbrev q : Point
  q = entry_point (function_at m x.coroutine) label

  abbrev y : Instance
  y = record x { status = Status.Running }

  abbrev l : Account
  l = record (account_of h.tags t) { instances = slice_set t.instances i y }

  is : is_suspended x.status ≡ true
  is = ap is_suspended status

  asleep : IsAliveAsleep m counts (account_of h.tags t) i x u old
  asleep = (h.instances i x there).asleep u old status

  -- ---- the way to the label

  first : has_point (nexts f u) (after u) ≡ true
  first = next_edge (function_at m x.coroutine) u.block u.at suspend.instr suspend.stands

  second : has_point (nexts f (after u)) q ≡ true
  second = (branch_edge (function_at m x.coroutine) u.block (u.at + 1) label branches).edge

  no_mark : (v : ℕ) → IsMarkerAt f Intrinsic.LifetimeEnd v u → ⊥
  no_mark v mark =
      let both : AtInstr mark.instr ≡ AtInstr suspend.instr = sym mark.stands ∙ suspend.stands in
      let same : mark.instr ≡ suspend.instr = cc in
      suspend_marks suspend.instr suspend.is (subst (λ (j : Instr). is_call_of Intrinsic.LifetimeEnd j ≡ true) same
      mark.is)

  no_end : IsCallAt Intrinsic.CoroEnd f u → ⊥
  no_end c =
      let both : AtInstr c.instr ≡ AtInstr suspend.instr = sym c.stands ∙ suspend.stands in
      let same : c.instr ≡ suspend.instr = cc in
      suspend_ends suspend.instr suspend.is (subst (λ (j : Instr). is_call_of Intrinsic.CoroEnd j ≡ true) same c.is)

  no_mark_behind : (v : ℕ) → IsMarkerAt f Intrinsic.LifetimeEnd v (after u) → ⊥
  no_mark_behind v mark = let no : AtTerm term ≡ AtInstr mark.instr = sym stands ∙ mark.stands in absurd (cc)

  no_end_behind : IsCallAt Intrinsic.CoroEnd f (after u) → ⊥
  no_end_behind c = let no : AtTerm term ≡ AtInstr c.instr = sym stands ∙ c.stands in absurd (cc)

  runs : RunsOut f u → RunsOut f q
  runs r = runs_on f (after u) q second no_end_behind (runs_on f u (after u) first no_end r)

  -- ---- the activation that is resumed

  module _ (from : ℕ) where
    abbrev now : Env
    now = values_in m (slice_get (function_at m x.coroutine).blocks (position_of (function_at m x.coroutine) label))
        from values

    same_now : (v : ℕ) → IsMadeOnce f v → value_in now v ≡ value_in values v
    same_now v made = phis_other m values from
        (phis_of (slice_get (function_at m x.coroutine).blocks (position_of (function_at m x.coroutine) label))) values
        v
        (made.no_phi (position_of (function_at m x.coroutine) label))

    held : (slot : Slot) → IsSlotOf h.tags (length t.world.memory) (Own i) f slot → counts x.coroutine slot.alloca
        ≡ true
        → IsHeld f old u slot → IsHeld f now q slot
    held slot own counted o =
        let at_u : IsHeld f values u slot = record {
          start = o.start;
          is_start = o.is_start;
          path = o.path;
          known = handed slot own counted o.known;
        } in
        held_on f values now (after u) q slot second (no_mark_behind slot.alloca) (same_now slot.alloca own.made)
        (held_on f values values u (after u) slot first (no_mark slot.alloca) refl at_u)

    alive : AreAliveAt (counts x.coroutine) t.world.memory f now q y
    alive = record {
      runs = runs asleep.alive.runs;
      slots = all_both (IsSlotOf h.tags (length t.world.memory) (Own i) f)
          (IsAliveSlot (counts x.coroutine) t.world.memory f old u)
          (IsAliveSlot (counts x.coroutine) t.world.memory f now q) x.slots
          (λ slot own was lived counted marked. held slot own counted (was lived counted marked))
          (h.instances i x there).owned asleep.alive.slots;
    }

    abbrev a : Activation
    a = record {
      func = x.coroutine;
      block = position_of (function_at m x.coroutine) label;
      at = 0;
      values = now;
      slots = [];
      result = None;
      mode = Mode.Resumed;
      instance = Some i;
      has_left = false;
    }

    top : IsAliveIn m counts l (length (t.top ∷ t.below)) a
    top = record {
      tagged = λ v b made e. asleep.tagged v b made (kept v b made (ap block_of (sym (same_now v made)) ∙ e));
      past = λ v b made e z. absurd (rules.entry u.block (u.at + 1) label branches z);
      owned = λ e. tt;
      early = λ e. tt;
      met = λ e. record { point = record { block = 0; at = 0 }; each = tt };
      stays = λ e. refl;
      goes = λ j z ej ez g over. on j z ej (get_set t.instances i y j z ez);
      ended = λ j z ej ez stays fin. on_ended j z ej fin (get_set t.instances i y j z ez);
    }
      where
        number : (j : ℕ) → Some i ≡ Some j → j ≡ i
        number j e = let same : i ≡ j = cc in sym same

        on : (j : ℕ) (z : Instance) → Some i ≡ Some j → IsSet t.instances i y j z
            → AreAliveAt (counts x.coroutine) t.world.memory f now q z
        on j z ej (Here e w) = subst (AreAliveAt (counts x.coroutine) t.world.memory f now q) (sym w) alive
        on j z ej (Other ne w) = absurd (ne (number j ej))

        on_ended : (j : ℕ) (z : Instance) → Some i ≡ Some j → is_finished z.status ≡ true → IsSet t.instances i y j z
            → IsEnded f q
        on_ended j z ej fin (Here e w) =
            let no : false ≡ true = sym (ap (λ (v : Instance). is_finished v.status) w) ∙ fin in absurd (cc)
        on_ended j z ej fin (Other ne w) = absurd (ne (number j ej))

    later : (d : ℕ) (b : Activation) → (b.instance ≡ Some i → b.has_left ≡ true)
        → IsLaterFor m counts (account_of h.tags t) l d b
    later d b gone = others_later m counts t h i y d b (λ ea g over. absurd (never ea g)) (λ ea stays fin. absurd (cc))
      where
        never : b.instance ≡ Some i → GoesOn (function_at m b.func) d b y → ⊥
        never ea (Stays e) = let no : true ≡ false = sym (gone ea) ∙ e in absurd (cc)
        never ea (MayLeave other sleeps e d' v) = absurd (cc)

    pub resumed_alive : IsAliveState m counts (record t {
      instances = slice_set t.instances i (record x { status = Status.Running });
      top = record {
        func = x.coroutine;
        block = position_of (function_at m x.coroutine) label;
        at = 0;
        values = values_in m
            (slice_get (function_at m x.coroutine).blocks (position_of (function_at m x.coroutine) label)) from values;
        slots = [];
        result = None;
        mode = Mode.Resumed;
        instance = Some i;
        has_left = false;
      };
      below = t.top ∷ t.below;
    })
    resumed_alive = record {
      tags = h.tags;
      stack = (
        top,
        (λ v e. absurd (cc)),
        later_all m counts (account_of h.tags t) l (t.top ∷ t.below) (in_map _ _ (t.top ∷ t.below) later left) h.stack,
      );
      instances = λ j z e. on j z (get_set t.instances i y j z e);
    }
      where
        is_own : IsAliveInstance m counts l (a ∷ t.top ∷ t.below) i y
        is_own =
            let o = h.instances i x there in
            record {
              owned = o.owned;
              shared = o.shared;
              over = λ e. o.over (suspended_over x is ∙ e);
              met = o.met;
              asleep = λ v vs e. absurd (cc);
              running = λ e g. inl (refl, refl);
            }

        on : (j : ℕ) (z : Instance) → IsSet t.instances i y j z
            → IsAliveInstance m counts l (a ∷ t.top ∷ t.below) j z
        on j z (Here ej ez) =
            subst (λ (n : ℕ). IsAliveInstance m counts l (a ∷ t.top ∷ t.below) n z) (sym ej)
            (subst (λ (w : Instance). IsAliveInstance m counts l (a ∷ t.top ∷ t.below) i w) (sym ez) is_own)
        on j z (Other ne e) =
            let o = h.instances j z e in
            record {
              owned = o.owned;
              shared = o.shared;
              over = o.over;
              met = o.met;
              asleep = λ v vs w. let r = o.asleep v vs w
                  in record { tagged = r.tagged; alive = record { runs = r.alive.runs; slots = r.alive.slots } };
              running = λ w g. inr (o.running w g);
            }
