-- Begin, a save and a suspend leave a state in which live slots may be alive.
use Rattle.std.proofs.Common.{◌≡◌, ◌⊎◌, inl, inr, ℕ, Bool, true, false, not, List, [], length, Option, Some, None}
use Rattle.std.proofs.Common.{Result, Ok, Err, refl, sym, ap, ◌∙◌, subst}
use Rattle.std.specs.Prelude.{is_none, negsuc, slice_get}
use Rattle.pass_renewed_proof.specs.ir_base.declared.cause.Cause.{Cause}
use Rattle.pass_renewed_proof.specs.ir_model.declared.instr.Instr.{Instr}
use Rattle.pass_renewed_proof.specs.ir_model.declared.module.Function.{Function}
use Rattle.pass_renewed_proof.specs.ir_model.declared.module.Module.{Module}
use Rattle.pass_renewed_proof.specs.ir_model.declared.operand.Intrinsic.{Intrinsic}
use Rattle.pass_renewed_proof.specs.ir_model.declared.operand.Operand.{Operand}
use Rattle.pass_renewed_proof.specs.ir_paths.Windows.{IsInWindow, call_operand, is_call_of, suspend_of}
use Rattle.pass_renewed_proof.specs.ir_paths.declared.point.Point.{Point}
use Rattle.pass_renewed_proof.proofs.pass_kept_proof.Rules.{leads_between}
use Rattle.pass_renewed_proof.specs.pass_kept_proof.SuspendRules.{IsCallAt}
use Rattle.pass_renewed_proof.specs.SlotRules.{IsMadeOnce, IsMarkerAt}
use Rattle.pass_renewed_proof.specs.rule_windows.Sets.{RunsOut}
use Rattle.run_hooks.proofs.Points.{save_no_end, suspend_no_end}
use Rattle.run_hooks.proofs.alive.Acts.{gives_alive, walked}
use Rattle.run_hooks.proofs.alive.Begins.{begun_alive}
use Rattle.run_hooks.proofs.alive.Marks.{held_on, runs_on, spot_is}
use Rattle.run_hooks.proofs.alive.Open.{after}
use Rattle.run_hooks.proofs.alive.Lives.{owned_fewer}
use Rattle.run_hooks.proofs.alive.Order.{low, saves, suspends, shut_in}
use Rattle.run_hooks.proofs.alive.Parts.{Here, IsSet, Other, get_set}
use Rattle.run_hooks.proofs.alive.Places.{own_there, placed, with_fewer}
use Rattle.run_hooks.proofs.alive.Statuses.{released_alive, saved_alive}
use Rattle.run_hooks.specs.Away.{IsPair, point_in, spot_by}
use Rattle.run_hooks.specs.alive.Alive.{IsAliveState, IsEnded, StaysAlive, handing, IsEnd}
use Rattle.run_hooks.specs.alive.Slots.{IsHeld}
use Rattle.pass_renewed_proof.proofs.Ahead.{next_edge}
use Rattle.pass_renewed_proof.proofs.Left.{call_listed}
use Rattle.pass_renewed_proof.specs.ir_paths.Slots.{IsRampSlot}
use Rattle.pass_renewed_proof.specs.run_memory.Memory.{own}
use Rattle.pass_renewed_proof.specs.run_memory.declared.block.Kind.{Kind}
use Rattle.pass_renewed_proof.specs.run_memory.declared.block.MemoryBlock.{MemoryBlock}
use Rattle.pass_renewed_proof.specs.run_memory.declared.pointer.Value.{Value}
use Rattle.pass_renewed_proof.specs.run_source.Source.{begin, begin_at, begun, is_save, release, save, save_for, suspend, change_own}
use Rattle.pass_renewed_proof.specs.run_source.State.{function_of, gives, is_suspended, next, own_facts, own_frame, own_instance}
use Rattle.pass_renewed_proof.specs.run_source.State.{with_instance, with_left, with_memory}
use Rattle.pass_renewed_proof.specs.run_source.declared.state.Instance.{Instance}
use Rattle.pass_renewed_proof.specs.run_source.declared.state.State.{State}
use Rattle.pass_renewed_proof.specs.run_source.declared.state.Status.{Status}
use Rattle.pass_renewed_proof.specs.run_source_tables.Given.{Given}
use Rattle.pass_renewed_proof.specs.run_step.Results.{and_then, found, ok_if}
use Rattle.pass_renewed_proof.specs.run_step.Step.{AtInstr, Fetched, alloca, block_of, fetch}
use Rattle.pass_renewed_proof.specs.run_step.Values.{Env, integer}
use Rattle.pass_renewed_proof.specs.run_step.declared.world.Slot.{Slot}
use Rattle.run_hooks.proofs.alive.Like.{like, set_like, unmade}
use Rattle.run_hooks.proofs.alive.Now.{IsNow, own_rules, own_places, ordered, stays_here, at_point, gives_here}

module _ {g : Given} {counts : ℕ → ℕ → Bool} {hand : ℕ → Point → Env → Env} {s : State}
    (start : IsNow g counts hand s) where
  abbrev m : Module
  m = g.code

  abbrev f : Function
  f = function_of g s

  abbrev p : Point
  p = point_in s.top

  abbrev here : Fetched
  here = fetch f s.top.block s.top.at

  abbrev ramp : List ℕ
  ramp = (own_facts g s).ramp_slots

  abbrev h : IsAliveState g.code counts s
  h = start.alive

  abbrev Fine : Result State Cause → Type 0
  Fine r = StaysAlive g.code counts r

  module _ (i : Instr) (stands : here ≡ AtInstr i) where
    -- ---- a save, and a suspend that saves

    module _ (no_end : is_call_of Intrinsic.CoroEnd i ≡ false) (no_mark : is_call_of Intrinsic.LifetimeEnd i ≡ false)
        (left : s.top.has_left ≡ false) (k u : Point)
        (early : IsEnded f p → ⊥)
        (held : (slot : Slot) → IsHeld f s.top.values p slot
        → IsMadeOnce f slot.alloca
        → (IsRampSlot f slot.alloca → ⊥) → IsHeld f s.top.values u slot)
        (runs : RunsOut f p → RunsOut f u) (result : Option ℕ) (v : Value)
        (apart : (u : ℕ) → IsMadeOnce f u → result ≡ Some u → ⊥) where
      saved : Fine (and_then (save_for s k u) (λ t. Ok (gives t result v)))
      saved = on (own_instance s) (own_there s)
        where
          by : (n : ℕ) (x : Instance) → s.top.instance ≡ Some n → slice_get s.instances n ≡ Some x → (t : Bool)
              → x.freed ≡ not t → Fine (and_then (ok_if t Cause.State (with_left (with_instance s n (record x {
                status = Status.Suspended u s.top.values;
                last_save = Some (record { depth = length s.below; save = k });
              })) true)) (λ t. Ok (gives t result v)))
          by n x en ex false kept = tt
          by n x en ex true kept =
              gives_alive m counts t alive (like s (ordered start) t refl refl refl
              (set_like s.instances n x y ex refl) (λ j z ej ez e. absurd (cc))) ramp (own_rules start)
              (stays_here start) i stands
              no_end no_mark result v apart
            where
              y : Instance
              y = record x {
                status = Status.Suspended u s.top.values;
                last_save = Some (record { depth = length s.below; save = k });
              }

              t : State
              t = with_left (with_instance s n y) true

              alive : IsAliveState m counts (with_left (with_instance s n (record x {
                status = Status.Suspended u s.top.values;
                last_save = Some (record { depth = length s.below; save = k });
              })) true)
              alive = saved_alive m counts s h (ordered start) n x en ex left kept
                  (λ fin. early (subst (IsEnded f) (at_point start) (h.stack.0.ended n x en ex left fin))) k u
                  (λ slot o own shared. held slot (subst (λ (q : Point). IsHeld f s.top.values q slot) (at_point start)
                  o)
                  own.made shared)
                  (λ o. runs (subst (RunsOut f) (at_point start) o))

          on : (o : Option (ℕ × Instance)) → ((n : ℕ) (x : Instance) → o ≡ Some (n, x)
              → (s.top.instance ≡ Some n) × (slice_get s.instances n ≡ Some x))
              → Fine (and_then (and_then (found Cause.State o) (λ (n, x). ok_if (not x.freed) Cause.State
              (with_left (with_instance s n (record x {
                status = Status.Suspended u s.top.values;
                last_save = Some (record { depth = length s.below; save = k });
              })) true))) (λ t. Ok (gives t result v)))
          on None is = tt
          on (Some q) is =
              let r = is q.0 q.1 refl in by q.0 q.1 r.0 r.1 (not q.1.freed) (twice q.1.freed)
            where
              twice : (b : Bool) → b ≡ not (not b)
              twice true = refl
              twice false = refl

    -- ---- the coro intrinsics

    -- a call of begin stands behind itself
    begins_run : is_call_of Intrinsic.CoroBegin i ≡ true → RunsOut f (after p)
    begins_run is = record {
      start = p;
      is_start = call_listed f Intrinsic.CoroBegin p (record { instr = i; stands = stands; is = is });
      path = record { between = []; is_path = next_edge f s.top.block s.top.at i stands };
    }

    pub begin_fine : is_call_of Intrinsic.CoroBegin i ≡ true → is_call_of Intrinsic.CoroEnd i ≡ false
        → is_call_of Intrinsic.LifetimeEnd i ≡ false → (result : Option ℕ) (mem : Value)
        → ((u : ℕ) → IsMadeOnce f u → result ≡ Some u → ⊥) → Fine (begin g s result mem)
    begin_fine is no_end no_mark result mem apart = on s.top.instance refl
      where
        last_part : s.top.instance ≡ None → (memory : List MemoryBlock)
            → own s.world.memory mem (own_frame g s).size Kind.Allocator ≡ Ok memory → (o : Option ℕ)
            → Fine (and_then (and_then (found Cause.Begin o) (λ b. Ok (begun g (with_memory s memory) b 0)))
            (λ z. Ok (gives z result mem)))
        last_part none memory e None = tt
        last_part none memory e (Some b) =
            begun_alive m counts g (gives (with_memory s memory) result mem) given b 0 none runs
            (low (handing g hand) refl start.places s start.reached start.last start.placed) (own_rules start)
          where
            one : IsAliveState m counts (with_memory s memory)
            one = with_fewer m counts s h memory
                (owned_fewer s.world.memory memory mem (own_frame g s).size Kind.Allocator e)

            given : IsAliveState m counts (gives (with_memory s memory) result mem)
            given = gives_alive m counts (with_memory s memory) one (like s (ordered start) (with_memory s memory) refl
                refl
                refl (λ j z ez. (z, ez, refl)) (ordered start).awake) ramp (own_rules start) (stays_here start) i stands
                no_end no_mark result
                mem apart

            runs : RunsOut f (spot_by f s.top.mode (after p))
            runs = subst (RunsOut f) (sym (spot_is f s.top.mode (after p) (stays_here start))) (begins_run is)

        by : s.top.instance ≡ None → (r : Result (List MemoryBlock) Cause)
            → own s.world.memory mem (own_frame g s).size Kind.Allocator ≡ r
            → Fine (and_then (and_then r (λ memory. and_then (found Cause.Begin (block_of mem))
            (λ b. Ok (begun g (with_memory s memory) b 0)))) (λ z. Ok (gives z result mem)))
        by none (Err cause) e = tt
        by none (Ok memory) e = last_part none memory e (block_of mem)

        on : (o : Option ℕ) → s.top.instance ≡ o → Fine (and_then (ok_if (is_none o) Cause.Begin s)
            (λ z. and_then (begin_at g z mem Kind.Allocator) (λ z. Ok (gives z result mem))))
        on None none = by none (own s.world.memory mem (own_frame g s).size Kind.Allocator) refl
        on (Some n) e = tt

    pub free_fine : is_call_of Intrinsic.CoroEnd i ≡ false → is_call_of Intrinsic.LifetimeEnd i ≡ false
        → (result : Option ℕ) (v : Value) → ((u : ℕ) → IsMadeOnce f u → result ≡ Some u → ⊥)
        → IsAliveState m counts (gives (release s) result v)
    free_fine no_end no_mark result v apart = on (own_instance s) (own_there s)
      where
        on : (o : Option (ℕ × Instance)) → ((n : ℕ) (x : Instance) → o ≡ Some (n, x)
            → (s.top.instance ≡ Some n) × (slice_get s.instances n ≡ Some x))
            → IsAliveState m counts
            (gives (change_own s (λ x. record x { released = true }) o) result v)
        on None is = (gives_here start i stands) no_end no_mark result v apart
        on (Some q) is =
            let r = is q.0 q.1 refl in
            gives_alive m counts (with_instance s q.0 (record q.1 { released = true }))
            (released_alive m counts s h (ordered start) q.0 q.1 r.1)
            (like s (ordered start) (with_instance s q.0 (record q.1 { released = true })) refl refl refl
            (set_like s.instances q.0 q.1 (record q.1 { released = true }) r.1 refl)
            (λ j z ej ez left. awake q.0 q.1 r.1 j z ej left (get_set s.instances q.0 (record q.1 { released = true }) j
            z ez)))
            ramp (own_rules start) (stays_here start) i stands no_end no_mark result v apart
          where
            awake : (n : ℕ) (x : Instance) → slice_get s.instances n ≡ Some x → (j : ℕ) (z : Instance)
                → s.top.instance ≡ Some j → s.top.has_left ≡ false
                → IsSet s.instances n (record x { released = true }) j z → is_suspended z.status ≡ false
            awake n x ex j z ej left (Here e w) = ap (λ (y : Instance). is_suspended y.status) w
                ∙ (ordered start).awake j x ej (ap (slice_get s.instances) e ∙ ex) left
            awake n x ex j z ej left (Other ne w) = (ordered start).awake j z ej w left

    pub save_fine : is_call_of Intrinsic.CoroSave i ≡ true → is_call_of Intrinsic.CoroEnd i ≡ false
        → is_call_of Intrinsic.LifetimeEnd i ≡ false → Fine (save g s)
    save_fine is no_end no_mark = on (suspend_of f p) refl
      where
        c : IsCallAt Intrinsic.CoroSave f p
        c = record { instr = i; stands = stands; is = is }

        by : (u : Point) → suspend_of f p ≡ Some u → Fine (and_then (save_for s p u) (λ t. Ok (next t)))
        by u e = saved no_end no_mark (saves (handing g hand) refl start.places s start.reached start.last start.placed
            (own_rules start).no_save c)
            p u early held runs None Value.Poison (λ n made z. unmade None n z)
          where
            pair : IsPair f p u
            pair = record { is_save = c; takes = e }

            early : IsEnded f p → ⊥
            early (inl d) = save_no_end f p c d
            early (inr a) = (own_rules start).no_save p a c

            held : (slot : Slot) → IsHeld f s.top.values p slot → IsMadeOnce f slot.alloca
                → (IsRampSlot f slot.alloca → ⊥) → IsHeld f s.top.values u slot
            held slot o made shared = walked f p u (λ q. IsHeld f s.top.values q slot)
                (λ q r way edge was. held_on f s.top.values s.top.values q r slot edge (no_mark_on q way) refl was)
                (leads_between f p u ((own_places start).leads p u pair)) o
              where
                no_mark_on : (q : Point) → (q ≡ p) ⊎ IsInWindow f p u q
                    → IsMarkerAt f Intrinsic.LifetimeEnd slot.alloca q → ⊥
                no_mark_on q (inl at) mark =
                    let stands_p : fetch f p.block p.at ≡ AtInstr mark.instr =
                    subst (λ (z : Point). fetch f z.block z.at ≡ AtInstr mark.instr) at mark.stands in
                    let both : AtInstr mark.instr ≡ AtInstr i = sym stands_p ∙ stands in
                    let same : mark.instr ≡ i = cc in
                    let no : true ≡ false = sym mark.is ∙ ap (is_call_of Intrinsic.LifetimeEnd) same ∙ no_mark in
                    absurd (cc)
                no_mark_on q (inr w) mark = (own_rules start).closed Intrinsic.LifetimeEnd IsEnd
                    slot.alloca q mark (shut_in (handing g hand) refl start.places s start.reached start.last
                    start.placed slot.alloca p u q
                    pair w mark) made shared

            runs : RunsOut f p → RunsOut f u
            runs o = walked f p u (RunsOut f) (λ q r way edge was. runs_on f q r edge (no_end_on q way) was)
                (leads_between f p u ((own_places start).leads p u pair)) o
              where
                no_end_on : (q : Point) → (q ≡ p) ⊎ IsInWindow f p u q → IsCallAt Intrinsic.CoroEnd f q → ⊥
                no_end_on q (inl at) d = save_no_end f p c (subst (IsCallAt Intrinsic.CoroEnd f) at d)
                no_end_on q (inr w) d = (own_places start).no_end p u q pair w d

        on : (o : Option Point) → suspend_of f p ≡ o
            → Fine (and_then (found Cause.State o) (λ u. and_then (save_for s p u) (λ t. Ok (next t))))
        on None e = tt
        on (Some u) e = by u e

    pub suspend_fine : is_call_of Intrinsic.CoroSuspend i ≡ true → is_call_of Intrinsic.CoroEnd i ≡ false
        → is_call_of Intrinsic.LifetimeEnd i ≡ false → (result : Option ℕ)
        → ((u : ℕ) → IsMadeOnce f u → result ≡ Some u → ⊥) → (token : Operand) → call_operand i 0 ≡ token
        → Fine (suspend s result token)
    suspend_fine is no_end no_mark result apart Operand.None e =
        saved no_end no_mark (suspends (handing g hand) refl start.places s start.reached start.last start.placed c e) p
        p early
        (λ slot o made shared. o) (λ o. o) result (integer 8 (negsuc 0)) apart
      where
        c : IsCallAt Intrinsic.CoroSuspend f p
        c = record { instr = i; stands = stands; is = is }

        early : IsEnded f p → ⊥
        early (inl d) = suspend_no_end f p c d
        early (inr a) = (own_places start).no_suspend p a c
    suspend_fine is no_end no_mark result apart _ e = (gives_here start i stands) no_end no_mark result
        (integer 8 (negsuc 0)) apart
