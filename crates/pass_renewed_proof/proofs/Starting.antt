-- Where a slot that may be made anew is started, the second run does nothing.
use Rattle.std.proofs.Common.{◌≡◌, ◌≢◌, ℕ, ◌+◌, ◌≤◌, ◌⊎◌, inl, inr, Bool, true, false, List, [], ◌∷◌, length}
use Rattle.std.proofs.Common.{Option, Some, refl, sym, ap, ◌∙◌, subst, ⊎_elim, arith}
use Rattle.std.proofs.lemmas.Bool.{cases_eq, false≢true}
use Rattle.std.specs.Prelude.{IsTrue, slice_get, ℤ}
use Rattle.pass_kept_proof.specs.ir_model.Names.{function_at, is_local}
use Rattle.pass_kept_proof.specs.ir_model.Ty.{Ty}
use Rattle.pass_kept_proof.specs.ir_model.declared.instr.Instr.{Instr}
use Rattle.pass_kept_proof.specs.ir_model.declared.module.Function.{Function}
use Rattle.pass_kept_proof.specs.ir_model.declared.module.Module.{Module}
use Rattle.pass_kept_proof.specs.ir_model.declared.operand.Arg.{Arg}
use Rattle.pass_kept_proof.specs.ir_model.declared.operand.Callee.{Callee}
use Rattle.pass_kept_proof.specs.ir_model.declared.operand.Intrinsic.{Intrinsic}
use Rattle.pass_kept_proof.specs.ir_paths.Paths.{has_point}
use Rattle.pass_kept_proof.specs.ir_paths.Slots.{is_escaped}
use Rattle.pass_kept_proof.specs.ir_paths.Windows.{end_block}
use Rattle.pass_kept_proof.specs.ir_paths.declared.point.Point.{Point}
use Rattle.frame_classes.specs.Alive.{MayBeAlive, Started}
use Rattle.frame_classes.specs.Classes.{NeedsFrame, parting}
use Rattle.frame_classes.proofs.frame_slots.Points.{where_complete}
use Rattle.frame_classes.specs.frame_slots.Spots.{Marked}
use Rattle.frame_classes.specs.frame_slots.Uses.{starts_of}
use Rattle.frame_classes.specs.frame_slots.Uses as uses
use Rattle.pass_kept_proof.proofs.Same.{eq_itself}
use Rattle.run_laws.specs.memory.Pointers.{Home, home_of}
use Rattle.pass_kept_proof.specs.run_memory.Memory.{owner_rights, start}
use Rattle.pass_kept_proof.specs.run_memory.declared.block.MemoryBlock.{MemoryBlock}
use Rattle.pass_kept_proof.specs.run_memory.declared.pointer.Value.{Value}
use Rattle.pass_kept_proof.specs.run_source.State.{is_suspended, next, settled, work_of}
use Rattle.pass_kept_proof.specs.run_source.declared.state.Activation.{Activation}
use Rattle.pass_kept_proof.specs.run_source.declared.state.Instance.{Instance}
use Rattle.pass_kept_proof.specs.run_source.declared.state.Mode.{Mode}
use Rattle.pass_kept_proof.specs.run_source.declared.state.State.{State}
use Rattle.pass_kept_proof.specs.run_step.Step.{AtInstr, Done, Work, action_of, block_of, on_block, set_memory}
use Rattle.pass_kept_proof.specs.run_step.Values.{Env, pointer_to, value_in}
use Rattle.pass_renewed_proof.proofs.Ahead.{used_on}
use Rattle.pass_renewed_proof.proofs.Carried.{same_alloca, same_func, same_instance}
use Rattle.pass_renewed_proof.proofs.Carried.{AreBelowCarried, IsInstanceCarried, below_kept, instances_kept}
use Rattle.pass_renewed_proof.proofs.Carried.{kept_slot_on, others_on, same_carried, same_kept, slot_kept, two_ramps}
use Rattle.pass_renewed_proof.proofs.History.{no_start}
use Rattle.pass_renewed_proof.proofs.Left.{instr_there, left_closed}
use Rattle.pass_renewed_proof.proofs.Markers.{marked_value, marks_alone}
use Rattle.pass_renewed_proof.proofs.Onward.{IsEdgeOf, activation_there, calm, slot_passed, slot_there}
use Rattle.pass_renewed_proof.proofs.Ordinary.{own_address}
use Rattle.pass_renewed_proof.proofs.Passing.{edge_on, passed_beside, unended}
use Rattle.pass_renewed_proof.proofs.Settled.{seated_in}
use Rattle.pass_renewed_proof.proofs.Stands.{end_at_first}
use Rattle.pass_renewed_proof.proofs.Started.{AreStarted, Freshly, HasStarted, Seenly, are_started}
use Rattle.pass_renewed_proof.proofs.Way.{away_unstarted, barred_unstarted}
use Rattle.pass_renewed_proof.specs.Ahead.{HasAwayUse, IsNoStart, IsUsedBefore}
use Rattle.pass_renewed_proof.specs.Beside.{AreOutdone, AreUnbegun, GoesOn, HasLeftSuspended, IsActivationBeside, IsBeside, IsFirst}
use Rattle.pass_renewed_proof.specs.Beside.{IsInstanceBeside, IsKeptSlot, IsSlotBeside, IsTold, MayStand, NotLeft}
use Rattle.pass_renewed_proof.specs.Beside.{place_in}
use Rattle.pass_renewed_proof.specs.Ledger.{IsFresh, Ledger, Seat}
use Rattle.pass_renewed_proof.specs.Left.{IsLeftAt, behind}
use Rattle.pass_renewed_proof.specs.Making.{IsMarkingSlot}
use Rattle.pass_renewed_proof.specs.Renewed.{Flags, Roots}
use Rattle.pass_renewed_proof.specs.SlotRules.{IsMarkerAt, KeepsSlots}

pub first_or_resumed : (a : Activation) → (a.mode ≡ Mode.Plain) ⊎ ((a.mode ≡ Mode.Ramp) ⊎ (a.mode ≡ Mode.Resumed))
    → IsFirst a ⊎ (a.mode ≡ Mode.Resumed)
first_or_resumed a (inl e) = inl (λ r. let z : Mode.Plain ≡ Mode.Resumed = sym e ∙ r in absurd (cc))
first_or_resumed a (inr (inl e)) = inl (λ r. let z : Mode.Ramp ≡ Mode.Resumed = sym e ∙ r in absurd (cc))
first_or_resumed a (inr (inr e)) = inr e

same_ramp : {p q : Seat} → Some p ≡ Some q → p.depth ≡ q.depth
same_ramp at = cc

same_number : {i j : ℕ} → Some i ≡ Some j → i ≡ j
same_number at = cc

same_start : (d e : ℕ) → pointer_to d ≡ pointer_to e → d ≡ e
same_start d e k = cc

module _ (m : Module) (flags : Flags) (roots : Roots) (keeps : (func : ℕ)
    → KeepsSlots m (function_at m func) (flags func) (roots func)) (s t : State) (beside : IsBeside m flags roots s t)
    (slot : ℕ) (result : Option ℕ) (must_tail : Bool) (ty : Option Ty) (args : List Arg)
    (is : IsMarkingSlot m flags s.top Intrinsic.LifetimeStart slot result must_tail ty args)
    (outdone : AreOutdone s.instances s.top s.below) (asleep : HasLeftSuspended s.instances s.top) where
  abbrev l : Ledger
  l = beside.ledger

  abbrev h : IsActivationBeside m flags roots beside.ledger s.instances s.world.memory t.world.memory (length s.below)
      s.top t.top
  h = beside.top

  abbrev f : Function
  f = function_at m s.top.func

  abbrev i : Instr
  i = Instr.Call result must_tail ty (Callee.Intrinsic Intrinsic.LifetimeStart) args

  abbrev place : Point
  place = place_in s.top

  abbrev next_place : Point
  next_place = behind (place_in s.top)

  marker : IsMarkerAt (function_at m s.top.func) Intrinsic.LifetimeStart slot (place_in s.top)
  marker = record {
    instr = Instr.Call result must_tail ty (Callee.Intrinsic Intrinsic.LifetimeStart) args;
    stands = is.here;
    is = refl;
    takes = is.takes;
  }

  -- no marker stands where an activation has left
  stays : s.top.has_left ≡ false
  stays = on s.top.has_left refl
    where
      on : (u : Bool) → s.top.has_left ≡ u → s.top.has_left ≡ false
      on false e = e
      on true e =
          let at : IsLeftAt f place = h.left e in
          absurd ((keeps s.top.func).open_markers Intrinsic.LifetimeStart slot place (inl refl) is.flagged marker
          (left_closed f at.suspend place at.is_call is.place.no_suspend is.place.no_switch is.place.no_end at.by))

  starts_here : IsTrue (has_point (starts_of (function_at m s.top.func) slot) (place_in s.top))
  starts_here = where_complete (uses.is_marker_of Intrinsic.LifetimeStart slot) f place i (instr_there f place i
      is.here) (ap (is_local slot) is.takes ∙ eq_itself slot)

  local : ¬ NeedsFrame (function_at m s.top.func) slot
  local = ((keeps s.top.func).is_local slot is.flagged).1

  not_end : s.top.mode ≡ Mode.Resumed → s.top.block ≡ end_block (function_at m s.top.func) → ⊥
  not_end resumed last = is.place.no_end last (end_at_first f place (h.came resumed) last)

  -- an escaped slot that may be used by an activation that has left isn't started by a resumed one
  no_away : s.top.mode ≡ Mode.Resumed → IsTrue (is_escaped (function_at m s.top.func) slot)
      → HasAwayUse (function_at m s.top.func) slot → ⊥
  no_away resumed escaped away = away_unstarted f slot local escaped away place (h.came resumed) (not_end resumed)
      (Marked place starts_here)

  onward : IsEdgeOf (function_at m s.top.func) s.top (behind (place_in s.top))
  onward = edge_on m flags roots l s.instances s.world.memory t.world.memory (length s.below) s.top t.top h (calm
      f place is.place) i
      is.here

  unmarked : (al : ℕ) → (al ≡ slot → ⊥) → IsNoStart (function_at m s.top.func) al (place_in s.top)
  unmarked al ne = no_start f al place (λ x. ne (marks_alone f place Intrinsic.LifetimeStart Intrinsic.LifetimeStart
      slot al result must_tail ty args is.here is.takes x))

  -- ---- the name has no address

  start_nothing : value_in s.top.values slot ≡ Value.Poison
      → IsBeside m flags roots (settled s (set_memory (work_of s) s.world.memory)) (next t)
  start_nothing poison = subst (λ (vs : Env). IsBeside m flags roots (settled s (set_memory (work_of s)
      s.world.memory)) (settled t (record { world = t.world; values = vs }))) (ap (λ (z : Activation). z.values) (sym
      h.is))
      (passed_beside m flags roots s t beside l s.world t.world (same_carried l s.world.memory t.world.memory) (λ b
      seat seated. same_kept l s.world.memory b) s.top.values h.values onward
      (λ al b flagged at. ⊎_elim
      (λ same. let c : Value.Poison ≡ pointer_to b = sym poison ∙ ap (value_in s.top.values) (sym same)
      ∙ at in absurd (cc))
      (unmarked al)
      (cases_eq al slot))
      (λ al b flagged at live. unended f place i is.here refl al)
      (calm f place is.place) h.envs h.others (λ al flagged. (refl, refl)) beside.world beside.entered)

  -- ---- it has one

  module _ (b c : ℕ) (at : value_in s.top.values slot ≡ pointer_to b) (there : value_in beside.top.values slot ≡
      pointer_to c) where
    old : IsSlotBeside m beside.ledger s.instances s.world.memory t.world.memory (length s.below) s.top slot b c
    old = h.each slot b c is.flagged at there

    abbrev seat : Seat
    seat = record { func = s.top.func; alloca = slot; depth = old.ramp; instance = s.top.instance }

    may : IsTrue (is_escaped (function_at m s.top.func) slot) → MayStand beside.ledger s.world.memory b c
    may escaped = ⊎_elim
        (λ first. old.first first (inl (NotLeft stays)))
        (λ resumed. ⊎_elim
        (λ stand. stand)
        (λ k. ⊎_elim
        (λ barred. absurd (barred_unstarted f slot local escaped place barred (not_end resumed) (Marked place
        starts_here)))
        (λ away. absurd (no_away resumed escaped away))
        k)
        (old.resumed resumed (NotLeft stays)))
        (first_or_resumed s.top h.modes)

    begun : AreStarted m beside.ledger s.world.memory t.world.memory (record {
      func = s.top.func;
      alloca = slot;
      depth = old.ramp;
      instance = s.top.instance;
    }) b c
    begun = are_started m l s.world.memory t.world.memory b c (record {
      memory = beside.world.memory;
      nulls = beside.world.nulls;
      bounds = beside.world.bounds;
    }) beside.entered seat old.seat old.tenant old.ready may

    abbrev k : Ledger
    k = record beside.ledger { hides = begun.hides }

    abbrev after : List MemoryBlock
    after = start s.world.memory b

    stand_now : MayStand (record beside.ledger { hides = begun.hides }) (start s.world.memory b) b c
    stand_now = on begun.has
      where
        on : HasStarted m l k after seat b c → MayStand k after b c
        on (Freshly fresh) = inl fresh
        on (Seenly seen escaped before home) = inr home

    -- it is still fresh, or was used before and is escaped
    known : (IsFresh beside.ledger s.world.memory b ⊎ IsUsedBefore (function_at m s.top.func) slot (place_in s.top))
        → IsFresh (record beside.ledger {
          hides = begun.hides;
        }) (start s.world.memory b) b ⊎ IsUsedBefore (function_at m s.top.func) slot (behind (place_in s.top))
    known told = on begun.has told
      where
        used : IsTrue (is_escaped f slot) → IsUsedBefore f slot place → IsUsedBefore f slot next_place
        used escaped u = used_on f slot place next_place onward.edge (ap (λ b. has_point (parting b f slot) place)
            escaped) u

        on : HasStarted m l k after seat b c → (IsFresh l s.world.memory b ⊎ IsUsedBefore f slot place)
            → IsFresh k after b ⊎ IsUsedBefore f slot next_place
        on (Freshly fresh) _ = inl fresh
        on (Seenly seen escaped before home) (inl fresh) = absurd (false≢true (sym fresh.unseen ∙ seen))
        on (Seenly seen escaped before home) (inr u) = inr (used escaped u)

    told_now : s.top.mode ≡ Mode.Resumed
        → IsTold beside.ledger s.world.memory (function_at m s.top.func) slot b (place_in s.top)
        → IsTold (record beside.ledger { hides = begun.hides }) (start s.world.memory b) (function_at m s.top.func)
        slot b (behind (place_in s.top))
    told_now resumed (inl fresh) = ⊎_elim (λ z. inl z) (λ u. inr (inl u)) (known (inl fresh))
    told_now resumed (inr (inl u)) = ⊎_elim (λ z. inl z) (λ v. inr (inl v)) (known (inr u))
    told_now resumed (inr (inr w)) = on begun.has
      where
        on : HasStarted m l k after seat b c → IsTold k after f slot b next_place
        on (Freshly fresh) = inl fresh
        on (Seenly seen escaped before home) = absurd (no_away resumed escaped w.away)

    alive_now : MayBeAlive (function_at m s.top.func) slot (behind (place_in s.top))
    alive_now = Started place starts_here (record { between = []; is_path = onward.edge })

    slot_now : IsSlotBeside m (record beside.ledger { hides = begun.hides }) s.instances (start s.world.memory b)
        t.world.memory (length s.below) (record s.top {
          block = s.top.block;
          at = s.top.at + 1;
          values = s.top.values;
        }) slot b c
    slot_now = record {
      slot = slot_there m l k s.instances s.world.memory after t.world.memory t.world.memory begun.carried (length
          s.below) s.top next_place s.top.values onward _ old.slot;
      passed = onward.passed slot old.passed;
      ramp = old.ramp;
      seat = old.seat;
      depth_is = old.depth_is;
      owner = old.owner;
      tenant = old.tenant;
      ready = begun.carried.ready b c (length s.below) _ old.seat old.owner old.ready;
      first = λ first goes. stand_now;
      resumed = λ resumed goes. inl stand_now;
      told_first = λ first goes. known (old.told_first first (NotLeft stays));
      told = λ resumed goes. told_now resumed (old.told resumed (NotLeft stays));
      alive = λ goes live. inr alive_now;
      gone = λ left live seen is_c. absurd (false≢true (sym stays ∙ left));
      away = λ first left escaped away live. absurd (false≢true (sym stays ∙ left));
    }

    -- another alloca's slot is another block
    other_block : (al d e : ℕ) → IsSlotBeside m beside.ledger s.instances s.world.memory t.world.memory (length
        s.below) s.top al d e → (al ≡ slot → ⊥) → d ≢ b
    other_block al d e o ne same = ne (same_alloca (sym o.seat ∙ ap l.seats same ∙ old.seat))

    slots_now : (al d e : ℕ) → IsTrue (flags s.top.func al) → value_in s.top.values al ≡ pointer_to d
        → value_in beside.top.values al ≡ pointer_to e
        → IsSlotBeside m (record beside.ledger { hides = begun.hides }) s.instances (start s.world.memory b)
        t.world.memory (length s.below) (record s.top {
          block = s.top.block;
          at = s.top.at + 1;
          values = s.top.values;
        }) al d e
    slots_now al d e flagged is_d is_e = ⊎_elim
        (λ same.
        let db : d ≡ b = same_start d b (sym is_d ∙ ap (value_in s.top.values) same ∙ at) in
        let ec : e ≡ c = same_start e c (sym is_e ∙ ap (value_in h.values) same ∙ there) in
        subst (λ (z : ℕ × (ℕ × ℕ)). IsSlotBeside m k s.instances after t.world.memory (length s.below) (record s.top {
          block = s.top.block;
          at = s.top.at + 1;
          values = s.top.values;
        }) z.0 z.1.0 z.1.1) (λ j. (sym same j, (sym db j, sym ec j))) slot_now)
        (λ ne.
        let o = h.each al d e flagged is_d is_e in
        slot_passed m l k s.instances s.world.memory after t.world.memory t.world.memory begun.carried (length
        s.below) s.top next_place s.top.values onward al d e (unmarked al ne) (λ live. unended f place i is.here refl
        al) (begun.kept d (other_block al d e o ne)) o)
        (cases_eq al slot)

    top_now : IsActivationBeside m flags roots (record beside.ledger { hides = begun.hides }) s.instances (start
        s.world.memory b) t.world.memory (length s.below) (record s.top {
          at = s.top.at + 1;
          values = s.top.values;
        }) (record t.top { at = t.top.at + 1; values = beside.top.values })
    top_now = subst (λ (z : Activation). IsActivationBeside m flags roots k s.instances after t.world.memory (length
        s.below) (record s.top { at = s.top.at + 1; values = s.top.values }) z) same_place
        (activation_there m l k s.instances s.world.memory after t.world.memory t.world.memory begun.carried (length
        s.below) s.top next_place s.top.values onward flags roots t.top h h.values h.envs (λ al flagged. (refl, refl))
        is.place.no_close (others_on l k s.world.memory after t.world.memory t.world.memory begun.carried f (flags
        s.top.func) (roots s.top.func) s.top.values h.values s.top.values h.values h.envs (λ v other. (refl, refl))
        h.others) slots_now)
      where
        same_place : record t.top {
          block = s.top.block;
          at = s.top.at + 1;
          values = beside.top.values;
        } ≡ record t.top { at = t.top.at + 1; values = beside.top.values }
        same_place = ap (λ (z : Activation). record z {
          block = s.top.block;
          at = s.top.at + 1;
          values = beside.top.values;
        }) beside.top.is
            ∙ sym (ap (λ (z : Activation). record z { at = z.at + 1; values = beside.top.values }) beside.top.is)

    -- ---- others

    other_started : (depth : ℕ) (z : Activation) (al d : ℕ) → depth ≢ length s.below
        → (z.instance ≡ s.top.instance → GoesOn s.instances depth z → s.top.has_left ≡ false → AreUnbegun s.top.instance s.top.mode z.mode)
        → IsSlotBeside m beside.ledger s.instances s.world.memory t.world.memory depth z al b d
        → IsSlotBeside m (record beside.ledger { hides = begun.hides }) s.instances (start s.world.memory b)
        t.world.memory depth z al b d
    other_started depth z al d ne alone o =
        let seats = sym o.seat ∙ old.seat in
        record {
          slot = o.slot;
          passed = o.passed;
          ramp = o.ramp;
          seat = o.seat;
          depth_is = o.depth_is;
          owner = o.owner;
          tenant = o.tenant;
          ready = begun.carried.ready b d depth _ o.seat o.owner o.ready;
          first = λ first goes. may_other begun.has (o.first first goes);
          resumed = λ resumed goes. absurd (two_ramps m beside.ledger s.instances
              s.world.memory t.world.memory (length s.below) depth s.top z slot al b c d ne old o (alone (same_instance
              seats) goes stays));
          told_first = λ first goes. absurd (two_ramps m beside.ledger s.instances
              s.world.memory t.world.memory (length s.below) depth s.top z slot al b c d ne old o (alone (same_instance
              seats) goes stays));
          told = λ resumed goes. absurd (two_ramps m beside.ledger s.instances
              s.world.memory t.world.memory (length s.below) depth s.top z slot al b c d ne old o (alone (same_instance
              seats) goes stays));
          alive = λ goes live. absurd (two_ramps m beside.ledger s.instances
              s.world.memory t.world.memory (length s.below) depth s.top z slot al b c d ne old o (alone (same_instance
              seats) goes stays));
          gone = λ left live seen. gone_other begun.has seen;
          away = λ first left escaped away live. absurd (never first (subst (λ g. IsTrue (is_escaped (function_at m g)
              slot)) (same_func seats) (subst (λ n. IsTrue (is_escaped (function_at m z.func) n)) (same_alloca seats)
              escaped)) (subst (λ g. HasAwayUse (function_at m g) slot) (same_func seats) (subst (HasAwayUse
              (function_at m z.func)) (same_alloca seats) away)));
        }
      where
        may_other : HasStarted m l k after seat b c → MayStand l s.world.memory b d → MayStand k after b d
        may_other (Freshly fresh) may = inl fresh
        may_other (Seenly seen escaped before home) (inl fresh) = absurd (false≢true (sym fresh.unseen ∙ seen))
        may_other (Seenly seen escaped before home) (inr at_d) = inr (record {
          is_seen = at_d.is_seen;
          home = at_d.home;
          shown = home.shown;
        })

        gone_other : HasStarted m l k after seat b c → (home_of l.homes b).is_seen ≡ true
            → (home_of l.homes b).block ≡ d → ⊥
        gone_other (Freshly fresh) seen is_d = false≢true (sym fresh.unseen ∙ seen)
        gone_other (Seenly seen' escaped before home) seen is_d =
            let is_c : c ≡ d = ap (λ (q : Home). q.block) (sym home.home) ∙ is_d in
            ne (same_number (sym o.owner ∙ ap l.owners (sym is_c) ∙ old.owner))

        never : IsFirst z → IsTrue (is_escaped f slot) → HasAwayUse f slot → ⊥
        never first escaped away = ⊎_elim
            (λ mine. ne (sym (o.depth_is first) ∙ same_ramp (sym o.seat ∙ old.seat) ∙ old.depth_is mine))
            (λ resumed. no_away resumed escaped away)
            (first_or_resumed s.top h.modes)

    below_started : (below : List Activation) → length below ≤ length s.below → AreOutdone s.instances s.top below
        → AreBelowCarried m flags roots beside.ledger (record beside.ledger {
          hides = begun.hides;
        }) s.instances s.instances s.world.memory (start s.world.memory b) t.world.memory t.world.memory begun.carried
        below
    below_started [] le alone = tt
    below_started (z ∷ below) le alone = (
      record {
        over = λ stays o. o;
        slots = λ al d e flagged o. ⊎_elim
            (λ same. subst (λ n. IsSlotBeside m k s.instances after t.world.memory (length below) z al n e) (sym
            same) (other_started (length below) z al e below_other alone.0 (subst (λ n. IsSlotBeside m l s.instances
            s.world.memory t.world.memory (length below) z al n e) same o)))
            (λ ne. slot_kept m flags roots l k s.instances s.instances s.world.memory after t.world.memory
            t.world.memory begun.carried (length below) z al d e (record {
              goes_on = λ goes. goes;
              slots = λ slot is. is;
            }) (begun.kept d ne) o)
            (cases_eq d b);
      },
      below_started below (omega arith) alone.1,
    )
      where
        below_other : length below ≢ length s.below
        below_other e = absurd (omega arith)

    instance_started : (j : ℕ) (z y : Instance) → slice_get s.instances j ≡ Some z
        → IsInstanceBeside m flags roots beside.ledger s.world.memory (0 + j) z y
        → IsInstanceCarried m flags roots beside.ledger (record beside.ledger {
          hides = begun.hides;
        }) s.instances s.instances s.world.memory (start s.world.memory b) t.world.memory t.world.memory begun.carried z
    instance_started j z y there_is ib = record {
      slots = λ p al d suspended flagged o. ⊎_elim
          (λ same. absurd (asleep_not p al d suspended flagged o same))
          (λ ne. kept_slot_on m flags roots l k s.instances s.instances s.world.memory after t.world.memory
          t.world.memory begun.carried z p al d (begun.kept d ne) o)
          (cases_eq d b);
      gone = λ slot is_in flagged. begun.gone slot.block;
    }
      where
        asleep_not : (p : Point) (al d : ℕ) → is_suspended z.status ≡ true → IsTrue (flags z.coroutine al)
            → IsKeptSlot m l s.world.memory z p al d → d ≡ b → ⊥
        asleep_not p al d suspended flagged o same =
            let seated = seated_in l _ _ (flags z.coroutine) z.slots ib.slots ib.listed (record {
              alloca = al;
              block = d;
            }) flagged o.slot in
            let number : 0 + j ≡ j = omega arith in
            let own : Some (0 + j) ≡ s.top.instance = same_instance (sym seated.seat ∙ ap l.seats same ∙ old.seat) in
            false≢true (sym stays ∙ asleep j z (sym own ∙ ap Some number) there_is suspended)

    start_block : IsBeside m flags roots (settled s (set_memory (work_of s) (start s.world.memory b))) (settled t
        (record { world = t.world; values = beside.top.values }))
    start_block = record {
      ledger = k;
      outcome = beside.outcome;
      world = record {
        memory = begun.standing.memory;
        nulls = begun.standing.nulls;
        bounds = begun.standing.bounds;
        events = beside.world.events;
        answers = beside.world.answers;
        allocs = beside.world.allocs;
      };
      entered = begun.entered;
      instances = instances_kept m flags roots l k s.instances s.instances s.world.memory after t.world.memory
          t.world.memory begun.carried 0 s.instances t.instances instance_started beside.instances;
      top = top_now;
      below = below_kept m flags roots l k s.instances s.instances s.world.memory after t.world.memory t.world.memory
          begun.carried s.top.result s.below t.below (below_started s.below (omega arith) outdone) beside.below;
    }

  -- ---- the states

  abbrev memory_behind : Value → List MemoryBlock
  memory_behind u = on_block start s.world.memory (block_of u)

  root : roots s.top.func slot ≡ Some slot
  root = (keeps s.top.func).addresses slot slot is.flagged (own_address f slot)

  pub start_beside : (answers : List ℤ) (v : Work)
      → action_of (record {
        code = m;
        answers = answers;
        rights = owner_rights;
        function = function_at m s.top.func;
      }) (work_of s) (AtInstr (Instr.Call result must_tail ty (Callee.Intrinsic Intrinsic.LifetimeStart) args)) ≡ Done
      v
      → IsBeside m flags roots (settled s v) (next t)
  start_beside answers v done = subst (λ z. IsBeside m flags roots (settled s z) (next t)) (same_done done)
      (⊎_elim
      (λ poison. subst (λ u. IsBeside m flags roots (settled s (set_memory (work_of s) (memory_behind u))) (next t))
      (sym (marked_value m s.top.values args 1 slot is.takes ∙ poison)) (start_nothing poison))
      (λ ad. subst (λ u. IsBeside m flags roots (settled s (set_memory (work_of s) (memory_behind u))) (next t)) (sym
      (marked_value m s.top.values args 1 slot is.takes ∙ ad.root_is)) (with_own (start_block ad.block ad.target
      ad.root_is ad.other_is)))
      (h.envs.rooted slot slot root))
    where
      same_done : {a b : Work} → Done a ≡ Done b → a ≡ b
      same_done q = cc

      with_own : {z : State} → IsBeside m flags roots z (settled t (record {
        world = t.world;
        values = beside.top.values;
      })) → IsBeside m flags roots z (next t)
      with_own {z} r = subst (λ (vs : Env). IsBeside m flags roots z (settled t (record {
        world = t.world;
        values = vs;
      }))) (ap (λ (y : Activation). y.values) (sym beside.top.is)) r
