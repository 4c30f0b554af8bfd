-- What is said of an activation's slots goes on along an edge on which no marker stands.
use Rattle.std.proofs.Common.{◌≡◌, ◌≢◌, ◌⊎◌, ℕ, inl, inr, Bool, true, false, List, refl, sym, ap, ◌∙◌, subst, ⊎_elim}
use Rattle.std.proofs.Common.{None, arith}
use Rattle.std.specs.Prelude.{IsTrue}
use Rattle.std.specs.List.{Contains}
use Rattle.pass_kept_proof.specs.ir_model.Names.{function_at}
use Rattle.pass_kept_proof.specs.ir_model.declared.instr.Instr.{Instr}
use Rattle.pass_kept_proof.specs.ir_model.declared.module.Function.{Function}
use Rattle.pass_kept_proof.specs.ir_model.declared.module.Module.{Module}
use Rattle.pass_kept_proof.specs.ir_model.declared.operand.Callee.{Callee}
use Rattle.pass_kept_proof.specs.ir_model.declared.operand.Intrinsic.{Intrinsic}
use Rattle.pass_kept_proof.specs.ir_paths.Paths.{has_point, nexts}
use Rattle.pass_kept_proof.specs.ir_paths.Windows.{end_block, is_call_of}
use Rattle.pass_kept_proof.specs.ir_paths.declared.point.Point.{Point}
use Rattle.frame_classes.specs.Classes.{suspends}
use Rattle.frame_classes.proofs.frame_slots.Points.{where_sound}
use Rattle.frame_classes.specs.frame_slots.Uses.{ends_of}
use Rattle.pass_kept_proof.specs.SuspendRules.{IsCallAt}
use Rattle.run_laws.specs.embedded.Related.{HasNoSlot}
use Rattle.run_laws.specs.memory.Pointers.{Home, home_of}
use Rattle.pass_kept_proof.specs.run_memory.declared.block.MemoryBlock.{MemoryBlock}
use Rattle.pass_kept_proof.specs.run_source.declared.state.Activation.{Activation}
use Rattle.pass_kept_proof.specs.run_source.declared.state.Instance.{Instance}
use Rattle.pass_kept_proof.specs.run_source.declared.state.Mode.{Mode}
use Rattle.pass_kept_proof.specs.run_step.Step.{AtInstr, fetch}
use Rattle.pass_kept_proof.specs.run_step.Values.{Env, pointer_to, value_in}
use Rattle.pass_kept_proof.specs.run_step.declared.world.Slot.{Slot}
use Rattle.pass_renewed_proof.proofs.Ahead.{leads_more, next_edge, used_on}
use Rattle.pass_renewed_proof.proofs.Carried.{IsCarried, IsSlotKept, slots_on, stand_kept}
use Rattle.pass_renewed_proof.proofs.History.{fetch_is, no_marker, no_start}
use Rattle.pass_renewed_proof.proofs.Left.{after_edge, window_next}
use Rattle.pass_renewed_proof.proofs.Way.{alive_more, barred_more, resumed_more, same_instr, suspend_called}
use Rattle.pass_renewed_proof.specs.Ahead.{IsBehindSuspendCall, IsNoStart, IsUsedBefore}
use Rattle.pass_renewed_proof.specs.Beside.{AreOthers, AreSlots, Begun, Early, GoesOn, IsActivationBeside, IsAliveAt}
use Rattle.pass_renewed_proof.specs.Beside.{IsEarly, IsOverOf, IsOwn, IsPassed, IsSlotBeside, IsSlotOf, IsTold}
use Rattle.pass_renewed_proof.specs.Beside.{Leaves, NotLeft}
use Rattle.pass_renewed_proof.specs.Beside.{place_in}
use Rattle.pass_renewed_proof.specs.Ordinary.{IsCalm, IsOrdinary}
use Rattle.pass_renewed_proof.specs.Ledger.{IsHomeOf, Ledger, LivesIn}
use Rattle.pass_renewed_proof.specs.Left.{AtEnd, AtSuspend, AtSwitch, Behind, Between, IsLeftBy, behind}
use Rattle.pass_renewed_proof.specs.Renewed.{Flags, Roots}
use Rattle.pass_renewed_proof.specs.SlotEnvs.{AreSlotEnvs}
use Rattle.pass_kept_proof.specs.rule_windows.Points.{ends}
use Rattle.pass_kept_proof.specs.rule_windows.Sets.{IsAfterEnd, RunsOut}
use Rattle.pass_renewed_proof.specs.Way.{WasAlive}

-- ---- an instruction that isn't a marker

not_started : (i : Instr) → HasNoSlot (AtInstr i) → is_call_of Intrinsic.LifetimeStart i ≡ true → ⊥
not_started (Instr.Call r must_tail ty (Callee.Intrinsic Intrinsic.LifetimeStart) args) n h = n
not_started _ n h = absurd (cc)

not_ended : (i : Instr) → HasNoSlot (AtInstr i) → is_call_of Intrinsic.LifetimeEnd i ≡ true → ⊥
not_ended (Instr.Call r must_tail ty (Callee.Intrinsic Intrinsic.LifetimeEnd) args) n h = n
not_ended _ n h = absurd (cc)

pub no_start_here : (f : Function) (slot : ℕ) (p : Point) (i : Instr) → fetch f p.block p.at ≡ AtInstr i
    → HasNoSlot (AtInstr i) → IsNoStart f slot p
no_start_here f slot p i e n = no_start f slot p (λ x. not_started i n (subst (λ j. is_call_of Intrinsic.LifetimeStart
    j ≡ true) (same_instr x.instr i (sym x.stands ∙ e)) x.is))

pub no_end_here : (f : Function) (slot : ℕ) (p : Point) (i : Instr) → fetch f p.block p.at ≡ AtInstr i
    → HasNoSlot (AtInstr i) → has_point (ends_of f slot) p ≡ false
no_end_here f slot p i e n = no_marker f Intrinsic.LifetimeEnd slot p (λ x. not_ended i n (subst (λ j. is_call_of
    Intrinsic.LifetimeEnd j ≡ true) (same_instr x.instr i (sym x.stands ∙ e)) x.is))

pub calm : (f : Function) (p : Point) → IsOrdinary f p → IsCalm f p
calm f p o = record { no_switch = o.no_switch; no_end = o.no_end; no_close = o.no_close }

-- an activation that has left goes on over it
pub left_next : (f : Function) (s p : Point) (i : Instr) → fetch f p.block p.at ≡ AtInstr i → IsCalm f p
    → IsCallAt Intrinsic.CoroSuspend f s → IsLeftBy f s p → IsLeftBy f s (behind p)
left_next f s p i e o call (Between k c es w) = window_next f k s c es p i e w
left_next f s p i e o call (AtSuspend is) = AtSwitch (ap behind is)
left_next f s p i e o call (AtSwitch is) = absurd (o.no_switch (subst (λ q. IsBehindSuspendCall f q.block q.at) (sym
    is) (record { before = s.at; next = refl; is_suspend = call })))
left_next f s p i e o call (AtEnd is z) = absurd (o.no_end is z)
left_next f s p i e o call (Behind a) = Behind (after_edge f p (behind p) a (next_edge f p.block p.at i e))

-- the allocas before it still stand before the next one
pub passed_next : (f : Function) (slot : ℕ) (p : Point) → IsPassed f slot p → IsPassed f slot (behind p)
passed_next f slot p old k ty align at first = let lt = old k ty align at first in omega arith

-- ---- along an edge

-- from the place of an activation to another one
pub record IsEdgeOf (f : Function) (a : Activation) (q : Point) : Type 0 where
  pub edge : has_point (nexts f (place_in a)) q ≡ true
  pub passed : (slot : ℕ) → IsPassed f slot (place_in a) → IsPassed f slot q
  pub not_last : a.mode ≡ Mode.Resumed → a.block ≡ end_block f → ⊥
  pub left : a.has_left ≡ true → (s : Point) → IsCallAt Intrinsic.CoroSuspend f s → IsLeftBy f s (place_in a)
      → IsLeftBy f s q

module _ (m : Module) (l k : Ledger) (xs : List Instance) (memory memory' target target' : List MemoryBlock) (c :
    IsCarried l k memory memory' target target') (depth : ℕ) (a : Activation) (q : Point) (vs : Env) (on : IsEdgeOf
    (function_at m a.func) a q) where
  abbrev f : Function
  f = function_at m a.func

  -- the activation there
  abbrev pub there : Activation
  there = record a { block = q.block; at = q.at; values = vs }

  pub goes_before : GoesOn xs depth (record a { block = q.block; at = q.at; values = vs }) → GoesOn xs depth a
  goes_before (NotLeft e) = NotLeft e
  goes_before (Leaves h) = Leaves (record {
    number = h.number;
    own = h.own;
    instance = h.instance;
    there = h.there;
    suspended = h.suspended;
    saved = h.saved;
    last = h.last;
    is_its = h.is_its;
  })

  pub slot_there : (slot : Slot) → IsSlotOf xs a slot
      → IsSlotOf xs (record a { block = q.block; at = q.at; values = vs }) slot
  slot_there slot (Early none is) = Early none is
  slot_there slot (Begun i x own at is) = Begun i x own at is

  alive_on : (alloca : ℕ) → has_point (ends_of (function_at m a.func) alloca) (place_in a) ≡ false → IsAliveAt a
      (function_at m a.func) alloca (place_in a) → IsAliveAt (record a { block = q.block; at = q.at; values = vs })
      (function_at m a.func) alloca q
  alive_on alloca no_end (inl h) = inl h
  alive_on alloca no_end (inr h) = inr (alive_more (function_at m a.func) alloca (place_in a) q on.edge no_end h)

  was_alive_on : (alloca : ℕ) → a.has_left ≡ true → ((s : Point)
      → IsTrue (has_point (suspends (function_at m a.func)) s)
      → IsCallAt Intrinsic.CoroSuspend (function_at m a.func) s)
      → WasAlive (function_at m a.func) alloca (place_in a) → WasAlive (function_at m a.func) alloca q
  was_alive_on alloca left called w = record {
    suspend = w.suspend;
    is_suspend = w.is_suspend;
    is_alive = w.is_alive;
    by = on.left left w.suspend (called w.suspend w.is_suspend) w.by;
  }

  told_on : (alloca b : ℕ) → IsNoStart (function_at m a.func) alloca (place_in a) → IsSlotKept l k memory memory' b
      → IsTold l memory (function_at m a.func) alloca b (place_in a)
      → IsTold k memory' (function_at m a.func) alloca b q
  told_on alloca b no_start kept (inl h) = inl (kept.fresh h)
  told_on alloca b no_start kept (inr (inl u)) = inr (inl (used_on (function_at m a.func) alloca (place_in a) q on.edge
      no_start u))
  told_on alloca b no_start kept (inr (inr h)) = inr (inr (record {
    away = h.away;
    unseen = λ live. ap (λ (z : Home). z.is_seen) kept.home ∙ h.unseen (kept.lives live);
  }))

  -- a slot that isn't used on the way, nor started; if it ends there it doesn't live behind it
  pub slot_passed : (alloca b d : ℕ) → IsNoStart (function_at m a.func) alloca (place_in a) → (LivesIn memory' b
      → has_point (ends_of (function_at m a.func) alloca) (place_in a) ≡ false) → IsSlotKept l k memory memory' b
      → IsSlotBeside m l xs memory target depth a alloca b d
      → IsSlotBeside m k xs memory' target' depth (record a { block = q.block; at = q.at; values = vs }) alloca b d
  slot_passed alloca b d no_start no_end kept s = record {
    slot = slot_there _ s.slot;
    passed = on.passed alloca s.passed;
    ramp = s.ramp;
    seat = c.seats b _ s.seat;
    depth_is = s.depth_is;
    owner = c.owners d depth s.owner;
    tenant = c.tenants d depth s.owner ∙ s.tenant;
    ready = c.ready b d depth _ s.seat s.owner s.ready;
    first = λ is goes. stand_kept l k memory memory' b kept d (s.first is (⊎_elim (λ g. inl (goes_before g)) (λ w. inr
        w) goes));
    resumed = λ is goes. ⊎_elim
        (λ h. inl (stand_kept l k memory memory' b kept d h))
        (λ h. inr (⊎_elim (λ barred. inl (barred_more (function_at m a.func) alloca (place_in a) q barred no_start
        (on.not_last is) on.edge)) (λ away. inr away) h))
        (s.resumed is (goes_before goes));
    told_first = λ is goes. ⊎_elim (λ h. inl (kept.fresh h)) (λ u. inr (used_on (function_at m a.func) alloca
        (place_in a) q on.edge no_start u)) (s.told_first is (goes_before goes));
    told = λ is goes. told_on alloca b no_start kept (s.told is (goes_before goes));
    alive = λ goes lives. alive_on alloca (no_end lives) (s.alive (goes_before goes) (kept.lives lives));
    gone = λ left lives seen at. s.gone left (kept.lives lives) (ap (λ (z : Home). z.is_seen) (sym kept.home)
        ∙ seen) (ap (λ (z : Home). z.block) (sym kept.home) ∙ at);
    away = λ is left escaped away lives. was_alive_on alloca left (suspend_called (function_at m a.func)) (s.away is
        left escaped away (kept.lives lives));
  }

  -- one that is used on the way, and stands in the activation's own block behind it
  pub slot_used : (alloca b d : ℕ) → has_point (ends_of (function_at m a.func) alloca) (place_in a) ≡ false
      → IsHomeOf k b d → (LivesIn memory' b → LivesIn memory b)
      → IsUsedBefore (function_at m a.func) alloca q → (a.has_left ≡ true → LivesIn memory b
      → (home_of k.homes b).is_seen ≡ true → ⊥)
      → IsSlotBeside m l xs memory target depth a alloca b d
      → IsSlotBeside m k xs memory' target' depth (record a { block = q.block; at = q.at; values = vs }) alloca b d
  slot_used alloca b d no_end home lives u gone s = record {
    slot = slot_there _ s.slot;
    passed = on.passed alloca s.passed;
    ramp = s.ramp;
    seat = c.seats b _ s.seat;
    depth_is = s.depth_is;
    owner = c.owners d depth s.owner;
    tenant = c.tenants d depth s.owner ∙ s.tenant;
    ready = c.ready b d depth _ s.seat s.owner s.ready;
    first = λ is goes. inr home;
    resumed = λ is goes. inl (inr home);
    told_first = λ is goes. inr u;
    told = λ is goes. inr (inl u);
    alive = λ goes live. alive_on alloca no_end (s.alive (goes_before goes) (lives live));
    gone = λ left live seen at. gone left (lives live) seen;
    away = λ is left escaped away live. was_alive_on alloca left (suspend_called (function_at m a.func)) (s.away is
        left escaped away (lives live));
  }

  -- ---- the activation

  module _ (flags : Flags) (roots : Roots) (b : Activation) (h : IsActivationBeside m flags roots l xs memory target
      depth a b) where
    runs_on : (IsCallAt Intrinsic.CoroEnd (function_at m a.func) (place_in a) → ⊥)
        → RunsOut (function_at m a.func) (place_in a) → RunsOut (function_at m a.func) q
    runs_on no_close r = record {
      start = r.start;
      is_start = r.is_start;
      path = leads_more (function_at m a.func) (ends (function_at m a.func)) r.start (place_in a) q r.path (by
          (has_point (ends (function_at m a.func)) (place_in a)) refl) on.edge;
    }
      where
        by : (u : Bool) → has_point (ends (function_at m a.func)) (place_in a) ≡ u
            → has_point (ends (function_at m a.func)) (place_in a) ≡ false
        by true e = absurd (no_close (let r = where_sound (is_call_of Intrinsic.CoroEnd) (function_at m a.func)
            (place_in a) e in record {
              instr = r.instr;
              stands = fetch_is (function_at m a.func) (place_in a) r.instr r.is;
              is = r.passes;
            }))
        by false e = e

    -- with values and slots of which the same is said
    pub activation_begun : (a.instance ≢ None → RunsOut (function_at m a.func) q ⊎ (IsAfterEnd (function_at m a.func)
        q × (a.has_left ≡ false → IsOverOf xs a))) → (z : Activation) (ws : Env) (slots : List Slot) → z ≡ record a {
          block = q.block;
          at = q.at;
          values = ws;
          slots = slots;
        } → AreSlotEnvs k.homes (roots a.func) vs ws
        → AreSlots k (IsEarly k (flags a.func) a.func depth) (IsOwn k (flags a.func) depth vs ws) (flags a.func)
        a.slots slots
        → AreOthers k (function_at m a.func) (flags a.func) (roots a.func) vs ws
        → ((slot d e : ℕ) → IsTrue (flags a.func slot) → value_in vs slot ≡ pointer_to d
        → value_in ws slot ≡ pointer_to e
        → IsSlotBeside m k xs memory' target' depth (record a {
          block = q.block;
          at = q.at;
          values = vs;
        }) slot d e)
        → ((slot : Slot) → Contains slots slot → IsTrue (flags a.func slot.alloca)
        → IsPassed (function_at m a.func) slot.alloca q)
        → IsActivationBeside m flags roots k xs memory' target' depth (record a {
          block = q.block;
          at = q.at;
          values = vs;
        }) z
    activation_begun begun z ws slots is envs listed others each made = record {
      values = ws;
      slots = slots;
      is = is;
      envs = envs;
      listed = listed;
      others = others;
      each = each;
      made = made;
      modes = h.modes;
      came = λ is. resumed_more (function_at m a.func) (place_in a) q (h.came is) (on.not_last is) on.edge;
      begun = λ some. ⊎_elim (λ r. inl r) (λ o. inr (
        o.0,
        λ stays. let w = o.1 stays in record {
          number = w.number;
          own = w.own;
          instance = w.instance;
          there = w.there;
          over = w.over;
        },
      )) (begun some);
      begins = h.begins;
      departs = h.departs;
      left = λ left. let at = h.left left in record {
        suspend = at.suspend;
        is_call = at.is_call;
        by = on.left left at.suspend at.is_call at.by;
      };
    }

    -- where no end stands at the place
    pub begun_on : (IsCallAt Intrinsic.CoroEnd (function_at m a.func) (place_in a) → ⊥) → a.instance ≢ None
        → RunsOut (function_at m a.func) q ⊎ (IsAfterEnd (function_at m a.func) q × (a.has_left ≡ false
        → IsOverOf xs a))
    begun_on no_close some = ⊎_elim (λ r. inl (runs_on no_close r)) (λ o. inr (
      after_edge (function_at m a.func) (place_in
          a) q o.0 on.edge,
      o.1,
    )) (h.begun some)

    module _ (ws : Env) (envs : AreSlotEnvs k.homes (roots a.func) vs ws)
        (same : (slot : ℕ) → IsTrue (flags a.func slot)
        → (value_in vs slot ≡ value_in a.values slot) × (value_in ws slot ≡ value_in h.values slot)) where
      own_there : (slot : Slot) → IsOwn l (flags a.func) depth a.values h.values slot
          → IsOwn k (flags a.func) depth vs ws slot
      own_there slot o = record {
        flagged = o.flagged;
        owner = c.owners slot.block depth o.owner;
        address = (same slot.alloca o.flagged).1 ∙ o.address;
        tenant = λ d at. (same slot.alloca o.flagged).0 ∙ o.tenant d (sym (c.tenants slot.block depth o.owner) ∙ at);
      }

      pub activation_there : (IsCallAt Intrinsic.CoroEnd (function_at m a.func) (place_in a) → ⊥)
          → AreOthers k (function_at m a.func) (flags a.func) (roots a.func) vs ws
          → ((slot d e : ℕ) → IsTrue (flags a.func slot) → value_in a.values slot ≡ pointer_to d
          → value_in h.values slot ≡ pointer_to e
          → IsSlotBeside m k xs memory' target' depth (record a {
            block = q.block;
            at = q.at;
            values = vs;
          }) slot d e)
          → IsActivationBeside m flags roots k xs memory' target' depth (record a {
            block = q.block;
            at = q.at;
            values = vs;
          }) (record b { block = q.block; at = q.at; values = ws })
      activation_there no_close others slots = activation_begun (begun_on no_close) (record b {
        block = q.block;
        at = q.at;
        values = ws;
      }) ws h.slots (ap (λ (z : Activation). record z { block = q.block; at = q.at; values = ws }) h.is) envs
          (slots_on m flags roots l k xs xs memory memory' target target' c _ _ _ _ (flags a.func) (λ slot z.
          record { flagged = z.flagged; seat = c.seats slot.block _ z.seat }) own_there a.slots h.slots h.listed)
          others
          (λ slot d e flagged at there. slots slot d e flagged (sym (same slot flagged).0
          ∙ at) (sym (same slot flagged).1 ∙ there))
          (λ slot is flagged. on.passed slot.alloca (h.made slot is flagged))
