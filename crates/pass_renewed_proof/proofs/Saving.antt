-- A save that leaves the instance Suspended does so in both runs.
use Rattle.std.proofs.Common.{◌≡◌, ◌≢◌, ℕ, ◌+◌, ◌≤◌, inl, inr, Bool, true, false, not, List, [], ◌∷◌}
use Rattle.std.proofs.Common.{length, Option, Some, None, refl, sym, ap, ◌∙◌, subst, ⊎_elim, arith}
use Rattle.std.proofs.lemmas.Bool.{cases_eq, false≢true}
use Rattle.std.specs.List.{Contains}
use Rattle.std.specs.Prelude.{IsTrue, slice_get, slice_set}
use Rattle.pass_kept_proof.specs.ir_model.Names.{function_at}
use Rattle.pass_kept_proof.specs.ir_model.declared.module.Function.{Function}
use Rattle.pass_kept_proof.specs.ir_model.declared.module.Module.{Module}
use Rattle.pass_kept_proof.specs.ir_model.declared.operand.Intrinsic.{Intrinsic}
use Rattle.pass_kept_proof.specs.ir_paths.Paths.{has_point, nexts}
use Rattle.pass_kept_proof.specs.ir_paths.Slots.{is_escaped}
use Rattle.pass_kept_proof.specs.ir_paths.Windows.{end_block}
use Rattle.pass_kept_proof.specs.ir_paths.declared.point.Point.{Point}
use Rattle.frame_classes.specs.Alive.{MayBeAlive}
use Rattle.frame_classes.specs.Classes.{NeedsFrame, suspends}
use Rattle.pass_kept_proof.specs.SuspendRules.{IsCallAt}
use Rattle.pass_kept_proof.specs.rule_windows.Sets.{RunsOut}
use Rattle.run_laws.proofs.memory.Written.{same_some}
use Rattle.run_laws.specs.memory.Pointers.{IsValue, home_of}
use Rattle.pass_kept_proof.specs.run_memory.declared.pointer.Value.{Value}
use Rattle.pass_kept_proof.specs.run_source.State.{gives, with_instance, with_left}
use Rattle.pass_kept_proof.specs.run_source.declared.state.Activation.{Activation}
use Rattle.pass_kept_proof.specs.run_source.declared.state.Instance.{Instance}
use Rattle.pass_kept_proof.specs.run_source.declared.state.Mode.{Mode}
use Rattle.pass_kept_proof.specs.run_source.declared.state.Saved.{Saved}
use Rattle.pass_kept_proof.specs.run_source.declared.state.State.{State}
use Rattle.pass_kept_proof.specs.run_source.declared.state.Status.{Status}
use Rattle.pass_kept_proof.specs.run_step.Values.{Env, pointer_to, value_in, with_result}
use Rattle.pass_kept_proof.specs.run_step.declared.world.Slot.{Slot}
use Rattle.pass_renewed_proof.proofs.Ahead.{not_alive, used_on}
use Rattle.pass_renewed_proof.proofs.Carried.{AreBelowCarried, below_kept, same_carried, same_kept}
use Rattle.pass_renewed_proof.proofs.Carried.{slot_kept, slots_on}
use Rattle.pass_renewed_proof.proofs.Left.{call_listed}
use Rattle.pass_renewed_proof.proofs.Giving.{IsGivenName, envs as given_envs, others as given_others, unset}
use Rattle.pass_renewed_proof.proofs.SavePoints.{IsSavingAt}
use Rattle.pass_renewed_proof.proofs.Sets.{result_elsewhere}
use Rattle.pass_renewed_proof.proofs.Listing.{instance_beside, instances_set, set_here, set_other}
use Rattle.pass_renewed_proof.proofs.Onward.{passed_next}
use Rattle.pass_renewed_proof.proofs.Ordinary.{own_address}
use Rattle.pass_renewed_proof.proofs.Stands.{end_at_first}
use Rattle.pass_renewed_proof.proofs.Starting.{first_or_resumed}
use Rattle.pass_renewed_proof.proofs.Way.{alive_more, barred_more, resumed_more}
use Rattle.pass_renewed_proof.specs.Beside.{AreInstancesBeside, AreKeptBeside, AreOthers, AreOutdone, AreUnbegun, Begun, Early}
use Rattle.pass_renewed_proof.specs.Beside.{GoesOn}
use Rattle.pass_renewed_proof.specs.Beside.{IsActivationBeside, IsBeside, IsInstanceBeside}
use Rattle.pass_renewed_proof.specs.Beside.{IsKeptSlot, IsOverOf, IsOwn, IsSlotBeside, IsSlotOf, IsTold, Leaves}
use Rattle.pass_renewed_proof.specs.Beside.{NotLeft, place_in}
use Rattle.pass_renewed_proof.specs.Ledger.{Ledger, LivesIn, is_quiet}
use Rattle.pass_renewed_proof.specs.Left.{behind}
use Rattle.pass_renewed_proof.specs.Renewed.{Flags, Roots}
use Rattle.pass_renewed_proof.specs.SlotEnvs.{AreSlotEnvs}
use Rattle.pass_renewed_proof.specs.SlotRules.{KeepsSlots}

module _ (m : Module) (flags : Flags) (roots : Roots) (keeps : (func : ℕ)
    → KeepsSlots m (function_at m func) (flags func) (roots func)) (s t : State) (beside : IsBeside m flags roots s t)
    (u : Point) (is : IsSavingAt m flags s.top u) (result : Option ℕ) (v : Value) (name : IsGivenName m flags roots
    beside.ledger s.top result v v) (stands : IsValue beside.ledger.homes v v) (n : ℕ) (x y : Instance)
    (own : s.top.instance ≡ Some n) (there : slice_get s.instances n ≡ Some x) (there' : slice_get t.instances n ≡ Some
    y) (same_func : x.coroutine ≡ s.top.func) (kept : x.freed ≡ false) (outdone : AreOutdone s.instances s.top s.below) where
  abbrev l : Ledger
  l = beside.ledger

  abbrev h : IsActivationBeside m flags roots beside.ledger s.instances s.world.memory t.world.memory (length s.below)
      s.top t.top
  h = beside.top

  abbrev f : Function
  f = function_at m s.top.func

  abbrev k : Point
  k = place_in s.top

  abbrev saved : Saved
  saved = record { depth = length s.below; save = place_in s.top }

  abbrev x' : Instance
  x' = record x {
    status = Status.Suspended u s.top.values;
    last_save = Some (record { depth = length s.below; save = place_in s.top });
  }

  abbrev y' : Instance
  y' = record y {
    status = Status.Suspended u beside.top.values;
    last_save = Some (record { depth = length s.below; save = place_in s.top });
  }

  abbrev xs' : List Instance
  xs' = slice_set s.instances n (record x {
    status = Status.Suspended u s.top.values;
    last_save = Some (record { depth = length s.below; save = place_in s.top });
  })

  -- ---- points

  suspend_call : IsCallAt Intrinsic.CoroSuspend (function_at m s.top.func) u
  suspend_call = is.suspend_call

  is_suspend : IsTrue (has_point (suspends (function_at m s.top.func)) u)
  is_suspend = call_listed f Intrinsic.CoroSuspend u suspend_call

  edge : has_point (nexts (function_at m s.top.func) (place_in s.top)) (behind (place_in s.top)) ≡ true
  edge = is.edge

  runs_here : RunsOut (function_at m s.top.func) (place_in s.top)
  runs_here = ⊎_elim
      (λ r. r)
      (λ o. absurd (is.no_after o.0))
      (h.begun (λ none. let z : Some n ≡ None = sym own ∙ none in absurd (cc)))

  -- ---- slots

  abbrev Slot_of : (al b c : ℕ) → Type 0
  Slot_of al b c = IsSlotBeside m beside.ledger s.instances s.world.memory t.world.memory (length s.below) s.top al b c

  local : (al : ℕ) → IsTrue (flags s.top.func al) → ¬ NeedsFrame (function_at m s.top.func) al
  local al flagged = ((keeps s.top.func).is_local al flagged).1

  told_here : (al b c : ℕ) → Slot_of al b c
      → IsTold beside.ledger s.world.memory (function_at m s.top.func) al b (place_in s.top)
  told_here al b c o = ⊎_elim
      (λ first. ⊎_elim (λ z. inl z) (λ z. inr (inl z)) (o.told_first first (NotLeft is.stays)))
      (λ resumed. o.told resumed (NotLeft is.stays))
      (first_or_resumed s.top h.modes)

  alive_at : (al b c : ℕ) → IsTrue (flags s.top.func al) → Slot_of al b c → LivesIn s.world.memory b
      → MayBeAlive (function_at m s.top.func) al u
  alive_at al b c flagged o live = ⊎_elim
      (λ e. let z : Some n ≡ None = sym own ∙ e.0 in absurd (cc))
      (λ alive. is.alive al flagged alive)
      (o.alive (NotLeft is.stays) live)

  told_there : (al b c : ℕ) → IsTrue (flags s.top.func al)
      → IsTold beside.ledger s.world.memory (function_at m s.top.func) al b (place_in s.top)
      → IsTold beside.ledger s.world.memory (function_at m s.top.func) al b u
  told_there al b c flagged (inl fresh) = inl fresh
  told_there al b c flagged (inr (inl used)) = inr (inl (is.used al flagged used))
  told_there al b c flagged (inr (inr away)) = inr (inr away)

  -- of a slot that lives no pointer is about
  unseen : (al b c : ℕ) → IsTrue (flags s.top.func al) → Slot_of al b c → LivesIn s.world.memory b
      → (home_of beside.ledger.homes b).is_seen ≡ false
  unseen al b c flagged o live = on (told_here al b c o) (is_escaped f al) refl (home_of l.homes b).is_seen refl
    where
      on : IsTold l s.world.memory f al b k → (e : Bool) → is_escaped f al ≡ e → (z : Bool)
          → (home_of l.homes b).is_seen ≡ z → (home_of l.homes b).is_seen ≡ false
      on told e ee false z = z
      on (inl fresh) e ee true z = fresh.unseen
      on (inr (inr away)) e ee true z = away.unseen live
      on (inr (inl used)) false ee true z = beside.entered.quiet b (ap (is_quiet m) o.seat ∙ ap not ee)
      on (inr (inl used)) true ee true z = absurd (not_alive f al (local al flagged) ee u is_suspend (is.used al
          flagged used) (alive_at al b c flagged o live))

  kept_slot : (al b : ℕ) → IsTrue (flags s.top.func al) → value_in s.top.values al ≡ pointer_to b
      → (c : ℕ) → Slot_of al b c → IsKeptSlot m beside.ledger s.world.memory x' u al b
  kept_slot al b flagged at c o = record {
    slot = of_it o.slot;
    told = subst (λ g. IsTold l s.world.memory (function_at m g) al b u) (sym same_func) (told_there al b c flagged
        (told_here al b c o));
    alive = λ live. subst (λ g. MayBeAlive (function_at m g) al u) (sym same_func) (alive_at al b c flagged o live);
    gone = λ live. unseen al b c flagged o live;
  }
    where
      same_number : {i j : ℕ} → Some i ≡ Some j → i ≡ j
      same_number q = cc

      of_it : IsSlotOf s.instances s.top (record { alloca = al; block = b })
          → Contains x.slots (record { alloca = al; block = b })
      of_it (Early none z) = let q : Some n ≡ None = sym own ∙ none in absurd (cc)
      of_it (Begun j z own' at' c') = subst (λ (q : Instance). Contains q.slots (record { alloca = al; block = b }))
          (same_some z x (sym at' ∙ ap (slice_get s.instances) (same_number (sym own' ∙ own)) ∙ there)) c'

  -- ---- the instance

  kept_beside : AreKeptBeside m flags roots beside.ledger s.world.memory x' u s.top.values beside.top.values
  kept_beside = record {
    is_call = subst (λ g. IsCallAt Intrinsic.CoroSuspend (function_at m g) u) (sym same_func) suspend_call;
    runs_out = subst (λ g. RunsOut (function_at m g) u) (sym same_func) (is.runs runs_here);
    envs = subst (λ g. AreSlotEnvs l.homes (roots g) s.top.values h.values) (sym same_func) h.envs;
    others = subst (λ g. AreOthers l (function_at m g) (flags g) (roots g) s.top.values h.values) (sym same_func)
        h.others;
    each = λ al b flagged at.
        let mine = subst (λ g. IsTrue (flags g al)) same_func flagged in
        ⊎_elim
        (λ poison. let z : Value.Poison ≡ pointer_to b = sym poison ∙ at in absurd (cc))
        (λ ad. kept_slot al b mine at ad.target (h.each al b ad.target mine at ad.other_is))
        (h.envs.rooted al al ((keeps s.top.func).addresses al al mine (own_address f al)));
  }

  instance_saved : IsInstanceBeside m flags roots beside.ledger s.world.memory (0 + n) x y
      → IsInstanceBeside m flags roots beside.ledger s.world.memory (0 + n) x' y'
  instance_saved b = record {
    block = b.block;
    slots = b.slots;
    status = Status.Suspended u beside.top.values;
    is = ap (λ (z : Instance). record z {
      status = Status.Suspended u beside.top.values;
      last_save = Some (record { depth = length s.below; save = place_in s.top });
    }) b.is;
    home = b.home;
    unseated = b.unseated;
    start = b.start;
    listed = b.listed;
    statuses = (beside.top.values, refl, kept_beside);
    over = λ e. absurd (false≢true (sym kept ∙ e));
  }

  old_instance : IsInstanceBeside m flags roots beside.ledger s.world.memory (0 + n) x y
  old_instance =
      let r = instance_beside m flags roots l s.world.memory 0 s.instances t.instances n x beside.instances there in
      subst (IsInstanceBeside m flags roots l s.world.memory (0 + n) x) (same_some r.0 y (sym r.1 ∙ there')) r.2

  instances : AreInstancesBeside m flags roots beside.ledger s.world.memory 0 xs' (slice_set t.instances n y')
  instances = instances_set m flags roots l s.world.memory 0 s.instances t.instances n x' y' beside.instances
      (instance_saved old_instance)

  -- ---- activations below

  now : slice_get xs' n ≡ Some x'
  now = set_here s.instances n x x' there

  slots_still : (z : Activation) (slot : Slot) → IsSlotOf s.instances z slot → IsSlotOf xs' z slot
  slots_still z slot (Early none c) = Early none c
  slots_still z slot (Begun j w own' at c) = ⊎_elim
      (λ same. Begun n x' (own' ∙ ap Some same) now (subst (λ (q : Instance). Contains q.slots slot) (same_some w x
      (sym at ∙ ap (slice_get s.instances) same ∙ there)) c))
      (λ ne. Begun j w own' (set_other s.instances n j x' ne ∙ at) c)
      (cases_eq j n)

  -- only the topmost one may come back
  goes_still : (depth : ℕ) (z : Activation) → depth ≢ length s.below → GoesOn xs' depth z → GoesOn s.instances depth z
  goes_still depth z other (NotLeft e) = NotLeft e
  goes_still depth z other (Leaves g) = ⊎_elim
      (λ same.
      let q : x' ≡ g.instance = same_some x' g.instance (sym now ∙ ap (slice_get xs') (sym same) ∙ g.there) in
      absurd (other (sym g.is_its ∙ ap (λ (w : Saved). w.depth) (saved_is (sym g.last ∙ ap (λ (w : Instance).
      w.last_save) (sym q))))))
      (λ ne. Leaves (record {
        number = g.number;
        own = g.own;
        instance = g.instance;
        there = sym (set_other s.instances n g.number x' ne) ∙ g.there;
        suspended = g.suspended;
        saved = g.saved;
        last = g.last;
        is_its = g.is_its;
      }))
      (cases_eq g.number n)
    where
      saved_is : {a b : Saved} → Some a ≡ Some b → a ≡ b
      saved_is e = cc

  over_still : (depth : ℕ) (z : Activation) → (z.instance ≡ s.top.instance → GoesOn s.instances depth z
      → s.top.has_left ≡ false → AreUnbegun s.top.instance s.top.mode z.mode) → z.has_left ≡ false → IsOverOf s.instances z → IsOverOf xs' z
  over_still depth z alone stays o = ⊎_elim
      (λ same. let un = alone (o.own ∙ ap Some same ∙ sym own) (NotLeft stays) is.stays in let q : None ≡ Some n = sym
      un.none ∙ own in absurd (cc))
      (λ ne. record {
        number = o.number;
        own = o.own;
        instance = o.instance;
        there = set_other s.instances n o.number x' ne ∙ o.there;
        over = o.over;
      })
      (cases_eq o.number n)

  below_saved : (below : List Activation) → length below ≤ length s.below → AreOutdone s.instances s.top below
      → AreBelowCarried m flags roots beside.ledger beside.ledger s.instances xs' s.world.memory s.world.memory
      t.world.memory t.world.memory (same_carried beside.ledger s.world.memory t.world.memory) below
  below_saved [] le alone = tt
  below_saved (z ∷ below) le alone = (
    record {
      over = over_still (length below) z alone.0;
      slots = λ al b d flagged o. slot_kept m flags roots l l s.instances xs' s.world.memory s.world.memory
          t.world.memory t.world.memory (same_carried l s.world.memory t.world.memory) (length below) z al b d
          (record { goes_on = goes_still (length below) z other; slots = slots_still z }) (same_kept l s.world.memory b)
          o;
    },
    below_saved below (omega arith) alone.1,
  )
    where
      other : length below ≢ length s.below
      other e = absurd (omega arith)

  -- ---- the topmost one

  abbrev a' : Activation
  a' = record s.top { at = s.top.at + 1; values = with_result s.top.values result v; has_left = true }

  not_last : s.top.mode ≡ Mode.Resumed → s.top.block ≡ end_block (function_at m s.top.func) → ⊥
  not_last resumed last = is.not_last last (end_at_first f k (h.came resumed) last)

  slot_saved : (al b c : ℕ) → IsTrue (flags s.top.func al) → Slot_of al b c
      → IsSlotBeside m beside.ledger xs' s.world.memory t.world.memory (length s.below) a' al b c
  slot_saved al b c flagged o = record {
    slot = of_it (slots_still s.top _ o.slot);
    passed = passed_next f al k o.passed;
    ramp = o.ramp;
    seat = o.seat;
    depth_is = o.depth_is;
    owner = o.owner;
    tenant = o.tenant;
    ready = o.ready;
    first = λ first goes. o.first first (inl (NotLeft is.stays));
    resumed = λ resumed goes. ⊎_elim
        (λ z. inl z)
        (λ z. inr (⊎_elim (λ barred. inl (barred_more f al k (behind k) barred (is.no_start al) (not_last resumed)
        edge)) (λ away. inr away) z))
        (o.resumed resumed (NotLeft is.stays));
    told_first = λ first goes. ⊎_elim (λ z. inl z) (λ used. inr (used_on f al k (behind k) edge (is.no_start al)
        used)) (o.told_first first (NotLeft is.stays));
    told = λ resumed goes. told_next (o.told resumed (NotLeft is.stays));
    alive = λ goes live. ⊎_elim
        (λ e. inl e)
        (λ alive. inr (alive_more f al k (behind k) edge (is.no_end al) alive))
        (o.alive (NotLeft is.stays) live);
    gone = λ left live seen at. absurd (false≢true (sym (unseen al b c flagged o live) ∙ seen));
    away = λ first left escaped away live. record {
      suspend = u;
      is_suspend = is_suspend;
      is_alive = alive_at al b c flagged o live;
      by = is.left_by;
    };
  }
    where
      of_it : IsSlotOf xs' s.top (record { alloca = al; block = b })
          → IsSlotOf xs' a' (record { alloca = al; block = b })
      of_it (Early none c') = Early none c'
      of_it (Begun j w own' at c') = Begun j w own' at c'

      told_next : IsTold l s.world.memory f al b k → IsTold l s.world.memory f al b (behind k)
      told_next (inl fresh) = inl fresh
      told_next (inr (inl used)) = inr (inl (used_on f al k (behind k) edge (is.no_start al) used))
      told_next (inr (inr away)) = inr (inr away)

  unset_here : (al : ℕ) → IsTrue (flags s.top.func al) → result ≡ Some al → ⊥
  unset_here = unset m flags roots keeps s t beside l s.world t.world (same_carried l s.world.memory t.world.memory)
      result v v name stands

  own_there : (slot : Slot) → IsOwn beside.ledger (flags s.top.func) (length s.below) s.top.values beside.top.values slot
      → IsOwn beside.ledger (flags s.top.func) (length s.below) (with_result s.top.values result v) (with_result
      beside.top.values result v) slot
  own_there slot o = record {
    flagged = o.flagged;
    owner = o.owner;
    address = result_elsewhere beside.top.values result slot.alloca v (unset_here slot.alloca o.flagged) ∙ o.address;
    tenant = λ d at. result_elsewhere s.top.values result slot.alloca v (unset_here slot.alloca o.flagged) ∙ o.tenant d
        at;
  }

  top_saved : IsActivationBeside m flags roots beside.ledger xs' s.world.memory t.world.memory (length s.below) a'
      (record t.top { at = t.top.at + 1; values = with_result beside.top.values result v; has_left = true })
  top_saved = record {
    values = with_result beside.top.values result v;
    slots = h.slots;
    is = ap (λ (z : Activation). record z {
      at = z.at + 1;
      values = with_result beside.top.values result v;
      has_left = true;
    }) h.is;
    envs = given_envs m flags roots keeps s t beside l s.world t.world (same_carried l s.world.memory t.world.memory)
        result v v name stands;
    listed = slots_on m flags roots l l s.instances s.instances s.world.memory s.world.memory t.world.memory
        t.world.memory (same_carried l s.world.memory t.world.memory) _ _ _ _ (flags s.top.func) (λ slot z. z) own_there
        s.top.slots h.slots h.listed;
    others = given_others m flags roots keeps s t beside l s.world t.world (same_carried l s.world.memory
        t.world.memory) result v v name stands;
    each = λ al b c flagged at at'. slot_saved al b c flagged (h.each al b c flagged (sym (result_elsewhere s.top.values
        result al v (unset_here al flagged)) ∙ at) (sym (result_elsewhere beside.top.values result al v (unset_here al
        flagged)) ∙ at'));
    made = λ slot is_in flagged. passed_next f slot.alloca k (h.made slot is_in flagged);
    modes = h.modes;
    came = λ resumed. resumed_more f k (behind k) (h.came resumed) (not_last resumed) edge;
    begun = λ some. ⊎_elim (λ r. inl r) (λ o. inr (o, λ stays. absurd (false≢true (sym stays)))) (is.onward
        runs_here);
    begins = h.begins;
    departs = λ left none. let q : None ≡ Some n = sym none ∙ own in absurd (cc);
    left = λ left. record { suspend = u; is_call = suspend_call; by = is.left_by };
  }

  -- ---- the states

  pub saved_beside : IsBeside m flags roots (gives (with_left (with_instance s n (record x {
    status = Status.Suspended u s.top.values;
    last_save = Some (record { depth = length s.below; save = place_in s.top });
  })) true) result v) (gives (with_left (with_instance t n (record y {
    status = Status.Suspended u t.top.values;
    last_save = Some (record { depth = length s.below; save = place_in s.top });
  })) true) result v)
  saved_beside = subst (λ (vs : Env). IsBeside m flags roots (gives (with_left (with_instance s n x') true) result v)
      (record (with_left (with_instance t n (record y {
        status = Status.Suspended u vs;
        last_save = Some (record { depth = length s.below; save = place_in s.top });
      })) true) {
        top = record t.top { at = t.top.at + 1; values = with_result vs result v; has_left = true };
      })) (ap (λ (z : Activation). z.values) (sym h.is)) (record {
        ledger = l;
        outcome = beside.outcome;
        world = beside.world;
        entered = beside.entered;
        instances = instances;
        top = top_saved;
        below = below_kept m flags roots l l s.instances xs' s.world.memory s.world.memory t.world.memory
            t.world.memory (same_carried l s.world.memory t.world.memory) s.top.result s.below t.below (below_saved
            s.below (omega arith) outdone) beside.below;
      })
