-- An activation begins an instance in both runs: the slots that it has made become the instance's.
use Rattle.std.proofs.Common.{◌≡◌, ◌≢◌, ℕ, suc, ◌+◌, inl, inr, Bool, true, false, not, List, [], ◌∷◌, ◌++◌, length}
use Rattle.std.proofs.Common.{Some, None, refl, sym, ap, ◌∙◌, subst, ⊎_elim, arith, ◌==◌}
use Rattle.std.proofs.lemmas.Bool.{cases_eq, false≢true}
use Rattle.std.specs.Prelude.{IsTrue, filter, option_map, slice_get}
use Rattle.run_types.specs.ir_model.Names.{function_at}
use Rattle.run_types.specs.ir_model.declared.module.Function.{Function}
use Rattle.run_types.specs.ir_model.declared.module.Module.{Module}
use Rattle.run_types.specs.rule_windows.Points.{ends}
use Rattle.run_types.specs.rule_windows.Sets.{RunsOut}
use Rattle.run_types.specs.frame_classes.Alive.{Unmarked}
use Rattle.run_types.proofs.pass_kept_proof.Same.{eq_itself}
use Rattle.run_types.proofs.run_laws.memory.Written.{same_some}
use Rattle.run_types.specs.run_laws.embedded.Making.{whole_home}
use Rattle.run_types.specs.run_laws.memory.Pointers.{home_of}
use Rattle.run_types.specs.run_memory.declared.block.MemoryBlock.{MemoryBlock}
use Rattle.run_types.specs.run_source.Source.{is_among, new_instance}
use Rattle.run_types.specs.run_source.State.{is_suspended}
use Rattle.run_types.specs.run_source.declared.state.Activation.{Activation}
use Rattle.run_types.specs.run_source.declared.state.Instance.{Instance}
use Rattle.run_types.specs.run_source.declared.state.Mode.{Mode}
use Rattle.run_types.specs.run_source.declared.state.State.{State}
use Rattle.run_types.specs.run_source.declared.state.Status.{Status}
use Rattle.run_types.specs.run_step.Values.{Env}
use Rattle.run_types.specs.run_step.declared.world.Slot.{Slot}
use Rattle.pass_renewed_meaning.proofs.BegunSlots.{contains_kept, instance_slots, kept_contains, ramp_slots}
use Rattle.run_types.proofs.pass_renewed_proof.Beginning.{AreAmongNew, begun_entered, below_still, instances_begun, others_begun}
use Rattle.run_types.proofs.pass_renewed_proof.Beginning.{seated_begun, slot_begun_kept, slots_begun}
use Rattle.run_types.proofs.pass_renewed_proof.Anew.{below_other}
use Rattle.run_types.proofs.pass_renewed_proof.Carried.{stand_kept}
use Rattle.run_types.proofs.pass_renewed_proof.Made.{get_last, get_other, get_within}
use Rattle.run_types.proofs.pass_renewed_proof.Way.{drop_avoided}
use Rattle.run_types.specs.pass_renewed_proof.Beside.{AreInstancesBeside, Begun, Early, GoesOn, IsActivationBeside}
use Rattle.run_types.specs.pass_renewed_proof.Beside.{IsAliveAt, IsBeside, IsEarly, IsInstanceBeside, IsOverOf, IsOwn, IsSeated}
use Rattle.run_types.specs.pass_renewed_proof.Beside.{IsSlotBeside, IsSlotOf, Leaves, NotLeft, place_in}
use Rattle.run_types.specs.pass_renewed_proof.Ledger.{Ledger, begun_instance, begun_ledger, begun_seat}
use Rattle.run_types.specs.pass_renewed_proof.Renewed.{Flags, Roots}

same_number : {a b : ℕ} → Some a ≡ Some b → a ≡ b
same_number e = cc

own_begun : (l : Ledger) (depth number : ℕ) (flags : ℕ → Bool) (other : ℕ) (env env' : Env) (slot : Slot)
    → IsOwn l flags other env env' slot → IsOwn (begun_ledger l depth number) flags other env env' slot
own_begun l depth number flags other env env' slot o = record {
  flagged = o.flagged;
  owner = o.owner;
  address = o.address;
  tenant = o.tenant;
}

-- ---- a new instance behind those that there are

module _ (xs : List Instance) (x : Instance) (awake : is_suspended x.status ≡ false) where
  same_old : (j : ℕ) (w : Instance) → slice_get xs j ≡ Some w → slice_get (xs ++ x ∷ []) j ≡ Some w
  same_old j w at = get_other xs x j (below_other j (length xs) (get_within xs j w at)) ∙ at

  goes_before : (depth : ℕ) (a : Activation) → GoesOn (xs ++ x ∷ []) depth a → GoesOn xs depth a
  goes_before depth a (NotLeft e) = NotLeft e
  goes_before depth a (Leaves g) = ⊎_elim
      (λ same.
      let is : x ≡ g.instance = same_some x g.instance (sym (get_last xs x) ∙ ap (slice_get (xs ++ x ∷ [])) (sym same)
      ∙ g.there) in
      absurd (false≢true (sym awake ∙ ap (λ (z : Instance). is_suspended z.status) is ∙ g.suspended)))
      (λ ne. Leaves (record {
        number = g.number;
        own = g.own;
        instance = g.instance;
        there = sym (get_other xs x g.number ne) ∙ g.there;
        suspended = g.suspended;
        saved = g.saved;
        last = g.last;
        is_its = g.is_its;
      }))
      (cases_eq g.number (length xs))

  slot_still : (a : Activation) (slot : Slot) → IsSlotOf xs a slot → IsSlotOf (xs ++ x ∷ []) a slot
  slot_still a slot (Early none is) = Early none is
  slot_still a slot (Begun j w own at is) = Begun j w own (same_old j w at) is

  over_still : (a : Activation) → IsOverOf xs a → IsOverOf (xs ++ x ∷ []) a
  over_still a o = record {
    number = o.number;
    own = o.own;
    instance = o.instance;
    there = same_old o.number o.instance o.there;
    over = o.over;
  }

  among_new : (below : List Activation) → AreAmongNew xs (xs ++ x ∷ []) below
  among_new [] = tt
  among_new (a ∷ below) = (
    record {
      on = record { goes_on = goes_before (length below) a; slots = slot_still a };
      over = λ stays. over_still a;
    },
    among_new below,
  )

-- beside each other at the end
grown : (m : Module) (flags : Flags) (roots : Roots) (k : Ledger) (memory : List MemoryBlock) (x y : Instance) (i : ℕ)
    (zs ws : List Instance) → AreInstancesBeside m flags roots k memory i zs ws
    → IsInstanceBeside m flags roots k memory (i + length zs) x y
    → AreInstancesBeside m flags roots k memory i (zs ++ x ∷ []) (ws ++ y ∷ [])
grown m flags roots k memory x y i [] [] h new =
    let n : i + 0 ≡ i = omega arith in
    (subst (λ j. IsInstanceBeside m flags roots k memory j x y) n new, tt)
grown m flags roots k memory x y i [] (w ∷ ws) h new = absurd h
grown m flags roots k memory x y i (z ∷ zs) [] h new = absurd h
grown m flags roots k memory x y i (z ∷ zs) (w ∷ ws) h new = (
  h.0,
  grown m flags roots k memory x y (i + 1) zs ws h.1 (subst (λ j. IsInstanceBeside m flags roots k memory j x y) (more i
      (length zs)) new),
)
  where
    more : (i n : ℕ) → i + suc n ≡ (i + 1) + n
    more i n = omega arith

-- ---- the states

module _ (m : Module) (flags : Flags) (roots : Roots) (s t : State) (beside : IsBeside m flags roots s t) (b c : ℕ)
    (home : home_of beside.ledger.homes b ≡ whole_home c) (none : beside.ledger.seats b ≡ None)
    (fresh : s.top.instance ≡ None) (stays : s.top.has_left ≡ false)
    (runs : RunsOut (function_at m s.top.func) (place_in s.top)) (ramp others : List ℕ)
    (first : (slot : Slot) → IsTrue (flags s.top.func slot.alloca) → is_among ramp slot ≡ false)
    (second : (slot : Slot) → IsTrue (flags s.top.func slot.alloca) → is_among others slot ≡ true)
    (same : (slot : Slot) → flags s.top.func slot.alloca ≡ false → is_among others slot ≡ is_among ramp slot) where
  abbrev l : Ledger
  l = beside.ledger

  abbrev number : ℕ
  number = length s.instances

  abbrev depth : ℕ
  depth = length s.below

  abbrev k : Ledger
  k = begun_ledger beside.ledger (length s.below) (length s.instances)

  abbrev f : Function
  f = function_at m s.top.func

  abbrev h : IsActivationBeside m flags roots beside.ledger s.instances s.world.memory t.world.memory (length s.below)
      s.top t.top
  h = beside.top

  abbrev pub x : Instance
  x = record (new_instance s.top.func b 0) { slots = filter (λ slot. not (is_among ramp slot)) s.top.slots }

  abbrev pub y : Instance
  y = record (new_instance s.top.func c 0) { slots = filter (λ slot. not (is_among others slot)) t.top.slots }

  abbrev xs : List Instance
  xs = s.instances ++ record (new_instance s.top.func b 0) {
    slots = filter (λ slot. not (is_among ramp slot)) s.top.slots;
  } ∷ []

  -- ---- the new instance

  is_first : s.top.mode ≡ Mode.Resumed → ⊥
  is_first resumed = h.begins resumed fresh

  seated : (slot : Slot) → IsEarly beside.ledger (flags s.top.func) s.top.func (length s.below) slot
      → IsSeated k (flags s.top.func) s.top.func (Some (0 + length s.instances)) slot
  seated slot is =
      let n : number ≡ 0 + number = omega arith in
      subst (λ j. IsSeated k (flags s.top.func) s.top.func (Some j) slot) n (seated_begun l (flags s.top.func)
      s.top.func depth number slot is)

  new_beside : IsInstanceBeside m flags roots k s.world.memory (0 + length s.instances) x y
  new_beside = record {
    block = c;
    slots = filter (λ slot. not (is_among others slot)) h.slots;
    status = Status.Running;
    is = ap (λ (z : Activation). record (new_instance s.top.func c 0) {
      slots = filter (λ slot. not (is_among others slot)) z.slots;
    }) h.is;
    home = home;
    unseated = ap (option_map (begun_seat depth number)) none;
    start = refl;
    listed = slots_begun l depth number _ _ _ _ (flags s.top.func) seated (λ slot z. z) _ _ (instance_slots l (IsEarly l
        (flags s.top.func) s.top.func depth) (IsOwn l (flags s.top.func) depth s.top.values h.values) (flags
        s.top.func) ramp others (λ slot is. first slot is.flagged) (λ slot is. second slot is.flagged) same s.top.slots
        h.slots h.listed);
    statuses = refl;
    over = λ e. absurd (false≢true e);
  }

  instances : AreInstancesBeside m flags roots k s.world.memory 0 xs (t.instances ++ y ∷ [])
  instances = grown m flags roots k s.world.memory x y 0 s.instances t.instances (instances_begun m flags roots l
      s.world.memory depth number 0 s.instances t.instances beside.instances) new_beside

  -- ---- the topmost activation

  abbrev a' : Activation
  a' = record s.top { instance = Some (length s.instances); slots = filter (is_among ramp) s.top.slots }

  now : slice_get xs (length s.instances) ≡ Some x
  now = get_last s.instances x

  slot_now : (al d : ℕ) → IsTrue (flags s.top.func al) → IsSlotOf s.instances s.top (record { alloca = al; block = d })
      → IsSlotOf xs a' (record { alloca = al; block = d })
  slot_now al d flagged (Early unbegun is) = Begun number x refl now (contains_kept (λ slot. not (is_among ramp slot))
      s.top.slots _ (ap not (first (record { alloca = al; block = d }) flagged)) is)
  slot_now al d flagged (Begun j w own at is) = let q : None ≡ Some j = sym fresh ∙ own in absurd (cc)

  seat_now : (ramp : ℕ) → (s.top.mode ≡ Mode.Resumed → ⊥) → ramp ≡ length s.below
      → begun_instance s.top.instance (ramp == length s.below) (length s.instances) ≡ Some (length s.instances)
  seat_now ramp is at = (λ i. begun_instance (fresh i) (at i == depth) number) ∙ ap (λ u. begun_instance None u number)
      (eq_itself depth)

  alive_now : (al : ℕ) → IsAliveAt s.top (function_at m s.top.func) al (place_in s.top)
      → IsAliveAt a' (function_at m s.top.func) al (place_in s.top)
  alive_now al (inl z) = inr (Unmarked runs.start z.1 runs.is_start (record {
    between = runs.path.between;
    is_path = drop_avoided f (ends f) runs.start runs.path.between (place_in s.top) runs.path.is_path;
  }))
  alive_now al (inr z) = inr z

  slot_begun : (al d e : ℕ) → IsTrue (flags s.top.func al)
      → IsSlotBeside m beside.ledger s.instances s.world.memory t.world.memory (length s.below) s.top al d e
      → IsSlotBeside m k xs s.world.memory t.world.memory (length s.below) a' al d e
  slot_begun al d e flagged o =
      let kept = slot_begun_kept l s.world.memory depth number d in
      record {
        slot = slot_now al d flagged o.slot;
        passed = o.passed;
        ramp = o.ramp;
        seat = ap (option_map (begun_seat depth number)) o.seat
            ∙ ap (λ z. Some (record { func = s.top.func; alloca = al; depth = o.ramp; instance = z })) (seat_now o.ramp
            is_first (o.depth_is is_first));
        depth_is = o.depth_is;
        owner = o.owner;
        tenant = o.tenant;
        ready = o.ready;
        first = λ is goes. stand_kept l k s.world.memory s.world.memory d kept e (o.first is (inl (NotLeft stays)));
        resumed = λ is goes. absurd (is_first is);
        told_first = λ is goes. ⊎_elim (λ z. inl (kept.fresh z)) (λ z. inr z) (o.told_first is (NotLeft stays));
        told = λ is goes. absurd (is_first is);
        alive = λ goes lives. alive_now al (o.alive (NotLeft stays) lives);
        gone = λ left. absurd (false≢true (sym stays ∙ left));
        away = λ is left. absurd (false≢true (sym stays ∙ left));
      }

  top_begun : IsActivationBeside m flags roots k xs s.world.memory t.world.memory (length s.below) a' (record t.top {
    instance = Some (length s.instances);
    slots = filter (is_among others) t.top.slots;
  })
  top_begun = record {
    values = h.values;
    slots = filter (is_among others) h.slots;
    is = ap (λ (z : Activation). record z { instance = Some number; slots = filter (is_among others) z.slots }) h.is;
    envs = h.envs;
    listed = slots_begun l depth number (λ slot. ⊥) _ _ _ (flags s.top.func) (λ slot z. absurd z) (own_begun l depth
        number (flags s.top.func) depth s.top.values h.values) _ _ (ramp_slots l (IsEarly l (flags s.top.func)
        s.top.func depth) (IsOwn l (flags s.top.func) depth s.top.values h.values) (flags s.top.func) ramp others (λ
        slot is. first slot is.flagged) (λ slot is. second slot is.flagged) same (λ slot. ⊥) s.top.slots h.slots
        h.listed);
    others = others_begun m flags roots l s.world.memory depth number f (flags s.top.func) (roots s.top.func)
        s.top.values h.values h.others;
    each = λ al d e flagged at there. slot_begun al d e flagged (h.each al d e flagged at there);
    made = λ slot is flagged. h.made slot (kept_contains (is_among others) h.slots slot is) flagged;
    modes = h.modes;
    came = h.came;
    begun = λ some. inl runs;
    begins = λ resumed. absurd (is_first resumed);
    departs = λ left. absurd (false≢true (sym stays ∙ left));
    left = λ left. absurd (false≢true (sym stays ∙ left));
  }

  -- ---- both

  pub begun_states : IsBeside m flags roots (record s {
    instances = s.instances ++ record (new_instance s.top.func b 0) {
      slots = filter (λ slot. not (is_among ramp slot)) s.top.slots;
    } ∷ [];
    top = record s.top { instance = Some (length s.instances); slots = filter (is_among ramp) s.top.slots };
  }) (record t {
    instances = t.instances ++ record (new_instance s.top.func c 0) {
      slots = filter (λ slot. not (is_among others slot)) t.top.slots;
    } ∷ [];
    top = record t.top { instance = Some (length s.instances); slots = filter (is_among others) t.top.slots };
  })
  begun_states = record {
    ledger = k;
    outcome = beside.outcome;
    world = beside.world;
    entered = begun_entered m l s.world.memory t.world.memory depth number beside.entered;
    instances = instances;
    top = top_begun;
    below = below_still m flags roots l s.instances xs s.world.memory t.world.memory depth number s.top.result s.below
        t.below (omega arith) (among_new s.instances x refl s.below) beside.below;
  }
