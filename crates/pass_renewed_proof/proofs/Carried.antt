-- What a step doesn't touch stays beside what it was beside.
use Rattle.std.proofs.Common.{◌≡◌, ◌≢◌, ℕ, suc, ◌+◌, inl, inr, Bool, true, false, List, [], ◌∷◌, length, Option, Some, None}
use Rattle.std.proofs.Common.{refl, sym, ap, ◌∙◌, subst, ⊎_elim, arith}
use Rattle.std.specs.Prelude.{slice_get, IsTrue}
use Rattle.std.specs.List.{Contains}
use Rattle.pass_kept_proof.specs.ir_model.Names.{function_at}
use Rattle.pass_kept_proof.specs.ir_model.declared.instr.Instr.{Instr}
use Rattle.pass_kept_proof.specs.ir_model.declared.module.Function.{Function}
use Rattle.pass_kept_proof.specs.ir_model.declared.module.Module.{Module}
use Rattle.pass_kept_proof.specs.ir_paths.declared.point.Point.{Point}
use Rattle.run_laws.proofs.memory.Homes.{value_on}
use Rattle.run_laws.specs.embedded.Related.{HasNoSlot}
use Rattle.run_laws.specs.memory.Pointers.{Extends, Home, IsValue, home_of}
use Rattle.pass_kept_proof.specs.run_memory.declared.block.MemoryBlock.{MemoryBlock}
use Rattle.pass_kept_proof.specs.run_source.declared.state.Activation.{Activation}
use Rattle.pass_kept_proof.specs.run_source.declared.state.Instance.{Instance}
use Rattle.pass_kept_proof.specs.run_source.declared.state.Status.{Status}
use Rattle.pass_kept_proof.specs.run_source.State.{is_suspended}
use Rattle.pass_kept_proof.specs.run_memory.declared.pointer.Pointer.{Pointer}
use Rattle.pass_kept_proof.specs.run_memory.declared.pointer.Value.{Value}
use Rattle.pass_kept_proof.specs.run_step.Step.{AtInstr, block_of, fetch}
use Rattle.pass_kept_proof.specs.run_step.Values.{Env, value_in}
use Rattle.pass_kept_proof.specs.run_step.declared.world.Slot.{Slot}
use Rattle.pass_renewed_proof.specs.Beside.{AreBelow, AreInstancesBeside, AreOthers, AreSlots, AreUnbegun, Both, First, GoesOn}
use Rattle.pass_renewed_proof.specs.Beside.{IsActivationBeside, IsEarly, IsInstanceBeside, IsKeptSlot, IsOther}
use Rattle.pass_renewed_proof.specs.Beside.{IsOverOf, IsOwn}
use Rattle.pass_renewed_proof.specs.Beside.{IsSeated, IsSlotBeside, IsSlotOf, IsStatusBeside, IsTold, MayStand}
use Rattle.pass_renewed_proof.specs.Beside.{NoSlots, Second}
use Rattle.pass_renewed_proof.specs.Ledger.{IsFresh, IsGone, IsHomeOf, Ledger, LivesIn, Seat}
use Rattle.pass_renewed_proof.specs.Places.{IsReady}
use Rattle.pass_renewed_proof.specs.Renewed.{Flags, Roots}
use Rattle.pass_renewed_proof.specs.SlotEnvs.{AreSlotEnvs}
use Rattle.pass_renewed_proof.specs.SlotRules.{IsMadeOnce}
use Rattle.pass_renewed_proof.specs.Steps.{given_at}

-- ---- seats

-- one seat has one function, alloca and instance
pub same_func : {p q : Seat} → Some p ≡ Some q → p.func ≡ q.func
same_func at = cc

pub same_alloca : {p q : Seat} → Some p ≡ Some q → p.alloca ≡ q.alloca
same_alloca at = cc

pub same_instance : {p q : Seat} → Some p ≡ Some q → p.instance ≡ q.instance
same_instance at = cc

-- two activations that have begun no instance don't have one slot
pub two_ramps : (m : Module) (l : Ledger) (xs : List Instance) (memory target : List MemoryBlock) (depth other : ℕ) (a
    z : Activation) (al au b c d : ℕ) → other ≢ depth → IsSlotBeside m l xs memory target depth a al b c
    → IsSlotBeside m l xs memory target other z au b d → AreUnbegun a.instance a.mode z.mode → ⊥
two_ramps m l xs memory target depth other a z al au b c d ne o u un = ne (sym (u.depth_is un.second) ∙ same_ramp (sym
    u.seat ∙ o.seat) ∙ o.depth_is un.first)
  where
    same_ramp : {p q : Seat} → Some p ≡ Some q → p.depth ≡ q.depth
    same_ramp e = cc

-- ---- values where more homes are known

pub envs_on : (homes more : List Home) (roots : ℕ → Option ℕ) (env other : Env) → Extends homes more
    → AreSlotEnvs homes roots env other → AreSlotEnvs more roots env other
envs_on homes more roots env other ext e = record {
  plain = λ v h. value_on homes more ext _ _ (e.plain v h);
  rooted = e.rooted;
  room = e.room;
}

-- ---- one slot

-- of a slot of the first memory: what is said of it still is
pub record IsSlotKept (l k : Ledger) (m n : List MemoryBlock) (b : ℕ) : Type 0 where
  pub home : home_of k.homes b ≡ home_of l.homes b
  pub hides : k.hides b ≡ l.hides b
  pub fresh : IsFresh l m b → IsFresh k n b
  pub lives : LivesIn n b → LivesIn m b
  pub gone : IsGone m b → IsGone n b

module _ (l k : Ledger) (m n : List MemoryBlock) (b : ℕ) (kept : IsSlotKept l k m n b) where
  home_kept : (c : ℕ) → IsHomeOf l b c → IsHomeOf k b c
  home_kept c h = record { is_seen = h.is_seen; home = kept.home ∙ h.home; shown = kept.hides ∙ h.shown }

  pub stand_kept : (c : ℕ) → MayStand l m b c → MayStand k n b c
  stand_kept c (inl f) = inl (kept.fresh f)
  stand_kept c (inr h) = inr (home_kept c h)

  pub told_kept : (f : Function) (slot : ℕ) (p : Point) → IsTold l m f slot b p → IsTold k n f slot b p
  told_kept f slot p (inl h) = inl (kept.fresh h)
  told_kept f slot p (inr (inl h)) = inr (inl h)
  told_kept f slot p (inr (inr h)) = inr (inr (record {
    away = h.away;
    unseen = λ live. ap (λ (q : Home). q.is_seen) kept.home ∙ h.unseen (kept.lives live);
  }))

-- ---- activations and instances that the step doesn't touch

-- the ledger and the memories before a step and behind it
pub record IsCarried (l k : Ledger) (m n target after : List MemoryBlock) : Type 0 where
  pub extends : Extends l.homes k.homes
  pub seats : (b : ℕ) (seat : Seat) → l.seats b ≡ Some seat → k.seats b ≡ Some seat
  pub unseated : (b : ℕ) → (home_of l.homes b).is_seen ≡ true → l.seats b ≡ None → k.seats b ≡ None
  pub owners : (c depth : ℕ) → l.owners c ≡ Some depth → k.owners c ≡ Some depth
  pub tenants : (c depth : ℕ) → l.owners c ≡ Some depth → k.tenants c ≡ l.tenants c
  pub ready : (b c depth : ℕ) (seat : Seat) → l.seats b ≡ Some seat → l.owners c ≡ Some depth → ((x : MemoryBlock)
      → slice_get m b ≡ Some x → IsReady target c x) → (x : MemoryBlock) → slice_get n b ≡ Some x → IsReady after c x

-- where nothing changes all is carried and kept
pub same_carried : (l : Ledger) (m target : List MemoryBlock) → IsCarried l l m m target target
same_carried l m target = record {
  extends = record { each = λ b seen. refl };
  seats = λ b seat at. at;
  unseated = λ b seen at. at;
  owners = λ d depth at. at;
  tenants = λ d depth at. refl;
  ready = λ b d depth seat seated at old. old;
}

pub same_kept : (l : Ledger) (m : List MemoryBlock) (b : ℕ) → IsSlotKept l l m m b
same_kept l m b = record { home = refl; hides = refl; fresh = λ z. z; lives = λ z. z; gone = λ z. z }

-- ---- names of other allocas

-- pointers are about into the block of a value that stands for another one
pub seen_block : (homes : List Home) (v w : Value) (b : ℕ) → IsValue homes v w → block_of v ≡ Some b
    → (home_of homes b).is_seen ≡ true
seen_block homes Value.Poison w b h e = absurd (cc)
seen_block homes (Value.Int n) w b h e = absurd (cc)
seen_block homes (Value.Ptr Pointer.Null) w b h e = absurd (cc)
seen_block homes (Value.Ptr (Pointer.Func g)) w b h e = absurd (cc)
seen_block homes (Value.Ptr (Pointer.At d o)) w b h e = subst (λ n. (home_of homes n).is_seen ≡ true) (same d b e) h.0
  where
    same : (i j : ℕ) → Some i ≡ Some j → i ≡ j
    same i j k = cc

-- an instruction that makes no slot gives no such name
pub made_no_slot : (f : Function) (al : ℕ) → IsMadeOnce f al → (block at : ℕ) (i : Instr)
    → fetch f block at ≡ AtInstr i → HasNoSlot (AtInstr i) → given_at (fetch f block at) ≡ Some al → ⊥
made_no_slot f al made block at i here no_slot given =
    let alone = made.alone block at given in
    let is : AtInstr i ≡ AtInstr (Instr.Alloca al made.ty made.align) = sym here ∙ (λ k. fetch f (alone.0 k) (alone.1
    k)) ∙ made.stands in
    subst HasNoSlot is no_slot

-- they lead to no slot either where they have what they had
pub others_on : (l k : Ledger) (m n target after : List MemoryBlock) → IsCarried l k m n target after → (f : Function)
    (flags : ℕ → Bool) (roots : ℕ → Option ℕ) (env other vs ws : Env) → AreSlotEnvs l.homes roots env other
    → ((v : ℕ) → IsOther f flags roots v
    → (value_in vs v ≡ value_in env v) × (value_in ws v ≡ value_in other v)) → AreOthers l f flags roots env other
    → AreOthers k f flags roots vs ws
others_on l k m n target after c f flags roots env other vs ws envs same h v is =
    let e = same v is in
    let old = h v is in
    record {
      unseated = λ b at.
          let at_old : block_of (value_in env v) ≡ Some b = ap block_of (sym e.0) ∙ at in
          c.unseated b (seen_block l.homes _ _ b (envs.plain v is.no_part) at_old) (old.unseated b at_old);
      nowhere = λ none. ap block_of e.1 ∙ old.nowhere (ap block_of (sym e.0) ∙ none);
    }

-- the instances behind a step: an activation that may go on might before, and slots are still those of it
pub record AreInstancesOn (xs ys : List Instance) (depth : ℕ) (a : Activation) : Type 0 where
  pub goes_on : GoesOn ys depth a → GoesOn xs depth a
  pub slots : (slot : Slot) → IsSlotOf xs a slot → IsSlotOf ys a slot

module _ (m : Module) (flags : Flags) (roots : Roots) (l k : Ledger) (xs ys : List Instance) (memory memory' target
    target' : List MemoryBlock) (c : IsCarried l k memory memory' target target') where
  pub slot_kept : (depth : ℕ) (a : Activation) (alloca b d : ℕ) → AreInstancesOn xs ys depth a
      → IsSlotKept l k memory memory' b → IsSlotBeside m l xs memory target depth a alloca b d
      → IsSlotBeside m k ys memory' target' depth a alloca b d
  slot_kept depth a alloca b d on kept s = record {
    slot = on.slots _ s.slot;
    passed = s.passed;
    ramp = s.ramp;
    seat = c.seats b _ s.seat;
    depth_is = s.depth_is;
    owner = c.owners d depth s.owner;
    tenant = c.tenants d depth s.owner ∙ s.tenant;
    ready = c.ready b d depth _ s.seat s.owner s.ready;
    first = λ is goes. stand_kept l k memory memory' b kept d (s.first is (⊎_elim (λ g. inl (on.goes_on g)) (λ h. inr
        h) goes));
    resumed = λ is goes. ⊎_elim (λ h. inl (stand_kept l k memory memory' b kept d h)) (λ h. inr h) (s.resumed is
        (on.goes_on goes));
    told_first = λ is goes. ⊎_elim (λ h. inl (kept.fresh h)) (λ h. inr h) (s.told_first is (on.goes_on goes));
    told = λ is goes. told_kept l k memory memory' b kept _ _ _ (s.told is (on.goes_on goes));
    alive = λ goes lives. s.alive (on.goes_on goes) (kept.lives lives);
    gone = λ left lives seen at. s.gone left (kept.lives lives) (ap (λ (q : Home). q.is_seen) (sym kept.home)
        ∙ seen) (ap (λ (q : Home). q.block) (sym kept.home) ∙ at);
    away = λ first left escaped away lives. s.away first left escaped away (kept.lives lives);
  }

  -- ---- lists of slots

  seated_on : (flags : ℕ → Bool) (func : ℕ) (i : Option ℕ) (slot : Slot) → IsSeated l flags func i slot
      → IsSeated k flags func i slot
  seated_on flags func i slot s = record { flagged = s.flagged; depth = s.depth; seat = c.seats slot.block _ s.seat }

  early_on : (flags : ℕ → Bool) (func depth : ℕ) (slot : Slot) → IsEarly l flags func depth slot
      → IsEarly k flags func depth slot
  early_on flags func depth slot s = record { flagged = s.flagged; seat = c.seats slot.block _ s.seat }

  own_on : (flags : ℕ → Bool) (depth : ℕ) (env other : Env) (slot : Slot) → IsOwn l flags depth env other slot
      → IsOwn k flags depth env other slot
  own_on flags depth env other slot o = record {
    flagged = o.flagged;
    owner = c.owners slot.block depth o.owner;
    address = o.address;
    tenant = λ b e. o.tenant b (sym (c.tenants slot.block depth o.owner) ∙ e);
  }

  pub slots_on : (S Z O P : Slot → Type 0) (flags : ℕ → Bool) → ((slot : Slot) → S slot → Z slot) → ((slot : Slot)
      → O slot → P slot) → (ss ts : List Slot) → AreSlots l S O flags ss ts → AreSlots k Z P flags ss ts
  slots_on S Z O P flags first second _ _ NoSlots = NoSlots
  slots_on S Z O P flags first second _ _ (Both alloca b d ss ts off home none rest) =
      let seen : (home_of l.homes b).is_seen ≡ true = ap (λ (q : Home). q.is_seen) home in
      Both alloca b d ss ts off (c.extends.each b seen
      ∙ home) (c.unseated b seen none) (slots_on S Z O P flags first second ss ts rest)
  slots_on S Z O P flags first second _ _ (First s ss ts is rest) = First s ss ts (first s is) (slots_on S Z O P flags
      first second ss ts rest)
  slots_on S Z O P flags first second _ _ (Second t ss ts is rest) = Second t ss ts (second t is) (slots_on S Z O P
      flags first second ss ts rest)

  -- ---- activations

  -- what is said of each slot of an activation is said behind the step
  pub record IsActivationCarried (depth : ℕ) (a : Activation) : Type 0 where
    pub over : a.has_left ≡ false → IsOverOf xs a → IsOverOf ys a
    pub slots : (alloca b d : ℕ) → IsTrue (flags a.func alloca)
        → IsSlotBeside m l xs memory target depth a alloca b d → IsSlotBeside m k ys memory' target' depth a alloca b d

  pub activation_kept : (depth : ℕ) (a b : Activation) → IsActivationCarried depth a
      → IsActivationBeside m flags roots l xs memory target depth a b
      → IsActivationBeside m flags roots k ys memory' target' depth a b
  activation_kept depth a b on h = record {
    values = h.values;
    slots = h.slots;
    is = h.is;
    envs = envs_on l.homes k.homes (roots a.func) a.values h.values c.extends h.envs;
    listed = slots_on _ _ _ _ (flags a.func) (early_on (flags a.func) a.func depth) (own_on (flags a.func) depth
        a.values h.values) a.slots h.slots h.listed;
    others = others_on l k memory memory' target target' c (function_at m a.func) (flags a.func) (roots a.func)
        a.values h.values a.values h.values h.envs (λ v is. (refl, refl)) h.others;
    each = λ alloca b d flagged at there. on.slots alloca b d flagged (h.each alloca b d flagged at there);
    made = h.made;
    modes = h.modes;
    came = h.came;
    begun = λ some. ⊎_elim (λ r. inl r) (λ o. inr (o.0, λ stays. on.over stays (o.1 stays))) (h.begun some);
    begins = h.begins;
    departs = h.departs;
    left = h.left;
  }

  abbrev pub AreBelowCarried : List Activation → Type 0
  AreBelowCarried [] = Unit {0}
  AreBelowCarried (a ∷ below) = IsActivationCarried (length below) a × AreBelowCarried below

  pub below_kept : (name : Option ℕ) (as' bs : List Activation) → AreBelowCarried as'
      → AreBelow m flags roots l xs memory target name as' bs → AreBelow m flags roots k ys memory' target' name as' bs
  below_kept name [] [] kept h = tt
  below_kept name [] (b ∷ bs) kept h = absurd h
  below_kept name (a ∷ as') [] kept h = absurd h
  below_kept name (a ∷ as') (b ∷ bs) kept h = (
    activation_kept (length as') a b kept.0 h.0,
    h.1,
    below_kept a.result as' bs kept.1 h.2,
  )

  -- ---- instances

  pub kept_slot_on : (x : Instance) (s : Point) (alloca b : ℕ) → IsSlotKept l k memory memory' b
      → IsKeptSlot m l memory x s alloca b → IsKeptSlot m k memory' x s alloca b
  kept_slot_on x s alloca b kept h = record {
    slot = h.slot;
    told = told_kept l k memory memory' b kept _ _ _ h.told;
    alive = λ lives. h.alive (kept.lives lives);
    gone = λ lives. ap (λ (q : Home). q.is_seen) kept.home ∙ h.gone (kept.lives lives);
  }

  -- what is said of each slot of an instance is said behind the step
  pub record IsInstanceCarried (x : Instance) : Type 0 where
    pub slots : (s : Point) (alloca b : ℕ) → is_suspended x.status ≡ true → IsTrue (flags x.coroutine alloca)
        → IsKeptSlot m l memory x s alloca b → IsKeptSlot m k memory' x s alloca b
    pub gone : (slot : Slot) → Contains x.slots slot → IsTrue (flags x.coroutine slot.alloca)
        → IsGone memory slot.block → IsGone memory' slot.block

  status_kept : (x : Instance) (s t : Status) → x.status ≡ s → IsInstanceCarried x
      → IsStatusBeside m flags roots l memory x s t → IsStatusBeside m flags roots k memory' x s t
  status_kept x Status.Running t is on h = h
  status_kept x (Status.Suspended s env) t is on h = (
    h.0,
    h.1,
    record {
      is_call = h.2.is_call;
      runs_out = h.2.runs_out;
      envs = envs_on l.homes k.homes (roots x.coroutine) env h.0 c.extends h.2.envs;
      others = others_on l k memory memory' target target' c (function_at m x.coroutine) (flags x.coroutine) (roots
          x.coroutine) env h.0 env h.0 h.2.envs (λ v is. (refl, refl)) h.2.others;
      each = λ alloca b flagged at. on.slots s alloca b (ap is_suspended is) flagged (h.2.each alloca b flagged at);
    },
  )
  status_kept x Status.Finished t is on h = h

  pub instance_kept : (i : ℕ) (x y : Instance) → IsInstanceCarried x → IsInstanceBeside m flags roots l memory i x y
      → IsInstanceBeside m flags roots k memory' i x y
  instance_kept i x y on h =
      let seen : (home_of l.homes x.block).is_seen ≡ true = ap (λ (q : Home). q.is_seen) h.home in
      record {
        block = h.block;
        slots = h.slots;
        status = h.status;
        is = h.is;
        home = c.extends.each x.block seen ∙ h.home;
        unseated = c.unseated x.block seen h.unseated;
        start = h.start;
        listed = slots_on _ _ _ _ (flags x.coroutine) (seated_on (flags x.coroutine) x.coroutine (Some i)) (λ slot o.
            o) x.slots h.slots h.listed;
        statuses = status_kept x x.status h.status refl on h.statuses;
        over = λ e slot is flagged. on.gone slot is flagged (h.over e slot is flagged);
      }

  -- of the instances from a number on, by what is said of their slots
  pub instances_kept : (i : ℕ) (zs ws : List Instance) → ((j : ℕ) (x y : Instance) → slice_get zs j ≡ Some x
      → IsInstanceBeside m flags roots l memory (i + j) x y → IsInstanceCarried x)
      → AreInstancesBeside m flags roots l memory i zs ws → AreInstancesBeside m flags roots k memory' i zs ws
  instances_kept i [] [] on h = tt
  instances_kept i [] (w ∷ ws) on h = absurd h
  instances_kept i (z ∷ zs) [] on h = absurd h
  instances_kept i (z ∷ zs) (w ∷ ws) on h =
      let e : i + 0 ≡ i = omega arith in (
        instance_kept i z w (on 0 z w refl (subst (λ n. IsInstanceBeside m flags roots l memory n z w) (sym e) h.0))
            h.0,
        instances_kept (i + 1) zs ws (λ j x y at is. let k : (i + 1) + j ≡ i + suc j = omega arith in on (suc j) x y
            at (subst (λ n. IsInstanceBeside m flags roots l memory n x y) k is)) h.1,
      )
