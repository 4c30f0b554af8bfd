-- Where an activation begins an instance, the slots that it has made become the instance's.
use Rattle.std.proofs.Common.{◌≡◌, ◌≢◌, ◌≤◌, ℕ, ◌+◌, Bool, true, false, List, [], ◌∷◌, length, Option, Some}
use Rattle.std.proofs.Common.{None, refl, ap, ◌∙◌, subst, arith, inl, inr, ⊎_elim, ◌==◌}
use Rattle.std.specs.Prelude.{option_map}
use Rattle.pass_kept_proof.specs.ir_model.Names.{function_at}
use Rattle.pass_kept_proof.specs.ir_model.declared.module.Function.{Function}
use Rattle.pass_kept_proof.specs.ir_model.declared.module.Module.{Module}
use Rattle.pass_kept_proof.specs.run_memory.declared.block.MemoryBlock.{MemoryBlock}
use Rattle.pass_kept_proof.specs.run_source.declared.state.Activation.{Activation}
use Rattle.pass_kept_proof.specs.run_source.declared.state.Instance.{Instance}
use Rattle.pass_kept_proof.specs.run_source.declared.state.Mode.{Mode}
use Rattle.pass_kept_proof.specs.run_source.declared.state.Status.{Status}
use Rattle.pass_kept_proof.specs.run_step.Values.{Env}
use Rattle.pass_kept_proof.specs.run_step.declared.world.Slot.{Slot}
use Rattle.pass_kept_proof.proofs.Same.{eq_itself}
use Rattle.pass_renewed_proof.proofs.Carried.{AreInstancesOn, IsSlotKept, stand_kept, told_kept}
use Rattle.pass_renewed_proof.specs.Beside.{AreInstancesBeside, AreOthers, IsInstanceBeside, IsStatusBeside}
use Rattle.pass_renewed_proof.specs.Beside.{AreBelow, IsActivationBeside, IsOverOf, IsOwn}
use Rattle.pass_renewed_proof.specs.Beside.{AreSlots, Both, First, IsEarly, IsFirst, IsSeated, IsSlotBeside}
use Rattle.pass_renewed_proof.specs.Beside.{NoSlots, Second}
use Rattle.pass_renewed_proof.specs.Ledger.{AreEntered, IsAbout, IsMate, IsOfAlloca, Ledger, Lives, Seat, Seen}
use Rattle.pass_renewed_proof.specs.Ledger.{begun_instance, begun_ledger, begun_seat, is_quiet}
use Rattle.pass_renewed_proof.specs.Renewed.{Flags, Roots}
use Rattle.pass_renewed_proof.specs.Shown.{AreShownBlocks}

-- ---- seats

-- the seat that there was
record IsSeatFrom (r : Seat → Seat) (o : Option Seat) (z : Seat) : Type 0 where
  pub old : Seat
  pub there : o ≡ Some old
  pub is : r old ≡ z

seat_from : (r : Seat → Seat) (o : Option Seat) (z : Seat) → option_map r o ≡ Some z → IsSeatFrom r o z
seat_from r None z e = absurd (cc)
seat_from r (Some q) z e = record { old = q; there = refl; is = let k : r q ≡ z = cc in k }

none_from : (r : Seat → Seat) (o : Option Seat) → option_map r o ≡ None → o ≡ None
none_from r None e = refl
none_from r (Some q) e = absurd (cc)

quiet_same : (m : Module) (depth number : ℕ) (o : Option Seat)
    → is_quiet m o ≡ is_quiet m (option_map (begun_seat depth number) o)
quiet_same m depth number None = refl
quiet_same m depth number (Some q) = refl

-- ---- all blocks

module _ (m : Module) (l : Ledger) (memory target : List MemoryBlock) (depth number : ℕ) (e : AreEntered m l memory
    target) where
  was : (b : ℕ) (z : Seat) → (begun_ledger l depth number).seats b ≡ Some z
      → IsSeatFrom (begun_seat depth number) (l.seats b) z
  was b z h = seat_from (begun_seat depth number) (l.seats b) z h

  about_was : (b : ℕ) → IsAbout (begun_ledger l depth number) memory b → IsAbout l memory b
  about_was b (Seen h) = Seen h
  about_was b (Lives h) = Lives h

  mate_on : (b : ℕ) (x : MemoryBlock) → IsMate l target b x → IsMate (begun_ledger l depth number) target b x
  mate_on b x mate = record {
    block = mate.block;
    home = mate.home;
    shown = mate.shown;
    bytes = mate.bytes;
    there = mate.there;
    owner = mate.owner;
  }

  pub begun_entered : AreEntered m (begun_ledger l depth number) memory target
  begun_entered = record {
    known = e.known;
    hidden = e.hidden;
    present = e.present;
    globals = e.globals;
    alone = λ b about. e.alone b (about_was b about);
    owned = e.owned;
    seated = λ b z h. let q = was b z h in e.seated b q.old q.there;
    kinds = λ b z x h at. let q = was b z h in e.kinds b q.old x q.there at;
    shapes = λ b z x h at. let q = was b z h in subst (λ (w : Seat). IsOfAlloca m (function_at m w.func) w.alloca x)
        q.is (e.shapes b q.old x q.there at);
    placed = λ b z h. let q = was b z h in e.placed b q.old q.there;
    unowned = e.unowned;
    mates = λ b x none at. mate_on b x (e.mates b x (none_from (begun_seat depth number) (l.seats b) none) at);
    full = e.full;
    quiet = λ b h. e.quiet b (quiet_same m depth number (l.seats b) ∙ h);
    shown = subst (λ (q : ℕ → Bool). AreShownBlocks q memory) (λ i b. quiet_same m depth number (l.seats b) i) e.shown;
    future = e.future;
  }

-- ---- lists of slots

module _ (l : Ledger) (flags : ℕ → Bool) (func depth number : ℕ) (slot : Slot) where
  -- slots of instances stay theirs
  pub seated_still : (i : ℕ) → IsSeated l flags func (Some i) slot
      → IsSeated (begun_ledger l depth number) flags func (Some i) slot
  seated_still i is = record {
    flagged = is.flagged;
    depth = is.depth;
    seat = ap (option_map (begun_seat depth number)) is.seat;
  }

  -- the activation's own become the instance's
  pub seated_begun : IsEarly l flags func depth slot
      → IsSeated (begun_ledger l depth number) flags func (Some number) slot
  seated_begun is = record {
    flagged = is.flagged;
    depth = depth;
    seat = ap (option_map (begun_seat depth number)) is.seat
        ∙ ap (λ (t : Bool). Some (record {
          func = func;
          alloca = slot.alloca;
          depth = depth;
          instance = begun_instance None t number;
        })) (eq_itself depth);
  }

  -- those of any other activation stay its own
  pub early_still : (other : ℕ) → other ≢ depth → IsEarly l flags func other slot
      → IsEarly (begun_ledger l depth number) flags func other slot
  early_still other ne is = record {
    flagged = is.flagged;
    seat = ap (option_map (begun_seat depth number)) is.seat
        ∙ ap (λ (t : Bool). Some (record {
          func = func;
          alloca = slot.alloca;
          depth = other;
          instance = begun_instance None t number;
        })) (differs (other == depth) refl);
  }
    where
      differs : (t : Bool) → (other == depth) ≡ t → (other == depth) ≡ false
      differs true k = absurd (ne (grind arith))
      differs false k = k

-- slots that stand for one another still do, where those that may be made anew are told again
pub slots_begun : (l : Ledger) (depth number : ℕ) (S Z O P : Slot → Type 0) (flags : ℕ → Bool) → ((slot : Slot)
    → S slot → Z slot) → ((slot : Slot) → O slot → P slot) → (ss ts : List Slot) → AreSlots l S O flags ss ts
    → AreSlots (begun_ledger l depth number) Z P flags ss ts
slots_begun l depth number S Z O P flags first second _ _ NoSlots = NoSlots
slots_begun l depth number S Z O P flags first second _ _ (Both alloca b d ss ts off home unseated rest)
    = Both alloca b d ss ts off home (ap (option_map (begun_seat depth number)) unseated) (slots_begun l depth number S Z
    O P flags first second ss ts rest)
slots_begun l depth number S Z O P flags first second _ _ (First s ss ts is rest) = First s ss ts (first s is)
    (slots_begun l depth number S Z O P flags first second ss ts rest)
slots_begun l depth number S Z O P flags first second _ _ (Second t ss ts is rest) = Second t ss ts (second t is)
    (slots_begun l depth number S Z O P flags first second ss ts rest)

-- ---- one slot

pub slot_begun_kept : (l : Ledger) (memory : List MemoryBlock) (depth number b : ℕ)
    → IsSlotKept l (begun_ledger l depth number) memory memory b
slot_begun_kept l memory depth number b = record {
  home = refl;
  hides = refl;
  fresh = λ f. record { unseen = f.unseen; blank = f.blank };
  lives = λ h. h;
  gone = λ h. h;
}

module _ (m : Module) (l : Ledger) (xs ys : List Instance) (memory target : List MemoryBlock) (depth number other : ℕ)
    (a : Activation) (ne : other ≢ depth) (begins : a.mode ≡ Mode.Resumed → a.instance ≢ None) (on : AreInstancesOn xs
    ys other a) where
  same_instance : (ramp : ℕ) → (IsFirst a → ramp ≡ other)
      → begun_instance a.instance (ramp == depth) number ≡ a.instance
  same_instance ramp is = by a.instance refl
    where
      differs : ramp ≡ other → (t : Bool) → (ramp == depth) ≡ t → (ramp == depth) ≡ false
      differs e true k = absurd (ne (grind arith))
      differs e false k = k

      by : (o : Option ℕ) → a.instance ≡ o → begun_instance o (ramp == depth) number ≡ o
      by (Some i) e = refl
      by None e = ap (λ t. begun_instance None t number) (differs (is (λ resumed. begins resumed e)) (ramp == depth)
          refl)

  -- of an activation that isn't the one that begins
  pub slot_still : (alloca b c : ℕ) → IsSlotBeside m l xs memory target other a alloca b c
      → IsSlotBeside m (begun_ledger l depth number) ys memory target other a alloca b c
  slot_still alloca b c s =
      let kept = slot_begun_kept l memory depth number b in
      let k = begun_ledger l depth number in
      record {
        slot = on.slots _ s.slot;
        passed = s.passed;
        ramp = s.ramp;
        seat = ap (option_map (begun_seat depth number)) s.seat
            ∙ ap (λ (o : Option ℕ). Some (record { func = a.func; alloca = alloca; depth = s.ramp; instance = o }))
            (same_instance s.ramp s.depth_is);
        depth_is = s.depth_is;
        owner = s.owner;
        tenant = s.tenant;
        ready = s.ready;
        first = λ is goes. stand_kept l k memory memory b kept c (s.first is (⊎_elim (λ g. inl (on.goes_on g)) (λ h. inr
            h) goes));
        resumed = λ is goes. ⊎_elim (λ h. inl (stand_kept l k memory memory b kept c h)) (λ h. inr h) (s.resumed is
            (on.goes_on goes));
        told_first = λ is goes. ⊎_elim (λ h. inl (kept.fresh h)) (λ h. inr h) (s.told_first is (on.goes_on goes));
        told = λ is goes. told_kept l k memory memory b kept _ _ _ (s.told is (on.goes_on goes));
        alive = λ goes lives. s.alive (on.goes_on goes) lives;
        gone = s.gone;
        away = s.away;
      }

-- ---- instances

module _ (m : Module) (flags : Flags) (roots : Roots) (l : Ledger) (memory : List MemoryBlock) (depth number : ℕ) where
  pub others_begun : (f : Function) (flags : ℕ → Bool) (roots : ℕ → Option ℕ) (env other : Env)
      → AreOthers l f flags roots env other → AreOthers (begun_ledger l depth number) f flags roots env other
  others_begun f flags roots env other h v is =
      let old = h v is in
      record {
        unseated = λ b at. ap (option_map (begun_seat depth number)) (old.unseated b at);
        nowhere = old.nowhere;
      }

  status_begun : (x : Instance) (s t : Status) → IsStatusBeside m flags roots l memory x s t
      → IsStatusBeside m flags roots (begun_ledger l depth number) memory x s t
  status_begun x Status.Running t h = h
  status_begun x (Status.Suspended s env) t h = (
    h.0,
    h.1,
    record {
      is_call = h.2.is_call;
      runs_out = h.2.runs_out;
      envs = h.2.envs;
      others = others_begun (function_at m x.coroutine) (flags x.coroutine) (roots x.coroutine) env h.0 h.2.others;
      each = λ alloca b flagged at.
          let old = h.2.each alloca b flagged at in
          record {
            slot = old.slot;
            told = told_kept l (begun_ledger l depth number) memory memory b (slot_begun_kept l memory depth number b) _ _
                _ old.told;
            alive = old.alive;
            gone = old.gone;
          };
    },
  )
  status_begun x Status.Finished t h = h

  pub instance_begun : (i : ℕ) (x y : Instance) → IsInstanceBeside m flags roots l memory i x y
      → IsInstanceBeside m flags roots (begun_ledger l depth number) memory i x y
  instance_begun i x y h = record {
    block = h.block;
    slots = h.slots;
    status = h.status;
    is = h.is;
    home = h.home;
    unseated = ap (option_map (begun_seat depth number)) h.unseated;
    start = h.start;
    listed = slots_begun l depth number _ _ _ _ (flags x.coroutine) (λ slot. seated_still l (flags x.coroutine)
        x.coroutine depth number slot i) (λ slot none. none) x.slots h.slots h.listed;
    statuses = status_begun x x.status h.status h.statuses;
    over = h.over;
  }

  pub instances_begun : (i : ℕ) (xs ys : List Instance) → AreInstancesBeside m flags roots l memory i xs ys
      → AreInstancesBeside m flags roots (begun_ledger l depth number) memory i xs ys
  instances_begun i [] [] h = tt
  instances_begun i [] (y ∷ ys) h = absurd h
  instances_begun i (x ∷ xs) [] h = absurd h
  instances_begun i (x ∷ xs) (y ∷ ys) h = (instance_begun i x y h.0, instances_begun (i + 1) xs ys h.1)

-- ---- activations

-- what the new instances say of an activation
pub record IsAmongNew (xs ys : List Instance) (depth : ℕ) (a : Activation) : Type 0 where
  pub on : AreInstancesOn xs ys depth a
  pub over : a.has_left ≡ false → IsOverOf xs a → IsOverOf ys a

abbrev pub AreAmongNew : List Instance → List Instance → List Activation → Type 0
AreAmongNew xs ys [] = Unit {0}
AreAmongNew xs ys (a ∷ below) = IsAmongNew xs ys (length below) a × AreAmongNew xs ys below

own_begun : (l : Ledger) (depth number : ℕ) (flags : ℕ → Bool) (other : ℕ) (env env' : Env) (slot : Slot)
    → IsOwn l flags other env env' slot → IsOwn (begun_ledger l depth number) flags other env env' slot
own_begun l depth number flags other env env' slot o = record {
  flagged = o.flagged;
  owner = o.owner;
  address = o.address;
  tenant = o.tenant;
}

module _ (m : Module) (flags : Flags) (roots : Roots) (l : Ledger) (xs ys : List Instance) (memory target : List
    MemoryBlock) (depth number : ℕ) where
  activation_still : (other : ℕ) (a b : Activation) → other ≢ depth → IsAmongNew xs ys other a
      → IsActivationBeside m flags roots l xs memory target other a b
      → IsActivationBeside m flags roots (begun_ledger l depth number) ys memory target other a b
  activation_still other a b ne new h = record {
    values = h.values;
    slots = h.slots;
    is = h.is;
    envs = h.envs;
    listed = slots_begun l depth number _ _ _ _ (flags a.func) (λ slot. early_still l (flags a.func) a.func depth number
        slot other ne) (own_begun l depth number (flags a.func) other a.values h.values) a.slots h.slots h.listed;
    others = others_begun m flags roots l memory depth number (function_at m a.func) (flags a.func) (roots a.func)
        a.values h.values h.others;
    each = λ alloca d c flagged at there. slot_still m l xs ys memory target depth number other a ne h.begins new.on
        alloca d c (h.each alloca d c flagged at there);
    made = h.made;
    modes = h.modes;
    came = h.came;
    begun = λ some. ⊎_elim (λ r. inl r) (λ o. inr (o.0, λ stays. new.over stays (o.1 stays))) (h.begun some);
    begins = h.begins;
    departs = h.departs;
    left = h.left;
  }

  -- those below the one that begins
  pub below_still : (name : Option ℕ) (as' bs : List Activation) → length as' ≤ depth → AreAmongNew xs ys as'
      → AreBelow m flags roots l xs memory target name as' bs
      → AreBelow m flags roots (begun_ledger l depth number) ys memory target name as' bs
  below_still name [] [] le new h = tt
  below_still name [] (b ∷ bs) le new h = absurd h
  below_still name (a ∷ as') [] le new h = absurd h
  below_still name (a ∷ as') (b ∷ bs) le new h = (
    activation_still (length as') a b other new.0 h.0,
    h.1,
    below_still a.result as' bs (omega arith) new.1 h.2,
  )
    where
      other : length as' ≢ depth
      other is = absurd (omega arith)
