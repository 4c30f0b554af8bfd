-- The activation that a resume or destroy puts on top: behind all slots that it makes anew it stands beside the first
-- run's.
use Rattle.std.proofs.Common.{◌≡◌, ◌≢◌, ℕ, suc, ◌+◌, ◌<◌, ◌≤◌, ◌⊎◌, ◌^◌, inl, inr, Bool, true, false, List, [], ◌∷◌, length}
use Rattle.std.proofs.Common.{Option, Some, None, refl, sym, ap, ◌∙◌, subst, ⊎_elim, arith, if◌then◌else◌}
use Rattle.std.proofs.lemmas.Bool.{false≢true}
use Rattle.std.proofs.lemmas.List.{length-replicate}
use Rattle.std.specs.List.{Contains}
use Rattle.std.specs.Prelude.{IsTrue, slice_get}
use Rattle.run_types.specs.ir_model.Layout.{size_of}
use Rattle.run_types.specs.ir_model.Names.{function_at, position_of}
use Rattle.run_types.specs.ir_model.Ty.{Ty}
use Rattle.run_types.specs.ir_model.declared.instr.Instr.{Instr}
use Rattle.run_types.specs.ir_model.declared.instr.Terminator.{Terminator}
use Rattle.run_types.specs.ir_model.declared.module.Block.{Block}
use Rattle.run_types.specs.ir_model.declared.module.Function.{Function}
use Rattle.run_types.specs.ir_model.declared.module.Module.{Module}
use Rattle.run_types.specs.ir_model.declared.operand.Callee.{Callee}
use Rattle.run_types.specs.ir_model.declared.operand.Intrinsic.{Intrinsic}
use Rattle.run_types.specs.ir_paths.Paths.{entry_point, has_point, nexts}
use Rattle.run_types.specs.ir_paths.Windows.{is_call_of}
use Rattle.run_types.specs.ir_paths.declared.point.Point.{Point}
use Rattle.run_types.specs.frame_classes.Alive.{MayBeAlive}
use Rattle.run_types.specs.frame_classes.Classes.{suspends}
use Rattle.run_types.proofs.frame_slots.Points.{where_sound}
use Rattle.run_types.proofs.pass_kept_proof.Same.{kept_at, kept_wide}
use Rattle.run_types.specs.pass_kept_proof.Kept.{kept}
use Rattle.run_types.specs.pass_kept_proof.Needed.{BranchesTo}
use Rattle.run_types.specs.pass_kept_proof.SuspendRules.{IsCallAt}
use Rattle.run_types.specs.rule_windows.Points.{ends}
use Rattle.run_types.specs.rule_windows.Sets.{RunsOut}
use Rattle.run_types.specs.rule_windows.Windows.{own_edges}
use Rattle.run_types.specs.run_laws.memory.Pointers.{Home}
use Rattle.run_types.specs.run_laws.memory.Standing.{blank_block}
use Rattle.run_types.specs.run_memory.Memory.{same_kind}
use Rattle.run_types.specs.run_memory.declared.block.Byte.{Byte}
use Rattle.run_types.specs.run_memory.declared.block.Kind.{Kind}
use Rattle.run_types.specs.run_memory.declared.block.MemoryBlock.{MemoryBlock}
use Rattle.run_types.specs.run_memory.declared.pointer.Value.{Value}
use Rattle.run_types.specs.run_source.Source.{resumed}
use Rattle.run_types.specs.run_source.declared.state.Activation.{Activation}
use Rattle.run_types.specs.run_source.declared.state.Instance.{Instance}
use Rattle.run_types.specs.run_source.declared.state.State.{State}
use Rattle.run_types.specs.run_source.declared.state.Status.{Status}
use Rattle.run_types.specs.run_step.Step.{AtInstr, AtTerm, alloca_kind, block_of, fetch}
use Rattle.run_types.specs.run_step.Values.{Env, pointer_to, value_in}
use Rattle.run_types.specs.run_step.declared.world.Slot.{Slot}
use Rattle.pass_renewed_meaning.proofs.EntrySlots.{IsEntrySlot, distinct, each_next, flagged_named, of_name}
use Rattle.pass_renewed_meaning.proofs.NewSlots.{AreNewSlots, IsMadeNew, all_new}
use Rattle.pass_renewed_meaning.proofs.Renaming.{plain_value, root_value}
use Rattle.run_types.proofs.pass_renewed_proof.Ahead.{branch_edge, leads_more, next_edge}
use Rattle.run_types.proofs.pass_renewed_proof.EnteredValues.{made_length, other_values}
use Rattle.run_types.proofs.pass_renewed_proof.History.{fetch_is}
use Rattle.run_types.proofs.pass_renewed_proof.Left.{call_listed}
use Rattle.run_types.proofs.pass_renewed_proof.Next.{entry_slots}
use Rattle.run_types.proofs.pass_renewed_proof.Ordinary.{own_address, roots_of}
use Rattle.run_types.proofs.pass_renewed_proof.Passing.{unended}
use Rattle.run_types.proofs.pass_renewed_proof.Phis.{no_call_term, no_end_term, term_there}
use Rattle.run_types.proofs.pass_renewed_proof.Settled.{seated_in}
use Rattle.run_types.proofs.pass_renewed_proof.SlotEnvs.{kept_stand, renewed_stand}
use Rattle.run_types.proofs.pass_renewed_proof.Steps.{cut_at}
use Rattle.run_types.proofs.pass_renewed_proof.Way.{alive_more, barred_first, barred_used, resumed_first}
use Rattle.run_types.specs.pass_renewed_proof.Beside.{AreKeptBeside, AreOthers, AreSlots, Begun, IsActivationBeside, IsEarly}
use Rattle.run_types.specs.pass_renewed_proof.Beside.{IsKeptSlot, IsOther, IsOtherValue, IsOwn, IsPassed, IsSeated, IsSlotBeside}
use Rattle.run_types.specs.pass_renewed_proof.Beside.{IsTold, MayStand, NoSlots, Second}
use Rattle.run_types.specs.pass_renewed_proof.Entering.{Anew, AreNext, anew_in, is_named, made_all}
use Rattle.run_types.specs.pass_renewed_proof.Ledger.{AreEntered, IsFresh, IsOfAlloca, Ledger, Seat}
use Rattle.run_types.specs.pass_renewed_proof.Left.{behind}
use Rattle.run_types.specs.pass_renewed_proof.Muted.{muted}
use Rattle.run_types.specs.pass_renewed_proof.Places.{AreStanding, IsReady}
use Rattle.run_types.specs.pass_renewed_proof.Renewed.{RenewedGiven, renewed_values}
use Rattle.run_types.specs.pass_renewed_proof.SlotEnvs.{AreMadeAnew, AreRoots, AreSlotEnvs}
use Rattle.run_types.specs.pass_renewed_proof.SlotRules.{KeepsAllSlots, KeepsSlots}
use Rattle.run_types.specs.pass_renewed_proof.Steps.{given_at}

-- ---- lists, and points

all_second : (l : Ledger) (S O : Slot → Type 0) (flags : ℕ → Bool) (ts : List Slot) → ((slot : Slot)
    → Contains ts slot → O slot) → AreSlots l S O flags [] ts
all_second l S O flags [] each = NoSlots
all_second l S O flags (t ∷ ts) each = Second t [] ts (each t (0, omega arith, refl)) (all_second l S O flags ts (λ slot
    is. each slot (suc is.0, more (length ts) is.0 is.1, is.2)))
  where
    more : (n k : ℕ) → k < n → suc k < suc n
    more n k lt = omega arith

suspend_no_end : (i : Instr) → is_call_of Intrinsic.CoroSuspend i ≡ true → is_call_of Intrinsic.LifetimeEnd i ≡ false
suspend_no_end (Instr.Call result must_tail ty (Callee.Intrinsic Intrinsic.CoroSuspend) args) e = refl
suspend_no_end _ e = absurd (cc)

suspend_no_close : (i : Instr) → is_call_of Intrinsic.CoroSuspend i ≡ true → is_call_of Intrinsic.CoroEnd i ≡ false
suspend_no_close (Instr.Call result must_tail ty (Callee.Intrinsic Intrinsic.CoroSuspend) args) e = refl
suspend_no_close _ e = absurd (cc)

no_end_point : (f : Function) (p : Point) → (IsCallAt Intrinsic.CoroEnd f p → ⊥) → has_point (ends f) p ≡ false
no_end_point f p none = on (has_point (ends f) p) refl
  where
    on : (u : Bool) → has_point (ends f) p ≡ u → has_point (ends f) p ≡ false
    on false e = e
    on true e = absurd (none (let r = where_sound (is_call_of Intrinsic.CoroEnd) f p e in record {
      instr = r.instr;
      stands = fetch_is f p r.instr r.is;
      is = r.passes;
    }))

alloca_writable : (b : Bool) → same_kind (if b then Kind.Slot else Kind.Stack) Kind.Constant ≡ false
alloca_writable true = refl
alloca_writable false = refl

same_start : (v : Value) (b d : ℕ) → v ≡ pointer_to b → block_of v ≡ Some d → v ≡ pointer_to d
same_start v b d is at = let same : b ≡ d = number (sym (ap block_of is) ∙ at) in is ∙ ap pointer_to same
  where
    number : {i j : ℕ} → Some i ≡ Some j → i ≡ j
    number e = cc

same_number : {i j : ℕ} → pointer_to i ≡ pointer_to j → i ≡ j
same_number e = cc

module _ (g : RenewedGiven) (rules : KeepsAllSlots g.given.code g.keep g.flags g.roots) (l : Ledger) (memory : List
    MemoryBlock) (x : Instance) (n : ℕ) (su : Point) (env other : Env) (kp : AreKeptBeside g.given.code g.flags g.roots
    l memory x su env other) (theirs : List Slot) (listed : AreSlots l (IsSeated l (g.flags x.coroutine) x.coroutine
    (Some n)) (λ t. ⊥) (g.flags x.coroutine) x.slots theirs) (b : Block)
    (first : slice_get (function_at g.given.code x.coroutine).blocks 0 ≡ Some b)
    (named : (a : ℕ) → IsTrue (g.flags x.coroutine a) → a < length env) (base : State) (label depth : ℕ)
    (standing : AreStanding l.homes (muted l.hides memory) base.world.memory)
    (entered : AreEntered g.given.code l memory base.world.memory) where
  abbrev m : Module
  m = g.given.code

  abbrev f : Function
  f = function_at g.given.code x.coroutine

  abbrev fl : ℕ → Bool
  fl = g.flags x.coroutine

  abbrev rt : ℕ → Option ℕ
  rt = g.roots x.coroutine

  abbrev kf : ℕ → Bool
  kf = g.keep x.coroutine su

  keeps : KeepsSlots g.given.code (function_at g.given.code x.coroutine) (g.flags x.coroutine) (g.roots x.coroutine)
  keeps = rules.each x.coroutine

  -- what is handed on
  abbrev pub vs : Env
  vs = kept (g.keep x.coroutine su) env

  abbrev pub s0 : State
  s0 = record base { top = resumed n x su (kept (g.keep x.coroutine su) other) }

  abbrev pub xs : List Anew
  xs = anew_in (g.flags x.coroutine) 0 b.instrs

  abbrev pub made : State
  made = made_all g su.block label s0 xs

  abbrev pub ws : Env
  ws = renewed_values (g.roots x.coroutine) made.top.values made.top.values

  abbrev tenant : ℕ → Option ℕ
  tenant v = block_of (value_in (kept (g.keep x.coroutine su) env) v)

  is_suspend : has_point (suspends (function_at g.given.code x.coroutine)) su ≡ true
  is_suspend = call_listed f Intrinsic.CoroSuspend su kp.is_call

  -- ---- the slots

  pub next : AreNext (g.flags x.coroutine) (function_at g.given.code x.coroutine) 0 (anew_in (g.flags x.coroutine) 0
      b.instrs)
  next = entry_slots fl f b first keeps.aligned

  named_flagged : (a : ℕ) → is_named xs a ≡ true → IsTrue (g.flags x.coroutine a)
  named_flagged a e = let r = of_name xs a e in subst (λ v. IsTrue (fl v)) r.2 (each_next fl f 0 xs next r.0 r.1).flagged

  range : (a : ℕ) → is_named xs a ≡ true → a < length (kept (g.keep x.coroutine su) other)
  range a e = within (length env) (length other) (length (kept kf other)) (named a (named_flagged a e)) kp.envs.room
      (kept_wide kf other)
    where
      within : (p q r : ℕ) → a < p → p ≤ q → r ≡ q → a < r
      within p q r lt le is = omega arith

  pub new : (k : Ledger) × AreNewSlots g.given.code memory depth tenant g su.block label l k s0 made xs
  new = all_new m memory depth tenant g su.block label l s0 xs standing entered (distinct m f fl rt keeps 0 xs next)
      range

  abbrev pub k : Ledger
  k = new.0

  abbrev Made : ℕ → ℕ → Type 0
  Made a c = IsMadeNew m memory depth tenant g su.block label k x.coroutine made xs a c

  made_of : (a : ℕ) → IsTrue (g.flags x.coroutine a) → (c : ℕ) × Made a c
  made_of a flagged = new.1.named a (flagged_named m f fl rt keeps b first a flagged)

  root_of : (a : ℕ) → IsTrue (g.flags x.coroutine a) → g.roots x.coroutine a ≡ Some a
  root_of a flagged = keeps.addresses a a flagged (own_address f a)

  -- ---- the values

  idem : AreRoots (g.roots x.coroutine)
  idem = roots_of m f fl rt keeps

  pub kept_envs : AreSlotEnvs l.homes (g.roots x.coroutine) vs (kept (g.keep x.coroutine su) other)
  kept_envs = kept_stand l.homes rt kf env other (λ v a root. rules.handed x.coroutine a su (keeps.rooted v a root).0
      is_suspend) kp.envs

  not_named : (v : ℕ) → (g.flags x.coroutine v ≡ true → ⊥) → is_named xs v ≡ false
  not_named v off = on (is_named xs v) refl
    where
      on : (t : Bool) → is_named xs v ≡ t → is_named xs v ≡ false
      on false e = e
      on true e = absurd (off (named_flagged v e))

  elsewhere : (v : ℕ) → (g.flags x.coroutine v ≡ true → ⊥)
      → value_in made.top.values v ≡ value_in (kept (g.keep x.coroutine su) other) v
  elsewhere v off = other_values g su.block label xs s0 v (not_named v off)

  made_anew : AreMadeAnew (g.roots x.coroutine) (kept (g.keep x.coroutine su) other) made.top.values
  made_anew = record {
    anew = λ a root. let r = made_of a (keeps.rooted a a root).0 in (r.0, r.1.value);
    others = λ v none. elsewhere v (λ on. none (root_of v on));
    room = at_least (length (kept kf other)) (length made.top.values) (made_length g su.block label xs s0);
  }
    where
      at_least : (p q : ℕ) → q ≡ p → p ≤ q
      at_least p q e = omega arith

  envs : AreSlotEnvs k.homes (g.roots x.coroutine) vs ws
  envs = subst (λ (h : List Home). AreSlotEnvs h rt vs ws) (sym new.1.anew.homes) (renewed_stand l.homes rt vs (kept kf
      other) made.top.values idem kept_envs made_anew)

  -- the address of a new slot
  address_is : (a c : ℕ) → IsTrue (g.flags x.coroutine a) → value_in made.top.values a ≡ pointer_to c
      → value_in ws a ≡ pointer_to c
  address_is a c flagged at = root_value rt made.top.values a c (root_of a flagged) at

  kept_address : (a d : ℕ) → IsTrue (g.flags x.coroutine a) → block_of (value_in vs a) ≡ Some d
      → value_in vs a ≡ pointer_to d
  kept_address a d flagged at = ⊎_elim
      (λ poison. let c : None ≡ Some d = ap block_of (sym poison) ∙ at in absurd (cc))
      (λ ad. same_start (value_in vs a) ad.block d ad.root_is at)
      (kept_envs.rooted a a (root_of a flagged))

  flagged_of : (a c : ℕ) → Made a c → IsTrue (g.flags x.coroutine a)
  flagged_of a c h = subst (λ v. IsTrue (fl v)) h.name (each_next fl f 0 xs next h.slot h.among).flagged

  own : (slot : Slot) → Contains made.top.slots slot → IsOwn k (g.flags x.coroutine) depth vs ws slot
  own slot is = ⊎_elim
      (λ none. absurd (no_slot slot none))
      (λ h.
      let flagged = flagged_of slot.alloca slot.block h in
      record {
        flagged = flagged;
        owner = h.owner;
        address = address_is slot.alloca slot.block flagged h.value;
        tenant = λ d at. kept_address slot.alloca d flagged (sym h.tenant_is ∙ at);
      })
      (new.1.each slot is)
    where
      no_slot : (slot : Slot) → Contains [] slot → ⊥
      no_slot slot (i, lt, e) = absurd (omega arith)

  others : AreOthers k (function_at g.given.code x.coroutine) (g.flags x.coroutine) (g.roots x.coroutine) vs ws
  others v is = on (kf v) refl
    where
      theirs_is : value_in ws v ≡ value_in (kept kf other) v
      theirs_is = plain_value rt made.top.values made.top.values v is.no_part ∙ elsewhere v (λ on. false≢true (sym is.off
          ∙ on))

      on : (t : Bool) → kf v ≡ t → IsOtherValue k (value_in vs v) (value_in ws v)
      on true e =
          let old = kp.others v is in
          record {
            unseated = λ d at. ap (λ (z : ℕ → Option Seat). z d) new.1.anew.seats ∙ old.unseated d (ap block_of (sym (kept_at kf env
                v e)) ∙ at);
            nowhere = λ none. ap block_of (theirs_is ∙ kept_at kf other v e) ∙ old.nowhere (ap block_of (sym (kept_at kf
                env v e)) ∙ none);
          }
      on false e = record {
        unseated = λ d at. let c : None ≡ Some d = ap block_of (sym (cut_at kf env v e)) ∙ at in absurd (cc);
        nowhere = λ none. ap block_of (theirs_is ∙ cut_at kf other v e);
      }

  -- ---- the place

  module _ (switch : BranchesTo label (fetch (function_at g.given.code x.coroutine) su.block (su.at + 1)))
      (is_own : IsTrue (has_point (own_edges (function_at g.given.code x.coroutine) su) (entry_point (function_at
      g.given.code x.coroutine) label))) (ys : List Instance) (there : slice_get ys n ≡ Some (record x {
        status = Status.Running;
      })) where
    abbrev q : Point
    q = entry_point (function_at g.given.code x.coroutine) label

    to_switch : has_point (nexts (function_at g.given.code x.coroutine) su) (behind su) ≡ true
    to_switch = next_edge f su.block su.at kp.is_call.instr kp.is_call.stands

    to_label : has_point (nexts (function_at g.given.code x.coroutine) (behind su)) q ≡ true
    to_label = (branch_edge f su.block (su.at + 1) label switch).edge

    term : (t : Terminator) × (fetch (function_at g.given.code x.coroutine) su.block (su.at + 1) ≡ AtTerm t)
    term = term_there label (fetch f su.block (su.at + 1)) switch

    passed : (al : ℕ) → IsPassed (function_at g.given.code x.coroutine) al q
    passed al i ty align at is = absurd (keeps.entry su.block (su.at + 1) label switch is)

    runs : RunsOut (function_at g.given.code x.coroutine) q
    runs = record {
      start = kp.runs_out.start;
      is_start = kp.runs_out.is_start;
      path = leads_more f (ends f) kp.runs_out.start (behind su) q (leads_more f (ends f) kp.runs_out.start su (behind su)
          kp.runs_out.path (no_end_point f su (λ c. absurd (false≢true (sym (suspend_no_close kp.is_call.instr
          kp.is_call.is) ∙ same_call c)))) to_switch) (no_end_point f (behind su) (no_call_term f (behind su) term.0
          Intrinsic.CoroEnd term.1)) to_label;
    }
      where
        same_call : IsCallAt Intrinsic.CoroEnd f su → is_call_of Intrinsic.CoroEnd kp.is_call.instr ≡ true
        same_call c =
            let e : AtInstr c.instr ≡ AtInstr kp.is_call.instr = sym c.stands ∙ kp.is_call.stands in
            ap (is_call_of Intrinsic.CoroEnd) (sym (same c.instr kp.is_call.instr e)) ∙ c.is
          where
            same : (i j : Instr) → AtInstr i ≡ AtInstr j → i ≡ j
            same i j e = cc

    alive : (al : ℕ) → MayBeAlive (function_at g.given.code x.coroutine) al su
        → MayBeAlive (function_at g.given.code x.coroutine) al q
    alive al h = alive_more f al (behind su) q to_label (no_end_term f al (behind su) term.0 term.1) (alive_more f al su
        (behind su) to_switch (unended f su kp.is_call.instr kp.is_call.stands (suspend_no_end kp.is_call.instr
        kp.is_call.is) al) h)

    -- ---- one slot

    fresh_now : (d : ℕ) → IsFresh l memory d → IsFresh k memory d
    fresh_now d h = (new.1.anew.kept d).fresh h

    ready : (al d c : ℕ) (h : Made al c) (ramp : ℕ) → l.seats d ≡ Some (record {
      func = x.coroutine;
      alloca = al;
      depth = ramp;
      instance = Some n;
    }) → (z : MemoryBlock) → slice_get memory d ≡ Some z → IsReady made.world.memory c z
    ready al d c h ramp seat z at = record {
      block = y;
      there = h.there;
      live = refl;
      owner = refl;
      whole = length-replicate (size_of m h.slot.ty) Byte.Undefined;
      room = at_most z.size (size_of m shape.ty) (size_of m h.slot.ty) shape.has_size (ap (size_of m) same.0);
      small = subst (λ s. size_of m s < 2 ^ 64) same.0 shape.small;
      align = sym same.1 ∙ sym shape.has_align;
      writable = alloca_writable f.coroutine;
    }
      where
        y : MemoryBlock
        y = blank_block (size_of m h.slot.ty) h.slot.align (alloca_kind f)

        shape : IsOfAlloca m f al z
        shape = entered.shapes d _ z seat at

        entry : IsEntrySlot fl f 0 h.slot
        entry = each_next fl f 0 xs next h.slot h.among

        same : (shape.ty ≡ h.slot.ty) × (shape.align ≡ h.slot.align)
        same =
            let made = keeps.made al (subst (λ v. IsTrue (fl v)) h.name entry.flagged) in
            let one = made.alone shape.place.block shape.place.at (ap given_at shape.stands) in
            let two = made.alone 0 h.slot.at (ap given_at entry.stands ∙ ap Some h.name) in
            both (sym shape.stands ∙ (λ i. fetch f (one.0 i) (one.1 i)) ∙ (λ i. fetch f 0 (sym two.1 i)) ∙ entry.stands)
          where
            both : {a c : ℕ} {s t : Ty} {i j : ℕ} → AtInstr (Instr.Alloca a s i) ≡ AtInstr (Instr.Alloca c t j)
                → (s ≡ t) × (i ≡ j)
            both e = (cc, cc)

        at_most : (a b c : ℕ) → a ≡ b → b ≡ c → a ≤ c
        at_most a b c p q = omega arith

    abbrev top : Activation
    top = record (resumed n x su vs) { block = position_of f label; at = 0 }

    slot_of : (al d c : ℕ) → IsTrue (g.flags x.coroutine al) → value_in vs al ≡ pointer_to d
        → value_in ws al ≡ pointer_to c
        → IsSlotBeside m k ys memory made.world.memory depth top al d c
    slot_of al d c flagged at at' = on (kf al) refl
      where
        new_one : (e : ℕ) × Made al e
        new_one = made_of al flagged

        same_block : new_one.0 ≡ c
        same_block = same_number (sym (address_is al new_one.0 flagged new_one.1.value) ∙ at')

        h : Made al c
        h = subst (Made al) same_block new_one.1

        on : (t : Bool) → kf al ≡ t → IsSlotBeside m k ys memory made.world.memory depth top al d c
        on false e = let z : Value.Poison ≡ pointer_to d = sym (cut_at kf env al e) ∙ at in absurd (cc)
        on true e =
            let ks : IsKeptSlot m l memory x su al d = kp.each al d flagged (sym (kept_at kf env al e) ∙ at) in
            let seated = seated_in l _ _ fl x.slots theirs listed (record { alloca = al; block = d }) flagged ks.slot in
            let kept_d = new.1.anew.kept d in
            record {
              slot = Begun n (record x { status = Status.Running }) refl there ks.slot;
              passed = passed al;
              ramp = seated.depth;
              seat = ap (λ (z : ℕ → Option Seat). z d) new.1.anew.seats ∙ seated.seat;
              depth_is = λ is. absurd (is refl);
              owner = h.owner;
              tenant = h.tenant_is ∙ ap block_of at;
              ready = λ z there'. ready al d c h seated.depth seated.seat z there';
              first = λ is. absurd (is refl);
              resumed = λ is goes. ⊎_elim
                  (λ fresh. inl (inl (fresh_now d fresh)))
                  (λ used. ⊎_elim
                  (λ before. inr (inl (barred_first f al su q is_suspend is_own (inl before))))
                  (λ away. inr (inr away.away))
                  used)
                  ks.told;
              told_first = λ is. absurd (is refl);
              told = λ is goes. ⊎_elim
                  (λ fresh. inl (fresh_now d fresh))
                  (λ used. ⊎_elim
                  (λ before. inr (⊎_elim
                  (λ now. inl now)
                  (λ away. inr (record {
                    away = away;
                    unseen = λ live. ap (λ (z : Home). z.is_seen) kept_d.home ∙ ks.gone live;
                  }))
                  (barred_used f al keeps.suspends.switched q (barred_first f al su q is_suspend is_own (inl before)))))
                  (λ away. inr (inr (record {
                    away = away.away;
                    unseen = λ live. ap (λ (z : Home). z.is_seen) kept_d.home ∙ ks.gone live;
                  })))
                  used)
                  ks.told;
              alive = λ goes live. inr (alive al (ks.alive live));
              gone = λ left. absurd (false≢true left);
              away = λ is. absurd (is refl);
            }

    -- ---- the activation

    pub resumed_beside : IsActivationBeside g.given.code g.flags g.roots k ys memory made.world.memory depth (record
        (resumed n x su vs) { block = position_of (function_at g.given.code x.coroutine) label; at = 0 }) (record
        (resumed n x su ws) {
          block = position_of (function_at g.given.code x.coroutine) label;
          at = 0;
          slots = made.top.slots;
        })
    resumed_beside = record {
      values = ws;
      slots = made.top.slots;
      is = refl;
      envs = envs;
      listed = all_second k (IsEarly k fl x.coroutine depth) (IsOwn k fl depth vs ws) fl made.top.slots own;
      others = others;
      each = λ al d c flagged at at'. slot_of al d c flagged at at';
      made = λ slot is flagged. passed slot.alloca;
      modes = inr (inr refl);
      came = λ is. resumed_first f su q is_suspend is_own;
      begun = λ some. inl runs;
      begins = λ is none. let z : Some n ≡ None = none in absurd (cc);
      departs = λ left. absurd (false≢true left);
      left = λ left. absurd (false≢true left);
    }
