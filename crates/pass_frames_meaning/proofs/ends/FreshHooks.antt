-- The hooks of a run that makes slots anew wake instances that aren't freed.
use Rattle.std.proofs.Common.{◌≡◌, ⊎_elim, ℕ, zero, suc, Bool, true, false, List, [], ◌∷◌, ◌++◌, length, Option, Some, None, Result, Ok, Err, refl, sym, ap, ◌∙◌, subst, if◌then◌else◌, ◌&&◌}
use Rattle.std.specs.Prelude.{is_none, not, slice_get}
use Rattle.std.proofs.lemmas.Bool.{false≢true}
use Rattle.pass_frames_proof.specs.ir_base.declared.cause.Cause.{Cause}
use Rattle.pass_frames_proof.specs.ir_base.declared.outcome.Word.{Word}
use Rattle.pass_frames_proof.specs.ir_model.Names.{function_at}
use Rattle.pass_frames_proof.specs.ir_paths.declared.point.Point.{Point}
use Rattle.pass_frames_meaning.proofs.ends.Fresh.{get_unfreed, push_unfreed, set_unfreed, step_fresh}
use Rattle.pass_frames_meaning.specs.Called.{IsCalledState}
use Rattle.pass_frames_meaning.specs.Fresh.{AreBareBlocks, AreUnfreed, IsFreshState, IsPlacedSlot, IsSameTop, KeepsFresh, LeadsToNone, is_entering}
use Rattle.pass_frames_proof.specs.Related.{is_first}
use Rattle.pass_frames_proof.specs.pass_kept_proof.Kept.{kept}
use Rattle.pass_frames_proof.specs.pass_renewed_proof.Renewed.{RenewedGiven, is_idle, renew_after, renewed_from, renewed_slot, with_life}
use Rattle.pass_renewed_meaning.proofs.run_hooks.Reached.{get_last, own_is}
use Rattle.pass_renewed_meaning.specs.run_hooks.Away.{IsPlacedState}
use Rattle.pass_renewed_meaning.specs.run_hooks.Hooks.{hooked_state_at, step_of}
use Rattle.pass_renewed_meaning.specs.run_hooks.Meanings.{renewed_hooks}
use Rattle.pass_renewed_meaning.specs.run_hooks.Reached.{IsAnInstr}
use Rattle.pass_frames_proof.specs.run_memory.Memory.{killed, own, start}
use Rattle.pass_frames_proof.specs.run_memory.declared.block.Kind.{Kind}
use Rattle.pass_frames_proof.specs.run_memory.declared.block.MemoryBlock.{MemoryBlock}
use Rattle.pass_frames_proof.specs.run_memory.declared.pointer.Value.{Value}
use Rattle.pass_frames_proof.specs.run_source.Source.{begin, begin_at, begun, change_own, finish, first_state, is_among, is_over, kill_late, new_instance, new_slot, push, resumed, with_new_slots}
use Rattle.pass_frames_proof.specs.run_source.State.{function_of, gives, own_facts, own_frame, own_instance, with_memory, with_slots, with_status}
use Rattle.pass_frames_proof.specs.run_source.declared.state.Activation.{Activation}
use Rattle.pass_frames_proof.specs.run_source.declared.state.Instance.{Instance}
use Rattle.pass_frames_proof.specs.run_source.declared.state.Mode.{Mode}
use Rattle.pass_frames_proof.specs.run_source.declared.state.State.{State}
use Rattle.pass_frames_proof.specs.run_source.declared.state.Status.{Status}
use Rattle.pass_frames_proof.specs.run_source_tables.Given.{Given}
use Rattle.pass_frames_proof.specs.run_step.Results.{and_then, found, ok_if}
use Rattle.pass_frames_proof.specs.run_step.Runs.{iterate}
use Rattle.pass_frames_proof.specs.run_step.Step.{AtInstr, AtTerm, Fetched, Nowhere, block_of}
use Rattle.pass_frames_proof.specs.run_step.declared.world.Slot.{Slot}

-- ---- slots

-- slots more leave statuses as they are
slots_asleep : (s : State) (ramp : List ℕ) (slots : List Slot) (o : Option (ℕ × Instance))
    → ((i : ℕ) (x : Instance) → o ≡ Some (i, x) → slice_get s.instances i ≡ Some x) → AreUnfreed s.instances
    → AreUnfreed (with_new_slots ramp o s slots).instances
slots_asleep s ramp slots None is k = k
slots_asleep s ramp slots (Some p) is k =
    set_unfreed s.instances p.0 _ (get_unfreed s.instances p.0 p.1 (is p.0 p.1 refl) k) k

slots_top : (s : State) (ramp : List ℕ) (slots : List Slot) (o : Option (ℕ × Instance))
    → IsSameTop s (with_new_slots ramp o s slots)
slots_top s ramp slots None = record { func = refl; block = refl; mode = refl }
slots_top s ramp slots (Some p) = record { func = refl; block = refl; mode = refl }

late_same : (s : State) (ramp : List ℕ) (o : Option (ℕ × Instance)) (slot : Slot)
    → ((kill_late ramp o s slot).instances ≡ s.instances) × ((kill_late ramp o s slot).top ≡ s.top)
late_same s ramp None slot = (refl, refl)
late_same s ramp (Some p) slot = on (is_over p.1 && not (is_among ramp slot))
  where
    on : (b : Bool)
        → ((if b then with_memory s (killed s.world.memory slot.block) else s).instances ≡ s.instances)
        × ((if b then with_memory s (killed s.world.memory slot.block) else s).top ≡ s.top)
    on true = (refl, refl)
    on false = (refl, refl)

then_top : (s t u : State) → t.top ≡ s.top → IsSameTop t u → IsSameTop s u
then_top s t u e h = record {
  func = h.func ∙ ap (λ (a : Activation). a.func) e;
  block = h.block ∙ ap (λ (a : Activation). a.block) e;
  mode = h.mode ∙ ap (λ (a : Activation). a.mode) e;
}

module _ (g : Given) (s : State) (slot : Slot) where
  abbrev ramp : List ℕ
  ramp = (own_facts g s).ramp_slots

  abbrev late : State
  late = kill_late ramp (own_instance s) s slot

  new_asleep : AreUnfreed s.instances → AreUnfreed (new_slot g s slot).instances
  new_asleep k =
      let e = (late_same s ramp (own_instance s) slot).0 in
      slots_asleep late ramp (slot ∷ []) (own_instance s)
      (λ i x d. ap (λ (xs : List Instance). slice_get xs i) e ∙ own_is s i x d)
      (subst AreUnfreed (sym e) k)

  new_top : IsSameTop s (new_slot g s slot)
  new_top = then_top s late (new_slot g s slot) (late_same s ramp (own_instance s) slot).1
      (slots_top late ramp (slot ∷ []) (own_instance s))

-- ---- begin and end

abbrev Begins : State → State → Type 0
Begins s t = (AreUnfreed s.instances → AreUnfreed t.instances) × IsSameTop s t

abbrev BeginsIn : State → Result State Cause → Type 0
BeginsIn s (Err cause) = Unit {0}
BeginsIn s (Ok t) = Begins s t

begins_by : (s : State) (r : Result State Cause) (t : State) → BeginsIn s r → r ≡ Ok t → Begins s t
begins_by s (Err cause) t b e = absurd (cc)
begins_by s (Ok u) t b e = let k : u ≡ t = cc in subst (Begins s) k b

begun_on : (g : Given) (s : State) (memory : List MemoryBlock) (b from : ℕ) (result : Option ℕ) (v : Value)
    → Begins s (gives (begun g (with_memory s memory) b from) result v)
begun_on g s memory b from result v = (
  λ k.
      let x : Instance = new_instance s.top.func b from in
      let xs : List Instance = s.instances ++ x ∷ [] in
      let more : AreUnfreed xs = push_unfreed s.instances x (λ e. absurd (false≢true e)) k in
      set_unfreed xs (length s.instances) _ (get_unfreed xs (length s.instances) x (get_last s.instances x) more) more,
  record { func = refl; block = refl; mode = refl },
)

begin_at_on : (g : Given) (s : State) (result : Option ℕ) (p v : Value) (kind : Kind)
    → BeginsIn s (and_then (begin_at g s p kind) (λ t. Ok (gives t result v)))
begin_at_on g s result p v kind = by (own s.world.memory p (own_frame g s).size kind)
  where
    last : (memory : List MemoryBlock) (o : Option ℕ)
        → BeginsIn s (and_then (and_then (found Cause.Begin o) (λ b. Ok (begun g (with_memory s memory) b 0)))
        (λ t. Ok (gives t result v)))
    last memory None = tt
    last memory (Some b) = begun_on g s memory b 0 result v

    by : (r : Result (List MemoryBlock) Cause)
        → BeginsIn s (and_then (and_then r (λ memory. and_then (found Cause.Begin (block_of p)) (λ b.
        Ok (begun g (with_memory s memory) b 0)))) (λ t. Ok (gives t result v)))
    by (Err cause) = tt
    by (Ok memory) = last memory (block_of p)

begin_on : (g : Given) (s : State) (result : Option ℕ) (p : Value) → BeginsIn s (begin g s result p)
begin_on g s result p = on (is_none s.top.instance)
  where
    on : (b : Bool) → BeginsIn s (and_then (ok_if b Cause.Begin s)
        (λ u. and_then (begin_at g u p Kind.Allocator) (λ t. Ok (gives t result p))))
    on true = begin_at_on g s result p p Kind.Allocator
    on false = tt

finish_on : (s : State) → (AreUnfreed s.instances → AreUnfreed (finish s).instances) × ((finish s).top ≡ s.top)
    × ((finish s).below ≡ s.below)
finish_on s = by (own_instance s)
  where
    by : (o : Option (ℕ × Instance))
        → (AreUnfreed s.instances
        → AreUnfreed (change_own s (λ x. record x { status = Status.Finished }) o).instances)
        × ((change_own s (λ x. record x { status = Status.Finished }) o).top ≡ s.top)
        × ((change_own s (λ x. record x { status = Status.Finished }) o).below ≡ s.below)
    by None = (λ k. k, refl, refl)
    by (Some p) = (λ k. set_unfreed s.instances p.0 _ (λ e. absurd (false≢true e)) k, refl, refl)

-- ---- entry of a label, after allocas

record IsGoingOn (s t : State) : Type 0 where
  instances : t.instances ≡ s.instances
  own : t.top.instance ≡ s.top.instance
  not_first : is_first t.top.mode ≡ false

renews : (g : RenewedGiven) (s : State) (from label : ℕ) (o : Option Point) → IsGoingOn s (renew_after g s from label o)
renews g s from label (Some p) = record { instances = refl; own = refl; not_first = refl }
renews g s from label None = record { instances = refl; own = refl; not_first = refl }

life_same : (g : RenewedGiven) (s : State) (slot : Slot) → ((with_life g s slot).instances ≡ s.instances)
    × ((with_life g s slot).top ≡ s.top)
life_same g s slot = on (g.flags s.top.func slot.alloca)
  where
    on : (b : Bool) → ((if b then with_memory s (start s.world.memory slot.block) else s).instances ≡ s.instances)
        × ((if b then with_memory s (start s.world.memory slot.block) else s).top ≡ s.top)
    on true = (refl, refl)
    on false = (refl, refl)

module _ (g : RenewedGiven) (s : State) (slot : Slot) where
  calmly : is_entering s.top.mode ≡ false → IsPlacedSlot s (new_slot g.given s slot)
  calmly c = record {
    asleep = new_asleep g.given s slot;
    calm = λ z. new_top g.given s slot;
    goes = λ z. absurd (false≢true (sym c ∙ z));
  }

  placed_by : (mode : Mode) → s.top.mode ≡ mode → IsPlacedSlot s (renewed_slot g s slot mode)
  placed_by (Mode.Entering from label) e =
      let a = renews g (with_slots s (slot ∷ s.top.slots)) from label
      (renewed_from (g.flags s.top.func) (function_of g.given s) s.top.at) in
      record {
        asleep = λ k. subst AreUnfreed (sym a.instances) k;
        calm = λ c. absurd (false≢true (sym c ∙ ap is_entering e));
        goes = λ c. (a.instances, a.own, a.not_first);
      }
  placed_by Mode.Plain e = calmly (ap is_entering e)
  placed_by Mode.Ramp e = calmly (ap is_entering e)
  placed_by Mode.Resumed e = calmly (ap is_entering e)
  placed_by (Mode.GivenRamp frame) e = calmly (ap is_entering e)

-- after a change of memory alone
then_placed : (s t u : State) → t.instances ≡ s.instances → t.top ≡ s.top → IsPlacedSlot t u → IsPlacedSlot s u
then_placed s t u xs e h = record {
  asleep = λ k. h.asleep (subst AreUnfreed (sym xs) k);
  calm = λ c. then_top s t u e (h.calm (ap (λ (a : Activation). is_entering a.mode) e ∙ c));
  goes = λ c.
      let z = h.goes (ap (λ (a : Activation). is_entering a.mode) e ∙ c) in
      (z.0 ∙ xs, z.1 ∙ ap (λ (a : Activation). a.instance) e, z.2);
}

idle_instr : (flags : ℕ → Bool) (x : Fetched) → is_idle flags x ≡ true → IsAnInstr x
idle_instr flags (AtInstr i) e = (i, refl)
idle_instr flags (AtTerm t) e = absurd (false≢true e)
idle_instr flags Nowhere e = absurd (false≢true e)

pub renewed_keeps_fresh : (g : RenewedGiven) → KeepsFresh (renewed_hooks g)
renewed_keeps_fresh g = record {
  go_on = λ s i x at vs label.
      let t : State = push (with_status s i x Status.Running) (resumed i x at (kept (g.keep x.coroutine at) vs)) in
      let a = renews g t at.block label (renewed_from (g.flags x.coroutine) (function_at g.given.code x.coroutine) 0) in
      record { instances = a.instances; own = a.own; not_first = a.not_first };
  place = λ s slot.
      let l = life_same g s slot in
      then_placed s (with_life g s slot) (renewed_slot g (with_life g s slot) slot s.top.mode) l.0 l.1
      (placed_by g (with_life g s slot) slot s.top.mode (λ i. (l.1 i).mode));
  start = λ s result memory t e. begins_by s (begin g.given s result memory) t (begin_on g.given s result memory) e;
  close = finish_on;
  ungiven = λ s block at. refl;
  idle = λ s x e. idle_instr (g.flags s.top.func) x e;
}

-- ---- runs

module _ (g : RenewedGiven) (edges : ℕ → ℕ → Bool) (bare : AreBareBlocks g.given.code edges) (entry : ℕ)
    (args : List Word)
    (called : (n : ℕ) → IsCalledState g.given.code (hooked_state_at (renewed_hooks g) entry args n))
    (placed : (n : ℕ) → IsPlacedState (renewed_hooks g) (hooked_state_at (renewed_hooks g) entry args n))
    (leads : (n : ℕ) → LeadsToNone (renewed_hooks g) edges (hooked_state_at (renewed_hooks g) entry args n)) where
  -- the states of a run, one step after the other
  one_more : (n : ℕ) (s : State)
      → iterate (step_of (renewed_hooks g)) (suc n) s
      ≡ step_of (renewed_hooks g) (iterate (step_of (renewed_hooks g)) n s)
  one_more zero s = refl
  one_more (suc n) s = one_more n (step_of (renewed_hooks g) s)

  pub states_fresh : (n : ℕ) → IsFreshState edges (hooked_state_at (renewed_hooks g) entry args n)
  states_fresh zero = record {
    asleep = tt;
    fresh = λ f. absurd (⊎_elim
        (λ z. false≢true (sym (bare.later entry) ∙ z)) (λ z. false≢true z) f);
  }
  states_fresh (suc n) = subst (IsFreshState edges) (sym (one_more n (first_state g.given.code entry args)))
      (step_fresh (renewed_hooks g) edges (renewed_keeps_fresh g) bare (hooked_state_at (renewed_hooks g) entry args n)
      (states_fresh n) (called n) (placed n) (leads n))
