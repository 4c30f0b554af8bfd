-- The hooks of a run that makes slots anew leave coroutines' activations on others.
use Rattle.std.proofs.Common.{◌≡◌, ℕ, zero, suc, Bool, true, false, List, [], ◌∷◌, length, Option, Some, None, Result, Ok, Err, refl, sym, ◌∙◌, subst, if◌then◌else◌, ◌&&◌}
use Rattle.std.specs.Prelude.{is_none, not}
use Rattle.std.proofs.lemmas.Bool.{false≢true}
use Rattle.pass_frames_proof.specs.ir_base.declared.cause.Cause.{Cause}
use Rattle.pass_frames_proof.specs.ir_base.declared.outcome.Word.{Word}
use Rattle.pass_frames_proof.specs.ir_model.Names.{function_at}
use Rattle.pass_frames_proof.specs.ir_model.declared.instr.Instr.{Instr}
use Rattle.pass_frames_proof.specs.ir_model.declared.operand.Callee.{Callee}
use Rattle.pass_frames_proof.specs.ir_model.declared.operand.Intrinsic.{Intrinsic}
use Rattle.pass_frames_proof.specs.ir_paths.declared.point.Point.{Point}
use Rattle.pass_frames_meaning.proofs.ends.Based.{step_based}
use Rattle.pass_frames_meaning.specs.Based.{AreBegunOnce, IsBasedState, IsNoBegin, IsOnPlace, IsOwnMode, KeepsBased}
use Rattle.pass_frames_meaning.specs.Called.{FitsMode, IsCalledState}
use Rattle.pass_frames_meaning.specs.Led.{IsBegin}
use Rattle.pass_frames_proof.specs.pass_kept_proof.Kept.{kept}
use Rattle.pass_frames_proof.specs.pass_renewed_proof.Renewed.{RenewedGiven, is_idle, renew_after, renewed_from, renewed_slot, with_life}
use Rattle.pass_renewed_meaning.specs.run_hooks.Hooks.{hooked_state_at, step_of}
use Rattle.pass_renewed_meaning.specs.run_hooks.Meanings.{renewed_hooks}
use Rattle.pass_frames_proof.specs.run_memory.Memory.{killed, own, start}
use Rattle.pass_frames_proof.specs.run_memory.declared.block.Kind.{Kind}
use Rattle.pass_frames_proof.specs.run_memory.declared.block.MemoryBlock.{MemoryBlock}
use Rattle.pass_frames_proof.specs.run_memory.declared.pointer.Value.{Value}
use Rattle.pass_frames_proof.specs.run_source.Source.{begin, begin_at, begun, change_own, finish, first_state, is_among, is_over, kill_late, new_slot, push, resumed, slots_of, with_new_slots}
use Rattle.pass_frames_proof.specs.run_source.State.{function_of, gives, own_facts, own_frame, own_instance, with_memory, with_slots, with_status}
use Rattle.pass_frames_proof.specs.run_source.declared.state.Instance.{Instance}
use Rattle.pass_frames_proof.specs.run_source.declared.state.Mode.{Mode}
use Rattle.pass_frames_proof.specs.run_source.declared.state.State.{State}
use Rattle.pass_frames_proof.specs.run_source.declared.state.Status.{Status}
use Rattle.pass_frames_proof.specs.run_source_tables.Given.{Given}
use Rattle.pass_frames_proof.specs.run_step.Results.{and_then, found, ok_if}
use Rattle.pass_frames_proof.specs.run_step.Runs.{iterate}
use Rattle.pass_frames_proof.specs.run_step.Step.{AtInstr, AtTerm, Fetched, Nowhere, block_of, without_slots}
use Rattle.pass_frames_proof.specs.run_step.declared.world.Slot.{Slot}

itself : (s : State) → IsOnPlace s s
itself s = record { func = refl; below = refl; mode = λ h. h; place = λ none. (none, refl) }

then_on : (s t u : State) → IsOnPlace s t → IsOnPlace t u → IsOnPlace s u
then_on s t u a b = record {
  func = b.func ∙ a.func;
  below = b.below ∙ a.below;
  mode = λ h. b.mode (a.mode h);
  place = λ none. ((a.place (b.place none).0).0, (b.place none).1 ∙ (a.place (b.place none).0).1);
}

-- ---- slots and begin

new_slot_on : (g : Given) (s : State) (slot : Slot) → IsOnPlace s (new_slot g s slot)
new_slot_on g s slot = by (own_instance s)
  where
    ramp : List ℕ
    ramp = (own_facts g s).ramp_slots

    by : (o : Option (ℕ × Instance)) → IsOnPlace s (with_new_slots ramp o (kill_late ramp o s slot) (slot ∷ []))
    by None = record { func = refl; below = refl; mode = λ h. h; place = λ none. (none, refl) }
    by (Some p) = on (is_over p.1 && not (is_among ramp slot))
      where
        on : (b : Bool) → IsOnPlace s (with_new_slots ramp (Some p)
            (if b then with_memory s (killed s.world.memory slot.block) else s) (slot ∷ []))
        on true = record { func = refl; below = refl; mode = λ h. h; place = λ none. (none, refl) }
        on false = record { func = refl; below = refl; mode = λ h. h; place = λ none. (none, refl) }

-- of the same function there is an activation of an instance
abbrev Begins : State → State → Type 0
Begins s t = IsOnPlace s t × (t.top.instance ≡ None → ⊥)

abbrev BeginsIn : State → Result State Cause → Type 0
BeginsIn s (Err cause) = Unit {0}
BeginsIn s (Ok t) = Begins s t

begins_by : (s : State) (r : Result State Cause) (t : State) → BeginsIn s r → r ≡ Ok t → Begins s t
begins_by s (Err cause) t b e = absurd (cc)
begins_by s (Ok u) t b e = let k : u ≡ t = cc in subst (Begins s) k b

none_some : (i : ℕ) (o : Option ℕ) → Some i ≡ o → o ≡ None → ⊥
none_some i o e none = cc

begun_on : (g : Given) (s : State) (memory : List MemoryBlock) (b from : ℕ) (result : Option ℕ) (v : Value)
    → Begins s (gives (begun g (with_memory s memory) b from) result v)
begun_on g s memory b from result v = (
  record {
    func = refl;
    below = refl;
    mode = λ h. h;
    place = λ none. absurd (none_some (length s.instances) (Some (length s.instances)) refl none);
  },
  λ none. none_some (length s.instances) (Some (length s.instances)) refl none,
)

begin_at_on : (g : Given) (s : State) (result : Option ℕ) (p v : Value) (kind : Kind)
    → BeginsIn s (and_then (begin_at g s p kind) (λ t. Ok (gives t result v)))
begin_at_on g s result p v kind = by (own s.world.memory p (own_frame g s).size kind)
  where
    last : (memory : List MemoryBlock) (o : Option ℕ)
        → BeginsIn s (and_then (and_then (found Cause.Begin o) (λ b. Ok (begun g (with_memory s memory) b 0)))
        (λ t. Ok (gives t result v)))
    last memory None = tt
    last memory (Some b) = begun_on g s memory b 0 result v

    by : (r : Result (List MemoryBlock) Cause)
        → BeginsIn s (and_then (and_then r (λ memory. and_then (found Cause.Begin (block_of p)) (λ b.
        Ok (begun g (with_memory s memory) b 0)))) (λ t. Ok (gives t result v)))
    by (Err cause) = tt
    by (Ok memory) = last memory (block_of p)

begin_on : (g : Given) (s : State) (result : Option ℕ) (p : Value) → BeginsIn s (begin g s result p)
begin_on g s result p = on (is_none s.top.instance)
  where
    on : (b : Bool) → BeginsIn s (and_then (ok_if b Cause.Begin s)
        (λ u. and_then (begin_at g u p Kind.Allocator) (λ t. Ok (gives t result p))))
    on true = begin_at_on g s result p p Kind.Allocator
    on false = tt

finish_on : (s : State) → IsOnPlace s (finish s)
finish_on s = by (own_instance s)
  where
    by : (o : Option (ℕ × Instance)) → IsOnPlace s (with_memory
        (change_own s (λ x. record x { status = Status.Finished }) o)
        (without_slots s.world.memory (slots_of (own_instance s))))
    by None = record { func = refl; below = refl; mode = λ h. h; place = λ none. (none, refl) }
    by (Some p) = record { func = refl; below = refl; mode = λ h. h; place = λ none. (none, refl) }

-- ---- entry of a label, after allocas

-- what goes on keeps its function and its instance
record IsGoingOn (s t : State) : Type 0 where
  func : t.top.func ≡ s.top.func
  below : t.below ≡ s.below
  mode : IsOwnMode s.top.mode → IsOwnMode t.top.mode
  instance : t.top.instance ≡ s.top.instance

renews : (g : RenewedGiven) (s : State) (from label : ℕ) (o : Option Point) → IsGoingOn s (renew_after g s from label o)
renews g s from label (Some p) = record { func = refl; below = refl; mode = λ h. tt; instance = refl }
renews g s from label None = record { func = refl; below = refl; mode = λ h. tt; instance = refl }

-- what makes allocas again has an instance
goes_on : (s t : State) → IsGoingOn s t → FitsMode s.top.instance s.top.mode → (from label : ℕ)
    → s.top.mode ≡ Mode.Entering from label → IsOnPlace s t
goes_on s t a fits from label e = record {
  func = a.func;
  below = a.below;
  mode = a.mode;
  place = λ none. absurd (owned (sym a.instance ∙ none) (subst (FitsMode s.top.instance) e fits));
}
  where
    owned : s.top.instance ≡ None → is_none s.top.instance ≡ false → ⊥
    owned none h = cc

-- ---- slots that are made anew

life_on : (g : RenewedGiven) (s : State) (slot : Slot) → IsOnPlace s (with_life g s slot)
    × ((with_life g s slot).top ≡ s.top)
life_on g s slot = on (g.flags s.top.func slot.alloca)
  where
    on : (b : Bool) → IsOnPlace s (if b then with_memory s (start s.world.memory slot.block) else s)
        × ((if b then with_memory s (start s.world.memory slot.block) else s).top ≡ s.top)
    on true = (record { func = refl; below = refl; mode = λ h. h; place = λ none. (none, refl) }, refl)
    on false = (itself s, refl)

renewed_place : (g : RenewedGiven) (s : State) (slot : Slot) → FitsMode s.top.instance s.top.mode → (mode : Mode)
    → s.top.mode ≡ mode → IsOnPlace s (renewed_slot g s slot mode)
renewed_place g s slot fits (Mode.Entering from label) e =
    let a = renews g (with_slots s (slot ∷ s.top.slots)) from label
    (renewed_from (g.flags s.top.func) (function_of g.given s) s.top.at) in
    goes_on s (renewed_slot g s slot (Mode.Entering from label))
    (record { func = a.func; below = a.below; mode = a.mode; instance = a.instance }) fits from label e
renewed_place g s slot fits Mode.Plain e = new_slot_on g.given s slot
renewed_place g s slot fits Mode.Ramp e = new_slot_on g.given s slot
renewed_place g s slot fits Mode.Resumed e = new_slot_on g.given s slot
renewed_place g s slot fits (Mode.GivenRamp frame) e = new_slot_on g.given s slot

-- what does nothing is a marker
idle_no_begin : (flags : ℕ → Bool) (x : Fetched) → is_idle flags x ≡ true → IsNoBegin x
idle_no_begin flags (AtInstr (Instr.Call result must_tail ty (Callee.Intrinsic Intrinsic.CoroBegin) args)) e =
    absurd (false≢true e)
idle_no_begin flags (AtInstr i) e = record { instr = i; stands = refl; other = on i e }
  where
    on : (i : Instr) → is_idle flags (AtInstr i) ≡ true → IsBegin i → ⊥
    on (Instr.Call result must_tail ty (Callee.Intrinsic Intrinsic.CoroBegin) args) e b = false≢true e
    on _ e b = b
idle_no_begin flags (AtTerm t) e = absurd (false≢true e)
idle_no_begin flags Nowhere e = absurd (false≢true e)

pub renewed_keeps_based : (g : RenewedGiven) → KeepsBased (renewed_hooks g)
renewed_keeps_based g = record {
  go_on = λ s i x at vs label.
      let t : State = push (with_status s i x Status.Running) (resumed i x at (kept (g.keep x.coroutine at) vs)) in
      let a = renews g t at.block label (renewed_from (g.flags x.coroutine) (function_at g.given.code x.coroutine) 0) in
      record { below = a.below; mode = a.mode tt; owned = λ none. none_some i _ (sym a.instance) none };
  place = λ s slot fits.
      let l = life_on g s slot in
      then_on s (with_life g s slot) (renewed_slot g (with_life g s slot) slot s.top.mode) l.0
      (renewed_place g (with_life g s slot) slot
      (subst (λ (a : Rattle.pass_frames_proof.specs.run_source.declared.state.Activation.Activation). FitsMode a.instance a.mode)
      (sym l.1) fits) s.top.mode (λ i. (l.1 i).mode));
  start = λ s result memory t e. begins_by s (begin g.given s result memory) t (begin_on g.given s result memory) e;
  close = finish_on;
  ungiven = λ s block at. refl;
  idle = λ s x e. idle_no_begin (g.flags s.top.func) x e;
}

-- ---- runs

module _ (g : RenewedGiven) (once : AreBegunOnce g.given.code) (entry : ℕ) (args : List Word)
    (plain : (function_at g.given.code entry).coroutine ≡ false)
    (called : (n : ℕ) → IsCalledState g.given.code (hooked_state_at (renewed_hooks g) entry args n)) where
  -- the states of a run, one step after the other
  one_more : (n : ℕ) (s : State)
      → iterate (step_of (renewed_hooks g)) (suc n) s
      ≡ step_of (renewed_hooks g) (iterate (step_of (renewed_hooks g)) n s)
  one_more zero s = refl
  one_more (suc n) s = one_more n (step_of (renewed_hooks g) s)

  pub states_based : (n : ℕ) → IsBasedState g.given.code (hooked_state_at (renewed_hooks g) entry args n)
  states_based zero = record {
    top = record {
      mode = λ c. absurd (false≢true (sym plain ∙ c));
      ahead = λ none v named.
          Rattle.pass_frames_proof.specs.pass_kept_proof.Crossing.first_without (once entry v named).no_param
          ((once entry v named).no_phi 0);
    };
    below = tt;
    last = plain;
  }
  states_based (suc n) = subst (IsBasedState g.given.code) (sym (one_more n (first_state g.given.code entry args)))
      (step_based (renewed_hooks g) (renewed_keeps_based g) once (hooked_state_at (renewed_hooks g) entry args n)
      (states_based n) (called n).mode)
