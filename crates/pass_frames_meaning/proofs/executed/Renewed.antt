-- The hooks of a run that makes slots anew place slots of executed allocas so.
use Rattle.std.proofs.Common.{◌≡◌, ◌⊎◌, inl, inr, ⊎_elim, ℕ, ◌+◌, Bool, true, false, List, [], ◌∷◌, ◌++◌, length}
use Rattle.std.proofs.Common.{Option, Some, None, Result, Ok, Err, refl, sym, ap, ◌∙◌, subst, if◌then◌else◌}
use Rattle.std.proofs.lemmas.Bool.{false≢true}
use Rattle.std.specs.Prelude.{filter, is_none, not, option_and_then, ◌&&◌}
use Rattle.pass_frames_proof.specs.flow_solver.Paths.{IsListed}
use Rattle.pass_frames_proof.specs.ir_base.declared.cause.Cause.{Cause}
use Rattle.pass_frames_proof.proofs.ir_laws.paths.source_rules.Locals.{listed_left, listed_right}
use Rattle.pass_frames_proof.specs.ir_model.Names.{function_at}
use Rattle.pass_frames_proof.specs.ir_model.declared.instr.Instr.{Instr}
use Rattle.pass_frames_proof.specs.ir_paths.declared.point.Point.{Point}
use Rattle.pass_frames_meaning.specs.Executed.{HasOwnSlot, HasRampSlots, IsFirstMode, KeepsExecuted}
use Rattle.pass_frames_proof.specs.pass_kept_proof.Kept.{kept}
use Rattle.pass_frames_proof.specs.pass_renewed_proof.Renewed.{RenewedGiven, is_idle, renew_after, renewed_from, renewed_slot, with_life}
use Rattle.pass_renewed_meaning.proofs.run_hooks.Keeping.{renewed_keeps}
use Rattle.pass_renewed_meaning.proofs.run_hooks.LeftKeeping.{renewed_keeps_last}
use Rattle.pass_renewed_meaning.specs.run_hooks.Meanings.{renewed_hooks}
use Rattle.pass_frames_proof.specs.run_memory.Memory.{killed, own, start}
use Rattle.pass_frames_proof.specs.run_memory.declared.block.Kind.{Kind}
use Rattle.pass_frames_proof.specs.run_memory.declared.block.MemoryBlock.{MemoryBlock}
use Rattle.pass_frames_proof.specs.run_memory.declared.pointer.Value.{Value}
use Rattle.pass_frames_proof.specs.run_source.Source.{begin, begin_at, begun, is_among, is_over, kill_late, new_slot, push, resumed}
use Rattle.pass_frames_proof.specs.run_source.Source.{with_new_slots}
use Rattle.pass_frames_proof.specs.run_source.State.{function_of, gives, numbered, own_facts, own_frame, own_instance, with_memory}
use Rattle.pass_frames_proof.specs.run_source.State.{with_slots, with_status}
use Rattle.pass_frames_proof.specs.run_source.declared.state.Activation.{Activation}
use Rattle.pass_frames_proof.specs.run_source.declared.state.Instance.{Instance}
use Rattle.pass_frames_proof.specs.run_source.declared.state.Mode.{Mode}
use Rattle.pass_frames_proof.specs.run_source.declared.state.State.{State}
use Rattle.pass_frames_proof.specs.run_source.declared.state.Status.{Status}
use Rattle.pass_frames_proof.specs.run_source_tables.Given.{Given, facts_at}
use Rattle.pass_frames_proof.specs.run_step.Effects.{is_alloca}
use Rattle.pass_frames_proof.specs.run_step.Results.{and_then, found, ok_if}
use Rattle.pass_frames_proof.specs.run_step.Step.{AtInstr, block_of}
use Rattle.pass_frames_proof.specs.run_step.declared.world.Slot.{Slot}

-- ---- lists

filtered : (test : Slot → Bool) (xs : List Slot) (z : Slot) → IsListed z xs → test z ≡ true
    → IsListed z (filter test xs)
filtered test [] z l e = absurd l
filtered test (x ∷ xs) z l e = on (test x) refl l (λ k. filtered test xs z k e)
  where
    on : (b : Bool) → test x ≡ b → IsListed z (x ∷ xs) → (IsListed z xs → IsListed z (filter test xs))
        → IsListed z (if b then x ∷ filter test xs else filter test xs)
    on true d (inl same) later = inl same
    on true d (inr k) later = inr (later k)
    on false d (inl same) later = absurd (false≢true (sym d ∙ ap test (sym same) ∙ e))
    on false d (inr k) later = later k

-- ---- slots

own_none : (s : State) (p : ℕ × Instance) → own_instance s ≡ Some p → s.top.instance ≡ None → ⊥
own_none s p e none =
    let both : None ≡ Some p = sym (ap (option_and_then (numbered s.instances)) none) ∙ e in absurd (cc)

pub new_slot_own : (g : Given) (s : State) (slot : Slot)
    → HasOwnSlot g slot s (new_slot g s slot) × ((new_slot g s slot).top.mode ≡ s.top.mode)
new_slot_own g s slot = by (own_instance s) refl
  where
    ramp : List ℕ
    ramp = (own_facts g s).ramp_slots

    by : (o : Option (ℕ × Instance)) → own_instance s ≡ o
        → HasOwnSlot g slot s (with_new_slots ramp o (kill_late ramp o s slot) (slot ∷ []))
        × ((with_new_slots ramp o (kill_late ramp o s slot) (slot ∷ [])).top.mode ≡ s.top.mode)
    by None e = (
      record {
        func = refl;
        block = refl;
        at = refl;
        values = refl;
        instance = refl;
        old = λ z l. inr l;
        new = λ h. inl refl;
      },
      refl,
    )
    by (Some p) e = on (is_over p.1 && not (is_among ramp slot))
      where
        new : (s.top.instance ≡ None) ⊎ (is_among ramp slot ≡ true)
            → IsListed slot (filter (is_among ramp) (slot ∷ []) ++ s.top.slots)
        new (inl none) = absurd (own_none s p e none)
        new (inr q) = listed_left slot (filter (is_among ramp) (slot ∷ [])) s.top.slots
            (filtered (is_among ramp) (slot ∷ []) slot (inl refl) q)

        on : (b : Bool) → HasOwnSlot g slot s (with_new_slots ramp (Some p)
            (if b then with_memory s (killed s.world.memory slot.block) else s) (slot ∷ []))
            × ((with_new_slots ramp (Some p)
            (if b then with_memory s (killed s.world.memory slot.block) else s) (slot ∷ [])).top.mode ≡ s.top.mode)
        on true = (
          record {
            func = refl;
            block = refl;
            at = refl;
            values = refl;
            instance = refl;
            old = λ z l. listed_right z (filter (is_among ramp) (slot ∷ [])) s.top.slots l;
            new = new;
          },
          refl,
        )
        on false = (
          record {
            func = refl;
            block = refl;
            at = refl;
            values = refl;
            instance = refl;
            old = λ z l. listed_right z (filter (is_among ramp) (slot ∷ [])) s.top.slots l;
            new = new;
          },
          refl,
        )

pub life_top : (g : RenewedGiven) (s : State) (slot : Slot) → (with_life g s slot).top ≡ s.top
life_top g s slot = on (g.flags s.top.func slot.alloca)
  where
    on : (b : Bool) → (if b then with_memory s (start s.world.memory slot.block) else s).top ≡ s.top
    on true = refl
    on false = refl

-- what goes on was resumed
renews_away : (g : RenewedGiven) (s : State) (from label : ℕ) (o : Option Point)
    → IsFirstMode (renew_after g s from label o).top.mode → ⊥
renews_away g s from label (Some p) h = h
renews_away g s from label None h = h

slot_mode : (g : RenewedGiven) (s : State) (slot : Slot) (mode : Mode) → s.top.mode ≡ mode
    → IsFirstMode (renewed_slot g s slot mode).top.mode → IsFirstMode mode
slot_mode g s slot (Mode.Entering from label) e h =
    renews_away g (with_slots s (slot ∷ s.top.slots)) from label
    (renewed_from (g.flags s.top.func) (function_of g.given s) s.top.at) h
slot_mode g s slot Mode.Plain e h = tt
slot_mode g s slot Mode.Ramp e h = tt
slot_mode g s slot Mode.Resumed e h = subst IsFirstMode ((new_slot_own g.given s slot).1 ∙ e) h
slot_mode g s slot (Mode.GivenRamp frame) e h = subst IsFirstMode ((new_slot_own g.given s slot).1 ∙ e) h

slot_own : (g : RenewedGiven) (s : State) (slot : Slot) (mode : Mode) → IsFirstMode mode
    → HasOwnSlot g.given slot s (renewed_slot g s slot mode)
slot_own g s slot Mode.Plain h = (new_slot_own g.given s slot).0
slot_own g s slot Mode.Ramp h = (new_slot_own g.given s slot).0
slot_own g s slot Mode.Resumed h = absurd h
slot_own g s slot (Mode.Entering from label) h = absurd h
slot_own g s slot (Mode.GivenRamp frame) h = absurd h

same_own : (g : Given) (slot : Slot) (s t u : State) → t.top ≡ s.top → HasOwnSlot g slot t u → HasOwnSlot g slot s u
same_own g slot s t u e p = record {
  func = p.func ∙ (λ i. (e i).func);
  block = p.block ∙ (λ i. (e i).block);
  at = p.at ∙ (λ i. (e i).at);
  values = p.values ∙ (λ i. (e i).values);
  instance = p.instance ∙ (λ i. (e i).instance);
  old = λ z l. p.old z (subst (λ (a : Activation). IsListed z a.slots) (sym e) l);
  new = λ h. p.new (subst (λ (a : Activation). (a.instance ≡ None)
      ⊎ (is_among (facts_at g.facts a.func).ramp_slots slot ≡ true)) (sym e) h);
}

-- ---- begin

abbrev Begins : Given → Option ℕ → Value → State → Result State Cause → Type 0
Begins g result memory s (Err cause) = Unit {0}
Begins g result memory s (Ok t) = (t.top.mode ≡ s.top.mode) × HasRampSlots g result memory s t

begin_at_ramp : (g : Given) (s : State) (result : Option ℕ) (p v : Value) (kind : Kind)
    → Begins g result v s (and_then (begin_at g s p kind) (λ t. Ok (gives t result v)))
begin_at_ramp g s result p v kind = by (own s.world.memory p (own_frame g s).size kind)
  where
    last : (memory : List MemoryBlock) (o : Option ℕ)
        → Begins g result v s (and_then (and_then (found Cause.Begin o) (λ b. Ok (begun g (with_memory s memory) b 0)))
        (λ t. Ok (gives t result v)))
    last memory None = tt
    last memory (Some b) = (
      refl,
      record {
        func = refl;
        block = refl;
        at = refl;
        values = refl;
        old = λ z l e.
            listed_left z (filter (is_among (own_facts g s).ramp_slots) s.top.slots) []
            (filtered (is_among (own_facts g s).ramp_slots) s.top.slots z l e);
      },
    )

    by : (r : Result (List MemoryBlock) Cause)
        → Begins g result v s (and_then (and_then r (λ memory. and_then (found Cause.Begin (block_of p)) (λ b.
        Ok (begun g (with_memory s memory) b 0)))) (λ t. Ok (gives t result v)))
    by (Err cause) = tt
    by (Ok memory) = last memory (block_of p)

begin_ramp : (g : Given) (s : State) (result : Option ℕ) (p : Value) → Begins g result p s (begin g s result p)
begin_ramp g s result p = on (is_none s.top.instance)
  where
    on : (b : Bool) → Begins g result p s (and_then (ok_if b Cause.Begin s)
        (λ u. and_then (begin_at g u p Kind.Allocator) (λ t. Ok (gives t result p))))
    on true = begin_at_ramp g s result p p Kind.Allocator
    on false = tt

begins_by : (g : Given) (result : Option ℕ) (memory : Value) (s : State) (r : Result State Cause) (t : State)
    → Begins g result memory s r → r ≡ Ok t → (t.top.mode ≡ s.top.mode) × HasRampSlots g result memory s t
begins_by g result memory s (Err cause) t b e = absurd (cc)
begins_by g result memory s (Ok u) t b e = let k : u ≡ t = cc in subst
    (λ (z : State). Begins g result memory s (Ok z)) k b

-- a marker is no alloca
marks : (flags : ℕ → Bool) (i : Instr) → is_idle flags (AtInstr i) ≡ true → is_alloca i ≡ true → ⊥
marks flags (Instr.Call result must_tail ty callee args) e d = false≢true d
marks flags (Instr.Binary name op f ty a b) e d = false≢true e
marks flags (Instr.Icmp name pred ty a b) e d = false≢true e
marks flags (Instr.Select name x a b) e d = false≢true e
marks flags (Instr.Cast name op nneg arg to) e d = false≢true e
marks flags (Instr.Alloca name ty align) e d = false≢true e
marks flags (Instr.Load name ty p align) e d = false≢true e
marks flags (Instr.Store arg p align) e d = false≢true e
marks flags (Instr.Gep name inbounds ty base indices) e d = false≢true e

pub renewed_keeps_executed : (g : RenewedGiven) → KeepsExecuted (renewed_hooks g)
renewed_keeps_executed g = record {
  last = renewed_keeps_last g;
  reached = renewed_keeps g;
  go_on = λ s i x at vs label h.
      renews_away g
      (push (with_status s i x Status.Running) (resumed i x at (kept (g.keep x.coroutine at) vs))) at.block label
      (renewed_from (g.flags x.coroutine) (function_at g.given.code x.coroutine) 0) h;
  place = λ s slot h.
      slot_mode g (with_life g s slot) slot s.top.mode (ap (λ a. a.mode) (life_top g s slot)) h;
  placed = λ s slot h.
      same_own g.given slot s (with_life g s slot) (renewed_slot g (with_life g s slot) slot s.top.mode)
      (life_top g s slot) (slot_own g (with_life g s slot) slot s.top.mode h);
  start = λ s result memory t e.
      begins_by g.given result memory s (begin g.given s result memory) t (begin_ramp g.given s result memory) e;
  marker = λ s i e d. marks (g.flags s.top.func) i e d;
  ungiven = λ s block at. refl;
}
