-- The hooks that make slots anew keep it that an alloca made one slot of an activation or instance.
use Rattle.std.proofs.Common.{◌≡◌, ◌≢◌, ℕ, zero, suc, ◌+◌, ◌<◌, ◌≤◌, Bool, true, false, List, [], ◌∷◌, ◌++◌, length}
use Rattle.std.proofs.Common.{Option, Some}
use Rattle.std.proofs.Common.{None, Result, Ok, Err, refl, sym, ap, ◌∙◌, subst, arith}
use Rattle.std.specs.Prelude.{filter, if◌then◌else◌, is_none, not, slice_get, slice_set, ◌&&◌}
use Rattle.pass_frames_proof.specs.ir_base.declared.cause.Cause.{Cause}
use Rattle.pass_frames_proof.proofs.ir_laws.facts.Lists.{get_within}
use Rattle.pass_frames_proof.specs.ir_model.Names.{function_at, position_of}
use Rattle.pass_frames_proof.specs.ir_model.Ty.{Ty}
use Rattle.pass_frames_proof.specs.ir_model.declared.instr.Instr.{Instr}
use Rattle.pass_frames_proof.specs.ir_model.declared.module.Function.{Function}
use Rattle.pass_frames_proof.specs.ir_model.declared.module.Module.{Module}
use Rattle.pass_frames_proof.specs.ir_paths.declared.point.Point.{Point}
use Rattle.pass_frames_meaning.proofs.once.Lists.{begun_some, next_made, placed_some}
use Rattle.pass_frames_meaning.proofs.once.Stack.{AreCarried, by_first, carried, changed_once, first_by, given_once}
use Rattle.pass_frames_meaning.proofs.once.Stack.{none_later, set_below, settled_once, was_called}
use Rattle.pass_frames_meaning.proofs.once.Steps.{own_changed_once}
use Rattle.pass_frames_meaning.specs.Executed.{IsFirstMode}
use Rattle.pass_frames_meaning.specs.Once.{AreMadeOnce, AreOnce, AreOnceOn, HasNoFirst, IsFirstOnce, IsOnceBy}
use Rattle.pass_frames_meaning.specs.Once.{IsOnceState}
use Rattle.pass_frames_meaning.specs.Once.{KeepsOnce, StaysOnce}
use Rattle.pass_frames_proof.specs.pass_kept_proof.Kept.{kept}
use Rattle.pass_frames_proof.specs.pass_renewed_proof.Renewed.{RenewedGiven, renew_after, renewed_from, renewed_slot}
use Rattle.pass_frames_proof.specs.pass_renewed_proof.Renewed.{with_life}
use Rattle.pass_frames_proof.specs.pass_renewed_proof.SlotRules.{IsMadeOnce}
use Rattle.pass_frames_proof.specs.pass_renewed_proof.Steps.{given_at}
use Rattle.pass_renewed_meaning.proofs.run_hooks.Left.{set_length}
use Rattle.pass_renewed_meaning.proofs.run_hooks.Reached.{own_is}
use Rattle.pass_renewed_meaning.proofs.run_hooks.alive.Parts.{Here, IsSet, Other, get_set}
use Rattle.pass_renewed_meaning.proofs.run_hooks.alive.Places.{own_there}
use Rattle.pass_renewed_meaning.specs.run_hooks.Meanings.{renewed_hooks}
use Rattle.pass_frames_proof.specs.run_memory.Memory.{killed, own, start}
use Rattle.pass_frames_proof.specs.run_memory.declared.block.Kind.{Kind}
use Rattle.pass_frames_proof.specs.run_memory.declared.block.MemoryBlock.{MemoryBlock}
use Rattle.pass_frames_proof.specs.run_memory.declared.pointer.Value.{Value}
use Rattle.pass_frames_proof.specs.run_source.Source.{begin, begin_at, begun, finish, is_among, is_over, kill_late}
use Rattle.pass_frames_proof.specs.run_source.Source.{new_instance}
use Rattle.pass_frames_proof.specs.run_source.Source.{new_slot, push, resumed, with_new_slots}
use Rattle.pass_frames_proof.specs.run_source.State.{gives, own_facts, own_frame, own_instance, settled, with_memory}
use Rattle.pass_frames_proof.specs.run_source.State.{with_slots, with_status, work_of}
use Rattle.pass_frames_proof.specs.run_source.declared.state.Instance.{Instance}
use Rattle.pass_frames_proof.specs.run_source.declared.state.Mode.{Mode}
use Rattle.pass_frames_proof.specs.run_source.declared.state.State.{State}
use Rattle.pass_frames_proof.specs.run_source.declared.state.Status.{Status}
use Rattle.pass_frames_proof.specs.run_source_tables.Given.{Given}
use Rattle.pass_frames_proof.specs.run_step.Results.{and_then, found, ok_if}
use Rattle.pass_frames_proof.specs.run_step.Step.{AtInstr, Work, block_of, fetch}
use Rattle.pass_frames_proof.specs.run_step.declared.world.Slot.{Slot}

same_number : (i j : ℕ) (o : Option ℕ) → o ≡ Some i → o ≡ Some j → j ≡ i
same_number i j o e d = let both : Some j ≡ Some i = sym d ∙ e in cc

-- ---- a slot of a called activation

module _ (m : Module) (s : State) (slot : Slot) (ty : Ty) (align : ℕ)
    (there : fetch (function_at m s.top.func) s.top.block s.top.at ≡ AtInstr (Instr.Alloca slot.alloca ty align))
    (made : IsMadeOnce (function_at m s.top.func) slot.alloca) (h : IsOnceState m s) (first : IsFirstMode s.top.mode)
  where
    abbrev f : Function
    f = function_at m s.top.func

    old : IsFirstOnce (function_at m s.top.func) s.top.block s.top.at s.top.slots s.top.instance s.instances
    old = first_by f s.top.block s.top.at s.top.slots s.top.instance s.instances s.top.mode first h.stack.0

    with_slot_once : (ramp : List ℕ) (w : Work) (o : Option (ℕ × Instance))
        → ((i : ℕ) (x : Instance) → o ≡ Some (i, x) → (s.top.instance ≡ Some i) × (slice_get s.instances i ≡ Some x))
        → IsOnceState m (with_new_slots ramp o (settled s w) (slot ∷ []))
    with_slot_once ramp w None is = record {
      stack = (
        by_first f s.top.block (s.top.at + 1) (slot ∷ s.top.slots) s.top.instance s.instances s.top.mode first (record {
          own = placed_some f s.top.block s.top.at (λ z. true) s.top.slots old.own slot ty align there made;
          low = old.low;
          instance = λ i x e d. next_made f s.top.block s.top.at x.slots (old.instance i x e d);
        }),
        h.stack.1,
        h.stack.2,
      );
      instances = h.instances;
    }
    with_slot_once ramp w (Some (i, x)) is = record {
      stack = (
        by_first f s.top.block (s.top.at + 1) (filter (is_among ramp) (slot ∷ []) ++ s.top.slots) s.top.instance
            (slice_set s.instances i now) s.top.mode first (record {
              own = placed_some f s.top.block s.top.at (is_among ramp) s.top.slots old.own slot ty align there made;
              low = λ j e. subst (λ (n : ℕ). j < n) (sym (set_length s.instances i now)) (old.low j e);
              instance = λ j y e d. owns j y (same_number i j s.top.instance (is i x refl).0 e)
                  (get_set s.instances i now j y d);
            }),
        h.stack.1,
        set_below m s.instances i now s.below (h.stack.1 first i (is i x refl).0) h.stack.2,
      );
      instances = λ j y e. each j y (get_set s.instances i now j y e);
    }
      where
        now : Instance
        now = record x { slots = filter (λ z. not (is_among ramp z)) (slot ∷ []) ++ x.slots }

        new : AreMadeOnce (function_at m s.top.func) s.top.block (s.top.at + 1)
            (filter (λ z. not (is_among ramp z)) (slot ∷ []) ++ x.slots)
        new = placed_some f s.top.block s.top.at (λ z. not (is_among ramp z)) x.slots
            (old.instance i x (is i x refl).0 (is i x refl).1) slot ty align there made

        owns : (j : ℕ) (y : Instance) → j ≡ i → IsSet s.instances i now j y
            → AreMadeOnce (function_at m s.top.func) s.top.block (s.top.at + 1) y.slots
        owns j y same (Here k e) = subst (λ (z : Instance).
            AreMadeOnce (function_at m s.top.func) s.top.block (s.top.at + 1) z.slots) (sym e) new
        owns j y same (Other ne e) = absurd (ne same)

        each : (j : ℕ) (y : Instance) → IsSet s.instances i now j y → AreOnce y.slots
        each j y (Here k e) = subst (λ (z : Instance). AreOnce z.slots) (sym e) new.once
        each j y (Other ne e) = h.instances j y e

    late_once : (ramp : List ℕ) (w : Work) (o : Option (ℕ × Instance))
        → ((i : ℕ) (x : Instance) → o ≡ Some (i, x) → (s.top.instance ≡ Some i) × (slice_get s.instances i ≡ Some x))
        → IsOnceState m (with_new_slots ramp o (kill_late ramp o (settled s w) slot) (slot ∷ []))
    late_once ramp w None is = with_slot_once ramp w None is
    late_once ramp w (Some (i, x)) is = on (is_over x && not (is_among ramp slot))
      where
        on : (b : Bool) → IsOnceState m (with_new_slots ramp (Some (i, x))
            (if b then with_memory (settled s w) (killed w.world.memory slot.block) else settled s w) (slot ∷ []))
        on true = with_slot_once ramp
            (record w { world = record w.world { memory = killed w.world.memory slot.block } }) (Some (i, x)) is
        on false = with_slot_once ramp w (Some (i, x)) is

    pub new_slot_once : (g : Given) (w : Work) → IsOnceState m (new_slot g (settled s w) slot)
    new_slot_once g w = late_once (own_facts g s).ramp_slots w (own_instance s) (λ i x e. own_there s i x e)

-- ---- a resumed activation

module _ (g : RenewedGiven) where
  abbrev m : Module
  m = g.given.code

  -- it goes on to its next alloca, or to its label
  renews_once : (s : State) (from label : ℕ) (o : Option Point)
      → position_of (function_at g.given.code s.top.func) label ≢ 0 → s.top.instance ≢ None
      → AreOnceOn g.given.code s.instances s.below
      → ((i : ℕ) (x : Instance) → slice_get s.instances i ≡ Some x → AreOnce x.slots)
      → IsOnceState g.given.code (renew_after g s from label o)
  renews_once s from label (Some p) apart owned below each = record {
    stack = ((apart, owned), λ first. absurd first, below);
    instances = each;
  }
  renews_once s from label None apart owned below each = record {
    stack = ((apart, owned), λ first. absurd first, below);
    instances = each;
  }

  module _ (s : State) (slot : Slot) (ty : Ty) (align : ℕ)
      (there : fetch (function_at g.given.code s.top.func) s.top.block s.top.at
      ≡ AtInstr (Instr.Alloca slot.alloca ty align))
      (made : IsMadeOnce (function_at g.given.code s.top.func) slot.alloca)
      (h : IsOnceState g.given.code s) where
    abbrev By : Mode → Type 0
    By mode = IsOnceBy (function_at g.given.code s.top.func) s.top.block s.top.at s.top.slots s.top.instance s.instances
        mode

    slot_once : (w : Work) (mode : Mode) → s.top.mode ≡ mode → IsOnceState g.given.code
        (renewed_slot g (settled s w) slot mode)
    slot_once w Mode.Plain e =
        new_slot_once m s slot ty align there made h (subst IsFirstMode (sym e) tt) g.given w
    slot_once w Mode.Ramp e =
        new_slot_once m s slot ty align there made h (subst IsFirstMode (sym e) tt) g.given w
    slot_once w Mode.Resumed e =
        let away : s.top.block ≢ 0 = (subst By e h.stack.0).0 in
        absurd (away (made.alone s.top.block s.top.at (ap given_at there)).0)
    slot_once w (Mode.Entering from label) e =
        renews_once (with_slots (settled s w) (slot ∷ s.top.slots)) from label
        (renewed_from (g.flags s.top.func) (function_at g.given.code s.top.func) (s.top.at + 1))
        (subst By e h.stack.0).0 (subst By e h.stack.0).1 h.stack.2 h.instances
    slot_once w (Mode.GivenRamp frame) e = let none : ⊥ = subst By e h.stack.0 in absurd none

    place_once : (w : Work) → IsOnceState g.given.code
        (renewed_slot g (with_life g (settled s w) slot) slot s.top.mode)
    place_once w = on (g.flags s.top.func slot.alloca)
      where
        on : (b : Bool) → IsOnceState g.given.code (renewed_slot g
            (if b then with_memory (settled s w) (start w.world.memory slot.block) else settled s w) slot s.top.mode)
        on true = slot_once (record w { world = record w.world { memory = start w.world.memory slot.block } })
            s.top.mode refl
        on false = slot_once w s.top.mode refl

  -- ---- begin

  -- the instances that there were
  pushed_before : (xs : List Instance) (x y : Instance) (j : ℕ) (z : Instance) → j < length xs
      → slice_get (slice_set (xs ++ x ∷ []) (length xs) y) j ≡ Some z → slice_get xs j ≡ Some z
  pushed_before [] x y j z lt e = absurd (omega (arith, lt))
  pushed_before (w ∷ xs) x y zero z lt e = e
  pushed_before (w ∷ xs) x y (suc j) z lt e = pushed_before xs x y j z (omega (arith, lt)) e

  one_longer : (xs : List Instance) (x : Instance) → length (xs ++ x ∷ []) ≡ length xs + 1
  one_longer [] x = refl
  one_longer (w ∷ xs) x = let e = one_longer xs x in omega (arith, e)

  none_number : (i : ℕ) → None ≡ Some i → ⊥
  none_number i e = absurd (cc)

  -- begin parts the slots of the activation, which was called, by their class
  module _ (s : State) (h : IsOnceState g.given.code s) (first : IsFirstMode s.top.mode) (b from : ℕ) where
    abbrev own_function : Function
    own_function = function_at g.given.code s.top.func

    abbrev ramp : List ℕ
    ramp = (own_facts g.given s).ramp_slots

    abbrev pub more : List Instance
    more = s.instances ++ new_instance s.top.func b from ∷ []

    abbrev pub now : Instance
    now = record (new_instance s.top.func b from) {
      slots = filter (λ z. not (is_among (own_facts g.given s).ramp_slots z)) s.top.slots ++ [];
    }

    own_slots : AreMadeOnce (function_at g.given.code s.top.func) s.top.block s.top.at s.top.slots
    own_slots = (first_by own_function s.top.block s.top.at s.top.slots s.top.instance s.instances s.top.mode first
        h.stack.0).own

    new : AreMadeOnce (function_at g.given.code s.top.func) s.top.block s.top.at
        (filter (λ z. not (is_among (own_facts g.given s).ramp_slots z)) s.top.slots ++ [])
    new = begun_some own_function s.top.block s.top.at (λ z. not (is_among (own_facts g.given s).ramp_slots z))
        s.top.slots own_slots

    long : (n k : ℕ) → n ≡ k + 1 → k < n
    long n k e = omega (arith, e)

    far : (n k : ℕ) → n ≡ k + 1 → k ≤ n
    far n k e = omega (arith, e)

    longer : length (slice_set more (length s.instances) now) ≡ length s.instances + 1
    longer = set_length more (length s.instances) now ∙ one_longer s.instances (new_instance s.top.func b from)

    before : AreCarried s.instances (slice_set more (length s.instances) now)
    before = record {
      longer = far (length (slice_set more (length s.instances) now)) (length s.instances) longer;
      each = λ j z lt e. (
        z,
        pushed_before s.instances (new_instance s.top.func b from) now j z lt e,
        refl,
      );
    }

    begun_once : IsOnceState g.given.code (begun g.given s b from)
    begun_once = record {
      stack = (
        by_first own_function s.top.block s.top.at (filter (is_among ramp) s.top.slots ++ [])
            (Some (length s.instances))
            (slice_set more (length s.instances) now) s.top.mode first (record {
              own = begun_some own_function s.top.block s.top.at (is_among ramp) s.top.slots own_slots;
              low = λ i e. low i (same_number (length s.instances) i (Some (length s.instances)) refl e);
              instance = λ j z e d. owns j z (same_number (length s.instances) j (Some (length s.instances)) refl e)
                  (get_set more (length s.instances) now j z d);
            }),
        λ was i e. subst (λ (n : ℕ). HasNoFirst n s.below)
            (sym (same_number (length s.instances) i (Some (length s.instances)) refl e))
            (none_later g.given.code s.instances s.below h.stack.2),
        carried g.given.code s.instances (slice_set more (length s.instances) now) before s.below h.stack.2,
      );
      instances = λ j z e. each j z e (get_set more (length s.instances) now j z e);
    }
      where
        low : (i : ℕ) → i ≡ length s.instances → i < length (slice_set more (length s.instances) now)
        low i e = subst (λ (n : ℕ). n < length (slice_set more (length s.instances) now)) (sym e)
            (long (length (slice_set more (length s.instances) now)) (length s.instances) longer)

        owns : (j : ℕ) (z : Instance) → j ≡ length s.instances → IsSet more (length s.instances) now j z
            → AreMadeOnce (function_at g.given.code s.top.func) s.top.block s.top.at z.slots
        owns j z same (Here k e) = subst (λ (w : Instance).
            AreMadeOnce (function_at g.given.code s.top.func) s.top.block s.top.at w.slots) (sym e) new
        owns j z same (Other ne e) = absurd (ne same)

        each : (j : ℕ) (z : Instance) → slice_get (slice_set more (length s.instances) now) j ≡ Some z
            → IsSet more (length s.instances) now j z → AreOnce z.slots
        each j z d (Here k e) = subst (λ (w : Instance). AreOnce w.slots) (sym e) new.once
        each j z d (Other ne e) = h.instances j z
            (pushed_before s.instances (new_instance s.top.func b from) now j z (other_less j z ne e) d)
          where
            before_last : (j n k : ℕ) → j < k → k ≡ n + 1 → (j ≡ n → ⊥) → j < n
            before_last j n k lt e ne = omega (arith, lt, e, ne)

            other_less : (j : ℕ) (z : Instance) → (j ≡ length s.instances → ⊥) → slice_get more j ≡ Some z
                → j < length s.instances
            other_less j z ne e =
                let there : j < length more = get_within more j z e in
                let k : length more ≡ length s.instances + 1 =
                one_longer s.instances (new_instance s.top.func b from) in
                before_last j (length s.instances) (length more) there k ne

  begin_at_once : (s : State) → IsOnceState g.given.code s → IsFirstMode s.top.mode → (result : Option ℕ) (mem : Value)
      (kind : Kind)
      → StaysOnce g.given.code (and_then (begin_at g.given s mem kind) (λ z. Ok (gives z result mem)))
  begin_at_once s h first result mem kind = by (own s.world.memory mem (own_frame g.given s).size kind)
    where
      last : (memory : List MemoryBlock) (o : Option ℕ)
          → StaysOnce g.given.code (and_then
          (and_then (found Cause.Begin o) (λ b. Ok (begun g.given (with_memory s memory) b 0)))
          (λ z. Ok (gives z result mem)))
      last memory None = tt
      last memory (Some b) = given_once g.given.code (begun g.given (with_memory s memory) b 0)
          (begun_once (with_memory s memory) (record { stack = h.stack; instances = h.instances }) first b 0) result mem

      by : (o : Result (List MemoryBlock) Cause)
          → StaysOnce g.given.code (and_then (and_then o
          (λ memory. and_then (found Cause.Begin (block_of mem))
          (λ b. Ok (begun g.given (with_memory s memory) b 0)))) (λ z. Ok (gives z result mem)))
      by (Err cause) = tt
      by (Ok memory) = last memory (block_of mem)

  begin_once : (s : State) (result : Option ℕ) (mem : Value) → IsOnceState g.given.code s
      → StaysOnce g.given.code (begin g.given s result mem)
  begin_once s result mem h = on s.top.instance refl
    where
      on : (o : Option ℕ) → s.top.instance ≡ o → StaysOnce g.given.code (and_then (ok_if (is_none o) Cause.Begin s)
          (λ z. and_then (begin_at g.given z mem Kind.Allocator) (λ z. Ok (gives z result mem))))
      on None e = begin_at_once s h
          (was_called (function_at g.given.code s.top.func) s.top.block s.top.at s.top.slots s.instances s.top.mode
          (subst (λ (o : Option ℕ). IsOnceBy (function_at g.given.code s.top.func) s.top.block s.top.at s.top.slots o
          s.instances s.top.mode) e h.stack.0)) result mem Kind.Allocator
      on (Some i) e = tt

  finish_once : (s : State) → IsOnceState g.given.code s → IsOnceState g.given.code (finish s)
  finish_once s h =
      let k = own_changed_once g.given.code s h (λ x. record x { status = Status.Finished }) (λ x. refl)
      (own_instance s) (λ i x e. own_is s i x e) in
      record { stack = k.stack; instances = k.instances }

  pub renewed_keeps_once : KeepsOnce (renewed_hooks g)
  renewed_keeps_once = record {
    go_on = λ s i x at vs label h there apart.
        let k = changed_once g.given.code s h i x (record x { status = Status.Running }) there refl in
        renews_once (push (with_status s i x Status.Running) (resumed i x at (kept (g.keep x.coroutine at) vs)))
        at.block label (renewed_from (g.flags x.coroutine) (function_at g.given.code x.coroutine) 0) apart
        (λ e. none_number i (sym e)) (settled_once g.given.code (with_status s i x Status.Running) k (work_of s)).stack
        k.instances;
    place = λ s w slot ty align there made h. place_once s slot ty align there made h w;
    start = begin_once;
    close = finish_once;
    ungiven = λ s block at. refl;
  }
