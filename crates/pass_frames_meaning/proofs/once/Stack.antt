-- Activations and instances of which an alloca made one slot, where they move on or instances change.
use Rattle.std.proofs.Common.{◌≡◌, ◌≢◌, ℕ, ◌+◌, ◌<◌, ◌≤◌, List, [], ◌∷◌, length, Option, Some, None}
use Rattle.std.proofs.Common.{refl, sym, ap, ◌∙◌, subst, arith}
use Rattle.std.specs.Prelude.{slice_get, slice_set}
use Rattle.pass_frames_proof.specs.ir_model.Names.{function_at}
use Rattle.pass_frames_proof.specs.ir_model.declared.module.Function.{Function}
use Rattle.pass_frames_proof.specs.ir_model.declared.module.Module.{Module}
use Rattle.pass_frames_meaning.proofs.once.Lists.{left_made, next_made}
use Rattle.pass_frames_meaning.specs.Executed.{IsFirstMode}
use Rattle.pass_frames_meaning.specs.Once.{AreMadeOnce, AreOnce, AreOnceOn, HasNoFirst, IsFirstOnce, IsOnceBy}
use Rattle.pass_frames_meaning.specs.Once.{IsOnceState}
use Rattle.pass_renewed_meaning.proofs.run_hooks.Left.{set_length}
use Rattle.pass_renewed_meaning.proofs.run_hooks.alive.Parts.{Here, IsSet, Other, get_set}
use Rattle.pass_frames_proof.specs.run_memory.declared.pointer.Value.{Value}
use Rattle.pass_frames_proof.specs.run_source.State.{gives, settled, with_instance}
use Rattle.pass_frames_proof.specs.run_source.declared.state.Activation.{Activation}
use Rattle.pass_frames_proof.specs.run_source.declared.state.Instance.{Instance}
use Rattle.pass_frames_proof.specs.run_source.declared.state.Mode.{Mode}
use Rattle.pass_frames_proof.specs.run_source.declared.state.State.{State}
use Rattle.pass_frames_proof.specs.run_step.Step.{Work}
use Rattle.pass_frames_proof.specs.run_step.declared.world.Slot.{Slot}

-- ---- an activation

module _ (f : Function) where
  -- what is asked of one that was called, by its mode
  pub first_by : (block at : ℕ) (slots : List Slot) (number : Option ℕ) (xs : List Instance) (mode : Mode)
      → IsFirstMode mode → IsOnceBy f block at slots number xs mode → IsFirstOnce f block at slots number xs
  first_by block at slots number xs Mode.Plain first h = h
  first_by block at slots number xs Mode.Ramp first h = h
  first_by block at slots number xs Mode.Resumed first h = absurd first
  first_by block at slots number xs (Mode.Entering from label) first h = absurd first
  first_by block at slots number xs (Mode.GivenRamp frame) first h = absurd first

  pub by_first : (block at : ℕ) (slots : List Slot) (number : Option ℕ) (xs : List Instance) (mode : Mode)
      → IsFirstMode mode → IsFirstOnce f block at slots number xs → IsOnceBy f block at slots number xs mode
  by_first block at slots number xs Mode.Plain first h = h
  by_first block at slots number xs Mode.Ramp first h = h
  by_first block at slots number xs Mode.Resumed first h = absurd first
  by_first block at slots number xs (Mode.Entering from label) first h = absurd first
  by_first block at slots number xs (Mode.GivenRamp frame) first h = absurd first

  -- one that has no instance was called
  pub was_called : (block at : ℕ) (slots : List Slot) (xs : List Instance) (mode : Mode)
      → IsOnceBy f block at slots None xs mode → IsFirstMode mode
  was_called block at slots xs Mode.Plain h = tt
  was_called block at slots xs Mode.Ramp h = tt
  was_called block at slots xs Mode.Resumed h = absurd (h.1 refl)
  was_called block at slots xs (Mode.Entering from label) h = absurd (h.1 refl)
  was_called block at slots xs (Mode.GivenRamp frame) h = absurd h

  -- it stays in its block
  pub stays_by : (block at k : ℕ) (slots zs : List Slot) (number : Option ℕ) (xs ys : List Instance)
      → (IsFirstOnce f block at slots number xs → IsFirstOnce f block k zs number ys) → (mode : Mode)
      → IsOnceBy f block at slots number xs mode → IsOnceBy f block k zs number ys mode
  stays_by block at k slots zs number xs ys go Mode.Plain h = go h
  stays_by block at k slots zs number xs ys go Mode.Ramp h = go h
  stays_by block at k slots zs number xs ys go Mode.Resumed h = h
  stays_by block at k slots zs number xs ys go (Mode.Entering from label) h = h
  stays_by block at k slots zs number xs ys go (Mode.GivenRamp frame) h = h

  -- or comes to another one, which is no entry block
  pub enters_by : (block at to : ℕ) (slots : List Slot) (number : Option ℕ) (xs : List Instance) → to ≢ 0
      → (mode : Mode) → IsOnceBy f block at slots number xs mode → IsOnceBy f to 0 slots number xs mode
  enters_by block at to slots number xs apart mode h = on mode h
    where
      go : IsFirstOnce f block at slots number xs → IsFirstOnce f to 0 slots number xs
      go k = record {
        own = left_made f block at slots k.own to 0 apart;
        low = k.low;
        instance = λ i x e d. left_made f block at x.slots (k.instance i x e d) to 0 apart;
      }

      on : (mode : Mode) → IsOnceBy f block at slots number xs mode → IsOnceBy f to 0 slots number xs mode
      on Mode.Plain k = go k
      on Mode.Ramp k = go k
      on Mode.Resumed k = (apart, k.1)
      on (Mode.Entering from label) k = k
      on (Mode.GivenRamp frame) k = k

  -- it goes on behind its instruction
  pub next_by : (block at : ℕ) (slots : List Slot) (number : Option ℕ) (xs : List Instance) (mode : Mode)
      → IsOnceBy f block at slots number xs mode → IsOnceBy f block (at + 1) slots number xs mode
  next_by block at slots number xs mode h = stays_by block at (at + 1) slots slots number xs xs
      (λ k. record {
        own = next_made f block at slots k.own;
        low = k.low;
        instance = λ i x e d. next_made f block at x.slots (k.instance i x e d);
      }) mode h

  -- it has no slots of its own any more
  pub emptied_by : (block at : ℕ) (slots : List Slot) (number : Option ℕ) (xs : List Instance) (mode : Mode)
      → IsOnceBy f block at slots number xs mode → IsOnceBy f block at [] number xs mode
  emptied_by block at slots number xs mode h = stays_by block at at slots [] number xs xs
      (λ k. record { own = record { once = tt; passed = tt }; low = k.low; instance = k.instance }) mode h

-- ---- instances

-- the instances that there were have the slots that they had
pub record AreCarried (xs ys : List Instance) : Type 0 where
  pub longer : length xs ≤ length ys
  pub each : (j : ℕ) (y : Instance) → j < length xs → slice_get ys j ≡ Some y
      → (x : Instance) × (slice_get xs j ≡ Some x) × (y.slots ≡ x.slots)

less_more : (i m n : ℕ) → i < m → m ≤ n → i < n
less_more i m n lt le = omega (arith, lt, le)

same_long : (m n : ℕ) → m ≡ n → n ≤ m
same_long m n e = omega (arith, e)

module _ (m : Module) (xs ys : List Instance) (k : AreCarried xs ys) where
  carried_by : (f : Function) (block at : ℕ) (slots : List Slot) (number : Option ℕ) (mode : Mode)
      → IsOnceBy f block at slots number xs mode → IsOnceBy f block at slots number ys mode
  carried_by f block at slots number mode h = stays_by f block at at slots slots number xs ys
      (λ q. record {
        own = q.own;
        low = λ i e. less_more i (length xs) (length ys) (q.low i e) k.longer;
        instance = λ i y e d.
            let c = k.each i y (q.low i e) d in
            subst (AreMadeOnce f block at) (sym c.2) (q.instance i c.0 e c.1);
      }) mode h

  pub carried : (cs : List Activation) → AreOnceOn m xs cs → AreOnceOn m ys cs
  carried [] h = tt
  carried (a ∷ below) h = (
    carried_by (function_at m a.func) a.block a.at a.slots a.instance a.mode h.0,
    h.1,
    carried below h.2,
  )

-- one of them changes, but not in its slots
pub set_carried : (xs : List Instance) (i : ℕ) (x y : Instance) → slice_get xs i ≡ Some x → y.slots ≡ x.slots
    → AreCarried xs (slice_set xs i y)
set_carried xs i x y there same = record {
  longer = same_long (length (slice_set xs i y)) (length xs) (set_length xs i y);
  each = λ j z lt e. by j z (get_set xs i y j z e);
}
  where
    by : (j : ℕ) (z : Instance) → IsSet xs i y j z → (w : Instance) × (slice_get xs j ≡ Some w) × (z.slots ≡ w.slots)
    by j z (Here k e) = (
      x,
      subst (λ (n : ℕ). slice_get xs n ≡ Some x) (sym k) there,
      ap (λ (w : Instance). w.slots) e ∙ same,
    )
    by j z (Other ne e) = (z, e, refl)

-- the slots of one change, which none of the activations began
module _ (m : Module) (xs : List Instance) (i : ℕ) (y : Instance) where
  other_by : (f : Function) (block at : ℕ) (slots : List Slot) (number : Option ℕ) (mode : Mode)
      → (IsFirstMode mode → number ≡ Some i → ⊥) → IsOnceBy f block at slots number xs mode
      → IsOnceBy f block at slots number (slice_set xs i y) mode
  other_by f block at slots number mode none h = on mode none h
    where
      go : (number ≡ Some i → ⊥) → IsFirstOnce f block at slots number xs
          → IsFirstOnce f block at slots number (slice_set xs i y)
      go never q = record {
        own = q.own;
        low = λ j e. subst (λ (n : ℕ). j < n) (sym (set_length xs i y)) (q.low j e);
        instance = λ j z e d. by j z e (get_set xs i y j z d);
      }
        where
          by : (j : ℕ) (z : Instance) → number ≡ Some j → IsSet xs i y j z → AreMadeOnce f block at z.slots
          by j z e (Here k d) = absurd (never (e ∙ ap Some k))
          by j z e (Other ne d) = q.instance j z e d

      on : (mode : Mode) → (IsFirstMode mode → number ≡ Some i → ⊥) → IsOnceBy f block at slots number xs mode
          → IsOnceBy f block at slots number (slice_set xs i y) mode
      on Mode.Plain never q = go (never tt) q
      on Mode.Ramp never q = go (never tt) q
      on Mode.Resumed never q = q
      on (Mode.Entering from label) never q = q
      on (Mode.GivenRamp frame) never q = q

  pub set_below : (cs : List Activation) → HasNoFirst i cs → AreOnceOn m xs cs → AreOnceOn m (slice_set xs i y) cs
  set_below [] none h = tt
  set_below (a ∷ below) none h = (
    other_by (function_at m a.func) a.block a.at a.slots a.instance a.mode none.0 h.0,
    h.1,
    set_below below none.1 h.2,
  )

-- no activation has an instance that isn't there yet
pub none_later : (m : Module) (xs : List Instance) (cs : List Activation) → AreOnceOn m xs cs
    → HasNoFirst (length xs) cs
none_later m xs [] h = tt
none_later m xs (a ∷ below) h = (
  λ first e. not_less (length xs)
      ((first_by (function_at m a.func) a.block a.at a.slots a.instance xs a.mode first h.0).low (length xs) e),
  none_later m xs below h.2,
)
  where
    not_less : (n : ℕ) → n < n → ⊥
    not_less n lt = omega (arith, lt)

-- ---- states

module _ (m : Module) (s : State) (h : IsOnceState m s) where
  pub settled_once : (w : Work) → IsOnceState m (settled s w)
  settled_once w = record {
    stack = (
      next_by (function_at m s.top.func) s.top.block s.top.at s.top.slots s.top.instance s.instances s.top.mode
          h.stack.0,
      h.stack.1,
      h.stack.2,
    );
    instances = h.instances;
  }

  pub given_once : (result : Option ℕ) (v : Value) → IsOnceState m (gives s result v)
  given_once result v = record {
    stack = (
      next_by (function_at m s.top.func) s.top.block s.top.at s.top.slots s.top.instance s.instances s.top.mode
          h.stack.0,
      h.stack.1,
      h.stack.2,
    );
    instances = h.instances;
  }

  -- an instance changes, but not in its slots
  pub changed_once : (i : ℕ) (x y : Instance) → slice_get s.instances i ≡ Some x → y.slots ≡ x.slots
      → IsOnceState m (with_instance s i y)
  changed_once i x y there same = record {
    stack = carried m s.instances (slice_set s.instances i y) (set_carried s.instances i x y there same)
        (s.top ∷ s.below) h.stack;
    instances = λ j z e. by j z (get_set s.instances i y j z e);
  }
    where
      by : (j : ℕ) (z : Instance) → IsSet s.instances i y j z → AreOnce z.slots
      by j z (Here k e) = subst AreOnce (sym (ap (λ (w : Instance). w.slots) e ∙ same)) (h.instances i x there)
      by j z (Other ne e) = h.instances j z e
