-- From a promise back to its frame.
use Rattle.std.proofs.Common.{◌≡◌, ℕ, true, false, ap, sym, ◌∙◌, Option, Some, None, Ok, Err}
use Rattle.std.specs.Prelude.{Result, find, if◌then◌else◌}
use Rattle.std.proofs.lemmas.Bool.{eq-eqb}
use Rattle.run_memory.specs.declared.pointer.Offset.{Offset}
use Rattle.run_memory.specs.declared.pointer.Pointer.{Pointer}
use Rattle.run_memory.specs.declared.pointer.Value.{Value}
use Rattle.ir_base.specs.declared.cause.Cause.{Cause}
use Rattle.run_source_tables.specs.run_step.Results.{and_then, found, ok_if}
use Rattle.run_source.specs.Source.{frame_of_promise, has_promise_at, is_live_at}
use Rattle.run_source.specs.State.{frame_address_of}
use Rattle.run_source_tables.specs.Given.{Given}
use Rattle.run_source.specs.declared.state.Instance.{Instance}
use Rattle.run_source.specs.declared.state.State.{State}

abbrev frame_by : State → ℕ → Option Instance → Result Value Cause
frame_by s b o = and_then (found Cause.Promise o) (λ x. ok_if (is_live_at s.world.memory b) Cause.Promise (frame_address_of x))

at-start : (g : Given) (s : State) (b : ℕ) (offset : Offset) (o : Option Instance) → offset.bits ≡ 0 → o ≡ find (λ x. has_promise_at g b x) s.instances → frame_of_promise g s (Value.Ptr (Pointer.At b offset)) ≡ frame_by s b o
at-start g s b offset o zero is =
    ap (λ v. frame_by s b (if v then find (has_promise_at g b) s.instances else None)) (eq-eqb offset.bits 0 zero)
    ∙ ap (frame_by s b) (sym is)

pub promise-none : (g : Given) (s : State) (b : ℕ) (offset : Offset) (o : Option Instance) → offset.bits ≡ 0 → o ≡ find (λ x. has_promise_at g b x) s.instances → o ≡ None → Err Cause.Promise ≡ frame_of_promise g s (Value.Ptr (Pointer.At b offset))
promise-none g s b offset o zero is none = sym (at-start g s b offset o zero is ∙ ap (frame_by s b) none)

pub promise-some : (g : Given) (s : State) (b : ℕ) (offset : Offset) (o : Option Instance) (x : Instance) (v : Value) → offset.bits ≡ 0 → o ≡ find (λ x. has_promise_at g b x) s.instances → o ≡ Some x → is_live_at s.world.memory b ≡ true → v ≡ frame_address_of x → Ok v ≡ frame_of_promise g s (Value.Ptr (Pointer.At b offset))
promise-some g s b offset o x v zero is some live at =
    ap Ok at
    ∙ ap (λ l. ok_if l Cause.Promise (frame_address_of x)) (sym live)
    ∙ sym (at-start g s b offset o zero is ∙ ap (frame_by s b) some)

pub promise-dead : (g : Given) (s : State) (b : ℕ) (offset : Offset) (o : Option Instance) (x : Instance) → offset.bits ≡ 0 → o ≡ find (λ x. has_promise_at g b x) s.instances → o ≡ Some x → is_live_at s.world.memory b ≡ false → Err Cause.Promise ≡ frame_of_promise g s (Value.Ptr (Pointer.At b offset))
promise-dead g s b offset o x zero is some dead =
    ap (λ l. ok_if l Cause.Promise (frame_address_of x)) (sym dead)
    ∙ sym (at-start g s b offset o zero is ∙ ap (frame_by s b) some)
