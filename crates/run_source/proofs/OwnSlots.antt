-- New slots of an activation's own.
use Rattle.std.proofs.Common.{◌≡◌, ℕ, ◌+◌, Bool, true, false, List, ◌∷◌, length, refl, ap, sym, ◌∙◌, Ok, Err}
use Rattle.std.specs.Prelude.{Result, OnOk, IfErr, if◌then◌else◌}
use Rattle.run_memory.specs.Memory.{end, fresh}
use Rattle.ir_base.specs.declared.cause.Cause.{Cause}
use Rattle.ir_model.specs.Layout.{size_of}
use Rattle.ir_model.specs.declared.instr.Instr.{Instr}
use Rattle.ir_model.specs.declared.ir_type.IrType.{IrType}
use Rattle.run_source_tables.specs.run_step.Step.{Action, Context, NewSlot, Stuck, Work, alloca_kind, has_markers, instr_action, is_alignment, set_memory, set_value}
use Rattle.run_source_tables.specs.run_step.Values.{pointer_to}
use Rattle.run_source_tables.specs.run_step.declared.world.Slot.{Slot}
use Rattle.run_source.specs.Source.{act, continue}
use Rattle.run_source.specs.SourceEffects.{IsOwner, IsStop, own_slot}
use Rattle.run_source.specs.State.{settled, work_of, with_slots}
use Rattle.run_source_tables.specs.Given.{Given}
use Rattle.run_source.specs.declared.effects.Stop.{Stop}
use Rattle.run_source.specs.declared.state.State.{State}
use Rattle.run_source.specs.declared.stepping.Owner.{Owner}
use Rattle.run_source.proofs.Acting.{is-stop}

pub own-put : (s : State) (w : Work) (a : Action) (x slot : Slot) (next : ℕ) (slots : List Slot) → a ≡ NewSlot w x → x ≡ record { alloca = slot.alloca; block = length s.world.memory } → slot.block ≡ length s.world.memory → slots ≡ slot ∷ s.top.slots → next ≡ s.top.at + 1 → own_slot s a ≡ Ok (record s { world = w.world; top = record s.top { at = next; values = w.values; slots = slots } })
own-put s w a x slot next slots is xs bs ps ns =
    let same : x ≡ slot = xs ∙ ap (λ n. record { alloca = slot.alloca; block = n }) (sym bs) in
    ap (own_slot s) is
    ∙ ap (λ (y : Slot). Ok (with_slots (settled s w) (y ∷ s.top.slots))) same
    ∙ ap (λ (l : List Slot). Ok (record s { world = w.world; top = record s.top { at = s.top.at + 1; values = w.values; slots = l } })) (sym ps)
    ∙ ap (λ k. Ok (record s { world = w.world; top = record s.top { at = k; values = w.values; slots = slots } })) (sym ns)

by-alignment : (b : Bool) (g : Given) (s : State) (w : Work) (slot : Slot) → IsOwner g s slot.alloca Owner.Own → act g (continue g) s (if b then NewSlot w slot else Stuck Cause.Align) ≡ own_slot s (if b then NewSlot w slot else Stuck Cause.Align)
by-alignment true g s w slot owner = ap Ok (owner.placed w slot.block)
by-alignment false g s w slot owner = refl

-- what an alloca does where its slot is the activation's own
pub acts-own : (g : Given) (s : State) (c : Context) (name : ℕ) (ty : IrType) (align : ℕ) → IsOwner g s name Owner.Own → act g (continue g) s (instr_action c (work_of s) (Instr.Alloca name ty align)) ≡ own_slot s (instr_action c (work_of s) (Instr.Alloca name ty align))
acts-own g s c name ty align owner =
    let b = length s.world.memory in
    let memory = fresh s.world.memory (size_of c.code ty) align (alloca_kind c.function) in
    by-alignment (is_alignment align) g s (set_memory (set_value (work_of s) name (pointer_to b)) (if has_markers c.function name then end memory b else memory)) (record { alloca = name; block = b }) owner

pub own-done : (g : Given) (s new : State) (a : Action) (r : Result (Unit {0}) Stop) → act g (continue g) s a ≡ own_slot s a → OnOk r (own_slot s a ≡ Ok new) → OnOk r (act g (continue g) s a ≡ Ok new)
own-done g s new a (Ok u) e h = e ∙ h
own-done g s new a (Err stop) e h = tt

pub own-refused : (g : Given) (s : State) (a : Action) (r : Result (Unit {0}) Stop) → act g (continue g) s a ≡ own_slot s a → IfErr r (λ stop. IsStop stop (own_slot s a)) → IfErr r (λ stop. IsStop stop (act g (continue g) s a))
own-refused g s a (Ok u) e h = tt
own-refused g s a (Err stop) e h = is-stop stop (own_slot s a) (act g (continue g) s a) e h
