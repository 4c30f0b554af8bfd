-- Allocas of an activation, and what comes behind those of one that is entering a label.
use Rattle.std.proofs.Common.{◌≡◌, ℕ, ◌+◌, Bool, true, false, ◌∷◌, length, refl, ap, sym, ◌∙◌, Ok, Err, Option, Some, None}
use Rattle.std.specs.Prelude.{Result, OnOk, IfErr, slice_get, if◌then◌else◌}
use Rattle.run_memory.specs.Memory.{Rights, end, fresh}
use Rattle.ir_base.specs.declared.cause.Cause.{Cause}
use Rattle.run_source.proofs.Acting.{is-stop}
use Rattle.run_source.specs.SourceEffects.{IsStop, own_slot}
use Rattle.run_source.specs.State.{function_of, settled, with_slots, work_of}
use Rattle.run_source.specs.declared.effects.Stop.{Stop}
use Rattle.run_source.specs.declared.state.Mode.{Mode}
use Rattle.run_source.specs.declared.state.State.{State}
use Rattle.run_framed.specs.Framed.{FramedGiven, alloca_from, at_point, enter_after, framed_act, framed_slot, with_mode}
use Rattle.run_framed.specs.FramedEffects.{alloca_at}
use Rattle.ir_model.specs.Layout.{size_of}
use Rattle.ir_model.specs.Names.{function_at, position_of}
use Rattle.ir_model.specs.declared.ir_type.IrType.{IrType}
use Rattle.ir_paths.specs.declared.point.Point.{Point}
use Rattle.run_step.specs.Step.{Action, NewSlot, Stuck, Work, alloca_kind, has_markers, is_alignment, label_of, set_memory, set_value, values_in}
use Rattle.run_step.specs.Values.{Env, pointer_to, with_value}
use Rattle.run_step.specs.declared.world.Slot.{Slot}

-- what an alloca leaves to be done with its slot
abbrev made : FramedGiven → State → ℕ → IrType → ℕ → Work
made g s name ty align =
    let b = length s.world.memory in
    let f = function_of g.given s in
    let memory = fresh s.world.memory (size_of g.given.code ty) align (alloca_kind f) in
    set_memory (set_value (work_of s) name (pointer_to b)) (if has_markers f name then end memory b else memory)

abbrev slot_or_stuck : Bool → Work → Slot → Action
slot_or_stuck b w slot = if b then NewSlot w slot else Stuck Cause.Align

-- ---- an alloca that isn't one because of its alignment

refused-by : (b : Bool) (g : FramedGiven) (s : State) (w : Work) (slot : Slot) (stop : Stop) → IsStop stop (own_slot s (slot_or_stuck b w slot)) → IsStop stop (framed_act g s (slot_or_stuck b w slot))
refused-by true g s w slot Stop.NoMemory h = tt
refused-by true g s w slot (Stop.Undefined cause) h = absurd cc
refused-by false g s w slot stop h = h

pub slot-refused : (g : FramedGiven) (rights : Rights) (s : State) (name : ℕ) (ty : IrType) (align : ℕ) (stop : Stop) → IsStop stop (own_slot s (alloca_at g rights s name ty align)) → IsStop stop (framed_act g s (alloca_at g rights s name ty align))
slot-refused g rights s name ty align stop h = refused-by (is_alignment align) g s (made g s name ty align) (record { alloca = name; block = length s.world.memory }) stop h

-- ---- a new slot of an activation that is entering a label

entering-new : (g : FramedGiven) (s t : State) (w : Work) (slot : Slot) (from label : ℕ) → s.top.mode ≡ Mode.Entering from label → with_slots (settled s w) (slot ∷ s.top.slots) ≡ t → framed_act g s (NewSlot w slot) ≡ Ok (enter_after g t from label (alloca_from (function_of g.given s) (s.top.at + 1)))
entering-new g s t w slot from label m is =
    ap (λ (x : Mode). Ok (framed_slot g (settled s w) slot x)) m
    ∙ ap (λ (x : State). Ok (enter_after g x from label (alloca_from (function_of g.given s) (s.top.at + 1)))) is

entering-by : (b : Bool) (g : FramedGiven) (s t : State) (w : Work) (slot : Slot) (from label : ℕ) → s.top.mode ≡ Mode.Entering from label → own_slot s (slot_or_stuck b w slot) ≡ Ok t → framed_act g s (slot_or_stuck b w slot) ≡ Ok (enter_after g t from label (alloca_from (function_of g.given s) (s.top.at + 1)))
entering-by true g s t w slot from label m e = let is : with_slots (settled s w) (slot ∷ s.top.slots) ≡ t = cc in entering-new g s t w slot from label m is
entering-by false g s t w slot from label m e = absurd cc

entering : (g : FramedGiven) (rights : Rights) (s t : State) (name : ℕ) (ty : IrType) (align from label : ℕ) → s.top.mode ≡ Mode.Entering from label → own_slot s (alloca_at g rights s name ty align) ≡ Ok t → framed_act g s (alloca_at g rights s name ty align) ≡ Ok (enter_after g t from label (alloca_from (function_of g.given s) (s.top.at + 1)))
entering g rights s t name ty align from label m e = entering-by (is_alignment align) g s t (made g s name ty align) (record { alloca = name; block = length s.world.memory }) from label m e

-- another alloca follows
pub another-follows : (g : FramedGiven) (rights : Rights) (s t : State) (name : ℕ) (ty : IrType) (align from label next : ℕ) (p : Point) → s.top.mode ≡ Mode.Entering from label → next ≡ s.top.at + 1 → alloca_from (function_of g.given s) next ≡ Some p → own_slot s (alloca_at g rights s name ty align) ≡ Ok t → framed_act g s (alloca_at g rights s name ty align) ≡ Ok (at_point (with_mode t (Mode.Entering from label)) p)
another-follows g rights s t name ty align from label next p m n f e =
    entering g rights s t name ty align from label m e
    ∙ ap (λ k. Ok (enter_after g t from label (alloca_from (function_of g.given s) k))) (sym n)
    ∙ ap (λ (o : Option Point). Ok (enter_after g t from label o)) f

-- ---- the last of them

slot-by : (b : Bool) (s t : State) (w : Work) (slot : Slot) → own_slot s (slot_or_stuck b w slot) ≡ Ok t → t ≡ with_slots (settled s w) (slot ∷ s.top.slots)
slot-by true s t w slot e = cc
slot-by false s t w slot e = absurd cc

slot-made : (g : FramedGiven) (rights : Rights) (s t : State) (name : ℕ) (ty : IrType) (align : ℕ) → own_slot s (alloca_at g rights s name ty align) ≡ Ok t → t ≡ with_slots (settled s (made g s name ty align)) ((record { alloca = name; block = length s.world.memory }) ∷ s.top.slots)
slot-made g rights s t name ty align e = slot-by (is_alignment align) s t (made g s name ty align) (record { alloca = name; block = length s.world.memory }) e

-- a state whose topmost activation enters a label of a function, with values
abbrev entered : FramedGiven → State → (func from label : ℕ) → Env → State
entered g t func from label env =
    let f = function_at g.given.code func in
    let b = position_of f label in
    record t { top = record t.top { mode = Mode.Resumed; block = b; at = 0; values = values_in g.given.code (slice_get f.blocks b) (label_of (slice_get f.blocks from)) env } }

pub none-follows : (g : FramedGiven) (rights : Rights) (s t : State) (name : ℕ) (ty : IrType) (align from label next block place : ℕ) (filled values : Env) → s.top.mode ≡ Mode.Entering from label → next ≡ s.top.at + 1 → alloca_from (function_of g.given s) next ≡ None → own_slot s (alloca_at g rights s name ty align) ≡ Ok t → block ≡ length s.world.memory → filled ≡ with_value s.top.values name (pointer_to block) → place ≡ position_of (function_of g.given s) label → values ≡ values_in g.given.code (slice_get (function_of g.given s).blocks (position_of (function_of g.given s) label)) (label_of (slice_get (function_of g.given s).blocks from)) filled → framed_act g s (alloca_at g rights s name ty align) ≡ Ok (record t { top = record t.top { mode = Mode.Resumed; block = place; at = 0; values = values } })
none-follows g rights s t name ty align from label next block place filled values m n f e bs fs ps vs =
    let is = slot-made g rights s t name ty align e in
    let env : t.top.values ≡ filled = ap (λ (x : State). x.top.values) is ∙ ap (λ k. with_value s.top.values name (pointer_to k)) (sym bs) ∙ sym fs in
    entering g rights s t name ty align from label m e
    ∙ ap (λ k. Ok (enter_after g t from label (alloca_from (function_of g.given s) k))) (sym n)
    ∙ ap (λ (o : Option Point). Ok (enter_after g t from label o)) f
    ∙ ap (λ k. Ok (entered g t k from label t.top.values)) (ap (λ (x : State). x.top.func) is)
    ∙ ap (λ (v : Env). Ok (entered g t s.top.func from label v)) env
    ∙ ap (λ (v : Env). Ok (record t { top = record t.top { mode = Mode.Resumed; block = position_of (function_of g.given s) label; at = 0; values = v } })) (sym vs)
    ∙ ap (λ k. Ok (record t { top = record t.top { mode = Mode.Resumed; block = k; at = 0; values = values } })) (sym ps)

-- ---- an activation that isn't entering a label

abbrev pub is_entering : Mode → Bool
is_entering (Mode.Entering from label) = true
is_entering _ = false

plain-new : (m : Mode) (g : FramedGiven) (s : State) (w : Work) (slot : Slot) → is_entering m ≡ false → framed_slot g (settled s w) slot m ≡ with_slots (settled s w) (slot ∷ s.top.slots)
plain-new (Mode.Entering from label) g s w slot h = absurd cc
plain-new m g s w slot h = refl

plain-by : (b : Bool) (g : FramedGiven) (s : State) (w : Work) (slot : Slot) → is_entering s.top.mode ≡ false → framed_act g s (slot_or_stuck b w slot) ≡ own_slot s (slot_or_stuck b w slot)
plain-by true g s w slot h = ap Ok (plain-new s.top.mode g s w slot h)
plain-by false g s w slot h = refl

pub plainly : (g : FramedGiven) (rights : Rights) (s : State) (name : ℕ) (ty : IrType) (align : ℕ) → is_entering s.top.mode ≡ false → framed_act g s (alloca_at g rights s name ty align) ≡ own_slot s (alloca_at g rights s name ty align)
plainly g rights s name ty align h = plain-by (is_alignment align) g s (made g s name ty align) (record { alloca = name; block = length s.world.memory }) h

pub not-entering : (m : Mode) → ((from label : ℕ) → m ≡ Mode.Entering from label → ⊥) → is_entering m ≡ false
not-entering (Mode.Entering from label) h = absurd (h from label refl)
not-entering m h = refl

pub plainly-done : (g : FramedGiven) (rights : Rights) (s new : State) (name : ℕ) (ty : IrType) (align : ℕ) (r : Result (Unit {0}) Stop) → is_entering s.top.mode ≡ false → OnOk r (own_slot s (alloca_at g rights s name ty align) ≡ Ok new) → OnOk r (framed_act g s (alloca_at g rights s name ty align) ≡ Ok new)
plainly-done g rights s new name ty align (Ok u) e h = plainly g rights s name ty align e ∙ h
plainly-done g rights s new name ty align (Err stop) e h = tt

pub plainly-refused : (g : FramedGiven) (rights : Rights) (s : State) (name : ℕ) (ty : IrType) (align : ℕ) (r : Result (Unit {0}) Stop) → is_entering s.top.mode ≡ false → IfErr r (λ stop. IsStop stop (own_slot s (alloca_at g rights s name ty align))) → IfErr r (λ stop. IsStop stop (framed_act g s (alloca_at g rights s name ty align)))
plainly-refused g rights s name ty align (Ok u) e h = tt
plainly-refused g rights s name ty align (Err stop) e h = is-stop stop (own_slot s (alloca_at g rights s name ty align)) (framed_act g s (alloca_at g rights s name ty align)) (plainly g rights s name ty align e) h
