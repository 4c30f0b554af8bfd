-- Frames that are bounded aren't too large.
use Rattle.std.proofs.Common.{◌≡◌, ℕ, zero, suc, ◌+◌, ◌^◌, ◌<◌, ◌≤◌, Bool, true, false, List, [], ◌∷◌, Some, Err, refl, subst, ap, ◌∙◌, sym, arith}
use Rattle.std.specs.Prelude.{IsTrue, slice_get}
use Rattle.frame_contents.specs.Frames.{AreLayouts, IsLayout, IsTooLarge, BehindFrame, BehindOther, Here}
use Rattle.frame_contents.specs.Held.{crossing_values, fields_of, frame_slots, held_by, held_of}
use Rattle.frame_contents.specs.declared.module_frames.LayoutsError.{LayoutsError}
use Rattle.frame_placing.specs.Ends.{end_of}
use Rattle.frame_bounds.proofs.Ending.{all_weights, plain_ends, total, weights_total}
use Rattle.frame_bounds.proofs.Holding.{fields_in}
use Rattle.frame_bounds.specs.Bounds.{AreSmall, NoneTooLarge, frame_bound}
use Rattle.frame_layout.specs.Layouts.{promise_of, rooms_of}
use Rattle.frame_layout.specs.declared.laying.LayoutError.{LayoutError}
use Rattle.ir_model.specs.declared.module.Function.{Function}
use Rattle.ir_model.specs.declared.module.Module.{Module}
use Rattle.ir_paths.specs.Slots.{has_name}

not_large : (m : Module) (func : ℕ) (f : Function) → frame_bound m f ≤ 2 ^ 24 → IsLayout m false func f (Err LayoutError.FrameTooLarge) → ⊥
not_large m func f small large =
    let fields = fields_of f large.held in
    let ends = plain_ends (rooms_of fields) (promise_of fields) large.frame.laid.plain large.frame.laid.plain_placed in
    let is_total = weights_total (rooms_of fields) in
    let told = large.frame.laid.told in
    let same : total (rooms_of fields) ≡ total (rooms_of (fields_of f (held_of m f large.frame.classes large.frame.crossing))) = ap (λ h. total (rooms_of (fields_of f h))) large.frame.held_are in
    let within = fields_in m f (has_name (crossing_values large.frame.crossing)) (has_name (frame_slots f large.frame.classes)) in
    absurd (omega (arith, ends, is_total, told, same, within, small))

none_large : (m : Module) (n k : ℕ) (fs : List Function) → AreSmall m fs → IsTooLarge m false n k fs → ⊥
none_large m n k fs small (Here f rest is large) = not_large m n f (small 0 f refl is) large
none_large m n k fs small (BehindOther at f rest is more) = none_large m n (k + 1) rest (λ i g e. small (suc i) g e) more
none_large m n k fs small (BehindFrame at f rest layout is laid more) = none_large m n (k + 1) rest (λ i g e. small (suc i) g e) more

pub none_too_large : (m : Module) (fs : List Function) (b : Bool) → fs ≡ m.functions → (IsTrue b → AreSmall m fs) → IsTrue b → NoneTooLarge m
none_too_large m fs b same small is func large = none_large m func 0 m.functions (subst (λ (l : List Function). AreSmall m l) same (small is)) large
