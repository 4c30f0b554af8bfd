-- Frames by the positions of their functions.
use Rattle.std.proofs.Common.{◌≡◌, ℕ, zero, suc, ◌+◌, ◌-◌, ◌<◌, ◌≤◌, Bool, true, false, List, [], ◌∷◌, drop, length, get_or, refl, ap, sym, ◌∙◌, arith, Option, Some, None, inl, inr}
use Rattle.std.specs.Prelude.{replicate, slice_get, slice_set, if◌then◌else◌, ◌==◌}
use Rattle.std.proofs.lemmas.Bool.{eq-eqb, eqb-true, false≢true}
use Rattle.ir_model.specs.declared.module.Frame.{Frame}
use Rattle.run_step.proofs.LabelPositions.{slice_get-replicate, slice_get-set}
use Rattle.run_step.proofs.Lists.{drop-end, drop-next}
use Rattle.run_source_tables.specs.Given.{frame_of}
use Rattle.run_source_tables.specs.Tables.{frame_or}

abbrev pub HasFrames : List Frame → ℕ → List (Option Frame) → Type 0
HasFrames frames at table = (func : ℕ) (o : Option Frame) → slice_get table func ≡ Some o → frame_or func o ≡ frame_of (drop at frames) func

chosen-here : (v : Bool) (x rest : Frame) → v ≡ true → x ≡ (if v then x else rest)
chosen-here true x rest e = refl
chosen-here false x rest e = absurd (false≢true e)

chosen-there : (v : Bool) (c func : ℕ) (x rest : Frame) → (c == func) ≡ v → (func ≡ c → ⊥) → rest ≡ (if v then x else rest)
chosen-there true c func x rest e h = absurd (h (sym (eqb-true c func e)))
chosen-there false c func x rest e h = refl

pub frames-first : (frames : List Frame) (n : ℕ) (table : List (Option Frame)) → table ≡ replicate n None → HasFrames frames (length frames) table
frames-first frames n table e func o get =
    let none : o ≡ None = slice_get-replicate n func None o (ap (λ (l : List (Option Frame)). slice_get l func) (sym e) ∙ get) in
    ap (frame_or func) none ∙ ap (λ (l : List Frame). frame_of l func) (sym (drop-end frames (length frames) refl))

pub frames-step : (frames : List Frame) (at : ℕ) (table next : List (Option Frame)) (x : Frame) → 0 < at → at ≤ length frames → x ≡ get_or frames (at - 1) x → next ≡ slice_set table x.coroutine (Some x) → HasFrames frames at table → HasFrames frames (at - 1) next
frames-step frames at table next x lt le e is h func o get =
    let one : at - 1 + 1 ≡ at = omega arith in
    let rest : Frame = frame_of (drop at frames) func in
    let split : frame_of (drop (at - 1) frames) func ≡ (if x.coroutine == func then x else rest) =
    ap (λ (l : List Frame). frame_of l func) (drop-next frames (at - 1) x (omega arith) e)
    ∙ ap (λ n. if x.coroutine == func then x else frame_of (drop n frames) func) one in
    elim (slice_get-set table x.coroutine func (Some x) o (ap (λ (l : List (Option Frame)). slice_get l func) (sym is) ∙ get)) [
      | inl p ↦ ap (frame_or func) p.1 ∙ chosen-here (x.coroutine == func) x rest (eq-eqb x.coroutine func (sym p.0)) ∙ sym split
      | inr q ↦ h func o q.0 ∙ chosen-there (x.coroutine == func) x.coroutine func x rest refl q.1 ∙ sym split
    ]
