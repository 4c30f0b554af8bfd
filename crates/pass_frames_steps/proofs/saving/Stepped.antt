-- A save of a state, once its suspend and its instance are known; and lines with an instruction behind them.
use Rattle.std.proofs.Common.{◌≡◌, ◌+◌, ◌∷◌, ◌++◌, ◌∙◌, [], Bool, List, Ok, Option, Result, Some, ap, arith, false, length, not, subst, true, ℕ}
use Rattle.std.specs.Prelude.{option_and_then, option_map, slice_get}
use Rattle.pass_frames_code.specs.ir_base.declared.cause.Cause.{Cause}
use Rattle.pass_frames_code.specs.ir_model.declared.instr.Instr.{Instr}
use Rattle.pass_frames_code.specs.ir_model.declared.module.Function.{Function}
use Rattle.pass_frames_code.specs.ir_paths.Windows.{suspend_of}
use Rattle.pass_frames_code.specs.ir_paths.declared.point.Point.{Point}
use Rattle.pass_frames_code.specs.run_laws.access.Lines.{StandAt}
use Rattle.pass_frames_code.specs.run_source.Source.{save}
use Rattle.pass_frames_code.specs.run_source.State.{function_of, next, numbered, own_instance, point_of, with_instance, with_left}
use Rattle.pass_frames_code.specs.run_source.declared.state.Instance.{Instance}
use Rattle.pass_frames_code.specs.run_source.declared.state.State.{State}
use Rattle.pass_frames_code.specs.run_source.declared.state.Status.{Status}
use Rattle.pass_frames_code.specs.run_source_tables.Given.{Given}
use Rattle.pass_frames_code.specs.run_step.Results.{and_then, found, ok_if}

-- ---- code

-- the last instruction of a line stands behind the others
pub stand_split : (f : Function) (block at : ℕ) (line rest : List Instr) → StandAt f block at (line ++ rest)
    → StandAt f block at line × StandAt f block (at + length line) rest
stand_split f block at [] rest h = (
  tt,
  let e : at ≡ at + 0 = omega arith in subst (λ (n : ℕ). StandAt f block n rest) e h,
)
stand_split f block at (i ∷ line) rest h =
    let z = stand_split f block (at + 1) line rest h.1 in
    let e : at + 1 + length line ≡ at + length (i ∷ line) = omega arith in
    ((h.0, z.0), subst (λ (n : ℕ). StandAt f block n rest) e z.1)

-- ---- the step

-- the instance is Suspended, with a save of the topmost activation, which has left
abbrev pub saved_at : State → Point → ℕ → Instance → State
saved_at s p i x =
    with_left (with_instance s i (record x {
      status = Status.Suspended p s.top.values;
      last_save = Some (record { depth = length s.below; save = point_of s });
    })) true

-- what a save does with an instance
abbrev saving : State → Point → Option (ℕ × Instance) → Result State Cause
saving s p o =
    and_then (and_then (found Cause.State o) (λ (w : ℕ × Instance).
    ok_if (not w.1.freed) Cause.State (saved_at s p w.0 w.1))) (λ (u : State). Ok (next u))

module _ (g : Given) (s : State) (p : Point) (i : ℕ) (x : Instance) where
  own_is : s.top.instance ≡ Some i → slice_get s.instances i ≡ Some x → own_instance s ≡ Some (i, x)
  own_is own there =
      ap (option_and_then (numbered s.instances)) own ∙ ap (option_map (λ (z : Instance). (i, z))) there

  pub save_is : suspend_of (function_of g s) (point_of s) ≡ Some p → s.top.instance ≡ Some i
      → slice_get s.instances i ≡ Some x → x.freed ≡ false → save g s ≡ Ok (next (saved_at s p i x))
  save_is leads own there unfreed =
      ap (λ (o : Option Point). and_then (found Cause.State o) (λ (q : Point). saving s q (own_instance s))) leads
      ∙ ap (saving s p) (own_is own there)
      ∙ ap (λ (f : Bool). and_then (ok_if (not f) Cause.State (saved_at s p i x)) (λ (u : State). Ok (next u)))
      unfreed
