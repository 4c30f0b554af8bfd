-- A jump is afforded: an ordinary one leaves the credit, and one from a block on a resume or destroy edge spends it.
use Rattle.std.proofs.Common.{◌≡◌, ℕ, ◌+◌, ◌≤◌, Bool, true, false, length, Some, refl, arith}
use Rattle.std.specs.Prelude.{if◌then◌else◌, not, slice_get, ◌&&◌, ◌==◌}
use Rattle.pass_frames_proof.specs.flow_solver.Paths.{IsListed}
use Rattle.pass_frames_proof.proofs.ir_laws.facts.Truth.{itself}
use Rattle.pass_frames_proof.specs.ir_model.Names.{position_of}
use Rattle.pass_frames_proof.specs.ir_model.declared.instr.Terminator.{Terminator}
use Rattle.pass_frames_proof.specs.ir_paths.Paths.{targets}
use Rattle.pass_frames_prices.proofs.priced.Left.{leads_away}
use Rattle.pass_frames_prices.specs.FramePrices.{coroutine_price, credit, full_price, goes_on, price_by, returns_by}
use Rattle.pass_frames_proof.specs.Framings.{IsFraming}
use Rattle.pass_frames_proof.specs.Passes.{block_at}
use Rattle.pass_frames_proof.specs.Places.{Framing, edged, instrs_at, is_return}
use Rattle.pass_frames_proof.specs.rule_laws.frames.rows.Returns.{HaveOwnReturns}

ordinary : (names operands : ℕ) (g r : Bool) → g ≡ true
    → price_by (full_price names operands) (credit names) false g + (if r then credit names else 0)
    ≤ full_price names operands + 0
ordinary names operands false r e = absurd (cc)
ordinary names operands true true e = omega arith
ordinary names operands true false e = omega arith

spent : (full left : ℕ) (first g r : Bool) → r ≡ false
    → price_by full left first g + (if r then left else 0) ≤ full + (if first then left else 0)
spent full left first g true e = absurd (cc)
spent full left true g false e = omega arith
spent full left false true false e = omega arith
spent full left false false false e = omega arith

both : (a b : Bool) → a ≡ true → b ≡ false → (a && not b) ≡ true
both true false e d = refl
both true true e d = absurd (cc)
both false b e d = absurd (cc)

module _ (x : Framing) (is : IsFraming x) (own : HaveOwnReturns (edged x)) (names operands k label : ℕ)
    (there : slice_get (edged x).blocks k ≡ Some (block_at (edged x) k))
    (leads : IsListed label (targets (block_at (edged x) k).term)) where
  abbrev at : ℕ
  at = length (instrs_at x k)

  abbrev target : ℕ
  target = position_of (edged x) label

  -- a return leads nowhere
  no_return : (t : Terminator) → IsListed label (targets t) → returns_by t ≡ false
  no_return (Terminator.Jump l) h = refl
  no_return (Terminator.Branch c a b) h = refl
  no_return (Terminator.Switch arg default cases) h = refl
  no_return (Terminator.Ret arg) h = absurd h
  no_return Terminator.Unreachable h = refl

  goes : goes_on x k at ≡ true
  goes =
      both (at == length (instrs_at x k)) (returns_by (block_at (edged x) k).term) (itself at)
      (no_return (block_at (edged x) k).term leads)

  afforded_by : (r : Bool) → is_return x k ≡ r
      → price_by (full_price names operands) (credit names) (r && (at == 0)) (goes_on x k at)
      + (if is_return x target then credit names else 0)
      ≤ full_price names operands + (if r && (at == 0) then credit names else 0)
  afforded_by false e = ordinary names operands (goes_on x k at) (is_return x target) goes
  afforded_by true e =
      spent (full_price names operands) (credit names) (at == 0) (goes_on x k at) (is_return x target)
      (leads_away x is own k label there leads e)

  pub afforded : coroutine_price (full_price names operands) (credit names) x k at
      + (if is_return x target then credit names else 0)
      ≤ full_price names operands + (if is_return x k && (at == 0) then credit names else 0)
  afforded = afforded_by (is_return x k) refl
