-- The prices that pay for frames, by the code of the coroutine with blocks on edges and the places of its framed form.
use Rattle.std.specs.Prelude.{◌≡◌, ◌≤◌, ℕ, ◌+◌, ◌-◌, ◌*◌, Bool, true, false, List, [], ◌∷◌, Some, Option, length, option_map}
use Rattle.std.specs.Prelude.{not, slice_get, if◌then◌else◌, ◌&&◌, ◌==◌}
use Rattle.pass_frames_proof.specs.ir_model.Names.{function_at}
use Rattle.pass_frames_proof.specs.ir_model.declared.instr.Instr.{Instr}
use Rattle.pass_frames_proof.specs.ir_model.declared.instr.Terminator.{Terminator}
use Rattle.pass_frames_proof.specs.ir_model.declared.module.Module.{Module}
use Rattle.pass_frames_proof.specs.ir_parts.Contents.{instr_operands}
use Rattle.pass_frames_proof.specs.ir_paths.declared.point.Point.{Point}
use Rattle.pass_frames_proof.specs.Costs.{allocas_before, slot_cost}
use Rattle.pass_frames_prices.specs.Bounds.{behind_of}
use Rattle.pass_frames_prices.specs.Numbers.{most_names, names_of}
use Rattle.pass_frames_proof.specs.Passes.{block_at}
use Rattle.pass_frames_proof.specs.Places.{Framing, edged, instrs_at, is_return}
use Rattle.pass_frames_proof.specs.Related.{Building, is_coroutine}
use Rattle.pass_frames_proof.specs.pass_renewed_proof.Prices.{Prices}
use Rattle.pass_frames_proof.specs.pass_renewed_proof.Renewed.{Flags, renewed_from}
use Rattle.pass_frames_proof.specs.run_agreement.Factor.{most_operands_of_functions, most_phis_of_functions}
use Rattle.pass_frames_proof.specs.run_source.declared.state.Activation.{Activation}
use Rattle.pass_frames_proof.specs.run_source.declared.state.State.{State}

-- ---- by code

-- the first alloca of the entry from a position on that is made anew
abbrev pub first_flagged : Flags → Module → ℕ → ℕ → Option ℕ
first_flagged flags code func at =
    option_map (λ (p : Point). p.at) (renewed_from (flags func) (function_at code func) at)

abbrev pub returns_by : Terminator → Bool
returns_by (Terminator.Ret arg) = true
returns_by _ = false

-- a terminator is next that is no return
abbrev pub goes_on : Framing → ℕ → ℕ → Bool
goes_on x block at = (at == length (instrs_at x block)) && not (returns_by (block_at (edged x) block).term)

-- ---- prices

-- what a step may cost on average: 4 for each name and operand and for the step
abbrev pub full_price : (names operands : ℕ) → ℕ
full_price names operands = 4 * (1 + names + operands)

-- what a resume or a jump leaves for a jump from a block on a resume or destroy edge
abbrev pub credit : ℕ → ℕ
credit names = 1 + names

abbrev pub price_by : (full left : ℕ) → (returned goes : Bool) → ℕ
price_by full left true goes = full + left
price_by full left false true = full - left
price_by full left false false = full

abbrev pub coroutine_price : (full left : ℕ) → Framing → ℕ → ℕ → ℕ
coroutine_price full left x block at =
    price_by full left (is_return x block && (at == 0)) (goes_on x block at)

-- a resume has the price of its own step and of the allocas before the first slot that is made anew
abbrev pub frame_prices : Building → Flags → Module → (names operands : ℕ) → Prices
frame_prices b flags code names operands = record {
  step = λ func block at.
      if is_coroutine b func
      then coroutine_price (full_price names operands) (credit names) (b.framing func) block at
      else full_price names operands;
  resume = λ func. 3 + operands + allocas_before (b.framing func) (first_flagged flags code func 0);
  slot = λ func at. slot_cost (b.framing func) at (first_flagged flags code func (at + 1));
}

-- ---- numbers by which they fit

-- of one coroutine with blocks on edges: its names, operands of an instruction, phis of a block
pub record IsWithin (names operands : ℕ) (x : Framing) : Type 0 where
  pub few : names_of (edged x) ≤ names
  pub operand : (k at : ℕ) (i : Instr) → slice_get (instrs_at x k) at ≡ Some i → length (instr_operands i) ≤ operands
  pub phi : (k : ℕ) → length (block_at (edged x) k).phis ≤ operands

-- of each coroutine
pub record AreWithin (b : Building) (names operands : ℕ) : Type 0 where
  pub each : (func : ℕ) → is_coroutine b func ≡ true → IsWithin names operands (b.framing func)

-- what building frames costs on average is 4 times this: a name counts once for the function that has most
abbrev pub frames_factor : Module → ℕ
frames_factor m =
    1 + most_names m.functions + (most_operands_of_functions m.functions + most_phis_of_functions m.functions)

-- ---- what a return comes back to

-- an activation below stands right behind an instruction, behind which at most the store of its result was put in
pub record IsBehindOne (x : Framing) (a : Activation) : Type 0 where
  pub at : ℕ
  pub behind : a.at ≡ at + 1
  pub instr : Instr
  pub there : slice_get (instrs_at x a.block) at ≡ Some instr
  pub none : behind_of x instr ≡ 0

-- so does the topmost of these, if it is a coroutine's
abbrev pub ComesBehindOne : Building → List Activation → Type 0
ComesBehindOne b [] = Unit {0}
ComesBehindOne b (a ∷ below) = is_coroutine b a.func ≡ true → IsBehindOne (b.framing a.func) a

-- ---- what is left for a jump from a block on a resume or destroy edge

-- the activation on top is in front of such a jump
abbrev pub is_before_jump : Building → State → Bool
is_before_jump b s =
    is_coroutine b s.top.func && (is_return (b.framing s.top.func) s.top.block && (s.top.at == 0))

abbrev pub left_at : Building → (names : ℕ) → State → ℕ
left_at b names s = if is_before_jump b s then credit names else 0

-- a step and what is left behind it cost no more than what is full and what was left before it
abbrev pub IsAfforded : (full : ℕ) → (left price : State → ℕ) → (s t : State) → Type 0
IsAfforded full left price s t = price s + left t ≤ full + left s
