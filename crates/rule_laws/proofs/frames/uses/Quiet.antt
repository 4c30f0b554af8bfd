-- Where a value isn't used: what is said of a value along paths of a function, whichever way that is told.
use Rattle.std.proofs.Common.{◌≡◌, ℕ, ◌+◌, Bool, true, false, List, [], ◌∷◌}
use Rattle.std.specs.Prelude.{Some, slice_get}
use Rattle.ir_laws.proofs.paths.crossing.Spots.{Spot}
use Rattle.ir_laws.specs.facts.crossing.Crossed.{is_switch}
use Rattle.rule_uses.specs.Uses.{locals_in, phi_values}
use Rattle.ir_laws.specs.flow_solver.Paths.{IsListed}
use Rattle.ir_parts.specs.Contents.{ending_operands, result_of}
use Rattle.pass_intrinsics.specs.Cuts.{cut_at}
use Rattle.pass_intrinsics.specs.declared.cuts.Cut.{Cut}
use Rattle.pass_intrinsics.specs.declared.shape.Part.{Part}
use Rattle.pass_intrinsics.specs.declared.shape.Shape.{Shape}
use Rattle.ir_laws.specs.ir_model.Names.{position_of}
use Rattle.ir_laws.specs.ir_model.declared.instr.Incoming.{Incoming}
use Rattle.ir_laws.specs.ir_model.declared.instr.Instr.{Instr}
use Rattle.ir_laws.specs.ir_model.declared.instr.Phi.{Phi}
use Rattle.ir_laws.specs.ir_model.declared.instr.Terminator.{Terminator}
use Rattle.ir_laws.specs.ir_model.declared.module.Block.{Block}
use Rattle.ir_laws.specs.ir_model.declared.module.Function.{Function}
use Rattle.ir_laws.specs.ir_model.declared.operand.Intrinsic.{Intrinsic}
use Rattle.ir_laws.specs.ir_model.declared.operand.Operand.{Operand}
use Rattle.ir_laws.specs.ir_paths.Paths.{targets}
use Rattle.ir_laws.specs.ir_paths.Windows.{is_call_of}
use Rattle.rule_laws.proofs.frames.uses.Lowering.{ComesBy, IsLowered}
use Rattle.rule_laws.proofs.rules.uses.Plain.{IsPlain}

-- A value isn't used on paths of a function: A says so of paths that come to the front of a block, and N of those that come to a place in
-- a block, before some instructions. Paths end where the part returns.
pub record IsQuiet (f h : Function) (s : Shape) (part : Part) (v : ℕ) (A : ℕ → Type 0) (N : ℕ → ℕ → Block → List Instr → Type 0) : Type 0 where
  pub front : (q : ℕ) (b : Block) → slice_get h.blocks q ≡ Some b → A q → (IsListed v (phi_values b) → ⊥) → N q 0 b b.instrs
  pub used : (q at : ℕ) (b : Block) (i : Instr) (is : List Instr) → Spot h q at b (i ∷ is) → N q at b (i ∷ is) → (cut_at s part i is ≡ Cut.Returns → ⊥) → ComesBy f s part i v → ⊥
  pub next : (q at : ℕ) (b : Block) (i : Instr) (is : List Instr) → Spot h q at b (i ∷ is) → N q at b (i ∷ is) → (cut_at s part i is ≡ Cut.Returns → ⊥) → (result_of i ≡ Some v → ⊥) → N q (at + 1) b is
  pub term : (q at : ℕ) (b : Block) → Spot h q at b [] → N q at b [] → IsListed v (locals_in (ending_operands b.term)) → ⊥
  pub edge : (q at : ℕ) (b : Block) → Spot h q at b [] → N q at b [] → (label : ℕ) → IsListed label (targets b.term) → A (position_of h label)
  pub phi : (q at : ℕ) (b : Block) → Spot h q at b [] → N q at b [] → (to : ℕ) (c : Block) (x : Phi) (i : Incoming) → slice_get h.blocks to ≡ Some c → IsListed x c.phis → IsListed i x.incoming → i.value ≡ Operand.Local v → position_of h i.from ≡ q → ⊥

-- ---- what the rules say of the instructions that are left of a block

abbrev pub suspends : Instr → Bool
suspends i = is_call_of Intrinsic.CoroSuspend i

-- what is lowered in the place of each is as it should be; a suspend is the last, before a switch; and where there is none, the terminator uses no token
abbrev pub AreTold : Function → Shape → Part → List Instr → Terminator → Type 0
AreTold f s part [] t = (v : ℕ) → IsListed v (locals_in (ending_operands t)) → IsPlain f v
AreTold f s part (i ∷ is) t = IsLowered f s part i × ((suspends i ≡ true → (is ≡ []) × (is_switch t ≡ true)) × (suspends i ≡ false → AreTold f s part is t))
