-- Lemmas on threads, that speak of no pass.
use Rattle.std.proofs.Common.{◌≡◌, ◌⊎◌, ℕ, None, Some}
use Rattle.std.specs.Prelude.{slice_get}
use Rattle.rule_uses.specs.Undefined.{params_of}
use Rattle.ir_laws.specs.flow_solver.Paths.{IsListed}
use Rattle.ir_parts.specs.Contents.{ending_operands}
use Rattle.ir_laws.specs.ir_model.Names.{position_of}
use Rattle.ir_laws.specs.ir_model.declared.module.Block.{Block}
use Rattle.ir_laws.specs.ir_model.declared.module.Function.{Function}
use Rattle.ir_laws.specs.ir_paths.Paths.{targets}
use Rattle.ir_laws.proofs.paths.threaded.Threads.{IsBlockOver, IsMovedBlock, LeadsBack, LeadsForth, Moves, ended}

pub record IsThreaded (f g : Function) (s : Moves) : Type 0 where
  pub params : params_of g ≡ params_of f
  pub entry : s.spot 0 ≡ 0
  pub spots : (j k : ℕ) → s.spot j ≡ s.spot k → j ≡ k
  pub there : (k : ℕ) (b : Block) → slice_get f.blocks k ≡ Some b → slice_get g.blocks (s.spot k) ≡ Some (ended b (s.term k b))
  pub missing : (k : ℕ) → slice_get f.blocks k ≡ None → slice_get g.blocks (s.spot k) ≡ None
  pub home : (at : ℕ) (c : Block) → slice_get g.blocks at ≡ Some c → IsMovedBlock f s at c ⊎ IsBlockOver f g s at c
  pub old : (k : ℕ) (b : Block) (target : ℕ) → slice_get f.blocks k ≡ Some b → IsListed target (targets b.term) → position_of g target ≡ s.spot (position_of f target)
  pub forth : (k : ℕ) (b : Block) (target : ℕ) → slice_get f.blocks k ≡ Some b → IsListed target (targets b.term) → LeadsForth f g s k b target
  pub back : (k : ℕ) (b : Block) (label : ℕ) → slice_get f.blocks k ≡ Some b → IsListed label (targets (s.term k b)) → LeadsBack f g s k b label
  pub operands : (k : ℕ) (b : Block) → ending_operands (s.term k b) ≡ ending_operands b.term
