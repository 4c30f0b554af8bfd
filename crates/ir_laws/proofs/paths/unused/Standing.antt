-- Where an instruction stands.
use Rattle.std.proofs.Common.{◌≡◌, refl}
use Rattle.std.specs.Prelude.{None, Option, Some, slice_get}
use Rattle.run_laws.specs.ir_model.declared.instr.Instr.{Instr}
use Rattle.run_laws.specs.ir_model.declared.module.Block.{Block}
use Rattle.run_laws.specs.ir_model.declared.module.Function.{Function}
use Rattle.run_laws.specs.ir_paths.Windows.{instr_at, instr_in}
use Rattle.run_laws.specs.ir_paths.declared.point.Point.{Point}

pub record IsAt (f : Function) (p : Point) (i : Instr) : Type 0 where
  pub block : Block
  pub got : slice_get f.blocks p.block ≡ Some block
  pub there : slice_get block.instrs p.at ≡ Some i

pub stands_at : (f : Function) (p : Point) (i : Instr) → instr_at f p ≡ Some i → IsAt f p i
stands_at f p i e = on (slice_get f.blocks p.block) refl e
  where
    on : (o : Option Block) → slice_get f.blocks p.block ≡ o → instr_in o p.at ≡ Some i → IsAt f p i
    on None d h = absurd (cc)
    on (Some b) d h = record { block = b; got = d; there = h }
