-- Lemmas on uses, that speak of no pass.
use Rattle.std.proofs.Common.{◌≡◌, refl}
use Rattle.std.specs.Prelude.{Some, None, Option, slice_get}
use Rattle.ir_laws.proofs.paths.renamed.Fits.{stands}
use Rattle.run_laws.specs.ir_model.declared.instr.Instr.{Instr}
use Rattle.run_laws.specs.ir_model.declared.module.Block.{Block}
use Rattle.run_laws.specs.ir_model.declared.module.Function.{Function}
use Rattle.run_laws.specs.ir_paths.Windows.{instr_at, instr_in}
use Rattle.run_laws.specs.ir_paths.declared.point.Point.{Point}

-- the instruction at a point stands in a block
pub record StandsIn (f : Function) (p : Point) (i : Instr) : Type 0 where
  pub block : Block
  pub got : slice_get f.blocks p.block ≡ Some block
  pub stands : slice_get block.instrs p.at ≡ Some i

pub stands_in : (f : Function) (p : Point) (i : Instr) → instr_at f p ≡ Some i → StandsIn f p i
stands_in f p i e = on (slice_get f.blocks p.block) refl e
  where
    on : (o : Option Block) → slice_get f.blocks p.block ≡ o → instr_in o p.at ≡ Some i → StandsIn f p i
    on None d k = absurd (cc)
    on (Some b) d k = record { block = b; got = d; stands = k }
