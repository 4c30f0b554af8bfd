-- The sizes of allocas, cut off at 2^64 - 1.
use Rattle.std.specs.Prelude.{ℕ, Option, option_map}
use Rattle.ir_model.specs.declared.instr.Instr.{Instr}
use Rattle.ir_model.specs.declared.module.Block.{Block}
use Rattle.ir_model.specs.declared.module.Module.{Module}
use Rattle.rule_locals.specs.Markers.{made_size}
use Rattle.ir_locals.specs.Tables.{first_in}
use Rattle.ir_sizes.specs.Cut.{capped}

abbrev pub cut_size : Module → Instr → ℕ → Option ℕ
cut_size m i n = option_map capped (made_size m i n)

abbrev pub cut_block : Module → Block → ℕ → Option ℕ
cut_block m b n = first_in (cut_size m) b.instrs n
