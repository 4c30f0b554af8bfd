-- Lemmas on written, that speak of no pass.
use Rattle.std.proofs.Common.{List, [], ◌∷◌}
use Rattle.ir_laws.specs.ir_base.declared.name.Name.{Name}
use Rattle.ir_laws.specs.ir_model.declared.module.Block.{Block}
use Rattle.ir_laws.specs.run_laws.changed.Changed.{Each}
use Rattle.text_canonical.specs.order.Shape as shape

pub some_blocks : (names : List Name) (bs : List Block) → shape.Some_of (shape.IsBlock names) bs → shape.Each (shape.IsBlock names) bs
some_blocks names [] h = absurd h
some_blocks names (b ∷ bs) h = h
