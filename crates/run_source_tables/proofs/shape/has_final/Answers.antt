use Rattle.std.proofs.Common.{◌∙◌, ap, sym, List, arith}
use Rattle.std.specs.List.{list_any}
use Rattle.ir_model.specs.declared.instr.Instr.{Instr}
use Rattle.ir_model.specs.declared.module.Block.{Block}
use Rattle.run_step.proofs.Lists.{any-found, any-end}
use Rattle.run_source_tables.specs.Lookups.{is_final_suspend}
use Rattle.run_source_tables.proofs.Finals.{finals}
use Rattle.run_source_tables.proofs.shape.has_final.Goals as goal

pub returns-then-has_final_in : goal.returns-then-has_final_in
returns-then-has_final_in c =
    let test = λ (b : Block). list_any is_final_suspend b.instrs in
    let blocks = c.as_slice-block-items.result.now in
    any-found test blocks c.loop-block.block-index c.block-item.result (omega arith) c.block-item.is c.loop-block.invariant (ap (λ (l : List Instr). list_any is_final_suspend l) (sym c.as_slice.ensures) ∙ sym c.has_final_in.ensures ∙ c.if-has_final_in.true)
    ∙ ap (λ (l : List Block). list_any test l) c.as_slice-block-items.ensures
    ∙ sym (finals c.args.function.now)

pub returns : goal.returns
returns c =
    let test = λ (b : Block). list_any is_final_suspend b.instrs in
    let blocks = c.as_slice-block-items.result.now in
    any-end test blocks c.loop-block.block-index (omega arith) c.loop-block.invariant
    ∙ ap (λ (l : List Block). list_any test l) c.as_slice-block-items.ensures
    ∙ sym (finals c.args.function.now)
