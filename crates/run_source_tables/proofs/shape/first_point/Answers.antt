use Rattle.std.proofs.Common.{◌∙◌, ap, sym, arith, List}
use Rattle.std.specs.Prelude.{slice_get}
use Rattle.ir_model.specs.Names.{first_where}
use Rattle.ir_model.specs.declared.instr.Instr.{Instr}
use Rattle.ir_model.specs.declared.module.Block.{Block}
use Rattle.ir_paths.specs.Windows.{points_in}
use Rattle.run_source_tables.specs.Lookups.{sought}
use Rattle.run_source_tables.proofs.Walks.{points-here, points-next, points-end}
use Rattle.run_source_tables.proofs.shape.first_point.Goals as goal

pub returns-in-Some : goal.returns-in-Some
returns-in-Some c =
    let test = λ (i : Instr). sought c.args.what i in
    let found = ap (λ (b : Block). first_where test b.instrs) c.index-blocks-block.is ∙ ap (λ (l : List Instr). first_where test l) (sym c.as_slice.ensures) ∙ sym c.first_in.ensures ∙ c.in-Some.is in
    sym
    (ap (λ (l : List Block). slice_get (points_in test 0 l) 0) (sym c.as_slice-blocks.ensures)
    ∙ c.loop-block.invariant
    ∙ points-here test c.as_slice-blocks.result.now c.loop-block.block c.index-blocks-block.result c.in-Some.at c.loop-block-test.true c.index-blocks-block.is found)

pub loop-block-preserved : goal.loop-block-preserved
loop-block-preserved c =
    let test = λ (i : Instr). sought c.args.what i in
    let none = ap (λ (b : Block). first_where test b.instrs) c.index-blocks-block.is ∙ ap (λ (l : List Instr). first_where test l) (sym c.as_slice.ensures) ∙ sym c.first_in.ensures ∙ c.in_default.is in
    c.loop-block.invariant ∙ points-next test c.as_slice-blocks.result.now c.loop-block.block c.index-blocks-block.result c.loop-block-test.true c.index-blocks-block.is none

pub returns : goal.returns
returns c =
    let test = λ (i : Instr). sought c.args.what i in
    sym
    (ap (λ (l : List Block). slice_get (points_in test 0 l) 0) (sym c.as_slice-blocks.ensures)
    ∙ c.loop-block.invariant
    ∙ points-end test c.as_slice-blocks.result.now c.loop-block.block (omega arith))
