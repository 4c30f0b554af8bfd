use Rattle.std.proofs.Common.{◌++◌, ◌∷◌, ◌∙◌, List, [], ap, arith, length, replicate, subst, sym, ℕ}
use Rattle.std.specs.Prelude.{slice_get}
use Rattle.ir_paths.specs.ir_model.declared.module.Block.{Block}
use Rattle.ir_paths.specs.declared.point.Point.{Point}
use Rattle.flow_points.specs.Edges.{AreIncoming}
use Rattle.flow_points.proofs.Filing.{entries-of-row, filed-last, filed-next, filed-start}
use Rattle.flow_points.proofs.Tests.{read_at}
use Rattle.flow_points.proofs.edges.incoming.Goals as goal

pub loop-block-init : goal.loop-block-init
loop-block-init c =
    filed-start c.args.function.now c.in_ok-rows.rows.items c.push.new.self.items
    (c.in_ok-rows.ensures ∙ ap (λ (l : List Block). replicate (length l) []) c.as_slice-blocks.ensures)
    (c.in_ok-push.ensures.items ∙ ap (λ (row : List Point). c.in_ok-rows.rows.items ++ row ∷ []) c.new.ensures)

pub file-requires : goal.file-requires
file-requires c =
    entries-of-row c.args.function.now c.loop-block.block c.index-blocks-block.result c.args.outgoing.now c.row_of.result.now c.loop-block.rows.items
    (ap (λ l. slice_get l c.loop-block.block) (sym c.as_slice-blocks.ensures) ∙ read_at c.as_slice-blocks.result.now c.loop-block.block c.index-blocks-block.result c.loop-block-test.true c.index-blocks-block.is)
    c.requires c.row_of.ensures c.loop-block.invariant

pub loop-block-preserved : goal.loop-block-preserved
loop-block-preserved c =
    filed-next c.args.function.now c.loop-block.block c.index-blocks-block.result _ c.args.outgoing.now c.row_of.result.now c.loop-block.rows.items c.file.new.rows.items
    (ap (λ l. slice_get l c.loop-block.block) (sym c.as_slice-blocks.ensures) ∙ read_at c.as_slice-blocks.result.now c.loop-block.block c.index-blocks-block.result c.loop-block-test.true c.index-blocks-block.is)
    c.requires c.row_of.ensures (ap (λ (n : ℕ). record { block = c.loop-block.block; at = n }) (c.len.ensures ∙ ap (λ (b : Block). length b.instrs) (sym c.index-blocks-block.is))) c.in_ok-file.ensures c.loop-block.invariant

pub returns : goal.returns
returns c =
    subst (AreIncoming c.args.function.now) (sym c.from_vec.ensures)
    (filed-last c.args.function.now c.loop-block.block c.loop-block.rows.items (let len = ap (length {A = Block}) c.as_slice-blocks.ensures in let le = c.loop-block-test.false in omega (arith, len, le)) c.loop-block.invariant)
