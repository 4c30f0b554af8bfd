use Rattle.std.proofs.Common.{ap, sym, ◌∙◌, List, Some, arith}
use Rattle.std.specs.Prelude.{slice_get, ◌==◌}
use Rattle.std.specs.HashMap.{get}
use Rattle.ir_model.specs.declared.instr.Instr.{Instr}
use Rattle.ir_model.specs.declared.module.Block.{Block}
use Rattle.flow_points.specs.ir_paths.Windows.{is_suspend_of, points_from, points_in}
use Rattle.flow_facts.specs.Tokens.{or_head}
use Rattle.flow_facts.proofs.Heads.{head-block}
use Rattle.flow_facts.proofs.Points.{take-all}
use Rattle.flow_facts.proofs.tokens.tokens_of.Goals as goal

pub loop-block-preserved : goal.loop-block-preserved
loop-block-preserved c = λ t.
    head-block t c.as_slice-blocks.result.now c.loop-block.block c.index-blocks-block.result (get ◌==◌ c.loop-block.tokens t) (get ◌==◌ c.note_all.new.tokens t) c.loop-block-test.true c.index-blocks-block.is (c.loop-block.invariant t)
    (c.in_ok-note_all.ensures t
    ∙ ap (λ (l : List Instr). or_head (get ◌==◌ c.loop-block.tokens t) (points_from (is_suspend_of (Some t)) c.loop-block.block 0 l)) (c.as_slice.ensures ∙ ap (λ (b : Block). b.instrs) (sym c.index-blocks-block.is)))

pub returns : goal.returns
returns c =
    record {
      first = λ t.
          c.loop-block.invariant t
          ∙ ap (λ (bs : List Block). slice_get (points_in (is_suspend_of (Some t)) 0 bs) 0) (take-all c.as_slice-blocks.result.now c.loop-block.block (let le = c.loop-block-test.false in omega (arith, le)) ∙ c.as_slice-blocks.ensures);
    }
