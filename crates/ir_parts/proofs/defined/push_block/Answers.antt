use Rattle.std.proofs.Common.{◌∙◌, ap, true}
use Rattle.ir_model.specs.ir_base.declared.outcome.Place.{Place}
use Rattle.ir_parts.specs.Locals.{local_at}
use Rattle.ir_parts.proofs.LocalsIn.{block_pushed}
use Rattle.ir_parts.proofs.defined.push_block.Goals as goal

pub returns : goal.returns
returns c =
    block_pushed c.args.all.now c.push.new.self c.push_phis.new.all c.push_instrs.new.all c.args.func c.args.at c.args.block.now c.as_slice-phis.result.now c.as_slice.result.now c.label_at.result (c.label_at.ensures ∙ ap (λ (p : Place). local_at p true c.args.block.now.label) c.block_place.ensures) c.as_slice-phis.ensures c.as_slice.ensures c.in_ok-push.ensures.ok c.in_ok-push_phis.ensures c.in_ok-push_instrs.ensures
