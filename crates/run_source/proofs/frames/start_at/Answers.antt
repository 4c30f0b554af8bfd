use Rattle.std.proofs.Common.{◌∙◌, ap, List}
use Rattle.std.specs.Prelude.{filter, not}
use Rattle.run_source.specs.Source.{is_among}
use Rattle.run_source.specs.SourceEffects.{given_of}
use Rattle.run_source.specs.State.{own_facts}
use Rattle.run_source_tables.specs.run_step.declared.world.Slot.{Slot}
use Rattle.run_source.proofs.Beginning.{begun-is}
use Rattle.run_source.proofs.frames.start_at.Goals as goal

pub returns-clause-done : goal.returns-clause-done
returns-clause-done c =
    let g = given_of c.args.given.now in
    let s = c.args.state.now in
    let ramp = (own_facts g s).ramp_slots in
    begun-is g s c.args.block c.args.start c.len-i.result c.begin.new.self c.in_ok-shares.shares.kept c.in_ok-shares.shares.own c.len-i.ensures c.in_ok-begin.ensures.ok
    (c.in_ok-shares.ensures.kept ∙ ap (λ (l : List Slot). filter (λ slot. not (is_among ramp slot)) l) c.as_slice.ensures)
    (c.in_ok-shares.ensures.own ∙ ap (λ (l : List Slot). filter (λ slot. is_among ramp slot) l) c.as_slice.ensures)
