use Rattle.std.proofs.Common.{◌∙◌, sym}
use Rattle.run_source.specs.SourceEffects.{given_of}
use Rattle.run_source.proofs.Slots.{owner-ramp}
use Rattle.run_source.proofs.stepping.owner_of.Goals as goal

pub returns-then-is_ramp_slot : goal.returns-then-is_ramp_slot
returns-then-is_ramp_slot c = owner-ramp (given_of c.args.given.now) c.args.state.now c.args.alloca c.in-Some.i c.in-Some-get.instance.now c.in-Some.is c.in-Some-get.ensures (sym c.if-is_ramp_slot.true ∙ c.is_ramp_slot.ensures)
