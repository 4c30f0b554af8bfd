use Rattle.pass_elide_ready.proofs.Forms.{shapes, wakes, starts}
use Rattle.pass_elide_ready.proofs.shapes.forms_have_shapes.Goals as goal

pub returns-clause-shapes : goal.returns-clause-shapes
returns-clause-shapes c = shapes

pub returns-clause-wakes : goal.returns-clause-wakes
returns-clause-wakes c = wakes

pub returns-clause-starts : goal.returns-clause-starts
returns-clause-starts c = starts
