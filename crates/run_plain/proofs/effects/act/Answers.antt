use Rattle.std.proofs.Common.{◌≡◌}
use Rattle.run_plain.specs.PlainEffects.{given_of}
use Rattle.run_plain.proofs.effects.act.Goals as goal

pub returns-in-Ok-free-clause-done : goal.returns-in-Ok-free-clause-done
returns-in-Ok-free-clause-done c = rw c.in-Deallocate.is (c.in-Ok-free.ensures.done (given_of c.args.program.now))

pub returns-in-Deallocate-clause-refused : goal.returns-in-Deallocate-clause-refused
returns-in-Deallocate-clause-refused c = rw c.in-Deallocate.is (c.in-Err-free.ensures.refused (given_of c.args.program.now))
