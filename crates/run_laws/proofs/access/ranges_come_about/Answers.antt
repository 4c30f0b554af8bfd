use Rattle.run_laws.proofs.access.Held.{fresh_held, grown_held, home_held, others_held, turned_held}
use Rattle.run_laws.proofs.access.ranges_come_about.Goals as goal

pub returns-clause-fresh : goal.returns-clause-fresh
returns-clause-fresh c = fresh_held

pub returns-clause-home : goal.returns-clause-home
returns-clause-home c = home_held

pub returns-clause-others : goal.returns-clause-others
returns-clause-others c = others_held

pub returns-clause-grown : goal.returns-clause-grown
returns-clause-grown c = grown_held

pub returns-clause-turned : goal.returns-clause-turned
returns-clause-turned c = turned_held
