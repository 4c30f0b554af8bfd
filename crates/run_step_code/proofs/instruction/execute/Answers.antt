use Rattle.run_step_code.proofs.instruction.execute.Goals as goal

pub returns-in-Binary-clause-done : goal.returns-in-Binary-clause-done
returns-in-Binary-clause-done g c = λ f. rw c.in-Binary.is (c.binary.ensures.done (g.R.AccessRights.rights c.args.rights.now) f c.args.world.now)

pub returns-in-Icmp-clause-done : goal.returns-in-Icmp-clause-done
returns-in-Icmp-clause-done g c = λ f. rw c.in-Icmp.is (c.icmp.ensures.done f)

pub returns-in-Load-clause-done : goal.returns-in-Load-clause-done
returns-in-Load-clause-done g c = λ f. rw c.in-Load.is (c.load.ensures.done f)

pub returns-in-Store-clause-done : goal.returns-in-Store-clause-done
returns-in-Store-clause-done g c = λ f. rw c.in-Store.is (c.store.ensures.done f)
