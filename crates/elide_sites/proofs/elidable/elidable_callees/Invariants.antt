use Rattle.elide_sites.specs.Chosen.{AreChosen, up_to}
use Rattle.elide_sites.specs.Elidable.{IsElidable}
use Rattle.ir_model.specs.Names.{function_at}
use Rattle.elide_sites.proofs.elidable.elidable_callees.Given as goal

abbrev pub invariant-loop-at : goal.invariant-loop-at
invariant-loop-at l = AreChosen (λ g. IsElidable (function_at l.module g)) (up_to l.at) l.all
