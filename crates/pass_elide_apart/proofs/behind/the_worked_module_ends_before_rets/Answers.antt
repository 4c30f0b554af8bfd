use Rattle.pass_elide_apart.proofs.WorkedRets.{worked_end, worked_module_rets}
use Rattle.pass_elide_apart.proofs.behind.the_worked_module_ends_before_rets.Goals as goal

pub returns-clause-rets : goal.returns-clause-rets
returns-clause-rets c func = worked_module_rets func

pub returns-clause-one : goal.returns-clause-one
returns-clause-one c p q first second = worked_end p q first second
