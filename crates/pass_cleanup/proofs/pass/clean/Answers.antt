use Rattle.std.proofs.Common.{rules, ◌≡◌}
use Rattle.pass_cleanup.proofs.Freed.{result_freed}
use Rattle.pass_cleanup.proofs.Simulation.{result_agrees}
use Rattle.pass_cleanup.proofs.pass.clean.Goals as goal
use Rattle.pass_cleanup.specs.Cleanup.{clean_module}
use Rattle.ir_model.specs.declared.module.Module.{Module}

pub returns-clause-agrees : goal.returns-clause-agrees
returns-clause-agrees c =
    let x : Module = record { types = c.in_ok-copied.field-0; globals = c.in_ok-copied-2.field-0; declarations = c.in_ok-clean_declarations.field-0; functions = c.in_ok-clean_functions.field-0 } in
    let e : x ≡ clean_module c.args.source.now = search rules in
    result_agrees c.args.source.now x e

pub returns-clause-free : goal.returns-clause-free
returns-clause-free c =
    let x : Module = record { types = c.in_ok-copied.field-0; globals = c.in_ok-copied-2.field-0; declarations = c.in_ok-clean_declarations.field-0; functions = c.in_ok-clean_functions.field-0 } in
    let e : x ≡ clean_module c.args.source.now = search rules in
    result_freed c.args.source.now x e
