use Rattle.std.proofs.Common.{arith, ap, ◌<◌, length}
use Rattle.run_step.proofs.Tables.{first_where-within}
use Rattle.run_step.proofs.program.Program.address_of.Goals as goal

pub prove-unreachable-requires : goal.prove-unreachable-requires
prove-unreachable-requires c =
    let h : c.in-Some-declaration_named.declaration < length c.args.self.now.module.declarations = first_where-within _ c.args.self.now.module.declarations c.in-Some-declaration_named.declaration c.in-Some-declaration_named.ensures.position in
    let e = ap length c.as_slice-declarations.ensures in
    omega (arith, h, e, c.if-prove.true)
