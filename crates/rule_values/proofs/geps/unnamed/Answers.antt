use Rattle.std.proofs.Common.{◌≡◌, ◌∙◌, ap, sym}
use Rattle.ir_model.specs.Ty.{named}
use Rattle.ir_model.specs.TypeView.{ty_of}
use Rattle.rule_values.proofs.Parts.{unnamed_none, unnamed_gone, unnamed_there}
use Rattle.rule_values.proofs.geps.unnamed.Goals as goal

pub returns-in-None : goal.returns-in-None
returns-in-None c =
    let is : named c.in-Named.name ≡ c.args.ty.now = ap ty_of (sym c.in-Named.is) ∙ c.node.ensures in
    unnamed_none c.args.names.now.source.now c.args.ty.now c.in-Named.name is c.in-None.ensures

pub returns-in-None-get : goal.returns-in-None-get
returns-in-None-get c =
    let is : named c.in-Named.name ≡ c.args.ty.now = ap ty_of (sym c.in-Named.is) ∙ c.node.ensures in
    unnamed_gone c.args.names.now.source.now c.args.ty.now c.in-Named.name c.in-Some.at is c.in-Some.ensures c.in-None-get.ensures

pub returns-in-Some-get : goal.returns-in-Some-get
returns-in-Some-get c =
    let is : named c.in-Named.name ≡ c.args.ty.now = ap ty_of (sym c.in-Named.is) ∙ c.node.ensures in
    unnamed_there c.args.names.now.source.now c.args.ty.now c.in-Named.name c.in-Some.at c.in-Some-get.item.now is c.in-Some.ensures c.in-Some-get.ensures
