use Rattle.std.proofs.Common.{◌≡◌}
use Rattle.text_parser.specs.Parse.{read_module}
use Rattle.text_parser.specs.declared.text.Parsed.{Parsed}
use Rattle.compiler.proofs.NoRule.{lowering_breaks_none, lowering_is_framed}
use Rattle.compiler.proofs.Printed.{lowering_is_read}
use Rattle.compiler.proofs.Told.{module_is_told}
use Rattle.compiler.proofs.lowered.lower.Goals as goal

pub returns-in-Module-clause-accepted : goal.returns-in-Module-clause-accepted
returns-in-Module-clause-accepted c =
    let is = c.in-Module.is in
    let read = c.in_ok-items.ensures.value in
    let told : Parsed.Module c.in-Module.source ≡ read_module c.args.text.now = cc in
    lowering_breaks_none c.args.options c.args.text.now c.lower_module.result (module_is_told c.args.options c.args.text.now c.in-Module.source c.lower_module.result told c.lower_module.ensures.lowered)

pub returns-in-Module-clause-framed : goal.returns-in-Module-clause-framed
returns-in-Module-clause-framed c =
    let is = c.in-Module.is in
    let read = c.in_ok-items.ensures.value in
    let told : Parsed.Module c.in-Module.source ≡ read_module c.args.text.now = cc in
    lowering_is_framed c.args.options c.args.text.now c.lower_module.result (module_is_told c.args.options c.args.text.now c.in-Module.source c.lower_module.result told c.lower_module.ensures.lowered)

pub returns-in-Module-clause-printed : goal.returns-in-Module-clause-printed
returns-in-Module-clause-printed c =
    let is = c.in-Module.is in
    let read = c.in_ok-items.ensures.value in
    let told : Parsed.Module c.in-Module.source ≡ read_module c.args.text.now = cc in
    lowering_is_read c.args.options c.args.text.now c.text_is_bytes.ensures c.lower_module.result (module_is_told c.args.options c.args.text.now c.in-Module.source c.lower_module.result told c.lower_module.ensures.lowered) c.lower_module.ensures.few
