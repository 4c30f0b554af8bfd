use Rattle.std.proofs.Common.{◌∙◌, ap, sym, ℕ, Bool, cond, Option, Some}
use Rattle.ir_base.specs.declared.name.Name.{Name}
use Rattle.ir_base.specs.contracts.name.NamePartialEq.TheImpl.{eq-value}
use Rattle.indexmap.specs.IndexMap.{get}
use Rattle.std.specs.Map.{lookup}
use Rattle.ir_model.specs.Names.{same_name}
use Rattle.ir_tables.proofs.Tables.{lookup-is, eq-is}
use Rattle.rule_names.specs.Reserved.{part_name}
use Rattle.rule_names.proofs.PartNames.{one_more}
use Rattle.rule_names.proofs.reserved.add_part.Goals as goal

pub returns : goal.returns
returns c = λ n.
    let key = c.in_ok-part_name.field-0 in
    one_more (get same_name c.args.parts.now n) (get same_name c.insert.new.self n) (eq-value.it key n) (same_name (part_name c.args.name.now c.args.suffix.now) n) 0
    (sym (lookup-is n c.insert.new.self.entries)
    ∙ c.in_ok-insert.ensures.updates.0 n
    ∙ ap (λ (o : Option ℕ). cond (eq-value.it key n) (Some 0) o) (lookup-is n c.args.parts.now.entries))
    (eq-is key n ∙ ap (λ (k : Name). same_name k n) c.in_ok-part_name.ensures)
