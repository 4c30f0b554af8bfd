use Rattle.std.proofs.Common.{◌∙◌, ap, sym, ℕ, Bool, cond, Option, Some}
use Rattle.ir_paths.specs.ir_base.declared.name.Name.{Name}
use Rattle.indexmap.specs.IndexMap.{get}
use Rattle.std.specs.Map.{lookup}
use Rattle.ir_paths.specs.ir_base.contracts.name.NamePartialEq.TheImpl.{eq-value}
use Rattle.ir_paths.specs.ir_model.Names.{same_name}
use Rattle.run_step.proofs.Tables.{new-position, old-position, lookup-is, eq-is}
use Rattle.run_step.proofs.names.note.Goals as goal

pub returns-in_ok-insert-in-None : goal.returns-in_ok-insert-in-None
returns-in_ok-insert-in-None c = λ n.
    let f : Name → Option ℕ = λ k. get same_name c.args.table.now k in
    let key = c.in_ok-copied-in-None.field-0 in
    sym (lookup-is n c.insert.new.self.entries)
    ∙ c.in_ok-insert-in-None.ensures.updates.0 n
    ∙ ap (λ (b : Bool). cond b (Some c.args.at) (lookup (eq-value.it n) c.args.table.now.entries)) (eq-is key n)
    ∙ ap (λ (o : Option ℕ). cond (same_name key n) (Some c.args.at) o) (lookup-is n c.args.table.now.entries)
    ∙ ap (λ k. cond (same_name k n) (Some c.args.at) (f n)) c.in_ok-copied-in-None.ensures
    ∙ new-position f c.args.name.now n c.args.at (sym c.in-None.ensures)

pub returns-in-Some : goal.returns-in-Some
returns-in-Some c = λ n. old-position (λ k. get same_name c.args.table.now k) c.args.name.now n c.args.at _ (sym c.in-Some.ensures)
