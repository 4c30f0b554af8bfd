-- Passes that change each function in its place leave entries where they are.
use Rattle.std.proofs.Common.{◌≡◌, ℕ, List, sym, ap, ◌∙◌}
use Rattle.std.specs.Prelude.{map, slice_get}
use Rattle.compiler_theorem.specs.theorem.Entries.{IsEntry}
use Rattle.compiler.proofs.pass_proofs.early.path_rules.RenamedOperands.{map_was}
use Rattle.compiler.specs.ir_model.declared.module.Function.{Function}
use Rattle.compiler.specs.ir_model.declared.module.Module.{Module}

pub entry_before : (m n k : Module) (pass : Function → Function) → ((f : Function) → (pass f).name ≡ f.name)
    → k.functions ≡ map pass n.functions → (entry other : ℕ) → IsEntry m k entry other → IsEntry m n entry other
entry_before m n k pass names same entry other e =
    let was = map_was pass n.functions other e.counterpart (sym (ap (λ (fs : List Function). slice_get fs other) same)
    ∙ e.is) in
    record {
      callable = e.callable;
      counterpart = was.0;
      is = was.1.0;
      name = sym (names was.0) ∙ sym (ap (λ (f : Function). f.name) was.1.1) ∙ e.name;
    }
