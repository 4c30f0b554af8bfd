-- Modules whose items have names that can be written.
use Rattle.text_names.specs.Spelling.{IsName}
use Rattle.run_laws.specs.ir_model.declared.module.Module.{Module}
use Rattle.run_laws.specs.changed.Changed.{Each}

-- the names of functions, declarations and globals can be written
pub record AreItemsNamed (m : Module) : Type 0 where
  pub functions : Each (λ f. IsName f.name) m.functions
  pub declarations : Each (λ d. IsName d.name) m.declarations
  pub globals : Each (λ g. IsName g.name) m.globals
