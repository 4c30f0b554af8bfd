-- The text of what is lowered stands for a module without coroutines that breaks no rule.
use Rattle.std.specs.Prelude.{ℕ, List, [], ◌∷◌, None}
use Rattle.pass_proofs.specs.rule_all.Refused.{IsRefused}
use Rattle.pass_proofs.specs.text_grammar.Text.{StandsFor}
use Rattle.ir_model.specs.declared.module.Function.{Function}
use Rattle.ir_model.specs.declared.module.Module.{Module}
use Rattle.compiler.specs.Lowering.{OfLowered}
use Rattle.compiler.specs.declared.lowered.Lowering.{Lowering}
use Rattle.compiler.specs.whole.Passed.{AreFew}
use Rattle.text_canonical.specs.order.Order.{module_order}
use Rattle.pass_proofs.specs.rule_names.declared.stage.Stage.{Stage}

-- the text stands for the module with the names of each function in the order of their first occurrence, and that breaks none of the rules of modules without coroutines
pub record StandsForPlain (m : Module) (text : List ℕ) : Type 0 where
  pub stands : StandsFor text (module_order m)
  pub accepted : IsRefused Stage.Plain (module_order m) None

-- the text of what is lowered, where there is one, stands for what is lowered
abbrev pub IsReadPlain : Lowering → Type 0
IsReadPlain = OfLowered (λ l. StandsForPlain l.«module» l.text)

-- each of the functions has fewer than 2 ^ 64 names
abbrev pub AllFew : List Function → Type 0
AllFew [] = Unit {0}
AllFew (f ∷ fs) = AreFew f.names × AllFew fs

-- the functions of what is lowered, where there is something, do
abbrev pub HasFewNames : Lowering → Type 0
HasFewNames = OfLowered (λ l. AllFew l.«module».functions)
