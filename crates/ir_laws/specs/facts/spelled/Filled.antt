-- Functions of which each phi has an operand.
use Rattle.std.specs.Prelude.{◌≡◌, List, [], ◌∷◌}
use Rattle.run_laws.specs.ir_model.declared.instr.Phi.{Phi}
use Rattle.run_laws.specs.ir_model.declared.module.Block.{Block}
use Rattle.run_laws.specs.ir_model.declared.module.Function.{Function}
use Rattle.run_laws.specs.changed.Changed.{Each}

-- the phi has an operand
abbrev pub IsFilled : Phi → Type 0
IsFilled p = p.incoming ≡ [] → ⊥

-- each phi has one, and there is a block
pub record HasFilledPhis (f : Function) : Type 0 where
  pub block : f.blocks ≡ [] → ⊥
  pub phis : Each (λ b. Each IsFilled b.phis) f.blocks

-- the first block has no phis
abbrev pub HasNoEntryPhis : List Block → Type 0
HasNoEntryPhis [] = Unit {0}
HasNoEntryPhis (b ∷ bs) = b.phis ≡ []
