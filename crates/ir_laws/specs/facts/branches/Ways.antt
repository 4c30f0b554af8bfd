-- Lemmas on ways, that speak of no pass.
use Rattle.std.specs.Prelude.{ℕ, ◌≡◌}
use Rattle.ir_laws.specs.facts.threads.Moved.{ArePaired}
use Rattle.run_laws.specs.ir_model.declared.instr.Case.{Case}
use Rattle.run_laws.specs.ir_model.declared.instr.Terminator.{Terminator}

-- terminators with the same operands, whose labels are related
abbrev pub TermsPaired : (ℕ → ℕ → Type 0) → Terminator → Terminator → Type 0
TermsPaired W (Terminator.Jump t) (Terminator.Jump l) = W t l
TermsPaired W (Terminator.Branch x a b) (Terminator.Branch y c d) = (y ≡ x) × (W a c × W b d)
TermsPaired W (Terminator.Switch x d cases) (Terminator.Switch y e others) = (y ≡ x) × (W d e × ArePaired (λ (k : Case) (j : Case). (j.arg ≡ k.arg) × W k.target j.target) cases others)
TermsPaired W (Terminator.Ret v) (Terminator.Ret w) = w ≡ v
TermsPaired W Terminator.Unreachable Terminator.Unreachable = Unit {0}
TermsPaired W _ _ = ⊥
