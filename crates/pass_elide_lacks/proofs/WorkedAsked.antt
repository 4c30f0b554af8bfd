-- The worked module keeps what is asked of blocks of their own.
use Rattle.std.proofs.Common.{◌≡◌, arith, ℕ, zero, suc, true, ◌==◌}
use Rattle.pass_elide_meaning.proofs.pass_elide_edges.Worked.{worked_alone}
use Rattle.pass_elide_lacks.specs.Keeps.{KeepsAsked}
use Rattle.pass_elide_meaning.proofs.pass_elide_edges.pass_elide_proof.pass_proofs.ir_laws.facts.Truth.{equal_numbers}
use Rattle.pass_elide_meaning.specs.pass_elide_edges.pass_elide_proof.Elision.{function_in}
use Rattle.pass_elide_meaning.specs.pass_elide_edges.pass_elide_proof.Shapes.{AsksForFrame}
use Rattle.pass_elide_meaning.specs.pass_elide_edges.pass_elide_proof.Worked.{the_elision}
use Rattle.pass_elide_meaning.specs.pass_elide_edges.pass_elide_proof.pass_proofs.ir_model.declared.module.Param.{Param}
use Rattle.pass_elide_meaning.specs.pass_elide_edges.pass_elide_proof.pass_proofs.run_laws.changed.Changed.{Each}

apart : (n : ℕ) → zero ≡ n → (n == 3) ≡ true → ⊥
apart n is three = let same = equal_numbers n 3 three in absurd (omega (arith, is, same))

params : (func : ℕ) (k : AsksForFrame (function_in the_elision func) (the_elision.shape func))
    → Each (λ (p : Param). p.name ≡ k.need → ⊥) (function_in the_elision func).params
params zero k = ((λ is. apart k.need is k.is_need), tt)
params (suc zero) k = tt
params (suc (suc n)) k = tt

pub worked_asked : KeepsAsked the_elision
worked_asked = record { alone = worked_alone; params = params }
