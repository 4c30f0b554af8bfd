-- Lemmas on celled blocks, that speak of no pass.
use Rattle.std.proofs.Common.{◌≡◌, ℕ, zero, suc, ◌+◌, List, [], ◌∷◌, subst, arith}
use Rattle.std.specs.Prelude.{Some, slice_get}
use Rattle.rule_uses.specs.Uses.{phi_values}
use Rattle.ir_laws.specs.ir_model.declared.module.Block.{Block}
use Rattle.ir_laws.specs.ir_model.declared.module.Function.{Function}
use Rattle.rule_laws.specs.rules.replaced.Splittable.{AreBegun, AreBlocksBegun}

-- ---- what begun says of one block

pub begun_at : (f : Function) (begin n : ℕ) (bs : List Block) (at : ℕ) (b : Block) → AreBlocksBegun f begin n bs → slice_get bs at ≡ Some b → AreBegun f begin (n + at) (phi_values b) b.instrs
begun_at f begin n [] at b h e = absurd (cc)
begun_at f begin n (c ∷ bs) zero b h e =
    let one : c ≡ b = cc in
    let same : n ≡ n + 0 = omega arith in
    subst (λ (j : ℕ). AreBegun f begin j (phi_values b) b.instrs) same (subst (λ (x : Block). AreBegun f begin n (phi_values x) x.instrs) one h.0)
begun_at f begin n (c ∷ bs) (suc at) b h e =
    let same : n + 1 + at ≡ n + suc at = omega arith in
    subst (λ (j : ℕ). AreBegun f begin j (phi_values b) b.instrs) same (begun_at f begin (n + 1) bs at b h.1 e)
