-- The allocas of a block.
use Rattle.std.proofs.Common.{◌≡◌, ℕ, zero, suc, ◌+◌, ◌<◌, ◌≤◌, true, false, List, [], ◌∷◌, drop, length, get_or, refl, ap, sym, ◌∙◌, arith, Some, None}
use Rattle.ir_model.specs.declared.instr.Instr.{Instr}
use Rattle.run_framed.specs.Framed.{alloca_in}
use Rattle.run_step.proofs.Lists.{drop-next, if-false, if-true}
use Rattle.run_step.specs.Effects.{is_alloca}

pub alloca-next : (instrs : List Instr) (from at : ℕ) (x : Instr) → at < length instrs → x ≡ get_or instrs at x → alloca_in from (drop from instrs) ≡ alloca_in at (drop at instrs) → is_alloca x ≡ false → alloca_in from (drop from instrs) ≡ alloca_in (at + 1) (drop (at + 1) instrs)
alloca-next instrs from at x lt e h f =
    let n : suc at ≡ at + 1 = omega arith in
    h
    ∙ ap (alloca_in at) (drop-next instrs at x lt e)
    ∙ if-false (is_alloca x) (Some at) (alloca_in (suc at) (drop (at + 1) instrs)) f
    ∙ ap (λ k. alloca_in k (drop (at + 1) instrs)) n

pub alloca-found : (instrs : List Instr) (from at : ℕ) (x : Instr) → at < length instrs → x ≡ get_or instrs at x → alloca_in from (drop from instrs) ≡ alloca_in at (drop at instrs) → is_alloca x ≡ true → Some at ≡ alloca_in from (drop from instrs)
alloca-found instrs from at x lt e h t = sym (h ∙ ap (alloca_in at) (drop-next instrs at x lt e) ∙ if-true (is_alloca x) (Some at) (alloca_in (suc at) (drop (at + 1) instrs)) t)

drop-past : (instrs : List Instr) (n : ℕ) → length instrs ≤ n → drop n instrs ≡ []
drop-past [] zero le = refl
drop-past [] (suc n) le = refl
drop-past (x ∷ instrs) zero le = absurd (omega arith)
drop-past (x ∷ instrs) (suc n) le = drop-past instrs n (omega arith)

pub alloca-none : (instrs : List Instr) (from at : ℕ) → length instrs ≤ at → alloca_in from (drop from instrs) ≡ alloca_in at (drop at instrs) → None ≡ alloca_in from (drop from instrs)
alloca-none instrs from at le h = sym (h ∙ ap (alloca_in at) (drop-past instrs at le))
