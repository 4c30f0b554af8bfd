-- How often lists make a number, and ranges of new names.
use Rattle.std.proofs.Common.{◌≡◌, ◌⊎◌, inl, inr, ⊎_elim, ℕ, ◌+◌, ◌<◌, ◌≤◌, List, [], ◌∷◌, ◌++◌, refl, sym, ap, ◌∙◌, subst, arith}
use Rattle.std.specs.Prelude.{◌==◌}
use Rattle.ir_laws.proofs.facts.Truth.{either, itself}
use Rattle.rule_laws.proofs.rules.counted.Lists.{row_joined}
use Rattle.rule_uses.specs.Uses.{block_values, made_by_instrs, made_by_phis, phi_values}
use Rattle.ir_laws.proofs.facts.local_rules.Woven.{other_number}
use Rattle.ir_laws.proofs.paths.source_rules.Locals.{Apart}
use Rattle.rule_laws.proofs.rules.source_rules.Locals.{block_names, made_by}
use Rattle.ir_laws.proofs.facts.Lists.{phi_names, row_of, times_joined}
use Rattle.ir_laws.specs.flow_solver.Paths.{IsListed}
use Rattle.ir_laws.specs.ir_model.declared.instr.Instr.{Instr}
use Rattle.ir_laws.specs.ir_model.declared.instr.Phi.{Phi}
use Rattle.ir_laws.specs.ir_model.declared.module.Block.{Block}
use Rattle.rule_laws.specs.rules.woven_rules.Blocks.{times_made}
use Rattle.ir_laws.specs.facts.woven_rules.Pairs.{one_if, times}
use Rattle.ir_laws.proofs.paths.woven_rules.Once.{times_none as unlisted_times}

-- ---- lists of numbers

abbrev pub same_times : ℕ → ℕ → ℕ
same_times k n = one_if (k == n)

pub same_one : (k n : ℕ) → k ≡ n → same_times k n ≡ 1
same_one k n e = ap (λ (x : ℕ). same_times x n) e ∙ ap one_if (itself n)

pub other_none : (k n : ℕ) → (k ≡ n → ⊥) → same_times k n ≡ 0
other_none k n h = ap one_if (other_number k n h)

pub apart_times : (n : ℕ) (xs : List ℕ) → Apart xs → times n xs ≤ 1
apart_times n [] h = omega arith
apart_times n (x ∷ xs) h = ⊎_elim same (other (apart_times n xs h.1)) (either x n)
  where
    same : x ≡ n → times n (x ∷ xs) ≤ 1
    same e =
        let one : same_times x n ≡ 1 = same_one x n e in
        let rest : times n xs ≡ 0 = unlisted_times n xs (λ l. h.0 (subst (λ (k : ℕ). IsListed k xs) (sym e) l)) in
        omega (arith, one, rest)

    other : times n xs ≤ 1 → (x ≡ n → ⊥) → times n (x ∷ xs) ≤ 1
    other rest ne =
        let none : same_times x n ≡ 0 = other_none x n ne in
        omega (arith, none, rest)

-- ---- what instructions make

abbrev pub made_times : ℕ → List Instr → ℕ
made_times n is = times n (row_of made_by is)

pub made_both : (n : ℕ) (xs ys : List Instr) → made_times n (xs ++ ys) ≡ made_times n xs + made_times n ys
made_both n xs ys = ap (times n) (row_joined made_by xs ys) ∙ times_joined n (row_of made_by xs) (row_of made_by ys)

pub made_one : (n : ℕ) (i : Instr) (is : List Instr) → made_times n (i ∷ is) ≡ times n (made_by i) + made_times n is
made_one n i is = times_joined n (made_by i) (row_of made_by is)

instrs_times : (n : ℕ) (before : List ℕ) (is : List Instr) → times n (made_by_instrs before is) ≡ made_times n is + times n before
instrs_times n before [] = omega arith
instrs_times n before (i ∷ is) =
    let rest = instrs_times n (made_by i ++ before) is in
    let here = times_joined n (made_by i) before in
    let one = made_one n i is in
    omega (arith, rest, here, one)

phis_times : (n : ℕ) (before : List ℕ) (ps : List Phi) → times n (made_by_phis before ps) ≡ times n (phi_names ps) + times n before
phis_times n before [] = omega arith
phis_times n before (p ∷ ps) = let rest = phis_times n (p.result ∷ before) ps in omega (arith, rest)

pub block_times : (n : ℕ) (b : Block) → times n (block_values b) ≡ times n (phi_names b.phis) + made_times n b.instrs
block_times n b =
    let instrs = instrs_times n (phi_values b) b.instrs in
    let phis = phis_times n [] b.phis in
    omega (arith, instrs, phis)

pub names_times : (n : ℕ) (b : Block) → times n (block_names b) ≡ same_times b.label n + (times n (phi_names b.phis) + made_times n b.instrs)
names_times n b = let both = times_joined n (phi_names b.phis) (row_of made_by b.instrs) in omega (arith, both)

-- blocks make no number more often than they have it among their names
pub blocks_times : (n : ℕ) (bs : List Block) → times_made n bs ≤ times n (row_of block_names bs)
blocks_times n [] = omega arith
blocks_times n (b ∷ bs) =
    let rest = blocks_times n bs in
    let here = block_times n b in
    let names = names_times n b in
    let both = times_joined n (block_names b) (row_of block_names bs) in
    omega (arith, rest, here, names, both)

-- ---- ranges of new names

-- so often a number is counted more: not at all, or once, where it is in a range
pub record Adds (first last n base count : ℕ) : Type 0 where
  pub extra : ℕ
  pub sum : count ≡ base + extra
  pub within : (extra ≡ 0) ⊎ ((extra ≡ 1) × (first ≤ n) × (n < last))

pub adds_none : (first last n base count : ℕ) → count ≡ base → Adds first last n base count
adds_none first last n base count e = record { extra = 0; sum = omega (arith, e); within = inl refl }

pub adds_one : (k n : ℕ) → Adds k (k + 1) n 0 (same_times k n)
adds_one k n = ⊎_elim same other (either k n)
  where
    same : k ≡ n → Adds k (k + 1) n 0 (same_times k n)
    same e = let one : same_times k n ≡ 1 = same_one k n e in record { extra = 1; sum = omega (arith, one); within = inr (refl, omega (arith, e), omega (arith, e)) }

    other : (k ≡ n → ⊥) → Adds k (k + 1) n 0 (same_times k n)
    other ne = adds_none k (k + 1) n 0 (same_times k n) (other_none k n ne)

pub adds_wider : (first last from to n base count : ℕ) → from ≤ first → last ≤ to → Adds first last n base count → Adds from to n base count
adds_wider first last from to n base count le ge h =
    record { extra = h.extra; sum = h.sum; within = ⊎_elim (λ z. inl z) (λ o. let low : first ≤ n = o.1 in let high : n < last = o.2 in inr (o.0, omega (arith, le, low), omega (arith, ge, high))) h.within }

pub adds_as : (first last n base count now all : ℕ) → now ≡ base → all ≡ count → Adds first last n base count → Adds first last n now all
adds_as first last n base count now all d e h = let sum : count ≡ base + h.extra = h.sum in record { extra = h.extra; sum = omega (arith, d, e, sum); within = h.within }

pub adds_joined : (first mid last n a b c d : ℕ) → first ≤ mid → mid ≤ last → Adds first mid n a c → Adds mid last n b d → Adds first last n (a + b) (c + d)
adds_joined first mid last n a b c d le ge h k =
    let left : c ≡ a + h.extra = h.sum in
    let right : d ≡ b + k.extra = k.sum in
    record { extra = h.extra + k.extra; sum = omega (arith, left, right); within = ⊎_elim none one h.within }
  where
    none : h.extra ≡ 0 → (h.extra + k.extra ≡ 0) ⊎ ((h.extra + k.extra ≡ 1) × (first ≤ n) × (n < last))
    none z = ⊎_elim (λ y. inl (omega (arith, z, y))) (λ o. let only : k.extra ≡ 1 = o.0 in let low : mid ≤ n = o.1 in inr (omega (arith, z, only), omega (arith, le, low), o.2)) k.within

    one : (h.extra ≡ 1) × (first ≤ n) × (n < mid) → (h.extra + k.extra ≡ 0) ⊎ ((h.extra + k.extra ≡ 1) × (first ≤ n) × (n < last))
    one o =
        let only : h.extra ≡ 1 = o.0 in
        let high : n < mid = o.2 in
        ⊎_elim (λ y. inr (omega (arith, only, y), o.1, omega (arith, high, ge))) (λ x. let low : mid ≤ n = x.1 in absurd (omega (arith, high, low))) k.within
