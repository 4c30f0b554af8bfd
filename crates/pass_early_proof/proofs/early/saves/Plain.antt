-- Functions that are no coroutines.
use Rattle.std.proofs.Common.{◌≡◌, ℕ, ◌-◌, false, List, [], ◌∷◌, ◌++◌, length, refl, ap, ◌∙◌, arith}
use Rattle.rule_laws.specs.ir_base.declared.name.Name.{Name}
use Rattle.pass_early.specs.Early.{save_names}
use Rattle.ir_model.specs.declared.instr.Instr.{Instr}
use Rattle.ir_model.specs.declared.module.Block.{Block}
use Rattle.ir_model.specs.declared.module.Function.{Function}
use Rattle.pass_early_proof.specs.early.saves.SavesWritten.{behind_blocks, behind_saves, saved_blocks, saved_function, with_saves}

instrs_stay : (n : ℕ) (is : List Instr) → with_saves false n is ≡ is
instrs_stay n [] = refl
instrs_stay n (i ∷ is) = ap (λ (xs : List Instr). i ∷ xs) (instrs_stay n is)

number_stays : (n : ℕ) (is : List Instr) → behind_saves false n is ≡ n
number_stays n [] = refl
number_stays n (i ∷ is) = number_stays n is

blocks_stay : (n : ℕ) (bs : List Block) → saved_blocks false n bs ≡ bs
blocks_stay n [] = refl
blocks_stay n (b ∷ bs) =
    let first = instrs_stay n b.instrs in
    let rest = blocks_stay (behind_saves false n b.instrs) bs in
    λ i. record b { instrs = first i } ∷ rest i

count_stays : (n : ℕ) (bs : List Block) → behind_blocks false n bs ≡ n
count_stays n [] = refl
count_stays n (b ∷ bs) = count_stays (behind_saves false n b.instrs) bs ∙ number_stays n b.instrs

none_behind : (names : List Name) → names ++ [] ≡ names
none_behind [] = refl
none_behind (x ∷ names) = ap (λ (xs : List Name). x ∷ xs) (none_behind names)

names_stay : (n : ℕ) (names : List Name) (bs : List Block) → names ++ save_names (behind_blocks false n bs - n) ≡ names
names_stay n names bs =
    let none : behind_blocks false n bs - n ≡ 0 = let e = count_stays n bs in omega (arith, e) in
    ap (λ (k : ℕ). names ++ save_names k) none ∙ none_behind names

pub plain_stays : (f : Function) → f.coroutine ≡ false → saved_function f ≡ f
plain_stays f e =
    let n = length f.names in
    (λ i. record f { blocks = saved_blocks (e i) n f.blocks; names = f.names ++ save_names (behind_blocks (e i) n f.blocks - n) })
    ∙ (λ i. record f { blocks = blocks_stay n f.blocks i; names = names_stay n f.names f.blocks i })
