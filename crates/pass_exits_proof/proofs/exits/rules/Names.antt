-- The locals of the function with blocks on the edges that leave windows are apart, and positions of its table of names (rule N1).
use Rattle.std.proofs.Common.{◌≡◌, ℕ, suc, ◌+◌, ◌<◌, ◌≤◌, List, [], ◌∷◌, ◌++◌, None, length, length-append, refl, sym, ap, subst, arith, ⊎_elim}
use Rattle.pass_fetch_proof.specs.rule_uses.Undefined.{params_of}
use Rattle.pass_fetch_proof.proofs.rule_laws.rules.local_rules.Names.{numbers}
use Rattle.pass_fetch_proof.proofs.rule_laws.rules.local_rules.Woven.{Ends, New, Woven, apart_names, apart_woven, joined_woven, listed_woven, none_twice, same_woven}
use Rattle.pass_fetch_proof.proofs.ir_laws.paths.source_rules.Locals.{Apart}
use Rattle.pass_fetch_proof.proofs.rule_laws.rules.source_rules.Locals.{block_names, names_are}
use Rattle.pass_fetch_proof.proofs.ir_laws.facts.Lists.{row_of}
use Rattle.pass_fetch_proof.specs.rule_laws.rules.source_rules.Named.{HasTabledLocals}
use Rattle.pass_fetch_proof.specs.flow_solver.Paths.{IsListed}
use Rattle.pass_fetch_proof.specs.ir_parts.Locals.{locals_of}
use Rattle.pass_fetch_proof.proofs.rule_laws.rules.function_rules.Tabled.{numbers_below, tabled_by}
use Rattle.ir_model.specs.declared.module.Block.{Block}
use Rattle.ir_model.specs.declared.module.Function.{Function}
use Rattle.pass_fetch_proof.specs.rule_names.Definitions.{first_twice}
use Rattle.pass_split.specs.pass_exits.ExitBlocks.{blocks_by, exit_blocks, exit_names, with_exit_blocks}
use Rattle.pass_split.specs.pass_exits.Exits.{block_exits, exits_by, exits_of}
use Rattle.pass_split.specs.pass_exits.declared.exit.Exit.{Exit}

-- the labels of a block's exits, before further numbers
exits_woven : (n l : ℕ) (es : List Exit) (xs : List ℕ) (rest : List Block) → Woven (n + length es) xs l (row_of block_names rest) → Woven n xs l (row_of block_names (exit_blocks n es ++ rest))
exits_woven n l [] xs rest w = let z : n + 0 ≡ n = omega arith in subst (λ (k : ℕ). Woven k xs l (row_of block_names rest)) z w
exits_woven n l (e ∷ es) xs rest w =
    let next : n + suc (length es) ≡ n + 1 + length es = omega arith in
    New n l xs (row_of block_names (exit_blocks (n + 1) es ++ rest))
    (exits_woven (n + 1) l es xs rest (subst (λ (k : ℕ). Woven k xs l (row_of block_names rest)) next w))

blocks_woven : (f : Function) (at n : ℕ) (bs : List Block) → Woven n (row_of block_names bs) (n + length (exits_by f at bs)) (row_of block_names (blocks_by f at n bs))
blocks_woven f at n [] = let z : n ≡ n + 0 = omega arith in subst (λ (l : ℕ). Woven n [] l []) z (Ends n)
blocks_woven f at n (b ∷ bs) =
    let es : List Exit = block_exits f at b in
    let k : ℕ = n + length es in
    let rest : List Block = blocks_by f (at + 1) k bs in
    let len : length (es ++ exits_by f (at + 1) bs) ≡ length es + length (exits_by f (at + 1) bs) = length-append es (exits_by f (at + 1) bs) in
    let end : k + length (exits_by f (at + 1) bs) ≡ n + length (es ++ exits_by f (at + 1) bs) = omega (arith, len) in
    subst (λ (l : ℕ). Woven n (block_names b ++ row_of block_names bs) l (block_names b ++ row_of block_names (exit_blocks n es ++ rest))) end
    (joined_woven n n (k + length (exits_by f (at + 1) bs)) (block_names b) (block_names b) (row_of block_names bs) (row_of block_names (exit_blocks n es ++ rest)) (same_woven n (block_names b))
    (exits_woven n (k + length (exits_by f (at + 1) bs)) es (row_of block_names bs) rest (blocks_woven f (at + 1) k bs)))

pub names_length : (k : ℕ) (es : List Exit) → length (exit_names k es) ≡ length es
names_length k [] = refl
names_length k (e ∷ es) = ap suc (names_length (k + 1) es)

module _ (func : ℕ) (f : Function) (tabled : HasTabledLocals func f) where
  numbers_woven : Woven (length f.names) (numbers f) (length f.names + length (exits_of f)) (numbers (with_exit_blocks f))
  numbers_woven =
      joined_woven (length f.names) (length f.names) (length f.names + length (exits_of f)) (params_of f) (params_of f) (row_of block_names f.blocks) (row_of block_names (with_exit_blocks f).blocks)
      (same_woven (length f.names) (params_of f)) (blocks_woven f 0 (length f.names) f.blocks)

  pub names_tabled : HasTabledLocals func (with_exit_blocks f)
  names_tabled = tabled_by func (with_exit_blocks f) below
    where
      below : (n : ℕ) → IsListed n (numbers (with_exit_blocks f)) → n < length (with_exit_blocks f).names
      below n listed =
          let k : ℕ = length f.names in
          let len : length (f.names ++ exit_names 0 (exits_of f)) ≡ k + length (exit_names 0 (exits_of f)) = length-append f.names (exit_names 0 (exits_of f)) in
          let all : length (exit_names 0 (exits_of f)) ≡ length (exits_of f) = names_length 0 (exits_of f) in
          let lt : n < length (f.names ++ exit_names 0 (exits_of f)) =
          ⊎_elim
          (λ (old : IsListed n (numbers f)). let first : n < k = numbers_below func f tabled n old in omega (arith, first, len))
          (λ (new : (k ≤ n) × (n < k + length (exits_of f))). let high : n < k + length (exits_of f) = new.1 in omega (arith, high, len, all))
          (listed_woven k (k + length (exits_of f)) (numbers f) (numbers (with_exit_blocks f)) numbers_woven n listed) in
          lt

  pub names_once : first_twice [] (locals_of func f) ≡ None → first_twice [] (locals_of func (with_exit_blocks f)) ≡ None
  names_once once =
      let apart : Apart (numbers f) = subst Apart (names_are func f) (apart_names [] (locals_of func f) once) in
      let now : Apart (numbers (with_exit_blocks f)) = apart_woven (length f.names) (length f.names) (length f.names + length (exits_of f)) (numbers f) (numbers (with_exit_blocks f)) numbers_woven (omega arith) (numbers_below func f tabled) apart in
      none_twice [] (locals_of func (with_exit_blocks f)) (subst Apart (sym (names_are func (with_exit_blocks f))) now) (λ n listed. refl)
