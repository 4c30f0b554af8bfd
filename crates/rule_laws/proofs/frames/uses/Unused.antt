-- Instructions of a block that don't use a value that the block hasn't made.
use Rattle.std.proofs.Common.{⊎_elim, ℕ, List, [], ◌∷◌, ◌++◌, sym, subst}
use Rattle.rule_laws.proofs.rules.counted.Lists.{made_grows, made_joined, made_listed}
use Rattle.rule_uses.specs.Uses.{made_by_instrs}
use Rattle.ir_laws.proofs.paths.source_rules.Locals.{listed_either, listed_left, listed_right}
use Rattle.rule_laws.proofs.rules.source_rules.Locals.{made_by}
use Rattle.ir_laws.proofs.facts.Lists.{row_of}
use Rattle.ir_laws.specs.flow_solver.Paths.{IsListed}
use Rattle.ir_laws.specs.ir_model.declared.instr.Instr.{Instr}
use Rattle.ir_laws.specs.ir_model.declared.module.Function.{Function}
use Rattle.pass_intrinsics.specs.declared.shape.Part.{Part}
use Rattle.pass_intrinsics.specs.declared.shape.Shape.{Shape}
use Rattle.rule_laws.proofs.frames.uses.Lowering.{AreFrom, ComesBy}
use Rattle.rule_laws.proofs.rules.uses.Unused.{IsUnused}

module _ (v : ℕ) where
  -- nothing is said of a value that is made before
  pub unused_made : (before : List ℕ) (js : List Instr) → IsListed v before → IsUnused v before js
  unused_made before [] l = tt
  unused_made before (j ∷ js) l = ((λ none u. none l), unused_made (made_by j ++ before) js (listed_right v (made_by j) before l))

  pub unused_joined : (before : List ℕ) (xs ys : List Instr) → IsUnused v before xs → IsUnused v (made_by_instrs before xs) ys → IsUnused v before (xs ++ ys)
  unused_joined before [] ys a b = b
  unused_joined before (x ∷ xs) ys a b = (a.0, unused_joined (made_by x ++ before) xs ys a.1 b)

  -- what is lowered in the place of an instruction doesn't use the value, where that doesn't come by the instruction
  lowered_unused : (f : Function) (s : Shape) (part : Part) (i : Instr) (made before : List ℕ) (js : List Instr) → AreFrom f s part i made js → ((u : ℕ) → IsListed u made → IsListed u before) → ((IsListed v before → ⊥) → ComesBy f s part i v → ⊥) → IsUnused v before js
  lowered_unused f s part i made before [] h within none = tt
  lowered_unused f s part i made before (j ∷ js) h within none = (
    (λ unmade u. ⊎_elim (λ l. unmade (within v l)) (λ c. none unmade c) (h.0 v u)),
    lowered_unused f s part i (made_by j ++ made) (made_by j ++ before) js h.1
        (λ u l. ⊎_elim (λ a. listed_left u (made_by j) before a) (λ b. listed_right u (made_by j) before (within u b)) (listed_either u (made_by j) made l))
        (λ unmade c. none (λ l. unmade (listed_right v (made_by j) before l)) c),
  )

  pub all_unused : (f : Function) (s : Shape) (part : Part) (i : Instr) (before : List ℕ) (js : List Instr) → AreFrom f s part i [] js → ((IsListed v before → ⊥) → ComesBy f s part i v → ⊥) → IsUnused v before js
  all_unused f s part i before js h none = lowered_unused f s part i [] before js h (λ u l. absurd l) none

  -- what is made by instructions is made behind them
  pub row_made : (before : List ℕ) (js : List Instr) → IsListed v (row_of made_by js) → IsListed v (made_by_instrs before js)
  row_made before js l = made_listed js before v l

  pub still_made : (before : List ℕ) (js : List Instr) → IsListed v before → IsListed v (made_by_instrs before js)
  still_made before js l = made_grows js before v l

  pub joined_made : (before : List ℕ) (xs ys : List Instr) → IsListed v (made_by_instrs (made_by_instrs before xs) ys) → IsListed v (made_by_instrs before (xs ++ ys))
  joined_made before xs ys l = subst (IsListed v) (sym (made_joined before xs ys)) l
