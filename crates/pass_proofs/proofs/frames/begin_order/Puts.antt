-- Instructions that are put in, whose operands are no names in the frame, or stand behind begin.
use Rattle.std.proofs.Common.{inr, ⊎_elim, ℕ, Bool, List, [], ◌∷◌, ◌++◌}
use Rattle.std.specs.Prelude.{Option}
use Rattle.pass_exits_proof.proofs.fetch.begin_order.Operands.{accesses_of, others_of}
use Rattle.pass_proofs.specs.frames.begin_order.Behind.{AreBehind, MayBeAccessed}
use Rattle.pass_exits_proof.specs.addresses.begin_order.Behind.{IsBehind}
use Rattle.pass_exits_proof.specs.rule_laws.rules.begin_order.Behind.{access_operands}
use Rattle.pass_exits_proof.proofs.ir_laws.paths.source_rules.Locals.{listed_either, listed_left, listed_right}
use Rattle.pass_exits_proof.proofs.rule_laws.rules.source_rules.Locals.{made_by}
use Rattle.pass_exits_proof.specs.flow_solver.Paths.{IsListed}
use Rattle.pass_exits_proof.specs.ir_parts.Contents.{instr_operands}
use Rattle.ir_model.specs.declared.instr.Instr.{Instr}
use Rattle.ir_model.specs.declared.module.Function.{Function}
use Rattle.ir_model.specs.declared.operand.Operand.{Operand}
use Rattle.pass_exits_proof.specs.run_laws.changed.Changed.{Each}
use Rattle.pass_exits_proof.proofs.ir_laws.facts.Members.{each_all, each_turns}

module _ (g : Function) (begin : ℕ) (slots : List Bool) (offsets : List (Option ℕ)) (at : ℕ) where
  abbrev P : List ℕ → Operand → Type 0
  P made = IsBehind g begin offsets at made

  abbrev pub Whole : List ℕ → Instr → Type 0
  Whole made i = Each (IsBehind g begin offsets at made) (instr_operands i)

  abbrev Are : List ℕ → List Instr → Type 0
  Are made is = AreBehind g begin slots offsets at made is

  abbrev pub Grows : List ℕ → List ℕ → Type 0
  Grows made later = IsListed begin made → IsListed begin later

  pub may_access : (made : List ℕ) (x : Operand) → IsBehind g begin offsets at made x → MayBeAccessed g begin slots offsets at made x
  may_access made (Operand.Local v) h = λ e. inr (h e)
  may_access made _ h = tt

  operand_grows : (made later : List ℕ) → Grows made later → (x : Operand) → P made x → P later x
  operand_grows made later up (Operand.Local v) k = λ e r none no_param. k e r (λ l. none (up l)) no_param
  operand_grows made later up _ k = tt

  whole_grows : (made later : List ℕ) → Grows made later → (i : Instr) → Whole made i → Whole later i
  whole_grows made later up i h = each_turns (P made) (P later) (λ x k. operand_grows made later up x k) (instr_operands i) h

  all_grow : (made later : List ℕ) → Grows made later → (xs : List Instr) → Each (Whole made) xs → Each (Whole later) xs
  all_grow made later up xs h = each_turns (Whole made) (Whole later) (λ i k. whole_grows made later up i k) xs h

  pub behind_grown : (made : List ℕ) (i : Instr) → Grows made (made_by i ++ made)
  behind_grown made i l = listed_right begin (made_by i) made l

  pub both_grown : (made later : List ℕ) (i j : Instr) → (IsListed begin (made_by i) → IsListed begin (made_by j)) → Grows made later → Grows (made_by i ++ made) (made_by j ++ later)
  both_grown made later i j own up l = ⊎_elim (λ a. listed_left begin (made_by j) later (own a)) (λ b. listed_right begin (made_by j) later (up b)) (listed_either begin (made_by i) made l)

  accesses_whole : (made : List ℕ) (i : Instr) → Whole made i → Each (MayBeAccessed g begin slots offsets at made) (access_operands i)
  accesses_whole made i h = each_turns (P made) (MayBeAccessed g begin slots offsets at made) (λ x k. may_access made x k) (access_operands i) (accesses_of (P made) i h)

  pub are_put : (made : List ℕ) (xs tail : List Instr) → Each (Whole made) xs → ((later : List ℕ) → Grows made later → AreBehind g begin slots offsets at later tail) → AreBehind g begin slots offsets at made (xs ++ tail)
  are_put made [] tail h rest = rest made (λ l. l)
  are_put made (x ∷ xs) tail h rest =
      (others_of (P made) x h.0, (accesses_whole made x h.0, are_put (made_by x ++ made) xs tail (all_grow made (made_by x ++ made) (behind_grown made x) xs h.1) (λ later up. rest later (λ l. up (behind_grown made x l)))))

  pub are_only : (made : List ℕ) (xs : List Instr) → Each (Whole made) xs → AreBehind g begin slots offsets at made xs
  are_only made [] h = tt
  are_only made (x ∷ xs) h = (others_of (P made) x h.0, (accesses_whole made x h.0, are_only (made_by x ++ made) xs (all_grow made (made_by x ++ made) (behind_grown made x) xs h.1)))

  -- where everything stands behind begin
  pub all_whole : (made : List ℕ) → ((x : Operand) → IsBehind g begin offsets at made x) → (xs : List Instr) → Each (Whole made) xs
  all_whole made all xs = each_all (Whole made) (λ i. each_all (P made) all (instr_operands i)) xs
