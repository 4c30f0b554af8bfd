-- The operands, types and values of phis and terminators, where edges have blocks.
use Rattle.std.proofs.Common.{Bool, List, None, Option, Some, [], ap, false, if◌then◌else◌, map, not, refl, subst, true, ℕ, ◌&&◌, ◌==◌, ◌∷◌, ◌≡◌}
use Rattle.std.specs.List.{cons_option, list_all}
use Rattle.std.specs.Prelude.{filter_map}
use Rattle.pass_early_proof.proofs.ir_laws.facts.Truth.{and_both, and_first, and_second}
use Rattle.pass_edges.specs.EdgeBlocks.{incoming_on, incoming_with, operand_from, split_cases, split_term}
use Rattle.pass_edges.specs.Edges.{after_edge}
use Rattle.pass_edges.specs.declared.edge.Edge.{Edge}
use Rattle.pass_early_proof.specs.ir_parts.Contents.{ending_operands, ending_types}
use Rattle.ir_model.specs.Ty.{Ty}
use Rattle.ir_model.specs.declared.instr.Case.{Case}
use Rattle.ir_model.specs.declared.instr.Incoming.{Incoming}
use Rattle.ir_model.specs.declared.instr.Terminator.{Terminator}
use Rattle.ir_model.specs.declared.operand.Arg.{Arg}
use Rattle.ir_model.specs.declared.operand.Operand.{Operand}
use Rattle.pass_early_proof.specs.rule_values.Fits.{fits_integer}
use Rattle.pass_early_proof.specs.rule_values.Switches.{any_twice, bits_in, case_word, fits_case, fits_switch}
use Rattle.pass_early_proof.specs.rule_values.Values.{fits_ending}
use Rattle.pass_early_proof.specs.rule_values.declared.kinds.Kind.{Kind}

-- ---- phis

-- an operand that is taken for a label passes each test that all pass
pub taken_passes : (u : Operand → Bool) (is : List Incoming) (label : ℕ) (x : Operand) → list_all u (map (λ i. i.value) is) ≡ true → operand_from is label ≡ Some x → u x ≡ true
taken_passes u [] label x h e = absurd (cc)
taken_passes u (i ∷ is) label x h e = on (i.from == label) e (taken_passes u is label x (and_second (u i.value) (list_all u (map (λ j. j.value) is)) h))
  where
    on : (b : Bool) → (if b then Some i.value else operand_from is label) ≡ Some x → (operand_from is label ≡ Some x → u x ≡ true) → u x ≡ true
    on true d again = let same : i.value ≡ x = cc in subst (λ (y : Operand). u y ≡ true) same (and_first (u i.value) (list_all u (map (λ j. j.value) is)) h)
    on false d again = again d

pub all_taken : (u : Operand → Bool) (is : List Incoming) (es : List Edge) → list_all u (map (λ i. i.value) is) ≡ true → list_all u (map (λ i. i.value) (filter_map (incoming_on is) es)) ≡ true
all_taken u is [] h = refl
all_taken u is (e ∷ es) h = on (operand_from is e.from) refl (all_taken u is es h)
  where
    on : (o : Option Operand) → operand_from is e.from ≡ o → list_all u (map (λ i. i.value) (filter_map (incoming_on is) es)) ≡ true → list_all u (map (λ i. i.value) (cons_option (incoming_with e.label o) (filter_map (incoming_on is) es))) ≡ true
    on None d again = again
    on (Some x) d again = and_both (u x) (list_all u (map (λ i. i.value) (filter_map (incoming_on is) es))) (taken_passes u is e.from x h d) again

-- ---- terminators

module _ (flags : List Bool) (resumes : Bool) where
  case_operands : (n : ℕ) (cases : List Case) → map (λ k. k.arg.value) (split_cases flags resumes n cases) ≡ map (λ k. k.arg.value) cases
  case_operands n [] = refl
  case_operands n (c ∷ cases) = ap (λ (xs : List Operand). c.arg.value ∷ xs) (case_operands (after_edge flags resumes n c.target) cases)

  pub ending_operands_same : (n : ℕ) (t : Terminator) → ending_operands (split_term flags resumes n t) ≡ ending_operands t
  ending_operands_same n (Terminator.Jump label) = refl
  ending_operands_same n (Terminator.Branch c a b) = refl
  ending_operands_same n (Terminator.Switch arg default cases) = ap (λ (xs : List Operand). arg.value ∷ xs) (case_operands (after_edge flags false n default) cases)
  ending_operands_same n (Terminator.Ret value) = refl
  ending_operands_same n Terminator.Unreachable = refl

  case_types : (n : ℕ) (cases : List Case) → map (λ k. k.arg.ty) (split_cases flags resumes n cases) ≡ map (λ k. k.arg.ty) cases
  case_types n [] = refl
  case_types n (c ∷ cases) = ap (λ (xs : List Ty). c.arg.ty ∷ xs) (case_types (after_edge flags resumes n c.target) cases)

  pub ending_types_same : (n : ℕ) (t : Terminator) → ending_types (split_term flags resumes n t) ≡ ending_types t
  ending_types_same n (Terminator.Jump label) = refl
  ending_types_same n (Terminator.Branch c a b) = refl
  ending_types_same n (Terminator.Switch arg default cases) = ap (λ (xs : List Ty). arg.ty ∷ xs) (case_types (after_edge flags false n default) cases)
  ending_types_same n (Terminator.Ret value) = refl
  ending_types_same n Terminator.Unreachable = refl

  module _ (kinds : ℕ → Option Kind) where
    cases_fit : (t : Ty) (n : ℕ) (cases : List Case) → list_all (fits_case kinds t) (split_cases flags resumes n cases) ≡ list_all (fits_case kinds t) cases
    cases_fit t n [] = refl
    cases_fit t n (c ∷ cases) = ap (λ (b : Bool). fits_case kinds t c && b) (cases_fit t (after_edge flags resumes n c.target) cases)

    case_words : (w n : ℕ) (cases : List Case) → map (case_word w) (split_cases flags resumes n cases) ≡ map (case_word w) cases
    case_words w n [] = refl
    case_words w n (c ∷ cases) = ap (λ (ws : List ℕ). case_word w c ∷ ws) (case_words w (after_edge flags resumes n c.target) cases)

    switch_same : (arg : Arg) (n : ℕ) (cases : List Case) → fits_switch kinds arg (split_cases flags resumes n cases) ≡ fits_switch kinds arg cases
    switch_same arg n cases = λ k. fits_integer kinds arg && (cases_fit arg.ty n cases k && not (any_twice [] (case_words (bits_in arg.ty) n cases k)))

    pub ending_fits : (ty : Option Ty) (n : ℕ) (t : Terminator) → fits_ending kinds ty (split_term flags resumes n t) ≡ fits_ending kinds ty t
    ending_fits ty n (Terminator.Jump label) = refl
    ending_fits ty n (Terminator.Branch c a b) = refl
    ending_fits ty n (Terminator.Switch arg default cases) = switch_same arg (after_edge flags false n default) cases
    ending_fits ty n (Terminator.Ret value) = refl
    ending_fits ty n Terminator.Unreachable = refl
