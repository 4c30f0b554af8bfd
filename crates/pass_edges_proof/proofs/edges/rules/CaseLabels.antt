-- Where the cases of switches lead when edges have blocks.
use Rattle.std.proofs.Common.{Bool, List, [], false, if◌then◌else◌, inl, inr, map, refl, subst, sym, true, ℕ, ◌∷◌}
use Rattle.pass_edges_proof.proofs.edges.paths.Behind.{case_split}
use Rattle.pass_edges_proof.proofs.edges.paths.Legs.{term_split}
use Rattle.pass_edges_proof.specs.edges.paths.Labels.{AreSplit, IsSplit}
use Rattle.pass_edges.specs.EdgeBlocks.{split_label, split_term}
use Rattle.pass_edges.specs.Edges.{after_edge, term_edges}
use Rattle.pass_edges.specs.declared.edge.Edge.{Edge}
use Rattle.pass_early_proof.specs.ir_laws.facts.branches.MovedState.{IsSwitch}
use Rattle.pass_early_proof.specs.flow_solver.Paths.{IsListed}
use Rattle.ir_model.specs.declared.instr.Case.{Case}
use Rattle.ir_model.specs.declared.instr.Terminator.{Terminator}
use Rattle.pass_early_proof.specs.ir_paths.Paths.{targets}
use Rattle.pass_early_proof.specs.ir_paths.Windows.{is_number, label_in, label_of_term}

-- ---- labels of cases

-- where the edge of a number of a switch leads then
pub switch_split : (flags : List Bool) (from : ℕ) (resumes : Bool) (v n : ℕ) (t : Terminator) → IsSwitch t → IsSplit flags from (term_edges flags resumes from n t) (label_of_term v t) (label_of_term v (split_term flags resumes n t))
switch_split flags from resumes v n (Terminator.Switch arg default cases) is =
    let all = term_split flags from resumes n (Terminator.Switch arg default cases) in
    case_split flags from (term_edges flags resumes from n (Terminator.Switch arg default cases)) v (after_edge flags false n default) resumes cases default (split_label flags false n default) all.0 all.1
switch_split flags from resumes v n (Terminator.Jump label) is = absurd is
switch_split flags from resumes v n (Terminator.Branch x a b) is = absurd is
switch_split flags from resumes v n (Terminator.Ret value) is = absurd is
switch_split flags from resumes v n Terminator.Unreachable is = absurd is

label_in_targets : (v default : ℕ) (cases : List Case) → IsListed (label_in v cases default) (default ∷ map (λ k. k.target) cases)
label_in_targets v default [] = inl refl
label_in_targets v default (c ∷ cases) = on (is_number v c.arg.value) (label_in_targets v default cases)
  where
    further : (l : ℕ) → IsListed l (default ∷ map (λ k. k.target) cases) → IsListed l (default ∷ c.target ∷ map (λ k. k.target) cases)
    further l (inl e) = inl e
    further l (inr m) = inr (inr m)

    on : (t : Bool) → IsListed (label_in v cases default) (default ∷ map (λ k. k.target) cases) → IsListed (if t then c.target else label_in v cases default) (default ∷ c.target ∷ map (λ k. k.target) cases)
    on true again = inr (inl refl)
    on false again = further (label_in v cases default) again

pub switch_target : (v : ℕ) (t : Terminator) → IsSwitch t → IsListed (label_of_term v t) (targets t)
switch_target v (Terminator.Switch arg default cases) is = label_in_targets v default cases
switch_target v (Terminator.Jump label) is = absurd is
switch_target v (Terminator.Branch x a b) is = absurd is
switch_target v (Terminator.Ret value) is = absurd is
switch_target v Terminator.Unreachable is = absurd is

-- the new label at the place of a target
pub split_from : (flags : List Bool) (from : ℕ) (edges : List Edge) (ts ls : List ℕ) → AreSplit flags from edges ts ls → (t : ℕ) → IsListed t ts → (l : ℕ) × (IsListed l ls × IsSplit flags from edges t l)
split_from flags from edges [] ls h t m = absurd m
split_from flags from edges (x ∷ ts) [] h t m = absurd h
split_from flags from edges (x ∷ ts) (y ∷ ls) h t (inl e) = (y, (inl refl, subst (λ (k : ℕ). IsSplit flags from edges k y) (sym e) h.0))
split_from flags from edges (x ∷ ts) (y ∷ ls) h t (inr m) = let z = split_from flags from edges ts ls h.1 t m in (z.0, (inr z.1.0, z.1.1))
