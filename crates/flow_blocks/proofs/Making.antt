-- A function's answers from those of its calls.
use Rattle.std.proofs.Common.{◌≡◌, ℕ, ◌+◌, ◌<◌, Bool, List, length, Ok, Err, Result, IfOk, sym, ap, ◌∙◌, subst}
use Rattle.std.specs.Prelude.{slice_get, Some}
use Rattle.flow_bits.specs.Reaching.{AnswersAt, StartAt}
use Rattle.flow_blocks.proofs.Bounds.{has_nodes}
use Rattle.flow_blocks.proofs.Reached.{are_reached, asked_at, kept_of, starts_within}
use Rattle.flow_blocks.specs.Edges.{block_edges, graph_of}
use Rattle.flow_blocks.specs.Reach.{AreReached}
use Rattle.flow_blocks.specs.Words.{AreMarked, AreTold}
use Rattle.flow_bits.specs.flow_solver.Paths.{HasNodes, IsListed}
use Rattle.flow_bits.specs.flow_solver.declared.graph.Graph.{Graph}
use Rattle.ir_model.specs.declared.module.Function.{Function}

pub graph_has_nodes : (f : Function) (g : Graph) → g ≡ graph_of f → HasNodes g.nodes g.edges
graph_has_nodes f g is = subst (λ (x : Graph). HasNodes x.nodes x.edges) (sym is) (has_nodes f)

pub asked_within : (f : Function) (g : Graph) (starts : List ℕ) (asked : List (ℕ × ℕ)) → g ≡ graph_of f → asked ≡ asked_at starts → ((b : ℕ) → IsListed b starts → b < length f.blocks + 1) → StartAt g.nodes asked
asked_within f g starts asked is asked_is within =
    subst (λ (x : Graph). StartAt x.nodes asked) (sym is)
    (subst (StartAt (length f.blocks + 1)) (sym asked_is) (starts_within (length f.blocks + 1) starts within))

pub answered : (f : Function) (g : Graph) (starts avoided : List ℕ) (marks : List Bool) (edges asked : List (ℕ × ℕ)) (kept words blocks : List ℕ) → g ≡ graph_of f → AreMarked g.nodes avoided marks → edges ≡ g.edges → kept ≡ kept_of marks edges → asked ≡ asked_at starts →
    length words ≡ g.nodes → ((node word : ℕ) → slice_get words node ≡ Some word → AnswersAt g.edges kept asked node word) → AreTold words (length f.blocks) blocks → AreReached f starts avoided blocks
answered f g starts avoided marks edges asked kept words blocks is marked edges_is kept_is asked_is len each t =
    are_reached f starts avoided marks (subst (λ (x : Graph). AreMarked x.nodes avoided marks) is marked) words blocks
    (len ∙ ap (λ (x : Graph). x.nodes) is)
    (λ node word at.
    subst (λ s. AnswersAt (block_edges f) (kept_of marks (block_edges f)) s node word) asked_is
    (subst (λ k. AnswersAt (block_edges f) k asked node word) (kept_is ∙ ap (kept_of marks) (edges_is ∙ ap (λ (x : Graph). x.edges) is))
    (subst (λ (x : Graph). AnswersAt x.edges kept asked node word) is (each node word at))))
    t

pub of_ok : {T E : Type 0} (r : Result T E) (P Q : T → Type 0) → ((x : T) → P x → Q x) → IfOk r P → IfOk r Q
of_ok (Ok x) P Q h p = h x p
of_ok (Err e) P Q h p = p
