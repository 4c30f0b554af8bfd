-- Lemmas on members.
use Rattle.std.proofs.Common.{◌≡◌, ℕ, List, [], ◌∷◌, refl}
use Rattle.std.specs.Prelude.{Option}
use Rattle.pass_edges_proof.specs.rule_uses.Uses.{made_by_phis}
use Rattle.ir_model.specs.declared.instr.Phi.{Phi}
use Rattle.pass_edges_proof.specs.pass_fetch.Blocks.{fetched_phis, next_after_phi}
use Rattle.pass_edges_proof.specs.pass_fetch.declared.fetch.Fetch.{Fetch}

pub fetched_phis_make : (t : List (Option Fetch)) (k : ℕ) (ps : List Phi) (before : List ℕ) → made_by_phis before (fetched_phis t k ps) ≡ made_by_phis before ps
fetched_phis_make t k [] before = refl
fetched_phis_make t k (p ∷ ps) before = fetched_phis_make t (next_after_phi t k p) ps (p.result ∷ before)
