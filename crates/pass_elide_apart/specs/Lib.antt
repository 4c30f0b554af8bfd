pub use Rattle.pass_elide_edges.specs as pass_elide_edges
pub use Rattle.pass_elide_edges.specs.pass_elide_proof as pass_elide_proof
pub use Rattle.pass_elide_runs.specs as pass_elide_runs
pub use Rattle.pass_elide_edges.specs.pass_elide_proof.pass_proofs as pass_proofs
pub mod Behind
pub mod Rets
