pub use Rattle.pass_elide_edges.proofs as pass_elide_edges
pub use Rattle.pass_elide_edges.proofs.pass_elide_proof as pass_elide_proof
pub use Rattle.pass_elide_runs.proofs as pass_elide_runs
pub use Rattle.pass_elide_edges.proofs.pass_elide_proof.pass_proofs as pass_proofs
pub mod Switched
pub mod Blocks
pub mod Ways
pub mod EachState
pub mod Runs
pub mod Woken
pub mod Rets
pub mod Worked
pub mod OneEnd
pub mod WorkedRets
