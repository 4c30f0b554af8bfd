pub use Rattle.pass_elide_proof.specs as pass_elide_proof
pub use Rattle.pass_elide_proof.specs.pass_proofs as pass_proofs
pub mod Keeping
pub mod States
pub mod WorkedFreeing
