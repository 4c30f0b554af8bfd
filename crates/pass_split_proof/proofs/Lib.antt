pub use Rattle.pass_proofs.proofs as pass_proofs
