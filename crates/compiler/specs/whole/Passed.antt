-- What the compiler cites of the laws of rules and passes, passed on, so that it names this crate alone.
pub use Rattle.pass_proofs.specs.rule_laws.rules.names_apart.Words.{AreFew}
