-- What the compiler cites of the laws of rules and passes, passed on, so that it names this crate alone.
pub use Rattle.pass_proofs.proofs.rule_laws.rules.spelled.Text.{source_spelled}
pub use Rattle.pass_proofs.proofs.frames.numbers.Numbers.{IsBounded, given_bounded}
