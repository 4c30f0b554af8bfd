pub use Rattle.pass_elide_runs.specs as pass_elide_runs
pub use Rattle.pass_elide_edges.specs as pass_elide_edges
pub use Rattle.pass_elide_known.specs as pass_elide_known
pub mod Lacks
