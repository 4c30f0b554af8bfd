-- What libraries below say, for those above.
pub use Rattle.elide_shape.specs as elide_shape
pub use Rattle.elide_sites.specs as elide_sites
pub use Rattle.pass_elide.specs as pass_elide
pub use Rattle.pass_elide_kept.specs as pass_elide_kept
pub use Rattle.pass_elide_known.specs as pass_elide_known
pub use Rattle.pass_elide_edges.specs.pass_elide_proof as pass_elide_proof
pub use Rattle.pass_elide_runs.specs as pass_elide_runs
pub use Rattle.run_hooks.specs as run_hooks
pub mod Form
pub mod Ruled
pub mod Ways
pub mod Blocks
