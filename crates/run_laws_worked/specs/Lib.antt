-- What libraries below say, for those above.
pub use Rattle.run_laws.specs.ir_base as ir_base
pub use Rattle.run_laws.specs.ir_model as ir_model
pub use Rattle.run_framed.specs as run_framed
pub use Rattle.run_laws.specs as run_laws
pub use Rattle.run_laws.specs.run_memory as run_memory
pub use Rattle.run_source.specs as run_source
pub use Rattle.run_source_tables.specs as run_source_tables
pub use Rattle.run_laws.specs.run_step as run_step
pub mod Worked
pub mod Stored
