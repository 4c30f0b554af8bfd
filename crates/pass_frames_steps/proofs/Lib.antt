-- What libraries below prove, for those above.
pub use Rattle.pass_frames_code.proofs.agains as agains
pub use Rattle.pass_frames_code.proofs.code as code
pub use Rattle.pass_frames_code.proofs.distanced as distanced
pub use Rattle.pass_frames_code.proofs.distances as distances
pub use Rattle.pass_frames_code.proofs.entry as entry
pub use Rattle.pass_frames_code.proofs.fetched as fetched
pub use Rattle.pass_frames_code.proofs.flow_solver as flow_solver
pub use Rattle.pass_frames_code.proofs.followed as followed
pub use Rattle.pass_frames_code.proofs.framings as framings
pub use Rattle.pass_frames_code.proofs.geps as geps
pub use Rattle.pass_frames_code.proofs.givens as givens
pub use Rattle.pass_frames_code.proofs.ir_laws as ir_laws
pub use Rattle.pass_frames_code.proofs.ir_paths as ir_paths
pub use Rattle.pass_frames_code.proofs.layers as layers
pub use Rattle.pass_frames_code.proofs.led as led
pub use Rattle.pass_frames_code.proofs.lined as lined
pub use Rattle.pass_frames_code.proofs.lines as lines
pub use Rattle.pass_frames_code.proofs.moved as moved
pub use Rattle.pass_frames_code.proofs.offsets as offsets
pub use Rattle.pass_frames_code.proofs.ordinary as ordinary
pub use Rattle.pass_frames_code.proofs.pass_kept_proof as pass_kept_proof
pub use Rattle.pass_frames_code.proofs.pass_proofs as pass_proofs
pub use Rattle.pass_frames_code.proofs.pass_renewed_proof as pass_renewed_proof
pub use Rattle.pass_frames_code.proofs.phis as phis
pub use Rattle.pass_frames_code.proofs.reached as reached
pub use Rattle.pass_frames_code.proofs.rule_laws as rule_laws
pub use Rattle.pass_frames_code.proofs.run_access_worked as run_access_worked
pub use Rattle.pass_frames_code.proofs.run_agreement as run_agreement
pub use Rattle.pass_frames_code.proofs.run_laws as run_laws
pub use Rattle.pass_frames_code.proofs.run_states as run_states
pub use Rattle.pass_frames_code.proofs.start as start
pub use Rattle.pass_frames_code.proofs.stepping as stepping
pub use Rattle.pass_frames_code.proofs.tests as tests
pub use Rattle.pass_frames_code.proofs.worked as worked
pub mod fronted
pub mod here
