-- What libraries below prove, for those above.
pub use Rattle.flow_facts.proofs as flow_facts
pub use Rattle.frame_classes.proofs.frame_slots as frame_slots
pub use Rattle.pass_kept_proof.proofs.ir_paths as ir_paths
pub use Rattle.pass_kept_proof.proofs as pass_kept_proof
pub use Rattle.pass_kept_proof.proofs.run_agreement as run_agreement
pub use Rattle.pass_kept_proof.proofs.run_ints as run_ints
pub use Rattle.run_laws.proofs as run_laws
pub use Rattle.pass_kept_proof.proofs.run_source as run_source
pub use Rattle.pass_kept_proof.proofs.run_step as run_step
pub mod Muted
pub mod MutedSteps
pub mod Shown
pub mod ShownSteps
pub mod Sets
pub mod Small
pub mod Steps
pub mod Places
pub mod Ahead
pub mod Ready
pub mod Made
pub mod Steady
pub mod Left
pub mod History
pub mod SlotEnvs
pub mod Entering
pub mod EntryBlock
pub mod EnteredValues
pub mod Way
pub mod Next
pub mod Start
pub mod Carried
pub mod Used
pub mod Anew
pub mod Grown
pub mod NewSlot
pub mod NewBlock
pub mod Beginning
pub mod Chosen
pub mod Using
pub mod Reading
pub mod Stands
pub mod Ordinary
pub mod Onward
pub mod Others
pub mod Accessing
pub mod Exposing
pub mod Settled
pub mod AnewAll
pub mod Parts
pub mod Passing
pub mod Giving
pub mod Allocating
pub mod Marked
pub mod Markers
pub mod Ending
pub mod Started
pub mod Starting
pub mod Listing
pub mod NewName
pub mod Unmarked
pub mod SlotAllocas
pub mod OtherAllocas
pub mod SavePoints
pub mod Saving
pub mod Owning
pub mod Releasing
pub mod Sleeping
pub mod Alike
pub mod AlikeMarks
pub mod OtherMarkers
pub mod Dying
pub mod Finishing
pub mod Freeing
pub mod Deallocating
pub mod Closing
pub mod Promising
pub mod LateAllocas
pub mod RampSlots
pub mod Touching
pub mod TouchedEdge
pub mod Phis
pub mod Branching
pub mod Leaving
pub mod Called
pub mod Calling
pub mod Departing
pub mod GivingBack
pub mod DeadSlots
pub mod Valued
pub mod Returning
pub mod Returns
pub mod SameBranches
pub mod EndReturns
pub mod GoingTo
