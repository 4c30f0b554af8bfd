-- The operations of the memory do the same where blocks have ended into which their pointers don't lead.
pub use Rattle.run_laws.proofs.transfer.Muted.{compare_muted, copy_muted, element_muted, load_muted, muted_append, muted_change, muted_ended, muted_fresh, muted_get, muted_length, muted_result, muted_started, shown_address, store_muted}
