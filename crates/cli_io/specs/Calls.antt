-- What a call of a source or a sink over memory leaves of its counts.
use Rattle.std.specs.Prelude.{◌≡◌, Bool, if◌then◌else◌}
use Rattle.cli_io.specs.declared.calls.Calls.{Calls}
use Rattle.cli_io.specs.Faults.{risen}

-- one more call was made, and where it failed there is one more fault
pub record IsCounted (old new : Calls) (failed : Bool) : Type 0 where
  pub fails : new.fails ≡ old.fails
  pub made : new.made ≡ risen old.made
  pub faults : new.faults ≡ (if failed then risen old.faults else old.faults)
