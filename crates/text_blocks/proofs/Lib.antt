pub mod ListTurns
pub mod FlagsRead
pub mod StepsRead
pub mod AssignedRead
pub mod CallsRead
pub mod InstrsRead
pub mod TerminatorsRead
pub mod BlocksRead
