pub mod AllocaHooks
pub mod AllocaSteps
pub mod Allocas
pub mod Memory
pub mod Renewed
pub mod Steps
pub mod There
