pub mod EdgeUses
