mod Bounds
mod Chains
mod Following
mod Lines
mod Stores
mod Values
