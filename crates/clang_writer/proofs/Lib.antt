mod Bounds
mod Lines
mod Params
