mod Within
mod Agreeing
