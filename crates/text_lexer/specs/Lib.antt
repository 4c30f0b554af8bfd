pub mod Bytes
pub mod Scan
pub mod Token
pub mod Kinds
pub mod Lists
pub mod Next
pub mod Tokens
pub mod Listed
