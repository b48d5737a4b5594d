mod Examples
pub mod Digits
pub mod Chains
pub mod EscapeLaws
