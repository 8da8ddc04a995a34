pub mod Cuts
pub mod Decimals
pub mod HexDigits
pub mod HexText
pub mod Ipv6Text
pub mod Joined
pub mod Ipv4Text
