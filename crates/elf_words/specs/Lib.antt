pub mod Align
