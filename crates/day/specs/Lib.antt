pub mod Cuts
pub mod Days
pub mod Runs
pub mod Sheets
pub mod Stacks
