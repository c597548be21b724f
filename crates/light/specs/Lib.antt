-- The program `light`. `Light` has what it writes for the lines of its input; `Steps` and `Writing` what its functions claim, `Hex` what
-- digits are worth.
pub mod Light
pub mod Steps
pub mod Writing
pub mod Hex
