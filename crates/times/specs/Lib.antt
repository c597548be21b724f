-- The wheel's times: their definitions, and the laws of widths, quotients, slot starts and levels.
pub mod Times
