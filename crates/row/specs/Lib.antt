-- The occupied row of a level: its definitions, the laws of rows, and the laws that the code cites.
pub mod Row
