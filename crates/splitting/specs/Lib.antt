-- Lines in parts. `Fields` says what the first field is, `Letters` which of many things has a letter.
pub mod Fields
pub mod Letters
