pub mod TimeLemmas
pub mod ServedLemmas
pub mod ListingLemmas
