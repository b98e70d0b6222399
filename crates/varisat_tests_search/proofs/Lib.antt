pub mod ReadySearches
