pub mod StartsLaws
pub mod StoreLaws
pub mod WordLaws
pub mod HoldLaws
pub mod FeedLaws
