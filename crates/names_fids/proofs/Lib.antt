pub mod NotedLaws
pub mod SelvesLaws
pub mod DirentLaws
