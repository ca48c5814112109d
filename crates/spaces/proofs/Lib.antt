pub mod Opens
pub mod Singles
pub mod Stand
pub mod Filterings
pub mod Bases
