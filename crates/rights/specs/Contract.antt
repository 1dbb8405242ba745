pub mod Places
pub mod RightsAnswer
