pub mod ClientStanding
