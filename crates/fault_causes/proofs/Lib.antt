pub mod RejectedLaws
