pub mod SystemReasons
