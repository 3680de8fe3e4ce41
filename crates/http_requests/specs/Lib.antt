pub mod HttpRoutes
