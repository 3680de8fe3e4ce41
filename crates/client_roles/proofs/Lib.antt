pub mod RoleLaws
