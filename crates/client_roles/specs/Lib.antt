pub mod RoleTable
