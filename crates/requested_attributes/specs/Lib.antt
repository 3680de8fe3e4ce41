pub mod AttributeGroups
