pub mod FirstChecks
pub mod WithoutForms
