pub mod Certificates
pub mod Reports
pub mod Lines
pub mod Readings
pub mod FirstFields
pub mod FirstReports
pub mod FirstCertificates
pub mod Laws
