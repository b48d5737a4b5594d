-- What a reader must believe: the bytes of a report.
pub mod Report
-- What contracts of private functions need.
pub mod Summaries
