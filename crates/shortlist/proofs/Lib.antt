pub mod Shortlisting
