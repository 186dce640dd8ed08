pub mod Provenance
