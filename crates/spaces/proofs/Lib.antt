pub mod BookCopied
