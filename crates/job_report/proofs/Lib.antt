mod Zips
mod ReportLemmas
mod Spellings
