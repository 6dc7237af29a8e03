mod EdgeParts
mod EventLemmas
mod Orders
mod ByNumber
