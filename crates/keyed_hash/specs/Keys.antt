-- The state of a hasher that has taken some bytes. It is SipHash-1-3 that goes on from there.
use Rattle.std.specs.Prelude.{ℕ, List, fold}
use Rattle.std.specs.Hash.DefaultHasher as sip
use Rattle.std.specs.declared.hash.DefaultHasher.{DefaultHasher}
use Rattle.keyed_hash.specs.declared.state.KeyedState.{KeyedState}

-- the hasher that each of its hashers is a copy of
abbrev pub start_of : KeyedState → DefaultHasher
start_of state = state.start

-- the hasher that has taken these bytes
abbrev pub hasher_after : List ℕ → DefaultHasher
hasher_after bytes = sip.write sip.initial bytes

-- the hasher that has taken these texts, one after another
abbrev pub hasher_after_all : List (List ℕ) → DefaultHasher
hasher_after_all texts = fold sip.write sip.initial texts
