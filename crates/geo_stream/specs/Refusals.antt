-- A call may be refused for a fault of what it looks at, or for want of memory. Nothing is said here of memory.
use Rattle.std.specs.Prelude.{Result, IfErr, ⊤}
use Rattle.geo_stream.specs.declared.refusal.Refusal.{Refusal}
use Rattle.geo_stream.specs.declared.refusal.Refusal.TheVariants.{Fault, NoMemory}

-- where a refusal is for a fault, this holds of the fault
abbrev pub IsForFault : {F : Type 0} → (F → Type 0) → Refusal F → Type 0
IsForFault P (Fault fault) = P fault
IsForFault P NoMemory = ⊤

-- where the call is refused for a fault, this holds of the fault
abbrev pub IfFault : {A F : Type 0} → Result A (Refusal F) → (F → Type 0) → Type 0
IfFault result P = IfErr result (IsForFault P)
