-- Counted devices: what is read of a reader, and what is written where a write may stop early.
use Rattle.std.specs.Prelude.{ℕ, ◌≡◌, ◌≢◌, ◌<◌, ◌+◌, List, ◌++◌, Option}
use Rattle.std.specs.Io.KnownBytes.{Appends, Consumes, IsAtEnd, Keeps}
use Rattle.lol_script.specs.declared.device.Counted.{Counted}
use Rattle.lol_script.specs.declared.device.RunFault.{RunFault}
use Rattle.lol_script.specs.declared.device.RunFault.TheVariants.{Read, Write}

abbrev pub device_of : {D : Type 0} → Counted D → D
device_of counted = counted.device

-- how many of its calls failed
abbrev pub failures_of : {D : Type 0} → Counted D → ℕ
failures_of counted = counted.failures

-- One call more failed, with this fault.
abbrev pub FailsWith : {D : Type 0} → RunFault → Counted D → Counted D → RunFault → Type 0
FailsWith wanted old new fault = (fault ≡ wanted) × (failures_of new ≡ failures_of old + 1)

-- Reading failed for want of memory, or one call more failed.
abbrev pub IsReadFault : {D : Type 0} → Counted D → Counted D → RunFault → Type 0
IsReadFault old new fault = (fault ≢ Write) × (fault ≡ Read → failures_of old < failures_of new)

-- a beginning of a text was written, and this is the rest
abbrev pub AppendsFront : Option (List ℕ) → Option (List ℕ) → List ℕ → List ℕ → Type 0
AppendsFront old new text rest = (front : List ℕ) × Appends old new front × (text ≡ front ++ rest)

-- a beginning of a text was written
abbrev pub AppendsBeginning : Option (List ℕ) → Option (List ℕ) → List ℕ → Type 0
AppendsBeginning old new text = (rest : List ℕ) × AppendsFront old new text rest

module _ {D : Type 0} (remaining : D → Option (List ℕ)) (old new : Counted D) where
  -- These bytes were read.
  abbrev pub Reads : List ℕ → Type 0
  Reads bytes = Consumes (remaining (device_of old)) (remaining (device_of new)) bytes

  -- Bytes were read up to the end, and this holds of them.
  abbrev pub ReadsToEnd : (List ℕ → Type 0) → Type 0
  ReadsToEnd holds = (bytes : List ℕ) × Reads bytes × IsAtEnd (remaining (device_of new)) × holds bytes

module _ {D : Type 0} (contents : D → Option (List ℕ)) (old new : Counted D) where
  -- This text was written, and nothing else.
  abbrev pub Writes : List ℕ → Type 0
  Writes text = Appends (contents (device_of old)) (contents (device_of new)) text

  -- A beginning of this text was written, and nothing else.
  abbrev pub WritesBeginning : List ℕ → Type 0
  WritesBeginning text = AppendsBeginning (contents (device_of old)) (contents (device_of new)) text

  -- Nothing was written.
  abbrev pub WritesNothing : Type 0
  WritesNothing = Keeps (contents (device_of old)) (contents (device_of new))
