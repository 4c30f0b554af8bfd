-- Parts of the bytes that are left or held, where they are told.
use Rattle.std.specs.Prelude.{◌≡◌, ◌++◌, ℕ, ◌≤◌, ◌<◌, List, length, Some, None}
use Rattle.std.specs.declared.option.Option.{Option}
use Rattle.std.specs.Io.KnownBytes.{Appends, Consumes}

-- where the bytes are told, there are more than the limit
abbrev pub HoldsMore : Option (List ℕ) → ℕ → Type 0
HoldsMore None limit = Unit {0}
HoldsMore (Some xs) limit = limit < length xs

-- where the bytes are told, there are at most as many as the limit
abbrev pub HoldsAtMost : Option (List ℕ) → ℕ → Type 0
HoldsAtMost None limit = Unit {0}
HoldsAtMost (Some xs) limit = length xs ≤ limit

-- known bytes have lost at most as many bytes of their front as the limit
abbrev pub ConsumesAtMost : Option (List ℕ) → Option (List ℕ) → ℕ → Type 0
ConsumesAtMost old new limit = (front : List ℕ) × Consumes old new front × (length front ≤ limit)

-- known bytes have grown by a prefix of these
abbrev pub AppendsPrefix : Option (List ℕ) → Option (List ℕ) → List ℕ → Type 0
AppendsPrefix old new bytes = (front rest : List ℕ) × (bytes ≡ front ++ rest) × Appends old new front
