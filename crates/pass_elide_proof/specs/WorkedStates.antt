-- The homes and hidden blocks by which the worked states stand beside each other.
use Rattle.std.specs.Prelude.{ℕ, Bool, false, List, [], ◌∷◌, ◌==◌}
use Rattle.pass_proofs.specs.run_laws.embedded.Making.{whole_home}
use Rattle.pass_proofs.specs.run_laws.memory.Pointers.{Home}

-- none is hidden
abbrev pub none_hidden : ℕ → Bool
none_hidden n = false

-- the block that the coroutine allocated and hasn't begun in
abbrev pub frame_hidden : ℕ → Bool
frame_hidden n = n == 1

-- block 0 is the coroutine's cell, block 1 its frame, which lies in the caller's alloca from begin on
abbrev pub homes_before : List Home
homes_before = whole_home 1 ∷ record { block = 0; offset = 0; is_seen = false } ∷ []

abbrev pub homes_begun : List Home
homes_begun = whole_home 1 ∷ whole_home 0 ∷ []
