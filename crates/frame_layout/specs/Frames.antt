-- The frame that holds no field but the index.
use Rattle.std.specs.Prelude.{ℕ, [], ◌∷◌, None, nat_le, if◌then◌else◌}
use Rattle.frame_layout.specs.declared.layout.FieldKind.{FieldKind}
use Rattle.frame_layout.specs.declared.layout.Layout.{Layout}

-- the index takes a byte for at most 256 suspends, else two
abbrev pub index_size : ℕ → ℕ
index_size suspends = if nat_le suspends 256 then 1 else 2

-- behind the header of 16 bytes the index alone, the size rounded up to the alignment of the header
abbrev pub index_alone : ℕ → ℕ → Layout
index_alone coroutine suspends =
    record {
      coroutine = coroutine;
      size = 24;
      align = 8;
      index = 16;
      offsets = 16 ∷ [];
      fields = record { kind = FieldKind.Index; name = None; offset = 16; size = index_size suspends } ∷ [];
    }
