-- Pointers and their offsets.
use Rattle.std.specs.Prelude.{ℕ, Bool, true, false, ℤ, ◌+◌, ◌%◌, ◌^◌, ◌&&◌, ◌==◌}
use Rattle.run_ints.specs.Numbers.{signed_of}
use Rattle.run_memory.specs.declared.pointer.Offset.{Offset}
use Rattle.run_memory.specs.declared.pointer.Pointer.{Pointer}

-- the offset with its sign
abbrev pub signed_offset : Offset → ℤ
signed_offset o = signed_of 64 o.bits

abbrev pub offset_of : ℕ → Offset
offset_of n = record { bits = n }

-- the offset that lies a wrapped difference further on
abbrev pub moved : Offset → ℕ → Offset
moved o by = record { bits = (o.bits + by) % 2 ^ 64 }

abbrev pub same_pointer : Pointer → Pointer → Bool
same_pointer Pointer.Null Pointer.Null = true
same_pointer (Pointer.At b o) (Pointer.At c p) = (b == c) && (o.bits == p.bits)
same_pointer (Pointer.Func f) (Pointer.Func g) = f == g
same_pointer _ _ = false
